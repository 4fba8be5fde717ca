-- Worked terms, layers and bodies, on which the definitions are tried.
use Rattle.std.proofs.Common.{◌≡◌, ◌≢◌, true, ℕ, List, [], ◌∷◌, ◌++◌, codes, All, Some, None, refl, inl, inr, ap, arith, get_or}
use Rattle.std.proofs.lemmas.List.Elements.{All-cons, All-nil}
use Rattle.std.specs.Char.{IsScalar, encode_utf8}
use Rattle.hex.specs.Hex.{encode_with}
use Rattle.ts_model.specs.declared.term.TermKind.{TermKind}
use Rattle.ts_model.specs.declared.term.TermKind.TheVariants.{Node, Predicate, Value}
use Rattle.ts_model.specs.declared.signed.Sign.TheVariants.{Add, Remove}
use Rattle.ts_model.specs.declared.signed.SignedTriple.{SignedTriple}
use Rattle.ts_model.specs.Canonical.{IsCanonical}
use Rattle.ts_model.specs.Characters.{is_letter}
use Rattle.ts_model.specs.TextTriple.{TextTriple}
use Rattle.ts_model.specs.Iri.{IsIri, iri_spelling}
use Rattle.ts_model.specs.LayerText.{layer_text}
use Rattle.ts_model.specs.Literal.{string_spelling, IsFirstPart}
use Rattle.ts_model.specs.NetChange.{last_sign}

one_letter : (c : ℕ) → IsScalar c → All IsScalar (c ∷ [])
one_letter c scalar = All-cons IsScalar c [] scalar (All-nil IsScalar)

-- ---- terms

iri-of_a : iri_spelling (codes "a") ≡ codes "<a>"
unfolding encode_utf8
iri-of_a = refl

-- a space and an angle bracket are escaped, a letter past ASCII is not
iri-escapes : iri_spelling (0x20 ∷ 0xE9 ∷ 0x3E ∷ []) ≡ codes "<\\u0020" ++ 0xC3 ∷ 0xA9 ∷ [] ++ codes "\\u003E>"
unfolding encode_utf8
iri-escapes = refl

-- only the quote, the backslash, LF and CR are escaped
string-escapes : string_spelling (0x22 ∷ 0x5C ∷ 0x0A ∷ 0x0D ∷ 0x09 ∷ 0x27 ∷ []) ≡ codes "\"\\\"\\\\\\n\\r" ++ 0x09 ∷ 0x27 ∷ 0x22 ∷ []
unfolding encode_utf8
string-escapes = refl

iri_a : IsIri (codes "<a>")
unfolding encode_utf8
iri_a = record { characters = codes "a"; scalars = one_letter 97 refl; spelled = refl }

-- `<a>` is a node and a predicate, and no value
node_a : IsCanonical Node (codes "<a>")
node_a = inl iri_a

predicate_a : IsCanonical Predicate (codes "<a>")
predicate_a = iri_a

pub canonical_a : (kind : TermKind) → kind ≢ Value → IsCanonical kind (codes "<a>")
canonical_a Node other = node_a
canonical_a Predicate other = predicate_a
canonical_a Value other = absurd (other refl)

no_value_a : IsCanonical Value (codes "<a>") → ⊥
no_value_a literal = let first : 0x3C ≡ 0x22 = ap (λ l. get_or l 0 0) literal.spelled in omega (arith, first)

-- a language tag stays in upper case
tagged : IsCanonical Value (codes "\"a\"@EN")
unfolding encode_utf8
tagged = record {
  characters = codes "a";
  scalars = one_letter 97 refl;
  ending = codes "@EN";
  ends = inr (inr (record {
    tag = codes "EN";
    is_tag = (codes "EN", [], letters, All-nil _, refl);
    spelled = refl;
  }));
  spelled = refl;
} where
  letters : IsFirstPart (codes "EN")
  letters = ((λ e. cc e), All-cons (λ c. is_letter c ≡ true) 0x45 (0x4E ∷ []) refl (All-cons (λ c. is_letter c ≡ true) 0x4E [] refl (All-nil (λ c. is_letter c ≡ true))))

-- ---- layers

last_layer : layer_text 26 ≡ codes "0000001a"
unfolding encode_with
last_layer = refl

-- ---- bodies

abbrev triple : ℕ → TextTriple
triple letter = record {
  subject = record { kind = Node; spelling = 0x3C ∷ letter ∷ 0x3E ∷ [] };
  predicate = record { kind = Predicate; spelling = codes "<p>" };
  object = record { kind = Node; spelling = codes "<b>" };
}

abbrev body : List SignedTriple
body = record { sign = Add; triple = triple 0x61 } ∷ record { sign = Add; triple = triple 0x62 } ∷ record { sign = Remove; triple = triple 0x61 } ∷ []

-- the last line decides
removed_last : last_sign body (triple 0x61) ≡ Some Remove
removed_last = refl

added_once : last_sign body (triple 0x62) ≡ Some Add
added_once = refl

not_named : last_sign body (triple 0x63) ≡ None
not_named = refl
