-- No line feed stands in the line of a triple before its end.
use Rattle.std.proofs.Common.{◌≡◌, ◌≢◌, ℕ, ◌+◌, ◌/◌, ◌%◌, ◌≤◌, Bool, true, false, cond, ◌==◌, ◌||◌, List, [], ◌∷◌, ◌++◌, All, IsTrue, flat_map, encode_utf8_all, refl, sym, ap, ◌∙◌, subst, true≢false, inl, inr, arith, append_assoc}
use Rattle.std.specs.Char.{encode_utf8}
use Rattle.std.proofs.lemmas.Bool.{cases_Bool}
use Rattle.std.proofs.lemmas.Bool.Decides.{nat_tests}
use Rattle.std.proofs.lemmas.List.Elements.{All-nil, All-cons, All-append, All-head, All-tail, All-weaker}
use Rattle.ts_model.specs.declared.term.TermKind.{TermKind}
use Rattle.ts_model.specs.declared.term.TermKind.TheVariants.{Node, Predicate, Value}
use Rattle.ts_model.specs.Characters.{is_letter, is_digit, is_iri_character}
use Rattle.ts_model.specs.Iri.{upper_digit, iri_escape, iri_character, iri_spelling, IsIri}
use Rattle.ts_model.specs.BlankLabel.{is_label_character, IsLabel}
use Rattle.ts_model.specs.Literal.{string_character, string_spelling, IsTag, IsEnding}
use Rattle.ts_model.specs.Canonical.{IsCanonical}
use Rattle.ts_model.specs.TextTriple.{TextTriple, IsTriple}
use Rattle.ts_model.proofs.IriLaws.{direct_written, escape_written}
use Rattle.ts_model.proofs.LabelFronts.{label_in_label}
use Rattle.ts_model.proofs.TagFronts.{tag_in_tag}
use Rattle.ts_nt.specs.TripleLine.{triple_line}
use Rattle.ts_plain.specs.PlainReading.{HasNoEnd}

abbrev NotEnd : ℕ → Type 0
NotEnd byte = byte ≢ 0x0A

-- the same as a record, from which a text can be inferred
record NoEnd (text : List ℕ) : Type 0 where
  pub all : HasNoEnd text

none : NoEnd []
none = record { all = All-nil NotEnd }

more : {bytes : List ℕ} (byte : ℕ) → NotEnd byte → NoEnd bytes → NoEnd (byte ∷ bytes)
more {bytes} byte h rest = record { all = All-cons NotEnd byte bytes h rest.all }

joined : {text behind : List ℕ} → NoEnd text → NoEnd behind → NoEnd (text ++ behind)
joined {text} {behind} h k = record { all = All-append NotEnd text behind h.all k.all }

picked : (b : Bool) {x y : List ℕ} → NoEnd x → NoEnd y → NoEnd (cond b x y)
picked b {x} {y} h k = elim b as (λ v. NoEnd (cond v x y)) [ true ↦ h | false ↦ k ]

same : {text other : List ℕ} → text ≡ other → NoEnd other → NoEnd text
same e h = subst NoEnd (sym e) h

-- ---- bytes and characters

high : (byte : ℕ) → 128 ≤ byte → NotEnd byte
high byte h e = omega arith

-- a byte that is written out
mark : {bytes : List ℕ} (byte : ℕ) → (byte == 0x0A) ≡ false → NoEnd bytes → NoEnd (byte ∷ bytes)
mark byte h rest = more byte (λ e. true≢false (sym (ap (λ b. b == 0x0A) e) ∙ h)) rest

last : (c : ℕ) → NotEnd (128 + c % 64)
last c = high (128 + c % 64) (omega arith)

encoded : (c : ℕ) → NotEnd c → NoEnd (encode_utf8 c)
unfolding encode_utf8
encoded c h =
    picked _ (more c h none)
    (picked _ (more (192 + c / 64) (high (192 + c / 64) (omega arith)) (more _ (last c) none))
    (picked _ (more (224 + c / 4096) (high (224 + c / 4096) (omega arith)) (more _ (last (c / 64)) (more _ (last c) none)))
    (more (240 + c / 262144) (high (240 + c / 262144) (omega arith)) (more _ (last (c / 4096)) (more _ (last (c / 64)) (more _ (last c) none))))))

all_encoded : (cs : List ℕ) → HasNoEnd cs → NoEnd (encode_utf8_all cs)
all_encoded [] h = none
all_encoded (c ∷ cs) h = joined (encoded c (All-head NotEnd c cs h)) (all_encoded cs (All-tail NotEnd c cs h))

each : (f : ℕ → List ℕ) → ((c : ℕ) → NoEnd (f c)) → (cs : List ℕ) → NoEnd (flat_map f cs)
each f h [] = none
each f h (c ∷ cs) = joined (h c) (each f h cs)

-- a class of characters without the line feed
outside : (p : ℕ → Bool) → p 0x0A ≡ false → (c : ℕ) → IsTrue (p c) → NotEnd c
outside p lacks c h e = true≢false (sym h ∙ ap p e ∙ lacks)

class : (p : ℕ → Bool) → p 0x0A ≡ false → (text : List ℕ) → All (λ c. IsTrue (p c)) text → NoEnd text
class p lacks text h = record { all = All-weaker (λ c. IsTrue (p c)) NotEnd (outside p lacks) text h }

-- ---- terms

upper : (d : ℕ) → NotEnd (upper_digit d)
upper d e = grind (arith, nat_tests)

escaped : (c : ℕ) → NoEnd (iri_escape c)
escaped c = mark 0x5C refl (mark 0x75 refl (mark 0x30 refl (mark 0x30 refl (more _ (upper (c / 16)) (more _ (upper (c % 16)) none)))))

iri_character_ends : (c : ℕ) → NoEnd (iri_character c)
iri_character_ends c = elim (cases_Bool (is_iri_character c)) [
  | inl direct ↦ same (direct_written c direct) (encoded c (outside is_iri_character refl c direct))
  | inr other ↦ same (escape_written c other) (escaped c)
]

iri_ends : (characters : List ℕ) → NoEnd (iri_spelling characters)
iri_ends characters = mark 0x3C refl (joined (each iri_character iri_character_ends characters) (mark 0x3E refl none))

string_character_ends : (c : ℕ) → NoEnd (string_character c)
string_character_ends c =
    picked _ (mark 0x5C refl (mark 0x22 refl none))
    (picked _ (mark 0x5C refl (mark 0x5C refl none))
    (elim (c == 0x0A) as (λ b. (c == 0x0A) ≡ b → NoEnd (cond b (0x5C ∷ 0x6E ∷ []) (cond (c == 0x0D) (0x5C ∷ 0x72 ∷ []) (encode_utf8 c)))) [
      | true ↦ λ is. mark 0x5C refl (mark 0x6E refl none)
      | false ↦ λ is. picked _ (mark 0x5C refl (mark 0x72 refl none)) (encoded c (λ e. true≢false (sym (ap (λ b. b == 0x0A) e) ∙ is)))
    ] refl))

string_ends : (characters : List ℕ) → NoEnd (string_spelling characters)
string_ends characters = mark 0x22 refl (joined (each string_character string_character_ends characters) (mark 0x22 refl none))

tag_ends : (tag : List ℕ) → IsTag tag → NoEnd tag
tag_ends tag is = class (λ c. is_letter c || is_digit c || (c == 0x2D)) refl tag (tag_in_tag tag is)

ending_ends : (ending : List ℕ) → IsEnding ending → NoEnd ending
ending_ends ending (inl empty) = same empty none
ending_ends ending (inr (inl typed)) = same typed.spelled (mark 0x5E refl (mark 0x5E refl (iri_ends typed.characters)))
ending_ends ending (inr (inr tagged)) =
    same tagged.spelled (mark 0x40 refl (tag_ends tagged.tag tagged.is_tag))

label_ends : (label : List ℕ) → IsLabel label → NoEnd label
label_ends label is = class is_label_character refl label (label_in_label label is)

iri_spelled : (spelling : List ℕ) → IsIri spelling → NoEnd spelling
iri_spelled spelling iri = same iri.spelled (iri_ends iri.characters)

canonical_ends : (kind : TermKind) (spelling : List ℕ) → IsCanonical kind spelling → NoEnd spelling
canonical_ends Node spelling (inl iri) = iri_spelled spelling iri
canonical_ends Node spelling (inr blank) =
    same blank.spelled (mark 0x5F refl (mark 0x3A refl (all_encoded blank.label (label_ends blank.label blank.is_label).all)))
canonical_ends Predicate spelling iri = iri_spelled spelling iri
canonical_ends Value spelling literal = same literal.spelled (joined (string_ends literal.characters) (ending_ends literal.ending literal.ends))

-- ---- lines

-- the line, without its end
pub line_text : TextTriple → List ℕ
line_text triple = triple.subject.spelling ++ 0x20 ∷ (triple.predicate.spelling ++ 0x20 ∷ (triple.object.spelling ++ 0x20 ∷ 0x2E ∷ []))

pub line_ends : (triple : TextTriple) → triple_line triple ≡ line_text triple ++ 0x0A ∷ []
unfolding line_text
line_ends triple = simp append_assoc

pub text_has_no_end : (triple : TextTriple) → IsTriple triple → HasNoEnd (line_text triple)
unfolding line_text
text_has_no_end triple is_triple =
    let subject = canonical_ends triple.subject.kind triple.subject.spelling is_triple.1.0 in
    let predicate = canonical_ends triple.predicate.kind triple.predicate.spelling is_triple.2.0 in
    let object = canonical_ends triple.object.kind triple.object.spelling is_triple.3.0 in
    let whole = joined subject (mark 0x20 refl (joined predicate (mark 0x20 refl (joined object (mark 0x20 refl (mark 0x2E refl none)))))) in
    whole.all
