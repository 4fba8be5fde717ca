-- The text of a line: a triple with its sign, or nothing.
use Rattle.std.specs.Prelude.{◌≡◌, ◌⊎◌, ℕ, ◌==◌, ◌||◌, Bool, List, [], ◌∷◌, drop}
use Rattle.std.specs.List.{prefix_len}
use Rattle.ts_model.specs.declared.term.TermKind.TheVariants.{Node, Predicate}
use Rattle.ts_model.specs.declared.signed.Sign.{Sign}
use Rattle.ts_model.specs.declared.signed.Sign.TheVariants.{Add, Remove}
use Rattle.ts_model.specs.TextTriple.{TextTriple, HasKinds}
use Rattle.ts_nt.specs.Terms.{TermAt}

-- a space or a tab
abbrev pub is_blank : ℕ → Bool
is_blank c = (c == 0x20) || (c == 0x09)

abbrev pub after_blanks : List ℕ → List ℕ
after_blanks text = drop (prefix_len is_blank text) text

-- `+`, `-`, or none, which means `+`
abbrev pub SignAt : List ℕ → Sign → List ℕ → Type 0
SignAt text sign rest =
    ((text ≡ 0x2B ∷ rest) × (sign ≡ Add)) ⊎ (((text ≡ 0x2D ∷ rest) × (sign ≡ Remove)) ⊎ ((text ≡ rest) × (sign ≡ Add)))

-- nothing, or `#` and anything
abbrev pub IsNothingOrComment : List ℕ → Type 0
IsNothingOrComment text = (text ≡ []) ⊎ ((comment : List ℕ) × (text ≡ 0x23 ∷ comment))

-- optionally a sign, then subject, predicate, object and a dot, with blanks before, between and after them
pub record IsTripleText (text : List ℕ) (sign : Sign) (triple : TextTriple) : Type 0 where
  pub kinds : HasKinds triple.subject triple.predicate triple.object
  pub after_sign : List ℕ
  pub after_subject : List ℕ
  pub after_predicate : List ℕ
  pub after_object : List ℕ
  pub after_dot : List ℕ
  pub has_sign : SignAt (after_blanks text) sign after_sign
  pub subject : TermAt Node (after_blanks after_sign) triple.subject.spelling after_subject
  pub predicate : TermAt Predicate (after_blanks after_subject) triple.predicate.spelling after_predicate
  pub object : TermAt triple.object.kind (after_blanks after_predicate) triple.object.spelling after_object
  pub dot : after_blanks after_object ≡ 0x2E ∷ after_dot
  pub ending : IsNothingOrComment (after_blanks after_dot)
