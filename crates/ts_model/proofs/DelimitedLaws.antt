-- Characters up to the delimiter that ends them: one step over a character, and the end.
use Rattle.std.specs.Prelude.{◌≡◌, ◌≢◌, ◌↔◌, ℕ, ◌<◌, List, [], ◌∷◌, ◌++◌, flat_map, encode_utf8, All, Option, None, Some, Bool, false, IsTrue, length, ◌==◌}
use Rattle.std.specs.Char.{IsScalar}
use Rattle.std.proofs.Common.{sym, ap, ◌∙◌, refl, append_assoc, true≢false}
use Rattle.std.proofs.lemmas.Bool.{eqb-true}
use Rattle.std.proofs.lemmas.List.{nil_from_length}
use Rattle.std.proofs.lemmas.List.Elements.{All-cons, All-nil, All-tail}
use Rattle.std.proofs.lemmas.Str.{encode_same, encode_ascii}
use Rattle.ts_model.specs.Delimited.{EndsAt}

pub none_is_some : {X : Type 0} (x : X) → ◌≡◌ {A = Option X} None (Some x) → ⊥
none_is_some x e = cc

-- a test that answered false, where the triple does not hold
pub answers_false : {P : Type 0} → (P → ⊥) → IsTrue false ↔ P
answers_false fails = (λ e. absurd (true≢false (sym e)), λ p. absurd (fails p))

-- a test that is another's
pub answers_same : {P : Type 0} → (a b : Bool) → a ≡ b → IsTrue b ↔ P → IsTrue a ↔ P
answers_same a b same both = (λ e. both.0 (sym same ∙ e), λ p. same ∙ both.1 p)

pub same_some : {X : Type 0} (x y : X) → ◌≡◌ {A = Option X} (Some x) (Some y) → x ≡ y
same_some x y e = cc

pub is_empty_text : (text : List ℕ) (answer : Bool) → answer ≡ (length text == 0) → IsTrue answer ↔ (text ≡ [])
is_empty_text text answer is = (λ e. nil_from_length text (eqb-true _ _ (sym is ∙ e)), λ none. is ∙ ap (λ l. length l == 0) none)

pub is_empty_rest : (rest : List ℕ) (answer : Bool) → answer ≡ (length rest == 0) → IsTrue answer ↔ ◌≡◌ {A = Option (List ℕ)} (Some rest) (Some [])
is_empty_rest rest answer is =
    let both = is_empty_text rest answer is in
    (λ e. ap Some (both.0 e), λ e. both.1 (same_some rest [] e))

pub turned : {P Q : Type 0} → P ↔ Q → Q ↔ P
turned both = (both.1, both.0)

pub followed : {P Q R : Type 0} → P ↔ Q → Q ↔ R → P ↔ R
followed first second = (λ p. second.0 (first.0 p), λ r. first.1 (second.1 r))

-- a text that begins with a character and with a byte of ASCII
pub first_is_byte : (text behind rest : List ℕ) (first delimiter : ℕ) → text ≡ encode_utf8 first ++ behind → delimiter < 128 → text ≡ delimiter ∷ rest → (first ≡ delimiter) × (behind ≡ rest)
first_is_byte text behind rest first delimiter begins small is =
    encode_same first delimiter behind rest (sym begins ∙ is ∙ ap (λ l. l ++ rest) (sym (encode_ascii delimiter small)))

-- a text begins with what is written of one character at most, and not with the delimiter then
pub record IsCode (written : ℕ → List ℕ) (delimiter : ℕ) : Type 0 where
  pub one : (c d : ℕ) (r t : List ℕ) → written c ++ r ≡ written d ++ t → (c ≡ d) × (r ≡ t)
  pub apart : (c : ℕ) (r t : List ℕ) → written c ++ r ≢ delimiter ∷ t

module _ (written : ℕ → List ℕ) (delimiter : ℕ) where
  more : (text left rest : List ℕ) (c : ℕ) → IsScalar c → text ≡ written c ++ left → EndsAt written delimiter left rest → EndsAt written delimiter text rest
  more text left rest c scalar begins ends = record {
    characters = c ∷ ends.characters;
    scalars = All-cons IsScalar c ends.characters scalar ends.scalars;
    spelled = begins ∙ ap (λ l. written c ++ l) ends.spelled ∙ sym (append_assoc (written c) (flat_map written ends.characters) (delimiter ∷ rest));
  }

  less : IsCode written delimiter → (text left rest characters : List ℕ) (c : ℕ) → text ≡ written c ++ left → All IsScalar characters
      → text ≡ flat_map written characters ++ delimiter ∷ rest → EndsAt written delimiter left rest
  less code text left rest [] c begins scalars spelled = absurd (code.apart c left rest (sym begins ∙ spelled))
  less code text left rest (d ∷ ds) c begins scalars spelled =
      let same = code.one c d left (flat_map written ds ++ delimiter ∷ rest) (sym begins ∙ spelled ∙ append_assoc (written d) (flat_map written ds) (delimiter ∷ rest)) in
      record { characters = ds; scalars = All-tail IsScalar d ds scalars; spelled = same.1 }

  -- behind one character the text ends as the whole does
  pub EndsAt-step : IsCode written delimiter → (text left rest : List ℕ) (c : ℕ) → IsScalar c → text ≡ written c ++ left
      → EndsAt written delimiter text rest ↔ EndsAt written delimiter left rest
  EndsAt-step code text left rest c scalar begins =
      (λ ends. less code text left rest ends.characters c begins ends.scalars ends.spelled, more text left rest c scalar begins)

  at_delimiter : (text rest characters : List ℕ) → ((c : ℕ) (r : List ℕ) → text ≢ written c ++ r)
      → text ≡ flat_map written characters ++ delimiter ∷ rest → text ≡ delimiter ∷ rest
  at_delimiter text rest [] none spelled = spelled
  at_delimiter text rest (d ∷ ds) none spelled = absurd (none d _ (spelled ∙ append_assoc (written d) (flat_map written ds) (delimiter ∷ rest)))

  -- where no character stands, the delimiter does
  pub EndsAt-delimiter : (text rest : List ℕ) → ((c : ℕ) (r : List ℕ) → text ≢ written c ++ r) → EndsAt written delimiter text rest ↔ (text ≡ delimiter ∷ rest)
  EndsAt-delimiter text rest none =
      (λ ends. at_delimiter text rest ends.characters none ends.spelled, λ is. record { characters = []; scalars = All-nil IsScalar; spelled = is })

  one_end : IsCode written delimiter → (cs ds r t : List ℕ) → flat_map written cs ++ delimiter ∷ r ≡ flat_map written ds ++ delimiter ∷ t → cs ≡ ds
  one_end code [] [] r t e = refl
  one_end code [] (d ∷ ds) r t e = absurd (code.apart d _ r (sym (append_assoc (written d) (flat_map written ds) (delimiter ∷ t)) ∙ sym e))
  one_end code (c ∷ cs) [] r t e = absurd (code.apart c _ t (sym (append_assoc (written c) (flat_map written cs) (delimiter ∷ r)) ∙ e))
  one_end code (c ∷ cs) (d ∷ ds) r t e =
      let same = code.one c d _ _ (sym (append_assoc (written c) (flat_map written cs) (delimiter ∷ r)) ∙ e ∙ append_assoc (written d) (flat_map written ds) (delimiter ∷ t)) in
      λ i. same.0 i ∷ one_end code cs ds r t same.1 i

  -- what is written up to the delimiter writes one list of characters
  pub same_characters : IsCode written delimiter → (cs ds r t : List ℕ) → flat_map written cs ++ delimiter ∷ r ≡ flat_map written ds ++ delimiter ∷ t → cs ≡ ds
  same_characters = one_end
