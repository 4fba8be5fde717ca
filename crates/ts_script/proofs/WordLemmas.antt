-- What a word names.
use Rattle.std.proofs.Common.{◌≡◌, ◌≢◌, ◌<◌, ◌^◌, arith, ℕ, List, ◌∷◌, drop, false, true≢false, sym, ◌∙◌, ap, subst}
use Rattle.std.specs.Prelude.{decimal, bytes_eq, MatchOption, Option, None, Some, Result, Ok}
use Rattle.std.specs.Borrow.{Bor}
use Rattle.std.proofs.lemmas.Fmt.{decimal_injective}
use Rattle.std.proofs.lemmas.Slice.Eq.{bytes_eq-Decides}
use Rattle.ts_model.specs.Names.{IsLabelName}
use Rattle.ts_script.specs.Words.{IsCountWord, IsLayerWord, IsRefWord, IsVersionWord}
use Rattle.ts_script.specs.declared.command.LayerRef.{LayerRef}
use Rattle.ts_script.specs.declared.command.Ref.{Ref}
use Rattle.ts_script.specs.declared.command.Ref.TheVariants.{Layer, Label}
use Rattle.ts_script.proofs.HeadLaws.{at_is_no_layer}

pub one_number : {E : Type 0} (r : Result ℕ E) (a b : ℕ) → r ≡ Ok a → r ≡ Ok b → a ≡ b
one_number r a b one other = cc

-- a text that is not the word is not its number's
pub other_text : (text word : List ℕ) (read version : ℕ) → text ≡ decimal read → word ≡ decimal version → read ≡ version → bytes_eq text word ≡ false → ⊥
other_text text word read version is are same differ =
    let equal : text ≡ word = is ∙ ap decimal same ∙ sym are in
    true≢false (sym ((bytes_eq-Decides text word).1 equal) ∙ differ)

-- a number that is spelled is one number
pub count_same : (word : List ℕ) (n m : ℕ) → IsVersionWord word n → IsCountWord word m → m ≡ n
count_same word n m is are =
    let below : m < 2 ^ 64 = (let most = are.1 in omega (arith, most)) in
    decimal_injective m n below is.0 (sym are.2 ∙ is.1)

-- ---- the word of a label or a layer

abbrev StartsAt : List ℕ → Option (Bor (List ℕ)) → Type 0
StartsAt word r = MatchOption r ((rest : List ℕ) → word ≢ 64 ∷ rest) (λ x. word ≡ 64 ∷ x.now)

behind_at : (word : List ℕ) (r : Option (Bor (List ℕ))) (name : Bor (List ℕ)) → StartsAt word r → r ≡ Some name → word ≡ 64 ∷ name.now
behind_at word r name starts is = subst (λ (o : Option (Bor (List ℕ))). StartsAt word o) is starts

no_at : (word : List ℕ) (r : Option (Bor (List ℕ))) → StartsAt word r → r ≡ None → (rest : List ℕ) → word ≢ 64 ∷ rest
no_at word r starts is = subst (λ (o : Option (Bor (List ℕ))). StartsAt word o) is starts

pub no_label_word : (word : List ℕ) (r : Option (Bor (List ℕ))) (name : Bor (List ℕ)) → StartsAt word r → r ≡ Some name → (IsLabelName name.now → ⊥)
    → (at : Ref) → IsRefWord word at → ⊥
no_label_word word r name starts is none (Layer layer) of = at_is_no_layer word name.now layer (behind_at word r name starts is) of
no_label_word word r name starts is none (Label label) of =
    let same : label ≡ name.now = ap (λ (w : List ℕ). drop 1 w) (sym of.0 ∙ behind_at word r name starts is) in
    none (subst IsLabelName same of.1)

pub no_layer_word : (word : List ℕ) (r : Option (Bor (List ℕ))) → StartsAt word r → r ≡ None → ((layer : LayerRef) → IsLayerWord word layer → ⊥)
    → (at : Ref) → IsRefWord word at → ⊥
no_layer_word word r starts is none (Layer layer) of = none layer of
no_layer_word word r starts is none (Label label) of = no_at word r starts is label of.0
