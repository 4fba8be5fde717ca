-- What is found of one production, seen as another.
use Rattle.std.proofs.Common.{◌≡◌, ℕ, List, Option, Some, None, subst}
use Rattle.std.specs.Option.{option_map}
use Rattle.ts_nt.specs.Reading.{Finds}

pub Finds-as : (A B : List ℕ → List ℕ → List ℕ → Type 0) (text text' old new : List ℕ) (found : Option (List ℕ))
    → ((spelling rest : List ℕ) → A text spelling rest → B text' spelling rest) → ((spelling rest : List ℕ) → B text' spelling rest → A text spelling rest)
    → Finds A text old new found → Finds B text' old new found
Finds-as A B text text' old new (Some rest) there back h = (h.0, there h.0 rest h.1, h.2)
Finds-as A B text text' old new None there back h = λ spelling rest at. h spelling rest (back spelling rest at)

-- where it is known what was found
pub Finds-at : {X : Type 0} (h : X → List ℕ) (A : List ℕ → List ℕ → List ℕ → Type 0) (text old new : List ℕ) (found known : Option X)
    → found ≡ known → Finds A text old new (option_map h found) → Finds A text old new (option_map h known)
Finds-at h A text old new found known same = subst (λ f. Finds A text old new (option_map h f)) same
