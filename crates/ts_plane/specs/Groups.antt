-- A list whose neighbours with one key make a group.
use Rattle.std.specs.Prelude.{◌≡◌, ◌==◌, Bool, true, false, not, List, [], ◌∷◌, refl}

-- the marks of the elements from k on: 1 where the next has another key, or where there is no next
unfoldable pub marks_from : {K : Type 0} → (K → K → Bool) → K → List K → List Bool
marks_from same k [] = true ∷ []
marks_from same k (x ∷ xs) = not (same x k) ∷ marks_from same x xs

-- for each element, whether it is the last of its group
unfoldable pub last_marks : {K : Type 0} → (K → K → Bool) → List K → List Bool
last_marks same [] = []
last_marks same (k ∷ xs) = marks_from same k xs

pub marks_of_two_groups : last_marks (λ a b. a == b) (3 ∷ 3 ∷ 4 ∷ []) ≡ false ∷ true ∷ true ∷ []
unfolding last_marks marks_from
marks_of_two_groups = refl
