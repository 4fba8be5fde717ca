-- Sets of triples.
use Rattle.std.proofs.Common.{◌≡◌, Bool, true, false, not, ◌&&◌, [], refl, sym, ap, ◌∙◌}
use Rattle.std.specs.List.Sorted.{IsStrictlySortedBy}
use Rattle.std.specs.FinMap.{empty}
use Rattle.ts_model.specs.Order.{triple_cmp, triple_cmp_total, triple_cmp-IsAntisymmetric}
use Rattle.ts_model.specs.Sets.{SetOf, contains, members, difference, from_list}
use Rattle.ts_model.proofs.SetLaws.{same_set, contains-from_list, contains-members}
use Rattle.ts_model.proofs.SetAlgebra.{contains-difference, contains-empty, members-from_rising}

pub members-empty : members (empty {X = Unit {0}} {R = triple_cmp}) ≡ []
unfolding IsStrictlySortedBy
members-empty = members-from_rising triple_cmp triple_cmp_total triple_cmp-IsAntisymmetric [] tt

-- a set is the set of its members
pub from_list-members : (set : SetOf triple_cmp) → from_list (members set) ≡ set
from_list-members set = same_set triple_cmp triple_cmp_total triple_cmp-IsAntisymmetric (from_list (members set)) set (λ q.
    contains-from_list triple_cmp triple_cmp_total (members set) q ∙ sym (contains-members triple_cmp set q))

and_true : (b : Bool) → (b && not false) ≡ b
and_true true = refl
and_true false = refl

pub difference-empty : (set : SetOf triple_cmp) → difference set empty ≡ set
difference-empty set = same_set triple_cmp triple_cmp_total triple_cmp-IsAntisymmetric (difference set empty) set (λ q.
    contains-difference triple_cmp triple_cmp_total triple_cmp-IsAntisymmetric set empty q
    ∙ ap (λ b. contains set q && not b) (contains-empty triple_cmp q)
    ∙ and_true (contains set q))
