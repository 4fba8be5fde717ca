-- A walk over all triples of a chain, and of no parts.
use Rattle.std.proofs.Common.{◌≡◌, Bool, true, false, ◌&&◌, List, [], ◌∷◌, None, refl, sym, ap, ◌∙◌}
use Rattle.std.specs.List.{AllByRecursion}
use Rattle.std.specs.List.Sorted.{IsStrictlySortedBy}
use Rattle.ts_model.specs.Sets.{contains, retain}
use Rattle.ts_model.proofs.SetLaws.{IsStrictlySortedBy-members, contains-members, contains-retain}
use Rattle.ts_plane.specs.declared.triple.IdTriple.{IdTriple}
use Rattle.ts_plane.specs.Pattern.{fits, is_after, walk_of}
use Rattle.ts_plane.specs.Triple.{IsRising, triple_cmp}
use Rattle.ts_part.specs.Facts.{Facts}
use Rattle.ts_part.proofs.RisingLists.{filter-every}
use Rattle.ts_chain.specs.Content.{coming_in, has, stands_in, triples_of}
use Rattle.ts_chain.specs.Walks.{walked}
use Rattle.ts_rollup.specs.Rolled.{beyond, more_than}
use Rattle.ts_rollup.proofs.TriplesApart.{same_triples}

pub whole_walk : (parts : List Facts) → walked parts (record { s = None; p = None; o = None }) None ≡ triples_of parts
unfolding walk_of
whole_walk parts = filter-every (λ t. fits (record { s = None; p = None; o = None }) t && is_after None t) (triples_of parts) (each (triples_of parts))
  where
    each : (xs : List IdTriple) → AllByRecursion (λ t. (fits (record { s = None; p = None; o = None }) t && is_after None t) ≡ true) xs
    each [] = tt
    each (x ∷ xs) = (refl, each xs)

and_false : (b : Bool) → (b && false) ≡ false
and_false true = refl
and_false false = refl

-- without parts no triple stands
pub none_stands : (t : IdTriple) → has (triples_of []) t ≡ false
unfolding triples_of
none_stands t =
    sym (contains-members triple_cmp (retain (coming_in []) (stands_in [])) t)
    ∙ contains-retain triple_cmp (coming_in []) (stands_in []) t (λ x e. refl)
    ∙ and_false (contains (coming_in []) t)

pub none_rise : IsRising (triples_of [])
unfolding triples_of
none_rise = IsStrictlySortedBy-members triple_cmp (retain (coming_in []) (stands_in []))

empty_rises : IsRising []
unfolding IsStrictlySortedBy
empty_rises = tt

pub none_at_all : triples_of [] ≡ []
none_at_all = same_triples (triples_of []) [] none_rise empty_rises none_stands

-- all triples are more than none, and none is lost
pub all_gained : (parts : List Facts) → triples_of parts ≡ more_than parts []
all_gained parts = sym (filter-every (λ t. true) (triples_of parts) (each (triples_of parts))) ∙ ap (beyond (triples_of parts)) (sym none_at_all)
  where
    each : (xs : List IdTriple) → AllByRecursion (λ t. true ≡ true) xs
    each [] = tt
    each (x ∷ xs) = (refl, each xs)

pub none_lost : (parts : List Facts) → [] ≡ more_than [] parts
none_lost parts = ap (λ l. beyond l (triples_of parts)) (sym none_at_all)
