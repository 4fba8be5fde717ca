-- What a walk over parts gives is what stands and fits.
use Rattle.std.proofs.Common.{◌≡◌, Bool, true, false, not, cond, ◌&&◌, ◌||◌, T, List, [], ◌∷◌, map, filter, flat_map, Option, Some, None, refl, sym, ap, ◌∙◌}
use Rattle.std.specs.Ordering.{eq_by_cmp, is_lt, on}
use Rattle.std.specs.declared.cmp.Ordering.TheVariants.{Less}
use Rattle.std.specs.List.{AllByRecursion}
use Rattle.std.specs.List.Sorted.{IsStrictlySortedBy}
use Rattle.std.specs.FinMap.{is_sorted}
use Rattle.std.specs.FinMap.Entries.{below_all}
use Rattle.std.proofs.lemmas.List.Folds.{list_any-append}
use Rattle.std.proofs.lemmas.List.Kept.{IsStrictlySortedBy-filter}
use Rattle.std.proofs.lemmas.Map.Views.{any-filter_same}
use Rattle.ts_model.specs.Sets.{from_list, retain}
use Rattle.ts_model.proofs.ListLaws.{IsStrictlySortedBy-map}
use Rattle.ts_model.proofs.SetAlgebra.{members-from_rising}
use Rattle.ts_model.proofs.SetLaws.{IsStrictlySortedBy-members, contains-from_list, contains-members, contains-retain, members_are}
use Rattle.ts_plane.specs.declared.pattern.IdPattern.{IdPattern}
use Rattle.ts_plane.specs.declared.triple.IdTriple.{IdTriple}
use Rattle.ts_plane.specs.Pattern.{fits, is_after, walk_of}
use Rattle.ts_plane.specs.Triple.{IsRising, triple_cmp}
use Rattle.ts_part.specs.Facts.{Facts}
use Rattle.ts_chain.specs.Content.{coming_in, has, stands_in, triples_of}
use Rattle.ts_chain.specs.Streams.{all_named, coming, decided}
use Rattle.ts_chain.specs.Walks.{all_walked, part_walked, walked}
use Rattle.ts_chain.proofs.Decided.{Above, Said, decided-rises, equal_is, first, found, found-above, found-append, found-decided, less_is, or_else, second, triple_cmp_total, triple_cmp-IsAntisymmetric}

-- ---- what lists have

pub same_triple : (t other : IdTriple) → eq_by_cmp triple_cmp t other ≡ true → t ≡ other
same_triple t other e = triple_cmp-IsAntisymmetric t other (equal_is _ e)

pub has-filter : (p : IdTriple → Bool) (triples : List IdTriple) (t : IdTriple) → has (filter p triples) t ≡ (p t && has triples t)
has-filter p triples t = any-filter_same (eq_by_cmp triple_cmp t) p (p t) (λ other e. ap p (sym (same_triple t other e))) triples

-- the triple fits the pattern and is greater than `after`
abbrev pub is_asked : IdPattern → Option IdTriple → IdTriple → Bool
is_asked pattern after t = fits pattern t && is_after after t

pub has-walk_of : (triples : List IdTriple) (pattern : IdPattern) (after : Option IdTriple) (t : IdTriple) → has (walk_of triples pattern after) t ≡ (is_asked pattern after t && has triples t)
unfolding walk_of
has-walk_of triples pattern after t = has-filter (is_asked pattern after) triples t

pub rising-walk_of : (triples : List IdTriple) (pattern : IdPattern) (after : Option IdTriple) → IsRising triples → IsRising (walk_of triples pattern after)
unfolding walk_of
rising-walk_of triples pattern after h = IsStrictlySortedBy-filter triple_cmp (is_asked pattern after) triples h

-- rising lists that have the same triples are one
pub rising-same : (these those : List IdTriple) → IsRising these → IsRising those → ((t : IdTriple) → has these t ≡ has those t) → these ≡ those
rising-same these those up also same =
    members_are triple_cmp triple_cmp_total triple_cmp-IsAntisymmetric (from_list those) these up (λ t. same t ∙ sym (contains-from_list triple_cmp triple_cmp_total those t))
    ∙ members-from_rising triple_cmp triple_cmp_total triple_cmp-IsAntisymmetric those also

-- ---- what stands

standing : (a r s h : Bool) → (h && s) ≡ s → ((a || h) && (a || (not r && s))) ≡ (a || (not r && s))
standing true r s h e = refl
standing false true s true e = refl
standing false true s false e = refl
standing false false s h e = e

-- what stands comes with a part
stands-comes : (parts : List Facts) (t : IdTriple) → (has (flat_map (λ part. part.additions) parts) t && stands_in parts t) ≡ stands_in parts t
stands-comes [] t = refl
stands-comes (part ∷ parts) t =
    ap (λ b. b && stands_in (part ∷ parts) t) (list_any-append (eq_by_cmp triple_cmp t) part.additions (flat_map (λ part. part.additions) parts))
    ∙ standing (has part.additions t) (has part.removals t) (stands_in parts t) (has (flat_map (λ part. part.additions) parts) t) (stands-comes parts t)

pub has-triples_of : (parts : List Facts) (t : IdTriple) → has (triples_of parts) t ≡ stands_in parts t
unfolding triples_of
has-triples_of parts t =
    sym (contains-members triple_cmp (retain (coming_in parts) (stands_in parts)) t)
    ∙ contains-retain triple_cmp (coming_in parts) (stands_in parts) t (λ other e. ap (stands_in parts) (sym (triple_cmp-IsAntisymmetric t other e)))
    ∙ ap (λ b. b && stands_in parts t) (contains-from_list triple_cmp triple_cmp_total (flat_map (λ part. part.additions) parts) t)
    ∙ stands-comes parts t

pub rising-triples_of : (parts : List Facts) → IsRising (triples_of parts)
unfolding triples_of
rising-triples_of parts = IsStrictlySortedBy-members triple_cmp (retain (coming_in parts) (stands_in parts))

-- a walk has what stands and is asked for
pub has-walked : (parts : List Facts) (pattern : IdPattern) (after : Option IdTriple) (t : IdTriple) → has (walked parts pattern after) t ≡ (is_asked pattern after t && stands_in parts t)
has-walked parts pattern after t = has-walk_of (triples_of parts) pattern after t ∙ ap (λ b. is_asked pattern after t && b) (has-triples_of parts t)

pub rising-walked : (parts : List Facts) (pattern : IdPattern) (after : Option IdTriple) → IsRising (walked parts pattern after)
rising-walked parts pattern after = rising-walk_of (triples_of parts) pattern after (rising-triples_of parts)

-- ---- what comes

abbrev pub came : Option Bool → Bool
came None = false
came (Some comes) = comes

found-named : (comes : Bool) (triples : List IdTriple) (t : IdTriple) → found t (all_named comes triples) ≡ cond (has triples t) (Some comes) None
found-named comes [] t = refl
found-named comes (x ∷ triples) t =
    elim (eq_by_cmp triple_cmp t x) as (λ b. cond b (Some comes) (found t (all_named comes triples)) ≡ cond (b || has triples t) (Some comes) None) [
      | true ↦ refl
      | false ↦ found-named comes triples t
    ]

decides : (asked a r s : Bool) (rest : Option Bool) → came rest ≡ (asked && s)
    → came (or_else (or_else (cond (asked && a) (Some true) None) (cond (asked && r) (Some false) None)) rest) ≡ (asked && (a || (not r && s)))
decides true true r s rest e = refl
decides true false true s rest e = refl
decides true false false s rest e = e
decides false a r s rest e = e

-- of the parts the newest that names a triple decides
came-walked : (pattern : IdPattern) (after : Option IdTriple) (parts : List Facts) (t : IdTriple) → came (found t (flat_map (part_walked pattern after) parts)) ≡ (is_asked pattern after t && stands_in parts t)
came-walked pattern after [] t = elim (is_asked pattern after t) as (λ b. false ≡ (b && false)) [ true ↦ refl | false ↦ refl ]
came-walked pattern after (part ∷ parts) t =
    let rest : List Said = flat_map (part_walked pattern after) parts in
    let additions = walk_of part.additions pattern after in
    let removals = walk_of part.removals pattern after in
    let said : (comes : Bool) (triples : List IdTriple) → found t (all_named comes (walk_of triples pattern after)) ≡ cond (is_asked pattern after t && has triples t) (Some comes) None =
    λ comes triples. found-named comes (walk_of triples pattern after) t ∙ ap (λ b. cond b (Some comes) None) (has-walk_of triples pattern after t) in
    ap came (found-append t (part_walked pattern after part) rest
    ∙ ap (λ o. or_else o (found t rest)) (found-append t (all_named true additions) (all_named false removals)
    ∙ (λ i. or_else (said true part.additions i) (said false part.removals i))))
    ∙ decides (is_asked pattern after t) (has part.additions t) (has part.removals t) (stands_in parts t) (found t rest) (came-walked pattern after parts t)

has-coming : (named : List Said) (t : IdTriple) → T (is_sorted triple_cmp named) → has (coming named) t ≡ came (found t named)
has-coming [] t h = refl
has-coming (x ∷ named) t h =
    let above : Above x.0 named = first (below_all triple_cmp x.0 named) _ h in
    let rest = has-coming named t (second (below_all triple_cmp x.0 named) _ h) in
    elim x.1 as (λ b. has (map (λ (e : Said). e.0) (cond b (x ∷ filter (λ (e : Said). e.1) named) (filter (λ (e : Said). e.1) named))) t ≡ came (cond (eq_by_cmp triple_cmp t x.0) (Some b) (found t named))) [
      | true ↦ elim (eq_by_cmp triple_cmp t x.0) as (λ b. (b || has (coming named) t) ≡ came (cond b (Some true) (found t named))) [ true ↦ refl | false ↦ rest ]
      | false ↦ elim (eq_by_cmp triple_cmp t x.0) as (λ b. eq_by_cmp triple_cmp t x.0 ≡ b → has (coming named) t ≡ came (cond b (Some false) (found t named))) [
        | true ↦ λ e. rest ∙ ap came (ap (λ u. found u named) (same_triple t x.0 e) ∙ found-above x.0 named above)
        | false ↦ λ e. rest
      ] refl
    ]

rising-entries : (named : List Said) → T (is_sorted triple_cmp named) → IsStrictlySortedBy (on (λ (e : Said). e.0) triple_cmp) named
unfolding IsStrictlySortedBy
rising-entries [] h = tt
rising-entries (x ∷ named) h = (above named (first (below_all triple_cmp x.0 named) _ h), rising-entries named (second (below_all triple_cmp x.0 named) _ h))
  where
    above : (others : List Said) → T (below_all triple_cmp x.0 others) → AllByRecursion (λ (e : Said). triple_cmp x.0 e.0 ≡ Less) others
    above [] h = tt
    above (y ∷ others) h = (less_is _ (first (is_lt (triple_cmp x.0 y.0)) _ h), above others (second (is_lt (triple_cmp x.0 y.0)) _ h))

rising-coming : (named : List Said) → T (is_sorted triple_cmp named) → IsRising (coming named)
rising-coming named h =
    IsStrictlySortedBy-map triple_cmp (λ (e : Said). e.0) (filter (λ (e : Said). e.1) named)
    (IsStrictlySortedBy-filter (on (λ (e : Said). e.0) triple_cmp) (λ (e : Said). e.1) named (rising-entries named h))

-- what comes of all that the parts name is what stands, as far as it is asked for
pub coming-walked : (parts : List Facts) (pattern : IdPattern) (after : Option IdTriple) → coming (all_walked parts pattern after) ≡ walked parts pattern after
coming-walked parts pattern after =
    let named : List Said = flat_map (part_walked pattern after) parts in
    rising-same (coming (decided named)) (walked parts pattern after) (rising-coming (decided named) (decided-rises named)) (rising-walked parts pattern after) (λ t.
    has-coming (decided named) t (decided-rises named) ∙ ap came (found-decided t named) ∙ came-walked pattern after parts t ∙ sym (has-walked parts pattern after t))
