-- How many triples a layer has: as many as come with its parts, less those that go.
use Rattle.std.proofs.Common.{◌≡◌, ℕ, ◌+◌, ◌-◌, Bool, true, false, not, ◌&&◌, ◌||◌, List, [], ◌∷◌, length, map, Option, None, Some, refl, sym, ap, ◌∙◌, arith}
use Rattle.std.specs.List.{count_by, sum}
use Rattle.std.proofs.lemmas.Bool.{or_left}
use Rattle.std.proofs.lemmas.List.{length-map}
use Rattle.std.proofs.lemmas.List.Sums.{sum-map, sum_by-cons}
use Rattle.ts_model.specs.TextTriple.{TextTriple}
use Rattle.ts_model.specs.Order.{triple_cmp, triple_cmp_total, triple_cmp-IsAntisymmetric}
use Rattle.ts_model.specs.Sets.{SetOf, contains, difference, members, size, union}
use Rattle.ts_model.specs.History.{History, IsWellKept, content_at, content_at_parent}
use Rattle.ts_model.specs.Listing.{in_birth_order}
use Rattle.ts_model.proofs.SetAlgebra.{contains-difference, contains-union}
use Rattle.ts_model.proofs.SetLaws.{same_set}
use Rattle.ts_model.proofs.TripleSets.{members-empty}
use Rattle.ts_part.specs.Facts.{Facts}
use Rattle.ts_part.specs.Numbers.{id_triple, id_triples}
use Rattle.ts_part.specs.Step.{gained, lost}
use Rattle.ts_part.proofs.IdOrder.{only_order}
use Rattle.ts_part.proofs.Ranks.{count-all, count-moved, each_among}
use Rattle.ts_part.proofs.Subsets.{count-parts}
use Rattle.ts_chain.specs.Content.{come_count, go_count}
use Rattle.ts_chain.specs.Stands.{AreStepsTo, StandsFor}

abbrev any : TextTriple → Bool
any q = true

all_any : (xs : List TextTriple) → count_by any xs ≡ length xs
all_any xs = count-all any xs (each_among triple_cmp triple_cmp_total (λ q. any q ≡ true) xs (λ q is. refl))

-- the triples of two sets are those of the one and what the other has more
union_size : (a b : SetOf triple_cmp) → size (union a b) ≡ size a + size (difference b a)
union_size a b =
    sym (all_any (members (union a b)))
    ∙ count-parts triple_cmp triple_cmp_total triple_cmp-IsAntisymmetric (union a b) a (λ q there. contains-union triple_cmp triple_cmp_total a b q ∙ or_left (contains a q) (contains b q) there) any
    ∙ (λ i. all_any (members a) i + all_any (members (more i)) i)
  where
    rest : (x y : Bool) → ((x || y) && not x) ≡ (y && not x)
    rest true true = refl
    rest true false = refl
    rest false true = refl
    rest false false = refl

    more : difference (union a b) a ≡ difference b a
    more = same_set triple_cmp triple_cmp_total triple_cmp-IsAntisymmetric (difference (union a b) a) (difference b a) (λ q.
        contains-difference triple_cmp triple_cmp_total triple_cmp-IsAntisymmetric (union a b) a q
        ∙ ap (λ x. x && not (contains a q)) (contains-union triple_cmp triple_cmp_total a b q)
        ∙ rest (contains a q) (contains b q)
        ∙ sym (contains-difference triple_cmp triple_cmp_total triple_cmp-IsAntisymmetric b a q))

turned : (a b : SetOf triple_cmp) → union a b ≡ union b a
turned a b = same_set triple_cmp triple_cmp_total triple_cmp-IsAntisymmetric (union a b) (union b a) (λ q.
    contains-union triple_cmp triple_cmp_total a b q ∙ either (contains a q) (contains b q) ∙ sym (contains-union triple_cmp triple_cmp_total b a q))
  where
    either : (x y : Bool) → (x || y) ≡ (y || x)
    either true true = refl
    either true false = refl
    either false true = refl
    either false false = refl

-- what one has more and the other has more
two_sizes : (a b : SetOf triple_cmp) → size a + size (difference b a) ≡ size b + size (difference a b)
two_sizes a b = sym (union_size a b) ∙ ap size (turned a b) ∙ union_size b a

sum_over : (f : Facts → ℕ) (part : Facts) (parts : List Facts) → sum (map f (part ∷ parts)) ≡ f part + sum (map f parts)
sum_over f part parts = sum-map f (part ∷ parts) ∙ sum_by-cons f part parts ∙ ap (λ n. f part + n) (sym (sum-map f parts))

module _ (history : History) (kept : IsWellKept history) where
  -- as many numbers as triples
  pub length-id_triples : (k : ℕ) (set : SetOf triple_cmp) → length (id_triples history k set) ≡ size set
  unfolding id_triples
  length-id_triples k set =
      length-map (in_birth_order history k set) (id_triple history k)
      ∙ sym (all_any (in_birth_order history k set))
      ∙ count-moved any (members set) (in_birth_order history k set) (only_order history kept k set)
      ∙ all_any (members set)

  come_less_go : (parts : List Facts) (at : Option ℕ) → AreStepsTo history at parts → size (content_at_parent history at) + go_count parts ≡ come_count parts
  come_less_go [] None steps = ap (λ l. length l + 0) members-empty ∙ omega arith
  come_less_go [] (Some k) steps = absurd steps
  come_less_go (part ∷ parts) None steps = absurd steps
  come_less_go (part ∷ parts) (Some k) steps =
      let below = come_less_go parts part.parent steps.1 in
      let comes : length part.additions ≡ size (gained history part.parent k) = ap length steps.0.step.additions ∙ length-id_triples k (gained history part.parent k) in
      let goes : length part.removals ≡ size (lost history part.parent k) = ap length steps.0.step.removals ∙ length-id_triples k (lost history part.parent k) in
      let come : come_count (part ∷ parts) ≡ length part.additions + come_count parts = sum_over (λ part. length part.additions) part parts in
      let go : go_count (part ∷ parts) ≡ length part.removals + go_count parts = sum_over (λ part. length part.removals) part parts in
      let sizes = two_sizes (content_at history k) (content_at_parent history part.parent) in
      omega arith

pub content_size : (history : History) (k : ℕ) (parts : List Facts) → StandsFor parts history k → size (content_at history k) ≡ come_count parts - go_count parts
content_size history k parts stands =
    let is = come_less_go history stands.kept parts (Some k) stands.steps in
    omega arith
