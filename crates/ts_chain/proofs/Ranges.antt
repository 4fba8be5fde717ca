-- The numbers of the parts of a chain: each part's are above those of the parts behind it.
use Rattle.std.proofs.Common.{◌≡◌, ℕ, ◌<◌, ◌≤◌, inl, inr, List, [], ◌∷◌, Contains, ◌⊎◌, refl, sym, ap, ◌∙◌, arith}
use Rattle.ts_part.specs.Facts.{Facts}
use Rattle.ts_part.specs.Loaded.{LoadedPart, part_header}
use Rattle.ts_chain.specs.declared.numbered.Numbered.{Numbered}
use Rattle.ts_chain.specs.declared.numbered.Numbered.TheVariants.{Terms, Predicates}
use Rattle.ts_chain.specs.Chain.{AreLinked, GoesOnFrom}
use Rattle.ts_chain.specs.Numbered.{before_of, facts_before, facts_up_to, total_in}
use Rattle.ts_chain.proofs.Elements.{contains_first}

pub goes_on : (numbered : Numbered) (part next : Facts) → GoesOnFrom part next → facts_before numbered part ≡ facts_up_to numbered next
goes_on Terms part next goes = goes.terms
goes_on Predicates part next goes = goes.predicates

-- as a part's header says
pub header_before : (numbered : Numbered) (part : LoadedPart) → before_of numbered (part_header part) ≡ facts_before numbered part.facts
header_before Terms part = refl
header_before Predicates part = refl

pub total_first : (numbered : Numbered) (part : Facts) (parts : List Facts) → total_in numbered (part ∷ parts) ≡ facts_up_to numbered part
total_first Terms part parts = refl
total_first Predicates part parts = refl

pub before_up_to : (numbered : Numbered) (part : Facts) → facts_before numbered part ≤ facts_up_to numbered part
before_up_to Terms part = omega arith
before_up_to Predicates part = omega arith

none_among : (part : Facts) → Contains [] part → ⊥
none_among part among = omega (arith, among.1)

-- no part has more than the chain
pub up_to_total : (numbered : Numbered) (parts : List Facts) (part : Facts) → AreLinked parts → Contains parts part → facts_up_to numbered part ≤ total_in numbered parts
up_to_total numbered [] part linked among = absurd (none_among part among)
up_to_total numbered (newest ∷ []) part linked among = by (contains_first newest [] part among)
  where
    by : (newest ≡ part) ⊎ Contains [] part → facts_up_to numbered part ≤ total_in numbered (newest ∷ [])
    by (inl is) = omega (arith, total_first numbered newest [], ap (facts_up_to numbered) is)
    by (inr later) = absurd (none_among part later)
up_to_total numbered (newest ∷ next ∷ parts) part linked among = by (contains_first newest (next ∷ parts) part among) (λ later. up_to_total numbered (next ∷ parts) part linked.1 later)
  where
    by : (newest ≡ part) ⊎ Contains (next ∷ parts) part → (Contains (next ∷ parts) part → facts_up_to numbered part ≤ total_in numbered (next ∷ parts))
        → facts_up_to numbered part ≤ total_in numbered (newest ∷ next ∷ parts)
    by (inl is) below = omega (arith, total_first numbered newest (next ∷ parts), ap (facts_up_to numbered) is)
    by (inr later) below =
        omega (arith, below later, total_first numbered newest (next ∷ parts), total_first numbered next parts, goes_on numbered newest next linked.0, before_up_to numbered newest)

-- the parts behind one have no more than come before it
pub below_before : (numbered : Numbered) (newest : Facts) (parts : List Facts) (part : Facts) → AreLinked (newest ∷ parts) → Contains parts part
    → facts_up_to numbered part ≤ facts_before numbered newest
below_before numbered newest [] part linked among = absurd (none_among part among)
below_before numbered newest (next ∷ parts) part linked among =
    omega (arith, up_to_total numbered (next ∷ parts) part linked.1 among, total_first numbered next parts, goes_on numbered newest next linked.0)

-- a number is among the new ones of one part
module _ (numbered : Numbered) (id : ℕ) (a b : Facts) (above_a : facts_before numbered a < id) (up_a : id ≤ facts_up_to numbered a)
    (above_b : facts_before numbered b < id) (up_b : id ≤ facts_up_to numbered b) where
  by : (newest : Facts) (parts : List Facts) → AreLinked (newest ∷ parts) → (newest ≡ a) ⊎ Contains parts a → (newest ≡ b) ⊎ Contains parts b
      → (Contains parts a → Contains parts b → a ≡ b) → a ≡ b
  by newest parts linked (inl is) (inl same) both = sym is ∙ same
  by newest parts linked (inl is) (inr in_b) both = absurd (omega (arith, below_before numbered newest parts b linked in_b, ap (facts_before numbered) is))
  by newest parts linked (inr in_a) (inl is) both = absurd (omega (arith, below_before numbered newest parts a linked in_a, ap (facts_before numbered) is))
  by newest parts linked (inr in_a) (inr in_b) both = both in_a in_b

  pub only_part : (parts : List Facts) → AreLinked parts → Contains parts a → Contains parts b → a ≡ b
  only_part [] linked has_a has_b = absurd (none_among a has_a)
  only_part (newest ∷ []) linked has_a has_b = by newest [] linked (contains_first newest [] a has_a) (contains_first newest [] b has_b) (λ in_a in_b. absurd (none_among a in_a))
  only_part (newest ∷ next ∷ parts) linked has_a has_b =
      by newest (next ∷ parts) linked (contains_first newest (next ∷ parts) a has_a) (contains_first newest (next ∷ parts) b has_b) (only_part (next ∷ parts) linked.1)
