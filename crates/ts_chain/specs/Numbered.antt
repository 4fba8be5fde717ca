-- The numbers before those of a part: of its nodes and values, or of its predicates.
use Rattle.std.specs.Prelude.{◌≡◌, ℕ, ◌<◌, ◌≤◌, List, slice_get, Contains, Some}
use Rattle.ts_part.specs.declared.header.Header.{Header}
use Rattle.ts_part.specs.Facts.{Facts, all_terms, all_predicates}
use Rattle.ts_chain.specs.declared.numbered.Numbered.{Numbered}
use Rattle.ts_chain.specs.declared.numbered.Numbered.TheVariants.{Terms, Predicates}
use Rattle.ts_chain.specs.Chain.{terms_in, predicates_in}

abbrev pub before_of : Numbered → Header → ℕ
before_of Terms header = header.terms_before
before_of Predicates header = header.predicates_before

abbrev pub facts_before : Numbered → Facts → ℕ
facts_before Terms part = part.terms_before
facts_before Predicates part = part.predicates_before

abbrev pub facts_up_to : Numbered → Facts → ℕ
facts_up_to Terms part = all_terms part
facts_up_to Predicates part = all_predicates part

abbrev pub total_in : Numbered → List Facts → ℕ
total_in Terms parts = terms_in parts
total_in Predicates parts = predicates_in parts

-- the part at the place has the number among its new ones
pub record IsPlaceOf (numbered : Numbered) (parts : List Facts) (id place : ℕ) : Type 0 where
  pub part : Facts
  pub stands : slice_get parts place ≡ Some part
  pub above : facts_before numbered part < id
  pub within : id ≤ facts_up_to numbered part

-- a part of the chain has it among its new ones
pub record IsPartOf (numbered : Numbered) (parts : List Facts) (id : ℕ) (part : Facts) : Type 0 where
  pub among : Contains parts part
  pub above : facts_before numbered part < id
  pub within : id ≤ facts_up_to numbered part
