-- The place of a part that has a number.
use Rattle.std.proofs.Common.{ℕ, List, length, ◌<◌}
use Rattle.std.proofs.lemmas.Option.{slice_get_within}
use Rattle.ts_part.specs.Facts.{Facts}
use Rattle.ts_chain.specs.declared.numbered.Numbered.{Numbered}
use Rattle.ts_chain.specs.Numbered.{IsPlaceOf}

-- it is one of the parts
pub place_within : (numbered : Numbered) (parts : List Facts) (id place : ℕ) → IsPlaceOf numbered parts id place → place < length parts
place_within numbered parts id place is = slice_get_within parts place is.part is.stands
