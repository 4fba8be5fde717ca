use Rattle.std.specs.Prelude.{◌≡◌, ℕ, ◌-◌, Bool, false, List, length, Option, Some}
use Rattle.ts_front.specs.Shared.{text_at}
use Rattle.ts_front.specs.Dictionary.{Rising, entries_bytes, block_starts}
use Rattle.ts_front.specs.Reading.{texts_in}

-- what a builder holds of the texts pushed: the places of the blocks, the entries' bytes and the last text
pub record Holds (starts : Option (List ℕ)) (body last : List ℕ) (count : ℕ) (texts : List (List ℕ)) : Type 0 where
  pub counted : length texts ≡ count
  pub rising : Rising texts
  pub starts_are : starts ≡ Some (block_starts texts)
  pub spelled : body ≡ entries_bytes texts (length texts)
  pub last_is : last ≡ text_at texts (length texts - 1)

-- a builder that has found memory so far holds the texts that its bytes say
abbrev pub IsBuilt : Bool → Option (List ℕ) → List ℕ → List ℕ → ℕ → Type 0
IsBuilt failed starts body last count = failed ≡ false → Holds starts body last count (texts_in count body)
