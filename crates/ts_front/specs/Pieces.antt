use Rattle.std.specs.Prelude.{◌≡◌, ℕ, ◌+◌, ◌-◌, ◌%◌, ◌*◌, ◌<◌, ◌≤◌, ◌==◌, Bool, if◌then◌else◌, List, [], ◌∷◌, ◌++◌, length, take, drop, map, slice_index}
use Rattle.std.specs.List.{range_with_len}
use Rattle.std.specs.Cmp.Lexicographic.{slice_cmp}
use Rattle.std.specs.Ordering.{nat_cmp}
use Rattle.std.specs.declared.cmp.Ordering.{Ordering}
use Rattle.ts_vbyte.specs.Spelling.{spelling}
use Rattle.ts_front.specs.Shared.{shared_length, text_at}
use Rattle.ts_front.specs.declared.piece.Piece.{Piece}
use Rattle.ts_front.specs.Made.{made_by, Fit}
use Rattle.ts_front.specs.Dictionary.{Rising, whole, entries_bytes, place_of, block_starts}

-- the text from which entry i is spelled: none where it begins a block
unfoldable pub before_at : List (List ℕ) → ℕ → List ℕ
before_at texts i = if i % 8 == 0 then [] else text_at texts (i - 1)

-- how much entry i shares with that text
abbrev pub shared_at : List (List ℕ) → ℕ → ℕ
shared_at texts i = shared_length (before_at texts i) (text_at texts i)

-- and what it adds to it
abbrev pub suffix_at : List (List ℕ) → ℕ → List ℕ
suffix_at texts i = drop (shared_at texts i) (text_at texts i)

-- both for each entry
unfoldable pub pieces_of : List (List ℕ) → List (ℕ × List ℕ)
pieces_of texts = map (λ i. (shared_at texts i, suffix_at texts i)) (range_with_len 0 (length texts))

-- the bytes of a piece
unfoldable pub piece_bytes : Bool → ℕ → List ℕ → List ℕ
piece_bytes head shared suffix = (if head then [] else spelling shared) ++ whole suffix

-- the first entry of a block stands at a place in the bytes, and the entries after it up to one
pub record IsBlock (body : List ℕ) (place first end : ℕ) (texts : List (List ℕ)) : Type 0 where
  pub begins : first % 8 ≡ 0
  pub placed : place ≡ place_of texts first
  pub rest : List ℕ
  pub spelled : body ≡ entries_bytes texts end ++ rest

-- the entries' bytes and the places of the blocks are those of the texts
pub record IsBody (starts body : List ℕ) (texts : List (List ℕ)) : Type 0 where
  pub rising : Rising texts
  pub starts_are : starts ≡ block_starts texts
  pub spelled : body ≡ entries_bytes texts (length texts)

-- how many entries the last block has, where there is one
abbrev pub in_last_block : List (List ℕ) → ℕ
in_last_block texts = (length texts - 1) % 8 + 1

-- how an entry and a text compare: how much they share, and their order
pub record Compares (entry text : List ℕ) (shared : ℕ) (order : Ordering) : Type 0 where
  pub shares : shared ≡ shared_length entry text
  pub ordered : order ≡ slice_cmp nat_cmp entry text

-- what a text adds is greater than what it leaves of the text before it, from the first byte on
abbrev pub FirstBelow : List ℕ → List ℕ → Type 0
FirstBelow old [] = ⊥
FirstBelow [] (y ∷ ys) = Unit {0}
FirstBelow (x ∷ xs) (y ∷ ys) = x < y

-- the bytes before a place are those of a front of a dictionary, whose last text the pieces of its last block make
pub record Reads (starts body : List ℕ) (pieces : List Piece) (texts : List (List ℕ)) (place last : ℕ) : Type 0 where
  pub rising : Rising texts
  pub within : place ≤ length body
  pub spelled : take place body ≡ entries_bytes texts (length texts)
  pub starts_are : (b : ℕ) → 8 * b < length texts → slice_index starts b ≡ place_of texts (8 * b)
  pub fit : 0 < length texts → Fit (take (in_last_block texts) pieces)
  pub made : 0 < length texts → made_by (take (in_last_block texts) pieces) ≡ text_at texts (length texts - 1)
  pub last_length : last ≡ length (text_at texts (length texts - 1))
