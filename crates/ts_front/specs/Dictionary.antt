use Rattle.std.specs.Prelude.{◌≡◌, ℕ, zero, suc, ◌+◌, ◌-◌, ◌*◌, ◌/◌, ◌%◌, ◌^◌, ◌<◌, ◌==◌, if◌then◌else◌, List, [], ◌++◌, length, drop, map}
use Rattle.std.specs.List.{range_with_len}
use Rattle.std.specs.List.Sorted.{IsStrictlySortedBy}
use Rattle.std.specs.Cmp.Lexicographic.{slice_cmp}
use Rattle.std.specs.Ordering.{nat_cmp}
use Rattle.std.specs.declared.cmp.Ordering.TheVariants.{Less}
use Rattle.std.specs.Int.{w64, to_be_bytes}
use Rattle.ts_log.specs.LogArray.{log_array_of}
use Rattle.ts_vbyte.specs.Spelling.{spelling}
use Rattle.ts_front.specs.Shared.{shared_length, text_at}

-- each text is below the next by its bytes
abbrev pub Rising : List (List ℕ) → Type 0
Rising texts = IsStrictlySortedBy (slice_cmp nat_cmp) texts

-- the last text is below this one by its bytes, where there is a last text
abbrev pub IsAfterLast : List (List ℕ) → List ℕ → Type 0
IsAfterLast texts text = 0 < length texts → slice_cmp nat_cmp (text_at texts (length texts - 1)) text ≡ Less

-- a text whole: its length, and its bytes
unfoldable pub whole : List ℕ → List ℕ
whole text = spelling (length text) ++ text

-- a text by what it adds to the one before it: how much of that it shares, and the rest
unfoldable pub added : List ℕ → List ℕ → List ℕ
added before text = spelling (shared_length before text) ++ whole (drop (shared_length before text) text)

-- the bytes of entry i: whole where it is the first of a block of 8
unfoldable pub entry_bytes : List (List ℕ) → ℕ → List ℕ
entry_bytes texts i = if i % 8 == 0 then whole (text_at texts i) else added (text_at texts (i - 1)) (text_at texts i)

-- the bytes of the first entries
unfoldable pub entries_bytes : List (List ℕ) → ℕ → List ℕ
entries_bytes texts zero = []
entries_bytes texts (suc count) = entries_bytes texts count ++ entry_bytes texts count

-- where entry i begins, counted from the first entry
abbrev pub place_of : List (List ℕ) → ℕ → ℕ
place_of texts i = length (entries_bytes texts i)

-- where the blocks begin
unfoldable pub block_starts : List (List ℕ) → List ℕ
block_starts texts = map (λ b. place_of texts (8 * b)) (range_with_len 0 ((length texts + 7) / 8))

-- the section "starts" of a list of texts
unfoldable pub dictionary_starts : List (List ℕ) → List ℕ
dictionary_starts texts = log_array_of (block_starts texts)

-- its section "bytes": the number of entries, and the entries
unfoldable pub dictionary_bytes : List (List ℕ) → List ℕ
dictionary_bytes texts = to_be_bytes w64 (length texts) ++ entries_bytes texts (length texts)

-- the two sections, whole, are the dictionary of these texts
pub record DictionarySays (starts bytes : List ℕ) (texts : List (List ℕ)) : Type 0 where
  pub rising : Rising texts
  pub starts_spelled : starts ≡ dictionary_starts texts
  pub bytes_spelled : bytes ≡ dictionary_bytes texts
  pub counted : length texts < 2 ^ 64
  pub fits : length bytes < 2 ^ 64

-- the two sections, whole, are the dictionary of no other texts
abbrev pub DictionarySaysOnly : List ℕ → List ℕ → List (List ℕ) → Type 0
DictionarySaysOnly starts bytes texts = (others : List (List ℕ)) → DictionarySays starts bytes others → others ≡ texts
