use Rattle.std.proofs.Common.{◌≡◌, ◌≢◌, ℕ, ◌+◌, ◌-◌, ◌*◌, ◌/◌, ◌%◌, ◌<◌, ◌≤◌, List, [], ◌∷◌, ◌++◌, length, get_or, take, drop, arith, refl, sym, ◌∙◌, ap, subst, inl, inr, append-nil, set}
use Rattle.std.specs.Cmp.Lexicographic.{slice_cmp, nat_list_cmp_total}
use Rattle.std.specs.Ordering.{nat_cmp}
use Rattle.std.specs.declared.cmp.Ordering.TheVariants.{Less}
use Rattle.std.proofs.lemmas.Bool.{cases_lt}
use Rattle.std.proofs.lemmas.List.{length_push, length-take-le, take-append-drop, take-take, drop-take, take_all, take_more_set, same_lists, get_or_default}
use Rattle.std.proofs.lemmas.Map.Keys.{sorted_from_all_adjacent}
use Rattle.ts_front.specs.Shared.{shared_length, text_at}
use Rattle.ts_front.specs.Dictionary.{Rising, entry_bytes, entries_bytes, place_of, block_starts}
use Rattle.ts_front.specs.Pieces.{before_at, shared_at, suffix_at, IsBody, Reads, FirstBelow, in_last_block}
use Rattle.ts_front.specs.declared.piece.Piece.{Piece}
use Rattle.ts_front.specs.Made.{made_by, Fit}
use Rattle.ts_front.proofs.MadeByLemmas.{made_push, fit_push}
use Rattle.ts_front.proofs.SharedLemmas.{FirstBelow-rising}
use Rattle.ts_front.proofs.EntriesLemmas.{entries_none, entries_more, entries_front, entries_kept, entries_same, entries_agree, Agrees, text_last, before_other, Stands, stands}
use Rattle.ts_front.proofs.RisingLemmas.{rising_at, rising_push, length-block_starts, block_start_at}
use Rattle.ts_front.proofs.BlockLemmas.{text_fits}

pub reads_none : (starts body : List ℕ) (pieces : List Piece) → Reads starts body pieces [] 0 0
reads_none starts body pieces = record {
  rising = sorted_from_all_adjacent nat_list_cmp_total [] [] (λ k h. absurd (omega arith));
  within = omega arith;
  spelled = sym (entries_none []);
  starts_are = (λ b h. absurd (omega arith));
  fit = (λ some. absurd (omega arith));
  made = (λ some. absurd (omega arith));
  last_length = refl;
}

-- the place is that of the next entry
pub reads_place : (starts body : List ℕ) (pieces : List Piece) (texts : List (List ℕ)) (place last : ℕ) → Reads starts body pieces texts place last → place ≡ place_of texts (length texts)
reads_place starts body pieces texts place last r = sym (length-take-le place body r.within) ∙ ap length r.spelled

pub reads_split : (starts body : List ℕ) (pieces : List Piece) (texts : List (List ℕ)) (place last : ℕ) → Reads starts body pieces texts place last
    → body ≡ entries_bytes texts (length texts) ++ drop place body
reads_split starts body pieces texts place last r = sym (take-append-drop place body) ∙ ap (λ l. l ++ drop place body) r.spelled

pub reads_last : (starts body : List ℕ) (pieces : List Piece) (texts : List (List ℕ)) (place last : ℕ) → Reads starts body pieces texts place last → 0 < length texts → last ≤ place
reads_last starts body pieces texts place last r h =
    let e : length texts - 1 + 1 ≡ length texts = omega arith in
    omega (arith, r.last_length, reads_place starts body pieces texts place last r, text_fits texts (length texts - 1), ap (place_of texts) e)

-- an entry more: the text that its piece makes of the one before it in its block
pub reads_more : (starts body : List ℕ) (pieces : List Piece) (texts : List (List ℕ)) (place last i next : ℕ) (piece : Piece) (text : List ℕ)
    → Reads starts body pieces texts place last → length texts ≡ i → i % 8 < length pieces
    → place ≤ next → next ≤ length body → take (next - place) (drop place body) ≡ entry_bytes (texts ++ text ∷ []) i
    → (0 < i → slice_cmp nat_cmp (text_at texts (i - 1)) text ≡ Less)
    → (i % 8 ≡ 0 → get_or starts (i / 8) 0 ≡ place)
    → Fit (take (i % 8) pieces) → piece.shared ≤ length (made_by (take (i % 8) pieces))
    → text ≡ take piece.shared (made_by (take (i % 8) pieces)) ++ piece.suffix.now
    → (all : List (List ℕ)) × ((length all ≡ i + 1) × Reads starts body (set pieces (i % 8) piece) all next (length text))
reads_more starts body pieces texts place last i next piece text r many index low high read greater start fit fits made =
    let all : List (List ℕ) = texts ++ text ∷ [] in
    let count : length all ≡ i + 1 = length_push texts text ∙ ap (λ n. n + 1) many in
    let here : place ≡ place_of texts i = reads_place starts body pieces texts place last r ∙ ap (place_of texts) many in
    let kept : (n : ℕ) → n ≤ i → entries_bytes all n ≡ entries_bytes texts n = λ n h. entries_kept texts text n (omega arith) in
    let goes_on : take next body ≡ entries_bytes all (i + 1) =
    sym (take-append-drop place (take next body))
    ∙ ap (λ l. l ++ drop place (take next body)) (take-take place next body low ∙ r.spelled ∙ ap (entries_bytes texts) many ∙ sym (kept i (omega arith)))
    ∙ ap (λ l. entries_bytes all i ++ l)
    (ap (λ n. drop place (take n body)) (let e : next ≡ place + (next - place) = omega arith in e) ∙ drop-take place (next - place) body ∙ read)
    ∙ sym (entries_more all i) in
    let block : in_last_block all ≡ i % 8 + 1 = omega arith in
    let pushed : take (in_last_block all) (set pieces (i % 8) piece) ≡ take (i % 8) pieces ++ piece ∷ [] =
    ap (λ n. take n (set pieces (i % 8) piece)) block ∙ take_more_set pieces (i % 8) piece index in (
      all,
      (
        count,
        record {
          rising = rising_push texts text r.rising (λ some. ap (λ n. slice_cmp nat_cmp (text_at texts (n - 1)) text) many ∙ greater (omega arith));
          within = high;
          spelled = goes_on ∙ ap (entries_bytes all) (sym count);
          starts_are = (λ b h.
              elim (cases_lt (8 * b) i) [
                | inl below ↦ r.starts_are b (omega arith) ∙ sym (ap length (kept (8 * b) (omega arith)))
                | inr top ↦
                    (let same : 8 * b ≡ i = omega arith in
                    let quotient : b ≡ i / 8 = omega arith in
                    ap (λ k. get_or starts k 0) quotient ∙ start (omega arith) ∙ here ∙ sym (ap length (kept i (omega arith))) ∙ ap (place_of all) (sym same))
              ]);
          fit = (λ some. subst Fit (sym pushed) (fit_push (take (i % 8) pieces) piece fit fits));
          made = (λ some.
              ap made_by pushed ∙ made_push (take (i % 8) pieces) piece ∙ sym made
              ∙ sym (text_last texts text i many) ∙ ap (text_at all) (let e : i ≡ length all - 1 = omega arith in e));
          last_length = ap length (sym (text_last texts text i many)) ∙ ap (λ n. length (text_at all n)) (let e : i ≡ length all - 1 = omega arith in e);
        },
      ),
    )

-- the pieces of the last block, where the next entry stands in it
pub pieces_before : (starts body : List ℕ) (pieces : List Piece) (texts : List (List ℕ)) (place last i : ℕ) → Reads starts body pieces texts place last
    → length texts ≡ i → i % 8 ≢ 0 → Fit (take (i % 8) pieces) × (made_by (take (i % 8) pieces) ≡ text_at texts (i - 1))
pieces_before starts body pieces texts place last i r many other =
    let block : in_last_block texts ≡ i % 8 = omega arith in
    let some : 0 < length texts = omega arith in (
      subst (λ n. Fit (take n pieces)) block (r.fit some),
      ap (λ n. made_by (take n pieces)) (sym block) ∙ r.made some ∙ ap (λ n. text_at texts (n - 1)) many,
    )

-- and where it begins the next block
pub pieces_whole : (starts body : List ℕ) (pieces : List Piece) (texts : List (List ℕ)) (place last i : ℕ) → Reads starts body pieces texts place last
    → length texts ≡ i → i % 8 ≡ 0 → 0 < i → length pieces ≤ 8 → Fit pieces × (made_by pieces ≡ text_at texts (i - 1))
pieces_whole starts body pieces texts place last i r many first some few =
    let some_texts : 0 < length texts = omega arith in
    let block : in_last_block texts ≡ 8 = omega arith in
    let whole : take (in_last_block texts) pieces ≡ pieces = take_all (in_last_block texts) pieces (omega arith) in (
      subst Fit whole (r.fit some_texts),
      ap made_by (sym whole) ∙ r.made some_texts ∙ ap (λ n. text_at texts (n - 1)) many,
    )

-- a list whose dictionary the bytes are goes on where the reader stands
pub record Candidate (body : List ℕ) (texts us : List (List ℕ)) (i place : ℕ) : Type 0 where
  pub same : (k : ℕ) → k < i → text_at texts k ≡ text_at us k
  pub placed : place ≡ place_of us i

pub candidate : (starts body : List ℕ) (pieces : List Piece) (texts us : List (List ℕ)) (place last i : ℕ) → Reads starts body pieces texts place last → length texts ≡ i
    → IsBody starts body us → i ≤ length us → Candidate body texts us i place
candidate starts body pieces texts us place last i r many b h =
    let front = entries_front us i (length us) h in
    let split : entries_bytes texts i ++ drop place body ≡ entries_bytes us i ++ front.0 =
    sym (reads_split starts body pieces texts place last r ∙ ap (λ n. entries_bytes texts n ++ drop place body) many) ∙ b.spelled ∙ front.1 in
    let agrees : Agrees texts us i (drop place body) front.0 = entries_agree texts us i (drop place body) front.0 split in
    record {
      same = agrees.texts_same;
      placed = reads_place starts body pieces texts place last r ∙ ap (place_of texts) many ∙ ap length (entries_same texts us i agrees.texts_same);
    }

pub body_stands : (starts body : List ℕ) (us : List (List ℕ)) (i : ℕ) → IsBody starts body us → i < length us → Stands us body i
body_stands starts body us i b h = stands us body [] i (length us) h (b.spelled ∙ sym (append-nil (entries_bytes us (length us))))

pub start_of : (starts body : List ℕ) (us : List (List ℕ)) (b : ℕ) → IsBody starts body us → 8 * b < length us → get_or starts b 0 ≡ place_of us (8 * b)
start_of starts body us b is h = ap (λ l. get_or l b 0) is.starts_are ∙ block_start_at us b h

-- an entry of a rising list adds to the one before it what is greater
pub adds_greater : (us : List (List ℕ)) (i : ℕ) → Rising us → i % 8 ≢ 0 → i < length us → FirstBelow (drop (shared_at us i) (text_at us (i - 1))) (suffix_at us i)
adds_greater us i h other l =
    let before : before_at us i ≡ text_at us (i - 1) = before_other us i other in
    subst (λ b. FirstBelow (drop (shared_length b (text_at us i)) (text_at us (i - 1))) (drop (shared_length b (text_at us i)) (text_at us i))) (sym before)
    (FirstBelow-rising (text_at us (i - 1)) (text_at us i) (rising_at us (i - 1) i h (omega arith) l))

-- all entries read, and no bytes left
pub reads_whole : (starts body : List ℕ) (pieces : List Piece) (texts : List (List ℕ)) (place last : ℕ) → Reads starts body pieces texts place last
    → length starts ≡ (length texts + 7) / 8 → place ≡ length body → IsBody starts body texts
reads_whole starts body pieces texts place last r many e = record {
  rising = r.rising;
  starts_are = same_lists starts (block_starts texts) (many ∙ sym (length-block_starts texts)) (λ k d h.
      get_or_default starts k d 0 h ∙ r.starts_are k (omega arith) ∙ sym (block_start_at texts k (omega arith))
      ∙ get_or_default (block_starts texts) k 0 d (omega (arith, length-block_starts texts)));
  spelled = sym (take_all place body (omega arith)) ∙ r.spelled;
}
