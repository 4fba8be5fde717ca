use Rattle.std.proofs.Common.{◌≡◌, ℕ, ◌+◌, ◌*◌, ◌^◌, ◌<◌, List, ◌++◌, length, get_or, take, drop, refl, sym, ◌∙◌, ap, subst, arith, w64, length-append}
use Rattle.std.specs.Prelude.{All}
use Rattle.std.specs.Int.{to_be_bytes, from_be_bytes}
use Rattle.std.proofs.lemmas.Nat.{from_be_bytes-to_be_bytes_8}
use Rattle.std.proofs.lemmas.List.{take_at, drop_at, get_or_default}
use Rattle.ts_log.specs.LogArray.{LogSays}
use Rattle.ts_log.proofs.SaysLemmas.{one_list_said}
use Rattle.ts_front.specs.Dictionary.{DictionarySays, dictionary_starts, dictionary_bytes, entries_bytes, place_of, block_starts}
use Rattle.ts_front.specs.Pieces.{IsBody}
use Rattle.ts_front.specs.Reading.{texts_in}
use Rattle.ts_front.proofs.EntriesLemmas.{place_le}
use Rattle.ts_front.proofs.ReadLemmas.{texts_read}
use Rattle.ts_front.proofs.RisingLemmas.{length-block_starts, block_start_at}

count_long : (n : ℕ) → length (to_be_bytes w64 n) ≡ 8
count_long n = refl

-- the places of the blocks fit a log array
pub starts_fit : (texts : List (List ℕ)) → place_of texts (length texts) < 2 ^ 64 → All (λ x. x < 2 ^ 64) (block_starts texts)
starts_fit texts h = λ k d l.
    let below : 8 * k < length texts = omega (arith, length-block_starts texts) in
    let read : get_or (block_starts texts) k d ≡ place_of texts (8 * k) = get_or_default (block_starts texts) k d 0 l ∙ block_start_at texts k below in
    subst (λ n. n < 2 ^ 64) (sym read) (let small : place_of texts (8 * k) < 2 ^ 64 = omega (arith, place_le texts (8 * k) (length texts) (omega arith)) in small)

pub bytes_long : (texts : List (List ℕ)) → length (dictionary_bytes texts) ≡ 8 + place_of texts (length texts)
unfolding dictionary_bytes
bytes_long texts = length-append (to_be_bytes w64 (length texts)) (entries_bytes texts (length texts)) ∙ ap (λ n. n + place_of texts (length texts)) (count_long (length texts))

pub starts_said : (starts bytes : List ℕ) (texts : List (List ℕ)) → DictionarySays starts bytes texts → LogSays starts (block_starts texts)
unfolding dictionary_starts
starts_said starts bytes texts says = record {
  spelled = says.starts_spelled;
  fits = starts_fit texts (omega (arith, says.fits, ap length says.bytes_spelled, bytes_long texts));
  counted = omega (arith, length-block_starts texts, says.counted);
}

-- the count and the entries of a dictionary's bytes
pub record IsSplit (texts : List (List ℕ)) (count : ℕ) (body : List ℕ) : Type 0 where
  pub counted : length texts ≡ count
  pub spelled : body ≡ entries_bytes texts (length texts)

pub split_says : (starts bytes body : List ℕ) (count : ℕ) (texts : List (List ℕ)) → DictionarySays starts bytes texts → count < 2 ^ 64
    → bytes ≡ to_be_bytes w64 count ++ body → IsSplit texts count body
unfolding dictionary_bytes
split_says starts bytes body count texts says small e =
    let both : to_be_bytes w64 (length texts) ++ entries_bytes texts (length texts) ≡ to_be_bytes w64 count ++ body = sym says.bytes_spelled ∙ e in
    let n : ℕ = length texts in
    let entries : List ℕ = entries_bytes texts n in
    let front : to_be_bytes w64 n ≡ to_be_bytes w64 count =
    sym (take_at (to_be_bytes w64 n) entries 8 (count_long n)) ∙ ap (take 8) both ∙ take_at (to_be_bytes w64 count) body 8 (count_long count) in
    record {
      counted = sym (from_be_bytes-to_be_bytes_8 n says.counted) ∙ ap (from_be_bytes w64) front ∙ from_be_bytes-to_be_bytes_8 count small;
      spelled = sym (drop_at (to_be_bytes w64 count) body 8 (count_long count)) ∙ sym (ap (drop 8) both) ∙ drop_at (to_be_bytes w64 n) entries 8 (count_long n);
    }

-- what a view of a dictionary holds
pub record Held (starts_bytes bytes numbers body : List ℕ) (count : ℕ) : Type 0 where
  pub counted : length (texts_in count body) ≡ count
  pub is : IsBody numbers body (texts_in count body)
  pub says : DictionarySays starts_bytes bytes (texts_in count body)

pub body_of_says : (starts bytes numbers body : List ℕ) (count : ℕ) (texts : List (List ℕ)) → DictionarySays starts bytes texts → LogSays starts numbers → count < 2 ^ 64
    → bytes ≡ to_be_bytes w64 count ++ body → (length texts ≡ count) × IsBody numbers body texts
body_of_says starts bytes numbers body count texts says log small e =
    let split : IsSplit texts count body = split_says starts bytes body count texts says small e in (
      split.counted,
      record {
        rising = says.rising;
        starts_are = one_list_said starts numbers (block_starts texts) log (starts_said starts bytes texts says);
        spelled = split.spelled;
      },
    )

pub says_of_body : (starts bytes numbers body : List ℕ) (count : ℕ) (texts : List (List ℕ)) → LogSays starts numbers → count < 2 ^ 64 → length bytes < 2 ^ 64
    → bytes ≡ to_be_bytes w64 count ++ body → length texts ≡ count → IsBody numbers body texts → DictionarySays starts bytes texts
unfolding dictionary_starts dictionary_bytes
says_of_body starts bytes numbers body count texts log small fits e many is = record {
  rising = is.rising;
  starts_spelled = (let l : LogSays starts (block_starts texts) = subst (LogSays starts) is.starts_are log in l.spelled);
  bytes_spelled = e ∙ ap (λ n. to_be_bytes w64 n ++ body) (sym many) ∙ ap (λ l. to_be_bytes w64 (length texts) ++ l) is.spelled;
  counted = omega (arith, many);
  fits = fits;
}

pub held : (starts bytes numbers body : List ℕ) (count : ℕ) (texts : List (List ℕ)) → DictionarySays starts bytes texts → length texts ≡ count → IsBody numbers body texts
    → Held starts bytes numbers body count
held starts bytes numbers body count texts says many is =
    let same : texts_in count body ≡ texts = texts_read texts count body many (is.spelled ∙ ap (entries_bytes texts) many) in
    record {
      counted = ap length same ∙ many;
      is = subst (IsBody numbers body) (sym same) is;
      says = subst (DictionarySays starts bytes) (sym same) says;
    }

-- two sections say one list at most: that of the entries' bytes
pub one_list_read : (starts bytes body : List ℕ) (count : ℕ) (texts : List (List ℕ)) → DictionarySays starts bytes texts → count < 2 ^ 64
    → bytes ≡ to_be_bytes w64 count ++ body → texts ≡ texts_in count body
one_list_read starts bytes body count texts says small e =
    let split : IsSplit texts count body = split_says starts bytes body count texts says small e in
    sym (texts_read texts count body split.counted (split.spelled ∙ ap (entries_bytes texts) split.counted))
