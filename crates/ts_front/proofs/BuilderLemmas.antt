use Rattle.std.proofs.Common.{◌≡◌, ◌≢◌, ℕ, ◌+◌, ◌-◌, ◌*◌, ◌/◌, ◌%◌, ◌≤◌, ◌==◌, cond, true, false, List, [], ◌∷◌, ◌++◌, length, get_or, refl, sym, ◌∙◌, ap, subst, arith, inl, inr}
use Rattle.std.specs.Prelude.{Option, Some, Result, Ok, Err, is_ok, OnOk, IsSomeAnd}
use Rattle.std.specs.Bool.{MatchBool}
use Rattle.ts_log.specs.Buffer.{Extends}
use Rattle.std.specs.Cmp.Lexicographic.{nat_list_cmp_total}
use Rattle.std.proofs.lemmas.Map.Keys.{sorted_from_all_adjacent}
use Rattle.std.proofs.lemmas.Bool.{cases_eq, cases_lt, eq-eqb, ne_eqb}
use Rattle.std.proofs.lemmas.List.{length_push, same_lists, get_or_default, get_or_append_left, get_or_push}
use Rattle.ts_front.specs.Shared.{text_at}
use Rattle.ts_front.specs.Dictionary.{Rising, whole, added, entries_bytes, place_of, block_starts}
use Rattle.ts_front.specs.Reading.{texts_in}
use Rattle.ts_front.specs.Building.{Holds}
use Rattle.ts_front.proofs.EntriesLemmas.{entries_none, entries_more, entries_kept, entry_first, entry_other, text_before, text_last}
use Rattle.ts_front.proofs.ReadLemmas.{texts_read}
use Rattle.ts_front.proofs.RisingLemmas.{length-block_starts, block_start_at}

pub on_ok_from : {T E P : Type 0} (new a b : List ℕ) (r : Result T E) → new ≡ cond (is_ok r) a b → (new ≡ a → P) → OnOk r P
on_ok_from new a b (Ok x) e f = f e
on_ok_from new a b (Err x) e f = tt

pub texts_none : (body : List ℕ) → texts_in 0 body ≡ []
unfolding texts_in
texts_none body = refl

starts_none : block_starts [] ≡ []
unfolding block_starts
starts_none = refl

pub holds_none : (starts : Option (List ℕ)) (body last : List ℕ) → starts ≡ Some [] → body ≡ [] → last ≡ [] → Holds starts body last 0 []
holds_none starts body last e f g = record {
  counted = refl;
  rising = sorted_from_all_adjacent nat_list_cmp_total [] [] (λ k h. absurd (omega arith));
  starts_are = e ∙ ap Some (sym starts_none);
  spelled = f ∙ sym (entries_none []);
  last_is = g;
}

-- the places of the blocks of one text more
starts_read : (texts : List (List ℕ)) (text : List ℕ) (k : ℕ) → 8 * k ≤ length texts → get_or (block_starts (texts ++ text ∷ [])) k 0 ≡ place_of texts (8 * k)
starts_read texts text k h =
    block_start_at (texts ++ text ∷ []) k (omega (arith, length_push texts text)) ∙ ap length (entries_kept texts text (8 * k) h)

starts_first : (texts : List (List ℕ)) (text : List ℕ) → length texts % 8 ≡ 0 → block_starts (texts ++ text ∷ []) ≡ block_starts texts ++ place_of texts (length texts) ∷ []
starts_first texts text h =
    let all : List ℕ = block_starts (texts ++ text ∷ []) in
    let old : List ℕ = block_starts texts in
    let n : ℕ = length texts in
    let many : length all ≡ (n + 1 + 7) / 8 = length-block_starts (texts ++ text ∷ []) ∙ ap (λ m. (m + 7) / 8) (length_push texts text) in
    let few : length old ≡ (n + 7) / 8 = length-block_starts texts in
    let more : length (old ++ place_of texts n ∷ []) ≡ length old + 1 = length_push old (place_of texts n) in
    same_lists all (old ++ place_of texts n ∷ []) (omega arith) (λ k d l.
    elim (cases_lt k (length old)) [
      | inl below ↦
          get_or_default all k d 0 l ∙ starts_read texts text k (omega arith) ∙ sym (block_start_at texts k (omega arith))
          ∙ get_or_default old k 0 d below ∙ sym (get_or_append_left old (place_of texts n ∷ []) d k below)
      | inr top ↦
          (let last : length old ≡ k = omega arith in
          get_or_default all k d 0 l ∙ starts_read texts text k (omega arith) ∙ ap (place_of texts) (let e : 8 * k ≡ n = omega arith in e)
          ∙ sym (get_or_push old (place_of texts n) d k last))
    ])

starts_other : (texts : List (List ℕ)) (text : List ℕ) → length texts % 8 ≢ 0 → block_starts (texts ++ text ∷ []) ≡ block_starts texts
starts_other texts text h =
    let all : List ℕ = block_starts (texts ++ text ∷ []) in
    let old : List ℕ = block_starts texts in
    let n : ℕ = length texts in
    let many : length all ≡ (n + 1 + 7) / 8 = length-block_starts (texts ++ text ∷ []) ∙ ap (λ m. (m + 7) / 8) (length_push texts text) in
    let few : length old ≡ (n + 7) / 8 = length-block_starts texts in
    same_lists all old (omega arith) (λ k d l.
    get_or_default all k d 0 l ∙ starts_read texts text k (omega arith) ∙ sym (block_start_at texts k (omega arith)) ∙ get_or_default old k 0 d (omega arith))

-- one text more, where it begins a block and where it begins none
pub holds_first : (starts after : Option (List ℕ)) (body now last : List ℕ) (count : ℕ) (texts : List (List ℕ)) (text : List ℕ)
    → Holds starts body last count texts → Rising (texts ++ text ∷ []) → count % 8 ≡ 0
    → after ≡ Some (block_starts texts ++ length body ∷ []) → now ≡ body ++ whole text → Holds after now text (count + 1) (texts ++ text ∷ [])
holds_first starts after body now last count texts text h rising begins e f =
    let n : length texts ≡ count = h.counted in
    let all : List (List ℕ) = texts ++ text ∷ [] in
    let many : length all ≡ count + 1 = length_push texts text ∙ ap (λ m. m + 1) n in
    let old : body ≡ entries_bytes texts count = h.spelled ∙ ap (entries_bytes texts) n in
    record {
      counted = many;
      rising = rising;
      starts_are = e ∙ ap (λ b. Some (block_starts texts ++ length b ∷ [])) h.spelled ∙ ap Some (sym (starts_first texts text (omega arith)));
      spelled = f ∙ ap (λ b. b ++ whole text) (old ∙ sym (entries_kept texts text count (omega arith)))
          ∙ ap (λ t. entries_bytes all count ++ t) (ap whole (sym (text_last texts text count n)) ∙ sym (entry_first all count begins))
          ∙ sym (entries_more all count) ∙ ap (entries_bytes all) (sym many);
      last_is = sym (text_last texts text count n) ∙ ap (text_at all) (let e : count ≡ length all - 1 = omega arith in e);
    }

pub holds_other : (starts after : Option (List ℕ)) (body now last : List ℕ) (count : ℕ) (texts : List (List ℕ)) (text : List ℕ)
    → Holds starts body last count texts → Rising (texts ++ text ∷ []) → count % 8 ≢ 0
    → after ≡ starts → now ≡ body ++ added last text → Holds after now text (count + 1) (texts ++ text ∷ [])
holds_other starts after body now last count texts text h rising begins e f =
    let n : length texts ≡ count = h.counted in
    let all : List (List ℕ) = texts ++ text ∷ [] in
    let many : length all ≡ count + 1 = length_push texts text ∙ ap (λ m. m + 1) n in
    let old : body ≡ entries_bytes texts count = h.spelled ∙ ap (entries_bytes texts) n in
    let before : last ≡ text_at all (count - 1) = h.last_is ∙ ap (λ m. text_at texts (m - 1)) n ∙ sym (text_before texts text (count - 1) (omega arith)) in
    record {
      counted = many;
      rising = rising;
      starts_are = e ∙ h.starts_are ∙ ap Some (sym (starts_other texts text (λ none. begins (omega arith))));
      spelled = f ∙ ap (λ b. b ++ added last text) (old ∙ sym (entries_kept texts text count (omega arith)))
          ∙ ap (λ t. entries_bytes all count ++ t)
          (ap (λ b. added b text) before ∙ ap (added (text_at all (count - 1))) (sym (text_last texts text count n)) ∙ sym (entry_other all count begins))
          ∙ sym (entries_more all count) ∙ ap (entries_bytes all) (sym many);
      last_is = sym (text_last texts text count n) ∙ ap (text_at all) (let e : count ≡ length all - 1 = omega arith in e);
    }

-- what a builder holds is what its bytes say
pub holds_read : (starts : Option (List ℕ)) (body last : List ℕ) (count : ℕ) (texts : List (List ℕ)) → Holds starts body last count texts
    → (texts_in count body ≡ texts) × Holds starts body last count (texts_in count body)
holds_read starts body last count texts h =
    let same : texts_in count body ≡ texts = texts_read texts count body h.counted (h.spelled ∙ ap (entries_bytes texts) h.counted) in
    (same, subst (Holds starts body last count) (sym same) h)

-- a text pushed
pub push_holds : (starts after : Option (List ℕ)) (body now last final : List ℕ) (count : ℕ) (texts : List (List ℕ)) (text : List ℕ)
    → Holds starts body last count texts → Rising (texts ++ text ∷ [])
    → MatchBool (count % 8 == 0) (IsSomeAnd starts (λ places. after ≡ Some (places ++ length body ∷ []))) (after ≡ starts)
    → now ≡ body ++ cond (count % 8 == 0) (whole text) (added last text) → final ≡ text
    → Holds after now final (count + 1) (texts ++ text ∷ [])
push_holds starts after body now last final count texts text h rising m e f =
    subst (λ t. Holds after now t (count + 1) (texts ++ text ∷ [])) (sym f)
    (elim (cases_eq (count % 8) 0) [
      | inl first ↦
          (let test : (count % 8 == 0) ≡ true = eq-eqb (count % 8) 0 first in
          let placed : IsSomeAnd starts (λ places. after ≡ Some (places ++ length body ∷ [])) =
          subst (λ t. MatchBool t (IsSomeAnd starts (λ places. after ≡ Some (places ++ length body ∷ []))) (after ≡ starts)) test m in
          let known : after ≡ Some (block_starts texts ++ length body ∷ []) =
          subst (λ o. IsSomeAnd o (λ places. after ≡ Some (places ++ length body ∷ []))) h.starts_are placed in
          holds_first starts after body now last count texts text h rising first known (e ∙ ap (λ t. body ++ cond t (whole text) (added last text)) test))
      | inr other ↦
          (let test : (count % 8 == 0) ≡ false = ne_eqb (count % 8) 0 other in
          let placed : after ≡ starts =
          subst (λ t. MatchBool t (IsSomeAnd starts (λ places. after ≡ Some (places ++ length body ∷ []))) (after ≡ starts)) test m in
          holds_other starts after body now last count texts text h rising other placed (e ∙ ap (λ t. body ++ cond t (whole text) (added last text)) test))
    ])

pub kept_from : {T E : Type 0} (old new a b : List ℕ) (r : Result T E) → new ≡ cond (is_ok r) a b → Extends old a → Extends old b → Extends old new
kept_from old new a b (Ok x) e f g = (f.0, e ∙ f.1)
kept_from old new a b (Err x) e f g = (g.0, e ∙ g.1)
