use Rattle.std.proofs.Common.{◌≡◌, ℕ, ◌*◌, ◌<◌, ◌≤◌, List, length, get_or, sym, ◌∙◌, ap, subst, arith, inl, inr}
use Rattle.std.specs.Cmp.Lexicographic.{slice_cmp}
use Rattle.std.specs.Ordering.{nat_cmp}
use Rattle.std.specs.declared.cmp.Ordering.TheVariants.{Greater}
use Rattle.std.proofs.lemmas.Bool.{cases_eq}
use Rattle.ts_front.specs.Shared.{text_at}
use Rattle.ts_front.specs.Dictionary.{Rising, place_of}
use Rattle.ts_front.specs.Pieces.{IsBlock, IsBody}
use Rattle.ts_front.specs.Reading.{texts_in}
use Rattle.ts_front.proofs.EntriesLemmas.{entries_front, place_le, count_le}
use Rattle.ts_front.proofs.OrderLemmas.{greater_later}
use Rattle.ts_front.proofs.RisingLemmas.{rising_at}
use Rattle.ts_front.proofs.ReadsLemmas.{start_of}

-- the texts that a view shows, and what its fields are
pub record Shows (starts body : List ℕ) (count : ℕ) (texts : List (List ℕ)) : Type 0 where
  pub counted : length texts ≡ count
  pub is : IsBody starts body texts

pub shows : (starts body : List ℕ) (count : ℕ) (texts : List (List ℕ)) → texts_in count body ≡ texts
    → (length (texts_in count body) ≡ count) × IsBody starts body (texts_in count body) → Shows starts body count texts
shows starts body count texts e h = record {
  counted = ap length (sym e) ∙ h.0;
  is = subst (IsBody starts body) e h.1;
}

-- each entry has its block
pub block_of_entry : (starts body : List ℕ) (texts : List (List ℕ)) (b place first end : ℕ) → IsBody starts body texts → place ≡ get_or starts b 0
    → 8 * b < length texts → end ≤ length texts → first ≡ 8 * b → IsBlock body place first end texts
block_of_entry starts body texts b place first end is at h k e =
    let front = entries_front texts end (length texts) k in
    record {
      begins = omega arith;
      placed = at ∙ start_of starts body texts b is h ∙ ap (place_of texts) (sym e);
      rest = front.0;
      spelled = is.spelled ∙ front.1;
    }

pub place_inside : (starts body : List ℕ) (texts : List (List ℕ)) (i : ℕ) → IsBody starts body texts → i ≤ length texts → place_of texts i ≤ length body
place_inside starts body texts i is h = omega (arith, place_le texts i (length texts) h, ap length is.spelled)

pub count_inside : (starts body : List ℕ) (texts : List (List ℕ)) → IsBody starts body texts → length texts ≤ length body
count_inside starts body texts is = omega (arith, count_le texts (length texts), ap length is.spelled)

-- where a text is above another, all texts after it are
pub above_from : (texts : List (List ℕ)) (text : List ℕ) (m : ℕ) → Rising texts → slice_cmp nat_cmp (text_at texts (8 * m)) text ≡ Greater
    → (k : ℕ) → m ≤ k → 8 * k < length texts → slice_cmp nat_cmp (text_at texts (8 * k)) text ≡ Greater
above_from texts text m rising here k low inside =
    elim (cases_eq k m) [
      | inl same ↦ ap (λ n. slice_cmp nat_cmp (text_at texts (8 * n)) text) same ∙ here
      | inr other ↦ greater_later (text_at texts (8 * m)) (text_at texts (8 * k)) text (rising_at texts (8 * m) (8 * k) rising (omega arith) inside) here
    ]
