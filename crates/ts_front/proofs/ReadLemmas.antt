use Rattle.std.proofs.Common.{◌≡◌, ℕ, zero, suc, ◌+◌, ◌-◌, ◌*◌, ◌/◌, ◌%◌, ◌<◌, ◌≤◌, ◌==◌, cond, List, [], ◌∷◌, ◌++◌, length, take, drop, refl, sym, ◌∙◌, ap, arith, inl, inr, append_assoc, append-nil}
use Rattle.std.proofs.lemmas.Bool.{cases_eq, cases_lt, cond-true, cond-false, eq-eqb, ne_eqb, le-leb, lt-leb}
use Rattle.std.proofs.lemmas.List.{take_at, drop_at}
use Rattle.std.proofs.lemmas.List.FromFn.{fill_by_all}
use Rattle.ts_vbyte.specs.Spelling.{spelling}
use Rattle.ts_vbyte.proofs.SpellingLemmas.{spelling_last, spelling_more}
use Rattle.ts_front.specs.Shared.{text_at}
use Rattle.ts_front.specs.Dictionary.{whole, entries_bytes, place_of}
use Rattle.ts_front.specs.Pieces.{before_at, shared_at, suffix_at, piece_bytes}
use Rattle.ts_front.specs.Reading.{number_in, after_number, whole_in, after_whole, shared_in, after_shared, from_entry, suffix_in, text_in, texts_in}
use Rattle.ts_front.proofs.EntriesLemmas.{Stands, stands, before_other, shared_first, suffix_first, entry_made, piece_first, piece_other, entries_none}

-- ---- a number, and a whole text

-- a number at the start of the bytes, and what stands after it
record Numbered (bytes : List ℕ) (x : ℕ) (after : List ℕ) : Type 0 where
  number : number_in bytes ≡ x
  rest : after_number bytes ≡ after

numbered_last : (b : ℕ) (bs : List ℕ) → 128 ≤ b → Numbered (b ∷ bs) (b - 128) bs
unfolding number_in after_number
numbered_last b bs h = record { number = cond-true _ _ _ (le-leb 128 b h); rest = cond-true _ _ _ (le-leb 128 b h) }

numbered_more : (b : ℕ) (bs : List ℕ) (x : ℕ) (after : List ℕ) → b < 128 → Numbered bs x after → Numbered (b ∷ bs) (b + 128 * x) after
unfolding number_in after_number
numbered_more b bs x after h n = record {
  number = cond-false _ _ _ (lt-leb 128 b h) ∙ ap (λ y. b + 128 * y) n.number;
  rest = cond-false _ _ _ (lt-leb 128 b h) ∙ n.rest;
}

numbered_below : (turns x : ℕ) (t : List ℕ) → x < turns → Numbered (spelling x ++ t) x t
numbered_below zero x t h = absurd (omega arith)
numbered_below (suc turns) x t h =
    elim (cases_lt x 128) [
      | inl last ↦
          let e : 128 + x - 128 ≡ x = omega arith in
          let n : Numbered ((128 + x) ∷ t) (128 + x - 128) t = numbered_last (128 + x) t (omega arith) in
          let same : spelling x ++ t ≡ (128 + x) ∷ t = ap (λ l. l ++ t) (spelling_last x last) in
          record { number = ap number_in same ∙ n.number ∙ e; rest = ap after_number same ∙ n.rest }
      | inr more ↦
          let e : x % 128 + 128 * (x / 128) ≡ x = omega arith in
          let high : Numbered (spelling (x / 128) ++ t) (x / 128) t = numbered_below turns (x / 128) t (omega arith) in
          let n : Numbered (x % 128 ∷ (spelling (x / 128) ++ t)) (x % 128 + 128 * (x / 128)) t =
          numbered_more (x % 128) (spelling (x / 128) ++ t) (x / 128) t (omega arith) high in
          let same : spelling x ++ t ≡ x % 128 ∷ (spelling (x / 128) ++ t) = ap (λ l. l ++ t) (spelling_more x more) in
          record { number = ap number_in same ∙ n.number ∙ e; rest = ap after_number same ∙ n.rest }
    ]

numbered : (x : ℕ) (t : List ℕ) → Numbered (spelling x ++ t) x t
numbered x t = numbered_below (suc x) x t (omega arith)

-- a whole text at the start of the bytes, and what stands after it
record Begins (bytes text after : List ℕ) : Type 0 where
  text_is : whole_in bytes ≡ text
  rest : after_whole bytes ≡ after

whole_begins : (text t : List ℕ) → Begins (whole text ++ t) text t
unfolding whole whole_in after_whole
whole_begins text t =
    let n : Numbered (spelling (length text) ++ (text ++ t)) (length text) (text ++ t) = numbered (length text) (text ++ t) in
    let same : (spelling (length text) ++ text) ++ t ≡ spelling (length text) ++ (text ++ t) = append_assoc (spelling (length text)) text t in
    record {
      text_is = ap (λ l. take (number_in l) (after_number l)) same ∙ ap (λ k. take k (after_number (spelling (length text) ++ (text ++ t)))) n.number
          ∙ ap (take (length text)) n.rest ∙ take_at text t (length text) refl;
      rest = ap (λ l. drop (number_in l) (after_number l)) same ∙ ap (λ k. drop k (after_number (spelling (length text) ++ (text ++ t)))) n.number
          ∙ ap (drop (length text)) n.rest ∙ drop_at text t (length text) refl;
    }

-- ---- an entry

-- what the bytes from entry i on say of it
record Says (i : ℕ) (bytes : List ℕ) (shared : ℕ) (suffix after : List ℕ) : Type 0 where
  shares : cond (i % 8 == 0) 0 (number_in bytes) ≡ shared
  adds : whole_in (after_shared i bytes) ≡ suffix
  rest : after_whole (after_shared i bytes) ≡ after

piece_says : (i shared : ℕ) (suffix t : List ℕ) → (i % 8 ≡ 0 → shared ≡ 0) → Says i (piece_bytes (i % 8 == 0) shared suffix ++ t) shared suffix t
unfolding after_shared
piece_says i shared suffix t none =
    let bytes : List ℕ = piece_bytes (i % 8 == 0) shared suffix ++ t in
    let w : Begins (whole suffix ++ t) suffix t = whole_begins suffix t in
    elim (cases_eq (i % 8) 0) [
      | inl first ↦
          let same : bytes ≡ whole suffix ++ t = ap (λ h. piece_bytes h shared suffix ++ t) (eq-eqb (i % 8) 0 first) ∙ ap (λ l. l ++ t) (piece_first shared suffix) in
          let past : after_shared i bytes ≡ whole suffix ++ t = cond-true (i % 8 == 0) _ _ (eq-eqb (i % 8) 0 first) ∙ same in
          record {
            shares = cond-true (i % 8 == 0) _ _ (eq-eqb (i % 8) 0 first) ∙ sym (none first);
            adds = ap whole_in past ∙ w.text_is;
            rest = ap after_whole past ∙ w.rest;
          }
      | inr other ↦
          let same : bytes ≡ spelling shared ++ (whole suffix ++ t) =
          ap (λ h. piece_bytes h shared suffix ++ t) (ne_eqb (i % 8) 0 other) ∙ ap (λ l. l ++ t) (piece_other shared suffix)
          ∙ append_assoc (spelling shared) (whole suffix) t in
          let n : Numbered (spelling shared ++ (whole suffix ++ t)) shared (whole suffix ++ t) = numbered shared (whole suffix ++ t) in
          let past : after_shared i bytes ≡ whole suffix ++ t = cond-false (i % 8 == 0) _ _ (ne_eqb (i % 8) 0 other) ∙ ap after_number same ∙ n.rest in
          record {
            shares = cond-false (i % 8 == 0) _ _ (ne_eqb (i % 8) 0 other) ∙ ap number_in same ∙ n.number;
            adds = ap whole_in past ∙ w.text_is;
            rest = ap after_whole past ∙ w.rest;
          }
    ]

-- ---- the entries of a list of texts

module _ (texts : List (List ℕ)) (body : List ℕ) (spelled : body ≡ entries_bytes texts (length texts)) where
  here : (i : ℕ) → i < length texts → Stands texts body i
  here i h = stands texts body [] i (length texts) h (spelled ∙ sym (append-nil (entries_bytes texts (length texts))))

  says : (i : ℕ) (h : i < length texts) → Says i (drop (place_of texts i) body) (shared_at texts i) (suffix_at texts i) (drop (place_of texts (suc i)) body)
  says i h =
      let s : Stands texts body i = here i h in
      let p : Says i (piece_bytes (i % 8 == 0) (shared_at texts i) (suffix_at texts i) ++ s.after) (shared_at texts i) (suffix_at texts i) s.after =
      piece_says i (shared_at texts i) (suffix_at texts i) s.after (shared_first texts i) in
      let e : i + 1 ≡ suc i = omega arith in
      record {
        shares = ap (λ l. cond (i % 8 == 0) 0 (number_in l)) s.here ∙ p.shares;
        adds = ap (λ l. whole_in (after_shared i l)) s.here ∙ p.adds;
        rest = ap (λ l. after_whole (after_shared i l)) s.here ∙ p.rest ∙ sym s.next ∙ ap (λ k. drop (place_of texts k) body) e;
      }

  from_is : (i : ℕ) → i ≤ length texts → from_entry body i ≡ drop (place_of texts i) body
  unfolding from_entry
  from_is zero h = ap (λ l. drop (length l) body) (sym (entries_none texts))
  from_is (suc i) h = ap (λ l. after_whole (after_shared i l)) (from_is i (omega arith)) ∙ (says i (omega arith)).rest

  adds_is : (i : ℕ) → i < length texts → suffix_in body i ≡ suffix_at texts i
  unfolding suffix_in
  adds_is i h = ap (λ l. whole_in (after_shared i l)) (from_is i (omega arith)) ∙ (says i h).adds

  shares_is : (i : ℕ) → i < length texts → shared_in body i ≡ shared_at texts i
  unfolding shared_in
  shares_is i h = ap (λ l. cond (i % 8 == 0) 0 (number_in l)) (from_is i (omega arith)) ∙ (says i h).shares

  -- what an entry keeps of the one before it
  keeps : (i : ℕ) → take (shared_at texts (suc i)) (text_at texts i) ≡ take (shared_at texts (suc i)) (before_at texts (suc i))
  keeps i =
      elim (cases_eq (suc i % 8) 0) [
        | inl first ↦
            ap (λ s. take s (text_at texts i)) (shared_first texts (suc i) first)
            ∙ sym (ap (λ s. take s (before_at texts (suc i))) (shared_first texts (suc i) first))
        | inr other ↦
            let e : i ≡ suc i - 1 = omega arith in
            ap (take (shared_at texts (suc i))) (ap (text_at texts) e ∙ sym (before_other texts (suc i) other))
      ]

  text_is : (i : ℕ) → i < length texts → text_in body i ≡ text_at texts i
  unfolding text_in
  text_is zero h = adds_is zero h ∙ suffix_first texts 0 refl
  text_is (suc i) h =
      ap (λ s. take s (text_in body i) ++ suffix_in body (suc i)) (shares_is (suc i) h)
      ∙ ap (λ t. take (shared_at texts (suc i)) t ++ suffix_in body (suc i)) (text_is i (omega arith))
      ∙ ap (λ r. take (shared_at texts (suc i)) (text_at texts i) ++ r) (adds_is (suc i) h)
      ∙ ap (λ l. l ++ suffix_at texts (suc i)) (keeps i) ∙ entry_made texts (suc i)

-- the texts that the bytes of their entries say
pub texts_read : (texts : List (List ℕ)) (n : ℕ) (body : List ℕ) → length texts ≡ n → body ≡ entries_bytes texts n → texts_in n body ≡ texts
unfolding texts_in
texts_read texts n body h e =
    sym (fill_by_all (text_in body) texts n [] h (λ k l. sym (text_is texts body (e ∙ ap (entries_bytes texts) (sym h)) k (omega arith))))
