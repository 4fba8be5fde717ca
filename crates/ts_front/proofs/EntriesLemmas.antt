use Rattle.std.proofs.Common.{◌≡◌, ◌≢◌, ℕ, zero, suc, ◌+◌, ◌-◌, ◌%◌, ◌<◌, ◌≤◌, ◌==◌, Bool, true, false, List, [], ◌∷◌, ◌++◌, length, take, drop, refl, sym, ◌∙◌, ap, arith, inl, inr, add-one, append_assoc, append-nil, length-append, length-drop}
use Rattle.std.proofs.lemmas.Bool.{cases_eq, cases_lt, cond-true, cond-false, eq-eqb, ne_eqb}
use Rattle.std.proofs.lemmas.List.{take_at, drop_at, take-append-drop, get_or_append_left, get_or_push, length-take-le}
use Rattle.ts_vbyte.specs.Spelling.{spelling}
use Rattle.ts_vbyte.proofs.SpellingLemmas.{spelling_cancels, some_bytes}
use Rattle.ts_front.specs.Shared.{shared_length, text_at}
use Rattle.ts_front.specs.Dictionary.{whole, added, entry_bytes, entries_bytes, place_of}
use Rattle.ts_front.specs.Pieces.{before_at, shared_at, suffix_at, piece_bytes}
use Rattle.ts_front.proofs.SharedLemmas.{shared_none, shared_made, shared_le}

-- ---- one entry as a piece

pub before_first : (texts : List (List ℕ)) (i : ℕ) → i % 8 ≡ 0 → before_at texts i ≡ []
unfolding before_at
before_first texts i h = cond-true (i % 8 == 0) _ _ (eq-eqb (i % 8) 0 h)

pub before_other : (texts : List (List ℕ)) (i : ℕ) → i % 8 ≢ 0 → before_at texts i ≡ text_at texts (i - 1)
unfolding before_at
before_other texts i h = cond-false (i % 8 == 0) _ _ (ne_eqb (i % 8) 0 h)

pub shared_first : (texts : List (List ℕ)) (i : ℕ) → i % 8 ≡ 0 → shared_at texts i ≡ 0
shared_first texts i h = ap (λ b. shared_length b (text_at texts i)) (before_first texts i h) ∙ shared_none (text_at texts i)

pub suffix_first : (texts : List (List ℕ)) (i : ℕ) → i % 8 ≡ 0 → suffix_at texts i ≡ text_at texts i
suffix_first texts i h = ap (λ s. drop s (text_at texts i)) (shared_first texts i h)

pub entry_first : (texts : List (List ℕ)) (i : ℕ) → i % 8 ≡ 0 → entry_bytes texts i ≡ whole (text_at texts i)
unfolding entry_bytes
entry_first texts i h = cond-true (i % 8 == 0) _ _ (eq-eqb (i % 8) 0 h)

pub entry_other : (texts : List (List ℕ)) (i : ℕ) → i % 8 ≢ 0 → entry_bytes texts i ≡ added (text_at texts (i - 1)) (text_at texts i)
unfolding entry_bytes
entry_other texts i h = cond-false (i % 8 == 0) _ _ (ne_eqb (i % 8) 0 h)

pub piece_first : (s : ℕ) (rest : List ℕ) → piece_bytes true s rest ≡ whole rest
unfolding piece_bytes
piece_first s rest = refl

pub piece_other : (s : ℕ) (rest : List ℕ) → piece_bytes false s rest ≡ spelling s ++ whole rest
unfolding piece_bytes
piece_other s rest = refl

added_is : (before text : List ℕ) → added before text ≡ spelling (shared_length before text) ++ whole (drop (shared_length before text) text)
unfolding added
added_is before text = refl

-- an entry's bytes are those of its piece
pub entry_piece : (texts : List (List ℕ)) (i : ℕ) → entry_bytes texts i ≡ piece_bytes (i % 8 == 0) (shared_at texts i) (suffix_at texts i)
entry_piece texts i =
    elim (cases_eq (i % 8) 0) [
      | inl first ↦
          entry_first texts i first ∙ ap whole (sym (suffix_first texts i first))
          ∙ sym (piece_first (shared_at texts i) (suffix_at texts i))
          ∙ ap (λ h. piece_bytes h (shared_at texts i) (suffix_at texts i)) (sym (eq-eqb (i % 8) 0 first))
      | inr other ↦
          entry_other texts i other ∙ added_is (text_at texts (i - 1)) (text_at texts i)
          ∙ ap (λ b. spelling (shared_length b (text_at texts i)) ++ whole (drop (shared_length b (text_at texts i)) (text_at texts i))) (sym (before_other texts i other))
          ∙ sym (piece_other (shared_at texts i) (suffix_at texts i))
          ∙ ap (λ h. piece_bytes h (shared_at texts i) (suffix_at texts i)) (sym (ne_eqb (i % 8) 0 other))
    ]

-- an entry is what its piece makes of the entry before
pub entry_made : (texts : List (List ℕ)) (i : ℕ) → take (shared_at texts i) (before_at texts i) ++ suffix_at texts i ≡ text_at texts i
entry_made texts i = shared_made (before_at texts i) (text_at texts i)

pub shared_fits : (texts : List (List ℕ)) (i : ℕ) → shared_at texts i ≤ length (before_at texts i)
shared_fits texts i = shared_le (before_at texts i) (text_at texts i)

-- ---- pieces begin in one way

pub whole_cancels : (xs ys s t : List ℕ) → whole xs ++ s ≡ whole ys ++ t → (xs ≡ ys) × (s ≡ t)
unfolding whole
whole_cancels xs ys s t e =
    let both : (length xs ≡ length ys) × (xs ++ s ≡ ys ++ t) =
    spelling_cancels (length xs) (length ys) (xs ++ s) (ys ++ t)
    (sym (append_assoc (spelling (length xs)) xs s) ∙ e ∙ append_assoc (spelling (length ys)) ys t) in (
      sym (take_at xs s (length xs) refl) ∙ ap (take (length xs)) both.1 ∙ take_at ys t (length xs) (sym both.0),
      sym (drop_at xs s (length xs) refl) ∙ ap (drop (length xs)) both.1 ∙ drop_at ys t (length xs) (sym both.0),
    )

pub piece_cancels : (head : Bool) (s z : ℕ) (xs ys t u : List ℕ) → piece_bytes head s xs ++ t ≡ piece_bytes head z ys ++ u
    → (head ≡ false → s ≡ z) × (xs ≡ ys) × (t ≡ u)
piece_cancels true s z xs ys t u e =
    let both : (xs ≡ ys) × (t ≡ u) =
    whole_cancels xs ys t u (ap (λ l. l ++ t) (sym (piece_first s xs)) ∙ e ∙ ap (λ l. l ++ u) (piece_first z ys)) in
    ((λ no. absurd (cc)), both.0, both.1)
piece_cancels false s z xs ys t u e =
    let first : (s ≡ z) × (whole xs ++ t ≡ whole ys ++ u) =
    spelling_cancels s z (whole xs ++ t) (whole ys ++ u)
    (sym (append_assoc (spelling s) (whole xs) t) ∙ ap (λ l. l ++ t) (sym (piece_other s xs)) ∙ e
    ∙ ap (λ l. l ++ u) (piece_other z ys) ∙ append_assoc (spelling z) (whole ys) u) in
    let both : (xs ≡ ys) × (t ≡ u) = whole_cancels xs ys t u first.1 in
    ((λ _. first.0), both.0, both.1)

-- a piece takes a byte at least
pub whole_some : (text : List ℕ) → 0 < length (whole text)
unfolding whole
whole_some text = omega (arith, length-append (spelling (length text)) text, some_bytes (length text))

pub piece_some : (head : Bool) (s : ℕ) (rest : List ℕ) → 0 < length (piece_bytes head s rest)
piece_some true s rest = omega (arith, ap length (piece_first s rest), whole_some rest)
piece_some false s rest = omega (arith, ap length (piece_other s rest), length-append (spelling s) (whole rest), whole_some rest)

pub whole_long : (text : List ℕ) → length text < length (whole text)
unfolding whole
whole_long text = omega (arith, length-append (spelling (length text)) text, some_bytes (length text))

pub piece_long : (head : Bool) (s : ℕ) (rest : List ℕ) → length rest < length (piece_bytes head s rest)
piece_long true s rest = omega (arith, ap length (piece_first s rest), whole_long rest)
piece_long false s rest = omega (arith, ap length (piece_other s rest), length-append (spelling s) (whole rest), whole_long rest)

-- ---- one entry after another

pub entries_none : (texts : List (List ℕ)) → entries_bytes texts 0 ≡ []
unfolding entries_bytes
entries_none texts = refl

pub entries_suc : (texts : List (List ℕ)) (i : ℕ) → entries_bytes texts (suc i) ≡ entries_bytes texts i ++ entry_bytes texts i
unfolding entries_bytes
entries_suc texts i = refl

pub entries_more : (texts : List (List ℕ)) (i : ℕ) → entries_bytes texts (i + 1) ≡ entries_bytes texts i ++ entry_bytes texts i
entries_more texts i = rw add-one (entries_suc texts i)

pub place_more : (texts : List (List ℕ)) (i : ℕ) → place_of texts (i + 1) ≡ place_of texts i + length (entry_bytes texts i)
place_more texts i = ap length (entries_more texts i) ∙ length-append (entries_bytes texts i) (entry_bytes texts i)

-- the first entries begin the bytes of more entries
entries_begin : (texts : List (List ℕ)) (i d : ℕ) → (more : List ℕ) × (entries_bytes texts (i + d) ≡ entries_bytes texts i ++ more)
entries_begin texts i zero = ([], ap (entries_bytes texts) (let e : i + 0 ≡ i = omega arith in e) ∙ sym (append-nil (entries_bytes texts i)))
entries_begin texts i (suc d) =
    let before : (more : List ℕ) × (entries_bytes texts (i + d) ≡ entries_bytes texts i ++ more) = entries_begin texts i d in (
      before.0 ++ entry_bytes texts (i + d),
      ap (entries_bytes texts) (let e : i + suc d ≡ suc (i + d) = omega arith in e) ∙ entries_suc texts (i + d)
          ∙ ap (λ l. l ++ entry_bytes texts (i + d)) before.1 ∙ append_assoc (entries_bytes texts i) before.0 (entry_bytes texts (i + d)),
    )

pub entries_front : (texts : List (List ℕ)) (i n : ℕ) → i ≤ n → (more : List ℕ) × (entries_bytes texts n ≡ entries_bytes texts i ++ more)
entries_front texts i n h =
    let found = entries_begin texts i (n - i) in
    (found.0, ap (entries_bytes texts) (let e : n ≡ i + (n - i) = omega arith in e) ∙ found.1)

pub place_le : (texts : List (List ℕ)) (i n : ℕ) → i ≤ n → place_of texts i ≤ place_of texts n
place_le texts i n h =
    let found = entries_front texts i n h in
    omega (arith, ap length found.1, length-append (entries_bytes texts i) found.0)

-- each entry takes a byte at least
pub entry_some : (texts : List (List ℕ)) (i : ℕ) → 0 < length (entry_bytes texts i)
entry_some texts i = omega (arith, ap length (entry_piece texts i), piece_some (i % 8 == 0) (shared_at texts i) (suffix_at texts i))

pub count_le : (texts : List (List ℕ)) (n : ℕ) → n ≤ place_of texts n
count_le texts zero = omega arith
count_le texts (suc n) = omega (arith, count_le texts n, entry_some texts n, ap length (entries_suc texts n), length-append (entries_bytes texts n) (entry_bytes texts n))

-- where an entry stands in bytes that begin with the first entries
pub record Stands (texts : List (List ℕ)) (body : List ℕ) (i : ℕ) : Type 0 where
  pub after : List ℕ
  pub here : drop (place_of texts i) body ≡ piece_bytes (i % 8 == 0) (shared_at texts i) (suffix_at texts i) ++ after
  pub fits : place_of texts (i + 1) ≤ length body
  pub next : drop (place_of texts (i + 1)) body ≡ after

pub stands : (texts : List (List ℕ)) (body rest : List ℕ) (i end : ℕ) → i < end → body ≡ entries_bytes texts end ++ rest → Stands texts body i
stands texts body rest i end h e =
    let found = entries_front texts (i + 1) end (omega arith) in
    let more = found.0 ++ rest in
    let whole_body : body ≡ entries_bytes texts (i + 1) ++ more =
    e ∙ ap (λ l. l ++ rest) found.1 ∙ append_assoc (entries_bytes texts (i + 1)) found.0 rest in
    let split : body ≡ entries_bytes texts i ++ (entry_bytes texts i ++ more) =
    whole_body ∙ ap (λ l. l ++ more) (entries_more texts i) ∙ append_assoc (entries_bytes texts i) (entry_bytes texts i) more in
    record {
      after = more;
      here = ap (drop (place_of texts i)) split ∙ drop_at (entries_bytes texts i) (entry_bytes texts i ++ more) (place_of texts i) refl
          ∙ ap (λ l. l ++ more) (entry_piece texts i);
      fits = omega (arith, ap length whole_body, length-append (entries_bytes texts (i + 1)) more);
      next = ap (drop (place_of texts (i + 1))) whole_body ∙ drop_at (entries_bytes texts (i + 1)) more (place_of texts (i + 1)) refl;
    }

-- ---- what a reader finds where an entry stands

pub record Found (texts : List (List ℕ)) (i place next shared : ℕ) (suffix : List ℕ) : Type 0 where
  pub shares : shared ≡ shared_at texts i
  pub adds : suffix ≡ suffix_at texts i
  pub goes_on : next ≡ place_of texts (i + 1)

pub found_piece : (texts : List (List ℕ)) (body : List ℕ) (i place next shared : ℕ) (suffix : List ℕ)
    → Stands texts body i → place ≡ place_of texts i → place ≤ next → next ≤ length body
    → take (next - place) (drop place body) ≡ piece_bytes (i % 8 == 0) shared suffix → (i % 8 ≡ 0 → shared ≡ 0)
    → Found texts i place next shared suffix
found_piece texts body i place next shared suffix s e low high read none =
    let there : drop place body ≡ piece_bytes (i % 8 == 0) (shared_at texts i) (suffix_at texts i) ++ s.after = ap (λ p. drop p body) e ∙ s.here in
    let rest = drop (next - place) (drop place body) in
    let both : (((i % 8 == 0) ≡ false) → shared ≡ shared_at texts i) × (suffix ≡ suffix_at texts i) × (rest ≡ s.after) =
    piece_cancels (i % 8 == 0) shared (shared_at texts i) suffix (suffix_at texts i) rest s.after
    (ap (λ l. l ++ rest) (sym read) ∙ take-append-drop (next - place) (drop place body) ∙ there) in
    let same : shared ≡ shared_at texts i =
    elim (cases_eq (i % 8) 0) [
      | inl first ↦ none first ∙ sym (shared_first texts i first)
      | inr other ↦ both.0 (ne_eqb (i % 8) 0 other)
    ] in
    record {
      shares = same;
      adds = both.1;
      goes_on =
          (let size : next - place ≡ length (entry_bytes texts i) =
          sym (length-take-le (next - place) (drop place body) (omega (arith, length-drop place body)))
          ∙ ap length (read ∙ ap (λ n. piece_bytes (i % 8 == 0) n suffix) same ∙ ap (piece_bytes (i % 8 == 0) (shared_at texts i)) both.1 ∙ sym (entry_piece texts i)) in
          omega (arith, size, place_more texts i));
    }

-- ---- lists that agree

pub entry_same : (texts us : List (List ℕ)) (i : ℕ) → text_at texts (i - 1) ≡ text_at us (i - 1) → text_at texts i ≡ text_at us i → entry_bytes texts i ≡ entry_bytes us i
unfolding entry_bytes
entry_same texts us i before here = cc

pub entries_same : (texts us : List (List ℕ)) (n : ℕ) → ((k : ℕ) → k < n → text_at texts k ≡ text_at us k) → entries_bytes texts n ≡ entries_bytes us n
entries_same texts us zero h = entries_none texts ∙ sym (entries_none us)
entries_same texts us (suc n) h =
    let before : entries_bytes texts n ≡ entries_bytes us n = entries_same texts us n (λ k l. h k (omega arith)) in
    let here : entry_bytes texts n ≡ entry_bytes us n = entry_same texts us n (h (n - 1) (omega arith)) (h n (omega arith)) in
    entries_suc texts n ∙ ap (λ l. l ++ entry_bytes texts n) before ∙ ap (λ l. entries_bytes us n ++ l) here ∙ sym (entries_suc us n)

-- bytes begin with the entries of one list
pub record Agrees (texts us : List (List ℕ)) (n : ℕ) (t u : List ℕ) : Type 0 where
  pub texts_same : (k : ℕ) → k < n → text_at texts k ≡ text_at us k
  pub rest_same : t ≡ u

pub entries_agree : (texts us : List (List ℕ)) (n : ℕ) (t u : List ℕ) → entries_bytes texts n ++ t ≡ entries_bytes us n ++ u → Agrees texts us n t u
entries_agree texts us zero t u e = record {
  texts_same = (λ k h. absurd (omega arith));
  rest_same = ap (λ l. l ++ t) (sym (entries_none texts)) ∙ e ∙ ap (λ l. l ++ u) (entries_none us);
}
entries_agree texts us (suc n) t u e =
    let a : Agrees texts us n (entry_bytes texts n ++ t) (entry_bytes us n ++ u) =
    entries_agree texts us n (entry_bytes texts n ++ t) (entry_bytes us n ++ u)
    (sym (append_assoc (entries_bytes texts n) (entry_bytes texts n) t) ∙ ap (λ l. l ++ t) (sym (entries_suc texts n)) ∙ e
    ∙ ap (λ l. l ++ u) (entries_suc us n) ∙ append_assoc (entries_bytes us n) (entry_bytes us n) u) in
    let both : (((n % 8 == 0) ≡ false) → shared_at texts n ≡ shared_at us n) × (suffix_at texts n ≡ suffix_at us n) × (t ≡ u) =
    piece_cancels (n % 8 == 0) (shared_at texts n) (shared_at us n) (suffix_at texts n) (suffix_at us n) t u
    (ap (λ l. l ++ t) (sym (entry_piece texts n)) ∙ a.rest_same ∙ ap (λ l. l ++ u) (entry_piece us n)) in
    let here : text_at texts n ≡ text_at us n =
    elim (cases_eq (n % 8) 0) [
      | inl first ↦ sym (suffix_first texts n first) ∙ both.1 ∙ suffix_first us n first
      | inr other ↦
          let before : before_at texts n ≡ before_at us n =
          before_other texts n other ∙ a.texts_same (n - 1) (omega arith) ∙ sym (before_other us n other) in
          sym (entry_made texts n) ∙ ap (λ s. take s (before_at texts n) ++ suffix_at texts n) (both.0 (ne_eqb (n % 8) 0 other))
          ∙ ap (λ b. take (shared_at us n) b ++ suffix_at texts n) before ∙ ap (λ r. take (shared_at us n) (before_at us n) ++ r) both.1 ∙ entry_made us n
    ] in
    record {
      texts_same = (λ k h. elim (cases_lt k n) [
        | inl below ↦ a.texts_same k below
        | inr top ↦ (let same : k ≡ n = omega arith in ap (text_at texts) same ∙ here ∙ ap (text_at us) (sym same))
      ]);
      rest_same = both.2;
    }

-- ---- one text more

pub text_before : (texts : List (List ℕ)) (text : List ℕ) (k : ℕ) → k < length texts → text_at (texts ++ text ∷ []) k ≡ text_at texts k
text_before texts text k h = get_or_append_left texts (text ∷ []) [] k h

pub text_last : (texts : List (List ℕ)) (text : List ℕ) (n : ℕ) → length texts ≡ n → text_at (texts ++ text ∷ []) n ≡ text
text_last texts text n h = get_or_push texts text [] n h

pub entries_kept : (texts : List (List ℕ)) (text : List ℕ) (n : ℕ) → n ≤ length texts → entries_bytes (texts ++ text ∷ []) n ≡ entries_bytes texts n
entries_kept texts text n h = entries_same (texts ++ text ∷ []) texts n (λ k l. text_before texts text k (omega arith))
