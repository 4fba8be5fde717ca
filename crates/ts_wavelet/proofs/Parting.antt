-- The numbers of a level parted by the next digit, as they are met.
use Rattle.std.proofs.Common.{◌≡◌, ℕ, zero, suc, ◌+◌, ◌*◌, ◌/◌, ◌%◌, ◌^◌, ◌<◌, Bool, true, false, ◌&&◌, cond, eqb, ◌⊎◌, List, [], ◌∷◌, ◌++◌, refl, sym, ap, ◌∙◌, arith, inl, inr}
use Rattle.std.proofs.lemmas.Bool.{cases_eq, cases_Bool, eqb-true, eq-eqb, ne_eqb, cond-true, cond-false}
use Rattle.std.proofs.lemmas.Bool.Decides.{nat_tests}
use Rattle.std.proofs.lemmas.List.{append_assoc, append-nil}
use Rattle.std.proofs.lemmas.List.Concat.{flat_map-append}
use Rattle.std.specs.Int.{bit_at}
use Rattle.std.proofs.lemmas.List.Elements.{filter_passes}
use Rattle.std.proofs.lemmas.Nat.Bits.{bit_at-lt}
use Rattle.std.specs.List.{All, filter, flat_map, range_with_len}
use Rattle.ts_wavelet.specs.WaveletTree.{with_top, ordered}
use Rattle.ts_wavelet.proofs.Filters.{range_more}
use Rattle.ts_wavelet.proofs.Counts.{half}

-- what is made of the rest, where `ones` wait behind the numbers whose higher digits make `last`
unfoldable pub parted : ℕ → ℕ → List ℕ → List ℕ → List ℕ
parted shift last ones [] = ones
parted shift last ones (x ∷ xs) =
    cond (eqb (x / 2 ^ suc shift) last)
    (cond (eqb (bit_at x shift) 1) (parted shift last (ones ++ x ∷ []) xs) (x ∷ parted shift last ones xs))
    (ones ++ cond (eqb (bit_at x shift) 1) (parted shift (x / 2 ^ suc shift) (x ∷ []) xs) (x ∷ parted shift (x / 2 ^ suc shift) [] xs))

-- the numbers with a digit
abbrev pub zeros_of : ℕ → List ℕ → List ℕ
zeros_of shift xs = filter (λ x. eqb (bit_at x shift) 0) xs

abbrev pub ones_of : ℕ → List ℕ → List ℕ
ones_of shift xs = filter (λ x. eqb (bit_at x shift) 1) xs

-- a run of numbers that agree in the digits above
run : (shift v : ℕ) (ones xs rest : List ℕ) → All (λ x. x / 2 ^ suc shift ≡ v) xs
    → parted shift v ones (xs ++ rest) ≡ zeros_of shift xs ++ parted shift v (ones ++ ones_of shift xs) rest
unfolding parted
run shift v ones [] rest all = ap (λ ys. parted shift v ys rest) (sym (append-nil ones))
run shift v ones (x ∷ xs) rest all =
    let same : eqb (x / 2 ^ suc shift) v ≡ true = eq-eqb _ v (all 0 0 (omega arith)) in
    let later : All (λ x. x / 2 ^ suc shift ≡ v) xs = λ j d h. all (suc j) d (omega arith) in
    cond-true (eqb (x / 2 ^ suc shift) v)
    (cond (eqb (bit_at x shift) 1) (parted shift v (ones ++ x ∷ []) (xs ++ rest)) (x ∷ parted shift v ones (xs ++ rest)))
    (ones ++ cond (eqb (bit_at x shift) 1) (parted shift (x / 2 ^ suc shift) (x ∷ []) (xs ++ rest)) (x ∷ parted shift (x / 2 ^ suc shift) [] (xs ++ rest))) same
    ∙ elim (cases_eq (bit_at x shift) 1) [
      | inl one ↦
          let yes' : eqb (bit_at x shift) 1 ≡ true = eq-eqb _ 1 one in
          let no' : eqb (bit_at x shift) 0 ≡ false = ne_eqb _ 0 (λ is. omega arith) in
          let ih = run shift v (ones ++ x ∷ []) xs rest later in
          cond-true (eqb (bit_at x shift) 1) _ _ yes' ∙ ih
          ∙ ap (λ ys. ys ++ parted shift v ((ones ++ x ∷ []) ++ ones_of shift xs) rest) (sym (cond-false (eqb (bit_at x shift) 0) (x ∷ zeros_of shift xs) (zeros_of shift xs) no'))
          ∙ ap (λ ys. zeros_of shift (x ∷ xs) ++ parted shift v ys rest)
          (append_assoc ones (x ∷ []) (ones_of shift xs) ∙ ap (λ ys. ones ++ ys) (sym (cond-true (eqb (bit_at x shift) 1) (x ∷ ones_of shift xs) (ones_of shift xs) yes')))
      | inr other ↦
          let low = bit_at-lt x shift in
          let no' : eqb (bit_at x shift) 1 ≡ false = ne_eqb _ 1 other in
          let yes' : eqb (bit_at x shift) 0 ≡ true = eq-eqb _ 0 (omega arith) in
          let ih = run shift v ones xs rest later in
          cond-false (eqb (bit_at x shift) 1) _ _ no' ∙ ap (λ ys. x ∷ ys) ih
          ∙ ap (λ ys. ys ++ parted shift v (ones ++ ones_of shift xs) rest) (sym (cond-true (eqb (bit_at x shift) 0) (x ∷ zeros_of shift xs) (zeros_of shift xs) yes'))
          ∙ ap (λ ys. zeros_of shift (x ∷ xs) ++ parted shift v (ones ++ ys) rest) (sym (cond-false (eqb (bit_at x shift) 1) (x ∷ ones_of shift xs) (ones_of shift xs) no'))
    ]

-- a run begins anew where the digits above are others
anew : (shift last : ℕ) (ones : List ℕ) (x : ℕ) (xs : List ℕ) → (x / 2 ^ suc shift ≡ last → ⊥)
    → parted shift last ones (x ∷ xs) ≡ ones ++ parted shift (x / 2 ^ suc shift) [] (x ∷ xs)
unfolding parted
anew shift last ones x xs other =
    let v : ℕ = x / 2 ^ suc shift in
    let no' : eqb (x / 2 ^ suc shift) last ≡ false = ne_eqb _ last other in
    let yes' : eqb (x / 2 ^ suc shift) (x / 2 ^ suc shift) ≡ true = eq-eqb _ _ refl in
    cond-false (eqb (x / 2 ^ suc shift) last) _ _ no'
    ∙ ap (λ ys. ones ++ ys) (sym (cond-true (eqb (x / 2 ^ suc shift) (x / 2 ^ suc shift)) (cond (eqb (bit_at x shift) 1) (parted shift (x / 2 ^ suc shift) (x ∷ []) xs) (x ∷ parted shift (x / 2 ^ suc shift) [] xs)) _ yes'))

-- the parts of a node
abbrev halves : ℕ → List ℕ → ℕ → List ℕ
halves shift sequence v = zeros_of shift (with_top sequence (suc shift) v) ++ ones_of shift (with_top sequence (suc shift) v)

-- one node, and the others behind it
node : (shift a last : ℕ) (ones xs rest done : List ℕ) → All (λ x. x / 2 ^ suc shift ≡ a) xs → (last < a) ⊎ (ones ≡ [])
    → ((last : ℕ) (ones : List ℕ) → (last < a + 1) ⊎ (ones ≡ []) → parted shift last ones rest ≡ ones ++ done)
    → parted shift last ones (xs ++ rest) ≡ ones ++ ((zeros_of shift xs ++ ones_of shift xs) ++ done)
node shift a last ones [] rest done all before later = later last ones (elim before [ inl less ↦ inl (omega arith) | inr none ↦ inr none ])
node shift a last ones (x ∷ xs) rest done all before later =
    let top : x / 2 ^ suc shift ≡ a = all 0 0 (omega arith) in
    let whole : parted shift a [] ((x ∷ xs) ++ rest) ≡ (zeros_of shift (x ∷ xs) ++ ones_of shift (x ∷ xs)) ++ done =
    run shift a [] (x ∷ xs) rest all ∙ ap (λ ys. zeros_of shift (x ∷ xs) ++ ys) (later a (ones_of shift (x ∷ xs)) (inl (omega arith)))
    ∙ sym (append_assoc (zeros_of shift (x ∷ xs)) (ones_of shift (x ∷ xs)) done) in
    elim (cases_eq (x / 2 ^ suc shift) last) [
      | inr other ↦ anew shift last ones x (xs ++ rest) other ∙ ap (λ ys. ones ++ ys) (ap (λ (v : ℕ). parted shift v [] ((x ∷ xs) ++ rest)) top ∙ whole)
      | inl same ↦ elim before [
        | inl less ↦ absurd (omega arith)
        | inr none ↦
            let v : last ≡ a = omega arith in
            ap (λ ys. parted shift last ys ((x ∷ xs) ++ rest)) none ∙ ap (λ (v : ℕ). parted shift v [] ((x ∷ xs) ++ rest)) v ∙ whole
            ∙ ap (λ ys. ys ++ ((zeros_of shift (x ∷ xs) ++ ones_of shift (x ∷ xs)) ++ done)) (sym none)
      ]
    ]

-- the numbers of a node agree in the digits above
all_top : (sequence : List ℕ) (s v : ℕ) → All (λ x. x / 2 ^ s ≡ v) (with_top sequence s v)
all_top sequence s v = λ j d h. eqb-true _ v (filter_passes (λ x. eqb (x / 2 ^ s) v) sequence j d h)

-- all nodes from one on, where the numbers before are of lesser ones
nodes : (shift : ℕ) (sequence : List ℕ) (n a last : ℕ) (ones : List ℕ) → (last < a) ⊎ (ones ≡ [])
    → parted shift last ones (flat_map (with_top sequence (suc shift)) (range_with_len a n)) ≡ ones ++ flat_map (halves shift sequence) (range_with_len a n)
unfolding parted
nodes shift sequence zero a last ones before = sym (append-nil ones)
nodes shift sequence (suc n) a last ones before =
    let rest = flat_map (with_top sequence (suc shift)) (range_with_len (a + 1) n) in
    let later = nodes shift sequence n (a + 1) in
    node shift a last ones (with_top sequence (suc shift) a) (flat_map (with_top sequence (suc shift)) (range_with_len (a + 1) n)) (flat_map (halves shift sequence) (range_with_len (a + 1) n)) (all_top sequence (suc shift) a) before
    (λ last ones before. later last ones before)

-- a filter of a filter
filter_filter : (p q r : ℕ → Bool) → ((x : ℕ) → (p x && q x) ≡ r x) → (xs : List ℕ) → filter q (filter p xs) ≡ filter r xs
filter_filter p q r e [] = refl
filter_filter p q r e (x ∷ xs) =
    let ih = filter_filter p q r e xs in
    elim (cases_Bool (p x)) [
      | inl pass ↦
          let same : q x ≡ r x = ap (λ b. b && q x) (sym pass) ∙ e x in
          ap (filter q) (cond-true (p x) (x ∷ filter p xs) (filter p xs) pass)
          ∙ ap (λ b. cond b (x ∷ filter q (filter p xs)) (filter q (filter p xs))) same
          ∙ ap (λ ys. cond (r x) (x ∷ ys) ys) ih
      | inr fail ↦
          let none : r x ≡ false = sym (e x) ∙ ap (λ b. b && q x) fail in
          ap (filter q) (cond-false (p x) (x ∷ filter p xs) (filter p xs) fail) ∙ ih
          ∙ sym (cond-false (r x) (x ∷ filter r xs) (filter r xs) none)
    ]

half_zero : (y v : ℕ) → (eqb (y / 2) v && eqb (y % 2) 0) ≡ eqb y (2 * v)
half_zero y v = grind (arith, nat_tests)

half_one : (y v : ℕ) → (eqb (y / 2) v && eqb (y % 2) 1) ≡ eqb y (2 * v + 1)
half_one y v = grind (arith, nat_tests)

-- one node more
ordered_more : (sequence : List ℕ) (s n : ℕ) → ordered sequence s (n + 1) ≡ ordered sequence s n ++ with_top sequence s n
unfolding ordered
ordered_more sequence s n =
    ap (flat_map (with_top sequence s)) (range_more n) ∙ flat_map-append (with_top sequence s) (range_with_len 0 n) (n ∷ [])
    ∙ ap (λ ys. flat_map (with_top sequence s) (range_with_len 0 n) ++ ys) (append-nil (with_top sequence s n))

-- the numbers of a node with a zero, and with a one, are the nodes of the next level
zeros_top : (sequence : List ℕ) (shift v : ℕ) → zeros_of shift (with_top sequence (suc shift) v) ≡ with_top sequence shift (2 * v)
zeros_top sequence shift v =
    filter_filter (λ x. eqb (x / 2 ^ suc shift) v) (λ x. eqb (bit_at x shift) 0) (λ x. eqb (x / 2 ^ shift) (2 * v))
    (λ x. ap (λ (y : ℕ). eqb y v && eqb (bit_at x shift) 0) (half x shift) ∙ half_zero (x / 2 ^ shift) v) sequence

ones_top : (sequence : List ℕ) (shift v : ℕ) → ones_of shift (with_top sequence (suc shift) v) ≡ with_top sequence shift (2 * v + 1)
ones_top sequence shift v =
    filter_filter (λ x. eqb (x / 2 ^ suc shift) v) (λ x. eqb (bit_at x shift) 1) (λ x. eqb (x / 2 ^ shift) (2 * v + 1))
    (λ x. ap (λ (y : ℕ). eqb y v && eqb (bit_at x shift) 1) (half x shift) ∙ half_one (x / 2 ^ shift) v) sequence

-- all nodes parted are those of the next level
pub halves_ordered : (sequence : List ℕ) (shift n : ℕ) → flat_map (halves shift sequence) (range_with_len 0 n) ≡ ordered sequence shift (2 * n)
unfolding ordered
halves_ordered sequence shift zero = refl
halves_ordered sequence shift (suc n) =
    let ih = halves_ordered sequence shift n in
    let e : suc n ≡ n + 1 = omega arith in
    let f : 2 * suc n ≡ (2 * n + 1) + 1 = omega arith in
    let g = with_top sequence shift in
    ap (λ (m : ℕ). flat_map (halves shift sequence) (range_with_len 0 m)) e
    ∙ ap (flat_map (halves shift sequence)) (range_more n) ∙ flat_map-append (halves shift sequence) (range_with_len 0 n) (n ∷ [])
    ∙ ap (λ ys. flat_map (halves shift sequence) (range_with_len 0 n) ++ ys) (append-nil (halves shift sequence n))
    ∙ ap (λ ys. ys ++ halves shift sequence n) ih
    ∙ ap (λ ys. ordered sequence shift (2 * n) ++ (ys ++ ones_of shift (with_top sequence (suc shift) n))) (zeros_top sequence shift n)
    ∙ ap (λ ys. ordered sequence shift (2 * n) ++ (with_top sequence shift (2 * n) ++ ys)) (ones_top sequence shift n)
    ∙ sym (append_assoc (ordered sequence shift (2 * n)) (with_top sequence shift (2 * n)) (with_top sequence shift (2 * n + 1)))
    ∙ ap (λ ys. ys ++ with_top sequence shift (2 * n + 1)) (sym (ordered_more sequence shift (2 * n)))
    ∙ sym (ordered_more sequence shift (2 * n + 1))
    ∙ ap (ordered sequence shift) (sym f)

-- parted from the first on, an order is the next
pub parted_all : (sequence : List ℕ) (shift n : ℕ) → parted shift 0 [] (ordered sequence (shift + 1) n) ≡ ordered sequence shift (2 * n)
unfolding ordered
parted_all sequence shift n =
    let e : shift + 1 ≡ suc shift = omega arith in
    ap (λ (s : ℕ). parted shift 0 [] (ordered sequence s n)) e ∙ nodes shift sequence n 0 0 [] (inr refl) ∙ halves_ordered sequence shift n

-- the numbers that are parted so far, and those that wait, where the next one's run has begun
pub record IsFlushed (shift x : ℕ) (rest all : List ℕ) (last : ℕ) (ones held : List ℕ) : Type 0 where
  pub top_is : last ≡ x / 2 ^ suc shift
  pub whole : held ++ parted shift last ones (x ∷ rest) ≡ all

pub flushed : (shift x last last' : ℕ) (rest all ones held ones' held' : List ℕ) → (x / 2 ^ suc shift ≡ last → ⊥) → last' ≡ x / 2 ^ suc shift
    → held' ≡ held ++ ones → ones' ≡ [] → held ++ parted shift last ones (x ∷ rest) ≡ all → IsFlushed shift x rest all last' ones' held'
flushed shift x last last' rest all ones held ones' held' other top held_is ones_is before = record {
  top_is = top;
  whole =
      ap (λ ys. ys ++ parted shift last' ones' (x ∷ rest)) held_is ∙ ap (λ ys. (held ++ ones) ++ parted shift last' ys (x ∷ rest)) ones_is
      ∙ ap (λ (v : ℕ). (held ++ ones) ++ parted shift v [] (x ∷ rest)) top
      ∙ append_assoc held ones (parted shift (x / 2 ^ suc shift) [] (x ∷ rest))
      ∙ ap (λ ys. held ++ ys) (sym (anew shift last ones x rest other)) ∙ before;
}

pub kept : (shift x last last' : ℕ) (rest all ones held ones' held' : List ℕ) → x / 2 ^ suc shift ≡ last → last' ≡ last
    → held' ≡ held → ones' ≡ ones → held ++ parted shift last ones (x ∷ rest) ≡ all → IsFlushed shift x rest all last' ones' held'
kept shift x last last' rest all ones held ones' held' same last_is held_is ones_is before = record {
  top_is = last_is ∙ sym same;
  whole =
      ap (λ ys. ys ++ parted shift last' ones' (x ∷ rest)) held_is ∙ ap (λ ys. held ++ parted shift last' ys (x ∷ rest)) ones_is
      ∙ ap (λ (v : ℕ). held ++ parted shift v ones (x ∷ rest)) last_is ∙ before;
}

-- a number with a one waits
pub took_one : (shift x last : ℕ) (rest all ones held ones' held' : List ℕ) → IsFlushed shift x rest all last ones held → bit_at x shift ≡ 1
    → held' ≡ held → ones' ≡ ones ++ x ∷ [] → held' ++ parted shift last ones' rest ≡ all
unfolding parted
took_one shift x last rest all ones held ones' held' is one held_is ones_is =
    let same : eqb (x / 2 ^ suc shift) last ≡ true = eq-eqb _ last (sym is.top_is) in
    let digit : eqb (bit_at x shift) 1 ≡ true = eq-eqb _ 1 one in
    ap (λ ys. ys ++ parted shift last ones' rest) held_is ∙ ap (λ ys. held ++ parted shift last ys rest) ones_is
    ∙ ap (λ ys. held ++ ys) (sym (cond-true (eqb (x / 2 ^ suc shift) last) _ _ same ∙ cond-true (eqb (bit_at x shift) 1) _ _ digit)) ∙ is.whole

-- a number with a zero goes on
pub took_zero : (shift x last : ℕ) (rest all ones held ones' held' : List ℕ) → IsFlushed shift x rest all last ones held → (bit_at x shift ≡ 1 → ⊥)
    → held' ≡ held ++ x ∷ [] → ones' ≡ ones → held' ++ parted shift last ones' rest ≡ all
unfolding parted
took_zero shift x last rest all ones held ones' held' is other held_is ones_is =
    let same : eqb (x / 2 ^ suc shift) last ≡ true = eq-eqb _ last (sym is.top_is) in
    let digit : eqb (bit_at x shift) 1 ≡ false = ne_eqb _ 1 other in
    ap (λ ys. ys ++ parted shift last ones' rest) held_is ∙ ap (λ ys. (held ++ x ∷ []) ++ parted shift last ys rest) ones_is
    ∙ append_assoc held (x ∷ []) (parted shift last ones rest)
    ∙ ap (λ ys. held ++ ys) (sym (cond-true (eqb (x / 2 ^ suc shift) last) _ _ same ∙ cond-false (eqb (bit_at x shift) 1) _ _ digit)) ∙ is.whole

-- nothing is left to part
pub parted_end : (shift last : ℕ) (ones : List ℕ) → parted shift last ones [] ≡ ones
unfolding parted
parted_end shift last ones = refl
