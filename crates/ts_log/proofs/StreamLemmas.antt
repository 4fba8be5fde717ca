use Rattle.std.proofs.Common.{◌≡◌, ℕ, ◌+◌, ◌-◌, ◌*◌, ◌/◌, ◌%◌, ◌^◌, ◌<◌, ◌≤◌, List, [], ◌∷◌, ◌++◌, length, refl, sym, ◌∙◌, ap, subst, arith, length-append, append_assoc, append-nil}
use Rattle.std.specs.Int.{w64, to_be_bytes}
use Rattle.std.proofs.lemmas.Nat.{pow_pos, pow-add, shr_split, shr_below, shl_below, mod_below, mul-add-lt}
use Rattle.ts_log.specs.Groups.{joined}
use Rattle.ts_log.specs.LogArray.{words_for, packed}
use Rattle.ts_log.proofs.GroupsLemmas.{Below, Below-append, joined-append}
use Rattle.ts_log.proofs.ControlLemmas.{Below-to_be_bytes, joined-to_be_bytes}
use Rattle.ts_log.proofs.ArrayLemmas.{padding_for, packed_from_joined}

-- the numbers taken stand in whole words after `start`, and in the `filled` digits of `pending`
pub record IsStreamed (w : ℕ) (taken start bytes : List ℕ) (pending filled : ℕ) : Type 0 where
  pub body : List ℕ
  pub appended : bytes ≡ start ++ body
  pub whole : length body % 8 ≡ 0
  pub fit : Below (2 ^ 8) body
  pub partial : filled < 64
  pub small : pending < 2 ^ filled
  pub size : 8 * length body + filled ≡ w * length taken
  pub number : joined 8 body * 2 ^ filled + pending ≡ joined w taken

joined-push : (w : ℕ) (xs : List ℕ) (x : ℕ) → joined w (xs ++ x ∷ []) ≡ joined w xs * 2 ^ w + x
unfolding joined
joined-push w xs x =
    let one : w * 1 ≡ w = omega arith in
    let none : 2 ^ (w * 0) ≡ 1 = ap (λ k. 2 ^ k) (let g : w * 0 ≡ 0 = omega arith in g) in
    joined-append w xs (x ∷ []) ∙ rw (one, none) (omega arith)

pub stream_start : (w : ℕ) (start : List ℕ) → IsStreamed w [] start start 0 0
unfolding joined
stream_start w start = record {
  body = [];
  appended = sym (append-nil start);
  whole = refl;
  fit = tt;
  partial = omega arith;
  small = omega arith;
  size = omega arith;
  number = refl;
}

-- the digits of one number more
pub pushed_small : (w x pending filled : ℕ) → pending < 2 ^ filled → x < 2 ^ w → pending * 2 ^ w + x < 2 ^ (filled + w)
pushed_small w x pending filled h k =
    omega (arith, mul-add-lt pending (2 ^ w) x (2 ^ filled) h k, pow-add 2 w filled, ap (λ p. 2 ^ p) (let g : w + filled ≡ filled + w = omega arith in g))

pub stream_partial : (w x : ℕ) (taken start bytes : List ℕ) (pending filled : ℕ) → IsStreamed w taken start bytes pending filled
    → x < 2 ^ w → filled + w < 64 → IsStreamed w (taken ++ x ∷ []) start bytes (pending * 2 ^ w + x) (filled + w)
stream_partial w x taken start bytes pending filled s h k = record {
  body = s.body;
  appended = s.appended;
  whole = s.whole;
  fit = s.fit;
  partial = k;
  small = pushed_small w x pending filled s.small h;
  size = omega (arith, s.size, ap (λ n. w * n) (length-append taken (x ∷ [])));
  number =
      (let both : 2 ^ (filled + w) ≡ 2 ^ filled * 2 ^ w = pow-add 2 filled w in
      let spread : joined 8 s.body * 2 ^ (filled + w) ≡ joined 8 s.body * (2 ^ filled * 2 ^ w) = ap (λ p. joined 8 s.body * p) both in
      let scaled : (joined 8 s.body * 2 ^ filled + pending) * 2 ^ w ≡ joined w taken * 2 ^ w = ap (λ n. n * 2 ^ w) s.number in
      omega (arith, joined-push w taken x));
}

-- a word that is full
pub stream_word : (w x : ℕ) (taken start bytes : List ℕ) (pending filled rest : ℕ) → IsStreamed w taken start bytes pending filled
    → x < 2 ^ w → w ≤ 64 → filled + w ≡ 64 + rest
    → IsStreamed w (taken ++ x ∷ []) start (bytes ++ to_be_bytes w64 ((pending * 2 ^ w + x) / 2 ^ rest)) ((pending * 2 ^ w + x) % 2 ^ rest) rest
stream_word w x taken start bytes pending filled rest s h k m =
    let new : ℕ = pending * 2 ^ w + x in
    let small : new < 2 ^ (64 + rest) = subst (λ p. new < 2 ^ p) m (pushed_small w x pending filled s.small h) in
    let word : ℕ = new / 2 ^ rest in
    let word_small : word < 2 ^ 64 = shr_below new 64 rest small in
    let full : List ℕ = to_be_bytes w64 word in
    record {
      body = s.body ++ full;
      appended = ap (λ t. t ++ full) s.appended ∙ append_assoc start s.body full;
      whole = omega (arith, s.whole, length-append s.body full);
      fit = Below-append (2 ^ 8) s.body full s.fit (Below-to_be_bytes word);
      partial = omega (arith, s.partial);
      small = mod_below new (2 ^ rest) (pow_pos rest);
      size = omega (arith, s.size, length-append s.body full, ap (λ n. w * n) (length-append taken (x ∷ [])));
      number =
          (let a : ℕ = joined 8 s.body in
          let body : joined 8 (s.body ++ full) ≡ a * 2 ^ 64 + word =
          joined-append 8 s.body full ∙ ap (λ n. a * 2 ^ 64 + n) (joined-to_be_bytes word word_small) in
          let scaled : joined 8 (s.body ++ full) * 2 ^ rest ≡ (a * 2 ^ 64 + word) * 2 ^ rest = ap (λ n. n * 2 ^ rest) body in
          let powers : 2 ^ 64 * 2 ^ rest ≡ 2 ^ filled * 2 ^ w =
          sym (pow-add 2 64 rest) ∙ ap (λ p. 2 ^ p) (sym m) ∙ pow-add 2 filled w in
          let spread : a * (2 ^ 64 * 2 ^ rest) ≡ a * (2 ^ filled * 2 ^ w) = ap (λ p. a * p) powers in
          let before : (a * 2 ^ filled + pending) * 2 ^ w ≡ joined w taken * 2 ^ w = ap (λ n. n * 2 ^ w) s.number in
          omega (arith, joined-push w taken x, shr_split new rest));
    }

-- the last word, which zeros fill
pub stream_end : (w : ℕ) (xs start bytes : List ℕ) (pending filled : ℕ) → Below (2 ^ w) xs → IsStreamed w xs start bytes pending filled
    → 0 < filled → bytes ++ to_be_bytes w64 (pending * 2 ^ (64 - filled)) ≡ start ++ packed w xs
unfolding words_for
stream_end w xs start bytes pending filled b s h =
    let a : ℕ = joined 8 s.body in
    let free : ℕ = 64 - filled in
    let word : ℕ = pending * 2 ^ free in
    let full : List ℕ = to_be_bytes w64 word in
    let all : filled + free ≡ 64 = omega (arith, s.partial) in
    let word_small : word < 2 ^ 64 = subst (λ p. word < 2 ^ p) all (shl_below pending filled free s.small) in
    let padding : padding_for w (length xs) ≡ free = omega (arith, s.size, s.whole, s.partial) in
    let powers : 2 ^ 64 ≡ 2 ^ filled * 2 ^ free = ap (λ p. 2 ^ p) (sym all) ∙ pow-add 2 filled free in
    let body : joined 8 (s.body ++ full) ≡ a * 2 ^ 64 + word =
    joined-append 8 s.body full ∙ ap (λ n. a * 2 ^ 64 + n) (joined-to_be_bytes word word_small) in
    let spread : a * 2 ^ 64 ≡ a * (2 ^ filled * 2 ^ free) = ap (λ p. a * p) powers in
    let scaled : (a * 2 ^ filled + pending) * 2 ^ free ≡ joined w xs * 2 ^ free = ap (λ n. n * 2 ^ free) s.number in
    let number : joined 8 (s.body ++ full) ≡ joined w xs * 2 ^ padding_for w (length xs) =
    omega (arith, body, ap (λ p. joined w xs * 2 ^ p) padding) in
    ap (λ t. t ++ full) s.appended ∙ append_assoc start s.body full
    ∙ ap (λ t. start ++ t) (packed_from_joined w xs (s.body ++ full) b (Below-append (2 ^ 8) s.body full s.fit (Below-to_be_bytes word))
    (omega (arith, s.size, s.whole, s.partial, length-append s.body full)) number)

pub stream_end_whole : (w : ℕ) (xs start bytes : List ℕ) (pending filled : ℕ) → Below (2 ^ w) xs → IsStreamed w xs start bytes pending filled
    → filled ≡ 0 → bytes ≡ start ++ packed w xs
unfolding words_for
stream_end_whole w xs start bytes pending filled b s h =
    let a : ℕ = joined 8 s.body in
    let one : 2 ^ filled ≡ 1 = ap (λ p. 2 ^ p) h in
    let same : a * 2 ^ filled ≡ a * 1 = ap (λ p. a * p) one in
    let padding : padding_for w (length xs) ≡ 0 = omega (arith, s.size, s.whole) in
    let shift : joined w xs * 2 ^ padding_for w (length xs) ≡ joined w xs * 1 = ap (λ p. joined w xs * 2 ^ p) padding in
    let number : a ≡ joined w xs * 2 ^ padding_for w (length xs) =
    omega (arith, s.number, s.small) in
    s.appended ∙ ap (λ t. start ++ t) (packed_from_joined w xs s.body b s.fit (omega (arith, s.size, s.whole)) number)
