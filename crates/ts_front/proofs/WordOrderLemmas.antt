use Rattle.std.proofs.Common.{◌≡◌, ◌≢◌, ℕ, ◌+◌, ◌*◌, ◌^◌, ◌<◌, ◌≤◌, List, [], ◌∷◌, ◌++◌, length, take, drop, refl, sym, ◌∙◌, ap, arith, inl, inr, length-take-le}
use Rattle.std.specs.Cmp.Lexicographic.{slice_cmp, nat_list_cmp_total}
use Rattle.std.specs.Ordering.{nat_cmp, ordering_reverse}
use Rattle.std.specs.declared.cmp.Ordering.TheVariants.{Less, Greater}
use Rattle.std.proofs.lemmas.Bool.{cases_order}
use Rattle.std.proofs.lemmas.Bool.Decides.{nat_tests}
use Rattle.std.proofs.lemmas.List.{take-append-drop}
use Rattle.std.proofs.lemmas.Nat.{mul-le}
use Rattle.ts_log.specs.Groups.{joined}
use Rattle.ts_log.proofs.GroupsLemmas.{Below, Below-take, joined-lt, same_from_joined}
use Rattle.ts_front.proofs.SharedLemmas.{order_same, order_less}

-- of as many bytes, those that make the lesser number come first
words_less : (xs ys s t : List ℕ) → Below (2 ^ 8) xs → Below (2 ^ 8) ys → length xs ≡ length ys → joined 8 xs < joined 8 ys
    → slice_cmp nat_cmp (xs ++ s) (ys ++ t) ≡ Less
unfolding joined
words_less [] [] s t p q many h = absurd (omega arith)
words_less [] (y ∷ ys) s t p q many h = absurd (omega arith)
words_less (x ∷ xs) [] s t p q many h = absurd (omega arith)
words_less (x ∷ xs) (y ∷ ys) s t p q many h =
    let rest : length xs ≡ length ys = omega arith in
    let unit : 2 ^ (8 * length xs) ≡ 2 ^ (8 * length ys) = ap (λ n. 2 ^ (8 * n)) rest in
    elim (cases_order x y) [
      | inl same ↦
          let scaled : x * 2 ^ (8 * length xs) ≡ y * 2 ^ (8 * length ys) = ap (λ n. n * 2 ^ (8 * length xs)) same ∙ ap (λ n. y * n) unit in
          let less : joined 8 xs < joined 8 ys = omega (arith, scaled, h) in
          ap (λ n. slice_cmp nat_cmp (n ∷ (xs ++ s)) (y ∷ (ys ++ t))) same ∙ order_same y (xs ++ s) (ys ++ t) ∙ words_less xs ys s t p.1 q.1 rest less
      | inr other ↦
          elim other [
            | inl less ↦ order_less x y (xs ++ s) (ys ++ t) less
            | inr more ↦
                let low : joined 8 ys < 2 ^ (8 * length ys) = joined-lt 8 ys q.1 in
                let row : (y + 1) * 2 ^ (8 * length ys) ≤ x * 2 ^ (8 * length ys) = mul-le (y + 1) (2 ^ (8 * length ys)) x (2 ^ (8 * length ys)) (omega arith) (omega arith) in
                let scaled : x * 2 ^ (8 * length xs) ≡ x * 2 ^ (8 * length ys) = ap (λ n. x * n) unit in
                let split : (y + 1) * 2 ^ (8 * length ys) ≡ y * 2 ^ (8 * length ys) + 2 ^ (8 * length ys) = omega arith in
                absurd (omega (arith, h, low, row, scaled, split))
          ]
    ]

words_greater : (xs ys s t : List ℕ) → Below (2 ^ 8) xs → Below (2 ^ 8) ys → length xs ≡ length ys → joined 8 ys < joined 8 xs
    → slice_cmp nat_cmp (xs ++ s) (ys ++ t) ≡ Greater
words_greater xs ys s t p q many h =
    nat_list_cmp_total.antisymm (xs ++ s) (ys ++ t) ∙ ap ordering_reverse (words_less ys xs t s q p (sym many) h)

same_start : (xs s t : List ℕ) → slice_cmp nat_cmp (xs ++ s) (xs ++ t) ≡ slice_cmp nat_cmp s t
same_start [] s t = refl
same_start (x ∷ xs) s t = order_same x (xs ++ s) (xs ++ t) ∙ same_start xs s t

nat_less : (x y : ℕ) → x < y → nat_cmp x y ≡ Less
nat_less x y h = grind (arith, nat_tests)

nat_greater : (x y : ℕ) → y < x → nat_cmp x y ≡ Greater
nat_greater x y h = grind (arith, nat_tests)

split_both : (n : ℕ) (a b : List ℕ) → slice_cmp nat_cmp a b ≡ slice_cmp nat_cmp (take n a ++ drop n a) (take n b ++ drop n b)
split_both n a b =
    ap (λ l. slice_cmp nat_cmp l b) (sym (take-append-drop n a)) ∙ ap (slice_cmp nat_cmp (take n a ++ drop n a)) (sym (take-append-drop n b))

-- where the first words differ, they tell the order
pub words_apart : (a b : List ℕ) → Below (2 ^ 8) a → Below (2 ^ 8) b → 8 ≤ length a → 8 ≤ length b
    → joined 8 (take 8 a) ≢ joined 8 (take 8 b) → nat_cmp (joined 8 (take 8 a)) (joined 8 (take 8 b)) ≡ slice_cmp nat_cmp a b
words_apart a b p q long far other =
    let x : ℕ = joined 8 (take 8 a) in
    let y : ℕ = joined 8 (take 8 b) in
    let many : length (take 8 a) ≡ length (take 8 b) = length-take-le 8 a long ∙ sym (length-take-le 8 b far) in
    elim (cases_order x y) [
      | inl same ↦ absurd (other same)
      | inr apart ↦
          elim apart [
            | inl less ↦
                nat_less x y less ∙ sym (words_less (take 8 a) (take 8 b) (drop 8 a) (drop 8 b) (Below-take (2 ^ 8) 8 a p) (Below-take (2 ^ 8) 8 b q) many less)
                ∙ sym (split_both 8 a b)
            | inr more ↦
                nat_greater x y more ∙ sym (words_greater (take 8 a) (take 8 b) (drop 8 a) (drop 8 b) (Below-take (2 ^ 8) 8 a p) (Below-take (2 ^ 8) 8 b q) many more)
                ∙ sym (split_both 8 a b)
          ]
    ]

-- and where they are the same, what follows does
pub words_same : (a b : List ℕ) → Below (2 ^ 8) a → Below (2 ^ 8) b → 8 ≤ length a → 8 ≤ length b
    → joined 8 (take 8 a) ≡ joined 8 (take 8 b) → slice_cmp nat_cmp a b ≡ slice_cmp nat_cmp (drop 8 a) (drop 8 b)
words_same a b p q long far same =
    let many : length (take 8 a) ≡ length (take 8 b) = length-take-le 8 a long ∙ sym (length-take-le 8 b far) in
    let word : take 8 a ≡ take 8 b = same_from_joined 8 (take 8 a) (take 8 b) (Below-take (2 ^ 8) 8 a p) (Below-take (2 ^ 8) 8 b q) many same in
    split_both 8 a b ∙ ap (λ l. slice_cmp nat_cmp (l ++ drop 8 a) (take 8 b ++ drop 8 b)) word ∙ same_start (take 8 b) (drop 8 a) (drop 8 b)
