use Rattle.std.proofs.Common.{◌≡◌, ◌+◌, ◌-◌, ◌^◌, ◌<◌, ◌≤◌, ◌++◌, List, ℕ, take, drop, length, arith, sym, ◌∙◌, ap, length-drop, length-append, refl, append_assoc}
use Rattle.std.proofs.lemmas.List.{take_rest, take_at, length-take-le, take-take, take-append-drop, drop-take}
use Rattle.ts_vbyte.specs.Spelling.{spelling, NumberSays}
use Rattle.ts_vbyte.proofs.SpellingLemmas.{spelling_cancels}
use Rattle.ts_front.specs.Dictionary.{whole}
use Rattle.ts_front.proofs.piece.read_whole.Goals as goal

-- a whole text begins with the spelling of its length
length_says : (bytes text rest : List ℕ) → length text < 2 ^ 64 → bytes ≡ whole text ++ rest → NumberSays (take (length (spelling (length text))) bytes) (length text)
unfolding whole
length_says bytes text rest h e = record {
  spelled = ap (take (length (spelling (length text)))) (e ∙ append_assoc (spelling (length text)) text rest)
      ∙ take_at (spelling (length text)) (text ++ rest) (length (spelling (length text))) refl;
  fits = h;
}

length_read : (bytes text rest : List ℕ) (size count : ℕ) → bytes ≡ whole text ++ rest → size ≤ length bytes → NumberSays (take size bytes) count
    → (count ≡ length text) × (drop size bytes ≡ text ++ rest)
unfolding whole
length_read bytes text rest size count e h says =
    spelling_cancels count (length text) (drop size bytes) (text ++ rest)
    (ap (λ l. l ++ drop size bytes) (sym says.spelled) ∙ take-append-drop size bytes ∙ e ∙ append_assoc (spelling (length text)) text rest)

whole_of_parts : (bytes : List ℕ) (size count : ℕ) → size ≤ length bytes → count ≤ length bytes - size → NumberSays (take size bytes) count
    → take (size + count) bytes ≡ whole (take count (drop size bytes))
unfolding whole
whole_of_parts bytes size count h k says =
    let many : length (take count (drop size bytes)) ≡ count = length-take-le count (drop size bytes) (omega (arith, length-drop size bytes)) in
    sym (take-append-drop size (take (size + count) bytes))
    ∙ ap (λ l. l ++ drop size (take (size + count) bytes)) (take-take size (size + count) bytes (omega arith) ∙ says.spelled)
    ∙ ap (λ l. spelling count ++ l) (drop-take size count bytes)
    ∙ ap (λ n. spelling n ++ take count (drop size bytes)) (sym many)

pub returns-in_err-count-clause-none : goal.returns-in_err-count-clause-none
returns-in_err-count-clause-none c = rw c.from_residual.ensures (λ text rest small e.
    c.in_err-count.ensures.none (length (spelling (length text))) (length text) (length_says c.args.bytes.now text rest small e))

pub returns-then-count-rest-clause-none : goal.returns-then-count-rest-clause-none
returns-then-count-rest-clause-none c = λ text rest small e.
    let found = c.in_ok-count.ensures.some in
    let both = length_read c.args.bytes.now text rest c.in_ok-count.size c.in_ok-count.count e found.0 found.1 in
    omega (arith, both.0, ap length both.1, length-append text rest, length-drop c.in_ok-count.size c.args.bytes.now, c.if-count-rest.true)

pub returns-clause-some : goal.returns-clause-some
returns-clause-some c =
    let bytes = c.args.bytes.now in
    let size = c.in_ok-count.size in
    let count = c.in_ok-count.count in
    let found = c.in_ok-count.ensures.some in
    let inside : count ≤ length bytes - size =
    omega (arith, ap length (take_rest bytes size), length-drop size bytes, c.if-count-rest.false) in
    rw (take_rest bytes size)
    (let total : size + count ≤ length bytes = omega (arith, found.0) in
    (total, whole_of_parts bytes size count found.0 inside found.1))
