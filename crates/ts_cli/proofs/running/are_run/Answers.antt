use Rattle.std.proofs.Common.{◌≡◌, ℕ, ◌≤◌, ◌<◌, Bool, true, false, true≢false, List, [], ◌∷◌, length, map, get_or, string_bytes, String, Global, Decides, MatchBool, refl, sym, ap, ◌∙◌, arith}
use Rattle.std.specs.Prelude.{codes}
use Rattle.std.proofs.Math.Dec.{eqb}
use Rattle.std.specs.Cmp.Lexicographic.{pointwise}
use Rattle.std.proofs.lemmas.Slice.Eq.{slice_eq-Decides}
use Rattle.std.proofs.lemmas.Bool.Decides.{Decides-eqb}
use Rattle.ts_cli.specs.Asked.{AreRun}
use Rattle.ts_cli.proofs.running.are_run.Goals as goal

by_test : (r : Bool) (P : Type 0) → Decides r P → MatchBool r P (P → ⊥)
by_test true P tells = tells.0 refl
by_test false P tells = λ p. true≢false (sym (tells.1 p))

one_word : (words : List (String Global)) (word : String Global) (r : Bool) → 1 ≤ length words → length words < 2 → word ≡ get_or words 0 word
    → Decides r (string_bytes word ≡ codes "run") → MatchBool r (AreRun (map string_bytes words)) (AreRun (map string_bytes words) → ⊥)
one_word [] word r some few is tells = absurd (omega (arith, some))
one_word (w ∷ []) word r some few is tells = by_test r (AreRun (string_bytes w ∷ [])) (
  λ e. let same : string_bytes w ≡ codes "run" = sym (ap string_bytes is) ∙ tells.0 e in (λ i. same i ∷ []),
  λ run. tells.1 (ap string_bytes is ∙ ap (λ (ws : List (List ℕ)). get_or ws 0 []) run),
)
one_word (a ∷ b ∷ words) word r some few is tells = absurd (omega (arith, few))

pub returns-in-len1 : goal.returns-in-len1
returns-in-len1 c =
    one_word c.args.words.now c.word-item.result c.eq.result c.in-len1.len_at_least c.in-len1.len_below c.word-item.is
    (slice_eq-Decides Decides-eqb (string_bytes c.word-item.result) (codes "run") c.eq.result (c.eq.ensures ∙ ap (λ (l : List ℕ). pointwise eqb l (codes "run")) c.as_str.ensures.value))
