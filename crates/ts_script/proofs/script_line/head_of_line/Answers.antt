use Rattle.std.proofs.Common.{◌≡◌, ◌++◌, List, ℕ, take, sym, ◌∙◌, ap, subst, append-nil}
use Rattle.std.specs.Prelude.{IfOk, IfNone}
use Rattle.ts_script.specs.Heads.{AreNoHead}
use Rattle.ts_script.specs.LineWords.{words_in}
use Rattle.ts_script.specs.Words.{texts}
use Rattle.ts_script.proofs.HeadWords.{no_text}
use Rattle.ts_script.proofs.script_line.head_of_line.Goals as goal

pub returns-in_default-from_utf8-clause-none : goal.returns-in_default-from_utf8-clause-none
returns-in_default-from_utf8-clause-none c =
    let front = texts (take c.loop-word.count c.loop-word.texts) in
    no_text (words_in c.args.line.now) front c.in-Some.word.now (words_in c.in-Some.behind.now)
    (c.loop-word.invariant.words ∙ ap (λ (ws : List (List ℕ)). front ++ ws) c.in-Some.ensures.words) c.in_default-from_utf8.ensures.cases.0

pub returns-clause-none : goal.returns-clause-none
returns-clause-none c =
    let front = texts (take c.loop-word.count c.loop-word.texts) in
    let all : words_in c.args.line.now ≡ front = c.loop-word.invariant.words ∙ ap (λ (ws : List (List ℕ)). front ++ ws) c.in_default.ensures.words ∙ append-nil front in
    subst (λ (ws : List (List ℕ)). IfOk c.head_of.result (λ head. IfNone head (AreNoHead ws))) (sym all) c.head_of.ensures.none
