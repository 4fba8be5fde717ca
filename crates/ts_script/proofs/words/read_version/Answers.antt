use Rattle.std.proofs.Common.{◌≡◌, Ok, sym, ◌∙◌}
use Rattle.std.proofs.lemmas.Fmt.{parse-decimal}
use Rattle.ts_script.proofs.WordLemmas.{one_number, other_text}
use Rattle.ts_script.proofs.words.read_version.Goals as goal

pub returns-in_default-clause-none : goal.returns-in_default-clause-none
returns-in_default-clause-none c = λ version is.
    let parsed : c.parse.result ≡ Ok version = parse-decimal 64 version c.args.word.now c.parse.result is.0 is.0 is.1 c.parse.ensures.value.0 in
    absurd (c.in_default.not-Ok version parsed)

pub returns-else-eq-clause-none : goal.returns-else-eq-clause-none
returns-else-eq-clause-none c = λ version is.
    let parsed : c.parse.result ≡ Ok version = parse-decimal 64 version c.args.word.now c.parse.result is.0 is.0 is.1 c.parse.ensures.value.0 in
    let same : c.in-Ok.version ≡ version = one_number c.parse.result c.in-Ok.version version c.in-Ok.is parsed in
    other_text c.format.result.now c.args.word.now c.in-Ok.version version c.format.ensures.text is.1 same (sym c.eq.ensures ∙ c.if-eq.false)
