use Rattle.std.proofs.Common.{◌≡◌, arith}
use Rattle.ts_script.proofs.WordLemmas.{count_same}
use Rattle.ts_script.proofs.words.read_count.Goals as goal

pub returns-then-n-lt1-clause-none : goal.returns-then-n-lt1-clause-none
returns-then-n-lt1-clause-none c = λ n is.
    let same : n ≡ c.in-Some.n = count_same c.args.word.now c.in-Some.n n c.in-Some.ensures.some is in omega (arith, same, is.0)

pub returns-then-n-gt65536-clause-none : goal.returns-then-n-gt65536-clause-none
returns-then-n-gt65536-clause-none c = λ n is.
    let same : n ≡ c.in-Some.n = count_same c.args.word.now c.in-Some.n n c.in-Some.ensures.some is in omega (arith, same, is.1)
