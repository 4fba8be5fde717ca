use Rattle.std.proofs.Common.{arith}
use Rattle.std.proofs.lemmas.Str.Pattern.{strip_prefix_char}
use Rattle.ts_script.proofs.WordLemmas.{no_label_word, no_layer_word}
use Rattle.ts_script.proofs.words.read_ref.Goals as goal

pub returns-in_err-read_label-in-Some-clause-none : goal.returns-in_err-read_label-in-Some-clause-none
returns-in_err-read_label-in-Some-clause-none c =
    let starts = strip_prefix_char 64 c.args.word.now c.strip_prefix.result c.strip_prefix.ensures.cases (omega arith) in
    rw c.from_residual.ensures (no_label_word c.args.word.now c.strip_prefix.result c.in-Some.name starts c.in-Some.is c.in_err-read_label-in-Some.ensures)

pub returns-in_err-read_layer-in-None-clause-none : goal.returns-in_err-read_layer-in-None-clause-none
returns-in_err-read_layer-in-None-clause-none c =
    let starts = strip_prefix_char 64 c.args.word.now c.strip_prefix.result c.strip_prefix.ensures.cases (omega arith) in
    rw c.from_residual-in_err-read_layer-in-None.ensures (no_layer_word c.args.word.now c.strip_prefix.result starts c.in-None.is c.in_err-read_layer-in-None.ensures.none)
