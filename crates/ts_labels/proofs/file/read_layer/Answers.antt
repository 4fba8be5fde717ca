use Rattle.ts_labels.proofs.FileLaws.{no_word}
use Rattle.ts_labels.proofs.file.read_layer.Goals as goal

pub returns-in-0 : goal.returns-in-0
returns-in-0 c = no_word c.in_ok-number.number c.args.word.now c.in-0.is c.in_ok-number.ensures.value
