use Rattle.std.proofs.Common.{chars}
use Rattle.ts_nt.specs.Items.{string_item}
use Rattle.ts_nt.proofs.ItemLaws.{string_item-end}
use Rattle.ts_nt.proofs.ReadsLaws.{none_between}
use Rattle.ts_nt.proofs.delimited.read_string.Goals as goal

pub returns-in_default-after_char : goal.returns-in_default-after_char
returns-in_default-after_char c = λ spelling rest found.
    let read = c.in_ok-rest.ensures in
    none_between string_item 0x22 0x22 string_item-end (chars c.args.text.now) (chars c.in-Some.inside.now) (chars c.in_ok-rest.rest.now) read.0
    c.in-Some.ensures.some read.1 read.2 c.in_default-after_char.ensures.none
    found.1.inside found.0 rest found.1.begins found.1.reads
