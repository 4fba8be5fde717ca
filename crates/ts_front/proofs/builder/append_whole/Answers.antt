use Rattle.std.proofs.Common.{◌++◌, length, ◌∙◌, ap, append_assoc}
use Rattle.ts_vbyte.specs.Spelling.{spelling}
use Rattle.ts_front.specs.Dictionary.{whole}
use Rattle.ts_front.proofs.BuilderLemmas.{on_ok_from}
use Rattle.ts_front.proofs.builder.append_whole.Goals as goal

pub returns : goal.returns
unfolding whole
returns c =
    let text = c.args.text.now in
    on_ok_from c.extend_from_slice.new.self.items _ _ c.extend_from_slice.result c.extend_from_slice.ensures.items (λ e.
    e ∙ ap (λ l. l ++ text) c.in_ok-put.ensures.written ∙ append_assoc c.args.into.now.items (spelling (length text)) text)
