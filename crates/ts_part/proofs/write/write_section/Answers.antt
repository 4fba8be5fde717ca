use Rattle.std.proofs.Common.{◌++◌, ◌∙◌, ap, ◌∷◌, [], length, replicate, arith, ◌≤◌}
use Rattle.std.proofs.lemmas.List.{take-replicate}
use Rattle.ts_bits.specs.BitArray.{zeros_after}
use Rattle.ts_part.proofs.WriteLemmas.{content_more, sizes_more}
use Rattle.ts_part.proofs.write.write_section.Goals as goal

pub returns : goal.returns
returns c = λ sections holds.
    let section = c.args.section.now in
    let zeros = c.padding.ensures in
    let few : c.padding.result ≤ 8 = omega arith in
    let front = c.in_ok-extend_from_slice.ensures.items ∙ ap (λ l. l ++ section) holds.content in
    let behind = take-replicate c.padding.result 8 0 few ∙ ap (λ n. replicate n 0) zeros in
    record {
      content = c.in_ok-extend_from_slice-2.ensures.items ∙ ap (λ l. c.extend_from_slice.new.self.items ++ l) behind
          ∙ ap (λ l. l ++ zeros_after (length section)) front ∙ content_more sections section;
      sizes = c.in_ok-push.ensures.items ∙ ap (λ l. l ++ length section ∷ []) holds.sizes ∙ sizes_more sections section;
    }
