use Rattle.std.proofs.Common.{◌<◌, [], ◌∷◌, ◌++◌, take, length, sym, ap, ◌∙◌, subst, arith, append_assoc}
use Rattle.std.proofs.lemmas.List.{flat_map_more, take_more}
use Rattle.std.proofs.lemmas.List.Elements.{All-more}
use Rattle.ts_model.specs.TextTriple.{TextTriple, IsTriple}
use Rattle.ts_plain.specs.PlainFile.{change_line, change_lines}
use Rattle.ts_plain.proofs.write.write_changes.Goals as goal

pub loop-triple-preserved : goal.loop-triple-preserved
loop-triple-preserved c =
    let triples = c.args.triples.now in
    let i = c.loop-triple.triple-index in
    let triple = c.triple-item.result in
    let sign = c.args.sign in
    let written = c.args.into.now.items in
    let below : i < length triples = omega arith in
    let inv = c.loop-triple.invariant in
    record {
      lines =
          c.in_ok-write_change.ensures.line
          ∙ ap (λ l. l ++ change_line sign triple) inv.lines
          ∙ append_assoc written (change_lines sign (take i triples)) (change_line sign triple)
          ∙ ap (λ l. written ++ l) (
          flat_map_more (change_line sign) [] (take i triples) triple
          ∙ ap (change_lines sign) (ap (λ (x : TextTriple). take i triples ++ x ∷ []) c.triple-item.is ∙ sym (take_more triples i triple below))
          );
      terms = All-more IsTriple triples i triple below inv.terms (subst IsTriple c.triple-item.is c.in_ok-write_change.ensures.terms);
    }
