use Rattle.std.proofs.Common.{◌+◌, ◌∷◌, ap, sym, ◌∙◌, drop, arith}
use Rattle.ts_model.specs.TextTerm.{TextTerm}
use Rattle.ts_part.specs.Loaded.{LoadedPart}
use Rattle.ts_chain.specs.Ids.{LacksNew}
use Rattle.ts_chain.proofs.Seeking.{none_found, found_here, found_later, lacks_later}
use Rattle.ts_chain.proofs.Turns.{turn}
use Rattle.ts_chain.proofs.chain.Chain.id_of.Goals as goal

pub returns-then-is_some-clause-found : goal.returns-then-is_some-clause-found
returns-then-is_some-clause-found c =
    let term : TextTerm = record { kind = c.args.kind; spelling = c.args.spelling.now } in
    let rest = drop (c.loop-part.part-index + 1) c.args.self.now in
    let e = turn (λ part. part.value.facts) c.self.inside.parts.items c.deref-part-items.result.now c.args.self.now c.loop-part.part-index c.part-item.result c.self.view_is c.deref-part-items.ensures.value c.part-item.is (omega (arith, c.deref-part-items.ensures.len)) in
    found_here c.deref.result.now.facts rest _ c.args.self.now term (e ∙ ap (λ (p : LoadedPart). p.facts ∷ rest) (sym c.deref.ensures))
    c.number_in-found.result c.number_in-found.ensures.found c.loop-part.invariant.found

pub loop-part-preserved : goal.loop-part-preserved
loop-part-preserved c =
    let term : TextTerm = record { kind = c.args.kind; spelling = c.args.spelling.now } in
    let rest = drop (c.loop-part.part-index + 1) c.args.self.now in
    let e = turn (λ part. part.value.facts) c.self.inside.parts.items c.deref-part-items.result.now c.args.self.now c.loop-part.part-index c.part-item.result c.self.view_is c.deref-part-items.ensures.value c.part-item.is (omega (arith, c.deref-part-items.ensures.len)) in
    let is = e ∙ ap (λ (p : LoadedPart). p.facts ∷ rest) (sym c.deref.ensures) in
    let lacks = none_found c.number_in-found.result (LacksNew c.deref.result.now.facts term) (sym c.is_some.ensures ∙ c.if-is_some.false) c.number_in-found.ensures.absent in
    record {
      found = found_later c.deref.result.now.facts rest _ c.args.self.now term is lacks c.loop-part.invariant.found;
      absent = lacks_later c.deref.result.now.facts rest _ c.args.self.now term is lacks c.loop-part.invariant.absent;
    }
