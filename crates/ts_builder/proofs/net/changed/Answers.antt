use Rattle.std.proofs.Common.{◌≡◌, ◌++◌, [], ◌∷◌, map, take, Bor, sym, ap, ◌∙◌, subst, true≢false}
use Rattle.std.specs.Option.{option_map}
use Rattle.std.proofs.lemmas.List.Elements.{All-more}
use Rattle.ts_model.specs.declared.signed.SignedTriple.{SignedTriple}
use Rattle.ts_model.specs.TextTriple.{IsTriple}
use Rattle.ts_chain.specs.Chain.{parts_or_none}
use Rattle.ts_builder.specs.Picks.{IsChange, Picks}
use Rattle.ts_builder.proofs.PickLemmas.{one_more, picks_none, picks_one}
use Rattle.ts_builder.proofs.net.changed.Goals.{then-is_change+in_ok-copy+in_ok-push, else-is_change}
use Rattle.ts_builder.proofs.net.changed.Goals as goal

pub loop-line-preserved : goal.loop-line-preserved
loop-line-preserved c =
    let line = c.line-item.result in
    let P = IsChange c.args.sign (parts_or_none (option_map (λ chain. chain.now) c.args.parent)) in
    let before = map (λ (line : Bor SignedTriple). line.now) (take c.loop-line.line-index c.args.lines.now) in
    let more = one_more c.args.lines.now c.loop-line.line-index line c.loop-line-test.true c.line-item.is in
    record {
      picked = subst (λ lines. Picks P lines c.if-is_change.triples.items) (sym more) (
          elim c.if-is_change.branch [
            | then-is_change+in_ok-copy+in_ok-push w ↦ (
                let pushed : c.if-is_change.triples.items ≡ c.loop-line.triples.items ++ line.now.triple ∷ [] =
                ap (λ triples. triples.items) w.triples-is ∙ w.in_ok-push.ensures.items ∙ ap (λ triple. c.loop-line.triples.items ++ triple ∷ []) w.in_ok-copy.ensures.same in
                subst (Picks P (before ++ line.now ∷ [])) (sym pushed)
                (picks_one P before c.loop-line.triples.items line.now c.loop-line.invariant.picked (c.is_change.ensures.change.0 w.if-is_change.true)))
            | else-is_change w ↦ (
                let stays : c.if-is_change.triples.items ≡ c.loop-line.triples.items = cc in
                subst (Picks P (before ++ line.now ∷ [])) (sym stays)
                (picks_none P before c.loop-line.triples.items line.now c.loop-line.invariant.picked (λ is. true≢false (sym (c.is_change.ensures.change.1 is) ∙ w.if-is_change.false))))
          ]);
      kinds = All-more (λ (line : Bor SignedTriple). line.now.sign ≡ c.args.sign → IsTriple line.now.triple) c.args.lines.now c.loop-line.line-index line c.loop-line-test.true
          c.loop-line.invariant.kinds (subst (λ (line : Bor SignedTriple). line.now.sign ≡ c.args.sign → IsTriple line.now.triple) c.line-item.is c.is_change.ensures.kinds);
    }
