use Rattle.std.proofs.Common.{◌∙◌, Bor, Some, not, ◌&&◌, map, filter, ap}
use Rattle.ts_model.specs.declared.signed.SignedTriple.{SignedTriple}
use Rattle.ts_model.specs.History.{content_at_parent}
use Rattle.ts_model.specs.NetChange.{is_added, is_removed}
use Rattle.ts_model.specs.Sets.{contains}
use Rattle.ts_plain.specs.History.{history_of}
use Rattle.ts_plain.proofs.NetLaws.{additions_are, removals_are}
use Rattle.ts_plain.proofs.net.net_change.Goals as goal

pub returns-clause-additions : goal.returns-clause-additions
returns-clause-additions c =
    let before = content_at_parent (history_of c.args.layers.now) c.args.parent in
    let lines = c.in_ok-lines.lines.items in
    c.in_ok-additions.ensures
    ∙ ap (λ lines. map (λ line. line.now.triple) (filter (λ (line : Bor SignedTriple). is_added (Some line.now.sign) && not (contains before line.now.triple)) lines)) c.deref.ensures.value
    ∙ additions_are before c.args.body.now lines c.in_ok-lines.ensures.triples c.in_ok-lines.ensures.signs

pub returns-clause-removals : goal.returns-clause-removals
returns-clause-removals c =
    let before = content_at_parent (history_of c.args.layers.now) c.args.parent in
    let lines = c.in_ok-lines.lines.items in
    c.in_ok-removals.ensures
    ∙ ap (λ lines. map (λ line. line.now.triple) (filter (λ (line : Bor SignedTriple). is_removed (Some line.now.sign) && contains before line.now.triple) lines)) c.deref-2.ensures.value
    ∙ removals_are before c.args.body.now lines c.in_ok-lines.ensures.triples c.in_ok-lines.ensures.signs
