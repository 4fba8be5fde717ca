use Rattle.std.proofs.Common.{◌≡◌, ◌&&◌, not, map, filter, take, Some}
use Rattle.ts_model.specs.History.{content_at_parent}
use Rattle.ts_model.specs.NetChange.{is_added}
use Rattle.ts_model.specs.Sets.{contains}
use Rattle.ts_plain.specs.History.{history_of}
use Rattle.ts_plain.proofs.net.triples_to_add.Given as goal

abbrev pub invariant-loop-line : goal.invariant-loop-line
invariant-loop-line l = l.triples.items ≡ map (λ line. line.now.triple) (filter (λ line.
    is_added (Some line.now.sign) && not (contains (content_at_parent (history_of l.layers) l.parent) line.now.triple)) (take l.line-index l.lines))
