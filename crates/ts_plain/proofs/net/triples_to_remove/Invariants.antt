use Rattle.std.proofs.Common.{◌≡◌, ◌&&◌, map, filter, take, Some}
use Rattle.ts_model.specs.History.{content_at_parent}
use Rattle.ts_model.specs.NetChange.{is_removed}
use Rattle.ts_model.specs.Sets.{contains}
use Rattle.ts_plain.specs.History.{history_of}
use Rattle.ts_plain.proofs.net.triples_to_remove.Given as goal

abbrev pub invariant-loop-line : goal.invariant-loop-line
invariant-loop-line l = l.triples.items ≡ map (λ line. line.now.triple) (filter (λ line.
    is_removed (Some line.now.sign) && contains (content_at_parent (history_of l.layers) l.parent) line.now.triple) (take l.line-index l.lines))
