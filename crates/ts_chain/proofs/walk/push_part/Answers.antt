use Rattle.std.proofs.Common.{◌≡◌, true, false, ◌++◌, flat_map, append_assoc, ap, sym, ◌∙◌, subst}
use Rattle.ts_plane.specs.Pattern.{walk_of}
use Rattle.ts_plane.specs.Triple.{IsRising}
use Rattle.ts_chain.specs.Streams.{all_named, decided, left_in, left_in_all}
use Rattle.ts_chain.proofs.Decided.{decided-before}
use Rattle.ts_chain.proofs.WalkedLemmas.{rising-walk_of}
use Rattle.ts_chain.proofs.walk.push_part.Goals as goal

pub push_stream-requires : goal.push_stream-requires
push_stream-requires c =
    let triples = c.args.part.now.facts.additions in
    let is : c.walk.result ≡ walk_of triples c.args.pattern c.args.after = c.walk.ensures ∙ ap (λ l. walk_of l c.args.pattern c.args.after) c.additions.ensures in
    subst IsRising (sym is) (rising-walk_of triples c.args.pattern c.args.after c.header.ensures.loaded.rules.lists.additions.list.rising)

pub push_stream-requires-2 : goal.push_stream-requires-2
push_stream-requires-2 c =
    let triples = c.args.part.now.facts.removals in
    let is : c.walk-2.result ≡ walk_of triples c.args.pattern c.args.after = c.walk-2.ensures ∙ ap (λ l. walk_of l c.args.pattern c.args.after) c.removals.ensures in
    subst IsRising (sym is) (rising-walk_of triples c.args.pattern c.args.after c.header.ensures.loaded.rules.lists.removals.list.rising)

pub returns-clause-left : goal.returns-clause-left
returns-clause-left c =
    let had = flat_map left_in c.args.streams.now.items in
    let additions : c.walk.result ≡ walk_of c.args.part.now.facts.additions c.args.pattern c.args.after = c.walk.ensures ∙ ap (λ l. walk_of l c.args.pattern c.args.after) c.additions.ensures in
    let removals : c.walk-2.result ≡ walk_of c.args.part.now.facts.removals c.args.pattern c.args.after = c.walk-2.ensures ∙ ap (λ l. walk_of l c.args.pattern c.args.after) c.removals.ensures in
    let first : left_in_all c.push_stream.new.streams.items ≡ decided (had ++ all_named true c.walk.result) = c.in_ok-push_stream.ensures.left in
    let second : left_in_all c.push_stream-2.new.streams.items ≡ decided (flat_map left_in c.push_stream.new.streams.items ++ all_named false c.walk-2.result) = c.in_ok-push_stream-2.ensures.left in
    second
    ∙ decided-before (flat_map left_in c.push_stream.new.streams.items) (had ++ all_named true c.walk.result) (all_named false c.walk-2.result) first
    ∙ ap decided (append_assoc had (all_named true c.walk.result) (all_named false c.walk-2.result))
    ∙ (λ i. decided (had ++ (all_named true (additions i) ++ all_named false (removals i))))
