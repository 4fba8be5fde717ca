use Rattle.std.proofs.Common.{sym, subst, ◌++◌}
use Rattle.ts_nt.specs.TripleLine.{triple_line}
use Rattle.ts_store.proofs.PrefixLaws.{prefix_none, triple_lines}
use Rattle.ts_store.proofs.listing.line.Goals as goal
use Rattle.ts_store.specs.Leaves.{AreLines}

pub returns-in-Err-clause-told : goal.returns-in-Err-clause-told
returns-in-Err-clause-told g c =
    let text = c.args.piece.now.items ++ triple_line c.args.triple.now in
    (text, prefix_none text (g.W.Disk.outside c.args.site.now).told)

pub say_long-requires : goal.say_long-requires
say_long-requires g c = subst AreLines (sym c.in-Ok.ensures.ok) (triple_lines c.args.piece.now.items c.args.triple.now)
