use Rattle.std.proofs.Common.{◌++◌, codes, decimal, filter, flat_map, length}
use Rattle.ts_model.specs.Fits.{fits}
use Rattle.ts_nt.specs.TripleLine.{triple_line}
use Rattle.ts_script.specs.Replies.{reply_text}
use Rattle.ts_script.specs.declared.reply.Reply.TheVariants.{Total}
use Rattle.ts_site.proofs.GoesLemmas.{says_more}
use Rattle.ts_store.proofs.PrefixLaws.{list_ended, list_done, line_is_longer, triples_lent}
use Rattle.ts_store.proofs.listing.list.Goals as goal

pub returns-in-Err-clause-answers : goal.returns-in-Err-clause-answers
returns-in-Err-clause-answers g c =
    let these = filter (fits c.args.pattern.now) (triples_lent c.args.triples.now) in
    record {
      kind = tt;
      told = list_ended c.in-Err.stop (flat_map triple_line these) (reply_text (Total (length these))) (g.W.Disk.outside c.args.site.now).told (g.W.Disk.outside c.lines.new.site).told c.in-Err.ensures.why (line_is_longer (codes "total " ++ decimal (length these))) c.in-Err.ensures.told;
      says = c.in-Err.ensures.says;
    }

pub returns-clause-answers : goal.returns-clause-answers
returns-clause-answers g c =
    let these = filter (fits c.args.pattern.now) (triples_lent c.args.triples.now) in
    let said = c.end.ensures.answers in
    record {
      kind = said.kind;
      told =
          list_done c.end.result (flat_map triple_line these) (reply_text (Total (length these))) (g.W.Disk.outside c.args.site.now).told (g.W.Disk.outside c.lines.new.site).told (g.W.Disk.outside c.end.new.site).told
          c.lines.new.piece.items c.end.ensures.why c.in-Ok.ensures.told (rw c.in-Ok.ensures.count at said.told);
      says = says_more _ (g.W.Disk.outside c.args.site.now) (g.W.Disk.outside c.lines.new.site) (g.W.Disk.outside c.end.new.site) c.in-Ok.ensures.says said.says;
    }
