use Rattle.std.proofs.Common.{◌≡◌, ◌++◌, ◌∙◌, List, Err, false, filter, flat_map, take, ap, refl, subst}
use Rattle.std.proofs.lemmas.List.{take_all}
use Rattle.ts_model.specs.TextTriple.{TextTriple}
use Rattle.ts_nt.specs.TripleLine.{triple_line}
use Rattle.ts_script.specs.Replies.{reply_text}
use Rattle.ts_store.specs.Does.{Answers}
use Rattle.ts_store.specs.Leaves.{AreLines}
use Rattle.ts_store.specs.Listed.{SaysPrefix}
use Rattle.ts_site.proofs.GoesLemmas.{says_more}
use Rattle.ts_store.proofs.PrefixLaws.{each, each_one, lines_ended, lines_more, list_done, list_ended, reply_is_longer}
use Rattle.ts_store.proofs.listing.list_to.Goals as goal

pub loop-triple-preserved : goal.loop-triple-preserved
loop-triple-preserved g c =
    let before = c.loop-triple.invariant in
    let now = c.in-Ok.ensures in
    let old = g.W.Disk.outside c.args.site.now in
    let between = g.W.Disk.outside c.loop-triple.site in
    let new = g.W.Disk.outside c.line.new.site in
    record {
      told = lines_more each triple_line c.args.triples.now c.loop-triple.triple-index c.triple-item.result c.loop-triple-test.true c.triple-item.is refl old.told between.told new.told
          c.loop-triple.piece.items c.line.new.piece.items before.told now.told;
      says = says_more false old between new before.says now.says;
    }

pub returns-in-Err-clause-answers : goal.returns-in-Err-clause-answers
returns-in-Err-clause-answers g c =
    let before = c.loop-triple.invariant in
    let now = c.in-Err.ensures in
    let triples = c.args.triples.now in
    let total = reply_text c.args.last.now in
    let old = g.W.Disk.outside c.args.site.now in
    let between = g.W.Disk.outside c.loop-triple.site in
    let new = g.W.Disk.outside c.line.new.site in
    subst (λ (these : List TextTriple). Answers (flat_map triple_line these ++ total) false (Err c.in-Err.stop) old new) (each_one triples) (record {
      kind = tt;
      told = let said = now.told in
          list_ended c.in-Err.stop (flat_map triple_line (filter each triples)) total old.told new.told now.why (reply_is_longer c.args.last.now)
          (lines_ended each triple_line triples c.loop-triple.triple-index c.triple-item.result c.loop-triple-test.true c.triple-item.is refl old.told between.told new.told
          c.loop-triple.piece.items said.0 before.told c.in-Err.stop said.1);
      says = says_more _ old between new before.says now.says;
    })

pub returns-clause-answers : goal.returns-clause-answers
returns-clause-answers g c =
    let before = c.loop-triple.invariant in
    let said = c.end.ensures.answers in
    let triples = c.args.triples.now in
    let old = g.W.Disk.outside c.args.site.now in
    let between = g.W.Disk.outside c.loop-triple.site in
    let new = g.W.Disk.outside c.end.new.site in
    let whole : take c.loop-triple.triple-index triples ≡ triples = take_all c.loop-triple.triple-index triples c.loop-triple-test.false in
    let these = ap (filter each) whole ∙ each_one triples in
    record {
      kind = said.kind;
      told = list_done c.end.result (flat_map triple_line triples) (reply_text c.args.last.now) old.told between.told new.told c.loop-triple.piece.items c.end.ensures.why
          (subst (λ (ts : List TextTriple). SaysPrefix AreLines (flat_map triple_line ts) old.told between.told c.loop-triple.piece.items) these before.told)
          said.told;
      says = says_more _ old between new before.says said.says;
    }
