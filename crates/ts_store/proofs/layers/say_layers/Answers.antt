use Rattle.std.proofs.Common.{◌++◌, [], Err, codes, decimal, filter, flat_map, false, length, List, ℕ, ◌≡◌, take, refl, sym, subst}
use Rattle.std.proofs.lemmas.List.{take_all}
use Rattle.ts_script.specs.Replies.{reply_text}
use Rattle.ts_script.specs.declared.reply.Reply.TheVariants.{Total}
use Rattle.ts_plain.specs.declared.write.PlainLayer.{PlainLayer}
use Rattle.ts_store.specs.Does.{Answers}
use Rattle.ts_store.specs.Leaves.{AreLines}
use Rattle.ts_store.specs.Listed.{SaysPrefix}
use Rattle.ts_store.proofs.AnswerLaws.{output_alone}
use Rattle.ts_site.proofs.GoesLemmas.{says_more}
use Rattle.ts_store.proofs.LayersLaws.{every, is_line, layer_line, layers_said}
use Rattle.ts_store.proofs.PrefixLaws.{line_failed, line_is_longer, line_said, list_done}
use Rattle.ts_store.proofs.layers.say_layers.Goals as goal

pub loop-layer-preserved : goal.loop-layer-preserved
loop-layer-preserved g c =
    let before = c.loop-layer.invariant in
    let now = c.in-Ok.ensures.answers in
    let old = g.W.Disk.outside c.args.site.now in
    let between = g.W.Disk.outside c.loop-layer.site in
    let new = g.W.Disk.outside c.reply.new.site in
    record {
      told = line_said every layer_line c.args.layers.now c.loop-layer.layer-index c.layer-item.result c.loop-layer-test.true c.layer-item.is refl old.told between.told new.told before.told
          (is_line c.layer-item.result) now.told;
      says = says_more false old between new before.says now.says;
    }

pub returns-in-Err-clause-answers : goal.returns-in-Err-clause-answers
returns-in-Err-clause-answers g c =
    let before = c.loop-layer.invariant in
    let now = c.in-Err.ensures.answers in
    let layers = c.args.layers.now in
    let old = g.W.Disk.outside c.args.site.now in
    let between = g.W.Disk.outside c.loop-layer.site in
    let new = g.W.Disk.outside c.reply.new.site in
    subst (λ (text : List ℕ). Answers text false (Err c.in-Err.stop) old new) (sym (layers_said layers c.requires)) (record {
      kind = tt;
      told = line_failed every layer_line layers c.loop-layer.layer-index c.layer-item.result c.loop-layer-test.true c.layer-item.is refl old.told between.told new.told before.told
          c.in-Err.stop (reply_text (Total (length layers))) c.in-Err.ensures.why (line_is_longer (codes "total " ++ decimal (length layers))) now.told;
      says = says_more _ old between new before.says now.says;
    })

pub returns-clause-answers : goal.returns-clause-answers
returns-clause-answers g c =
    let before = c.loop-layer.invariant in
    let said = c.reply-2.ensures.answers in
    let layers = c.args.layers.now in
    let old = g.W.Disk.outside c.args.site.now in
    let between = g.W.Disk.outside c.loop-layer.site in
    let new = g.W.Disk.outside c.reply-2.new.site in
    let whole : take c.loop-layer.layer-index layers ≡ layers = take_all c.loop-layer.layer-index layers c.loop-layer-test.false in
    subst (λ (text : List ℕ). Answers text false c.reply-2.result old new) (sym (layers_said layers c.requires)) (record {
      kind = said.kind;
      told = list_done c.reply-2.result (flat_map layer_line (filter every layers)) (reply_text (Total (length layers))) old.told between.told new.told [] (output_alone c.reply-2.result c.reply-2.ensures.why)
          (subst (λ (ls : List PlainLayer). SaysPrefix AreLines (flat_map layer_line (filter every ls)) old.told between.told []) whole before.told) said.told;
      says = says_more _ old between new before.says said.says;
    })
