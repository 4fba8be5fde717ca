use Rattle.std.proofs.Common.{◌≡◌, ◌++◌, [], Err, codes, decimal, filter, flat_map, false, length, List, ℕ, take, ◌<◌, refl, sym, ap, subst, arith}
use Rattle.std.specs.FinMap.{entries, len}
use Rattle.std.proofs.lemmas.List.{take_all}
use Rattle.ts_labels.specs.declared.label.Label.{Label}
use Rattle.ts_script.specs.Replies.{reply_text}
use Rattle.ts_script.specs.declared.reply.Reply.TheVariants.{Total}
use Rattle.ts_store.specs.Does.{Answers}
use Rattle.ts_store.specs.Leaves.{AreLines, LeavesTold}
use Rattle.ts_store.specs.Listed.{SaysPrefix}
use Rattle.ts_store.proofs.AnswerLaws.{output_alone}
use Rattle.ts_site.proofs.GoesLemmas.{says_more}
use Rattle.ts_store.proofs.LabelLines.{entries_len, entry_is, every, is_line, labels_said, line_of}
use Rattle.ts_store.proofs.PrefixLaws.{line_failed, line_is_longer, line_said, list_done}
use Rattle.ts_store.proofs.labels.say_labels.Goals as goal

pub loop-i-preserved : goal.loop-i-preserved
loop-i-preserved g c =
    let before = c.loop-i.invariant in
    let now = c.in-Ok.ensures.answers in
    let labels = c.args.labels.now.labels in
    let i = c.loop-i.i in
    let entry = c.at-name.result in
    let below : i < length (entries labels) = omega (arith, c.loop-i-test.true, c.len-i-end.ensures, entries_len labels) in
    let old = g.W.Disk.outside c.args.site.now in
    let between = g.W.Disk.outside c.loop-i.site in
    let new = g.W.Disk.outside c.reply.new.site in
    record {
      told = line_said every line_of (entries labels) i entry below (entry_is (entries labels) i entry below c.at-name.ensures) refl old.told between.told new.told before.told
          (is_line entry) (subst (λ (text : List ℕ). new.told ≡ between.told ++ text) (ap reply_text c.label_is.ensures) now.told);
      says = says_more false old between new before.says now.says;
    }

pub returns-in-Err-clause-answers : goal.returns-in-Err-clause-answers
returns-in-Err-clause-answers g c =
    let before = c.loop-i.invariant in
    let now = c.in-Err.ensures.answers in
    let labels = c.args.labels.now.labels in
    let i = c.loop-i.i in
    let entry = c.at-name.result in
    let below : i < length (entries labels) = omega (arith, c.loop-i-test.true, c.len-i-end.ensures, entries_len labels) in
    let old = g.W.Disk.outside c.args.site.now in
    let between = g.W.Disk.outside c.loop-i.site in
    let new = g.W.Disk.outside c.reply.new.site in
    subst (λ (text : List ℕ). Answers text false (Err c.in-Err.stop) old new) (sym (labels_said labels)) (record {
      kind = tt;
      told = line_failed every line_of (entries labels) i entry below (entry_is (entries labels) i entry below c.at-name.ensures) refl old.told between.told new.told before.told
          c.in-Err.stop (reply_text (Total (len labels))) c.in-Err.ensures.why (line_is_longer (codes "total " ++ decimal (len labels)))
          (subst (λ (text : List ℕ). LeavesTold (Err c.in-Err.stop) text between.told new.told) (ap reply_text c.label_is.ensures) now.told);
      says = says_more _ old between new before.says now.says;
    })

pub returns-clause-answers : goal.returns-clause-answers
returns-clause-answers g c =
    let before = c.loop-i.invariant in
    let said = c.reply-2.ensures.answers in
    let labels = c.args.labels.now.labels in
    let old = g.W.Disk.outside c.args.site.now in
    let between = g.W.Disk.outside c.loop-i.site in
    let new = g.W.Disk.outside c.reply-2.new.site in
    let whole : take c.loop-i.i (entries labels) ≡ entries labels = take_all c.loop-i.i (entries labels) (omega (arith, c.loop-i-test.false, c.len-i-end.ensures, entries_len labels)) in
    subst (λ (text : List ℕ). Answers text false c.reply-2.result old new) (sym (labels_said labels)) (record {
      kind = said.kind;
      told = list_done c.reply-2.result (flat_map line_of (filter every (entries labels))) (reply_text (Total (len labels))) old.told between.told new.told [] (output_alone c.reply-2.result c.reply-2.ensures.why)
          (subst (λ (es : List (List ℕ × Label)). SaysPrefix AreLines (flat_map line_of (filter every es)) old.told between.told []) whole before.told)
          (subst (λ (n : ℕ). LeavesTold c.reply-2.result (reply_text (Total n)) between.told new.told) c.len.ensures said.told);
      says = says_more _ old between new before.says said.says;
    })
