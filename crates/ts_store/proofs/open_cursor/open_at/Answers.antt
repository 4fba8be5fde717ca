use Rattle.std.proofs.Common.{◌≡◌, ◌∙◌, List, ℕ, false, ap, subst}
use Rattle.ts_model.specs.History.{History}
use Rattle.ts_model.specs.Listing.{select}
use Rattle.ts_plain.specs.History.{history_of}
use Rattle.ts_script.specs.Replies.{reply_text}
use Rattle.ts_script.specs.declared.reply.Reply.TheVariants.{CursorOpen}
use Rattle.ts_site.proofs.GoesLemmas.{says_none}
use Rattle.ts_store.specs.Does.{Answers}
use Rattle.ts_store.specs.Fetches.{opens}
use Rattle.ts_store.specs.State.{State}
use Rattle.ts_store.proofs.AnswerLaws.{output_alone}
use Rattle.ts_store.proofs.FetchLaws.{does_open}
use Rattle.ts_store.proofs.PrefixLaws.{reply_is_longer}
use Rattle.ts_store.proofs.PublishLaws.{does_nothing}
use Rattle.ts_store.proofs.open_cursor.open_at.Goals as goal
use Rattle.ts_store.proofs.open_cursor.open_at.Goals.{in-Err-open, in-Ok-open}

pub returns-after-open-clause-does : goal.returns-after-open-clause-does
returns-after-open-clause-does g c =
    let state = c.args.store.now in
    let kept = c.store.inside in
    let name = c.args.name.now in
    let wanted = select state.history c.args.number c.args.pattern.now in
    let old = g.W.Disk.outside c.args.site.now in
    elim c.match-open.branch [
      | in-Err-open w ↦ rw (w.site-is, w.result-is) (does_nothing state (opens state name wanted) _ old (reply_is_longer (CursorOpen name)))
      | in-Ok-open w ↦
          let new = g.W.Disk.outside w.reply.new.site in
          let same = ap history_of c.as_slice.ensures.value ∙ ap (λ (s : State). s.history) c.store.view_is in
          let chosen : c.in-Ok.triples.items ≡ wanted = c.in-Ok.ensures ∙ ap (λ (h : History). select h c.args.number c.args.pattern.now) same in
          let opened = rw c.copy.ensures at (rw w.in-Ok-open.is at c.open.ensures.opened) in
          rw (w.site-is, w.result-is)
          (does_open kept.layers.items kept.labels.labels kept.cursors kept.last state c.store.view_is name w.reply.result (output_alone w.reply.result w.reply.ensures.why) old new
          c.in-Ok.triples.items wanted c.open.new.self opened chosen
          (subst (λ (n : List ℕ). Answers (reply_text (CursorOpen n)) false w.reply.result old new) w.copy-in-Ok-open.ensures w.reply.ensures.answers))
    ]

pub returns-after-open-clause-alone : goal.returns-after-open-clause-alone
returns-after-open-clause-alone g c =
    let old = g.W.Disk.outside c.args.site.now in
    elim c.match-open.branch [
      | in-Err-open w ↦ rw (w.site-is, w.result-is) (says_none old)
      | in-Ok-open w ↦ rw (w.site-is, w.result-is) w.reply.ensures.answers.says
    ]
