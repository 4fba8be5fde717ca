use Rattle.std.proofs.Common.{is_err, true, false, ◌≡◌, ◌∙◌, sym}
use Rattle.ts_script.specs.Replies.{reply_text}
use Rattle.ts_script.specs.declared.reply.Reply.TheVariants as reply
use Rattle.ts_replace.specs.Names.{layer_name}
use Rattle.ts_store.specs.declared.stop.Stop.TheVariants.{DiskFault}
use Rattle.ts_store.proofs.SafeLaws.{change_failed, change_told, crash_failed, crash_told}
use Rattle.ts_store.proofs.publish.publish.Goals as goal

pub returns-then-is_err-clause-safe : goal.returns-then-is_err-clause-safe
returns-then-is_err-clause-safe g c = λ honest leaves.
    let old = g.W.Disk.outside c.args.site.now in
    let middle = g.W.Disk.outside c.replace.new.site in
    let number = c.args.layer.number in
    change_failed (layer_name number) c.args.file.now (reply_text (reply.Layer number)) old middle c.replace.result (rw c.layer_file.ensures.name at (c.replace.ensures.images honest leaves)) DiskFault

pub returns-clause-safe : goal.returns-clause-safe
returns-clause-safe g c = λ honest leaves.
    let old = g.W.Disk.outside c.args.site.now in
    let middle = g.W.Disk.outside c.replace.new.site in
    let new = g.W.Disk.outside c.reply.new.site in
    let number = c.args.layer.number in
    let done : is_err c.replace.result ≡ false = sym c.is_err.ensures.value ∙ c.if-is_err.false in
    change_told (layer_name number) c.args.file.now (reply_text (reply.Layer number)) old middle c.replace.result (rw c.layer_file.ensures.name at (c.replace.ensures.images (c.reply.ensures.answers.says.telling honest) leaves))
    done c.replace.ensures.disk.output.same_told c.reply.result new c.reply.ensures.answers honest

pub returns-then-is_err-clause-crash : goal.returns-then-is_err-clause-crash
returns-then-is_err-clause-crash g c = λ honest.
    let old = g.W.Disk.outside c.args.site.now in
    let middle = g.W.Disk.outside c.replace.new.site in
    let failed : is_err c.replace.result ≡ true = sym c.is_err.ensures.value ∙ c.if-is_err.true in
    crash_failed (layer_name c.args.layer.number) c.args.file.now c.replace.result old.crash middle.crash failed (rw c.layer_file.ensures.name at (c.replace.ensures.crash honest))

pub returns-clause-crash : goal.returns-clause-crash
returns-clause-crash g c = λ honest.
    let old = g.W.Disk.outside c.args.site.now in
    let middle = g.W.Disk.outside c.replace.new.site in
    let new = g.W.Disk.outside c.reply.new.site in
    let done : is_err c.replace.result ≡ false = sym c.is_err.ensures.value ∙ c.if-is_err.false in
    let then = c.reply.ensures.answers.says.telling honest in
    crash_told (layer_name c.args.layer.number) c.args.file.now c.replace.result old.crash middle.crash new.crash done (rw c.layer_file.ensures.name at (c.replace.ensures.crash then))
    (c.reply.ensures.answers.says.images.now honest) c.reply.result c.reply.ensures.why
