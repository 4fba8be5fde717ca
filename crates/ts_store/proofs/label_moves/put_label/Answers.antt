use Rattle.std.proofs.Common.{is_err, true, false, ◌≡◌, ◌∙◌, sym}
use Rattle.ts_labels.specs.LabelFile.{label_text}
use Rattle.ts_replace.specs.CrashSafe.{ReplacesCrash, ReplacesSafely}
use Rattle.ts_replace.specs.Names.{label_file_name}
use Rattle.ts_store.specs.declared.stop.Stop.TheVariants.{DiskFault}
use Rattle.ts_store.specs.Does.{Answers}
use Rattle.ts_store.specs.Puts.{label_line}
use Rattle.ts_store.proofs.SafeLaws.{change_failed, change_told, crash_failed, crash_told}
use Rattle.ts_store.proofs.label_moves.put_label.Goals as goal

pub returns-then-is_err-clause-safe : goal.returns-then-is_err-clause-safe
returns-then-is_err-clause-safe g c = λ honest leaves.
    let old = g.W.Disk.outside c.args.site.now in
    let middle = g.W.Disk.outside c.replace.new.site in
    let name = c.args.name.now in
    let label = c.args.label in
    let safely : ReplacesSafely c.replace.result (label_file_name name) (label_text label) old middle = rw c.label_bytes.ensures at (rw c.bytes.ensures.bytes at (rw c.file_of.ensures.file at (c.replace.ensures.images honest leaves))) in
    change_failed (label_file_name name) (label_text label) (label_line name label) old middle c.replace.result safely DiskFault

pub returns-clause-safe : goal.returns-clause-safe
returns-clause-safe g c = λ honest leaves.
    let old = g.W.Disk.outside c.args.site.now in
    let middle = g.W.Disk.outside c.replace.new.site in
    let new = g.W.Disk.outside c.reply.new.site in
    let name = c.args.name.now in
    let label = c.args.label in
    let done : is_err c.replace.result ≡ false = sym c.is_err.ensures.value ∙ c.if-is_err.false in
    let safely : ReplacesSafely c.replace.result (label_file_name name) (label_text label) old middle = rw c.label_bytes.ensures at (rw c.bytes.ensures.bytes at (rw c.file_of.ensures.file at (c.replace.ensures.images (c.reply.ensures.answers.says.telling honest) leaves))) in
    let answers : Answers (label_line name label) false c.reply.result middle new = rw c.copy.ensures at (rw c.label_is-told.ensures at c.reply.ensures.answers) in
    change_told (label_file_name name) (label_text label) (label_line name label) old middle c.replace.result safely
    done c.replace.ensures.disk.output.same_told c.reply.result new answers honest

pub returns-then-is_err-clause-crash : goal.returns-then-is_err-clause-crash
returns-then-is_err-clause-crash g c = λ honest.
    let old = g.W.Disk.outside c.args.site.now in
    let middle = g.W.Disk.outside c.replace.new.site in
    let name = c.args.name.now in
    let label = c.args.label in
    let failed : is_err c.replace.result ≡ true = sym c.is_err.ensures.value ∙ c.if-is_err.true in
    let leaves : ReplacesCrash c.replace.result (label_file_name name) (label_text label) old.crash middle.crash = rw c.label_bytes.ensures at (rw c.bytes.ensures.bytes at (rw c.file_of.ensures.file at (c.replace.ensures.crash honest))) in
    crash_failed (label_file_name name) (label_text label) c.replace.result old.crash middle.crash failed leaves

pub returns-clause-crash : goal.returns-clause-crash
returns-clause-crash g c = λ honest.
    let old = g.W.Disk.outside c.args.site.now in
    let middle = g.W.Disk.outside c.replace.new.site in
    let new = g.W.Disk.outside c.reply.new.site in
    let name = c.args.name.now in
    let label = c.args.label in
    let done : is_err c.replace.result ≡ false = sym c.is_err.ensures.value ∙ c.if-is_err.false in
    let then = c.reply.ensures.answers.says.telling honest in
    let leaves : ReplacesCrash c.replace.result (label_file_name name) (label_text label) old.crash middle.crash = rw c.label_bytes.ensures at (rw c.bytes.ensures.bytes at (rw c.file_of.ensures.file at (c.replace.ensures.crash then))) in
    crash_told (label_file_name name) (label_text label) c.replace.result old.crash middle.crash new.crash done leaves (c.reply.ensures.answers.says.images.now honest) c.reply.result c.reply.ensures.why
