use Rattle.std.proofs.Common.{◌≡◌, ℕ, ◌+◌, ◌*◌, List, length, ◌∙◌, ap, arith}
use Rattle.std.proofs.lemmas.List.{length-map}
use Rattle.ts_part.specs.Written.{IsBodyOf}
use Rattle.ts_part.proofs.FileLemmas.{IsFile, file_begins, file_says, file_written, sayable}
use Rattle.ts_part.proofs.write.write_part.Goals as goal

held : (c : goal.After-drop-body-3) → IsBodyOf c.in_ok-body.body c.args.facts.now
held c = c.in_ok-body.ensures

written : (c : goal.After-drop-body-3) → IsFile c.extend_from_slice.new.self.items c.args.facts.now (held c).sections
unfolding held
written c =
    let body : IsBodyOf c.in_ok-body.body c.args.facts.now = c.in_ok-body.ensures in
    let count : c.len.result ≡ length body.sections =
    omega (arith, c.len.ensures, c.in_ok-body.body.sizes.ok.0, ap length body.holds.sizes, length-map body.sections (λ (s : List ℕ). length s)) in
    let size : 88 + 24 * c.len.result + c.len-2.result ≡ 88 + 24 * c.len.result + length c.deref-2.result.now =
    omega (arith, c.len-2.ensures, c.in_ok-body.body.content.ok.0, ap length c.deref-2.ensures.value) in
    file_written c.args.facts.now body.sections c.in_ok-file.file.items c.write_header.new.into.items c.write_rows.new.file.items c.extend_from_slice.new.self.items
    c.deref-2.result.now c.len.result (88 + 24 * c.len.result + c.len-2.result) c.header_of-header.result
    c.in_ok-file.ensures.items c.in_ok-write_header.ensures.written c.header_of-header.ensures
    (c.in_ok-write_rows.ensures body.sections (c.deref.ensures.value ∙ body.holds.sizes)) c.in_ok-extend_from_slice.ensures.items
    (c.deref-2.ensures.value ∙ body.holds.content) count size c.in_ok-write_header.ensures.fits

pub returns-clause-says : goal.returns-clause-says
returns-clause-says c = λ rules.
    let facts = c.args.facts.now in
    let can = sayable facts rules in
    file_says c.extend_from_slice.new.self.items facts (held c).sections (written c) ((held c).counted can) ((held c).say can) rules

pub returns-clause-begins : goal.returns-clause-begins
returns-clause-begins c = file_begins c.extend_from_slice.new.self.items c.args.facts.now (held c).sections (written c) c.requires
