use Rattle.std.proofs.Common.{◌≡◌, ℕ, List, ◌∷◌, [], ◌++◌, sym, subst, Some, None, append-nil}
use Rattle.ts_script.specs.Body.{SpellBody}
use Rattle.ts_model.specs.declared.signed.SignedTriple.{SignedTriple}
use Rattle.ts_nt.specs.LineRead.{Answers, IsRefusedFor}
use Rattle.ts_nt.specs.declared.read.LineError.TheVariants as line_error
use Rattle.ts_script.proofs.BodyLemmas.{view-whole, fault-more, spell-more, fault-here}
use Rattle.ts_script.proofs.body.BodySoFar.add.Goals as goal

pub returns-in-Some : goal.returns-in-Some
returns-in-Some c = λ before lines bytes seen number was.
    rw c.in-Some.is (fault-more before lines bytes c.args.self.now.signed.items c.in-Some.field-0 (rw c.in-Some.is at was))

pub returns-in_ok-push-in-Ok-Some : goal.returns-in_ok-push-in-Ok-Some
returns-in_ok-push-in-Ok-Some c = λ before lines bytes seen number was.
    let whole : bytes ≡ c.args.line.now.bytes.now = view-whole bytes c.args.line.now.bytes.now c.args.line.now.too_long seen c.if-line.false in
    let answer : Answers bytes (Some c.in-Ok-Some.signed) = subst (λ (b : List ℕ). Answers b (Some c.in-Ok-Some.signed)) (sym whole) (rw c.in-Ok-Some.field-0-is at c.in-Ok-Some.ensures.ok) in
    rw (c.in-None.is, c.in_ok-push-in-Ok-Some.ensures.items) (spell-more lines c.args.self.now.signed.items bytes (Some c.in-Ok-Some.signed) (rw c.in-None.is at was) answer)

pub returns-in-Err-Bad : goal.returns-in-Err-Bad
returns-in-Err-Bad c = λ before lines bytes seen number was.
    let whole : bytes ≡ c.args.line.now.bytes.now = view-whole bytes c.args.line.now.bytes.now c.args.line.now.too_long seen c.if-line.false in
    let bad : IsRefusedFor bytes line_error.Bad = subst (λ (b : List ℕ). IsRefusedFor b line_error.Bad) (sym whole) (rw c.in-Err-Bad.field-0-is at c.in-Err-Bad.ensures.err) in
    fault-here (λ line. IsRefusedFor line line_error.Bad) before lines c.args.self.now.signed.items bytes c.args.line.now.number number (rw c.in-None.is at was) bad

pub returns-in-Ok-None : goal.returns-in-Ok-None
returns-in-Ok-None c = λ before lines bytes seen number was.
    let whole : bytes ≡ c.args.line.now.bytes.now = view-whole bytes c.args.line.now.bytes.now c.args.line.now.too_long seen c.if-line.false in
    let answer : Answers bytes None = subst (λ (b : List ℕ). Answers b None) (sym whole) (rw c.in-Ok-None.field-0-is at c.in-Ok-None.ensures.ok) in
    let body = c.args.self.now.signed.items in
    let spelled = spell-more lines body bytes None (rw c.in-None.is at was) answer in
    rw c.in-None.is (subst (λ (b : List SignedTriple). SpellBody (lines ++ bytes ∷ []) b) (append-nil body) spelled)
