-- Words and the lines behind them are one command, or none.
use Rattle.std.proofs.Common.{◌≡◌, inl, inr, ℕ, List, All, sym, ◌∙◌, ap, subst, refl}
use Rattle.std.specs.Prelude.{Bool, true, false, Option, Some, None, Result, Ok, Err}
use Rattle.ts_model.specs.declared.signed.SignedTriple.{SignedTriple}
use Rattle.ts_model.specs.TextTriple.{IsTriple}
use Rattle.ts_script.specs.Body.{IsBodyRead}
use Rattle.ts_script.specs.Heads.{Name, base, commit, list, has, added, removed, layers, squash, labels, label_new, label_get, label_set, count, open_cursor, fetch, close, IsHeadOf}
use Rattle.ts_script.specs.Commands.{completed, IsCompleted, IsCommand, IsNoCommand}
use Rattle.ts_script.specs.Script.{closed, IsGiven, IsNextCommand, LineIs}
use Rattle.ts_script.specs.declared.script_line.ScriptLine.{ScriptLine}
use Rattle.ts_script.specs.declared.script_line.ScriptLine.TheVariants.{PassedOver, Overlong, NoCommand, Heads}
use Rattle.ts_script.specs.declared.body.BodyFault.{BodyFault}
use Rattle.ts_script.specs.declared.body.BodyFault.TheVariants.{Bad, TooLong}
use Rattle.ts_script.specs.declared.command.Command.{Command}
use Rattle.ts_script.specs.declared.command.Command.TheVariants as command
use Rattle.ts_script.specs.declared.head.Head.{Head}
use Rattle.ts_script.specs.declared.head.Head.TheVariants.{Whole, Awaits}
use Rattle.ts_script.specs.declared.command.Ref.{Ref}
use Rattle.ts_script.specs.declared.opening.Opening.{Opening}
use Rattle.ts_script.specs.declared.opening.Opening.TheVariants as opening
use Rattle.ts_script.proofs.HeadLaws.{head_once}
use Rattle.ts_script.proofs.BodyLaws.{read_once, some_read, spelled_triples}

completed_once : (head : Head) (before : ℕ) (lines : List (List ℕ)) (a b : Command) → IsCompleted head before lines a → IsCompleted head before lines b → a ≡ b
completed_once (Whole whole) before lines a b one other = one ∙ sym other
completed_once (Awaits opening) before lines a b (read, is, says) (read', is', says') =
    says ∙ ap (completed opening) (read_once before lines read read' is is') ∙ sym says'

pub same_command : (words : List (List ℕ)) (before : ℕ) (lines : List (List ℕ)) (a b : Command) → IsCommand words before lines a → IsCommand words before lines b → a ≡ b
same_command words before lines a b (head, is, done) (head', is', done') =
    completed_once head before lines a b done (subst (λ (h : Head). IsCompleted h before lines b) (head_once words head' head is' is) done')

pub no_command_is_none : (words : List (List ℕ)) (before : ℕ) (lines : List (List ℕ)) (asked : Command) → IsNoCommand words → IsCommand words before lines asked → ⊥
no_command_is_none words before lines asked none (head, is, done) = none head is

pub some_command : (words : List (List ℕ)) (before : ℕ) (lines : List (List ℕ)) → ((asked : Command) → IsCommand words before lines asked → ⊥) → IsNoCommand words
some_command words before lines none (Whole whole) is = none whole (Whole whole, is, refl)
some_command words before lines none (Awaits opening) is =
    some_read before lines (λ read is_read. none (completed opening read) (Awaits opening, is, (read, is_read, refl)))

-- ---- triples

body_in : Command → Option (List SignedTriple)
body_in (command.Base body) = Some body
body_in (command.Commit at body) = Some body
body_in (command.BadTriple line) = None
body_in (command.TooLong line) = None
body_in (command.Listing at pattern) = None
body_in (command.Has at triple) = None
body_in (command.Added layer) = None
body_in (command.Removed layer) = None
body_in command.Layers = None
body_in command.Labels = None
body_in (command.Count at pattern) = None
body_in (command.OpenCursor name at pattern) = None
body_in (command.Fetch name n) = None
body_in (command.CloseCursor name) = None
body_in (command.LabelNew name) = None
body_in (command.LabelGet name) = None
body_in (command.LabelSet name version to) = None
body_in (command.BadCommand line) = None
body_in (command.Unfinished line) = None
body_in (command.Squash at) = None

body_in_whole : Head → Option (List SignedTriple)
body_in_whole (Whole whole) = body_in whole
body_in_whole (Awaits opening) = None

-- a command whose words are all of it has no body
no_body : (name : Name) (behind : List (List ℕ)) (whole : Command) → IsHeadOf name behind (Whole whole) → body_in whole ≡ None
unfolding body_in body_in_whole
no_body base behind whole says = ap body_in_whole says.1
no_body commit behind whole says = ap body_in_whole says.4
no_body list behind whole (inl says) = ap body_in_whole says.4
no_body list behind whole (inr says) = ap body_in_whole says.9
no_body has behind whole says = ap body_in_whole says.9
no_body added behind whole says = ap body_in_whole says.4
no_body removed behind whole says = ap body_in_whole says.4
no_body layers behind whole says = ap body_in_whole says.1
no_body squash behind whole says = ap body_in_whole says.4
no_body labels behind whole says = ap body_in_whole says.1
no_body label_new behind whole says = ap body_in_whole says.3
no_body label_get behind whole says = ap body_in_whole says.3
no_body label_set behind whole says = ap body_in_whole says.9
no_body count behind whole says = ap body_in_whole says.9
no_body open_cursor behind whole says = ap body_in_whole says.4.9
no_body fetch behind whole says = ap body_in_whole says.6
no_body close behind whole says = ap body_in_whole says.3

body_in_completed : (opening : Opening) (body : List SignedTriple) → body_in (completed opening (Ok body)) ≡ Some body
unfolding body_in
body_in_completed opening.Base body = refl
body_in_completed (opening.Commit at) body = refl

body_read : (before : ℕ) (lines : List (List ℕ)) (opening : Opening) (body : List SignedTriple) (read : Result (List SignedTriple) BodyFault)
    → IsBodyRead before lines read → body_in (completed opening read) ≡ Some body → IsBodyRead before lines (Ok body)
unfolding body_in
body_read before lines opening body (Ok read) is same =
    let bodies : read ≡ body = cc (body_in_completed opening read, same) in subst (λ (b : List SignedTriple). IsBodyRead before lines (Ok b)) bodies is
body_read before lines opening body (Err (Bad line)) is same = absurd (cc)
body_read before lines opening body (Err (TooLong line)) is same = absurd (cc)

triples_in : (words : List (List ℕ)) (before : ℕ) (lines : List (List ℕ)) (asked : Command) (body : List SignedTriple) → IsCommand words before lines asked → body_in asked ≡ Some body
    → All (λ (line : SignedTriple). IsTriple line.triple) body
triples_in words before lines asked body (Whole whole, is, same) has_it =
    let none : None ≡ Some body = sym (no_body is.name is.behind whole is.says) ∙ sym (ap body_in same) ∙ has_it in absurd (cc)
triples_in words before lines asked body (Awaits opening, is, done) has_it =
    spelled_triples lines body (body_read before lines opening body done.0 done.1 (sym (ap body_in done.2) ∙ has_it))

pub body_of_triples : (words : List (List ℕ)) (before : ℕ) (lines : List (List ℕ)) (body : List SignedTriple) → IsCommand words before lines (command.Base body) → All (λ (line : SignedTriple). IsTriple line.triple) body
unfolding body_in
body_of_triples words before lines body is = triples_in words before lines (command.Base body) body is refl

pub commit_of_triples : (words : List (List ℕ)) (before : ℕ) (lines : List (List ℕ)) (at : Ref) (body : List SignedTriple) → IsCommand words before lines (command.Commit at body) → All (λ (line : SignedTriple). IsTriple line.triple) body
unfolding body_in
commit_of_triples words before lines at body is = triples_in words before lines (command.Commit at body) body is refl

-- ---- bodies of a script

body_in_closed : (before number : ℕ) (lines : List (List ℕ)) (opening : Opening) (is_closed : Bool) (read : Result (List SignedTriple) BodyFault) (body : List SignedTriple)
    → IsBodyRead before lines read → body_in (closed opening number is_closed read) ≡ Some body → IsBodyRead before lines (Ok body)
unfolding body_in
body_in_closed before number lines opening true read body is same = body_read before lines opening body read is same
body_in_closed before number lines opening false (Ok read) body is same = absurd (cc)
body_in_closed before number lines opening false (Err fault) body is same = body_read before lines opening body (Err fault) is same

body_in_given : (kind : ScriptLine) (line : List ℕ) (number : ℕ) (behind rest : List (List ℕ)) (asked : Command) (body : List SignedTriple)
    → LineIs line kind → IsGiven kind number behind rest asked → body_in asked ≡ Some body → All (λ (signed : SignedTriple). IsTriple signed.triple) body
unfolding body_in
body_in_given PassedOver line number behind rest asked body is given has_it = absurd given
body_in_given Overlong line number behind rest asked body is given has_it = let none : None ≡ Some body = sym (ap body_in given.1) ∙ has_it in absurd (cc)
body_in_given NoCommand line number behind rest asked body is given has_it = let none : None ≡ Some body = sym (ap body_in given.1) ∙ has_it in absurd (cc)
body_in_given (Heads (Whole whole)) line number behind rest asked body is given has_it =
    let none : None ≡ Some body = sym (no_body is.1.name is.1.behind whole is.1.says) ∙ sym (ap body_in given.1) ∙ has_it in absurd (cc)
body_in_given (Heads (Awaits opening)) line number behind rest asked body is (read, is_closed, of, says) has_it =
    spelled_triples of.body body (body_in_closed number number of.body opening is_closed read body of.spells (sym (ap body_in says) ∙ has_it))

pub body_of_script : (before : ℕ) (lines taken rest : List (List ℕ)) (body : List SignedTriple) → IsNextCommand before lines (command.Base body) taken rest → All (λ (signed : SignedTriple). IsTriple signed.triple) body
unfolding body_in
body_of_script before lines taken rest body is = body_in_given is.kind is.line _ is.behind rest (command.Base body) body is.is is.given refl

pub commit_of_script : (before : ℕ) (lines taken rest : List (List ℕ)) (at : Ref) (body : List SignedTriple) → IsNextCommand before lines (command.Commit at body) taken rest
    → All (λ (signed : SignedTriple). IsTriple signed.triple) body
unfolding body_in
commit_of_script before lines taken rest at body is = body_in_given is.kind is.line _ is.behind rest (command.Commit at body) body is.is is.given refl
