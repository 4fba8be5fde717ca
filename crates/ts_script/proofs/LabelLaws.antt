-- The name of a label that a command makes is one.
use Rattle.std.proofs.Common.{◌≡◌, ℕ, Bool, true, false, List, inl, inr, sym, subst}
use Rattle.std.specs.Prelude.{Result, Ok, Err}
use Rattle.ts_model.specs.Names.{IsLabelName}
use Rattle.ts_model.specs.declared.signed.SignedTriple.{SignedTriple}
use Rattle.ts_script.specs.Commands.{completed, IsCommand}
use Rattle.ts_script.specs.Heads.{Name, base, commit, list, has, added, removed, layers, squash, labels, label_new, label_get, label_set, count, open_cursor, fetch, close, IsHeadOf}
use Rattle.ts_script.specs.Script.{closed, IsGiven, IsNextCommand, LineIs}
use Rattle.ts_script.specs.declared.body.BodyFault.{BodyFault}
use Rattle.ts_script.specs.declared.body.BodyFault.TheVariants.{Bad, TooLong}
use Rattle.ts_script.specs.declared.command.Command.{Command}
use Rattle.ts_script.specs.declared.command.Command.TheVariants as command
use Rattle.ts_script.specs.declared.head.Head.{Head}
use Rattle.ts_script.specs.declared.head.Head.TheVariants.{Whole, Awaits}
use Rattle.ts_script.specs.declared.opening.Opening.{Opening}
use Rattle.ts_script.specs.declared.opening.Opening.TheVariants as opening
use Rattle.ts_script.specs.declared.script_line.ScriptLine.{ScriptLine}
use Rattle.ts_script.specs.declared.script_line.ScriptLine.TheVariants.{PassedOver, Overlong, NoCommand, Heads}

-- a head that makes a label names it
abbrev NamesLabel : Head → Type 0
NamesLabel (Whole (command.LabelNew name)) = IsLabelName name
NamesLabel _ = Unit {0}

names_label : (name : Name) (behind : List (List ℕ)) (head : Head) → IsHeadOf name behind head → NamesLabel head
names_label base behind head says = subst NamesLabel (sym says.1) tt
names_label commit behind head says = subst NamesLabel (sym says.4) tt
names_label list behind head (inl says) = subst NamesLabel (sym says.4) tt
names_label list behind head (inr says) = subst NamesLabel (sym says.9) tt
names_label has behind head says = subst NamesLabel (sym says.9) tt
names_label added behind head says = subst NamesLabel (sym says.4) tt
names_label removed behind head says = subst NamesLabel (sym says.4) tt
names_label layers behind head says = subst NamesLabel (sym says.1) tt
names_label squash behind head says = subst NamesLabel (sym says.4) tt
names_label labels behind head says = subst NamesLabel (sym says.1) tt
names_label label_new behind head says = subst NamesLabel (sym says.3) says.2
names_label label_get behind head says = subst NamesLabel (sym says.3) tt
names_label label_set behind head says = subst NamesLabel (sym says.9) tt
names_label count behind head says = subst NamesLabel (sym says.9) tt
names_label open_cursor behind head says = subst NamesLabel (sym says.4.9) tt
names_label fetch behind head says = subst NamesLabel (sym says.6) tt
names_label close behind head says = subst NamesLabel (sym says.3) tt

-- a command with a body makes no label
not_completed : (name : List ℕ) (opening : Opening) (read : Result (List SignedTriple) BodyFault) → command.LabelNew name ≡ completed opening read → ⊥
not_completed name opening (Err (Bad line)) e = cc
not_completed name opening (Err (TooLong line)) e = cc
not_completed name opening.Base (Ok body) e = cc
not_completed name (opening.Commit at) (Ok body) e = cc

not_closed : (name : List ℕ) (opening : Opening) (number : ℕ) (is_closed : Bool) (read : Result (List SignedTriple) BodyFault) → command.LabelNew name ≡ closed opening number is_closed read → ⊥
not_closed name opening number true read e = not_completed name opening read e
not_closed name opening number false (Ok body) e = cc
not_closed name opening number false (Err fault) e = not_completed name opening (Err fault) e

pub label_of_words : (words : List (List ℕ)) (before : ℕ) (lines : List (List ℕ)) (name : List ℕ) → IsCommand words before lines (command.LabelNew name) → IsLabelName name
label_of_words words before lines name (Whole whole, is, same) =
    let named : NamesLabel (Whole whole) = names_label is.name is.behind (Whole whole) is.says in
    subst (λ (asked : Command). NamesLabel (Whole asked)) (sym same) named
label_of_words words before lines name (Awaits opening, is, done) = absurd (not_completed name opening done.0 done.2)

label_given : (kind : ScriptLine) (line : List ℕ) (number : ℕ) (behind rest : List (List ℕ)) (name : List ℕ) → LineIs line kind → IsGiven kind number behind rest (command.LabelNew name) → IsLabelName name
label_given PassedOver line number behind rest name is given = absurd given
label_given Overlong line number behind rest name is given = let e : command.LabelNew name ≡ command.TooLong number = given.1 in absurd (cc)
label_given NoCommand line number behind rest name is given = let e : command.LabelNew name ≡ command.BadCommand number = given.1 in absurd (cc)
label_given (Heads (Whole whole)) line number behind rest name is given =
    let named : NamesLabel (Whole whole) = names_label is.1.name is.1.behind (Whole whole) is.1.says in
    subst (λ (asked : Command). NamesLabel (Whole asked)) (sym given.1) named
label_given (Heads (Awaits opening)) line number behind rest name is (read, is_closed, of, says) = absurd (not_closed name opening number is_closed read says)

pub label_of_script : (before : ℕ) (lines taken rest : List (List ℕ)) (name : List ℕ) → IsNextCommand before lines (command.LabelNew name) taken rest → IsLabelName name
label_of_script before lines taken rest name is = label_given is.kind is.line _ is.behind rest name is.is is.given
