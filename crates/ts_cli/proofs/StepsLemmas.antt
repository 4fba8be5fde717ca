-- Steps one after another: what was told, and what the folder tells and stands for behind them.
use Rattle.std.proofs.Common.{◌≡◌, ℕ, Bool, List, [], ◌∷◌, ◌++◌, length, IfOk, Result, Ok, Err, refl, sym, ap, ◌∙◌, subst, append-nil, append_assoc}
use Rattle.ts_site.specs.Outside.{Falls, IsHonest, OnlyReads, Outside}
use Rattle.ts_site.proofs.GoesLemmas.{adds_nothing, falls_more}
use Rattle.ts_script.specs.declared.command.Command.{Command}
use Rattle.ts_store.specs.declared.stop.Kind.{Kind}
use Rattle.ts_store.specs.declared.stop.Stop.{Stop}
use Rattle.ts_store.specs.FolderSays.{FolderSays}
use Rattle.ts_store.specs.Stands.{Stands}
use Rattle.ts_store.specs.State.{State}
use Rattle.ts_store.specs.Step.{step_of}
use Rattle.ts_store.specs.Steps.{after, answers}
use Rattle.ts_cli.specs.Change.{LeavesAll, change_of}
use Rattle.ts_cli.specs.Ends.{AreDone, StepsFrom}

pub no_change : (a : Outside) → LeavesAll (change_of a a)
no_change a = record { folder = refl; told = refl; images = adds_nothing a }

-- opening the folder
pub reads_all : (is_fault : Bool) (before after : Outside) → OnlyReads is_fault before after → IsHonest after → LeavesAll (change_of before after)
reads_all is_fault before after reads honest = record { folder = reads.folder honest; told = reads.output.same_told; images = reads.images }

-- one step more
pub done_more : (a b c : Outside) (state : State) (done : List Command) (asked : Command) (kind : Kind)
    → AreDone (change_of a b) state done → StepsFrom (change_of b c) (after state done (length done)) asked (Ok kind) → AreDone (change_of a c) state (done ++ asked ∷ [])
done_more a b c state [] asked kind still does = (c, kind, subst (λ (o : Outside). StepsFrom (change_of o c) state asked (Ok kind)) still does, refl)
done_more a b c state (first ∷ done) asked kind (middle, other, one, rest) does =
    (middle, other, one, done_more middle b c (step_of state first).state done asked kind rest does)

pub done_telling : (a b : Outside) (state : State) (done : List Command) → AreDone (change_of a b) state done → Falls a b
done_telling a b state [] still = λ honest. subst (λ (o : Outside). IsHonest o) still honest
done_telling a b state (asked ∷ done) (middle, kind, one, rest) = falls_more a middle b one.telling (done_telling middle b (step_of state asked).state done rest)

-- the replies were told
pub done_told : (a b : Outside) (state : State) (done : List Command) → AreDone (change_of a b) state done → b.told ≡ a.told ++ answers state done (length done)
done_told a b state [] still = ap (λ (o : Outside). o.told) still ∙ sym (append-nil a.told)
done_told a b state (asked ∷ done) (middle, kind, one, rest) =
    let next = (step_of state asked).state in
    let more = answers next done (length done) in
    done_told middle b next done rest
    ∙ ap (λ (l : List ℕ). l ++ more) one.told
    ∙ append_assoc a.told (step_of state asked).told more

pub done_says : (a b : Outside) (state : State) (done : List Command) → FolderSays a.folder state → AreDone (change_of a b) state done
    → FolderSays b.folder (after state done (length done))
done_says a b state [] says still = subst (λ (o : Outside). FolderSays o.folder state) (sym still) says
done_says a b state (asked ∷ done) says (middle, kind, one, rest) = done_says middle b (step_of state asked).state done one.says_after rest

pub done_stands : (a b : Outside) (state : State) (done : List Command) → Stands a.folder state → AreDone (change_of a b) state done
    → Stands b.folder (after state done (length done))
done_stands a b state [] stands still = subst (λ (o : Outside). Stands o.folder state) (sym still) stands
done_stands a b state (asked ∷ done) stands (middle, kind, one, rest) = done_stands middle b (step_of state asked).state done (one.stands_after stands) rest

-- the kind of an answer, of what is said of it
pub kind_only : (answer : Result Kind Stop) (P : Kind → Type 0) (kind : Kind) → IfOk answer (λ given. P given × (given ≡ kind)) → IfOk answer (λ given. given ≡ kind)
kind_only (Ok given) P kind h = h.1
kind_only (Err stop) P kind h = tt

pub keeps_only : (answer : Result Kind Stop) (fact : Type 0) (P : Kind → Type 0) → IfOk answer (λ given. fact × P given) → IfOk answer (λ given. fact)
keeps_only (Ok given) fact P h = h.0
keeps_only (Err stop) fact P h = tt
