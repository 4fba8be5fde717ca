-- The word `run` begins no command.
use Rattle.std.proofs.Common.{◌≡◌, ℕ, Bool, false, ◌==◌, List, [], ◌∷◌, ◌++◌, ap, true≢false}
use Rattle.std.specs.Prelude.{codes}
use Rattle.ts_script.specs.Commands.{IsCommand}
use Rattle.ts_script.specs.Heads.{name_words}
use Rattle.ts_script.specs.Heads as heads
use Rattle.ts_script.specs.declared.command.Command.{Command}

-- the first word has three letters, the first of which is `r`
abbrev begins_so : List (List ℕ) → Bool
begins_so ((a ∷ b ∷ c ∷ []) ∷ words) = a == 114
begins_so _ = false

no_name : (name : heads.Name) (behind : List (List ℕ)) → codes "run" ∷ [] ≡ name_words name ++ behind → ⊥
no_name heads.base behind is = true≢false (ap begins_so is)
no_name heads.commit behind is = true≢false (ap begins_so is)
no_name heads.list behind is = true≢false (ap begins_so is)
no_name heads.has behind is = true≢false (ap begins_so is)
no_name heads.added behind is = true≢false (ap begins_so is)
no_name heads.removed behind is = true≢false (ap begins_so is)
no_name heads.layers behind is = true≢false (ap begins_so is)
no_name heads.squash behind is = true≢false (ap begins_so is)
no_name heads.labels behind is = true≢false (ap begins_so is)
no_name heads.label_new behind is = true≢false (ap begins_so is)
no_name heads.label_get behind is = true≢false (ap begins_so is)
no_name heads.label_set behind is = true≢false (ap begins_so is)
no_name heads.count behind is = true≢false (ap begins_so is)
no_name heads.open_cursor behind is = true≢false (ap begins_so is)
no_name heads.fetch behind is = true≢false (ap begins_so is)
no_name heads.close behind is = true≢false (ap begins_so is)

pub run_is_none : (before : ℕ) (lines : List (List ℕ)) (asked : Command) → IsCommand (codes "run" ∷ []) before lines asked → ⊥
run_is_none before lines asked (head, is, completes) = no_name is.name is.behind is.parts
