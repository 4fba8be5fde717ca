-- What the working sets of a listing hold, by value.
use Rattle.std.specs.Prelude.{ℕ, Bool, cond, Option, Some, None}
use Rattle.std.specs.BTreeMap.{BTreeMap, get_by}
use Rattle.std.specs.BTreeSet.{BTreeSet, contains_by}
use denote.Ref.{Bor}
use Rattle.ts_model.specs.TextTriple.{TextTriple}
use Rattle.ts_model.specs.TextTerm.{TextTerm}
use Rattle.ts_model.specs.Order.{triple_cmp, term_cmp}

-- the set refers to such a triple
abbrev pub holds : BTreeSet (Bor TextTriple) → TextTriple → Bool
holds set triple = contains_by (λ held. triple_cmp triple held.now) set

-- the place that is noted for a term
abbrev pub birth_in : BTreeMap (Bor TextTerm) ℕ → TextTerm → Option ℕ
birth_in births term = get_by (λ held. term_cmp term held.now) births

-- the first place stays, and where there is none yet this one is noted if it has the term
abbrev pub noted : Option ℕ → Bool → ℕ → Option ℕ
noted None here place = cond here (Some place) None
noted (Some first) here place = Some first
