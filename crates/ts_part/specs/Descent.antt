-- The parts of a layer, newest first: each goes down to the layer of the next, and the last to none.
use Rattle.std.specs.Prelude.{◌≡◌, ℕ, ◌<◌, ◌≤◌, Bool, false, not, ◌&&◌, ◌||◌, List, [], ◌∷◌, Option, None, Some, IfSome, IsTrue}
use Rattle.std.specs.Bool.{⊤}
use Rattle.std.specs.Option.{option_map}
use Rattle.std.specs.FinMap.{contains_key, get}
use Rattle.ts_model.specs.declared.term.TermKind.{TermKind}
use Rattle.ts_model.specs.TextTriple.{TextTriple}
use Rattle.ts_model.specs.Sets.{contains, size}
use Rattle.ts_model.specs.History.{History, IsProperAncestor}
use Rattle.ts_part.specs.declared.header.PartKind.{PartKind}
use Rattle.ts_part.specs.declared.header.PartKind.TheVariants.{Layer, Rollup}
use Rattle.ts_part.specs.Facts.{Facts}
use Rattle.ts_part.specs.Numbers.{numbered_with}
use Rattle.ts_part.specs.PartNames.{Parents, PartName}
use Rattle.ts_part.specs.Step.{gained, layer_facts, lost, rollup_facts}

-- the parts go down from a layer, or from none
abbrev pub LeadDown : History → Option ℕ → List PartName → Type 0
LeadDown history None [] = ⊤
LeadDown history None (part ∷ parts) = ⊥
LeadDown history (Some k) [] = ⊥
LeadDown history (Some k) (part ∷ parts) =
    (part.number ≡ k) × IfSome part.parent (λ a. IsProperAncestor history a k) × LeadDown history part.parent parts

-- the first part in which a triple comes or goes decides
abbrev pub is_held : History → List PartName → TextTriple → Bool
is_held history [] triple = false
is_held history (part ∷ parts) triple =
    contains (gained history part.parent part.number) triple || (not (contains (lost history part.parent part.number) triple) && is_held history parts triple)

-- the number lies after the total before the part, and is no more than the total of its layer
abbrev pub IsNumberIn : History → TermKind → PartName → ℕ → Type 0
IsNumberIn history kind part number =
    (size (numbered_with kind history part.parent) < number) × (number ≤ size (numbered_with kind history (Some part.number)))

-- these are the parents of the history's layers
abbrev pub AreParents : History → Parents → Type 0
AreParents history parents = (k : ℕ) → get parents k ≡ option_map (λ layer. layer.parent) (get history k)

-- each layer that is rolled up stands, and is so up to a proper ancestor, or wholly
abbrev pub AreRolled : History → Parents → Type 0
AreRolled history rolled = (k : ℕ) (upto : Option ℕ) → get rolled k ≡ Some upto → IsTrue (contains_key history k) × IfSome upto (λ a. IsProperAncestor history a k)

-- what the file of a part says
abbrev pub facts_by : PartKind → History → Option ℕ → ℕ → Facts
facts_by Layer history parent k = layer_facts history k
facts_by Rollup history parent k = rollup_facts history parent k

abbrev pub facts_of : History → PartName → Facts
facts_of history part = facts_by part.kind history part.parent part.number
