-- Terms with their numbers, before they are put in order and after.
use Rattle.std.specs.Prelude.{◌≡◌, ℕ, ◌+◌, ◌++◌, ◌⊎◌, List, length, map, All, Contains}
use Rattle.std.specs.List.Sorted.{IsPermutation, IsSorted, IsStrictlySortedBy}
use Rattle.std.specs.declared.cmp.Ordering.{Ordering}
use Rattle.std.specs.Ordering.{nat_cmp, on, then_cmp}
use Rattle.ts_model.specs.declared.term.TermKind.{TermKind}
use Rattle.ts_model.specs.declared.term.TermKind.TheVariants.{Node, Value}
use Rattle.ts_model.specs.Order.{term_cmp}
use Rattle.ts_model.specs.TextTerm.{TextTerm, IsTerm}
use Rattle.ts_chain.specs.declared.spelled.Entry.{Entry}

abbrev pub entry_cmp : Entry → Entry → Ordering
entry_cmp = then_cmp (on (λ entry. entry.term) term_cmp) (on (λ entry. entry.id) nat_cmp)

abbrev pub ids_of : List Entry → List ℕ
ids_of entries = map (λ entry. entry.id) entries

abbrev pub terms_of_entries : List Entry → List TextTerm
terms_of_entries entries = map (λ entry. entry.term) entries

abbrev pub IsNodeOrValue : TextTerm → Type 0
IsNodeOrValue term = (term.kind ≡ Node) ⊎ (term.kind ≡ Value)

-- the entry has the number and the term that bears it
pub record IsEntryOf (Names : ℕ → TextTerm → Type 0) (id : ℕ) (entry : Entry) : Type 0 where
  pub id_is : entry.id ≡ id
  pub names : Names id entry.term
  pub is_term : IsTerm entry.term

-- each has the term that bears its number
abbrev pub AreEntries : (ℕ → TextTerm → Type 0) → TermKind → List Entry → Type 0
AreEntries Names kind entries = All (λ entry. Names entry.id entry.term × (entry.term.kind ≡ kind) × IsTerm entry.term) entries

-- the numbers stand in the entries of nodes or in those of values, in their order
pub record AreSplit (Names : ℕ → TextTerm → Type 0) (ids : List ℕ) (nodes values : List Entry) : Type 0 where
  pub nodes_named : AreEntries Names Node nodes
  pub values_named : AreEntries Names Value values
  pub nodes_rise : IsStrictlySortedBy nat_cmp (ids_of nodes)
  pub values_rise : IsStrictlySortedBy nat_cmp (ids_of values)
  pub within : (id : ℕ) → Contains (ids_of nodes) id ⊎ Contains (ids_of values) id → Contains ids id
  pub all : (id : ℕ) → Contains ids id → Contains (ids_of nodes) id ⊎ Contains (ids_of values) id
  pub counted : length nodes + length values ≡ length ids

-- terms are those of entries in their order, and a list of numbers has theirs behind what it had
pub record IsInOrder (entries : List Entry) (terms : List TextTerm) (old new : List ℕ) : Type 0 where
  pub sorted : List Entry
  pub moved : IsPermutation entries sorted
  pub order : IsSorted entry_cmp sorted
  pub terms_are : terms ≡ terms_of_entries sorted
  pub ids_are : new ≡ old ++ ids_of sorted
