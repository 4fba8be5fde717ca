-- What the words of a command say of it.
use Rattle.std.specs.Prelude.{◌≡◌, ◌⊎◌, ℕ, List, [], ◌∷◌, ◌++◌, codes, Option}
use Rattle.ts_model.specs.Names.{IsCursorName, IsLabelName}
use Rattle.ts_model.specs.declared.pattern.Pattern.{Pattern}
use Rattle.ts_model.specs.TextTriple.{TextTriple}
use Rattle.ts_script.specs.Words.{IsLayerWord, IsRefWord, IsTargetWord, IsVersionWord, IsCountWord, SpellPattern, SpellTriple, unbound}
use Rattle.ts_script.specs.declared.command.LayerRef.{LayerRef}
use Rattle.ts_script.specs.declared.command.Command.TheVariants as command
use Rattle.ts_script.specs.declared.command.Ref.{Ref}
use Rattle.ts_script.specs.declared.head.Head.{Head}
use Rattle.ts_script.specs.declared.head.Head.TheVariants.{Whole, Awaits}
use Rattle.ts_script.specs.declared.opening.Opening.TheVariants as opening

-- the names of commands
pub data Name : Type 0 where
  base : Name
  commit : Name
  list : Name
  has : Name
  added : Name
  removed : Name
  layers : Name
  squash : Name
  labels : Name
  label_new : Name
  label_get : Name
  label_set : Name
  count : Name
  open_cursor : Name
  fetch : Name
  close : Name

-- the words with which a command begins
abbrev pub name_words : Name → List (List ℕ)
name_words base = codes "base" ∷ []
name_words commit = codes "commit" ∷ []
name_words list = codes "list" ∷ []
name_words has = codes "has" ∷ []
name_words added = codes "added" ∷ []
name_words removed = codes "removed" ∷ []
name_words layers = codes "layers" ∷ []
name_words squash = codes "squash" ∷ []
name_words labels = codes "labels" ∷ []
name_words label_new = codes "label" ∷ codes "new" ∷ []
name_words label_get = codes "label" ∷ codes "get" ∷ []
name_words label_set = codes "label" ∷ codes "set" ∷ []
name_words count = codes "count" ∷ []
name_words open_cursor = codes "open" ∷ []
name_words fetch = codes "fetch" ∷ []
name_words close = codes "close" ∷ []

-- the word is a REF, and the head is made of what it refers to
abbrev pub IsOfRef : (Ref → Head) → List (List ℕ) → Head → Type 0
IsOfRef make words head = (word : List ℕ) × (at : Ref) × (words ≡ word ∷ []) × IsRefWord word at × (head ≡ make at)

-- the word is a LAYER, and the head is made of what it names
abbrev pub IsOfLayer : (LayerRef → Head) → List (List ℕ) → Head → Type 0
IsOfLayer make words head = (word : List ℕ) × (layer : LayerRef) × (words ≡ word ∷ []) × IsLayerWord word layer × (head ≡ make layer)

-- the word is the name of a label, and the head is made of it
abbrev pub IsOfLabel : (List ℕ → Head) → List (List ℕ) → Head → Type 0
IsOfLabel make words head = (name : List ℕ) × (words ≡ name ∷ []) × IsLabelName name × (head ≡ make name)

-- the words are a REF and the parts of a pattern, and the head is made of these
abbrev pub IsOfPattern : (Ref → Pattern → Head) → List (List ℕ) → Head → Type 0
IsOfPattern make words head =
    (word s p o : List ℕ) × (at : Ref) × (pattern : Pattern) × (words ≡ word ∷ s ∷ p ∷ o ∷ []) × IsRefWord word at × SpellPattern s p o pattern × (head ≡ make at pattern)

-- What the words behind the name say: nothing behind `base`, `layers` and `labels`; LAYER behind `added` and `removed`; `REF s p o`
-- behind `has`, and behind `count` and `list` with `*` for a part that may be any; REF alone behind `list` too; a label's name behind
-- `label new` and `label get`, and that with VERSION and LAYER or `none` behind `label set`; a cursor's name behind `close`, that with a
-- number behind `fetch`, and that before `REF s p o` behind `open`; REF behind the others. `base` and `commit` await a body.
abbrev pub IsHeadOf : Name → List (List ℕ) → Head → Type 0
IsHeadOf base words head = (words ≡ []) × (head ≡ Awaits opening.Base)
IsHeadOf commit words head = IsOfRef (λ at. Awaits (opening.Commit at)) words head
IsHeadOf list words head = IsOfRef (λ at. Whole (command.Listing at unbound)) words head ⊎ IsOfPattern (λ at pattern. Whole (command.Listing at pattern)) words head
IsHeadOf has words head =
    (word s p o : List ℕ) × (at : Ref) × (triple : TextTriple) × (words ≡ word ∷ s ∷ p ∷ o ∷ []) × IsRefWord word at × SpellTriple s p o triple
    × (head ≡ Whole (command.Has at triple))
IsHeadOf added words head = IsOfLayer (λ layer. Whole (command.Added layer)) words head
IsHeadOf removed words head = IsOfLayer (λ layer. Whole (command.Removed layer)) words head
IsHeadOf layers words head = (words ≡ []) × (head ≡ Whole command.Layers)
IsHeadOf squash words head = IsOfRef (λ at. Whole (command.Squash at)) words head
IsHeadOf labels words head = (words ≡ []) × (head ≡ Whole command.Labels)
IsHeadOf label_new words head = IsOfLabel (λ name. Whole (command.LabelNew name)) words head
IsHeadOf label_get words head = IsOfLabel (λ name. Whole (command.LabelGet name)) words head
IsHeadOf label_set words head =
    (name version to : List ℕ) × (number : ℕ) × (target : Option LayerRef) × (words ≡ name ∷ version ∷ to ∷ []) × IsLabelName name
    × IsVersionWord version number × IsTargetWord to target × (head ≡ Whole (command.LabelSet name number target))
IsHeadOf count words head = IsOfPattern (λ at pattern. Whole (command.Count at pattern)) words head
IsHeadOf open_cursor words head =
    (name : List ℕ) × (behind : List (List ℕ)) × (words ≡ name ∷ behind) × IsCursorName name × IsOfPattern (λ at pattern. Whole (command.OpenCursor name at pattern)) behind head
IsHeadOf fetch words head =
    (name word : List ℕ) × (n : ℕ) × (words ≡ name ∷ word ∷ []) × IsCursorName name × IsCountWord word n × (head ≡ Whole (command.Fetch name n))
IsHeadOf close words head = (name : List ℕ) × (words ≡ name ∷ []) × IsCursorName name × (head ≡ Whole (command.CloseCursor name))

-- the words are a name and what it asks for
pub record IsHead (words : List (List ℕ)) (head : Head) : Type 0 where
  pub name : Name
  pub behind : List (List ℕ)
  pub parts : words ≡ name_words name ++ behind
  pub says : IsHeadOf name behind head

-- no command begins with these words and has no other
abbrev pub AreNoHead : List (List ℕ) → Type 0
AreNoHead words = (head : Head) → IsHead words head → ⊥

-- what stands before REF and the words of terms
abbrev pub TakesTerms : List (List ℕ) → Type 0
TakesTerms front =
    (front ≡ codes "has" ∷ [])
    ⊎ ((front ≡ codes "list" ∷ []) ⊎ ((front ≡ codes "count" ∷ []) ⊎ ((name : List ℕ) × (front ≡ codes "open" ∷ name ∷ []) × IsCursorName name)))

-- the words name terms, and a layer before them: they are REF and three words behind `has`, `list`, `count` or `open C`
abbrev pub HaveTerms : List (List ℕ) → Type 0
HaveTerms words =
    (front : List (List ℕ)) × (word s p o : List ℕ) × (at : Ref) × (words ≡ front ++ word ∷ s ∷ p ∷ o ∷ []) × TakesTerms front × IsRefWord word at
