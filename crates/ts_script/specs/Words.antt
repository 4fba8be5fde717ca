-- What a word of a command names.
use Rattle.std.specs.Prelude.{◌≡◌, ◌⊎◌, ℕ, ◌^◌, ◌<◌, ◌≤◌, List, ◌∷◌, length, codes, decimal, map, Option, None, Some}
use Rattle.std.specs.Borrow.{Bor}
use Rattle.ts_model.specs.declared.pattern.Pattern.{Pattern}
use Rattle.ts_model.specs.declared.term.TermKind.{TermKind}
use Rattle.ts_model.specs.declared.term.TermKind.TheVariants.{Node, Predicate, Value}
use Rattle.ts_model.specs.TextTriple.{TextTriple, HasKinds}
use Rattle.ts_model.specs.LayerText.{layer_text}
use Rattle.ts_model.specs.Names.{IsLabelName}
use Rattle.ts_model.specs.TextTerm.{TextTerm}
use Rattle.ts_nt.specs.LineRead.{SpellsTerm}
use Rattle.ts_script.specs.declared.command.LayerRef.{LayerRef}
use Rattle.ts_script.specs.declared.command.LayerRef.TheVariants.{Number, Last}
use Rattle.ts_script.specs.declared.command.Ref.{Ref}
use Rattle.ts_script.specs.declared.command.Ref.TheVariants.{Layer, Label}

-- the texts of borrowed words
abbrev pub texts : List (Bor (List ℕ)) → List (List ℕ)
texts words = map (λ word. word.now) words

-- the word of a layer: `last`, or its number as 8 digits
abbrev pub layer_word : LayerRef → List ℕ
layer_word Last = codes "last"
layer_word (Number n) = layer_text n

abbrev pub IsLayerWord : List ℕ → LayerRef → Type 0
IsLayerWord word Last = word ≡ layer_word Last
IsLayerWord word (Number n) = (n < 2 ^ 32) × (word ≡ layer_word (Number n))

-- the word of a layer, or `@` and the name of a label
abbrev pub IsRefWord : List ℕ → Ref → Type 0
IsRefWord word (Layer layer) = IsLayerWord word layer
IsRefWord word (Label name) = (word ≡ 64 ∷ name) × IsLabelName name

-- a version in decimal, without a sign and without leading zeros
abbrev pub IsVersionWord : List ℕ → ℕ → Type 0
IsVersionWord word version = (version < 2 ^ 64) × (word ≡ decimal version)

-- where a label moves: the word of a layer, or `none`
abbrev pub IsTargetWord : List ℕ → Option LayerRef → Type 0
IsTargetWord word None = word ≡ codes "none"
IsTargetWord word (Some layer) = IsLayerWord word layer

-- the word spells this term, within the limit of a term
abbrev pub IsTermWord : List ℕ → TextTerm → Type 0
IsTermWord word term = SpellsTerm word term.kind term.spelling × (length term.spelling ≤ 1048576)

-- the three words spell the terms of this triple
pub record SpellTriple (s p o : List ℕ) (triple : TextTriple) : Type 0 where
  pub kinds : HasKinds triple.subject triple.predicate triple.object
  pub subject : IsTermWord s triple.subject
  pub predicate : IsTermWord p triple.predicate
  pub object : IsTermWord o triple.object

-- the word of a part of a pattern: `*`, or a term of such a kind
abbrev pub IsPartWord : (TermKind → Type 0) → List ℕ → Option TextTerm → Type 0
IsPartWord IsKind word None = word ≡ codes "*"
IsPartWord IsKind word (Some term) = IsKind term.kind × IsTermWord word term

abbrev pub IsNodeKind : TermKind → Type 0
IsNodeKind kind = kind ≡ Node

abbrev pub IsPredicateKind : TermKind → Type 0
IsPredicateKind kind = kind ≡ Predicate

abbrev pub IsObjectKind : TermKind → Type 0
IsObjectKind kind = (kind ≡ Node) ⊎ (kind ≡ Value)

-- the three words spell the parts of this pattern
pub record SpellPattern (s p o : List ℕ) (pattern : Pattern) : Type 0 where
  pub subject : IsPartWord IsNodeKind s pattern.subject
  pub predicate : IsPartWord IsPredicateKind p pattern.predicate
  pub object : IsPartWord IsObjectKind o pattern.object

-- how many triples to fetch, in decimal, without a sign and without leading zeros
abbrev pub IsCountWord : List ℕ → ℕ → Type 0
IsCountWord word n = (1 ≤ n) × (n ≤ 65536) × (word ≡ decimal n)

-- the pattern that every triple fits
abbrev pub unbound : Pattern
unbound = record { subject = None; predicate = None; object = None }
