-- A plain file as its head and its two sections.
use Rattle.std.proofs.Common.{◌≡◌, ◌≢◌, ◌^◌, ◌<◌, ◌≤◌, ℕ, List, [], ◌∷◌, ◌++◌, Option, None, Some, IfSome, refl, sym, ap, ◌∙◌, subst, arith, append_assoc, append-nil}
use Rattle.ts_model.specs.TextTriple.{TextTriple}
use Rattle.ts_plain.specs.PlainFile.{head_line, change_lines, plain_file}
use Rattle.ts_plain.specs.PlainReading.{AreApart, HasNoSign, IsParent, IsSection}
use Rattle.ts_plain.specs.PlainRules.{FitsParent, IsPlainLayer, KeepsPlainRules}
use Rattle.ts_plain.proofs.HeadLaws.{head_once}
use Rattle.ts_plain.proofs.SectionLaws.{one_section}

first_same : (a b : ℕ) (xs ys : List ℕ) → a ∷ xs ≡ b ∷ ys → a ≡ b
first_same a b xs ys e = cc

pub no_addition : (removals : List TextTriple) → HasNoSign 0x2B (change_lines 0x2D removals)
no_addition [] rest e = cc
no_addition (r ∷ removals) rest e = let same = first_same 0x2D 0x2B _ _ e in omega (arith, same)

pub nothing : (sign : ℕ) → HasNoSign sign []
nothing sign rest e = cc

pub parent_of : (number : ℕ) (parent : Option ℕ) (additions removals : List TextTriple) → IsPlainLayer number parent additions removals → IsParent number parent
parent_of number None additions removals layer = tt
parent_of number (Some parent) additions removals layer = (layer.0.parented, layer.0.parent_fits)

pub file_parts : (number : ℕ) (parent : Option ℕ) (additions removals : List TextTriple)
    → plain_file number parent additions removals ≡ head_line number parent ++ (change_lines 0x2B additions ++ change_lines 0x2D removals)
file_parts number parent additions removals = append_assoc (head_line number parent) (change_lines 0x2B additions) (change_lines 0x2D removals)

module _ (number : ℕ) (bytes : List ℕ) (parent : Option ℕ) (additions removals : List TextTriple) (layer : IsPlainLayer number parent additions removals)
    (is : bytes ≡ plain_file number parent additions removals) where
  whole : bytes ≡ head_line number parent ++ (change_lines 0x2B additions ++ change_lines 0x2D removals)
  whole = is ∙ file_parts number parent additions removals

  pub needs_head : ((parent : Option ℕ) (rest : List ℕ) → 1 ≤ number → IsParent number parent → bytes ≢ head_line number parent ++ rest) → ⊥
  needs_head none = none parent _ layer.0.numbered (parent_of number parent additions removals layer) whole

  module _ (fits : number < 2 ^ 32) (named : Option ℕ) (body : List ℕ) (can : IsParent number named) (head : bytes ≡ head_line number named ++ body) where
    both : (named ≡ parent) × (body ≡ change_lines 0x2B additions ++ change_lines 0x2D removals)
    both = head_once number named parent body _ bytes fits can (parent_of number parent additions removals layer) head whole

    first : IsSection 0x2B body additions (change_lines 0x2D removals)
    first = record { rise = layer.0.additions_rise; triples = layer.1; ends = no_addition removals; lines = both.1 }

    pub needs_additions : ((triples : List TextTriple) (rest : List ℕ) → IsSection 0x2B body triples rest → ⊥) → ⊥
    needs_additions none = none additions _ first

    module _ (added : List TextTriple) (behind : List ℕ) (section : IsSection 0x2B body added behind) where
      same : (added ≡ additions) × (behind ≡ change_lines 0x2D removals)
      same = one_section 0x2B body added additions behind _ section first

      second : IsSection 0x2D behind removals []
      second = record { rise = layer.0.removals_rise; triples = layer.2; ends = nothing 0x2D; lines = same.1 ∙ sym (append-nil (change_lines 0x2D removals)) }

      pub needs_removals : ((triples : List TextTriple) (rest : List ℕ) → IsSection 0x2D behind triples rest → ⊥) → ⊥
      needs_removals none = none removals [] second

      module _ (removed : List TextTriple) (rest : List ℕ) (other : IsSection 0x2D behind removed rest) where
        last : (removed ≡ removals) × (rest ≡ [])
        last = one_section 0x2D behind removed removals rest [] other second

        pub needs_end : rest ≡ []
        needs_end = last.1

        base : (p : Option ℕ) (triples : List TextTriple) → FitsParent number p triples → p ≡ None → triples ≡ []
        base None triples h e = h
        base (Some p) triples h e = cc

        pub needs_apart : AreApart added removed × (named ≡ None → removed ≡ [])
        needs_apart = (
          subst (λ triples. AreApart triples removed) (sym same.0) (subst (AreApart additions) (sym last.0) layer.0.apart),
          λ none. last.0 ∙ base parent removals layer.0.parent_fits (sym both.0 ∙ none),
        )

-- what was read is a layer's file
pub is_layer : (number : ℕ) (bytes : List ℕ) (named : Option ℕ) (body : List ℕ) (added removed : List TextTriple) (behind rest : List ℕ) → 1 ≤ number → IsParent number named
    → bytes ≡ head_line number named ++ body → IsSection 0x2B body added behind → IsSection 0x2D behind removed rest → rest ≡ []
    → AreApart added removed → (named ≡ None → removed ≡ []) → IsPlainLayer number named added removed × (bytes ≡ plain_file number named added removed)
is_layer number bytes named body added removed behind rest positive can head one other over apart base =
    let rules : KeepsPlainRules number named added removed = record {
      numbered = positive;
      parented = numbered named can;
      additions_rise = one.rise;
      removals_rise = other.rise;
      apart = apart;
      parent_fits = fitting named can base;
    } in
    let last : behind ≡ change_lines 0x2D removed = other.lines ∙ ap (λ l. change_lines 0x2D removed ++ l) over ∙ append-nil (change_lines 0x2D removed) in
    let file : bytes ≡ plain_file number named added removed =
    head ∙ ap (λ l. head_line number named ++ l) (one.lines ∙ ap (λ l. change_lines 0x2B added ++ l) last) ∙ sym (file_parts number named added removed) in
    ((rules, one.triples, other.triples), file)
  where
    fitting : (p : Option ℕ) → IsParent number p → (p ≡ None → removed ≡ []) → FitsParent number p removed
    fitting None h base = base refl
    fitting (Some p) h base = h.1

    numbered : (p : Option ℕ) → IsParent number p → IfSome p (λ n. 1 ≤ n)
    numbered None h = tt
    numbered (Some p) h = h.0
