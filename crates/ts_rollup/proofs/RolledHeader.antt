-- The header of a rollup's file.
use Rattle.std.proofs.Common.{◌≡◌, ◌+◌, ◌<◌, ◌≤◌, List, [], ◌∷◌, length, Option, Some, None, IfSome, refl, sym, ap, ◌∙◌, subst, arith, length-append}
use Rattle.std.specs.Option.{option_map, unwrap_or}
use Rattle.ts_model.specs.Limits.{number_limit}
use Rattle.ts_part.specs.Facts.{Facts, entries_of}
use Rattle.ts_part.specs.Header.{KeepsHeaderRules, header_of}
use Rattle.ts_part.specs.Rules.{KeepsRules}
use Rattle.ts_chain.specs.Chain.{IsChain, layer_of, parts_or_none, predicates_in, terms_in}
use Rattle.ts_rollup.specs.Rolled.{more_than}
use Rattle.ts_rollup.specs.Upto.{AreBelow}
use Rattle.ts_rollup.proofs.WholeWalks.{none_lost}

-- the newest part's rules
pub newest_rules : (part : Facts) (parts : List Facts) → IsChain (part ∷ parts) → KeepsRules part
newest_rules part parts chain = chain.rules 0 part (omega arith)

pub fits_terms : (parts : List Facts) → IsChain parts → (terms_in parts < number_limit) × (predicates_in parts < number_limit)
fits_terms [] chain = absurd chain.linked
fits_terms (part ∷ parts) chain = let header = (newest_rules part parts chain).lists.header in (header.terms, header.predicates)

-- the lower chain, or none
abbrev pub IsLower : List Facts → Type 0
IsLower [] = Unit {0}
IsLower (part ∷ parts) = IsChain (part ∷ parts)

module _ (lower upper : List Facts) (facts : Facts) (below : AreBelow lower upper) (number : layer_of upper ≡ Some facts.number) (parent : facts.parent ≡ layer_of lower)
    (terms_before : facts.terms_before ≡ terms_in lower) (predicates_before : facts.predicates_before ≡ predicates_in lower)
    (terms : terms_in lower + length (entries_of facts) ≡ terms_in upper) (predicates : predicates_in lower + length facts.predicates ≡ predicates_in upper)
    (removals : facts.removals ≡ more_than lower upper) where
  numbered : (parts : List Facts) → IsChain parts → layer_of parts ≡ Some facts.number → 1 ≤ facts.number
  numbered [] chain is = absurd chain.linked
  numbered (part ∷ parts) chain is =
      let some = (newest_rules part parts chain).lists.header.number in
      let same : part.number ≡ facts.number = ap (λ o. unwrap_or o 0) is in
      omega arith

  placed : (parts : List Facts) → IsLower parts → IfSome (layer_of parts) (λ a. IfSome (layer_of upper) (λ k. a < k)) → IfSome (layer_of parts) (λ p. (1 ≤ p) × (p < facts.number))
  placed [] chain h = tt
  placed (part ∷ parts) chain h =
      let less : part.number < facts.number = subst (λ o. IfSome o (λ k. part.number < k)) number h in
      ((newest_rules part parts chain).lists.header.number, less)

  nothing : (parts : List Facts) → layer_of parts ≡ None → (terms_in parts ≡ 0) × (predicates_in parts ≡ 0) × (more_than parts upper ≡ [])
  nothing [] none = (refl, refl, sym (none_lost upper))
  nothing (part ∷ parts) none = (let no : ⊥ = cc in absurd no)

  pub rolled_header : IsChain upper → IsLower lower → KeepsHeaderRules (header_of facts 0)
  rolled_header chain lower_chain = record {
    number = numbered upper chain number;
    placed = record {
      parent = subst (λ o. IfSome o (λ p. (1 ≤ p) × (p < facts.number))) (sym parent) (placed lower lower_chain below.number);
      base = λ none.
          let empty = nothing lower (sym parent ∙ none) in
          (terms_before ∙ empty.0, predicates_before ∙ empty.1, ap length (removals ∙ empty.2));
    };
    terms = (let fits = (fits_terms upper chain).0 in let long = length-append facts.nodes facts.values in omega arith);
    predicates = (let fits = (fits_terms upper chain).1 in omega arith);
  }

-- the lower chain as it is passed
pub lower_is : {A : Type 0} (view : A → List Facts) (upto : Option A) → IfSome upto (λ chain. IsChain (view chain)) → IsLower (parts_or_none (option_map view upto))
lower_is view None chain = tt
lower_is view (Some a) chain = some (view a) chain
  where
    some : (parts : List Facts) → IsChain parts → IsLower parts
    some [] chain = tt
    some (part ∷ parts) chain = chain
