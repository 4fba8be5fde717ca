use Rattle.std.proofs.Common.{◌≡◌, All, map, take}
use Rattle.std.specs.Option.{option_map}
use Rattle.ts_chain.specs.Chain.{parts_or_none}
use Rattle.ts_builder.specs.declared.terms.Found.{Found}
use Rattle.ts_builder.specs.Lookups.{IsIdOrNone, found_terms}
use Rattle.ts_builder.proofs.terms.ask.Given as goal

abbrev pub invariant-loop-term : goal.invariant-loop-term
invariant-loop-term l = record {
  terms : found_terms l.found.items ≡ map (λ term. term.now) (take l.term-index l.terms);
  ids : All (λ (one : Found). IsIdOrNone (parts_or_none (option_map (λ chain. chain.now) l.parent)) one.term.now one.id) l.found.items;
}
