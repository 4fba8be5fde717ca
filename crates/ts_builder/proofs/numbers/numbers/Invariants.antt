use Rattle.std.proofs.Common.{◌≡◌, ◌+◌, length, take}
use Rattle.ts_model.specs.declared.term.TermKind.{TermKind}
use Rattle.ts_builder.specs.Counting.{count_of, number_before}
use Rattle.ts_builder.specs.Numbering.{IsNumberOf}
use Rattle.ts_builder.specs.declared.terms.Found.{Found}
use Rattle.std.specs.List.{AllZip}
use Rattle.std.proofs.Common.{ℕ}
use Rattle.ts_builder.proofs.NumberLemmas.{of_kind}
use Rattle.ts_builder.proofs.numbers.numbers.Given as goal

abbrev pub invariant-loop-one : goal.invariant-loop-one
invariant-loop-one l = record {
  counts : (kind : TermKind) → count_of kind l.last ≡ number_before kind l.new + length (of_kind kind (take l.one-index l.found));
  numbers : AllZip (λ (one : Found) (number : ℕ). IsNumberOf l.new one.term.now one.id number) (take l.one-index l.found) l.numbers.items;
}
