-- How far the numbers of each kind are given.
use Rattle.std.specs.Prelude.{ℕ, ◌+◌, cond, length, nat_eq}
use Rattle.ts_model.specs.declared.term.TermKind.{TermKind}
use Rattle.ts_model.specs.declared.term.TermKind.TheVariants.{Node, Predicate, Value}
use Rattle.ts_model.specs.Order.{kind_place}
use Rattle.ts_part.specs.Facts.{Facts}
use Rattle.ts_builder.specs.declared.numbers.Last.{Last}

-- the last number that is given of a kind
abbrev pub count_of : TermKind → Last → ℕ
count_of Node last = last.node
count_of Predicate last = last.predicate
count_of Value last = last.value

-- the last number before those of a layer's new terms of a kind
abbrev pub number_before : TermKind → Facts → ℕ
number_before Node new = new.terms_before
number_before Predicate new = new.predicates_before
number_before Value new = new.terms_before + length new.nodes

-- one of a kind, and none of another
abbrev pub one_of : TermKind → TermKind → ℕ
one_of kind other = cond (nat_eq (kind_place other) (kind_place kind)) 1 0
