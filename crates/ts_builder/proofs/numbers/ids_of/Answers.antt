use Rattle.std.proofs.Common.{◌≡◌, length, ◌∙◌, arith}
use Rattle.std.proofs.lemmas.List.Filters.{dedup_is}
use Rattle.ts_builder.proofs.IdLemmas.{ids_are}
use Rattle.ts_builder.proofs.NumberLemmas.{AreNumbered, IsWithin, count_is, ids_by, within_all}
use Rattle.ts_builder.proofs.numbers.ids_of.Goals as goal

within : (c : goal.After-ends-in-loop-i-1) → IsWithin c.in_ok-ends.ends c.in_ok-relations.relations c.len-count.result c.loop-i.i
within c = within_all c.args.new.now c.args.terms c.requires.lookup c.in_ok-ends.ends c.in_ok-relations.relations
    (record { numbers = c.in_ok-ends.ensures.numbers; places = c.in_ok-ends.ensures.places }) (record { numbers = c.in_ok-relations.ensures.numbers; places = c.in_ok-relations.ensures.places })
    c.len-count.result c.loop-i.i (c.len-count.ensures ∙ c.in_ok-relations.relations.places.ok.0) c.loop-i-test.true

pub at-requires-clause-place : goal.at-requires-clause-place
at-requires-clause-place c = (within c).subject

pub at-requires-clause-number : goal.at-requires-clause-number
at-requires-clause-number c = (within c).subject_number

pub at-requires-in-loop-i-clause-number : goal.at-requires-in-loop-i-clause-number
at-requires-in-loop-i-clause-number c =
    (within_all c.args.new.now c.args.terms c.requires.lookup c.in_ok-ends.ends c.in_ok-relations.relations
    (record { numbers = c.in_ok-ends.ensures.numbers; places = c.in_ok-ends.ensures.places }) (record { numbers = c.in_ok-relations.ensures.numbers; places = c.in_ok-relations.ensures.places })
    c.len-count.result c.loop-i.i (c.len-count.ensures ∙ c.in_ok-relations.relations.places.ok.0) c.loop-i-test.true).predicate_number

pub at-requires-in-loop-i-2-clause-place : goal.at-requires-in-loop-i-2-clause-place
at-requires-in-loop-i-2-clause-place c =
    (within_all c.args.new.now c.args.terms c.requires.lookup c.in_ok-ends.ends c.in_ok-relations.relations
    (record { numbers = c.in_ok-ends.ensures.numbers; places = c.in_ok-ends.ensures.places }) (record { numbers = c.in_ok-relations.ensures.numbers; places = c.in_ok-relations.ensures.places })
    c.len-count.result c.loop-i.i (c.len-count.ensures ∙ c.in_ok-relations.relations.places.ok.0) c.loop-i-test.true).object

pub at-requires-in-loop-i-2-clause-number : goal.at-requires-in-loop-i-2-clause-number
at-requires-in-loop-i-2-clause-number c =
    (within_all c.args.new.now c.args.terms c.requires.lookup c.in_ok-ends.ends c.in_ok-relations.relations
    (record { numbers = c.in_ok-ends.ensures.numbers; places = c.in_ok-ends.ensures.places }) (record { numbers = c.in_ok-relations.ensures.numbers; places = c.in_ok-relations.ensures.places })
    c.len-count.result c.loop-i.i (c.len-count.ensures ∙ c.in_ok-relations.relations.places.ok.0) c.loop-i-test.true).object_number

pub returns : goal.returns
returns c = λ parts triples are.
    let kept : c.dedup.new.self.items ≡ _ = dedup_is _ _ _ c.dedup.ensures.filtered in
    let ends : AreNumbered c.args.new.now c.args.terms.ends c.in_ok-ends.ends = record { numbers = c.in_ok-ends.ensures.numbers; places = c.in_ok-ends.ensures.places } in
    let relations : AreNumbered c.args.new.now c.args.terms.relations c.in_ok-relations.relations = record { numbers = c.in_ok-relations.ensures.numbers; places = c.in_ok-relations.ensures.places } in
    let count : c.len-count.result ≡ length triples = c.len-count.ensures ∙ c.in_ok-relations.relations.places.ok.0
    ∙ count_is parts c.args.new.now triples c.args.terms are c.in_ok-ends.ends c.in_ok-relations.relations ends relations in
    let all : c.loop-i.i ≡ c.len-count.result = omega arith in
    record {
      given = c.loop-i.ids.items;
      each = ids_by parts c.args.new.now triples c.args.terms are c.in_ok-ends.ends c.in_ok-relations.relations ends relations c.loop-i.ids.items c.len-count.result count
          (c.loop-i.invariant.many ∙ all) (λ i t below. c.loop-i.invariant.each i t (omega arith));
      rising = ids_are c.loop-i.ids.items c.sort_unstable.new.self.items c.dedup.new.self.items c.sort_unstable.ensures.permutation c.sort_unstable.ensures.sorted kept;
    }
