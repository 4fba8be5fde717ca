use Rattle.std.proofs.Common.{List, ℕ, sym, ◌∙◌, ap, subst, eqb}
use Rattle.std.specs.Cmp.{nat_eq_equiv}
use Rattle.std.specs.List.Sorted.{IsStrictlyIncreasing}
use Rattle.std.proofs.lemmas.Bool.{eqb-true}
use Rattle.std.proofs.lemmas.List.Filters.{dedup_is}
use Rattle.std.proofs.lemmas.Map.Keys.{IsStrictlyIncreasing-dedup}
use Rattle.std.proofs.lemmas.List.{take_all}
use Rattle.ts_model.specs.LayerText.{layer_text}
use Rattle.ts_replace.specs.Names.{IsLayerNumber}
use Rattle.ts_replace.specs.Scanned.{AreNamedIn}
use Rattle.ts_replace.proofs.NamedLemmas.{named_step, named_step_same, named_sorted, layer_text_tells}
use Rattle.ts_replace.proofs.folder.numbers_in.Goals as goal
use Rattle.ts_replace.proofs.folder.numbers_in.Goals.{in-Some+in_ok-push, in_default}

pub loop-name-preserved : goal.loop-name-preserved
loop-name-preserved c =
    elim c.match-number_before.branch [
      | in-Some+in_ok-push w ↦ named_step IsLayerNumber layer_text c.args.ending.now c.args.names.now c.loop-name.name-index c.name-item.result
          c.loop-name.numbers.items c.match-number_before.numbers.items w.in-Some.number c.loop-name-test.true c.name-item.is
          (ap (λ v. v.items) w.numbers-is ∙ w.in_ok-push.ensures.items)
          (λ y is_number same. layer_text_tells y w.in-Some.number is_number.1 w.in-Some.ensures.0.1 same)
          w.in-Some.ensures.0 (sym c.bytes.ensures.value ∙ w.in-Some.ensures.1) c.loop-name.invariant
      | in_default w ↦ named_step_same IsLayerNumber layer_text c.args.ending.now c.args.names.now c.loop-name.name-index c.name-item.result
          c.loop-name.numbers.items c.match-number_before.numbers.items c.loop-name-test.true c.name-item.is (ap (λ v. v.items) w.numbers-is)
          (λ y is_number same. w.in_default.ensures y is_number (c.bytes.ensures.value ∙ same)) c.loop-name.invariant
    ]

pub returns-clause-rising : goal.returns-clause-rising
returns-clause-rising c =
    subst IsStrictlyIncreasing (sym (dedup_is _ _ _ c.dedup.ensures.filtered)) (IsStrictlyIncreasing-dedup _ c.sort_unstable.ensures.sorted)

pub returns-clause-named : goal.returns-clause-named
returns-clause-named c =
    let all = take_all c.loop-name.name-index c.args.names.now c.loop-name-test.false in
    subst (λ (xs : List ℕ). AreNamedIn IsLayerNumber layer_text c.args.ending.now c.args.names.now xs) (sym (dedup_is _ _ _ c.dedup.ensures.filtered))
    (named_sorted IsLayerNumber layer_text c.args.ending.now eqb nat_eq_equiv eqb-true c.args.names.now _ _ c.sort_unstable.ensures.permutation
    (subst (λ (ns : List (List ℕ)). AreNamedIn IsLayerNumber layer_text c.args.ending.now ns c.loop-name.numbers.items) all c.loop-name.invariant))
