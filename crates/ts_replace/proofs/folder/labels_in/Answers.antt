use Rattle.std.proofs.Common.{◌≡◌, List, ℕ, sym, ◌∙◌, ap, subst, rules}
use Rattle.std.specs.Prelude.{codes, nat_eq}
use Rattle.std.specs.Ordering.{nat_cmp, is_lt}
use Rattle.std.specs.Cmp.Lexicographic.{slice_cmp, pointwise, nat_list_cmp_total, nat_list_eq_equiv, texts_ties}
use Rattle.std.specs.List.{dedup}
use Rattle.std.specs.List.Sorted.{IsSorted, IsStrictlySortedBy}
use Rattle.std.proofs.lemmas.Fn.{dedup_same}
use Rattle.std.proofs.lemmas.List.{take_all}
use Rattle.std.proofs.lemmas.List.Kept.{IsStrictlySortedBy-dedup}
use Rattle.std.proofs.lemmas.List.Sorted.{ranks_by, answers_always}
use Rattle.std.proofs.lemmas.Slice.Eq.{bytes_eq-Decides}
use Rattle.ts_model.specs.Names.{IsLabelName}
use Rattle.ts_replace.specs.Scanned.{AreNamedIn}
use Rattle.ts_replace.proofs.NamedLemmas.{named_step, named_step_same, named_sorted}
use Rattle.ts_replace.proofs.folder.labels_in.Goals as goal
use Rattle.ts_replace.proofs.folder.labels_in.Goals.{in-Some+in_ok-push, in_default}

pub loop-name-preserved : goal.loop-name-preserved
loop-name-preserved c =
    elim c.match-label_before.branch [
      | in-Some+in_ok-push w ↦ named_step IsLabelName (λ name. name) (codes ".label") c.args.names.now c.loop-name.name-index c.name-item.result
          c.loop-name.labels.items c.match-label_before.labels.items w.in-Some.label c.loop-name-test.true c.name-item.is
          (ap (λ v. v.items) w.labels-is ∙ w.in_ok-push.ensures.items)
          (λ y _ same. same)
          w.in-Some.ensures.0 (sym c.bytes.ensures.value ∙ w.in-Some.ensures.1) c.loop-name.invariant
      | in_default w ↦ named_step_same IsLabelName (λ name. name) (codes ".label") c.args.names.now c.loop-name.name-index c.name-item.result
          c.loop-name.labels.items c.match-label_before.labels.items c.loop-name-test.true c.name-item.is (ap (λ v. v.items) w.labels-is)
          (λ y is_name same. w.in_default.ensures y is_name (c.bytes.ensures.value ∙ same)) c.loop-name.invariant
    ]

kept : (c : goal.After-dedup_by) → c.dedup_by.new.self.items ≡ dedup (pointwise nat_eq) c.sort_unstable_by.new.self.items
kept c = dedup_same _ (pointwise nat_eq) _ (λ x y b f x' y' k. search rules) _ _ c.dedup_by.ensures.filtered

ordered : (c : goal.After-dedup_by) → IsSorted (slice_cmp nat_cmp) c.sort_unstable_by.new.self.items
ordered c =
    c.sort_unstable_by.ensures.sorted (λ a b. is_lt (slice_cmp nat_cmp a b)) (ranks_by nat_list_cmp_total (λ x. x))
    (answers_always _ (λ a r. is_lt r ≡ is_lt (slice_cmp nat_cmp a.0.now a.1.0.now)) _ (λ f a r f' k. search rules))

pub returns-clause-rising : goal.returns-clause-rising
returns-clause-rising c =
    subst (IsStrictlySortedBy (slice_cmp nat_cmp)) (sym (kept c)) (IsStrictlySortedBy-dedup nat_list_cmp_total texts_ties _ (ordered c))

pub returns-clause-named : goal.returns-clause-named
returns-clause-named c =
    let all = take_all c.loop-name.name-index c.args.names.now c.loop-name-test.false in
    subst (λ (xs : List (List ℕ)). AreNamedIn IsLabelName (λ name. name) (codes ".label") c.args.names.now xs) (sym (kept c))
    (named_sorted IsLabelName (λ name. name) (codes ".label") (pointwise nat_eq) nat_list_eq_equiv (λ x y. (bytes_eq-Decides x y).0) c.args.names.now _ _ c.sort_unstable_by.ensures.permutation
    (subst (λ (ns : List (List ℕ)). AreNamedIn IsLabelName (λ name. name) (codes ".label") ns c.loop-name.labels.items) all c.loop-name.invariant))
