use Rattle.std.proofs.Common.{◌≡◌, ◌≢◌, ℕ, ◌<◌, ◌≤◌, length, get_or, sym, ◌∙◌, ap, subst, arith, inl, inr}
use Rattle.std.proofs.lemmas.Bool.{cases_lt, ne_eqb}
use Rattle.ts_plane.specs.Cursors.{NoPairHas}
use Rattle.ts_plane.specs.Read.{parts_in}
use Rattle.ts_plane.proofs.ObjectLemmas.{object_pair_within}
use Rattle.ts_plane.proofs.NextLemmas.{none_between}
use Rattle.ts_plane.proofs.sections.Sections.place_behind.Goals as goal

pub returns-then-misses-lt-STEPS-clause-none : goal.returns-then-misses-lt-STEPS-clause-none
returns-then-misses-lt-STEPS-clause-none c =
    λ q low high.
    (let here : c.args.next ≡ q = omega (arith, low, high) in
    ne_eqb c.args.p (get_or c.args.self.now.predicates (get_or c.args.self.now.by_object.rights q 0) 0)
    (λ e. c.requires.other (ap (λ i. get_or c.args.self.now.predicates (get_or c.args.self.now.by_object.rights i 0) 0) here ∙ sym e)))

pub next_pair-requires : goal.next_pair-requires
next_pair-requires c =
    let kept = c.requires.stands.kept in
    let within = object_pair_within (parts_in c.args.self.now) c.args.next kept (omega (arith, c.requires.stands.within, c.requires.some)) in
    omega (arith, within, c.right.ensures, kept.predicates_counted)

pub returns-in-Some-clause-none : goal.returns-in-Some-clause-none
returns-in-Some-clause-none c =
    let is = c.in-Some.ensures.some in
    let first = c.first_right.ensures in
    let none : NoPairHas c.args.self.now.predicates c.args.p (get_or c.args.self.now.by_object.rights c.args.next 0) c.in-Some.found =
    subst (λ pair. NoPairHas c.args.self.now.predicates c.args.p pair c.in-Some.found) c.right.ensures is.before in
    let apart : c.in-Some.found ≢ get_or c.args.self.now.by_object.rights c.args.next 0 = λ e. c.requires.other (ap (λ i. get_or c.args.self.now.predicates i 0) (sym e) ∙ is.has) in
    let below : (q : ℕ) → c.args.next ≤ q → q < c.first_right.result → get_or c.args.self.now.by_object.rights q 0 < c.in-Some.found =
    λ q l h. elim (cases_lt c.args.next q) [
      | inl later ↦ first.below q (omega (arith, later)) h
      | inr not ↦
          let here : c.args.next ≡ q = omega (arith, l, not) in
          let same = ap (λ i. get_or c.args.self.now.by_object.rights i 0) here in
          omega (arith, same, c.right.ensures, is.low, apart)
    ] in
    λ q low high.
    none_between (parts_in c.args.self.now) c.args.p c.args.next c.args.end c.args.next c.first_right.result c.in-Some.found c.requires.stands
    (omega arith) first.ends none below q low high

pub returns-in-None-clause-none : goal.returns-in-None-clause-none
returns-in-None-clause-none c =
    let kept = c.requires.stands.kept in
    let none : NoPairHas c.args.self.now.predicates c.args.p (get_or c.args.self.now.by_object.rights c.args.next 0) (length c.args.self.now.predicates) =
    subst (λ pair. NoPairHas c.args.self.now.predicates c.args.p pair (length c.args.self.now.predicates)) c.right.ensures c.in-None.ensures.none in
    λ q low high.
    none_between (parts_in c.args.self.now) c.args.p c.args.next c.args.end c.args.next c.args.end (length c.args.self.now.predicates) c.requires.stands
    (omega arith) (omega arith) none
    (λ r l h. omega (arith, object_pair_within (parts_in c.args.self.now) r kept (omega (arith, c.requires.stands.within, h)), kept.predicates_counted)) q low high
