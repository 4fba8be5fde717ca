use Rattle.std.proofs.Common.{◌≡◌, List, All, Contains, None, length, refl, sym, ◌∙◌, subst, true≢false}
use Rattle.std.proofs.lemmas.Iterator.Consumers.{YieldsList-from_first, YieldsList-turn, YieldsList-end}
use Rattle.std.proofs.lemmas.List.{map-id}
use Rattle.std.proofs.lemmas.List.Elements.{All-contains, All-push}
use Rattle.ts_plane.specs.declared.triple.IdTriple.{IdTriple}
use Rattle.ts_plane.specs.Pattern.{walk_of}
use Rattle.ts_plane.proofs.RowSteps.{refuted}
use Rattle.ts_part.proofs.MergedLemmas.{walk_all}
use Rattle.ts_part.proofs.together.has_none_of.Goals as goal

pub returns-then-has : goal.returns-then-has
unfolding walk_of
returns-then-has c =
    let road = YieldsList-from_first (λ (t : IdTriple). t) (λ items. items) (walk_of c.args.few.now (record { s = None; p = None; o = None }) None) cc in
    let turn = YieldsList-turn road c.loop-triple.yielded _ c.loop-triple.yielded_by _ _ c.in-Some.triple c.in-Some.is c.next.ensures.steps in
    refuted (λ apart. apart c.in-Some.triple (c.has.ensures.0 c.if-has.true)
    (subst (λ (l : List IdTriple). Contains l c.in-Some.triple) (walk_all c.args.few.now) (length c.loop-triple.yielded, turn.0, sym turn.1)))

pub loop-triple-preserved : goal.loop-triple-preserved
loop-triple-preserved c =
    All-push (λ (t : IdTriple). Contains c.args.many.now t → ⊥) c.loop-triple.yielded c.in-Some.triple c.loop-triple.invariant
    (λ has. true≢false (sym (c.has.ensures.1 has) ∙ c.if-has.false))

pub returns : goal.returns
unfolding walk_of
returns c =
    let road = YieldsList-from_first (λ (t : IdTriple). t) (λ items. items) (walk_of c.args.few.now (record { s = None; p = None; o = None }) None) cc in
    let end = YieldsList-end road c.loop-triple.yielded _ c.loop-triple.yielded_by _ _ c.in-None.is c.next.ensures.steps in
    let all : c.loop-triple.yielded ≡ c.args.few.now = sym (map-id c.loop-triple.yielded) ∙ end.0 ∙ walk_all c.args.few.now in (
      λ _. λ t there here. All-contains (λ (x : IdTriple). Contains c.args.many.now x → ⊥) c.args.few.now t
          (subst (All (λ (x : IdTriple). Contains c.args.many.now x → ⊥)) all c.loop-triple.invariant) here there,
      λ _. refl,
    )
