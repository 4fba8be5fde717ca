use Rattle.std.proofs.Common.{sym, ◌∙◌, subst}
use Rattle.ts_chain.specs.declared.stream.Merge.{Merge}
use Rattle.ts_chain.proofs.MergeSteps.{gives-both, gives-newer, gives-older}
use Rattle.ts_chain.proofs.StreamLemmas.{IsRisingMerge, moved-merge, rises}
use Rattle.ts_chain.proofs.stream.+stream.Goals as goal

pub Merge::advance-returns-in-Newer-clause-left : goal.Merge::advance-returns-in-Newer-clause-left
Merge::advance-returns-in-Newer-clause-left t c =
    (gives-newer _ _ _ c.head.result c.head-2.result _ (rises _ c.requires.newer) (rises _ c.requires.older) c.head.ensures c.head-2.ensures
    (sym c.next_turn.ensures ∙ c.in-Newer.is) (record { left = c.next.ensures.left; none = c.next.ensures.none })).left

pub Merge::advance-returns-in-Older-clause-left : goal.Merge::advance-returns-in-Older-clause-left
Merge::advance-returns-in-Older-clause-left t c =
    (gives-older _ _ _ c.head.result c.head-2.result _ (rises _ c.requires.newer) (rises _ c.requires.older) c.head.ensures c.head-2.ensures
    (sym c.next_turn.ensures ∙ c.in-Older.is) (record { left = c.next-in-Older.ensures.left; none = c.next-in-Older.ensures.none })).left

pub Merge::advance-returns-in-Older-clause-none : goal.Merge::advance-returns-in-Older-clause-none
Merge::advance-returns-in-Older-clause-none t c =
    (gives-older _ _ _ c.head.result c.head-2.result _ (rises _ c.requires.newer) (rises _ c.requires.older) c.head.ensures c.head-2.ensures
    (sym c.next_turn.ensures ∙ c.in-Older.is) (record { left = c.next-in-Older.ensures.left; none = c.next-in-Older.ensures.none })).none

pub Merge::advance-returns-in-Both-clause-left : goal.Merge::advance-returns-in-Both-clause-left
Merge::advance-returns-in-Both-clause-left t c =
    (gives-both _ _ _ _ c.head.result c.head-2.result _ _ (rises _ c.requires.newer) (rises _ c.requires.older) c.head.ensures c.head-2.ensures
    (sym c.next_turn.ensures ∙ c.in-Both.is) (record { left = c.next-in-Both-2.ensures.left; none = c.next-in-Both-2.ensures.none })
    (record { left = c.next-in-Both.ensures.left; none = c.next-in-Both.ensures.none })).left

pub Stream::next-returns-in-Both-clause-rises : goal.Stream::next-returns-in-Both-clause-rises
Stream::next-returns-in-Both-clause-rises t c =
    let e = c.advance.ensures in
    subst (λ (merge : Merge). IsRisingMerge (record { head = c.advance.result; newer = merge.newer; older = merge.older })) (sym c.deref_mut-in-Both.ensures.value)
    (moved-merge c.deref_mut.result.now.newer c.deref_mut.result.now.older
    (record { head = c.advance.result; newer = c.advance.new.self.newer; older = c.advance.new.self.older }) e.left e.none e.newer e.older)
