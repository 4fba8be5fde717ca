use Rattle.std.proofs.Common.{ℕ, ◌<◌, List, length, sym, ◌∙◌, subst, arith}
use Rattle.ts_plane.specs.Marks.{IsMarked}
use Rattle.ts_plane.specs.Objects.{Stands}
use Rattle.ts_plane.proofs.MarkLemmas.{seen_marked, seen_more, stand_more}
use Rattle.ts_plane.proofs.marks.all_marked.Goals as goal

pub place_of-i-requires-clause-stands : goal.place_of-i-requires-clause-stands
place_of-i-requires-clause-stands c =
    subst (Stands c.args.objects.now) (sym c.get.ensures) (c.requires.found c.loop-j.j (omega (arith, c.len-j-end.ensures, c.loop-j-test.true)))

pub loop-j-preserved : goal.loop-j-preserved
loop-j-preserved c =
    let old = c.loop-j.marks.items in
    let new = c.mark.new.marks.items in
    let objects = c.args.objects.now in
    let rights = c.args.rights.now in
    let i = c.place_of-i.result in
    let there = c.place_of-i.ensures.there ∙ c.get.ensures in
    record {
      holds = λ k low. omega (arith, c.loop-j.invariant.holds k low, c.mark.ensures.long);
      stand = stand_more old new objects rights i c.loop-j.j (omega (arith, c.len-j-end.ensures, c.loop-j-test.true)) there c.mark.ensures.others c.loop-j.invariant.stand;
      seen = seen_more old new objects rights i c.loop-j.j c.place_of-i.ensures.within there c.mark.ensures.here c.mark.ensures.others c.loop-j.invariant.seen;
    }

pub returns : goal.returns
returns c =
    let marks = c.loop-j.marks.items in
    let at = λ (k : ℕ) (low : k < length c.args.rights.now). c.loop-j.invariant.seen k (omega (arith, c.len-j-end.ensures, c.loop-j-test.false, low)) in (
      (λ all i low. c.loop-j.invariant.stand i low (subst (λ (words : List ℕ). IsMarked words i) c.deref.ensures.value
          (c.are_marked.ensures.0 all i (omega (arith, c.len-2.ensures, low))))),
      (λ each. c.are_marked.ensures.1 (λ i low. subst (λ (words : List ℕ). IsMarked words i) (sym c.deref.ensures.value)
          (seen_marked marks c.args.objects.now c.args.rights.now c.requires.increasing at each i (omega (arith, c.len-2.ensures, low))))),
    )
