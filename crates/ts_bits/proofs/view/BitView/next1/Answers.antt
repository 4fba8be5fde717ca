use Rattle.std.proofs.Common.{arith}
use Rattle.ts_bits.proofs.Ranks.{rank_whole}
use Rattle.ts_bits.proofs.Lookups.{holds}
use Rattle.ts_bits.proofs.BitKinds.{next_in_bits, next_selected}
use Rattle.ts_bits.proofs.view.BitView.next1.Goals as goal

pub returns-then-i-self-clause-none : goal.returns-then-i-self-clause-none
returns-then-i-self-clause-none c =
    let h = holds c.args.self.now _ _ _ _ c.self.view_is c.self.invariant.ranked in
    rank_whole c.args.self.now c.args.i (omega (arith, h.len))

pub word-requires : goal.word-requires
word-requires c =
    let h = holds c.args.self.now _ _ _ _ c.self.view_is c.self.invariant.ranked in omega (arith, h.len)

pub returns-in-Some-clause-some : goal.returns-in-Some-clause-some
returns-in-Some-clause-some c =
    let h = holds c.args.self.now _ _ _ _ c.self.view_is c.self.invariant.ranked in
    next_in_bits _ _ _ _ _ h c.args.i c.word.result c.in-Some.place (omega (arith, h.len)) c.word.type_inv c.word.ensures c.in-Some.ensures.some

pub returns-in-None-clause-some : goal.returns-in-None-clause-some
returns-in-None-clause-some c =
    next_selected c.args.self.now c.args.i c.rank1.result c.select1.result c.requires c.rank1.ensures c.select1.ensures.some
