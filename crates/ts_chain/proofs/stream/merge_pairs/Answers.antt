use Rattle.std.proofs.Common.{◌≡◌, true≢false, ◌++◌, ◌∷◌, [], length, length-append, option_to_list, vec_len, All, ap, sym, ◌∙◌, subst, arith}
use Rattle.std.proofs.lemmas.List.Elements.{All-head, All-nil, All-push, All-rest}
use Rattle.ts_chain.specs.Streams.{left_in_all}
use Rattle.ts_chain.specs.Rising.{IsRisingStream}
use Rattle.ts_chain.proofs.PairLemmas.{IsHalfway, halfway-step, left-paired, none-left, rise-next}
use Rattle.ts_chain.proofs.stream.merge_pairs.Goals as goal

pub loop-newer-init : goal.loop-newer-init
loop-newer-init c =
    let none : c.new-pairs.result.items ≡ [] = c.new-pairs.ensures.items in
    let all : c.into_iter-rest.result.rest.items ≡ c.args.streams.items = c.into_iter-rest.ensures.rest in
    let count : c.into_iter-rest.result.rest.len ≡ vec_len c.args.streams = c.into_iter-rest.ensures.len in
    record {
      left = λ i. left_in_all (none i ++ all i);
      made = subst (All IsRisingStream) (sym none) (All-nil IsRisingStream);
      waiting = subst (All IsRisingStream) (sym all) c.requires;
      half = record {
        at_least = omega (arith, count, c.args.streams.ok.0);
        at_most = omega (arith, count, c.args.streams.ok.0, ap length none);
        odd = λ e. omega (arith, count, c.args.streams.ok.0, ap length none);
      };
    }

pub pair_of-requires-clause-newer : goal.pair_of-requires-clause-newer
pair_of-requires-clause-newer c = All-head IsRisingStream _ _ (subst (All IsRisingStream) c.in-Some.ensures.items c.loop-newer.invariant.waiting)

pub pair_of-requires-clause-older : goal.pair_of-requires-clause-older
pair_of-requires-clause-older c =
    let behind = All-rest IsRisingStream c.in-Some.newer c.next.new.self.rest.items c.loop-newer.rest.rest.items c.in-Some.ensures.items c.loop-newer.invariant.waiting in
    (rise-next c.next-older.result c.next-older.new.self.rest.items (subst (All IsRisingStream) c.next-older.ensures.items behind)).0

pub loop-newer-preserved : goal.loop-newer-preserved
loop-newer-preserved c =
    let pairs = c.loop-newer.pairs.items in
    let rest = c.next-older.new.self.rest.items in
    let pair = c.in_ok-pair_of.field-0 in
    let first : c.loop-newer.rest.rest.items ≡ c.in-Some.newer ∷ c.next.new.self.rest.items = c.in-Some.ensures.items in
    let second : c.next.new.self.rest.items ≡ option_to_list c.next-older.result ++ rest = c.next-older.ensures.items in
    let pushed : c.push.new.self.items ≡ pairs ++ pair ∷ [] = c.in_ok-push.ensures.items in
    let behind = All-rest IsRisingStream c.in-Some.newer c.next.new.self.rest.items c.loop-newer.rest.rest.items first c.loop-newer.invariant.waiting in
    record {
      left = ap (λ l. left_in_all (l ++ rest)) pushed
          ∙ left-paired pairs rest c.in-Some.newer pair c.next-older.result c.in_ok-pair_of.ensures.left
          ∙ ap (λ l. left_in_all (pairs ++ c.in-Some.newer ∷ l)) (sym second)
          ∙ ap (λ l. left_in_all (pairs ++ l)) (sym first)
          ∙ c.loop-newer.invariant.left;
      made = subst (All IsRisingStream) (sym pushed) (All-push IsRisingStream pairs pair c.loop-newer.invariant.made c.in_ok-pair_of.ensures.rises);
      waiting = (rise-next c.next-older.result rest (subst (All IsRisingStream) second behind)).1;
      half = subst (λ n. IsHalfway (length c.args.streams.items) n c.next-older.new.self.rest.len) (sym (ap length pushed ∙ length-append pairs (pair ∷ [])))
          (halfway-step (length c.args.streams.items) (length pairs) c.loop-newer.rest.rest.len c.next.new.self.rest.len c.next-older.new.self.rest.len c.next-older.result
          c.loop-newer.invariant.half c.in-Some.ensures.len c.next-older.ensures.len c.next-older.ensures.variant);
    }

pub returns-clause-half : goal.returns-clause-half
returns-clause-half c =
    let half = c.loop-newer.invariant.half in
    let all : c.loop-newer.rest.rest.len ≡ 0 = none-left c.loop-newer.rest.rest.len (λ h. true≢false (sym (c.in_default.ensures.variant.1 h))) in
    omega (arith, half.at_least, half.at_most)
