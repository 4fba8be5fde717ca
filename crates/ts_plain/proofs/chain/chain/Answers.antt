use Rattle.std.proofs.Common.{List, [], ◌∷◌, ◌≡◌, ◌++◌, map, IfSome, sym, subst, rules}
use denote.Ref.{Bor}
use Rattle.std.proofs.lemmas.List.Elements.{All-push, All-same}
use Rattle.ts_model.specs.History.{chain_of}
use Rattle.ts_model.proofs.HistoryLaws.{chain_from}
use Rattle.ts_plain.specs.declared.write.PlainLayer.{PlainLayer}
use Rattle.ts_plain.specs.Chain.{StandsIn}
use Rattle.ts_plain.specs.History.{history_of}
use Rattle.ts_plain.proofs.ChainLaws.{number_of, climb, parent_stands, IsChain-from_climb}
use Rattle.ts_plain.proofs.chain.chain.Goals as goal

pub loop-next-preserved : goal.loop-next-preserved
loop-next-preserved c =
    let history = history_of c.args.layers.now in
    let layer = c.in-Some.layer in
    let stands : StandsIn history layer.now = subst (λ o. IfSome o (λ (layer : Bor PlainLayer). StandsIn history layer.now)) c.in-Some.is c.loop-next.invariant.next in
    let parent = c.parent_of-next.ensures in
    let pushed = climb history c.requires.history.well_kept c.args.number c.loop-next.chain.items layer c.loop-next.next c.parent_of-next.result c.in-Some.is stands parent.some parent.none c.loop-next.invariant.numbers in
    record {
      numbers = subst (λ (items : List (Bor PlainLayer)). map (λ layer. layer.now.number) items ++ chain_from history (number_of c.parent_of-next.result) ≡ chain_of history c.args.number) (sym c.in_ok-push.ensures.items) pushed;
      stand = All-same (λ (layer : Bor PlainLayer). StandsIn history layer.now) c.push.new.self.items (c.loop-next.chain.items ++ layer ∷ []) c.in_ok-push.ensures.items
          (All-push (λ (layer : Bor PlainLayer). StandsIn history layer.now) c.loop-next.chain.items layer c.loop-next.invariant.stand stands);
      next = parent_stands history layer.now.parent c.parent_of-next.result parent.some;
    }

pub returns : goal.returns
returns c = IsChain-from_climb (history_of c.args.layers.now) c.requires.history.well_kept c.args.number c.loop-next.chain.items _ c.loop-next.next (search rules) c.turn.ensures c.loop-next.invariant.numbers c.loop-next.invariant.stand
