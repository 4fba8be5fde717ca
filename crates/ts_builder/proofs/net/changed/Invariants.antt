use Rattle.std.proofs.Common.{◌≡◌, All, map, take, Bor}
use Rattle.std.specs.Option.{option_map}
use Rattle.ts_model.specs.TextTriple.{IsTriple}
use Rattle.ts_model.specs.declared.signed.SignedTriple.{SignedTriple}
use Rattle.ts_chain.specs.Chain.{parts_or_none}
use Rattle.ts_builder.specs.Picks.{IsChange, Picks}
use Rattle.ts_builder.proofs.net.changed.Given as goal

abbrev pub invariant-loop-line : goal.invariant-loop-line
invariant-loop-line l = record {
  picked : Picks (IsChange l.sign (parts_or_none (option_map (λ chain. chain.now) l.parent))) (map (λ (line : Bor SignedTriple). line.now) (take l.line-index l.lines)) l.triples.items;
  kinds : All (λ (line : Bor SignedTriple). line.now.sign ≡ l.sign → IsTriple line.now.triple) (take l.line-index l.lines);
}
