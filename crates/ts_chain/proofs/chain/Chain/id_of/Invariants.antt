use Rattle.std.proofs.Common.{ℕ, drop}
use Rattle.ts_chain.specs.Ids.{HasId, Lacks}
use Rattle.ts_chain.proofs.chain.Chain.id_of.Given as goal

abbrev pub invariant-loop-part : goal.invariant-loop-part
invariant-loop-part l = record {
  found : (id : ℕ) → HasId (drop l.part-index l.self) (record { kind = l.kind; spelling = l.spelling }) id → HasId l.self (record { kind = l.kind; spelling = l.spelling }) id;
  absent : Lacks (drop l.part-index l.self) (record { kind = l.kind; spelling = l.spelling }) → Lacks l.self (record { kind = l.kind; spelling = l.spelling });
}
