use Rattle.std.proofs.Common.{◌≡◌, ℕ, ◌<◌, get_or, length}
use Rattle.ts_plane.specs.declared.triple.IdTriple.{IdTriple}
use Rattle.ts_builder.proofs.NumberLemmas.{id_of}
use Rattle.ts_builder.proofs.numbers.ids_of.Given as goal

abbrev pub invariant-loop-i : goal.invariant-loop-i
invariant-loop-i l = record {
  many : length l.ids.items ≡ l.i;
  each : (k : ℕ) (t : IdTriple) → k < l.i → get_or l.ids.items k t ≡ id_of l.ends l.relations l.count k;
}
