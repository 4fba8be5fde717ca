-- The change of a layer: the triples that come, and those that go.
use Rattle.std.specs.Prelude.{List}
use Rattle.ts_model.specs.TextTriple.{TextTriple}

pub record NetTriples : Type 0 where
  pub additions : List TextTriple
  pub removals : List TextTriple
