use Rattle.std.proofs.Common.{sym, subst}
use Rattle.ts_model.specs.Canonical.{IsCanonical}
use Rattle.ts_model.proofs.Vectors.{canonical_a}
use Rattle.ts_model.proofs.tests.term_a.Goals as goal

pub of_canonical-requires-clause-canonical : goal.of_canonical-requires-clause-canonical
of_canonical-requires-clause-canonical c =
    subst (IsCanonical c.args.kind) (sym c.in_ok-from_slice.ensures.items) (canonical_a c.args.kind c.requires)
