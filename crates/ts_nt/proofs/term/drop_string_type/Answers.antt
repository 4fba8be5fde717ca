use Rattle.std.proofs.Common.{◌≡◌, ◌∙◌, drop, string_bytes}
use Rattle.ts_nt.proofs.TypeLaws.{string_ending, string_type_dropped, other_type_kept, ends_so, ends_otherwise}
use Rattle.ts_nt.proofs.term.drop_string_type.Goals as goal

pub returns-then-eq : goal.returns-then-eq
returns-then-eq c = λ front iri parts long.
    let same : drop c.args.start (string_bytes c.args.into.now) ≡ string_ending = ends_so _ _ _ _ c.as_bytes.ensures.value c.if-eq.ensures in
    c.truncate.ensures.bytes ∙ string_type_dropped _ front iri c.args.start parts long same

pub returns-else-eq : goal.returns-else-eq
returns-else-eq c = λ front iri parts long.
    other_type_kept _ front iri c.args.start parts long (ends_otherwise _ _ _ _ c.as_bytes.ensures.value c.if-eq.ensures)
