use Rattle.std.proofs.Common.{◌+◌, arith, length, ap, sym}
use Rattle.ts_wavelet.proofs.Says.{none_since}
use Rattle.ts_model.specs.declared.term.TermKind.TheVariants.{Value}
use Rattle.ts_part.proofs.EntryLemmas.{lacks_value, term_within, value_there}
use Rattle.ts_part.proofs.Told.{values_long}
use Rattle.ts_part.proofs.sections.Sections.value_of.Goals as goal

pub returns-in_err-entry-clause-absent : goal.returns-in_err-entry-clause-absent
returns-in_err-entry-clause-absent c = λ facts tells.
    none_since c.from_residual.result (lacks_value facts c.values.result c.args.spelling.now tells.says.kinds (c.values.ensures facts tells) c.in_err-entry.ensures.absent)

pub term_number-requires-clause-within : goal.term_number-requires-clause-within
term_number-requires-clause-within c =
    omega (arith, c.in_ok-entry.ensures.found.0, ap length (c.values.ensures c.requires.0 c.requires.1), values_long c.args.self.now c.requires.0 c.requires.1)

pub returns-clause-found : goal.returns-clause-found
returns-clause-found c = λ facts tells. record {
  entry = c.args.self.now.header.now.nodes + c.in_ok-entry.entry;
  stands = value_there facts c.values.result c.args.spelling.now c.args.self.now.header.now.nodes c.in_ok-entry.entry tells.says.kinds
      (sym (ap (λ h. h.nodes) tells.headed)) (c.values.ensures facts tells)
      (record { within = c.in_ok-entry.ensures.found.0; is = c.in_ok-entry.ensures.found.1 });
  numbered = c.term_number.ensures facts tells;
}

pub returns-clause-within : goal.returns-clause-within
returns-clause-within c = λ facts tells.
    term_within facts c.term_number.result (record { kind = Value; spelling = c.args.spelling.now }) tells.lists.maps (returns-clause-found c facts tells)
