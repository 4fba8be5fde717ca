use Rattle.std.proofs.Common.{◌+◌, ap, ap₂, sym}
use Rattle.ts_wavelet.proofs.Says.{none_since}
use Rattle.ts_model.specs.declared.term.TermKind.TheVariants.{Predicate}
use Rattle.ts_part.proofs.EntryLemmas.{lacks_predicate, predicate_there, predicate_within}
use Rattle.ts_part.proofs.sections.Sections.predicate_of.Goals as goal

pub returns-in_err-entry-clause-absent : goal.returns-in_err-entry-clause-absent
returns-in_err-entry-clause-absent c = λ facts tells.
    none_since c.from_residual.result (lacks_predicate facts c.predicates.result c.args.spelling.now (c.predicates.ensures facts tells) c.in_err-entry.ensures.absent)

pub returns-clause-found : goal.returns-clause-found
returns-clause-found c = λ facts tells. record {
  entry = c.in_ok-entry.entry;
  stands = predicate_there facts c.predicates.result c.args.spelling.now c.in_ok-entry.entry tells.says.kinds (c.predicates.ensures facts tells)
      (record { within = c.in_ok-entry.ensures.found.0; is = c.in_ok-entry.ensures.found.1 });
  numbered = ap₂ (λ a b. a + 1 + b) (sym (ap (λ h. h.predicates_before) tells.headed)) (c.outer_predicate.ensures.outer facts tells);
}

pub returns-clause-within : goal.returns-clause-within
returns-clause-within c = λ facts tells.
    predicate_within facts (c.args.self.now.header.now.predicates_before + 1 + c.outer_predicate.result) (record { kind = Predicate; spelling = c.args.spelling.now }) tells.lists.maps (returns-clause-found c facts tells)
