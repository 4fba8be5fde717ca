use Rattle.std.proofs.Common.{arith, length, ap}
use Rattle.ts_wavelet.proofs.Says.{none_since}
use Rattle.ts_model.specs.declared.term.TermKind.TheVariants.{Node}
use Rattle.ts_part.proofs.EntryLemmas.{lacks_node, node_there, term_within}
use Rattle.ts_part.proofs.Told.{nodes_long}
use Rattle.ts_part.proofs.sections.Sections.node_of.Goals as goal

pub returns-in_err-entry-clause-absent : goal.returns-in_err-entry-clause-absent
returns-in_err-entry-clause-absent c = λ facts tells.
    none_since c.from_residual.result (lacks_node facts c.nodes.result c.args.spelling.now tells.says.kinds (c.nodes.ensures facts tells) c.in_err-entry.ensures.absent)

pub term_number-requires-clause-within : goal.term_number-requires-clause-within
term_number-requires-clause-within c =
    omega (arith, c.in_ok-entry.ensures.found.0, ap length (c.nodes.ensures c.requires.0 c.requires.1), nodes_long c.args.self.now c.requires.0 c.requires.1)

pub returns-clause-found : goal.returns-clause-found
returns-clause-found c = λ facts tells. record {
  entry = c.in_ok-entry.entry;
  stands = node_there facts c.nodes.result c.args.spelling.now c.in_ok-entry.entry tells.says.kinds (c.nodes.ensures facts tells)
      (record { within = c.in_ok-entry.ensures.found.0; is = c.in_ok-entry.ensures.found.1 });
  numbered = c.term_number.ensures facts tells;
}

pub returns-clause-within : goal.returns-clause-within
returns-clause-within c = λ facts tells.
    term_within facts c.term_number.result (record { kind = Node; spelling = c.args.spelling.now }) tells.lists.maps (returns-clause-found c facts tells)
