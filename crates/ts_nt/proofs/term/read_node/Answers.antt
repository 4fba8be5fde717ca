use Rattle.std.proofs.lemmas.Result.{IfOk-weaker}
use Rattle.ts_nt.proofs.NodeLaws.{node_from_label, node_from_iri}
use Rattle.ts_nt.proofs.term.read_node.Goals as goal

pub returns-in-Some : goal.returns-in-Some
returns-in-Some c = IfOk-weaker c.read_label.result _ _ (λ found h. node_from_label _ _ _ _ _ c.in-Some.ensures.some h) c.read_label.ensures

pub returns-in-None : goal.returns-in-None
returns-in-None c = IfOk-weaker c.read_iri.result _ _ (λ found h. node_from_iri _ _ _ _ c.in-None.ensures.none h) c.read_iri.ensures
