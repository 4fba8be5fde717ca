use Rattle.std.proofs.Common.{subst}
use Rattle.ts_model.specs.declared.term.TermKind.{TermKind}
use Rattle.ts_plane.specs.declared.triple.IdTriple.{IdTriple}
use Rattle.ts_chain.specs.Holds.{HasIds, spelled_triple}
use Rattle.ts_chain.specs.Ids.{Lacks}
use Rattle.ts_chain.proofs.Seeking.{if_none, lacks_id}
use Rattle.ts_chain.proofs.chain.Chain.ids_of.Goals as goal

pub returns-in_err-s-clause-none : goal.returns-in_err-s-clause-none
returns-in_err-s-clause-none c =
    let triple = spelled_triple c.args.s.now c.args.p.now c.args.o.now in
    if_none c.from_residual.result ((t : IdTriple) → ¬ HasIds c.args.self.now triple t)
    (λ t ids. lacks_id c.args.self.now triple.subject t.s c.in_err-s.ensures.absent ids.subject)

pub returns-in_err-p-clause-none : goal.returns-in_err-p-clause-none
returns-in_err-p-clause-none c =
    let triple = spelled_triple c.args.s.now c.args.p.now c.args.o.now in
    if_none c.from_residual-in_err-p.result ((t : IdTriple) → ¬ HasIds c.args.self.now triple t)
    (λ t ids. lacks_id c.args.self.now triple.predicate t.p c.in_err-p.ensures.absent ids.predicate)

pub returns-in_err-o-clause-none : goal.returns-in_err-o-clause-none
returns-in_err-o-clause-none c =
    let triple = spelled_triple c.args.s.now c.args.p.now c.args.o.now in
    let lacks = subst (λ (kind : TermKind). Lacks c.args.self.now (record { kind = kind; spelling = c.args.o.now })) c.object_kind.ensures c.in_err-o.ensures.absent in
    if_none c.from_residual-in_err-o.result ((t : IdTriple) → ¬ HasIds c.args.self.now triple t)
    (λ t ids. lacks_id c.args.self.now triple.object t.o lacks ids.object)
