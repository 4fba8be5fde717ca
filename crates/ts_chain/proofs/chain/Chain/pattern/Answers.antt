use Rattle.std.proofs.Common.{◌≡◌, []}
use Rattle.ts_model.specs.Listing.{select}
use Rattle.ts_plane.specs.declared.pattern.IdPattern.{IdPattern}
use Rattle.ts_chain.proofs.AskedKinds.{nothing_asked, walk_selects}
use Rattle.ts_chain.proofs.Seeking.{if_none}
use Rattle.ts_chain.proofs.chain.Chain.pattern.Goals as goal

pub returns-in_err-s-clause-nothing : goal.returns-in_err-s-clause-nothing
returns-in_err-s-clause-nothing c = λ history k stands.
    if_none c.from_residual.result (select history k c.args.pattern.now ≡ [])
    (nothing_asked history k c.args.self.now stands c.args.pattern.now (λ ids is. c.in_err-s.ensures.none ids.s is.subject))

pub returns-in_err-p-clause-nothing : goal.returns-in_err-p-clause-nothing
returns-in_err-p-clause-nothing c = λ history k stands.
    if_none c.from_residual-in_err-p.result (select history k c.args.pattern.now ≡ [])
    (nothing_asked history k c.args.self.now stands c.args.pattern.now (λ ids is. c.in_err-p.ensures.none ids.p is.predicate))

pub returns-in_err-o-clause-nothing : goal.returns-in_err-o-clause-nothing
returns-in_err-o-clause-nothing c = λ history k stands.
    if_none c.from_residual-in_err-o.result (select history k c.args.pattern.now ≡ [])
    (nothing_asked history k c.args.self.now stands c.args.pattern.now (λ ids is. c.in_err-o.ensures.none ids.o is.object))

pub returns-clause-selected : goal.returns-clause-selected
returns-clause-selected c = λ history k stands after.
    let ids : IdPattern = record { s = c.in_ok-s.s; p = c.in_ok-p.p; o = c.in_ok-o.o } in
    walk_selects history k c.args.self.now stands c.args.pattern.now ids
    (record { subject = c.in_ok-s.ensures.some; predicate = c.in_ok-p.ensures.some; object = c.in_ok-o.ensures.some }) after
