use Rattle.std.proofs.Common.{ap, sym, ◌∙◌, subst}
use Rattle.ts_plane.specs.Decoded.{triples_in}
use Rattle.ts_plane.specs.Kept.{KeepsRules}
use Rattle.ts_plane.specs.Pattern.{walk_of}
use Rattle.ts_plane.specs.Read.{parts_in}
use Rattle.ts_plane.proofs.KeptLemmas.{kept_of}
use Rattle.ts_plane.proofs.view.PlaneView.walk.Goals as goal

pub new-requires : goal.new-requires
new-requires c = subst (λ sections. KeepsRules (parts_in sections)) (sym c.copy.ensures) (kept_of (parts_in c.self.inside.sections) c.self.invariant)

pub returns : goal.returns
returns c =
    c.new.ensures ∙ ap (λ sections. walk_of (triples_in (parts_in sections)) c.args.pattern c.args.after) c.copy.ensures
    ∙ ap (λ triples. walk_of triples c.args.pattern c.args.after) c.self.view_is
