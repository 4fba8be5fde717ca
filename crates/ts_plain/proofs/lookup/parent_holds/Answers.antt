use Rattle.std.proofs.Common.{◌∙◌, ap, sym}
use Rattle.ts_model.specs.History.{content_at_parent}
use Rattle.ts_model.specs.Order.{triple_cmp}
use Rattle.ts_model.specs.Sets.{contains}
use Rattle.ts_model.proofs.SetAlgebra.{contains-empty}
use Rattle.ts_plain.specs.History.{history_of}
use Rattle.ts_plain.proofs.lookup.parent_holds.Goals as goal

pub returns-in-None : goal.returns-in-None
returns-in-None c = sym (ap (λ o. contains (content_at_parent (history_of c.args.layers.now) o) c.args.triple.now) c.in-None.is ∙ contains-empty triple_cmp c.args.triple.now)
