use Rattle.std.proofs.Common.{refl}
use Rattle.ts_store.proofs.session.Session.open.Goals as goal

pub returns-in-Ok-clause-says : goal.returns-in-Ok-clause-says
returns-in-Ok-clause-says g c = λ told. (c.in-Ok.store, record { unspent = refl; store = refl }, c.in-Ok.ensures.fresh, c.in-Ok.ensures.says told)

pub returns-in-Ok-clause-fresh : goal.returns-in-Ok-clause-fresh
returns-in-Ok-clause-fresh g c = (c.in-Ok.store, record { unspent = refl; store = refl }, c.in-Ok.ensures.fresh)
