use Rattle.std.proofs.Common.{ℕ, List, subst}
use Rattle.ts_part.specs.Faults.{IsLoadError}
use Rattle.ts_part.specs.Kept.{Keeps}
use Rattle.ts_part.proofs.FactsRead.{says_only}
use Rattle.ts_part.proofs.LoadLemmas.{local_whole}
use Rattle.ts_part.proofs.part.Part.load.Goals as goal

pub returns-in-Ok-clause-only : goal.returns-in-Ok-clause-only
returns-in-Ok-clause-only c =
    let h = c.args.expect.now.header in
    let keeps = subst (λ (file : List ℕ). Keeps file c.in-Ok.places h) c.deref.ensures.value c.in-Ok.ensures.keeps in
    says_only c.args.file.items keeps.is.says

pub returns-in-Err-clause-whole : goal.returns-in-Err-clause-whole
returns-in-Err-clause-whole c = λ form.
    let h = c.args.expect.now.header in
    local_whole c.args.file.items h c.in-Err.error form
    (subst (λ (file : List ℕ). IsLoadError file h c.in-Err.error) c.deref.ensures.value c.in-Err.ensures.fault)
