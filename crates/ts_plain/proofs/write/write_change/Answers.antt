use Rattle.std.proofs.Common.{◌≡◌, ℕ, List, [], ◌∷◌, ◌++◌}
use Rattle.std.proofs.lemmas.Result.{on_ok_weaker}
use Rattle.ts_model.specs.declared.signed.Sign.TheVariants.{Add}
use Rattle.ts_nt.specs.LineRead.{IsReadAs}
use Rattle.ts_plain.proofs.LineLaws.{read_triple}
use Rattle.ts_plain.proofs.write.write_change.Goals as goal

pub returns-clause-terms : goal.returns-clause-terms
returns-clause-terms c =
    let triple = c.args.triple.now in
    on_ok_weaker c.write_triple.result
    (λ (read : (line : List ℕ) × (c.write_triple.new.into.items ≡ c.push-2.new.self.items ++ (line ++ 0x0A ∷ [])) × IsReadAs line (record { sign = Add; triple = triple })).
    read_triple read.0 (record { sign = Add; triple = triple }) read.2)
    c.write_triple.ensures.reads
