use Rattle.std.proofs.Common.{◌∙◌, ap, subst, sym, rules}
use Rattle.std.specs.Prelude.{not}
use Rattle.std.specs.Str.{bytes_eq}
use Rattle.std.proofs.lemmas.Fn.{filter_same}
use Rattle.ts_site.specs.Call.{crash_happens}
use Rattle.ts_site.specs.Crash.{without}
use Rattle.ts_site.specs.Unsettled.{AreUnsettled}
use Rattle.ts_site.specs.declared.call.Call.{Call}
use Rattle.ts_site.proofs.crash.Unsettled.follow.Goals as goal

pub returns-in-Sync : goal.returns-in-Sync
returns-in-Sync c store state are =
    let name = c.in-Sync.name in
    let others = filter_same _ (λ other. not (bytes_eq other name)) _ (λ x b f k. search rules) _ _ c.retain.ensures.filtered in
    subst (λ (call : Call). AreUnsettled (crash_happens store call state) (record { loose = c.retain.new.self; ties = c.args.self.now.ties })) (sym c.in-Sync.is)
    (record { loose = others ∙ ap (without name) are.loose; ties = are.ties })
