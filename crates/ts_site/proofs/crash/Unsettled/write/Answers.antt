use Rattle.std.proofs.Common.{◌++◌, [], ◌∷◌, List, ℕ, ◌∙◌, ap, rules}
use Rattle.std.specs.Prelude.{not}
use Rattle.std.specs.Str.{bytes_eq}
use Rattle.std.proofs.lemmas.Fn.{filter_same}
use Rattle.ts_site.specs.Crash.{without}
use Rattle.ts_site.proofs.crash.Unsettled.write.Goals as goal

pub returns-clause-loose : goal.returns-clause-loose
returns-clause-loose c =
    let others = filter_same _ (λ other. not (bytes_eq other c.args.name.now)) _ (λ x b f k. search rules) _ _ c.retain.ensures.filtered in
    c.in_ok-push.ensures.items ∙ ap (λ (names : List (List ℕ)). names ++ c.copy.result ∷ []) others ∙ ap (λ (name : List ℕ). without c.args.name.now c.args.self.now.loose.items ++ name ∷ []) c.copy.ensures
