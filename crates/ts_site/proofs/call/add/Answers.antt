use Rattle.std.proofs.Common.{◌++◌, [], ◌∷◌, List, ℕ, sym, ◌∙◌, ap, subst}
use Rattle.ts_site.specs.Folder.{AreNamesOf}
use Rattle.std.specs.Prelude.{Contains}
use Rattle.std.specs.FinMap.{insert}
use Rattle.ts_site.proofs.ListingLemmas.{listing_new, listing_old, found_is, not_found_is}
use Rattle.ts_site.proofs.call.add.Goals as goal

pub returns-in_ok-push : goal.returns-in_ok-push
returns-in_ok-push c folder bytes is =
    let names = c.args.names.now.items in
    let new = subst (λ (ns : List (List ℕ)). Contains ns c.args.name.now → ⊥) c.deref.ensures.value
    (not_found_is c.deref.result.now c.args.name.now c.contains.result c.contains.ensures.value c.if-not-contains.true) in
    let pushed = c.in_ok-push.ensures.items ∙ ap (λ name. names ++ name ∷ []) c.copy.ensures in
    subst (AreNamesOf (insert folder c.args.name.now bytes)) (sym pushed) (listing_new folder names c.args.name.now bytes new is)

pub returns-else-not-contains : goal.returns-else-not-contains
returns-else-not-contains c folder bytes is =
    let old = subst (λ (ns : List (List ℕ)). Contains ns c.args.name.now) c.deref.ensures.value
    (found_is c.deref.result.now c.args.name.now c.contains.result c.contains.ensures.value c.if-not-contains.false) in
    listing_old folder c.args.names.now.items c.args.name.now bytes old is
