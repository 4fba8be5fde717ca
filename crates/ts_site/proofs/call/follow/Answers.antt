use Rattle.std.proofs.Common.{◌≡◌, [], List, ℕ, sym, ◌∙◌, ap, subst, rules}
use Rattle.std.specs.Prelude.{not, Contains}
use Rattle.std.specs.Str.{bytes_eq}
use Rattle.std.proofs.lemmas.Fn.{filter_same}
use Rattle.std.proofs.lemmas.Result.{on_ok_weaker}
use Rattle.ts_site.specs.Folder.{AreNamesOf}
use Rattle.ts_site.specs.Call.{happens, content}
use Rattle.ts_site.specs.declared.call.Call.{Call}
use Rattle.ts_site.proofs.ListingLemmas.{without, listing_without, listing_moved, listing_not_moved, found_is, not_found_is}
use Rattle.ts_site.proofs.call.follow.Goals as goal

pub returns-in-Create : goal.returns-in-Create
returns-in-Create c =
    on_ok_weaker c.add.result
    (λ h store folder is. subst (λ (call : Call). AreNamesOf (happens store call folder) c.add.new.names.items) (sym c.in-Create.is) (h folder [] is))
    c.add.ensures

pub returns-in-Append : goal.returns-in-Append
returns-in-Append c =
    on_ok_weaker c.add-in-Append.result
    (λ h store folder is. subst (λ (call : Call). AreNamesOf (happens store call folder) c.add-in-Append.new.names.items) (sym c.in-Append.is) (h folder (content store c.in-Append.stored) is))
    c.add-in-Append.ensures

pub returns-then-stood : goal.returns-then-stood
returns-then-stood c =
    let names = c.args.names.now.items in
    let from = c.in-Rename.from in
    let to = c.in-Rename.to in
    let but_from = filter_same _ (λ other. not (bytes_eq other from)) _ (λ x b f k. search rules) _ _ c.retain.ensures.filtered in
    let but_to = filter_same _ (λ other. not (bytes_eq other to)) _ (λ x b f k. search rules) _ _ c.retain-in-Rename.ensures.filtered in
    let left : c.retain-in-Rename.new.self.items ≡ without to (without from names) = but_to ∙ ap (without to) but_from in
    let among = subst (λ (ns : List (List ℕ)). Contains ns from) c.deref.ensures.value
    (found_is c.deref.result.now from c.contains-stood.result c.contains-stood.ensures.value c.if-stood.true) in
    on_ok_weaker c.add-then-stood.result
    (λ h store folder is. subst (λ (call : Call). AreNamesOf (happens store call folder) c.add-then-stood.new.names.items) (sym c.in-Rename.is)
    (listing_moved folder names c.add-then-stood.new.names.items from to among is
    (λ before bytes listed. h before bytes (subst (AreNamesOf before) (sym left) listed))))
    c.add-then-stood.ensures

pub returns-else-stood : goal.returns-else-stood
returns-else-stood c store folder is =
    let names = c.args.names.now.items in
    let from = c.in-Rename.from in
    let to = c.in-Rename.to in
    let but_from = filter_same _ (λ other. not (bytes_eq other from)) _ (λ x b f k. search rules) _ _ c.retain.ensures.filtered in
    let but_to = filter_same _ (λ other. not (bytes_eq other to)) _ (λ x b f k. search rules) _ _ c.retain-in-Rename.ensures.filtered in
    let left : c.retain-in-Rename.new.self.items ≡ without to (without from names) = but_to ∙ ap (without to) but_from in
    let absent = subst (λ (ns : List (List ℕ)). Contains ns from → ⊥) c.deref.ensures.value
    (not_found_is c.deref.result.now from c.contains-stood.result c.contains-stood.ensures.value c.if-stood.false) in
    subst (λ (call : Call). AreNamesOf (happens store call folder) c.retain-in-Rename.new.self.items) (sym c.in-Rename.is)
    (subst (AreNamesOf _) (sym left) (listing_not_moved folder names from to absent is))

pub returns-in-Remove : goal.returns-in-Remove
returns-in-Remove c store folder is =
    let left = filter_same _ (λ other. not (bytes_eq other c.in-Remove.name)) _ (λ x b f k. search rules) _ _ c.retain-in-Remove.ensures.filtered in
    subst (λ (call : Call). AreNamesOf (happens store call folder) c.retain-in-Remove.new.self.items) (sym c.in-Remove.is)
    (subst (AreNamesOf _) (sym left) (listing_without folder _ c.in-Remove.name is))
