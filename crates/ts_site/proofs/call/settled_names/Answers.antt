use Rattle.std.proofs.Common.{List, sym, ◌∙◌, ap, subst, take}
use Rattle.std.proofs.lemmas.List.{take_all}
use Rattle.ts_site.specs.Folder.{Folder, no_files, AreNamesOf}
use Rattle.ts_site.specs.Call.{with_files, content}
use Rattle.ts_site.specs.declared.call.Stored.{Stored}
use Rattle.ts_site.proofs.CallLemmas.{take_next, with_files-push}
use Rattle.ts_site.proofs.ListingLemmas.{listing_empty}
use Rattle.ts_site.proofs.call.settled_names.Goals as goal

pub loop-stored-init : goal.loop-stored-init
loop-stored-init c store = subst (AreNamesOf no_files) (sym c.new-names.ensures.items) listing_empty

pub loop-stored-preserved : goal.loop-stored-preserved
loop-stored-preserved c store =
    let next = ap (λ (files : List Stored). with_files store files no_files) (take_next c.args.settled.now c.loop-stored.stored-index c.stored-item.result c.loop-stored-test.true c.stored-item.is)
    ∙ with_files-push store (take c.loop-stored.stored-index c.args.settled.now) c.stored-item.result no_files in
    subst (λ (folder : Folder). AreNamesOf folder c.add.new.names.items) (sym next) (c.in_ok-add.ensures _ (content store c.stored-item.result) (c.loop-stored.invariant store))

pub returns : goal.returns
returns c store =
    subst (λ (files : List Stored). AreNamesOf (with_files store files no_files) c.loop-stored.names.items) (take_all c.loop-stored.stored-index c.args.settled.now c.loop-stored-test.false) (c.loop-stored.invariant store)
