use Rattle.std.proofs.Common.{◌≡◌, ◌∙◌, All, false, List, [], ◌∷◌, ◌++◌, sym, ap, map, subst, true≢false}
use Rattle.std.proofs.lemmas.List.Elements.{All-nil, All-push}
use Rattle.ts_plain.specs.declared.write.PlainLayer.{PlainLayer}
use Rattle.ts_plain.specs.History.{AreHistory}
use Rattle.ts_plain.proofs.PlaceLaws.{AreHistory-none}
use Rattle.ts_site.specs.Folder.{Folder}
use Rattle.ts_store.specs.Opened.{IsReadFrom}
use Rattle.ts_site.proofs.GoesLemmas.{reads_more, reads_none}
use Rattle.ts_store.proofs.OpenLaws.{first_unreadable, first_misplaced, more_numbers, named}
use Rattle.ts_store.specs.Stops.{is_disk_fault}
use Rattle.ts_store.proofs.open.read_layers.Goals as goal

pub loop-number-init : goal.loop-number-init
loop-number-init g c =
    let none = c.new-layers.ensures.items in
    record {
      numbers = ap (map (λ layer. layer.number)) none;
      history = subst AreHistory (sym none) AreHistory-none;
      says = λ told. subst (All (IsReadFrom (g.W.Disk.outside c.args.site.now).folder)) (sym none) (All-nil (IsReadFrom (g.W.Disk.outside c.args.site.now).folder));
      reads = reads_none (g.W.Disk.outside c.args.site.now);
    }

pub returns-in-Err-clause-damaged : goal.returns-in-Err-clause-damaged
returns-in-Err-clause-damaged g c = λ told name is.
    let numbers = c.args.numbers.now in
    let i = c.loop-number.number-index in
    let folder = (g.W.Disk.outside c.args.site.now).folder in
    let before = c.loop-number.invariant in
    let before_told = c.in-Err.ensures.reads.telling told in
    let damaged = rw (before.reads.folder before_told) at (c.in-Err.ensures.damaged told name is) in
    first_unreadable folder c.loop-number.layers.items before.history (before.says before_told) numbers c.requires.rise c.requires.numbers i c.loop-number-test.true before.numbers
    name damaged.0 damaged.1

pub returns-then-not-keeps_to_place-clause-damaged : goal.returns-then-not-keeps_to_place-clause-damaged
returns-then-not-keeps_to_place-clause-damaged g c = λ told name is.
    let numbers = c.args.numbers.now in
    let i = c.loop-number.number-index in
    let folder = (g.W.Disk.outside c.args.site.now).folder in
    let layers = c.loop-number.layers.items in
    let layer = c.in-Ok.layer in
    let before = c.loop-number.invariant in
    let before_told = c.in-Ok.ensures.reads.telling told in
    first_misplaced folder layers before.history (before.says before_told) numbers c.requires.rise c.requires.numbers i c.loop-number-test.true before.numbers
    name layer c.in-Ok.ensures.layer.0 c.in-Ok.ensures.layer.1
    (subst (λ (f : Folder). IsReadFrom f layer) (before.reads.folder before_told) (c.in-Ok.ensures.says told))
    (λ longer.
    let here = c.keeps_to_place.ensures.1 (subst (λ (ls : List PlainLayer). AreHistory (ls ++ layer ∷ [])) (sym c.as_slice.ensures.value) longer) in
    true≢false (sym here ∙ c.if-not-keeps_to_place.true))
    (named c.layer_file.result name is ∙ c.layer_file.ensures.name)

pub loop-number-preserved : goal.loop-number-preserved
loop-number-preserved g c =
    let folder = (g.W.Disk.outside c.args.site.now).folder in
    let numbers = c.args.numbers.now in
    let layers = c.loop-number.layers.items in
    let layer = c.in-Ok.layer in
    let before = c.loop-number.invariant in
    let ok = c.in-Ok.ensures in
    let after = c.push.new.self.items in
    let pushed : after ≡ layers ++ layer ∷ [] = c.in-Ok-push.ensures.items in
    let back : layers ++ layer ∷ [] ≡ after = sym {A = List PlainLayer} {a = after} {b = layers ++ layer ∷ []} pushed in
    record {
      numbers = more_numbers layers numbers c.loop-number.number-index layer after c.loop-number-test.true ok.layer.0 before.numbers pushed;
      history = subst AreHistory {x = layers ++ layer ∷ []} {y = after} back (subst (λ (ls : List PlainLayer). AreHistory (ls ++ layer ∷ [])) c.as_slice.ensures.value (c.keeps_to_place.ensures.0 c.if-not-keeps_to_place.false));
      says = λ told.
          let before_told = ok.reads.telling told in
          subst (All (IsReadFrom folder)) {x = layers ++ layer ∷ []} {y = after} back (All-push (IsReadFrom folder) layers layer (before.says before_told) (subst (λ (f : Folder). IsReadFrom f layer) (before.reads.folder before_told) (ok.says told)));
      reads = reads_more false (g.W.Disk.outside c.args.site.now) (g.W.Disk.outside c.loop-number.site) (g.W.Disk.outside c.read_layer.new.site) before.reads ok.reads;
    }

pub returns-in-Err-clause-reads : goal.returns-in-Err-clause-reads
returns-in-Err-clause-reads g c =
    reads_more (is_disk_fault c.in-Err.stop) (g.W.Disk.outside c.args.site.now) (g.W.Disk.outside c.loop-number.site) (g.W.Disk.outside c.read_layer.new.site) c.loop-number.invariant.reads c.in-Err.ensures.reads

pub returns-then-not-keeps_to_place-clause-reads : goal.returns-then-not-keeps_to_place-clause-reads
returns-then-not-keeps_to_place-clause-reads g c =
    reads_more false (g.W.Disk.outside c.args.site.now) (g.W.Disk.outside c.loop-number.site) (g.W.Disk.outside c.read_layer.new.site) c.loop-number.invariant.reads c.in-Ok.ensures.reads

pub returns-in-Err-push-clause-reads : goal.returns-in-Err-push-clause-reads
returns-in-Err-push-clause-reads g c =
    reads_more false (g.W.Disk.outside c.args.site.now) (g.W.Disk.outside c.loop-number.site) (g.W.Disk.outside c.read_layer.new.site) c.loop-number.invariant.reads c.in-Ok.ensures.reads
