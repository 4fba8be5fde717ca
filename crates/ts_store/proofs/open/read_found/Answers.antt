use Rattle.std.proofs.Common.{◌≡◌, ◌∙◌, ℕ, List, All, IsTrue, IfErr, get_or, sym, subst}
use Rattle.std.specs.FinMap.{contains_key}
use Rattle.std.proofs.lemmas.List.Elements.{Contains-get_or}
use Rattle.ts_plain.specs.History.{history_of}
use Rattle.ts_replace.specs.Names.{layer_name}
use Rattle.ts_site.specs.Faults.{is_err_and}
use Rattle.ts_site.specs.Folder.{Folder}
use Rattle.ts_site.proofs.GoesLemmas.{reads_more}
use Rattle.ts_store.specs.declared.stop.Stop.TheVariants.{Damaged}
use Rattle.ts_store.specs.FolderSays.{IsFirstDamaged}
use Rattle.ts_store.specs.Stops.{is_disk_fault}
use Rattle.ts_store.specs.Opened.{AreLayersRead, IsFirstOf, IsRollupStop}
use Rattle.ts_store.proofs.FoundLaws.{first_layer, layers_read, rollup_fault, sound}
use Rattle.ts_store.proofs.open.read_found.Goals as goal

pub read_layers-requires-clause-stand : goal.read_layers-requires-clause-stand
read_layers-requires-clause-stand g c = λ told.
    let numbers = c.args.found.now.layers.items in
    let those = c.requires.those told in
    subst (All (λ (n : ℕ). IsTrue (contains_key (g.W.Disk.outside c.args.site.now).folder (layer_name n)))) (sym c.as_slice.ensures.value)
    (λ k d below. ((those.each_layer (get_or numbers k d)).0 (Contains-get_or numbers k d below)).1)

pub returns-in-Err-clause-damaged : goal.returns-in-Err-clause-damaged
returns-in-Err-clause-damaged g c = λ told name is.
    let found = c.args.found.now in
    let folder = (g.W.Disk.outside c.args.site.now).folder in
    first_layer folder found.layers.items found.rollups.items found.labels.items (c.requires.those (c.in-Err.ensures.reads.telling told)) name
    (subst (λ (ns : List ℕ). IsFirstOf folder ns name) c.as_slice.ensures.value (c.in-Err.ensures.damaged told name is))

pub with_labels-requires-clause-told : goal.with_labels-requires-clause-told
with_labels-requires-clause-told g c = λ told.
    let found = c.args.found.now in
    let folder = (g.W.Disk.outside c.args.site.now).folder in
    let ok = c.in-Ok.ensures in
    let read = layers_read folder found.layers.items found.rollups.items found.labels.items (c.requires.those (ok.reads.telling told)) c.in-Ok.layers.items ok.history (ok.numbers ∙ c.as_slice.ensures.value) (ok.says told)
    (sym c.as_slice-in-Ok.ensures.value ∙ c.in-Ok-no_rollup.ensures.ok) in
    subst (λ (f : Folder). AreLayersRead f (history_of c.in-Ok.layers.items) c.as_slice-in-Ok-no_rollup.result.now) (sym (ok.reads.folder told))
    (subst (λ (names : List (List ℕ)). AreLayersRead folder (history_of c.in-Ok.layers.items) names) (sym c.as_slice-in-Ok-no_rollup.ensures.value) read)

pub returns-in-Err-no_rollup-clause-damaged : goal.returns-in-Err-no_rollup-clause-damaged
returns-in-Err-no_rollup-clause-damaged g c = λ told.
    let found = c.args.found.now in
    let folder = (g.W.Disk.outside c.args.site.now).folder in
    let ok = c.in-Ok.ensures in
    let those = c.requires.those (ok.reads.telling told) in
    rollup_fault folder found.layers.items found.rollups.items found.labels.items c.in-Err-no_rollup.stop those c.requires.rise
    (sound folder found.layers.items found.rollups.items found.labels.items those c.in-Ok.layers.items ok.history (ok.numbers ∙ c.as_slice.ensures.value) (ok.says told))
    (subst (λ (ns : List ℕ). IsRollupStop ns c.in-Err-no_rollup.stop) c.as_slice-in-Ok.ensures.value c.in-Err-no_rollup.ensures.err)

pub returns-in-Ok-no_rollup-clause-damaged : goal.returns-in-Ok-no_rollup-clause-damaged
returns-in-Ok-no_rollup-clause-damaged g c = λ told.
    subst (λ (f : Folder). IfErr c.with_labels.result (λ stop. (name : List ℕ) → stop ≡ Damaged name → IsFirstDamaged f name)) (c.in-Ok.ensures.reads.folder (c.with_labels.ensures.reads.telling told)) (c.with_labels.ensures.damaged told)

pub returns-in-Ok-no_rollup-clause-reads : goal.returns-in-Ok-no_rollup-clause-reads
returns-in-Ok-no_rollup-clause-reads g c =
    reads_more (is_err_and is_disk_fault c.with_labels.result) (g.W.Disk.outside c.args.site.now) (g.W.Disk.outside c.read_layers.new.site) (g.W.Disk.outside c.with_labels.new.site) c.in-Ok.ensures.reads c.with_labels.ensures.reads
