use Rattle.std.proofs.Common.{◌≡◌, ◌∙◌, All, false, Some, None, refl, sym, subst}
use Rattle.std.specs.FinMap.{empty, get, insert}
use Rattle.std.proofs.lemmas.List.{take_all}
use Rattle.std.proofs.lemmas.List.Elements.{All-nil}
use Rattle.ts_labels.specs.LabelFile.{label_text}
use Rattle.ts_plain.specs.History.{history_of}
use Rattle.ts_replace.specs.Names.{label_file_name}
use Rattle.ts_site.specs.Folder.{Folder}
use Rattle.ts_store.specs.Named.{AreLabelsOf}
use Rattle.ts_store.specs.Store.{state_of}
use Rattle.ts_site.proofs.GoesLemmas.{reads_more, reads_none}
use Rattle.ts_store.proofs.FoundLabels.{IsLabelRead, among_more, first_label, none_among, none_named, read_more, says_labels}
use Rattle.ts_store.proofs.LabelLaws.{named_put}
use Rattle.ts_store.specs.Stops.{is_disk_fault}
use Rattle.ts_store.proofs.open_labels.read_labels.Goals as goal

pub loop-name-init : goal.loop-name-init
loop-name-init g c =
    let labels = c.new-table.result.labels in
    record {
      named = none_named (history_of c.args.layers.now) labels c.new-table.ensures;
      among = none_among labels c.args.names.now c.new-table.ensures;
      read = λ told. All-nil (IsLabelRead (g.W.Disk.outside c.args.site.now).folder labels);
      reads = reads_none (g.W.Disk.outside c.args.site.now);
    }

pub returns-in-Err-clause-damaged : goal.returns-in-Err-clause-damaged
returns-in-Err-clause-damaged g c = λ told name is.
    let folder = (g.W.Disk.outside c.args.site.now).folder in
    let before = c.loop-name.invariant in
    let before_told = c.in-Err.ensures.reads.telling told in
    let damaged = rw (before.reads.folder before_told) at (c.in-Err.ensures.damaged told name is) in
    first_label folder (history_of c.args.layers.now) c.args.names.now (c.requires.told (before.reads.telling before_told)) c.loop-name.table.labels before.named c.requires.rise c.loop-name.name-index c.loop-name-test.true (before.read before_told)
    c.name-item.result c.name-item.is name damaged.0 damaged.1

pub loop-name-preserved : goal.loop-name-preserved
loop-name-preserved g c =
    let folder = (g.W.Disk.outside c.args.site.now).folder in
    let names = c.args.names.now in
    let i = c.loop-name.name-index in
    let name = c.name-item.result in
    let label = c.in-Ok.label in
    let labels = c.loop-name.table.labels in
    let after = c.put.new.self.labels in
    let before = c.loop-name.invariant in
    let ok = c.in-Ok.ensures in
    let put : after ≡ insert labels name label = c.put.ensures.labels ∙ (λ j. insert (c.reserve.ensures.labels j) (c.copy.ensures j) label) in
    record {
      named = subst (AreLabelsOf (history_of c.args.layers.now)) (sym put) (named_put (history_of c.args.layers.now) labels name label before.named ok.label);
      among = among_more labels after name label put names (i, c.loop-name-test.true, sym c.name-item.is) before.among;
      read = λ told.
          let before_told = ok.reads.telling told in
          let file = subst (λ (f : Folder). get f (label_file_name name) ≡ Some (label_text label)) (before.reads.folder before_told) (ok.says told) in
          read_more labels after name label put folder file names i c.loop-name-test.true c.name-item.is (before.read before_told);
      reads = reads_more false (g.W.Disk.outside c.args.site.now) (g.W.Disk.outside c.loop-name.site) (g.W.Disk.outside c.read_label.new.site) before.reads ok.reads;
    }

pub returns-clause-says : goal.returns-clause-says
returns-clause-says g c = λ told.
    let folder = (g.W.Disk.outside c.args.site.now).folder in
    let names = c.args.names.now in
    let labels = c.loop-name.table.labels in
    let before = c.loop-name.invariant in
    says_labels folder (history_of c.args.layers.now) names (c.requires.told (before.reads.telling told)) labels before.named (state_of c.args.layers.now labels empty None) refl refl before.among
    (subst (All (IsLabelRead folder labels)) (take_all c.loop-name.name-index names c.loop-name-test.false) (before.read told))

pub returns-in-Err-clause-reads : goal.returns-in-Err-clause-reads
returns-in-Err-clause-reads g c =
    reads_more (is_disk_fault c.in-Err.stop) (g.W.Disk.outside c.args.site.now) (g.W.Disk.outside c.loop-name.site) (g.W.Disk.outside c.read_label.new.site) c.loop-name.invariant.reads c.in-Err.ensures.reads

pub returns-in-Err-reserve-clause-reads : goal.returns-in-Err-reserve-clause-reads
returns-in-Err-reserve-clause-reads g c =
    reads_more false (g.W.Disk.outside c.args.site.now) (g.W.Disk.outside c.loop-name.site) (g.W.Disk.outside c.read_label.new.site) c.loop-name.invariant.reads c.in-Ok.ensures.reads
