use Rattle.std.proofs.Common.{List, ℕ, subst}
use Rattle.std.specs.Prelude.{codes}
use Rattle.ts_model.specs.LayerText.{layer_text}
use Rattle.ts_model.specs.Names.{IsLabelName}
use Rattle.ts_site.specs.Folder.{AppendsNames}
use Rattle.ts_replace.specs.Names.{IsLayerNumber}
use Rattle.ts_replace.specs.Scanned.{AreNamedIn}
use Rattle.ts_replace.proofs.NamedLemmas.{named_in_folder, all_things}
use Rattle.ts_replace.proofs.folder.Folder.scan.Goals as goal

pub returns-clause-names : goal.returns-clause-names
returns-clause-names g c told =
    let answer = c.in_ok-list.ensures.names told in
    let listed = subst (λ (old : List (List ℕ)). AppendsNames (g.W.Disk.outside c.args.site.now).folder old c.list.new.into.items) c.new-names.ensures.items answer in
    record {
      each_layer = named_in_folder IsLayerNumber layer_text (codes ".layer") _ _ _ listed
          (subst (λ (names : List (List ℕ)). AreNamedIn IsLayerNumber layer_text (codes ".layer") names c.in_ok-layers.layers.items) c.deref.ensures.value c.in_ok-layers.ensures.named);
      each_rollup = named_in_folder IsLayerNumber layer_text (codes ".rollup") _ _ _ listed
          (subst (λ (names : List (List ℕ)). AreNamedIn IsLayerNumber layer_text (codes ".rollup") names c.in_ok-rollups.rollups.items) c.deref-2.ensures.value c.in_ok-rollups.ensures.named);
      each_label = named_in_folder IsLabelName (λ name. name) (codes ".label") _ _ _ listed
          (subst (λ (names : List (List ℕ)). AreNamedIn IsLabelName (λ name. name) (codes ".label") names c.in_ok-labels.labels.items) c.deref-3.ensures.value c.in_ok-labels.ensures.named);
    }

pub returns-clause-numbers : goal.returns-clause-numbers
returns-clause-numbers g c = all_things IsLayerNumber layer_text (codes ".layer") _ _ c.in_ok-layers.ensures.named

pub returns-clause-rollup_numbers : goal.returns-clause-rollup_numbers
returns-clause-rollup_numbers g c = all_things IsLayerNumber layer_text (codes ".rollup") _ _ c.in_ok-rollups.ensures.named
