use Rattle.std.proofs.Common.{List, subst}
use Rattle.ts_plain.specs.declared.write.PlainLayer.{PlainLayer}
use Rattle.ts_plain.specs.History.{history_of}
use Rattle.ts_store.specs.Named.{AreLabelsOf}
use Rattle.ts_store.proofs.open.with_labels.Goals as goal

pub invariant_of-result : goal.invariant_of-result
invariant_of-result g c = record {
  history = c.requires.history;
  named = subst (λ (ls : List PlainLayer). AreLabelsOf (history_of ls) c.in-Ok.labels.labels) c.as_slice.ensures.value c.in-Ok.ensures.named;
  newest = tt;
}
