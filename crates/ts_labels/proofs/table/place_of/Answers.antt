use Rattle.std.proofs.Common.{rules, ℕ, List}
use Rattle.std.specs.Ordering.{nat_cmp}
use Rattle.std.specs.Cmp.Lexicographic.{slice_cmp}
use Rattle.std.proofs.lemmas.Fn.{always_returns_same}
use Rattle.ts_labels.specs.declared.label.Label.{Label}
use Rattle.ts_labels.proofs.PlaceLaws.{place}
use Rattle.ts_labels.proofs.table.place_of.Goals as goal

pub returns : goal.returns
returns c =
    place c.args.name.now c.args.entries.now c.binary_search_by.result c.requires c.binary_search_by.ensures.bound
    (c.binary_search_by.ensures.position (λ (e : List ℕ × Label). slice_cmp nat_cmp e.0 c.args.name.now) (always_returns_same _ _ _ (λ a r f' k. (search rules, search rules))))
