use Rattle.std.proofs.Common.{◌≡◌, ℕ, ◌++◌, List}
use Rattle.ts_log.specs.Buffer.{Extends}
use Rattle.ts_front.specs.Dictionary.{place_of}
use Rattle.ts_front.specs.Pieces.{IsBlock}
use Rattle.ts_front.proofs.BlockLemmas.{last_of}
use Rattle.ts_front.proofs.append.append_last.Given as goal

abbrev pub invariant-loop-i : goal.invariant-loop-i
invariant-loop-i l = record {
  kept : Extends l.fn.into.items l.into.items;
  placed : (texts : List (List ℕ)) → IsBlock l.body l.place l.first l.end texts → l.at ≡ place_of texts l.i;
  written : (texts : List (List ℕ)) → IsBlock l.body l.place l.first l.end texts → l.into.items ≡ l.fn.into.items ++ last_of texts l.first l.i;
}
