use Rattle.std.proofs.Common.{◌≡◌, ◌≢◌, ℕ, ◌≤◌, ◌<◌, List, length}
use Rattle.ts_front.specs.Shared.{text_at}
use Rattle.ts_front.specs.Dictionary.{place_of}
use Rattle.ts_front.specs.Pieces.{IsBlock, Compares}
use Rattle.ts_front.proofs.BlockLemmas.{last_of}
use Rattle.ts_front.proofs.compare.find_equal.Given as goal

abbrev pub invariant-loop-i : goal.invariant-loop-i
invariant-loop-i l = record {
  shares : l.found.shared ≤ length l.text;
  placed : (texts : List (List ℕ)) → IsBlock l.body l.place l.first l.end texts → l.at ≡ place_of texts l.i;
  compares : (texts : List (List ℕ)) → IsBlock l.body l.place l.first l.end texts → Compares (last_of texts l.first l.i) l.text l.found.shared l.found.order;
  passed : (texts : List (List ℕ)) → IsBlock l.body l.place l.first l.end texts → (k : ℕ) → l.first ≤ k → k < l.i → text_at texts k ≢ l.text;
}
