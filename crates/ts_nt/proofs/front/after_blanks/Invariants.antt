use Rattle.std.proofs.Common.{◌≡◌, chars, length}
use denote.Text.{Utf8}
use denote.Shadow.{shadow}
use Rattle.ts_nt.specs.TripleText.{after_blanks as behind_blanks}
use Rattle.ts_nt.proofs.front.after_blanks.Given as goal

abbrev pub invariant-loop-more : goal.invariant-loop-more
invariant-loop-more l = shadow (Utf8 l.rest) × (behind_blanks (chars l.rest) ≡ behind_blanks (chars l.fn.text))

abbrev pub decreases-loop-more : goal.decreases-loop-more
decreases-loop-more l = length l.rest
