-- The place of the next line.
use Rattle.std.proofs.Common.{◌≡◌, ◌⊎◌, ℕ, ◌+◌, ◌<◌, ◌≤◌, ◌==◌, Bool, true, false, List, [], ◌∷◌, ◌++◌, length, get_or, slice_range, refl, sym, ap, arith, inl, inr, append-nil}
use Rattle.std.proofs.lemmas.Bool.{ne_eqb}
use Rattle.ts_script.specs.Lines.{feed_of}
use Rattle.ts_script.specs.Cutting.{buffered, next_offset, offset_behind}
use Rattle.ts_script.specs.declared.cutter.LineCutter.{LineCutter}
use Rattle.ts_script.proofs.LinesLemmas.{slice_range-first, not_after_return}

-- more bytes take no line feed away
feed-more : (r : Bool) (text more : List ℕ) → feed_of r text ≤ feed_of r (text ++ more)
feed-more false text more = omega arith
feed-more true [] more = omega arith
feed-more true (b ∷ text) more = omega arith

pub feed-none : (r : Bool) (text : List ℕ) → r ≡ false → feed_of r text ≡ 0
feed-none r text is = rw is refl

-- a line feed that waits after a return
pub feed-one : (r : Bool) (text left : List ℕ) (i j d : ℕ) → r ≡ true → i < j → j ≤ length text → d ≡ get_or text i d → d ≡ 10 → feed_of r (slice_range text i j ++ left) ≡ 1
feed-one r text left i j d is lt le read feed =
    rw (slice_range-first text i j d lt le, sym read, feed, is) refl

-- another byte that waits after a return
pub feed-other : (r : Bool) (text left : List ℕ) (i j d : ℕ) → r ≡ true → i < j → j ≤ length text → d ≡ get_or text i d → (d ≡ 10 → ⊥) → feed_of r (slice_range text i j ++ left) ≡ 0
feed-other r text left i j d is lt le read other =
    let not_feed : (d == 10) ≡ false = ne_eqb d 10 other in
    rw (slice_range-first text i j d lt le, sym read, is, not_feed) refl

-- of a line that is over the limit no line feed before it waits
pub not_return : (o r : Bool) (i j : ℕ) → (o ≡ true → r ≡ false) → (r ≡ true → i ≡ j) → (o ≡ true) ⊎ (i < j) → r ≡ false
not_return o r i j one settled (inl is) = one is
not_return o r i j one settled (inr lt) = not_after_return r i j settled lt

pub offset-here : (c : LineCutter) → offset_behind c [] ≡ next_offset c
offset-here c = ap (λ (text : List ℕ). c.passed + feed_of c.after_return text) (append-nil (buffered c))

pub offset-rises : (c : LineCutter) (bytes : List ℕ) → next_offset c ≤ offset_behind c bytes
offset-rises c bytes = omega (arith, feed-more c.after_return (buffered c) bytes)
