-- What several calls on a cutter make together.
use Rattle.std.proofs.Common.{◌≡◌, ◌<◌, ◌≤◌, drop, length, ℕ, Bool, true, false, true≢false, refl, List, [], ◌∷◌, ◌++◌, sym, ◌∙◌, ap, arith, inl, inr, append_assoc, append-nil, length-append}
use Rattle.ts_script.specs.Lines.{LineView}
use Rattle.std.proofs.Math.Seq.{drop-append_seam}
use Rattle.ts_script.specs.Cutting.{lines_to_come, next_offset, offset_behind, end_behind, progress, MeansSame, GivesWhole, GivesLine, HasEnded, IsFresh, Takes, Took, IsNext}
use Rattle.ts_script.specs.declared.cutter.LineCutter.{LineCutter}
use Rattle.ts_script.proofs.OffsetLemmas.{offset-here, offset-rises}

pub keeps-whole : (a b c : LineCutter) (line : LineView) → MeansSame a b → GivesWhole b c line → GivesWhole a c line
keeps-whole a b c line first second = record {
  lines = λ left. sym (first.lines left) ∙ second.lines left;
  taken = second.taken ∙ first.taken;
  limit = second.limit ∙ first.limit;
  number = omega (arith, first.number, second.number);
  has_ended = second.has_ended ∙ first.has_ended;
  offset = omega (arith, first.offset [], offset-here a, offset-here b, second.offset);
  end = λ left. second.end left ∙ first.end left;
  begins = second.begins;
}

-- where the next line begins, once these bytes were taken
takes-offset : (a b : LineCutter) (bytes : List ℕ) → Takes a b bytes → next_offset b ≡ offset_behind a bytes
takes-offset a b bytes takes = sym (offset-here b) ∙ takes.offset [] ∙ ap (offset_behind a) (append-nil bytes)

pub takes-keeps : (a b c : LineCutter) (bytes : List ℕ) → Takes a b bytes → MeansSame b c → Takes a c bytes
takes-keeps a b c bytes first second = record {
  lines = λ more. second.lines more ∙ first.lines more;
  taken = second.taken ∙ first.taken;
  limit = second.limit ∙ first.limit;
  number = second.number ∙ first.number;
  offset = λ more. second.offset more ∙ first.offset more;
  end = λ more. second.end more ∙ first.end more;
  ended = λ is. second.has_ended ∙ first.ended is;
}

pub takes-takes : (a b c : LineCutter) (xs ys : List ℕ) → Takes a b xs → Takes b c ys → Takes a c (xs ++ ys)
takes-takes a b c xs ys first second = record {
  lines = λ more. second.lines more ∙ first.lines (ys ++ more) ∙ ap (lines_to_come a) (sym (append_assoc xs ys more));
  taken = omega (arith, first.taken, second.taken, length-append xs ys);
  limit = second.limit ∙ first.limit;
  number = second.number ∙ first.number;
  offset = λ more. second.offset more ∙ first.offset (ys ++ more) ∙ ap (offset_behind a) (sym (append_assoc xs ys more));
  end = λ more. second.end more ∙ first.end (ys ++ more) ∙ ap (end_behind a) (sym (append_assoc xs ys more));
  ended = λ is. second.ended (first.ended is);
}

pub takes-whole : (a b c : LineCutter) (bytes : List ℕ) (line : LineView) → Takes a b bytes → GivesWhole b c line → GivesLine a c bytes line
takes-whole a b c bytes line first second = record {
  next = inl (λ more. sym (first.lines more) ∙ second.lines more);
  taken = second.taken ∙ first.taken;
  limit = second.limit ∙ first.limit;
  number = omega (arith, first.number, second.number);
  offset = omega (arith, offset-rises a bytes, takes-offset a b bytes first, second.offset);
  end = sym (offset-here c) ∙ second.end [] ∙ first.end [] ∙ ap (end_behind a) (append-nil bytes);
  begins = second.begins;
  ended = λ is. second.has_ended ∙ first.ended is;
}

next-last : (a b c : LineCutter) (bytes : List ℕ) (line : LineView) → Takes a b bytes → IsNext b c [] line → IsNext a c bytes line
next-last a b c bytes line first (inl next) = inl (λ more. sym (first.lines more) ∙ next more)
next-last a b c bytes line first (inr last) =
    inr (last.0, ap (lines_to_come a) (sym (append-nil bytes)) ∙ sym (first.lines []) ∙ last.1, last.2)

pub takes-last : (a b c : LineCutter) (bytes : List ℕ) (line : LineView) → Takes a b bytes → GivesLine b c [] line → GivesLine a c bytes line
takes-last a b c bytes line first second = record {
  next = next-last a b c bytes line first second.next;
  taken = omega (arith, first.taken, second.taken);
  limit = second.limit ∙ first.limit;
  number = omega (arith, first.number, second.number);
  offset = omega (arith, offset-rises a bytes, takes-offset a b bytes first, second.offset);
  end = second.end ∙ first.end [] ∙ ap (end_behind a) (append-nil bytes);
  begins = second.begins;
  ended = λ is. second.ended (first.ended is);
}

pub takes-none : (a b c : LineCutter) (bytes : List ℕ) → Takes a b bytes → HasEnded b c [] → HasEnded a c bytes
takes-none a b c bytes first second = record {
  ended = second.ended;
  none = ap (lines_to_come a) (sym (append-nil bytes)) ∙ sym (first.lines []) ∙ second.none;
  after = second.after;
  taken = omega (arith, first.taken, second.taken);
  limit = second.limit ∙ first.limit;
  number = second.number ∙ first.number;
  offset = second.offset ∙ offset-here b ∙ takes-offset a b bytes first;
}

pub left-left : (whole xs ys rest end : List ℕ) → whole ≡ xs ++ rest → rest ≡ ys ++ end → whole ≡ (xs ++ ys) ++ end
left-left whole xs ys rest end first second = first ∙ ap (λ text. xs ++ text) second ∙ sym (append_assoc xs ys end)

-- where the source tells what is left, the line is the next of all that is to come
pub next-line : (cur new : LineCutter) (bytes left rest : List ℕ) (line : LineView) → GivesLine cur new bytes line → left ≡ bytes ++ rest → (new.has_ended ≡ true → rest ≡ [])
    → lines_to_come cur left ≡ line ∷ lines_to_come new rest
next-line cur new bytes left rest line gives whole ended = by_next gives.next
  where
    by_next : IsNext cur new bytes line → lines_to_come cur left ≡ line ∷ lines_to_come new rest
    by_next (inl next) = ap (lines_to_come cur) whole ∙ next rest
    by_next (inr last) =
        ap (lines_to_come cur) (whole ∙ ap (λ (t : List ℕ). bytes ++ t) (ended last.0) ∙ append-nil bytes)
        ∙ last.1 ∙ ap (λ (ls : List LineView). line ∷ ls) (sym last.2 ∙ ap (lines_to_come new) (sym (ended last.0)))

pub next-none : (cur new : LineCutter) (bytes left rest : List ℕ) → HasEnded cur new bytes → left ≡ bytes ++ rest → rest ≡ [] → lines_to_come cur left ≡ []
next-none cur new bytes left rest gives whole ended =
    ap (lines_to_come cur) (whole ∙ ap (λ (t : List ℕ). bytes ++ t) ended ∙ append-nil bytes) ∙ gives.none

-- ---- what was taken

pub took-nothing : (a : LineCutter) → Took a a []
took-nothing a = record { taken = omega arith; limit = refl; given = []; number = omega arith; lines = λ unended more. refl; ended = λ is. is }

pub unended-before : (before after : Bool) → (before ≡ true → after ≡ true) → after ≡ false → before ≡ false
unended-before true after ended is = absurd (true≢false (sym (ended refl) ∙ is))
unended-before false after ended is = refl

pub took-took : (a b c : LineCutter) (xs ys : List ℕ) → Took a b xs → Took b c ys → Took a c (xs ++ ys)
took-took a b c xs ys first second = record {
  taken = omega (arith, first.taken, second.taken, length-append xs ys);
  limit = second.limit ∙ first.limit;
  given = first.given ++ second.given;
  number = omega (arith, first.number, second.number, length-append first.given second.given);
  lines = λ unended more.
      ap (lines_to_come a) (append_assoc xs ys more) ∙ first.lines (unended-before b.has_ended c.has_ended second.ended unended) (ys ++ more)
      ∙ ap (λ (ls : List LineView). first.given ++ ls) (second.lines unended more) ∙ sym (append_assoc first.given second.given (lines_to_come c more));
  ended = λ is. second.ended (first.ended is);
}

pub took-line : (a b c : LineCutter) (xs ys : List ℕ) (line : LineView) → Took a b xs → GivesLine b c ys line → Took a c (xs ++ ys)
took-line a b c xs ys line first gives =
    took-took a b c xs ys first (record { taken = gives.taken; limit = gives.limit; given = line ∷ []; number = gives.number; lines = λ unended more. next unended gives.next more; ended = gives.ended })
  where
    next : c.has_ended ≡ false → IsNext b c ys line → (more : List ℕ) → lines_to_come b (ys ++ more) ≡ line ∷ lines_to_come c more
    next unended (inl is) more = is more
    next unended (inr last) more = absurd (true≢false (sym last.0 ∙ unended))

pub took-end : (a b c : LineCutter) (xs ys : List ℕ) → Took a b xs → HasEnded b c ys → Took a c (xs ++ ys)
took-end a b c xs ys first ends =
    took-took a b c xs ys first
    (record { taken = ends.taken; limit = ends.limit; given = []; number = omega (arith, ends.number); lines = λ unended more. absurd (true≢false (sym ends.ended ∙ unended)); ended = λ is. ends.ended })

pub took-bytes : (a b c : LineCutter) (xs ys : List ℕ) → Took a b xs → Takes b c ys → Took a c (xs ++ ys)
took-bytes a b c xs ys first takes =
    took-took a b c xs ys first
    (record { taken = takes.taken; limit = takes.limit; given = []; number = omega (arith, takes.number); lines = λ unended more. sym (takes.lines more); ended = takes.ended })

-- as many bytes as the limit allows were taken of what was left
pub over_limit : (old new : LineCutter) (most : ℕ) (bytes left rest : List ℕ) → IsFresh old most → Took old new bytes → (progress new).taken ≡ (progress new).limit → left ≡ bytes ++ rest
    → (most ≤ length left) × (rest ≡ drop most left)
over_limit old new most bytes left rest fresh took full whole =
    let long : length bytes ≡ most = omega (arith, fresh.limit, fresh.taken, took.taken, took.limit, full) in
    (omega (arith, long, length-append bytes rest, ap length whole), sym (drop-append_seam bytes rest) ∙ ap (λ (n : ℕ). drop n (bytes ++ rest)) long ∙ ap (drop most) (sym whole))

-- fewer bytes than that were taken, and they are all that was left
pub below_limit : (old new : LineCutter) (most : ℕ) (bytes left rest : List ℕ) → IsFresh old most → Took old new bytes → (progress new).taken < (progress new).limit → left ≡ bytes ++ rest → rest ≡ []
    → length left < most
below_limit old new most bytes left rest fresh took short whole none =
    omega (arith, fresh.limit, fresh.taken, took.taken, took.limit, short, length-append bytes rest, ap length whole, ap length none)

pub within_limit : (old new : LineCutter) (most : ℕ) (bytes : List ℕ) → IsFresh old most → Took old new bytes → length bytes ≤ most
within_limit old new most bytes fresh took =
    let within = new.within in
    omega (arith, within, fresh.limit, fresh.taken, took.taken, took.limit)

second_nil : (xs ys : List ℕ) → [] ≡ xs ++ ys → ys ≡ []
second_nil [] ys e = sym e
second_nil (x ∷ xs) ys e = absurd (cc)

-- once the end was seen, nothing is left
pub ended-left : (before after : Bool) (left bytes rest : List ℕ) → (before ≡ true → left ≡ []) → (before ≡ false → after ≡ true → rest ≡ []) → left ≡ bytes ++ rest → after ≡ true → rest ≡ []
ended-left true after left bytes rest seen sees whole is = second_nil bytes rest (sym (seen refl) ∙ whole)
ended-left false after left bytes rest seen sees whole is = sees refl is
