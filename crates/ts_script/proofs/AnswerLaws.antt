-- A line has one answer, or is at fault.
use Rattle.std.proofs.Common.{◌≡◌, inl, inr, ℕ, Bool, true, false, ◌≤◌, List, length, Option, None, Some, refl, sym, subst, chars, arith}
use Rattle.std.specs.Prelude.{nat_le}
use Rattle.std.proofs.lemmas.Bool.{leb-false, leb-true}
use Rattle.ts_model.specs.declared.signed.Sign.{Sign}
use Rattle.ts_model.specs.declared.signed.SignedTriple.{SignedTriple}
use Rattle.ts_model.specs.TextTriple.{TextTriple, IsTriple}
use Rattle.ts_nt.specs.LineRead.{Answers, IsBad, IsReadAs, IsSilent, IsTooLong, IsWithinLimits, Spells}
use Rattle.ts_nt.proofs.ScalarLaws.{All-chars}
use Rattle.ts_nt.specs.Limits.{line_limit}
use Rattle.ts_nt.proofs.TripleLaws.{silent_is_none, text_canonical, text_once}

silent_or_spells : (line : List ℕ) (sign : Sign) (triple : TextTriple) → IsSilent line → Spells line sign triple → ⊥
silent_or_spells line sign triple silent spells = silent_is_none (chars line) silent.1 sign triple spells.1

pub answer_once : (line : List ℕ) (a b : Option SignedTriple) → Answers line a → Answers line b → a ≡ b
answer_once line None None one other = refl
answer_once line None (Some b) one other = absurd (silent_or_spells line b.sign b.triple one.1 other.1)
answer_once line (Some a) None one other = absurd (silent_or_spells line a.sign a.triple other.1 one.1)
answer_once line (Some a) (Some b) one other =
    let same = text_once (chars line) a.sign b.sign a.triple b.triple one.1.1 other.1.1 in
    λ i. Some (record { sign = same.0 i; triple = same.1 i })

answered_within : (line : List ℕ) (answer : Option SignedTriple) → Answers line answer → length line ≤ line_limit
answered_within line None read = read.0
answered_within line (Some signed) read = read.0

pub bad_unanswered : (line : List ℕ) (answer : Option SignedTriple) → IsBad line → Answers line answer → ⊥
bad_unanswered line None bad read = bad.1 read.1
bad_unanswered line (Some signed) bad read = bad.2 signed.sign signed.triple read.1

pub long_unanswered : (line : List ℕ) (answer : Option SignedTriple) → IsTooLong line → Answers line answer → ⊥
long_unanswered line answer (inl over) read = let within = answered_within line answer read in omega (arith, within)
long_unanswered line None (inr (sign, triple, spells, over)) read = silent_or_spells line sign triple read.1 spells
long_unanswered line (Some signed) (inr (sign, triple, spells, over)) read =
    let same = text_once (chars line) sign signed.sign triple signed.triple spells.1 read.1.1 in
    over (subst IsWithinLimits (sym same.1) read.2)

pub bad_or_long : (line : List ℕ) → IsBad line → IsTooLong line → ⊥
bad_or_long line bad (inl over) = omega arith
bad_or_long line bad (inr (sign, triple, spells, over)) = bad.2 sign triple spells

-- a line has an answer, or is at fault
pub answered_or_fault : (line : List ℕ) → (IsBad line → ⊥) → (IsTooLong line → ⊥) → ((answer : Option SignedTriple) → Answers line answer → ⊥) → ⊥
answered_or_fault line not_bad not_long unanswered = by_length (nat_le (length line) line_limit) refl
  where
    by_length : (b : Bool) → nat_le (length line) line_limit ≡ b → ⊥
    by_length false t = not_long (inl (leb-false _ _ t))
    by_length true t =
        let within : length line ≤ line_limit = leb-true _ _ t in
        not_bad (
          within,
          λ silent. unanswered None (within, silent),
          λ sign triple spells.
              not_long (inr (sign, triple, spells, λ small. unanswered (Some (record { sign = sign; triple = triple })) (within, spells, small))),
        )

-- what a line is read as is a triple
pub read_triple : (line : List ℕ) (signed : SignedTriple) → IsReadAs line signed → IsTriple signed.triple
read_triple line signed read =
    let terms = text_canonical (chars line) signed.sign signed.triple (All-chars line read.1.0) read.1.1 in
    (read.1.1.kinds, (terms.0, read.2.0), (terms.1, read.2.1), (terms.2, read.2.2))
