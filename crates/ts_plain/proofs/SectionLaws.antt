-- The changes of a sign at the front of bytes, one after another.
use Rattle.std.proofs.Common.{◌≡◌, ◌≢◌, ◌⊎◌, inl, inr, ℕ, List, [], ◌∷◌, ◌++◌, All, sym, ap, ◌∙◌, subst, append_assoc}
use Rattle.std.specs.List.Sorted.{IsStrictlySortedBy}
use Rattle.std.proofs.lemmas.List.{flat_map_more}
use Rattle.std.proofs.lemmas.List.Elements.{All-head, All-tail}
use Rattle.ts_model.specs.TextTriple.{TextTriple, IsTriple}
use Rattle.ts_model.specs.Order.{triple_cmp}
use Rattle.ts_nt.specs.TripleLine.{triple_line}
use Rattle.ts_plain.specs.PlainFile.{change_line, change_lines}
use Rattle.ts_plain.specs.PlainReading.{BeginsWithLine, IsSection}
use Rattle.ts_plain.proofs.EndLaws.{line_text}
use Rattle.ts_plain.proofs.LineLaws.{line_before, triple_once, next_is, section_once}
use Rattle.ts_plain.proofs.OrderLaws.{rises_front}

-- one more line
pub lines_more : (sign : ℕ) (bytes : List ℕ) (done : List TextTriple) (next : TextTriple) (rest after later : List ℕ) → bytes ≡ change_lines sign done ++ rest
    → rest ≡ sign ∷ 0x20 ∷ after → after ≡ triple_line next ++ later → bytes ≡ change_lines sign (done ++ next ∷ []) ++ later
lines_more sign bytes done next rest after later e stands reads =
    let line : rest ≡ change_line sign next ++ later = stands ∙ ap (λ l. sign ∷ 0x20 ∷ l) reads in
    let more : change_lines sign done ++ change_line sign next ≡ change_lines sign (done ++ next ∷ []) = flat_map_more (change_line sign) [] done next in
    e ∙ ap (λ l. change_lines sign done ++ l) line ∙ sym (append_assoc (change_lines sign done) (change_line sign next) later) ∙ ap (λ l. l ++ later) more

-- ---- the first line

begins_here : (sign : ℕ) (bytes : List ℕ) (t : TextTriple) (ts : List TextTriple) (rest : List ℕ) → bytes ≡ change_lines sign (t ∷ ts) ++ rest → BeginsWithLine sign bytes
begins_here sign bytes t ts rest e = (
  line_text t,
  change_lines sign ts ++ rest,
  e ∙ append_assoc (change_line sign t) (change_lines sign ts) rest ∙ ap (λ l. sign ∷ 0x20 ∷ l) (line_before t (change_lines sign ts ++ rest)),
)

-- bytes begin with a line where lines of changes and then another line stand
pub begins_with_line : (sign : ℕ) (bytes : List ℕ) (done : List TextTriple) (rest : List ℕ) → bytes ≡ change_lines sign done ++ rest → BeginsWithLine sign rest → BeginsWithLine sign bytes
begins_with_line sign bytes [] rest e line = (line.0, line.1, e ∙ line.2)
begins_with_line sign bytes (t ∷ ts) rest e line = begins_here sign bytes t ts rest e

pub begins_with_either : (sign other : ℕ) (bytes : List ℕ) (done : List TextTriple) (rest : List ℕ) → bytes ≡ change_lines sign done ++ rest → BeginsWithLine other rest
    → BeginsWithLine sign bytes ⊎ BeginsWithLine other bytes
begins_with_either sign other bytes [] rest e line = inr (line.0, line.1, e ∙ line.2)
begins_with_either sign other bytes (t ∷ ts) rest e line = inl (begins_here sign bytes t ts rest e)

-- ---- bytes with no section of the sign

among : (done : List TextTriple) (next : TextTriple) (more : List TextTriple) → All IsTriple (done ++ next ∷ more) → IsTriple next
among [] next more h = All-head IsTriple next more h
among (d ∷ ds) next more h = among ds next more (All-tail IsTriple d (ds ++ next ∷ more) h)

-- no line of a triple stands behind the sign
pub no_line : (sign : ℕ) (bytes : List ℕ) (done : List TextTriple) (rest after : List ℕ) → All IsTriple done → bytes ≡ change_lines sign done ++ rest
    → rest ≡ sign ∷ 0x20 ∷ after → ((triple : TextTriple) (behind : List ℕ) → IsTriple triple → after ≢ triple_line triple ++ behind)
    → (these : List TextTriple) (behind : List ℕ) → IsSection sign bytes these behind → ⊥
no_line sign bytes done rest after triples e stands none these behind section =
    let next = next_is sign done these rest after behind triples section.triples section.ends stands (sym e ∙ section.lines) in
    none next.0 _ (among done next.0 next.1 (subst (All IsTriple) next.2 section.triples)) next.3

-- the triple that stands there doesn't rise
pub no_rise : (sign : ℕ) (bytes : List ℕ) (done : List TextTriple) (read : TextTriple) (rest after later : List ℕ) → All IsTriple done → bytes ≡ change_lines sign done ++ rest
    → rest ≡ sign ∷ 0x20 ∷ after → IsTriple read → after ≡ triple_line read ++ later → (IsStrictlySortedBy triple_cmp (done ++ read ∷ []) → ⊥)
    → (these : List TextTriple) (behind : List ℕ) → IsSection sign bytes these behind → ⊥
no_rise sign bytes done read rest after later triples e stands triple reads falls these behind section =
    let next = next_is sign done these rest after behind triples section.triples section.ends stands (sym e ∙ section.lines) in
    let other : IsTriple next.0 = among done next.0 next.1 (subst (All IsTriple) next.2 section.triples) in
    let same : next.0 ≡ read = (triple_once next.0 read _ later other triple (sym next.3 ∙ reads)).0 in
    let rise : IsStrictlySortedBy triple_cmp (done ++ next.0 ∷ []) = rises_front triple_cmp done next.1 next.0 (subst (IsStrictlySortedBy triple_cmp) next.2 section.rise) in
    falls (subst (λ f. IsStrictlySortedBy triple_cmp (done ++ f ∷ [])) same rise)

-- ---- one section

pub one_section : (sign : ℕ) (bytes : List ℕ) (done these : List TextTriple) (rest behind : List ℕ) → IsSection sign bytes done rest → IsSection sign bytes these behind
    → (done ≡ these) × (rest ≡ behind)
one_section sign bytes done these rest behind one other =
    section_once sign done these rest behind one.triples other.triples one.ends other.ends (sym one.lines ∙ other.lines)
