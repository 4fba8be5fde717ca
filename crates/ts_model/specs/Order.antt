-- Terms in the order of their bytes, then of their kinds; triples by subject, predicate and object.
use Rattle.std.specs.Prelude.{◌≡◌, ℕ, refl}
use Rattle.std.proofs.Common.{sym, ap, true≢false, arith}
use Rattle.std.specs.declared.cmp.Ordering.{Ordering}
use Rattle.std.specs.declared.cmp.Ordering.TheVariants.{Less, Equal, Greater}
use Rattle.std.specs.Ordering.{nat_cmp, on, then_cmp, ordering_then, is_eq}
use Rattle.std.specs.Cmp.{IsTotalOrder, nat_cmp_total, on_total, then_total}
use Rattle.std.specs.Cmp.Lexicographic.{slice_cmp, nat_list_cmp_total}
use Rattle.std.specs.FinSet.{IsAntisymmetric, nat_cmp-IsAntisymmetric, slice_cmp-IsAntisymmetric}
use Rattle.ts_model.specs.declared.term.TermKind.{TermKind}
use Rattle.ts_model.specs.declared.term.TermKind.TheVariants.{Node, Predicate, Value}
use Rattle.ts_model.specs.TextTerm.{TextTerm}
use Rattle.ts_model.specs.TextTriple.{TextTriple}

-- node before predicate before value
abbrev pub kind_place : TermKind → ℕ
kind_place Node = 0
kind_place Predicate = 1
kind_place Value = 2

abbrev pub term_cmp : TextTerm → TextTerm → Ordering
term_cmp = then_cmp (on (λ term. term.spelling) (slice_cmp nat_cmp)) (on (λ term. kind_place term.kind) nat_cmp)

abbrev pub triple_cmp : TextTriple → TextTriple → Ordering
triple_cmp = then_cmp (on (λ triple. triple.subject) term_cmp) (then_cmp (on (λ triple. triple.predicate) term_cmp) (on (λ triple. triple.object) term_cmp))

pub term_cmp_total : IsTotalOrder term_cmp
term_cmp_total = then_total (on_total (λ (term : TextTerm). term.spelling) nat_list_cmp_total) (on_total (λ (term : TextTerm). kind_place term.kind) nat_cmp_total)

pub triple_cmp_total : IsTotalOrder triple_cmp
triple_cmp_total =
    then_total (on_total (λ (triple : TextTriple). triple.subject) term_cmp_total)
    (then_total (on_total (λ (triple : TextTriple). triple.predicate) term_cmp_total) (on_total (λ (triple : TextTriple). triple.object) term_cmp_total))

first_equal : (a b : Ordering) → ordering_then a b ≡ Equal → a ≡ Equal
first_equal Less b e = absurd (true≢false (sym (ap is_eq e)))
first_equal Equal b e = refl
first_equal Greater b e = absurd (true≢false (sym (ap is_eq e)))

second_equal : (a b : Ordering) → ordering_then a b ≡ Equal → b ≡ Equal
second_equal Less b e = absurd (true≢false (sym (ap is_eq e)))
second_equal Equal b e = e
second_equal Greater b e = absurd (true≢false (sym (ap is_eq e)))

same_kind : (a b : TermKind) → kind_place a ≡ kind_place b → a ≡ b
same_kind Node Node e = refl
same_kind Node Predicate e = absurd (omega arith)
same_kind Node Value e = absurd (omega arith)
same_kind Predicate Node e = absurd (omega arith)
same_kind Predicate Predicate e = refl
same_kind Predicate Value e = absurd (omega arith)
same_kind Value Node e = absurd (omega arith)
same_kind Value Predicate e = absurd (omega arith)
same_kind Value Value e = refl

-- only a term ties with itself, and only a triple
pub term_cmp-IsAntisymmetric : IsAntisymmetric term_cmp
term_cmp-IsAntisymmetric x y e =
    let kinds : x.kind ≡ y.kind = same_kind _ _ (nat_cmp-IsAntisymmetric _ _ (second_equal _ _ e)) in
    let spellings : x.spelling ≡ y.spelling = slice_cmp-IsAntisymmetric nat_cmp-IsAntisymmetric _ _ (first_equal _ _ e) in
    λ i. record { kind = kinds i; spelling = spellings i }

pub triple_cmp-IsAntisymmetric : IsAntisymmetric triple_cmp
triple_cmp-IsAntisymmetric x y e =
    let others = second_equal (term_cmp x.subject y.subject) _ e in
    let subjects : x.subject ≡ y.subject = term_cmp-IsAntisymmetric _ _ (first_equal _ _ e) in
    let predicates : x.predicate ≡ y.predicate = term_cmp-IsAntisymmetric _ _ (first_equal _ _ others) in
    let objects : x.object ≡ y.object = term_cmp-IsAntisymmetric _ _ (second_equal (term_cmp x.predicate y.predicate) _ others) in
    λ i. record { subject = subjects i; predicate = predicates i; object = objects i }
