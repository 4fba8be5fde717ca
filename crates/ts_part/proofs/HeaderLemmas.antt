-- Header bytes are read as they were written.
use Rattle.std.proofs.Common.{◌≡◌, ◌≢◌, ℕ, ◌<◌, ◌≤◌, ◌^◌, List, [], ◌∷◌, length, take, drop, slice_index, refl, sym, ◌∙◌, ap, ap₂, subst, arith, eqb, Option, None, Some, IfSome, inl, inr}
use Rattle.std.specs.Int.{w16, w32, to_be_bytes}
use Rattle.std.proofs.lemmas.Bool.{cond-false, cond-true, cases_eq, eq-eqb, ne_eqb}
use Rattle.std.proofs.lemmas.List.{get_or-drop, get_or-take, length-drop, length-take-le, take_all}
use Rattle.std.proofs.lemmas.Nat.{from_be_bytes-to_be_bytes_2, from_be_bytes-to_be_bytes_4, from_be_bytes-to_be_bytes_8}
use Rattle.ts_part.specs.declared.header.Header.{Header}
use Rattle.ts_part.specs.declared.header.PartKind.{PartKind}
use Rattle.ts_part.specs.declared.header.PartKind.TheVariants.{Layer, Rollup}
use Rattle.ts_part.specs.Header.{FitsHeader, KeepsHeaderRules, header_bytes, kind_number, parent_number, section_count}
use Rattle.ts_part.specs.Read.{IsFixed, fields_in, number_at, parent_in}
use Rattle.ts_part.proofs.NumberLemmas.{AreBytes, bytes_there_2, bytes_there_4, bytes_there_8, number_below_4, number_below_8, side_by_side, two_bytes}

-- 0 stands for no parent
pub number_of_parent : (n : ℕ) → parent_number (parent_in n) ≡ n
number_of_parent n = elim (cases_eq n 0) [
  | inl none ↦ ap parent_number (cond-true (eqb n 0) None (Some n) (eq-eqb n 0 none)) ∙ sym none
  | inr some ↦ ap parent_number (cond-false (eqb n 0) None (Some n) (ne_eqb n 0 some))
]

pub parent_of_number : (parent : Option ℕ) → parent ≢ Some 0 → parent_in (parent_number parent) ≡ parent
parent_of_number None some = refl
parent_of_number (Some n) some = cond-false (eqb n 0) None (Some n) (ne_eqb n 0 (λ e. some (ap Some e)))

pub section_count_small : (kind : PartKind) → section_count kind < 2 ^ 16
section_count_small Layer = omega arith
section_count_small Rollup = omega arith

pub one_kind : (a b : PartKind) → kind_number a ≡ kind_number b → a ≡ b
one_kind Layer Layer e = refl
one_kind Layer Rollup e = absurd (omega arith)
one_kind Rollup Layer e = absurd (omega arith)
one_kind Rollup Rollup e = refl

-- the bytes are those of the header that their fields make
pub header_spelled : (bytes : List ℕ) (kind : PartKind) → AreBytes bytes → length bytes ≡ 88 → slice_index bytes 8 ≡ kind_number kind → IsFixed bytes kind
    → bytes ≡ header_bytes (fields_in kind bytes)
unfolding header_bytes fields_in
header_spelled bytes kind are long kind_is fixed =
    let two : take 2 (drop 8 bytes) ≡ kind_number kind ∷ 1 ∷ [] =
    two_bytes (take 2 (drop 8 bytes)) (length-take-le 2 (drop 8 bytes) (omega (arith, length-drop 8 bytes)))
    ∙ ap₂ (λ a b. a ∷ b ∷ [])
    (get_or-take 2 (drop 8 bytes) 0 0 (omega arith) ∙ get_or-drop 8 bytes 0 0 ∙ kind_is)
    (get_or-take 2 (drop 8 bytes) 1 0 (omega arith) ∙ get_or-drop 8 bytes 1 0 ∙ fixed.order) in
    let count : take 2 (drop 10 bytes) ≡ to_be_bytes w16 (section_count kind) = bytes_there_2 10 bytes are (omega arith) ∙ ap (to_be_bytes w16) fixed.counted in
    let number = bytes_there_4 12 bytes are (omega arith) in
    let parent : take 4 (drop 16 bytes) ≡ to_be_bytes w32 (parent_number (parent_in (number_at w32 bytes 16))) =
    bytes_there_4 16 bytes are (omega arith) ∙ ap (to_be_bytes w32) (sym (number_of_parent (number_at w32 bytes 16))) in
    let zero : take 4 (drop 20 bytes) ≡ to_be_bytes w32 0 = bytes_there_4 20 bytes are (omega arith) ∙ ap (to_be_bytes w32) fixed.zero in
    sym (take_all 88 bytes (omega arith))
    ∙ side_by_side 80 8 bytes _ _
    (side_by_side 72 8 bytes _ _
    (side_by_side 64 8 bytes _ _
    (side_by_side 56 8 bytes _ _
    (side_by_side 48 8 bytes _ _
    (side_by_side 40 8 bytes _ _
    (side_by_side 32 8 bytes _ _
    (side_by_side 24 8 bytes _ _
    (side_by_side 20 4 bytes _ _
    (side_by_side 16 4 bytes _ _
    (side_by_side 12 4 bytes _ _
    (side_by_side 10 2 bytes _ _
    (side_by_side 8 2 bytes _ _ fixed.begins two) count) number) parent) zero)
    (bytes_there_8 24 bytes are (omega arith))) (bytes_there_8 32 bytes are (omega arith))) (bytes_there_8 40 bytes are (omega arith)))
    (bytes_there_8 48 bytes are (omega arith))) (bytes_there_8 56 bytes are (omega arith))) (bytes_there_8 64 bytes are (omega arith)))
    (bytes_there_8 72 bytes are (omega arith))) (bytes_there_8 80 bytes are (omega arith))

abbrev header_with : PartKind → ℕ → Option ℕ → ℕ → ℕ → ℕ → ℕ → ℕ → ℕ → ℕ → ℕ → Header
header_with kind number parent terms_before predicates_before nodes values predicates additions removals length = record {
  kind = kind;
  number = number;
  parent = parent;
  terms_before = terms_before;
  predicates_before = predicates_before;
  nodes = nodes;
  values = values;
  predicates = predicates;
  additions = additions;
  removals = removals;
  length = length;
}

pub same_header : (a b : Header) → a.kind ≡ b.kind → a.number ≡ b.number → a.parent ≡ b.parent → a.terms_before ≡ b.terms_before
    → a.predicates_before ≡ b.predicates_before → a.nodes ≡ b.nodes → a.values ≡ b.values → a.predicates ≡ b.predicates
    → a.additions ≡ b.additions → a.removals ≡ b.removals → a.length ≡ b.length → a ≡ b
same_header a b e0 e1 e2 e3 e4 e5 e6 e7 e8 e9 e10 =
    ap (λ x. header_with x a.number a.parent a.terms_before a.predicates_before a.nodes a.values a.predicates a.additions a.removals a.length) e0
    ∙ ap (λ x. header_with b.kind x a.parent a.terms_before a.predicates_before a.nodes a.values a.predicates a.additions a.removals a.length) e1
    ∙ ap (λ x. header_with b.kind b.number x a.terms_before a.predicates_before a.nodes a.values a.predicates a.additions a.removals a.length) e2
    ∙ ap (λ x. header_with b.kind b.number b.parent x a.predicates_before a.nodes a.values a.predicates a.additions a.removals a.length) e3
    ∙ ap (λ x. header_with b.kind b.number b.parent b.terms_before x a.nodes a.values a.predicates a.additions a.removals a.length) e4
    ∙ ap (λ x. header_with b.kind b.number b.parent b.terms_before b.predicates_before x a.values a.predicates a.additions a.removals a.length) e5
    ∙ ap (λ x. header_with b.kind b.number b.parent b.terms_before b.predicates_before b.nodes x a.predicates a.additions a.removals a.length) e6
    ∙ ap (λ x. header_with b.kind b.number b.parent b.terms_before b.predicates_before b.nodes b.values x a.additions a.removals a.length) e7
    ∙ ap (λ x. header_with b.kind b.number b.parent b.terms_before b.predicates_before b.nodes b.values b.predicates x a.removals a.length) e8
    ∙ ap (λ x. header_with b.kind b.number b.parent b.terms_before b.predicates_before b.nodes b.values b.predicates b.additions x a.length) e9
    ∙ ap (λ x. header_with b.kind b.number b.parent b.terms_before b.predicates_before b.nodes b.values b.predicates b.additions b.removals x) e10

-- what header bytes tell
pub record HeaderTold (bytes : List ℕ) (h : Header) : Type 0 where
  pub kind_is : slice_index bytes 8 ≡ kind_number h.kind
  pub fixed : IsFixed bytes h.kind
  pub fields : h ≡ fields_in h.kind bytes

told_fixed : (h : Header) → IsFixed (header_bytes h) h.kind
unfolding header_bytes number_at
told_fixed h = record {
  begins = refl;
  order = refl;
  counted = from_be_bytes-to_be_bytes_2 (section_count h.kind) (section_count_small h.kind);
  zero = refl;
}

told_kind : (h : Header) → slice_index (header_bytes h) 8 ≡ kind_number h.kind
unfolding header_bytes
told_kind h = refl

told_fields : (h : Header) → FitsHeader h → h.parent ≢ Some 0 → h ≡ fields_in h.kind (header_bytes h)
unfolding header_bytes fields_in number_at
told_fields h fits parent =
    same_header h (fields_in h.kind (header_bytes h)) refl
    (sym (from_be_bytes-to_be_bytes_4 h.number fits.number))
    (sym (ap parent_in (from_be_bytes-to_be_bytes_4 (parent_number h.parent) fits.parent) ∙ parent_of_number h.parent parent))
    (sym (from_be_bytes-to_be_bytes_8 h.terms_before fits.terms_before))
    (sym (from_be_bytes-to_be_bytes_8 h.predicates_before fits.predicates_before))
    (sym (from_be_bytes-to_be_bytes_8 h.nodes fits.nodes))
    (sym (from_be_bytes-to_be_bytes_8 h.values fits.values))
    (sym (from_be_bytes-to_be_bytes_8 h.predicates fits.predicates))
    (sym (from_be_bytes-to_be_bytes_8 h.additions fits.additions))
    (sym (from_be_bytes-to_be_bytes_8 h.removals fits.removals))
    (sym (from_be_bytes-to_be_bytes_8 h.length fits.length))

-- no parent is spelled as one
pub some_parent : (h : Header) → KeepsHeaderRules h → h.parent ≢ Some 0
some_parent h rules none =
    let above = subst (λ (parent : Option ℕ). IfSome parent (λ parent. (1 ≤ parent) × (parent < h.number))) none rules.placed.parent in
    omega (arith, above.0)

pub header_told : (bytes : List ℕ) (h : Header) → bytes ≡ header_bytes h → FitsHeader h → h.parent ≢ Some 0 → HeaderTold bytes h
header_told bytes h e fits parent = record {
  kind_is = ap (λ b. slice_index b 8) e ∙ told_kind h;
  fixed = subst (λ b. IsFixed b h.kind) (sym e) (told_fixed h);
  fields = told_fields h fits parent ∙ ap (fields_in h.kind) (sym e);
}

-- the fields fit
pub fields_fit : (bytes : List ℕ) (kind : PartKind) → AreBytes bytes → length bytes ≡ 88 → FitsHeader (fields_in kind bytes)
unfolding fields_in
fields_fit bytes kind are long =
    let parent = number_below_4 16 bytes are (omega arith) in
    record {
      number = number_below_4 12 bytes are (omega arith);
      parent = omega (arith, number_of_parent (number_at w32 bytes 16));
      terms_before = number_below_8 24 bytes are (omega arith);
      predicates_before = number_below_8 32 bytes are (omega arith);
      nodes = number_below_8 40 bytes are (omega arith);
      values = number_below_8 48 bytes are (omega arith);
      predicates = number_below_8 56 bytes are (omega arith);
      additions = number_below_8 64 bytes are (omega arith);
      removals = number_below_8 72 bytes are (omega arith);
      length = number_below_8 80 bytes are (omega arith);
    }
