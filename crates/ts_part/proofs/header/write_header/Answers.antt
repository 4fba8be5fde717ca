use Rattle.std.proofs.Common.{◌≡◌, ℕ, ◌++◌, ◌∙◌, ap, ◌∷◌, [], List, arith}
use Rattle.std.specs.Int.{w32, w64, to_be_bytes}
use Rattle.std.specs.List.{flat_map}
use Rattle.ts_part.specs.declared.header.Header.{Header}
use Rattle.ts_part.specs.Header.{header_bytes}
use Rattle.ts_part.specs.Written.{kind_bytes}
use Rattle.ts_part.proofs.WriteLemmas.{joined}
use Rattle.ts_part.proofs.header.write_header.Goals as goal

spelled : Header → ℕ → List ℕ
spelled h parent =
    ((((kind_bytes h.kind ++ to_be_bytes w32 h.number) ++ to_be_bytes w32 parent) ++ to_be_bytes w32 0)
    ++ flat_map (to_be_bytes w64) (h.terms_before ∷ h.predicates_before ∷ []))
    ++ flat_map (to_be_bytes w64) (h.nodes ∷ h.values ∷ h.predicates ∷ [])
    ++ flat_map (to_be_bytes w64) (h.additions ∷ h.removals ∷ h.length ∷ [])

pub returns-clause-written : goal.returns-clause-written
unfolding header_bytes spelled
returns-clause-written c =
    let h = c.args.h.now in
    let old = c.args.into.now.items in
    let a : c.write_kind.new.into.items ≡ old ++ kind_bytes h.kind = c.in_ok-write_kind.ensures in
    let b : c.write_u32.new.into.items ≡ c.write_kind.new.into.items ++ to_be_bytes w32 h.number = c.in_ok-write_u32.ensures.written in
    let d : c.write_u32-2.new.into.items ≡ c.write_u32.new.into.items ++ to_be_bytes w32 c.number_of_parent.result = c.in_ok-write_u32-2.ensures.written in
    let e : c.write_u32-3.new.into.items ≡ c.write_u32-2.new.into.items ++ to_be_bytes w32 0 = c.in_ok-write_u32-3.ensures.written in
    let f : c.write_numbers.new.into.items ≡ c.write_u32-3.new.into.items ++ flat_map (to_be_bytes w64) (h.terms_before ∷ h.predicates_before ∷ []) = c.in_ok-write_numbers.ensures.written in
    let g : c.write_numbers-2.new.into.items ≡ c.write_numbers.new.into.items ++ flat_map (to_be_bytes w64) (h.nodes ∷ h.values ∷ h.predicates ∷ []) = c.in_ok-write_numbers-2.ensures.written in
    let i : c.write_numbers-3.new.into.items ≡ c.write_numbers-2.new.into.items ++ flat_map (to_be_bytes w64) (h.additions ∷ h.removals ∷ h.length ∷ []) = c.in_ok-write_numbers-3.ensures.written in
    let two = joined old (kind_bytes h.kind) (to_be_bytes w32 h.number) _ _ a b in
    let three = joined old _ (to_be_bytes w32 c.number_of_parent.result) _ _ two d in
    let four = joined old _ (to_be_bytes w32 0) _ _ three e in
    let five = joined old _ (flat_map (to_be_bytes w64) (h.terms_before ∷ h.predicates_before ∷ [])) _ _ four f in
    let six = joined old _ (flat_map (to_be_bytes w64) (h.nodes ∷ h.values ∷ h.predicates ∷ [])) _ _ five g in
    let seven = joined old _ (flat_map (to_be_bytes w64) (h.additions ∷ h.removals ∷ h.length ∷ [])) _ _ six i in
    seven ∙ ap (λ parent. old ++ spelled h parent) c.number_of_parent.ensures

pub returns-clause-fits : goal.returns-clause-fits
returns-clause-fits c = record {
  number = c.in_ok-write_u32.ensures.fits;
  parent = omega (arith, c.in_ok-write_u32-2.ensures.fits, c.number_of_parent.ensures);
  terms_before = c.in_ok-write_numbers.ensures.fits 0 0 (omega arith);
  predicates_before = c.in_ok-write_numbers.ensures.fits 1 0 (omega arith);
  nodes = c.in_ok-write_numbers-2.ensures.fits 0 0 (omega arith);
  values = c.in_ok-write_numbers-2.ensures.fits 1 0 (omega arith);
  predicates = c.in_ok-write_numbers-2.ensures.fits 2 0 (omega arith);
  additions = c.in_ok-write_numbers-3.ensures.fits 0 0 (omega arith);
  removals = c.in_ok-write_numbers-3.ensures.fits 1 0 (omega arith);
  length = c.in_ok-write_numbers-3.ensures.fits 2 0 (omega arith);
}
