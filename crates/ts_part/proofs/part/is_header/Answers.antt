use Rattle.std.proofs.Common.{◌≡◌, ℕ, true, eqb, eqb-true, eq-eqb, refl, sym, ◌∙◌, ap, subst, true≢false, Option, None, Some, rules}
use Rattle.std.specs.Option.{option_eq}
use Rattle.std.proofs.lemmas.Bool.{and_from, and_parts}
use denote.Enum.Bare.{sameb, same_true}
use Rattle.ts_part.specs.contracts.header.PartKind.{the_type}
use Rattle.ts_part.specs.declared.header.Header.{Header}
use Rattle.ts_part.specs.declared.header.PartKind.{PartKind}
use Rattle.ts_part.specs.declared.header.PartKind.TheVariants.{Layer, Rollup}
use Rattle.ts_part.specs.Header.{HeaderSays}
use Rattle.ts_part.proofs.HeaderLemmas.{same_header}
use Rattle.ts_part.proofs.part.is_header.Goals as goal

kind_itself : (k : PartKind) → sameb the_type k k ≡ true
kind_itself Layer = refl
kind_itself Rollup = refl

kind_alike : (a b : PartKind) → a ≡ b → sameb the_type a b ≡ true
kind_alike a b e = subst (λ (k : PartKind). sameb the_type a k ≡ true) e (kind_itself a)

parent_same : (a b : Option ℕ) → option_eq eqb a b ≡ true → a ≡ b
parent_same None None e = refl
parent_same None (Some y) e = absurd (true≢false (sym e))
parent_same (Some x) None e = absurd (true≢false (sym e))
parent_same (Some x) (Some y) e = ap (λ (n : ℕ). Some n) (eqb-true x y e)

parent_itself : (a : Option ℕ) → option_eq eqb a a ≡ true
parent_itself None = refl
parent_itself (Some x) = eq-eqb x x refl

parent_alike : (a b : Option ℕ) → a ≡ b → option_eq eqb a b ≡ true
parent_alike a b e = subst (λ (p : Option ℕ). option_eq eqb a p ≡ true) e (parent_itself a)

pub returns-in-Some : goal.returns-in-Some
returns-in-Some c =
    let a = c.in-Some.found in
    let b = c.args.header.now in (
      λ e.
          let kind = and_parts _ _ (sym c.eq.ensures ∙ e) in
          let number = and_parts _ _ kind.1 in
          let parent = and_parts _ _ number.1 in
          let terms_before = and_parts _ _ parent.1 in
          let predicates_before = and_parts _ _ terms_before.1 in
          let nodes = and_parts _ _ predicates_before.1 in
          let values = and_parts _ _ nodes.1 in
          let predicates = and_parts _ _ values.1 in
          let additions = and_parts _ _ predicates.1 in
          let removals = and_parts _ _ additions.1 in
          subst (HeaderSays c.args.bytes.now)
          (same_header a b (same_true the_type (search rules) _ _ kind.0)
          (eqb-true a.number b.number number.0)
          (parent_same a.parent b.parent parent.0)
          (eqb-true a.terms_before b.terms_before terms_before.0)
          (eqb-true a.predicates_before b.predicates_before predicates_before.0)
          (eqb-true a.nodes b.nodes nodes.0)
          (eqb-true a.values b.values values.0)
          (eqb-true a.predicates b.predicates predicates.0)
          (eqb-true a.additions b.additions additions.0)
          (eqb-true a.removals b.removals removals.0)
          (eqb-true a.length b.length removals.1))
          c.in-Some.ensures.some,
      λ says.
          let same : a ≡ b = sym (c.in-Some.ensures.only b says) in
          c.eq.ensures
          ∙ and_from _ _ (kind_alike a.kind b.kind (ap (λ (h : Header). h.kind) same))
          (and_from _ _ (eq-eqb a.number b.number (ap (λ (h : Header). h.number) same))
          (and_from _ _ (parent_alike a.parent b.parent (ap (λ (h : Header). h.parent) same))
          (and_from _ _ (eq-eqb a.terms_before b.terms_before (ap (λ (h : Header). h.terms_before) same))
          (and_from _ _ (eq-eqb a.predicates_before b.predicates_before (ap (λ (h : Header). h.predicates_before) same))
          (and_from _ _ (eq-eqb a.nodes b.nodes (ap (λ (h : Header). h.nodes) same))
          (and_from _ _ (eq-eqb a.values b.values (ap (λ (h : Header). h.values) same))
          (and_from _ _ (eq-eqb a.predicates b.predicates (ap (λ (h : Header). h.predicates) same))
          (and_from _ _ (eq-eqb a.additions b.additions (ap (λ (h : Header). h.additions) same))
          (and_from _ _ (eq-eqb a.removals b.removals (ap (λ (h : Header). h.removals) same))
          (eq-eqb a.length b.length (ap (λ (h : Header). h.length) same))))))))))),
    )
