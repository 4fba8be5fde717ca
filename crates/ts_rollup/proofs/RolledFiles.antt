-- What the file of a rollup says, by what its facts are.
use Rattle.std.proofs.Common.{◌≡◌, ℕ, List, Option, IfSome, refl, sym, ap, subst, length, length-append, arith}
use Rattle.ts_model.specs.History.{History}
use Rattle.ts_part.specs.declared.header.PartKind.TheVariants.{Rollup}
use Rattle.ts_part.specs.Facts.{Facts}
use Rattle.ts_part.specs.Header.{HasHeader, header_of}
use Rattle.ts_part.specs.Numbers.{TotalsFit}
use Rattle.ts_part.specs.Part.{PartSays}
use Rattle.ts_part.specs.Rules.{KeepsRules}
use Rattle.ts_part.specs.Step.{RollupSays, rollup_facts}
use Rattle.ts_part.proofs.StepRules.{rollup_rules}
use Rattle.ts_chain.specs.Begins.{BeginsOver}
use Rattle.ts_chain.specs.Chain.{layer_of, predicates_in, terms_in}
use Rattle.ts_chain.proofs.StepsLink.{steps_total}
use Rattle.ts_rollup.specs.Rolled.{IsRolled}
use Rattle.ts_rollup.specs.Upto.{HasTotals, StandForBoth}
use Rattle.ts_rollup.proofs.RolledFacts.{rolled_facts}

module _ (lower upper : List Facts) (facts : Facts) (rolled : IsRolled lower upper facts) (file : List ℕ) where
  pub begins : HasHeader file (header_of facts (length file)) → IfSome (layer_of upper) (λ number. BeginsOver Rollup number lower file)
  begins has =
      subst (λ o. IfSome o (λ number. BeginsOver Rollup number lower file)) (sym rolled.number)
      (record {
        header = header_of facts (length file);
        begins = has;
        kind_is = rolled.kind;
        number_is = refl;
        parent = rolled.parent;
        terms = rolled.terms_before;
        predicates = rolled.predicates_before;
      })

  pub totals : HasHeader file (header_of facts (length file)) → HasTotals upper file
  totals has = (
    header_of facts (length file),
    has,
    (let long = length-append facts.nodes facts.values in let before = rolled.terms_before in let many = rolled.terms.as_many in omega arith),
    (let before = rolled.predicates_before in let many = rolled.predicates.as_many in omega arith),
  )

  module _ (history : History) (from : Option ℕ) (k : ℕ) (both : StandForBoth history from k lower upper) where
    are : facts ≡ rollup_facts history from k
    are = rolled_facts history from k lower upper facts both rolled

    fits : TotalsFit history k
    fits =
        let total = steps_total history k upper both.layer in
        let first : terms_in upper ≡ _ = ap (λ totals. totals.0) total in
        let second : predicates_in upper ≡ _ = ap (λ totals. totals.1) total in
        let long = length-append facts.nodes facts.values in
        let before = rolled.terms_before in
        let before_too = rolled.predicates_before in
        let many = rolled.terms.as_many in
        let many_too = rolled.predicates.as_many in
        let terms = rolled.header.terms in
        let predicates = rolled.header.predicates in
        (omega arith, omega arith)

    pub rules : KeepsRules facts
    rules = subst KeepsRules (sym are) (rollup_rules history both.layer.kept k both.layer.there fits.0 fits.1 from both.ancestor)

    pub says : (KeepsRules facts → PartSays file facts) → RollupSays file history from k
    says written = subst (PartSays file) are (written rules)
