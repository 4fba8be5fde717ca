-- That a new base keeps the rules of a plain file.
use Rattle.std.proofs.Common.{◌≡◌, ◌≤◌, ℕ, List, [], None, refl, sym, subst, arith}
use Rattle.std.specs.List.Sorted.{IsStrictlySortedBy}
use Rattle.ts_model.specs.TextTriple.{TextTriple}
use Rattle.ts_model.specs.Order.{triple_cmp}
use Rattle.ts_model.specs.Sets.{SetOf, members}
use Rattle.ts_model.proofs.SetLaws.{IsStrictlySortedBy-members}
use Rattle.ts_plain.specs.PlainRules.{KeepsPlainRules}

-- the members of a set are additions of a base
pub KeepsPlainRules-base : (number : ℕ) (set : SetOf triple_cmp) → 1 ≤ number → KeepsPlainRules number None (members set) []
unfolding IsStrictlySortedBy
KeepsPlainRules-base number set numbered = record {
  numbered = numbered;
  parented = tt;
  additions_rise = IsStrictlySortedBy-members triple_cmp set;
  removals_rise = tt;
  apart = λ triple h none. omega (arith, none.1);
  parent_fits = refl;
}

pub KeepsPlainRules-of_base : (number : ℕ) (set : SetOf triple_cmp) (additions removals : List TextTriple) → 1 ≤ number → additions ≡ members set → removals ≡ []
    → KeepsPlainRules number None additions removals
KeepsPlainRules-of_base number set additions removals numbered is none =
    subst (λ r. KeepsPlainRules number None additions r) (sym none) (subst (λ a. KeepsPlainRules number None a []) (sym is) (KeepsPlainRules-base number set numbered))
