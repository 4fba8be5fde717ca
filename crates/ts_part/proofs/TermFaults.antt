-- The first fault of a dictionary of terms.
use Rattle.std.proofs.Common.{◌≡◌, ℕ, ◌<◌, List, length, All, sym, ◌∙◌, ap, subst, arith}
use Rattle.ts_front.specs.Dictionary.{DictionarySays, DictionarySaysOnly, block_starts}
use Rattle.ts_front.proofs.SaysLemmas.{starts_said}
use Rattle.ts_model.specs.declared.term.TermKind.{TermKind}
use Rattle.ts_part.specs.Faults.{IsTermsFault}
use Rattle.ts_part.specs.Sections.{StartsRule}
use Rattle.ts_part.proofs.TermLemmas.{IsTermOf}

-- where the sections are no dictionary
pub no_dictionary : (kind : TermKind) (count : ℕ) (starts bytes : List ℕ) (fault : ℕ) → fault < 2 → (fault ≡ 0 → ¬ StartsRule starts)
    → (fault ≡ 1 → StartsRule starts) → ((texts : List (List ℕ)) → ¬ DictionarySays starts bytes texts) → IsTermsFault kind count starts bytes fault
no_dictionary kind count starts bytes fault low first second none = record {
  one_of_two = low;
  first = first;
  second = λ e. (second e, λ texts rule. none texts rule.says);
}

-- and where they are another
pub other_dictionary : (kind : TermKind) (count : ℕ) (starts bytes : List ℕ) (texts : List (List ℕ)) → DictionarySays starts bytes texts
    → DictionarySaysOnly starts bytes texts → (length texts ≡ count → ¬ All (IsTermOf kind) texts) → IsTermsFault kind count starts bytes 1
other_dictionary kind count starts bytes texts says only none = record {
  one_of_two = omega arith;
  first = λ e. absurd (omega arith);
  second = λ e. (
    (block_starts texts, starts_said starts bytes texts says),
    λ others rule. none (ap length (sym (only others rule.says)) ∙ rule.counted) (subst (All (IsTermOf kind)) (only others rule.says) rule.terms),
  );
}
