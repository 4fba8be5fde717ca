-- The texts of a dictionary, made one after another from its pieces.
use Rattle.std.proofs.Common.{Result, Ok, Err, IfErr, ◌≡◌, ℕ, ◌+◌, ◌-◌, ◌%◌, ◌<◌, ◌≤◌, List, [], ◌++◌, length, take, drop, get_or, eqb, All, sym, ◌∙◌, ap, subst, arith, inl, inr}
use Rattle.std.proofs.lemmas.Bool.{cases_eq, cases_lt, cond-true, cond-false, eq-eqb, ne_eqb}
use Rattle.std.proofs.lemmas.List.{get_or_default, length-append}
use Rattle.ts_front.specs.Shared.{shared_length, text_at}
use Rattle.ts_front.specs.Pieces.{before_at, pieces_of, shared_at, suffix_at}
use Rattle.ts_front.proofs.IterLemmas.{length-pieces_of, piece_of}
use Rattle.ts_front.proofs.SharedLemmas.{shared_none, shared_made}
use Rattle.ts_model.specs.declared.term.TermKind.{TermKind}
use Rattle.ts_model.specs.Limits.{term_limit}
use Rattle.ts_model.specs.TextTerm.{IsTerm}

abbrev pub IsTermOf : TermKind → List ℕ → Type 0
IsTermOf kind text = IsTerm (record { kind = kind; spelling = text })

-- the first i texts are terms, and `text` is the last of them
pub record AreTerms (kind : TermKind) (texts : List (List ℕ)) (i : ℕ) (text : List ℕ) : Type 0 where
  pub terms : (k : ℕ) → k < i → IsTermOf kind (text_at texts k)
  pub last : 0 < i → text ≡ text_at texts (i - 1)
  pub short : length text ≤ term_limit

pub no_terms : (kind : TermKind) (texts : List (List ℕ)) → AreTerms kind texts 0 []
no_terms kind texts = record {
  terms = λ k low. absurd (omega arith);
  last = λ some. absurd (omega arith);
  short = omega arith;
}

-- the next text
pub next_text : (texts : List (List ℕ)) (i : ℕ) (text : List ℕ) → (0 < i → text ≡ text_at texts (i - 1))
    → take (shared_at texts i) text ++ suffix_at texts i ≡ text_at texts i
unfolding before_at
next_text texts i text last = elim (cases_eq (i % 8) 0) [
  | inl head ↦
      let before : before_at texts i ≡ [] = cond-true (eqb (i % 8) 0) [] (text_at texts (i - 1)) (eq-eqb (i % 8) 0 head) in
      let none : shared_at texts i ≡ 0 = ap (λ b. shared_length b (text_at texts i)) before ∙ shared_none (text_at texts i) in
      ap (λ n. take n text ++ drop n (text_at texts i)) none
  | inr inner ↦
      let before : before_at texts i ≡ text =
      cond-false (eqb (i % 8) 0) [] (text_at texts (i - 1)) (ne_eqb (i % 8) 0 inner) ∙ sym (last (omega arith)) in
      subst (λ b. take (shared_length b (text_at texts i)) text ++ drop (shared_length b (text_at texts i)) (text_at texts i) ≡ text_at texts i) (sym before)
      (shared_made text (text_at texts i))
]

-- a piece of the entries
pub record IsPiece (texts : List (List ℕ)) (i shared : ℕ) (suffix : List ℕ) : Type 0 where
  pub low : i < length texts
  pub shares : shared ≡ shared_at texts i
  pub adds : suffix ≡ suffix_at texts i

pub piece_turn : (texts : List (List ℕ)) (i shared : ℕ) (suffix : List ℕ) (d : ℕ × List ℕ)
    → (i < length (pieces_of texts)) × ((shared, suffix) ≡ get_or (pieces_of texts) i d) → IsPiece texts i shared suffix
piece_turn texts i shared suffix d turn =
    let low : i < length texts = omega (arith, turn.0, length-pieces_of texts) in
    let is : (shared, suffix) ≡ (shared_at texts i, suffix_at texts i) =
    turn.1 ∙ get_or_default (pieces_of texts) i d (0, []) turn.0 ∙ piece_of texts i low in
    record { low = low; shares = ap (λ (piece : ℕ × List ℕ). piece.0) is; adds = ap (λ (piece : ℕ × List ℕ). piece.1) is }

-- what the piece makes of the text before
pub made_text : (kind : TermKind) (texts : List (List ℕ)) (i shared : ℕ) (suffix old : List ℕ) → AreTerms kind texts i old → IsPiece texts i shared suffix
    → take shared old ++ suffix ≡ text_at texts i
made_text kind texts i shared suffix old are is =
    ap (λ n. take n old ++ suffix) is.shares ∙ ap (λ more. take (shared_at texts i) old ++ more) is.adds ∙ next_text texts i old are.last

-- a text that is too long is no term
pub too_long : (kind : TermKind) (start suffix text : List ℕ) → start ++ suffix ≡ text → length start ≤ term_limit → term_limit - length start < length suffix
    → ¬ IsTermOf kind text
too_long kind start suffix text e low high term = omega (arith, ap length e, length-append start suffix, term.1)

-- the next text is a term too
pub one_term : (kind : TermKind) (texts : List (List ℕ)) (i j : ℕ) (old text : List ℕ) → AreTerms kind texts i old → text ≡ text_at texts i → IsTermOf kind text
    → j ≡ i + 1 → AreTerms kind texts j text
one_term kind texts i j old text are e term step =
    let there : IsTermOf kind (text_at texts i) = subst (IsTermOf kind) e term in
    record {
      terms = λ k low. elim (cases_lt k i) [
        | inl before ↦ are.terms k before
        | inr behind ↦ (let same : i ≡ k = omega arith in subst (λ n. IsTermOf kind (text_at texts n)) same there)
      ];
      last = λ some. (let same : i ≡ j - 1 = omega arith in e ∙ ap (text_at texts) same);
      short = term.1;
    }

pub all_terms : (kind : TermKind) (texts : List (List ℕ)) (i : ℕ) (text : List ℕ) → AreTerms kind texts i text → length texts ≤ i → All (IsTermOf kind) texts
all_terms kind texts i text are end = λ k d low. subst (IsTermOf kind) (get_or_default texts k [] d low) (are.terms k (omega arith))

-- a text that is no term
pub not_all : (kind : TermKind) (texts : List (List ℕ)) (i : ℕ) (text : List ℕ) → i < length texts → text ≡ text_at texts i → ¬ IsTermOf kind text
    → ¬ All (IsTermOf kind) texts
not_all kind texts i text low e none all = none (subst (IsTermOf kind) (sym e) (all i [] low))

pub err_since : {X E P : Type 0} (r : Result X E) → P → IfErr r (λ _. P)
err_since (Ok x) p = tt
err_since (Err e) p = p
