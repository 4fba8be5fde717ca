-- How the words of a text begin.
use Rattle.std.proofs.Common.{◌≡◌, ◌⊎◌, inl, inr, ℕ, zero, suc, ◌+◌, ◌-◌, ◌<◌, ◌≤◌, ◌==◌, not, Bool, true, false, cond, List, [], ◌∷◌, ◌++◌, length, get_or, take, drop, refl, sym, ◌∙◌, ap, arith, add-one, drop-cons, append_assoc, append-nil, drop-drop}
use Rattle.std.proofs.lemmas.Bool.{eqb-true, ne_eqb}
use Rattle.std.proofs.lemmas.List.{drop_all, length-drop, nil_from_length, take_all}
use Rattle.std.proofs.Math.Seq.{take-add, take-suc}
use Rattle.ts_script.specs.Lines.{onto_first}
use Rattle.ts_script.specs.LineWords.{Place, between, within, quoted, behind_first, behind_quoted, is_blank, words_from, words_in, onto}

-- ---- one byte more

onto-more : (front : List ℕ) (b : ℕ) (words : List (List ℕ)) → onto front (onto_first b words) ≡ onto (front ++ b ∷ []) words
onto-more front b [] = refl
onto-more front b (word ∷ words) = ap (λ (w : List ℕ). w ∷ words) (sym (append_assoc front (b ∷ []) word))

-- a byte that is of the word
pub one_more : (p q : Place) (words : List (List ℕ)) (text : List ℕ) (at b : ℕ) → at < length text → b ≡ get_or text at 0
    → ((rest : List ℕ) → words_from p (b ∷ rest) ≡ onto_first b (words_from q rest))
    → words ≡ onto (take at text) (words_from p (drop at text)) → words ≡ onto (take (at + 1) text) (words_from q (drop (at + 1) text))
one_more p q words text at b below read step so_far =
    let split : drop at text ≡ b ∷ drop (at + 1) text = rw (add-one, read) (drop-cons text at 0 below) in
    let front : take (at + 1) text ≡ take at text ++ b ∷ [] = rw (add-one, read) (take-suc text at 0 below) in
    so_far ∙ ap (λ (t : List ℕ). onto (take at text) (words_from p t)) split ∙ ap (onto (take at text)) (step (drop (at + 1) text))
    ∙ onto-more (take at text) b (words_from q (drop (at + 1) text)) ∙ ap (λ (t : List ℕ). onto t (words_from q (drop (at + 1) text))) (sym front)

pub within-step : (b : ℕ) → is_blank b ≡ false → (rest : List ℕ) → words_from within (b ∷ rest) ≡ onto_first b (words_from within rest)
unfolding words_from
within-step b not_blank rest = ap (λ (t : Bool). cond t ([] ∷ words_from between rest) (onto_first b (words_from within rest))) not_blank

pub quoted-step : (odd : Bool) (b : ℕ) (next : Place) → behind_quoted odd b ≡ next → (rest : List ℕ) → words_from (quoted odd) (b ∷ rest) ≡ onto_first b (words_from next rest)
unfolding words_from
quoted-step odd b next is rest = ap (λ (p : Place). onto_first b (words_from p rest)) is

-- ---- blanks

pub blank-step : (text : List ℕ) (at b : ℕ) → at < length text → b ≡ get_or text at 0 → is_blank b ≡ true → words_in (drop at text) ≡ words_in (drop (at + 1) text)
unfolding words_from
blank-step text at b below read blank =
    let split : drop at text ≡ b ∷ drop (at + 1) text = rw (add-one, read) (drop-cons text at 0 below) in
    ap words_in split ∙ ap (λ (t : Bool). cond t (words_from between (drop (at + 1) text)) (onto_first b (words_from (behind_first b) (drop (at + 1) text)))) blank

-- ---- the end of a word

-- the word ends with the text
pub word-ends : (text : List ℕ) (at : ℕ) → length text ≤ at → (words : List (List ℕ)) → words ≡ onto (take at text) (words_from within (drop at text))
    → words ≡ take at text ∷ words_in (drop at text)
unfolding words_from
word-ends text at past words so_far =
    rw (drop_all at text past) (rw (drop_all at text past) at so_far ∙ ap (λ (w : List ℕ). w ∷ []) (append-nil (take at text)))

-- the word ends at a blank
pub word-cut : (text : List ℕ) (at b : ℕ) → at < length text → b ≡ get_or text at 0 → is_blank b ≡ true → (words : List (List ℕ))
    → words ≡ onto (take at text) (words_from within (drop at text)) → words ≡ take at text ∷ words_in (drop at text)
unfolding words_from
word-cut text at b below read blank words so_far =
    let split : drop at text ≡ b ∷ drop (at + 1) text = rw (add-one, read) (drop-cons text at 0 below) in
    let step : words_from within (b ∷ drop (at + 1) text) ≡ [] ∷ words_in (drop (at + 1) text) =
    ap (λ (t : Bool). cond t ([] ∷ words_from between (drop (at + 1) text)) (onto_first b (words_from within (drop (at + 1) text)))) blank in
    so_far ∙ ap (λ (t : List ℕ). onto (take at text) (words_from within t)) split ∙ ap (onto (take at text)) step
    ∙ ap (λ (w : List ℕ). w ∷ words_in (drop (at + 1) text)) (append-nil (take at text))
    ∙ ap (λ (ws : List (List ℕ)). take at text ∷ ws) (sym (blank-step text at b below read blank))

-- ---- a whole word

-- what a slice from a place on reads
pub from_on : (text : List ℕ) (n : ℕ) → take (length text - n) (drop n text) ≡ drop n text
from_on text n = take_all (length text - n) (drop n text) (omega (arith, length-drop n text))

pub no_word : (text : List ℕ) (n : ℕ) → words_in text ≡ words_in (drop n text) → true ≡ (length (take (length text - n) (drop n text)) == 0) → words_in text ≡ []
unfolding words_from
no_word text n passed empty =
    let none : length (drop n text) ≡ 0 = ap length (sym (from_on text n)) ∙ eqb-true _ 0 (sym empty) in
    passed ∙ ap words_in (nil_from_length (drop n text) none)

plain_first : (b : ℕ) (t : List ℕ) → is_blank b ≡ false → (b ≡ 34 → ⊥) → words_in (b ∷ t) ≡ words_from within (b ∷ t)
unfolding words_from
plain_first b t not_blank other =
    let no_quote : (b == 34) ≡ false = ne_eqb b 34 other in
    ap (λ (r : Bool). cond r (words_from between t) (onto_first b (words_from (behind_first b) t))) not_blank
    ∙ ap (λ (r : Bool). onto_first b (words_from (cond r (quoted false) within) t)) no_quote
    ∙ sym (within-step b not_blank t)

pub plain-word : (text : List ℕ) (r : ℕ) → 0 < length text → is_blank (get_or text 0 0) ≡ false → (get_or text 0 0 ≡ 34 → ⊥)
    → words_from within text ≡ take r text ∷ words_in (drop r text) → words_in text ≡ take r text ∷ words_in (drop r text)
plain-word [] r some not_blank other rest = absurd (omega arith)
plain-word (b ∷ t) r some not_blank other rest = plain_first b t not_blank other ∙ rest

no_nil_first : (b : ℕ) (words others : List (List ℕ)) → onto_first b words ≡ [] ∷ others → ⊥
no_nil_first b [] others e = let f : b ∷ [] ≡ [] = ap (λ (ws : List (List ℕ)). get_or ws 0 []) e in cc
no_nil_first b (word ∷ words) others e = let f : b ∷ word ≡ [] = ap (λ (ws : List (List ℕ)). get_or ws 0 []) e in cc

pub plain-some : (text : List ℕ) (r : ℕ) → 0 < length text → is_blank (get_or text 0 0) ≡ false
    → words_from within text ≡ take r text ∷ words_in (drop r text) → 0 < r
plain-some [] r some not_blank rest = absurd (omega arith)
plain-some (b ∷ t) zero some not_blank rest = absurd (no_nil_first b (words_from within t) _ (sym (within-step b not_blank t) ∙ rest))
plain-some (b ∷ t) (suc r) some not_blank rest = omega arith

quoted_first : (t : List ℕ) (q r : ℕ) → words_from (quoted false) t ≡ onto (take q t) (words_from within (drop q t))
    → words_from within (drop q t) ≡ take r (drop q t) ∷ words_in (drop r (drop q t)) → words_in (34 ∷ t) ≡ (34 ∷ take (q + r) t) ∷ words_in (drop (q + r) t)
unfolding words_from
quoted_first t q r through rest =
    let front : take q t ++ take r (drop q t) ≡ take (q + r) t = sym (take-add q r t) in
    let behind : drop r (drop q t) ≡ drop (q + r) t = drop-drop r q t in
    ap (onto_first 34) (through ∙ ap (onto (take q t)) rest) ∙ (λ i. (34 ∷ front i) ∷ words_in (behind i))

pub quoted-word : (text : List ℕ) (q r : ℕ) → 0 < length text → get_or text 0 0 ≡ 34
    → words_from (quoted false) (drop 1 text) ≡ onto (take q (drop 1 text)) (words_from within (drop q (drop 1 text)))
    → words_from within (drop (1 + q) text) ≡ take r (drop (1 + q) text) ∷ words_in (drop r (drop (1 + q) text))
    → words_in text ≡ take (1 + q + r) text ∷ words_in (drop (1 + q + r) text)
quoted-word [] q r some is through rest = absurd (omega arith)
quoted-word (b ∷ t) q r some is through rest =
    let one : 1 + q ≡ suc q = omega arith in
    let all : 1 + q + r ≡ suc (q + r) = omega arith in
    rw (all, is) (quoted_first t q r through (rw one at rest))

-- ---- bytes within quotes

pub closes-quote : (odd : Bool) (b : ℕ) → b ≡ 34 → odd ≡ false → behind_quoted odd b ≡ within
closes-quote odd b is even = rw (is, even) refl

pub backslash : (odd : Bool) (b : ℕ) → b ≡ 92 → behind_quoted odd b ≡ quoted (not odd)
backslash odd b is = rw is refl

pub other-byte : (odd : Bool) (b : ℕ) → ((b ≡ 34) × (odd ≡ true)) ⊎ (b ≡ 34 → ⊥) → (b ≡ 92 → ⊥) → behind_quoted odd b ≡ quoted (b == 92)
other-byte odd b (inl escaped) other = rw (escaped.0, escaped.1) refl
other-byte odd b (inr no_quote) other =
    let quote : (b == 34) ≡ false = ne_eqb b 34 no_quote in
    let slash : (b == 92) ≡ false = ne_eqb b 92 other in
    rw (quote, slash) refl

-- a text that ends within quotes
pub quoted-ends : (text : List ℕ) (at : ℕ) (odd : Bool) → length text ≤ at → (words : List (List ℕ)) → words ≡ onto (take at text) (words_from (quoted odd) (drop at text))
    → words ≡ onto (take at text) (words_from within (drop at text))
unfolding words_from
quoted-ends text at odd past words so_far = rw (drop_all at text past) (rw (drop_all at text past) at so_far)

onto-first : (b : ℕ) (words : List (List ℕ)) → onto [] (onto_first b words) ≡ onto_first b words
onto-first b [] = refl
onto-first b (word ∷ words) = refl

pub onto-within : (text : List ℕ) → onto [] (words_from within text) ≡ words_from within text
unfolding words_from
onto-within [] = refl
onto-within (b ∷ t) =
    elim (is_blank b) as (λ r. onto [] (cond r ([] ∷ words_from between t) (onto_first b (words_from within t))) ≡ cond r ([] ∷ words_from between t) (onto_first b (words_from within t))) [
      | true ↦ refl
      | false ↦ onto-first b (words_from within t)
    ]

pub onto-quoted : (odd : Bool) (text : List ℕ) → onto [] (words_from (quoted odd) text) ≡ words_from (quoted odd) text
unfolding words_from
onto-quoted odd [] = refl
onto-quoted odd (b ∷ t) = onto-first b (words_from (behind_quoted odd b) t)
