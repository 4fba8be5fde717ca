-- Terms whose spellings rise, one after another.
use Rattle.std.proofs.Common.{◌≡◌, ℕ, ◌+◌, ◌-◌, ◌<◌, ◌≤◌, List, [], ◌∷◌, ◌++◌, length, get_or, take, sym, ◌∙◌, ap, ap₂, subst, arith, Option, Some, IfSome}
use Rattle.std.specs.Prelude.{IsSomeAnd}
use Rattle.std.specs.Cmp.Lexicographic.{slice_cmp, nat_list_cmp_total}
use Rattle.std.specs.Ordering.{nat_cmp}
use Rattle.std.specs.declared.cmp.Ordering.TheVariants.{Less}
use Rattle.std.proofs.lemmas.List.{get_or-map, get_or-take, length-map, length-take-le, map-append, take_more}
use Rattle.std.proofs.lemmas.Map.Keys.{Less-from_sorted, sorted_from_all_adjacent}
use Rattle.ts_front.specs.Dictionary.{IsAfterLast, Rising}
use Rattle.ts_front.specs.Shared.{text_at}
use Rattle.ts_model.specs.TextTerm.{TextTerm}
use Rattle.ts_part.specs.Facts.{spellings}
use Rattle.ts_part.specs.Sayable.{IsBelow}

-- the spelling of the term at a place is above that at the place before it
abbrev pub IsAboveAt : List TextTerm → ℕ → Type 0
IsAboveAt terms k = slice_cmp nat_cmp (text_at (spellings terms) (k - 1)) (text_at (spellings terms) k) ≡ Less

pub length-spellings : (terms : List TextTerm) → length (spellings terms) ≡ length terms
length-spellings terms = length-map terms (λ (term : TextTerm). term.spelling)

pub spelling_there : (terms : List TextTerm) (i : ℕ) (term : TextTerm) → i < length terms → term ≡ get_or terms i term → term.spelling ≡ text_at (spellings terms) i
spelling_there terms i term low e = ap (λ (t : TextTerm). t.spelling) e ∙ sym (get_or-map (λ (t : TextTerm). t.spelling) terms i term [] low)

pub above_there : (terms : List TextTerm) (i : ℕ) (a b : TextTerm) → i < length terms → a ≡ get_or terms (i - 1) a → b ≡ get_or terms i b
    → IsBelow a b → IsAboveAt terms i
above_there terms i a b low e f below =
    ap₂ (λ s t. slice_cmp nat_cmp s t) (sym (spelling_there terms (i - 1) a (omega arith) e)) (sym (spelling_there terms i b low f)) ∙ below

pub above_read : (terms : List TextTerm) (i : ℕ) (a b : TextTerm) → i < length terms → a ≡ get_or terms (i - 1) a → b ≡ get_or terms i b
    → IsAboveAt terms i → IsBelow a b
above_read terms i a b low e f above =
    ap₂ (λ s t. slice_cmp nat_cmp s t) (spelling_there terms (i - 1) a (omega arith) e) (spelling_there terms i b low f) ∙ above

pub rise_above : (terms : List TextTerm) (i : ℕ) → Rising (spellings terms) → 1 ≤ i → i < length terms → IsAboveAt terms i
rise_above terms i rising some low =
    Less-from_sorted (slice_cmp nat_cmp) (spellings terms) (i - 1) i [] rising (omega arith) (omega (arith, length-spellings terms))

pub above_rise : (terms : List TextTerm) → ((k : ℕ) → 1 ≤ k → k < length terms → IsAboveAt terms k) → Rising (spellings terms)
above_rise terms above = sorted_from_all_adjacent nat_list_cmp_total (spellings terms) [] (λ k low.
    (let here = above (k + 1) (omega arith) (omega (arith, low, length-spellings terms)) in
    let back : k + 1 - 1 ≡ k = omega arith in
    ap (λ n. slice_cmp nat_cmp (text_at (spellings terms) n) (text_at (spellings terms) (k + 1))) (sym back) ∙ here))

-- the first spellings, and one more
front_more : (terms : List TextTerm) (i : ℕ) (term : TextTerm) → i < length terms → term ≡ get_or terms i term
    → spellings (take i terms) ++ term.spelling ∷ [] ≡ spellings (take (i + 1) terms)
front_more terms i term low e =
    ap (λ (t : TextTerm). spellings (take i terms) ++ t.spelling ∷ []) e
    ∙ sym (map-append (λ (t : TextTerm). t.spelling) (take i terms) (get_or terms i term ∷ []))
    ∙ ap spellings (sym (take_more terms i term low))

after_front : (terms : List TextTerm) (i : ℕ) (term : TextTerm) → Rising (spellings terms) → i < length terms → term ≡ get_or terms i term
    → IsAfterLast (spellings (take i terms)) term.spelling
after_front terms i term rising low e some =
    let long : length (spellings (take i terms)) ≡ i = length-spellings (take i terms) ∙ length-take-le i terms (omega arith) in
    let back : i - 1 < i = omega (arith, some) in
    let last : text_at (spellings (take i terms)) (length (spellings (take i terms)) - 1) ≡ text_at (spellings terms) (i - 1) =
    ap (λ n. text_at (spellings (take i terms)) (n - 1)) long
    ∙ get_or-map (λ (t : TextTerm). t.spelling) (take i terms) (i - 1) term [] (omega (arith, length-take-le i terms (omega arith)))
    ∙ ap (λ (t : TextTerm). t.spelling) (get_or-take i terms (i - 1) term back)
    ∙ sym (get_or-map (λ (t : TextTerm). t.spelling) terms (i - 1) term [] (omega arith)) in
    ap₂ (λ s t. slice_cmp nat_cmp s t) last (spelling_there terms i term low e) ∙ rise_above terms i rising (omega (arith, some)) low

-- a builder that holds the first spellings takes the next
pub may_push : (terms : List TextTerm) (i : ℕ) (term : TextTerm) (held : Option (List (List ℕ))) (text : List ℕ) → Rising (spellings terms) → i < length terms
    → term ≡ get_or terms i term → held ≡ Some (spellings (take i terms)) → text ≡ term.spelling → IfSome held (λ texts. IsAfterLast texts text)
may_push terms i term held text rising low e holds is =
    subst (λ h. IfSome h (λ texts. IsAfterLast texts text)) (sym holds)
    (subst (IsAfterLast (spellings (take i terms))) (sym is) (after_front terms i term rising low e))

pub pushed : (terms : List TextTerm) (i : ℕ) (term : TextTerm) (held new : Option (List (List ℕ))) (text : List ℕ) → i < length terms
    → term ≡ get_or terms i term → held ≡ Some (spellings (take i terms)) → text ≡ term.spelling
    → IsSomeAnd held (λ texts. new ≡ Some (texts ++ text ∷ [])) → new ≡ Some (spellings (take (i + 1) terms))
pushed terms i term held new text low e holds is more =
    let here : new ≡ Some (spellings (take i terms) ++ text ∷ []) = subst (λ h. IsSomeAnd h (λ texts. new ≡ Some (texts ++ text ∷ []))) holds more in
    here ∙ ap (λ t. Some (spellings (take i terms) ++ t ∷ [])) is ∙ ap Some (front_more terms i term low e)
