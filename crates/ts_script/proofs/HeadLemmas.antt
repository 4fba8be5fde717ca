-- The words of a command as a name and the words behind it.
use Rattle.std.proofs.Common.{◌≡◌, inl, inr, ℕ, ◌+◌, ◌<◌, ◌≤◌, List, [], ◌∷◌, ◌++◌, length, get_or, take, drop, codes, refl, sym, ap, subst, ◌∙◌, arith}
use Rattle.std.proofs.lemmas.List.{length-map}
use Rattle.std.specs.Borrow.{Bor}
use Rattle.std.specs.Prelude.{Option, Some, None, IfSome, IfNone}
use Rattle.ts_script.specs.Words.{texts, unbound, SpellPattern}
use Rattle.ts_model.specs.declared.pattern.Pattern.{Pattern}
use Rattle.ts_script.specs.declared.command.Ref.{Ref}
use Rattle.ts_script.specs.Heads.{Name, base, commit, list, has, added, removed, layers, squash, labels, label_new, label_get, label_set, count, open_cursor, fetch, close, name_words, IsHead, IsHeadOf, IsOfPattern, IsOfRef, AreNoHead}
use Rattle.ts_model.specs.Names.{IsCursorName}
use Rattle.ts_script.specs.declared.command.Command.TheVariants as command
use Rattle.ts_script.specs.declared.head.Head.TheVariants.{Whole}
use Rattle.ts_script.specs.declared.head.Head.{Head}
use Rattle.ts_script.proofs.HeadLaws.{head_by_name}

pub is_head : (words : List (List ℕ)) (name : Name) (behind : List (List ℕ)) (head : Head) → words ≡ name_words name ++ behind → IsHeadOf name behind head → IsHead words head
is_head words name behind head are says = record { name = name; behind = behind; parts = are; says = says }

pub no_head : (words : List (List ℕ)) (name : Name) (behind : List (List ℕ)) → words ≡ name_words name ++ behind → ((head : Head) → IsHeadOf name behind head → ⊥) → AreNoHead words
no_head words name behind are none = λ head is. none head (head_by_name words name behind head are is)

-- what is behind a name is said of all the words
pub some-behind : (words : List (List ℕ)) (name : Name) (behind : List (List ℕ)) (r : Option Head) → words ≡ name_words name ++ behind → IfSome r (IsHeadOf name behind) → IfSome r (IsHead words)
some-behind words name behind None are says = tt
some-behind words name behind (Some head) are says = is_head words name behind head are says

pub none-behind : (words : List (List ℕ)) (name : Name) (behind : List (List ℕ)) (r : Option Head) → words ≡ name_words name ++ behind
    → IfNone r ((head : Head) → IsHeadOf name behind head → ⊥) → IfNone r (AreNoHead words)
none-behind words name behind None are none = no_head words name behind are none
none-behind words name behind (Some head) are none = tt

-- ---- the two forms of `list`

pub list-some : (word : List ℕ) (r : Option Head) → IfSome r (IsOfRef (λ at. Whole (command.Listing at unbound)) (word ∷ [])) → IfSome r (IsHeadOf list (word ∷ []))
list-some word None says = tt
list-some word (Some head) says = inl says

pub list-none : (word : List ℕ) (r : Option Head) → IfNone r ((head : Head) → IsOfRef (λ at. Whole (command.Listing at unbound)) (word ∷ []) head → ⊥)
    → IfNone r ((head : Head) → IsHeadOf list (word ∷ []) head → ⊥)
list-none word None none = no_list
  where
    no_list : (head : Head) → IsHeadOf list (word ∷ []) head → ⊥
    no_list head (inl says) = none head says
    no_list head (inr says) = let long = ap length says.6 in omega (arith, long)
list-none word (Some head) none = tt

pub fitting-some : (word s p o : List ℕ) (r : Option Head) → IfSome r (IsOfPattern (λ at pattern. Whole (command.Listing at pattern)) (word ∷ s ∷ p ∷ o ∷ []))
    → IfSome r (IsHeadOf list (word ∷ s ∷ p ∷ o ∷ []))
fitting-some word s p o None says = tt
fitting-some word s p o (Some head) says = inr says

pub fitting-none : (word s p o : List ℕ) (r : Option Head) → IfNone r ((head : Head) → IsOfPattern (λ at pattern. Whole (command.Listing at pattern)) (word ∷ s ∷ p ∷ o ∷ []) head → ⊥)
    → IfNone r ((head : Head) → IsHeadOf list (word ∷ s ∷ p ∷ o ∷ []) head → ⊥)
fitting-none word s p o None none = no_list
  where
    no_list : (head : Head) → IsHeadOf list (word ∷ s ∷ p ∷ o ∷ []) head → ⊥
    no_list head (inl says) = let long = ap length says.2 in omega (arith, long)
    no_list head (inr says) = none head says
fitting-none word s p o (Some head) none = tt

-- the words spell no pattern
pub no_pattern : (make : Ref → Pattern → Head) (word s p o : List ℕ) → ((pattern : Pattern) → SpellPattern s p o pattern → ⊥) → (head : Head) → IsOfPattern make (word ∷ s ∷ p ∷ o ∷ []) head → ⊥
no_pattern make word s p o none head (word', s', p', o', at, pattern, are, is, spell, says) =
    let subjects : s' ≡ s = ap (λ (ws : List (List ℕ)). get_or ws 1 []) (sym are) in
    let predicates : p' ≡ p = ap (λ (ws : List (List ℕ)). get_or ws 2 []) (sym are) in
    let objects : o' ≡ o = ap (λ (ws : List (List ℕ)). get_or ws 3 []) (sym are) in
    none pattern (subst (λ w. SpellPattern w p o pattern) subjects (subst (λ w. SpellPattern s' w o pattern) predicates (subst (λ w. SpellPattern s' p' w pattern) objects spell)))

-- ---- `open`

abbrev Opens : List ℕ → List (List ℕ) → Head → Type 0
Opens name behind head = IsOfPattern (λ at pattern. Whole (command.OpenCursor name at pattern)) behind head

pub open-some : (name : List ℕ) (behind : List (List ℕ)) (r : Option Head) → IfSome r (λ head. IsCursorName name × Opens name behind head) → IfSome r (IsHeadOf open_cursor (name ∷ behind))
open-some name behind None says = tt
open-some name behind (Some head) says = (name, behind, refl, says.0, says.1)

pub open-none : (name : List ℕ) (behind : List (List ℕ)) (r : Option Head) → IfNone r ((head : Head) → IsCursorName name → Opens name behind head → ⊥)
    → IfNone r ((head : Head) → IsHeadOf open_cursor (name ∷ behind) head → ⊥)
open-none name behind None none = λ head says.
    let names : says.0 ≡ name = ap (λ (ws : List (List ℕ)). get_or ws 0 []) (sym says.2) in
    let behinds : says.1 ≡ behind = ap (λ (ws : List (List ℕ)). drop 1 ws) (sym says.2) in
    none head (subst IsCursorName names says.3)
    (subst (λ (n : List ℕ). Opens n behind head) names (subst (λ (ws : List (List ℕ)). Opens says.0 ws head) behinds says.4))
open-none name behind (Some head) none = tt

-- the words that stand in an array
texts-taken : (words : List (List ℕ)) (a b c d e f : Bor (List ℕ)) → length words ≤ 6
    → a.now ≡ get_or words 0 [] → b.now ≡ get_or words 1 [] → c.now ≡ get_or words 2 [] → d.now ≡ get_or words 3 [] → e.now ≡ get_or words 4 [] → f.now ≡ get_or words 5 []
    → texts (take (length words) (a ∷ b ∷ c ∷ d ∷ e ∷ f ∷ [])) ≡ words
texts-taken [] a b c d e f short at0 at1 at2 at3 at4 at5 = refl
texts-taken (v ∷ []) a b c d e f short at0 at1 at2 at3 at4 at5 = cc (at0)
texts-taken (v ∷ w ∷ []) a b c d e f short at0 at1 at2 at3 at4 at5 = cc (at0, at1)
texts-taken (v ∷ w ∷ x ∷ []) a b c d e f short at0 at1 at2 at3 at4 at5 = cc (at0, at1, at2)
texts-taken (v ∷ w ∷ x ∷ y ∷ []) a b c d e f short at0 at1 at2 at3 at4 at5 = cc (at0, at1, at2, at3)
texts-taken (v ∷ w ∷ x ∷ y ∷ z ∷ []) a b c d e f short at0 at1 at2 at3 at4 at5 = cc (at0, at1, at2, at3, at4)
texts-taken (v ∷ w ∷ x ∷ y ∷ z ∷ u ∷ []) a b c d e f short at0 at1 at2 at3 at4 at5 = cc (at0, at1, at2, at3, at4, at5)
texts-taken (v ∷ w ∷ x ∷ y ∷ z ∷ u ∷ t ∷ words) a b c d e f short at0 at1 at2 at3 at4 at5 = absurd (omega (arith, short))

pub texts-front : (n : ℕ) (words : List (List ℕ)) (a b c d e f : Bor (List ℕ)) → n ≡ length words → length words ≤ 6
    → a.now ≡ get_or words 0 [] → b.now ≡ get_or words 1 [] → c.now ≡ get_or words 2 [] → d.now ≡ get_or words 3 [] → e.now ≡ get_or words 4 [] → f.now ≡ get_or words 5 []
    → texts (take n (a ∷ b ∷ c ∷ d ∷ e ∷ f ∷ [])) ≡ words
texts-front n words a b c d e f all short at0 at1 at2 at3 at4 at5 = rw all (texts-taken words a b c d e f short at0 at1 at2 at3 at4 at5)

-- ---- words as a slice pattern reads them

pub one_word : (words : List (Bor (List ℕ))) (d : Bor (List ℕ)) (name : List ℕ) → 1 ≤ length words → length words < 2 → (get_or words 0 d).now ≡ name → texts words ≡ name ∷ []
one_word [] d name least below is = absurd (omega arith)
one_word (v ∷ []) d name least below is = ap (λ (n : List ℕ). n ∷ []) is
one_word (v ∷ w ∷ words) d name least below is = absurd (omega arith)

pub two_words : (words : List (Bor (List ℕ))) (d : Bor (List ℕ)) (name : List ℕ) → 2 ≤ length words → length words < 3 → (get_or words 0 d).now ≡ name
    → texts words ≡ name ∷ (get_or words 1 d).now ∷ []
two_words [] d name least below is = absurd (omega arith)
two_words (v ∷ []) d name least below is = absurd (omega arith)
two_words (v ∷ w ∷ []) d name least below is = ap (λ (n : List ℕ). n ∷ w.now ∷ []) is
two_words (v ∷ w ∷ x ∷ words) d name least below is = absurd (omega arith)

pub three_words : (words : List (Bor (List ℕ))) (d : Bor (List ℕ)) (name verb : List ℕ) → 3 ≤ length words → length words < 4
    → (get_or words 0 d).now ≡ name → (get_or words 1 d).now ≡ verb → texts words ≡ name ∷ verb ∷ (get_or words 2 d).now ∷ []
three_words [] d name verb least below is does = absurd (omega arith)
three_words (v ∷ []) d name verb least below is does = absurd (omega arith)
three_words (v ∷ w ∷ []) d name verb least below is does = absurd (omega arith)
three_words (v ∷ w ∷ x ∷ []) d name verb least below is does = λ i. is i ∷ does i ∷ x.now ∷ []
three_words (v ∷ w ∷ x ∷ y ∷ words) d name verb least below is does = absurd (omega arith)

pub five_words : (words : List (Bor (List ℕ))) (d : Bor (List ℕ)) (name : List ℕ) → 5 ≤ length words → length words < 6 → (get_or words 0 d).now ≡ name
    → texts words ≡ name ∷ (get_or words 1 d).now ∷ (get_or words 2 d).now ∷ (get_or words 3 d).now ∷ (get_or words 4 d).now ∷ []
five_words [] d name least below is = absurd (omega arith)
five_words (v ∷ []) d name least below is = absurd (omega arith)
five_words (v ∷ w ∷ []) d name least below is = absurd (omega arith)
five_words (v ∷ w ∷ x ∷ []) d name least below is = absurd (omega arith)
five_words (v ∷ w ∷ x ∷ y ∷ []) d name least below is = absurd (omega arith)
five_words (v ∷ w ∷ x ∷ y ∷ z ∷ []) d name least below is = ap (λ (n : List ℕ). n ∷ w.now ∷ x.now ∷ y.now ∷ z.now ∷ []) is
five_words (v ∷ w ∷ x ∷ y ∷ z ∷ u ∷ words) d name least below is = absurd (omega arith)

pub six_words : (words : List (Bor (List ℕ))) (d : Bor (List ℕ)) (name : List ℕ) → 6 ≤ length words → length words < 7 → (get_or words 0 d).now ≡ name
    → texts words ≡ name ∷ (get_or words 1 d).now ∷ (get_or words 2 d).now ∷ (get_or words 3 d).now ∷ (get_or words 4 d).now ∷ (get_or words 5 d).now ∷ []
six_words [] d name least below is = absurd (omega arith)
six_words (v ∷ []) d name least below is = absurd (omega arith)
six_words (v ∷ w ∷ []) d name least below is = absurd (omega arith)
six_words (v ∷ w ∷ x ∷ []) d name least below is = absurd (omega arith)
six_words (v ∷ w ∷ x ∷ y ∷ []) d name least below is = absurd (omega arith)
six_words (v ∷ w ∷ x ∷ y ∷ z ∷ []) d name least below is = absurd (omega arith)
six_words (v ∷ w ∷ x ∷ y ∷ z ∷ u ∷ []) d name least below is = ap (λ (n : List ℕ). n ∷ w.now ∷ x.now ∷ y.now ∷ z.now ∷ u.now ∷ []) is
six_words (v ∷ w ∷ x ∷ y ∷ z ∷ u ∷ t ∷ words) d name least below is = absurd (omega arith)

-- three words behind a name of one
pub three_words_of : (words : List (Bor (List ℕ))) (d : Bor (List ℕ)) (name : List ℕ) → 3 ≤ length words → length words < 4 → (get_or words 0 d).now ≡ name
    → texts words ≡ name ∷ (get_or words 1 d).now ∷ (get_or words 2 d).now ∷ []
three_words_of words d name least below is = three_words words d name (get_or words 1 d).now least below is refl

-- the second word is named too
pub five_words_of : (words : List (Bor (List ℕ))) (d : Bor (List ℕ)) (name verb : List ℕ) → 5 ≤ length words → length words < 6
    → (get_or words 0 d).now ≡ name → (get_or words 1 d).now ≡ verb
    → texts words ≡ name ∷ verb ∷ (get_or words 2 d).now ∷ (get_or words 3 d).now ∷ (get_or words 4 d).now ∷ []
five_words_of words d name verb least below is does =
    five_words words d name least below is ∙ ap (λ (n : List ℕ). name ∷ n ∷ (get_or words 2 d).now ∷ (get_or words 3 d).now ∷ (get_or words 4 d).now ∷ []) does

-- ---- words that no slice pattern takes

-- so many words, of which the first is the name
abbrev pub HasForm : List (Bor (List ℕ)) → ℕ → List ℕ → Type 0
HasForm words many name = (length words ≡ many) × ((get_or words 0 (record { ref_ptr = (0, 0); now = [] })).now ≡ name)

-- and the second is a verb
abbrev pub HasVerb : List (Bor (List ℕ)) → ℕ → List ℕ → List ℕ → Type 0
HasVerb words many name verb =
    (length words ≡ many) × ((get_or words 0 (record { ref_ptr = (0, 0); now = [] })).now ≡ name) × ((get_or words 1 (record { ref_ptr = (0, 0); now = [] })).now ≡ verb)

formed : (words : List (Bor (List ℕ))) (name : List ℕ) (behind : List (List ℕ)) → texts words ≡ name ∷ behind → HasForm words (length behind + 1) name
formed [] name behind are = absurd (cc)
formed (v ∷ words) name behind are = (
  omega (arith, ap length are, length-map words (λ (word : Bor (List ℕ)). word.now)),
  ap (λ (ws : List (List ℕ)). get_or ws 0 []) are,
)

verbed : (words : List (Bor (List ℕ))) (name verb : List ℕ) (behind : List (List ℕ)) → texts words ≡ name ∷ verb ∷ behind → HasVerb words (length behind + 2) name verb
verbed [] name verb behind are = absurd (cc)
verbed (v ∷ []) name verb behind are = absurd (let long = ap length are in omega (arith, long))
verbed (v ∷ w ∷ words) name verb behind are = (
  omega (arith, ap length are, length-map words (λ (word : Bor (List ℕ)). word.now)),
  ap (λ (ws : List (List ℕ)). get_or ws 0 []) are,
  ap (λ (ws : List (List ℕ)). get_or ws 1 []) are,
)

pub no_form : (words : List (Bor (List ℕ))) → (HasForm words 1 (codes "base") → ⊥) → (HasForm words 2 (codes "commit") → ⊥) → (HasForm words 2 (codes "list") → ⊥)
    → (HasForm words 5 (codes "has") → ⊥) → (HasForm words 2 (codes "added") → ⊥) → (HasForm words 2 (codes "removed") → ⊥)
    → (HasForm words 1 (codes "layers") → ⊥) → (HasForm words 2 (codes "squash") → ⊥) → (HasForm words 1 (codes "labels") → ⊥)
    → (HasVerb words 3 (codes "label") (codes "new") → ⊥) → (HasVerb words 3 (codes "label") (codes "get") → ⊥) → (HasVerb words 5 (codes "label") (codes "set") → ⊥)
    → (HasForm words 5 (codes "list") → ⊥) → (HasForm words 5 (codes "count") → ⊥) → (HasForm words 6 (codes "open") → ⊥)
    → (HasForm words 3 (codes "fetch") → ⊥) → (HasForm words 2 (codes "close") → ⊥) → AreNoHead (texts words)
no_form words not_base not_commit not_list not_has not_added not_removed not_layers not_squash not_labels not_new not_get not_set not_fitting not_count not_open not_fetch not_close head is =
    by_name is.name is.behind is.parts is.says
  where
    by_name : (name : Name) (behind : List (List ℕ)) → texts words ≡ name_words name ++ behind → IsHeadOf name behind head → ⊥
    by_name base behind are says = let form = formed words (codes "base") behind are in not_base (omega (arith, form.0, ap length says.0), form.1)
    by_name commit behind are says = let form = formed words (codes "commit") behind are in not_commit (omega (arith, form.0, ap length says.2), form.1)
    by_name list behind are (inl says) = let form = formed words (codes "list") behind are in not_list (omega (arith, form.0, ap length says.2), form.1)
    by_name list behind are (inr says) = let form = formed words (codes "list") behind are in not_fitting (omega (arith, form.0, ap length says.6), form.1)
    by_name has behind are says = let form = formed words (codes "has") behind are in not_has (omega (arith, form.0, ap length says.6), form.1)
    by_name added behind are says = let form = formed words (codes "added") behind are in not_added (omega (arith, form.0, ap length says.2), form.1)
    by_name removed behind are says = let form = formed words (codes "removed") behind are in not_removed (omega (arith, form.0, ap length says.2), form.1)
    by_name layers behind are says = let form = formed words (codes "layers") behind are in not_layers (omega (arith, form.0, ap length says.0), form.1)
    by_name squash behind are says = let form = formed words (codes "squash") behind are in not_squash (omega (arith, form.0, ap length says.2), form.1)
    by_name labels behind are says = let form = formed words (codes "labels") behind are in not_labels (omega (arith, form.0, ap length says.0), form.1)
    by_name label_new behind are says = let form = verbed words (codes "label") (codes "new") behind are in not_new (omega (arith, form.0, ap length says.1), form.1, form.2)
    by_name label_get behind are says = let form = verbed words (codes "label") (codes "get") behind are in not_get (omega (arith, form.0, ap length says.1), form.1, form.2)
    by_name label_set behind are says = let form = verbed words (codes "label") (codes "set") behind are in not_set (omega (arith, form.0, ap length says.5), form.1, form.2)
    by_name count behind are says = let form = formed words (codes "count") behind are in not_count (omega (arith, form.0, ap length says.6), form.1)
    by_name open_cursor behind are says =
        let form = formed words (codes "open") behind are in not_open (omega (arith, form.0, ap length says.2, ap length says.4.6), form.1)
    by_name fetch behind are says = let form = formed words (codes "fetch") behind are in not_fetch (omega (arith, form.0, ap length says.3), form.1)
    by_name close behind are says = let form = formed words (codes "close") behind are in not_close (omega (arith, form.0, ap length says.1), form.1)
