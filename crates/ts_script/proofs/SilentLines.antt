-- A line that is passed over is no command.
use Rattle.std.proofs.Common.{◌≡◌, ◌⊎◌, inl, inr, ℕ, ◌<◌, ◌==◌, Bool, true, false, true≢false, List, [], ◌∷◌, ◌++◌, get_or, chars, refl, sym, ◌∙◌, ap, subst, arith}
use Rattle.std.proofs.lemmas.Str.Ascii.{encode_ascii}
use Rattle.ts_nt.specs.TripleText.{after_blanks, IsNothingOrComment, is_blank as is_blank_char}
use Rattle.ts_nt.proofs.BlankLaws.{after_blanks-blank, after_blanks-begins}
use Rattle.ts_script.specs.Heads.{Name, base, commit, list, has, added, removed, layers, squash, labels, label_new, label_get, label_set, count, open_cursor, fetch, close, name_words, IsHead}
use Rattle.ts_script.specs.Lines.{onto_first}
use Rattle.ts_script.specs.LineWords.{within, words_from, words_in}
use Rattle.ts_script.specs.Script.{IsPassedOver}
use Rattle.ts_script.specs.declared.head.Head.{Head}
use Rattle.std.proofs.Math.Utf8.{encode, encodes}
use Rattle.std.proofs.lemmas.Str.{encodes-chars}

-- the words begin as a comment does, or there is none
abbrev AreSilent : List (List ℕ) → Type 0
AreSilent words = (words ≡ []) ⊎ ((word : List ℕ) × (words' : List (List ℕ)) × (words ≡ (35 ∷ word) ∷ words'))

begun : (words : List (List ℕ)) → AreSilent (onto_first 35 words)
begun [] = inr ([], [], refl)
begun (word ∷ words) = inr (word, words, refl)

blank_small : (c : ℕ) → is_blank_char c ≡ true → c < 128
blank_small c is = grind arith

blank_words : (c : ℕ) (text : List ℕ) → is_blank_char c ≡ true → words_in (c ∷ text) ≡ words_in text
unfolding words_from
blank_words c text is = rw is refl

comment_words : (text : List ℕ) → AreSilent (words_in (35 ∷ text))
unfolding words_from
comment_words text = begun (words_from within text)

by_first : (c : ℕ) (cs : List ℕ) → (IsNothingOrComment (after_blanks cs) → AreSilent (words_in (encodes cs))) → IsNothingOrComment (after_blanks (c ∷ cs))
    → (b : Bool) → is_blank_char c ≡ b → AreSilent (words_in (encodes (c ∷ cs)))
by_first c cs later nothing true is =
    let single : encode c ++ encodes cs ≡ c ∷ encodes cs = ap (λ (t : List ℕ). t ++ encodes cs) (encode_ascii c (blank_small c is)) in
    subst (λ (t : List ℕ). AreSilent (words_in t)) (sym single)
    (subst AreSilent (sym (blank_words c (encodes cs) is)) (later (subst IsNothingOrComment (after_blanks-blank c cs is) nothing)))
by_first c cs later nothing false is = by_comment (subst IsNothingOrComment (after_blanks-begins (c ∷ cs) c (cs, refl) is) nothing)
  where
    by_comment : IsNothingOrComment (c ∷ cs) → AreSilent (words_in (encodes (c ∷ cs)))
    by_comment (inl none) = absurd (cc)
    by_comment (inr (comment, begins)) =
        let sharp : c ≡ 35 = ap (λ (t : List ℕ). get_or t 0 0) begins in
        let single : encode c ++ encodes cs ≡ 35 ∷ encodes cs = ap (λ (t : List ℕ). t ++ encodes cs) (encode_ascii c (omega (arith, sharp)) ∙ ap (λ (x : ℕ). x ∷ []) sharp) in
        subst (λ (t : List ℕ). AreSilent (words_in t)) (sym single) (comment_words (encodes cs))

no_words : AreSilent (words_in [])
unfolding words_from
no_words = inl refl

silent_words : (cs : List ℕ) → IsNothingOrComment (after_blanks cs) → AreSilent (words_in (encodes cs))
silent_words [] nothing = no_words
silent_words (c ∷ cs) nothing = by_first c cs (silent_words cs) nothing (is_blank_char c) refl

-- no name begins as a comment does
named_first : (name : Name) (behind : List (List ℕ)) → (get_or (get_or (name_words name ++ behind) 0 []) 0 0 == 35) ≡ false
named_first base behind = refl
named_first commit behind = refl
named_first list behind = refl
named_first has behind = refl
named_first added behind = refl
named_first removed behind = refl
named_first layers behind = refl
named_first squash behind = refl
named_first labels behind = refl
named_first label_new behind = refl
named_first label_get behind = refl
named_first label_set behind = refl
named_first count behind = refl
named_first open_cursor behind = refl
named_first fetch behind = refl
named_first close behind = refl

some_word : (name : Name) (behind : List (List ℕ)) → name_words name ++ behind ≡ [] → ⊥
some_word base behind e = cc
some_word commit behind e = cc
some_word list behind e = cc
some_word has behind e = cc
some_word added behind e = cc
some_word removed behind e = cc
some_word layers behind e = cc
some_word squash behind e = cc
some_word labels behind e = cc
some_word label_new behind e = cc
some_word label_get behind e = cc
some_word label_set behind e = cc
some_word count behind e = cc
some_word open_cursor behind e = cc
some_word fetch behind e = cc
some_word close behind e = cc

silent_is_no_head : (words : List (List ℕ)) (head : Head) → AreSilent words → IsHead words head → ⊥
silent_is_no_head words head (inl none) is = some_word is.name is.behind (sym is.parts ∙ none)
silent_is_no_head words head (inr (word, others, begins)) is =
    true≢false (ap (λ (ws : List (List ℕ)). get_or (get_or ws 0 []) 0 0 == 35) (sym begins ∙ is.parts) ∙ named_first is.name is.behind)

pub silent_no_head : (line : List ℕ) (head : Head) → IsPassedOver line → IsHead (words_in line) head → ⊥
silent_no_head line head over is =
    let bytes : encodes (chars line) ≡ line = encodes-chars line over.1.0 in
    silent_is_no_head (words_in line) head (subst (λ (t : List ℕ). AreSilent (words_in t)) bytes (silent_words (chars line) over.1.1)) is
