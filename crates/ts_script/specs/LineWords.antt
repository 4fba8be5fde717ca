-- The words of a line of a script.
use Rattle.std.specs.Prelude.{◌≡◌, ℕ, ◌==◌, ◌||◌, ◌&&◌, not, Bool, false, if◌then◌else◌, List, [], ◌∷◌, ◌++◌, refl, codes}
use Rattle.ts_script.specs.Lines.{onto_first}

-- a space or a tab
abbrev pub is_blank : ℕ → Bool
is_blank b = (b == 32) || (b == 9)

-- what stands before a byte of a line
pub data Place : Type 0 where
  -- no word that goes on
  between : Place
  -- a word that goes on to the next blank
  within : Place
  -- a word that goes on through its closing quote, and whether an odd number of backslashes stands directly before the byte
  quoted : Bool → Place

-- behind the first byte of a word
abbrev pub behind_first : ℕ → Place
behind_first b = if b == 34 then quoted false else within

-- behind a byte of a word whose quote isn't closed
abbrev pub behind_quoted : Bool → ℕ → Place
behind_quoted odd b = if (b == 34) && not odd then within else quoted ((b == 92) && not odd)

-- The words of a text, cut at blanks. Within a word the first of them is its rest. A word that begins with a quote has the blanks up to
-- its closing quote, which is the next one with an even number of backslashes directly before it; where there is none, it has the whole text.
unfoldable pub words_from : Place → List ℕ → List (List ℕ)
words_from between [] = []
words_from within [] = [] ∷ []
words_from (quoted odd) [] = [] ∷ []
words_from between (b ∷ text) = if is_blank b then words_from between text else onto_first b (words_from (behind_first b) text)
words_from within (b ∷ text) = if is_blank b then [] ∷ words_from between text else onto_first b (words_from within text)
words_from (quoted odd) (b ∷ text) = onto_first b (words_from (behind_quoted odd b) text)

-- bytes before the first word
abbrev pub onto : List ℕ → List (List ℕ) → List (List ℕ)
onto front [] = front ∷ []
onto front (word ∷ words) = (front ++ word) ∷ words

abbrev pub words_in : List ℕ → List (List ℕ)
words_in line = words_from between line

-- blanks at both ends, and a tab
words-blanks : words_in (32 ∷ 97 ∷ 98 ∷ 9 ∷ 32 ∷ 99 ∷ 32 ∷ []) ≡ codes "ab" ∷ codes "c" ∷ []
unfolding words_from
words-blanks = refl

-- `"a b"@c d`
words-quoted : words_in (34 ∷ 97 ∷ 32 ∷ 98 ∷ 34 ∷ 64 ∷ 99 ∷ 32 ∷ 100 ∷ []) ≡ (34 ∷ 97 ∷ 32 ∷ 98 ∷ 34 ∷ 64 ∷ 99 ∷ []) ∷ codes "d" ∷ []
unfolding words_from
words-quoted = refl

-- `"a\" b\\" c`: the first quote has one backslash before it, the second two
words-escaped : words_in (34 ∷ 97 ∷ 92 ∷ 34 ∷ 32 ∷ 98 ∷ 92 ∷ 92 ∷ 34 ∷ 32 ∷ 99 ∷ []) ≡ (34 ∷ 97 ∷ 92 ∷ 34 ∷ 32 ∷ 98 ∷ 92 ∷ 92 ∷ 34 ∷ []) ∷ codes "c" ∷ []
unfolding words_from
words-escaped = refl

-- `a "b c` has no closing quote, and in `a"b c` no word begins with one
words-open : words_in (97 ∷ 32 ∷ 34 ∷ 98 ∷ 32 ∷ 99 ∷ []) ≡ codes "a" ∷ (34 ∷ 98 ∷ 32 ∷ 99 ∷ []) ∷ []
unfolding words_from
words-open = refl

words-inner : words_in (97 ∷ 34 ∷ 98 ∷ 32 ∷ 99 ∷ []) ≡ (97 ∷ 34 ∷ 98 ∷ []) ∷ codes "c" ∷ []
unfolding words_from
words-inner = refl

words-none : words_in (32 ∷ 9 ∷ []) ≡ []
unfolding words_from
words-none = refl
