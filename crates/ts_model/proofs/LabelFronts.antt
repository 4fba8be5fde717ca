-- The longest blank label at the front of a text, found character by character.
use Rattle.std.specs.Prelude.{◌≡◌, ℕ, ◌≤◌, ◌==◌, ◌||◌, Bool, true, false, List, [], ◌∷◌, ◌++◌, length, All, IsTrue, refl}
use Rattle.std.proofs.Common.{sym, ap, ◌∙◌, inl, inr, arith, append_assoc, length-append, true≢false}
use Rattle.std.proofs.lemmas.List.Elements.{All-nil, All-cons, All-head, All-push, All-append, All-weaker, All-same}
use Rattle.std.proofs.lemmas.Bool.{eqb-true, or_cases, cases_lt}
use Rattle.ts_model.specs.BlankLabel.{starts_label, is_label_character, IsLabelRest, IsLabel}
use Rattle.ts_model.specs.Characters.{is_in_ranges, is_name_start, is_name_character, is_digit}
use Rattle.ts_model.specs.Longest.{IsLongest}
use Rattle.ts_model.proofs.Fronts.{Stops, same_heads, within, all_front}

abbrev pub IsDot : ℕ → Type 0
IsDot c = c ≡ 0x2E

abbrev pub InLabel : ℕ → Type 0
InLabel c = IsTrue (is_label_character c)

pub name_in_label : (c : ℕ) → IsTrue (is_name_character c) → InLabel c
name_in_label c name = ap (λ b. b || (c == 0x2E)) name

pub dot_in_label : (c : ℕ) → IsDot c → InLabel c
dot_in_label c dot = ap is_label_character dot

pub not_in_label : (c : ℕ) → is_name_character c ≡ false → (IsDot c → ⊥) → InLabel c → ⊥
not_in_label c other no_dot in_label = no_dot (eqb-true c 0x2E (ap (λ b. b || (c == 0x2E)) (sym other) ∙ in_label))

pub rest_in_label : (rest : List ℕ) → IsLabelRest rest → All InLabel rest
rest_in_label rest (inl empty) = All-same InLabel rest [] empty (All-nil InLabel)
rest_in_label rest (inr (middle, (last, (all, name, spelled)))) =
    All-same InLabel rest (middle ++ last ∷ []) spelled (All-push InLabel middle last all (name_in_label last name))

third : (a b c d e : Bool) → (c || false) ≡ true → ((a || (b || (c || d))) || e) ≡ true
third true b c d e h = refl
third false true c d e h = refl
third false false true d e h = refl
third false false false d e h = absurd (true≢false (sym h))

digit_in_label : (c : ℕ) → IsTrue (is_digit c) → InLabel c
digit_in_label c digit = third (is_name_start c) _ _ _ (c == 0x2E) digit

pub start_in_label : (c : ℕ) → IsTrue (starts_label c) → InLabel c
start_in_label c starts = elim (or_cases (is_name_start c) (is_digit c) starts) [
  | inl name ↦ ap (λ b. (b || is_in_ranges ((0x2D, 0x2D) ∷ (0x30, 0x39) ∷ (0xB7, 0xB7) ∷ (0x300, 0x36F) ∷ (0x203F, 0x2040) ∷ []) c) || (c == 0x2E)) name
  | inr digit ↦ digit_in_label c digit
]

pub label_in_label : (label : List ℕ) → IsLabel label → All InLabel label
label_in_label label (first, others, starts, continues, spelled) =
    All-same InLabel label (first ∷ others) spelled (All-cons InLabel first others (start_in_label first starts) (rest_in_label others continues))

-- a character that lies behind the front lies among the dots
in_dots : (front dots middle end : List ℕ) (last : ℕ) → All IsDot dots → length front ≤ length middle → front ++ dots ≡ middle ++ last ∷ end → IsDot last
in_dots [] dots middle end last all short same =
    let split = all_front IsDot middle (last ∷ end) (All-same IsDot (middle ++ last ∷ end) dots (sym same) all) in
    All-head IsDot last end (split.1)
in_dots (x ∷ front) dots [] end last all short same = absurd (omega arith)
in_dots (x ∷ front) dots (y ∷ middle) end last all short same =
    let heads = same_heads x y (front ++ dots) (middle ++ last ∷ end) same in
    let shorter : length front ≤ length middle = omega arith in
    in_dots front dots middle end last all shorter (heads.1)

-- The characters of a text that have been read: `after` follows the last name character among them, and `rest` all.
pub record LabelSoFar (text after rest : List ℕ) : Type 0 where
  pub front : List ℕ
  pub dots : List ℕ
  pub has : IsLabelRest front
  pub all_dots : All IsDot dots
  pub parts : text ≡ front ++ after
  pub between : after ≡ dots ++ rest

pub label_begins : (text : List ℕ) → LabelSoFar text text text
label_begins text = record { front = []; dots = []; has = inl refl; all_dots = All-nil IsDot; parts = refl; between = refl }

so_far_parts : (text after rest next : List ℕ) (c : ℕ) (s : LabelSoFar text after rest) → rest ≡ c ∷ next → text ≡ ((s.front ++ s.dots) ++ c ∷ []) ++ next
so_far_parts text after rest next c s begins =
    s.parts ∙ ap (λ r. s.front ++ r) (s.between ∙ ap (λ r. s.dots ++ r) begins)
    ∙ sym (append_assoc s.front s.dots (c ∷ next))
    ∙ sym (append_assoc (s.front ++ s.dots) (c ∷ []) next)

pub label_name : (text after rest next : List ℕ) (c : ℕ) → LabelSoFar text after rest → rest ≡ c ∷ next → IsTrue (is_name_character c) → LabelSoFar text next next
label_name text after rest next c s begins name = record {
  front = (s.front ++ s.dots) ++ c ∷ [];
  dots = [];
  has = inr (s.front ++ s.dots, (c, (All-append InLabel s.front s.dots (rest_in_label s.front s.has) (All-weaker IsDot InLabel dot_in_label s.dots s.all_dots), name, refl)));
  all_dots = All-nil IsDot;
  parts = so_far_parts text after rest next c s begins;
  between = refl;
}

pub label_dot : (text after rest next : List ℕ) (c : ℕ) → LabelSoFar text after rest → rest ≡ c ∷ next → IsDot c → LabelSoFar text after next
label_dot text after rest next c s begins dot = record {
  front = s.front;
  dots = s.dots ++ c ∷ [];
  has = s.has;
  all_dots = All-push IsDot s.dots c s.all_dots dot;
  parts = s.parts;
  between = s.between ∙ ap (λ r. s.dots ++ r) begins ∙ sym (append_assoc s.dots (c ∷ []) next);
}

pub label_ends : (text after rest : List ℕ) → LabelSoFar text after rest → Stops InLabel rest → (front : List ℕ) × IsLongest IsLabelRest text front after
label_ends text after rest s stops = (s.front, record { has = s.has; parts = s.parts; longest = longest }) where
  longest : (other more : List ℕ) → IsLabelRest other → text ≡ other ++ more → length other ≤ length s.front
  longest other more (inl empty) same = let long : length other ≡ 0 = ap length empty in omega arith
  longest other more (inr (middle, (last, (all, name, spelled)))) same =
      let whole : (s.front ++ s.dots) ++ rest ≡ other ++ more =
      append_assoc s.front s.dots rest ∙ ap (λ r. s.front ++ r) (sym s.between) ∙ sym s.parts ∙ same in
      let parts = within InLabel (s.front ++ s.dots) rest other more (rest_in_label other (inr (middle, (last, (all, name, spelled))))) stops whole in
      let fronts : s.front ++ s.dots ≡ middle ++ last ∷ parts.0 =
      parts.1 ∙ ap (λ r. r ++ parts.0) spelled ∙ append_assoc middle (last ∷ []) (parts.0) in
      let long : length other ≡ length (middle ++ last ∷ []) = ap length spelled in
      let longer = length-append middle (last ∷ []) in
      elim (cases_lt (length middle) (length s.front)) [
        | inl short ↦ omega (arith, longer)
        | inr behind ↦ absurd (true≢false (sym name ∙ ap is_name_character (in_dots s.front s.dots middle (parts.0) last s.all_dots behind fronts)))
      ]

pub label_longest : (text others rest : List ℕ) (c : ℕ) → IsTrue (starts_label c) → text ≡ c ∷ others → (front : List ℕ) × IsLongest IsLabelRest others front rest → (label : List ℕ) × IsLongest IsLabel text label rest
label_longest text others rest c starts begins (front, s) = (
  c ∷ front,
  record {
    has = (c, front, starts, s.has, refl);
    parts = begins ∙ ap (λ r. c ∷ r) s.parts;
    longest = longest;
  },
) where
  longest : (other more : List ℕ) → IsLabel other → text ≡ other ++ more → length other ≤ length (c ∷ front)
  longest other more (first, behind, begins', continues, spelled) same =
      let heads = same_heads c first others (behind ++ more) (sym begins ∙ same ∙ ap (λ r. r ++ more) spelled) in
      let short = s.longest behind more continues (heads.1) in
      let long : length other ≡ length (first ∷ behind) = ap length spelled in
      omega arith

pub no_label : (c : ℕ) (others label rest : List ℕ) → starts_label c ≡ false → IsLabel label → c ∷ others ≡ label ++ rest → ⊥
no_label c others label rest other (first, behind, begins, continues, spelled) same =
    let heads = same_heads c first others (behind ++ rest) (same ∙ ap (λ r. r ++ rest) spelled) in
    true≢false (sym begins ∙ ap starts_label (sym (heads.0)) ∙ other)

pub no_label_empty : (label rest : List ℕ) → IsLabel label → [] ≡ label ++ rest → ⊥
no_label_empty label rest (first, behind, begins, continues, spelled) same = let some : [] ≡ first ∷ (behind ++ rest) = same ∙ ap (λ r. r ++ rest) spelled in cc
