-- The longest language tag at the front of a text, found part by part.
use Rattle.std.specs.Prelude.{◌≡◌, ◌≢◌, ℕ, ◌<◌, ◌≤◌, ◌==◌, ◌||◌, List, [], ◌∷◌, ◌++◌, length, flat_map, All, IsTrue, refl}
use Rattle.std.proofs.Common.{sym, ap, subst, ◌∙◌, arith, append_assoc, length-append, true≢false}
use Rattle.std.proofs.lemmas.Bool.Decides.{nat_tests}
use Rattle.std.proofs.lemmas.List.Elements.{All-nil, All-cons, All-head, All-tail, All-append, All-weaker, All-same}
use Rattle.ts_model.specs.Characters.{is_letter, is_digit}
use Rattle.ts_model.specs.Literal.{IsFirstPart, IsNextPart, IsTag}
use Rattle.ts_model.specs.Longest.{IsLongest}
use Rattle.ts_model.proofs.Fronts.{Stops, same_heads, within, all_front, part_stops}

abbrev pub InFirst : ℕ → Type 0
InFirst c = IsTrue (is_letter c)

abbrev pub InNext : ℕ → Type 0
InNext c = IsTrue (is_letter c || is_digit c)

abbrev pub hyphen_parts : List (List ℕ) → List ℕ
hyphen_parts others = flat_map (λ part. 0x2D ∷ part) others

-- what a tag has behind its first part
abbrev pub IsOtherParts : List ℕ → Type 0
IsOtherParts front = (others : List (List ℕ)) × All IsNextPart others × (front ≡ hyphen_parts others)

-- Behind a part that is as long as it can be stand the longest other parts: then no part and other parts are longer.
parts_end : (P : ℕ → Type 0) (part tail parts rest part' : List ℕ) (others' : List (List ℕ)) (more : List ℕ)
    → (P 0x2D → ⊥) → All P part → Stops P tail → IsLongest IsOtherParts tail parts rest
    → All P part' → All IsNextPart others' → part ++ tail ≡ (part' ++ hyphen_parts others') ++ more
    → length (part' ++ hyphen_parts others') ≤ length (part ++ parts)
parts_end P part tail parts rest part' others' more no_hyphen all stops longest all' nexts same =
    let split = within P part tail part' (hyphen_parts others' ++ more) all' stops (same ∙ append_assoc part' (hyphen_parts others') more) in
    compare (split.0) others' nexts (split.1) (split.2)
  where
    compare : (middle : List ℕ) (others' : List (List ℕ)) → All IsNextPart others' → part ≡ part' ++ middle → hyphen_parts others' ++ more ≡ middle ++ tail
        → length (part' ++ hyphen_parts others') ≤ length (part ++ parts)
    compare [] others' nexts here behind =
        let short = longest.longest (hyphen_parts others') more (others', nexts, refl) (sym behind) in
        let long : length part ≡ length (part' ++ []) = ap length here in
        omega (arith, short, long, length-append part' [], length-append part' (hyphen_parts others'), length-append part parts)
    compare (m ∷ middle) [] nexts here behind =
        let long : length part ≡ length (part' ++ m ∷ middle) = ap length here in
        omega (arith, long, length-append part' (m ∷ middle), length-append part' [], length-append part parts)
    compare (m ∷ middle) (other ∷ others') nexts here behind =
        let heads = same_heads 0x2D m ((other ++ hyphen_parts others') ++ more) (middle ++ tail) behind in
        let split = all_front P part' (m ∷ middle) (All-same P (part' ++ m ∷ middle) part (sym here) all) in
        absurd (no_hyphen (subst P (sym (heads.0)) (All-head P m middle (split.1))))

letter_hyphen : InFirst 0x2D → ⊥
letter_hyphen is = true≢false (sym is)

next_hyphen : InNext 0x2D → ⊥
next_hyphen is = true≢false (sym is)

pub others_none : (text : List ℕ) → ((part rest : List ℕ) → IsNextPart part → text ≢ 0x2D ∷ part ++ rest) → IsLongest IsOtherParts text [] text
others_none text none = record { has = ([], All-nil IsNextPart, refl); parts = refl; longest = longest } where
  shorter : (other more : List ℕ) (others : List (List ℕ)) → All IsNextPart others → other ≡ hyphen_parts others → text ≡ other ++ more → length other ≤ 0
  shorter other more [] all spelled same = let long : length other ≡ 0 = ap length spelled in omega arith
  shorter other more (part ∷ others) all spelled same =
      absurd (none part (hyphen_parts others ++ more) (All-head IsNextPart part others all)
      (same ∙ ap (λ r. r ++ more) spelled ∙ ap (λ r. 0x2D ∷ r) (append_assoc part (hyphen_parts others) more)))

  longest : (other more : List ℕ) → IsOtherParts other → text ≡ other ++ more → length other ≤ 0
  longest other more (others, all, spelled) same = shorter other more others all spelled same

pub others_more : (text behind part tail : List ℕ) → text ≡ 0x2D ∷ behind → IsLongest IsNextPart behind part tail
    → (parts rest : List ℕ) → IsLongest IsOtherParts tail parts rest → IsLongest IsOtherParts text (0x2D ∷ part ++ parts) rest
others_more text behind part tail begins here parts rest behind_it = record {
  has = (part ∷ behind_it.has.0, All-cons IsNextPart part (behind_it.has.0) here.has (behind_it.has.1), ap (λ r. 0x2D ∷ part ++ r) (behind_it.has.2));
  parts = begins ∙ ap (λ r. 0x2D ∷ r) (here.parts ∙ ap (λ r. part ++ r) behind_it.parts ∙ sym (append_assoc part parts rest));
  longest = longest;
} where
  shorter : (other more : List ℕ) (others : List (List ℕ)) → All IsNextPart others → other ≡ hyphen_parts others → text ≡ other ++ more → length other ≤ length (0x2D ∷ part ++ parts)
  shorter other more [] all spelled same = let long : length other ≡ 0 = ap length spelled in omega arith
  shorter other more (part' ∷ others) all spelled same =
      let next = All-head IsNextPart part' others all in
      let heads = same_heads 0x2D 0x2D ((part' ++ hyphen_parts others) ++ more) behind (ap (λ r. r ++ more) (sym spelled) ∙ sym same ∙ begins) in
      let short = parts_end InNext part tail parts rest part' others more next_hyphen (here.has.1) (part_stops InNext behind part tail here) behind_it (next.1) (All-tail IsNextPart part' others all) (sym here.parts ∙ sym (heads.1)) in
      let long : length other ≡ length (0x2D ∷ part' ++ hyphen_parts others) = ap length spelled in
      omega arith

  longest : (other more : List ℕ) → IsOtherParts other → text ≡ other ++ more → length other ≤ length (0x2D ∷ part ++ parts)
  longest other more (others, all, spelled) same = shorter other more others all spelled same

pub tag_longest : (text part tail rest : List ℕ) → IsLongest IsFirstPart text part tail → (parts : List ℕ) × IsLongest IsOtherParts tail parts rest → (tag : List ℕ) × IsLongest IsTag text tag rest
tag_longest text part tail rest here (parts, behind_it) = (
  part ++ parts,
  record {
    has = (part, behind_it.has.0, here.has, behind_it.has.1, ap (λ r. part ++ r) (behind_it.has.2));
    parts = here.parts ∙ ap (λ r. part ++ r) behind_it.parts ∙ sym (append_assoc part parts rest);
    longest = longest;
  },
) where
  longest : (other more : List ℕ) → IsTag other → text ≡ other ++ more → length other ≤ length (part ++ parts)
  longest other more (part', others, first, nexts, spelled) same =
      let whole : part ++ tail ≡ (part' ++ hyphen_parts others) ++ more = sym here.parts ∙ same ∙ ap (λ r. r ++ more) spelled in
      let short = parts_end InFirst part tail parts rest part' others more letter_hyphen (here.has.1) (part_stops InFirst text part tail here) behind_it (first.1) nexts whole in
      let long : length other ≡ length (part' ++ hyphen_parts others) = ap length spelled in
      omega arith

pub no_tag : (text tag rest : List ℕ) → ((part more : List ℕ) → IsFirstPart part → text ≢ part ++ more) → IsTag tag → text ≢ tag ++ rest
no_tag text tag rest none (part, others, first, nexts, spelled) same =
    none part (hyphen_parts others ++ rest) first (same ∙ ap (λ r. r ++ rest) spelled ∙ append_assoc part (hyphen_parts others) rest)

-- The other parts of a text that have been read: the longest of the rest make the longest of the text.
abbrev pub OthersSoFar : List ℕ → List ℕ → Type 0
OthersSoFar text rest = (parts end : List ℕ) → IsLongest IsOtherParts rest parts end → (whole : List ℕ) × IsLongest IsOtherParts text whole end

pub others_step : (text rest tail : List ℕ) → OthersSoFar text rest → (behind part : List ℕ) × (rest ≡ 0x2D ∷ behind) × IsLongest IsNextPart behind part tail → OthersSoFar text tail
others_step text rest tail s (behind, part, begins, here) = λ parts end behind_it.
    s (0x2D ∷ part ++ parts) end (others_more rest behind part tail begins here parts end behind_it)

pub shorter_tail : (rest tail : List ℕ) → (behind part : List ℕ) × (rest ≡ 0x2D ∷ behind) × IsLongest IsNextPart behind part tail → length tail < length rest
shorter_tail rest tail (behind, part, begins, here) =
    let outer : length rest ≡ length (0x2D ∷ behind) = ap length begins in
    let inner : length behind ≡ length (part ++ tail) = ap length here.parts in
    omega (arith, outer, inner, length-append part tail)

pub tag_from_first : (text tail rest : List ℕ) → (part : List ℕ) × IsLongest IsFirstPart text part tail → (parts : List ℕ) × IsLongest IsOtherParts tail parts rest → (tag : List ℕ) × IsLongest IsTag text tag rest
tag_from_first text tail rest (part, here) behind_it = tag_longest text part tail rest here behind_it

-- a letter, a digit or `-`
abbrev pub InTag : ℕ → Type 0
InTag c = IsTrue (is_letter c || is_digit c || (c == 0x2D))

first_in_tag : (c : ℕ) → InFirst c → InTag c
first_in_tag c is = ap (λ b. b || is_digit c || (c == 0x2D)) is

next_in_tag : (c : ℕ) → InNext c → InTag c
next_in_tag c is = ap (λ b. b || (c == 0x2D)) is

others_in_tag : (others : List (List ℕ)) → All IsNextPart others → All InTag (hyphen_parts others)
others_in_tag [] all = All-nil InTag
others_in_tag (part ∷ others) all =
    All-append InTag (0x2D ∷ part) (hyphen_parts others)
    (All-cons InTag 0x2D part refl (All-weaker InNext InTag next_in_tag part ((All-head IsNextPart part others all).1)))
    (others_in_tag others (All-tail IsNextPart part others all))

pub tag_in_tag : (tag : List ℕ) → IsTag tag → All InTag tag
tag_in_tag tag (part, others, first, nexts, spelled) =
    All-same InTag tag (part ++ hyphen_parts others) spelled
    (All-append InTag part (hyphen_parts others) (All-weaker InFirst InTag first_in_tag part (first.1)) (others_in_tag others nexts))

small_in_tag : (c : ℕ) → InTag c → c < 128
small_in_tag c is = grind (arith, nat_tests)

pub tag_ascii : (tag : List ℕ) → IsTag tag → All (λ c. c < 128) tag
tag_ascii tag is = All-weaker InTag (λ c. c < 128) small_in_tag tag (tag_in_tag tag is)
