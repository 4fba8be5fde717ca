-- Which lines of a text are whole, and which commands of lines.
use Rattle.std.proofs.Common.{◌≡◌, ℕ, ◌+◌, ◌==◌, Bool, true, false, true≢false, cond, List, [], ◌∷◌, ◌++◌, length, map, drop, refl, sym, ◌∙◌, ap, subst, arith, append_assoc, length-append, length-drop}
use Rattle.std.proofs.lemmas.List.{length-map}
use Rattle.std.specs.Prelude.{Result, codes}
use Rattle.ts_model.specs.declared.signed.SignedTriple.{SignedTriple}
use Rattle.ts_script.specs.Cutting.{buffered, lines_to_come, progress, HasNoWholeLine, Took}
use Rattle.ts_script.specs.LineWords.{words_from}
use Rattle.ts_script.specs.Lines.{is_end, line_view, lines_after, lines_behind, lines_of, onto_first, onto_some, whole_lines, whole_lines_after, HasNoEnd}
use Rattle.ts_script.specs.Script.{closed, HasNoWholeCommand, IsGiven, IsPassedOver, IsWholeCommand, LineIs}
use Rattle.ts_script.specs.ScriptBody.{AreAll, GoesOn, IsBodyUpTo}
use Rattle.ts_script.specs.declared.body.BodyFault.{BodyFault}
use Rattle.ts_script.specs.declared.command.Command.{Command}
use Rattle.ts_script.specs.declared.cutter.LineCutter.{LineCutter}
use Rattle.ts_script.specs.declared.head.Head.TheVariants.{Awaits}
use Rattle.ts_script.specs.declared.opening.Opening.{Opening}
use Rattle.ts_script.specs.declared.script_line.ScriptLine.{ScriptLine}
use Rattle.ts_script.specs.declared.script_line.ScriptLine.TheVariants.{Heads}
use Rattle.ts_script.proofs.LinesLemmas.{first_false, second_false}
use Rattle.ts_script.proofs.ScriptLaws.{given_split, no_split, none_next}
use Rattle.ts_script.proofs.ScriptSoFar.{all-more}
use Rattle.ts_script.proofs.SilentLines.{silent_no_head}

-- ---- lines that end in a text

after_cons : (r : Bool) (b : ℕ) (text : List ℕ)
    → lines_after r (b ∷ text) ≡ cond (b == 13) ([] ∷ lines_after true text) (cond (b == 10) (cond r (lines_after false text) ([] ∷ lines_after false text)) (onto_first b (lines_after false text)))
unfolding lines_after
after_cons r b text = refl

whole_cons : (r : Bool) (b : ℕ) (text : List ℕ)
    → whole_lines_after r (b ∷ text)
    ≡ cond (b == 13) ([] ∷ whole_lines_after true text) (cond (b == 10) (cond r (whole_lines_after false text) ([] ∷ whole_lines_after false text)) (onto_some b (whole_lines_after false text)))
unfolding whole_lines_after
whole_cons r b text = refl

whole_nil : (r : Bool) → whole_lines_after r [] ≡ []
unfolding whole_lines_after
whole_nil r = refl

onto_front : (b : ℕ) (whole rest : List (List ℕ)) → (others : List (List ℕ)) × (onto_first b (whole ++ rest) ≡ onto_some b whole ++ others)
onto_front b [] rest = (onto_first b rest, refl)
onto_front b (line ∷ whole) rest = (rest, refl)

front_cons : (is_return is_feed r : Bool) (b : ℕ) (returned whole_returned behind lines whole others : List (List ℕ)) → returned ≡ whole_returned ++ behind → lines ≡ whole ++ others
    → (more : List (List ℕ))
    × (cond is_return ([] ∷ returned) (cond is_feed (cond r lines ([] ∷ lines)) (onto_first b lines))
    ≡ cond is_return ([] ∷ whole_returned) (cond is_feed (cond r whole ([] ∷ whole)) (onto_some b whole)) ++ more)
front_cons true is_feed r b returned whole_returned behind lines whole others e f = (behind, ap (λ (ls : List (List ℕ)). [] ∷ ls) e)
front_cons false true true b returned whole_returned behind lines whole others e f = (others, f)
front_cons false true false b returned whole_returned behind lines whole others e f = (others, ap (λ (ls : List (List ℕ)). [] ∷ ls) f)
front_cons false false r b returned whole_returned behind lines whole others e f =
    let (more, is) = onto_front b whole others in
    (more, ap (onto_first b) f ∙ is)

-- they are the first lines, whatever follows
whole_front : (r : Bool) (text more : List ℕ) → (others : List (List ℕ)) × (lines_after r (text ++ more) ≡ whole_lines_after r text ++ others)
whole_front r [] more = (lines_after r more, ap (λ (ls : List (List ℕ)). ls ++ lines_after r more) (sym (whole_nil r)))
whole_front r (b ∷ text) more =
    let one = whole_front true text more in
    let other = whole_front false text more in
    let (rest, is) = front_cons (b == 13) (b == 10) r b (lines_after true (text ++ more)) (whole_lines_after true text) one.0 (lines_after false (text ++ more)) (whole_lines_after false text) other.0 one.1 other.1 in
    (rest, after_cons r b (text ++ more) ∙ is ∙ ap (λ (ls : List (List ℕ)). ls ++ rest) (sym (whole_cons r b text)))

length_first : (b n : ℕ) (lines : List (List ℕ)) → length lines ≡ n + 1 → length (onto_first b lines) ≡ n + 1
length_first b n [] e = absurd (omega (arith, e))
length_first b n (line ∷ lines) e = e

length_some : (b : ℕ) (lines : List (List ℕ)) → length (onto_some b lines) ≡ length lines
length_some b [] = refl
length_some b (line ∷ lines) = refl

count_cons : (is_return is_feed r : Bool) (b : ℕ) (returned whole_returned lines whole : List (List ℕ)) → length returned ≡ length whole_returned + 1 → length lines ≡ length whole + 1
    → length (cond is_return ([] ∷ returned) (cond is_feed (cond r lines ([] ∷ lines)) (onto_first b lines)))
    ≡ length (cond is_return ([] ∷ whole_returned) (cond is_feed (cond r whole ([] ∷ whole)) (onto_some b whole))) + 1
count_cons true is_feed r b returned whole_returned lines whole e f = omega (arith, e)
count_cons false true true b returned whole_returned lines whole e f = f
count_cons false true false b returned whole_returned lines whole e f = omega (arith, f)
count_cons false false r b returned whole_returned lines whole e f = omega (arith, length_first b (length whole) lines f, length_some b whole)

one_byte : (r : Bool) → length (lines_after r (0 ∷ [])) ≡ 1
unfolding lines_after
one_byte r = refl

-- with a byte behind them one line more, which doesn't end
whole_count : (r : Bool) (text : List ℕ) → length (lines_after r (text ++ 0 ∷ [])) ≡ length (whole_lines_after r text) + 1
whole_count r [] = one_byte r ∙ ap (λ (ls : List (List ℕ)). length ls + 1) (sym (whole_nil r))
whole_count r (b ∷ text) =
    ap length (after_cons r b (text ++ 0 ∷ []))
    ∙ count_cons (b == 13) (b == 10) r b (lines_after true (text ++ 0 ∷ [])) (whole_lines_after true text) (lines_after false (text ++ 0 ∷ [])) (whole_lines_after false text) (whole_count true text) (whole_count false text)
    ∙ ap (λ (ls : List (List ℕ)). length ls + 1) (sym (whole_cons r b text))

not_end_cons : (r : Bool) (b : ℕ) (text : List ℕ) → is_end b ≡ false → whole_lines_after r (b ∷ text) ≡ onto_some b (whole_lines_after false text)
unfolding whole_lines_after
not_end_cons r b text h = rw (second_false (b == 10) (b == 13) h, first_false (b == 10) (b == 13) h) refl

whole_none : (r : Bool) (text : List ℕ) → HasNoEnd text → whole_lines_after r text ≡ []
whole_none r [] none = whole_nil r
whole_none r (b ∷ text) none = not_end_cons r b text (first_false _ _ none) ∙ ap (onto_some b) (whole_none false text (second_false (is_end b) _ none))

one_line : (r : Bool) (text : List ℕ) → HasNoEnd text → length (lines_after r (text ++ 0 ∷ [])) ≡ 1
one_line r text none = whole_count r text ∙ ap (λ (ls : List (List ℕ)). length ls + 1) (whole_none r text none)

one_behind : (is_overlong r : Bool) (text : List ℕ) → HasNoEnd text → length (lines_behind is_overlong r (text ++ 0 ∷ [])) ≡ 1
unfolding lines_behind
one_behind true r text none =
    let lines = lines_of (text ++ 0 ∷ []) in
    let one : length lines ≡ 1 = one_line false text none in
    omega (arith, one, length-map (drop 1 lines) line_view, length-drop 1 lines)
one_behind false r text none =
    let lines = lines_after r (text ++ 0 ∷ []) in
    let one : length lines ≡ 1 = one_line r text none in
    omega (arith, one, length-map lines line_view)

same_front : (a b c d : List (List ℕ)) → length a ≡ length c → a ++ b ≡ c ++ d → a ≡ c
same_front [] b [] d e same = refl
same_front [] b (y ∷ c) d e same = absurd (omega (arith, e))
same_front (x ∷ a) b [] d e same = absurd (omega (arith, e))
same_front (x ∷ a) b (y ∷ c) d e same =
    let first : x ≡ y = cc in
    let later : a ++ b ≡ c ++ d = cc in
    let rest = same_front a b c d (omega (arith, e)) later in
    λ i. first i ∷ rest i

-- where no whole line is left of the bytes that were taken, the lines that were given are those that end in these
pub are_whole : (start now : LineCutter) (bytes left : List ℕ) (given more : List (List ℕ)) → ((all : List ℕ) → lines_to_come start all ≡ map line_view (lines_of all)) → (progress start).lines ≡ 0
    → Took start now bytes → HasNoWholeLine now → (progress now).has_ended ≡ false → lines_of (bytes ++ left) ≡ given ++ more → length given ≡ (progress now).lines → given ≡ whole_lines bytes
are_whole start now bytes left given more fresh none took waits unended parts count =
    let all = lines_of (bytes ++ 0 ∷ []) in
    let lines : map line_view all ≡ took.given ++ lines_to_come now (0 ∷ []) = sym (fresh (bytes ++ 0 ∷ [])) ∙ took.lines unended (0 ∷ []) in
    let last : length (lines_to_come now (0 ∷ [])) ≡ 1 = one_behind now.is_overlong now.after_return (buffered now) waits.no_end in
    let (others, front) = whole_front false bytes left in
    let same : length given ≡ length (whole_lines bytes) = omega (
      arith,
      count,
      none,
      took.number,
      last,
      ap length lines,
      length-map all line_view,
      length-append took.given (lines_to_come now (0 ∷ [])),
      whole_count false bytes,
    ) in
    same_front given more (whole_lines bytes) others same (sym parts ∙ front)

-- ---- commands that stand whole in lines

-- lines that are passed over are no command
pub over_waits : (before : ℕ) (lines : List (List ℕ)) → AreAll IsPassedOver lines → HasNoWholeCommand before lines
over_waits before lines over asked taken rest parts whole = none_next before (taken ++ rest) asked taken rest (subst (AreAll IsPassedOver) parts over) (whole rest)

-- an empty line goes on with a body
goes_on_empty : GoesOn []
unfolding words_from
goes_on_empty ends = let none : [] ≡ codes "end" ∷ [] = ends.1 in cc

not_ended : (number : ℕ) (lines behind rest : List (List ℕ)) (read : Result (List SignedTriple) BodyFault) (is_closed : Bool) → AreAll GoesOn lines → lines ≡ behind ++ (rest ++ [] ∷ [])
    → IsBodyUpTo number behind (rest ++ [] ∷ []) read is_closed → ⊥
not_ended number lines behind rest read true goes_on parts is =
    let all : lines ≡ is.body ++ is.closes.0 ∷ (rest ++ [] ∷ []) =
    parts ∙ ap (λ (ls : List (List ℕ)). ls ++ (rest ++ [] ∷ [])) (is.parts ∙ ap (λ (ls : List (List ℕ)). is.body ++ ls) is.closes.1) ∙ append_assoc is.body (is.closes.0 ∷ []) (rest ++ [] ∷ []) in
    no_split GoesOn is.body is.closes.0 (rest ++ [] ∷ []) (subst (AreAll GoesOn) all goes_on) (λ on. on is.closes.2)
not_ended number lines behind rest read false goes_on parts is = omega (arith, length-append rest ([] ∷ []), ap length is.closes.1)

-- nor are lines of which one awaits a body, where none of those behind it ends that
pub body_waits : (before : ℕ) (passed : List (List ℕ)) (line : List ℕ) (opening : Opening) (body : List (List ℕ)) → AreAll IsPassedOver passed → LineIs line (Heads (Awaits opening)) → AreAll GoesOn body
    → HasNoWholeCommand before (passed ++ line ∷ body)
body_waits before passed line opening body over is goes_on asked taken rest parts whole =
    let more = rest ++ [] ∷ [] in
    let all : taken ++ more ≡ passed ++ line ∷ (body ++ [] ∷ []) =
    sym (append_assoc taken rest ([] ∷ [])) ∙ ap (λ (ls : List (List ℕ)). ls ++ [] ∷ []) (sym parts) ∙ append_assoc passed (line ∷ body) ([] ∷ []) in
    let found = given_split before (taken ++ more) passed line (Heads (Awaits opening)) (body ++ [] ∷ []) asked taken more all over is (λ silent. silent_no_head line (Awaits opening) silent is.1) (whole more) in
    let (read, is_closed, up_to, says) = found.2 in
    not_ended (before + length passed + 1) (body ++ [] ∷ []) found.0 rest read is_closed (all-more GoesOn body [] goes_on goes_on_empty) found.1 up_to

-- a line that is all of its command, or with a body that is closed
module _ (before : ℕ) (passed : List (List ℕ)) (line : List ℕ) (over : AreAll IsPassedOver passed) (asked : Command) where
  pub whole_line : (kind : ScriptLine) → LineIs line kind → ((rest : List (List ℕ)) → IsGiven kind (before + length passed + 1) [] rest asked) → IsWholeCommand before (passed ++ line ∷ []) asked
  whole_line kind is given behind = record { passed = passed; line = line; behind = []; kind = kind; all = refl; parts = refl; over = over; is = is; given = given behind }

  pub whole_body : (opening : Opening) (taken rest : List (List ℕ)) (read : Result (List SignedTriple) BodyFault) (is_closed : Bool) → LineIs line (Heads (Awaits opening)) → is_closed ≡ true
      → IsBodyUpTo (before + length passed + 1) taken rest read is_closed → asked ≡ closed opening (before + length passed + 1) is_closed read → IsWholeCommand before (passed ++ line ∷ taken) asked
  whole_body opening taken rest read true is_line ends is says behind = record {
    passed = passed;
    line = line;
    behind = taken;
    kind = Heads (Awaits opening);
    all = refl;
    parts = refl;
    over = over;
    is = is_line;
    given = (read, true, record { body = is.body; closing = is.closing; parts = is.parts; goes_on = is.goes_on; closes = is.closes; spells = is.spells }, says);
  }
  whole_body opening taken rest read false is_line ends is says behind = absurd (true≢false (sym ends))
