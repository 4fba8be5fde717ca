-- The next command, where its line was given.
use Rattle.std.proofs.Common.{◌≡◌, ◌⊎◌, ℕ, ◌+◌, Bool, true, false, List, [], ◌∷◌, ◌++◌, length, map, refl, sym, ◌∙◌, ap, subst, arith, append_assoc, append-nil, length-append}
use Rattle.std.specs.Prelude.{Result, Ok, Err, IfErr}
use Rattle.ts_model.specs.declared.signed.SignedTriple.{SignedTriple}
use Rattle.ts_script.specs.Body.{IsBodyRead}
use Rattle.ts_script.specs.Cutting.{lines_to_come, view_of, GivesLine, HasNoWholeLine, HasSeenAll}
use Rattle.ts_script.specs.Lines.{LineView, line_view}
use Rattle.ts_script.specs.Next.{GivesBody, GivesCommand, ReadsBody, WaitsForEnd, WaitsForMore}
use Rattle.ts_script.specs.Script.{closed, IsFinished, IsGiven, IsNextCommand, IsPassedOver, LineIs, WantMemory}
use Rattle.ts_script.specs.Commands.{AwaitBody}
use Rattle.ts_script.specs.Heads.{HaveTerms}
use Rattle.ts_script.specs.LineWords.{words_in}
use Rattle.ts_script.specs.ScriptBody.{AreAll, IsBodyUpTo}
use Rattle.ts_script.specs.declared.body.BodyFault.{BodyFault}
use Rattle.ts_script.specs.declared.body.BodyFault.TheVariants.{Bad, TooLong}
use Rattle.ts_script.specs.declared.command.Command.{Command}
use Rattle.ts_script.specs.declared.cutter.Line.{Line}
use Rattle.ts_script.specs.declared.cutter.LineCutter.{LineCutter}
use Rattle.ts_script.specs.declared.head.Head.TheVariants.{Awaits}
use Rattle.ts_script.specs.declared.opening.Opening.{Opening}
use Rattle.ts_script.specs.declared.stop.ScriptStop.{ScriptStop}
use Rattle.ts_script.specs.declared.stop.ScriptStop.TheVariants.{Memory}
use Rattle.ts_script.specs.declared.script_line.ScriptLine.{ScriptLine}
use Rattle.ts_script.specs.declared.script_line.ScriptLine.TheVariants.{Heads}
use Rattle.ts_script.proofs.BodySoFar.{map-none, next_of-some}
use Rattle.ts_script.proofs.ScriptSoFar.{AreUpTo, HaveRead, split}
use Rattle.ts_script.proofs.WholeLemmas.{body_waits, over_waits, whole_body, whole_line}

-- what a line, as it is lent, is
abbrev pub SeenAs : LineView → ScriptLine → Type 0
SeenAs line kind = (bytes : List ℕ) → line_view bytes ≡ line → LineIs bytes kind

-- ---- where the source tells what is left

-- a line that is all of its command
pub gives-line : (start cur new : LineCutter) (left_start left_cur left_new : List ℕ) (line : Line) (kind : ScriptLine) (asked : Command)
    → AreUpTo IsPassedOver start left_start cur left_cur → lines_to_come cur left_cur ≡ view_of line ∷ lines_to_come new left_new
    → new.number ≡ cur.number + 1 → line.number ≡ cur.number + 1 → SeenAs (view_of line) kind
    → ((rest : List (List ℕ)) → IsGiven kind line.number [] rest asked) → HasSeenAll new left_new
    → (lines : List (List ℕ)) → lines_to_come start left_start ≡ map line_view lines → GivesCommand start new left_new lines asked
gives-line start cur new left_start left_cur left_new line kind asked so_far next number said seen given all lines is =
    let was = so_far lines is in
    let cut = split cur new left_cur left_new was.rest (view_of line) was.to_come next in
    let place : line.number ≡ start.number + length was.done + 1 = omega (arith, said, was.number) in
    record {
      taken = was.done ++ cut.first ∷ [];
      rest = cut.others;
      next = record {
        passed = was.done;
        line = cut.first;
        behind = [];
        kind = kind;
        all = was.parts ∙ ap (λ (ls : List (List ℕ)). was.done ++ ls) cut.parts ∙ sym (append_assoc was.done (cut.first ∷ []) cut.others);
        parts = refl;
        over = was.have;
        is = seen cut.first cut.seen;
        given = subst (λ (n : ℕ). IsGiven kind n [] cut.others asked) place (given cut.others);
      };
      to_come = cut.to_come;
      number = omega (arith, number, was.number, length-append was.done (cut.first ∷ []));
      seen = all;
      whole = λ unended. whole_line start.number was.done cut.first was.have asked kind (seen cut.first cut.seen) (λ rest. subst (λ (n : ℕ). IsGiven kind n [] rest asked) place (given rest));
    }

-- a line and a body
pub gives-body : (start cur mid new : LineCutter) (left_start left_cur left_mid left_new : List ℕ) (line : Line) (opening : Opening)
    (read : Result (List SignedTriple) BodyFault) (is_closed : Bool) (asked : Command)
    → AreUpTo IsPassedOver start left_start cur left_cur → lines_to_come cur left_cur ≡ view_of line ∷ lines_to_come mid left_mid
    → mid.number ≡ cur.number + 1 → line.number ≡ cur.number + 1 → SeenAs (view_of line) (Heads (Awaits opening))
    → ((lines : List (List ℕ)) → lines_to_come mid left_mid ≡ map line_view lines → GivesBody mid new left_new lines read is_closed)
    → asked ≡ closed opening line.number is_closed read
    → (lines : List (List ℕ)) → lines_to_come start left_start ≡ map line_view lines → GivesCommand start new left_new lines asked
gives-body start cur mid new left_start left_cur left_mid left_new line opening read is_closed asked so_far next number said seen bodies says lines is =
    let was = so_far lines is in
    let cut = split cur mid left_cur left_mid was.rest (view_of line) was.to_come next in
    let body = bodies cut.others cut.to_come in
    let place : line.number ≡ start.number + length was.done + 1 = omega (arith, said, was.number) in
    let before : mid.number ≡ start.number + length was.done + 1 = omega (arith, number, was.number) in
    let count : new.number ≡ mid.number + length body.taken = body.number in
    record {
      taken = was.done ++ cut.first ∷ body.taken;
      rest = body.rest;
      next = record {
        passed = was.done;
        line = cut.first;
        behind = body.taken;
        kind = Heads (Awaits opening);
        all = was.parts ∙ ap (λ (ls : List (List ℕ)). was.done ++ ls) (cut.parts ∙ ap (λ (ls : List (List ℕ)). cut.first ∷ ls) body.all)
            ∙ sym (append_assoc was.done (cut.first ∷ body.taken) body.rest);
        parts = refl;
        over = was.have;
        is = seen cut.first cut.seen;
        given = (
          read,
          is_closed,
          subst (λ (n : ℕ). IsBodyUpTo n body.taken body.rest read is_closed) before body.is,
          says ∙ ap (λ (n : ℕ). closed opening n is_closed read) place,
        );
      };
      to_come = body.to_come;
      number = omega (arith, count, before, length-append was.done (cut.first ∷ body.taken));
      seen = body.seen;
      whole = λ unended.
          whole_body start.number was.done cut.first was.have asked opening body.taken body.rest read is_closed (seen cut.first cut.seen) (body.closed unended)
          (subst (λ (n : ℕ). IsBodyUpTo n body.taken body.rest read is_closed) before body.is) (says ∙ ap (λ (n : ℕ). closed opening n is_closed read) place);
    }

-- the lines that were given are passed over, and no whole one is left
pub waits-between : (start cur new : LineCutter) (left_start left_cur : List ℕ) → AreUpTo IsPassedOver start left_start cur left_cur → new.number ≡ cur.number → HasNoWholeLine new → new.has_ended ≡ false
    → (lines : List (List ℕ)) → lines_to_come start left_start ≡ map line_view lines → WaitsForMore start new lines
waits-between start cur new left_start left_cur so_far number waits unended lines is =
    let was = so_far lines is in
    record { given = was.done; rest = was.rest; all = was.parts; none = over_waits start.number was.done was.have; number = number ∙ was.number; waits = waits; unended = unended }

-- or one of them awaits a body, and none behind it ends that
pub waits-body : (start cur mid new : LineCutter) (left_start left_cur left_mid : List ℕ) (line : LineView) (opening : Opening)
    → AreUpTo IsPassedOver start left_start cur left_cur → lines_to_come cur left_cur ≡ line ∷ lines_to_come mid left_mid → mid.number ≡ cur.number + 1 → SeenAs line (Heads (Awaits opening))
    → ((lines : List (List ℕ)) → lines_to_come mid left_mid ≡ map line_view lines → WaitsForEnd mid new lines)
    → (lines : List (List ℕ)) → lines_to_come start left_start ≡ map line_view lines → WaitsForMore start new lines
waits-body start cur mid new left_start left_cur left_mid line opening so_far next number seen bodies lines is =
    let was = so_far lines is in
    let cut = split cur mid left_cur left_mid was.rest line was.to_come next in
    let body = bodies cut.others cut.to_come in
    let count : new.number ≡ mid.number + length body.given = body.number in
    record {
      given = was.done ++ cut.first ∷ body.given;
      rest = body.rest;
      all = was.parts ∙ ap (λ (ls : List (List ℕ)). was.done ++ ls) (cut.parts ∙ ap (λ (ls : List (List ℕ)). cut.first ∷ ls) body.all)
          ∙ sym (append_assoc was.done (cut.first ∷ body.given) body.rest);
      none = body_waits start.number was.done cut.first opening body.given was.have (seen cut.first cut.seen) body.goes_on;
      number = omega (arith, count, number, was.number, length-append was.done (cut.first ∷ body.given));
      waits = body.waits;
      unended = body.unended;
    }

-- no line is left
pub gives-none : (start cur : LineCutter) (new : LineCutter) (left_start left_cur left_new : List ℕ) → AreUpTo IsPassedOver start left_start cur left_cur
    → lines_to_come cur left_cur ≡ [] → left_new ≡ [] → (lines : List (List ℕ)) → lines_to_come start left_start ≡ map line_view lines → AreAll IsPassedOver lines × (left_new ≡ [])
gives-none start cur new left_start left_cur left_new so_far none nothing lines is =
    let was = so_far lines is in
    let all : lines ≡ was.done = was.parts ∙ ap (λ (ls : List (List ℕ)). was.done ++ ls) (map-none was.rest (sym was.to_come ∙ none)) ∙ append-nil was.done in
    (subst (AreAll IsPassedOver) (sym all) was.have, nothing)

-- where memory runs out
pub wants-memory : (start cur new : LineCutter) (left_start left_cur left_new : List ℕ) (line : LineView) → AreUpTo IsPassedOver start left_start cur left_cur
    → lines_to_come cur left_cur ≡ line ∷ lines_to_come new left_new
    → ((bytes : List ℕ) → line_view bytes ≡ line → HaveTerms (words_in bytes) ⊎ AwaitBody (words_in bytes))
    → (lines : List (List ℕ)) → lines_to_come start left_start ≡ map line_view lines → WantMemory lines
wants-memory start cur new left_start left_cur left_new line so_far next wants lines is =
    let was = so_far lines is in
    let cut = split cur new left_cur left_new was.rest line was.to_come next in
    record {
      passed = was.done;
      line = cut.first;
      rest = cut.others;
      parts = was.parts ∙ ap (λ (ls : List (List ℕ)). was.done ++ ls) cut.parts;
      over = was.have;
      wants = wants cut.first cut.seen;
    }

pub stop-wants : {A : Type 0} (r : Result A ScriptStop) (lines : List (List ℕ)) → WantMemory lines → IfErr r (λ stop. stop ≡ Memory → WantMemory lines)
stop-wants (Ok x) lines wants = tt
stop-wants (Err stop) lines wants = λ _. wants

-- ---- on every source

abbrev pub SomeNext : ℕ → Command → Type 0
SomeNext before asked = (lines taken rest : List (List ℕ)) × IsNextCommand before lines asked taken rest

pub some-line : (before : ℕ) (cur new : LineCutter) (bytes : List ℕ) (line : Line) (kind : ScriptLine) (asked : Command) → HaveRead IsPassedOver before cur.number
    → GivesLine cur new bytes (view_of line) → line.number ≡ cur.number + 1 → SeenAs (view_of line) kind
    → ((rest : List (List ℕ)) → IsGiven kind line.number [] rest asked) → SomeNext before asked
some-line before cur new bytes line kind asked was gives said seen given =
    let some = next_of-some cur new bytes (view_of line) gives.next in
    let place : line.number ≡ before + length was.0 + 1 = omega (arith, said, was.1) in (
      was.0 ++ some.0 ∷ [],
      was.0 ++ some.0 ∷ [],
      [],
      record {
        passed = was.0;
        line = some.0;
        behind = [];
        kind = kind;
        all = sym (append-nil (was.0 ++ some.0 ∷ []));
        parts = refl;
        over = was.2;
        is = seen some.0 some.1;
        given = subst (λ (n : ℕ). IsGiven kind n [] [] asked) place (given []);
      },
    )

pub some-body : (before : ℕ) (cur mid new : LineCutter) (bytes : List ℕ) (line : Line) (opening : Opening) (read : Result (List SignedTriple) BodyFault) (is_closed : Bool) (asked : Command)
    → HaveRead IsPassedOver before cur.number → GivesLine cur mid bytes (view_of line) → line.number ≡ cur.number + 1 → SeenAs (view_of line) (Heads (Awaits opening))
    → ReadsBody mid new read is_closed → asked ≡ closed opening line.number is_closed read → SomeNext before asked
some-body before cur mid new bytes line opening read is_closed asked was gives said seen body says =
    let some = next_of-some cur mid bytes (view_of line) gives.next in
    let place : line.number ≡ before + length was.0 + 1 = omega (arith, said, was.1) in
    let number : mid.number ≡ before + length was.0 + 1 = omega (arith, gives.number, was.1) in (
      was.0 ++ some.0 ∷ (body.taken ++ body.rest),
      was.0 ++ some.0 ∷ body.taken,
      body.rest,
      record {
        passed = was.0;
        line = some.0;
        behind = body.taken;
        kind = Heads (Awaits opening);
        all = sym (append_assoc was.0 (some.0 ∷ body.taken) body.rest);
        parts = refl;
        over = was.2;
        is = seen some.0 some.1;
        given = (
          read,
          is_closed,
          subst (λ (n : ℕ). IsBodyUpTo n body.taken body.rest read is_closed) number body.is,
          says ∙ ap (λ (n : ℕ). closed opening n is_closed read) place,
        );
      },
    )

-- ---- a command with a body takes a line behind its own, or is unfinished

no_fault_of_none : (before : ℕ) (body : List (List ℕ)) (fault : BodyFault) → body ≡ [] → IsBodyRead before body (Err fault) → ⊥
no_fault_of_none before body (Bad line) none found = some_line found.front found.line found.rest (sym found.parts ∙ none)
  where
    some_line : (front : List (List ℕ)) (line : List ℕ) (rest : List (List ℕ)) → front ++ line ∷ rest ≡ [] → ⊥
    some_line [] line rest e = cc
    some_line (f ∷ front) line rest e = cc
no_fault_of_none before body (TooLong line) none found = some_line found.front found.line found.rest (sym found.parts ∙ none)
  where
    some_line : (front : List (List ℕ)) (line : List ℕ) (rest : List (List ℕ)) → front ++ line ∷ rest ≡ [] → ⊥
    some_line [] line rest e = cc
    some_line (f ∷ front) line rest e = cc

both_none : (a b : List (List ℕ)) → a ++ b ≡ [] → (a ≡ []) × (b ≡ [])
both_none [] b e = (refl, e)
both_none (x ∷ a) b e = absurd (cc)

none_of_length : (taken : List (List ℕ)) → length taken ≡ 0 → taken ≡ []
none_of_length [] e = refl
none_of_length (x ∷ taken) e = absurd (omega (arith, e))

pub finished_takes : (before number : ℕ) (taken rest : List (List ℕ)) (opening : Opening) (read : Result (List SignedTriple) BodyFault) (is_closed : Bool) (asked : Command)
    → IsBodyUpTo before taken rest read is_closed → asked ≡ closed opening number is_closed read → IsFinished asked → length taken ≡ 0 → ⊥
finished_takes before number taken rest opening read true asked is says finished none =
    let nothing = both_none is.body is.closing (sym is.parts ∙ none_of_length taken none) in
    let e : is.closes.0 ∷ [] ≡ [] = sym is.closes.1 ∙ nothing.1 in cc
finished_takes before number taken rest opening (Ok body) false asked is says finished none = finished number says
finished_takes before number taken rest opening (Err fault) false asked is says finished none =
    let nothing = both_none is.body is.closing (sym is.parts ∙ none_of_length taken none) in
    no_fault_of_none before is.body fault nothing.0 is.spells
