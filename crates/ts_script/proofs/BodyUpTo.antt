-- The body of a command of a script, as far as it was read.
use Rattle.std.proofs.Common.{◌≡◌, ◌↔◌, ℕ, ◌+◌, Bool, true, false, true≢false, List, [], ◌∷◌, ◌++◌, length, map, refl, sym, ◌∙◌, ap, arith, append_assoc, append-nil, length-append}
use Rattle.std.specs.Prelude.{Option, Result, Ok, Err, IfErr, IsErrAnd, IsTrue}
use Rattle.ts_model.specs.declared.signed.SignedTriple.{SignedTriple}
use Rattle.ts_script.specs.Body.{IsBodyRead, IsFaultOf}
use Rattle.ts_script.specs.Cutting.{lines_to_come, view_of, GivesLine, HasNoWholeLine, HasSeenAll}
use Rattle.ts_script.specs.Lines.{LineView, line_view}
use Rattle.ts_script.specs.Next.{GivesBody, ReadsBody, WaitsForEnd}
use Rattle.ts_script.specs.ScriptBody.{AreAll, EndsBody, GoesOn}
use Rattle.ts_script.specs.declared.body.BodyFault.{BodyFault}
use Rattle.ts_script.specs.declared.cutter.Line.{Line}
use Rattle.ts_script.specs.declared.cutter.LineCutter.{LineCutter}
use Rattle.ts_script.specs.declared.stop.ScriptStop.{ScriptStop}
use Rattle.ts_script.specs.declared.stop.ScriptStop.TheVariants.{Memory}
use Rattle.ts_script.proofs.BodySoFar.{map-none, next_of-some}
use Rattle.ts_script.proofs.ScriptSoFar.{all-more, split}

-- what adding a line to a body keeps
abbrev pub Adds : Line → List SignedTriple → Option BodyFault → List SignedTriple → Option BodyFault → Type 0
Adds line body fault body' fault' =
    (before : ℕ) (lines : List (List ℕ)) (bytes : List ℕ) → line_view bytes ≡ view_of line → line.number ≡ before + length lines + 1
    → IsFaultOf before lines body fault → IsFaultOf before (lines ++ bytes ∷ []) body' fault'

-- what a body so far is read as
abbrev pub ReadsAs : List SignedTriple → Option BodyFault → Result (List SignedTriple) BodyFault → Type 0
ReadsAs body fault read = (before : ℕ) (lines : List (List ℕ)) → IsFaultOf before lines body fault → IsBodyRead before lines read

-- whether a line, as it is lent, ends a body
abbrev pub TellsEnd : LineView → Bool → Type 0
TellsEnd line result = (bytes : List ℕ) → line_view bytes ≡ line → (IsTrue result ↔ EndsBody bytes)

pub ends-by : (line : LineView) (result : Bool) → TellsEnd line result → result ≡ true → (bytes : List ℕ) → line_view bytes ≡ line → EndsBody bytes
ends-by line result tells is bytes seen = (tells bytes seen).0 is

pub goes_on-by : (line : LineView) (result : Bool) → TellsEnd line result → result ≡ false → (bytes : List ℕ) → line_view bytes ≡ line → GoesOn bytes
goes_on-by line result tells is bytes seen ends = true≢false (sym ((tells bytes seen).1 ends) ∙ is)

-- of these lines the first were read as a body, and the others are to come
pub record IsBodySoFar (start now : LineCutter) (left_now : List ℕ) (body : List SignedTriple) (fault : Option BodyFault) (lines : List (List ℕ)) : Type 0 where
  pub done : List (List ℕ)
  pub rest : List (List ℕ)
  pub parts : lines ≡ done ++ rest
  pub to_come : lines_to_come now left_now ≡ map line_view rest
  pub number : now.number ≡ start.number + length done
  pub goes_on : AreAll GoesOn done
  pub read : IsFaultOf start.number done body fault

abbrev pub AreBodySoFar : LineCutter → List ℕ → LineCutter → List ℕ → List SignedTriple → Option BodyFault → Type 0
AreBodySoFar start left_start now left_now body fault =
    (lines : List (List ℕ)) → lines_to_come start left_start ≡ map line_view lines → IsBodySoFar start now left_now body fault lines

-- one more line
pub body-more : (start cur new : LineCutter) (left_start left_cur left_new : List ℕ) (body body' : List SignedTriple) (fault fault' : Option BodyFault) (line : Line)
    → AreBodySoFar start left_start cur left_cur body fault → lines_to_come cur left_cur ≡ view_of line ∷ lines_to_come new left_new
    → new.number ≡ cur.number + 1 → line.number ≡ cur.number + 1 → ((bytes : List ℕ) → line_view bytes ≡ view_of line → GoesOn bytes)
    → Adds line body fault body' fault' → AreBodySoFar start left_start new left_new body' fault'
body-more start cur new left_start left_cur left_new body body' fault fault' line so_far next number said goes_on add lines is =
    let was = so_far lines is in
    let cut = split cur new left_cur left_new was.rest (view_of line) was.to_come next in
    record {
      done = was.done ++ cut.first ∷ [];
      rest = cut.others;
      parts = was.parts ∙ ap (λ (ls : List (List ℕ)). was.done ++ ls) cut.parts ∙ sym (append_assoc was.done (cut.first ∷ []) cut.others);
      to_come = cut.to_come;
      number = omega (arith, number, was.number, length-append was.done (cut.first ∷ []));
      goes_on = all-more GoesOn was.done cut.first was.goes_on (goes_on cut.first cut.seen);
      read = add start.number was.done cut.first cut.seen (omega (arith, said, was.number)) was.read;
    }

-- a line ends the body
pub body-closed : (start cur new : LineCutter) (left_start left_cur left_new : List ℕ) (body : List SignedTriple) (fault : Option BodyFault)
    (read : Result (List SignedTriple) BodyFault) (line : LineView) → AreBodySoFar start left_start cur left_cur body fault
    → lines_to_come cur left_cur ≡ line ∷ lines_to_come new left_new → new.number ≡ cur.number + 1
    → ((bytes : List ℕ) → line_view bytes ≡ line → EndsBody bytes) → HasSeenAll new left_new → ReadsAs body fault read
    → (lines : List (List ℕ)) → lines_to_come start left_start ≡ map line_view lines → GivesBody start new left_new lines read true
body-closed start cur new left_start left_cur left_new body fault read line so_far next number ends seen reads lines is =
    let was = so_far lines is in
    let cut = split cur new left_cur left_new was.rest line was.to_come next in
    record {
      taken = was.done ++ cut.first ∷ [];
      rest = cut.others;
      all = was.parts ∙ ap (λ (ls : List (List ℕ)). was.done ++ ls) cut.parts ∙ sym (append_assoc was.done (cut.first ∷ []) cut.others);
      is = record {
        body = was.done;
        closing = cut.first ∷ [];
        parts = refl;
        goes_on = was.goes_on;
        closes = (cut.first, refl, ends cut.first cut.seen);
        spells = reads start.number was.done was.read;
      };
      to_come = cut.to_come;
      number = omega (arith, number, was.number, length-append was.done (cut.first ∷ []));
      seen = seen;
      closed = λ unended. refl;
    }

-- the lines end within the body
pub body-open : (start cur new : LineCutter) (left_start left_cur left_new : List ℕ) (body : List SignedTriple) (fault : Option BodyFault)
    (read : Result (List SignedTriple) BodyFault) → AreBodySoFar start left_start cur left_cur body fault
    → lines_to_come cur left_cur ≡ [] → lines_to_come new [] ≡ [] → new.number ≡ cur.number → new.has_ended ≡ true → left_new ≡ [] → ReadsAs body fault read
    → (lines : List (List ℕ)) → lines_to_come start left_start ≡ map line_view lines → GivesBody start new left_new lines read false
body-open start cur new left_start left_cur left_new body fault read so_far none after number ended nothing reads lines is =
    let was = so_far lines is in
    let no_rest : was.rest ≡ [] = map-none was.rest (sym was.to_come ∙ none) in
    record {
      taken = was.done;
      rest = [];
      all = was.parts ∙ ap (λ (ls : List (List ℕ)). was.done ++ ls) no_rest;
      is = record {
        body = was.done;
        closing = [];
        parts = sym (append-nil was.done);
        goes_on = was.goes_on;
        closes = (refl, refl);
        spells = reads start.number was.done was.read;
      };
      to_come = ap (lines_to_come new) nothing ∙ after;
      number = number ∙ was.number;
      seen = λ _. nothing;
      closed = λ unended. absurd (true≢false (sym ended ∙ unended));
    }

-- no whole line is left, and none that was given ends the body
pub body-waits : (start cur new : LineCutter) (left_start left_cur : List ℕ) (body : List SignedTriple) (fault : Option BodyFault) → AreBodySoFar start left_start cur left_cur body fault
    → new.number ≡ cur.number → HasNoWholeLine new → new.has_ended ≡ false → (lines : List (List ℕ)) → lines_to_come start left_start ≡ map line_view lines → WaitsForEnd start new lines
body-waits start cur new left_start left_cur body fault so_far number waits unended lines is =
    let was = so_far lines is in
    record { given = was.done; rest = was.rest; all = was.parts; goes_on = was.goes_on; number = number ∙ was.number; waits = waits; unended = unended }

-- what holds at each stop but want of memory
pub stop-waits : {A : Type 0} (r : Result A ScriptStop) (fact : Type 0) → fact → IfErr r (λ stop. (stop ≡ Memory → ⊥) → fact)
stop-waits (Ok x) fact holds = tt
stop-waits (Err stop) fact holds = λ _. holds

pub waits-passed : {A : Type 0} (r : Result A ScriptStop) (stop : ScriptStop) (fact : Type 0) → IsErrAnd r (λ given. given ≡ stop) → ((stop ≡ Memory → ⊥) → fact) → IfErr r (λ given. (given ≡ Memory → ⊥) → fact)
waits-passed (Ok x) stop fact same waits = tt
waits-passed (Err given) stop fact same waits = λ not. waits (λ is. not (same ∙ is))

-- ---- on every source

-- some lines were read as a body, as many as were given
pub record HasBody (before number : ℕ) (body : List SignedTriple) (fault : Option BodyFault) : Type 0 where
  pub done : List (List ℕ)
  pub count : number ≡ before + length done
  pub goes_on : AreAll GoesOn done
  pub read : IsFaultOf before done body fault

pub some-more : (before : ℕ) (cur new : LineCutter) (taken : List ℕ) (body body' : List SignedTriple) (fault fault' : Option BodyFault) (line : Line)
    → HasBody before cur.number body fault → GivesLine cur new taken (view_of line) → line.number ≡ cur.number + 1
    → ((bytes : List ℕ) → line_view bytes ≡ view_of line → GoesOn bytes) → Adds line body fault body' fault' → HasBody before new.number body' fault'
some-more before cur new taken body body' fault fault' line was gives said goes_on add =
    let some = next_of-some cur new taken (view_of line) gives.next in
    let count : cur.number ≡ before + length was.done = was.count in
    record {
      done = was.done ++ some.0 ∷ [];
      count = omega (arith, gives.number, count, length-append was.done (some.0 ∷ []));
      goes_on = all-more GoesOn was.done some.0 was.goes_on (goes_on some.0 some.1);
      read = add before was.done some.0 some.1 (omega (arith, said, count)) was.read;
    }

pub some-closed : (start cur new : LineCutter) (taken : List ℕ) (body : List SignedTriple) (fault : Option BodyFault) (read : Result (List SignedTriple) BodyFault) (line : LineView)
    → HasBody start.number cur.number body fault → GivesLine cur new taken line → ((bytes : List ℕ) → line_view bytes ≡ line → EndsBody bytes)
    → ReadsAs body fault read → ReadsBody start new read true
some-closed start cur new taken body fault read line was gives ends reads =
    let some = next_of-some cur new taken line gives.next in
    let count : cur.number ≡ start.number + length was.done = was.count in
    record {
      taken = was.done ++ some.0 ∷ [];
      rest = [];
      is = record {
        body = was.done;
        closing = some.0 ∷ [];
        parts = refl;
        goes_on = was.goes_on;
        closes = (some.0, refl, ends some.0 some.1);
        spells = reads start.number was.done was.read;
      };
      number = omega (arith, gives.number, count, length-append was.done (some.0 ∷ []));
    }

pub some-open : (start cur new : LineCutter) (body : List SignedTriple) (fault : Option BodyFault) (read : Result (List SignedTriple) BodyFault)
    → HasBody start.number cur.number body fault → new.number ≡ cur.number → ReadsAs body fault read → ReadsBody start new read false
some-open start cur new body fault read was number reads = record {
  taken = was.done;
  rest = [];
  is = record {
    body = was.done;
    closing = [];
    parts = sym (append-nil was.done);
    goes_on = was.goes_on;
    closes = (refl, refl);
    spells = reads start.number was.done was.read;
  };
  number = number ∙ was.count;
}
