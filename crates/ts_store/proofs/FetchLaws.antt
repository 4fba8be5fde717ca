-- What opening a cursor, fetching from it and closing it do.
use Rattle.std.proofs.Common.{◌≡◌, ℕ, List, [], drop, false, Option, Some, IfOk, IfErr, Result, Ok, Err, sym, ap, ◌∙◌}
use Rattle.std.specs.Option.{unwrap_or}
use Rattle.std.specs.FinMap.{get, insert, remove}
use Rattle.ts_labels.specs.Labels.{Labels}
use Rattle.ts_model.specs.TextTriple.{TextTriple}
use Rattle.ts_plain.specs.declared.write.PlainLayer.{PlainLayer}
use Rattle.ts_script.specs.Replies.{reply_text}
use Rattle.ts_script.specs.declared.reply.Reply.TheVariants as reply
use Rattle.ts_script.specs.declared.reply.Refusal.TheVariants as refusal
use Rattle.ts_site.specs.Outside.{Outside}
use Rattle.ts_store.specs.declared.stop.Kind.{Kind}
use Rattle.ts_store.specs.declared.stop.Stop.{Stop}
use Rattle.ts_store.specs.Cursors.{Cursors, left_of}
use Rattle.ts_store.specs.Does.{Answers, Does, IsQueryStop}
use Rattle.ts_store.specs.Fetches.{closes, fetched_text, fetches, opens, with_cursors}
use Rattle.ts_store.specs.Resolve.{find_cursor, found_or}
use Rattle.ts_store.specs.State.{State}
use Rattle.ts_store.specs.Stepped.{at_found}
use Rattle.ts_store.specs.Store.{state_of}
use Rattle.ts_store.proofs.AnswerLaws.{does_beside, does_found}

if_ok : {A : Type 0} (result : Result Kind Stop) → A → IfOk result (λ _. A)
if_ok (Ok kind) a = a
if_ok (Err stop) a = tt

module _ (layers : List PlainLayer) (labels : Labels) (cursors : Cursors) (last : Option ℕ) (state : State) (view : state_of layers labels cursors last ≡ state) where
  same : cursors ≡ state.cursors
  same = ap (λ (s : State). s.cursors) view

  -- the state with other cursors
  with_others : (made wanted : Cursors) → made ≡ wanted → state_of layers labels made last ≡ with_cursors state wanted
  with_others made wanted is = ap (λ (m : Cursors). state_of layers labels m last) is ∙ ap (λ (s : State). with_cursors s wanted) view

  module _ (name : List ℕ) (result : Result Kind Stop) (why : IfErr result IsQueryStop) (old new : Outside) where
    pub does_open : (chosen wanted : List TextTriple) (made : Cursors) → made ≡ insert cursors name chosen → chosen ≡ wanted → Answers (reply_text (reply.CursorOpen name)) false result old new
        → Does state (opens state name wanted) result (state_of layers labels made last) old new
    does_open chosen wanted made is these answers =
        let inserted : made ≡ insert state.cursors name wanted = is ∙ ap (insert cursors name) these ∙ ap (λ (m : Cursors). insert m name wanted) same in
        does_beside state (insert state.cursors name wanted) (reply_text (reply.CursorOpen name)) false (state_of layers labels made last) old new result why
        (if_ok result (with_others made (insert state.cursors name wanted) inserted)) answers

    module _ (left : List TextTriple) (here : Some left ≡ get cursors name) where
      found : find_cursor state name ≡ Ok left
      found = sym (ap (found_or (refusal.NoCursor name)) (here ∙ ap (λ (m : Cursors). get m name) same))

      pub does_close : (made : Cursors) → made ≡ remove cursors name → Answers (reply_text (reply.CursorClosed name)) false result old new
          → Does state (at_found state (find_cursor state name) (λ _. closes state name)) result (state_of layers labels made last) old new
      does_close made is answers =
          let removed : made ≡ remove state.cursors name = is ∙ ap (λ (m : Cursors). remove m name) same in
          does_found result old new state (find_cursor state name) (λ _. closes state name) (state_of layers labels made last) left found
          (does_beside state (remove state.cursors name) (reply_text (reply.CursorClosed name)) false (state_of layers labels made last) old new result why
          (if_ok result (with_others made (remove state.cursors name) removed)) answers)

      module _ (n : ℕ) where
        -- the cursors with the first n triples of this one taken off
        pub given : (made : Cursors) → made ≡ insert cursors name (drop n (left_of cursors name)) → state_of layers labels made last ≡ with_cursors state (insert state.cursors name (drop n left))
        given made is =
            with_others made (insert state.cursors name (drop n left))
            (is ∙ ap (λ o. insert cursors name (drop n (unwrap_or o []))) (sym here) ∙ ap (λ (m : Cursors). insert m name (drop n left)) same)

        pub does_fetch : (after : State) → IfOk result (λ _. after ≡ with_cursors state (insert state.cursors name (drop n left))) → Answers (fetched_text n left) false result old new
            → Does state (at_found state (find_cursor state name) (fetches state name n)) result after old new
        does_fetch after is answers =
            does_found result old new state (find_cursor state name) (fetches state name n) after left found
            (does_beside state (insert state.cursors name (drop n left)) (fetched_text n left) false after old new result why is answers)
