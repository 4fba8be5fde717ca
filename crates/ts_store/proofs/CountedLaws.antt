-- That each step leaves a number for each term and each predicate of a layer.
use Rattle.std.proofs.Common.{◌≡◌, ℕ, zero, suc, ◌<◌, ◌^◌, Bool, true, false, ◌&&◌, cond, nat_lt, List, ◌++◌, flat_map, Option, Some, None, Result, Ok, Err, IfSome, IsTrue, true≢false, refl, sym, ap, ◌∙◌, subst}
use Rattle.std.specs.Bool.{if◌then◌else◌}
use Rattle.std.specs.Option.{is_some, option_map, option_and_then}
use Rattle.std.specs.Ordering.{nat_cmp, eq_by_cmp}
use Rattle.std.specs.Cmp.{nat_cmp_total, Equal-is}
use Rattle.std.specs.FinMap.{get, insert, get-insert, nat_cmp-IsAntisymmetric}
use Rattle.ts_labels.specs.Moves.{made_label, moved_label}
use Rattle.ts_labels.specs.declared.label.Label.{Label}
use Rattle.ts_labels.specs.declared.label_error.LabelError.{LabelError}
use Rattle.ts_model.specs.ChainTotals.{added_along}
use Rattle.ts_model.specs.History.{History, LayerRecord, IsWellKept, additions_at, chain_within, parent_at, set_or_none}
use Rattle.ts_model.specs.Sets.{members}
use Rattle.ts_model.specs.Totals.{term_count, predicate_count}
use Rattle.ts_model.proofs.HistoryLaws.{Found, found}
use Rattle.ts_plain.specs.NewLayer.{IsNewNumber}
use Rattle.ts_plain.proofs.GrowthLaws.{ParentStands, get-old}
use Rattle.ts_script.specs.Replies.{reply_text}
use Rattle.ts_script.specs.declared.command.Command.{Command}
use Rattle.ts_script.specs.declared.command.Command.TheVariants as command
use Rattle.ts_script.specs.declared.reply.Reply.TheVariants as reply
use Rattle.ts_script.specs.declared.reply.Refusal.{Refusal}
use Rattle.ts_script.specs.declared.reply.Refusal.TheVariants as refusal
use Rattle.ts_store.specs.Fetches.{opening}
use Rattle.ts_store.specs.Makes.{base_layer, child_layer, has_room, is_counted_at, makes, next_number, squashed_layer, with_layer, with_newest}
use Rattle.ts_store.specs.Puts.{puts}
use Rattle.ts_store.specs.Resolve.{find_cursor, find_label, find_layer, find_ref, find_target}
use Rattle.ts_store.specs.Stands.{AreCounted}
use Rattle.ts_store.specs.State.{State}
use Rattle.ts_store.specs.Step.{step_of}
use Rattle.ts_store.specs.Stepped.{Stepped, at_found, does, refuses}
use Rattle.ts_store.proofs.NumberLaws.{next_is_new}

second : (a b : Bool) → (a && b) ≡ true → b ≡ true
second true b e = e
second false b e = absurd (true≢false (sym e))

module _ (history : History) (kept : IsWellKept history) (n : ℕ) (new : IsNewNumber history n) (layer : LayerRecord) where
  abbrev grown : History
  grown = insert history n layer

  parent_still : (k : ℕ) → IsTrue (is_some (get history k)) → ParentStands history (parent_at history k)
  parent_still k stands =
      let it : Found history k = found history k stands in
      subst (ParentStands history) (sym (ap (option_and_then (λ (l : LayerRecord). l.parent)) it.1)) (of_parent it.0.parent (kept k it.0 it.1).parent)
    where
      of_parent : (o : Option ℕ) → IfSome o (λ p. (p < k) × IsTrue (is_some (get history p))) → ParentStands history o
      of_parent None h = tt
      of_parent (Some p) h = h.1

  -- the layers of a chain that stood add what they added
  same_added : (most : ℕ) (o : Option ℕ) → ParentStands history o
      → flat_map (λ j. members (additions_at grown j)) (chain_within most grown o) ≡ flat_map (λ j. members (additions_at history j)) (chain_within most history o)
  same_added zero None h = refl
  same_added (suc most) None h = refl
  same_added zero (Some k) h = refl
  same_added (suc most) (Some k) h =
      let same : get grown k ≡ get history k = get-old history kept n new layer k h in
      ap (λ o. members (set_or_none (option_map (λ (l : LayerRecord). l.additions) o)) ++ flat_map (λ j. members (additions_at grown j)) (chain_within most grown (option_and_then (λ (l : LayerRecord). l.parent) o))) same
      ∙ ap (λ triples. members (additions_at history k) ++ triples) (same_added most (parent_at history k) (parent_still k h))

  same_counted : (k : ℕ) → IsTrue (is_some (get history k)) → is_counted_at grown k ≡ is_counted_at history k
  same_counted k stands =
      let same : added_along grown k ≡ added_along history k = same_added k (Some k) stands in
      λ i. nat_lt (term_count (same i)) (2 ^ 32) && nat_lt (predicate_count (same i)) (2 ^ 32)

  counted_grown : is_counted_at grown n ≡ true → AreCounted history → AreCounted grown
  counted_grown here counted k l is = by_number (eq_by_cmp nat_cmp k n) refl
    where
      by_number : (b : Bool) → eq_by_cmp nat_cmp k n ≡ b → is_counted_at grown k ≡ true
      by_number true e = let same : k ≡ n = nat_cmp-IsAntisymmetric k n ((Equal-is (nat_cmp k n)).0 e) in ap (is_counted_at grown) same ∙ here
      by_number false e =
          let old : get history k ≡ Some l = sym (get-insert nat_cmp_total history n layer k ∙ ap (λ b. cond b (Some layer) (get history k)) e) ∙ is in
          same_counted k (ap is_some old) ∙ counted k l old

module _ (state : State) (kept : IsWellKept state.history) (counted : AreCounted state.history) where
  pub counted_makes : (layer : LayerRecord) → AreCounted (makes state layer).state.history
  counted_makes layer = by_room (has_room state.history layer) refl
    where
      made : Bool → Stepped
      made room =
          if room
          then does (with_newest state layer) (reply_text (reply.Layer (next_number state.history)))
          else refuses state refusal.Full

      by_room : (room : Bool) → has_room state.history layer ≡ room → AreCounted (made room).state.history
      by_room true e =
          counted_grown state.history kept (next_number state.history) (next_is_new state.history) layer
          (second (nat_lt (next_number state.history) (2 ^ 32)) (is_counted_at (with_layer state.history layer) (next_number state.history)) e) counted
      by_room false e = counted

  counted_puts : (name : List ℕ) (next : Result Label LabelError) → AreCounted (puts state name next).state.history
  counted_puts name (Ok label) = counted
  counted_puts name (Err error) = counted

  counted_at : {A : Type 0} (found : Result A Refusal) (step : A → Stepped) → ((a : A) → AreCounted (step a).state.history) → AreCounted (at_found state found step).state.history
  counted_at (Ok a) step each = each a
  counted_at (Err given) step each = counted

  each_step : (asked : Command) → AreCounted (step_of state asked).state.history
  each_step (command.BadCommand line) = counted
  each_step (command.BadTriple line) = counted
  each_step (command.TooLong line) = counted
  each_step (command.Unfinished line) = counted
  each_step (command.Base body) = counted_makes (base_layer body)
  each_step (command.Commit at body) = counted_at (find_ref state at) _ (λ k. counted_makes (child_layer state.history k body))
  each_step (command.Listing at pattern) = counted_at (find_ref state at) _ (λ k. counted)
  each_step (command.Has at triple) = counted_at (find_ref state at) _ (λ k. counted)
  each_step (command.Count at pattern) = counted_at (find_ref state at) _ (λ k. counted)
  each_step (command.Added named) = counted_at (find_layer state named) _ (λ k. counted)
  each_step (command.Removed named) = counted_at (find_layer state named) _ (λ k. counted)
  each_step command.Layers = counted
  each_step command.Labels = counted
  each_step (command.LabelNew name) = counted_puts name (made_label (get state.labels name))
  each_step (command.LabelGet name) = counted_at (find_label state name) _ (λ label. counted)
  each_step (command.LabelSet name version to) =
      counted_at (find_label state name) _ (λ label. counted_at (find_target state to) _ (λ layer. counted_puts name (moved_label (Some label) version layer)))
  each_step (command.Squash at) = counted_at (find_ref state at) _ (λ k. counted_makes (squashed_layer state.history k))
  each_step (command.OpenCursor name at pattern) = counted_at (find_ref state at) _ (λ k. counted_at (opening state.cursors name) _ (λ _. counted))
  each_step (command.Fetch name n) = counted_at (find_cursor state name) _ (λ left. counted)
  each_step (command.CloseCursor name) = counted_at (find_cursor state name) _ (λ left. counted)

-- where each term of a well kept history has a number, it has one after a step
pub counted_after : (state : State) (asked : Command) → IsWellKept state.history → AreCounted state.history → AreCounted (step_of state asked).state.history
counted_after state asked kept counted = each_step state kept counted asked
