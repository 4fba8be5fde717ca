-- What a state keeps it keeps after each step.
use Rattle.std.proofs.Common.{◌≡◌, ℕ, ◌+◌, ◌-◌, ◌<◌, ◌≤◌, ◌^◌, Bool, true, false, ◌&&◌, ◌||◌, not, nat_lt, cond, List, [], ◌∷◌, drop, map, All, Option, Some, None, IfSome, IsTrue, Result, Ok, Err, true≢false, refl, sym, ap, ◌∙◌, subst, arith}
use Rattle.std.specs.Bool.{if◌then◌else◌}
use Rattle.std.specs.Option.{is_some}
use Rattle.std.specs.List.{list_any}
use Rattle.std.specs.Ordering.{nat_cmp, eq_by_cmp, is_eq}
use Rattle.std.specs.Cmp.{nat_cmp_total, Equal-is, tied_itself}
use Rattle.std.specs.Cmp.Lexicographic.{nat_list_cmp_total}
use Rattle.std.specs.FinMap.{empty, get, insert, keys, len, len-insert, len-remove, remove, contains_key, contains_key-keys, get-insert, nat_cmp-IsAntisymmetric}
use Rattle.std.proofs.lemmas.Bool.{ltb-true}
use Rattle.std.proofs.lemmas.List.Elements.{All-map}
use Rattle.ts_labels.specs.Moves.{made_label, moved_label}
use Rattle.ts_labels.specs.declared.label.Label.{Label}
use Rattle.ts_labels.specs.declared.label_error.LabelError.{LabelError}
use Rattle.ts_model.specs.declared.signed.SignedTriple.{SignedTriple}
use Rattle.ts_model.specs.History.{History, LayerRecord, IsWellKept, chain_of, content_at, content_at_parent}
use Rattle.ts_model.specs.Listing.{select}
use Rattle.ts_model.specs.NetChange.{added, body_triples, is_added, last_sign, net_additions}
use Rattle.ts_model.specs.Order.{triple_cmp, triple_cmp_total, triple_cmp-IsAntisymmetric}
use Rattle.ts_model.specs.Sets.{SetOf, contains}
use Rattle.ts_model.specs.TextTriple.{TextTriple, IsTriple}
use Rattle.ts_model.proofs.SetAlgebra.{contains-empty, contains-difference}
use Rattle.ts_model.proofs.SetLaws.{contains-from_list, contains-retain}
use Rattle.ts_plain.proofs.AmongLaws.{among_has}
use Rattle.ts_plain.proofs.GrowthLaws.{IsLayerKept-new, IsWellKept-grown, ParentStands}
use Rattle.ts_plain.proofs.NetLaws.{addition_is_new, removal_is_there}
use Rattle.ts_script.specs.Replies.{reply_text}
use Rattle.ts_script.specs.declared.command.Command.{Command}
use Rattle.ts_script.specs.declared.command.Command.TheVariants as command
use Rattle.ts_script.specs.declared.command.LayerRef.{LayerRef}
use Rattle.ts_script.specs.declared.command.LayerRef.TheVariants.{Number, Last}
use Rattle.ts_script.specs.declared.command.Ref.{Ref}
use Rattle.ts_script.specs.declared.command.Ref.TheVariants.{Layer as AtLayer, Label as AtLabel}
use Rattle.ts_script.specs.declared.reply.Reply.TheVariants as reply
use Rattle.ts_script.specs.declared.reply.Refusal.{Refusal}
use Rattle.ts_script.specs.declared.reply.Refusal.TheVariants as refusal
use Rattle.ts_store.specs.Cursors.{Cursors, most_cursors}
use Rattle.ts_store.specs.Fetches.{closes, fetches, opening, opens, with_cursors}
use Rattle.ts_store.specs.KeptState.{IsKeptState, IsProperCommand}
use Rattle.ts_store.specs.Makes.{base_layer, child_layer, greatest_of, has_room, is_counted_at, makes, next_number, squashed_layer, with_layer, with_newest}
use Rattle.ts_store.specs.Named.{IsLabelOf}
use Rattle.ts_store.specs.Puts.{puts, with_label}
use Rattle.ts_store.specs.Resolve.{find_cursor, find_label, find_layer, find_ref, find_target, layer_named, resolve, some_layer}
use Rattle.ts_store.specs.State.{State}
use Rattle.ts_store.specs.Step.{step_of}
use Rattle.ts_store.specs.Stepped.{Stepped, at_found, does, refuses}
use Rattle.ts_store.specs.Stands.{AreCounted}
use Rattle.ts_store.proofs.CountedLaws.{counted_makes}
use Rattle.ts_store.proofs.LabelLaws.{found_some, made_is, made_new, moved_is, named_grown, named_put}
use Rattle.ts_store.proofs.NumberLaws.{next_above, next_is_new}
use Rattle.ts_store.proofs.PlainLayers.{and_first, content_triple}

-- ---- the triples of a new layer

-- a triple that a body adds is one of its lines
body_triple : (body : List SignedTriple) → All (λ line. IsTriple line.triple) body → (before : SetOf triple_cmp) (q : TextTriple) → IsTrue (contains (net_additions before body) q) → IsTriple q
body_triple body triples before q has =
    let is_last : Bool = is_added (last_sign body q) in
    let one : IsTrue (contains (added body) q) =
    and_first (contains (added body) q) (not (contains before q)) (sym (contains-difference triple_cmp triple_cmp_total triple_cmp-IsAntisymmetric (added body) before q) ∙ has) in
    let kept : contains (added body) q ≡ (contains (body_triples body) q && is_last) =
    contains-retain triple_cmp (body_triples body) (λ triple. is_added (last_sign body triple)) q (λ x e. ap (λ triple. is_added (last_sign body triple)) (sym (triple_cmp-IsAntisymmetric q x e))) in
    let two : IsTrue (contains (body_triples body) q) = and_first (contains (body_triples body) q) is_last (sym kept ∙ one) in
    among_has IsTriple (map (λ line. line.triple) body) q (All-map IsTriple (λ (line : SignedTriple). line.triple) body triples) (sym (contains-from_list triple_cmp triple_cmp_total (map (λ line. line.triple) body) q) ∙ two)

-- ---- one layer more

-- a layer that can be made over a parent, or over nothing
record IsMakeable (history : History) (layer : LayerRecord) : Type 0 where
  parent : ParentStands history layer.parent
  triples : (q : TextTriple) → IsTrue (contains layer.additions q) → IsTriple q
  base : layer.parent ≡ None → layer.removals ≡ empty
  removed : (q : TextTriple) → IsTrue (contains layer.removals q) → IsTrue (contains (content_at_parent history layer.parent) q)
  added : (q : TextTriple) → IsTrue (contains layer.additions q) → contains (content_at_parent history layer.parent) q ≡ false

base_is : (history : History) (body : List SignedTriple) → All (λ line. IsTriple line.triple) body → IsMakeable history (base_layer body)
base_is history body triples = record {
  parent = tt;
  triples = body_triple body triples empty;
  base = λ e. refl;
  removed = λ q has. absurd (true≢false (sym has ∙ contains-empty triple_cmp q));
  added = λ q has. contains-empty triple_cmp q;
}

child_is : (history : History) (k : ℕ) (body : List SignedTriple) → All (λ line. IsTriple line.triple) body → IsTrue (contains_key history k) → IsMakeable history (child_layer history k body)
child_is history k body triples stands = record {
  parent = stands;
  triples = body_triple body triples (content_at history k);
  base = λ e. let none : ⊥ = cc in absurd none;
  removed = λ q has. removal_is_there (content_at history k) body q has;
  added = λ q has. addition_is_new (content_at history k) body q has;
}

squashed_is : (history : History) (k : ℕ) → IsWellKept history → IsMakeable history (squashed_layer history k)
squashed_is history k kept = record {
  parent = tt;
  triples = λ q has. content_triple history kept (chain_of history k) q has;
  base = λ e. refl;
  removed = λ q has. absurd (true≢false (sym has ∙ contains-empty triple_cmp q));
  added = λ q has. contains-empty triple_cmp q;
}

-- the greatest number of a history that has one more is that one
no_greater : (xs : List ℕ) (n : ℕ) → ((k : ℕ) → list_any (eq_by_cmp nat_cmp k) xs ≡ true → k ≤ n) → greatest_of xs ≤ n
no_greater [] n each = omega arith
no_greater (x ∷ xs) n each =
    let first : x ≤ n = each x (ap (λ b. b || list_any (eq_by_cmp nat_cmp x) xs) (itself x)) in
    let later : greatest_of xs ≤ n = no_greater xs n (λ k is. each k (ap (λ b. eq_by_cmp nat_cmp k x || b) is ∙ or_true (eq_by_cmp nat_cmp k x))) in
    omega arith
  where
    itself : (k : ℕ) → eq_by_cmp nat_cmp k k ≡ true
    itself k = ap is_eq (tied_itself nat_cmp_total k)

    or_true : (b : Bool) → (b || true) ≡ true
    or_true true = refl
    or_true false = refl

module _ (history : History) (layer : LayerRecord) where
  abbrev n : ℕ
  n = next_number history

  new_stands : IsTrue (contains_key (with_layer history layer) n)
  new_stands = ap is_some (get-insert nat_cmp_total history n layer n ∙ ap (λ r. cond (is_eq r) (Some layer) (get history n)) (tied_itself nat_cmp_total n))

  at_most : (k : ℕ) → IsTrue (contains_key (with_layer history layer) k) → k ≤ n
  at_most k stands = by_number (eq_by_cmp nat_cmp k n) refl
    where
      by_number : (b : Bool) → eq_by_cmp nat_cmp k n ≡ b → k ≤ n
      by_number true e = let same : k ≡ n = nat_cmp-IsAntisymmetric k n ((Equal-is (nat_cmp k n)).0 e) in omega arith
      by_number false e =
          let old : IsTrue (contains_key history k) = sym (ap is_some (get-insert nat_cmp_total history n layer k ∙ ap (λ b. cond b (Some layer) (get history k)) e)) ∙ stands in
          let below : k < n = next_above history k old in
          omega arith

  new_is_greatest : n ≡ greatest_of (keys (with_layer history layer))
  new_is_greatest =
      let above : greatest_of (keys (with_layer history layer)) ≤ n = no_greater (keys (with_layer history layer)) n (λ k is. at_most k (contains_key-keys (with_layer history layer) k ∙ is)) in
      let below : n < next_number (with_layer history layer) = next_above (with_layer history layer) n new_stands in
      omega arith

-- ---- each step

module _ (state : State) (is : IsKeptState state) where
  with_newest_is : (layer : LayerRecord) → IsMakeable state.history layer → IsTrue (has_room state.history layer) → AreCounted (with_layer state.history layer) → IsKeptState (with_newest state layer)
  with_newest_is layer makeable room counted =
      let new = next_is_new state.history in
      let fits : next_number state.history < 2 ^ 32 =
      ltb-true (next_number state.history) (2 ^ 32) (and_first (nat_lt (next_number state.history) (2 ^ 32)) (is_counted_at (with_layer state.history layer) (next_number state.history)) room) in
      record {
        kept = IsWellKept-grown state.history is.kept (next_number state.history) new layer
            (IsLayerKept-new state.history is.kept (next_number state.history) new layer makeable.parent fits makeable.triples makeable.base makeable.removed makeable.added);
        counted = counted;
        named = named_grown state.history (next_number state.history) layer state.labels is.named;
        few = is.few;
        newest = (new_is_greatest state.history layer, new_stands state.history layer);
      }

  with_label_is : (name : List ℕ) (label : Label) → IsLabelOf state.history name label → IsKeptState (with_label state name label)
  with_label_is name label it = record {
    kept = is.kept;
    counted = is.counted;
    named = named_put state.history state.labels name label is.named it;
    few = is.few;
    newest = is.newest;
  }

  with_cursors_is : (cursors : Cursors) → len cursors ≤ most_cursors → IsKeptState (with_cursors state cursors)
  with_cursors_is cursors few = record { kept = is.kept; counted = is.counted; named = is.named; few = few; newest = is.newest }

  abbrev opening_by : List ℕ → Bool → Bool → Result (Unit {0}) Refusal
  opening_by name taken room = if taken then Err (refusal.CursorTaken name) else (if room then Ok tt else Err refusal.CursorsFull)

  -- one cursor more is open only where there was room
  opens_is : (name : List ℕ) (triples : List TextTriple) → opening state.cursors name ≡ Ok tt → len (insert state.cursors name triples) ≤ most_cursors
  opens_is name triples e = by_room (contains_key state.cursors name) (nat_lt (len state.cursors) most_cursors) refl refl e
    where
      by_room : (taken room : Bool) → contains_key state.cursors name ≡ taken → nat_lt (len state.cursors) most_cursors ≡ room → opening_by name taken room ≡ Ok tt → len (insert state.cursors name triples) ≤ most_cursors
      by_room true room t r o = let none : ⊥ = cc in absurd none
      by_room false false t r o = let none : ⊥ = cc in absurd none
      by_room false true t r o =
          let below : len state.cursors < most_cursors = ltb-true (len state.cursors) most_cursors r in
          let one : len (insert state.cursors name triples) ≡ len state.cursors + 1 = len-insert nat_list_cmp_total state.cursors name triples ∙ ap (λ b. cond b (len state.cursors) (len state.cursors + 1)) t in
          omega arith

  -- a cursor that is open stays one
  fetches_is : (name : List ℕ) (left more : List TextTriple) → find_cursor state name ≡ Ok left → len (insert state.cursors name more) ≤ most_cursors
  fetches_is name left more e =
      let open_now : contains_key state.cursors name ≡ true = ap is_some (found_some (refusal.NoCursor name) (get state.cursors name) left e) in
      let same : len (insert state.cursors name more) ≡ len state.cursors = len-insert nat_list_cmp_total state.cursors name more ∙ ap (λ b. cond b (len state.cursors) (len state.cursors + 1)) open_now in
      omega (arith, is.few)

  closes_is : (name : List ℕ) → len (remove state.cursors name) ≤ most_cursors
  closes_is name = by_open (contains_key state.cursors name) (len-remove nat_list_cmp_total state.cursors name)
    where
      by_open : (b : Bool) → len (remove state.cursors name) ≡ cond b (len state.cursors - 1) (len state.cursors) → len (remove state.cursors name) ≤ most_cursors
      by_open true e = omega (arith, is.few)
      by_open false e = omega (arith, is.few)

  makes_is : (layer : LayerRecord) → IsMakeable state.history layer → IsKeptState (makes state layer).state
  makes_is layer makeable = by_room (has_room state.history layer) refl (counted_makes state is.kept is.counted layer)
    where
      made : Bool → Stepped
      made room =
          if room
          then does (with_newest state layer) (reply_text (reply.Layer (next_number state.history)))
          else refuses state refusal.Full

      by_room : (room : Bool) → has_room state.history layer ≡ room → AreCounted (made room).state.history → IsKeptState (made room).state
      by_room true e counted = with_newest_is layer makeable e counted
      by_room false e counted = is

  puts_is : (name : List ℕ) (next : Result Label LabelError) → ((label : Label) → next ≡ Ok label → IsLabelOf state.history name label) → IsKeptState (puts state name next).state
  puts_is name (Ok label) each = with_label_is name label (each label refl)
  puts_is name (Err error) each = is

  at_found_is : {A : Type 0} (found : Result A Refusal) (step : A → Stepped) → ((a : A) → found ≡ Ok a → IsKeptState (step a).state) → IsKeptState (at_found state found step).state
  at_found_is (Ok a) step each = each a refl
  at_found_is (Err given) step each = is

  asks_is : {A : Type 0} (found : Result A Refusal) (told : A → List ℕ) → IsKeptState (at_found state found (λ a. does state (told a))).state
  asks_is found told = at_found_is found (λ a. does state (told a)) (λ a e. is)

  -- what is named stands
  resolved : (named : LayerRef) (k : ℕ) → resolve state named ≡ Some k → IsTrue (contains_key state.history k)
  resolved (Number n) k e = by_number (contains_key state.history n) refl e
    where
      by_number : (b : Bool) → contains_key state.history n ≡ b → (if b then Some n else None) ≡ Some k → IsTrue (contains_key state.history k)
      by_number true stands e = let same : n ≡ k = cc in subst (λ m. IsTrue (contains_key state.history m)) same stands
      by_number false stands e = let none : ⊥ = cc in absurd none
  resolved Last k e = (subst (λ (o : Option ℕ). IfSome o (λ k. (k ≡ greatest_of (keys state.history)) × IsTrue (contains_key state.history k))) e is.newest).1

  layer_stands : (named : LayerRef) (k : ℕ) → find_layer state named ≡ Ok k → IsTrue (contains_key state.history k)
  layer_stands named k e = resolved named k (found_some (refusal.NoLayer named) (resolve state named) k e)

  label_is : (name : List ℕ) (label : Label) → find_label state name ≡ Ok label → IsLabelOf state.history name label
  label_is name label e = is.named name label (found_some (refusal.NoLabel name) (get state.labels name) label e)

  ref_stands : (at : Ref) (k : ℕ) → find_ref state at ≡ Ok k → IsTrue (contains_key state.history k)
  ref_stands (AtLayer named) k e = layer_stands named k e
  ref_stands (AtLabel name) k e = of_label (find_label state name) refl e
    where
      of_label : (found : Result Label Refusal) → find_label state name ≡ found → layer_named name found ≡ Ok k → IsTrue (contains_key state.history k)
      of_label (Err given) f e = let none : ⊥ = cc in absurd none
      of_label (Ok label) f e =
          let layer : label.layer ≡ Some k = found_some (refusal.EmptyLabel name) label.layer k e in
          subst (λ (o : Option ℕ). IfSome o (λ k. IsTrue (contains_key state.history k))) layer (label_is name label f).stands

  target_stands : (to : Option LayerRef) (layer : Option ℕ) → find_target state to ≡ Ok layer → IfSome layer (λ k. IsTrue (contains_key state.history k))
  target_stands None None e = tt
  target_stands None (Some k) e = let none : ⊥ = cc in absurd none
  target_stands (Some named) layer e = of_layer (find_layer state named) refl e
    where
      of_layer : (found : Result ℕ Refusal) → find_layer state named ≡ found → some_layer found ≡ Ok layer → IfSome layer (λ k. IsTrue (contains_key state.history k))
      of_layer (Err given) f e = let none : ⊥ = cc in absurd none
      of_layer (Ok k) f e = let same : Some k ≡ layer = cc in subst (λ (o : Option ℕ). IfSome o (λ k. IsTrue (contains_key state.history k))) same (layer_stands named k f)

  each_step : (asked : Command) → IsProperCommand asked → IsKeptState (step_of state asked).state
  each_step (command.BadCommand line) proper = is
  each_step (command.BadTriple line) proper = is
  each_step (command.TooLong line) proper = is
  each_step (command.Unfinished line) proper = is
  each_step (command.Base body) proper = makes_is (base_layer body) (base_is state.history body proper)
  each_step (command.Commit at body) proper =
      at_found_is (find_ref state at) (λ k. makes state (child_layer state.history k body)) (λ k e. makes_is (child_layer state.history k body) (child_is state.history k body proper (ref_stands at k e)))
  each_step (command.Listing at pattern) proper = asks_is (find_ref state at) _
  each_step (command.Has at triple) proper = asks_is (find_ref state at) _
  each_step (command.Count at pattern) proper = asks_is (find_ref state at) _
  each_step (command.Added named) proper = asks_is (find_layer state named) _
  each_step (command.Removed named) proper = asks_is (find_layer state named) _
  each_step command.Layers proper = is
  each_step command.Labels proper = is
  each_step (command.LabelNew name) proper =
      puts_is name (made_label (get state.labels name)) (λ label e. subst (IsLabelOf state.history name) (made_new (get state.labels name) label e) (made_is state.history name proper))
  each_step (command.LabelGet name) proper = asks_is (find_label state name) _
  each_step (command.LabelSet name version to) proper =
      at_found_is (find_label state name) (λ label. at_found state (find_target state to) (λ layer. puts state name (moved_label (Some label) version layer))) (λ label f.
      at_found_is (find_target state to) (λ layer. puts state name (moved_label (Some label) version layer)) (λ layer t.
      puts_is name (moved_label (Some label) version layer) (moved_is state.history is.kept name label (label_is name label f) version layer (target_stands to layer t))))
  each_step (command.Squash at) proper = at_found_is (find_ref state at) (λ k. makes state (squashed_layer state.history k)) (λ k e. makes_is (squashed_layer state.history k) (squashed_is state.history k is.kept))
  each_step (command.OpenCursor name at pattern) proper =
      at_found_is (find_ref state at) (λ k. at_found state (opening state.cursors name) (λ _. opens state name (select state.history k pattern))) (λ k e.
      at_found_is (opening state.cursors name) (λ _. opens state name (select state.history k pattern)) (λ u o.
      with_cursors_is (insert state.cursors name (select state.history k pattern)) (opens_is name (select state.history k pattern) o)))
  each_step (command.Fetch name n) proper =
      at_found_is (find_cursor state name) (fetches state name n) (λ left e. with_cursors_is (insert state.cursors name (drop n left)) (fetches_is name left (drop n left) e))
  each_step (command.CloseCursor name) proper = at_found_is (find_cursor state name) (λ _. closes state name) (λ left e. with_cursors_is (remove state.cursors name) (closes_is name))

pub keeps_state : (state : State) (asked : Command) → IsProperCommand asked → IsKeptState state → IsKeptState (step_of state asked).state
keeps_state state asked proper is = each_step state is asked proper
