-- The terms of a layer are those that a layer of its chain mentions.
use Rattle.std.proofs.Common.{◌≡◌, ◌≢◌, ℕ, ◌⊎◌, inl, inr, Bool, true, false, ◌||◌, List, [], ◌∷◌, flat_map, map, Option, Some, None, refl, sym, ap, ◌∙◌, true≢false, arith}
use Rattle.std.specs.Option.{option_map}
use Rattle.std.specs.Ordering.{eq_by_cmp}
use Rattle.std.specs.Cmp.{Equal-is}
use Rattle.std.specs.List.{list_any, AllByRecursion}
use Rattle.std.specs.FinMap.{get}
use Rattle.std.proofs.lemmas.List.Folds.{list_any-append}
use Rattle.ts_model.specs.declared.term.TermKind.{TermKind}
use Rattle.ts_model.specs.declared.term.TermKind.TheVariants.{Node, Predicate, Value}
use Rattle.ts_model.specs.TextTerm.{TextTerm}
use Rattle.ts_model.specs.TextTriple.{TextTriple, HasKinds, IsTriple}
use Rattle.ts_model.specs.Order.{kind_place, term_cmp, term_cmp_total, term_cmp-IsAntisymmetric, triple_cmp, triple_cmp_total}
use Rattle.ts_model.specs.Sets.{contains, members}
use Rattle.ts_model.specs.History.{LayerRecord, History, IsWellKept, additions_at, set_or_none, chain_of}
use Rattle.ts_model.specs.Birth.{is_term, has_term, mentions}
use Rattle.ts_model.proofs.ListLaws.{list_any-map}
use Rattle.ts_model.proofs.SetLaws.{contains-members, contains-from_list}
use Rattle.ts_model.proofs.SetAlgebra.{contains-empty}
use Rattle.ts_model.proofs.HistoryLaws.{chain_from}
use Rattle.ts_part.specs.Numbers.{numbered_with}
use Rattle.ts_part.proofs.Ranks.{each_among}

-- ---- lists

list_any-flat_map : {A B : Type 0} (p : B → Bool) (f : A → List B) (xs : List A) → list_any p (flat_map f xs) ≡ list_any (λ x. list_any p (f x)) xs
list_any-flat_map p f [] = refl
list_any-flat_map p f (x ∷ xs) = list_any-append p (f x) (flat_map f xs) ∙ ap (λ b. list_any p (f x) || b) (list_any-flat_map p f xs)

list_any-agree : {A : Type 0} (p q : A → Bool) (xs : List A) → AllByRecursion (λ x. p x ≡ q x) xs → list_any p xs ≡ list_any q xs
list_any-agree p q [] h = refl
list_any-agree p q (x ∷ xs) h = λ i. h.0 i || list_any-agree p q xs h.1 i

none_passes : {A : Type 0} (xs : List A) → list_any (λ x. false) xs ≡ false
none_passes [] = refl
none_passes (x ∷ xs) = none_passes xs

or_false : (b : Bool) → (b || false) ≡ b
or_false true = refl
or_false false = refl

-- ---- terms of triples

pub same_term : (x y : TextTerm) → is_term x y ≡ true → x ≡ y
same_term x y e = term_cmp-IsAntisymmetric x y ((Equal-is (term_cmp x y)).0 e)

-- a term of one kind is no term of another
other_kind : (x y : TextTerm) (kind other : TermKind) → x.kind ≡ kind → y.kind ≡ other → kind ≢ other → is_term x y ≡ false
other_kind x y kind other mine theirs differ =
    elim (is_term x y) as (λ b. is_term x y ≡ b → b ≡ false) [
      | true ↦ λ e. absurd (differ (sym mine ∙ ap (λ (term : TextTerm). term.kind) (same_term x y e) ∙ theirs))
      | false ↦ λ e. refl
    ] refl

apart : (kind other : TermKind) → kind_place kind ≢ kind_place other → kind ≢ other
apart kind other differ e = differ (ap kind_place e)

node_or_value : (kind : TermKind) → (kind ≡ Node) ⊎ (kind ≡ Value) → kind ≢ Predicate
node_or_value kind (inl node) e = apart Node Predicate (λ e. omega arith) (sym node ∙ e)
node_or_value kind (inr value) e = apart Value Predicate (λ e. omega arith) (sym value ∙ e)

abbrev Kinds : TextTriple → Type 0
Kinds triple = HasKinds triple.subject triple.predicate triple.object

-- the subject or the object
abbrev is_end : TextTerm → TextTriple → Bool
is_end term triple = is_term term triple.subject || (is_term term triple.object || false)

abbrev is_predicate : TextTerm → TextTriple → Bool
is_predicate term triple = is_term term triple.predicate

ends_of_term : (term : TextTerm) → (term.kind ≡ Node) ⊎ (term.kind ≡ Value) → (triple : TextTriple) → Kinds triple → is_end term triple ≡ has_term term triple
ends_of_term term kind triple kinds =
    let not_there : is_term term triple.predicate ≡ false = other_kind term triple.predicate term.kind Predicate refl kinds.1 (node_or_value term.kind kind) in
    joined (is_term term triple.subject) (is_term term triple.predicate) (is_term term triple.object) not_there
  where
    joined : (a b c : Bool) → b ≡ false → (a || (c || false)) ≡ (a || b || c)
    joined true b c e = refl
    joined false b c e = or_false c ∙ ap (λ b. b || c) (sym e)

ends_of_predicate : (term : TextTerm) → term.kind ≡ Predicate → (triple : TextTriple) → Kinds triple → is_end term triple ≡ false
ends_of_predicate term kind triple kinds =
    let subject : is_term term triple.subject ≡ false = other_kind term triple.subject Predicate Node kind kinds.0 (apart Predicate Node (λ e. omega arith)) in
    let object : is_term term triple.object ≡ false = other_kind term triple.object Predicate triple.object.kind kind refl (λ e. node_or_value triple.object.kind kinds.2 (sym e)) in
    λ i. subject i || (object i || false)

predicate_of_term : (term : TextTerm) → (term.kind ≡ Node) ⊎ (term.kind ≡ Value) → (triple : TextTriple) → Kinds triple → is_predicate term triple ≡ false
predicate_of_term term kind triple kinds = other_kind term triple.predicate term.kind Predicate refl kinds.1 (node_or_value term.kind kind)

predicate_of_predicate : (term : TextTerm) → term.kind ≡ Predicate → (triple : TextTriple) → Kinds triple → is_predicate term triple ≡ has_term term triple
predicate_of_predicate term kind triple kinds =
    let ends : is_end term triple ≡ false = ends_of_predicate term kind triple kinds in
    joined (is_term term triple.subject) (is_term term triple.predicate) (is_term term triple.object) ends
  where
    joined : (a b c : Bool) → (a || (c || false)) ≡ false → b ≡ (a || b || c)
    joined true b c e = absurd (true≢false e)
    joined false true c e = refl
    joined false false true e = absurd (true≢false e)
    joined false false false e = refl

-- nodes and values are numbered together
pub numbered_as_node : (history : History) (at : Option ℕ) (kind : TermKind) → (kind ≡ Node) ⊎ (kind ≡ Value) → numbered_with kind history at ≡ numbered_with Node history at
numbered_as_node history at kind (inl node) = ap (λ other. numbered_with other history at) node
numbered_as_node history at kind (inr value) = ap (λ other. numbered_with other history at) value

-- ---- along a chain

module _ (history : History) (kept : IsWellKept history) where
  pub added_triple : (j : ℕ) (triple : TextTriple) → list_any (eq_by_cmp triple_cmp triple) (members (additions_at history j)) ≡ true → IsTriple triple
  added_triple j triple there = by_record (get history j) refl
    where
      by_record : (o : Option LayerRecord) → get history j ≡ o → IsTriple triple
      by_record None none =
          let nothing : contains (additions_at history j) triple ≡ false = ap (λ o. contains (set_or_none (option_map (λ (layer : LayerRecord). layer.additions) o)) triple) none ∙ contains-empty triple_cmp triple in
          absurd (true≢false (sym there ∙ sym (contains-members triple_cmp (additions_at history j) triple) ∙ nothing))
      by_record (Some layer) is =
          let here : contains layer.additions triple ≡ true =
          ap (λ o. contains (set_or_none (option_map (λ (layer : LayerRecord). layer.additions) o)) triple) (sym is) ∙ contains-members triple_cmp (additions_at history j) triple ∙ there in
          (kept j layer is).triples triple here

  -- tests that agree on triples agree on a layer's additions
  agree : (p q : TextTriple → Bool) → ((triple : TextTriple) → Kinds triple → p triple ≡ q triple) → (j : ℕ) → list_any p (members (additions_at history j)) ≡ list_any q (members (additions_at history j))
  agree p q same j =
      list_any-agree p q (members (additions_at history j)) (
      each_among triple_cmp triple_cmp_total (λ triple. p triple ≡ q triple) (members (additions_at history j)) (λ triple there. same triple (added_triple j triple there).0))

  abbrev additions_of : ℕ → List TextTriple
  additions_of j = members (additions_at history j)

  agree_along : (p q : TextTriple → Bool) → ((triple : TextTriple) → Kinds triple → p triple ≡ q triple) → (chain : List ℕ)
      → list_any p (flat_map additions_of chain) ≡ list_any (λ j. list_any q (additions_of j)) chain
  agree_along p q same chain = list_any-flat_map p additions_of chain ∙ (λ i. list_any (λ j. agree p q same j i) chain)

  none_along : (p : TextTriple → Bool) → ((triple : TextTriple) → Kinds triple → p triple ≡ false) → (chain : List ℕ) → list_any p (flat_map additions_of chain) ≡ false
  none_along p none chain =
      agree_along p (λ triple. false) none chain ∙ (λ i. list_any (λ j. none_passes (additions_of j) i) chain) ∙ none_passes chain

  abbrev ends_along : List ℕ → List TextTerm
  ends_along chain = flat_map (λ (triple : TextTriple). triple.subject ∷ triple.object ∷ []) (flat_map additions_of chain)

  among_ends : (term : TextTerm) (k : ℕ) → contains (numbered_with Node history (Some k)) term ≡ list_any (is_end term) (flat_map additions_of (chain_of history k))
  among_ends term k =
      contains-from_list term_cmp term_cmp_total (ends_along (chain_of history k)) term
      ∙ list_any-flat_map (is_term term) (λ (triple : TextTriple). triple.subject ∷ triple.object ∷ []) (flat_map additions_of (chain_of history k))

  among_predicates : (term : TextTerm) (k : ℕ) → contains (numbered_with Predicate history (Some k)) term ≡ list_any (is_predicate term) (flat_map additions_of (chain_of history k))
  among_predicates term k =
      contains-from_list term_cmp term_cmp_total (map (λ (triple : TextTriple). triple.predicate) (flat_map additions_of (chain_of history k))) term
      ∙ list_any-map (is_term term) (λ (triple : TextTriple). triple.predicate) (flat_map additions_of (chain_of history k))

  numbered_at : (term : TextTerm) (kind : TermKind) → term.kind ≡ kind → (k : ℕ) → contains (numbered_with kind history (Some k)) term ≡ list_any (mentions history term) (chain_of history k)
  numbered_at term Node is k = among_ends term k ∙ agree_along (is_end term) (has_term term) (ends_of_term term (inl is)) (chain_of history k)
  numbered_at term Predicate is k = among_predicates term k ∙ agree_along (is_predicate term) (has_term term) (predicate_of_predicate term is) (chain_of history k)
  numbered_at term Value is k = among_ends term k ∙ agree_along (is_end term) (has_term term) (ends_of_term term (inr is)) (chain_of history k)

  pub numbered_nowhere : (kind : TermKind) (term : TextTerm) → contains (numbered_with kind history None) term ≡ false
  numbered_nowhere Node term = contains-empty term_cmp term
  numbered_nowhere Predicate term = contains-empty term_cmp term
  numbered_nowhere Value term = contains-empty term_cmp term

  -- a layer has the terms that its chain mentions
  pub is_numbered : (from : Option ℕ) (term : TextTerm) → contains (numbered_with term.kind history from) term ≡ list_any (mentions history term) (chain_from history from)
  is_numbered None term = numbered_nowhere term.kind term
  is_numbered (Some k) term = numbered_at term term.kind refl k

  -- terms that are numbered together
  abbrev pub Together : TermKind → TextTerm → Type 0
  Together kind term = (from : Option ℕ) → numbered_with kind history from ≡ numbered_with term.kind history from

  no_predicate : (term : TextTerm) (k : ℕ) → term.kind ≡ Predicate → contains (numbered_with Node history (Some k)) term ≡ true → ⊥
  no_predicate term k is there = true≢false (sym there ∙ among_ends term k ∙ none_along (is_end term) (ends_of_predicate term is) (chain_of history k))

  no_term : (term : TextTerm) (k : ℕ) → (term.kind ≡ Node) ⊎ (term.kind ≡ Value) → contains (numbered_with Predicate history (Some k)) term ≡ true → ⊥
  no_term term k is there = true≢false (sym there ∙ among_predicates term k ∙ none_along (is_predicate term) (predicate_of_term term is) (chain_of history k))

  by_kinds : (term : TextTerm) (kind own : TermKind) (k : ℕ) → term.kind ≡ own → contains (numbered_with kind history (Some k)) term ≡ true → (from : Option ℕ) → numbered_with kind history from ≡ numbered_with own history from
  by_kinds term Node Node k is there from = refl
  by_kinds term Node Predicate k is there from = absurd (no_predicate term k is there)
  by_kinds term Node Value k is there from = refl
  by_kinds term Predicate Node k is there from = absurd (no_term term k (inl is) there)
  by_kinds term Predicate Predicate k is there from = refl
  by_kinds term Predicate Value k is there from = absurd (no_term term k (inr is) there)
  by_kinds term Value Node k is there from = refl
  by_kinds term Value Predicate k is there from = absurd (no_predicate term k is there)
  by_kinds term Value Value k is there from = refl

  -- what is numbered with a kind is numbered with its own
  pub numbered_together : (kind : TermKind) (at : Option ℕ) (term : TextTerm) → contains (numbered_with kind history at) term ≡ true → Together kind term
  numbered_together kind None term there = absurd (true≢false (sym there ∙ numbered_nowhere kind term))
  numbered_together kind (Some k) term there = by_kinds term kind term.kind k refl there

  -- what is numbered with nodes is a node or a value, and what is numbered with predicates a predicate
  pub node_or_value_of : (at : Option ℕ) (term : TextTerm) → contains (numbered_with Node history at) term ≡ true → (term.kind ≡ Node) ⊎ (term.kind ≡ Value)
  node_or_value_of None term there = absurd (true≢false (sym there ∙ numbered_nowhere Node term))
  node_or_value_of (Some k) term there = by_kind term.kind refl
    where
      by_kind : (own : TermKind) → term.kind ≡ own → (term.kind ≡ Node) ⊎ (term.kind ≡ Value)
      by_kind Node is = inl is
      by_kind Predicate is = absurd (no_predicate term k is there)
      by_kind Value is = inr is

  pub predicate_of : (at : Option ℕ) (term : TextTerm) → contains (numbered_with Predicate history at) term ≡ true → term.kind ≡ Predicate
  predicate_of None term there = absurd (true≢false (sym there ∙ numbered_nowhere Predicate term))
  predicate_of (Some k) term there = by_kind term.kind refl
    where
      by_kind : (own : TermKind) → term.kind ≡ own → term.kind ≡ Predicate
      by_kind Node is = absurd (no_term term k (inl is) there)
      by_kind Predicate is = is
      by_kind Value is = absurd (no_term term k (inr is) there)
