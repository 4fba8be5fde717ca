-- The header of a rollup counts what is new in the parts that it stands for.
use Rattle.std.proofs.Common.{◌≡◌, ◌≢◌, ℕ, ◌+◌, ◌-◌, ◌<◌, ◌≤◌, List, [], ◌∷◌, ◌++◌, All, Contains, IfSome, Some, length, map, slice_get, sum, refl, sym, ap, ◌∙◌, subst, arith, length-append}
use Rattle.std.specs.Bool.{⊤}
use Rattle.std.proofs.lemmas.List.Elements.{All-contains, All-head, All-tail, Contains-append_left}
use Rattle.std.proofs.lemmas.List.Sums.{sum_by-cons}
use Rattle.std.proofs.lemmas.Option.{slice_get_within}
use Rattle.ts_model.specs.declared.term.TermKind.TheVariants.{Node, Value}
use Rattle.ts_model.specs.TextTerm.{TextTerm}
use Rattle.ts_part.specs.Facts.{Facts, entries_of}
use Rattle.ts_part.specs.Header.{HasHeader, header_of}
use Rattle.ts_part.specs.Part.{HasKinds}
use Rattle.ts_part.specs.Rules.{KeepsRules}
use Rattle.ts_part.proofs.EntryLemmas.{first_entry, kind_of, node_entry, second_entry, value_entry}
use Rattle.ts_chain.specs.Chain.{AreLinked, predicates_in, terms_in}
use Rattle.ts_chain.specs.Views.{NamesTerm}
use Rattle.ts_rollup.specs.Rolled.{AreNumbered, IsRolled}
use Rattle.ts_rollup.specs.Sums.{AreAbove, HasSums, new_predicates_of, nodes_of, values_of}
use Rattle.ts_rollup.proofs.NewerParts.{IsOwn, no_more}

-- ---- totals

-- the numbers of each part begin behind the totals of the parts behind it
abbrev Start : List Facts → Type 0
Start [] = ⊤
Start (part ∷ parts) = (part.terms_before ≡ terms_in parts) × (part.predicates_before ≡ predicates_in parts) × Start parts

start : (parts : List Facts) → All KeepsRules parts → AreLinked parts → Start parts
start [] rules linked = tt
start (part ∷ []) rules linked = (let base = (All-head KeepsRules part [] rules).lists.header.placed.base linked in (base.0, base.1, tt))
start (part ∷ next ∷ parts) rules linked = (linked.0.terms, linked.0.predicates, start (next ∷ parts) (All-tail KeepsRules part (next ∷ parts) rules) linked.1)

terms_add : (newer below : List Facts) → Start (newer ++ below) → terms_in (newer ++ below) ≡ terms_in below + nodes_of newer + values_of newer
terms_add [] below starts = omega arith
terms_add (part ∷ newer) below starts =
    let rest = terms_add newer below starts.2 in
    let nodes = sum_by-cons (λ n. n) (length part.nodes) (map (λ (part : Facts). length part.nodes) newer) in
    let values = sum_by-cons (λ n. n) (length part.values) (map (λ (part : Facts). length part.values) newer) in
    omega (arith, starts.0, rest, nodes, values)

predicates_add : (newer below : List Facts) → Start (newer ++ below) → predicates_in (newer ++ below) ≡ predicates_in below + new_predicates_of newer
predicates_add [] below starts = omega arith
predicates_add (part ∷ newer) below starts =
    let rest = predicates_add newer below starts.2 in
    let more = sum_by-cons (λ n. n) (length part.predicates) (map (λ (part : Facts). length part.predicates) newer) in
    omega (arith, starts.1, rest, more)

-- ---- what the rollup has

module _ (lower upper : List Facts) (facts : Facts) (rolled : IsRolled lower upper facts) (newer : List Facts) (above : AreAbove lower upper newer) where
  kinds : HasKinds facts
  kinds = record {
    nodes = rolled.node_kinds;
    predicates = rolled.predicate_kinds;
    values = rolled.value_kinds;
    parent = λ none. omega (arith, (subst (λ parent. IfSome parent (λ a. (1 ≤ a) × (a < facts.number))) none rolled.header.placed.parent).0);
  }

  numbered : AreNumbered (NamesTerm upper) (terms_in above.below) (terms_in upper) (entries_of facts) facts.term_map
  numbered = subst (λ low. AreNumbered (NamesTerm upper) low (terms_in upper) (entries_of facts) facts.term_map) (sym above.terms) rolled.terms

  rules_in : (part : Facts) → Contains newer part → KeepsRules part
  rules_in part among = All-contains KeepsRules upper part rolled.chain.rules (subst (λ l. Contains l part) (sym above.parts) (Contains-append_left newer above.below part among))

  nodes_within : nodes_of newer ≤ length facts.nodes
  nodes_within =
      no_more (λ part. 0) (λ part. length part.nodes) (λ part. omega arith) upper newer above.below rolled.chain above.parts (entries_of facts) facts.term_map numbered 0 (length facts.nodes)
      (λ i term stands found same.
      let part = found.1.part in
      let low : found.1.entry < length part.nodes = omega (arith, found.1.most) in
      let node : found.1.term.kind ≡ Node =
      kind_of Node part.nodes found.1.entry found.1.term (rules_in part found.1.among).lists.nodes.kinds (sym (first_entry part.nodes part.values found.1.entry low) ∙ found.1.stands) in
      (omega arith, omega (arith, node_entry facts i term kinds stands (sym (ap (λ (t : TextTerm). t.kind) same) ∙ node))))

  values_within : values_of newer ≤ length facts.values
  values_within =
      no_more (λ part. length part.nodes) (λ part. length part.values) (λ part. omega arith) upper newer above.below rolled.chain above.parts (entries_of facts) facts.term_map numbered
      (length facts.nodes) (length facts.values)
      (λ i term stands found same.
      let part = found.1.part in
      let place : ℕ = found.1.entry - length part.nodes in
      let low : place < length part.values = omega (arith, found.1.least, found.1.most) in
      let e : length part.nodes + place ≡ found.1.entry = omega (arith, found.1.least) in
      let value : found.1.term.kind ≡ Value =
      kind_of Value part.values place found.1.term (rules_in part found.1.among).lists.values.kinds
      (sym (second_entry part.nodes part.values place low) ∙ ap (slice_get (entries_of part)) e ∙ found.1.stands) in
      let at = value_entry facts i term kinds stands (sym (ap (λ (t : TextTerm). t.kind) same) ∙ value) in
      let within = slice_get_within facts.values (i - length facts.nodes) term at.1 in
      (at.0, omega (arith, at.0, within)))

  starts : Start (newer ++ above.below)
  starts = subst Start above.parts (start upper rolled.chain.rules rolled.chain.linked)

  pub sums : (file : List ℕ) → HasHeader file (header_of facts (length file)) → HasSums newer file
  sums file has =
      let terms = ap terms_in above.parts ∙ terms_add newer above.below starts in
      let predicates = ap predicates_in above.parts ∙ predicates_add newer above.below starts in
      let long = length-append facts.nodes facts.values in
      record {
        header = header_of facts (length file);
        begins = has;
        nodes = omega (arith, nodes_within, values_within, terms, above.terms, rolled.terms.as_many, long);
        values = omega (arith, nodes_within, values_within, terms, above.terms, rolled.terms.as_many, long);
        predicates = omega (arith, predicates, above.predicates, rolled.predicates.as_many);
      }
