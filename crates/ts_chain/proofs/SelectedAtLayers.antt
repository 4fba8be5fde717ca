-- A walk over a chain gives what the layer's listing has for the pattern.
use Rattle.std.proofs.Common.{◌≡◌, ◌≢◌, ℕ, ◌==◌, ◌⊎◌, inl, inr, Bool, true, false, ◌&&◌, cond, List, [], ◌∷◌, map, Option, None, Some, IfSome, refl, sym, ap, ◌∙◌, true≢false}
use Rattle.std.specs.List.{AllByRecursion, filter}
use Rattle.std.specs.Cmp.{tied_itself}
use Rattle.std.specs.Ordering.{is_eq}
use Rattle.std.proofs.lemmas.Bool.{eqb-true, eq-eqb}
use Rattle.ts_model.specs.declared.pattern.Pattern.{Pattern}
use Rattle.ts_model.specs.declared.term.TermKind.{TermKind}
use Rattle.ts_model.specs.declared.term.TermKind.TheVariants.{Node, Predicate, Value}
use Rattle.ts_model.specs.TextTerm.{TextTerm}
use Rattle.ts_model.specs.TextTriple.{TextTriple}
use Rattle.ts_model.specs.Order.{term_cmp_total}
use Rattle.ts_model.specs.Birth.{is_term}
use Rattle.ts_model.specs.Fits.{fits, term_fits}
use Rattle.ts_model.specs.Sets.{contains}
use Rattle.ts_model.specs.History.{History, IsWellKept, content_at}
use Rattle.ts_model.specs.Listing.{birth_cmp, listing}
use Rattle.ts_model.proofs.BirthOrder.{birth_cmp_total, birth_cmp-IsAntisymmetric}
use Rattle.ts_plane.specs.declared.pattern.IdPattern.{IdPattern}
use Rattle.ts_plane.specs.declared.triple.IdTriple.{IdTriple}
use Rattle.ts_plane.specs.Pattern.{fits as id_fits, is_after, part_fits, walk_of}
use Rattle.ts_part.specs.Facts.{Facts}
use Rattle.ts_part.specs.Numbers.{IsTermAt, id_triple, id_triples, number_of, numbered_with}
use Rattle.ts_part.proofs.IdOrder.{in_set, node_at, predicate_at}
use Rattle.ts_part.proofs.Mentioned.{same_term}
use Rattle.ts_part.proofs.Places.{number-once}
use Rattle.ts_part.proofs.Ranks.{each_among, place_of}
use Rattle.ts_part.proofs.TripleTerms.{IsTripleAt, content_terms}
use Rattle.ts_chain.specs.Patterns.{IsNumbered, IsPatternBy}
use Rattle.ts_chain.specs.Stands.{StandsFor}
use Rattle.ts_chain.specs.Walks.{selected, walked}
use Rattle.ts_chain.proofs.StepsContent.{steps_content}

-- ---- lists and tests

-- what passes both tests is what passes the second, of what is mapped from what passes the first
filter-map : {X Y : Type 0} (f : X → Y) (a b : Y → Bool) (g : X → Bool) (xs : List X) → AllByRecursion (λ x. a (f x) ≡ g x) xs
    → filter (λ y. a y && b y) (map f xs) ≡ filter b (map f (filter g xs))
filter-map f a b g [] same = refl
filter-map f a b g (x ∷ xs) same =
    let rest = filter-map f a b g xs same.1 in
    ap (λ t. cond (t && b (f x)) (f x ∷ filter (λ y. a y && b y) (map f xs)) (filter (λ y. a y && b y) (map f xs))) same.0
    ∙ (elim (g x) as (λ t. cond (t && b (f x)) (f x ∷ filter (λ y. a y && b y) (map f xs)) (filter (λ y. a y && b y) (map f xs)) ≡ filter b (map f (cond t (x ∷ filter g xs) (filter g xs)))) [
      | true ↦ ap (λ ys. cond (b (f x)) (f x ∷ ys) ys) rest
      | false ↦ rest
    ])

pub other_than : (kind : TermKind) → kind ≢ Predicate → (kind ≡ Node) ⊎ (kind ≡ Value)
other_than Node differs = inl refl
other_than Predicate differs = absurd (differs refl)
other_than Value differs = inr refl

module _ (history : History) (kept : IsWellKept history) (k : ℕ) where
  -- terms that are numbered together are one where their numbers are
  tells : (kind : TermKind) (given other : TextTerm) → contains (numbered_with kind history (Some k)) given ≡ true → contains (numbered_with kind history (Some k)) other ≡ true
      → (number_of history k given == number_of history k other) ≡ is_term given other
  tells kind given other here there = by (is_term given other) refl (number_of history k given == number_of history k other) refl
    where
      by : (one : Bool) → is_term given other ≡ one → (same : Bool) → (number_of history k given == number_of history k other) ≡ same → same ≡ one
      by true is true e = refl
      by false differ false e = refl
      by true is false e =
          absurd (true≢false (sym (eq-eqb (number_of history k given) (number_of history k other) (ap (number_of history k) (same_term given other is))) ∙ e))
      by false differ true e =
          let one : given ≡ other = number-once history kept k kind given other here there (eqb-true (number_of history k given) (number_of history k other) e) in
          absurd (true≢false (sym (ap is_eq (tied_itself term_cmp_total given)) ∙ ap (is_term given) one ∙ differ))

  part_tells : (kind : TermKind) (given : Option TextTerm) (id : Option ℕ) (other : TextTerm) → IfSome given (λ term. IsTermAt history (Some k) term → contains (numbered_with kind history (Some k)) term ≡ true)
      → IsNumbered history k given id → contains (numbered_with kind history (Some k)) other ≡ true → part_fits id (number_of history k other) ≡ term_fits given other
  part_tells kind None None other own is there = refl
  part_tells kind None (Some id) other own is there = absurd is
  part_tells kind (Some given) None other own is there = absurd is
  part_tells kind (Some given) (Some id) other own is there = ap (λ n. n == number_of history k other) is.1 ∙ tells kind given other (own is.0) there

  module _ (wanted : Pattern) (ids : IdPattern) (by : IsPatternBy history k wanted ids) where
    as_node : (given : Option TextTerm) → IfSome given (λ term. term.kind ≢ Predicate) → IfSome given (λ term. IsTermAt history (Some k) term → contains (numbered_with Node history (Some k)) term ≡ true)
    as_node None kind = tt
    as_node (Some term) kind = λ there. node_at history kept (Some k) term (other_than term.kind kind) there

    as_predicate : (given : Option TextTerm) → IfSome given (λ term. term.kind ≡ Predicate) → IfSome given (λ term. IsTermAt history (Some k) term → contains (numbered_with Predicate history (Some k)) term ≡ true)
    as_predicate None kind = tt
    as_predicate (Some term) kind = λ there. predicate_at history kept (Some k) term kind there

    -- a triple of the layer fits where its numbers do
    fits_by_ids : (q : TextTriple) → IsTripleAt history (Some k) q → id_fits ids (id_triple history k q) ≡ fits wanted q
    unfolding id_triple
    fits_by_ids q there =
        let subject = part_tells Node wanted.subject ids.s q.subject (as_node wanted.subject by.kinds.subject) by.subject (node_at history kept (Some k) q.subject (inl there.is.0.0) there.subject) in
        let predicate = part_tells Predicate wanted.predicate ids.p q.predicate (as_predicate wanted.predicate by.kinds.predicate) by.predicate
        (predicate_at history kept (Some k) q.predicate there.is.0.1 there.predicate) in
        let object = part_tells Node wanted.object ids.o q.object (as_node wanted.object by.kinds.object) by.object (node_at history kept (Some k) q.object there.is.0.2 there.object) in
        λ i. subject i && predicate i && object i

    each_fits : AllByRecursion (λ q. id_fits ids (id_triple history k q) ≡ fits wanted q) (listing history k)
    each_fits =
        each_among (birth_cmp history k) (birth_cmp_total history k) (λ q. id_fits ids (id_triple history k q) ≡ fits wanted q) (listing history k) (λ q among.
        let place = place_of (birth_cmp history k) (birth_cmp_total history k) (birth_cmp-IsAntisymmetric history k) (listing history k) q among in
        fits_by_ids q (content_terms history kept (Some k) q (in_set history kept k (content_at history k) place.0 q place.1)))

    walk_selects : (after : Option IdTriple) → walk_of (id_triples history k (content_at history k)) ids after ≡ selected history k wanted after
    unfolding walk_of id_triples
    walk_selects after = filter-map (id_triple history k) (id_fits ids) (is_after after) (fits wanted) (listing history k) each_fits

pub selected_at : (history : History) (k : ℕ) (parts : List Facts) (wanted : Pattern) (ids : IdPattern) (after : Option IdTriple) → StandsFor parts history k
    → IsPatternBy history k wanted ids → walked parts ids after ≡ selected history k wanted after
selected_at history k parts wanted ids after stands by =
    ap (λ triples. walk_of triples ids after) (steps_content history k parts stands) ∙ walk_selects history stands.kept k wanted ids by after
