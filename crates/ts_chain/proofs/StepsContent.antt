-- The triples of parts that stand for a layer are its content, by number.
use Rattle.std.proofs.Common.{◌≡◌, ℕ, Bool, true, false, not, ◌&&◌, ◌||◌, List, [], ◌∷◌, inl, inr, Contains, Option, None, Some, IfSome, IsTrue, refl, sym, ap, ◌∙◌, subst, true≢false}
use Rattle.std.specs.Prelude.{◌↔◌}
use Rattle.std.specs.List.{flat_map}
use Rattle.std.specs.Ordering.{eq_by_cmp}
use Rattle.std.specs.Cmp.{Equal-is}
use Rattle.std.specs.FinMap.{empty}
use Rattle.std.proofs.lemmas.Bool.{and_parts, or_cases, or_left, or_right}
use Rattle.std.proofs.lemmas.Cmp.{eq_by_cmp_equiv}
use Rattle.std.proofs.lemmas.List.Folds.{list_any-append}
use Rattle.std.proofs.lemmas.Map.Views.{Contains-from_any, list_any-from_Contains}
use Rattle.ts_model.specs.TextTriple.{TextTriple}
use Rattle.ts_model.specs.Order.{triple_cmp as text_cmp, triple_cmp_total as text_cmp_total, triple_cmp-IsAntisymmetric as text_cmp-IsAntisymmetric}
use Rattle.ts_model.specs.Sets.{SetOf, contains, retain}
use Rattle.ts_model.specs.History.{History, IsProperAncestor, IsWellKept, content_at, content_at_parent}
use Rattle.ts_model.proofs.SetAlgebra.{contains-difference, contains-empty}
use Rattle.ts_model.proofs.SetLaws.{contains-from_list, contains-retain, members_are}
use Rattle.ts_plane.specs.declared.triple.IdTriple.{IdTriple}
use Rattle.ts_plane.specs.Triple.{triple_cmp}
use Rattle.ts_part.specs.Facts.{Facts}
use Rattle.ts_part.specs.Numbers.{id_triple, id_triples}
use Rattle.ts_part.specs.Step.{gained, lost}
use Rattle.ts_part.proofs.Births.{over_ancestor}
use Rattle.ts_part.proofs.IdOrder.{from_set, id-once, id_triples-plane, to_set}
use Rattle.ts_part.proofs.Numbered.{still_there}
use Rattle.ts_part.proofs.TripleStays.{id_triples-stay}
use Rattle.ts_part.proofs.TripleTerms.{IsTripleAt, content_terms}
use Rattle.ts_chain.specs.Content.{coming_in, has, stands_in, triples_of}
use Rattle.ts_chain.specs.Stands.{AreStepsTo, StandsFor}
use Rattle.ts_chain.proofs.IdOrder.{triple_cmp_total, triple_cmp-IsAntisymmetric}

-- a triple is there now where it comes, or where it was and doesn't go
decided : (here before : Bool) → ((here && not before) || (not (before && not here) && before)) ≡ here
decided true true = refl
decided true false = refl
decided false true = refl
decided false false = refl

nowhere : (gone : Bool) → (false || (not gone && false)) ≡ false
nowhere true = refl
nowhere false = refl

module _ (history : History) (kept : IsWellKept history) where
  -- the triples of an ancestor are of the layer's terms
  pub still_triple : (at : Option ℕ) (k : ℕ) → IfSome at (λ a. IsProperAncestor history a k) → (q : TextTriple) → contains (content_at_parent history at) q ≡ true → IsTripleAt history (Some k) q
  still_triple None k proper q there = absurd (true≢false (sym there ∙ contains-empty text_cmp q))
  still_triple (Some a) k proper q there =
      let was = content_terms history kept (Some a) q there in
      let over = over_ancestor history kept a k proper.0 in
      record {
        is = was.is;
        subject = still_there history kept (Some a) k over q.subject.kind q.subject was.subject;
        predicate = still_there history kept (Some a) k over q.predicate.kind q.predicate was.predicate;
        object = still_there history kept (Some a) k over q.object.kind q.object was.object;
      }

  module _ (k : ℕ) where
    abbrev pub ids : SetOf text_cmp → List IdTriple
    ids set = id_triples history k set

    abbrev pub Here : TextTriple → Type 0
    Here q = IsTripleAt history (Some k) q

    pub has_from : (set : SetOf text_cmp) (t : IdTriple) → has (ids set) t ≡ true → (q : TextTriple) × (contains set q ≡ true) × (id_triple history k q ≡ t)
    has_from set t h =
        from_set history kept k set t (Contains-from_any (λ x y e. triple_cmp-IsAntisymmetric x y ((Equal-is (triple_cmp x y)).0 e)) t (ids set) h)

    pub has_to : (set : SetOf text_cmp) (q : TextTriple) → contains set q ≡ true → has (ids set) (id_triple history k q) ≡ true
    has_to set q is = list_any-from_Contains (eq_by_cmp_equiv triple_cmp_total) (id_triple history k q) (ids set) (to_set history kept k set q is)

    -- the numbers of a triple stand among those of a set exactly where the set has it
    pub has_is : (set : SetOf text_cmp) → ((q : TextTriple) → contains set q ≡ true → Here q) → (q : TextTriple) → Here q → has (ids set) (id_triple history k q) ≡ contains set q
    has_is set here q is =
        elim (contains set q) as (λ b. contains set q ≡ b → has (ids set) (id_triple history k q) ≡ b) [
          | true ↦ λ there. has_to set q there
          | false ↦ λ absent.
              elim (has (ids set) (id_triple history k q)) as (λ b. has (ids set) (id_triple history k q) ≡ b → b ≡ false) [
                | true ↦ λ h.
                    let found = has_from set (id_triple history k q) h in
                    let same : found.0 ≡ q = id-once history kept k found.0 q (here found.0 found.1) is found.2 in
                    absurd (true≢false (sym found.1 ∙ ap (contains set) same ∙ absent))
                | false ↦ λ h. refl
              ] refl
        ] refl

    module _ (from : Option ℕ) (proper : IfSome from (λ a. IsProperAncestor history a k)) where
      abbrev pub before : SetOf text_cmp
      before = content_at_parent history from

      abbrev pub now : SetOf text_cmp
      now = content_at history k

      pub in_gained : (q : TextTriple) → contains (gained history from k) q ≡ (contains now q && not (contains before q))
      in_gained q = contains-difference text_cmp text_cmp_total text_cmp-IsAntisymmetric now before q

      pub in_lost : (q : TextTriple) → contains (lost history from k) q ≡ (contains before q && not (contains now q))
      in_lost q = contains-difference text_cmp text_cmp_total text_cmp-IsAntisymmetric before now q

      pub here_before : (q : TextTriple) → contains before q ≡ true → Here q
      here_before q there = still_triple from k proper q there

      pub here_now : (q : TextTriple) → contains now q ≡ true → Here q
      here_now q there = content_terms history kept (Some k) q there

      gained_now : (q : TextTriple) → contains (gained history from k) q ≡ true → contains now q ≡ true
      gained_now q there = (and_parts (contains now q) (not (contains before q)) (sym (in_gained q) ∙ there)).0

      lost_before : (q : TextTriple) → contains (lost history from k) q ≡ true → contains before q ≡ true
      lost_before q there = (and_parts (contains before q) (not (contains now q)) (sym (in_lost q) ∙ there)).0

      abbrev Decides : IdTriple → Type 0
      Decides t = (has (ids (gained history from k)) t || (not (has (ids (lost history from k)) t) && has (ids before) t)) ≡ has (ids now) t

      at_triple : (q : TextTriple) → Here q → Decides (id_triple history k q)
      at_triple q is =
          (λ i. (has_is (gained history from k) (λ x there. here_now x (gained_now x there)) q is ∙ in_gained q) i
          || (not ((has_is (lost history from k) (λ x there. here_before x (lost_before x there)) q is ∙ in_lost q) i) && has_is before here_before q is i))
          ∙ decided (contains now q) (contains before q)
          ∙ sym (has_is now here_now q is)

      neither : (t : IdTriple) → has (ids before) t ≡ false → has (ids now) t ≡ false → Decides t
      neither t was is = (λ i. new i || (not (has (ids (lost history from k)) t) && was i)) ∙ nowhere (has (ids (lost history from k)) t) ∙ sym is
        where
          new : has (ids (gained history from k)) t ≡ false
          new = elim (has (ids (gained history from k)) t) as (λ b. has (ids (gained history from k)) t ≡ b → b ≡ false) [
            | true ↦ λ h.
                let found = has_from (gained history from k) t h in
                absurd (true≢false (sym (has_to now found.0 (gained_now found.0 found.1)) ∙ ap (has (ids now)) found.2 ∙ is))
            | false ↦ λ h. refl
          ] refl

      decides : (t : IdTriple) → Decides t
      decides t =
          elim (has (ids before) t) as (λ b. has (ids before) t ≡ b → Decides t) [
            | true ↦ λ was. (let found = has_from before t was in subst Decides found.2 (at_triple found.0 (here_before found.0 found.1)))
            | false ↦ λ was.
                elim (has (ids now) t) as (λ b. has (ids now) t ≡ b → Decides t) [
                  | true ↦ λ is. (let found = has_from now t is in subst Decides found.2 (at_triple found.0 (here_now found.0 found.1)))
                  | false ↦ λ is. neither t was is
                ] refl
          ] refl

  -- ---- the parts

  abbrev pub ids_at : Option ℕ → List IdTriple
  ids_at None = []
  ids_at (Some k) = id_triples history k (content_at history k)

  -- an ancestor's triples have the numbers that they have there
  pub stay : (at : Option ℕ) (k : ℕ) → IfSome at (λ a. IsProperAncestor history a k) → (t : IdTriple) → has (ids_at at) t ≡ has (id_triples history k (content_at_parent history at)) t
  stay None k proper t =
      elim (has (ids k empty) t) as (λ b. has (ids k empty) t ≡ b → false ≡ b) [
        | true ↦ λ h. (let found = has_from k empty t h in absurd (true≢false (sym found.1 ∙ contains-empty text_cmp found.0)))
        | false ↦ λ h. refl
      ] refl
  stay (Some a) k proper t =
      ap (λ l. has l t) (sym (id_triples-stay history kept a k (over_ancestor history kept a k proper.0) (content_at history a) (λ q there. content_terms history kept (Some a) q there)))

  held : (parts : List Facts) (at : Option ℕ) → AreStepsTo history at parts → (t : IdTriple) → stands_in parts t ≡ has (ids_at at) t
  held [] None steps t = refl
  held [] (Some k) steps t = absurd steps
  held (part ∷ parts) None steps t = absurd steps
  held (part ∷ parts) (Some k) steps t =
      (λ i. has (steps.0.step.additions i) t || (not (has (steps.0.step.removals i) t) && (held parts part.parent steps.1 t ∙ stay part.parent k steps.0.from t) i))
      ∙ decides k part.parent steps.0.from t

-- what stands comes with a part
stands_comes : (parts : List Facts) (t : IdTriple) → stands_in parts t ≡ true → has (flat_map (λ part. part.additions) parts) t ≡ true
stands_comes [] t h = h
stands_comes (part ∷ parts) t h =
    list_any-append (eq_by_cmp triple_cmp t) part.additions (flat_map (λ part. part.additions) parts)
    ∙ (elim (or_cases (has part.additions t) (not (has part.removals t) && stands_in parts t) h) as (λ _. (has part.additions t || has (flat_map (λ part. part.additions) parts) t) ≡ true) [
      | inl here ↦ or_left (has part.additions t) (has (flat_map (λ part. part.additions) parts) t) here
      | inr later ↦ or_right (has part.additions t) (has (flat_map (λ part. part.additions) parts) t) (stands_comes parts t (and_parts (not (has part.removals t)) (stands_in parts t) later).1)
    ])

and_itself : (a b : Bool) → (b ≡ true → a ≡ true) → b ≡ (a && b)
and_itself true b h = refl
and_itself false false h = refl
and_itself false true h = sym (h refl)

pub stands_content : (history : History) (k : ℕ) (parts : List Facts) → StandsFor parts history k → (t : IdTriple)
    → IsTrue (stands_in parts t) ↔ Contains (id_triples history k (content_at history k)) t
stands_content history k parts stands t =
    let is = held history stands.kept parts (Some k) stands.steps t in (
      λ h. Contains-from_any (λ x y e. triple_cmp-IsAntisymmetric x y ((Equal-is (triple_cmp x y)).0 e)) t (id_triples history k (content_at history k)) (sym is ∙ h),
      λ h. is ∙ list_any-from_Contains (eq_by_cmp_equiv triple_cmp_total) t (id_triples history k (content_at history k)) h,
    )

pub steps_content : (history : History) (k : ℕ) (parts : List Facts) → StandsFor parts history k → triples_of parts ≡ id_triples history k (content_at history k)
unfolding triples_of
steps_content history k parts stands =
    sym (members_are triple_cmp triple_cmp_total triple_cmp-IsAntisymmetric (retain (coming_in parts) (stands_in parts)) (id_triples history k (content_at history k))
    (id_triples-plane history stands.kept k (content_at history k) (λ q there. content_terms history stands.kept (Some k) q there)).rising
    (λ t.
    sym (held history stands.kept parts (Some k) stands.steps t)
    ∙ and_itself (contains (coming_in parts) t) (stands_in parts t)
    (λ h. contains-from_list triple_cmp triple_cmp_total (flat_map (λ part. part.additions) parts) t ∙ stands_comes parts t h)
    ∙ sym (contains-retain triple_cmp (coming_in parts) (stands_in parts) t (λ x e. ap (stands_in parts) (sym (triple_cmp-IsAntisymmetric t x e))))))
