-- The lines that change something make the net change of a body.
use Rattle.std.proofs.Common.{◌≡◌, ℕ, inl, inr, Bool, true, false, not, ◌&&◌, ◌||◌, List, [], ◌∷◌, map, get_or, Bor, All, Contains, Option, None, Some, IsTrue, refl, sym, ap, ◌∙◌, subst, true≢false, arith}
use Rattle.std.specs.Prelude.{◌↔◌}
use Rattle.std.specs.Ordering.{eq_by_cmp, is_eq}
use Rattle.std.specs.Cmp.{Equal-is, tied_itself}
use Rattle.std.specs.List.{list_any}
use Rattle.std.specs.List.Sorted.{IsStrictlySortedBy}
use Rattle.std.proofs.lemmas.Bool.{and_parts, or_cases, or_left, or_right}
use Rattle.std.proofs.lemmas.List.Elements.{All-contains, All-map, Contains-get_or}
use Rattle.ts_model.specs.declared.signed.Sign.{Sign}
use Rattle.ts_model.specs.declared.signed.Sign.TheVariants.{Add, Remove}
use Rattle.ts_model.specs.declared.signed.SignedTriple.{SignedTriple}
use Rattle.ts_model.specs.TextTriple.{TextTriple, IsTriple}
use Rattle.ts_model.specs.Order.{triple_cmp, triple_cmp_total, triple_cmp-IsAntisymmetric}
use Rattle.ts_model.specs.History.{History, content_at_parent}
use Rattle.ts_model.specs.NetChange.{last_sign, is_added, is_removed, body_triples, added, net_additions, net_removals, removed}
use Rattle.ts_model.specs.Sets.{SetOf, contains, members, retain}
use Rattle.ts_model.proofs.SetLaws.{contains-members, contains-retain, members_are, IsStrictlySortedBy-members}
use Rattle.ts_model.proofs.SetAlgebra.{contains-difference, contains-empty}
use Rattle.ts_part.specs.Facts.{Facts}
use Rattle.ts_chain.specs.Holds.{Holds}
use Rattle.ts_chain.specs.Stands.{StandsForOption}
use Rattle.ts_chain.proofs.Elements.{contains_first, contains_rest}
use Rattle.ts_chain.proofs.HoldsAtLayers.{holds_at}
use Rattle.ts_builder.specs.Change.{IsChangeOver, IsNetAt, IsNetOf, IsRisingNet}
use Rattle.ts_builder.specs.Picks.{IsChange, IsDue, Picks}
use Rattle.ts_builder.proofs.PickLemmas.{picked_from, picked_rise, picked_to}

-- ---- triples of a list

abbrev is_among : TextTriple → List TextTriple → Bool
is_among q triples = list_any (eq_by_cmp triple_cmp q) triples

itself : (q : TextTriple) → eq_by_cmp triple_cmp q q ≡ true
itself q = ap is_eq (tied_itself triple_cmp_total q)

pub among_from_contains : (triples : List TextTriple) (q : TextTriple) → Contains triples q → is_among q triples ≡ true
among_from_contains [] q h = absurd (omega (arith, h.1))
among_from_contains (t ∷ ts) q h =
    elim (contains_first t ts q h) as (λ _. (eq_by_cmp triple_cmp q t || is_among q ts) ≡ true) [
      | inl is ↦ or_left (eq_by_cmp triple_cmp q t) (is_among q ts) (subst (λ t. eq_by_cmp triple_cmp q t ≡ true) (sym is) (itself q))
      | inr later ↦ or_right (eq_by_cmp triple_cmp q t) (is_among q ts) (among_from_contains ts q later)
    ]

same_triple : (q t : TextTriple) → eq_by_cmp triple_cmp q t ≡ true → t ≡ q
same_triple q t e = sym (triple_cmp-IsAntisymmetric q t ((Equal-is (triple_cmp q t)).0 e))

pub contains_from_among : (triples : List TextTriple) (q : TextTriple) → is_among q triples ≡ true → Contains triples q
contains_from_among [] q is = absurd (true≢false (sym is))
contains_from_among (t ∷ ts) q is =
    elim (or_cases (eq_by_cmp triple_cmp q t) (is_among q ts) is) as (λ _. Contains (t ∷ ts) q) [
      | inl here ↦ (0, omega arith, same_triple q t here)
      | inr later ↦ contains_rest t ts q (contains_from_among ts q later)
    ]

pub each_contained : {X : Type 0} (P : X → Type 0) (xs : List X) → ((x : X) → Contains xs x → P x) → All P xs
each_contained P xs gives = λ k d below. gives (get_or xs k d) (Contains-get_or xs k d below)

-- ---- the triples of lines

abbrev pub triples_of_lines : List SignedTriple → List TextTriple
triples_of_lines lines = map (λ (line : SignedTriple). line.triple) lines

pub triples_now : (lines : List (Bor SignedTriple)) → triples_of_lines (map (λ (line : Bor SignedTriple). line.now) lines) ≡ map (λ (line : Bor SignedTriple). line.now.triple) lines
triples_now [] = refl
triples_now (line ∷ lines) = ap (λ ts. line.now.triple ∷ ts) (triples_now lines)

among_lines : (lines : List SignedTriple) (line : SignedTriple) → Contains lines line → is_among line.triple (triples_of_lines lines) ≡ true
among_lines [] line h = absurd (omega (arith, h.1))
among_lines (l ∷ ls) line h =
    elim (contains_first l ls line h) as (λ _. (eq_by_cmp triple_cmp line.triple l.triple || is_among line.triple (triples_of_lines ls)) ≡ true) [
      | inl is ↦ or_left (eq_by_cmp triple_cmp line.triple l.triple) (is_among line.triple (triples_of_lines ls))
          (subst (λ (l : SignedTriple). eq_by_cmp triple_cmp line.triple l.triple ≡ true) (sym is) (itself line.triple))
      | inr later ↦ or_right (eq_by_cmp triple_cmp line.triple l.triple) (is_among line.triple (triples_of_lines ls)) (among_lines ls line later)
    ]

line_among : (lines : List SignedTriple) (q : TextTriple) → is_among q (triples_of_lines lines) ≡ true → (line : SignedTriple) × Contains lines line × (line.triple ≡ q)
line_among [] q is = absurd (true≢false (sym is))
line_among (l ∷ ls) q is =
    elim (or_cases (eq_by_cmp triple_cmp q l.triple) (is_among q (triples_of_lines ls)) is) as (λ _. (line : SignedTriple) × Contains (l ∷ ls) line × (line.triple ≡ q)) [
      | inl here ↦ (l, (0, omega arith, refl), same_triple q l.triple here)
      | inr later ↦ (let found = line_among ls q later in (found.0, contains_rest l ls found.0 found.1, found.2))
    ]

-- ---- what a sign asks

abbrev is_asked : Sign → Option Sign → Bool
is_asked Add last = is_added last
is_asked Remove last = is_removed last

abbrev is_due : Sign → Bool → Bool
is_due Add before = not before
is_due Remove before = before

asks_itself : (sign : Sign) → is_asked sign (Some sign) ≡ true
asks_itself Add = refl
asks_itself Remove = refl

asked_sign : (sign other : Sign) → is_asked sign (Some other) ≡ true → other ≡ sign
asked_sign Add Add e = refl
asked_sign Add Remove e = absurd (true≢false (sym e))
asked_sign Remove Add e = absurd (true≢false (sym e))
asked_sign Remove Remove e = refl

abbrev pub asked_in : Sign → List SignedTriple → SetOf triple_cmp
asked_in Add body = added body
asked_in Remove body = removed body

abbrev pub net_of : Sign → SetOf triple_cmp → List SignedTriple → SetOf triple_cmp
net_of Add before body = net_additions before body
net_of Remove before body = net_removals before body

contains-kept : (set : SetOf triple_cmp) (p : TextTriple → Bool) (q : TextTriple) → contains (retain set p) q ≡ (contains set q && p q)
contains-kept set p q = contains-retain triple_cmp set p q (λ x e. ap p (sym (triple_cmp-IsAntisymmetric q x e)))

contains-asked : (sign : Sign) (body : List SignedTriple) (q : TextTriple) → contains (asked_in sign body) q ≡ (contains (body_triples body) q && is_asked sign (last_sign body q))
contains-asked Add body q = contains-kept (body_triples body) (λ triple. is_added (last_sign body triple)) q
contains-asked Remove body q = contains-kept (body_triples body) (λ triple. is_removed (last_sign body triple)) q

contains-net : (sign : Sign) (before : SetOf triple_cmp) (body : List SignedTriple) (q : TextTriple) → contains (net_of sign before body) q ≡ (contains (asked_in sign body) q && is_due sign (contains before q))
contains-net Add before body q = contains-difference triple_cmp triple_cmp_total triple_cmp-IsAntisymmetric (added body) before q
contains-net Remove before body q = contains-kept (removed body) (contains before) q

pub same_bool : (a b : Bool) → (a ≡ true → b ≡ true) → (b ≡ true → a ≡ true) → a ≡ b
same_bool true true there back = refl
same_bool true false there back = sym (there refl)
same_bool false true there back = back refl
same_bool false false there back = refl

-- parts hold what the layer has that they stand for, and none hold nothing
pub held_at : (history : History) (from : Option ℕ) (parts : List Facts) (q : TextTriple) → StandsForOption parts history from → IsTriple q → Holds parts q ↔ IsTrue (contains (content_at_parent history from) q)
held_at history None parts q stands is = (
  λ holds. absurd (subst (λ parts. Holds parts q) stands.1 holds).has.subject,
  λ there. absurd (true≢false (sym there ∙ contains-empty triple_cmp q)),
)
held_at history (Some k) parts q stands is = holds_at history k parts q is.0 stands

due_at : (sign : Sign) (parts : List Facts) (q : TextTriple) (before : Bool) → Holds parts q ↔ IsTrue before → IsDue sign parts q ↔ IsTrue (is_due sign before)
due_at Add parts q true held = (λ lacks. absurd (lacks (held.1 refl)), λ e. absurd (true≢false (sym e)))
due_at Add parts q false held = (λ lacks. refl, λ e holds. true≢false (sym (held.0 holds)))
due_at Remove parts q before held = held

-- ---- the triples that are picked

module _ (sign : Sign) (parts : List Facts) (body lines : List SignedTriple) (triples : List TextTriple)
    (each : triples_of_lines lines ≡ members (body_triples body)) (signs : All (λ line. last_sign body line.triple ≡ Some line.sign) lines)
    (picks : Picks (IsChange sign parts) lines triples) where
  rise_lines : IsStrictlySortedBy triple_cmp (triples_of_lines lines)
  rise_lines = subst (IsStrictlySortedBy triple_cmp) (sym each) (IsStrictlySortedBy-members triple_cmp (body_triples body))

  pub net_rise : IsStrictlySortedBy triple_cmp triples
  net_rise = picked_rise (IsChange sign parts) lines triples picks rise_lines

  pub net_due : All (IsDue sign parts) triples
  net_due =
      each_contained (IsDue sign parts) triples (λ q there.
      let found = picked_from (IsChange sign parts) lines triples picks q there in
      subst (IsDue sign parts) found.2 found.3.due)

  asked_line : (q : TextTriple) → contains (asked_in sign body) q ≡ true → (line : SignedTriple) × Contains lines line × (line.triple ≡ q) × (line.sign ≡ sign)
  asked_line q is =
      let both = and_parts (contains (body_triples body) q) (is_asked sign (last_sign body q)) (sym (contains-asked sign body q) ∙ is) in
      let found = line_among lines q (ap (is_among q) each ∙ sym (contains-members triple_cmp (body_triples body) q) ∙ both.0) in
      let last : last_sign body q ≡ Some found.0.sign =
      ap (last_sign body) (sym found.2) ∙ All-contains (λ line. last_sign body line.triple ≡ Some line.sign) lines found.0 signs found.1 in
      (found.0, found.1, found.2, asked_sign sign found.0.sign (ap (is_asked sign) (sym last) ∙ both.1))

  line_asked : (line : SignedTriple) → Contains lines line → line.sign ≡ sign → contains (asked_in sign body) line.triple ≡ true
  line_asked line there is =
      let last : last_sign body line.triple ≡ Some sign = All-contains (λ line. last_sign body line.triple ≡ Some line.sign) lines line signs there ∙ ap (λ s. Some s) is in
      let among : contains (body_triples body) line.triple ≡ true =
      contains-members triple_cmp (body_triples body) line.triple ∙ ap (is_among line.triple) (sym each) ∙ among_lines lines line there in
      contains-asked sign body line.triple ∙ (λ i. among i && is_asked sign (last i)) ∙ asks_itself sign

  pub net_members : (q : TextTriple) → Contains triples q ↔ (IsTrue (contains (asked_in sign body) q) × IsDue sign parts q)
  net_members q = (
    λ there.
        let found = picked_from (IsChange sign parts) lines triples picks q there in
        (subst (λ q. IsTrue (contains (asked_in sign body) q)) found.2 (line_asked found.0 found.1 found.3.asks), subst (IsDue sign parts) found.2 found.3.due),
    λ h.
        let found = asked_line q h.0 in
        subst (Contains triples) found.2 (picked_to (IsChange sign parts) lines triples picks found.0 found.1 (record { asks = found.3; due = subst (IsDue sign parts) (sym found.2) h.1 })),
  )

  module _ (kinds : All (λ line. line.sign ≡ sign → IsTriple line.triple) lines) where
    asked_triple : (q : TextTriple) → contains (asked_in sign body) q ≡ true → IsTriple q
    asked_triple q is =
        let found = asked_line q is in
        subst IsTriple found.2 (All-contains (λ line. line.sign ≡ sign → IsTriple line.triple) lines found.0 kinds found.1 found.3)

    pub net_at : (history : History) (from : Option ℕ) → StandsForOption parts history from → triples ≡ members (net_of sign (content_at_parent history from) body)
    net_at history from stands =
        members_are triple_cmp triple_cmp_total triple_cmp-IsAntisymmetric (net_of sign (content_at_parent history from) body) triples net_rise (λ q.
        let before = contains (content_at_parent history from) q in
        same_bool (is_among q triples) (contains (net_of sign (content_at_parent history from) body) q)
        (λ among.
        let there = (net_members q).0 (contains_from_among triples q among) in
        let due = (due_at sign parts q before (held_at history from parts q stands (asked_triple q there.0))).0 there.1 in
        contains-net sign (content_at_parent history from) body q ∙ (λ i. there.0 i && due i))
        (λ is.
        let both = and_parts (contains (asked_in sign body) q) (is_due sign before) (sym (contains-net sign (content_at_parent history from) body q) ∙ is) in
        let due = (due_at sign parts q before (held_at history from parts q stands (asked_triple q both.0))).1 both.1 in
        among_from_contains triples q ((net_members q).1 (both.0, due))))

-- the triples are picked from the last lines of a body
pub record IsPicked (sign : Sign) (parts : List Facts) (body : List SignedTriple) (triples : List TextTriple) : Type 0 where
  pub lines : List SignedTriple
  pub each : triples_of_lines lines ≡ members (body_triples body)
  pub signs : All (λ line. last_sign body line.triple ≡ Some line.sign) lines
  pub picks : Picks (IsChange sign parts) lines triples
  pub kinds : All (λ line. line.sign ≡ sign → IsTriple line.triple) lines

abbrev Now : Bor SignedTriple → SignedTriple
Now line = line.now

pub picked_by : (sign : Sign) (parts : List Facts) (body : List SignedTriple) (triples : List TextTriple) (lines given : List (Bor SignedTriple)) → given ≡ lines
    → map (λ (line : Bor SignedTriple). line.now.triple) lines ≡ members (body_triples body) → All (λ (line : Bor SignedTriple). last_sign body line.now.triple ≡ Some line.now.sign) lines
    → Picks (IsChange sign parts) (map (λ (line : Bor SignedTriple). line.now) given) triples → All (λ (line : Bor SignedTriple). line.now.sign ≡ sign → IsTriple line.now.triple) given
    → IsPicked sign parts body triples
picked_by sign parts body triples lines given same each signs picks kinds = record {
  lines = map Now lines;
  each = triples_now lines ∙ each;
  signs = All-map (λ (line : SignedTriple). last_sign body line.triple ≡ Some line.sign) Now lines signs;
  picks = subst (λ lines. Picks (IsChange sign parts) (map Now lines) triples) same picks;
  kinds = All-map (λ (line : SignedTriple). line.sign ≡ sign → IsTriple line.triple) Now lines
      (subst (All (λ (line : Bor SignedTriple). line.now.sign ≡ sign → IsTriple line.now.triple)) same kinds);
}

pub net_rises : (parts : List Facts) (body : List SignedTriple) (additions removals : List TextTriple) → IsPicked Add parts body additions → IsPicked Remove parts body removals
    → IsRisingNet (record { additions = additions; removals = removals })
net_rises parts body additions removals a r = record {
  additions = net_rise Add parts body a.lines additions a.each a.signs a.picks;
  removals = net_rise Remove parts body r.lines removals r.each r.signs r.picks;
}

pub net_is : (parts : List Facts) (body : List SignedTriple) (additions removals : List TextTriple) → IsPicked Add parts body additions → IsPicked Remove parts body removals
    → IsNetOf parts body (record { additions = additions; removals = removals })
net_is parts body additions removals a r = record {
  additions = net_members Add parts body a.lines additions a.each a.signs a.picks;
  removals = net_members Remove parts body r.lines removals r.each r.signs r.picks;
}

pub net_changes : (parts : List Facts) (body : List SignedTriple) (additions removals : List TextTriple) → IsPicked Add parts body additions → IsPicked Remove parts body removals
    → IsChangeOver parts (record { additions = additions; removals = removals })
net_changes parts body additions removals a r = record {
  rise = net_rises parts body additions removals a r;
  lacks = net_due Add parts body a.lines additions a.each a.signs a.picks;
  has = net_due Remove parts body r.lines removals r.each r.signs r.picks;
}

pub net_kinds : (sign : Sign) (parts : List Facts) (body : List SignedTriple) (triples : List TextTriple) → IsPicked sign parts body triples → All IsTriple triples
net_kinds sign parts body triples picked =
    each_contained IsTriple triples (λ q there.
    let found = picked_from (IsChange sign parts) picked.lines triples picked.picks q there in
    subst IsTriple found.2 (All-contains (λ line. line.sign ≡ sign → IsTriple line.triple) picked.lines found.0 picked.kinds found.1 found.3.asks))

pub net_stands : (parts : List Facts) (body : List SignedTriple) (additions removals : List TextTriple) → IsPicked Add parts body additions → IsPicked Remove parts body removals
    → (history : History) (from : Option ℕ) → StandsForOption parts history from → IsNetAt history from body (record { additions = additions; removals = removals })
net_stands parts body additions removals a r history from stands = record {
  additions = net_at Add parts body a.lines additions a.each a.signs a.picks a.kinds history from stands;
  removals = net_at Remove parts body r.lines removals r.each r.signs r.picks r.kinds history from stands;
}
