-- A list whose triples follow each other is one that a plane can say.
use Rattle.std.proofs.Common.{◌≡◌, ℕ, ◌+◌, ◌<◌, ◌≤◌, List, length, ap, arith, true, refl, is_lt, Ordering, Less, Equal, Greater}
use Rattle.std.proofs.lemmas.Bool.{false≢true}
use Rattle.std.proofs.lemmas.Map.Keys.{Less-from_sorted}
use Rattle.ts_plane.specs.declared.triple.IdTriple.{IdTriple}
use Rattle.ts_plane.specs.Follows.{FollowsAt}
use Rattle.ts_plane.specs.Triple.{triple_cmp, IsPlaneList}
use Rattle.ts_plane.proofs.EncodeLemmas.{sorted_triples}
use Rattle.ts_plane.proofs.Orders.{Before, before_is, no_triple, rises_from_neighbours}

pub less_is : (o : Ordering) → is_lt o ≡ true → o ≡ Less
less_is Less h = refl
less_is Equal h = absurd (false≢true h)
less_is Greater h = absurd (false≢true h)

trans_before : (a b c : IdTriple) → Before a b → Before b c → Before a c
trans_before a b c ab bc =
    let first = ab.subject in
    let second = bc.subject in
    let both : (e : a.s ≡ c.s) → (a.s ≡ b.s) × (b.s ≡ c.s) = λ e. (omega (arith, e, first, second), omega (arith, e, first, second)) in
    let mid : (e : a.s ≡ c.s) → (a.p ≤ b.p) × (b.p ≤ c.p) = λ e. (ab.predicate (both e).0, bc.predicate (both e).1) in
    record {
      subject = omega (arith, first, second);
      predicate = λ e. omega (arith, (mid e).0, (mid e).1);
      object = λ e f.
          (let p : a.p ≡ b.p = omega (arith, f, (mid e).0, (mid e).1) in
          let q : b.p ≡ c.p = omega (arith, f, (mid e).0, (mid e).1) in
          omega (arith, ab.object (both e).0 p, bc.object (both e).1 q));
    }

pub plane_follows : (triples : List IdTriple) (i : ℕ) → IsPlaneList triples → i < length triples → FollowsAt triples i
plane_follows triples i list within = record {
  positive = λ d. list.positive i d within;
  above = λ k d next. ap is_lt (Less-from_sorted triple_cmp triples k (k + 1) d list.rising (omega arith) (omega (arith, next)));
}

pub follows_plane : (triples : List IdTriple) → ((i : ℕ) → i < length triples → FollowsAt triples i) → IsPlaneList triples
follows_plane triples each = record {
  rising =
      sorted_triples triples (rises_from_neighbours Before trans_before triples no_triple
      (λ k within. before_is _ _ (less_is _ ((each (k + 1) within).above k no_triple refl))));
  positive = λ j d within. (each j within).positive d;
}
