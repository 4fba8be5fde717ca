-- The objects of triples: exactly their right sides, each once, rising.
use Rattle.std.proofs.Common.{◌≡◌, ℕ, ◌+◌, ◌≤◌, List, length, slice_index, sym, subst, arith}
use Rattle.std.specs.List.Sorted.{IsStrictlyIncreasing}
use Rattle.ts_log.proofs.RisingLemmas.{rises}
use Rattle.ts_plane.specs.Objects.{Stands, EachStands}
use Rattle.ts_plane.specs.Rules.{IsBounded}
use Rattle.ts_plane.specs.Turned.{rising_of}
use Rattle.ts_plane.proofs.Members.{In, Rises, IsAt, in_at, at_in, rises_at, rises_from_places, rising_same}
use Rattle.ts_plane.proofs.TurnedLemmas.{Less, less_asym, in_rising_of, from_rising_of, rises_rising_of}
use Rattle.ts_plane.proofs.PartLemmas.{all_members, member_of_all}

pub stands_in : (xs : List ℕ) (x : ℕ) → Stands xs x → In x xs
stands_in xs x h = subst (λ y. In y xs) h.2 (in_at xs h.0 0 h.1)

pub in_stands : (xs : List ℕ) (x : ℕ) → In x xs → Stands xs x
in_stands xs x h = (let there : IsAt xs x 0 = at_in x xs 0 h in (there.place, there.within, there.is))

pub rises_increasing : (xs : List ℕ) → IsStrictlyIncreasing xs → Rises Less xs
rises_increasing xs rising = rises_from_places Less xs 0 (λ i j low high. rises xs 0 (length xs) i j (λ k l m. rising k m) (omega arith) low high)

pub exact_rising : (objects rights : List ℕ) → objects ≡ rising_of rights → IsStrictlyIncreasing objects
exact_rising objects rights is = λ k within. rises_at Less objects 0 k (k + 1) (subst (Rises Less) (sym is) (rises_rising_of rights)) (omega arith) within

pub exact_bounded : (bound : ℕ) (objects rights : List ℕ) → IsBounded bound rights → objects ≡ rising_of rights → IsBounded bound objects
exact_bounded bound objects rights bounded is = all_members (λ x. (1 ≤ x) × (x ≤ bound)) objects (λ x h.
    member_of_all (λ x. (1 ≤ x) × (x ≤ bound)) rights x bounded (from_rising_of x rights (subst (In x) is h)))

pub exact_among : (objects rights : List ℕ) → objects ≡ rising_of rights → EachStands rights objects
exact_among objects rights is = λ j within.
    in_stands rights (slice_index objects j) (from_rising_of (slice_index objects j) rights (subst (In (slice_index objects j)) is (in_at objects j 0 within)))

pub exact_found : (objects rights : List ℕ) → objects ≡ rising_of rights → EachStands objects rights
exact_found objects rights is = λ j within.
    in_stands objects (slice_index rights j) (subst (In (slice_index rights j)) (sym is) (in_rising_of (slice_index rights j) rights (in_at rights j 0 within)))

pub exact_from : (objects rights : List ℕ) → IsStrictlyIncreasing objects → EachStands rights objects → EachStands objects rights → objects ≡ rising_of rights
exact_from objects rights rising among found = rising_same Less less_asym objects (rising_of rights) (rises_increasing objects rising) (rises_rising_of rights)
    (λ x h. (let there : IsAt objects x 0 = at_in x objects 0 h in
    in_rising_of x rights (subst (λ y. In y rights) there.is (stands_in rights (slice_index objects there.place) (among there.place there.within)))))
    (λ x h. (let there : IsAt rights x 0 = at_in x rights 0 (from_rising_of x rights h) in
    subst (λ y. In y objects) there.is (stands_in objects (slice_index rights there.place) (found there.place there.within))))
