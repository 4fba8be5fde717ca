-- What many streams have left stays when neighbours are merged.
use Rattle.std.proofs.Common.{◌≡◌, true≢false, ℕ, zero, suc, ◌+◌, ◌*◌, ◌<◌, ◌≤◌, ◌↔◌, List, [], ◌∷◌, ◌++◌, length, flat_map, All, Option, Some, None, IfSome, IsSome, option_to_list, refl, sym, ap, ◌∙◌, subst, append_assoc, length-append, arith}
use Rattle.std.proofs.lemmas.Grind.{flat_map-append}
use Rattle.std.proofs.lemmas.List.{append-nil}
use Rattle.std.proofs.lemmas.List.Elements.{All-head, All-tail}
use Rattle.ts_chain.specs.declared.stream.Stream.{Stream}
use Rattle.ts_chain.specs.Streams.{decided, left_in, left_in_all}
use Rattle.ts_chain.specs.Rising.{AreRising, IsRisingStream}
use Rattle.ts_chain.proofs.Decided.{Said, decided-before, decided-behind, decided-rising, decided-twice, passes}
use Rattle.ts_chain.proofs.StreamLemmas.{rises}

decided-itself : (xs : List Said) → AreRising xs → decided xs ≡ xs
unfolding AreRising
decided-itself xs h = decided-rising xs (passes _ h)

-- one stream has left what it has
pub left-alone : (stream : Stream) → IsRisingStream stream → left_in stream ≡ left_in_all (stream ∷ [])
left-alone stream h = sym (ap decided (append-nil (left_in stream)) ∙ decided-itself (left_in stream) (rises stream h))

-- a stream in place of two, or of one
pub left-paired : (pairs rest : List Stream) (newer pair : Stream) (older : Option Stream) → left_in pair ≡ left_in_all (newer ∷ option_to_list older)
    → left_in_all ((pairs ++ pair ∷ []) ++ rest) ≡ left_in_all (pairs ++ (newer ∷ (option_to_list older ++ rest)))
left-paired pairs rest newer pair older is =
    let two : List Stream = newer ∷ option_to_list older in
    let same : decided (left_in pair) ≡ decided (flat_map left_in two) = ap decided is ∙ decided-twice (flat_map left_in two) in
    ap left_in_all (append_assoc pairs (pair ∷ []) rest)
    ∙ ap decided (flat_map-append left_in pairs (pair ∷ rest))
    ∙ decided-behind (flat_map left_in pairs) _ _ (decided-before (left_in pair) (flat_map left_in two) (flat_map left_in rest) same)
    ∙ sym (ap decided (flat_map-append left_in pairs (two ++ rest) ∙ ap (λ l. flat_map left_in pairs ++ l) (flat_map-append left_in two rest)))

-- the last of at most one
pub left-last : (streams rest : List Stream) (found : Option Stream) → All IsRisingStream streams → length streams ≤ 1 → streams ≡ rest ++ option_to_list found
    → IfSome found (λ stream. left_in stream ≡ left_in_all streams)
left-last streams rest None rise few is = tt
left-last streams [] (Some stream) rise few is = left-alone stream (All-head IsRisingStream stream [] (subst (All IsRisingStream) is rise)) ∙ ap left_in_all (sym is)
left-last streams (x ∷ rest) (Some stream) rise few is = absurd (omega (arith, ap length is, length-append rest (stream ∷ [])))

-- those of the streams behind that one step takes, and those that stay
pub rise-next : (older : Option Stream) (rest : List Stream) → All IsRisingStream (option_to_list older ++ rest) → IfSome older IsRisingStream × All IsRisingStream rest
rise-next None rest h = (tt, h)
rise-next (Some stream) rest h = (All-head IsRisingStream stream rest h, All-tail IsRisingStream stream rest h)

-- of so many streams, these pairs are made and the rest waits; the last pair may have only one
pub record IsHalfway (streams pairs rest : ℕ) : Type 0 where
  pub at_least : streams ≤ 2 * pairs + rest
  pub at_most : 2 * pairs + rest ≤ streams + 1
  pub odd : 2 * pairs + rest ≡ streams + 1 → rest ≡ 0

pub none-left : (rest : ℕ) → (0 < rest → ⊥) → rest ≡ 0
none-left zero h = refl
none-left (suc rest) h = absurd (h (omega arith))

pub halfway-step : (streams pairs before rest after : ℕ) (older : Option Stream) → IsHalfway streams pairs before → rest + 1 ≡ before → after + length (option_to_list older) ≡ rest
    → (IsSome older ↔ (0 < rest)) → IsHalfway streams (pairs + 1) after
halfway-step streams pairs before rest after None half one two some =
    let last : rest ≡ 0 = none-left rest (λ h. true≢false (sym (some.1 h))) in
    record { at_least = omega arith; at_most = grind (arith, half.odd); odd = λ e. omega arith }
halfway-step streams pairs before rest after (Some stream) half one two some =
    record { at_least = omega arith; at_most = omega arith; odd = λ e. grind (arith, half.odd) }
