-- Sections that are held, and what they say.
use Rattle.std.proofs.Common.{◌≡◌, ℕ, ◌+◌, List, [], ◌∷◌, ◌++◌, ◌-◌, get_or, length, take, drop, refl, sym, ◌∙◌, ap, subst, arith, append_assoc, length-append, Option, Some}
use Rattle.std.specs.Prelude.{IfSome, IsSomeAnd}
use Rattle.std.proofs.lemmas.List.{drop_at, get_or-append_right, take_at}
use Rattle.ts_front.specs.Dictionary.{DictionarySays, dictionary_bytes, dictionary_starts}
use Rattle.ts_idmap.specs.IdMap.{MapSays}
use Rattle.ts_plane.specs.Plane.{PlaneSays}
use Rattle.ts_part.specs.declared.header.PartKind.{PartKind}
use Rattle.ts_part.specs.declared.header.PartKind.TheVariants.{Layer, Rollup}
use Rattle.ts_part.specs.declared.write.Body.{Body}
use Rattle.ts_part.specs.Facts.{Facts}
use Rattle.ts_part.specs.Layout.{of_kind}
use Rattle.ts_part.specs.Part.{MapsSay}
use Rattle.ts_part.specs.Written.{AreMapsOf, HoldsFacts, HoldsLists, HoldsMaps, lists_of}

-- what a builder that holds texts has written
pub dictionary_written : (texts : List (List ℕ)) (held : Option (List (List ℕ))) (one two starts bytes old_starts old_bytes : List ℕ) → held ≡ Some texts
    → one ≡ starts → two ≡ bytes → old_starts ≡ [] → old_bytes ≡ []
    → IsSomeAnd held (λ texts. (starts ≡ old_starts ++ dictionary_starts texts) × (bytes ≡ old_bytes ++ dictionary_bytes texts))
    → IfSome held (λ texts. DictionarySays (dictionary_starts texts) (dictionary_bytes texts) texts) → DictionarySays one two texts
dictionary_written texts held one two starts bytes old_starts old_bytes holds first second none_before nothing_before written says =
    let both : (starts ≡ old_starts ++ dictionary_starts texts) × (bytes ≡ old_bytes ++ dictionary_bytes texts) =
    subst (λ h. IsSomeAnd h (λ texts. (starts ≡ old_starts ++ dictionary_starts texts) × (bytes ≡ old_bytes ++ dictionary_bytes texts))) holds written in
    let said : DictionarySays (dictionary_starts texts) (dictionary_bytes texts) texts =
    subst (λ h. IfSome h (λ texts. DictionarySays (dictionary_starts texts) (dictionary_bytes texts) texts)) holds says in
    let e : one ≡ dictionary_starts texts = first ∙ both.0 ∙ ap (λ l. l ++ dictionary_starts texts) none_before in
    let f : two ≡ dictionary_bytes texts = second ∙ both.1 ∙ ap (λ l. l ++ dictionary_bytes texts) nothing_before in
    subst (λ s. DictionarySays s two texts) (sym e) (subst (λ b. DictionarySays (dictionary_starts texts) b texts) (sym f) said)

first_eight : (a b rest : List (List ℕ)) → length a ≡ 8 → take 8 (a ++ b ++ rest) ≡ a
first_eight a b rest e = ap (take 8) (append_assoc a b rest) ∙ take_at a (b ++ rest) 8 e

next_eight : (a b rest : List (List ℕ)) → length a ≡ 8 → length b ≡ 8 → take 8 (drop 8 (a ++ b ++ rest)) ≡ b
next_eight a b rest e f =
    ap (λ l. take 8 (drop 8 l)) (append_assoc a b rest) ∙ ap (take 8) (drop_at a (b ++ rest) 8 e) ∙ take_at b rest 8 f

behind_both : (a b rest : List (List ℕ)) (n m : ℕ) → length a ≡ 8 → length b ≡ 8 → n ≡ 16 + m → of_kind (a ++ b ++ rest) (n + 1) ≡ of_kind rest (m + 1)
behind_both a b rest n m e f at =
    let place : n + 1 - 1 ≡ n = omega arith in
    let back : n - 16 ≡ m + 1 - 1 = omega arith in
    ap (λ k. get_or (a ++ b ++ rest) k []) place
    ∙ get_or-append_right (a ++ b) rest 16 n [] (omega (arith, length-append a b)) (omega arith)
    ∙ ap (λ k. get_or rest k []) back

maps_said : (kind : PartKind) (facts : Facts) (first second third fourth fifth sixth : List ℕ) (a b maps : List (List ℕ)) → length a ≡ 8 → length b ≡ 8
    → AreMapsOf kind maps facts.term_map facts.predicate_map
    → MapsSay kind (lists_of (first ∷ second ∷ []) (third ∷ fourth ∷ []) (fifth ∷ sixth ∷ []) a b ++ maps) facts
maps_said Layer facts first second third fourth fifth sixth a b maps e f are = are
maps_said Rollup facts first second third fourth fifth sixth a b maps e f are = (
  subst (λ s. MapSays s facts.term_map) (sym (behind_both a b maps 16 0 e f refl)) are.0,
  subst (λ s. MapSays s facts.predicate_map) (sym (behind_both a b maps 17 1 e f refl)) are.1,
)

-- the sections of the lists
abbrev pub laid : (body : Body) (facts : Facts) → HoldsLists body facts → List (List ℕ)
laid body facts lists =
    lists_of (lists.node_starts ∷ lists.node_bytes ∷ []) (lists.predicate_starts ∷ lists.predicate_bytes ∷ [])
    (lists.value_starts ∷ lists.value_bytes ∷ []) lists.additions lists.removals

-- the lists and the maps of facts are all their sections
pub facts_held : (before body : Body) (facts : Facts) (lists : HoldsLists before facts)
    → HoldsMaps facts.kind body (laid before facts lists) facts.term_map facts.predicate_map → HoldsFacts body facts
facts_held before body facts lists maps =
    let a = lists.additions in
    let b = lists.removals in
    let e : length a ≡ 8 = lists.additions_say.say.eight in
    let f : length b ≡ 8 = lists.removals_say.say.eight in
    record {
      sections = laid before facts lists ++ maps.maps;
      holds = maps.holds;
      counted = omega (arith, maps.counted, length-append (a ++ b) maps.maps, length-append a b);
      say = record {
        nodes = lists.nodes_say;
        predicates = lists.predicates_say;
        values = lists.values_say;
        additions = subst (λ s. PlaneSays s facts.additions) (sym (first_eight a b maps.maps e)) lists.additions_say;
        removals = subst (λ s. PlaneSays s facts.removals) (sym (next_eight a b maps.maps e f)) lists.removals_say;
        maps = maps_said facts.kind facts lists.node_starts lists.node_bytes lists.predicate_starts lists.predicate_bytes lists.value_starts lists.value_bytes
            a b maps.maps e f maps.are;
      };
    }
