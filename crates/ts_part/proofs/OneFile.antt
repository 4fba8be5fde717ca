-- Facts are said by one file at most.
use Rattle.std.proofs.Common.{◌≡◌, ℕ, zero, suc, ◌+◌, ◌-◌, ◌*◌, ◌^◌, ◌<◌, ◌≤◌, List, [], ◌++◌, All, length, get_or, slice_index_or, take, drop, sym, ◌∙◌, ap, ap₂, subst, arith, inl, inr, length-append}
use Rattle.std.specs.List.{flat_map}
use Rattle.std.proofs.Math.Pow.{pow_mono}
use Rattle.std.proofs.lemmas.Bool.{cases_order}
use Rattle.std.proofs.lemmas.List.{drop-drop, ext_get_or, get_or-drop, get_or-take, length-drop, length-take-le, take-append-drop}
use Rattle.ts_log.specs.LogArray.{LogSays}
use Rattle.ts_plane.specs.declared.triple.IdTriple.{IdTriple}
use Rattle.ts_plane.specs.Plane.{PlaneSays}
use Rattle.ts_wavelet.specs.WaveletTree.{IsWidth, WaveletSays, wavelet_of}
use Rattle.ts_part.specs.declared.header.PartKind.{PartKind}
use Rattle.ts_part.specs.declared.header.PartKind.TheVariants.{Layer, Rollup}
use Rattle.ts_part.specs.Facts.{Facts}
use Rattle.ts_part.specs.Header.{header_bytes, header_of, section_count}
use Rattle.ts_part.specs.Layout.{AreSections, first_start, padded, rows_from}
use Rattle.ts_part.specs.Part.{MapsSay, PartSays, SectionsSay}
use Rattle.ts_part.proofs.FileLemmas.{length-header_bytes}

narrower : (xs : List ℕ) (v w : ℕ) → All (λ x. x < 2 ^ v) xs → v < w → All (λ x. x < 2 ^ (w - 1)) xs
narrower xs v w fits less = λ k d h.
    let low : slice_index_or xs k d < 2 ^ v = fits k d h in
    let wider : v ≤ w - 1 = omega (arith, less) in
    omega (arith, low, pow_mono {i = v} {j = w - 1} wider)

-- numbers have one width
one_width : (xs : List ℕ) (v w : ℕ) → IsWidth v xs → IsWidth w xs → v ≡ w
one_width xs v w a b = elim (cases_order v w) [
  | inl same ↦ same
  | inr apart ↦ elim apart [
    | inl less ↦ absurd (b.least (omega (arith, less, a.some)) (narrower xs v w a.fits less))
    | inr more ↦ absurd (a.least (omega (arith, more, b.some)) (narrower xs w v b.fits more))
  ]
]

one_tree : (a b xs : List ℕ) → WaveletSays a xs → WaveletSays b xs → a ≡ b
one_tree a b xs p q = p.form ∙ ap (λ w. wavelet_of w xs) (one_width xs p.width q.width p.is_width q.is_width) ∙ sym q.form

one_array : (a b xs : List ℕ) → LogSays a xs → LogSays b xs → a ≡ b
one_array a b xs p q = p.spelled ∙ sym q.spelled

same_eight : (a b : List (List ℕ)) → get_or a 0 [] ≡ get_or b 0 [] → get_or a 1 [] ≡ get_or b 1 [] → get_or a 2 [] ≡ get_or b 2 [] → get_or a 3 [] ≡ get_or b 3 []
    → get_or a 4 [] ≡ get_or b 4 [] → get_or a 5 [] ≡ get_or b 5 [] → get_or a 6 [] ≡ get_or b 6 [] → get_or a 7 [] ≡ get_or b 7 []
    → (i : ℕ) → i < 8 → get_or a i [] ≡ get_or b i []
same_eight a b e0 e1 e2 e3 e4 e5 e6 e7 zero h = e0
same_eight a b e0 e1 e2 e3 e4 e5 e6 e7 (suc zero) h = e1
same_eight a b e0 e1 e2 e3 e4 e5 e6 e7 (suc (suc zero)) h = e2
same_eight a b e0 e1 e2 e3 e4 e5 e6 e7 (suc (suc (suc zero))) h = e3
same_eight a b e0 e1 e2 e3 e4 e5 e6 e7 (suc (suc (suc (suc zero)))) h = e4
same_eight a b e0 e1 e2 e3 e4 e5 e6 e7 (suc (suc (suc (suc (suc zero))))) h = e5
same_eight a b e0 e1 e2 e3 e4 e5 e6 e7 (suc (suc (suc (suc (suc (suc zero)))))) h = e6
same_eight a b e0 e1 e2 e3 e4 e5 e6 e7 (suc (suc (suc (suc (suc (suc (suc zero))))))) h = e7
same_eight a b e0 e1 e2 e3 e4 e5 e6 e7 (suc (suc (suc (suc (suc (suc (suc (suc i)))))))) h = absurd (omega arith)

-- a plane has one list of sections
one_plane : (a b : List (List ℕ)) (triples : List IdTriple) → PlaneSays a triples → PlaneSays b triples → a ≡ b
one_plane a b triples p q =
    ext_get_or [] a b (p.say.eight ∙ sym q.say.eight) (λ i low.
    same_eight a b
    (one_array _ _ _ p.say.subjects q.say.subjects)
    (p.say.pair_ends.form ∙ sym q.say.pair_ends.form)
    (one_tree _ _ _ p.say.pair_predicates q.say.pair_predicates)
    (p.say.object_ends.form ∙ sym q.say.object_ends.form)
    (one_array _ _ _ p.say.pair_objects q.say.pair_objects)
    (one_array _ _ _ p.say.objects q.say.objects)
    (p.say.object_pair_ends.form ∙ sym q.say.object_pair_ends.form)
    (one_array _ _ _ p.say.object_pairs q.say.object_pairs)
    i (subst (λ n. i < n) p.say.eight low))

same_six : (a b : List (List ℕ)) → get_or a 0 [] ≡ get_or b 0 [] → get_or a 1 [] ≡ get_or b 1 [] → get_or a 2 [] ≡ get_or b 2 [] → get_or a 3 [] ≡ get_or b 3 []
    → get_or a 4 [] ≡ get_or b 4 [] → get_or a 5 [] ≡ get_or b 5 [] → (i : ℕ) → i < 6 → get_or a i [] ≡ get_or b i []
same_six a b e0 e1 e2 e3 e4 e5 zero h = e0
same_six a b e0 e1 e2 e3 e4 e5 (suc zero) h = e1
same_six a b e0 e1 e2 e3 e4 e5 (suc (suc zero)) h = e2
same_six a b e0 e1 e2 e3 e4 e5 (suc (suc (suc zero))) h = e3
same_six a b e0 e1 e2 e3 e4 e5 (suc (suc (suc (suc zero)))) h = e4
same_six a b e0 e1 e2 e3 e4 e5 (suc (suc (suc (suc (suc zero))))) h = e5
same_six a b e0 e1 e2 e3 e4 e5 (suc (suc (suc (suc (suc (suc i)))))) h = absurd (omega arith)

same_two : (a b : List (List ℕ)) → get_or a 0 [] ≡ get_or b 0 [] → get_or a 1 [] ≡ get_or b 1 [] → (i : ℕ) → i < 2 → get_or a i [] ≡ get_or b i []
same_two a b e0 e1 zero h = e0
same_two a b e0 e1 (suc zero) h = e1
same_two a b e0 e1 (suc (suc i)) h = absurd (omega arith)

-- sections, cut before and behind the planes
cut_up : (s : List (List ℕ)) → s ≡ take 6 s ++ (take 8 (drop 6 s) ++ (take 8 (drop 14 s) ++ drop 22 s))
cut_up s =
    sym (take-append-drop 6 s)
    ∙ ap (λ r. take 6 s ++ r) (sym (take-append-drop 8 (drop 6 s)) ∙ ap (λ r. take 8 (drop 6 s) ++ r) (drop-drop 8 6 s
    ∙ sym (take-append-drop 8 (drop 14 s)) ∙ ap (λ r. take 8 (drop 14 s) ++ r) (drop-drop 8 14 s)))

same_cut : (s t : List (List ℕ)) → take 6 s ≡ take 6 t → take 8 (drop 6 s) ≡ take 8 (drop 6 t) → take 8 (drop 14 s) ≡ take 8 (drop 14 t) → drop 22 s ≡ drop 22 t → s ≡ t
same_cut s t e f g h =
    cut_up s ∙ ap (λ r. r ++ (take 8 (drop 6 s) ++ (take 8 (drop 14 s) ++ drop 22 s))) e
    ∙ ap (λ r. take 6 t ++ (r ++ (take 8 (drop 14 s) ++ drop 22 s))) f
    ∙ ap₂ (λ r l. take 6 t ++ (take 8 (drop 6 t) ++ (r ++ l))) g h
    ∙ sym (cut_up t)

same_front : (s t : List (List ℕ)) (facts : Facts) → 22 ≤ length s → 22 ≤ length t → SectionsSay s facts → SectionsSay t facts → take 6 s ≡ take 6 t
same_front s t facts low high p q =
    let long = length-take-le 6 s (omega (arith, low)) in
    let other = length-take-le 6 t (omega (arith, high)) in
    ext_get_or [] (take 6 s) (take 6 t) (long ∙ sym other) (λ i inside.
    (let under : i < 6 = omega (arith, inside, long) in
    get_or-take 6 s i [] under
    ∙ same_six s t
    (p.nodes.starts_spelled ∙ sym q.nodes.starts_spelled) (p.nodes.bytes_spelled ∙ sym q.nodes.bytes_spelled)
    (p.predicates.starts_spelled ∙ sym q.predicates.starts_spelled) (p.predicates.bytes_spelled ∙ sym q.predicates.bytes_spelled)
    (p.values.starts_spelled ∙ sym q.values.starts_spelled) (p.values.bytes_spelled ∙ sym q.values.bytes_spelled) i under
    ∙ sym (get_or-take 6 t i [] under)))

same_maps : (kind : PartKind) (s t : List (List ℕ)) (facts : Facts) → length s ≡ section_count kind → length t ≡ section_count kind
    → MapsSay kind s facts → MapsSay kind t facts → drop 22 s ≡ drop 22 t
same_maps Layer s t facts long other p q =
    let none : length (drop 22 s) ≡ 0 = omega (arith, length-drop 22 s, long) in
    ext_get_or [] (drop 22 s) (drop 22 t) (omega (arith, length-drop 22 s, length-drop 22 t, long, other)) (λ i inside. absurd (omega (arith, inside, none)))
same_maps Rollup s t facts long other p q =
    let two : length (drop 22 s) ≡ 2 = omega (arith, length-drop 22 s, long) in
    ext_get_or [] (drop 22 s) (drop 22 t) (omega (arith, length-drop 22 s, length-drop 22 t, long, other)) (λ i inside.
    same_two (drop 22 s) (drop 22 t)
    (get_or-drop 22 s 0 [] ∙ p.0.spelled ∙ sym q.0.spelled ∙ sym (get_or-drop 22 t 0 []))
    (get_or-drop 22 s 1 [] ∙ p.1.spelled ∙ sym q.1.spelled ∙ sym (get_or-drop 22 t 1 []))
    i (subst (λ n. i < n) two inside))

many : (kind : PartKind) (n : ℕ) → n ≡ section_count kind → 22 ≤ n
many Layer n e = omega arith
many Rollup n e = omega arith

-- facts have one list of sections
one_sections : (facts : Facts) (s t : List (List ℕ)) → length s ≡ section_count facts.kind → length t ≡ section_count facts.kind
    → SectionsSay s facts → SectionsSay t facts → s ≡ t
one_sections facts s t long other p q =
    same_cut s t
    (same_front s t facts (many facts.kind (length s) long) (many facts.kind (length t) other) p q)
    (one_plane _ _ facts.additions p.additions q.additions)
    (one_plane _ _ facts.removals p.removals q.removals)
    (same_maps facts.kind s t facts long other p.maps q.maps)

-- what lies behind the header
behind_header : (file : List ℕ) (count : ℕ) (s : List (List ℕ)) → AreSections file count s → drop 88 file ≡ rows_from 1 (first_start count) s ++ flat_map padded s
behind_header file count s are =
    sym (take-append-drop (24 * count) (drop 88 file))
    ∙ ap₂ (λ a b. a ++ b) are.table (drop-drop (24 * count) 88 file ∙ are.content)

whole_length : (file : List ℕ) (facts : Facts) → PartSays file facts → length file ≡ 88 + length (drop 88 file)
whole_length file facts says =
    let head : length (take 88 file) ≡ 88 = ap length says.head ∙ length-header_bytes (header_of facts (length file)) in
    ap length (sym (take-append-drop 88 file)) ∙ length-append (take 88 file) (drop 88 file) ∙ ap (λ n. n + length (drop 88 file)) head

pub one_file : (facts : Facts) (file other : List ℕ) → PartSays file facts → PartSays other facts → other ≡ file
one_file facts file other p q =
    let same : q.sections ≡ p.sections = one_sections facts q.sections p.sections q.lie.counted p.lie.counted q.say p.say in
    let behind : drop 88 other ≡ drop 88 file =
    behind_header other (section_count facts.kind) q.sections q.lie
    ∙ ap (λ s. rows_from 1 (first_start (section_count facts.kind)) s ++ flat_map padded s) same
    ∙ sym (behind_header file (section_count facts.kind) p.sections p.lie) in
    let long : length other ≡ length file = whole_length other facts q ∙ ap (λ l. 88 + length l) behind ∙ sym (whole_length file facts p) in
    sym (take-append-drop 88 other)
    ∙ ap₂ (λ a b. a ++ b) (q.head ∙ ap (λ n. header_bytes (header_of facts n)) long ∙ sym p.head) behind
    ∙ take-append-drop 88 file
