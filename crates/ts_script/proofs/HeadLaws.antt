-- Words are one head.
use Rattle.std.proofs.Common.{◌≡◌, ◌⊎◌, inl, inr, length, lit<, ℕ, ◌<◌, ◌^◌, ◌/◌, ◌%◌, ◌==◌, false, true≢false, List, [], ◌∷◌, ◌++◌, get_or, slice_index, drop, codes, bytes_eq, if◌then◌else◌, Option, None, Some, arith, refl, sym, ap, ◌∙◌, subst, chars}
use Rattle.std.specs.Int.{w32, to_be_bytes, from_be_bytes}
use Rattle.std.specs.Result.{result_unwrap_or}
use Rattle.std.proofs.lemmas.Bool.{agree_below_at}
use Rattle.std.proofs.lemmas.Fmt.{decimal_injective}
use Rattle.std.proofs.lemmas.Str.{chars-IsAscii}
use Rattle.std.proofs.lemmas.Str.Ascii.{IsAscii-cons, IsAscii-nil}
use Rattle.hex.specs.Hex.{lower_digits, encode_with}
use Rattle.std.proofs.lemmas.Nat.{from_be_bytes-to_be_bytes_4}
use Rattle.ts_model.specs.declared.term.TermKind.{TermKind}
use Rattle.ts_model.specs.declared.term.TermKind.TheVariants.{Node, Predicate, Value}
use Rattle.ts_model.specs.TextTriple.{TextTriple}
use Rattle.ts_model.specs.declared.pattern.Pattern.{Pattern}
use Rattle.ts_model.specs.LayerText.{layer_text}
use Rattle.ts_model.specs.TextTerm.{TextTerm}
use Rattle.ts_model.proofs.LayerLemmas.{decoded}
use Rattle.ts_nt.specs.Parts.{object_kind}
use Rattle.ts_nt.specs.Terms.{TermAt}
use Rattle.ts_nt.proofs.TermLaws.{term_once}
use Rattle.ts_nt.proofs.TripleLaws.{kind_once}
use Rattle.ts_script.specs.Words.{IsLayerWord, IsRefWord, IsTargetWord, IsTermWord, IsVersionWord, IsCountWord, IsPartWord, IsNodeKind, IsPredicateKind, IsObjectKind, SpellPattern, SpellTriple, unbound}
use Rattle.ts_script.specs.Heads.{Name, base, commit, list, has, added, removed, layers, squash, labels, label_new, label_get, label_set, count, open_cursor, fetch, close, name_words, IsOfRef, IsOfLayer, IsOfLabel, IsOfPattern, IsHeadOf, IsHead}
use Rattle.ts_script.specs.declared.head.Head.{Head}
use Rattle.ts_script.specs.declared.head.Head.TheVariants.{Whole, Awaits}
use Rattle.ts_script.specs.declared.command.LayerRef.{LayerRef}
use Rattle.ts_script.specs.declared.command.LayerRef.TheVariants.{Number, Last}
use Rattle.ts_script.specs.declared.command.Ref.{Ref}
use Rattle.ts_script.specs.declared.command.Ref.TheVariants.{Layer, Label}
use Rattle.ts_script.specs.declared.command.Command.TheVariants as command
use Rattle.ts_script.specs.declared.opening.Opening.TheVariants as opening

-- ---- layers

layer_text-injective : (n m : ℕ) → n < 2 ^ 32 → m < 2 ^ 32 → layer_text n ≡ layer_text m → n ≡ m
layer_text-injective n m below below' same =
    let bytes : to_be_bytes w32 n ≡ to_be_bytes w32 m = ap (λ r. result_unwrap_or r []) (sym (decoded n (layer_text m) same) ∙ decoded m (layer_text m) refl) in
    sym (from_be_bytes-to_be_bytes_4 n below) ∙ ap (from_be_bytes w32) bytes ∙ from_be_bytes-to_be_bytes_4 m below'

last_is_no_number : (n : ℕ) → layer_text n ≡ codes "last" → ⊥
last_is_no_number n same = cc (decoded n (codes "last") same)

no_digit : (digit : ℕ) → digit < 16 → slice_index lower_digits digit ≡ 64 → ⊥
no_digit digit small is =
    let other : (slice_index lower_digits digit == 64) ≡ false = agree_below_at (λ d. slice_index lower_digits d == 64) (λ d. false) 16 digit refl small in
    true≢false (sym (ap (λ b. b == 64) is) ∙ other)

no_at : (n : ℕ) (name : List ℕ) → layer_text n ≡ 64 ∷ name → ⊥
unfolding encode_with
no_at n name same = no_digit (n / 16777216 % 256 / 16) (omega arith) (ap (λ (w : List ℕ). get_or w 0 0) same)

layer_once : (word : List ℕ) (a b : LayerRef) → IsLayerWord word a → IsLayerWord word b → a ≡ b
layer_once word Last Last one other = refl
layer_once word Last (Number m) one other = absurd (last_is_no_number m (sym other.1 ∙ one))
layer_once word (Number n) Last one other = absurd (last_is_no_number n (sym one.1 ∙ other))
layer_once word (Number n) (Number m) one other = ap Number (layer_text-injective n m one.0 other.0 (sym one.1 ∙ other.1))

last_is_no_label : (name : List ℕ) → codes "last" ≡ 64 ∷ name → ⊥
last_is_no_label name same = true≢false (ap (λ (w : List ℕ). get_or w 0 0 == 108) same)

-- a layer's word does not begin with `@`
pub at_is_no_layer : (word name : List ℕ) (layer : LayerRef) → word ≡ 64 ∷ name → IsLayerWord word layer → ⊥
at_is_no_layer word name Last same is = last_is_no_label name (sym is ∙ same)
at_is_no_layer word name (Number n) same is = no_at n name (sym is.1 ∙ same)

ref_once : (word : List ℕ) (a b : Ref) → IsRefWord word a → IsRefWord word b → a ≡ b
ref_once word (Layer a) (Layer b) one other = ap Layer (layer_once word a b one other)
ref_once word (Layer a) (Label name) one other = absurd (at_is_no_layer word name a other.0 one)
ref_once word (Label name) (Layer b) one other = absurd (at_is_no_layer word name b one.0 other)
ref_once word (Label a) (Label b) one other = ap Label (ap (λ (w : List ℕ). drop 1 w) (sym one.0 ∙ other.0))

-- ---- labels

none_is_not_last : codes "none" ≡ codes "last" → ⊥
none_is_not_last same = true≢false (ap (λ (w : List ℕ). get_or w 0 0 == 110) same)

none_is_no_number : (n : ℕ) → layer_text n ≡ codes "none" → ⊥
none_is_no_number n same = cc (decoded n (codes "none") same)

none_is_no_layer : (word : List ℕ) (layer : LayerRef) → word ≡ codes "none" → IsLayerWord word layer → ⊥
none_is_no_layer word Last none is = none_is_not_last (sym none ∙ is)
none_is_no_layer word (Number n) none is = none_is_no_number n (sym is.1 ∙ none)

target_once : (word : List ℕ) (a b : Option LayerRef) → IsTargetWord word a → IsTargetWord word b → a ≡ b
target_once word None None one other = refl
target_once word None (Some layer) one other = absurd (none_is_no_layer word layer one other)
target_once word (Some layer) None one other = absurd (none_is_no_layer word layer other one)
target_once word (Some a) (Some b) one other = ap (λ (layer : LayerRef). Some layer) (layer_once word a b one other)

version_once : (word : List ℕ) (a b : ℕ) → IsVersionWord word a → IsVersionWord word b → a ≡ b
version_once word a b one other = decimal_injective a b one.0 other.0 (sym one.1 ∙ other.1)

-- ---- terms

-- a word spells one term of a kind
term_word_once : (word : List ℕ) (kind : TermKind) (a b : TextTerm) → a.kind ≡ kind → b.kind ≡ kind → IsTermWord word a → IsTermWord word b → a ≡ b
term_word_once word kind a b is is' one other =
    let same = term_once kind (chars word) a.spelling b.spelling [] []
    (subst (λ k. TermAt k (chars word) a.spelling []) is one.0.1) (subst (λ k. TermAt k (chars word) b.spelling []) is' other.0.1) in
    λ i. record { kind = (is ∙ sym is') i; spelling = same.0 i }

object_once : (word : List ℕ) (a b : TextTerm) → (a.kind ≡ Node) ⊎ (a.kind ≡ Value) → (b.kind ≡ Node) ⊎ (b.kind ≡ Value) → IsTermWord word a → IsTermWord word b → a ≡ b
object_once word a b kinds kinds' one other =
    term_word_once word (object_kind (chars word)) a b
    (kind_once a.kind (chars word) a.spelling [] kinds one.0.1) (kind_once b.kind (chars word) b.spelling [] kinds' other.0.1) one other

-- ---- triples

triple_once : (s p o : List ℕ) (a b : TextTriple) → SpellTriple s p o a → SpellTriple s p o b → a ≡ b
triple_once s p o a b one other =
    let subjects = term_word_once s _ a.subject b.subject one.kinds.0 other.kinds.0 one.subject other.subject in
    let predicates = term_word_once p _ a.predicate b.predicate one.kinds.1 other.kinds.1 one.predicate other.predicate in
    let objects = object_once o a.object b.object one.kinds.2 other.kinds.2 one.object other.object in
    λ i. record { subject = subjects i; predicate = predicates i; object = objects i }

-- ---- patterns

no_star : (kind : TermKind) (spelling : List ℕ) → TermAt kind (42 ∷ []) spelling [] → ⊥
no_star Node spelling (inl iri) = true≢false (ap (λ (w : List ℕ). get_or w 0 0 == 42) iri.1.begins)
no_star Node spelling (inr label) = true≢false (ap (λ (w : List ℕ). get_or w 0 0 == 42) label.2)
no_star Predicate spelling iri = true≢false (ap (λ (w : List ℕ). get_or w 0 0 == 42) iri.1.begins)
no_star Value spelling literal = true≢false (ap (λ (w : List ℕ). get_or w 0 0 == 42) literal.3.1.begins)

star_chars : chars (codes "*") ≡ 42 ∷ []
star_chars = chars-IsAscii (codes "*") (IsAscii-cons 42 [] (lit< tt) IsAscii-nil)

star_is_no_term : (word : List ℕ) (term : TextTerm) → word ≡ codes "*" → IsTermWord word term → ⊥
star_is_no_term word term star is = no_star term.kind term.spelling (subst (λ (t : List ℕ). TermAt term.kind t term.spelling []) (ap chars star ∙ star_chars) is.0.1)

part_once : (IsKind : TermKind → Type 0) (word : List ℕ) → ((a b : TextTerm) → IsKind a.kind → IsKind b.kind → IsTermWord word a → IsTermWord word b → a ≡ b)
    → (a b : Option TextTerm) → IsPartWord IsKind word a → IsPartWord IsKind word b → a ≡ b
part_once IsKind word once None None one other = refl
part_once IsKind word once None (Some term) one other = absurd (star_is_no_term word term one other.1)
part_once IsKind word once (Some term) None one other = absurd (star_is_no_term word term other one.1)
part_once IsKind word once (Some a) (Some b) one other = ap (λ (term : TextTerm). Some term) (once a b one.0 other.0 one.1 other.1)

pattern_once : (s p o : List ℕ) (a b : Pattern) → SpellPattern s p o a → SpellPattern s p o b → a ≡ b
pattern_once s p o a b one other =
    let subjects = part_once IsNodeKind s (λ x y. term_word_once s Node x y) a.subject b.subject one.subject other.subject in
    let predicates = part_once IsPredicateKind p (λ x y. term_word_once p Predicate x y) a.predicate b.predicate one.predicate other.predicate in
    let objects = part_once IsObjectKind o (λ x y. object_once o x y) a.object b.object one.object other.object in
    λ i. record { subject = subjects i; predicate = predicates i; object = objects i }

count_once : (word : List ℕ) (n m : ℕ) → IsCountWord word n → IsCountWord word m → n ≡ m
count_once word n m one other =
    let below_n : n < 2 ^ 64 = (let most = one.1 in omega (arith, most)) in
    let below_m : m < 2 ^ 64 = (let most = other.1 in omega (arith, most)) in
    decimal_injective n m below_n below_m (sym one.2 ∙ other.2)

-- ---- names

name_of : List (List ℕ) → Name
name_of words =
    if bytes_eq (get_or words 0 []) (codes "base") then base else
    if bytes_eq (get_or words 0 []) (codes "commit") then commit else
    if bytes_eq (get_or words 0 []) (codes "list") then list else
    if bytes_eq (get_or words 0 []) (codes "has") then has else
    if bytes_eq (get_or words 0 []) (codes "added") then added else
    if bytes_eq (get_or words 0 []) (codes "removed") then removed else
    if bytes_eq (get_or words 0 []) (codes "layers") then layers else
    if bytes_eq (get_or words 0 []) (codes "squash") then squash else
    if bytes_eq (get_or words 0 []) (codes "labels") then labels else
    if bytes_eq (get_or words 0 []) (codes "count") then count else
    if bytes_eq (get_or words 0 []) (codes "open") then open_cursor else
    if bytes_eq (get_or words 0 []) (codes "fetch") then fetch else
    if bytes_eq (get_or words 0 []) (codes "close") then close else
    if bytes_eq (get_or words 1 []) (codes "new") then label_new else
    if bytes_eq (get_or words 1 []) (codes "get") then label_get else label_set

named : (name : Name) (behind : List (List ℕ)) → name_of (name_words name ++ behind) ≡ name
unfolding name_of
named base behind = refl
named commit behind = refl
named list behind = refl
named has behind = refl
named added behind = refl
named removed behind = refl
named layers behind = refl
named squash behind = refl
named labels behind = refl
named label_new behind = refl
named label_get behind = refl
named label_set behind = refl
named count behind = refl
named open_cursor behind = refl
named fetch behind = refl
named close behind = refl

count_of : Name → ℕ
count_of base = 1
count_of commit = 1
count_of list = 1
count_of has = 1
count_of added = 1
count_of removed = 1
count_of layers = 1
count_of squash = 1
count_of labels = 1
count_of label_new = 2
count_of label_get = 2
count_of label_set = 2
count_of count = 1
count_of open_cursor = 1
count_of fetch = 1
count_of close = 1

dropped : (name : Name) (behind : List (List ℕ)) → drop (count_of name) (name_words name ++ behind) ≡ behind
unfolding count_of
dropped base behind = refl
dropped commit behind = refl
dropped list behind = refl
dropped has behind = refl
dropped added behind = refl
dropped removed behind = refl
dropped layers behind = refl
dropped squash behind = refl
dropped labels behind = refl
dropped label_new behind = refl
dropped label_get behind = refl
dropped label_set behind = refl
dropped count behind = refl
dropped open_cursor behind = refl
dropped fetch behind = refl
dropped close behind = refl

-- ---- heads

of_ref_once : (make : Ref → Head) (behind : List (List ℕ)) (a b : Head) → IsOfRef make behind a → IsOfRef make behind b → a ≡ b
of_ref_once make behind a b (word, at, are, is, says) (word', at', are', is', says') =
    let same : word' ≡ word = ap (λ (ws : List (List ℕ)). get_or ws 0 []) (sym are' ∙ are) in
    says ∙ ap make (ref_once word at at' is (subst (λ w. IsRefWord w at') same is')) ∙ sym says'

of_layer_once : (make : LayerRef → Head) (behind : List (List ℕ)) (a b : Head) → IsOfLayer make behind a → IsOfLayer make behind b → a ≡ b
of_layer_once make behind a b (word, layer, are, is, says) (word', layer', are', is', says') =
    let same : word' ≡ word = ap (λ (ws : List (List ℕ)). get_or ws 0 []) (sym are' ∙ are) in
    says ∙ ap make (layer_once word layer layer' is (subst (λ w. IsLayerWord w layer') same is')) ∙ sym says'

of_label_once : (make : List ℕ → Head) (behind : List (List ℕ)) (a b : Head) → IsOfLabel make behind a → IsOfLabel make behind b → a ≡ b
of_label_once make behind a b (name, are, is, says) (name', are', is', says') =
    let same : name' ≡ name = ap (λ (ws : List (List ℕ)). get_or ws 0 []) (sym are' ∙ are) in
    says ∙ ap make (sym same) ∙ sym says'

of_pattern_once : (make : Ref → Pattern → Head) (behind : List (List ℕ)) (a b : Head) → IsOfPattern make behind a → IsOfPattern make behind b → a ≡ b
of_pattern_once make behind a b (word, s, p, o, at, pattern, are, is, spell, says) (word', s', p', o', at', pattern', are', is', spell', says') =
    let same = sym are' ∙ are in
    let word-same : word' ≡ word = ap (λ (ws : List (List ℕ)). get_or ws 0 []) same in
    let subjects : s' ≡ s = ap (λ (ws : List (List ℕ)). get_or ws 1 []) same in
    let predicates : p' ≡ p = ap (λ (ws : List (List ℕ)). get_or ws 2 []) same in
    let objects : o' ≡ o = ap (λ (ws : List (List ℕ)). get_or ws 3 []) same in
    let ats = ref_once word at at' is (subst (λ w. IsRefWord w at') word-same is') in
    let spells : SpellPattern s p o pattern' =
    subst (λ w. SpellPattern w p o pattern') subjects (subst (λ w. SpellPattern s' w o pattern') predicates (subst (λ w. SpellPattern s' p' w pattern') objects spell')) in
    let patterns = pattern_once s p o pattern pattern' spell spells in
    says ∙ (λ i. make (ats i) (patterns i)) ∙ sym says'

ref_or_pattern : (behind : List (List ℕ)) {word w s p o : List ℕ} → behind ≡ word ∷ [] → behind ≡ w ∷ s ∷ p ∷ o ∷ [] → ⊥
ref_or_pattern behind one other = let long = ap length (sym one ∙ other) in omega (arith, long)

head_of_once : (name : Name) (behind : List (List ℕ)) (a b : Head) → IsHeadOf name behind a → IsHeadOf name behind b → a ≡ b
head_of_once base behind a b one other = one.1 ∙ sym other.1
head_of_once commit behind a b one other = of_ref_once (λ at. Awaits (opening.Commit at)) behind a b one other
head_of_once list behind a b (inl one) (inl other) = of_ref_once (λ at. Whole (command.Listing at unbound)) behind a b one other
head_of_once list behind a b (inl one) (inr other) = absurd (ref_or_pattern behind one.2 other.6)
head_of_once list behind a b (inr one) (inl other) = absurd (ref_or_pattern behind other.2 one.6)
head_of_once list behind a b (inr one) (inr other) = of_pattern_once (λ at pattern. Whole (command.Listing at pattern)) behind a b one other
head_of_once count behind a b one other = of_pattern_once (λ at pattern. Whole (command.Count at pattern)) behind a b one other
head_of_once open_cursor behind a b (name, others, are, is, says) (name', others', are', is', says') =
    let names : name' ≡ name = ap (λ (ws : List (List ℕ)). get_or ws 0 []) (sym are' ∙ are) in
    let behinds : others' ≡ others = ap (λ (ws : List (List ℕ)). drop 1 ws) (sym are' ∙ are) in
    of_pattern_once (λ at pattern. Whole (command.OpenCursor name at pattern)) others a b says
    (subst (λ (n : List ℕ). IsOfPattern (λ at pattern. Whole (command.OpenCursor n at pattern)) others b) names
    (subst (λ (ws : List (List ℕ)). IsOfPattern (λ at pattern. Whole (command.OpenCursor name' at pattern)) ws b) behinds says'))
head_of_once fetch behind a b (name, word, n, are, named, is, says) (name', word', n', are', named', is', says') =
    let same = sym are' ∙ are in
    let names : name' ≡ name = ap (λ (ws : List (List ℕ)). get_or ws 0 []) same in
    let words : word' ≡ word = ap (λ (ws : List (List ℕ)). get_or ws 1 []) same in
    let numbers = count_once word n n' is (subst (λ w. IsCountWord w n') words is') in
    says ∙ (λ i. Whole (command.Fetch (sym names i) (numbers i))) ∙ sym says'
head_of_once close behind a b (name, are, is, says) (name', are', is', says') =
    let same : name' ≡ name = ap (λ (ws : List (List ℕ)). get_or ws 0 []) (sym are' ∙ are) in
    says ∙ ap (λ (n : List ℕ). Whole (command.CloseCursor n)) (sym same) ∙ sym says'
head_of_once added behind a b one other = of_layer_once (λ layer. Whole (command.Added layer)) behind a b one other
head_of_once removed behind a b one other = of_layer_once (λ layer. Whole (command.Removed layer)) behind a b one other
head_of_once layers behind a b one other = one.1 ∙ sym other.1
head_of_once squash behind a b one other = of_ref_once (λ at. Whole (command.Squash at)) behind a b one other
head_of_once labels behind a b one other = one.1 ∙ sym other.1
head_of_once label_new behind a b one other = of_label_once (λ name. Whole (command.LabelNew name)) behind a b one other
head_of_once label_get behind a b one other = of_label_once (λ name. Whole (command.LabelGet name)) behind a b one other
head_of_once label_set behind a b (name, version, to, number, target, are, named, is, moves, says) (name', version', to', number', target', are', named', is', moves', says') =
    let same = sym are' ∙ are in
    let names : name' ≡ name = ap (λ (ws : List (List ℕ)). get_or ws 0 []) same in
    let versions : version' ≡ version = ap (λ (ws : List (List ℕ)). get_or ws 1 []) same in
    let tos : to' ≡ to = ap (λ (ws : List (List ℕ)). get_or ws 2 []) same in
    let numbers = version_once version number number' is (subst (λ w. IsVersionWord w number') versions is') in
    let targets = target_once to target target' moves (subst (λ w. IsTargetWord w target') tos moves') in
    says ∙ (λ i. Whole (command.LabelSet (sym names i) (numbers i) (targets i))) ∙ sym says'
head_of_once has behind a b (word, s, p, o, at, triple, are, is, spell, says) (word', s', p', o', at', triple', are', is', spell', says') =
    let same = sym are' ∙ are in
    let word-same : word' ≡ word = ap (λ (ws : List (List ℕ)). get_or ws 0 []) same in
    let subjects : s' ≡ s = ap (λ (ws : List (List ℕ)). get_or ws 1 []) same in
    let predicates : p' ≡ p = ap (λ (ws : List (List ℕ)). get_or ws 2 []) same in
    let objects : o' ≡ o = ap (λ (ws : List (List ℕ)). get_or ws 3 []) same in
    let ats = ref_once word at at' is (subst (λ w. IsRefWord w at') word-same is') in
    let spells : SpellTriple s p o triple' =
    subst (λ w. SpellTriple w p o triple') subjects (subst (λ w. SpellTriple s' w o triple') predicates (subst (λ w. SpellTriple s' p' w triple') objects spell')) in
    let triples = triple_once s p o triple triple' spell spells in
    says ∙ (λ i. Whole (command.Has (ats i) (triples i))) ∙ sym says'

-- what stands behind a name is what it asks for
pub head_by_name : (words : List (List ℕ)) (name : Name) (behind : List (List ℕ)) (head : Head) → words ≡ name_words name ++ behind → IsHead words head → IsHeadOf name behind head
head_by_name words name behind head are is =
    let same = sym is.parts ∙ are in
    let names : is.name ≡ name = sym (named is.name is.behind) ∙ ap name_of same ∙ named name behind in
    let same_name : name_words name ++ is.behind ≡ name_words name ++ behind = subst (λ (n : Name). name_words n ++ is.behind ≡ name_words name ++ behind) names same in
    let behinds : is.behind ≡ behind = sym (dropped name is.behind) ∙ ap (λ (ws : List (List ℕ)). drop (count_of name) ws) same_name ∙ dropped name behind in
    subst (λ (n : Name). IsHeadOf n behind head) names (subst (λ (ws : List (List ℕ)). IsHeadOf is.name ws head) behinds is.says)

pub head_once : (words : List (List ℕ)) (a b : Head) → IsHead words a → IsHead words b → a ≡ b
head_once words a b one other = head_of_once other.name other.behind a b (head_by_name words other.name other.behind a other.parts one) other.says
