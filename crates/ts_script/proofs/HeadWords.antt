-- What the words of a command are like.
use Rattle.std.proofs.Common.{◌≡◌, inl, inr, ℕ, ◌<◌, ◌≤◌, ◌/◌, ◌%◌, true, List, [], ◌∷◌, ◌++◌, length, slice_index, codes, refl, sym, ◌∙◌, ap, subst, arith, lit<, Option, None, Some}
use Rattle.std.specs.Prelude.{IsTrue, nat_le, IsUtf8, decimal}
use Rattle.std.specs.Int.{w32, to_be_bytes}
use Rattle.std.specs.List.{AllByRecursion}
use Rattle.std.specs.Str.{IsAscii}
use Rattle.std.proofs.lemmas.Bool.{leb-true, agree_below_at}
use Rattle.std.proofs.lemmas.Fmt.{IsAscii-decimal}
use Rattle.std.proofs.lemmas.Str.{IsUtf8-from_ascii}
use Rattle.std.proofs.lemmas.Str.Ascii.{IsAscii-cons, IsAscii-from_all, IsAscii-nil}
use Rattle.hex.specs.Hex.{lower_digits, encode_lower, encode_with}
use Rattle.ts_model.specs.LayerText.{layer_text}
use Rattle.ts_model.specs.Names.{is_cursor_byte, is_label_byte, IsCursorName, IsLabelName}
use Rattle.ts_script.specs.Heads.{Name, base, commit, list, has, added, removed, layers, squash, labels, label_new, label_get, label_set, count, open_cursor, fetch, close, name_words, IsHead, IsHeadOf, IsOfPattern, AreNoHead}
use Rattle.ts_model.specs.TextTerm.{TextTerm}
use Rattle.ts_model.specs.declared.pattern.Pattern.{Pattern}
use Rattle.ts_model.specs.declared.term.TermKind.{TermKind}
use Rattle.ts_script.specs.ScriptBody.{AreAll}
use Rattle.ts_script.specs.Words.{IsLayerWord, IsRefWord, IsTargetWord, IsPartWord, IsNodeKind, IsPredicateKind, IsObjectKind}
use Rattle.ts_script.specs.declared.command.LayerRef.{LayerRef}
use Rattle.ts_script.specs.declared.command.LayerRef.TheVariants.{Number, Last}
use Rattle.ts_script.specs.declared.command.Ref.{Ref}
use Rattle.ts_script.specs.declared.command.Ref.TheVariants.{Layer, Label}
use Rattle.ts_script.specs.declared.head.Head.{Head}

-- ---- no more than six

pub at_most_six : (words : List (List ℕ)) (head : Head) → IsHead words head → length words ≤ 6
at_most_six words head is = by_name is.name is.behind is.parts is.says
  where
    by_name : (name : Name) (behind : List (List ℕ)) → words ≡ name_words name ++ behind → IsHeadOf name behind head → length words ≤ 6
    by_name base behind are says = omega (arith, ap length are, ap length says.0)
    by_name commit behind are says = omega (arith, ap length are, ap length says.2)
    by_name list behind are (inl says) = omega (arith, ap length are, ap length says.2)
    by_name list behind are (inr says) = omega (arith, ap length are, ap length says.6)
    by_name has behind are says = omega (arith, ap length are, ap length says.6)
    by_name added behind are says = omega (arith, ap length are, ap length says.2)
    by_name removed behind are says = omega (arith, ap length are, ap length says.2)
    by_name layers behind are says = omega (arith, ap length are, ap length says.0)
    by_name squash behind are says = omega (arith, ap length are, ap length says.2)
    by_name labels behind are says = omega (arith, ap length are, ap length says.0)
    by_name label_new behind are says = omega (arith, ap length are, ap length says.1)
    by_name label_get behind are says = omega (arith, ap length are, ap length says.1)
    by_name label_set behind are says = omega (arith, ap length are, ap length says.5)
    by_name count behind are says = omega (arith, ap length are, ap length says.6)
    by_name open_cursor behind are says = omega (arith, ap length are, ap length says.2, ap length says.4.6)
    by_name fetch behind are says = omega (arith, ap length are, ap length says.3)
    by_name close behind are says = omega (arith, ap length are, ap length says.1)

pub too_many : (words : List (List ℕ)) → 6 < length words → AreNoHead words
too_many words many head is = let few = at_most_six words head is in omega (arith, few)

-- ---- texts

ascii_digit : (d : ℕ) → d < 16 → slice_index lower_digits d < 128
ascii_digit d small =
    let within : slice_index lower_digits d ≤ 127 = leb-true _ 127 (agree_below_at (λ k. nat_le (slice_index lower_digits k) 127) (λ k. true) 16 d refl small) in
    omega (arith, within)

ascii_encoded : (bytes : List ℕ) → AllByRecursion (λ b. b < 256) bytes → IsAscii (encode_lower bytes)
unfolding encode_with
ascii_encoded [] below = IsAscii-nil
ascii_encoded (b ∷ bytes) below =
    let low : IsAscii (slice_index lower_digits (b % 16) ∷ encode_lower bytes) = IsAscii-cons _ (encode_lower bytes) (ascii_digit (b % 16) (omega arith)) (ascii_encoded bytes below.1) in
    IsAscii-cons (slice_index lower_digits (b / 16)) (slice_index lower_digits (b % 16) ∷ encode_lower bytes) (ascii_digit (b / 16) (omega (arith, below.0))) low

byte_below : (x : ℕ) → x % 256 < 256
byte_below x = omega arith

layer_ascii : (n : ℕ) → IsAscii (layer_text n)
layer_ascii n = ascii_encoded (to_be_bytes w32 n) (byte_below (n / 16777216), (byte_below (n / 65536), (byte_below (n / 256), (byte_below n, tt))))

plain_ascii : (bytes : List ℕ) → AllByRecursion (λ b. b < 128) bytes → IsAscii bytes
plain_ascii [] below = IsAscii-nil
plain_ascii (b ∷ bytes) below = IsAscii-cons b bytes below.0 (plain_ascii bytes below.1)

plain_utf8 : (bytes : List ℕ) → AllByRecursion (λ b. b < 128) bytes → IsUtf8 bytes
plain_utf8 bytes below = IsUtf8-from_ascii bytes (plain_ascii bytes below)

layer_utf8 : (word : List ℕ) (layer : LayerRef) → IsLayerWord word layer → IsUtf8 word
layer_utf8 word Last is = subst IsUtf8 (sym is) (plain_utf8 (codes "last") (lit< tt, (lit< tt, (lit< tt, (lit< tt, tt)))))
layer_utf8 word (Number n) is = subst IsUtf8 (sym is.1) (IsUtf8-from_ascii (layer_text n) (layer_ascii n))

label_byte : (b : ℕ) → IsTrue (is_label_byte b) → b < 128
label_byte b is = grind arith

label_ascii : (name : List ℕ) → IsLabelName name → IsAscii name
label_ascii name is = IsAscii-from_all name (λ i d within. label_byte _ (is.2 i d within))

label_utf8 : (name : List ℕ) → IsLabelName name → IsUtf8 name
label_utf8 name is = IsUtf8-from_ascii name (label_ascii name is)

ref_utf8 : (word : List ℕ) (at : Ref) → IsRefWord word at → IsUtf8 word
ref_utf8 word (Layer layer) is = layer_utf8 word layer is
ref_utf8 word (Label name) is = subst IsUtf8 (sym is.0) (IsUtf8-from_ascii (64 ∷ name) (IsAscii-cons 64 name (omega arith) (label_ascii name is.1)))

target_utf8 : (word : List ℕ) (to : Option LayerRef) → IsTargetWord word to → IsUtf8 word
target_utf8 word None is = subst IsUtf8 (sym is) (plain_utf8 (codes "none") (lit< tt, (lit< tt, (lit< tt, (lit< tt, tt)))))
target_utf8 word (Some layer) is = layer_utf8 word layer is

part_utf8 : (IsKind : TermKind → Type 0) (word : List ℕ) (part : Option TextTerm) → IsPartWord IsKind word part → IsUtf8 word
part_utf8 IsKind word None is = subst IsUtf8 (sym is) (plain_utf8 (codes "*") (lit< tt, tt))
part_utf8 IsKind word (Some term) is = is.1.0.0

pattern_utf8 : (make : Ref → Pattern → Head) (behind : List (List ℕ)) (head : Head) → IsOfPattern make behind head → AreAll IsUtf8 behind
pattern_utf8 make behind head says =
    subst (AreAll IsUtf8) (sym says.6)
    (ref_utf8 _ says.4 says.7, (part_utf8 IsNodeKind _ _ says.8.subject, (part_utf8 IsPredicateKind _ _ says.8.predicate, (part_utf8 IsObjectKind _ _ says.8.object, tt))))

cursor_byte : (b : ℕ) → IsTrue (is_cursor_byte b) → b < 128
cursor_byte b is = grind arith

cursor_utf8 : (name : List ℕ) → IsCursorName name → IsUtf8 name
cursor_utf8 name is = IsUtf8-from_ascii name (IsAscii-from_all name (λ i d within. cursor_byte _ (is.2 i d within)))

behind_utf8 : (name : Name) (behind : List (List ℕ)) (head : Head) → IsHeadOf name behind head → AreAll IsUtf8 behind
behind_utf8 base behind head says = subst (AreAll IsUtf8) (sym says.0) tt
behind_utf8 commit behind head says = subst (AreAll IsUtf8) (sym says.2) (ref_utf8 _ says.1 says.3, tt)
behind_utf8 list behind head (inl says) = subst (AreAll IsUtf8) (sym says.2) (ref_utf8 _ says.1 says.3, tt)
behind_utf8 list behind head (inr says) = pattern_utf8 _ behind head says
behind_utf8 has behind head says =
    subst (AreAll IsUtf8) (sym says.6) (ref_utf8 _ says.4 says.7, (says.8.subject.0.0, (says.8.predicate.0.0, (says.8.object.0.0, tt))))
behind_utf8 added behind head says = subst (AreAll IsUtf8) (sym says.2) (layer_utf8 _ says.1 says.3, tt)
behind_utf8 removed behind head says = subst (AreAll IsUtf8) (sym says.2) (layer_utf8 _ says.1 says.3, tt)
behind_utf8 layers behind head says = subst (AreAll IsUtf8) (sym says.0) tt
behind_utf8 squash behind head says = subst (AreAll IsUtf8) (sym says.2) (ref_utf8 _ says.1 says.3, tt)
behind_utf8 labels behind head says = subst (AreAll IsUtf8) (sym says.0) tt
behind_utf8 label_new behind head says = subst (AreAll IsUtf8) (sym says.1) (label_utf8 _ says.2, tt)
behind_utf8 label_get behind head says = subst (AreAll IsUtf8) (sym says.1) (label_utf8 _ says.2, tt)
behind_utf8 label_set behind head says =
    subst (AreAll IsUtf8) (sym says.5) (label_utf8 _ says.6, (subst IsUtf8 (sym says.7.1) (IsUtf8-from_ascii (decimal says.3) (IsAscii-decimal says.3 says.7.0)), (target_utf8 _ says.4 says.8, tt)))
behind_utf8 count behind head says = pattern_utf8 _ behind head says
behind_utf8 open_cursor behind head says = subst (AreAll IsUtf8) (sym says.2) (cursor_utf8 _ says.3, pattern_utf8 _ says.1 head says.4)
behind_utf8 fetch behind head says =
    subst (AreAll IsUtf8) (sym says.3) (cursor_utf8 _ says.4, (subst IsUtf8 (sym says.5.2) (IsUtf8-from_ascii (decimal says.2) (IsAscii-decimal says.2 (let most = says.5.1 in omega (arith, most)))), tt))
behind_utf8 close behind head says = subst (AreAll IsUtf8) (sym says.1) (cursor_utf8 _ says.2, tt)

named_utf8 : (name : Name) (behind : List (List ℕ)) → AreAll IsUtf8 behind → AreAll IsUtf8 (name_words name ++ behind)
named_utf8 base behind are = (plain_utf8 (codes "base") (lit< tt, (lit< tt, (lit< tt, (lit< tt, tt)))), are)
named_utf8 commit behind are = (plain_utf8 (codes "commit") (lit< tt, (lit< tt, (lit< tt, (lit< tt, (lit< tt, (lit< tt, tt)))))), are)
named_utf8 list behind are = (plain_utf8 (codes "list") (lit< tt, (lit< tt, (lit< tt, (lit< tt, tt)))), are)
named_utf8 has behind are = (plain_utf8 (codes "has") (lit< tt, (lit< tt, (lit< tt, tt))), are)
named_utf8 added behind are = (plain_utf8 (codes "added") (lit< tt, (lit< tt, (lit< tt, (lit< tt, (lit< tt, tt))))), are)
named_utf8 removed behind are = (plain_utf8 (codes "removed") (lit< tt, (lit< tt, (lit< tt, (lit< tt, (lit< tt, (lit< tt, (lit< tt, tt))))))), are)
named_utf8 layers behind are = (plain_utf8 (codes "layers") (lit< tt, (lit< tt, (lit< tt, (lit< tt, (lit< tt, (lit< tt, tt)))))), are)
named_utf8 squash behind are = (plain_utf8 (codes "squash") (lit< tt, (lit< tt, (lit< tt, (lit< tt, (lit< tt, (lit< tt, tt)))))), are)
named_utf8 labels behind are = (plain_utf8 (codes "labels") (lit< tt, (lit< tt, (lit< tt, (lit< tt, (lit< tt, (lit< tt, tt)))))), are)
named_utf8 label_new behind are = (plain_utf8 (codes "label") (lit< tt, (lit< tt, (lit< tt, (lit< tt, (lit< tt, tt))))), (plain_utf8 (codes "new") (lit< tt, (lit< tt, (lit< tt, tt))), are))
named_utf8 label_get behind are = (plain_utf8 (codes "label") (lit< tt, (lit< tt, (lit< tt, (lit< tt, (lit< tt, tt))))), (plain_utf8 (codes "get") (lit< tt, (lit< tt, (lit< tt, tt))), are))
named_utf8 label_set behind are = (plain_utf8 (codes "label") (lit< tt, (lit< tt, (lit< tt, (lit< tt, (lit< tt, tt))))), (plain_utf8 (codes "set") (lit< tt, (lit< tt, (lit< tt, tt))), are))
named_utf8 count behind are = (plain_utf8 (codes "count") (lit< tt, (lit< tt, (lit< tt, (lit< tt, (lit< tt, tt))))), are)
named_utf8 open_cursor behind are = (plain_utf8 (codes "open") (lit< tt, (lit< tt, (lit< tt, (lit< tt, tt)))), are)
named_utf8 fetch behind are = (plain_utf8 (codes "fetch") (lit< tt, (lit< tt, (lit< tt, (lit< tt, (lit< tt, tt))))), are)
named_utf8 close behind are = (plain_utf8 (codes "close") (lit< tt, (lit< tt, (lit< tt, (lit< tt, (lit< tt, tt))))), are)

all_within : (P : List ℕ → Type 0) (front : List (List ℕ)) (word : List ℕ) (rest : List (List ℕ)) → AreAll P (front ++ word ∷ rest) → P word
all_within P [] word rest are = are.0
all_within P (first ∷ front) word rest are = all_within P front word rest are.1

-- a command has no word that isn't UTF-8
pub no_text : (words front : List (List ℕ)) (word : List ℕ) (rest : List (List ℕ)) → words ≡ front ++ word ∷ rest → (IsUtf8 word → ⊥) → AreNoHead words
no_text words front word rest are none head is =
    none (all_within IsUtf8 front word rest (subst (AreAll IsUtf8) (sym is.parts ∙ are) (named_utf8 is.name is.behind (behind_utf8 is.name is.behind head is.says))))
