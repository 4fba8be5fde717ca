-- The type of strings at the end of a literal is not written.
use Rattle.std.proofs.Common.{◌≡◌, ◌≢◌, ℕ, ◌-◌, true, false, cond, List, [], ◌∷◌, ◌++◌, length, take, drop, codes, refl, sym, ap, ◌∙◌, arith, append-nil, true≢false}
use Rattle.std.proofs.lemmas.List.{take_all, length-drop}
use Rattle.std.specs.Char.{encode_utf8}
use Rattle.std.specs.Str.{bytes_eq}
use Rattle.std.proofs.lemmas.Bool.{false_from_ne_true}
use Rattle.std.proofs.lemmas.Slice.Eq.{bytes_eq-Decides}
use Rattle.std.proofs.Math.Seq.{drop-append_seam, take-append_seam}
use Rattle.ts_model.specs.Iri.{iri_spelling}
use Rattle.ts_model.specs.Literal.{string_type}
use Rattle.ts_nt.specs.Terms.{type_ending}

abbrev pub string_ending : List ℕ
string_ending = codes "^^<http://www.w3.org/2001/XMLSchema#string>"

spelled : string_ending ≡ 0x5E ∷ 0x5E ∷ iri_spelling string_type
unfolding encode_utf8
spelled = refl

module _ (bytes front iri : List ℕ) (start : ℕ) (parts : bytes ≡ front ++ 0x5E ∷ 0x5E ∷ iri) (long : length front ≡ start) where
  behind : drop start bytes ≡ 0x5E ∷ 0x5E ∷ iri
  behind = ap (λ n. drop n bytes) (sym long) ∙ ap (drop (length front)) parts ∙ drop-append_seam front (0x5E ∷ 0x5E ∷ iri)

  pub string_type_dropped : drop start bytes ≡ string_ending → take start bytes ≡ front ++ type_ending iri
  string_type_dropped same =
      let type_of : iri ≡ iri_spelling string_type = ap (drop 2) (sym behind ∙ same ∙ spelled) in
      let nothing : type_ending iri ≡ [] = ap (λ b. cond b [] (0x5E ∷ 0x5E ∷ iri)) ((bytes_eq-Decides iri (iri_spelling string_type)).1 type_of) in
      ap (λ n. take n bytes) (sym long) ∙ ap (take (length front)) parts ∙ take-append_seam front (0x5E ∷ 0x5E ∷ iri) ∙ sym (append-nil front) ∙ ap (λ e. front ++ e) (sym nothing)

  pub other_type_kept : drop start bytes ≢ string_ending → bytes ≡ front ++ type_ending iri
  other_type_kept other =
      let differs : bytes_eq iri (iri_spelling string_type) ≡ false =
      false_from_ne_true _ (λ e. other (behind ∙ ap (λ i. 0x5E ∷ 0x5E ∷ i) ((bytes_eq-Decides iri (iri_spelling string_type)).0 e) ∙ sym spelled))
      in
      parts ∙ ap (λ b. front ++ cond b [] (0x5E ∷ 0x5E ∷ iri)) (sym differs)

-- ---- the end of bytes, as a comparison sees it

the_end : (bytes : List ℕ) (start : ℕ) → take (length bytes - start) (drop start bytes) ≡ drop start bytes
the_end bytes start = take_all (length bytes - start) (drop start bytes) (omega (arith, length-drop start bytes))

pub ends_so : (bytes read part : List ℕ) (start : ℕ) → read ≡ bytes → true ≡ bytes_eq (take (length read - start) (drop start read)) part → drop start bytes ≡ part
ends_so bytes read part start same e =
    ap (drop start) (sym same) ∙ sym (the_end read start) ∙ (bytes_eq-Decides (take (length read - start) (drop start read)) part).0 (sym e)

pub ends_otherwise : (bytes read part : List ℕ) (start : ℕ) → read ≡ bytes → false ≡ bytes_eq (take (length read - start) (drop start read)) part → drop start bytes ≢ part
ends_otherwise bytes read part start same e ends =
    let all : take (length read - start) (drop start read) ≡ part = the_end read start ∙ ap (drop start) same ∙ ends in
    true≢false (sym ((bytes_eq-Decides _ part).1 all) ∙ sym e)
