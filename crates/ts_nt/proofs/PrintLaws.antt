-- The line of a triple reads back as that triple.
use Rattle.std.proofs.Common.{◌≡◌, inl, inr, ℕ, ◌≤◌, List, [], ◌∷◌, ◌++◌, length, All, encode_utf8_all, refl, sym, ap, subst, ◌∙◌, arith, lit<, append_assoc, length-append}
use Rattle.std.specs.Char.{IsScalar}
use Rattle.std.proofs.lemmas.List.Elements.{All-cons, All-nil, All-append}
use Rattle.std.proofs.lemmas.Str.{encodes-append}
use Rattle.ts_model.specs.declared.term.TermKind.{TermKind}
use Rattle.ts_model.specs.declared.term.TermKind.TheVariants.{Node, Predicate, Value}
use Rattle.ts_model.specs.declared.signed.Sign.TheVariants.{Add}
use Rattle.ts_model.specs.Canonical.{IsCanonical}
use Rattle.ts_model.specs.TextTriple.{TextTriple, HasKinds}
use Rattle.ts_model.specs.Limits.{term_limit}
use Rattle.ts_model.specs.TextTerm.{TextTerm, IsTerm}
use Rattle.ts_nt.specs.LineRead.{IsReadAs, IsWithinLimits}
use Rattle.ts_nt.specs.Limits.{line_limit}
use Rattle.ts_nt.specs.Terms.{TermAt}
use Rattle.ts_nt.specs.TripleLine.{triple_line}
use Rattle.ts_nt.specs.TripleText.{after_blanks, IsTripleText}
use Rattle.ts_nt.proofs.BlankLaws.{after_blanks-begins, after_blanks-blank}
use Rattle.ts_nt.proofs.Printing.{PrintsBeforeSpace}
use Rattle.ts_nt.proofs.ScalarLaws.{written_utf8, written_chars}
use Rattle.ts_nt.proofs.TermLaws.{iri_begins, label_begins, literal_begins, term_prints, ascii}
use Rattle.ts_nt.proofs.TripleLaws.{AreCanonical}

-- no blank stands before a term
no_blanks : (kind : TermKind) (text spelling rest : List ℕ) → TermAt kind text spelling rest → after_blanks text ≡ text
no_blanks Node text spelling rest (inl at) = after_blanks-begins text 0x3C (iri_begins text spelling rest at) refl
no_blanks Node text spelling rest (inr at) = after_blanks-begins text 0x5F (label_begins text spelling rest at) refl
no_blanks Predicate text spelling rest at = after_blanks-begins text 0x3C (iri_begins text spelling rest at) refl
no_blanks Value text spelling rest at = after_blanks-begins text 0x22 (literal_begins text spelling rest at) refl

term_here : (kind : TermKind) (text spelling rest : List ℕ) → TermAt kind text spelling rest → TermAt kind (after_blanks text) spelling rest
term_here kind text spelling rest at = subst (λ t. TermAt kind t spelling rest) (sym (no_blanks kind text spelling rest at)) at

-- a term behind a space
term_after_space : (kind : TermKind) (text spelling rest : List ℕ) → TermAt kind text spelling rest → TermAt kind (after_blanks (0x20 ∷ text)) spelling rest
term_after_space kind text spelling rest at = subst (λ t. TermAt kind t spelling rest) (sym (after_blanks-blank 0x20 text refl)) (term_here kind text spelling rest at)

-- the line, without its end
pub printed_line : TextTriple → List ℕ
printed_line triple = triple.subject.spelling ++ 0x20 ∷ (triple.predicate.spelling ++ 0x20 ∷ (triple.object.spelling ++ 0x20 ∷ 0x2E ∷ []))

pub printed_ends : (triple : TextTriple) → triple_line triple ≡ printed_line triple ++ 0x0A ∷ []
unfolding printed_line
printed_ends triple = simp append_assoc

module _ (triple : TextTriple) (kinds : HasKinds triple.subject triple.predicate triple.object) (canonical : AreCanonical triple) where
  subject : PrintsBeforeSpace (λ text rest. TermAt Node text triple.subject.spelling rest) triple.subject.spelling
  subject = term_prints Node triple.subject.spelling (subst (λ k. IsCanonical k triple.subject.spelling) kinds.0 canonical.0)

  predicate : PrintsBeforeSpace (λ text rest. TermAt Predicate text triple.predicate.spelling rest) triple.predicate.spelling
  predicate = term_prints Predicate triple.predicate.spelling (subst (λ k. IsCanonical k triple.predicate.spelling) kinds.1 canonical.1)

  object : PrintsBeforeSpace (λ text rest. TermAt triple.object.kind text triple.object.spelling rest) triple.object.spelling
  object = term_prints triple.object.kind triple.object.spelling canonical.2

  from_object : List ℕ
  from_object = object.0 ++ 0x20 ∷ 0x2E ∷ []

  from_predicate : List ℕ
  from_predicate = predicate.0 ++ 0x20 ∷ from_object

  printed_text : List ℕ
  printed_text = subject.0 ++ 0x20 ∷ from_predicate

  scalars_before : (text more : List ℕ) → All IsScalar text → All IsScalar more → All IsScalar (text ++ 0x20 ∷ more)
  scalars_before text more front behind = All-append IsScalar text (0x20 ∷ more) front (All-cons IsScalar 0x20 more refl behind)

  printed_scalars : All IsScalar printed_text
  unfolding printed_text from_predicate from_object
  printed_scalars =
      scalars_before subject.0 _ subject.1 (scalars_before predicate.0 _ predicate.1 (scalars_before object.0 (0x2E ∷ []) object.1 (All-cons IsScalar 0x2E [] refl (All-nil IsScalar))))

  encoded_before : (text bytes more following : List ℕ) → encode_utf8_all text ≡ bytes → encode_utf8_all more ≡ following → encode_utf8_all (text ++ 0x20 ∷ more) ≡ bytes ++ 0x20 ∷ following
  encoded_before text bytes more following front behind = encodes-append text (0x20 ∷ more) ∙ (λ i. front i ++ ascii 0x20 more following (lit< tt) behind i)

  printed_bytes : encode_utf8_all printed_text ≡ printed_line triple
  unfolding printed_text from_predicate from_object printed_line
  printed_bytes =
      encoded_before subject.0 triple.subject.spelling _ _ subject.2
      (encoded_before predicate.0 triple.predicate.spelling _ _ predicate.2 (encoded_before object.0 triple.object.spelling (0x2E ∷ []) (0x2E ∷ []) object.2 (ascii 0x2E [] [] (lit< tt) refl)))

  printed_reads : IsTripleText printed_text Add triple
  unfolding printed_text from_predicate from_object
  printed_reads = record {
    kinds = kinds;
    after_sign = printed_text;
    after_subject = 0x20 ∷ from_predicate;
    after_predicate = 0x20 ∷ from_object;
    after_object = 0x20 ∷ 0x2E ∷ [];
    after_dot = [];
    has_sign = inr (inr (no_blanks Node printed_text triple.subject.spelling (0x20 ∷ from_predicate) (subject.3 from_predicate), refl));
    subject = term_here Node printed_text triple.subject.spelling (0x20 ∷ from_predicate) (subject.3 from_predicate);
    predicate = term_after_space Predicate from_predicate triple.predicate.spelling (0x20 ∷ from_object) (predicate.3 from_object);
    object = term_after_space triple.object.kind from_object triple.object.spelling (0x20 ∷ 0x2E ∷ []) (object.3 (0x2E ∷ []));
    dot = refl;
    ending = inl refl;
  }

  pub printed_reads_as : IsWithinLimits triple → IsReadAs (printed_line triple) (record { sign = Add; triple = triple })
  unfolding printed_line
  printed_reads_as within =
      let long : length (printed_line triple) ≤ line_limit = simp length-append (omega (arith, within.0, within.1, within.2)) in (
        long,
        (written_utf8 printed_text (printed_line triple) printed_scalars printed_bytes, subst (λ t. IsTripleText t Add triple) (sym (written_chars printed_text (printed_line triple) printed_scalars printed_bytes)) printed_reads),
        within,
      )

-- what is known of a term, where it was read
pub term_of_bytes : (read term : TextTerm) (bytes : List ℕ) → read ≡ term → bytes ≡ read.spelling → IsCanonical read.kind bytes → length bytes ≤ term_limit → IsTerm term
term_of_bytes read term bytes same spelled canonical within =
    subst (λ t. IsTerm t) same (subst (λ b. IsCanonical read.kind b) spelled canonical, subst (λ b. length b ≤ term_limit) spelled within)

-- the bytes that are written are those of a line that reads back
pub reads_back : (triple : TextTriple) (old new : List ℕ) → HasKinds triple.subject triple.predicate triple.object → IsTerm triple.subject → IsTerm triple.predicate → IsTerm triple.object
    → new ≡ old ++ triple_line triple → (line : List ℕ) × (new ≡ old ++ (line ++ 0x0A ∷ [])) × IsReadAs line (record { sign = Add; triple = triple })
reads_back triple old new kinds first second third written = (
  printed_line triple,
  written ∙ ap (λ bytes. old ++ bytes) (printed_ends triple),
  printed_reads_as triple kinds (first.0, second.0, third.0) (first.1, second.1, third.1),
)
