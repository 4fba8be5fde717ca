-- What stands at the front of bytes: one line, one triple, and one section.
use Rattle.std.proofs.Common.{◌≡◌, ◌≢◌, ℕ, List, [], ◌∷◌, ◌++◌, All, chars, refl, sym, ap, ◌∙◌, subst, inl, inr, arith, append_assoc, append-nil}
use Rattle.std.proofs.lemmas.List.{append_cancel_right}
use Rattle.std.proofs.lemmas.List.Elements.{All-head, All-tail}
use Rattle.ts_model.specs.declared.signed.Sign.{Sign}
use Rattle.ts_model.specs.declared.signed.Sign.TheVariants.{Add}
use Rattle.ts_model.specs.declared.signed.SignedTriple.{SignedTriple}
use Rattle.ts_model.specs.TextTriple.{TextTriple, IsTriple}
use Rattle.ts_nt.specs.LineRead.{IsReadAs, IsSilent, IsBad, IsTooLong, IsWithinLimits, Spells}
use Rattle.ts_nt.specs.TripleLine.{triple_line}
use Rattle.ts_nt.proofs.PrintLaws.{printed_line, printed_ends, printed_reads_as}
use Rattle.ts_nt.proofs.TripleLaws.{text_canonical, text_once, silent_is_none}
use Rattle.ts_nt.proofs.ScalarLaws.{All-chars}
use Rattle.ts_plain.specs.PlainFile.{change_line, change_lines}
use Rattle.ts_plain.specs.PlainReading.{HasNoEnd, HasNoSign}
use Rattle.ts_plain.proofs.EndLaws.{line_text, line_ends, text_has_no_end}

-- ---- a line

-- the first end of a line is in one place
pub ends_once : (text other rest behind : List ℕ) → HasNoEnd text → HasNoEnd other → text ++ 0x0A ∷ rest ≡ other ++ 0x0A ∷ behind
    → (text ≡ other) × (rest ≡ behind)
ends_once [] [] rest behind h k e = (refl, cc)
ends_once [] (c ∷ other) rest behind h k e = let is : c ≡ 0x0A = cc in absurd (All-head (λ byte. byte ≢ 0x0A) c other k is)
ends_once (b ∷ text) [] rest behind h k e = let is : b ≡ 0x0A = cc in absurd (All-head (λ byte. byte ≢ 0x0A) b text h is)
ends_once (b ∷ text) (c ∷ other) rest behind h k e =
    let first : b ≡ c = cc in
    let others : text ++ 0x0A ∷ rest ≡ other ++ 0x0A ∷ behind = cc in
    let both = ends_once text other rest behind (All-tail (λ byte. byte ≢ 0x0A) b text h) (All-tail (λ byte. byte ≢ 0x0A) c other k) others in
    (λ i. first i ∷ both.0 i, both.1)

pub line_before : (triple : TextTriple) (rest : List ℕ) → triple_line triple ++ rest ≡ line_text triple ++ 0x0A ∷ rest
line_before triple rest = ap (λ l. l ++ rest) (line_ends triple) ∙ append_assoc (line_text triple) (0x0A ∷ []) rest

-- the line of a triple ends at the first end
pub line_is_first : (triple : TextTriple) (text rest behind : List ℕ) → IsTriple triple → HasNoEnd text → text ++ 0x0A ∷ behind ≡ triple_line triple ++ rest
    → triple_line triple ≡ text ++ 0x0A ∷ []
line_is_first triple text rest behind is_triple h e =
    let both = ends_once text (line_text triple) behind rest h (text_has_no_end triple is_triple) (e ∙ line_before triple rest) in
    line_ends triple ∙ ap (λ l. l ++ 0x0A ∷ []) (sym both.0)

-- ---- a triple

-- the text of the line reads as the triple
pub reads_back : (triple : TextTriple) (text : List ℕ) → IsTriple triple → triple_line triple ≡ text ++ 0x0A ∷ [] → IsReadAs text (record { sign = Add; triple = triple })
reads_back triple text is_triple is =
    let reads = printed_reads_as triple is_triple.0 (is_triple.1.0, is_triple.2.0, is_triple.3.0) (is_triple.1.1, is_triple.2.1, is_triple.3.1) in
    let same : printed_line triple ≡ text = append_cancel_right (printed_line triple) text (0x0A ∷ []) (sym (printed_ends triple) ∙ is) in
    subst (λ t. IsReadAs t (record { sign = Add; triple = triple })) same reads

-- what a text reads as is a triple
pub read_triple : (text : List ℕ) (signed : SignedTriple) → IsReadAs text signed → IsTriple signed.triple
read_triple text signed read =
    let terms = text_canonical (chars text) signed.sign signed.triple (All-chars text read.1.0) read.1.1 in
    (read.1.1.kinds, (terms.0, read.2.0), (terms.1, read.2.1), (terms.2, read.2.2))

pub spells_one : (text : List ℕ) (a b : Sign) (f g : TextTriple) → Spells text a f → Spells text b g → f ≡ g
spells_one text a b f g one other = (text_once (chars text) a b f g one.1 other.1).1

pub not_silent : (text : List ℕ) (sign : Sign) (triple : TextTriple) → IsSilent text → Spells text sign triple → ⊥
not_silent text sign triple silent spells = silent_is_none (chars text) silent.1 sign triple spells.1

-- ---- a text that is the line of no triple

abbrev pub IsNoLine : List ℕ → Type 0
IsNoLine text = (triple : TextTriple) → IsTriple triple → triple_line triple ≢ text ++ 0x0A ∷ []

pub silent_is_no_line : (text : List ℕ) → IsSilent text → IsNoLine text
silent_is_no_line text silent triple is_triple is = not_silent text Add triple silent (reads_back triple text is_triple is).1

pub bad_is_no_line : (text : List ℕ) → IsBad text → IsNoLine text
bad_is_no_line text bad triple is_triple is = bad.2 Add triple (reads_back triple text is_triple is).1

pub long_is_no_line : (text : List ℕ) → IsTooLong text → IsNoLine text
long_is_no_line text (inl long) triple is_triple is = let within = (reads_back triple text is_triple is).0 in omega arith
long_is_no_line text (inr (sign, other, spells, over)) triple is_triple is =
    let reads = reads_back triple text is_triple is in
    over (subst IsWithinLimits (spells_one text Add sign triple other reads.1 spells) reads.2)

-- it is read as a triple with another line
pub other_is_no_line : (text : List ℕ) (signed : SignedTriple) → IsReadAs text signed → triple_line signed.triple ≢ text ++ 0x0A ∷ [] → IsNoLine text
other_is_no_line text signed read other triple is_triple is =
    let reads = reads_back triple text is_triple is in
    other (ap triple_line (spells_one text signed.sign Add signed.triple triple read.1 reads.1) ∙ is)

-- one triple has this line
line_once : (f g : TextTriple) → IsTriple f → IsTriple g → triple_line f ≡ triple_line g → f ≡ g
line_once f g one other e =
    let first = reads_back f (line_text f) one (line_ends f) in
    let second = reads_back g (line_text f) other (sym e ∙ line_ends f) in
    spells_one (line_text f) Add Add f g first.1 second.1

pub triple_once : (f g : TextTriple) (rest behind : List ℕ) → IsTriple f → IsTriple g → triple_line f ++ rest ≡ triple_line g ++ behind
    → (f ≡ g) × (rest ≡ behind)
triple_once f g rest behind one other e =
    let both = ends_once (line_text f) (line_text g) rest behind (text_has_no_end f one) (text_has_no_end g other) (sym (line_before f rest) ∙ e ∙ line_before g behind) in
    (line_once f g one other (line_ends f ∙ ap (λ l. l ++ 0x0A ∷ []) both.0 ∙ sym (line_ends g)), both.1)

-- ---- a section

-- the triples behind those that were read
pub goes_on : (sign : ℕ) (done triples : List TextTriple) (rest behind : List ℕ) → All IsTriple done → All IsTriple triples → HasNoSign sign behind
    → change_lines sign done ++ rest ≡ change_lines sign triples ++ behind
    → (more : List TextTriple) × (triples ≡ done ++ more) × (rest ≡ change_lines sign more ++ behind)
goes_on sign [] triples rest behind one other ends e = (triples, refl, e)
goes_on sign (d ∷ done) [] rest behind one other ends e =
    absurd (ends (triple_line d ++ (change_lines sign done ++ rest)) (sym e ∙ append_assoc (change_line sign d) (change_lines sign done) rest))
goes_on sign (d ∷ done) (f ∷ triples) rest behind one other ends e =
    let whole : change_line sign d ++ (change_lines sign done ++ rest) ≡ change_line sign f ++ (change_lines sign triples ++ behind) =
    sym (append_assoc (change_line sign d) (change_lines sign done) rest) ∙ e ∙ append_assoc (change_line sign f) (change_lines sign triples) behind in
    let lines : triple_line d ++ (change_lines sign done ++ rest) ≡ triple_line f ++ (change_lines sign triples ++ behind) = cc in
    let both = triple_once d f _ _ (All-head IsTriple d done one) (All-head IsTriple f triples other) lines in
    let later = goes_on sign done triples rest behind (All-tail IsTriple d done one) (All-tail IsTriple f triples other) ends both.1 in
    (later.0, (λ i. sym both.0 i ∷ later.1 i), later.2)

-- it ends where the sign stands no more
pub section_once : (sign : ℕ) (done triples : List TextTriple) (rest behind : List ℕ) → All IsTriple done → All IsTriple triples → HasNoSign sign rest → HasNoSign sign behind
    → change_lines sign done ++ rest ≡ change_lines sign triples ++ behind → (done ≡ triples) × (rest ≡ behind)
section_once sign done triples rest behind one other over ends e = nothing (goes_on sign done triples rest behind one other ends e)
  where
    nothing : (more : List TextTriple) × (triples ≡ done ++ more) × (rest ≡ change_lines sign more ++ behind) → (done ≡ triples) × (rest ≡ behind)
    nothing ([], same, is) = (sym (same ∙ append-nil done), is)
    nothing (m ∷ more, same, is) = absurd (over (triple_line m ++ (change_lines sign more ++ behind)) (is ∙ append_assoc (change_line sign m) (change_lines sign more) behind))

-- the triple behind the sign that stands there
pub next_is : (sign : ℕ) (done triples : List TextTriple) (rest after behind : List ℕ) → All IsTriple done → All IsTriple triples → HasNoSign sign behind
    → rest ≡ sign ∷ 0x20 ∷ after → change_lines sign done ++ rest ≡ change_lines sign triples ++ behind
    → (next : TextTriple) × (more : List TextTriple) × (triples ≡ done ++ next ∷ more) × (after ≡ triple_line next ++ (change_lines sign more ++ behind))
next_is sign done triples rest after behind one other ends stands e = found (goes_on sign done triples rest behind one other ends e)
  where
    found : (more : List TextTriple) × (triples ≡ done ++ more) × (rest ≡ change_lines sign more ++ behind)
        → (next : TextTriple) × (more : List TextTriple) × (triples ≡ done ++ next ∷ more) × (after ≡ triple_line next ++ (change_lines sign more ++ behind))
    found ([], same, is) = absurd (ends after (sym is ∙ stands))
    found (m ∷ more, same, is) =
        let begins : rest ≡ change_line sign m ++ (change_lines sign more ++ behind) = is ∙ append_assoc (change_line sign m) (change_lines sign more) behind in
        (m, more, same, cc)
