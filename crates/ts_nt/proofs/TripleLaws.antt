-- The text of a triple: there is one reading, its terms are canonical, and what is printed reads back.
use Rattle.std.proofs.Common.{◌≡◌, ◌⊎◌, inl, inr, ℕ, ◌+◌, true, false, cond, ◌==◌, List, [], ◌∷◌, chars, length, All, refl, sym, ap, subst, ◌∙◌, arith}
use Rattle.std.specs.Char.{IsScalar}
use Rattle.ts_model.specs.declared.term.TermKind.{TermKind}
use Rattle.ts_model.specs.declared.term.TermKind.TheVariants.{Node, Predicate, Value}
use Rattle.ts_model.specs.declared.signed.Sign.{Sign}
use Rattle.ts_model.specs.Canonical.{IsCanonical}
use Rattle.ts_model.specs.TextTriple.{TextTriple}
use Rattle.ts_nt.specs.LineRead.{SpellsTerm}
use Rattle.ts_nt.specs.Parts.{sign_at, object_kind, IsEnd, IsNoTriple}
use Rattle.ts_nt.specs.Terms.{TermAt}
use Rattle.ts_nt.specs.TripleText.{after_blanks, SignAt, IsNothingOrComment, IsTripleText}
use Rattle.ts_nt.proofs.BlankLaws.{after_blanks-twice, All-after_blanks, HasNoSign, sign_at-SignAt, sign_once, All-after_sign}
use Rattle.ts_nt.proofs.TermLaws.{Begins, begins_once, iri_begins, label_begins, literal_begins, term_once, term_canonical}

-- ---- first characters

no_sign_at_node : (text spelling rest : List ℕ) → TermAt Node text spelling rest → HasNoSign text
no_sign_at_node text spelling rest (inl at) =
    let begins = iri_begins text spelling rest at in (
      λ plus. let same = begins_once text 0x3C 0x2B begins plus in omega (arith, same),
      λ minus. let same = begins_once text 0x3C 0x2D begins minus in omega (arith, same),
    )
no_sign_at_node text spelling rest (inr at) =
    let begins = label_begins text spelling rest at in (
      λ plus. let same = begins_once text 0x5F 0x2B begins plus in omega (arith, same),
      λ minus. let same = begins_once text 0x5F 0x2D begins minus in omega (arith, same),
    )

pub kind_once : (kind : TermKind) (text spelling rest : List ℕ) → (kind ≡ Node) ⊎ (kind ≡ Value) → TermAt kind text spelling rest → kind ≡ object_kind text
kind_once kind text spelling rest (inl node) at = node ∙ of_node (subst (λ k. TermAt k text spelling rest) node at)
  where
    of_node : TermAt Node text spelling rest → Node ≡ object_kind text
    of_node (inl iri) = sym (ap object_kind (iri_begins text spelling rest iri).1)
    of_node (inr label) = sym (ap object_kind (label_begins text spelling rest label).1)
kind_once kind text spelling rest (inr value) at =
    let literal : TermAt Value text spelling rest = subst (λ k. TermAt k text spelling rest) value at in
    value ∙ sym (ap object_kind (literal_begins text spelling rest literal).1)

pub object_kinds : (text : List ℕ) → (object_kind text ≡ Node) ⊎ (object_kind text ≡ Value)
object_kinds [] = inl refl
object_kinds (c ∷ text) = elim (c == 0x22) as (λ b. (cond b Value Node ≡ Node) ⊎ (cond b Value Node ≡ Value)) [ true ↦ inr refl | false ↦ inl refl ]

-- ---- from the front to the end

module _ (text : List ℕ) where
  -- each triple that may stand there has this sign, or this term, and goes on with this rest
  abbrev pub SignIs : Sign → List ℕ → Type 0
  SignIs sign rest = (other : Sign) (triple : TextTriple) → (t : IsTripleText text other triple) → (other ≡ sign) × (t.after_sign ≡ rest)

  abbrev pub SubjectIs : List ℕ → List ℕ → Type 0
  SubjectIs spelling rest = (other : Sign) (triple : TextTriple) → (t : IsTripleText text other triple) → (triple.subject.spelling ≡ spelling) × (t.after_subject ≡ rest)

  abbrev pub PredicateIs : List ℕ → List ℕ → Type 0
  PredicateIs spelling rest = (other : Sign) (triple : TextTriple) → (t : IsTripleText text other triple) → (triple.predicate.spelling ≡ spelling) × (t.after_predicate ≡ rest)

  abbrev pub ObjectIs : TermKind → List ℕ → List ℕ → Type 0
  ObjectIs kind spelling rest =
      (other : Sign) (triple : TextTriple) → (t : IsTripleText text other triple) → (triple.object.kind ≡ kind) × (triple.object.spelling ≡ spelling) × (t.after_object ≡ rest)

  module _ (front : List ℕ) (blanks : front ≡ after_blanks text) where
    pub sign_is : (sign : Sign) (rest : List ℕ) → sign ≡ (sign_at front).0 → rest ≡ (sign_at front).1 → SignIs sign rest
    sign_is sign rest signs rests other triple t =
        let once = sign_once (after_blanks text) other t.after_sign t.has_sign (no_sign_at_node (after_blanks t.after_sign) triple.subject.spelling t.after_subject t.subject) in
        (once.0 ∙ ap (λ f. (sign_at f).0) (sym blanks) ∙ sym signs, once.1 ∙ ap (λ f. (sign_at f).1) (sym blanks) ∙ sym rests)

  module _ (sign : Sign) (rest front : List ℕ) (blanks : front ≡ after_blanks rest) (signs : SignIs sign rest) where
    subject_at : (other : Sign) (triple : TextTriple) → (t : IsTripleText text other triple) → TermAt Node front triple.subject.spelling t.after_subject
    subject_at other triple t = subst (λ f. TermAt Node f triple.subject.spelling t.after_subject) (ap after_blanks (signs other triple t).1 ∙ sym blanks) t.subject

    pub no_subject : ((spelling more : List ℕ) → TermAt Node front spelling more → ⊥) → IsNoTriple text
    no_subject none other triple t = none triple.subject.spelling t.after_subject (subject_at other triple t)

    pub subject_is : (spelling more : List ℕ) → TermAt Node front spelling more → SubjectIs spelling more
    subject_is spelling more at other triple t = term_once Node front _ _ _ _ (subject_at other triple t) at

  module _ (subject rest front : List ℕ) (blanks : front ≡ after_blanks rest) (subjects : SubjectIs subject rest) where
    predicate_at : (other : Sign) (triple : TextTriple) → (t : IsTripleText text other triple) → TermAt Predicate front triple.predicate.spelling t.after_predicate
    predicate_at other triple t = subst (λ f. TermAt Predicate f triple.predicate.spelling t.after_predicate) (ap after_blanks (subjects other triple t).1 ∙ sym blanks) t.predicate

    pub no_predicate : ((spelling more : List ℕ) → TermAt Predicate front spelling more → ⊥) → IsNoTriple text
    no_predicate none other triple t = none triple.predicate.spelling t.after_predicate (predicate_at other triple t)

    pub predicate_is : (spelling more : List ℕ) → TermAt Predicate front spelling more → PredicateIs spelling more
    predicate_is spelling more at other triple t = term_once Predicate front _ _ _ _ (predicate_at other triple t) at

  module _ (predicate rest front : List ℕ) (blanks : front ≡ after_blanks rest) (predicates : PredicateIs predicate rest) (kind : TermKind) (kinds : kind ≡ object_kind front) where
    kind_at : (other : Sign) (triple : TextTriple) → IsTripleText text other triple → triple.object.kind ≡ kind
    kind_at other triple t =
        kind_once triple.object.kind (after_blanks t.after_predicate) triple.object.spelling t.after_object t.kinds.2 t.object
        ∙ ap object_kind (ap after_blanks (predicates other triple t).1 ∙ sym blanks)
        ∙ sym kinds

    object_at : (other : Sign) (triple : TextTriple) → (t : IsTripleText text other triple) → TermAt kind front triple.object.spelling t.after_object
    object_at other triple t =
        subst (λ k. TermAt k front triple.object.spelling t.after_object) (kind_at other triple t)
        (subst (λ f. TermAt triple.object.kind f triple.object.spelling t.after_object) (ap after_blanks (predicates other triple t).1 ∙ sym blanks) t.object)

    pub no_object : ((spelling more : List ℕ) → TermAt kind front spelling more → ⊥) → IsNoTriple text
    no_object none other triple t = none triple.object.spelling t.after_object (object_at other triple t)

    pub object_is : (spelling more : List ℕ) → TermAt kind front spelling more → ObjectIs kind spelling more
    object_is spelling more at other triple t =
        let same = term_once kind front _ _ _ _ (object_at other triple t) at in (kind_at other triple t, same.0, same.1)

  pub no_end : (kind : TermKind) (spelling rest : List ℕ) → ObjectIs kind spelling rest → (IsEnd rest → ⊥) → IsNoTriple text
  no_end kind spelling rest objects none other triple t =
      none (t.after_dot, (ap after_blanks (sym (objects other triple t).2) ∙ t.dot), t.ending)

-- two readings of one text are one
pub text_once : (text : List ℕ) (a b : Sign) (f g : TextTriple) → IsTripleText text a f → IsTripleText text b g → (a ≡ b) × (f ≡ g)
text_once text a b f g t u =
    let sign_of = sign_is text (after_blanks text) refl (sign_at (after_blanks text)).0 (sign_at (after_blanks text)).1 refl refl in
    let signs = sign_of a f t in
    let signs' = sign_of b g u in
    let from_sign : SignIs text b u.after_sign = λ other triple v. ((sign_of other triple v).0 ∙ sym signs'.0, (sign_of other triple v).1 ∙ sym signs'.1) in
    let from_subject = subject_is text b u.after_sign (after_blanks u.after_sign) refl from_sign g.subject.spelling u.after_subject u.subject in
    let from_predicate = predicate_is text _ u.after_subject (after_blanks u.after_subject) refl from_subject g.predicate.spelling u.after_predicate u.predicate in
    let kind = kind_once g.object.kind (after_blanks u.after_predicate) g.object.spelling u.after_object u.kinds.2 u.object in
    let from_object = object_is text _ u.after_predicate (after_blanks u.after_predicate) refl from_predicate g.object.kind kind g.object.spelling u.after_object u.object in
    let subjects = from_subject a f t in
    let predicates = from_predicate a f t in
    let objects = from_object a f t in (
      signs.0 ∙ sym signs'.0,
      λ i. record {
        subject = record { kind = (t.kinds.0 ∙ sym u.kinds.0) i; spelling = subjects.0 i };
        predicate = record { kind = (t.kinds.1 ∙ sym u.kinds.1) i; spelling = predicates.0 i };
        object = record { kind = objects.0 i; spelling = objects.1 i };
      },
    )

-- the terms of a text are canonical
abbrev pub AreCanonical : TextTriple → Type 0
AreCanonical triple =
    IsCanonical triple.subject.kind triple.subject.spelling × IsCanonical triple.predicate.kind triple.predicate.spelling × IsCanonical triple.object.kind triple.object.spelling

pub text_canonical : (text : List ℕ) (sign : Sign) (triple : TextTriple) → All IsScalar text → IsTripleText text sign triple → AreCanonical triple
text_canonical text sign triple scalars t =
    let behind_sign = All-after_sign _ sign t.after_sign (All-after_blanks text scalars) t.has_sign in
    let subject = term_canonical Node _ triple.subject.spelling t.after_subject (All-after_blanks _ behind_sign) t.subject in
    let predicate = term_canonical Predicate _ triple.predicate.spelling t.after_predicate (All-after_blanks _ subject.1) t.predicate in
    let object = term_canonical triple.object.kind _ triple.object.spelling t.after_object (All-after_blanks _ predicate.1) t.object in (
      subst (λ k. IsCanonical k triple.subject.spelling) (sym t.kinds.0) subject.0,
      subst (λ k. IsCanonical k triple.predicate.spelling) (sym t.kinds.1) predicate.0,
      object.0,
    )

-- ---- a text from its parts

pub sign_stands : (text front rest : List ℕ) (sign : Sign) → front ≡ after_blanks text → sign ≡ (sign_at front).0 → rest ≡ (sign_at front).1 → SignAt (after_blanks text) sign rest
sign_stands text front rest sign blanks signs rests =
    subst (λ f. SignAt f sign rest) blanks (subst (λ s. SignAt front s rest) (sym signs) (subst (λ r. SignAt front (sign_at front).0 r) (sym rests) (sign_at-SignAt front)))

pub term_stands : (kind : TermKind) (rest front spelling more : List ℕ) → front ≡ after_blanks rest → TermAt kind front spelling more → TermAt kind (after_blanks rest) spelling more
term_stands kind rest front spelling more blanks = subst (λ f. TermAt kind f spelling more) blanks

pub kinds_stand : (kind : TermKind) (front : List ℕ) → kind ≡ object_kind front → (kind ≡ Node) ⊎ (kind ≡ Value)
kinds_stand kind front kinds = subst (λ k. (k ≡ Node) ⊎ (k ≡ Value)) (sym kinds) (object_kinds front)

-- the kind of an object that spells a term as a whole
pub node_kind : (bytes : List ℕ) (kind : TermKind) → kind ≡ object_kind (chars bytes) → (spelling : List ℕ) → SpellsTerm bytes Node spelling → kind ≡ Node
node_kind bytes kind is spelling spells = is ∙ sym (kind_once Node (chars bytes) spelling [] (inl refl) spells.1)

pub value_kind : (bytes : List ℕ) (kind : TermKind) → kind ≡ object_kind (chars bytes) → (spelling : List ℕ) → SpellsTerm bytes Value spelling → kind ≡ Value
value_kind bytes kind is spelling spells = is ∙ sym (kind_once Value (chars bytes) spelling [] (inr refl) spells.1)

-- ---- a text of nothing

begins_no : (text : List ℕ) (c : ℕ) → (c ≡ 0x23 → ⊥) → Begins text c → IsNothingOrComment text → ⊥
begins_no text c other begins (inl none) = let long : 0 ≡ 1 + length begins.0 = ap length (sym none ∙ begins.1) ∙ omega arith in omega (arith, long)
begins_no text c other begins (inr (comment, hash)) = other (begins_once text c 0x23 begins (comment, hash))

no_comment_at_node : (text spelling rest : List ℕ) → TermAt Node text spelling rest → IsNothingOrComment text → ⊥
no_comment_at_node text spelling rest (inl at) = begins_no text 0x3C (λ e. omega (arith, e)) (iri_begins text spelling rest at)
no_comment_at_node text spelling rest (inr at) = begins_no text 0x5F (λ e. omega (arith, e)) (label_begins text spelling rest at)

-- it is the text of no triple
pub silent_is_none : (text : List ℕ) → IsNothingOrComment (after_blanks text) → IsNoTriple text
silent_is_none text silent sign triple t = by_sign t.has_sign
  where
    by_sign : SignAt (after_blanks text) sign t.after_sign → ⊥
    by_sign (inl plus) = begins_no (after_blanks text) 0x2B (λ e. omega (arith, e)) (t.after_sign, plus.0) silent
    by_sign (inr (inl minus)) = begins_no (after_blanks text) 0x2D (λ e. omega (arith, e)) (t.after_sign, minus.0) silent
    by_sign (inr (inr none)) =
        let same = ap after_blanks (sym none.0) ∙ after_blanks-twice text in
        no_comment_at_node (after_blanks text) triple.subject.spelling t.after_subject (subst (λ f. TermAt Node f triple.subject.spelling t.after_subject) same t.subject) silent
