use Rattle.std.proofs.Common.{rules, ℕ, List, chars, refl}
use Rattle.ts_model.specs.declared.term.TermKind.TheVariants.{Node, Predicate}
use Rattle.ts_nt.specs.Terms.{TermAt}
use Rattle.ts_nt.specs.Parts.{IsEnd}
use Rattle.ts_nt.proofs.TripleLaws.{sign_is, no_subject, subject_is, no_predicate, predicate_is, no_object, object_is, no_end, sign_stands, term_stands, kinds_stand}
use Rattle.ts_nt.proofs.line.read_parts.Goals as goal

pub returns-in_default-clause-none : goal.returns-in_default-clause-none
returns-in_default-clause-none c =
    let text = chars c.args.text.now in
    let signs = sign_is text _ c.after_blanks.ensures c.split_sign-sign.result.0 (chars c.split_sign-sign.result.1.now) c.split_sign-sign.ensures.sign c.split_sign-sign.ensures.rest in
    let none : (spelling rest : List ℕ) → TermAt Node (chars c.after_blanks-2.result.now) spelling rest → ⊥ = search (rules) in
    no_subject text _ _ _ c.after_blanks-2.ensures signs none

pub returns-in_default-2-clause-none : goal.returns-in_default-2-clause-none
returns-in_default-2-clause-none c =
    let text = chars c.args.text.now in
    let signs = sign_is text _ c.after_blanks.ensures c.split_sign-sign.result.0 (chars c.split_sign-sign.result.1.now) c.split_sign-sign.ensures.sign c.split_sign-sign.ensures.rest in
    let subject : TermAt Node (chars c.after_blanks-2.result.now) c.in-Some.subject.items (chars c.in-Some.text.now) = search (rules) in
    let subjects = subject_is text _ _ _ c.after_blanks-2.ensures signs _ _ subject in
    let none : (spelling rest : List ℕ) → TermAt Predicate (chars c.after_blanks-3.result.now) spelling rest → ⊥ = search (rules) in
    no_predicate text _ _ _ c.after_blanks-3.ensures subjects none

pub returns-in_default-3-clause-none : goal.returns-in_default-3-clause-none
returns-in_default-3-clause-none c =
    let text = chars c.args.text.now in
    let signs = sign_is text _ c.after_blanks.ensures c.split_sign-sign.result.0 (chars c.split_sign-sign.result.1.now) c.split_sign-sign.ensures.sign c.split_sign-sign.ensures.rest in
    let subject : TermAt Node (chars c.after_blanks-2.result.now) c.in-Some.subject.items (chars c.in-Some.text.now) = search (rules) in
    let subjects = subject_is text _ _ _ c.after_blanks-2.ensures signs _ _ subject in
    let predicate : TermAt Predicate (chars c.after_blanks-3.result.now) c.in-Some-2.predicate.items (chars c.in-Some-2.text.now) = search (rules) in
    let predicates = predicate_is text _ _ _ c.after_blanks-3.ensures subjects _ _ predicate in
    let none : (spelling rest : List ℕ) → TermAt c.object_kind-object_kind.result (chars c.after_blanks-text.result.now) spelling rest → ⊥ = search (rules) in
    no_object text _ _ _ c.after_blanks-text.ensures predicates _ c.object_kind-object_kind.ensures.is none

pub returns-then-not-is_end-clause-none : goal.returns-then-not-is_end-clause-none
returns-then-not-is_end-clause-none c =
    let text = chars c.args.text.now in
    let signs = sign_is text _ c.after_blanks.ensures c.split_sign-sign.result.0 (chars c.split_sign-sign.result.1.now) c.split_sign-sign.ensures.sign c.split_sign-sign.ensures.rest in
    let subject : TermAt Node (chars c.after_blanks-2.result.now) c.in-Some.subject.items (chars c.in-Some.text.now) = search (rules) in
    let subjects = subject_is text _ _ _ c.after_blanks-2.ensures signs _ _ subject in
    let predicate : TermAt Predicate (chars c.after_blanks-3.result.now) c.in-Some-2.predicate.items (chars c.in-Some-2.text.now) = search (rules) in
    let predicates = predicate_is text _ _ _ c.after_blanks-3.ensures subjects _ _ predicate in
    let object : TermAt c.object_kind-object_kind.result (chars c.after_blanks-text.result.now) c.in-Some-3.object.items (chars c.in-Some-3.text.now) = search (rules) in
    let objects = object_is text _ _ _ c.after_blanks-text.ensures predicates _ c.object_kind-object_kind.ensures.is _ _ object in
    let none : IsEnd (chars c.in-Some-3.text.now) → ⊥ = search (rules) in
    no_end text _ _ _ objects none

pub returns-clause-some : goal.returns-clause-some
returns-clause-some c =
    let subject : TermAt Node (chars c.after_blanks-2.result.now) c.in-Some.subject.items (chars c.in-Some.text.now) = search (rules) in
    let predicate : TermAt Predicate (chars c.after_blanks-3.result.now) c.in-Some-2.predicate.items (chars c.in-Some-2.text.now) = search (rules) in
    let object : TermAt c.object_kind-object_kind.result (chars c.after_blanks-text.result.now) c.in-Some-3.object.items (chars c.in-Some-3.text.now) = search (rules) in
    let end : IsEnd (chars c.in-Some-3.text.now) = search (rules) in
    let text = chars c.args.text.now in
    let behind = chars c.split_sign-sign.result.1.now in
    let at_subject = chars c.after_blanks-2.result.now in
    let at_predicate = chars c.after_blanks-3.result.now in
    let at_object = chars c.after_blanks-text.result.now in
    record {
      kinds = (refl, refl, kinds_stand c.object_kind-object_kind.result at_object c.object_kind-object_kind.ensures.is);
      after_sign = behind;
      after_subject = chars c.in-Some.text.now;
      after_predicate = chars c.in-Some-2.text.now;
      after_object = chars c.in-Some-3.text.now;
      after_dot = end.0;
      has_sign = sign_stands text (chars c.after_blanks.result.now) behind c.split_sign-sign.result.0 c.after_blanks.ensures c.split_sign-sign.ensures.sign c.split_sign-sign.ensures.rest;
      subject = term_stands Node behind at_subject c.in-Some.subject.items (chars c.in-Some.text.now) c.after_blanks-2.ensures subject;
      predicate = term_stands Predicate (chars c.in-Some.text.now) at_predicate c.in-Some-2.predicate.items (chars c.in-Some-2.text.now) c.after_blanks-3.ensures predicate;
      object = term_stands c.object_kind-object_kind.result (chars c.in-Some-2.text.now) at_object c.in-Some-3.object.items (chars c.in-Some-3.text.now) c.after_blanks-text.ensures object;
      dot = end.1;
      ending = end.2;
    }
