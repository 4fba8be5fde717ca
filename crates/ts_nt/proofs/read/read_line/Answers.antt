use Rattle.std.proofs.Common.{rules, ◌≡◌, chars, ap, ◌∙◌, sym, subst, true≢false, arith}
use Rattle.ts_nt.specs.Parts.{triple_of, IsNoTriple}
use Rattle.ts_nt.specs.TripleText.{after_blanks, IsNothingOrComment, IsTripleText}
use Rattle.ts_nt.proofs.LineLaws.{line_canonical}
use Rattle.ts_nt.proofs.read.read_line.Goals as goal

pub triple_of-requires-clause-subject : goal.triple_of-requires-clause-subject
triple_of-requires-clause-subject c =
    let parts = c.in-Ok-Some.parts in
    let reads : IsTripleText (chars c.in-Ok.text.now) parts.sign (triple_of parts.object_kind parts.subject.items parts.predicate.items parts.object.items) = search (rules) in
    (line_canonical c.args.line.now c.in-Ok.text.now _ _ c.in-Ok.ensures.cases.0 c.in-Ok.ensures.cases.1 reads).0

pub triple_of-requires-clause-predicate : goal.triple_of-requires-clause-predicate
triple_of-requires-clause-predicate c =
    let parts = c.in-Ok-Some.parts in
    let reads : IsTripleText (chars c.in-Ok.text.now) parts.sign (triple_of parts.object_kind parts.subject.items parts.predicate.items parts.object.items) = search (rules) in
    (line_canonical c.args.line.now c.in-Ok.text.now _ _ c.in-Ok.ensures.cases.0 c.in-Ok.ensures.cases.1 reads).1

pub triple_of-requires-clause-object : goal.triple_of-requires-clause-object
triple_of-requires-clause-object c =
    let parts = c.in-Ok-Some.parts in
    let reads : IsTripleText (chars c.in-Ok.text.now) parts.sign (triple_of parts.object_kind parts.subject.items parts.predicate.items parts.object.items) = search (rules) in
    (line_canonical c.args.line.now c.in-Ok.text.now _ _ c.in-Ok.ensures.cases.0 c.in-Ok.ensures.cases.1 reads).2

pub returns-in-Ok-None-clause-err : goal.returns-in-Ok-None-clause-err
returns-in-Ok-None-clause-err c =
    let same : c.in-Ok.text.now ≡ c.args.line.now = c.in-Ok.ensures.cases.0 in
    let none : IsNoTriple (chars c.in-Ok.text.now) = search (rules) in (
      omega arith,
      λ silent.
          let here = subst (λ t. IsNothingOrComment t) (sym (c.after_blanks.ensures ∙ ap (λ bytes. after_blanks (chars bytes)) same)) silent.1 in
          true≢false (sym (c.is_nothing_or_comment.ensures.1 here) ∙ c.if-is_nothing_or_comment.false),
      λ sign triple spells. none sign triple (subst (λ bytes. IsTripleText (chars bytes) sign triple) (sym same) spells.1),
    )
