use Rattle.std.proofs.Common.{rules, ◌≡◌, ◌<◌, [], length, chars, IsUtf8, ap, ◌∙◌, sym, subst, arith, eq-eqb, true≢false}
use Rattle.std.proofs.lemmas.Bool.{eqb-true}
use Rattle.ts_model.specs.Limits.{term_limit}
use Rattle.ts_nt.specs.Terms.{TermAt}
use Rattle.ts_nt.proofs.LineLaws.{spelling_canonical, whole_spelling, spelled_once, nothing_left, no_characters}
use Rattle.ts_nt.proofs.read.read_term.Goals as goal

pub returns-then-not-is_empty-clause-none : goal.returns-then-not-is_empty-clause-none
returns-then-not-is_empty-clause-none c = λ other spells short.
    let reads : TermAt c.args.kind (chars c.in-Ok.text.now) c.in-Some.spelling.items (chars c.in-Some.rest.now) = search (rules) in
    let once = spelled_once c.args.bytes.now c.in-Ok.text.now c.in-Ok.ensures.cases.0 c.in-Ok.ensures.cases.1 c.args.kind _ _ reads other spells in
    let utf8 : IsUtf8 c.in-Some.rest.now = search (rules) in
    let empty = nothing_left c.in-Some.rest.now utf8 once.1 in
    true≢false (sym (c.is_empty.ensures ∙ eq-eqb _ _ empty) ∙ c.if-not-is_empty.true)

pub returns-then-len-gt-TERM_LIMIT-clause-none : goal.returns-then-len-gt-TERM_LIMIT-clause-none
returns-then-len-gt-TERM_LIMIT-clause-none c = λ other spells short.
    let reads : TermAt c.args.kind (chars c.in-Ok.text.now) c.in-Some.spelling.items (chars c.in-Some.rest.now) = search (rules) in
    let once = spelled_once c.args.bytes.now c.in-Ok.text.now c.in-Ok.ensures.cases.0 c.in-Ok.ensures.cases.1 c.args.kind _ _ reads other spells in
    let long : term_limit < length c.in-Some.spelling.items = search (rules) in
    omega (arith, long, short, ap length once.0)

pub of_canonical-requires-clause-canonical : goal.of_canonical-requires-clause-canonical
of_canonical-requires-clause-canonical c =
    let reads : TermAt c.args.kind (chars c.in-Ok.text.now) c.in-Some.spelling.items (chars c.in-Some.rest.now) = search (rules) in
    spelling_canonical c.args.bytes.now c.in-Ok.text.now c.in-Ok.ensures.cases.0 c.in-Ok.ensures.cases.1 c.args.kind _ _ reads

pub returns-clause-some : goal.returns-clause-some
returns-clause-some c =
    let reads : TermAt c.args.kind (chars c.in-Ok.text.now) c.in-Some.spelling.items (chars c.in-Some.rest.now) = search (rules) in
    let none : chars c.in-Some.rest.now ≡ [] = no_characters c.in-Some.rest.now (eqb-true _ 0 (sym c.is_empty.ensures ∙ c.if-not-is_empty.false)) in
    let spells = whole_spelling c.args.bytes.now c.in-Ok.text.now c.in-Ok.ensures.cases.0 c.in-Ok.ensures.cases.1 c.args.kind _ _ reads none in (
      ap (λ term. term.kind) c.of_canonical.ensures,
      (spells.0, subst (λ term. TermAt c.args.kind (chars c.args.bytes.now) term.spelling []) (sym c.of_canonical.ensures) spells.1),
    )
