use Rattle.std.proofs.Common.{◌++◌, ◌∷◌, [], ◌/◌, ◌%◌, ap, sym, ◌∙◌, append_assoc}
use Rattle.ts_vbyte.specs.Spelling.{spelling}
use Rattle.ts_vbyte.proofs.SpellingLemmas.{spelling_last, spelling_more}
use Rattle.ts_vbyte.proofs.put.Goals as goal

pub loop-rest-preserved : goal.loop-rest-preserved
loop-rest-preserved c =
    let before = c.loop-rest.invariant in
    let rest = c.loop-rest.rest in
    let items = c.in_ok-push.ensures.items in (
      ap (λ t. t ++ spelling (rest / 128)) items ∙ append_assoc c.loop-rest.into.items (rest % 128 ∷ []) (spelling (rest / 128))
          ∙ ap (λ t. c.loop-rest.into.items ++ t) (sym (spelling_more rest c.loop-rest-test.true)) ∙ before.0,
      (before.1.0 ++ rest % 128 ∷ [], items ∙ ap (λ t. t ++ rest % 128 ∷ []) before.1.1 ∙ append_assoc c.args.into.now.items before.1.0 (rest % 128 ∷ [])),
    )

pub returns-clause-written : goal.returns-clause-written
returns-clause-written c =
    c.in_ok-push-2.ensures.items
    ∙ ap (λ t. c.loop-rest.into.items ++ t) (sym (spelling_last c.loop-rest.rest c.loop-rest-test.false)) ∙ c.loop-rest.invariant.0
