use Rattle.std.proofs.Common.{◌<◌, sym, ap, subst}
use Rattle.std.specs.Option.{option_map}
use Rattle.ts_model.specs.Limits.{number_limit}
use Rattle.ts_part.specs.Facts.{Facts}
use Rattle.ts_chain.specs.Chain.{parts_or_none}
use Rattle.ts_builder.specs.Layer.{AreFactsOf}
use Rattle.ts_builder.specs.Numbering.{IsNumbering}
use Rattle.ts_builder.proofs.BuildLemmas.{header_rules, predicates_are, terms_are}
use Rattle.ts_builder.proofs.LayerSays.{layer_says}
use Rattle.ts_builder.proofs.layer.build.Goals as goal

pub write_part-requires : goal.write_part-requires
write_part-requires c =
    let parts = parts_or_none (option_map (λ chain. chain.now) c.args.parent) in
    let new = c.in_ok-new.new in
    let made = c.in_ok-new.ensures.made in
    header_rules parts c.args.number new c.args.net.now c.in_ok-facts.facts c.in_ok-facts.ensures c.in_ok-new.ensures.below c.requires.number c.requires.change c.in_ok-new.ensures.fits
    (sym (ap (λ (new : Facts). new.terms_before) made)) (sym (ap (λ (new : Facts). new.predicates_before) made))

pub returns-clause-says : goal.returns-clause-says
returns-clause-says c = λ history from fresh stands.
    let parts = parts_or_none (option_map (λ chain. chain.now) c.args.parent) in
    let new = c.in_ok-new.new in
    let net = c.args.net.now in
    let facts = c.in_ok-facts.facts in
    let are : AreFactsOf parts c.args.number new net facts = c.in_ok-facts.ensures in
    let fits : IsNumbering new = c.in_ok-new.ensures.fits in
    layer_says history from parts c.args.number net
    (record { fresh = fresh; stands = stands; change = c.requires.change; over = c.requires.number; small = c.ranges.number.fits; added = are.added_kinds; removed = are.removed_kinds })
    facts c.in_ok-write_part.field-0.items (subst (λ new. AreFactsOf parts c.args.number new net facts) c.in_ok-new.ensures.made are)
    (subst (λ n. n < number_limit) (sym (terms_are parts c.args.number new net facts are)) fits.terms_fit)
    (subst (λ n. n < number_limit) (sym (predicates_are parts c.args.number new net facts are)) fits.predicates_fit)
    c.in_ok-write_part.ensures.says
