use Rattle.std.proofs.Common.{◌∙◌, true≢false, sym, subst}
use Rattle.ts_plain.specs.History.{history_of}
use Rattle.ts_plain.proofs.PlaceLaws.{AreHistory-push, HasAll, HasNone, is_above, parent_stands, has_removals, lacks_additions}
use Rattle.ts_plain.proofs.keeps.keeps_to_place.Goals as goal

pub returns-then-not-is_above : goal.returns-then-not-is_above
returns-then-not-is_above c = (
  λ h. absurd (true≢false (sym h)),
  λ longer. absurd (true≢false (sym (c.is_above.ensures.above.1 (is_above c.args.layers.now c.requires.history c.args.layer.now c.requires.plain.0 longer)) ∙ c.if-not-is_above.true)),
)

pub returns-then-not-parent_stands : goal.returns-then-not-parent_stands
returns-then-not-parent_stands c = (
  λ h. absurd (true≢false (sym h)),
  λ longer. absurd (true≢false (sym (c.parent_stands.ensures.1 (parent_stands c.args.layers.now c.requires.history c.args.layer.now c.requires.plain.0 longer)) ∙ c.if-not-parent_stands.true)),
)

pub returns-then-not-has_all : goal.returns-then-not-has_all
returns-then-not-has_all c =
    let history = history_of c.args.layers.now in
    let parent = c.args.layer.now.parent in (
      λ h. absurd (true≢false (sym h)),
      λ longer.
          let has = subst (HasAll history parent) (sym c.as_slice.ensures.value) (has_removals c.args.layers.now c.requires.history c.args.layer.now c.requires.plain.0 longer) in
          absurd (true≢false (sym (c.has_all.ensures.1 has) ∙ c.if-not-has_all.true)),
    )

pub returns : goal.returns
returns c =
    let layers = c.args.layers.now in
    let layer = c.args.layer.now in
    let history = history_of layers in (
      λ h. AreHistory-push layers c.requires.history layer c.requires.plain.0 c.is_above.ensures.fits c.requires.plain.1
          (c.is_above.ensures.above.0 c.if-not-is_above.false)
          (c.parent_stands.ensures.0 c.if-not-parent_stands.false)
          (subst (HasAll history layer.parent) c.as_slice.ensures.value (c.has_all.ensures.0 c.if-not-has_all.false))
          (subst (HasNone history layer.parent) c.as_slice-2.ensures.value (c.has_none.ensures.0 h)),
      λ longer. c.has_none.ensures.1 (subst (HasNone history layer.parent) (sym c.as_slice-2.ensures.value) (lacks_additions layers c.requires.history layer c.requires.plain.0 longer)),
    )
