use Rattle.std.proofs.Common.{◌≡◌, [], ◌∷◌, ◌++◌, Some, sym, ap, ◌∙◌}
use Rattle.std.proofs.lemmas.Bool.Decides.{Decides-eqb}
use Rattle.std.proofs.lemmas.List.{append_cancel_right}
use Rattle.std.proofs.lemmas.Slice.Eq.{slice_eq-Decides, strip_suffix_is}
use Rattle.ts_plain.proofs.lines.is_whole_line.Goals as goal

pub returns-in-Some : goal.returns-in-Some
returns-in-Some c =
    let before = c.in-Some.before.now in
    let text = c.args.text.now in
    let ended : c.args.bytes.now ≡ before ++ 0x0A ∷ [] = strip_suffix_is Decides-eqb c.args.bytes.now (0x0A ∷ []) (Some c.in-Some.before) c.in-Some.ensures.cases in
    let same = slice_eq-Decides Decides-eqb before text c.eq.result c.eq.ensures in (
      λ h. ended ∙ ap (λ l. l ++ 0x0A ∷ []) (same.0 h),
      λ e. same.1 (append_cancel_right before text (0x0A ∷ []) (sym ended ∙ e)),
    )
