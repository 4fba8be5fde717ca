use Rattle.std.proofs.Common.{sym, ◌∙◌}
use Rattle.std.proofs.lemmas.Str.{IsUtf8-past_char}
use Rattle.ts_model.proofs.Fronts.{stops_empty, stops_other}
use Rattle.ts_model.proofs.TextLaws.{shorter, one_byte}
use Rattle.ts_model.proofs.LabelFronts.{InLabel, label_begins, label_name, label_dot, label_ends, not_in_label}
use Rattle.ts_model.proofs.label.after_label_rest.Goals as goal

pub characters-init : goal.characters-init
characters-init c = (label_begins _, c.utf8.text, c.utf8.text)

pub returns-then-c-ne46 : goal.returns-then-c-ne46
returns-then-c-ne46 c =
    let name = sym c.is_name_character.ensures ∙ c.if-is_name_character.false in
    label_ends _ _ _ c.characters.invariant.0 (stops_other InLabel _ _ c.in-Some.c (not_in_label c.in-Some.c name c.if-c-ne46.true) c.in-Some.ensures.some)

pub characters-smaller-then-is_name_character : goal.characters-smaller-then-is_name_character
characters-smaller-then-is_name_character c = shorter _ _ _ (one_byte c.in-Some.c) c.in-Some.ensures.bytes

pub characters-preserved-then-is_name_character : goal.characters-preserved-then-is_name_character
characters-preserved-then-is_name_character c =
    let text = IsUtf8-past_char _ _ _ c.characters.invariant.2 c.in-Some.ensures.bytes in
    let name = sym c.is_name_character.ensures ∙ c.if-is_name_character.true in
    (label_name _ _ _ _ _ c.characters.invariant.0 c.in-Some.ensures.some name, text, text)

pub characters-smaller : goal.characters-smaller
characters-smaller c = shorter _ _ _ (one_byte c.in-Some.c) c.in-Some.ensures.bytes

pub characters-preserved : goal.characters-preserved
characters-preserved c =
    let text = IsUtf8-past_char _ _ _ c.characters.invariant.2 c.in-Some.ensures.bytes in
    (label_dot _ _ _ _ _ c.characters.invariant.0 c.in-Some.ensures.some c.if-c-ne46.false, c.characters.invariant.1, text)

pub returns : goal.returns
returns c = label_ends _ _ _ c.characters.invariant.0 (stops_empty InLabel _ c.in_default.ensures.none)
