use Rattle.std.proofs.Common.{rules, [], ◌∷◌, ◌++◌, chars, sym, ◌∙◌}
use Rattle.ts_model.specs.Literal.{string_character}
use Rattle.ts_nt.specs.Items.{string_item}
use Rattle.ts_nt.proofs.ItemLaws.{string_item-goes}
use Rattle.ts_nt.proofs.ReadsLaws.{reads_more, spelled_more}
use Rattle.ts_nt.proofs.delimited.read_string_characters.Goals as goal

pub loop-c-smaller : goal.loop-c-smaller
loop-c-smaller c = (string_item-goes (chars c.loop-c.rest.now) (chars c.in-Some.after.now) c.in-Some.c (sym c.in-Some.ensures)).0

pub loop-c-preserved : goal.loop-c-preserved
loop-c-preserved c = record {
  is_text = search rules;
  read =
      let before = c.loop-c.invariant.read in (
        before.0 ++ c.in-Some.c ∷ [],
        reads_more string_item _ _ _ before.0 c.in-Some.c before.1 (sym c.in-Some.ensures),
        c.in_ok-push_string_character.ensures ∙ spelled_more string_character _ _ before.0 c.in-Some.c before.2,
      );
}
