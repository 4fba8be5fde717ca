use Rattle.std.proofs.Common.{rules}
use Rattle.ts_model.specs.Literal.{string_character}
use Rattle.ts_model.proofs.DelimitedLaws.{EndsAt-delimiter, EndsAt-step, followed}
use Rattle.ts_model.proofs.LiteralLaws.{string_code, length_written}
use Rattle.ts_model.proofs.TextLaws.{shorter}
use Rattle.ts_model.proofs.canonical_literal.after_string_characters.Goals as goal

pub loop-rest-smaller : goal.loop-rest-smaller
loop-rest-smaller c = shorter _ _ _ (length_written c.in-Some.field-0-0) c.in-Some.ensures.some

pub loop-rest-preserved : goal.loop-rest-preserved
loop-rest-preserved c = record {
  is_text = search rules;
  same_end = λ rest. followed (c.loop-rest.invariant.same_end rest) (EndsAt-step string_character 0x22 string_code _ _ rest c.in-Some.field-0-0 c.in-Some.ensures.scalar c.in-Some.ensures.some);
}

pub returns : goal.returns
returns c = λ rest. followed (c.loop-rest.invariant.same_end rest) (followed (EndsAt-delimiter string_character 0x22 _ rest c.in_default.ensures.none) (c.after_prefix.ensures rest))
