use Rattle.std.proofs.Common.{rules, ◌≡◌, ◌++◌, encode_utf8}
use Rattle.ts_model.proofs.CharLemmas.{first_character}
use Rattle.ts_model.proofs.characters.split_char.Goals as goal

pub returns-clause-some : goal.returns-clause-some
returns-clause-some c =
    let begins : c.args.text.now ≡ encode_utf8 c.in_ok-c.c ++ c.as_str.result.now = search (rules) in
    first_character _ _ _ c.utf8.text begins
