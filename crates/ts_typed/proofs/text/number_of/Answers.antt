use Rattle.ts_typed.proofs.Values.{by_digits}
use Rattle.ts_typed.proofs.text.number_of.Goals as goal

pub returns : goal.returns
returns c = by_digits c.args.spelling.now c.in_ok-digits.digits.now c.canonical.result c.in_ok-digits.ensures.some c.canonical.ensures.some c.canonical.ensures.within c.canonical.ensures.none
