use Rattle.std.proofs.Common.{refl}
use Rattle.ts_bits.specs.Ranked.{bits_of_words}
use Rattle.ts_bits.proofs.builder.BitBuilder.new.Goals as goal

pub returns : goal.returns
unfolding bits_of_words
returns c = refl
