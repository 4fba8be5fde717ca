use Rattle.std.proofs.Common.{◌∙◌, refl}
use Rattle.std.proofs.Math.Seq.{map-set_same}
use Rattle.std.proofs.lemmas.List.{length-set}
use Rattle.ts_builder.proofs.HeadLemmas.{bare}
use Rattle.ts_builder.proofs.heads.set_heads.Goals as goal

pub loop-place-preserved : goal.loop-place-preserved
loop-place-preserved c =
    let part = c.loop-place.part in
    let place = c.loop-place.place in
    record {
      same = map-set_same bare part place _ c.index-part-place-in-loop-place.result refl ∙ c.loop-place.invariant.same;
      many = length-set part place _ ∙ c.loop-place.invariant.many;
    }
