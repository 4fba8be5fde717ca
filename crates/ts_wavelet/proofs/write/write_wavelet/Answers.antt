use Rattle.std.proofs.Common.{◌≡◌, ◌%◌, arith}
use Rattle.ts_wavelet.proofs.Written.{appended, on_ok_both}
use Rattle.ts_wavelet.proofs.write.write_wavelet.Goals as goal

pub returns-clause-ok : goal.returns-clause-ok
returns-clause-ok c =
    let narrow = c.width_of-width.ensures.narrow in
    let byte : c.width_of-width.result % 256 ≡ c.width_of-width.result = omega arith in
    on_ok_both c.finish.result (λ written said.
    appended c.width_of-width.result c.args.sequence.now c.args.into.now.items c.push.new.self.items c.extend_from_slice.new.self.items c.finish.new.into.items c.in_ok-bits.bits
    c.requires c.width_of-width.ensures.is narrow c.in_ok-bits.ensures (c.in_ok-push.ensures.items) c.in_ok-extend_from_slice.ensures.items written said) c.finish.ensures.ok c.finish.ensures.said
