use Rattle.std.proofs.Common.{◌≡◌, ◌++◌}
use Rattle.std.specs.Int.{w32, w64, to_be_bytes}
use Rattle.ts_part.specs.Layout.{row}
use Rattle.ts_part.proofs.WriteLemmas.{joined}
use Rattle.ts_part.proofs.write.write_row.Goals as goal

pub returns : goal.returns
unfolding row
returns c =
    let a : c.write_u32.new.into.items ≡ c.args.file.now.items ++ to_be_bytes w32 c.args.kind = c.in_ok-write_u32.ensures.written in
    let b : c.write_u32-2.new.into.items ≡ c.write_u32.new.into.items ++ to_be_bytes w32 0 = c.in_ok-write_u32-2.ensures.written in
    let d : c.write_u64.new.into.items ≡ c.write_u32-2.new.into.items ++ to_be_bytes w64 c.args.start = c.in_ok-write_u64.ensures in
    let e : c.write_u64-2.new.into.items ≡ c.write_u64.new.into.items ++ to_be_bytes w64 c.args.size = c.in_ok-write_u64-2.ensures in
    let two = joined c.args.file.now.items (to_be_bytes w32 c.args.kind) (to_be_bytes w32 0) _ _ a b in
    let three = joined c.args.file.now.items (to_be_bytes w32 c.args.kind ++ to_be_bytes w32 0) (to_be_bytes w64 c.args.start) _ _ two d in
    joined c.args.file.now.items ((to_be_bytes w32 c.args.kind ++ to_be_bytes w32 0) ++ to_be_bytes w64 c.args.start) (to_be_bytes w64 c.args.size) _ _ three e
