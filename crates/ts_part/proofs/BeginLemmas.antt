-- Which header a file begins with.
use Rattle.std.proofs.Common.{◌≡◌, ℕ, ◌≤◌, List, length, refl, ap, arith}
use Rattle.std.proofs.lemmas.List.{length-take}
use Rattle.ts_part.specs.declared.header.Header.{Header}
use Rattle.ts_part.specs.Header.{HasHeader, header_bytes}

pub header_long : (h : Header) → length (header_bytes h) ≡ 88
unfolding header_bytes
header_long h = refl

-- a file that begins with a header is as long as it
pub begun_long : (file : List ℕ) (h : Header) → HasHeader file h → 88 ≤ length file
begun_long file h headed = omega (arith, length-take 88 file, ap length headed.says.spelled, header_long h)
