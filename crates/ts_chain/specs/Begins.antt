-- The header of a file that goes on from a chain.
use Rattle.std.specs.Prelude.{◌≡◌, ℕ, List}
use Rattle.ts_part.specs.declared.header.Header.{Header}
use Rattle.ts_part.specs.declared.header.PartKind.{PartKind}
use Rattle.ts_part.specs.Facts.{Facts}
use Rattle.ts_part.specs.Header.{HasHeader}
use Rattle.ts_chain.specs.Chain.{layer_of, predicates_in, terms_in}

-- the file has a header of this kind and number, which goes on from these parts, or from none
pub record BeginsOver (kind : PartKind) (number : ℕ) (parts : List Facts) (file : List ℕ) : Type 0 where
  pub header : Header
  pub begins : HasHeader file header
  pub kind_is : header.kind ≡ kind
  pub number_is : header.number ≡ number
  pub parent : header.parent ≡ layer_of parts
  pub terms : header.terms_before ≡ terms_in parts
  pub predicates : header.predicates_before ≡ predicates_in parts
