-- How many nodes, values and predicates are new in parts, and a header that counts them.
use Rattle.std.specs.Prelude.{◌≡◌, ℕ, List, ◌++◌, length, map, sum}
use Rattle.ts_part.specs.declared.header.Header.{Header}
use Rattle.ts_part.specs.Facts.{Facts}
use Rattle.ts_part.specs.Header.{HasHeader}
use Rattle.ts_chain.specs.Chain.{predicates_in, terms_in}

abbrev pub nodes_of : List Facts → ℕ
nodes_of parts = sum (map (λ part. length part.nodes) parts)

abbrev pub values_of : List Facts → ℕ
values_of parts = sum (map (λ part. length part.values) parts)

abbrev pub new_predicates_of : List Facts → ℕ
new_predicates_of parts = sum (map (λ part. length part.predicates) parts)

-- the upper parts are these over others, which have the totals of the lower parts
pub record AreAbove (lower upper newer : List Facts) : Type 0 where
  pub below : List Facts
  pub parts : upper ≡ newer ++ below
  pub terms : terms_in below ≡ terms_in lower
  pub predicates : predicates_in below ≡ predicates_in lower

-- the file's header counts what is new in these parts
pub record HasSums (parts : List Facts) (file : List ℕ) : Type 0 where
  pub header : Header
  pub begins : HasHeader file header
  pub nodes : header.nodes ≡ nodes_of parts
  pub values : header.values ≡ values_of parts
  pub predicates : header.predicates ≡ new_predicates_of parts
