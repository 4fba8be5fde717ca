-- Which lines of a body change a layer, and the triples of such lines.
use Rattle.std.specs.Prelude.{◌≡◌, ◌⊎◌, List, [], ◌∷◌}
use Rattle.ts_model.specs.declared.signed.Sign.{Sign}
use Rattle.ts_model.specs.declared.signed.Sign.TheVariants.{Add, Remove}
use Rattle.ts_model.specs.declared.signed.SignedTriple.{SignedTriple}
use Rattle.ts_model.specs.TextTriple.{TextTriple}
use Rattle.ts_part.specs.Facts.{Facts}
use Rattle.ts_chain.specs.Holds.{Holds}

-- a triple to add is one that the parts lack, and one to remove is one that they hold
abbrev pub IsDue : Sign → List Facts → TextTriple → Type 0
IsDue Add parts triple = ¬ Holds parts triple
IsDue Remove parts triple = Holds parts triple

-- the line asks for this, and changes something
pub record IsChange (sign : Sign) (parts : List Facts) (line : SignedTriple) : Type 0 where
  pub asks : line.sign ≡ sign
  pub due : IsDue sign parts line.triple

-- the triples are those of the lines of which something holds, in the order of the lines
abbrev pub Picks : (SignedTriple → Type 0) → List SignedTriple → List TextTriple → Type 0
Picks P [] triples = triples ≡ []
Picks P (line ∷ lines) triples =
    ((¬ P line) × Picks P lines triples) ⊎ (P line × ((rest : List TextTriple) × (triples ≡ line.triple ∷ rest) × Picks P lines rest))
