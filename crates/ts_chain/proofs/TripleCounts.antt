-- How many triples come and go with parts, one part after another.
use Rattle.std.proofs.Common.{◌≡◌, ◌+◌, List, ◌∷◌, length, map}
use Rattle.std.proofs.lemmas.List.Sums.{sum_by-cons}
use Rattle.ts_part.specs.Facts.{Facts}
use Rattle.ts_chain.specs.Content.{come_count, go_count}

pub come_count-cons : (part : Facts) (parts : List Facts) → come_count (part ∷ parts) ≡ length part.additions + come_count parts
come_count-cons part parts = sum_by-cons (λ x. x) (length part.additions) (map (λ part. length part.additions) parts)

pub go_count-cons : (part : Facts) (parts : List Facts) → go_count (part ∷ parts) ≡ length part.removals + go_count parts
go_count-cons part parts = sum_by-cons (λ x. x) (length part.removals) (map (λ part. length part.removals) parts)
