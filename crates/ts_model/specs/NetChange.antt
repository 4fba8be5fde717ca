-- The net change of a body: of the lines of a triple, the last one decides.
use Rattle.std.specs.Prelude.{Bool, true, false, List, map, reverse, find, Option, Some, None}
use Rattle.std.specs.Option.{option_map}
use Rattle.std.specs.Ordering.{eq_by_cmp}
use Rattle.ts_model.specs.declared.signed.Sign.{Sign}
use Rattle.ts_model.specs.declared.signed.Sign.TheVariants.{Add, Remove}
use Rattle.ts_model.specs.declared.signed.SignedTriple.{SignedTriple}
use Rattle.ts_model.specs.TextTriple.{TextTriple}
use Rattle.ts_model.specs.Order.{triple_cmp}
use Rattle.ts_model.specs.Sets.{SetOf, from_list, retain, difference, intersection}

abbrev pub is_line_of : TextTriple → SignedTriple → Bool
is_line_of triple line = eq_by_cmp triple_cmp triple line.triple

-- the sign of the last line of the triple
abbrev pub last_sign : List SignedTriple → TextTriple → Option Sign
last_sign body triple = option_map (λ line. line.sign) (find (is_line_of triple) (reverse body))

abbrev pub is_added : Option Sign → Bool
is_added None = false
is_added (Some Add) = true
is_added (Some Remove) = false

abbrev pub is_removed : Option Sign → Bool
is_removed None = false
is_removed (Some Add) = false
is_removed (Some Remove) = true

-- the triples that a body has a line of
abbrev pub body_triples : List SignedTriple → SetOf triple_cmp
body_triples body = from_list (map (λ line. line.triple) body)

-- those whose last sign is `Add`
abbrev pub added : List SignedTriple → SetOf triple_cmp
added body = retain (body_triples body) (λ triple. is_added (last_sign body triple))

-- those whose last sign is `Remove`
abbrev pub removed : List SignedTriple → SetOf triple_cmp
removed body = retain (body_triples body) (λ triple. is_removed (last_sign body triple))

-- those to add that are not there before, and those to remove that are
abbrev pub net_additions : SetOf triple_cmp → List SignedTriple → SetOf triple_cmp
net_additions before body = difference (added body) before

abbrev pub net_removals : SetOf triple_cmp → List SignedTriple → SetOf triple_cmp
net_removals before body = intersection (removed body) before
