-- What a walk has left.
use Rattle.std.specs.Prelude.{List}
use Rattle.ts_plane.specs.declared.triple.IdTriple.{IdTriple}
use Rattle.ts_plane.specs.declared.walk.Cursor.{Cursor}
use Rattle.ts_plane.specs.declared.walk.Cursor.TheVariants.{Range, ByPredicate, ByObject}

-- what its cursor has left
abbrev pub rest_of : Cursor → List IdTriple
rest_of (Range cursor) = cursor
rest_of (ByPredicate cursor) = cursor
rest_of (ByObject cursor) = cursor
