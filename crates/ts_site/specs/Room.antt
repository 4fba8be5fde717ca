-- The room of a site in memory, and a stop that is planned.
use Rattle.std.specs.Prelude.{ℕ, ◌-◌, nat_lt, nat_le, ◌==◌, not, ◌&&◌, Bool, false, Option, Some, None, option_map}
use Rattle.ts_site.specs.declared.room.Room.{Room}

-- whether the planned stop has come
abbrev pub is_stopped : Option ℕ → Bool
is_stopped None = false
is_stopped (Some calls) = calls == 0

-- the stop is one call nearer
abbrev pub nearer_stop : Option ℕ → Option ℕ
nearer_stop stop = option_map (λ calls. calls - 1) stop

-- whether a call can be made that uses these bytes
abbrev pub has_place : Room → ℕ → Bool
has_place room bytes = not (is_stopped room.until_stop) && (nat_lt 0 room.calls && nat_le bytes room.bytes)

-- the room after a call that uses these bytes
abbrev pub taken : ℕ → Room → Room
taken bytes room = record room { calls = room.calls - 1; bytes = room.bytes - bytes; until_stop = nearer_stop room.until_stop }

-- the room after a call that found none
abbrev pub passed : Room → Room
passed room = record room { until_stop = nearer_stop room.until_stop }
