-- Which slot may take a new DSCB while an update is under way (System Control Blocks GC28-6628; the bit of an interrupted update: this project's profile).
use Rattle.std.specs.Prelude.{ℕ, ◌+◌, Bool, List, drop, position, Option, Ok}
use Rattle.std.specs.Option.{option_map}
use Rattle.dscb_codec.specs.declared.Dscb.{Dscb}
use Rattle.pack_spec.specs.Rules.{is_f5_or_f0}

-- a slot that holds no data set and no part of one: it is free, or of format 5
abbrev pub is_open : Dscb → Bool
is_open d = is_f5_or_f0 (Ok d)

-- the first open slot that may take a DSCB: slot 0 is format 4, and slot 1 begins the chain of free space
abbrev pub open_slot : List Dscb → Option ℕ
open_slot dscbs = option_map (λ i. 2 + i) (position is_open (drop 2 dscbs))
