-- How a machine in memory makes room for blocks.
use Rattle.map_machine.specs.declared.past.Target as declared
use Rattle.map_machine.specs.declared.rooms.Room as rooms
use Rattle.map_machine.specs.declared.rooms.Room.TheVariants as variants
use Rattle.vol_model.specs.Writing.{Target, Room, Owned, Wanted, Never}

-- what is written to, as a machine holds it
abbrev pub target_in : declared.Target → Target
target_in t = record { v = t.v; dsn = t.dsn; mode = t.mode }

-- the room for a content
abbrev pub room_in : rooms.Room → Room
room_in variants.Owned = Owned
room_in variants.Wanted = Wanted
room_in variants.Never = Never
