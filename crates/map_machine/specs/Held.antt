-- What a machine in memory holds.
use Rattle.std.specs.Prelude.{ℕ, true, List, [], Option, Some, None, Result, is_some, replicate, if◌then◌else◌}
use Rattle.stop_model.specs.Moments.{Meaning}
use Rattle.map_machine.specs.Past.{Moment, meaning_after}
use Rattle.map_machine.specs.Rooms.{target_in}
use Rattle.map_machine.specs.declared.machine.MapMachine.{MapMachine}
use Rattle.map_machine.specs.declared.past.Done.{Done}
use Rattle.map_machine.specs.declared.past.Writer.{Writer}
use Rattle.vol_model.specs.declared.answers.Mode.TheVariants.{Fill}
use Rattle.vol_model.specs.declared.contents.Shelf.{Shelf}
use Rattle.vol_model.specs.declared.answers.MachErr.{MachErr}
use Rattle.vol_model.specs.Calls.{Status, open_at_memory}
use Rattle.vol_model.specs.Writing.{OpenWriter}

-- Its shelf and all that it printed, what it did, how many operations it did, and its writer, if one is open.
pub record Held : Type 0 where
  pub now : Moment
  pub log : List Done
  pub done : ℕ
  pub writer : Option Writer

-- what a machine holds
abbrev pub held_of : MapMachine → Held
held_of machine = record {
  now = record { shelf = machine.shelf; text = machine.printed.items };
  log = machine.log.items;
  done = machine.done;
  writer = machine.writer;
}

-- what it means that this is held
abbrev pub meaning_in : Held → Meaning Shelf
meaning_in held = meaning_after held.log held.now

-- it is always sound, stands on nothing, and has no faults
abbrev pub status_in : Held → Status
status_in held = record { is_sound = true; is_open = is_some held.writer; done = held.done; base = []; dev_faults = 0; print_faults = 0 }

-- the open writer; where none is open, one without puts
abbrev pub writer_in : Option Writer → OpenWriter
writer_in (Some w) = record { target = target_in w.target; puts = w.puts }
writer_in None = record { target = record { v = 0; dsn = record { bytes = replicate 44 64 }; mode = Fill }; puts = [] }

abbrev pub meaning_of : MapMachine → Meaning Shelf
meaning_of machine = meaning_in (held_of machine)

abbrev pub status_of : MapMachine → Status
status_of machine = status_in (held_of machine)

abbrev pub writer_of : MapMachine → OpenWriter
writer_of machine = writer_in machine.writer

-- the writer that is open after a commit: none, unless memory ran out
abbrev pub open_after : {T : Type 0} → Result T MachErr → Option Writer → Option Writer
open_after result w = if open_at_memory result then w else None
