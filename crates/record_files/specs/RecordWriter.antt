-- What a `RecordWriter` still makes of the records to come.
use Rattle.std.specs.Prelude.{ℕ, Bool, if◌then◌else◌, List, [], ◌∷◌, ◌++◌}
use Rattle.record_blocks.specs.Packing.{longest}
use Rattle.record_blocks.specs.Packer.{blocks_with, format_of}
use Rattle.record_files.specs.declared.record_writer.RecordWriter.{RecordWriter}
use Rattle.record_files.specs.Streams.{Stream, fitting}
use Rattle.record_files.specs.Writing.{Coming, coming_of}

-- a block, if it is held back
abbrev pub held_if : Bool → List ℕ → List (List ℕ)
held_if holds block = if holds then block ∷ [] else []

-- the block that is held back
abbrev pub held_by : RecordWriter → List (List ℕ)
held_by w = held_if w.holds w.held.items

-- the blocks that are still to be put with these records
abbrev pub blocks_to_come : RecordWriter → List (List ℕ) → List (List ℕ)
blocks_to_come w records = held_by w ++ blocks_with w.packer records

-- what is still to be put with these records
unfoldable pub coming : RecordWriter → Stream → Coming
coming w st = let fit = fitting (longest (format_of w.packer)) st.broken st.records in coming_of (blocks_to_come w fit.records) fit.broken
