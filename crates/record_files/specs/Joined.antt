-- What is read of segments.
use Rattle.std.specs.Prelude.{◌≡◌, ℕ, Bool, false, List, map, is_some, Option, Some, None}
use Rattle.record_blocks.specs.declared.joiner.Joiner.{Joiner}
use Rattle.record_blocks.specs.declared.marks.BlockMark.{BlockMark}
use Rattle.record_blocks.specs.Blocks.{Segment}
use Rattle.record_blocks.specs.Joiner.{open_of}
use Rattle.record_blocks.specs.Packing.{longest}
use Rattle.record_blocks.specs.Reading.{Reading}
use Rattle.record_files.specs.declared.taken.Step.{Step}
use Rattle.record_files.specs.declared.taken.Step.TheVariants as steps
use Rattle.record_files.specs.Reading.{joined, read_then}
use Rattle.record_files.specs.Streams.{Stream, at_end, at_fault, with_record}

-- the records of segments to come: with VS and VBS those that are joined after an open one, and else each segment is one
abbrev pub records_left : Option Joiner → Reading → Stream
records_left None r = record { records = map (λ (s : Segment). s.bytes) r.segments; broken = is_some r.fault }
records_left (Some j) r = joined (longest j.format) (is_some r.fault) (open_of j) r.segments

-- a record is still open
abbrev pub is_left_open : Option Joiner → Bool
is_left_open None = false
is_left_open (Some j) = is_some (open_of j)

-- what is left of a block, and the blocks after it
abbrev pub then_blocks : Reading → Reading → Reading
then_blocks left others = read_then left.segments left.fault others

-- how many bytes of a block are read
abbrev pub bytes_passed : Option BlockMark → ℕ
bytes_passed None = 0
bytes_passed (Some mark) = mark.at

-- a segment is taken: a record is whole now, or a part of one; the input ends, or has a fault
abbrev pub StepGives : Step → Stream → List ℕ → Stream → Type 0
StepGives steps.Record st rec others = st ≡ with_record rec others
StepGives steps.Part st rec others = st ≡ others
StepGives steps.End st rec others = st ≡ at_end
StepGives steps.Broken st rec others = st ≡ at_fault

-- more may follow
abbrev pub GoesOn : Step → Type 0
GoesOn steps.Record = Unit {0}
GoesOn steps.Part = Unit {0}
GoesOn steps.End = ⊥
GoesOn steps.Broken = ⊥
