-- What is written: records to a sequential data set, after its own or in their place, or to a library as a member (Utilities GC28-6586, in this project's profile).
use Rattle.std.specs.Prelude.{◌≡◌, ◌==◌, Bool, false, ◌&&◌, if◌then◌else◌, [], ◌∷◌, Option, Some, None, Result}
use Rattle.std.specs.Str.{bytes_eq}
use Rattle.ebcdic_names.specs.declared.names.Name8.{Name8}
use Rattle.vol_model.specs.declared.answers.Mode.TheVariants as modes
use Rattle.vol_model.specs.declared.contents.Attr.{Attr}
use Rattle.vol_model.specs.declared.contents.DataSet.{DataSet}
use Rattle.vol_model.specs.declared.contents.Shelf.{Shelf}
use Rattle.vol_model.specs.declared.refusals.Refusal.{Refusal}
use Rattle.vol_model.specs.Did.{Did}
use Rattle.util_steps.specs.declared.calls.Fault.{Fault}
use Rattle.util_steps.specs.declared.calls.SetRef.{SetRef}
use Rattle.util_syntax.specs.declared.step.DdIn.{DdIn}
use Rattle.util_syntax.specs.declared.step.DdIn.TheVariants.{Set}
use Rattle.record_files.specs.declared.attributes.Purpose.{Purpose}
use Rattle.record_files.specs.declared.attributes.Purpose.TheVariants as purposes
use Rattle.record_files.specs.declared.inputs.RecordInput.{RecordInput}
use Rattle.record_files.specs.Attributes.{usable_set}
use Rattle.record_files.specs.Inputs.{Found, InputView, IsThere, ReadsAs, cards, from, known_of}
use Rattle.record_files.specs.Sources.{KeepsOthers}
use Rattle.record_files.specs.Streams.{Stream}
use Rattle.record_files.specs.Writing.{Coming, appended, rewritten}
use Rattle.output_files.specs.declared.outputs.Output.{Output}
use Rattle.output_files.specs.Members.{MemberNames, library_for, stored}

-- SYSUT1 and SYSUT2 in EBCDIC
abbrev pub sysut1 : Name8
sysut1 = record { bytes = 0xE2 ∷ 0xE8 ∷ 0xE2 ∷ 0xE4 ∷ 0xE3 ∷ 0xF1 ∷ 0x40 ∷ 0x40 ∷ [] }

abbrev pub sysut2 : Name8
sysut2 = record { bytes = 0xE2 ∷ 0xE8 ∷ 0xE2 ∷ 0xE4 ∷ 0xE3 ∷ 0xF2 ∷ 0x40 ∷ 0x40 ∷ [] }

-- the data set of a DD, with the member that is meant
abbrev pub set_in : Option DdIn → Option Output
set_in (Some (Set v dsn member append dcb)) = Some (record { to = record { v = v; dsn = dsn }; member = member; append = append; dcb = dcb })
set_in _ = None

-- ---- what is found

-- what a sequential output is found for
abbrev pub purpose_of : Output → Purpose
purpose_of out = if out.append then purposes.Records else purposes.Rewrite

-- the output: a library that takes a member of these names, or a sequential set
abbrev pub found_output : Shelf → Output → Option MemberNames → Result DataSet Refusal
found_output shelf out (Some n) = library_for shelf out.to n
found_output shelf out None = usable_set shelf (purpose_of out) out.to

-- a sequential data set is its own input
abbrev pub is_same : InputView → SetRef → Option MemberNames → Bool
is_same (cards cs) to names = false
is_same (from s member) to (Some n) = false
is_same (from s member) to None = s.v == to.v && bytes_eq s.dsn.bytes to.dsn.bytes

-- The input is found and can be read, this is what is known of it, and the output can be read.
pub record KnowsSets (input : InputView) (known : RecordInput) (to : SetRef) (shelf : Shelf) (found : Found) : Type 0 where
  pub reads : ReadsAs shelf input found
  pub known_so : known ≡ known_of found
  pub output : IsThere shelf to

-- ---- what is written

-- blocks are written to a member, or to a sequential set, after its own or in their place
abbrev pub write_output : Shelf → Output → Option MemberNames → Attr → Coming → Did (Unit {0}) Fault
write_output shelf out (Some n) attr c = stored shelf out.to n c
write_output shelf out None attr c = if out.append then appended shelf out.to modes.Fill c else rewritten shelf out.to attr c

-- The output can be read, and a source gives these records; where the output is sequential, also once that is empty.
pub record GivesTo (to : SetRef) (names : Option MemberNames) (stream : Shelf → Stream) (shelf : Shelf) (st : Stream) : Type 0 where
  pub there : IsThere shelf to
  pub gives : stream shelf ≡ st
  pub beside : names ≡ None → (u : Shelf) → KeepsOthers to shelf u → stream u ≡ st
