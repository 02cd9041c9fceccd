-- What a source of records gives.
use Rattle.std.specs.Prelude.{◌≡◌, ℕ, List}
use Rattle.vol_model.specs.declared.contents.Shelf.{Shelf}
use Rattle.util_steps.specs.declared.calls.SetRef.{SetRef}
use Rattle.util_steps.specs.Copying.{source}
use Rattle.util_steps.specs.Steps.{AreApart}
use Rattle.record_files.specs.declared.taken.Taken.{Taken}
use Rattle.record_files.specs.declared.taken.Taken.TheVariants.{Record, End, Broken}
use Rattle.record_files.specs.Streams.{Stream, at_end, at_fault, with_record}

-- the first of these records is given, and the others follow; or there is none, or a fault in its place
abbrev pub Gives : Taken → Stream → List ℕ → Stream → Type 0
Gives Record st rec others = st ≡ with_record rec others
Gives End st rec others = st ≡ at_end
Gives Broken st rec others = st ≡ at_fault

-- what can be read of all sets stays
abbrev pub KeepsSets : Shelf → Shelf → Type 0
KeepsSets old new = (from : SetRef) → source new from ≡ source old from

-- what can be read of all sets but one stays
abbrev pub KeepsOthers : SetRef → Shelf → Shelf → Type 0
KeepsOthers to old new = (from : SetRef) → AreApart to from → source new from ≡ source old from
