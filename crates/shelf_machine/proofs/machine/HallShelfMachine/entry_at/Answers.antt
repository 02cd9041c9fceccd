use Rattle.std.proofs.Common.{◌≡◌, ℕ, List, Ok, Option, refl, subst}
use Rattle.std.specs.Prelude.{slice_get}
use Rattle.vol_model.specs.declared.answers.ReadErr.TheVariants as errors
use Rattle.vol_model.specs.declared.contents.Entry.{Entry}
use Rattle.vol_model.specs.Writing.{body_on}
use Rattle.pack_machine.specs.Libraries.{HoldsLibrary, library_at}
use Rattle.shelf_machine.specs.Parts.{known_of, meaning_of}
use Rattle.pack_machine.proofs.StillPacks.{not_device}
use Rattle.shelf_machine.proofs.MachineLibraries.{picks_entry, picks_nothing, picks_unread, read_as}
use Rattle.shelf_machine.proofs.machine.HallShelfMachine.entry_at.Goals as goal

pub returns-in-Ok-Some-clause-value : goal.returns-in-Ok-Some-clause-value
returns-in-Ok-Some-clause-value g c told =
    picks_entry c.entry_at.result (body_on (meaning_of c.args.self.now).state c.args.v c.args.dsn.now.bytes) (library_at (known_of c.hold.new.self) c.args.v c.in-Ok-Some.at) (λ (es : List Entry). slice_get es c.args.k)
    (subst (λ (o : Option ℕ). HoldsLibrary (Ok o) (body_on (meaning_of c.args.self.now).state c.args.v c.args.dsn.now.bytes) (λ (at : ℕ). library_at (known_of c.hold.new.self) c.args.v at)) c.in-Ok-Some.field-0-is (c.in-Ok-Some.ensures.library told))
    c.entry_at.ensures.entry c.entry_at.ensures.memory

pub returns-in-Ok-Some-clause-idle : goal.returns-in-Ok-Some-clause-idle
returns-in-Ok-Some-clause-idle g c told = c.in-Ok-Some.ensures.idle told

pub returns-in-Ok-Some-clause-faults : goal.returns-in-Ok-Some-clause-faults
returns-in-Ok-Some-clause-faults g c =
    read_as errors.Device _ errors.Device c.entry_at.result _ _ (λ is. absurd (not_device c.entry_at.result c.entry_at.ensures.memory is)) (λ is. absurd cc) c.in-Ok-Some.ensures.faults

pub returns-in-Ok-None-clause-value : goal.returns-in-Ok-None-clause-value
returns-in-Ok-None-clause-value g c told =
    picks_nothing (body_on (meaning_of c.args.self.now).state c.args.v c.args.dsn.now.bytes) (λ (at : ℕ). library_at (known_of c.hold.new.self) c.args.v at) (λ (es : List Entry). slice_get es c.args.k)
    (subst (λ (o : Option ℕ). HoldsLibrary (Ok o) (body_on (meaning_of c.args.self.now).state c.args.v c.args.dsn.now.bytes) (λ (at : ℕ). library_at (known_of c.hold.new.self) c.args.v at)) c.in-Ok-None.field-0-is (c.in-Ok-None.ensures.library told)) refl

pub returns-in-Ok-None-clause-idle : goal.returns-in-Ok-None-clause-idle
returns-in-Ok-None-clause-idle g c told = c.in-Ok-None.ensures.idle told

pub returns-in-Ok-None-clause-faults : goal.returns-in-Ok-None-clause-faults
returns-in-Ok-None-clause-faults g c = read_as errors.Device _ errors.Device _ _ _ (λ is. absurd cc) (λ is. absurd cc) c.in-Ok-None.ensures.faults

pub returns-in-Err-clause-value : goal.returns-in-Err-clause-value
returns-in-Err-clause-value g c told =
    picks_unread c.in-Err.error (body_on (meaning_of c.args.self.now).state c.args.v c.args.dsn.now.bytes) (λ (at : ℕ). library_at (known_of c.hold.new.self) c.args.v at) (λ (es : List Entry). slice_get es c.args.k) (c.in-Err.ensures.library told)

pub returns-in-Err-clause-idle : goal.returns-in-Err-clause-idle
returns-in-Err-clause-idle g c told = c.in-Err.ensures.idle told

pub returns-in-Err-clause-faults : goal.returns-in-Err-clause-faults
returns-in-Err-clause-faults g c = read_as errors.Device _ errors.Device _ _ _ (λ is. let same : c.in-Err.error ≡ errors.Device = cc in cc) (λ is. let same : c.in-Err.error ≡ errors.Device = cc in cc) c.in-Err.ensures.faults
