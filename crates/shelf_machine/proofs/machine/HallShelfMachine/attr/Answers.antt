use Rattle.std.proofs.Common.{◌≡◌, ◌∙◌, ℕ, Option, sym, ap}
use Rattle.std.specs.Prelude.{Err, option_map}
use Rattle.vol_model.specs.declared.answers.ReadErr.TheVariants as errors
use Rattle.vol_model.specs.declared.answers.SetInfo.{SetInfo}
use Rattle.vol_model.specs.declared.answers.WorkErr.TheVariants as work
use Rattle.vol_model.specs.declared.contents.Shelf.{Shelf}
use Rattle.vol_model.specs.Reading.{directory_size, set_info}
use Rattle.vol_model.specs.Writing.{body_on, set_on}
use Rattle.pack_machine.specs.Libraries.{library_at}
use Rattle.shelf_machine.specs.Parts.{known_of, meaning_of}
use Rattle.shelf_machine.proofs.HallShelves.{machine_bodies, machine_order, machine_volumes}
use Rattle.shelf_machine.proofs.MachineLibraries.{answered_sound, err_as, read_as, size_is}
use Rattle.shelf_machine.proofs.machine.HallShelfMachine.attr.Goals as goal

pub info_on-requires-clause-order : goal.info_on-requires-clause-order
info_on-requires-clause-order g c = machine_order c.hold-held.new.self c.deref.result.now c.deref.ensures.value (c.hold-held.ensures.faults.others (answered_sound c.hold-held.result c.in-Ok.ensures.read)).0

pub returns-in-Ok-clause-value : goal.returns-in-Ok-clause-value
returns-in-Ok-clause-value g c told =
    let now = c.hold-held.new.self in
    let sound = (c.hold-held.ensures.faults.others (answered_sound c.hold-held.result c.in-Ok.ensures.read)).0 in
    let same : (meaning_of now).state ≡ (meaning_of c.args.self.now).state = (c.hold-held.ensures.idle told).same.state in
    let size = c.in-Ok.ensures.size ∙ size_is c.hold-held.result (body_on (meaning_of c.args.self.now).state c.args.v c.args.dsn.now.bytes) (λ (at : ℕ). library_at (known_of now) c.args.v at) (c.hold-held.ensures.library told) c.in-Ok.ensures.read
    ∙ ap (λ (s : Shelf). directory_size (body_on s c.args.v c.args.dsn.now.bytes)) (sym same) in
    c.info_on.ensures.info (meaning_of now).state (machine_volumes now c.deref.result.now c.deref.ensures.value sound told) (machine_bodies now c.deref.result.now c.deref.ensures.value sound told) size
    ∙ ap (λ (s : Shelf). option_map set_info (set_on s c.args.v c.args.dsn.now.bytes)) same

pub returns-in-Ok-clause-idle : goal.returns-in-Ok-clause-idle
returns-in-Ok-clause-idle g c told = c.hold-held.ensures.idle told

pub returns-in-Ok-clause-faults : goal.returns-in-Ok-clause-faults
returns-in-Ok-clause-faults g c =
    read_as errors.Device c.hold-held.result work.Device _ _ _ (λ is. absurd cc) (λ is. absurd (answered_sound c.hold-held.result c.in-Ok.ensures.read is)) c.hold-held.ensures.faults

pub returns-in-Err-clause-idle : goal.returns-in-Err-clause-idle
returns-in-Err-clause-idle g c told = c.hold-held.ensures.idle told

pub returns-in-Err-clause-faults : goal.returns-in-Err-clause-faults
returns-in-Err-clause-faults g c =
    read_as {S = Option SetInfo} errors.Device c.hold-held.result work.Device (Err c.in-Err.error) _ _ (λ is. c.in-Err.ensures.device (err_as c.in-Err.error work.Device is)) (λ is. err_as c.in-Err.error work.Device (c.in-Err.ensures.failed is)) c.hold-held.ensures.faults
