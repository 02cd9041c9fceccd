use Rattle.std.proofs.Common.{◌∙◌, refl, sym, ap}
use Rattle.std.specs.Prelude.{◌==◌, position}
use Rattle.mount_repair.proofs.DeviceCalls.{reported_more, unreported}
use Rattle.set_records.proofs.Tellings.{tells_not}
use Rattle.pack_machine.proofs.StillPacks.{not_device, noted_reported}
use Rattle.mount_repair.specs.declared.library.Library.{Library}
use Rattle.pack_machine.proofs.HeldLibraries.{added_held, added_part, nothing_held, not_read, place_held, some_track}
use Rattle.pack_machine.proofs.libraries.cached_directory_of.Goals as goal

-- it has a first track
pub returns-in_default-clause-faults : goal.returns-in_default-clause-faults
returns-in_default-clause-faults g c =
    let f0 = g.H.Hall.facts c.args.hall.now in
    noted_reported _ _ f0 f0 (g.H.Hall.facts c.differs.new.self) refl (unreported f0) c.differs.ensures.faults
    (tells_not _ g.H.Hall.tells (λ told. let part = c.requires.part told in some_track _ c.args.vol.now c.args.set.now part (c.in_default.ensures.track _ part.part.set)) c.differs.ensures.rose)

pub returns-in_default-clause-known : goal.returns-in_default-clause-known
returns-in_default-clause-known g c told = (c.requires.known told).libraries

pub returns-in_default-clause-held : goal.returns-in_default-clause-held
returns-in_default-clause-held g c told = (c.requires.known told).held

-- its library is held

pub returns-in-Some-place_of-clause-library : goal.returns-in-Some-place_of-clause-library
returns-in-Some-place_of-clause-library g c told =
    let part = c.requires.part told in
    let libraries = c.args.known.now.libraries.items in
    place_held _ c.args.vol.now c.args.set.now part libraries (c.requires.known told).libraries c.in-Some.start (c.in-Some.ensures.track _ part.part.set) c.in-Some-place_of.at
    (c.in-Some-place_of.ensures ∙ ap (position (λ (l : Library). l.start == c.in-Some.start)) c.deref.ensures.value)

pub returns-in-Some-place_of-clause-known : goal.returns-in-Some-place_of-clause-known
returns-in-Some-place_of-clause-known g c told = (c.requires.known told).libraries

pub returns-in-Some-place_of-clause-held : goal.returns-in-Some-place_of-clause-held
returns-in-Some-place_of-clause-held g c told = (c.requires.known told).held

-- it is read

pub read_directory-requires-clause-part : goal.read_directory-requires-clause-part
read_directory-requires-clause-part g c told = (c.requires.part told).part

pub returns-in-Ok-clause-library : goal.returns-in-Ok-clause-library
returns-in-Ok-clause-library g c told =
    let part = c.requires.part told in
    added_part _ c.args.vol.now c.args.set.now part c.add.result c.in-Ok.library c.args.known.now.libraries.items c.add.new.libraries.items c.add.ensures.added c.add.ensures.memory
    (c.in-Ok.ensures.library told (sym (c.in-Some.ensures.track _ part.part.set)) part.readable)

pub returns-in-Ok-clause-known : goal.returns-in-Ok-clause-known
returns-in-Ok-clause-known g c told =
    let part = c.requires.part told in
    added_held _ c.args.vol.now c.args.set.now part c.add.result c.in-Ok.library c.args.known.now.libraries.items c.add.new.libraries.items c.add.ensures.added c.add.ensures.failed (c.requires.known told).libraries
    (c.in-Ok.ensures.library told (sym (c.in-Some.ensures.track _ part.part.set)) part.readable)

pub returns-in-Ok-clause-held : goal.returns-in-Ok-clause-held
returns-in-Ok-clause-held g c told = nothing_held _ c.read_directory.new.buf c.in-Ok.ensures.reach

pub returns-in-Ok-clause-faults : goal.returns-in-Ok-clause-faults
returns-in-Ok-clause-faults g c = reported_more _ _ _ (unreported _) c.in-Ok.ensures.faults (λ is. absurd (not_device c.add.result c.add.ensures.memory is)) (λ is. absurd cc)

pub returns-in-Err-clause-library : goal.returns-in-Err-clause-library
returns-in-Err-clause-library g c told =
    not_read _ c.args.vol.now c.args.set.now c.in-Err.error _ (c.in-Err.ensures.library told (sym (c.in-Some.ensures.track _ (c.requires.part told).part.set)))

pub returns-in-Err-clause-known : goal.returns-in-Err-clause-known
returns-in-Err-clause-known g c told = (c.requires.known told).libraries

pub returns-in-Err-clause-held : goal.returns-in-Err-clause-held
returns-in-Err-clause-held g c told = nothing_held _ c.read_directory.new.buf c.in-Err.ensures.reach
