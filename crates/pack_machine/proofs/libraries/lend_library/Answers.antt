use Rattle.std.proofs.Common.{refl, sym}
use Rattle.mount_repair.proofs.DeviceCalls.{unreported}
use Rattle.set_records.proofs.Tellings.{tells_not}
use Rattle.pack_machine.proofs.StillPacks.{noted_reported}
use Rattle.pack_machine.proofs.HeldLibraries.{found_held, found_start, others_from, some_track}
use Rattle.pack_machine.proofs.libraries.lend_library.Goals as goal

-- it has a first track
pub returns-in_default-clause-faults : goal.returns-in_default-clause-faults
returns-in_default-clause-faults g c =
    let f0 = g.H.Hall.facts c.args.hall.now in
    noted_reported _ _ f0 f0 (g.H.Hall.facts c.differs.new.self) refl (unreported f0) c.differs.ensures.faults
    (tells_not _ g.H.Hall.tells (λ told. let part = c.requires.part told in some_track _ c.args.vol.now c.args.set.now part (c.in_default.ensures.track _ part.part.set)) c.differs.ensures.rose)

-- its library is held

pub returns-in-Some-take-clause-library : goal.returns-in-Some-take-clause-library
returns-in-Some-take-clause-library g c told =
    let part = c.requires.part told in
    found_held _ c.args.vol.now c.args.set.now part c.args.known.now.libraries.items (c.requires.libraries told) c.in-Some.start (c.in-Some.ensures.track _ part.part.set) c.in-Some-take.library (sym c.in-Some-take.ensures.taken)

pub returns-in-Some-take-clause-others : goal.returns-in-Some-take-clause-others
returns-in-Some-take-clause-others g c =
    let l = c.in-Some-take.library in
    others_from c.args.known.now.libraries.items c.take.new.libraries.items c.in-Some.start l (found_start c.args.known.now.libraries.items c.in-Some.start l (sym c.in-Some-take.ensures.taken)) c.in-Some-take.ensures.others

-- it is read

pub read_directory-requires-clause-part : goal.read_directory-requires-clause-part
read_directory-requires-clause-part g c told = (c.requires.part told).part

pub returns-in-Ok-clause-library : goal.returns-in-Ok-clause-library
returns-in-Ok-clause-library g c told =
    let part = c.requires.part told in
    c.in-Ok.ensures.library told (sym (c.in-Some.ensures.track _ part.part.set)) part.readable

pub returns-in-Ok-clause-others : goal.returns-in-Ok-clause-others
returns-in-Ok-clause-others g c = others_from c.args.known.now.libraries.items c.take.new.libraries.items c.in-Some.start c.in-Ok.library c.in-Ok.ensures.start c.in_default-take.ensures.others
