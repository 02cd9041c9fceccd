use Rattle.std.proofs.Common.{◌≡◌, Option, Some, None, refl, subst, arith}
use Rattle.std.specs.Prelude.{Ok}
use Rattle.hall_core.specs.Images.{image_in}
use Rattle.stop_model.proofs.MomentLemmas.{same_then}
use Rattle.vtoc_index.proofs.HeldLemmas.{noted}
use Rattle.pds_directory.specs.declared.ends.Reached.{Reached}
use Rattle.pds_directory.specs.Directories.{data_in}
use Rattle.pds_directory.specs.Reading.{Reaches}
use Rattle.pds_directory.proofs.EndWalks.{bytes, seeks, there_is, unbroken}
use Rattle.pds_directory.proofs.ends.find_end_on.Goals as goal

pub returns-in_default-clause-faults : goal.returns-in_default-clause-faults
returns-in_default-clause-faults g c =
    noted refl refl refl (omega arith) c.differs.ensures.faults c.differs.ensures.rose
    (λ told.
    let image = image_in (g.H.Hall.meaning c.args.hall.now) (g.H.Hall.facts c.args.hall.now) c.args.vol.now.unit in
    let set = c.requires.set told in
    there_is image c.args.vol.now c.args.set.now set c.args.k (c.requires.before told) (c.in_default.ensures.track image set.part.set))

pub returns-in_default-2-clause-same : goal.returns-in_default-2-clause-same
returns-in_default-2-clause-same g c told = same_then (c.in_ok-reached.ensures.same told) (c.differs-in_default-2.ensures.files told)

pub returns-in_default-2-clause-faults : goal.returns-in_default-2-clause-faults
returns-in_default-2-clause-faults g c =
    let was = c.in_ok-reached.ensures.faults in
    noted was.units was.references was.prints was.later c.differs-in_default-2.ensures.faults c.differs-in_default-2.ensures.rose
    (λ told.
    let v = c.args.vol.now in
    let image = image_in (g.H.Hall.meaning c.args.hall.now) (g.H.Hall.facts c.args.hall.now) v.unit in
    let set = c.requires.set told in
    let there = c.in-Some.ensures.track image set.part.set in
    let xs = c.reach_end.new.vol.buf.records in
    let has = bytes image v c.args.set.now set c.args.k (c.requires.before told) c.in-Some.track there c.in-Some.ensures.inside in
    let none : c.in_ok-reached.field-0 ≡ None = cc in
    let P : Option Reached → Type 0 = λ o. Reaches (Ok o) v.geometry (data_in image v) c.in-Some.track xs in
    unbroken image v c.args.set.now set c.args.k (c.requires.before told) c.in-Some.track there c.in-Some.ensures.inside xs (subst P none (c.in_ok-reached.ensures.reached told (data_in image v) has)))

pub returns-clause-found : goal.returns-clause-found
returns-clause-found g c told =
    let v = c.args.vol.now in
    let image = image_in (g.H.Hall.meaning c.args.hall.now) (g.H.Hall.facts c.args.hall.now) v.unit in
    let set = c.requires.set told in
    let there = c.in-Some.ensures.track image set.part.set in
    let xs = c.reach_end.new.vol.buf.records in
    let has = bytes image v c.args.set.now set c.args.k (c.requires.before told) c.in-Some.track there c.in-Some.ensures.inside in
    let some : c.in_ok-reached.field-0 ≡ Some c.in-Some-2.reached = cc in
    let P : Option Reached → Type 0 = λ o. Reaches (Ok o) v.geometry (data_in image v) c.in-Some.track xs in
    seeks image v c.args.set.now set c.args.k (c.requires.before told) c.in-Some.track there c.in-Some.ensures.inside xs c.in-Some-2.reached
    (subst P some (c.in_ok-reached.ensures.reached told (data_in image v) has)) c.end_on.result c.end_on.ensures
