use Rattle.std.proofs.Common.{◌≡◌, IsTrue, Option, Some, None, subst}
use Rattle.std.specs.Prelude.{IfSome, Ok}
use Rattle.hall_core.specs.Images.{image_in}
use Rattle.pack_spec.specs.Label.{records_on}
use Rattle.pds_directory.specs.declared.ends.Reached.{Reached}
use Rattle.pds_directory.specs.Directories.{data_in}
use Rattle.pds_directory.specs.Reading.{IsHeld, Reaches}
use Rattle.vtoc_sets.proofs.OtherBuffers.{call_as, call_done}
use Rattle.pds_directory.proofs.ReadSteps.{broken_track, has_bytes, holds_whole, no_track, reads_track}
use Rattle.pds_directory.proofs.reading.read_track.Goals as goal

pub returns-in_default-clause-read : goal.returns-in_default-clause-read
returns-in_default-clause-read g c told =
    let image = image_in (g.H.Hall.meaning c.args.hall.now) (g.H.Hall.facts c.args.hall.now) c.args.vol.now.unit in
    let part = c.requires.part told in
    no_track image c.args.vol.now c.args.set.now part c.args.k c.args.reading.now (c.requires.before told) (c.in_default.ensures.track image part.set)

pub returns-in-Ok-None-clause-read : goal.returns-in-Ok-None-clause-read
returns-in-Ok-None-clause-read g c told =
    let image = image_in (g.H.Hall.meaning c.args.hall.now) (g.H.Hall.facts c.args.hall.now) c.args.vol.now.unit in
    let v = c.args.vol.now in
    let part = c.requires.part told in
    let there = c.in-Some.ensures.track image part.set in
    let xs = c.reach_end.new.vol.buf.records in
    let has = has_bytes image v c.args.set.now part c.args.k c.args.reading.now (c.requires.before told) c.in-Some.track there c.in-Some.ensures.inside in
    let none : c.in-Ok-None.field-0 ≡ None = cc in
    let P : Option Reached → Type 0 = λ o. Reaches (Ok o) v.geometry (data_in image v) c.in-Some.track xs in
    broken_track image v c.args.set.now part c.args.k c.args.reading.now (c.requires.before told) c.in-Some.track there c.in-Some.ensures.inside xs (subst P none (c.in-Ok-None.ensures.reached told (data_in image v) has))

pub returns-in-Ok-Some-clause-read : goal.returns-in-Ok-Some-clause-read
returns-in-Ok-Some-clause-read g c told =
    let image = image_in (g.H.Hall.meaning c.args.hall.now) (g.H.Hall.facts c.args.hall.now) c.args.vol.now.unit in
    let v = c.args.vol.now in
    let part = c.requires.part told in
    let there = c.in-Some.ensures.track image part.set in
    let xs = c.reach_end.new.vol.buf.records in
    let has = has_bytes image v c.args.set.now part c.args.k c.args.reading.now (c.requires.before told) c.in-Some.track there c.in-Some.ensures.inside in
    let some : c.in-Ok-Some.field-0 ≡ Some c.in-Ok-Some.reached = cc in
    let P : Option Reached → Type 0 = λ o. Reaches (Ok o) v.geometry (data_in image v) c.in-Some.track xs in
    reads_track image v c.args.set.now part c.args.k c.args.reading.now (c.requires.before told) c.in-Some.track there c.in-Some.ensures.inside xs c.in-Ok-Some.reached
    (subst P some (c.in-Ok-Some.ensures.reached told (data_in image v) has)) c.add_reached.result c.add_reached.new.reading c.add_reached.ensures.ended c.add_reached.ensures.end c.add_reached.ensures.read

pub returns-in-Ok-Some-clause-whole : goal.returns-in-Ok-Some-clause-whole
returns-in-Ok-Some-clause-whole g c told =
    let image = image_in (g.H.Hall.meaning c.args.hall.now) (g.H.Hall.facts c.args.hall.now) c.args.vol.now.unit in
    let v = c.args.vol.now in
    let part = c.requires.part told in
    let there = c.in-Some.ensures.track image part.set in
    let b = c.reach_end.new.vol.buf in
    let some : c.in-Ok-Some.field-0 ≡ Some c.in-Ok-Some.reached = cc in
    let P : Option Reached → Type 0 = λ o. IfSome o (λ reached. IsTrue reached.whole → records_on image v.geometry None c.in-Some.track ≡ Some b.records) in
    holds_whole image v c.args.set.now c.args.k c.in-Some.track b c.in-Ok-Some.reached c.add_reached.new.reading c.add_reached.result there (subst P some (c.in-Ok-Some.ensures.whole told)) c.add_reached.ensures.whole

pub returns-in-Ok-Some-clause-faults : goal.returns-in-Ok-Some-clause-faults
returns-in-Ok-Some-clause-faults g c = call_as (call_done c.in-Ok-Some.ensures.faults) (λ none. absurd none) (λ is. c.add_reached.ensures.device is)

pub add_reached-requires-clause-held : goal.add_reached-requires-clause-held
add_reached-requires-clause-held g c =
    let some : c.in-Ok-Some.field-0 ≡ Some c.in-Ok-Some.reached = cc in
    let P : Option Reached → Type 0 = λ o. IfSome o (IsHeld c.reach_end.new.vol.buf.records) in
    subst P some c.in-Ok-Some.ensures.held
