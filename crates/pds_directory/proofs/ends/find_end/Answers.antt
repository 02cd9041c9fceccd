use Rattle.std.proofs.Common.{◌≡◌, ◌≤◌, Option, Some, None, subst, arith}
use Rattle.hall_core.specs.Images.{image_in}
use Rattle.stop_model.proofs.MomentLemmas.{same_none}
use Rattle.vol_model.specs.declared.contents.Place.{Place}
use Rattle.vtoc_index.proofs.HeldLemmas.{noted}
use Rattle.pds_directory.specs.Directories.{end_in}
use Rattle.pds_directory.specs.Reading.{SeeksOn}
use Rattle.pds_directory.proofs.EndWalks.{behind_now, seeks_end, seeks_first, seeks_more, seeks_past, set_now}
use Rattle.vtoc_sets.proofs.OtherBuffers.{call_done}
use Rattle.pds_directory.proofs.ends.find_end.Goals as goal

pub loop-k-init : goal.loop-k-init
loop-k-init g c =
    seeks_first g.H.Hall.tells (g.H.Hall.facts c.args.hall.now) (g.H.Hall.meaning c.args.hall.now) c.args.vol.now c.args.set.now (λ told. same_none _ (g.met.H.Hall.counts_now c.args.hall.now)) c.requires.set c.requires.unit

pub find_end_on-requires-clause-set : goal.find_end_on-requires-clause-set
find_end_on-requires-clause-set g c told =
    set_now g.H.Hall.tells _ _ _ _ c.args.vol.now c.loop-k.vol c.args.set.now c.loop-k.k c.loop-k.invariant told (c.requires.set told)

pub find_end_on-requires-clause-before : goal.find_end_on-requires-clause-before
find_end_on-requires-clause-before g c told =
    behind_now g.H.Hall.tells _ _ _ _ c.args.vol.now c.loop-k.vol c.args.set.now c.loop-k.k c.loop-k.invariant told

pub returns-in-Some-clause-place : goal.returns-in-Some-clause-place
returns-in-Some-clause-place g c told =
    let now = image_in (g.H.Hall.meaning c.loop-k.hall) (g.H.Hall.facts c.loop-k.hall) c.loop-k.vol.unit in
    let some : c.in_ok-found.found ≡ Some c.in-Some.end = cc in
    let P : Option Place → Type 0 = λ o. SeeksOn (end_in now c.loop-k.vol c.args.set.now) c.loop-k.k o in
    seeks_end g.H.Hall.tells _ _ _ _ c.args.vol.now c.loop-k.vol c.args.set.now c.loop-k.k c.loop-k.invariant c.in-Some.end (λ yes_told. subst P some (c.in_ok-found.ensures.found yes_told)) told

pub loop-k-preserved : goal.loop-k-preserved
loop-k-preserved g c =
    let call = c.in_ok-found.ensures in
    let now = image_in (g.H.Hall.meaning c.loop-k.hall) (g.H.Hall.facts c.loop-k.hall) c.loop-k.vol.unit in
    let none : c.in_ok-found.found ≡ None = cc in
    let P : Option Place → Type 0 = λ o. SeeksOn (end_in now c.loop-k.vol c.args.set.now) c.loop-k.k o in
    seeks_more g.H.Hall.tells _ _ _ _ c.args.vol.now c.loop-k.vol c.args.set.now c.loop-k.k c.loop-k.invariant (g.H.Hall.facts c.find_end_on.new.hall) (g.H.Hall.meaning c.find_end_on.new.hall) c.find_end_on.new.vol
    (call_done call.faults) call.same call.mounted call.others call.unit (λ told. subst P none (call.found told))

pub returns-clause-faults : goal.returns-clause-faults
returns-clause-faults g c =
    let was = c.loop-k.invariant.reads.facts in
    let all : 65535 ≤ c.loop-k.k = omega (arith, c.loop-k-test.false) in
    noted was.units was.references was.prints was.later c.differs.ensures.faults c.differs.ensures.rose
    (seeks_past g.H.Hall.tells _ _ _ _ c.args.vol.now c.loop-k.vol c.args.set.now c.loop-k.k c.loop-k.invariant all c.requires.set)
