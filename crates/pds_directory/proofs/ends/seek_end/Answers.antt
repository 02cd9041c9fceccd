use Rattle.std.proofs.Common.{Bool, Option, Some, ◌+◌, ◌<◌, ◌≤◌, subst, arith}
use Rattle.hall_core.specs.Images.{image_in}
use Rattle.stop_model.proofs.MomentLemmas.{same_none}
use Rattle.pack_spec.specs.Label.{records_on}
use Rattle.pds_directory.specs.declared.ends.Reached.{Reached}
use Rattle.pds_directory.specs.Reading.{IsLastEnd, IsReadUpTo}
use Rattle.pds_directory.proofs.EndReads.{held_last}
use Rattle.pds_directory.proofs.EndSeeks.{seeks_all, seeks_broken, seeks_first, seeks_found, seeks_more}
use Rattle.vtoc_sets.proofs.OtherBuffers.{call_done}
use Rattle.pds_directory.proofs.ends.seek_end.Goals as goal

pub loop-before-init : goal.loop-before-init
loop-before-init g c =
    seeks_first g.H.Hall.tells (g.H.Hall.facts c.args.hall.now) (g.H.Hall.meaning c.args.hall.now) c.args.vol.now c.args.track (λ told. same_none _ (g.met.H.Hall.counts_now c.args.hall.now)) c.requires.mounted c.requires.unit

pub returns-then-not-read-clause-reached : goal.returns-then-not-read-clause-reached
returns-then-not-read-clause-reached g c =
    let now = image_in (g.H.Hall.meaning c.loop-before.hall) (g.H.Hall.facts c.loop-before.hall) c.loop-before.vol.unit in
    let xs = c.read_up_to.new.vol.buf.records in
    let P : Bool → Type 0 = λ b. IsReadUpTo b (records_on now c.loop-before.vol.geometry (Some (c.loop-before.before + 1)) c.args.track) xs in
    seeks_broken g.H.Hall.tells _ _ _ _ c.args.vol.now c.loop-before.vol c.args.track c.loop-before.before c.loop-before.invariant xs c.requires.broken (λ told. subst P c.if-not-read.true (c.in_ok-read.ensures.read told))

pub returns-in-Some-clause-reached : goal.returns-in-Some-clause-reached
returns-in-Some-clause-reached g c =
    let now = image_in (g.H.Hall.meaning c.loop-before.hall) (g.H.Hall.facts c.loop-before.hall) c.loop-before.vol.unit in
    let xs = c.read_up_to.new.vol.buf.records in
    let P : Bool → Type 0 = λ b. IsReadUpTo b (records_on now c.loop-before.vol.geometry (Some (c.loop-before.before + 1)) c.args.track) xs in
    let few : c.loop-before.before < 255 = omega (arith, c.loop-before-test.true) in
    seeks_found g.H.Hall.tells _ _ _ _ c.args.vol.now c.loop-before.vol c.args.track c.loop-before.before c.loop-before.invariant xs c.in-Some.reached (λ told. subst P c.if-not-read.false (c.in_ok-read.ensures.read told)) c.in-Some.ensures.end few

pub loop-before-preserved : goal.loop-before-preserved
loop-before-preserved g c =
    let now = image_in (g.H.Hall.meaning c.loop-before.hall) (g.H.Hall.facts c.loop-before.hall) c.loop-before.vol.unit in
    let xs = c.read_up_to.new.vol.buf.records in
    let call = c.in_ok-read.ensures in
    let P : Bool → Type 0 = λ b. IsReadUpTo b (records_on now c.loop-before.vol.geometry (Some (c.loop-before.before + 1)) c.args.track) xs in
    let Q : Option Reached → Type 0 = λ o. IsLastEnd xs o in
    seeks_more g.H.Hall.tells _ _ _ _ c.args.vol.now c.loop-before.vol c.args.track c.loop-before.before c.loop-before.invariant (g.H.Hall.facts c.read_up_to.new.hall) (g.H.Hall.meaning c.read_up_to.new.hall) c.read_up_to.new.vol
    (call_done call.faults) call.same call.mounted call.others call.unit xs (λ told. subst P c.if-not-read.false (call.read told)) (subst Q c.in_default.is c.last_end.ensures.end)

pub returns-clause-reached : goal.returns-clause-reached
returns-clause-reached g c =
    let all : 255 ≤ c.loop-before.before = omega (arith, c.loop-before-test.false) in
    seeks_all g.H.Hall.tells _ _ _ _ c.args.vol.now c.loop-before.vol c.args.track c.loop-before.before c.loop-before.invariant c.loop-before.vol.buf.records c.requires.broken all

pub returns-in-Some-clause-held : goal.returns-in-Some-clause-held
returns-in-Some-clause-held g c = held_last c.read_up_to.new.vol.buf.records c.in-Some.reached c.in-Some.ensures.end c.in_ok-read.ensures.few
