-- A put is one of the shelf: alone, or after what is done where a track is wanted.
use Rattle.std.proofs.Common.{◌≡◌, Err, sym, ◌∙◌, subst}
use Rattle.std.specs.Prelude.{IsErrOf, Result}
use Rattle.seq_access.specs.declared.writer.PutErr.{PutErr}
use Rattle.seq_access.specs.declared.writer.PutErr.TheVariants.{Device, NeedExtent}
use Rattle.vol_model.specs.declared.answers.MachErr.{MachErr}
use Rattle.vol_model.specs.declared.contents.Place.{Place}
use Rattle.shelf_machine.specs.Machine.{placed_in, units_of}
use Rattle.shelf_machine.specs.Opening.{names_of}
use Rattle.shelf_machine.specs.PutBlocks.{PlacesBlock, shelf_on}
use Rattle.shelf_machine.specs.Putting.{DidPut, PutsOn}
use Rattle.shelf_machine.proofs.Machines.{same_base}
use Rattle.shelf_machine.proofs.PutBlocks.{puts_after, puts_alone, still_wanted}
use Rattle.shelf_machine.specs.ReadyPacks.{caches_of, vols_of}
use Rattle.shelf_machine.proofs.OpenWriters.{keeps_after, keeps_put}
use Rattle.shelf_machine.specs.OpenWriters.{KeepsWriter}
use Rattle.mount_repair.proofs.DeviceCalls.{reported_none, unreported}
use Rattle.shelf_machine.proofs.puts.place_block.Goals as goal

-- where a track is wanted the device didn't fail
not_failed : (r : Result Place PutErr) → r ≡ Err NeedExtent → ¬ IsErrOf r Device
not_failed r is failed = absurd (let wrong : ◌≡◌ {A = Result Place PutErr} (Err NeedExtent) (Err Device) = sym is ∙ failed in cc)

pub extend_and_place-requires-clause-wanted : goal.extend_and_place-requires-clause-wanted
extend_and_place-requires-clause-wanted g c told =
    let us = (g.H.Hall.facts c.args.hall.now).units in
    let us1 = (g.H.Hall.facts c.put_on_owned_track-put.new.hall).units in
    let vols = vols_of c.args.packs.now.items in
    let vols1 = vols_of c.put_on_owned_track-put.new.packs.items in
    let known1 = caches_of c.put_on_owned_track-put.new.packs.items in
    let w = c.args.writer.now in
    let w1 = c.put_on_owned_track-put.new.writer in
    let m = g.H.Hall.meaning c.args.hall.now in
    let m1 = g.H.Hall.meaning c.put_on_owned_track-put.new.hall in
    let is : c.put_on_owned_track-put.result ≡ Err NeedExtent = c.wants_extent.ensures.wanted c.if-wants_extent.true in
    let base = same_base (g.H.Hall.facts c.args.hall.now) (g.H.Hall.facts c.put_on_owned_track-put.new.hall) vols vols1 c.put_on_owned_track-put.ensures.base in
    let put = subst (λ (r : Result Place PutErr). PutsOn (names_of us (units_of vols)) us1 vols vols1 known1 w1 m m1 r) is (c.put_on_owned_track-put.ensures.files told) in
    let did = subst (λ (r : Result Place PutErr). DidPut (shelf_on m.state us vols) (placed_in m.state us vols w) (c.args.key.now, c.args.payload.now) (placed_in m1.state us1 vols1 w1) r) is (c.put_on_owned_track-put.ensures.did told) in
    still_wanted (c.args.key.now, c.args.payload.now) us us1 vols vols1 known1 w w1 m m1 base.attached base.numbers put did

pub returns-then-wants_extent-clause-shelf : goal.returns-then-wants_extent-clause-shelf
returns-then-wants_extent-clause-shelf g c told =
    let us = (g.H.Hall.facts c.args.hall.now).units in
    let us1 = (g.H.Hall.facts c.put_on_owned_track-put.new.hall).units in
    let us2 = (g.H.Hall.facts c.extend_and_place.new.hall).units in
    let vols = vols_of c.args.packs.now.items in
    let vols1 = vols_of c.put_on_owned_track-put.new.packs.items in
    let vols2 = vols_of c.extend_and_place.new.packs.items in
    let known1 = caches_of c.put_on_owned_track-put.new.packs.items in
    let w = c.args.writer.now in
    let w1 = c.put_on_owned_track-put.new.writer in
    let m = g.H.Hall.meaning c.args.hall.now in
    let m1 = g.H.Hall.meaning c.put_on_owned_track-put.new.hall in
    let m2 = g.H.Hall.meaning c.extend_and_place.new.hall in
    let is : c.put_on_owned_track-put.result ≡ Err NeedExtent = c.wants_extent.ensures.wanted c.if-wants_extent.true in
    let base = same_base (g.H.Hall.facts c.args.hall.now) (g.H.Hall.facts c.put_on_owned_track-put.new.hall) vols vols1 c.put_on_owned_track-put.ensures.base in
    let put = subst (λ (r : Result Place PutErr). PutsOn (names_of us (units_of vols)) us1 vols vols1 known1 w1 m m1 r) is (c.put_on_owned_track-put.ensures.files told) in
    let did = subst (λ (r : Result Place PutErr). DidPut (shelf_on m.state us vols) (placed_in m.state us vols w) (c.args.key.now, c.args.payload.now) (placed_in m1.state us1 vols1 w1) r) is (c.put_on_owned_track-put.ensures.did told) in
    puts_after (c.args.key.now, c.args.payload.now) us us1 us2 vols vols1 vols2 known1 w w1 c.extend_and_place.new.writer m m1 m2 c.args.done.now c.extend_and_place.new.done c.extend_and_place.result
    base.attached base.numbers put did.1 (c.extend_and_place.ensures.shelf told)

pub returns-clause-shelf : goal.returns-clause-shelf
returns-clause-shelf g c told =
    let us = (g.H.Hall.facts c.args.hall.now).units in
    let us1 = (g.H.Hall.facts c.put_on_owned_track-put.new.hall).units in
    let vols = vols_of c.args.packs.now.items in
    let vols1 = vols_of c.put_on_owned_track-put.new.packs.items in
    let known1 = caches_of c.put_on_owned_track-put.new.packs.items in
    let w = c.args.writer.now in
    let w1 = c.put_on_owned_track-put.new.writer in
    let m = g.H.Hall.meaning c.args.hall.now in
    let m1 = g.H.Hall.meaning c.put_on_owned_track-put.new.hall in
    let n = c.args.done.now in
    let put = c.put_on_owned_track-put.ensures in
    let base = same_base (g.H.Hall.facts c.args.hall.now) (g.H.Hall.facts c.put_on_owned_track-put.new.hall) vols vols1 put.base in
    subst (λ (r : Result Place MachErr). PlacesBlock (c.args.key.now, c.args.payload.now) us us1 vols vols1 w w1 m m1 n n r) (sym c.answer_put.ensures)
    (puts_alone (c.args.key.now, c.args.payload.now) us us1 vols vols1 known1 w w1 m m1 n c.put_on_owned_track-put.result base.attached base.numbers (c.wants_extent.ensures.others c.if-wants_extent.false)
    (put.files told) (put.did told))

pub extend_and_place-requires-clause-writer : goal.extend_and_place-requires-clause-writer
extend_and_place-requires-clause-writer g c =
    let put = c.put_on_owned_track-put.ensures in
    let fit = not_failed c.put_on_owned_track-put.result (c.wants_extent.ensures.wanted c.if-wants_extent.true) in
    record { ready = put.ready fit; slot = put.slot; pending = λ told. (put.files told).pending fit }

pub returns-then-wants_extent-clause-keeps : goal.returns-then-wants_extent-clause-keeps
returns-then-wants_extent-clause-keeps g c =
    let put = c.put_on_owned_track-put.ensures in
    let fit = not_failed c.put_on_owned_track-put.result (c.wants_extent.ensures.wanted c.if-wants_extent.true) in
    keeps_after put.base put.same (reported_none _ _ _ (unreported _) put.faults fit) c.extend_and_place.ensures.keeps

pub returns-clause-keeps : goal.returns-clause-keeps
returns-clause-keeps g c =
    let put = c.put_on_owned_track-put.ensures in
    subst (λ (r : Result Place MachErr). KeepsWriter g.H.Hall.tells (g.H.Hall.facts c.args.hall.now) (g.H.Hall.facts c.put_on_owned_track-put.new.hall) (g.H.Hall.meaning c.put_on_owned_track-put.new.hall) c.args.packs.now.items c.put_on_owned_track-put.new.packs.items c.args.writer.now c.put_on_owned_track-put.new.writer r) (sym c.answer_put.ensures)
    (keeps_put c.put_on_owned_track-put.result put.indexes put.base put.ready put.slot put.same put.faults)
