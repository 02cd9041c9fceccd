-- The extension and the put after it are one put of the shelf, and so is an extension that is refused or fails.
use Rattle.std.proofs.Common.{◌≡◌, ◌≢◌, ℕ, Err, refl, sym, ap, ◌∙◌, subst, arith}
use Rattle.std.specs.Prelude.{IsErrOf, Result}
use Rattle.vol_model.specs.declared.answers.MachErr.{MachErr}
use Rattle.vol_model.specs.declared.answers.StoreErr.{StoreErr}
use Rattle.vol_model.specs.declared.answers.StoreErr.TheVariants as store
use Rattle.vol_model.specs.declared.contents.Place.{Place}
use Rattle.vol_model.specs.Calls.{counted}
use Rattle.shelf_machine.specs.PutBlocks.{PlacesBlock}
use Rattle.shelf_machine.proofs.FilledSets.{places_well}
use Rattle.shelf_machine.proofs.Machines.{same_base}
use Rattle.shelf_machine.proofs.PutBlocks.{puts_behind, puts_unextended}
use Rattle.shelf_machine.specs.ReadyPacks.{caches_of, vols_of}
use Rattle.shelf_machine.specs.PendingShelves.{kept_in}
use Rattle.shelf_machine.proofs.OpenWriters.{keeps_after, keeps_put, keeps_room}
use Rattle.shelf_machine.specs.OpenWriters.{KeepsWriter}
use Rattle.mount_repair.proofs.DeviceCalls.{reported_none, unreported}
use Rattle.shelf_machine.specs.declared.writer.Writer.{Writer}
use Rattle.seq_access.specs.declared.writer.Writer.{Writer as BlockWriter}
use Rattle.shelf_machine.proofs.puts.extend_and_place.Goals as goal

-- an extension that isn't done doesn't want memory
not_memory : (ran : Result (Unit {0}) StoreErr) (e : StoreErr) → ran ≡ Err e → ¬ IsErrOf ran store.Memory → e ≢ store.Memory
not_memory ran e is none memory = none (is ∙ ap (λ (x : StoreErr). Err x) memory)

pub answer_room-requires : goal.answer_room-requires
answer_room-requires g c = not_memory c.make_room.result c.in-Err.error c.in-Err.is c.make_room.ensures.memory

pub returns-in-Ok-clause-shelf : goal.returns-in-Ok-clause-shelf
returns-in-Ok-clause-shelf g c told =
    let us = (g.H.Hall.facts c.args.hall.now).units in
    let us1 = (g.H.Hall.facts c.make_room.new.hall).units in
    let us2 = (g.H.Hall.facts c.put_on_owned_track.new.hall).units in
    let vols = vols_of c.args.packs.now.items in
    let vols1 = vols_of c.make_room.new.packs.items in
    let vols2 = vols_of c.put_on_owned_track.new.packs.items in
    let known2 = caches_of c.put_on_owned_track.new.packs.items in
    let w = c.args.writer.now in
    let w1 = c.make_room.new.writer in
    let w2 = c.put_on_owned_track.new.writer in
    let m = g.H.Hall.meaning c.args.hall.now in
    let m1 = g.H.Hall.meaning c.make_room.new.hall in
    let m2 = g.H.Hall.meaning c.put_on_owned_track.new.hall in
    let room = c.make_room.ensures in
    let base = same_base (g.H.Hall.facts c.make_room.new.hall) (g.H.Hall.facts c.put_on_owned_track.new.hall) vols1 vols2 c.put_on_owned_track.ensures.base in
    let count : c.saturating_add.result ≡ counted c.args.done.now 1 = omega (arith, c.saturating_add.ensures) in
    subst (λ (n : ℕ). PlacesBlock (c.args.key.now, c.args.payload.now) us us2 vols vols2 w w2 m m2 c.args.done.now n c.answer_put.result) (sym count)
    (subst (λ (r : Result Place MachErr). PlacesBlock (c.args.key.now, c.args.payload.now) us us2 vols vols2 w w2 m m2 c.args.done.now (counted c.args.done.now 1) r) (sym c.answer_put.ensures)
    (puts_behind (c.args.key.now, c.args.payload.now) us us1 vols vols1 w w1 m m1 (places_well m us vols c.requires.writer.ready.indexes (kept_in c.requires.writer.ready told) w c.requires.writer.slot (c.requires.writer.pending told) c.make_room.ensures.low).set
    (c.requires.wanted told) c.make_room.result (room.leaves.shelf told) (room.stands.puts told)
    us2 vols2 known2 w2 m2 c.args.done.now c.put_on_owned_track.result c.in-Ok.is base.attached base.numbers (c.put_on_owned_track.ensures.files told) (c.put_on_owned_track.ensures.did told)))

pub returns-in-Err-clause-shelf : goal.returns-in-Err-clause-shelf
returns-in-Err-clause-shelf g c told =
    let us = (g.H.Hall.facts c.args.hall.now).units in
    let us1 = (g.H.Hall.facts c.make_room.new.hall).units in
    let vols = vols_of c.args.packs.now.items in
    let vols1 = vols_of c.make_room.new.packs.items in
    let w = c.args.writer.now in
    let w1 = c.make_room.new.writer in
    let m = g.H.Hall.meaning c.args.hall.now in
    let m1 = g.H.Hall.meaning c.make_room.new.hall in
    let n = c.args.done.now in
    let room = c.make_room.ensures in
    subst (λ (e : MachErr). PlacesBlock (c.args.key.now, c.args.payload.now) us us1 vols vols1 w w1 m m1 n n (Err e)) (sym c.answer_room.ensures)
    (puts_unextended (c.args.key.now, c.args.payload.now) us us1 vols vols1 w w1 m m1 (places_well m us vols c.requires.writer.ready.indexes (kept_in c.requires.writer.ready told) w c.requires.writer.slot (c.requires.writer.pending told) c.make_room.ensures.low).set
    (c.requires.wanted told) c.make_room.result (room.leaves.shelf told) (room.stands.puts told)
    c.in-Err.error n c.in-Err.is (not_memory c.make_room.result c.in-Err.error c.in-Err.is room.memory) (room.stands.pending told))

pub put_on_owned_track-requires-clause-writer : goal.put_on_owned_track-requires-clause-writer
put_on_owned_track-requires-clause-writer g c = record { ready = c.in-Ok.ensures.leaves.ready refl; slot = c.in-Ok.ensures.stands.slot refl; pending = λ told. c.in-Ok.ensures.stands.pending told refl }

-- the room that is made changes no more of the writer than the slot of its blocks
one_writer : (w w1 : Writer) → w1 ≡ record w { inner = record (w.inner) { slot = w1.inner.slot } } → w1 ≡ record w { inner = w1.inner }
one_writer w w1 same = same ∙ ap (λ (i : BlockWriter). record w { inner = i }) (sym (ap (λ (x : Writer). x.inner) same))

pub returns-in-Ok-clause-keeps : goal.returns-in-Ok-clause-keeps
returns-in-Ok-clause-keeps g c =
    let put = c.put_on_owned_track.ensures in
    let room = c.in-Ok.ensures in
    subst (λ (r : Result Place MachErr). KeepsWriter g.H.Hall.tells (g.H.Hall.facts c.args.hall.now) (g.H.Hall.facts c.put_on_owned_track.new.hall) (g.H.Hall.meaning c.put_on_owned_track.new.hall) c.args.packs.now.items c.put_on_owned_track.new.packs.items c.args.writer.now c.put_on_owned_track.new.writer r) (sym c.answer_put.ensures)
    (keeps_after room.leaves.base (one_writer c.args.writer.now c.make_room.new.writer room.stands.same) (reported_none _ _ _ (unreported _) room.leaves.faults (λ failed. cc))
    (keeps_put c.put_on_owned_track.result put.indexes put.base put.ready put.slot put.same put.faults))

pub returns-in-Err-clause-keeps : goal.returns-in-Err-clause-keeps
returns-in-Err-clause-keeps g c =
    let room = c.make_room.ensures in
    subst (λ (e : MachErr). KeepsWriter {T = Place} g.H.Hall.tells (g.H.Hall.facts c.args.hall.now) (g.H.Hall.facts c.make_room.new.hall) (g.H.Hall.meaning c.make_room.new.hall) c.args.packs.now.items c.make_room.new.packs.items c.args.writer.now c.make_room.new.writer (Err e)) (sym c.answer_room.ensures)
    (keeps_room c.make_room.result c.in-Err.error c.in-Err.is room.leaves room.stands.slot (one_writer c.args.writer.now c.make_room.new.writer room.stands.same))
