use Rattle.dadsm_ops.specs.Operations.{InVtoc}
use Rattle.std.proofs.Common.{◌≡◌, IsTrue, true, false, Some, refl, sym, ap, subst, ◌∙◌, arith}
use Rattle.std.specs.Prelude.{Err, IsErrOf, Result, slice_get}
use Rattle.std.proofs.lemmas.Result.{err_from_is_err_and}
use Rattle.vol_model.specs.Calls.{sound_after}
use Rattle.vol_model.specs.Shelf.{extend_on, is_catalog}
use Rattle.vol_model.specs.declared.answers.StoreErr.{StoreErr}
use Rattle.vol_model.specs.declared.answers.StoreErr.TheVariants as store
use Rattle.vtoc_index.specs.Index.{first_named}
use Rattle.vtoc_index.specs.declared.vol.Vol.{Vol}
use Rattle.ebcdic_names.specs.declared.names.Dsn.{Dsn}
use Rattle.free_rebuild.specs.Repairs.{image_named}
use Rattle.hall_core.specs.Facts.{unit_of}
use Rattle.vol_model.specs.declared.requests.Op.TheVariants.{Extend}
use Rattle.shelf_machine.specs.Pending.{IsInSlot}
use Rattle.shelf_machine.specs.ReadyPacks.{LeavesPacks, vols_of}
use Rattle.shelf_machine.proofs.SeveralPacks.{leaves_broken}
use Rattle.pack_machine.specs.Ready.{reported}
use Rattle.pack_machine.proofs.ListPlaces.{there}
use Rattle.shelf_machine.proofs.MadeRooms.{StandsAgain, as_many, in_slot_same, named_now, pending_again, slot_again, stands_done, stands_undone, state_undone, undone_by, writer_again}
use Rattle.shelf_machine.proofs.writing.extend_durably.Given.{Over}
use Rattle.shelf_machine.specs.PendingShelves.{kept_in}
use Rattle.shelf_machine.proofs.ReadyPacks.{index_vol, order_in}
use Rattle.std.proofs.lemmas.Option.{same_Some}
use Rattle.shelf_machine.proofs.writing.extend_durably.Goals as goal

-- ---- the extension isn't done

given : (g : Over) (c : goal.After-from_residual g) → c.from_residual.result ≡ Err c.in_err-extend_at.field-0.0
given g c =
    let p = err_from_is_err_and c.from_residual.result c.from_residual.ensures.1 in
    p.1 ∙ ap (λ (e : StoreErr). Err e) p.2

sound_now : (g : Over) (c : goal.After-from_residual g) → sound_after (reported c.from_residual.result) ≡ true → sound_after (reported {T = Unit {0}} (Err c.in_err-extend_at.field-0.0)) ≡ true
sound_now g c sound = ap (λ (r : Result (Unit {0}) StoreErr). sound_after (reported r)) (sym (given g c)) ∙ sound

pub returns-in_err-extend_at-clause-leaves : goal.returns-in_err-extend_at-clause-leaves
returns-in_err-extend_at-clause-leaves g c =
    let w = c.args.writer.now in
    subst (λ (r : Result (Unit {0}) StoreErr). LeavesPacks g.H.Hall.tells (Extend w.v w.dsn) (g.H.Hall.facts c.args.hall.now) (g.H.Hall.facts c.extend_at.new.hall) (g.H.Hall.meaning c.args.hall.now) (g.H.Hall.meaning c.extend_at.new.hall)
    c.args.packs.now.items c.extend_at.new.packs.items r) (sym (given g c)) c.in_err-extend_at.ensures.leaves

pub returns-in_err-extend_at-clause-memory : goal.returns-in_err-extend_at-clause-memory
returns-in_err-extend_at-clause-memory g c is =
    c.in_err-extend_at.ensures.memory (subst (λ (r : Result (Unit {0}) StoreErr). IsErrOf r store.Memory) (given g c) is)

-- the writer stands on its pack as before
still : (g : Over) (c : goal.After-from_residual g) → IsTrue g.H.Hall.tells → sound_after (reported c.from_residual.result) ≡ true → (v v' : Vol) → slice_get (vols_of c.args.packs.now.items) c.args.writer.now.v ≡ Some v → slice_get (vols_of c.extend_at.new.packs.items) c.args.writer.now.v ≡ Some v'
    → StandsAgain (image_named (g.H.Hall.meaning c.args.hall.now).state (unit_of (g.H.Hall.facts c.args.hall.now).units v.unit).name) (image_named (g.H.Hall.meaning c.extend_at.new.hall).state (unit_of (g.H.Hall.facts c.extend_at.new.hall).units v'.unit).name)
    v v' c.args.writer.now c.args.writer.now
still g c told sound v v' at at' =
    let m = g.H.Hall.meaning c.args.hall.now in
    let m' = g.H.Hall.meaning c.extend_at.new.hall in
    let us = (g.H.Hall.facts c.args.hall.now).units in
    let w = c.args.writer.now in
    let undone = undone_by (Unit {0}) c.in_err-extend_at.field-0.0 (sound_now g c sound) in
    let pack = c.in_err-extend_at.ensures.pack v v' at at' in
    let state = state_undone (unit_of us v.unit).name (extend_on w.dsn) v' (InVtoc v') m m' c.in_err-extend_at.field-0.0 (pack.2 told) undone in
    stands_undone us (g.H.Hall.facts c.extend_at.new.hall).units v v' m.state m'.state w c.extend_at.ensures.leaves.faults.units pack.0.unit state (pack.1 undone) (c.requires.writer.pending told v at).0

pub returns-in_err-extend_at-clause-stands : goal.returns-in_err-extend_at-clause-stands
returns-in_err-extend_at-clause-stands g c =
    record {
      slot = λ sound.
          let vols = vols_of c.args.packs.now.items in
          let vols' = vols_of c.extend_at.new.packs.items in
          let w = c.args.writer.now in
          let undone = undone_by (Unit {0}) c.in_err-extend_at.field-0.0 (sound_now g c sound) in
          slot_again vols vols' w w refl (as_many (g.H.Hall.facts c.args.hall.now) (g.H.Hall.facts c.extend_at.new.hall) vols vols' c.extend_at.ensures.leaves.base) c.requires.writer.slot
          (λ v v' at at' low. subst (λ (u : Vol). IsInSlot u w) (sym ((c.in_err-extend_at.ensures.pack v v' at at').1 undone)) low);
      pending = λ told sound.
          let vols = vols_of c.args.packs.now.items in
          let vols' = vols_of c.extend_at.new.packs.items in
          let w = c.args.writer.now in
          pending_again (g.H.Hall.facts c.args.hall.now).units (g.H.Hall.facts c.extend_at.new.hall).units vols vols' (g.H.Hall.meaning c.args.hall.now) (g.H.Hall.meaning c.extend_at.new.hall) w w refl (as_many (g.H.Hall.facts c.args.hall.now) (g.H.Hall.facts c.extend_at.new.hall) vols vols' c.extend_at.ensures.leaves.base)
          c.requires.writer.slot.0 ((c.in_err-extend_at.ensures.leaves.shelf told).durable (sound_now g c sound)) (still g c told sound);
      puts = λ told sound.
          let vols = vols_of c.args.packs.now.items in
          let vols' = vols_of c.extend_at.new.packs.items in
          let w = c.args.writer.now in
          writer_again (g.H.Hall.facts c.args.hall.now).units (g.H.Hall.facts c.extend_at.new.hall).units vols vols' (g.H.Hall.meaning c.args.hall.now) (g.H.Hall.meaning c.extend_at.new.hall) w w refl (as_many (g.H.Hall.facts c.args.hall.now) (g.H.Hall.facts c.extend_at.new.hall) vols vols' c.extend_at.ensures.leaves.base)
          refl refl c.requires.writer.slot.0 (still g c told sound);
      same = refl;
    }

-- ---- it is done

pub find_slot-requires-clause-unit : goal.find_slot-requires-clause-unit
find_slot-requires-clause-unit g c =
    c.extend_at.ensures.leaves.indexes.each c.args.writer.now.v c.index.result.now.vol
    (index_vol c.extend_at.new.packs.items c.from.result c.args.writer.now.v c.index.result.now c.from.ensures
    (omega (arith, c.requires.writer.slot.0, as_many (g.H.Hall.facts c.args.hall.now) (g.H.Hall.facts c.extend_at.new.hall) (vols_of c.args.packs.now.items) (vols_of c.extend_at.new.packs.items) c.extend_at.ensures.leaves.base)) c.index.ensures)

pub find_slot-requires-clause-names : goal.find_slot-requires-clause-names
find_slot-requires-clause-names g c =
    order_in (c.in_ok-extend_at.ensures.leaves.ready refl) c.args.writer.now.v c.index.result.now.vol
    (index_vol c.extend_at.new.packs.items c.from.result c.args.writer.now.v c.index.result.now c.from.ensures
    (omega (arith, c.requires.writer.slot.0, as_many (g.H.Hall.facts c.args.hall.now) (g.H.Hall.facts c.extend_at.new.hall) (vols_of c.args.packs.now.items) (vols_of c.extend_at.new.packs.items) c.extend_at.ensures.leaves.base)) c.index.ensures)

pub find_slot-requires-clause-named : goal.find_slot-requires-clause-named
find_slot-requires-clause-named g c told =
    let vols = vols_of c.args.packs.now.items in
    let vols' = vols_of c.extend_at.new.packs.items in
    let w = c.args.writer.now in
    let at = index_vol c.extend_at.new.packs.items c.from.result w.v c.index.result.now c.from.ensures (omega (arith, c.requires.writer.slot.0, as_many (g.H.Hall.facts c.args.hall.now) (g.H.Hall.facts c.extend_at.new.hall) vols vols' c.extend_at.ensures.leaves.base)) c.index.ensures in
    let v = there vols w.v c.requires.writer.slot.0 in
    named_now (unit_of (g.H.Hall.facts c.args.hall.now).units v.0.unit).name w.dsn v.0 c.index.result.now.vol (g.H.Hall.meaning c.args.hall.now) (g.H.Hall.meaning c.extend_at.new.hall) c.in_ok-extend_at.field-0
    ((c.in_ok-extend_at.ensures.pack v.0 c.index.result.now.vol v.1 at).2 told) (kept_in c.requires.writer.ready told w.v v.0 v.1).kept w.inner.slot (c.requires.writer.slot.1 v.0 v.1).0

pub returns-in-Ok-clause-leaves : goal.returns-in-Ok-clause-leaves
returns-in-Ok-clause-leaves g c = rw c.in-Ok.ensures.hall c.in_ok-extend_at.ensures.leaves

pub returns-in-Err-clause-leaves : goal.returns-in-Err-clause-leaves
returns-in-Err-clause-leaves g c =
    let w = c.args.writer.now in
    leaves_broken g.H.Hall.tells (Extend w.v w.dsn) (g.H.Hall.facts c.args.hall.now) (g.H.Hall.facts c.extend_at.new.hall) (g.H.Hall.facts c.find_slot.new.hall) (g.H.Hall.meaning c.args.hall.now) (g.H.Hall.meaning c.extend_at.new.hall) (g.H.Hall.meaning c.find_slot.new.hall)
    c.args.packs.now.items c.extend_at.new.packs.items c.in_ok-extend_at.field-0 c.in-Err.field-0 c.in_ok-extend_at.ensures.leaves c.in-Err.ensures.faults (λ told. let wrong : false ≡ true = c.in-Err.ensures.told told in cc)

-- the index of the writer's pack, which has its set in the writer's slot
moved : (g : Over) (c : goal.In-Ok g) (v' : Vol) → slice_get (vols_of c.extend_at.new.packs.items) c.args.writer.now.v ≡ Some v' → first_named c.args.writer.now.dsn.bytes v'.slots.items ≡ Some c.find_slot.new.writer.inner.slot
moved g c v' at' =
    let vols' = vols_of c.extend_at.new.packs.items in
    let w = c.args.writer.now in
    let at = index_vol c.extend_at.new.packs.items c.from.result w.v c.index.result.now c.from.ensures (omega (arith, c.requires.writer.slot.0, as_many (g.H.Hall.facts c.args.hall.now) (g.H.Hall.facts c.extend_at.new.hall) (vols_of c.args.packs.now.items) vols' c.extend_at.ensures.leaves.base)) c.index.ensures in
    subst (λ (u : Vol). first_named w.dsn.bytes u.slots.items ≡ Some c.find_slot.new.writer.inner.slot) (same_Some _ _ (sym at ∙ at')) c.in-Ok.ensures.slot

-- it stands on its pack as before
stands : (g : Over) (c : goal.In-Ok g) → IsTrue g.H.Hall.tells → (v v' : Vol) → slice_get (vols_of c.args.packs.now.items) c.args.writer.now.v ≡ Some v → slice_get (vols_of c.extend_at.new.packs.items) c.args.writer.now.v ≡ Some v'
    → StandsAgain (image_named (g.H.Hall.meaning c.args.hall.now).state (unit_of (g.H.Hall.facts c.args.hall.now).units v.unit).name) (image_named (g.H.Hall.meaning c.extend_at.new.hall).state (unit_of (g.H.Hall.facts c.extend_at.new.hall).units v'.unit).name)
    v v' c.args.writer.now c.find_slot.new.writer
stands g c told v v' at at' =
    let us = (g.H.Hall.facts c.args.hall.now).units in
    let w = c.args.writer.now in
    let pack = c.in_ok-extend_at.ensures.pack v v' at at' in
    stands_done (unit_of us v.unit).name w.dsn v v' (g.H.Hall.meaning c.args.hall.now) (g.H.Hall.meaning c.extend_at.new.hall) c.in_ok-extend_at.field-0 (pack.2 told) (kept_in c.requires.writer.ready told w.v v at).kept w.inner.slot (c.requires.writer.slot.1 v at).0
    us (g.H.Hall.facts c.extend_at.new.hall).units w c.find_slot.new.writer refl c.extend_at.ensures.leaves.faults.units pack.0 refl (c.requires.writer.pending told v at).0 c.in-Ok.ensures.others (moved g c v' at')

pub returns-in-Ok-clause-stands : goal.returns-in-Ok-clause-stands
returns-in-Ok-clause-stands g c =
    record {
      slot = λ sound.
          let vols = vols_of c.args.packs.now.items in
          let vols' = vols_of c.extend_at.new.packs.items in
          let w = c.args.writer.now in
          let w' = c.find_slot.new.writer in
          let same = in_slot_same w w' w'.inner.slot c.in-Ok.ensures.others in
          slot_again vols vols' w w' same.0 (as_many (g.H.Hall.facts c.args.hall.now) (g.H.Hall.facts c.extend_at.new.hall) vols vols' c.extend_at.ensures.leaves.base) c.requires.writer.slot
          (λ v v' at at' low. (ap (λ (d : Dsn). first_named d.bytes v'.slots.items) same.1 ∙ moved g c v' at', ap (λ (d : Dsn). is_catalog d.bytes) same.1 ∙ low.1));
      pending = λ told sound.
          let vols = vols_of c.args.packs.now.items in
          let vols' = vols_of c.extend_at.new.packs.items in
          let w = c.args.writer.now in
          let w' = c.find_slot.new.writer in
          rw c.in-Ok.ensures.hall (pending_again (g.H.Hall.facts c.args.hall.now).units (g.H.Hall.facts c.extend_at.new.hall).units vols vols' (g.H.Hall.meaning c.args.hall.now) (g.H.Hall.meaning c.extend_at.new.hall) w w'
          (in_slot_same w w' w'.inner.slot c.in-Ok.ensures.others).0 (as_many (g.H.Hall.facts c.args.hall.now) (g.H.Hall.facts c.extend_at.new.hall) vols vols' c.extend_at.ensures.leaves.base) c.requires.writer.slot.0 ((c.in_ok-extend_at.ensures.leaves.shelf told).durable (refl {a = true})) (stands g c told));
      puts = λ told sound.
          let vols = vols_of c.args.packs.now.items in
          let vols' = vols_of c.extend_at.new.packs.items in
          let w = c.args.writer.now in
          let w' = c.find_slot.new.writer in
          let same = in_slot_same w w' w'.inner.slot c.in-Ok.ensures.others in
          rw c.in-Ok.ensures.hall (writer_again (g.H.Hall.facts c.args.hall.now).units (g.H.Hall.facts c.extend_at.new.hall).units vols vols' (g.H.Hall.meaning c.args.hall.now) (g.H.Hall.meaning c.extend_at.new.hall) w w'
          same.0 (as_many (g.H.Hall.facts c.args.hall.now) (g.H.Hall.facts c.extend_at.new.hall) vols vols' c.extend_at.ensures.leaves.base) same.1 same.2 c.requires.writer.slot.0 (stands g c told));
      same = c.in-Ok.ensures.others;
    }

pub returns-in-Err-clause-stands : goal.returns-in-Err-clause-stands
returns-in-Err-clause-stands g c = record { slot = λ sound. absurd cc; pending = λ told sound. absurd cc; puts = λ told sound. absurd cc; same = c.find_slot.ensures.others }
