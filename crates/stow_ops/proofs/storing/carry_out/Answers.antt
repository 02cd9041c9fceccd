use Rattle.std.proofs.Common.{Result, ◌≡◌, ◌+◌, ◌<◌, ℕ, List, Ok, Err, Some, None, length, map, get_or, refl, sym, ap, ap₂, ◌∙◌, subst, arith, ⊎_elim}
use Rattle.std.specs.Prelude.{nat_eq, slice_get, vec_items}
use Rattle.std.proofs.lemmas.List.{length-map}
use Rattle.hall_core.specs.Facts.{Attached, unit_of}
use Rattle.hall_core.specs.declared.steps.Device.{Device}
use Rattle.sorted_chain.specs.Plan.{write_of}
use Rattle.vol_model.specs.declared.contents.Block.{Block}
use Rattle.vol_model.specs.declared.contents.Entry.{Entry}
use Rattle.vtoc_index.specs.declared.vol.Vol.{Vol}
use Rattle.free_rebuild.specs.Repairs.{image_named}
use Rattle.pds_directory.specs.Directories.{IsPartIn, broken_in, directory_in}
use Rattle.pds_directory.specs.Entries.{AreForBlock}
use Rattle.stow_ops.specs.Stores.{SoFar, WritesBlock}
use Rattle.stow_ops.proofs.CarryLemmas.{left_here, more_calls, no_calls, whole_read}
use Rattle.stow_ops.proofs.StoreSteps.{all_done, goes_on, goes_wrong, none_so_far, part_now, places_now, whole_now}
use Rattle.stow_ops.proofs.WritesAt.{all_at, mapped_at}
use Rattle.stow_ops.proofs.storing.carry_out.Given.{Over}
use Rattle.stow_ops.proofs.storing.carry_out.Goals.{After-deref, After-write_unless}
use Rattle.stow_ops.proofs.storing.carry_out.Goals as goal

pub loop-write-init : goal.loop-write-init
loop-write-init g c = record {
  others = refl;
  unit = c.requires.unit;
  calls = no_calls (g.H.Hall.facts c.args.hall.now);
  so = λ told.
      let part = c.requires.part told in
      none_so_far _ c.args.vol.now c.args.set.now c.args.plan.now.blocks (map write_of (vec_items c.args.plan.now.writes)) (g.H.Hall.meaning c.args.hall.now) (c.requires.durable told) part.0.part.set.mounted
      (whole_read _ c.args.vol.now c.args.set.now _ _ _ part.1.body);
}

-- ---- a write of the plan

write_at : (g : Over) (c : After-deref g) → slice_get (map write_of (vec_items c.args.plan.now.writes)) c.loop-write.write-index ≡ Some (write_of c.write-item.result)
write_at g c = mapped_at write_of (vec_items c.args.plan.now.writes) c.loop-write.write-index c.write-item.result c.write-item.result (omega arith) (subst (λ xs. c.write-item.result ≡ get_or xs c.loop-write.write-index c.write-item.result) c.deref-write-items.ensures.value c.write-item.is)

name_now : (g : Over) (c : After-deref g) → (unit_of (g.H.Hall.facts c.loop-write.hall).units c.loop-write.vol.unit).name ≡ (unit_of (g.H.Hall.facts c.args.hall.now).units c.args.vol.now.unit).name
name_now g c = ap₂ (λ (us : List Attached) (n : ℕ). (unit_of us n).name) c.loop-write.invariant.calls.units (ap (λ (u : Vol). u.unit) c.loop-write.invariant.others)

block_now : (g : Over) (c : After-write_unless g) → (unit_of (g.H.Hall.facts c.loop-write.hall).units c.loop-write.vol.unit).name ≡ (unit_of (g.H.Hall.facts c.args.hall.now).units c.args.vol.now.unit).name → (result : Result (Unit {0}) Device) → WritesBlock {T = Unit {0}} {E = Device} (unit_of (g.H.Hall.facts c.loop-write.hall).units c.loop-write.vol.unit).name c.loop-write.vol c.args.set.now (write_of c.write-item.result).0 (record { entries = c.deref.result.now; ends = nat_eq ((write_of c.write-item.result).0 + 1) c.args.plan.now.blocks }) c.write_unless.new.vol (g.H.Hall.meaning c.loop-write.hall) (g.H.Hall.meaning c.write_unless.new.hall) result → WritesBlock {T = Unit {0}} {E = Device} (unit_of (g.H.Hall.facts c.args.hall.now).units c.args.vol.now.unit).name c.loop-write.vol c.args.set.now (write_of c.write-item.result).0 (record { entries = (write_of c.write-item.result).1; ends = nat_eq ((write_of c.write-item.result).0 + 1) c.args.plan.now.blocks }) c.write_unless.new.vol (g.H.Hall.meaning c.loop-write.hall) (g.H.Hall.meaning c.write_unless.new.hall) result
block_now g c named result wrote =
    subst (λ (n : List ℕ). WritesBlock {T = Unit {0}} {E = Device} n c.loop-write.vol c.args.set.now (write_of c.write-item.result).0 (record { entries = (write_of c.write-item.result).1; ends = nat_eq ((write_of c.write-item.result).0 + 1) c.args.plan.now.blocks }) c.write_unless.new.vol (g.H.Hall.meaning c.loop-write.hall) (g.H.Hall.meaning c.write_unless.new.hall) result) named
    (subst (λ (es : List Entry). WritesBlock {T = Unit {0}} {E = Device} (unit_of (g.H.Hall.facts c.loop-write.hall).units c.loop-write.vol.unit).name c.loop-write.vol c.args.set.now (write_of c.write-item.result).0 (record { entries = es; ends = nat_eq ((write_of c.write-item.result).0 + 1) c.args.plan.now.blocks }) c.write_unless.new.vol (g.H.Hall.meaning c.loop-write.hall) (g.H.Hall.meaning c.write_unless.new.hall) result) c.deref.ensures.value wrote)

pub write_unless-requires-clause-few : goal.write_unless-requires-clause-few
write_unless-requires-clause-few g c =
    let ws : List (ℕ × List Entry) = map write_of (vec_items c.args.plan.now.writes) in
    let at = write_at g (goal.at.write_unless-requires-clause-few g c).After-deref in
    all_at (λ (w : ℕ × List Entry). w.0 < c.args.plan.now.blocks) ws c.loop-write.write-index (write_of c.write-item.result) c.requires.writes.few at

pub write_unless-requires-clause-place : goal.write_unless-requires-clause-place
write_unless-requires-clause-place g c =
    let ws : List (ℕ × List Entry) = map write_of (vec_items c.args.plan.now.writes) in
    let at = write_at g (goal.at.write_unless-requires-clause-place g c).After-deref in
    all_at (λ (w : ℕ × List Entry). w.0 < length c.args.dir.now.places.items) ws c.loop-write.write-index (write_of c.write-item.result) c.requires.writes.places_are at

pub write_unless-requires-clause-entries : goal.write_unless-requires-clause-entries
write_unless-requires-clause-entries g c =
    let ws : List (ℕ × List Entry) = map write_of (vec_items c.args.plan.now.writes) in
    let at = write_at g (goal.at.write_unless-requires-clause-entries g c).After-deref in
    subst (λ (es : List Entry). AreForBlock es (nat_eq (c.write-item.result.0 + 1) c.args.plan.now.blocks)) (sym c.deref.ensures.value)
    (all_at (λ (w : ℕ × List Entry). AreForBlock w.1 (nat_eq (w.0 + 1) c.args.plan.now.blocks)) ws c.loop-write.write-index (write_of c.write-item.result) c.requires.writes.entries at)

pub write_unless-requires-clause-part : goal.write_unless-requires-clause-part
write_unless-requires-clause-part g c = λ told.
    let v : Vol = c.args.vol.now in
    let named = name_now g (goal.at.write_unless-requires-clause-part g c).After-deref in
    subst (λ (n : List ℕ). IsPartIn (image_named (g.H.Hall.meaning c.loop-write.hall).state n) c.loop-write.vol c.args.set.now) (sym named)
    (part_now (unit_of (g.H.Hall.facts c.args.hall.now).units v.unit).name v c.args.set.now c.args.plan.now.blocks (map write_of (vec_items c.args.plan.now.writes)) (g.H.Hall.meaning c.args.hall.now) (g.H.Hall.meaning c.loop-write.hall) c.loop-write.write-index (c.requires.part told).0.part c.loop-write.vol c.loop-write.invariant.others (c.loop-write.invariant.so told))

pub write_unless-requires-clause-there : goal.write_unless-requires-clause-there
write_unless-requires-clause-there g c = λ told.
    let v : Vol = c.args.vol.now in
    let named = name_now g (goal.at.write_unless-requires-clause-there g c).After-deref in
    subst (λ (n : List ℕ). c.args.dir.now.places.items ≡ map (λ (b : Block). b.place) (directory_in (image_named (g.H.Hall.meaning c.loop-write.hall).state n) c.loop-write.vol c.args.set.now)) (sym named)
    ((c.requires.part told).1.read.places
    ∙ sym (places_now (unit_of (g.H.Hall.facts c.args.hall.now).units v.unit).name v c.args.set.now c.args.plan.now.blocks (map write_of (vec_items c.args.plan.now.writes)) (g.H.Hall.meaning c.args.hall.now) (g.H.Hall.meaning c.loop-write.hall) c.loop-write.write-index (c.requires.part told).0.part c.loop-write.vol c.loop-write.invariant.others (c.loop-write.invariant.so told)))

pub write_unless-requires-clause-whole : goal.write_unless-requires-clause-whole
write_unless-requires-clause-whole g c = λ told.
    let v : Vol = c.args.vol.now in
    let named = name_now g (goal.at.write_unless-requires-clause-whole g c).After-deref in
    subst (λ (n : List ℕ). broken_in (image_named (g.H.Hall.meaning c.loop-write.hall).state n) c.loop-write.vol c.args.set.now ≡ None) (sym named)
    (whole_now (unit_of (g.H.Hall.facts c.args.hall.now).units v.unit).name v c.args.set.now c.args.plan.now.blocks (map write_of (vec_items c.args.plan.now.writes)) (g.H.Hall.meaning c.args.hall.now) (g.H.Hall.meaning c.loop-write.hall) c.loop-write.write-index (c.requires.part told).0.part c.loop-write.vol c.loop-write.invariant.others (c.loop-write.invariant.so told))

pub write_unless-requires-clause-durable : goal.write_unless-requires-clause-durable
write_unless-requires-clause-durable g c = λ told. (c.loop-write.invariant.so told).durable

pub returns-in_err-write_unless-clause-files : goal.returns-in_err-write_unless-clause-files
returns-in_err-write_unless-clause-files g c = λ told.
    let v : Vol = c.args.vol.now in
    let name : List ℕ = (unit_of (g.H.Hall.facts c.args.hall.now).units v.unit).name in
    let ws : List (ℕ × List Entry) = map write_of (vec_items c.args.plan.now.writes) in
    let blocks : ℕ = c.args.plan.now.blocks in
    let w : ℕ × List Entry = write_of c.write-item.result in
    let at = write_at g (goal.at.returns-in_err-write_unless-clause-files g c).After-deref in
    let named = name_now g (goal.at.returns-in_err-write_unless-clause-files g c).After-deref in
    ⊎_elim
    (λ left. absurd left.2.done)
    (λ wrote.
    let as_named = block_now g (goal.at.returns-in_err-write_unless-clause-files g c).After-write_unless named (Err c.in_err-write_unless.field-0.0) wrote in
    goes_wrong name v c.args.set.now blocks ws (g.H.Hall.meaning c.args.hall.now) (g.H.Hall.meaning c.loop-write.hall) c.loop-write.write-index (c.requires.part told).0.part c.loop-write.vol c.loop-write.invariant.others (c.loop-write.invariant.so told) w at c.write_unless.new.vol (g.H.Hall.meaning c.write_unless.new.hall)
    (Err c.in_err-write_unless.field-0.0) c.from_residual.result c.write_unless.new.vol c.from_residual.ensures.0 as_named)
    (c.in_err-write_unless.ensures.files told)

pub loop-write-preserved : goal.loop-write-preserved
loop-write-preserved g c = record {
  others = c.write_unless.ensures.others ∙ ap (λ (u : Vol). record u { buf = c.write_unless.new.vol.buf }) c.loop-write.invariant.others;
  unit = c.write_unless.ensures.unit;
  calls = more_calls c.in_ok-write_unless.field-0 _ _ _ c.loop-write.invariant.calls c.in_ok-write_unless.ensures.faults;
  so = λ told.
      let v : Vol = c.args.vol.now in
      let name : List ℕ = (unit_of (g.H.Hall.facts c.args.hall.now).units v.unit).name in
      let ws : List (ℕ × List Entry) = map write_of (vec_items c.args.plan.now.writes) in
      let blocks : ℕ = c.args.plan.now.blocks in
      let w : ℕ × List Entry = write_of c.write-item.result in
      let k : ℕ = c.loop-write.write-index in
      let at = write_at g (goal.at.loop-write-preserved g c).After-deref in
      let named = name_now g (goal.at.loop-write-preserved g c).After-deref in
      ⊎_elim
      (λ left.
      let so = left_here name v c.args.set.now blocks ws (g.H.Hall.meaning c.args.hall.now) (g.H.Hall.meaning c.loop-write.hall) k c.loop-write.vol c.args.dir.now c.requires.plan.0 c.requires.plan.1 (c.requires.part told).1 w at (left.2.stays ∙ ap Some c.deref.ensures.value) left.2.last (c.loop-write.invariant.so told) in
      let so' : SoFar name v c.args.set.now blocks ws (k + 1) c.loop-write.vol (g.H.Hall.meaning c.args.hall.now) (g.H.Hall.meaning c.write_unless.new.hall) = subst (λ h. SoFar name v c.args.set.now blocks ws (k + 1) c.loop-write.vol (g.H.Hall.meaning c.args.hall.now) (g.H.Hall.meaning h)) (sym left.0) so in
      subst (λ (u : Vol). SoFar name v c.args.set.now blocks ws (k + 1) u (g.H.Hall.meaning c.args.hall.now) (g.H.Hall.meaning c.write_unless.new.hall)) (sym left.1) so')
      (λ wrote.
      let as_named = block_now g (goal.at.loop-write-preserved g c).After-write_unless named (Ok c.in_ok-write_unless.field-0) wrote in
      goes_on name v c.args.set.now blocks ws (g.H.Hall.meaning c.args.hall.now) (g.H.Hall.meaning c.loop-write.hall) k (c.requires.part told).0.part c.loop-write.vol c.loop-write.invariant.others (c.loop-write.invariant.so told) w at c.write_unless.new.vol (g.H.Hall.meaning c.write_unless.new.hall) c.in_ok-write_unless.field-0 as_named)
      (c.in_ok-write_unless.ensures.files told);
}

pub returns-clause-files : goal.returns-clause-files
returns-clause-files g c = λ told.
    let v : Vol = c.args.vol.now in
    let name : List ℕ = (unit_of (g.H.Hall.facts c.args.hall.now).units v.unit).name in
    let ws : List (ℕ × List Entry) = map write_of (vec_items c.args.plan.now.writes) in
    let same : c.loop-write.write-index ≡ length ws = omega (arith, length-map (vec_items c.args.plan.now.writes) write_of) in
    all_done name v c.args.set.now c.args.plan.now.blocks ws (g.H.Hall.meaning c.args.hall.now) tt c.loop-write.vol (g.H.Hall.meaning c.loop-write.hall)
    (subst (λ (n : ℕ). SoFar name v c.args.set.now c.args.plan.now.blocks ws n c.loop-write.vol (g.H.Hall.meaning c.args.hall.now) (g.H.Hall.meaning c.loop-write.hall)) same (c.loop-write.invariant.so told))
