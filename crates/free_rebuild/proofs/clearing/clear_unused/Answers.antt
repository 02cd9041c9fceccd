use Rattle.std.proofs.Common.{◌≡◌, ◌<◌, ◌+◌, ◌∙◌, List, ℕ, length, sym, ap, subst, arith}
use Rattle.std.specs.Prelude.{Ok}
use Rattle.hall_core.specs.Facts.{Attached, unit_of}
use Rattle.hall_core.specs.Images.{image_in}
use Rattle.hall_core.specs.declared.steps.Device.{Device}
use Rattle.vtoc_index.specs.Index.{IsIndexOf, address_in}
use Rattle.vtoc_index.specs.declared.vol.Vol.{Vol}
use Rattle.free_rebuild.specs.Clearing.{AreCleared, clear_at}
use Rattle.free_rebuild.specs.Stops.{KeepsAlike}
use Rattle.free_rebuild.proofs.ClearSteps.{cleared_step, cleared_upto, told_then}
use Rattle.free_rebuild.proofs.WriteLemmas.{device_then, told_done, told_not}
use Rattle.free_rebuild.proofs.clearing.clear_unused.Goals as goal

pub returns-in_err-clear_slot-clause-files : goal.returns-in_err-clear_slot-clause-files
returns-in_err-clear_slot-clause-files g c told =
    let v0 = c.args.vol.now in
    let v1 = c.loop-slot.vol in
    let inv = c.loop-slot.invariant in
    let f0 = g.H.Hall.facts c.args.hall.now in
    let f1 = g.H.Hall.facts c.loop-slot.hall in
    let name0 : List ℕ = (unit_of f0.units v0.unit).name in
    let same : (unit_of f1.units v1.unit).name ≡ name0 = ap (λ (us : List Attached). (unit_of us v1.unit).name) inv.faults.units ∙ ap (λ (v : Vol). (unit_of f0.units v.unit).name) inv.others in
    let kept = subst (λ (n : List ℕ). KeepsAlike {T = Unit {0}} {E = Device} n v1 (g.H.Hall.meaning c.loop-slot.hall) (g.H.Hall.meaning c.clear_slot.new.hall) c.clear_slot.result) same (c.clear_slot.ensures.files told) in
    told_not name0 v0 c.from_residual.result c.from_residual.ensures.0 (told_then name0 v0 v1 (inv.files told) inv.others kept)

pub loop-slot-preserved : goal.loop-slot-preserved
loop-slot-preserved g c =
    let v0 = c.args.vol.now in
    let v1 = c.loop-slot.vol in
    let v2 = c.clear_slot.new.vol in
    let inv = c.loop-slot.invariant in
    let f0 = g.H.Hall.facts c.args.hall.now in
    let f1 = g.H.Hall.facts c.loop-slot.hall in
    let mn = g.H.Hall.meaning c.clear_slot.new.hall in
    let fn = g.H.Hall.facts c.clear_slot.new.hall in
    let slot : ℕ = c.loop-slot.slot in
    let at : ℕ → List ℕ = address_in v0 in
    let name0 : List ℕ = (unit_of f0.units v0.unit).name in
    let same : (unit_of f1.units v1.unit).name ≡ name0 = ap (λ (us : List Attached). (unit_of us v1.unit).name) inv.faults.units ∙ ap (λ (v : Vol). (unit_of f0.units v.unit).name) inv.others in
    let address : address_in v1 slot ≡ at slot = ap (λ (v : Vol). address_in v slot) inv.others in
    let items : v2.slots.items ≡ clear_at (at slot) v1.slots.items slot = c.in_ok-clear_slot.ensures.slots ∙ ap (λ (a : List ℕ). clear_at a v1.slots.items slot) address in
    let unit : v2.unit ≡ v1.unit = ap (λ (v : Vol). v.unit) c.clear_slot.ensures.others in
    let low : slot < length v1.slots.items = omega (arith, c.loop-slot-test.true, inv.cleared.size, c.len-slot-end.ensures) in
    record {
      others = c.clear_slot.ensures.others ∙ ap (λ (x : Vol). record x { slots = v2.slots; buf = v2.buf }) inv.others;
      unit = c.clear_slot.ensures.unit;
      cleared = subst (AreCleared at (slot + 1) v0.slots.items) (sym items) (cleared_step at slot v0.slots.items v1.slots.items c.loop-slot.auto.slot low inv.cleared);
      faults = device_then inv.faults c.in_ok-clear_slot.ensures.faults;
      index = λ told. subst (λ (u : ℕ). IsIndexOf (image_in mn fn u) v2) (sym unit) (c.in_ok-clear_slot.ensures.index told);
      files = λ told.
          let kept = subst (λ (n : List ℕ). KeepsAlike {T = Unit {0}} {E = Device} n v1 (g.H.Hall.meaning c.loop-slot.hall) mn (Ok c.in_ok-clear_slot.field-0)) same (c.in_ok-clear_slot.ensures.files told) in
          told_done name0 v0 tt (told_then name0 v0 v1 (inv.files told) inv.others kept);
    }

pub returns-clause-slots : goal.returns-clause-slots
returns-clause-slots g c =
    let v0 = c.args.vol.now in
    let inv = c.loop-slot.invariant in
    cleared_upto (address_in v0) c.loop-slot.slot v0.slots.items c.loop-slot.vol.slots.items (omega (arith, c.loop-slot-test.false, c.len-slot-end.ensures)) inv.cleared

pub returns-clause-files : goal.returns-clause-files
returns-clause-files g c told = c.loop-slot.invariant.files told

pub returns-clause-index : goal.returns-clause-index
returns-clause-index g c told =
    let unit : c.loop-slot.vol.unit ≡ c.args.vol.now.unit = ap (λ (v : Vol). v.unit) c.loop-slot.invariant.others in
    subst (λ (u : ℕ). IsIndexOf (image_in (g.H.Hall.meaning c.loop-slot.hall) (g.H.Hall.facts c.loop-slot.hall) u) c.loop-slot.vol) unit (c.loop-slot.invariant.index told)
