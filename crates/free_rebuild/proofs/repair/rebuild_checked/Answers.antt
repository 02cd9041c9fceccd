use Rattle.std.proofs.Common.{IsTrue, rules, ◌≡◌, ◌≤◌, ◌∙◌, List, ℕ, Ok, true, length, ap, subst, sym, arith}
use Rattle.std.specs.Prelude.{slice_index_or}
use Rattle.std.proofs.lemmas.Result.{on_ok_weaker}
use Rattle.hall_core.specs.Facts.{Attached, unit_of}
use Rattle.hall_core.specs.Images.{image_in}
use Rattle.hall_core.specs.declared.steps.Device.{Device}
use Rattle.pack_spec.specs.FreeChain.{entries_of}
use Rattle.pack_spec.specs.Label.{heads_of}
use Rattle.vtoc_index.specs.Index.{IsIndexOf, address_in}
use Rattle.vtoc_index.specs.declared.vol.Vol.{Vol}
use Rattle.vtoc_index.specs.Bits.{with_bit}
use Rattle.free_rebuild.specs.Clearing.{free_in, highest_among}
use Rattle.free_rebuild.specs.Clearing.{with_counts}
use Rattle.free_rebuild.specs.Durable.{PutsDurably, StaysAlike}
use Rattle.free_rebuild.specs.Repairs.{IsSafe, image_named}
use Rattle.free_rebuild.specs.Stops.{AreAlikeTo}
use Rattle.dscb_codec.specs.declared.Dscb.TheVariants as formats
use Rattle.free_rebuild.proofs.ChainLemmas.{get_low}
use Rattle.free_rebuild.proofs.NameLemmas.{clear_names, mark_names, names_kept, tell_names}
use Rattle.free_rebuild.proofs.RepairSteps.{Entered, Marked, Since, alike_since, as_many, clear_leaves, entered, mark_done, mark_since, open_stays, repairs, repairs_not, rewritten, write_leaves}
use Rattle.free_rebuild.proofs.StandLemmas.{volume_on}
use Rattle.free_rebuild.proofs.repair.rebuild_checked.Given.{Over}
use Rattle.free_rebuild.proofs.repair.rebuild_checked.Goals.{After-clear_durably, After-mark_durably, After-write_durably}
use Rattle.free_rebuild.proofs.repair.rebuild_checked.Goals as goal

-- it begins
start : (g : Over) (c : After-mark_durably g) → IsTrue g.H.Hall.tells → Entered (unit_of (g.H.Hall.facts c.args.hall.now).units c.args.vol.now.unit).name c.args.vol.now (g.H.Hall.meaning c.args.hall.now)
start g c told = entered (g.H.Hall.facts c.args.hall.now).units c.args.vol.now (g.H.Hall.meaning c.args.hall.now) (g.met.H.Hall.whole c.args.hall.now told) c.requires.unit (c.requires.mounted told) (c.requires.durable told)

pub returns-in_err-mark_durably-clause-files : goal.returns-in_err-mark_durably-clause-files
returns-in_err-mark_durably-clause-files g c told =
    let v0 = c.args.vol.now in
    let m0 = g.H.Hall.meaning c.args.hall.now in
    let name : List ℕ = (unit_of (g.H.Hall.facts c.args.hall.now).units v0.unit).name in
    let entry = start g (goal.at.returns-in_err-mark_durably-clause-files g c).After-mark_durably told in
    repairs_not name v0 m0 entry c.mark_durably.new.vol c.from_residual.result c.from_residual.ensures.0 (mark_since name v0 m0 entry c.mark_durably.new.vol (g.H.Hall.meaning c.mark_durably.new.hall) c.mark_durably.result (c.mark_durably.ensures.files told))

-- the bit is on
marked_name : (g : Over) (c : After-clear_durably g) → (unit_of (g.H.Hall.facts c.mark_durably.new.hall).units c.mark_durably.new.vol.unit).name ≡ (unit_of (g.H.Hall.facts c.args.hall.now).units c.args.vol.now.unit).name
marked_name g c =
    ap (λ (us : List Attached). (unit_of us c.mark_durably.new.vol.unit).name) c.in_ok-mark_durably.ensures.faults.units
    ∙ ap (λ (v : Vol). (unit_of (g.H.Hall.facts c.args.hall.now).units v.unit).name) c.mark_durably.ensures.others

on : (g : Over) (c : After-clear_durably g) → IsTrue g.H.Hall.tells → Entered (unit_of (g.H.Hall.facts c.args.hall.now).units c.args.vol.now.unit).name c.args.vol.now (g.H.Hall.meaning c.args.hall.now) → Marked (unit_of (g.H.Hall.facts c.args.hall.now).units c.args.vol.now.unit).name c.args.vol.now (volume_on (image_named (g.H.Hall.meaning c.args.hall.now).state (unit_of (g.H.Hall.facts c.args.hall.now).units c.args.vol.now.unit).name) c.args.vol.now) (g.H.Hall.meaning c.args.hall.now) (g.H.Hall.meaning c.mark_durably.new.hall) c.mark_durably.new.vol
on g c told entry =
    let puts = c.in_ok-mark_durably.ensures.files told in
    mark_done (unit_of (g.H.Hall.facts c.args.hall.now).units c.args.vol.now.unit).name c.args.vol.now (g.H.Hall.meaning c.args.hall.now) entry c.mark_durably.new.vol (g.H.Hall.meaning c.mark_durably.new.hall) _ puts puts.index c.mark_durably.ensures.others c.in_ok-mark_durably.ensures.index.items puts.step.done

pub returns-in_err-clear_durably-clause-files : goal.returns-in_err-clear_durably-clause-files
returns-in_err-clear_durably-clause-files g c told =
    let at = goal.at.returns-in_err-clear_durably-clause-files g c in
    let v0 = c.args.vol.now in
    let m0 = g.H.Hall.meaning c.args.hall.now in
    let name : List ℕ = (unit_of (g.H.Hall.facts c.args.hall.now).units v0.unit).name in
    let entry = start g at.After-mark_durably told in
    let v1 = c.mark_durably.new.vol in
    let m1 = g.H.Hall.meaning c.mark_durably.new.hall in
    let marked = on g at.After-clear_durably told entry in
    let stays = subst (λ (n : List ℕ). StaysAlike {T = Unit {0}} {E = Device} n v1 m1 (g.H.Hall.meaning c.clear_durably.new.hall) c.clear_durably.result) (marked_name g at.After-clear_durably) (c.clear_durably.ensures.files told) in
    repairs_not name v0 m0 entry c.clear_durably.new.vol c.from_residual-in_err-clear_durably.result c.from_residual-in_err-clear_durably.ensures.0 (alike_since name v0 m0 entry m1 v1 marked marked.since (clear_leaves name v0 m0 entry m1 v1 marked stays))

pub write_durably-requires-clause-index : goal.write_durably-requires-clause-index
write_durably-requires-clause-index g c told =
    let unit : c.clear_durably.new.vol.unit ≡ c.mark_durably.new.vol.unit = ap (λ (v : Vol). v.unit) c.clear_durably.ensures.others in
    subst (λ (u : ℕ). IsIndexOf (image_in (g.H.Hall.meaning c.clear_durably.new.hall) (g.H.Hall.facts c.clear_durably.new.hall) u) c.clear_durably.new.vol) (sym unit) (c.in_ok-clear_durably.ensures.index told)

pub write_durably-requires-clause-first : goal.write_durably-requires-clause-first
write_durably-requires-clause-first g c told =
    open_stays (address_in c.mark_durably.new.vol) c.args.vol.now.slots.items c.mark_durably.new.vol.slots.items c.clear_durably.new.vol.slots.items _ c.requires.first c.in_ok-mark_durably.ensures.index.items c.in_ok-clear_durably.ensures.slots

-- the unused is cleared
record AreCleared (g : Over) (c : After-write_durably g) : Type 0 where
  by_units : (unit_of (g.H.Hall.facts c.clear_durably.new.hall).units c.clear_durably.new.vol.unit).name ≡ (unit_of (g.H.Hall.facts c.args.hall.now).units c.args.vol.now.unit).name
  alike : AreAlikeTo (unit_of (g.H.Hall.facts c.args.hall.now).units c.args.vol.now.unit).name c.mark_durably.new.vol (image_named (g.H.Hall.meaning c.mark_durably.new.hall).state (unit_of (g.H.Hall.facts c.args.hall.now).units c.args.vol.now.unit).name) (g.H.Hall.meaning c.mark_durably.new.hall).state (g.H.Hall.meaning c.clear_durably.new.hall).state
  since : Since (IsSafe (unit_of (g.H.Hall.facts c.args.hall.now).units c.args.vol.now.unit).name (volume_on (image_named (g.H.Hall.meaning c.args.hall.now).state (unit_of (g.H.Hall.facts c.args.hall.now).units c.args.vol.now.unit).name) c.args.vol.now) (g.H.Hall.meaning c.args.hall.now).state) (g.H.Hall.meaning c.args.hall.now) (g.H.Hall.meaning c.clear_durably.new.hall)

cleared : (g : Over) (c : After-write_durably g) → IsTrue g.H.Hall.tells → Entered (unit_of (g.H.Hall.facts c.args.hall.now).units c.args.vol.now.unit).name c.args.vol.now (g.H.Hall.meaning c.args.hall.now) → (unit_of (g.H.Hall.facts c.mark_durably.new.hall).units c.mark_durably.new.vol.unit).name ≡ (unit_of (g.H.Hall.facts c.args.hall.now).units c.args.vol.now.unit).name
    → Marked (unit_of (g.H.Hall.facts c.args.hall.now).units c.args.vol.now.unit).name c.args.vol.now (volume_on (image_named (g.H.Hall.meaning c.args.hall.now).state (unit_of (g.H.Hall.facts c.args.hall.now).units c.args.vol.now.unit).name) c.args.vol.now) (g.H.Hall.meaning c.args.hall.now) (g.H.Hall.meaning c.mark_durably.new.hall) c.mark_durably.new.vol → AreCleared g c
cleared g c told entry same marked =
    let v0 = c.args.vol.now in
    let m0 = g.H.Hall.meaning c.args.hall.now in
    let name : List ℕ = (unit_of (g.H.Hall.facts c.args.hall.now).units v0.unit).name in
    let v1 = c.mark_durably.new.vol in
    let m1 = g.H.Hall.meaning c.mark_durably.new.hall in
    let v2 = c.clear_durably.new.vol in
    let stays = subst (λ (n : List ℕ). StaysAlike {T = Unit {0}} {E = Device} n v1 m1 (g.H.Hall.meaning c.clear_durably.new.hall) (Ok c.in_ok-clear_durably.field-0)) same (c.in_ok-clear_durably.ensures.files told) in
    let leaves = clear_leaves name v0 m0 entry m1 v1 marked stays in
    record {
      by_units = ap (λ (us : List Attached). (unit_of us v2.unit).name) c.in_ok-clear_durably.ensures.faults.units ∙ ap (λ (v : Vol). (unit_of (g.H.Hall.facts c.mark_durably.new.hall).units v.unit).name) c.clear_durably.ensures.others ∙ same;
      alike = leaves.done.1;
      since = alike_since name v0 m0 entry m1 v1 marked marked.since leaves;
    }

pub returns-in_err-write_durably-clause-files : goal.returns-in_err-write_durably-clause-files
returns-in_err-write_durably-clause-files g c told =
    let at = goal.at.returns-in_err-write_durably-clause-files g c in
    let v0 = c.args.vol.now in
    let m0 = g.H.Hall.meaning c.args.hall.now in
    let name : List ℕ = (unit_of (g.H.Hall.facts c.args.hall.now).units v0.unit).name in
    let entry = start g at.After-mark_durably told in
    let marked = on g at.After-clear_durably told entry in
    let clear = cleared g at.After-write_durably told entry (marked_name g at.After-clear_durably) marked in
    let v1 = c.mark_durably.new.vol in
    let m1 = g.H.Hall.meaning c.mark_durably.new.hall in
    let v2 = c.clear_durably.new.vol in
    let stays = subst (λ (n : List ℕ). StaysAlike {T = Unit {0}} {E = Device} n v2 (g.H.Hall.meaning c.clear_durably.new.hall) (g.H.Hall.meaning c.write_durably.new.hall) c.write_durably.result) clear.by_units (c.write_durably.ensures.files told) in
    repairs_not name v0 m0 entry c.write_durably.new.vol c.from_residual-in_err-write_durably.result c.from_residual-in_err-write_durably.ensures.0
    (alike_since name v0 m0 entry m1 v1 marked clear.since (write_leaves name v0 m0 entry m1 v1 marked v2 c.clear_durably.ensures.others clear.alike stays))

pub settle-requires-clause-some : goal.settle-requires-clause-some
settle-requires-clause-some g c =
    let v2 = c.clear_durably.new.vol in
    let items = c.args.vol.now.slots.items in
    let many = as_many (address_in c.mark_durably.new.vol) (address_in v2) items c.mark_durably.new.vol.slots.items v2.slots.items c.write_durably.new.vol.slots.items (with_bit true (slice_index_or items 0 formats.F0)) (entries_of (heads_of v2.geometry) v2.free.items) c.in_ok-mark_durably.ensures.index.items c.in_ok-clear_durably.ensures.slots c.in_ok-write_durably.ensures.chain in
    omega (arith, many, get_low items 1 c.requires.first.0 c.requires.first.1)

pub settle-requires-clause-index : goal.settle-requires-clause-index
settle-requires-clause-index g c told =
    let unit : c.write_durably.new.vol.unit ≡ c.clear_durably.new.vol.unit = ap (λ (v : Vol). v.unit) c.write_durably.ensures.others in
    subst (λ (u : ℕ). IsIndexOf (image_in (g.H.Hall.meaning c.write_durably.new.hall) (g.H.Hall.facts c.write_durably.new.hall) u) c.write_durably.new.vol) (sym unit) (c.in_ok-write_durably.ensures.index told)

pub returns-clause-files : goal.returns-clause-files
returns-clause-files g c told =
    let at = goal.at.returns-clause-files g c in
    let v0 = c.args.vol.now in
    let m0 = g.H.Hall.meaning c.args.hall.now in
    let name : List ℕ = (unit_of (g.H.Hall.facts c.args.hall.now).units v0.unit).name in
    let entry = start g at.After-mark_durably told in
    let marked = on g at.After-clear_durably told entry in
    let clear = cleared g at.After-write_durably told entry (marked_name g at.After-clear_durably) marked in
    let v1 = c.mark_durably.new.vol in
    let m1 = g.H.Hall.meaning c.mark_durably.new.hall in
    let v2 = c.clear_durably.new.vol in
    let v3 = c.write_durably.new.vol in
    let m3 = g.H.Hall.meaning c.write_durably.new.hall in
    let f3 = g.H.Hall.facts c.write_durably.new.hall in
    let stays3 = subst (λ (n : List ℕ). StaysAlike {T = Unit {0}} {E = Device} n v2 (g.H.Hall.meaning c.clear_durably.new.hall) m3 (Ok c.in_ok-write_durably.field-0)) clear.by_units (c.in_ok-write_durably.ensures.files told) in
    let name23 : (unit_of f3.units v2.unit).name ≡ name = ap (λ (us : List Attached). (unit_of us v2.unit).name) c.in_ok-write_durably.ensures.faults.units ∙ clear.by_units in
    let name3 : (unit_of f3.units v3.unit).name ≡ name = ap (λ (v : Vol). (unit_of f3.units v.unit).name) c.write_durably.ensures.others ∙ name23 in
    let leaves3 = write_leaves name v0 m0 entry m1 v1 marked v2 c.clear_durably.ensures.others clear.alike stays3 in
    let since3 = alike_since name v0 m0 entry m1 v1 marked clear.since leaves3 in
    let index3 = subst (λ (n : List ℕ). IsIndexOf (image_named m3.state n) v3) name23 (c.in_ok-write_durably.ensures.index told) in
    let m4 = g.H.Hall.meaning c.settle.new.hall in
    let last = with_counts (free_in v3.slots.items) (highest_among (address_in v3) v3.slots.items) (slice_index_or v3.slots.items 0 formats.F0) in
    let puts = subst (λ (n : List ℕ). PutsDurably {T = Unit {0}} {E = Device} n v3 0 last c.settle.new.vol m3 m4 c.settle.result) name3 (c.settle.ensures.files told) in
    let others3 = c.write_durably.ensures.others ∙ ap (λ (x : Vol). record x { slots = v3.slots; buf = v3.buf }) c.clear_durably.ensures.others in
    let written = rewritten v1 v2 v3.slots.items c.clear_durably.ensures.others c.in_ok-clear_durably.ensures.slots c.in_ok-write_durably.ensures.chain in
    repairs name v0 m0 entry m1 v1 marked v3 m3 leaves3.done.1 index3 others3 written c.settle.new.vol m4 c.settle.result puts since3 (on_ok_weaker c.settle.result (λ is. is.items) c.settle.ensures.index) c.settle.ensures.others

pub returns-clause-index : goal.returns-clause-index
returns-clause-index g c = record {
  names = λ ordered.
      let v1 = c.mark_durably.new.vol in
      let v2 = c.clear_durably.new.vol in
      let v3 = c.write_durably.new.vol in
      let items = c.args.vol.now.slots.items in
      let some : 2 ≤ length items = omega (arith, get_low items 1 c.requires.first.0 c.requires.first.1) in
      let many = as_many (address_in v1) (address_in v2) items v1.slots.items v2.slots.items v3.slots.items (with_bit true (slice_index_or items 0 formats.F0)) (entries_of (heads_of v2.geometry) v2.free.items) c.in_ok-mark_durably.ensures.index.items c.in_ok-clear_durably.ensures.slots c.in_ok-write_durably.ensures.chain in
      let one = names_kept c.args.vol.now v1 c.mark_durably.ensures.others (mark_names items v1.slots.items c.in_ok-mark_durably.ensures.index.items) ordered in
      let two = names_kept v1 v2 c.clear_durably.ensures.others (clear_names (address_in v1) v1.slots.items v2.slots.items c.in_ok-clear_durably.ensures.slots) one in
      let three = c.in_ok-write_durably.ensures.names two in
      on_ok_weaker c.settle.result (λ is. names_kept v3 c.settle.new.vol c.settle.ensures.others (tell_names v3.slots.items c.settle.new.vol.slots.items (free_in v3.slots.items) (highest_among (address_in v3) v3.slots.items) (omega (arith, some, many)) is.items) three) c.settle.ensures.index;
  others = search rules;
  unit = search rules;
}
