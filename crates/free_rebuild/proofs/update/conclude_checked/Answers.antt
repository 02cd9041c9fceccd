use Rattle.std.proofs.Common.{IsTrue, rules, ◌≡◌, ◌∙◌, List, ℕ, ap, subst, sym, arith}
use Rattle.std.specs.Prelude.{slice_index_or}
use Rattle.std.proofs.lemmas.Result.{on_ok_weaker}
use Rattle.hall_core.specs.Facts.{Attached, unit_of}
use Rattle.hall_core.specs.Images.{image_in}
use Rattle.hall_core.specs.declared.steps.Device.{Device}
use Rattle.dscb_codec.specs.declared.Dscb.TheVariants as formats
use Rattle.vtoc_index.specs.Index.{IsIndexOf, address_in}
use Rattle.vtoc_index.specs.declared.vol.Vol.{Vol}
use Rattle.free_rebuild.specs.Clearing.{free_in, highest_among}
use Rattle.free_rebuild.specs.Clearing.{with_counts}
use Rattle.free_rebuild.specs.Durable.{PutsDurably}
use Rattle.free_rebuild.specs.Repairs.{image_named}
use Rattle.free_rebuild.proofs.ChainLemmas.{get_low}
use Rattle.free_rebuild.proofs.NameLemmas.{names_kept, tell_names}
use Rattle.free_rebuild.proofs.RepairSteps.{Entered, clear_leaves, concludes, concludes_not, entered, guarded_none, guarded_since, marked_first, rewritten_length}
use Rattle.free_rebuild.proofs.update.conclude_checked.Given.{Over}
use Rattle.free_rebuild.proofs.update.conclude_checked.Goals.{After-rewrite_durably}
use Rattle.free_rebuild.proofs.update.conclude_checked.Goals as goal

-- the bit is on at the entry
start : (g : Over) (c : After-rewrite_durably g) → IsTrue g.H.Hall.tells → Entered (unit_of (g.H.Hall.facts c.args.hall.now).units c.args.vol.now.unit).name c.args.vol.now (g.H.Hall.meaning c.args.hall.now)
start g c told = entered (g.H.Hall.facts c.args.hall.now).units c.args.vol.now (g.H.Hall.meaning c.args.hall.now) (g.met.H.Hall.whole c.args.hall.now told) c.requires.unit (c.requires.mounted told) (c.requires.durable told)

pub returns-in_err-rewrite_durably-clause-files : goal.returns-in_err-rewrite_durably-clause-files
returns-in_err-rewrite_durably-clause-files g c told =
    let v0 = c.args.vol.now in
    let m0 = g.H.Hall.meaning c.args.hall.now in
    let name : List ℕ = (unit_of (g.H.Hall.facts c.args.hall.now).units v0.unit).name in
    let entry = start g (goal.at.returns-in_err-rewrite_durably-clause-files g c).After-rewrite_durably told in
    let on = marked_first name v0 m0 entry (c.requires.marked told) in
    concludes_not name v0 m0 entry c.rewrite_durably.new.vol c.from_residual.result c.from_residual.ensures.0
    (guarded_since name v0 m0 entry m0 v0 on (guarded_none name v0 m0 entry) (clear_leaves name v0 m0 entry m0 v0 on (c.rewrite_durably.ensures.files told)))

pub settle-requires-clause-some : goal.settle-requires-clause-some
settle-requires-clause-some g c =
    let many = rewritten_length c.args.vol.now c.rewrite_durably.new.vol.slots.items c.in_ok-rewrite_durably.ensures.slots in
    omega (arith, many, get_low c.args.vol.now.slots.items 1 c.requires.first.0 c.requires.first.1)

pub settle-requires-clause-index : goal.settle-requires-clause-index
settle-requires-clause-index g c told =
    let unit : c.rewrite_durably.new.vol.unit ≡ c.args.vol.now.unit = ap (λ (v : Vol). v.unit) c.rewrite_durably.ensures.others in
    subst (λ (u : ℕ). IsIndexOf (image_in (g.H.Hall.meaning c.rewrite_durably.new.hall) (g.H.Hall.facts c.rewrite_durably.new.hall) u) c.rewrite_durably.new.vol) (sym unit) (c.in_ok-rewrite_durably.ensures.index told)

pub returns-clause-files : goal.returns-clause-files
returns-clause-files g c told =
    let v0 = c.args.vol.now in
    let m0 = g.H.Hall.meaning c.args.hall.now in
    let name : List ℕ = (unit_of (g.H.Hall.facts c.args.hall.now).units v0.unit).name in
    let entry = start g (goal.at.returns-clause-files g c).After-rewrite_durably told in
    let on = marked_first name v0 m0 entry (c.requires.marked told) in
    let v1 = c.rewrite_durably.new.vol in
    let m1 = g.H.Hall.meaning c.rewrite_durably.new.hall in
    let f1 = g.H.Hall.facts c.rewrite_durably.new.hall in
    let leaves = clear_leaves name v0 m0 entry m0 v0 on (c.in_ok-rewrite_durably.ensures.files told) in
    let since = guarded_since name v0 m0 entry m0 v0 on (guarded_none name v0 m0 entry) leaves in
    let by_units : (unit_of f1.units v0.unit).name ≡ name = ap (λ (us : List Attached). (unit_of us v0.unit).name) c.in_ok-rewrite_durably.ensures.faults.units in
    let by_index : (unit_of f1.units v1.unit).name ≡ name = ap (λ (v : Vol). (unit_of f1.units v.unit).name) c.rewrite_durably.ensures.others ∙ by_units in
    let index = subst (λ (n : List ℕ). IsIndexOf (image_named m1.state n) v1) by_units (c.in_ok-rewrite_durably.ensures.index told) in
    let m2 = g.H.Hall.meaning c.settle.new.hall in
    let last = with_counts (free_in v1.slots.items) (highest_among (address_in v1) v1.slots.items) (slice_index_or v1.slots.items 0 formats.F0) in
    let puts = subst (λ (n : List ℕ). PutsDurably {T = Unit {0}} {E = Device} n v1 0 last c.settle.new.vol m1 m2 c.settle.result) by_index (c.settle.ensures.files told) in
    concludes name v0 m0 entry m0 v0 on v1 m1 leaves.done.1 index c.rewrite_durably.ensures.others c.in_ok-rewrite_durably.ensures.slots c.settle.new.vol m2 c.settle.result puts since (on_ok_weaker c.settle.result (λ is. is.items) c.settle.ensures.index) c.settle.ensures.others

pub returns-clause-index : goal.returns-clause-index
returns-clause-index g c = record {
  names = λ ordered.
      let v1 = c.rewrite_durably.new.vol in
      let many = rewritten_length c.args.vol.now v1.slots.items c.in_ok-rewrite_durably.ensures.slots in
      let low = get_low c.args.vol.now.slots.items 1 c.requires.first.0 c.requires.first.1 in
      on_ok_weaker c.settle.result (λ is. names_kept v1 c.settle.new.vol c.settle.ensures.others (tell_names v1.slots.items c.settle.new.vol.slots.items (free_in v1.slots.items) (highest_among (address_in v1) v1.slots.items) (omega (arith, low, many)) is.items) (c.in_ok-rewrite_durably.ensures.names ordered)) c.settle.ensures.index;
  others = search rules;
  unit = search rules;
}
