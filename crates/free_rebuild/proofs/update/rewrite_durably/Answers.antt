use Rattle.std.proofs.Common.{◌≡◌, ◌∙◌, List, Ok, ℕ, ap, subst, sym}
use Rattle.std.proofs.lemmas.Result.{on_ok_weaker}
use Rattle.hall_core.specs.Facts.{Attached, unit_of}
use Rattle.hall_core.specs.Images.{image_in}
use Rattle.hall_core.specs.declared.steps.Device.{Device}
use Rattle.vtoc_index.specs.Index.{IsIndexOf, address_in}
use Rattle.vtoc_index.specs.declared.vol.Vol.{Vol}
use Rattle.free_rebuild.specs.Stops.{KeepsAlike}
use Rattle.free_rebuild.proofs.ClearSteps.{told_then}
use Rattle.free_rebuild.proofs.DurableLemmas.{stays_not, stays_synced}
use Rattle.free_rebuild.proofs.NameLemmas.{clear_names, names_kept}
use Rattle.free_rebuild.proofs.RepairSteps.{open_cleared, rewritten}
use Rattle.free_rebuild.proofs.update.rewrite_durably.Goals as goal

pub returns-in_err-clear_unused-clause-files : goal.returns-in_err-clear_unused-clause-files
returns-in_err-clear_unused-clause-files g c told =
    let v = c.args.vol.now in
    let name : List ℕ = (unit_of (g.H.Hall.facts c.args.hall.now).units v.unit).name in
    stays_not name v (g.H.Hall.meaning c.args.hall.now) (g.H.Hall.meaning c.clear_unused.new.hall) c.clear_unused.result c.from_residual.result (c.requires.durable told) c.from_residual.ensures.0 (c.clear_unused.ensures.files told)

pub write_free-requires-clause-index : goal.write_free-requires-clause-index
write_free-requires-clause-index g c told =
    let v1 = c.clear_unused.new.vol in
    let unit : v1.unit ≡ c.args.vol.now.unit = ap (λ (v : Vol). v.unit) c.clear_unused.ensures.others in
    subst (λ (u : ℕ). IsIndexOf (image_in (g.H.Hall.meaning c.clear_unused.new.hall) (g.H.Hall.facts c.clear_unused.new.hall) u) v1) (sym unit) (c.in_ok-clear_unused.ensures.index told)

pub write_free-requires-clause-first : goal.write_free-requires-clause-first
write_free-requires-clause-first g c told =
    let v = c.args.vol.now in
    open_cleared (address_in v) v.slots.items c.clear_unused.new.vol.slots.items (c.requires.first told) c.in_ok-clear_unused.ensures.slots

pub returns-in_err-write_free-clause-files : goal.returns-in_err-write_free-clause-files
returns-in_err-write_free-clause-files g c told =
    let v0 = c.args.vol.now in
    let v1 = c.clear_unused.new.vol in
    let m0 = g.H.Hall.meaning c.args.hall.now in
    let m1 = g.H.Hall.meaning c.clear_unused.new.hall in
    let m2 = g.H.Hall.meaning c.write_free.new.hall in
    let f0 = g.H.Hall.facts c.args.hall.now in
    let f1 = g.H.Hall.facts c.clear_unused.new.hall in
    let name : List ℕ = (unit_of f0.units v0.unit).name in
    let same : (unit_of f1.units v1.unit).name ≡ name = ap (λ (us : List Attached). (unit_of us v1.unit).name) c.in_ok-clear_unused.ensures.faults.units ∙ ap (λ (v : Vol). (unit_of f0.units v.unit).name) c.clear_unused.ensures.others in
    let kept = subst (λ (n : List ℕ). KeepsAlike {T = Unit {0}} {E = Device} n v1 m1 m2 c.write_free.result) same (c.write_free.ensures.files told) in
    stays_not name v0 m0 m2 c.write_free.result c.from_residual-in_err-write_free.result (c.requires.durable told) c.from_residual-in_err-write_free.ensures.0 (told_then name v0 v1 (c.in_ok-clear_unused.ensures.files told) c.clear_unused.ensures.others kept)

pub returns-clause-files : goal.returns-clause-files
returns-clause-files g c told =
    let v0 = c.args.vol.now in
    let v1 = c.clear_unused.new.vol in
    let m0 = g.H.Hall.meaning c.args.hall.now in
    let m1 = g.H.Hall.meaning c.clear_unused.new.hall in
    let m2 = g.H.Hall.meaning c.write_free.new.hall in
    let f0 = g.H.Hall.facts c.args.hall.now in
    let f1 = g.H.Hall.facts c.clear_unused.new.hall in
    let name : List ℕ = (unit_of f0.units v0.unit).name in
    let same : (unit_of f1.units v1.unit).name ≡ name = ap (λ (us : List Attached). (unit_of us v1.unit).name) c.in_ok-clear_unused.ensures.faults.units ∙ ap (λ (v : Vol). (unit_of f0.units v.unit).name) c.clear_unused.ensures.others in
    let kept = subst (λ (n : List ℕ). KeepsAlike {T = Unit {0}} {E = Device} n v1 m1 m2 (Ok c.in_ok-write_free.field-0)) same (c.in_ok-write_free.ensures.files told) in
    stays_synced name v0 m0 m2 (g.H.Hall.meaning c.make_durable.new.hall) _ c.make_durable.result (c.requires.durable told) (g.met.H.Hall.leaves_state c.write_free.new.hall) (told_then name v0 v1 (c.in_ok-clear_unused.ensures.files told) c.clear_unused.ensures.others kept) (c.make_durable.ensures.files told)

pub returns-clause-slots : goal.returns-clause-slots
returns-clause-slots g c =
    let is = rewritten c.args.vol.now c.clear_unused.new.vol c.write_free.new.vol.slots.items c.clear_unused.ensures.others c.in_ok-clear_unused.ensures.slots c.in_ok-write_free.ensures.chain in
    on_ok_weaker c.make_durable.result (λ done. is) c.make_durable.ensures.faults.done

pub returns-clause-names : goal.returns-clause-names
returns-clause-names g c ordered =
    let v0 = c.args.vol.now in
    let v1 = c.clear_unused.new.vol in
    let one = names_kept v0 v1 c.clear_unused.ensures.others (clear_names (address_in v0) v0.slots.items v1.slots.items c.in_ok-clear_unused.ensures.slots) ordered in
    let two = c.in_ok-write_free.ensures.names one in
    on_ok_weaker c.make_durable.result (λ done. two) c.make_durable.ensures.faults.done
