use Rattle.std.proofs.Common.{◌≡◌, ◌∙◌, List, ℕ, sym, true}
use Rattle.hall_core.specs.Facts.{unit_of}
use Rattle.hall_core.specs.Images.{image_in}
use Rattle.vtoc_index.specs.Index.{address_in}
use Rattle.free_rebuild.specs.Clearing.{is_extra_at}
use Rattle.free_rebuild.proofs.ClearSteps.{clear_keeps}
use Rattle.free_rebuild.proofs.WriteLemmas.{image_there, told_done, told_not}
use Rattle.free_rebuild.proofs.clearing.clear_slot.Goals as goal

-- src/clearing.rt:55:9
pub returns-in_err-put_slot-clause-files : goal.returns-in_err-put_slot-clause-files
returns-in_err-put_slot-clause-files g c told =
    let v = c.args.vol.now in
    let m = g.H.Hall.meaning c.args.hall.now in
    let f = g.H.Hall.facts c.args.hall.now in
    let name : List ℕ = (unit_of f.units v.unit).name in
    let there = image_there m.state f.units v.unit (g.met.H.Hall.whole c.args.hall.now told) c.requires.unit.attached in
    let extra : is_extra_at (address_in v c.args.slot) v.slots.items c.args.slot ≡ true = sym c.belongs_to_nothing.ensures ∙ c.if-belongs_to_nothing.true in
    told_not name v c.from_residual.result c.from_residual.ensures.0
    (clear_keeps name v c.put_slot.new.vol c.args.slot (image_in m f v.unit) (image_in (g.H.Hall.meaning c.put_slot.new.hall) (g.H.Hall.facts c.put_slot.new.hall) v.unit) (c.put_slot.ensures.files told) (g.met.H.Hall.leaves_state c.args.hall.now) there (c.requires.index told) c.requires.behind c.requires.slot extra)

-- src/clearing.rt:38:1
pub returns-in_ok-put_slot-clause-files : goal.returns-in_ok-put_slot-clause-files
returns-in_ok-put_slot-clause-files g c told =
    let v = c.args.vol.now in
    let m = g.H.Hall.meaning c.args.hall.now in
    let f = g.H.Hall.facts c.args.hall.now in
    let name : List ℕ = (unit_of f.units v.unit).name in
    let there = image_there m.state f.units v.unit (g.met.H.Hall.whole c.args.hall.now told) c.requires.unit.attached in
    let extra : is_extra_at (address_in v c.args.slot) v.slots.items c.args.slot ≡ true = sym c.belongs_to_nothing.ensures ∙ c.if-belongs_to_nothing.true in
    told_done name v tt
    (clear_keeps name v c.put_slot.new.vol c.args.slot (image_in m f v.unit) (image_in (g.H.Hall.meaning c.put_slot.new.hall) (g.H.Hall.facts c.put_slot.new.hall) v.unit) (c.in_ok-put_slot.ensures.files told) (g.met.H.Hall.leaves_state c.args.hall.now) there (c.requires.index told) c.requires.behind c.requires.slot extra)
