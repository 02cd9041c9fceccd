use Rattle.std.proofs.Common.{List, ℕ, ap, refl, ◌∙◌}
use Rattle.std.specs.Prelude.{slice_get, slice_index_or}
use Rattle.dscb_codec.specs.declared.Dscb.{Dscb}
use Rattle.dscb_codec.specs.declared.Dscb.TheVariants as formats
use Rattle.hall_core.specs.Facts.{Attached, unit_of}
use Rattle.vtoc_index.specs.Last.{with_last}
use Rattle.vtoc_index.specs.Names.{name_at}
use Rattle.free_rebuild.specs.Repairs.{image_named}
use Rattle.free_rebuild.proofs.ChainLemmas.{get_set}
use Rattle.free_rebuild.proofs.DurableLemmas.{put_fails, put_synced}
use Rattle.free_rebuild.proofs.WriteLemmas.{image_there}
use Rattle.seq_access.proofs.RaisedNames.{names_raised}
use Rattle.seq_access.proofs.SparedFiles.{on_ok}
use Rattle.seq_access.proofs.writing.raise_durably.Goals as goal

pub returns-in_err-set_last-clause-files : goal.returns-in_err-set_last-clause-files
returns-in_err-set_last-clause-files g c told =
    let v = c.args.vol.now in
    let m = g.H.Hall.meaning c.args.hall.now in
    let units = (g.H.Hall.facts c.args.hall.now).units in
    let name : List ℕ = (unit_of units v.unit).name in
    let there = image_there m.state units v.unit (g.met.H.Hall.whole c.args.hall.now told) c.requires.unit.attached in
    put_fails name v c.set_last.new.vol c.args.writer.slot (with_last c.args.writer.last c.args.balance (slice_index_or v.slots.items c.args.writer.slot formats.F0)) m there (c.requires.durable told) _ c.from_residual.ensures.0 (c.set_last.ensures.files told)

pub returns-clause-files : goal.returns-clause-files
returns-clause-files g c told =
    let v = c.args.vol.now in
    let m = g.H.Hall.meaning c.args.hall.now in
    let mid = g.H.Hall.meaning c.set_last.new.hall in
    let units = (g.H.Hall.facts c.args.hall.now).units in
    let name : List ℕ = (unit_of units v.unit).name in
    let there = image_there m.state units v.unit (g.met.H.Hall.whole c.args.hall.now told) c.requires.unit.attached in
    let same = ap (λ (us : List Attached). image_named mid.state (unit_of us v.unit).name) c.in_ok-set_last.ensures.faults.units in
    put_synced name v c.set_last.new.vol c.args.writer.slot (with_last c.args.writer.last c.args.balance (slice_index_or v.slots.items c.args.writer.slot formats.F0)) m there (c.requires.durable told) c.make_durable.result (c.in_ok-set_last.ensures.files told) same (c.make_durable.ensures.files told)

pub returns-clause-names : goal.returns-clause-names
returns-clause-names g c = on_ok c.make_durable.result (λ k.
    ap (λ (items : List Dscb). name_at items k) c.in_ok-set_last.ensures.index.done.items
    ∙ names_raised c.args.vol.now.slots.items c.args.writer.slot c.args.writer.last c.args.balance _ c.requires.slot refl k)

pub returns-clause-slot : goal.returns-clause-slot
returns-clause-slot g c =
    let v = c.args.vol.now in
    let d : Dscb = with_last c.args.writer.last c.args.balance (slice_index_or v.slots.items c.args.writer.slot formats.F0) in
    on_ok c.make_durable.result
    (ap (λ (items : List Dscb). slice_get items c.args.writer.slot) c.in_ok-set_last.ensures.index.done.items ∙ get_set v.slots.items c.args.writer.slot d c.requires.slot)
