-- What is due in front is an end-of-file block or nothing.
use Rattle.std.proofs.Common.{List, Ok, sym, subst, ◌∙◌}
use Rattle.vol_model.specs.Places.{Content}
use Rattle.shelf_machine.specs.Machine.{placed_in}
use Rattle.shelf_machine.specs.PutBlocks.{PlacesAll, shelf_on}
use Rattle.shelf_machine.proofs.FilledSets.{places_well}
use Rattle.shelf_machine.proofs.PlacedAll.{places_none}
use Rattle.shelf_machine.proofs.PutBehind.{not_due, now_due}
use Rattle.shelf_machine.specs.ReadyPacks.{vols_of}
use Rattle.shelf_machine.specs.PendingShelves.{kept_in}
use Rattle.shelf_machine.proofs.OpenWriters.{keeps_none}
use Rattle.shelf_machine.proofs.puts.place_first.Goals as goal

pub returns-then-not-is_due-clause-shelf : goal.returns-then-not-is_due-clause-shelf
returns-then-not-is_due-clause-shelf g c told =
    let us = (g.H.Hall.facts c.args.hall.now).units in
    let vols = vols_of c.args.packs.now.items in
    let w = c.args.writer.now in
    let m = g.H.Hall.meaning c.args.hall.now in
    let n = c.args.done.now in
    let well = places_well m us vols c.requires.writer.ready.indexes (kept_in c.requires.writer.ready told) w c.requires.writer.slot (c.requires.writer.pending told) c.is_due.ensures.low in
    subst (λ (cs : List Content). PlacesAll cs (tt {0}) us us vols vols w w m m n n (Ok (tt {0}))) (sym (not_due (shelf_on m.state us vols) w (placed_in m.state us vols w) well (sym c.if-not-is_due.true ∙ c.is_due.ensures.value)))
    (places_none us vols w m n (c.requires.writer.pending told))

pub returns-clause-shelf : goal.returns-clause-shelf
returns-clause-shelf g c told =
    let us = (g.H.Hall.facts c.args.hall.now).units in
    let us' = (g.H.Hall.facts c.place_end.new.hall).units in
    let vols = vols_of c.args.packs.now.items in
    let vols' = vols_of c.place_end.new.packs.items in
    let w = c.args.writer.now in
    let m = g.H.Hall.meaning c.args.hall.now in
    let m' = g.H.Hall.meaning c.place_end.new.hall in
    let well = places_well m us vols c.requires.writer.ready.indexes (kept_in c.requires.writer.ready told) w c.requires.writer.slot (c.requires.writer.pending told) c.is_due.ensures.low in
    subst (λ (cs : List Content). PlacesAll cs tt us us' vols vols' w c.place_end.new.writer m m' c.args.done.now c.place_end.new.done c.place_end.result)
    (sym (now_due (shelf_on m.state us vols) w (placed_in m.state us vols w) well (sym c.if-not-is_due.false ∙ c.is_due.ensures.value))) (c.place_end.ensures.shelf told)

pub returns-then-not-is_due-clause-keeps : goal.returns-then-not-is_due-clause-keeps
returns-then-not-is_due-clause-keeps g c = keeps_none tt c.requires.writer
