-- Nothing goes after the blocks of a sequential set.
use Rattle.std.proofs.Common.{List, Ok, sym, ap, subst}
use Rattle.vol_model.specs.Places.{Content}
use Rattle.vol_model.specs.Shelf.{put_last}
use Rattle.shelf_machine.specs.PutBlocks.{PlacesAll}
use Rattle.shelf_machine.proofs.PlacedAll.{places_none}
use Rattle.shelf_machine.specs.ReadyPacks.{vols_of}
use Rattle.shelf_machine.proofs.OpenWriters.{keeps_none}
use Rattle.shelf_machine.proofs.puts.place_last.Goals as goal

pub returns-in-Fill-clause-shelf : goal.returns-in-Fill-clause-shelf
returns-in-Fill-clause-shelf g c told =
    let us = (g.H.Hall.facts c.args.hall.now).units in
    let vols = vols_of c.args.packs.now.items in
    let w = c.args.writer.now in
    let m = g.H.Hall.meaning c.args.hall.now in
    let n = c.args.done.now in
    subst (λ (cs : List Content). PlacesAll cs (tt {0}) us us vols vols w w m m n n (Ok (tt {0}))) (sym (ap put_last c.in-Fill.is))
    (places_none us vols w m n (c.requires.writer.pending told))

pub returns-in-Fill-clause-keeps : goal.returns-in-Fill-clause-keeps
returns-in-Fill-clause-keeps g c = keeps_none tt c.requires.writer
