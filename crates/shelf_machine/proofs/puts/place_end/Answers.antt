-- A block that is placed is one of the contents that are, whatever the place.
use Rattle.std.proofs.Common.{Ok, Err}
use Rattle.vol_model.specs.Places.{end_of_file}
use Rattle.shelf_machine.proofs.PlacedAll.{places_as}
use Rattle.shelf_machine.specs.ReadyPacks.{vols_of}
use Rattle.shelf_machine.proofs.OpenWriters.{keeps_done, keeps_failed}
use Rattle.shelf_machine.proofs.puts.place_end.Goals as goal

pub returns-in-Ok-clause-shelf : goal.returns-in-Ok-clause-shelf
returns-in-Ok-clause-shelf g c told =
    places_as end_of_file (g.H.Hall.facts c.args.hall.now).units (g.H.Hall.facts c.place_block.new.hall).units (vols_of c.args.packs.now.items) (vols_of c.place_block.new.packs.items) c.args.writer.now c.place_block.new.writer
    (g.H.Hall.meaning c.args.hall.now) (g.H.Hall.meaning c.place_block.new.hall) c.args.done.now c.place_block.new.done (Ok c.in-Ok._place) (c.in-Ok.ensures.shelf told) tt

pub returns-in-Err-clause-shelf : goal.returns-in-Err-clause-shelf
returns-in-Err-clause-shelf g c told =
    places_as end_of_file (g.H.Hall.facts c.args.hall.now).units (g.H.Hall.facts c.place_block.new.hall).units (vols_of c.args.packs.now.items) (vols_of c.place_block.new.packs.items) c.args.writer.now c.place_block.new.writer
    (g.H.Hall.meaning c.args.hall.now) (g.H.Hall.meaning c.place_block.new.hall) c.args.done.now c.place_block.new.done (Err c.in-Err.error) (c.in-Err.ensures.shelf told) tt

pub returns-in-Ok-clause-keeps : goal.returns-in-Ok-clause-keeps
returns-in-Ok-clause-keeps g c = keeps_done tt c.in-Ok.ensures.keeps

pub returns-in-Err-clause-keeps : goal.returns-in-Err-clause-keeps
returns-in-Err-clause-keeps g c = keeps_failed c.in-Err.ensures.keeps
