-- The end-of-file blocks of an area are placed one after another.
use Rattle.std.proofs.Common.{◌++◌, Err, refl, ap, subst}
use Rattle.vol_model.specs.Shelf.{put_last}
use Rattle.vol_model.specs.declared.answers.MachErr.{MachErr}
use Rattle.shelf_machine.specs.PutBlocks.{PlacesAll, due_on}
use Rattle.shelf_machine.specs.declared.writer.Writer.{Writer}
use Rattle.shelf_machine.proofs.PlacedAll.{places_stopped, places_then}
use Rattle.shelf_machine.specs.ReadyPacks.{vols_of}
use Rattle.shelf_machine.proofs.OpenWriters.{keeps_failed, keeps_then}
use Rattle.shelf_machine.proofs.puts.place_ends.Goals as goal

pub returns-in-Ok-clause-shelf : goal.returns-in-Ok-clause-shelf
returns-in-Ok-clause-shelf g c told =
    let us = (g.H.Hall.facts c.args.hall.now).units in
    let mid = (g.H.Hall.facts c.place_first.new.hall).units in
    let us' = (g.H.Hall.facts c.place_last.new.hall).units in
    let vols = vols_of c.args.packs.now.items in
    let w = c.args.writer.now in
    let w1 = c.place_first.new.writer in
    let m = g.H.Hall.meaning c.args.hall.now in
    subst (λ (x : Writer). PlacesAll (due_on m.state us vols w ++ put_last x.mode) (tt {0}) us us' vols (vols_of c.place_last.new.packs.items) w c.place_last.new.writer m (g.H.Hall.meaning c.place_last.new.hall) c.args.done.now c.place_last.new.done c.place_last.result) c.place_first.ensures.keeps.same
    (places_then (due_on m.state us vols w) (put_last w1.mode) (tt {0}) (tt {0}) us mid us' vols (vols_of c.place_first.new.packs.items) (vols_of c.place_last.new.packs.items) w w1 c.place_last.new.writer
    m (g.H.Hall.meaning c.place_first.new.hall) (g.H.Hall.meaning c.place_last.new.hall) c.args.done.now c.place_first.new.done c.place_last.new.done (tt {0}) c.place_last.result c.place_last.ensures.keeps.memory (c.in-Ok.ensures.shelf told) (c.place_last.ensures.shelf told))

pub returns-in-Err-clause-shelf : goal.returns-in-Err-clause-shelf
returns-in-Err-clause-shelf g c told =
    places_stopped (put_last c.args.writer.now.mode) (tt {0}) (λ is. c.in-Err.ensures.keeps.memory (ap (λ (e : MachErr). Err e) is)) (c.in-Err.ensures.shelf told)

pub place_last-requires : goal.place_last-requires
place_last-requires g c = record { writer = record { ready = c.in-Ok.ensures.keeps.ready refl; slot = c.in-Ok.ensures.keeps.slot refl; pending = λ told. (c.in-Ok.ensures.shelf told).pending refl } }

pub returns-in-Ok-clause-keeps : goal.returns-in-Ok-clause-keeps
returns-in-Ok-clause-keeps g c = keeps_then c.in-Ok.ensures.keeps c.place_last.ensures.keeps

pub returns-in-Err-clause-keeps : goal.returns-in-Err-clause-keeps
returns-in-Err-clause-keeps g c = keeps_failed c.in-Err.ensures.keeps
