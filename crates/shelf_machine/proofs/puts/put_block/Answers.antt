-- A put places what is due in front of its block, and then the block.
use Rattle.std.proofs.Common.{◌≡◌, List, [], ◌∷◌, Err, refl, ap, ◌∙◌}
use Rattle.vol_model.specs.Places.{Content}
use Rattle.vol_model.specs.Writing.{place_on}
use Rattle.vol_model.specs.declared.answers.MachErr.{MachErr}
use Rattle.vol_model.specs.declared.answers.MachErr.TheVariants.{Print}
use Rattle.vol_model.specs.declared.contents.Place.{Place}
use Rattle.shelf_machine.specs.Machine.{placed_in}
use Rattle.shelf_machine.specs.PutBlocks.{due_on, shelf_on}
use Rattle.shelf_machine.specs.declared.writer.Writer.{Writer}
use Rattle.shelf_machine.proofs.FilledSets.{places_well}
use Rattle.shelf_machine.proofs.PlacedAll.{places_one, places_stop, places_then}
use Rattle.shelf_machine.proofs.PutBehind.{place, place_same, puts_all, stands_behind, stands_first}
use Rattle.shelf_machine.specs.ReadyPacks.{vols_of}
use Rattle.shelf_machine.specs.PendingShelves.{kept_in}
use Rattle.shelf_machine.proofs.OpenWriters.{keeps_failed, keeps_then}
use Rattle.shelf_machine.proofs.puts.put_block.Goals as goal

pub returns-in-Ok-clause-shelf : goal.returns-in-Ok-clause-shelf
returns-in-Ok-clause-shelf g c told =
    let us = (g.H.Hall.facts c.args.hall.now).units in
    let mid = (g.H.Hall.facts c.place_first.new.hall).units in
    let us' = (g.H.Hall.facts c.place_block.new.hall).units in
    let vols = vols_of c.args.packs.now.items in
    let vols1 = vols_of c.place_first.new.packs.items in
    let vols' = vols_of c.place_block.new.packs.items in
    let w = c.args.writer.now in
    let w1 = c.place_first.new.writer in
    let w' = c.place_block.new.writer in
    let m = g.H.Hall.meaning c.args.hall.now in
    let m1 = g.H.Hall.meaning c.place_first.new.hall in
    let m' = g.H.Hall.meaning c.place_block.new.hall in
    let n = c.args.done.now in
    let k = c.place_first.new.done in
    let l = c.place_block.new.done in
    let block : Content = (c.args.key.now, c.args.payload.now) in
    let r = c.place_block.result in
    let between = placed_in m1.state mid vols1 w1 in
    let y : Place = place_on (shelf_on m1.state mid vols1) between.target between.puts block in
    let first = c.in-Ok.ensures.shelf told in
    let run = c.place_block.ensures.shelf told in
    let front : List Content = due_on m.state us vols w in
    let well = places_well m us vols c.requires.writer.ready.indexes (kept_in c.requires.writer.ready told) w c.requires.writer.slot (c.requires.writer.pending told) c.place_first.ensures.low in
    let all = places_then front (block ∷ []) (tt {0}) y us mid us' vols vols1 vols' w w1 w' m m1 m' n k l (tt {0}) r c.place_block.ensures.keeps.memory first (places_one block mid us' vols1 vols' w1 w' m1 m' k l r run) in
    puts_all us mid us' vols vols1 vols' w w1 w' m m1 m' n l block y r well
    (place_same us mid us' vols vols1 vols' w w1 w' m m1 m' n l block well (shelf_on m1.state mid vols1) between first.does.state.0 first.done)
    (ap (λ (x : Writer). x.owes_end_of_file) c.place_block.ensures.keeps.same ∙ ap (λ (x : Writer). x.owes_end_of_file) c.place_first.ensures.keeps.same)
    c.place_block.ensures.keeps.print all
    (stands_behind us mid us' vols vols1 vols' w w1 w' m m1 m' n l block r between c.place_block.ensures.keeps.print first.done run.records)

pub returns-in-Err-clause-shelf : goal.returns-in-Err-clause-shelf
returns-in-Err-clause-shelf g c told =
    let us = (g.H.Hall.facts c.args.hall.now).units in
    let mid = (g.H.Hall.facts c.place_first.new.hall).units in
    let vols = vols_of c.args.packs.now.items in
    let vols1 = vols_of c.place_first.new.packs.items in
    let w = c.args.writer.now in
    let w1 = c.place_first.new.writer in
    let m = g.H.Hall.meaning c.args.hall.now in
    let m1 = g.H.Hall.meaning c.place_first.new.hall in
    let n = c.args.done.now in
    let k = c.place_first.new.done in
    let block : Content = (c.args.key.now, c.args.payload.now) in
    let e = c.in-Err.error in
    let well = places_well m us vols c.requires.writer.ready.indexes (kept_in c.requires.writer.ready told) w c.requires.writer.slot (c.requires.writer.pending told) c.place_first.ensures.low in
    let y : Place = place us mid mid vols vols1 vols1 w w1 w1 m m1 m1 n k block in
    let all = places_stop (due_on m.state us vols w) (block ∷ []) (tt {0}) y us mid mid vols vols1 vols1 w w1 w1 m m1 m1 n k k e (λ is. c.in-Err.ensures.keeps.memory (ap (λ (x : MachErr). Err x) is)) (c.in-Err.ensures.shelf told) in
    puts_all us mid mid vols vols1 vols1 w w1 w1 m m1 m1 n k block y (Err e) well refl
    (ap (λ (x : Writer). x.owes_end_of_file) c.place_first.ensures.keeps.same)
    (λ is. c.in-Err.ensures.keeps.print (let same : e ≡ Print = cc in ap (λ (x : MachErr). Err x) same)) all
    (stands_first us mid mid vols vols1 vols1 w w1 w1 m m1 m1 n k block e (c.in-Err.ensures.stands told))

pub place_block-requires-clause-writer : goal.place_block-requires-clause-writer
place_block-requires-clause-writer g c = record { ready = c.in-Ok.ensures.keeps.ready refl; slot = c.in-Ok.ensures.keeps.slot refl; pending = λ told. (c.in-Ok.ensures.shelf told).pending refl }

pub returns-in-Ok-clause-keeps : goal.returns-in-Ok-clause-keeps
returns-in-Ok-clause-keeps g c = keeps_then c.in-Ok.ensures.keeps c.place_block.ensures.keeps

pub returns-in-Err-clause-keeps : goal.returns-in-Err-clause-keeps
returns-in-Err-clause-keeps g c = keeps_failed c.in-Err.ensures.keeps
