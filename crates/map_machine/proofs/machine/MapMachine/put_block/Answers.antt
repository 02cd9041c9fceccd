-- The block is put where room was made for it, at the place that was found before.
use Rattle.std.proofs.Common.{Bool, true, false, List, subst, ap, ◌∙◌}
use Rattle.std.specs.Prelude.{Result, Ok, Err}
use Rattle.std.specs.declared.alloc.AllocError.{AllocError}
use Rattle.map_machine.specs.Held.{held_of}
use Rattle.map_machine.specs.Made.{MakesRoom}
use Rattle.map_machine.specs.Open.{CanCommit, OpenCanCommit, as_open}
use Rattle.map_machine.specs.Rooms.{target_in}
use Rattle.map_machine.proofs.RoomLemmas.{put_open_then, puts_done, puts_refused, puts_short}
use Rattle.vol_model.specs.Places.{Content}
use Rattle.vol_model.specs.Writing.{making_room}
use Rattle.map_machine.proofs.machine.MapMachine.put_block.Goals as goal

answer : Bool → Result Bool AllocError
answer b = Ok b

pub invariant_of-self : goal.invariant_of-self
unfolding answer
invariant_of-self c =
    let s = c.args.self.now.shelf in
    let w = c.open_writer-writer.result.now in
    let put = c.in-Ok.put in
    let old = held_of c.args.self.now in
    let mid = held_of c.make_room.new.self in
    let makes : MakesRoom (making_room s (target_in w.target) put.before put.coming) old mid (Ok true) =
    subst (λ (l : List Content). MakesRoom (making_room s (target_in w.target) put.before l) old mid (Ok true)) c.as_slice.ensures
    (subst (λ q. MakesRoom (making_room s (target_in w.target) put.before c.as_slice.result.now) old mid q) (c.in-Ok-true.is ∙ ap answer c.in-Ok-true.field-0-test) c.make_room.ensures) in
    let content : Content = (c.args.key.now, c.args.payload.now) in
    let can : CanCommit s (as_open w) = subst (OpenCanCommit s) c.open_writer-writer.ensures c.args.self.now.ready in
    let records = c.put_law.ensures.room s (as_open w) content (c.args.self.now.lawful, can.ready, (c.requires.key, c.requires.payload)) in
    record {
      lawful = c.make_room.new.self.lawful;
      ready = put_open_then old w c.open_writer-writer.ensures put content c.in-Ok.ensures mid makes records c.make_room.new.self.ready;
    }

pub returns-in-Ok-true-clause-shelf : goal.returns-in-Ok-true-clause-shelf
unfolding answer
returns-in-Ok-true-clause-shelf c =
    let s = c.args.self.now.shelf in
    let w = c.open_writer-writer.result.now in
    let put = c.in-Ok.put in
    let old = held_of c.args.self.now in
    let mid = held_of c.make_room.new.self in
    let makes : MakesRoom (making_room s (target_in w.target) put.before put.coming) old mid (Ok true) =
    subst (λ (l : List Content). MakesRoom (making_room s (target_in w.target) put.before l) old mid (Ok true)) c.as_slice.ensures
    (subst (λ q. MakesRoom (making_room s (target_in w.target) put.before c.as_slice.result.now) old mid q) (c.in-Ok-true.is ∙ ap answer c.in-Ok-true.field-0-test) c.make_room.ensures) in
    puts_done old w c.open_writer-writer.ensures put (c.args.key.now, c.args.payload.now) c.in-Ok.ensures mid makes

pub returns-in-Ok-false-clause-shelf : goal.returns-in-Ok-false-clause-shelf
unfolding answer
returns-in-Ok-false-clause-shelf c =
    let s = c.args.self.now.shelf in
    let w = c.open_writer-writer.result.now in
    let put = c.in-Ok.put in
    let old = held_of c.args.self.now in
    let mid = held_of c.make_room.new.self in
    let makes : MakesRoom (making_room s (target_in w.target) put.before put.coming) old mid (Ok false) =
    subst (λ (l : List Content). MakesRoom (making_room s (target_in w.target) put.before l) old mid (Ok false)) c.as_slice.ensures
    (subst (λ q. MakesRoom (making_room s (target_in w.target) put.before c.as_slice.result.now) old mid q) (c.in-Ok-false.is ∙ ap answer c.in-Ok-false.field-0-test) c.make_room.ensures) in
    puts_refused old w c.open_writer-writer.ensures put (c.args.key.now, c.args.payload.now) c.in-Ok.ensures mid makes

pub returns-in-Err-clause-shelf : goal.returns-in-Err-clause-shelf
returns-in-Err-clause-shelf c =
    let s = c.args.self.now.shelf in
    let w = c.open_writer-writer.result.now in
    let put = c.in-Ok.put in
    let e = c.in-Err.field-0 in
    let old = held_of c.args.self.now in
    let mid = held_of c.make_room.new.self in
    let makes : MakesRoom (making_room s (target_in w.target) put.before put.coming) old mid (Err e) =
    subst (λ (l : List Content). MakesRoom (making_room s (target_in w.target) put.before l) old mid (Err e)) c.as_slice.ensures
    (subst (λ q. MakesRoom (making_room s (target_in w.target) put.before c.as_slice.result.now) old mid q) c.in-Err.is c.make_room.ensures) in
    puts_short old w c.open_writer-writer.ensures put (c.args.key.now, c.args.payload.now) c.in-Ok.ensures mid e makes
