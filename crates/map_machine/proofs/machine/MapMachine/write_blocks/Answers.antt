-- The blocks are written where room was made for what ends them.
use Rattle.std.proofs.Common.{Bool, true, false, List, subst, ap, ◌∙◌}
use Rattle.std.specs.Prelude.{Result, Ok, Err}
use Rattle.std.specs.declared.alloc.AllocError.{AllocError}
use Rattle.map_machine.specs.Held.{held_of}
use Rattle.map_machine.specs.Made.{MakesRoom}
use Rattle.map_machine.specs.Open.{CanCommit, OpenCanCommit, as_open}
use Rattle.map_machine.specs.Rooms.{target_in}
use Rattle.map_machine.proofs.RoomLemmas.{closes_last, closes_refused, closes_short, last_done, last_lawful}
use Rattle.vol_model.specs.Places.{Content}
use Rattle.vol_model.specs.Writing.{making_room}
use Rattle.map_machine.proofs.machine.MapMachine.write_blocks.Goals as goal

answer : Bool → Result Bool AllocError
answer b = Ok b

pub close-requires-clause-lawful : goal.close-requires-clause-lawful
unfolding answer
close-requires-clause-lawful c =
    let s = c.args.self.now.shelf in
    let w = c.open_writer-writer.result.now in
    let commit = c.in-Ok.commit in
    let old = held_of c.args.self.now in
    let mid = held_of c.make_room.new.self in
    let makes : MakesRoom (making_room s (target_in w.target) commit.before commit.coming) old mid (Ok true) =
    subst (λ (l : List Content). MakesRoom (making_room s (target_in w.target) commit.before l) old mid (Ok true)) c.as_slice.ensures
    (subst (λ q. MakesRoom (making_room s (target_in w.target) commit.before c.as_slice.result.now) old mid q) (c.in-Ok-true.is ∙ ap answer c.in-Ok-true.field-0-test) c.make_room.ensures) in
    let can : CanCommit s (as_open w) = subst (OpenCanCommit s) c.open_writer-writer.ensures c.args.self.now.ready in
    last_lawful old w c.open_writer-writer.ensures commit c.in-Ok.ensures mid makes (c.commit_law.ensures s (as_open w) c.args.self.now.lawful can.ready)

pub close-requires-clause-done : goal.close-requires-clause-done
unfolding answer
close-requires-clause-done c =
    let s = c.args.self.now.shelf in
    let w = c.open_writer-writer.result.now in
    let commit = c.in-Ok.commit in
    let old = held_of c.args.self.now in
    let mid = held_of c.make_room.new.self in
    let makes : MakesRoom (making_room s (target_in w.target) commit.before commit.coming) old mid (Ok true) =
    subst (λ (l : List Content). MakesRoom (making_room s (target_in w.target) commit.before l) old mid (Ok true)) c.as_slice.ensures
    (subst (λ q. MakesRoom (making_room s (target_in w.target) commit.before c.as_slice.result.now) old mid q) (c.in-Ok-true.is ∙ ap answer c.in-Ok-true.field-0-test) c.make_room.ensures) in
    last_done old w c.open_writer-writer.ensures commit c.in-Ok.ensures mid makes c.make_room.new.self.ready

pub returns-in-Ok-true-clause-shelf : goal.returns-in-Ok-true-clause-shelf
unfolding answer
returns-in-Ok-true-clause-shelf c =
    let s = c.args.self.now.shelf in
    let w = c.open_writer-writer.result.now in
    let commit = c.in-Ok.commit in
    let old = held_of c.args.self.now in
    let mid = held_of c.make_room.new.self in
    let makes : MakesRoom (making_room s (target_in w.target) commit.before commit.coming) old mid (Ok true) =
    subst (λ (l : List Content). MakesRoom (making_room s (target_in w.target) commit.before l) old mid (Ok true)) c.as_slice.ensures
    (subst (λ q. MakesRoom (making_room s (target_in w.target) commit.before c.as_slice.result.now) old mid q) (c.in-Ok-true.is ∙ ap answer c.in-Ok-true.field-0-test) c.make_room.ensures) in
    closes_last old w c.open_writer-writer.ensures commit c.in-Ok.ensures mid (held_of c.close.new.self) c.close.result makes c.close.ensures.shelf c.close.ensures.count c.close.ensures.memory

pub returns-in-Ok-false-clause-shelf : goal.returns-in-Ok-false-clause-shelf
unfolding answer
returns-in-Ok-false-clause-shelf c =
    let s = c.args.self.now.shelf in
    let w = c.open_writer-writer.result.now in
    let commit = c.in-Ok.commit in
    let old = held_of c.args.self.now in
    let mid = held_of c.make_room.new.self in
    let makes : MakesRoom (making_room s (target_in w.target) commit.before commit.coming) old mid (Ok false) =
    subst (λ (l : List Content). MakesRoom (making_room s (target_in w.target) commit.before l) old mid (Ok false)) c.as_slice.ensures
    (subst (λ q. MakesRoom (making_room s (target_in w.target) commit.before c.as_slice.result.now) old mid q) (c.in-Ok-false.is ∙ ap answer c.in-Ok-false.field-0-test) c.make_room.ensures) in
    closes_refused old w c.open_writer-writer.ensures commit c.in-Ok.ensures mid makes

pub returns-clause-shelf : goal.returns-clause-shelf
returns-clause-shelf c =
    let s = c.args.self.now.shelf in
    let w = c.open_writer-writer.result.now in
    let commit = c.in-Ok.commit in
    let e = c.in-Err.field-0 in
    let old = held_of c.args.self.now in
    let mid = held_of c.make_room.new.self in
    let makes : MakesRoom (making_room s (target_in w.target) commit.before commit.coming) old mid (Err e) =
    subst (λ (l : List Content). MakesRoom (making_room s (target_in w.target) commit.before l) old mid (Err e)) c.as_slice.ensures
    (subst (λ q. MakesRoom (making_room s (target_in w.target) commit.before c.as_slice.result.now) old mid q) c.in-Err.is c.make_room.ensures) in
    closes_short old w c.open_writer-writer.ensures commit c.in-Ok.ensures mid e makes
