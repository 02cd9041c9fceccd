-- After an extension room is made for the others; where it isn't done, no room is made.
use Rattle.std.proofs.Common.{◌≡◌, Bool, true, false, List, [], ◌∷◌, ◌++◌, sym, subst, ap, ◌∙◌, rules}
use Rattle.std.specs.Prelude.{Result, Ok, Err}
use Rattle.std.specs.declared.alloc.AllocError.{AllocError}
use Rattle.map_machine.specs.Held.{held_of}
use Rattle.map_machine.specs.Made.{Extends, MakesRoom}
use Rattle.map_machine.specs.Rooms.{room_in, target_in}
use Rattle.map_machine.proofs.RoomLemmas.{making_done, making_refused, room_after, room_failed, room_refused}
use Rattle.vol_model.specs.Places.{Content}
use Rattle.vol_model.specs.Writing.{Wanted, extension, making_room, room_for}
use Rattle.map_machine.proofs.machine.MapMachine.+make_room.Goals as goal

answer : Bool → Result Bool AllocError
answer b = Ok b

pub returns-in-Ok-true : goal.returns-in-Ok-true
unfolding answer
returns-in-Ok-true n c =
    let s = c.args.self.now.shelf in
    let t = target_in c.args.target.now in
    let x = c.in-Some.content.now in
    let xs = c.in-Some.rest.now in
    let old = held_of c.args.self.now in
    let mid = held_of c.extend.new.self in
    let new = held_of c.make_room-in-Ok-true.new.self in
    let r = c.make_room-in-Ok-true.result in
    let whole : c.args.contents.now ≡ x ∷ xs = search rules in
    let wanted : Wanted ≡ room_for s t c.args.before x = sym (ap room_in c.in-Wanted.is) ∙ c.in_ok-room.ensures.0 in
    let extends : Extends (extension t) old mid (Ok true) = subst (λ q. Extends (extension t) old mid q) (c.in-Ok-true.is ∙ ap answer c.in-Ok-true.field-0-test) c.extend.ensures in
    let makes : MakesRoom (making_room mid.now.shelf t (c.args.before ++ x ∷ []) xs) mid new r = subst (λ (l : List Content). MakesRoom (making_room mid.now.shelf t l xs) mid new r) c.in_ok-room.ensures.1 c.make_room-in-Ok-true.ensures in
    room_after (extension t) (making_room s t c.args.before c.args.contents.now) old mid new (making_room mid.now.shelf t (c.args.before ++ x ∷ []) xs) r extends
    (ap (making_room s t c.args.before) whole ∙ making_done s t c.args.before x xs mid.now.shelf wanted extends.0.answer) makes

pub returns-in-Ok-false : goal.returns-in-Ok-false
unfolding answer
returns-in-Ok-false n c =
    let s = c.args.self.now.shelf in
    let t = target_in c.args.target.now in
    let x = c.in-Some.content.now in
    let xs = c.in-Some.rest.now in
    let old = held_of c.args.self.now in
    let mid = held_of c.extend.new.self in
    let whole : c.args.contents.now ≡ x ∷ xs = search rules in
    let wanted : Wanted ≡ room_for s t c.args.before x = sym (ap room_in c.in-Wanted.is) ∙ c.in_ok-room.ensures.0 in
    let extends : Extends (extension t) old mid (Ok false) = subst (λ q. Extends (extension t) old mid q) (c.in-Ok-false.is ∙ ap answer c.in-Ok-false.field-0-test) c.extend.ensures in
    room_refused (extension t) (making_room s t c.args.before c.args.contents.now) old mid mid extends
    (ap (making_room s t c.args.before) whole ∙ making_refused s t c.args.before x xs extends.0 wanted extends.1.answer.0)

pub returns-in-Err : goal.returns-in-Err
returns-in-Err n c =
    let s = c.args.self.now.shelf in
    let t = target_in c.args.target.now in
    let old = held_of c.args.self.now in
    let mid = held_of c.extend.new.self in
    let extends : Extends (extension t) old mid (Err c.in-Err.e) = subst (λ q. Extends (extension t) old mid q) c.in-Err.is c.extend.ensures in
    room_failed (extension t) (making_room s t c.args.before c.args.contents.now) old mid mid c.in-Err.e extends
