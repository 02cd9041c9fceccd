use Rattle.std.proofs.Common.{Bool, sym, subst}
use Rattle.std.specs.Prelude.{Ok}
use Rattle.hall_core.specs.Images.{image_in}
use Rattle.vol_model.specs.declared.contents.Place.{Place}
use Rattle.seq_access.specs.Bodies.{part_in}
use Rattle.seq_access.specs.Reading.{ReadsMembers}
use Rattle.member_access.specs.Ends.{IsNextPlace}
use Rattle.member_access.proofs.MemberReads.{reads_none, reads_one}
use Rattle.member_access.proofs.PartBlocks.{part_ordered}
use Rattle.member_access.proofs.ends.pass.Goals as goal

pub returns-then-not-found-clause-passes : goal.returns-then-not-found-clause-passes
returns-then-not-found-clause-passes g c told =
    let image = image_in (g.H.Hall.meaning c.args.hall.now) (g.H.Hall.facts c.args.hall.now) c.args.vol.now.unit in
    let body = part_in image c.args.vol.now c.args.set.now in
    let b = c.read_part_into.new.block in
    reads_none body c.args.walk.now b (subst (λ (m : Bool). ReadsMembers (Ok m) body c.args.walk.now.next b) c.if-not-found.true (c.in_ok-found.ensures.block told))

pub returns-clause-passes : goal.returns-clause-passes
returns-clause-passes g c told =
    let image = image_in (g.H.Hall.meaning c.args.hall.now) (g.H.Hall.facts c.args.hall.now) c.args.vol.now.unit in
    let body = part_in image c.args.vol.now c.args.set.now in
    let b = c.read_part_into.new.block in
    let next : IsNextPlace b.place c.place_behind-walk.result = subst (λ (p : Place). IsNextPlace p c.place_behind-walk.result) c.place-walk.ensures c.place_behind-walk.ensures in
    reads_one body c.args.walk.now b (part_ordered image c.args.vol.now c.args.set.now (c.requires.set told)) c.requires.place.1
    (record { last = c.place-walk.result; next = c.place_behind-walk.result }) c.place-walk.ensures next c.is_end_of_file.result (sym c.is_end_of_file.ensures)
    (subst (λ (m : Bool). ReadsMembers (Ok m) body c.args.walk.now.next b) c.if-not-found.false (c.in_ok-found.ensures.block told))
