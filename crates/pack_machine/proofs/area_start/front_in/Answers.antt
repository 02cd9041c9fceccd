use Rattle.std.proofs.Common.{◌≡◌, ℕ, List}
use Rattle.seq_access.specs.Bodies.{IsReadablePart, IsSetIn, part_in}
use Rattle.vol_model.specs.Places.{is_open_ended}
use Rattle.vol_model.specs.Shelf.{blocks_of}
use Rattle.vtoc_index.specs.declared.vol.Vol.{Vol}
use Rattle.pack_machine.proofs.ReadBlocks.{part_blocks, part_set}
use Rattle.pack_machine.proofs.ReadFronts.{part_front}
use Rattle.pack_machine.proofs.StillPacks.{stayed, stays}
use Rattle.pack_machine.proofs.area_start.front_in.Goals as goal

pub is_open_ended-requires-clause-set : goal.is_open_ended-requires-clause-set
is_open_ended-requires-clause-set g c told =
    stays (g.H.Hall.meaning c.args.hall.now) (g.H.Hall.meaning c.end_of.new.hall) (g.H.Hall.facts c.args.hall.now) (g.H.Hall.facts c.end_of.new.hall) c.args.vol.now c.end_of.new.vol (c.in-Ok.ensures.same told).state c.in-Ok.ensures.faults.units c.in-Ok.ensures.vol
    (λ (i : List ℕ) (w : Vol). IsSetIn i w c.args.set.now) (part_set _ c.args.vol.now c.args.set.now _ (c.requires.part told (c.requires.known told)))

pub is_open_ended-requires-clause-readable : goal.is_open_ended-requires-clause-readable
is_open_ended-requires-clause-readable g c told =
    stays (g.H.Hall.meaning c.args.hall.now) (g.H.Hall.meaning c.end_of.new.hall) (g.H.Hall.facts c.args.hall.now) (g.H.Hall.facts c.end_of.new.hall) c.args.vol.now c.end_of.new.vol (c.in-Ok.ensures.same told).state c.in-Ok.ensures.faults.units c.in-Ok.ensures.vol
    (λ (i : List ℕ) (w : Vol). IsReadablePart (part_in i w c.args.set.now)) (part_blocks _ c.args.vol.now c.args.set.now _ (c.requires.part told (c.requires.known told)))

pub returns-in-Ok-is_open_ended-clause-front : goal.returns-in-Ok-is_open_ended-clause-front
returns-in-Ok-is_open_ended-clause-front g c told =
    part_front _ c.args.vol.now c.args.set.now c.in-Ok.end c.in-Ok-is_open_ended.owes_end_of_file (c.in-Ok.ensures.end told) (part_blocks _ c.args.vol.now c.args.set.now _ (c.requires.part told (c.requires.known told)))
    (stayed (g.H.Hall.meaning c.args.hall.now) (g.H.Hall.meaning c.end_of.new.hall) (g.H.Hall.facts c.args.hall.now) (g.H.Hall.facts c.end_of.new.hall) c.args.vol.now c.end_of.new.vol (c.in-Ok.ensures.same told).state c.in-Ok.ensures.faults.units c.in-Ok.ensures.vol
    (λ (i : List ℕ) (w : Vol). c.in-Ok-is_open_ended.owes_end_of_file ≡ is_open_ended (blocks_of (part_in i w c.args.set.now))) (c.in-Ok-is_open_ended.ensures.answer told))
