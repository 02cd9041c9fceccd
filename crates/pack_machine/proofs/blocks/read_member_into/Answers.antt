use Rattle.std.proofs.Common.{◌≡◌, ◌∙◌, ℕ, List, ap, sym}
use Rattle.seq_access.specs.Bodies.{IsReadablePart, IsSetIn, end_in, part_in}
use Rattle.seq_access.specs.Reading.{HoldsTrack, ReadsMembers}
use Rattle.stop_model.proofs.MomentLemmas.{same_then}
use Rattle.vtoc_index.specs.declared.vol.Vol.{Vol}
use Rattle.pack_machine.specs.declared.pack_cache.PackCache.{PackCache}
use Rattle.pack_machine.proofs.ReadBlocks.{part_blocks, part_set}
use Rattle.pack_machine.proofs.StillPacks.{device_behind, stayed, stays, unit_stays}
use Rattle.pack_machine.proofs.blocks.read_member_into.Goals as goal

pub end_of-requires-clause-known : goal.end_of-requires-clause-known
end_of-requires-clause-known g c told = c.requires.known told

pub end_of-requires-clause-part : goal.end_of-requires-clause-part
end_of-requires-clause-part g c told on = c.requires.part told on

pub read_part_into-requires-clause-unit : goal.read_part_into-requires-clause-unit
read_part_into-requires-clause-unit g c = unit_stays _ _ c.args.vol.now c.end_of.new.vol c.in-Ok.ensures.faults.units c.in-Ok.ensures.vol c.requires.unit

pub read_part_into-requires-clause-buffer : goal.read_part_into-requires-clause-buffer
read_part_into-requires-clause-buffer g c = c.in-Ok.ensures.buffer ∙ ap (λ (w : Vol). w.geometry) (sym c.in-Ok.ensures.vol)

pub read_part_into-requires-clause-set : goal.read_part_into-requires-clause-set
read_part_into-requires-clause-set g c told =
    stays (g.H.Hall.meaning c.args.hall.now) (g.H.Hall.meaning c.end_of.new.hall) (g.H.Hall.facts c.args.hall.now) (g.H.Hall.facts c.end_of.new.hall) c.args.vol.now c.end_of.new.vol (c.in-Ok.ensures.same told).state c.in-Ok.ensures.faults.units c.in-Ok.ensures.vol
    (λ (i : List ℕ) (w : Vol). IsSetIn i w c.args.set.now) (part_set _ c.args.vol.now c.args.set.now _ (c.requires.part told (c.requires.known told)))

pub read_part_into-requires-clause-end : goal.read_part_into-requires-clause-end
read_part_into-requires-clause-end g c told =
    stays (g.H.Hall.meaning c.args.hall.now) (g.H.Hall.meaning c.end_of.new.hall) (g.H.Hall.facts c.args.hall.now) (g.H.Hall.facts c.end_of.new.hall) c.args.vol.now c.end_of.new.vol (c.in-Ok.ensures.same told).state c.in-Ok.ensures.faults.units c.in-Ok.ensures.vol
    (λ (i : List ℕ) (w : Vol). c.in-Ok.end ≡ end_in i w c.args.set.now) (c.in-Ok.ensures.end told)

pub read_part_into-requires-clause-readable : goal.read_part_into-requires-clause-readable
read_part_into-requires-clause-readable g c told =
    stays (g.H.Hall.meaning c.args.hall.now) (g.H.Hall.meaning c.end_of.new.hall) (g.H.Hall.facts c.args.hall.now) (g.H.Hall.facts c.end_of.new.hall) c.args.vol.now c.end_of.new.vol (c.in-Ok.ensures.same told).state c.in-Ok.ensures.faults.units c.in-Ok.ensures.vol
    (λ (i : List ℕ) (w : Vol). IsReadablePart (part_in i w c.args.set.now)) (part_blocks _ c.args.vol.now c.args.set.now _ (c.requires.part told (c.requires.known told)))

pub read_part_into-requires-clause-held : goal.read_part_into-requires-clause-held
read_part_into-requires-clause-held g c told =
    stays (g.H.Hall.meaning c.args.hall.now) (g.H.Hall.meaning c.end_of.new.hall) (g.H.Hall.facts c.args.hall.now) (g.H.Hall.facts c.end_of.new.hall) c.args.vol.now c.end_of.new.vol (c.in-Ok.ensures.same told).state c.in-Ok.ensures.faults.units c.in-Ok.ensures.vol
    (λ (i : List ℕ) (w : Vol). HoldsTrack i c.end_of.new.known.buf) (c.in-Ok.ensures.held told)

pub returns-in-Ok-clause-block : goal.returns-in-Ok-clause-block
returns-in-Ok-clause-block g c told =
    stayed (g.H.Hall.meaning c.args.hall.now) (g.H.Hall.meaning c.end_of.new.hall) (g.H.Hall.facts c.args.hall.now) (g.H.Hall.facts c.end_of.new.hall) c.args.vol.now c.end_of.new.vol (c.in-Ok.ensures.same told).state c.in-Ok.ensures.faults.units c.in-Ok.ensures.vol
    (λ (i : List ℕ) (w : Vol). ReadsMembers c.read_part_into.result (part_in i w c.args.set.now) c.args.from c.read_part_into.new.block) (c.read_part_into.ensures.block told)

pub returns-in-Ok-clause-buffer : goal.returns-in-Ok-clause-buffer
returns-in-Ok-clause-buffer g c = c.read_part_into.ensures.buffer ∙ ap (λ (w : Vol). w.geometry) c.in-Ok.ensures.vol

pub returns-in-Ok-clause-others : goal.returns-in-Ok-clause-others
returns-in-Ok-clause-others g c = ap (λ (b : PackCache). record b { buf = c.read_part_into.new.buf }) c.in-Ok.ensures.others

pub returns-in-Ok-clause-held : goal.returns-in-Ok-clause-held
returns-in-Ok-clause-held g c told =
    stayed (g.H.Hall.meaning c.args.hall.now) (g.H.Hall.meaning c.end_of.new.hall) (g.H.Hall.facts c.args.hall.now) (g.H.Hall.facts c.end_of.new.hall) c.args.vol.now c.end_of.new.vol (c.in-Ok.ensures.same told).state c.in-Ok.ensures.faults.units c.in-Ok.ensures.vol
    (λ (i : List ℕ) (w : Vol). HoldsTrack i c.read_part_into.new.buf) (c.read_part_into.ensures.held told)

pub returns-in-Ok-clause-same : goal.returns-in-Ok-clause-same
returns-in-Ok-clause-same g c told = same_then (c.in-Ok.ensures.same told) (c.read_part_into.ensures.same told)

pub returns-in-Ok-clause-faults : goal.returns-in-Ok-clause-faults
returns-in-Ok-clause-faults g c = device_behind (g.H.Hall.facts c.args.hall.now) (g.H.Hall.facts c.end_of.new.hall) (g.H.Hall.facts c.read_part_into.new.hall) c.in-Ok.end c.read_part_into.result c.in-Ok.ensures.faults c.read_part_into.ensures.faults
