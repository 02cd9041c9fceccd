use Rattle.std.proofs.Common.{◌∙◌, ℕ, ap}
use Rattle.hall_core.specs.Images.{image_in}
use Rattle.pack_machine.proofs.HeldLibraries.{geometry_back, given_back, lent_at, lent_library, lent_parts, lent_unit, made_start}
use Rattle.mount_repair.proofs.DeviceCalls.{reported_more, unreported}
use Rattle.mount_repair.proofs.WalkedBodies.{named_slot}
use Rattle.pack_machine.proofs.libraries.read_directory.Goals as goal

pub read_dir-read-requires-clause-unit : goal.read_dir-read-requires-clause-unit
read_dir-read-requires-clause-unit g c =
    lent_unit c.args.vol.now c.lend.new.vol c.args.buf.now c.lend.new.buf c.lend.ensures (g.H.Hall.facts c.args.hall.now).units c.requires.buffer c.requires.unit

pub read_dir-read-requires-clause-set : goal.read_dir-read-requires-clause-set
read_dir-read-requires-clause-set g c =
    named_slot c.lend.new.vol.slots.items c.args.slot c.args.set.now (lent_at c.args.vol.now c.lend.new.vol c.args.buf.now c.lend.new.buf c.lend.ensures c.args.slot c.args.set.now c.requires.slot)

pub read_dir-read-requires-clause-part : goal.read_dir-read-requires-clause-part
read_dir-read-requires-clause-part g c told =
    lent_parts c.args.vol.now c.lend.new.vol c.args.buf.now c.lend.new.buf c.lend.ensures (λ (n : ℕ). image_in (g.H.Hall.meaning c.args.hall.now) (g.H.Hall.facts c.args.hall.now) n) c.args.set.now c.args.slot c.requires.slot (c.requires.part told)

pub library_from-requires : goal.library_from-requires
library_from-requires g c = c.read_dir-read.ensures.lawful

pub returns-clause-library : goal.returns-clause-library
returns-clause-library g c told first =
    lent_library c.args.vol.now c.lend.new.vol c.args.buf.now c.lend.new.buf c.lend.ensures (λ (n : ℕ). image_in (g.H.Hall.meaning c.args.hall.now) (g.H.Hall.facts c.args.hall.now) n) c.args.set.now
    c.args.start first c.read_dir-read.result c.library_from.result c.library_from.ensures.library
    (c.read_dir-read.ensures.dir told c.args.set.now (lent_at c.args.vol.now c.lend.new.vol c.args.buf.now c.lend.new.buf c.lend.ensures c.args.slot c.args.set.now c.requires.slot))

pub returns-clause-start : goal.returns-clause-start
returns-clause-start g c = made_start c.read_dir-read.result c.args.start c.library_from.result c.library_from.ensures.library

pub returns-clause-vol : goal.returns-clause-vol
returns-clause-vol g c =
    given_back c.args.vol.now c.lend.new.vol c.args.buf.now c.lend.new.buf c.lend.ensures c.read_dir-read.new.vol c.take_back.new.vol c.read_dir-read.ensures.others c.take_back.ensures.vol

pub returns-clause-buffer : goal.returns-clause-buffer
returns-clause-buffer g c =
    ap (λ r. r.records.geometry) c.take_back.ensures.buf
    ∙ geometry_back c.args.vol.now c.lend.new.vol c.args.buf.now c.lend.new.buf c.lend.ensures (g.H.Hall.facts c.read_dir-read.new.hall).units c.read_dir-read.new.vol c.read_dir-read.ensures.others c.read_dir-read.ensures.unit

pub returns-clause-reach : goal.returns-clause-reach
returns-clause-reach g c = ap (λ r. r.reach) c.take_back.ensures.buf ∙ ap (λ r. r.reach) c.lend.ensures.buffer

pub returns-clause-faults : goal.returns-clause-faults
returns-clause-faults g c = reported_more _ _ _ (unreported _) c.read_dir-read.ensures.faults c.library_from.ensures.device c.library_from.ensures.failed
