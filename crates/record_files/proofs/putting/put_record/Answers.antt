use Rattle.std.proofs.Common.{◌++◌, refl, sym, ◌∙◌, ap}
use Rattle.std.specs.Prelude.{Ok, Err}
use Rattle.record_blocks.specs.declared.packer.Packer.{Packer}
use Rattle.record_blocks.specs.Packer.{blocks_with, format_of}
use Rattle.record_files.specs.RecordWriter.{coming, held_by}
use Rattle.record_files.specs.Writing.{coming_of}
use Rattle.record_files.proofs.AdvanceLemmas.{advances_then}
use Rattle.record_files.proofs.PutLemmas.{coming_packed, coming_then, coming_unchanged, fault_alike, stops_alike}
use Rattle.record_files.proofs.RecordLemmas.{advances_as, coming_long, fit}
use Rattle.record_files.proofs.putting.put_record.Goals as goal

pub returns-in-Err-TooLong-clause-advances : goal.returns-in-Err-TooLong-clause-advances
returns-in-Err-TooLong-clause-advances g c told st =
    let w = c.args.writer.now in
    let cause = rw c.in-Err-TooLong.field-0-is at c.in-Err-TooLong.ensures.err in
    advances_as c.break_off.result (coming_long w c.args.rec.now st cause.1 ∙ sym (coming_unchanged w _ refl c.in-Err-TooLong.ensures.unchanged)) refl (c.break_off.ensures.advances told (coming c.break_off.new.writer st) c.break_off.new.writer.start)

pub returns-in_err-fault-clause-advances : goal.returns-in_err-fault-clause-advances
returns-in_err-fault-clause-advances g c told st =
    let w = c.args.writer.now in
    advances_as c.from_residual.result (coming_packed w w st c.args.rec.now c.push.new.self c.in-Ok.full c.push.new.out.items c.in-Ok.ensures.short c.in-Ok.ensures.blocks) refl
    (stops_alike _ c.from_residual.result c.from_residual.ensures.0 (c.in_err-fault.ensures.advances told (blocks_with c.push.new.self (fit w st).records) (fit w st).broken))

pub returns-in-Err-clause-advances : goal.returns-in-Err-clause-advances
returns-in-Err-clause-advances g c told st =
    let w = c.args.writer.now in
    advances_as (Ok (Err c.in-Err.fault)) (coming_packed w w st c.args.rec.now c.push.new.self c.in-Ok.full c.push.new.out.items c.in-Ok.ensures.short c.in-Ok.ensures.blocks) refl
    (fault_alike c.in-Err.fault (rw c.in-Err.is at (c.in_ok-fault.ensures.advances told (blocks_with c.push.new.self (fit w st).records) (fit w st).broken)))

pub returns-clause-advances : goal.returns-clause-advances
returns-clause-advances g c told st =
    let w = c.args.writer.now in
    let v = c.pass_on.new.writer in
    let records = (fit w st).records in
    let broken = (fit w st).broken in
    let part = (rw c.in_default.is at (c.in_ok-fault.ensures.advances told (blocks_with c.push.new.self records) broken)).step in
    let same = c.pull_all.ensures.format ∙ ap format_of c.pass_on.ensures.packer ∙ c.push.ensures.format in
    advances_as c.pull_all.result (coming_packed w w st c.args.rec.now c.push.new.self c.in-Ok.full c.push.new.out.items c.in-Ok.ensures.short c.in-Ok.ensures.blocks) (coming_then w c.pull_all.new.writer st same)
    (advances_then part c.pull_all.result
    (advances_as c.pull_all.result (ap (λ (p : Packer). coming_of (held_by v ++ blocks_with p records) broken) (sym c.pass_on.ensures.packer)) refl (c.pull_all.ensures.advances told records broken)))
