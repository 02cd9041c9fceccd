use Rattle.std.proofs.Common.{true, [], refl}
use Rattle.std.specs.Prelude.{Ok, Err}
use Rattle.util_steps.specs.declared.calls.Fault.TheVariants.{BadRecord}
use Rattle.record_files.proofs.AdvanceLemmas.{advanced_works}
use Rattle.record_files.proofs.PutLemmas.{coming_last, fault_alike, fault_behind, stops_alike}
use Rattle.record_files.proofs.RecordLemmas.{advances_as}
use Rattle.record_files.proofs.putting.break_off.Goals as goal

pub returns-in_err-pass_on-clause-advances : goal.returns-in_err-pass_on-clause-advances
returns-in_err-pass_on-clause-advances g c told rest start =
    advances_as c.from_residual-in_err-pass_on.result (coming_last c.args.writer.now true c.in_ok-full.full c.finish.new.out.items c.in_ok-full.ensures.blocks) refl
    (stops_alike _ c.from_residual-in_err-pass_on.result c.from_residual-in_err-pass_on.ensures.0 (c.in_err-pass_on.ensures.advances told [] true))

pub returns-in-Ok-clause-advances : goal.returns-in-Ok-clause-advances
returns-in-Ok-clause-advances g c told rest start =
    let part = (rw c.in-Ok.is at (c.in_ok-pass_on.ensures.advances told [] true)).step in
    advances_as (Ok (Err BadRecord)) (coming_last c.args.writer.now true c.in_ok-full.full c.finish.new.out.items c.in_ok-full.ensures.blocks) refl
    (record { step = advanced_works part (Ok (Err BadRecord)) (fault_behind g.M.Machine.tells_prints c.pass_on.new.writer (g.M.Machine.writer c.pass_on.new.machine) (g.M.Machine.meaning c.pass_on.new.machine) (g.M.Machine.status c.pass_on.new.machine).done) })

pub returns-in-Err-clause-advances : goal.returns-in-Err-clause-advances
returns-in-Err-clause-advances g c told rest start =
    advances_as (Ok (Err c.in-Err.fault)) (coming_last c.args.writer.now true c.in_ok-full.full c.finish.new.out.items c.in_ok-full.ensures.blocks) refl
    (fault_alike c.in-Err.fault (rw c.in-Err.is at (c.in_ok-pass_on.ensures.advances told [] true)))
