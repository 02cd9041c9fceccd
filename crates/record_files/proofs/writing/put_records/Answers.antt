use Rattle.std.proofs.Common.{refl, sym}
use Rattle.std.specs.Prelude.{Ok, Err}
use Rattle.record_files.specs.Advancing.{forgetting}
use Rattle.record_files.proofs.AfterLemmas.{stopped_forgets}
use Rattle.record_files.proofs.BeginLemmas.{new_coming}
use Rattle.record_files.proofs.PutLemmas.{fault_alike}
use Rattle.record_files.proofs.RecordLemmas.{advances_as, advances_from}
use Rattle.record_files.proofs.writing.put_records.Goals as goal

pub returns-in_err-put_all-clause-advances : goal.returns-in_err-put_all-clause-advances
returns-in_err-put_all-clause-advances g c told =
    let writer = c.in_ok-writer.ensures in
    let all = sym (new_coming c.in_ok-writer.writer c.args.format writer.blocks writer.format (g.R.RecordSource.stream c.args.records.now (g.M.Machine.meaning c.args.machine.now).state)) in
    advances_as (forgetting c.from_residual-in_err-put_all.result) all refl (stopped_forgets _ c.from_residual-in_err-put_all.result c.from_residual-in_err-put_all.ensures.0 (c.in_err-put_all.ensures.advances told))

pub returns-in-Ok-clause-advances : goal.returns-in-Ok-clause-advances
returns-in-Ok-clause-advances g c told =
    let writer = c.in_ok-writer.ensures in
    let all = sym (new_coming c.in_ok-writer.writer c.args.format writer.blocks writer.format (g.R.RecordSource.stream c.args.records.now (g.M.Machine.meaning c.args.machine.now).state)) in
    advances_from (Ok (Ok tt)) writer.start refl (advances_as (Ok (Ok tt)) all refl (rw c.in-Ok.is at (c.in_ok-put_all.ensures.advances told)))

pub returns-clause-advances : goal.returns-clause-advances
returns-clause-advances g c told =
    let writer = c.in_ok-writer.ensures in
    let all = sym (new_coming c.in_ok-writer.writer c.args.format writer.blocks writer.format (g.R.RecordSource.stream c.args.records.now (g.M.Machine.meaning c.args.machine.now).state)) in
    advances_as (Ok (Err c.in-Err.fault)) all refl (fault_alike c.in-Err.fault (rw c.in-Err.is at (c.in_ok-put_all.ensures.advances told)))
