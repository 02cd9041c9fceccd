use Rattle.std.proofs.Common.{false, ℕ, List, [], ◌++◌, refl, sym, ap}
use Rattle.std.specs.Prelude.{Ok, Err}
use Rattle.record_files.specs.RecordWriter.{held_if}
use Rattle.record_files.specs.Writing.{coming_of}
use Rattle.record_files.proofs.AdvanceLemmas.{advances_then}
use Rattle.record_files.proofs.PutLemmas.{coming_last, fault_alike, stops_alike}
use Rattle.record_files.proofs.RecordLemmas.{advances_as}
use Rattle.record_files.proofs.putting.finish.Goals as goal

pub returns-in_err-fault-clause-advances : goal.returns-in_err-fault-clause-advances
returns-in_err-fault-clause-advances g c told =
    advances_as c.from_residual-in_err-fault.result (coming_last c.args.writer.now false c.in_ok-full.full c.finish.new.out.items c.in_ok-full.ensures.blocks) refl
    (stops_alike _ c.from_residual-in_err-fault.result c.from_residual-in_err-fault.ensures.0 (c.in_err-fault.ensures.advances told [] false))

pub returns-in-Err-clause-advances : goal.returns-in-Err-clause-advances
returns-in-Err-clause-advances g c told =
    advances_as (Ok (Err c.in-Err.fault)) (coming_last c.args.writer.now false c.in_ok-full.full c.finish.new.out.items c.in_ok-full.ensures.blocks) refl
    (fault_alike c.in-Err.fault (rw c.in-Err.is at (c.in_ok-fault.ensures.advances told [] false)))

pub returns-clause-advances : goal.returns-clause-advances
returns-clause-advances g c told =
    let part = (rw c.in_default.is at (c.in_ok-fault.ensures.advances told [] false)).step in
    advances_as c.put_held.result (coming_last c.args.writer.now false c.in_ok-full.full c.finish.new.out.items c.in_ok-full.ensures.blocks) refl
    (advances_then part c.put_held.result
    (advances_as c.put_held.result (ap (λ (h : List ℕ). coming_of (held_if c.pass_on.new.writer.holds h ++ []) false) (sym c.deref.ensures.value)) refl (c.put_held.ensures.advances told [] false tt)))
