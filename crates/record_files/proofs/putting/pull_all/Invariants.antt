use Rattle.std.proofs.Common.{◌≡◌, Bool, List, [], ℕ, length}
use Rattle.std.specs.Prelude.{IsTrue, Ok}
use Rattle.record_blocks.specs.Packer.{blocks_with, format_of}
use Rattle.record_files.specs.Advancing.{Advanced}
use Rattle.record_files.specs.Calls.{PutsCall}
use Rattle.record_files.specs.RecordWriter.{blocks_to_come}
use Rattle.record_files.specs.Writing.{coming_of}
use Rattle.record_files.proofs.putting.pull_all.Given as goal

abbrev pub invariant-loop-fault : goal.invariant-loop-fault
invariant-loop-fault g l =
    let m = g.M.Machine.meaning in
    let w = g.M.Machine.writer in
    let s = g.M.Machine.status in
    record {
      so_far : IsTrue g.M.Machine.tells → (records : List (List ℕ)) (broken : Bool) → Advanced g.M.Machine.tells_prints (coming_of (blocks_to_come l.fn.writer records) broken) (coming_of (blocks_to_come l.writer records) broken) (w l.fn.machine) (w l.machine) l.fn.writer.start l.writer.start (m l.fn.machine) (m l.machine) (s l.fn.machine).done (s l.machine).done;
      format : format_of l.writer.packer ≡ format_of l.fn.writer.packer;
      call : PutsCall {T = Unit {0}} g.M.Machine l.fn.machine l.machine (Ok tt);
    }

abbrev pub decreases-loop-fault : goal.decreases-loop-fault
decreases-loop-fault g l = length (blocks_with l.writer.packer [])
