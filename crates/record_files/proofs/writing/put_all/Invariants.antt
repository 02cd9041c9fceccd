use Rattle.std.proofs.Common.{◌≡◌, false}
use Rattle.std.specs.Prelude.{IsTrue, Ok}
use Rattle.record_blocks.specs.Packer.{is_waiting}
use Rattle.record_files.specs.Advancing.{Advanced}
use Rattle.record_files.specs.Calls.{PutsCall}
use Rattle.record_files.specs.RecordWriter.{coming}
use Rattle.record_files.proofs.writing.put_all.Given as goal

abbrev pub invariant-loop-machine : goal.invariant-loop-machine
invariant-loop-machine g l =
    let m = g.M.Machine.meaning in
    let w = g.M.Machine.writer in
    let s = g.M.Machine.status in
    let stream = g.R.RecordSource.stream in
    record {
      so_far : IsTrue g.M.Machine.tells → Advanced g.M.Machine.tells_prints (coming l.fn.writer (stream l.fn.records (m l.fn.machine).state)) (coming l.writer (stream l.records (m l.machine).state)) (w l.fn.machine) (w l.machine) l.fn.writer.start l.writer.start (m l.fn.machine) (m l.machine) (s l.fn.machine).done (s l.machine).done;
      idle : is_waiting l.writer.packer ≡ false;
      call : PutsCall {T = Unit {0}} g.M.Machine l.fn.machine l.machine (Ok tt);
    }

abbrev pub decreases-loop-machine : goal.decreases-loop-machine
decreases-loop-machine g l = g.R.RecordSource.most l.records
