use Rattle.std.proofs.Common.{◌+◌, ◌≤◌, length, vec_capacity, vec_len, Ok}
use Rattle.std.specs.Prelude.{IsTrue}
use Rattle.util_steps.specs.Copying.{source}
use Rattle.record_files.specs.Calls.{PutsCall}
use Rattle.iebcopy_util.specs.Steps.{HasBlocks, blocks_at}
use Rattle.iebcopy_util.proofs.AreaLemmas.{Puts}
use Rattle.iebcopy_util.proofs.area.put_copies.Given as goal

abbrev pub invariant-loop-parts : goal.invariant-loop-parts
invariant-loop-parts g l =
    let m = g.M.Machine.meaning in
    let w = g.M.Machine.writer in
    let s = g.M.Machine.status in
    record {
      room : vec_len l.to + length l.rest ≤ vec_capacity l.to;
      so_far : IsTrue g.M.Machine.tells → (has : HasBlocks (source (m l.fn.machine).state l.from) l.at)
          → Puts g.M.Machine.tells_prints l.from has.all (blocks_at (source (m l.fn.machine).state l.from) l.at) l.rest (w l.fn.machine) (w l.machine) l.fn.to.items l.to.items (m l.fn.machine) (m l.machine) (s l.fn.machine).done (s l.machine).done;
      call : PutsCall {T = Unit {0}} g.M.Machine l.fn.machine l.machine (Ok tt);
    }

abbrev pub decreases-loop-parts : goal.decreases-loop-parts
decreases-loop-parts g l = length l.rest
