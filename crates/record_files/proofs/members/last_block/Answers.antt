use Rattle.std.proofs.Common.{List, Ok, ◌∙◌, sym, ap, arith}
use Rattle.vol_model.specs.declared.contents.Block.{Block}
use Rattle.vol_model.specs.Places.{last_place}
use Rattle.util_steps.specs.Steps.{IsOnward}
use Rattle.util_steps.proofs.Progress.{all_from_start, source_blocks}
use Rattle.record_files.proofs.MemberLemmas.{last_further}
use Rattle.record_files.proofs.Reading.{reads_none, reads_stops, reads_then}
use Rattle.record_files.proofs.members.last_block.Goals as goal

pub loop-found-init : goal.loop-found-init
loop-found-init g c = record {
  low = omega arith;
  read = reads_none g.M.Machine tt c.requires (g.met.M.Machine.counts_now c.args.machine.now) (λ told bs is. ap (λ (l : List Block). last_place (record { tt = 0; r = 0 }) l) (all_from_start bs));
}

pub loop-found-preserved : goal.loop-found-preserved
loop-found-preserved g c =
    let onward : IsOnward c.loop-found.place c.in-Ok-Some.next = rw (c.in-Ok-Some.is, c.in-Ok-Some.field-0-is) at c.in_ok-found.ensures.onward in
    record {
      low = onward.record_number;
      read = reads_then g.M.Machine c.loop-found.invariant.read tt (rw (c.in-Ok-Some.is, c.in-Ok-Some.field-0-is) at c.in_ok-found.ensures.reads) (λ told so takes_of bs is.
          let are = source_blocks (g.M.Machine.meaning c.args.machine.now).state c.args.set.now bs (g.met.M.Machine.lawful c.args.machine.now told c.requires.sound) is in
          let takes = takes_of bs is in
          last_further bs c.loop-found.place c.loop-found.last c.in-Ok-Some.found c.in-Ok-Some.next (last_place (record { tt = 0; r = 0 }) bs) takes.0 takes.1 are takes.2 takes.3 takes.4 (so bs is));
    }

pub returns-in_err-found-clause-place : goal.returns-in_err-found-clause-place
returns-in_err-found-clause-place g c = reads_stops g.M.Machine c.loop-found.invariant.read c.from_residual.result c.from_residual.ensures (rw c.in_err-found.was at c.next_place.ensures.reads)

pub returns-in-Ok-None-clause-place : goal.returns-in-Ok-None-clause-place
returns-in-Ok-None-clause-place g c =
    reads_then g.M.Machine c.loop-found.invariant.read _ (rw (c.in-Ok-None.is, c.in-Ok-None.field-0-is) at c.in_ok-found.ensures.reads) (λ told so none bs is. ap Ok (sym (ap (last_place c.loop-found.last) (none bs is)) ∙ so bs is))

pub returns-in-Err-clause-place : goal.returns-in-Err-clause-place
returns-in-Err-clause-place g c = reads_then g.M.Machine c.loop-found.invariant.read _ (rw c.in-Err.is at c.in_ok-found.ensures.reads) (λ told so never bs is. absurd (never bs is))
