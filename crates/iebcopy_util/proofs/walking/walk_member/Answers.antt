use Rattle.std.proofs.Common.{refl, arith, rules}
use Rattle.util_steps.specs.Steps.{IsOnward}
use Rattle.util_steps.proofs.Progress.{source_blocks}
use Rattle.vol_model.specs.Reading.{member}
use Rattle.record_files.proofs.Reading.{reads_none, reads_stops, reads_then}
use Rattle.iebcopy_util.proofs.WalkLemmas.{walks_all, walks_begin, walks_further}
use Rattle.iebcopy_util.proofs.walking.walk_member.Goals as goal

pub loop-walk-init : goal.loop-walk-init
loop-walk-init g c = record {
  low = first_of (search rules, omega arith);
  read = reads_none g.M.Machine tt c.requires (g.met.M.Machine.counts_now c.args.machine.now) (λ told bs is. walks_begin bs c.args.start _ (search rules) (search rules));
}

pub loop-walk-preserved : goal.loop-walk-preserved
loop-walk-preserved g c =
    let onward : IsOnward c.loop-walk.place c.in-Ok-Some.next = rw (c.in-Ok-Some.is, c.in-Ok-Some.field-0-is) at c.in_ok-next.ensures.onward in
    record {
      low = onward.record_number;
      read = reads_then g.M.Machine c.loop-walk.invariant.read tt (rw (c.in-Ok-Some.is, c.in-Ok-Some.field-0-is) at c.in_ok-next.ensures.reads) (λ told so tells bs is.
          let are = source_blocks (g.M.Machine.meaning c.args.machine.now).state c.args.from.now bs (g.met.M.Machine.lawful c.args.machine.now told c.requires.sound) is in
          let takes = tells.blocks bs is in
          walks_further bs (member bs c.args.start) c.loop-walk.place c.loop-walk.walk c.take_block.new.walk (so bs is) c.in-Ok-Some.next takes.0 takes.1 are takes.2 takes.3 takes.4 takes.5 takes.6);
    }

pub returns-in_err-next : goal.returns-in_err-next
returns-in_err-next g c = reads_stops g.M.Machine c.loop-walk.invariant.read c.from_residual.result c.from_residual.ensures (rw c.in_err-next.was at c.take_block.ensures.reads)

pub returns-in-Ok-None : goal.returns-in-Ok-None
returns-in-Ok-None g c =
    reads_then g.M.Machine c.loop-walk.invariant.read _ (rw (c.in-Ok-None.is, c.in-Ok-None.field-0-is) at c.in_ok-next.ensures.reads) (λ told so tells. record {
      blocks = λ bs is.
          let takes = tells.blocks bs is in
          let all = walks_all bs (member bs c.args.start) c.loop-walk.place c.loop-walk.walk c.take_block.new.walk (so bs is) takes.0 takes.1 in
          (c.take_block.new.walk, refl, all.0, all.1);
      unreadable = λ track is. let never = tells.unreadable track is in let no : ⊥ = cc in absurd no;
    })

pub returns-in-Err : goal.returns-in-Err
returns-in-Err g c =
    reads_then g.M.Machine c.loop-walk.invariant.read _ (rw c.in-Err.is at c.in_ok-next.ensures.reads) (λ told so tells. record {
      blocks = λ bs is. absurd (tells.blocks bs is);
      unreadable = λ track is. let same = tells.unreadable track is in cc;
    })
