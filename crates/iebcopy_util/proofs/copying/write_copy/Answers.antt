use Rattle.std.proofs.Common.{ap, sym, subst, List}
use Rattle.vol_model.specs.declared.contents.Block.{Block}
use Rattle.vol_model.specs.declared.contents.Shelf.{Shelf}
use Rattle.std.specs.Prelude.{Result, ℕ}
use Rattle.util_steps.specs.Copying.{source}
use Rattle.iebcopy_util.specs.Steps.{HasBlocks, blocks_at}
use Rattle.iebcopy_util.proofs.CopiedLemmas.{copied_ends, copied_stops, copied_then, ready_input, ready_output}
use Rattle.iebcopy_util.proofs.copying.write_copy.Goals as goal

pub returns-in_err-outcome : goal.returns-in_err-outcome
returns-in_err-outcome g c =
    copied_stops g.M.Machine c.args.out.now c.args.task.now c.args.blank (λ (s : Shelf). blocks_at (source s c.args.task.now.source.set) c.args.from.items) c.from_residual.result c.from_residual.ensures (rw c.in_err-outcome.was at c.set_output_attributes.ensures)

pub returns-in-Err : goal.returns-in-Err
returns-in-Err g c =
    copied_ends g.M.Machine c.args.out.now c.args.task.now c.args.blank (λ (s : Shelf). blocks_at (source s c.args.task.now.source.set) c.args.from.items) (rw c.in-Err.is at c.in_ok-outcome.ensures).takes

pub write_member-requires-clause-found : goal.write_member-requires-clause-found
write_member-requires-clause-found g c told =
    let takes = (rw c.in_default.is at c.in_ok-outcome.ensures).takes in
    subst (λ (r : Result (List Block) ℕ). HasBlocks r c.args.from.items) (sym (ready_input g.M.Machine c.args.out.now c.args.task.now c.args.blank c.in_default.field-0 takes told c.args.task.now.source.set (c.requires.apart told))) (c.requires.found told)

pub write_member-requires-clause-output : goal.write_member-requires-clause-output
write_member-requires-clause-output g c told =
    ready_output g.M.Machine c.args.out.now c.args.task.now c.args.blank c.in_default.field-0 (rw c.in_default.is at c.in_ok-outcome.ensures).takes told (c.requires.output told)

pub returns : goal.returns
returns g c =
    let takes = (rw c.in_default.is at c.in_ok-outcome.ensures).takes in
    copied_then g.M.Machine c.args.out.now c.args.task.now c.args.blank (λ (s : Shelf). blocks_at (source s c.args.task.now.source.set) c.args.from.items) c.in_default.field-0 takes
    (λ told. ap (λ (r : Result (List Block) ℕ). blocks_at r c.args.from.items) (ready_input g.M.Machine c.args.out.now c.args.task.now c.args.blank c.in_default.field-0 takes told c.args.task.now.source.set (c.requires.apart told))) c.write_member.ensures
