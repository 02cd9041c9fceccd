use Rattle.std.specs.Prelude.{codes, option_map}
use Rattle.record_files.specs.Inputs.{input_view}
use Rattle.util_program.proofs.Answering.{answered_stops, answered_then}
use Rattle.output_files.specs.Members.{names_view}
use Rattle.iebgener_util.specs.Items.{copied, copy_item, object_for}
use Rattle.iebgener_util.proofs.program.answer.Goals as goal

pub returns-in_err-answer : goal.returns-in_err-answer
unfolding copy_item
returns-in_err-answer g c =
    let t = c.args.copy.now in
    answered_stops g.M.Machine c.args.card (codes "COPY") (object_for t.output.to (option_map names_view t.names)) (λ shelf. copied shelf (input_view t.input) t.output (option_map names_view t.names) t.before.now t.edits.now) c.from_residual.result c.from_residual.ensures (rw c.in_err-answer.was at c.copy_records.ensures)

pub returns : goal.returns
unfolding copy_item
returns g c =
    let t = c.args.copy.now in
    answered_then g.M.Machine c.args.card (codes "COPY") (object_for t.output.to (option_map names_view t.names)) (λ shelf. copied shelf (input_view t.input) t.output (option_map names_view t.names) t.before.now t.edits.now) c.in_ok-answer.ensures (rw c.object_for-object.ensures at c.report_steps.ensures.item)
