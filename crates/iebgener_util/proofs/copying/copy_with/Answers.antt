use Rattle.std.proofs.Common.{◌≡◌, true, false, sym, ◌∙◌, ap, arith, rules}
use Rattle.std.specs.Prelude.{Ok, Err, option_map}
use Rattle.record_blocks.specs.Formats.{first_fault}
use Rattle.util_steps.proofs.Taking.{takes_as, takes_because, takes_because_stops, takes_none}
use Rattle.util_syntax.specs.declared.listing.Outcome.TheVariants as outcome
use Rattle.record_files.specs.declared.inputs.RecordInput.{RecordInput}
use Rattle.record_files.specs.Attributes.{format_in, format_with}
use Rattle.record_files.specs.Inputs.{format_of, input_view}
use Rattle.record_files.proofs.CallLemmas.{takes_at}
use Rattle.util_program.specs.Outcomes.{outcome_for}
use Rattle.iebgener_util.specs.Items.{blocks_in, copied_with, formats_clash}
use Rattle.output_files.specs.Members.{names_view}
use Rattle.output_files.specs.Outputs.{write_output}
use Rattle.iebgener_util.specs.Editing.{have_fields}
use Rattle.iebgener_util.proofs.CopyLemmas.{formats_serve, with_itself, with_formats_clash, with_output}
use Rattle.iebgener_util.proofs.copying.copy_with.Goals as goal

pub returns-then-formats_clash : goal.returns-then-formats_clash
returns-then-formats_clash g c = record {
  works = λ told found know.
      let t = c.args.copy.now in
      let shelf = (g.M.Machine.meaning c.args.machine.now).state in
      let bad : formats_clash (have_fields t.edits.now) (format_of found) (format_in c.args.attr.now) ≡ true = cc (c.formats_clash.ensures, c.have_fields.ensures, c.input_format-format.ensures, c.format_in.ensures, ap (λ (k : RecordInput). format_with k.attr) know.known_so, c.if-formats_clash.true) in
      (takes_as g.M.Machine {whole = λ s. copied_with s (input_view t.input) t.output (option_map names_view t.names) t.before.now t.edits.now found c.args.attr.now} (λ so. with_formats_clash shelf (input_view t.input) t.output (option_map names_view t.names) t.before.now t.edits.now found c.args.attr.now bad) (takes_none g.M.Machine (Err outcome.Dcb) c.requires.ready)).works told;
  later = λ told. omega arith;
  promise = search rules;
  faults = search rules;
}

pub returns-then-is_same : goal.returns-then-is_same
returns-then-is_same g c = record {
  works = λ told found know.
      let t = c.args.copy.now in
      let shelf = (g.M.Machine.meaning c.args.machine.now).state in
      let good : formats_clash (have_fields t.edits.now) (format_of found) (format_in c.args.attr.now) ≡ false = cc (c.formats_clash.ensures, c.have_fields.ensures, c.input_format-format.ensures, c.format_in.ensures, ap (λ (k : RecordInput). format_with k.attr) know.known_so, c.if-formats_clash.false) in
      (takes_as g.M.Machine {whole = λ s. copied_with s (input_view t.input) t.output (option_map names_view t.names) t.before.now t.edits.now found c.args.attr.now} (λ so. with_itself shelf (input_view t.input) t.output (option_map names_view t.names) t.before.now t.edits.now found c.args.attr.now good (sym c.is_same.ensures ∙ c.if-is_same.true)) (takes_none g.M.Machine (Err outcome.SameSet) c.requires.ready)).works told;
  later = λ told. omega arith;
  promise = search rules;
  faults = search rules;
}

pub write_edited-requires-clause-read : goal.write_edited-requires-clause-read
write_edited-requires-clause-read g c = ap first_fault (sym c.input_format-format.ensures) ∙ (formats_serve c.have_fields.result c.input_format-format.result c.format_in.result (sym c.formats_clash.ensures ∙ c.if-formats_clash.false)).0

pub write_edited-requires-clause-written : goal.write_edited-requires-clause-written
write_edited-requires-clause-written g c = ap first_fault (sym c.format_in.ensures) ∙ (formats_serve c.have_fields.result c.input_format-format.result c.format_in.result (sym c.formats_clash.ensures ∙ c.if-formats_clash.false)).1

pub write_edited-requires-clause-apart : goal.write_edited-requires-clause-apart
write_edited-requires-clause-apart g c = sym c.is_same.ensures ∙ c.if-is_same.false

pub returns-in_err-write_edited : goal.returns-in_err-write_edited
returns-in_err-write_edited g c = record {
  works = λ told found know.
      let t = c.args.copy.now in
      let shelf = (g.M.Machine.meaning c.args.machine.now).state in
      let good : formats_clash (have_fields t.edits.now) (format_of found) (format_in c.args.attr.now) ≡ false = cc (c.formats_clash.ensures, c.have_fields.ensures, c.input_format-format.ensures, c.format_in.ensures, ap (λ (k : RecordInput). format_with k.attr) know.known_so, c.if-formats_clash.false) in
      (takes_as g.M.Machine {whole = λ s. copied_with s (input_view t.input) t.output (option_map names_view t.names) t.before.now t.edits.now found c.args.attr.now} (λ so. with_output shelf (input_view t.input) t.output (option_map names_view t.names) t.before.now t.edits.now found c.args.attr.now good (sym c.is_same.ensures ∙ c.if-is_same.false))
      (takes_because_stops g.M.Machine outcome_for (λ s. write_output s t.output (option_map names_view t.names) c.args.attr.now (blocks_in (format_in c.args.attr.now) t.before.now t.edits.now found)) c.from_residual.result c.from_residual.ensures (takes_at g.M.Machine (rw c.in_err-write_edited.was at c.write_edited.ensures) told found know))).works told;
  later = search rules;
  promise = search rules;
  faults = search rules;
}

pub returns-in-Ok : goal.returns-in-Ok
returns-in-Ok g c = record {
  works = λ told found know.
      let t = c.args.copy.now in
      let shelf = (g.M.Machine.meaning c.args.machine.now).state in
      let good : formats_clash (have_fields t.edits.now) (format_of found) (format_in c.args.attr.now) ≡ false = cc (c.formats_clash.ensures, c.have_fields.ensures, c.input_format-format.ensures, c.format_in.ensures, ap (λ (k : RecordInput). format_with k.attr) know.known_so, c.if-formats_clash.false) in
      (takes_as g.M.Machine {whole = λ s. copied_with s (input_view t.input) t.output (option_map names_view t.names) t.before.now t.edits.now found c.args.attr.now} (λ so. with_output shelf (input_view t.input) t.output (option_map names_view t.names) t.before.now t.edits.now found c.args.attr.now good (sym c.is_same.ensures ∙ c.if-is_same.false))
      (takes_because g.M.Machine outcome_for (λ s. write_output s t.output (option_map names_view t.names) c.args.attr.now (blocks_in (format_in c.args.attr.now) t.before.now t.edits.now found)) (Ok tt) (takes_at g.M.Machine (rw c.in-Ok.is at c.in_ok-write_edited.ensures) told found know))).works told;
  later = search rules;
  promise = search rules;
  faults = search rules;
}

pub returns-in-Err : goal.returns-in-Err
returns-in-Err g c = record {
  works = λ told found know.
      let t = c.args.copy.now in
      let shelf = (g.M.Machine.meaning c.args.machine.now).state in
      let good : formats_clash (have_fields t.edits.now) (format_of found) (format_in c.args.attr.now) ≡ false = cc (c.formats_clash.ensures, c.have_fields.ensures, c.input_format-format.ensures, c.format_in.ensures, ap (λ (k : RecordInput). format_with k.attr) know.known_so, c.if-formats_clash.false) in
      rw c.outcome_for.ensures
      ((takes_as g.M.Machine {whole = λ s. copied_with s (input_view t.input) t.output (option_map names_view t.names) t.before.now t.edits.now found c.args.attr.now} (λ so. with_output shelf (input_view t.input) t.output (option_map names_view t.names) t.before.now t.edits.now found c.args.attr.now good (sym c.is_same.ensures ∙ c.if-is_same.false))
      (takes_because g.M.Machine outcome_for (λ s. write_output s t.output (option_map names_view t.names) c.args.attr.now (blocks_in (format_in c.args.attr.now) t.before.now t.edits.now found)) (Err c.in-Err.fault) (takes_at g.M.Machine (rw c.in-Err.is at c.in_ok-write_edited.ensures) told found know))).works told);
  later = search rules;
  promise = search rules;
  faults = search rules;
}
