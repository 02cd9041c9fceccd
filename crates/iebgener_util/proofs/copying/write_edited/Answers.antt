use Rattle.std.proofs.Common.{◌≡◌, false, refl, subst}
use Rattle.std.specs.Prelude.{Option, None, option_map}
use Rattle.vol_model.specs.Runs.{Works}
use Rattle.record_files.specs.Attributes.{format_in}
use Rattle.record_files.specs.Inputs.{input_view, records_of}
use Rattle.record_files.specs.Writing.{Coming}
use Rattle.output_files.specs.Members.{MemberNames, names_view}
use Rattle.output_files.specs.Outputs.{is_same, write_output}
use Rattle.output_files.proofs.BothFound.{reads_beside}
use Rattle.iebgener_util.specs.Editing.{edited_by, left_behind}
use Rattle.iebgener_util.specs.Items.{groups}
use Rattle.iebgener_util.proofs.OutputLemmas.{blocks_of_records}
use Rattle.iebgener_util.proofs.copying.write_edited.Goals as goal

pub returns : goal.returns
returns g c = record {
  works = λ told found know.
      let m = g.M.Machine.meaning in
      let s = g.M.Machine.status in
      let t = c.args.copy.now in
      let names = option_map names_view t.names in
      let input = input_view t.input in
      let attr = c.args.attr.now in
      let shelf = (m c.args.machine.now).state in
      let st = edited_by attr.lrecl (groups t.edits.now) (left_behind t.before.now (records_of found)) in
      subst (λ (x : Coming). Works g.M.Machine.tells_prints (write_output shelf t.output names attr x) (m c.args.machine.now) (m c.write_output.new.machine) (s c.args.machine.now).done (s c.write_output.new.machine).done c.write_output.result)
      (blocks_of_records (format_in attr) t.before.now t.edits.now found st refl)
      (c.write_output.ensures.works told st (record {
        there = know.output;
        gives = c.new-records.ensures shelf (records_of found) (c.in_ok-reader.ensures shelf found know.reads know.known_so);
        beside = λ none u kept.
            let apart : is_same input t.output.to None ≡ false = subst (λ (o : Option MemberNames). is_same input t.output.to o ≡ false) none c.requires.apart in
            c.new-records.ensures u (records_of found) (c.in_ok-reader.ensures u found (reads_beside shelf u input t.output.to found apart kept know.reads) know.known_so);
      }));
  later = c.write_output.ensures.later;
  promise = c.write_output.ensures.promise;
  faults = c.write_output.ensures.faults;
}
