use Rattle.std.proofs.Common.{◌≡◌, ap, subst, rules}
use Rattle.std.specs.Prelude.{Option, None, option_map}
use Rattle.vol_model.specs.declared.answers.Mode.TheVariants as modes
use Rattle.vol_model.specs.Runs.{Works}
use Rattle.record_files.specs.Attributes.{format_in}
use Rattle.record_files.specs.Streams.{Stream}
use Rattle.record_files.specs.Writing.{appended, packed}
use Rattle.output_files.specs.declared.members.Names.{Names}
use Rattle.output_files.specs.Members.{names_view, stored}
use Rattle.output_files.proofs.OutputLemmas.{output_appended, output_rewritten, output_stored}
use Rattle.output_files.proofs.outputs.write_output.Goals as goal

pub returns-in-Some : goal.returns-in-Some
returns-in-Some g c = record {
  works = λ told st know.
      let m = g.M.Machine.meaning in
      let s = g.M.Machine.status in
      let out = c.args.output.now in
      let attr = c.args.attr.now in
      let shelf = (m c.args.machine.now).state in
      let own = names_view c.in-Some.names in
      output_stored out (option_map names_view c.args.names.now) attr (packed (format_in attr) st) c.write_named.result own (ap (λ (o : Option Names). option_map names_view o) c.in-Some.is)
      (subst (λ (x : Stream). Works g.M.Machine.tells_prints (stored shelf out.to own (packed (format_in attr) x)) (m c.args.machine.now) (m c.write_named.new.machine) (s c.args.machine.now).done (s c.write_named.new.machine).done c.write_named.result) know.gives
      (c.write_named.ensures.works told know.there.0 know.there.1));
  later = search rules;
  promise = search rules;
  faults = search rules;
}

pub returns-in-None : goal.returns-in-None
returns-in-None g c = record {
  works = λ told st know.
      let m = g.M.Machine.meaning in
      let s = g.M.Machine.status in
      let out = c.args.output.now in
      let attr = c.args.attr.now in
      let shelf = (m c.args.machine.now).state in
      output_appended out (option_map names_view c.args.names.now) attr (packed (format_in attr) st) c.add_records.result (ap (λ (o : Option Names). option_map names_view o) c.in-None.is) c.if-output.true
      (subst (λ (x : Stream). Works g.M.Machine.tells_prints (appended shelf out.to modes.Fill (packed (format_in attr) x)) (m c.args.machine.now) (m c.add_records.new.machine) (s c.args.machine.now).done (s c.add_records.new.machine).done c.add_records.result) know.gives
      (rw c.format_in.ensures at (c.add_records.ensures.works told)));
  later = λ told. (c.add_records.ensures.works told).runs.moments.later;
  promise = search rules;
  faults = search rules;
}

pub returns-in-None-2 : goal.returns-in-None-2
returns-in-None-2 g c = record {
  works = λ told st know.
      let named : option_map names_view c.args.names.now ≡ None = ap (λ (o : Option Names). option_map names_view o) c.in-None.is in
      output_rewritten c.args.output.now (option_map names_view c.args.names.now) c.args.attr.now (packed (format_in c.args.attr.now) st) c.rewrite_set.result named c.if-output.false (c.rewrite_set.ensures.works told st (know.beside named));
  later = search rules;
  promise = search rules;
  faults = search rules;
}
