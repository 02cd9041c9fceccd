use Rattle.std.proofs.Common.{refl, sym, ◌∙◌, subst}
use Rattle.std.specs.Prelude.{Err, option_map}
use Rattle.vol_model.specs.declared.contents.Shelf.{Shelf}
use Rattle.vol_model.specs.Did.{Did}
use Rattle.vol_model.specs.Runs.{Works}
use Rattle.util_steps.proofs.Taking.{ready_after, takes_none, takes_read, takes_unread}
use Rattle.util_syntax.specs.declared.listing.Outcome.{Outcome}
use Rattle.util_syntax.specs.declared.listing.Outcome.TheVariants as outcome
use Rattle.record_files.specs.Attributes.{FindsSet}
use Rattle.record_files.specs.Inputs.{IsFound, found_input, input_view}
use Rattle.record_files.proofs.FoundLemmas.{reads_found}
use Rattle.iebgener_util.specs.Items.{copied}
use Rattle.output_files.specs.Members.{AreLawful, names_view}
use Rattle.output_files.specs.Outputs.{found_output}
use Rattle.output_files.proofs.BothFound.{both_found, both_refused, both_there, output_there}
use Rattle.iebgener_util.proofs.CopyLemmas.{copied_found, copied_refused}
use Rattle.iebgener_util.proofs.copying.copy_records.Goals as goal

pub returns-in_err-known : goal.returns-in_err-known
returns-in_err-known g c = takes_unread g.M.Machine _ c.from_residual.result c.from_residual.ensures (λ told. g.met.M.Machine.durable c.args.machine.now told c.requires.sound) (rw c.in_err-known.was at c.find_input.ensures)

pub returns-in_err-own : goal.returns-in_err-own
returns-in_err-own g c =
    let whole : Shelf → Did (Unit {0}) Outcome = λ shelf. copied shelf (input_view c.args.copy.now.input) c.args.copy.now.output (option_map names_view c.args.copy.now.names) c.args.copy.now.before.now c.args.copy.now.edits.now in
    takes_read g.M.Machine {did = whole} (λ told. g.met.M.Machine.durable c.args.machine.now told c.requires.sound) c.in_ok-known.ensures (λ told found. refl)
    (takes_unread g.M.Machine whole c.from_residual-in_err-own.result c.from_residual-in_err-own.ensures (λ told. g.met.M.Machine.durable c.find_input.new.machine told c.in_ok-known.ensures.faults.sound) (rw c.in_err-own.was at c.find_output.ensures.reads))

pub returns-in-Err : goal.returns-in-Err
returns-in-Err g c =
    let t = c.args.copy.now in
    let input = input_view t.input in
    let whole : Shelf → Did (Unit {0}) Outcome = λ shelf. copied shelf (input_view c.args.copy.now.input) c.args.copy.now.output (option_map names_view c.args.copy.now.names) c.args.copy.now.before.now c.args.copy.now.edits.now in
    takes_read g.M.Machine {did = whole} (λ told. g.met.M.Machine.durable c.args.machine.now told c.requires.sound) c.in_ok-known.ensures (λ told found. refl)
    (takes_read g.M.Machine {whole = whole} (λ told. g.met.M.Machine.durable c.find_input.new.machine told c.in_ok-known.ensures.faults.sound) c.in_ok-own.ensures.reads
    (λ told finds.
    let s = (g.M.Machine.meaning c.find_input.new.machine).state in
    let found = subst (λ (x : Shelf). IsFound c.in_ok-known.known (found_input x input)) (sym (c.in_ok-known.ensures.same told).state) (c.in_ok-known.ensures.value told) in
    copied_refused s input t.output (option_map names_view t.names) t.before.now t.edits.now c.in-Err.refusal (both_refused (found_input s input) (found_output s t.output (option_map names_view t.names)) c.in_ok-known.known c.in_ok-own.own c.in-Err.refusal found finds c.in-Err.ensures))
    (takes_none g.M.Machine (Err (outcome.Refused c.in-Err.refusal)) (ready_after g.M.Machine c.in_ok-own.ensures.reads.faults)))

pub returns-in-Ok : goal.returns-in-Ok
returns-in-Ok g c =
    let t = c.args.copy.now in
    let input = input_view t.input in
    let whole : Shelf → Did (Unit {0}) Outcome = λ shelf. copied shelf (input_view c.args.copy.now.input) c.args.copy.now.output (option_map names_view c.args.copy.now.names) c.args.copy.now.before.now c.args.copy.now.edits.now in
    takes_read g.M.Machine {did = whole} (λ told. g.met.M.Machine.durable c.args.machine.now told c.requires.sound) c.in_ok-known.ensures (λ told found. refl)
    (takes_read g.M.Machine {did = whole} {whole = whole} (λ told. g.met.M.Machine.durable c.find_input.new.machine told c.in_ok-known.ensures.faults.sound) c.in_ok-own.ensures.reads (λ told finds. refl)
    (record {
      works = λ told.
          let m = g.M.Machine.meaning in
          let s = (m c.find_output.new.machine).state in
          let one = (c.in_ok-known.ensures.same told).state in
          let two = (c.in_ok-own.ensures.reads.same told).state in
          let found = subst (λ (x : Shelf). IsFound c.in_ok-known.known (found_input x input)) (sym (two ∙ one)) (c.in_ok-known.ensures.value told) in
          let finds = subst (λ (x : Shelf). FindsSet c.in_ok-own.own (found_output x t.output (option_map names_view t.names))) (sym two) (c.in_ok-own.ensures.reads.value told) in
          let b = both_found (found_input s input) (found_output s t.output (option_map names_view t.names)) c.in_ok-known.known c.in_ok-own.own c.in-Ok.known c.in-Ok.own found finds c.in-Ok.ensures in
          let works = c.copy_with.ensures.works told b.read (record { reads = reads_found s input b.read b.one; known_so = b.known; output = output_there s t.output (option_map names_view t.names) b.written b.two }) in
          subst (λ (d : Did (Unit {0}) Outcome). Works g.M.Machine.tells_prints d (m c.find_output.new.machine) (m c.copy_with.new.machine) (g.M.Machine.status c.find_output.new.machine).done (g.M.Machine.status c.copy_with.new.machine).done c.copy_with.result)
          (sym (copied_found s input t.output (option_map names_view t.names) t.before.now t.edits.now c.in-Ok.known c.in-Ok.own b)) (rw c.output_attr-attr.ensures at works);
      promise = c.copy_with.ensures.promise;
      faults = c.copy_with.ensures.faults;
    }))

pub copy_with-requires-clause-lawful : goal.copy_with-requires-clause-lawful
copy_with-requires-clause-lawful g c = both_there c.in_ok-known.known c.in_ok-own.own c.in-Ok.known c.in-Ok.own (AreLawful (option_map names_view c.args.copy.now.names)) c.in-Ok.ensures c.in_ok-own.ensures.lawful
