use Rattle.std.proofs.Common.{refl, sym, ◌∙◌, ap, subst, arith, rules}
use Rattle.std.specs.Prelude.{Option, Ok, Err}
use Rattle.vol_model.specs.declared.contents.Attr.{Attr}
use Rattle.vol_model.specs.declared.contents.Shelf.{Shelf}
use Rattle.vol_model.specs.Did.{Did, answered}
use Rattle.vol_model.specs.Runs.{Works}
use Rattle.vol_model.proofs.Working.{works_idle}
use Rattle.util_steps.proofs.Reporting.{works_later}
use Rattle.util_steps.proofs.Taking.{takes_read, takes_unread}
use Rattle.util_syntax.specs.declared.listing.Outcome.{Outcome}
use Rattle.util_syntax.specs.declared.listing.Outcome.TheVariants as outcome
use Rattle.record_files.specs.Attributes.{FindsSet, output_attr}
use Rattle.record_files.specs.Inputs.{InputView, IsFound, ReadsAs, found_input}
use Rattle.record_files.proofs.FoundLemmas.{reads_found}
use Rattle.iebupdte_util.specs.Items.{names_of, source_of, updated, updated_with}
use Rattle.output_files.specs.Members.{AreLawful, MemberNames}
use Rattle.output_files.specs.Outputs.{found_output}
use Rattle.output_files.proofs.BothFound.{both_found, both_refused, both_there, output_there}
use Rattle.iebupdte_util.proofs.UpdateLemmas.{updated_found, updated_refused}
use Rattle.iebupdte_util.proofs.updating.update.Goals as goal

pub returns-in_err-own : goal.returns-in_err-own
returns-in_err-own g c =
    let whole : Shelf → Did (Unit {0}) Outcome = λ shelf. updated shelf c.args.sets.now c.args.function.now in
    takes_read g.M.Machine {did = whole} (λ told. g.met.M.Machine.durable c.args.machine.now told c.requires.sound) c.in_ok-known.ensures (λ told found. refl)
    (takes_unread g.M.Machine whole c.from_residual-in_err-own.result c.from_residual-in_err-own.ensures (λ told. g.met.M.Machine.durable c.find_input.new.machine told c.in_ok-known.ensures.faults.sound) (rw c.in_err-own.was at c.find_output.ensures.reads))

pub returns-in-Err : goal.returns-in-Err
returns-in-Err g c = record {
  works = λ told.
      let m = g.M.Machine.meaning in
      let s = g.M.Machine.status in
      let sets = c.args.sets.now in
      let f = c.args.function.now in
      let shelf = (m c.args.machine.now).state in
      let r = c.in-Err.refusal in
      let durable = g.met.M.Machine.durable c.args.machine.now told c.requires.sound in
      let durable-2 = g.met.M.Machine.durable c.find_input.new.machine told c.in_ok-known.ensures.faults.sound in
      let found : IsFound c.in_ok-known.known (found_input shelf (source_of sets f.heading)) =
      subst (λ (i : InputView). IsFound c.in_ok-known.known (found_input shelf i)) c.source_of-input.ensures (c.in_ok-known.ensures.value told) in
      let finds : FindsSet c.in_ok-own.own (found_output shelf sets.out (names_of f)) =
      subst (λ (n : Option MemberNames). FindsSet c.in_ok-own.own (found_output shelf sets.out n)) c.names_of-names.ensures
      (rw (c.find_input.ensures.same told).state at (c.in_ok-own.ensures.reads.value told)) in
      let refused = both_refused (found_input shelf (source_of sets f.heading)) (found_output shelf sets.out (names_of f)) c.in_ok-known.known c.in_ok-own.own r found finds c.in-Err.ensures in
      subst (λ (d : Did (Unit {0}) Outcome). Works g.M.Machine.tells_prints d (m c.args.machine.now) (m c.find_output.new.machine) (s c.args.machine.now).done (s c.find_output.new.machine).done (Ok (Err (outcome.Refused r))))
      (sym (updated_refused shelf sets f r refused))
      (works_later (c.find_input.ensures.same told) durable (λ (x : Shelf). answered (Err (outcome.Refused r))) (Ok (Err (outcome.Refused r))) c.find_input.ensures.count
      (works_idle (c.find_output.ensures.reads.same told) durable-2 (Err (outcome.Refused r)) c.find_output.ensures.reads.count));
  promise = λ told t known early kept. c.find_output.ensures.reads.promise told t known (omega (arith, early, (c.find_input.ensures.same told).time.later)) (c.find_input.ensures.promise told t known early kept);
  faults = search rules;
}

pub returns-in-Ok : goal.returns-in-Ok
returns-in-Ok g c = record {
  works = λ told.
      let m = g.M.Machine.meaning in
      let s = g.M.Machine.status in
      let sets = c.args.sets.now in
      let f = c.args.function.now in
      let input = source_of sets f.heading in
      let shelf = (m c.args.machine.now).state in
      let durable = g.met.M.Machine.durable c.args.machine.now told c.requires.sound in
      let durable-2 = g.met.M.Machine.durable c.find_input.new.machine told c.in_ok-known.ensures.faults.sound in
      let one = (c.find_input.ensures.same told).state in
      let two = (c.find_output.ensures.reads.same told).state in
      let found : IsFound c.in_ok-known.known (found_input shelf input) = subst (λ (i : InputView). IsFound c.in_ok-known.known (found_input shelf i)) c.source_of-input.ensures (c.in_ok-known.ensures.value told) in
      let finds : FindsSet c.in_ok-own.own (found_output shelf sets.out (names_of f)) =
      subst (λ (n : Option MemberNames). FindsSet c.in_ok-own.own (found_output shelf sets.out n)) c.names_of-names.ensures (rw one at (c.in_ok-own.ensures.reads.value told)) in
      let b = both_found (found_input shelf input) (found_output shelf sets.out (names_of f)) c.in_ok-known.known c.in_ok-own.own c.in-Ok.known c.in-Ok.own found finds c.in-Ok.ensures in
      let still : ReadsAs (m c.find_output.new.machine).state input b.read = subst (λ (x : Shelf). ReadsAs x input b.read) (sym (two ∙ one)) (reads_found shelf input b.read b.one) in
      let did : Shelf → Did (Unit {0}) Outcome = λ x. updated_with x sets f b.read (output_attr sets.out.dcb c.in-Ok.own.attr c.in-Ok.known.attr) in
      subst (λ (d : Did (Unit {0}) Outcome). Works g.M.Machine.tells_prints d (m c.args.machine.now) (m c.update_with.new.machine) (s c.args.machine.now).done (s c.update_with.new.machine).done c.update_with.result)
      (sym (updated_found shelf sets f c.in-Ok.known c.in-Ok.own b))
      (works_later (c.find_input.ensures.same told) durable did c.update_with.result c.find_input.ensures.count
      (works_later (c.find_output.ensures.reads.same told) durable-2 did c.update_with.result c.find_output.ensures.reads.count
      (subst (λ (a : Attr). Works g.M.Machine.tells_prints (updated_with (m c.find_output.new.machine).state sets f b.read a) (m c.find_output.new.machine) (m c.update_with.new.machine) (s c.find_output.new.machine).done (s c.update_with.new.machine).done c.update_with.result) c.output_attr-attr.ensures
      (c.update_with.ensures.works told b.read (record {
        reads = still;
        known_so = b.known;
        output = output_there (m c.find_output.new.machine).state sets.out (names_of f) b.written (ap (λ (x : Shelf). found_output x sets.out (names_of f)) (two ∙ one) ∙ b.two);
      })))));
  promise = λ told t known early kept.
      let one = (c.find_input.ensures.same told).time.later in
      let two = (c.find_output.ensures.reads.same told).time.later in
      c.update_with.ensures.promise told t known (omega (arith, early, one, two)) (c.find_output.ensures.reads.promise told t known (omega (arith, early, one)) (c.find_input.ensures.promise told t known early kept));
  faults = search rules;
}

pub update_with-requires-clause-lawful : goal.update_with-requires-clause-lawful
update_with-requires-clause-lawful g c =
    both_there c.in_ok-known.known c.in_ok-own.own c.in-Ok.known c.in-Ok.own (AreLawful (names_of c.args.function.now)) c.in-Ok.ensures (rw c.names_of-names.ensures at c.in_ok-own.ensures.lawful)
