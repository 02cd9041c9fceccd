use Rattle.std.proofs.Common.{◌≡◌, List, ◌∷◌, refl, sym, ◌∙◌, ap, rules}
use Rattle.std.proofs.lemmas.List.{nil_from_length}
use Rattle.std.specs.Prelude.{Some, None, option_map}
use Rattle.record_files.specs.Reader.{reader_given, reader_stream}
use Rattle.record_files.specs.Streams.{with_record}
use Rattle.record_files.proofs.CallLemmas.{beside_as, beside_none}
use Rattle.iebgener_util.specs.declared.requests.Edit.{Edit}
use Rattle.iebgener_util.specs.Edited.{groups_left}
use Rattle.iebgener_util.specs.Editing.{edited, edited_record}
use Rattle.iebgener_util.specs.SkippedGroups.{left_of}
use Rattle.iebgener_util.proofs.EditedLemmas.{all_dropped, edited_as, edited_end, edited_fault, one_broken, one_edited, plain_gives}
use Rattle.iebgener_util.proofs.edited.EditedRecordsRecordSource.next.Goals as goal

pub returns-in_default-clause-reads : goal.returns-in_default-clause-reads
returns-in_default-clause-reads g c = record {
  value = λ told.
      let none = ap (option_map (λ g. g.now)) c.in_default.is in
      plain_gives c.args.self.now _ (g.M.Machine.meaning c.args.machine.now).state none none c.next_left.result (c.next_left.ensures.reads.value told);
  runs = search rules;
  writer = search rules;
  count = search rules;
  promise = search rules;
  faults = search rules;
}

pub returns-in_default-split_first-clause-reads : goal.returns-in_default-split_first-clause-reads
returns-in_default-split_first-clause-reads g c =
    beside_none g.M.Machine _ c.requires.sound (λ told.
    let e = c.args.self.now in
    let some : groups_left e ≡ Some c.in-Some.groups.now = ap (option_map (λ g. g.now)) c.in-Some.is in
    all_dropped e (g.M.Machine.meaning c.args.machine.now).state (some ∙ ap Some (nil_from_length c.in-Some.groups.now c.in_default-split_first.ensures.cases)))

pub returns-in-End-clause-reads : goal.returns-in-End-clause-reads
returns-in-End-clause-reads g c =
    beside_as g.M.Machine (rw c.in-End.is at c.in_ok-next_left.ensures.reads) _ (λ told gives.
    let e = c.args.self.now in
    let edit = c.in-Some-split_first.edit.now in
    let others = c.in-Some-split_first.others.now in
    let some : groups_left e ≡ Some (edit ∷ others) = ap (option_map (λ g. g.now)) c.in-Some.is ∙ ap Some c.in-Some-split_first.ensures.cases.0 in
    edited_end e (g.M.Machine.meaning c.args.machine.now).state edit others some gives)

pub returns-in-Broken-clause-reads : goal.returns-in-Broken-clause-reads
returns-in-Broken-clause-reads g c =
    beside_as g.M.Machine (rw c.in-Broken.is at c.in_ok-next_left.ensures.reads) _ (λ told gives.
    let e = c.args.self.now in
    let edit = c.in-Some-split_first.edit.now in
    let others = c.in-Some-split_first.others.now in
    let some : groups_left e ≡ Some (edit ∷ others) = ap (option_map (λ g. g.now)) c.in-Some.is ∙ ap Some c.in-Some-split_first.ensures.cases.0 in
    edited_fault e (g.M.Machine.meaning c.args.machine.now).state edit others some gives)

pub returns-in-None-clause-reads : goal.returns-in-None-clause-reads
returns-in-None-clause-reads g c =
    beside_as g.M.Machine (rw c.in-Record.is at c.in_ok-next_left.ensures.reads) _ (λ told gives.
    let e = c.args.self.now in
    let shelf = (g.M.Machine.meaning c.args.machine.now).state in
    let edit = c.in-Some-split_first.edit.now in
    let others = c.in-Some-split_first.others.now in
    let some : groups_left e ≡ Some (edit ∷ others) = ap (option_map (λ g. g.now)) c.in-Some.is ∙ ap Some c.in-Some-split_first.ensures.cases.0 in
    let rec = reader_given c.next_left-2.new.reader in
    let st = left_of c.next_left-2.new.skipped (reader_stream c.next_left-2.new.reader shelf) in
    let broken : None ≡ edited_record e.lrecl edit rec = rw (c.in-None.is, c.last_record-rec.ensures) at c.in_ok-new.ensures in
    one_broken e shelf edit others some rec st gives broken)

pub returns-clause-reads : goal.returns-clause-reads
returns-clause-reads g c =
    beside_as g.M.Machine (rw c.in-Record.is at c.in_ok-next_left.ensures.reads) _ (λ told gives.
    let e = c.args.self.now in
    let shelf = (g.M.Machine.meaning c.args.machine.now).state in
    let edit = c.in-Some-split_first.edit.now in
    let others = c.in-Some-split_first.others.now in
    let some : groups_left e ≡ Some (edit ∷ others) = ap (option_map (λ g. g.now)) c.in-Some.is ∙ ap Some c.in-Some-split_first.ensures.cases.0 in
    let rec = reader_given c.next_left-2.new.reader in
    let st = left_of c.next_left-2.new.skipped (reader_stream c.next_left-2.new.reader shelf) in
    let new = c.in-Some-2.new.items in
    let made : Some new ≡ edited_record e.lrecl edit rec = rw (c.in-Some-2.is, c.last_record-rec.ensures) at c.in_ok-new.ensures in
    one_edited e shelf edit others some rec st gives new made
    ∙ ap (with_record new) (ap (λ (gs : List Edit). edited e.lrecl st.broken gs st.records) (sym (rw c.last_record-rec.ensures at c.in_ok-groups_behind.ensures)) ∙ sym (edited_as _ shelf c.in_ok-groups_behind.field-0.now st refl refl)))
