use Rattle.std.proofs.Common.{sym, ◌∙◌, subst, arith, rules}
use Rattle.std.specs.Prelude.{option_map, Ok, Err}
use Rattle.vol_model.specs.declared.contents.Shelf.{Shelf}
use Rattle.vol_model.specs.Did.{Did}
use Rattle.vol_model.specs.Runs.{Works}
use Rattle.vol_model.proofs.Working.{works_idle, works_idle_broken}
use Rattle.util_steps.proofs.Reporting.{works_later}
use Rattle.util_syntax.specs.declared.listing.Outcome.{Outcome}
use Rattle.util_syntax.specs.declared.listing.Outcome.TheVariants as outcome
use Rattle.record_files.specs.Attributes.{format_in, format_with}
use Rattle.record_files.specs.Inputs.{IsThere, ReadsAs, input_view, records_of}
use Rattle.iebupdte_util.specs.Items.{edited_to, holds_cards, names_of, source_of, updated_with}
use Rattle.output_files.specs.Members.{names_view}
use Rattle.iebupdte_util.proofs.UpdateLemmas.{all_serve, cards_held, format_serves, same_set, with_clash, with_itself, with_records}
use Rattle.iebupdte_util.proofs.updating.update_with.Goals as goal

pub returns-in_err-old : goal.returns-in_err-old
returns-in_err-old g c = record {
  works = λ told found know.
      let shelf = (g.M.Machine.meaning c.args.machine.now).state in
      works_idle_broken (c.old_attr.ensures.same told) (g.met.M.Machine.durable c.args.machine.now told c.requires.ready.sound) (updated_with shelf c.args.sets.now c.args.function.now found c.args.attr.now) c.from_residual.result c.from_residual.ensures.0;
  later = λ told. (c.old_attr.ensures.same told).time.later;
  promise = c.old_attr.ensures.promise;
  faults = search rules;
}

pub returns-then-not-all_hold_cards : goal.returns-then-not-all_hold_cards
returns-then-not-all_hold_cards g c = record {
  works = λ told found know.
      let m = g.M.Machine.meaning in
      let s = g.M.Machine.status in
      let sets = c.args.sets.now in
      let f = c.args.function.now in
      let attr = c.args.attr.now in
      let shelf = (m c.args.machine.now).state in
      let new = c.old_attr.new.machine in
      let is = cards_held shelf sets c.args.known.now found attr c.in_ok-old.old c.all_hold_cards.result c.all_hold_cards.ensures (c.in_ok-old.ensures.value told) know.known_so in
      subst (λ (d : Did (Unit {0}) Outcome). Works g.M.Machine.tells_prints d (m c.args.machine.now) (m new) (s c.args.machine.now).done (s new).done (Ok (Err outcome.Dcb)))
      (sym (with_clash shelf sets f found attr (sym is ∙ c.if-not-all_hold_cards.true)))
      (works_idle (c.old_attr.ensures.same told) (g.met.M.Machine.durable c.args.machine.now told c.requires.ready.sound) (Err outcome.Dcb) c.old_attr.ensures.count);
  later = λ told. (c.old_attr.ensures.same told).time.later;
  promise = c.old_attr.ensures.promise;
  faults = search rules;
}

pub returns-then-is_same : goal.returns-then-is_same
returns-then-is_same g c = record {
  works = λ told found know.
      let m = g.M.Machine.meaning in
      let s = g.M.Machine.status in
      let sets = c.args.sets.now in
      let f = c.args.function.now in
      let attr = c.args.attr.now in
      let shelf = (m c.args.machine.now).state in
      let new = c.old_attr.new.machine in
      let is = cards_held shelf sets c.args.known.now found attr c.in_ok-old.old c.all_hold_cards.result c.all_hold_cards.ensures (c.in_ok-old.ensures.value told) know.known_so in
      let equal = same_set sets.out.to (source_of sets f.heading) (input_view c.source_of.result) (names_of f) (option_map names_view c.names_of.result) c.is_same.result c.is_same.ensures c.source_of.ensures c.names_of.ensures in
      subst (λ (d : Did (Unit {0}) Outcome). Works g.M.Machine.tells_prints d (m c.args.machine.now) (m new) (s c.args.machine.now).done (s new).done (Ok (Err outcome.SameSet)))
      (sym (with_itself shelf sets f found attr (sym is ∙ c.if-not-all_hold_cards.false) (sym equal ∙ c.if-is_same.true)))
      (works_idle (c.old_attr.ensures.same told) (g.met.M.Machine.durable c.args.machine.now told c.requires.ready.sound) (Err outcome.SameSet) c.old_attr.ensures.count);
  later = λ told. (c.old_attr.ensures.same told).time.later;
  promise = c.old_attr.ensures.promise;
  faults = search rules;
}

pub edit_to-requires-clause-read : goal.edit_to-requires-clause-read
edit_to-requires-clause-read g c =
    let input = format_with c.args.known.now.attr in
    let output = format_in c.args.attr.now in
    format_serves input (all_serve (holds_cards (format_with c.in_ok-old.old)) (holds_cards input) (holds_cards output) (sym c.all_hold_cards.ensures ∙ c.if-not-all_hold_cards.false)).0

pub edit_to-requires-clause-written : goal.edit_to-requires-clause-written
edit_to-requires-clause-written g c =
    let input = format_with c.args.known.now.attr in
    let output = format_in c.args.attr.now in
    format_serves output (all_serve (holds_cards (format_with c.in_ok-old.old)) (holds_cards input) (holds_cards output) (sym c.all_hold_cards.ensures ∙ c.if-not-all_hold_cards.false)).1

pub edit_to-requires-clause-apart : goal.edit_to-requires-clause-apart
edit_to-requires-clause-apart g c =
    let sets = c.args.sets.now in
    let f = c.args.function.now in
    let equal = same_set sets.out.to (source_of sets f.heading) (input_view c.source_of.result) (names_of f) (option_map names_view c.names_of.result) c.is_same.result c.is_same.ensures c.source_of.ensures c.names_of.ensures in
    sym equal ∙ c.if-is_same.false

pub returns : goal.returns
returns g c = record {
  works = λ told found know.
      let m = g.M.Machine.meaning in
      let s = g.M.Machine.status in
      let sets = c.args.sets.now in
      let f = c.args.function.now in
      let attr = c.args.attr.now in
      let shelf = (m c.args.machine.now).state in
      let mid = c.old_attr.new.machine in
      let read = c.old_attr.ensures.same told in
      let is = cards_held shelf sets c.args.known.now found attr c.in_ok-old.old c.all_hold_cards.result c.all_hold_cards.ensures (c.in_ok-old.ensures.value told) know.known_so in
      let equal = same_set sets.out.to (source_of sets f.heading) (input_view c.source_of.result) (names_of f) (option_map names_view c.names_of.result) c.is_same.result c.is_same.ensures c.source_of.ensures c.names_of.ensures in
      let still : ReadsAs (m mid).state (source_of sets f.heading) found = rw read.state know.reads in
      let is_there : IsThere (m mid).state sets.out.to = rw read.state know.output in
      subst (λ (d : Did (Unit {0}) Outcome). Works g.M.Machine.tells_prints d (m c.args.machine.now) (m c.edit_to.new.machine) (s c.args.machine.now).done (s c.edit_to.new.machine).done c.edit_to.result)
      (sym (with_records shelf sets f found attr (sym is ∙ c.if-not-all_hold_cards.false) (sym equal ∙ c.if-is_same.false)))
      (works_later read (g.met.M.Machine.durable c.args.machine.now told c.requires.ready.sound) (λ (x : Shelf). edited_to x sets.out f attr (records_of found)) c.edit_to.result c.old_attr.ensures.count
      (c.edit_to.ensures.works told found (record { reads = still; known_so = know.known_so; output = is_there })));
  later = λ told. omega (arith, (c.old_attr.ensures.same told).time.later, c.edit_to.ensures.later told);
  promise = λ told t known early kept. c.edit_to.ensures.promise told t known (omega (arith, early, (c.old_attr.ensures.same told).time.later)) (c.old_attr.ensures.promise told t known early kept);
  faults = search rules;
}
