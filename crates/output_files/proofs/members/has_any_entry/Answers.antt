use Rattle.std.proofs.Common.{List, Bool, refl, sym, ap, ◌∙◌, Ok}
use Rattle.std.proofs.lemmas.List.{nil_from_length}
use Rattle.std.specs.Prelude.{◌||◌}
use Rattle.std.specs.List.{list_any}
use Rattle.ebcdic_names.specs.declared.names.Name8.{Name8}
use Rattle.vol_model.specs.declared.contents.Entry.{Entry}
use Rattle.vol_model.specs.Shelf.{has_member}
use Rattle.record_files.proofs.Reading.{reads_as, reads_none, reads_stops, reads_then}
use Rattle.output_files.proofs.MemberLemmas.{not_refused, told_so}
use Rattle.output_files.proofs.members.has_any_entry.Goals as goal

abbrev any : List Entry → List Name8 → Bool
any es ns = list_any (λ (a : Name8). has_member a.bytes es) ns

pub loop-parts-init : goal.loop-parts-init
loop-parts-init g c = record { read = reads_none g.M.Machine tt c.requires (g.met.M.Machine.counts_now c.args.machine.now) (λ told es is. refl) }

pub returns-in-None : goal.returns-in-None
returns-in-None g c = reads_as g.M.Machine c.loop-parts.invariant.read _ (λ told so es is. ap Ok (sym (so es is ∙ ap (any es) (nil_from_length c.loop-parts.rest.now c.in-None.ensures.cases))))

pub returns-in_err-has_entry : goal.returns-in_err-has_entry
returns-in_err-has_entry g c = reads_stops g.M.Machine c.loop-parts.invariant.read c.from_residual.result c.from_residual.ensures (rw c.in_err-has_entry.was at c.has_entry.ensures)

pub returns-in-Ok-true : goal.returns-in-Ok-true
returns-in-Ok-true g c = reads_then g.M.Machine c.loop-parts.invariant.read _ (rw (c.in-Ok-true.is, c.in-Ok-true.field-0-test) at c.in_ok-has_entry.ensures) (λ told so has es is. ap Ok (sym (so es is ∙ ap (any es) c.in-Some.ensures.cases.0 ∙ ap (λ (t : Bool). t || any es c.in-Some.parts.1.now) (sym (told_so _ _ (has es is))))))

pub returns-in-Err : goal.returns-in-Err
returns-in-Err g c = reads_then g.M.Machine c.loop-parts.invariant.read _ (rw c.in-Err.is at c.in_ok-has_entry.ensures) (λ told so never es is. absurd (not_refused c.in-Err.refusal _ (never es is)))

pub loop-parts-preserved : goal.loop-parts-preserved
loop-parts-preserved g c = record {
  read = reads_then g.M.Machine c.loop-parts.invariant.read tt (rw (c.in-Ok-false.is, c.in-Ok-false.field-0-test) at c.in_ok-has_entry.ensures) (λ told so has es is. so es is ∙ ap (any es) c.in-Some.ensures.cases.0 ∙ ap (λ (t : Bool). t || any es c.in-Some.parts.1.now) (sym (told_so _ _ (has es is))));
}
