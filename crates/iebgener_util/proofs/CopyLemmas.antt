-- What a copy comes to, case by case.
use Rattle.std.proofs.Common.{◌≡◌, Bool, true, false, not, ◌&&◌, List, refl, sym, ◌∙◌, ap}
use Rattle.std.specs.Prelude.{◌||◌, if◌then◌else◌, is_some, Option, Some, None, Result, Ok, Err}
use Rattle.record_blocks.specs.declared.formats.Format.{Format}
use Rattle.record_blocks.specs.declared.formats.FormatErr.{FormatErr}
use Rattle.record_blocks.specs.Formats.{first_fault}
use Rattle.vol_model.specs.declared.answers.SetInfo.{SetInfo}
use Rattle.vol_model.specs.declared.contents.Attr.{Attr}
use Rattle.vol_model.specs.declared.contents.DataSet.{DataSet}
use Rattle.vol_model.specs.declared.contents.Shelf.{Shelf}
use Rattle.vol_model.specs.declared.refusals.Refusal.{Refusal}
use Rattle.vol_model.specs.Reading.{set_info}
use Rattle.vol_model.specs.Did.{Did, answered, with_reason}
use Rattle.util_syntax.specs.declared.listing.Outcome.{Outcome}
use Rattle.util_syntax.specs.declared.listing.Outcome.TheVariants as outcome
use Rattle.output_files.specs.declared.outputs.Output.{Output}
use Rattle.record_files.specs.declared.inputs.RecordInput.{RecordInput}
use Rattle.iebgener_util.specs.declared.orders.Order.{Order}
use Rattle.iebgener_util.specs.declared.requests.Edit.{Edit}
use Rattle.record_files.specs.Attributes.{format_in, found_both, output_attr}
use Rattle.record_files.specs.Inputs.{Found, InputView, format_of, found_input}
use Rattle.util_program.specs.Outcomes.{outcome_for}
use Rattle.iebgener_util.specs.Editing.{have_fields}
use Rattle.iebgener_util.specs.Items.{blocks_in, copied, copied_if, copied_with, formats_clash, is_fixed}
use Rattle.output_files.specs.Members.{MemberNames}
use Rattle.output_files.specs.Outputs.{found_output, is_same, write_output}
use Rattle.output_files.proofs.BothFound.{BothFound}

-- ---- formats

by_faults : (e : Bool) (a b : Option FormatErr) (fixed : Bool) → (is_some a || (is_some b || (e && not fixed))) ≡ false → (a ≡ None) × (b ≡ None)
by_faults e None None fixed is = (refl, refl)
by_faults e None (Some y) fixed is = let never : ⊥ = cc in absurd never
by_faults e (Some x) b fixed is = let never : ⊥ = cc in absurd never

-- formats that serve break no rule
pub formats_serve : (e : Bool) (a b : Format) → formats_clash e a b ≡ false → (first_fault a ≡ None) × (first_fault b ≡ None)
unfolding formats_clash
formats_serve e a b is = by_faults e (first_fault a) (first_fault b) (is_fixed b) is

-- ---- the copy

module _ (shelf : Shelf) (input : InputView) (out : Output) (names : Option MemberNames) (before : List Order) (edits : List Edit) where
  module _ (found : Found) (attr : Attr) where
    abbrev written_out : Did (Unit {0}) Outcome
    written_out = with_reason outcome_for (write_output shelf out names attr (blocks_in (format_in attr) before edits found))

    abbrev by_tests : Bool → Bool → Did (Unit {0}) Outcome
    by_tests bad same = if bad then answered (Err outcome.Dcb) else (if same then answered (Err outcome.SameSet) else written_out)

    -- the formats don't serve
    pub with_formats_clash : formats_clash (have_fields edits) (format_of found) (format_in attr) ≡ true → copied_with shelf input out names before edits found attr ≡ answered (Err outcome.Dcb)
    with_formats_clash bad = ap (λ (t : Bool). by_tests t (is_same input out.to names)) bad

    -- the output is the input
    pub with_itself : formats_clash (have_fields edits) (format_of found) (format_in attr) ≡ false → is_same input out.to names ≡ true → copied_with shelf input out names before edits found attr ≡ answered (Err outcome.SameSet)
    with_itself good same = ap (λ (t : Bool). by_tests t (is_same input out.to names)) good ∙ ap (by_tests false) same

    -- the records are written
    pub with_output : formats_clash (have_fields edits) (format_of found) (format_in attr) ≡ false → is_same input out.to names ≡ false → copied_with shelf input out names before edits found attr ≡ written_out
    with_output good apart = ap (λ (t : Bool). by_tests t (is_same input out.to names)) good ∙ ap (by_tests false) apart

  abbrev of_found : Result (Found × DataSet) Refusal → Did (Unit {0}) Outcome
  of_found b = copied_if shelf input out names before edits b

  -- one of the sets is refused
  pub copied_refused : (r : Refusal) → found_both (found_input shelf input) (found_output shelf out names) ≡ Err r → copied shelf input out names before edits ≡ answered (Err (outcome.Refused r))
  unfolding copied
  copied_refused r is = ap of_found is

module _ (shelf : Shelf) (input : InputView) (out : Output) (names : Option MemberNames) (before : List Order) (edits : List Edit) where
  abbrev of_sets : Result (Found × DataSet) Refusal → Did (Unit {0}) Outcome
  of_sets b = copied_if shelf input out names before edits b

  -- both are there
  pub copied_found : (p : RecordInput) (q : SetInfo) (b : BothFound (found_input shelf input) (found_output shelf out names) p q) → copied shelf input out names before edits ≡ copied_with shelf input out names before edits b.read (output_attr out.dcb q.attr p.attr)
  unfolding copied set_info
  copied_found p q b =
      ap (λ (f : Result Found Refusal). of_sets (found_both f (found_output shelf out names))) b.one ∙ ap (λ (x : Result DataSet Refusal). of_sets (found_both (Ok b.read) x)) b.two
      ∙ sym (ap (λ (i : SetInfo). copied_with shelf input out names before edits b.read (output_attr out.dcb i.attr p.attr)) b.info ∙ ap (λ (k : RecordInput). copied_with shelf input out names before edits b.read (output_attr out.dcb b.written.attr k.attr)) b.known)
