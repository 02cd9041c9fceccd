-- What a function comes to, case by case.
use Rattle.std.proofs.Common.{◌≡◌, ◌⊎◌, ℕ, inl, inr, Bool, true, false, not, ◌&&◌, List, [], refl, sym, ◌∙◌, ap, subst}
use Rattle.std.specs.Prelude.{◌==◌, if◌then◌else◌, is_none, bit_and, Option, Some, None, option_map, Result, Ok, Err}
use Rattle.record_blocks.specs.declared.formats.Format.{Format}
use Rattle.record_blocks.specs.declared.formats.FormatErr.{FormatErr}
use Rattle.record_blocks.specs.Formats.{first_fault}
use Rattle.vol_model.specs.declared.answers.SetInfo.{SetInfo}
use Rattle.vol_model.specs.declared.contents.Attr.{Attr}
use Rattle.vol_model.specs.declared.contents.DataSet.{DataSet}
use Rattle.vol_model.specs.declared.contents.Shelf.{Shelf}
use Rattle.vol_model.specs.declared.refusals.Refusal.{Refusal}
use Rattle.vol_model.specs.Did.{Did, answered, with_reason}
use Rattle.vol_model.specs.Reading.{set_info}
use Rattle.util_steps.specs.declared.calls.SetRef.{SetRef}
use Rattle.util_syntax.specs.declared.listing.Outcome.{Outcome}
use Rattle.util_syntax.specs.declared.listing.Outcome.TheVariants as outcome
use Rattle.util_program.specs.Outcomes.{outcome_for}
use Rattle.record_files.specs.declared.inputs.RecordInput.{RecordInput}
use Rattle.record_files.specs.Attributes.{format_with, found_both, output_attr}
use Rattle.record_files.specs.Inputs.{Found, InputView, ReadsAs, format_of, found_cards, found_input, known_of, records_of}
use Rattle.record_files.specs.Reading.{card_records}
use Rattle.record_files.specs.Streams.{Stream}
use Rattle.update_forms.specs.declared.orders.Function.{Function}
use Rattle.output_files.specs.declared.outputs.Output.{Output}
use Rattle.iebupdte_util.specs.declared.edited.EditedRecords.{EditedRecords}
use Rattle.iebupdte_util.specs.Edited.{edited_stream}
use Rattle.iebupdte_util.specs.declared.updating.Sets.{Sets}
use Rattle.iebupdte_util.specs.Checking.{Opens, checked, edits}
use Rattle.iebupdte_util.specs.Items.{all_hold_cards, old_attr, blocks_of_records, edited_to, holds_cards, made_by, names_of, source_if, source_of, updated, updated_if, updated_with, written_if}
use Rattle.output_files.specs.Members.{MemberNames}
use Rattle.output_files.specs.Outputs.{GivesTo, KnowsSets, found_output, is_same, write_output}
use Rattle.output_files.proofs.BothFound.{BothFound, reads_beside}
use Rattle.update_forms.specs.Orders.{reads_old}
use Rattle.iebupdte_util.proofs.CheckLemmas.{all_broken, none_made, refused_so}

-- ---- formats

by_fault : (a : Option FormatErr) (others : Bool) → (is_none a && others) ≡ true → a ≡ None
by_fault None others is = refl
by_fault (Some e) others is = cc

-- a format that holds cards breaks no rule
pub format_serves : (f : Format) → holds_cards f ≡ true → first_fault f ≡ None
unfolding holds_cards
format_serves f is = by_fault (first_fault f) (bit_and f.recfm 0xC0 == 0x80 && f.lrecl == 80) is

pub all_serve : (a b c : Bool) → (a && (b && c)) ≡ true → (b ≡ true) × (c ≡ true)
all_serve true true c is = (refl, is)
all_serve true false c is = cc
all_serve false b c is = cc

-- the attributes of a set that is told of
pub attr_told : (info : SetInfo) (o : Option DataSet) → Some info ≡ option_map set_info o → Some info.attr ≡ option_map (λ (x : DataSet). x.attr) o
unfolding set_info
attr_told info None is = cc
attr_told info (Some x) is = let same : info ≡ set_info x = cc in ap (λ (i : SetInfo). Some i.attr) same

pub attr_untold : (o : Option DataSet) → None ≡ option_map set_info o → None ≡ option_map (λ (x : DataSet). x.attr) o
attr_untold None is = refl
attr_untold (Some x) is = cc

-- ---- a function

-- the tests of a function, of what was found
pub cards_held : (shelf : Shelf) (sets : Sets) (known : RecordInput) (found : Found) (attr : Attr) (old : Option Attr) (held : Bool) → held ≡ all_hold_cards old (format_with known.attr) attr → old ≡ old_attr shelf sets.old → known ≡ known_of found → held ≡ all_hold_cards (old_attr shelf sets.old) (format_of found) attr
cards_held shelf sets known found attr old held is one two =
    is ∙ ap (λ (a : Option Attr). all_hold_cards a (format_with known.attr) attr) one ∙ ap (λ (k : RecordInput). all_hold_cards (old_attr shelf sets.old) (format_with k.attr) attr) two

pub same_set : (to : SetRef) (input i : InputView) (names n : Option MemberNames) (same : Bool) → same ≡ is_same i to n → i ≡ input → n ≡ names → same ≡ is_same input to names
same_set to input i names n same is one two = is ∙ ap (λ (v : InputView). is_same v to n) one ∙ ap (is_same input to) two

module _ (shelf : Shelf) (sets : Sets) (f : Function) where
  module _ (found : Found) (attr : Attr) where
    abbrev by_tests : Bool → Bool → Did (Unit {0}) Outcome
    by_tests good same = if not good then answered (Err outcome.Dcb) else (if same then answered (Err outcome.SameSet) else edited_to shelf sets.out f attr (records_of found))

    abbrev serve : Bool
    serve = all_hold_cards (old_attr shelf sets.old) (format_of found) attr

    abbrev same : Bool
    same = is_same (source_of sets f.heading) sets.out.to (names_of f)

    -- a format doesn't hold cards
    pub with_clash : serve ≡ false → updated_with shelf sets f found attr ≡ answered (Err outcome.Dcb)
    with_clash bad = ap (λ (t : Bool). by_tests t same) bad

    -- the output is the input
    pub with_itself : serve ≡ true → same ≡ true → updated_with shelf sets f found attr ≡ answered (Err outcome.SameSet)
    with_itself good is = ap (λ (t : Bool). by_tests t same) good ∙ ap (by_tests true) is

    -- the records are written
    pub with_records : serve ≡ true → same ≡ false → updated_with shelf sets f found attr ≡ edited_to shelf sets.out f attr (records_of found)
    with_records good apart = ap (λ (t : Bool). by_tests t same) good ∙ ap (by_tests true) apart

  -- one of the sets is refused
  pub updated_refused : (r : Refusal) → found_both (found_input shelf (source_of sets f.heading)) (found_output shelf sets.out (names_of f)) ≡ Err r → updated shelf sets f ≡ answered (Err (outcome.Refused r))
  unfolding updated
  updated_refused r is = ap (λ (b : Result (Found × DataSet) Refusal). updated_if shelf sets f b) is

module _ (shelf : Shelf) (out : Output) (f : Function) (attr : Attr) (st : Stream) where
  abbrev by_fault_of : Bool → Did (Unit {0}) Outcome
  by_fault_of broken = if broken then answered (Err outcome.BadRecord) else written_if shelf out (names_of f) attr (made_by f st.records)

  pub edited_broken : st.broken ≡ true → edited_to shelf out f attr st ≡ answered (Err outcome.BadRecord)
  unfolding edited_to
  edited_broken is = ap by_fault_of is

  pub edited_unordered : st.broken ≡ false → made_by f st.records ≡ None → edited_to shelf out f attr st ≡ answered (Err outcome.SeqOrder)
  unfolding edited_to
  edited_unordered is none = ap by_fault_of is ∙ ap (written_if shelf out (names_of f) attr) none

  pub edited_written : (rs : List (List ℕ)) → st.broken ≡ false → made_by f st.records ≡ Some rs → edited_to shelf out f attr st ≡ with_reason outcome_for (write_output shelf out (names_of f) attr (blocks_of_records attr rs))
  unfolding edited_to
  edited_written rs is some = ap by_fault_of is ∙ ap (written_if shelf out (names_of f) attr) some

  -- what the first reading refuses isn't written
  pub edited_refused : (o : Outcome) → (reads_old f.heading.verb ≡ false → st.records ≡ []) → checked f st ≡ Err o → edited_to shelf out f attr st ≡ answered (Err o)
  edited_refused o none is = by_answer (refused_so f st o is)
    where
      by_answer : (o ≡ outcome.BadRecord) ⊎ (o ≡ outcome.SeqOrder) → edited_to shelf out f attr st ≡ answered (Err o)
      by_answer (inl e) = edited_broken (all_broken f st (is ∙ ap Err e)) ∙ ap (λ (x : Outcome). answered (Err x)) (sym e)
      by_answer (inr e) = let bad = none_made f st none (is ∙ ap Err e) in edited_unordered bad.0 bad.1 ∙ ap (λ (x : Outcome). answered (Err x)) (sym e)

-- ADD and REPL read no old records
pub no_olds : (shelf : Shelf) (sets : Sets) (f : Function) (found : Found) → ReadsAs shelf (source_of sets f.heading) found → reads_old f.heading.verb ≡ false → (records_of found).records ≡ []
unfolding card_records
no_olds shelf sets f found reads none =
    let is : found ≡ found_cards [] = (rw (ap (λ (b : Bool). source_if b sets.old f.heading.name) none) at reads) in
    ap (λ (x : Found). (records_of x).records) is

module _ (shelf : Shelf) (sets : Sets) (f : Function) where
  abbrev of_sets : Result (Found × DataSet) Refusal → Did (Unit {0}) Outcome
  of_sets b = updated_if shelf sets f b

  -- both are there
  pub updated_found : (p : RecordInput) (q : SetInfo) (b : BothFound (found_input shelf (source_of sets f.heading)) (found_output shelf sets.out (names_of f)) p q) → updated shelf sets f ≡ updated_with shelf sets f b.read (output_attr sets.out.dcb q.attr p.attr)
  unfolding updated set_info
  updated_found p q b =
      ap (λ (x : Result Found Refusal). of_sets (found_both x (found_output shelf sets.out (names_of f)))) b.one ∙ ap (λ (x : Result DataSet Refusal). of_sets (found_both (Ok b.read) x)) b.two
      ∙ sym (ap (λ (i : SetInfo). updated_with shelf sets f b.read (output_attr sets.out.dcb i.attr p.attr)) b.info ∙ ap (λ (k : RecordInput). updated_with shelf sets f b.read (output_attr sets.out.dcb b.written.attr k.attr)) b.known)

-- what is opened gives the records of the function to the output
pub gives_edits : (sets : Sets) (f : Function) (known : RecordInput) (e : EditedRecords) (shelf : Shelf) (found : Found) → KnowsSets (source_of sets f.heading) known sets.out.to shelf found
    → is_same (source_of sets f.heading) sets.out.to (names_of f) ≡ false
    → ((u : Shelf) (x : Found) → ReadsAs u (source_of sets f.heading) x → known ≡ known_of x → Opens f (records_of x) e u)
    → GivesTo sets.out.to (names_of f) (edited_stream e) shelf (edits f (records_of found))
gives_edits sets f known e shelf found know apart opens = record {
  there = know.output;
  gives = (opens shelf found know.reads know.known_so).stream;
  beside = λ none u kept.
      let input = source_of sets f.heading in
      let other : is_same input sets.out.to None ≡ false = subst (λ (o : Option MemberNames). is_same input sets.out.to o ≡ false) none apart in
      (opens u found (reads_beside shelf u input sets.out.to found other kept know.reads) know.known_so).stream;
}
