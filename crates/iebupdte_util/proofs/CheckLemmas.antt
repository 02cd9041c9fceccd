-- What the first reading tells of the records that are written.
use Rattle.std.proofs.Common.{◌≡◌, ◌⊎◌, ℕ, Bool, true, false, List, [], refl, sym, ap, ◌∙◌, inl, inr}
use Rattle.std.specs.Prelude.{◌&&◌, if◌then◌else◌, IsTrue, Option, Some, None, Result, Ok, Err}
use Rattle.vol_model.specs.declared.contents.Shelf.{Shelf}
use Rattle.util_syntax.specs.declared.listing.Outcome.{Outcome}
use Rattle.util_syntax.specs.declared.listing.Outcome.TheVariants.{BadRecord, SeqOrder}
use Rattle.record_files.specs.declared.reader.RecordReader.{RecordReader}
use Rattle.record_files.specs.Reader.{reader_given, reader_stream}
use Rattle.record_files.specs.Streams.{Stream}
use Rattle.iebupdte_util.specs.declared.edited.EditedRecords.{EditedRecords}
use Rattle.iebupdte_util.specs.declared.old_records.Next.{Next}
use Rattle.iebupdte_util.specs.declared.old_records.Next.TheVariants.{Wanted}
use Rattle.update_forms.specs.declared.orders.Function.{Function}
use Rattle.update_forms.specs.declared.records.CardRecord.{CardRecord}
use Rattle.update_forms.specs.declared.requests.Numbering.{Numbering}
use Rattle.update_forms.specs.declared.requests.Range.{Range}
use Rattle.iebupdte_util.specs.Checking.{Opens, Walks, cards_for, checked, edits, edits_fit, is_ordered, ranges_for}
use Rattle.iebupdte_util.specs.Edited.{edited_fits, edited_stream, last_of, left_with, olds_left, olds_order, order_with}
use Rattle.update_forms.specs.Editing.{rises}
use Rattle.iebupdte_util.specs.Items.{made_by}
use Rattle.update_forms.specs.Merging.{edited_of, fits_of, fits_on, merge, numbered_on, rises_from}
use Rattle.update_forms.specs.Orders.{reads_old}
use Rattle.update_forms.specs.Records.{records_in}
use Rattle.update_forms.proofs.NumberLemmas.{made_one_by_one, some_if}

-- ---- the beginning

module _ (e : EditedRecords) (f : Function) (reader : RecordReader) (of_reader : e.olds.reader ≡ reader) (next : e.olds.next ≡ Wanted) (shelf : Shelf) (st : Stream) (is : reader_stream reader shelf ≡ st) where
  all_left : olds_left e.olds (reader_stream e.olds.reader shelf) ≡ st
  all_left = ap (λ (x : Next). left_with x (reader_given e.olds.reader) (reader_stream e.olds.reader shelf)) next ∙ ap (λ (r : RecordReader). reader_stream r shelf) of_reader ∙ is

  opened_order : last_of e.olds ≡ None → IsTrue e.olds.rising → olds_order e.olds shelf ≡ rises_from None st.records
  opened_order last rising =
      ap (λ (x : Next). order_with x e.olds.rising (rises_from (last_of e.olds) (reader_stream e.olds.reader shelf).records)) next
      ∙ ap (λ (b : Bool). b && rises_from (last_of e.olds) (reader_stream e.olds.reader shelf).records) rising
      ∙ ap (λ (l : Option (List ℕ)). rises_from l (reader_stream e.olds.reader shelf).records) last
      ∙ ap (λ (s : Stream). rises_from None s.records) (ap (λ (r : RecordReader). reader_stream r shelf) of_reader ∙ is)

  module _ (ranges : e.ranges.now ≡ ranges_for f) (cards : e.cards.now ≡ cards_for f) (numbering : e.numbering ≡ f.numbering) where
    opened_stream : edited_stream e shelf ≡ edits f st
    unfolding edited_stream edits
    opened_stream =
        ap (λ (s : Stream). edited_of e.ranges.now e.numbering (records_in e.cards.now) s) all_left ∙ ap (λ (rs : List Range). edited_of rs e.numbering (records_in e.cards.now) st) ranges
        ∙ ap (λ (cs : List CardRecord). edited_of (ranges_for f) e.numbering (records_in cs) st) cards ∙ ap (λ (n : Option Numbering). edited_of (ranges_for f) n (records_in (cards_for f)) st) numbering

    opened_fits : IsTrue e.fits → edited_fits e shelf ≡ edits_fit f st
    unfolding edited_fits edits_fit
    opened_fits fits =
        ap (λ (b : Bool). b && fits_of e.ranges.now e.numbering (records_in e.cards.now) (olds_left e.olds (reader_stream e.olds.reader shelf))) fits
        ∙ ap (λ (s : Stream). fits_of e.ranges.now e.numbering (records_in e.cards.now) s) all_left ∙ ap (λ (rs : List Range). fits_of rs e.numbering (records_in e.cards.now) st) ranges
        ∙ ap (λ (cs : List CardRecord). fits_of (ranges_for f) e.numbering (records_in cs) st) cards ∙ ap (λ (n : Option Numbering). fits_of (ranges_for f) n (records_in (cards_for f)) st) numbering

    pub opened : last_of e.olds ≡ None → IsTrue e.olds.rising → IsTrue e.fits → Opens f st e shelf
    opened last rising fits = record { stream = opened_stream; order = opened_order last rising; fits = opened_fits fits }

-- ---- the answer

edits_broken : (f : Function) (st : Stream) → (edits f st).broken ≡ st.broken
unfolding edits edited_of
edits_broken f st = refl

module _ (f : Function) (st : Stream) where
  abbrev answer_if : Bool → Bool → Result (Unit {0}) Outcome
  answer_if broken ordered = if broken then Err BadRecord else (if ordered then Ok tt else Err SeqOrder)

  abbrev ordered : Bool
  ordered = is_ordered f (rises_from None st.records) (edits_fit f st)

  checked_by : (broken order : Bool) → st.broken ≡ broken → ordered ≡ order → checked f st ≡ answer_if broken order
  unfolding checked
  checked_by broken order one two = ap (λ (b : Bool). answer_if b ordered) one ∙ ap (answer_if broken) two

  module _ (e n : EditedRecords) (shelf : Shelf) (opens : Opens f st e shelf) where
    -- a fault ends the old records
    pub checked_broken : Walks false e n shelf → checked f st ≡ Err BadRecord
    checked_broken walked = checked_by true ordered (sym (edits_broken f st) ∙ sym (ap (λ (s : Stream). s.broken) opens.stream) ∙ walked) refl

    -- all are read
    pub checked_whole : Walks true e n shelf → (order : Bool) → order ≡ is_ordered f n.olds.rising n.fits → checked f st ≡ (if order then Ok tt else Err SeqOrder)
    checked_whole walked order is =
        checked_by false order (sym (edits_broken f st) ∙ sym (ap (λ (s : Stream). s.broken) opens.stream) ∙ walked.0)
        (sym (is ∙ ap (λ (b : Bool). is_ordered f b n.fits) (walked.1 ∙ opens.order) ∙ ap (λ (b : Bool). is_ordered f (rises_from None st.records) b) (walked.2 ∙ opens.fits)))

  -- a function makes the records that come one by one, where they are in order
  made_as : st.broken ≡ false → (reads_old f.heading.verb ≡ false → st.records ≡ []) → made_by f st.records ≡ some_if ordered (edits f st).records
  unfolding edits edits_fit edited_of fits_of rises_from
  made_as whole none =
      made_one_by_one f.ranges f.numbering f.data_cards st.records f.heading.verb none
      ∙ sym (ap (λ (b : Bool).
      let all = merge b (ranges_for f) st.records (records_in (cards_for f)) in some_if (is_ordered f (rises st.records) (fits_on f.numbering all)) (numbered_on f.numbering all)) whole)

  module _ (none : reads_old f.heading.verb ≡ false → st.records ≡ []) where
    pub made_edits : checked f st ≡ Ok tt → (st.broken ≡ false) × (made_by f st.records ≡ Some (edits f st).records) × (edits f st ≡ record { records = (edits f st).records; broken = false })
    unfolding checked
    made_edits is = by_tests st.broken ordered refl refl is
      where
        by_tests : (a b : Bool) → st.broken ≡ a → ordered ≡ b → answer_if a b ≡ Ok tt
            → (st.broken ≡ false) × (made_by f st.records ≡ Some (edits f st).records) × (edits f st ≡ record { records = (edits f st).records; broken = false })
        by_tests true b one two h = cc
        by_tests false false one two h = cc
        by_tests false true one two h =
            (one, made_as one none ∙ ap (λ (b : Bool). some_if b (edits f st).records) two, ap (λ (b : Bool). record { records = (edits f st).records; broken = b }) (edits_broken f st ∙ one))

    pub none_made : checked f st ≡ Err SeqOrder → (st.broken ≡ false) × (made_by f st.records ≡ None)
    unfolding checked
    none_made is = by_tests st.broken ordered refl refl is
      where
        by_tests : (a b : Bool) → st.broken ≡ a → ordered ≡ b → answer_if a b ≡ Err SeqOrder → (st.broken ≡ false) × (made_by f st.records ≡ None)
        by_tests true b one two h = cc
        by_tests false false one two h = (one, made_as one none ∙ ap (λ (b : Bool). some_if b (edits f st).records) two)
        by_tests false true one two h = cc

  pub all_broken : checked f st ≡ Err BadRecord → st.broken ≡ true
  unfolding checked
  all_broken is = by_tests st.broken ordered refl is
    where
      by_tests : (a b : Bool) → st.broken ≡ a → answer_if a b ≡ Err BadRecord → st.broken ≡ true
      by_tests true b one h = one
      by_tests false false one h = cc
      by_tests false true one h = cc

  -- there are two refusals
  pub refused_so : (o : Outcome) → checked f st ≡ Err o → (o ≡ BadRecord) ⊎ (o ≡ SeqOrder)
  unfolding checked
  refused_so o is = by_tests st.broken ordered is
    where
      by_tests : (a b : Bool) → answer_if a b ≡ Err o → (o ≡ BadRecord) ⊎ (o ≡ SeqOrder)
      by_tests true b h = inl (cc)
      by_tests false false h = inr (cc)
      by_tests false true h = cc
