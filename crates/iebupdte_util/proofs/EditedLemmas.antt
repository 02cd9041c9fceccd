-- What edited records give, call by call.
use Rattle.std.proofs.Common.{◌≡◌, List, sym, ap, ◌∙◌}
use Rattle.std.specs.Prelude.{◌&&◌}
use Rattle.vol_model.specs.declared.contents.Shelf.{Shelf}
use Rattle.record_files.specs.declared.reader.RecordReader.{RecordReader}
use Rattle.record_files.specs.Reader.{reader_given, reader_stream}
use Rattle.record_files.specs.Streams.{Stream, at_end, at_fault, with_record}
use Rattle.iebupdte_util.specs.declared.edited.EditedRecords.{EditedRecords}
use Rattle.iebupdte_util.specs.declared.edited.Step.TheVariants as steps
use Rattle.iebupdte_util.specs.declared.old_records.Next.{Next}
use Rattle.iebupdte_util.specs.declared.old_records.OldRecords.{OldRecords}
use Rattle.update_forms.specs.declared.records.CardRecord.{CardRecord}
use Rattle.iebupdte_util.specs.Edited.{GaveNext, edited_fits, edited_stream, edited_with, fits_with, last_of, left_with, olds_order, olds_stream, order_with}
use Rattle.update_forms.specs.Merging.{edited_of, fits_of, fits_on, merge, numbered_on, rises_from}
use Rattle.update_forms.specs.Records.{records_in}
use Rattle.iebupdte_util.proofs.OldLemmas.{and_true}

-- the next old record is read
module _ (e : EditedRecords) (o : OldRecords) (s : Shelf) where
  abbrev filled : EditedRecords
  filled = record e { olds = o }

  pub filled_edited : olds_stream e.olds s ≡ olds_stream o s → edited_stream e s ≡ edited_stream filled s
  unfolding edited_stream
  filled_edited same = ap (λ (st : Stream). edited_of e.ranges.now e.numbering (records_in e.cards.now) st) same

  pub filled_fits : olds_stream e.olds s ≡ olds_stream o s → edited_fits e s ≡ edited_fits filled s
  unfolding edited_fits
  filled_fits same = ap (λ (st : Stream). e.fits && fits_of e.ranges.now e.numbering (records_in e.cards.now) st) same

-- a fault stands in its place: no card comes any more
pub fault_edited : (e : EditedRecords) (s : Shelf) → olds_stream e.olds s ≡ at_fault → edited_stream e s ≡ at_fault
unfolding edited_stream edited_of merge numbered_on
fault_edited e s is = ap (λ (st : Stream). edited_of e.ranges.now e.numbering (records_in e.cards.now) st) is

module _ (f h : EditedRecords) (s : Shelf) where
  abbrev here : RecordReader → Stream
  here r = reader_stream r s

  -- a record is given
  pub record_edited : GaveNext steps.Record f h → edited_stream f s ≡ with_record h.rec.items (edited_stream h s)
  unfolding edited_stream
  record_edited is = is.gave (here f.olds.reader) ∙ ap (λ (r : RecordReader). with_record h.rec.items (edited_with h (here r))) (sym is.reader)

  -- one is dropped
  pub part_edited : GaveNext steps.Part f h → edited_stream f s ≡ edited_stream h s
  unfolding edited_stream
  part_edited is = is.gave (here f.olds.reader) ∙ ap (λ (r : RecordReader). edited_with h (here r)) (sym is.reader)

  -- none is left
  pub end_edited : GaveNext steps.End f h → edited_stream f s ≡ at_end
  unfolding edited_stream
  end_edited is = is.gave (here f.olds.reader)

  pub record_fits : GaveNext steps.Record f h → edited_fits h s ≡ edited_fits f s
  unfolding edited_fits
  record_fits is = ap (λ (r : RecordReader). fits_with h (here r)) is.reader ∙ is.fits (here f.olds.reader)

  pub part_fits : GaveNext steps.Part f h → edited_fits h s ≡ edited_fits f s
  unfolding edited_fits
  part_fits is = ap (λ (r : RecordReader). fits_with h (here r)) is.reader ∙ is.fits (here f.olds.reader)

  -- at the end it is known whether all rise and have numbers of eight digits
  pub end_rises : GaveNext steps.End f h → h.olds.rising ≡ olds_order f.olds s
  end_rises is =
      sym (ap (λ (x : Next). order_with x h.olds.rising (rises_from (last_of h.olds) (here h.olds.reader).records)) is.fewer.0) ∙ is.order s

  pub end_fits : GaveNext steps.End f h → h.fits ≡ edited_fits f s
  unfolding edited_fits fits_of fits_on merge
  end_fits is =
      sym (ap (λ (x : Next). h.fits && fits_of h.ranges.now h.numbering (records_in h.cards.now) (left_with x (reader_given h.olds.reader) (here f.olds.reader))) is.fewer.0
      ∙ ap (λ (cs : List CardRecord). h.fits && fits_of h.ranges.now h.numbering (records_in cs) at_end) is.fewer.1 ∙ and_true h.fits)
      ∙ is.fits (here f.olds.reader)
