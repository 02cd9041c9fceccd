-- What is given next.
use Rattle.std.proofs.Common.{◌≡◌, ℕ, ◌+◌, ◌<◌, Bool, false, List, [], ◌∷◌, length, refl, sym, ap, ◌∙◌, arith}
use Rattle.std.specs.Prelude.{◌&&◌, Option, Some, None}
use Rattle.vol_model.specs.declared.contents.Shelf.{Shelf}
use Rattle.record_files.specs.declared.reader.RecordReader.{RecordReader}
use Rattle.record_files.specs.Reader.{reader_given, reader_most, reader_stream}
use Rattle.record_files.specs.Streams.{Stream, with_record}
use Rattle.iebupdte_util.specs.declared.edited.EditedRecords.{EditedRecords}
use Rattle.iebupdte_util.specs.declared.edited.Step.TheVariants as steps
use Rattle.update_forms.specs.declared.merging.Choice.TheVariants as choices
use Rattle.iebupdte_util.specs.declared.old_records.Next.{Next}
use Rattle.iebupdte_util.specs.declared.old_records.Next.TheVariants.{Wanted, Held}
use Rattle.iebupdte_util.specs.declared.old_records.OldRecords.{OldRecords}
use Rattle.update_forms.specs.declared.records.CardRecord.{CardRecord}
use Rattle.update_forms.specs.declared.requests.Numbering.{Numbering}
use Rattle.iebupdte_util.specs.Edited.{GaveNext, GivesCard, GivesOld, OldsStay, edited_with, last_of, left_with, most_with, old_held, olds_left, olds_most, olds_order, order_with}
use Rattle.update_forms.specs.Merging.{choice_of, edited_of, fits_of, number_fits, number_given, numbering_after, rises_from}
use Rattle.update_forms.specs.Records.{records_in}
use Rattle.iebupdte_util.proofs.OldLemmas.{and_assoc}
use Rattle.iebupdte_util.proofs.StepLemmas.{card_edited, card_instead_edited, first_of, none_edited, old_dropped, old_edited}

-- a record that was held is done with
module _ (o n : OldRecords) (held : o.next ≡ Held) (is : OldsStay Wanted o n) where
  pub passed_left : (st : Stream) → olds_left n st ≡ st
  passed_left st = ap (λ (x : Next). left_with x (reader_given n.reader) st) is.here

  pub passed_order : (shelf : Shelf) → olds_order n shelf ≡ olds_order o shelf
  passed_order shelf =
      ap (λ (x : Next). order_with x n.rising (rises_from (last_of n) (reader_stream n.reader shelf).records)) is.here
      ∙ ap (λ (b : Bool). b && rises_from (last_of n) (reader_stream n.reader shelf).records) is.rising
      ∙ ap (λ (l : Option (List ℕ)). o.rising && rises_from l (reader_stream n.reader shelf).records) is.last
      ∙ ap (λ (r : RecordReader). o.rising && rises_from (last_of o) (reader_stream r shelf).records) is.reader
      ∙ sym (ap (λ (x : Next). order_with x o.rising (rises_from (last_of o) (reader_stream o.reader shelf).records)) held)

  pub passed_most : olds_most n < olds_most o
  passed_most =
      let now : olds_most n ≡ reader_most o.reader = ap (λ (x : Next). most_with x (reader_most n.reader)) is.here ∙ ap reader_most is.reader in
      let before : olds_most o ≡ reader_most o.reader + 1 = ap (λ (x : Next). most_with x (reader_most o.reader)) held in
      omega arith

module _ (e f : EditedRecords) (not : e.olds.next ≡ Wanted → ⊥) where
  abbrev r : List ℕ
  r = reader_given e.olds.reader

  -- what comes of the same ranges, numbers and cards
  edited_as : (st l : Stream) (n : Option Numbering) (cs : List CardRecord) → f.ranges ≡ e.ranges → f.numbering ≡ n → f.cards.now ≡ cs → olds_left f.olds st ≡ l → edited_with f st ≡ edited_of e.ranges.now n (records_in cs) l
  edited_as st l n cs a b c d = cc (a, b, c, d)

  fits_as : (st l : Stream) (n : Option Numbering) (cs : List CardRecord) → f.ranges ≡ e.ranges → f.numbering ≡ n → f.cards.now ≡ cs → olds_left f.olds st ≡ l → fits_of f.ranges.now f.numbering (records_in f.cards.now) (olds_left f.olds st) ≡ fits_of e.ranges.now n (records_in cs) l
  fits_as st l n cs a b c d = cc (a, b, c, d)

  fits_later : (x y : Bool) → f.fits ≡ (e.fits && number_fits e.numbering) → y ≡ (number_fits e.numbering && x) → (f.fits && x) ≡ (e.fits && y)
  fits_later x y one two = ap (λ (b : Bool). b && x) one ∙ and_assoc e.fits (number_fits e.numbering) x ∙ sym (ap (λ (b : Bool). e.fits && b) two)

  -- the old record
  pub gave_old : choice_of e.ranges.now (old_held e.olds) (first_of (records_in e.cards.now)) ≡ choices.Old → GivesOld e f → GaveNext steps.Record e f
  gave_old is gives =
      let by = λ (st : Stream). old_edited e.ranges.now e.numbering r st (records_in e.cards.now) e.olds.next not is in
      let held = (by (record { records = []; broken = false })).2 in
      let here = λ (st : Stream). passed_left e.olds f.olds held gives.olds st in
      let cards : f.cards.now ≡ e.cards.now = ap (λ c. c.now) gives.cards in
      record {
        gave = λ st.
            (by st).0 ∙ ap (λ (l : List ℕ). with_record l (edited_of e.ranges.now (numbering_after e.numbering) (records_in e.cards.now) st)) (sym gives.rec)
            ∙ ap (λ (s : Stream). with_record f.rec.items s) (sym (edited_as st st (numbering_after e.numbering) e.cards.now gives.ranges gives.numbering cards (here st)));
        fits = λ st.
            ap (λ (b : Bool). f.fits && b) (fits_as st st (numbering_after e.numbering) e.cards.now gives.ranges gives.numbering cards (here st))
            ∙ fits_later (fits_of e.ranges.now (numbering_after e.numbering) (records_in e.cards.now) st) (fits_of e.ranges.now e.numbering (records_in e.cards.now) (olds_left e.olds st)) gives.fits (by st).1;
        order = passed_order e.olds f.olds held gives.olds;
        reader = gives.olds.reader;
        fewer = let fewer = passed_most e.olds f.olds held gives.olds in let same : length f.cards.now ≡ length e.cards.now = ap length cards in omega arith;
      }

  -- it is dropped
  pub gave_dropped : choice_of e.ranges.now (old_held e.olds) (first_of (records_in e.cards.now)) ≡ choices.Drop → OldsStay Wanted e.olds f.olds → f.ranges ≡ e.ranges → f.numbering ≡ e.numbering → f.cards ≡ e.cards → f.fits ≡ e.fits → GaveNext steps.Part e f
  gave_dropped is olds ranges numbering same fits =
      let by = λ (st : Stream). old_dropped e.ranges.now e.numbering r st (records_in e.cards.now) e.olds.next not is in
      let held = (by (record { records = []; broken = false })).2 in
      let here = λ (st : Stream). passed_left e.olds f.olds held olds st in
      let cards : f.cards.now ≡ e.cards.now = ap (λ c. c.now) same in
      record {
        gave = λ st. (by st).0 ∙ sym (edited_as st st e.numbering e.cards.now ranges numbering cards (here st));
        fits = λ st.
            ap (λ (b : Bool). f.fits && b) (fits_as st st e.numbering e.cards.now ranges numbering cards (here st))
            ∙ ap (λ (b : Bool). b && fits_of e.ranges.now e.numbering (records_in e.cards.now) st) fits ∙ sym (ap (λ (b : Bool). e.fits && b) (by st).1);
        order = passed_order e.olds f.olds held olds;
        reader = olds.reader;
        fewer = let fewer = passed_most e.olds f.olds held olds in let equal : length f.cards.now ≡ length e.cards.now = ap length cards in omega arith;
      }

  module _ (c : CardRecord) (others : List CardRecord) (are : e.cards.now ≡ c ∷ others) where
    abbrev lines : List (List ℕ)
    lines = records_in others

    as_first : (st : Stream) → edited_with e st ≡ edited_of e.ranges.now e.numbering (c.bytes ∷ lines) (olds_left e.olds st)
    as_first st = ap (λ (l : List CardRecord). edited_of e.ranges.now e.numbering (records_in l) (olds_left e.olds st)) are

    fits_first : (st : Stream) → fits_of e.ranges.now e.numbering (records_in e.cards.now) (olds_left e.olds st) ≡ fits_of e.ranges.now e.numbering (c.bytes ∷ lines) (olds_left e.olds st)
    fits_first st = ap (λ (l : List CardRecord). fits_of e.ranges.now e.numbering (records_in l) (olds_left e.olds st)) are

    -- a card
    pub gave_card : choice_of e.ranges.now (old_held e.olds) (Some c.bytes) ≡ choices.Card → GivesCard c others e f → GaveNext steps.Record e f
    gave_card is gives =
        let by = λ (st : Stream). card_edited e.ranges.now e.numbering r st c.bytes lines e.olds.next not is in
        let here = λ (st : Stream). ap (λ (o : OldRecords). olds_left o st) gives.olds in
        record {
          gave = λ st.
              as_first st ∙ (by st).0 ∙ ap (λ (l : List ℕ). with_record l (edited_of e.ranges.now (numbering_after e.numbering) lines (olds_left e.olds st))) (sym gives.rec)
              ∙ ap (λ (s : Stream). with_record f.rec.items s) (sym (edited_as st (olds_left e.olds st) (numbering_after e.numbering) others gives.ranges gives.numbering gives.cards (here st)));
          fits = λ st.
              ap (λ (b : Bool). f.fits && b) (fits_as st (olds_left e.olds st) (numbering_after e.numbering) others gives.ranges gives.numbering gives.cards (here st))
              ∙ fits_later (fits_of e.ranges.now (numbering_after e.numbering) lines (olds_left e.olds st)) (fits_of e.ranges.now e.numbering (records_in e.cards.now) (olds_left e.olds st)) gives.fits (fits_first st ∙ (by st).1);
          order = λ shelf. ap (λ (o : OldRecords). olds_order o shelf) gives.olds;
          reader = ap (λ (o : OldRecords). o.reader) gives.olds;
          fewer = let same : olds_most f.olds ≡ olds_most e.olds = ap olds_most gives.olds in let now : length f.cards.now ≡ length others = ap length gives.cards in let before : length e.cards.now ≡ length (c ∷ others) = ap length are in omega arith;
        }

    -- a card in the place of the old record
    pub gave_instead : (m : EditedRecords) → choice_of e.ranges.now (old_held e.olds) (Some c.bytes) ≡ choices.Instead → GivesCard c others e m → OldsStay Wanted m.olds f.olds
        → f.rec ≡ m.rec → f.ranges ≡ m.ranges → f.numbering ≡ m.numbering → f.cards ≡ m.cards → f.fits ≡ m.fits → GaveNext steps.Record e f
    gave_instead m is gives olds rec ranges numbering same fits =
        let by = λ (st : Stream). card_instead_edited e.ranges.now e.numbering r st c.bytes lines e.olds.next not is in
        let held = (by (record { records = []; broken = false })).2 in
        let stay : OldsStay Wanted e.olds f.olds = record {
          here = olds.here;
          reader = olds.reader ∙ ap (λ (o : OldRecords). o.reader) gives.olds;
          last = olds.last ∙ ap last_of gives.olds;
          rising = olds.rising ∙ ap (λ (o : OldRecords). o.rising) gives.olds;
        } in
        let here = λ (st : Stream). passed_left e.olds f.olds held stay st in
        let cards : f.cards.now ≡ others = ap (λ x. x.now) same ∙ gives.cards in
        let given : f.rec.items ≡ number_given e.numbering c.bytes = ap (λ v. v.items) rec ∙ gives.rec in
        record {
          gave = λ st.
              as_first st ∙ (by st).0 ∙ ap (λ (l : List ℕ). with_record l (edited_of e.ranges.now (numbering_after e.numbering) lines st)) (sym given)
              ∙ ap (λ (s : Stream). with_record f.rec.items s) (sym (edited_as st st (numbering_after e.numbering) others (ranges ∙ gives.ranges) (numbering ∙ gives.numbering) cards (here st)));
          fits = λ st.
              ap (λ (b : Bool). f.fits && b) (fits_as st st (numbering_after e.numbering) others (ranges ∙ gives.ranges) (numbering ∙ gives.numbering) cards (here st))
              ∙ fits_later (fits_of e.ranges.now (numbering_after e.numbering) lines st) (fits_of e.ranges.now e.numbering (records_in e.cards.now) (olds_left e.olds st)) (fits ∙ gives.fits) (fits_first st ∙ (by st).1);
          order = passed_order e.olds f.olds held stay;
          reader = stay.reader;
          fewer = let fewer = passed_most e.olds f.olds held stay in let now : length f.cards.now ≡ length others = ap length cards in let before : length e.cards.now ≡ length (c ∷ others) = ap length are in omega arith;
        }

-- neither is left
pub gave_none : (e : EditedRecords) → (e.olds.next ≡ Wanted → ⊥) → e.cards.now ≡ [] → (choice_of e.ranges.now (old_held e.olds) None ≡ choices.Old → ⊥) → (choice_of e.ranges.now (old_held e.olds) None ≡ choices.Drop → ⊥) → GaveNext steps.End e e
gave_none e not are no_old no_drop =
    let by = λ (st : Stream). none_edited e.ranges.now e.numbering (reader_given e.olds.reader) st e.olds.next not no_old no_drop in
    record {
      gave = λ st. ap (λ (l : List CardRecord). edited_of e.ranges.now e.numbering (records_in l) (olds_left e.olds st)) are ∙ (by st).1;
      fits = λ st. refl;
      order = λ shelf. refl;
      reader = refl;
      fewer = ((by (record { records = []; broken = false })).0, are);
    }
