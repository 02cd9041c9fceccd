-- Old records, read one ahead.
use Rattle.std.proofs.Common.{◌≡◌, ℕ, ◌+◌, ◌<◌, ◌≤◌, Bool, true, false, List, [], ◌∷◌, refl, sym, ap, ◌∙◌, arith}
use Rattle.std.specs.Prelude.{◌&&◌, Option, Some, None}
use Rattle.vol_model.specs.declared.contents.Shelf.{Shelf}
use Rattle.record_files.specs.declared.reader.RecordReader.{RecordReader}
use Rattle.record_files.specs.Reader.{reader_given, reader_most, reader_stream}
use Rattle.record_files.specs.Streams.{Stream, at_end, at_fault, with_record}
use Rattle.iebupdte_util.specs.declared.old_records.Next.{Next}
use Rattle.iebupdte_util.specs.declared.old_records.Next.TheVariants.{Wanted, Held, Ended}
use Rattle.iebupdte_util.specs.declared.old_records.OldRecords.{OldRecords}
use Rattle.iebupdte_util.specs.Edited.{last_of, left_with, most_with, olds_most, olds_order, olds_stream, order_with}
use Rattle.update_forms.specs.Editing.{rises}
use Rattle.update_forms.specs.Merging.{follows, rises_from}

pub and_assoc : (a b c : Bool) → ((a && b) && c) ≡ (a && (b && c))
and_assoc true b c = refl
and_assoc false b c = refl

pub and_true : (a : Bool) → (a && true) ≡ a
and_true true = refl
and_true false = refl

rises_first : (last : Option (List ℕ)) (r : List ℕ) (rs : List (List ℕ)) → rises_from last (r ∷ rs) ≡ (follows last r && rises_from (Some r) rs)
unfolding rises_from rises
rises_first None r rs = refl
rises_first (Some l) r rs = refl

rises_none : (last : Option (List ℕ)) → rises_from last [] ≡ true
unfolding rises_from rises
rises_none None = refl
rises_none (Some l) = refl

module _ (o n : OldRecords) (shelf : Shelf) (wanted : o.next ≡ Wanted) where
  abbrev to_come : Stream
  to_come = reader_stream o.reader shelf

  -- the next record is read
  module _ (held : n.next ≡ Held) (r : RecordReader) (of_reader : n.reader ≡ r) (first : to_come ≡ with_record (reader_given r) (reader_stream r shelf)) where
    gives : to_come ≡ with_record (reader_given n.reader) (reader_stream n.reader shelf)
    gives = first ∙ ap (λ (x : RecordReader). with_record (reader_given x) (reader_stream x shelf)) (sym of_reader)

    pub filled_stream : olds_stream o shelf ≡ olds_stream n shelf
    filled_stream =
        ap (λ (x : Next). left_with x (reader_given o.reader) to_come) wanted ∙ gives
        ∙ sym (ap (λ (x : Next). left_with x (reader_given n.reader) (reader_stream n.reader shelf)) held)

    pub filled_order : last_of n ≡ Some (reader_given r) → n.rising ≡ (o.rising && follows (last_of o) (reader_given r)) → olds_order o shelf ≡ olds_order n shelf
    filled_order is_last rises_so =
        let last : last_of n ≡ Some (reader_given n.reader) = is_last ∙ ap (λ (x : RecordReader). Some (reader_given x)) (sym of_reader) in
        let rising : n.rising ≡ (o.rising && follows (last_of o) (reader_given n.reader)) = rises_so ∙ ap (λ (x : RecordReader). o.rising && follows (last_of o) (reader_given x)) (sym of_reader) in
        let given = reader_given n.reader in
        let others = (reader_stream n.reader shelf).records in
        ap (λ (x : Next). order_with x o.rising (rises_from (last_of o) to_come.records)) wanted
        ∙ ap (λ (st : Stream). o.rising && rises_from (last_of o) st.records) gives
        ∙ ap (λ (b : Bool). o.rising && b) (rises_first (last_of o) given others)
        ∙ sym (and_assoc o.rising (follows (last_of o) given) (rises_from (Some given) others))
        ∙ sym (ap (λ (x : Next). order_with x n.rising (rises_from (last_of n) others)) held ∙ ap (λ (b : Bool). b && rises_from (last_of n) others) rising
        ∙ ap (λ (l : Option (List ℕ)). (o.rising && follows (last_of o) given) && rises_from l others) last)

  -- there is none
  module _ (ended : n.next ≡ Ended) (gives : to_come ≡ at_end) where
    pub ended_stream : olds_stream o shelf ≡ olds_stream n shelf
    ended_stream =
        ap (λ (x : Next). left_with x (reader_given o.reader) to_come) wanted ∙ gives
        ∙ sym (ap (λ (x : Next). left_with x (reader_given n.reader) (reader_stream n.reader shelf)) ended)

    pub ended_order : n.rising ≡ o.rising → olds_order o shelf ≡ olds_order n shelf
    ended_order rising =
        ap (λ (x : Next). order_with x o.rising (rises_from (last_of o) to_come.records)) wanted
        ∙ ap (λ (st : Stream). o.rising && rises_from (last_of o) st.records) gives
        ∙ ap (λ (b : Bool). o.rising && b) (rises_none (last_of o)) ∙ and_true o.rising
        ∙ sym (ap (λ (x : Next). order_with x n.rising (rises_from (last_of n) (reader_stream n.reader shelf).records)) ended ∙ rising)

-- fewer are left to be read where one is held
pub filled_most : (o n : OldRecords) (r : RecordReader) → o.next ≡ Wanted → n.next ≡ Held → n.reader ≡ r → reader_most r < reader_most o.reader → olds_most n ≤ olds_most o
filled_most o n r wanted held of_reader fewer =
    let now : olds_most n ≡ reader_most r + 1 = ap (λ (x : Next). most_with x (reader_most n.reader)) held ∙ ap (λ (x : RecordReader). reader_most x + 1) of_reader in
    let before : olds_most o ≡ reader_most o.reader = ap (λ (x : Next). most_with x (reader_most o.reader)) wanted in
    omega arith

pub fault_left : (o : OldRecords) (shelf : Shelf) → o.next ≡ Wanted → reader_stream o.reader shelf ≡ at_fault → olds_stream o shelf ≡ at_fault
fault_left o shelf wanted is = ap (λ (x : Next). left_with x (reader_given o.reader) (reader_stream o.reader shelf)) wanted ∙ is
