-- What edited records give, call by call.
use Rattle.std.proofs.Common.{◌≡◌, ℕ, true, false, List, [], ◌∷◌, sym, ◌∙◌, ap, subst}
use Rattle.std.specs.Prelude.{Option, Some, None, Result, IfOk}
use Rattle.vol_model.specs.declared.answers.Stop.{Stop}
use Rattle.vol_model.specs.declared.contents.Shelf.{Shelf}
use Rattle.record_files.specs.declared.reader.RecordReader.{RecordReader}
use Rattle.record_files.specs.declared.taken.Taken.{Taken}
use Rattle.record_files.specs.Reader.{reader_given, reader_stream}
use Rattle.record_files.specs.Sources.{Gives}
use Rattle.record_files.specs.Streams.{Stream, at_end, at_fault, with_record}
use Rattle.iebgener_util.specs.declared.edited.EditedRecords.{EditedRecords}
use Rattle.iebgener_util.specs.declared.orders.Order.{Order}
use Rattle.iebgener_util.specs.declared.requests.Edit.{Edit}
use Rattle.iebgener_util.specs.declared.skipped_groups.SkippedGroups.{SkippedGroups}
use Rattle.iebgener_util.specs.Edited.{edited_given, edited_stream, given_of, groups_left}
use Rattle.iebgener_util.specs.Editing.{behind_groups, behind_orders, edited, edited_by, edited_record, edited_then, groups_behind, left_behind}
use Rattle.iebgener_util.specs.Items.{groups}
use Rattle.iebgener_util.specs.SkippedGroups.{left_by, left_of}
use Rattle.iebgener_util.proofs.SkipLemmas.{none_left}

-- the end and a fault stay where they are
pub end_left : (p : SkippedGroups) (st : Stream) → st ≡ at_end → left_of p st ≡ at_end
end_left p st is = ap (left_of p) is ∙ ap (λ (l : List (List ℕ)). record { records = l; broken = false }) (none_left p)

pub fault_left : (p : SkippedGroups) (st : Stream) → st ≡ at_fault → left_of p st ≡ at_fault
fault_left p st is = ap (left_of p) is ∙ ap (λ (l : List (List ℕ)). record { records = l; broken = true }) (none_left p)

-- a record is passed over, or it isn't
module _ (p q : SkippedGroups) (st others : Stream) (rec : List ℕ) (is : st ≡ with_record rec others) where
  pub record_skipped : left_by p (rec ∷ others.records) ≡ left_by q others.records → left_of p st ≡ left_of q others
  record_skipped passed = ap (left_of p) is ∙ ap (λ (l : List (List ℕ)). record { records = l; broken = others.broken }) passed

  pub record_left : left_by p (rec ∷ others.records) ≡ rec ∷ left_by q others.records → left_of p st ≡ with_record rec (left_of q others)
  record_left stays = ap (left_of p) is ∙ ap (λ (l : List (List ℕ)). record { records = l; broken = others.broken }) stays

-- ---- groups

module _ (e : EditedRecords) (shelf : Shelf) where
  abbrev left : Stream
  left = left_of e.skipped (reader_stream e.reader shelf)

  pub as_they_are : groups_left e ≡ None → edited_stream e shelf ≡ left
  unfolding edited_stream edited_by
  as_they_are is = ap (λ (o : Option (List Edit)). edited_by e.lrecl o left) is

  -- the last group has ended
  pub all_dropped : groups_left e ≡ Some [] → edited_stream e shelf ≡ at_end
  unfolding edited_stream edited_by
  all_dropped is = ap (λ (o : Option (List Edit)). edited_by e.lrecl o left) is

  module _ (edit : Edit) (others : List Edit) (is : groups_left e ≡ Some (edit ∷ others)) where
    by_groups : edited_stream e shelf ≡ edited e.lrecl left.broken (edit ∷ others) left.records
    unfolding edited_stream edited_by
    by_groups = ap (λ (o : Option (List Edit)). edited_by e.lrecl o left) is

    pub edited_end : left ≡ at_end → edited_stream e shelf ≡ at_end
    edited_end none = by_groups ∙ ap (λ (st : Stream). edited e.lrecl st.broken (edit ∷ others) st.records) none

    pub edited_fault : left ≡ at_fault → edited_stream e shelf ≡ at_fault
    edited_fault broken = by_groups ∙ ap (λ (st : Stream). edited e.lrecl st.broken (edit ∷ others) st.records) broken

    module _ (rec : List ℕ) (st : Stream) (first : left ≡ with_record rec st) where
      by_first : edited_stream e shelf ≡ edited_then (edited_record e.lrecl edit rec) (edited e.lrecl st.broken (groups_behind edit others rec) st.records)
      by_first = by_groups ∙ ap (λ (s : Stream). edited e.lrecl s.broken (edit ∷ others) s.records) first

      -- a field passes the end of a record
      pub one_broken : None ≡ edited_record e.lrecl edit rec → edited_stream e shelf ≡ at_fault
      one_broken none = by_first ∙ ap (λ (o : Option (List ℕ)). edited_then o (edited e.lrecl st.broken (groups_behind edit others rec) st.records)) (sym none)

      pub one_edited : (new : List ℕ) → Some new ≡ edited_record e.lrecl edit rec → edited_stream e shelf ≡ with_record new (edited e.lrecl st.broken (groups_behind edit others rec) st.records)
      one_edited new some = by_first ∙ ap (λ (o : Option (List ℕ)). edited_then o (edited e.lrecl st.broken (groups_behind edit others rec) st.records)) (sym some)

-- what comes of these groups
pub edited_as : (e : EditedRecords) (shelf : Shelf) (gs : List Edit) (st : Stream) → groups_left e ≡ Some gs → left_of e.skipped (reader_stream e.reader shelf) ≡ st → edited_stream e shelf ≡ edited e.lrecl st.broken gs st.records
unfolding edited_stream edited_by
edited_as e shelf gs st is same = ap (λ (o : Option (List Edit)). edited_by e.lrecl o (left_of e.skipped (reader_stream e.reader shelf))) is ∙ ap (λ (s : Stream). edited e.lrecl s.broken gs s.records) same

-- ---- the beginning

pub begun_edited : (e : EditedRecords) (reader : RecordReader) (lrecl : ℕ) (before : List Order) (edits : List Edit) → e.reader ≡ reader → e.lrecl ≡ lrecl → groups_left e ≡ groups edits → e.skipped.groups.now ≡ [] → e.skipped.orders.now ≡ before
    → (shelf : Shelf) (st : Stream) → reader_stream reader shelf ≡ st → edited_stream e shelf ≡ edited_by lrecl (groups edits) (left_behind before st)
unfolding edited_stream left_by
begun_edited e reader lrecl before edits of_reader of_lrecl of_groups none ahead shelf st is =
    ap (λ (r : RecordReader). edited_by e.lrecl (groups_left e) (left_of e.skipped (reader_stream r shelf))) of_reader
    ∙ ap (λ (s : Stream). edited_by e.lrecl (groups_left e) (left_of e.skipped s)) is
    ∙ ap (λ (gs : List Edit). edited_by e.lrecl (groups_left e) (record { records = behind_orders e.skipped.orders.now (behind_groups gs st.records); broken = st.broken })) none
    ∙ ap (λ (os : List Order). edited_by e.lrecl (groups_left e) (left_behind os st)) ahead
    ∙ ap (λ (n : ℕ). edited_by n (groups_left e) (left_behind before st)) of_lrecl
    ∙ ap (λ (o : Option (List Edit)). edited_by lrecl o (left_behind before st)) of_groups

-- records that stay as they are
pub plain_gives : (e f : EditedRecords) (shelf : Shelf) → groups_left e ≡ None → groups_left f ≡ None → (r : Result Taken Stop) → IfOk r (λ t. Gives t (left e shelf) (reader_given f.reader) (left f shelf)) → IfOk r (λ t. Gives t (edited_stream e shelf) (edited_given f) (edited_stream f shelf))
plain_gives e f shelf one two r gives =
    subst (λ (x : Stream). IfOk r (λ t. Gives t x (edited_given f) (edited_stream f shelf))) (sym (as_they_are e shelf one))
    (subst (λ (x : Stream). IfOk r (λ t. Gives t (left e shelf) (edited_given f) x)) (sym (as_they_are f shelf two))
    (subst (λ (o : Option (List Edit)). IfOk r (λ t. Gives t (left e shelf) (given_of o f) (left f shelf))) (sym two) gives))
