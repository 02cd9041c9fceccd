-- A writer after the blocks of a data set to which blocks can be written.
use Rattle.std.proofs.Common.{◌≡◌, ℕ, Bool, true, false, cond, List, [], ◌∷◌, Some, None, refl, sym, ap, ◌∙◌, subst}
use Rattle.std.specs.Prelude.{slice_get}
use Rattle.dscb_codec.specs.declared.Dscb.TheVariants as formats
use Rattle.dscb_codec.specs.declared.F1.{F1}
use Rattle.ebcdic_names.specs.declared.names.Dsn.{Dsn}
use Rattle.pack_spec.specs.Volume.{attr_of}
use Rattle.pack_spec.proofs.BodyKinds.{partitioned_body, sequential_body}
use Rattle.pack_spec.proofs.PartBodies.{part_or_unread}
use Rattle.pack_spec.proofs.SeqBodies.{seq_or_unread}
use Rattle.vol_model.specs.declared.answers.Mode.{Mode}
use Rattle.vol_model.specs.declared.answers.Mode.TheVariants.{Area, Fill}
use Rattle.vol_model.specs.declared.contents.Body.{Body}
use Rattle.vol_model.specs.declared.contents.Shelf.{Shelf}
use Rattle.vol_model.specs.declared.refusals.Refusal.TheVariants as refusals
use Rattle.vol_model.specs.Places.{end_of_file, is_open_ended}
use Rattle.vol_model.specs.Shelf.{fits_mode, put_first, unreadable}
use Rattle.vol_model.specs.Writing.{begin_refusal, body_on}
use Rattle.vtoc_index.specs.Index.{first_named}
use Rattle.vtoc_index.specs.declared.vol.Vol.{Vol}
use Rattle.vtoc_sets.specs.Sets.{HasSet, extents_in}
use Rattle.seq_access.specs.Bodies.{IsWritable, body_of_set, data_in}
use Rattle.seq_access.specs.Writing.{EndsAt, IsWriting, puts_in}
use Rattle.dadsm_ops.proofs.FoundSets.{set_found}
use Rattle.pack_machine.specs.declared.area_start.AreaStart.{AreaStart}
use Rattle.shelf_machine.specs.Fronts.{BeginsWell, IsFrontIn, firsts}
use Rattle.shelf_machine.specs.Pending.{IsBegunAt, IsWritingBy, puts_by}
use Rattle.pack_machine.specs.Reads.{HasVolume}
use Rattle.shelf_machine.specs.declared.writer.Writer.{Writer}
use Rattle.shelf_machine.proofs.FrontLemmas.{begins_none}
use Rattle.shelf_machine.proofs.Pendings.{by_writing}
use Rattle.pack_machine.proofs.ShelfReads.{begin_set, body_found, body_here, is_set}

-- blocks can be added to the body of a set of the kind that a mode needs, if it can be read
fits_writable : (image : List ℕ) (v : Vol) (f : F1) (mode : Mode) → fits_mode mode f.name (attr_of f) ≡ true → unreadable (body_of_set image v f) ≡ None → IsWritable (body_of_set image v f)
fits_writable image v f Fill fits =
    let same = sequential_body v.geometry (data_in image v) f.name (attr_of f) (extents_in image v f) f.lstar fits in
    subst (λ (b : Body). unreadable b ≡ None → IsWritable b) (sym same)
    (seq_or_unread v.geometry (data_in image v) (extents_in image v f) f.lstar (λ (b : Body). unreadable b ≡ None → IsWritable b) (λ bs read. tt) (λ k read. let no : ⊥ = cc in absurd no))
fits_writable image v f Area fits =
    let same = partitioned_body v.geometry (data_in image v) f.name (attr_of f) (extents_in image v f) f.lstar fits in
    subst (λ (b : Body). unreadable b ≡ None → IsWritable b) (sym same)
    (part_or_unread v.geometry (data_in image v) (extents_in image v f) f.lstar (λ (b : Body). unreadable b ≡ None → IsWritable b) (λ n end es bs read. tt) (λ k read. let no : ⊥ = cc in absurd no))

-- where it begins, by what is told of its front
front_well : (image : List ℕ) (v : Vol) (f : F1) (mode : Mode) (front : AreaStart) → fits_mode mode f.name (attr_of f) ≡ true → unreadable (body_of_set image v f) ≡ None → IsFrontIn mode front (body_of_set image v f)
    → EndsAt front.end (body_of_set image v f) × (put_first mode (body_of_set image v f) ≡ firsts front.owes_end_of_file)
front_well image v f Fill front fits =
    let same = sequential_body v.geometry (data_in image v) f.name (attr_of f) (extents_in image v f) f.lstar fits in
    subst (λ (b : Body). unreadable b ≡ None → IsFrontIn Fill front b → EndsAt front.end b × (put_first Fill b ≡ firsts front.owes_end_of_file)) (sym same)
    (seq_or_unread v.geometry (data_in image v) (extents_in image v f) f.lstar (λ (b : Body). unreadable b ≡ None → IsFrontIn Fill front b → EndsAt front.end b × (put_first Fill b ≡ firsts front.owes_end_of_file))
    (λ bs read is. (ap (λ (x : AreaStart). x.end) is, sym (ap (λ (x : AreaStart). firsts x.owes_end_of_file) is))) (λ k read is. let no : ⊥ = cc in absurd no))
front_well image v f Area front fits =
    let same = partitioned_body v.geometry (data_in image v) f.name (attr_of f) (extents_in image v f) f.lstar fits in
    subst (λ (b : Body). unreadable b ≡ None → IsFrontIn Area front b → EndsAt front.end b × (put_first Area b ≡ firsts front.owes_end_of_file)) (sym same)
    (part_or_unread v.geometry (data_in image v) (extents_in image v f) f.lstar (λ (b : Body). unreadable b ≡ None → IsFrontIn Area front b → EndsAt front.end b × (put_first Area b ≡ firsts front.owes_end_of_file))
    (λ n end es bs read is. (is.0, by (is_open_ended bs) ∙ sym (ap firsts is.1))) (λ k read is. let no : ⊥ = cc in absurd no))
  where
    by : (b : Bool) → cond b (end_of_file ∷ []) [] ≡ firsts b
    by true = refl
    by false = refl

-- a set that can be written to is of the kind that the mode needs, and can be read
may_write : (mode : Mode) (image : List ℕ) (v : Vol) (f : F1) → cond (fits_mode mode f.name (attr_of f)) (unreadable (body_here image v f)) (Some refusals.WrongKind) ≡ None
    → (fits_mode mode f.name (attr_of f) ≡ true) × (unreadable (body_of_set image v f) ≡ None)
may_write mode image v f none = by (fits_mode mode f.name (attr_of f)) refl none
  where
    by : (b : Bool) → fits_mode mode f.name (attr_of f) ≡ b → cond b (unreadable (body_here image v f)) (Some refusals.WrongKind) ≡ None → (fits_mode mode f.name (attr_of f) ≡ true) × (unreadable (body_of_set image v f) ≡ None)
    by false is never = absurd cc
    by true is well = (is, well)

-- a writer that was opened in the slot of that set
pub begun_at : (shelf : Shelf) (n : ℕ) (v : Vol) (has : HasVolume shelf n v) (dsn : Dsn) (mode : Mode) (front : AreaStart) (w : Writer) → first_named dsn.bytes v.slots.items ≡ Some w.inner.slot → w.mode ≡ mode → w.owes_end_of_file ≡ front.owes_end_of_file
    → ((image : List ℕ) (f : F1) → slice_get v.slots.items w.inner.slot ≡ Some (formats.F1 f) → HasSet image v f → IsWritable (body_of_set image v f) → EndsAt front.end (body_of_set image v f)
    → (is : IsWriting image v w.inner) × (is.f ≡ f) × (puts_in image v f w.inner ≡ []))
    → begin_refusal shelf (record { v = n; dsn = dsn; mode = mode }) ≡ None → IsFrontIn mode front (body_on shelf n dsn.bytes) → IsBegunAt has.image v w
begun_at shelf n v has dsn mode front w first purpose fronted begun none begins =
    let found = set_found dsn.bytes v.slots.items w.inner.slot first in
    let f : F1 = found.f in
    let set = is_set shelf n v has dsn.bytes w.inner.slot f first found.set in
    let may = may_write mode has.image v f (sym (begin_set shelf n v has dsn mode f set) ∙ none) in
    let well = front_well has.image v f mode front may.0 may.1 (subst (IsFrontIn mode front) (sym (body_found shelf n v has dsn.bytes f set)) begins) in
    let run = begun has.image f found.set set.0.set (fits_writable has.image v f mode may.0 may.1) well.0 in
    let by : IsWritingBy has.image v f w.inner = subst (λ (x : F1). IsWritingBy has.image v x w.inner) run.1 (by_writing has.image v w.inner run.0) in (
      record {
        fits = λ x at. subst (λ (y : F1). fits_mode w.mode y.name (attr_of y) ≡ true) (one_set f x found.set at) (ap (λ (m : Mode). fits_mode m f.name (attr_of f)) purpose ∙ may.0);
        first = λ x at. subst (λ (y : F1). put_first w.mode (body_of_set has.image v y) ≡ firsts w.owes_end_of_file) (one_set f x found.set at) (ap (λ (m : Mode). put_first m (body_of_set has.image v f)) purpose ∙ well.1 ∙ ap firsts (sym fronted));
        begins = λ x at. subst (λ (y : F1). BeginsWell w.owes_end_of_file (puts_in has.image v y w.inner)) (one_set f x found.set at) (subst (BeginsWell w.owes_end_of_file) (sym run.2) (begins_none w.owes_end_of_file));
        writing = λ x at. subst (λ (y : F1). IsWritingBy has.image v y w.inner) (one_set f x found.set at) by;
      },
      ap (puts_by has.image v w.inner) found.set ∙ run.2,
    )
  where
    one_set : (f x : F1) → slice_get v.slots.items w.inner.slot ≡ Some (formats.F1 f) → slice_get v.slots.items w.inner.slot ≡ Some (formats.F1 x) → f ≡ x
    one_set f x one other = let both : Some (formats.F1 f) ≡ Some (formats.F1 x) = sym one ∙ other in cc
