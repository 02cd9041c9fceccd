-- What is pending by the writer of a machine, and where that stands.
use Rattle.std.proofs.Common.{◌≡◌, ◌++◌, ◌≤◌, ⊎_elim, ℕ, false, List, Option, Some, None, inl, inr, refl, sym, ap, ◌∙◌, subst, arith}
use Rattle.std.specs.Prelude.{◌<◌, slice_get}
use Rattle.std.proofs.lemmas.Bool.{cases_eq}
use Rattle.std.proofs.lemmas.Bool.Decides.{nat_tests}
use Rattle.dscb_codec.specs.declared.Dscb.TheVariants as formats
use Rattle.dscb_codec.specs.declared.F1.{F1}
use Rattle.free_rebuild.specs.Repairs.{image_named}
use Rattle.hall_core.specs.Facts.{Attached, unit_of}
use Rattle.stop_model.specs.Files.{File}
use Rattle.stop_model.specs.Moments.{Meaning}
use Rattle.vol_model.specs.declared.contents.Block.{Block}
use Rattle.vol_model.specs.declared.contents.Body.TheVariants.{Seq}
use Rattle.vol_model.specs.declared.contents.Place.{Place}
use Rattle.vol_model.specs.Places.{is_before, placed}
use Rattle.vol_model.specs.Shelf.{blocks_of}
use Rattle.vtoc_index.specs.declared.vol.Vol.{Vol}
use Rattle.vtoc_index.specs.Kept.{IsKept}
use Rattle.vtoc_index.proofs.KeptLemmas.{mounted_of}
use Rattle.seq_access.specs.declared.writer.Writer.{Writer as BlockWriter}
use Rattle.seq_access.specs.Bodies.{HasBlocks, last_in}
use Rattle.seq_access.specs.Writing.{AreSpared, IsNotBefore, IsWriting, body_so_far, front_in, puts_in}
use Rattle.shelf_machine.specs.Machine.{is_open_in, writer_in}
use Rattle.shelf_machine.specs.Pending.{HasSlot, IsPendingBy, IsWriterOn, IsWritingBy, closed}
use Rattle.shelf_machine.specs.declared.writer.Writer.{Writer}

-- that a place isn't before another, as a test and in numbers
pub not_before : (p q : Place) → is_before p q ≡ false → IsNotBefore p q
not_before p q is = ⊎_elim (λ same. inr (sym same, low same)) (λ differs. inl (past differs)) (cases_eq p.tt q.tt)
  where
    low : p.tt ≡ q.tt → q.r ≤ p.r
    low same = grind (arith, nat_tests)

    past : (p.tt ≡ q.tt → ⊥) → q.tt < p.tt
    past differs = grind (arith, nat_tests)

before_not : (p q : Place) → IsNotBefore p q → is_before p q ≡ false
before_not p q is = ⊎_elim (λ low. past low) (λ w. same w.0 w.1) is
  where
    past : q.tt < p.tt → is_before p q ≡ false
    past low = grind (arith, nat_tests)

    same : q.tt ≡ p.tt → q.r ≤ p.r → is_before p q ≡ false
    same one low = grind (arith, nat_tests)

-- the clauses of a writer of blocks, there and back
abbrev pub writing_of : (image : List ℕ) (v : Vol) (f : F1) (w : BlockWriter) → IsKept image v → slice_get v.slots.items w.slot ≡ Some (formats.F1 f) → IsWritingBy image v f w → IsWriting image v w
writing_of image v f w kept at by = record {
  f = f;
  slot = at;
  set = record { mounted = mounted_of image v kept; extents = by.extents };
  writable = by.writable;
  old = blocks_of (front_in image v f);
  front = by.front;
  so_far = by.so_far;
  begun = by.begun;
  some = by.some;
  behind = not_before w.last (last_in image v f) by.behind;
  ended = by.ended;
}

pub by_writing : (image : List ℕ) (v : Vol) (w : BlockWriter) (is : IsWriting image v w) → IsWritingBy image v is.f w
by_writing image v w is =
    let blocks : blocks_of (front_in image v is.f) ≡ is.old = ap blocks_of is.front in record {
      extents = is.set.extents;
      writable = is.writable;
      front = is.front ∙ ap Seq (sym blocks);
      so_far = subst (λ (bs : List Block). HasBlocks (body_so_far image v is.f w) (bs ++ placed v.geometry.device (Seq bs) (puts_in image v is.f w))) (sym blocks) is.so_far;
      begun = is.begun;
      some = is.some;
      behind = before_not w.last (last_in image v is.f) is.behind;
      ended = is.ended;
    }

-- ---- calls that write nothing

-- what is pending stays where what is read stays, and no stop leaves anything new
pub pending_same : (m m' : Meaning (List File)) (attached attached' : List Attached) (vols : List Vol) (w : Option Writer) → m'.state ≡ m.state → ((j : List File) → m'.left j → m.left j) → attached' ≡ attached
    → IsPendingBy m attached vols w → IsPendingBy m' attached' vols w
pending_same m m' attached attached' vols None state left units pending = λ j now. pending j (left j now) ∙ sym state
pending_same m m' attached attached' vols (Some w) state left units pending = subst (λ (us : List Attached). IsPendingBy m' us vols (Some w)) (sym units) here
  where
    here : IsPendingBy m' attached vols (Some w)
    here = λ v at.
        let p = pending v at in
        let name : List ℕ = (unit_of attached v.unit).name in (
          subst (λ (fs : List File). IsWriterOn (image_named fs name) v w) (sym state) p.0,
          λ f there j now. subst (λ (fs : List File). AreSpared name v f (last_in (image_named fs name) v f) fs j) (sym state) (p.1 f there j (left j now)),
        )

-- and so does the writer
pub writer_same : (files files' : List File) (attached attached' : List Attached) (vols : List Vol) (w : Option Writer) → files' ≡ files → attached' ≡ attached → writer_in files' attached' vols w ≡ writer_in files attached vols w
writer_same files files' attached attached' vols w state units =
    ap (λ (fs : List File). writer_in fs attached' vols w) state ∙ ap (λ (us : List Attached). writer_in files us vols w) units

-- ---- a writer that is abandoned

pub closed_is : (w : Option Writer) → is_open_in (closed w) ≡ false
closed_is None = refl
closed_is (Some w) = refl

pub slot_closed : (vols : List Vol) (w : Option Writer) → HasSlot vols w → HasSlot vols (closed w)
slot_closed vols None slot = slot
slot_closed vols (Some w) slot = slot

pub pending_closed : (m : Meaning (List File)) (attached : List Attached) (vols : List Vol) (w : Option Writer) → IsPendingBy m attached vols w → IsPendingBy m attached vols (closed w)
pending_closed m attached vols None pending = pending
pending_closed m attached vols (Some w) pending = λ v at.
    let p = pending v at in (record { fits = p.0.fits; first = p.0.first; begins = p.0.begins; writing = p.0.writing }, p.1)
