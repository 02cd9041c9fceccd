-- What calls that write nothing leave of a writer's image, and the buffer of its index after them.
use Rattle.std.proofs.Common.{◌≡◌, ◌≤◌, ◌<◌, ℕ, List, Some, Result, Ok, Err, sym, ap, ◌∙◌, subst}
use Rattle.std.specs.Prelude.{IfOk, OnOk, slice_get}
use Rattle.dscb_codec.specs.declared.Dscb.TheVariants as formats
use Rattle.dscb_codec.specs.declared.F1.{F1}
use Rattle.hall_core.specs.Facts.{Facts}
use Rattle.hall_core.specs.Images.{image_in}
use Rattle.stop_model.specs.Files.{File}
use Rattle.stop_model.specs.Moments.{Meaning, Same}
use Rattle.vtoc_index.specs.declared.vol.Vol.{Vol}
use Rattle.vtoc_index.specs.Index.{IsMounted}
use Rattle.vtoc_index.proofs.Images.{same_image}
use Rattle.vtoc_sets.specs.Sets.{HasSet}
use Rattle.seq_access.specs.declared.writer.Writer.{Writer}
use Rattle.seq_access.specs.Writing.{AreThere, HoldsLast, IsWriting}
use Rattle.seq_access.proofs.ReadyPlaces.{are_there}
use Rattle.seq_access.proofs.WritersKept.{same_set}

pub image_kept : (m0 m1 : Meaning (List File)) (f0 f1 : Facts) (v v1 : Vol) → Same m0 m1 → f1.units ≡ f0.units → v1 ≡ record v { buf = v1.buf } → image_in m1 f1 v1.unit ≡ image_in m0 f0 v.unit
image_kept m0 m1 f0 f1 v v1 same units others = ap (λ (x : Vol). image_in m1 f1 x.unit) others ∙ same_image m1.state m0.state f1 f0 v.unit same.state units

module _ (image now : List ℕ) (v v1 : Vol) (w : Writer) (set : F1) (kept : now ≡ image) (slot : slice_get v.slots.items w.slot ≡ Some (formats.F1 set)) (is : IsWriting image v w) where
  -- before the last block is looked for
  pub set_now : HasSet now v set
  set_now = subst (λ (i : List ℕ). HasSet i v set) (sym kept) (subst (HasSet image v) (same_set v w.slot is.f set is.slot slot) is.set)

  pub there_now : w.last.tt < 65536 → w.last.r < 256 → 1 ≤ w.last.r → AreThere now v set w.last
  there_now low small first = subst (λ (i : List ℕ). AreThere i v set w.last) (sym kept) (subst (λ (f : F1). AreThere image v f w.last) (same_set v w.slot is.f set is.slot slot) (are_there image v w is low small first))

  -- and once the buffer holds its track
  pub held_then : v1 ≡ record v { buf = v1.buf } → HoldsLast now v1 set w.last → HoldsLast image (record v { buf = v1.buf }) is.f w.last
  held_then others held =
      subst (λ (f : F1). HoldsLast image (record v { buf = v1.buf }) f w.last) (sym (same_set v w.slot is.f set is.slot slot))
      (subst (λ (x : Vol). HoldsLast image x set w.last) others (subst (λ (i : List ℕ). HoldsLast i v1 set w.last) kept held))

  pub mounted_then : v1 ≡ record v { buf = v1.buf } → IsMounted now v1 → IsMounted image (record v { buf = v1.buf })
  mounted_then others m = subst (IsMounted image) others (subst (λ (i : List ℕ). IsMounted i v1) kept m)

-- Once a writer's last block is in the buffer of its index.
pub record IsBehind {image : List ℕ} {v : Vol} {w : Writer} (is : IsWriting image v w) (v1 : Vol) : Type 0 where
  pub others : v1 ≡ record v { buf = v1.buf }
  pub held : HoldsLast image (record v { buf = v1.buf }) is.f w.last
  pub mounted : IsMounted image (record v { buf = v1.buf })

pub behind : (m0 m1 : Meaning (List File)) (f0 f1 : Facts) (v v1 : Vol) (w : Writer) (set : F1) (is : IsWriting (image_in m0 f0 v.unit) v w) → slice_get v.slots.items w.slot ≡ Some (formats.F1 set) → Same m0 m1 → f1.units ≡ f0.units → v1 ≡ record v { buf = v1.buf } → HoldsLast (image_in m1 f1 v.unit) v1 set w.last → IsMounted (image_in m1 f1 v.unit) v1
    → IsBehind is v1
behind m0 m1 f0 f1 v v1 w set is slot same units others held m =
    let kept : image_in m1 f1 v.unit ≡ image_in m0 f0 v.unit = same_image m1.state m0.state f1 f0 v.unit same.state units in
    record {
      others = others;
      held = held_then (image_in m0 f0 v.unit) (image_in m1 f1 v.unit) v v1 w set kept slot is others held;
      mounted = mounted_then (image_in m0 f0 v.unit) (image_in m1 f1 v.unit) v v1 w set kept slot is others m;
    }

-- a fact of each writer, where a call is done
pub if_each : {T E A : Type 0} (P : T → A → Type 0) (r : Result T E) → ((a : A) → IfOk r (λ (x : T). P x a)) → IfOk r (λ (x : T). (a : A) → P x a)
if_each P (Ok x) each = each
if_each P (Err e) each = tt

pub on_each : {T E P Q : Type 0} (r : Result T E) → (P → Q) → OnOk r P → OnOk r Q
on_each (Ok x) f is = f is
on_each (Err e) f is = tt
