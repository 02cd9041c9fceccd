-- What a change of one entry leaves of a directory: where it isn't begun, where its entries aren't stored, and where they are.
use Rattle.std.proofs.Common.{◌≡◌, ◌∙◌, ℕ, Bool, IsTrue, List, Result, Ok, Err, Some, refl, sym, ap, subst, arith}
use Rattle.std.specs.Prelude.{IsErrOf, Vec, slice_get}
use Rattle.std.specs.declared.alloc.Global.{Global}
use Rattle.chain_spec.specs.Kept.{joined, kept}
use Rattle.dscb_codec.specs.declared.Dscb.TheVariants as formats
use Rattle.dscb_codec.specs.declared.F1.{F1}
use Rattle.ebcdic_names.specs.declared.names.Dsn.{Dsn}
use Rattle.hall_core.specs.Facts.{Facts, ReportedCall, unit_of}
use Rattle.hall_core.specs.Images.{image_in}
use Rattle.pack_spec.specs.Directories.{name_number}
use Rattle.pack_spec.specs.Volume.{volume_by}
use Rattle.stop_model.specs.Files.{File}
use Rattle.stop_model.specs.Moments.{Meaning}
use Rattle.stop_model.proofs.MomentLemmas.{CountsNow}
use Rattle.vol_model.specs.declared.answers.StoreErr.{StoreErr}
use Rattle.vol_model.specs.declared.answers.StoreErr.TheVariants as errors
use Rattle.vol_model.specs.declared.contents.Entry.{Entry}
use Rattle.vol_model.specs.declared.contents.Volume.{Volume}
use Rattle.vol_model.specs.declared.refusals.Refusal.{Refusal}
use Rattle.vtoc_index.specs.Index.{IsMounted, IsOfUnit}
use Rattle.vtoc_index.specs.declared.vol.Vol.{Vol}
use Rattle.pds_directory.specs.declared.dir.Dir.{Dir}
use Rattle.pds_directory.specs.Directories.{IsLawfulDir, IsPacked, IsReadIn, IsReadablePart, directory_in, entries_read}
use Rattle.free_rebuild.specs.Operations.{Operates, StoreCall}
use Rattle.stow_ops.specs.Changes.{ChangesDir, HasDir}
use Rattle.stow_ops.specs.Stores.{DifferOn, IsToHave, directory_tracks}
use Rattle.stow_ops.proofs.ChangingSteps.{done_as, failed_as, failed_mounted, index_by, not_memory, not_operated}
use Rattle.stow_ops.proofs.NamedSlots.{named_set}
use Rattle.stow_ops.proofs.ReadLists.{packed_read}
use Rattle.sorted_chain.specs.Plan.{ChangesOne}

-- an error is one of either answer
same_error : {T U : Type 0} (e d : StoreErr) → IsErrOf {T = T} (Err e) d → IsErrOf {T = U} (Err e) d
same_error e d is = let same : e ≡ d = cc in ap (λ (x : StoreErr). Err x) same

-- a call reports as much by another condition that is the same
reported_as : {P Q : Type 0} (old new : Facts) → ReportedCall P old new → (Q → P) → (P → Q) → ReportedCall Q old new
reported_as old new call from to = record {
  units = call.units;
  references = call.references;
  prints = call.prints;
  later = call.later;
  device = λ q. call.device (from q);
  others = λ differs. call.others (λ p. differs (to p));
}

-- a directory that was read and is packed is to have these entries
pub to_have : (image : List ℕ) (v : Vol) (f : F1) (dir : Dir) → IsLawfulDir dir → IsReadablePart image v f → IsReadIn image v f dir → IsPacked (directory_in image v f)
    → (old : List Entry) → old ≡ kept name_number (joined (entries_read dir)) → (new made : List Entry) → made ≡ new → ChangesOne name_number old new → IsToHave image v f dir made
to_have image v f dir lawful part read packed old list new made value changes = record {
  part = part;
  read = read;
  packed = packed_read image v f dir read lawful packed;
  changes = subst (λ (es : List Entry). ChangesOne name_number (kept name_number (joined (entries_read dir))) es) (sym value)
      (subst (λ (es : List Entry). ChangesOne name_number es new) list changes);
}

abbrev Entries : Type 0
Entries = Vec Entry Global

module _ {H : Type 0} (tells : Bool) (operation : Dsn → Volume → Result Volume Refusal) (facts : H → Facts) (meaning : H → Meaning (List File)) (h0 : H) (v0 : Vol) (slot : ℕ) (dir0 : Dir) (has : HasDir tells (facts h0) (meaning h0) v0 slot dir0) where
  abbrev image : List ℕ
  image = image_in (meaning h0) (facts h0) v0.unit

  abbrev name : List ℕ
  name = (unit_of (facts h0).units v0.unit).name

  abbrev IsSet : F1 → Type 0
  IsSet f = slice_get v0.slots.items slot ≡ Some (formats.F1 f)

  mounted_before : IsTrue tells → IsMounted image v0
  mounted_before told = let set = named_set v0.slots.items slot has.set in (has.part told set.0 set.1).part.set.mounted

  -- it isn't begun
  pub changes_none : CountsNow (meaning h0) → (r : Result Entries StoreErr) (e : StoreErr) → r ≡ Err e → (e ≡ errors.Device → ⊥)
      → (IsTrue tells → (f : F1) → IsSet f → (why : Refusal) → e ≡ errors.Refused why → operation (record { bytes = f.name }) (volume_by image v0.geometry v0.vtoc) ≡ Err why)
      → ChangesDir tells operation (facts h0) (facts h0) (meaning h0) (meaning h0) v0 v0 slot dir0 dir0 r
  changes_none counts r e is other refused = subst (ChangesDir tells operation (facts h0) (facts h0) (meaning h0) (meaning h0) v0 v0 slot dir0 dir0) (sym is) (record {
    files = λ told f at. not_operated name (operation (record { bytes = f.name })) v0 (DifferOn v0.geometry (directory_tracks image v0 f)) (meaning h0) counts (Err e) e refl (volume_by image v0.geometry v0.vtoc) (has.part told f at).part.set.mounted.volume (refused told f at);
    packed = λ told f at. tt;
    read = λ told f at. tt;
    lawful = has.lawful;
    entries = tt;
    stays = refl;
    mounted = λ told differs. mounted_before told;
    others = refl;
    unit = has.unit;
    faults = record {
      units = refl;
      references = refl;
      prints = refl;
      later = omega arith;
      device = λ failed. let this : e ≡ errors.Device = cc in absurd (other this);
      others = λ differs. refl;
    };
  })

  -- nor read
  pub changes_unread : CountsNow (meaning h0) → (r : Result Entries StoreErr) (e : StoreErr) → r ≡ Err e → e ≡ errors.Memory → ChangesDir tells operation (facts h0) (facts h0) (meaning h0) (meaning h0) v0 v0 slot dir0 dir0 r
  changes_unread counts r e is memory =
      changes_none counts r e is (λ failed. let wrong : errors.Memory ≡ errors.Device = sym memory ∙ failed in cc) (λ told f at why given. absurd (not_memory why (sym given ∙ memory)))

  module _ (h1 : H) (v1 : Vol) (dir1 : Dir) (lawful : IsLawfulDir dir1) (others : v1 ≡ record v0 { buf = v1.buf }) (unit : IsOfUnit (facts h1).units v1) where
    abbrev image_after : List ℕ
    image_after = image_in (meaning h1) (facts h1) v0.unit

    abbrev Runs : Result (Unit {0}) StoreErr → Type 0
    Runs r = IsTrue tells → (f : F1) → IsSet f → Operates name (operation (record { bytes = f.name })) v1 (DifferOn v0.geometry (directory_tracks image v0 f)) (meaning h0) (meaning h1) r

    -- the entries aren't stored
    pub changes_failed : (r : Result Entries StoreErr) (e : StoreErr) → r ≡ Err e → Runs (Err e) → dir1 ≡ dir0
        → (IsErrOf {T = Unit {0}} (Err e) errors.Memory → (h1 ≡ h0) × (v1 ≡ v0)) → ((q : Refusal) → IsErrOf {T = Unit {0}} (Err e) (errors.Refused q) → (h1 ≡ h0) × (v1 ≡ v0)) → StoreCall {T = Unit {0}} (facts h0) (facts h1) (Err e)
        → ChangesDir tells operation (facts h0) (facts h1) (meaning h0) (meaning h1) v0 v1 slot dir0 dir1 r
    changes_failed r e is runs stays memory refused faults = subst (ChangesDir tells operation (facts h0) (facts h1) (meaning h0) (meaning h1) v0 v1 slot dir0 dir1) (sym is) (record {
      files = λ told f at. failed_as name (operation (record { bytes = f.name })) v1 (DifferOn v0.geometry (directory_tracks image v0 f)) (meaning h0) (meaning h1) (Err e) e refl (runs told f at);
      packed = λ told f at. tt;
      read = λ told f at. tt;
      lawful = lawful;
      entries = tt;
      stays = stays;
      mounted = λ told differs. failed_mounted {T = Unit {0}} meaning facts h0 h1 v0 v1 e (mounted_before told) (λ failed. differs (same_error e errors.Device failed)) memory refused;
      others = others;
      unit = unit;
      faults = reported_as (facts h0) (facts h1) faults (same_error e errors.Device) (same_error e errors.Device);
    })

    -- they are
    pub changes_done : (x : Unit {0}) (es : Entries) → Runs (Ok x) → (IsTrue tells → (f : F1) → IsSet f → IsPacked (directory_in image_after v1 f)) → (IsTrue tells → (f : F1) → IsSet f → IsReadIn image_after v1 f dir1)
        → es.items ≡ kept name_number (joined (entries_read dir1)) → StoreCall (facts h0) (facts h1) (Ok x)
        → ChangesDir tells operation (facts h0) (facts h1) (meaning h0) (meaning h1) v0 v1 slot dir0 dir1 (Ok es)
    changes_done x es runs packed read entries faults = record {
      files = λ told f at. done_as name (operation (record { bytes = f.name })) v1 (DifferOn v0.geometry (directory_tracks image v0 f)) (meaning h0) (meaning h1) x es (runs told f at);
      packed = packed;
      read = read;
      lawful = lawful;
      entries = entries;
      stays = tt;
      mounted = λ told differs.
          let set = named_set v0.slots.items slot has.set in
          index_by (facts h0).units (facts h1).units (meaning h1) v0 v1 faults.units (runs told set.0 set.1).does.done.index;
      others = others;
      unit = unit;
      faults = reported_as (facts h0) (facts h1) faults (λ failed. absurd cc) (λ failed. absurd cc);
    }
