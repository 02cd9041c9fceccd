-- The writes by which a directory comes to be packed leave the volume of the image as it is.
use Rattle.std.proofs.Common.{◌≡◌, ◌++◌, ◌≤◌, ℕ, List, length, take, Option, Some, Result, Ok, Err, inl, refl, sym, subst, arith}
use Rattle.std.specs.Prelude.{OnOk, vec_items}
use Rattle.std.proofs.lemmas.List.{length-map}
use Rattle.chain_spec.specs.Kept.{joined, kept}
use Rattle.chain_spec.specs.Store.{Block as Stored, reads, stored}
use Rattle.dscb_codec.specs.declared.F1.{F1}
use Rattle.pack_spec.specs.Directories.{name_number}
use Rattle.pack_spec.specs.Volume.{volume_by}
use Rattle.sorted_chain.specs.Plan.{after_writes}
use Rattle.stop_model.specs.Files.{File}
use Rattle.stop_model.specs.Moments.{Meaning}
use Rattle.stop_model.proofs.MomentLemmas.{elapses_weaker}
use Rattle.vol_model.specs.declared.contents.Entry.{Entry}
use Rattle.vol_model.specs.declared.contents.Volume.{Volume}
use Rattle.vol_model.specs.declared.refusals.Refusal.{Refusal}
use Rattle.vtoc_index.specs.declared.vol.Vol.{Vol}
use Rattle.free_rebuild.specs.Operations.{DoesOperation, IsLeftInOperation}
use Rattle.free_rebuild.specs.Repairs.{image_named}
use Rattle.pds_directory.specs.declared.dir.Dir.{Dir}
use Rattle.pds_directory.specs.Directories.{IsLawfulDir, IsPacked, IsReadIn, IsReadablePart, directory_in, entries_read}
use Rattle.stow_ops.specs.Stores.{AreForDir, CanBeWritten, CarriesOut, DifferOn, HaveStore, IsDirPlan, directory_tracks, store_after}
use Rattle.stow_ops.proofs.DirectoryImages.{guarded_kept, settled_kept}
use Rattle.stow_ops.proofs.DirectoryVolumes.{volume_same}
use Rattle.stow_ops.proofs.PlanStores.{all_joined, fit_chain, packed_then}
use Rattle.stow_ops.proofs.PlanWrites.{can_be_written}
use Rattle.stow_ops.proofs.ReadLists.{kept_for}
use Rattle.stow_ops.proofs.WrittenDirectories.{on_owned}

-- ---- the plan

module _ (dir : Dir) (blocks : ℕ) (writes : List (ℕ × List Entry)) (lawful : IsLawfulDir dir) (plan : IsDirPlan (entries_read dir) (kept name_number (joined (entries_read dir))) blocks writes) where
  abbrev list : List Entry
  list = kept name_number (joined (entries_read dir))

  list_for : AreForDir list
  list_for = kept_for dir lawful list refl

  -- it needs no more blocks than there are, and the list is read at each stop
  abbrev repaired : (blocks ≤ length (entries_read dir)) × ((behind : List (Option (Stored Entry))) (k : ℕ) → reads name_number (after_writes blocks (take k writes) (stored (entries_read dir) ++ behind)) ≡ Some list)
  repaired = plan.repairs (fit_chain (entries_read dir) (all_joined (entries_read dir) lawful.entries) lawful.fit) refl

  pub few_blocks : blocks ≤ length dir.places.items
  few_blocks = omega (arith, repaired.0, length-map dir.blocks.items vec_items, lawful.room)

  pub can_be_packed : CanBeWritten (length dir.places.items) blocks writes
  can_be_packed = can_be_written (entries_read dir) list blocks (length dir.places.items) writes plan list_for few_blocks

  -- ---- the operation

  module _ (name : List ℕ) (v : Vol) (f : F1) (old : Meaning (List File)) (part : IsReadablePart (image_named old.state name) v f) (read : IsReadIn (image_named old.state name) v f dir) where
    abbrev image : List ℕ
    image = image_named old.state name

    abbrev volume : Volume
    volume = volume_by image v.geometry v.vtoc

    abbrev same : Volume → Result Volume Refusal
    same w = Ok w

    abbrev Changes : List ℕ → List ℕ → Type 0
    Changes = DifferOn v.geometry (directory_tracks image v f)

    reads_at : (k : ℕ) → reads name_number (store_after image v f blocks writes k) ≡ Some list
    reads_at k = subst (λ (s : List (Option (Stored Entry))). reads name_number (after_writes blocks (take k writes) s) ≡ Some list) (sym read.read.blocks) (repaired.1 read.read.behind k)

    left_packing : (k : ℕ) (files : List File) → HaveStore name v f (store_after image v f blocks writes k) old.state files → IsLeftInOperation name volume (Ok volume) Changes old.state files
    left_packing k files done = record {
      stands = inl (volume_same v f image (image_named files name) part.part dir read (store_after image v f blocks writes k) done.image (reads_at k));
      guarded = guarded_kept image (image_named files name) v f part.part (on_owned v f image (image_named files name) done.image.differ);
      changes = record { others = done.others; image = done.image.differ };
    }

    module _ {T E : Type 0} (v' : Vol) (new : Meaning (List File)) where
      pub packs : (r : Result T E) → CarriesOut name v f blocks writes v' old new r → DoesOperation name same v' Changes old new r
      packs (Ok x) carried = record {
        volume = volume;
        before = part.part.set.mounted.volume;
        done = record {
          after = volume;
          step = refl;
          stands = volume_same v f image (image_named new.state name) part.part dir read (store_after image v f blocks writes (length writes)) carried.done.image (reads_at (length writes));
          index = carried.index;
          durable = carried.durable;
          changes = record { others = carried.done.others; image = carried.done.image.differ };
        };
        settled = settled_kept image (image_named new.state name) v f part.part (on_owned v f image (image_named new.state name) carried.done.image.differ);
        printed = carried.printed;
        moments = elapses_weaker carried.moments (λ files p left. (left_packing left.0.0 files left.0.1, left.1));
      }
      packs (Err e) carried = record {
        volume = volume;
        before = part.part.set.mounted.volume;
        done = tt;
        settled = tt;
        printed = carried.printed;
        moments = elapses_weaker carried.moments (λ files p left. (left_packing left.0.0 files left.0.1, left.1));
      }

      -- The directory is packed then.
      pub packed_now : (r : Result T E) → CarriesOut name v f blocks writes v' old new r → OnOk r (IsPacked (directory_in (image_named new.state name) v f))
      packed_now (Ok x) carried = packed_then image v f dir list blocks writes read list_for plan few_blocks (image_named new.state name) carried.done.image
      packed_now (Err e) carried = tt
