-- Images that differ on the tracks of one partitioned data set alone: their VTOC and the directories of the other data sets.
use Rattle.std.proofs.Common.{◌≡◌, ◌≢◌, ◌+◌, ℕ, true, false, Bool, cond, ◌&&◌, List, [], Option, Some, None, refl, ap, arith, option_and_then}
use Rattle.std.specs.Prelude.{◌==◌, slice_get, unwrap_or}
use Rattle.std.specs.List.{flat_map}
use Rattle.std.proofs.lemmas.Bool.Decides.{nat_tests}
use Rattle.ckd_image.specs.declared.header.Geometry.{Geometry}
use Rattle.ckd_image.specs.Track.{Record}
use Rattle.dscb_codec.specs.declared.F1.{F1}
use Rattle.pack_spec.specs.Alike.{IsIn}
use Rattle.pack_spec.specs.Blocks.{owned_tracks, records_in, upto_last}
use Rattle.pack_spec.specs.Directories.{before_end, part_at, part_blocks, part_on, part_tracks}
use Rattle.pack_spec.specs.Label.{track_bytes}
use Rattle.pack_spec.specs.Settled.{directory_upto}
use Rattle.pack_spec.specs.Volume.{data_set_of}
use Rattle.pack_spec.proofs.BlockBodies.{map_range}
use Rattle.pds_directory.specs.Directories.{IsPartIn, data_in, owned_in}
use Rattle.stow_ops.proofs.DirectoryImages.{DifferOnOwned}
use Rattle.pds_directory.proofs.PartSets.{among, fs, others_apart, outside, set_out}
use Rattle.vtoc_sets.proofs.Owners.{on_same}
use Rattle.slot_laws.proofs.SameSlots.{by_bytes}
use Rattle.vol_model.specs.declared.contents.Block.{Block}
use Rattle.vol_model.specs.declared.contents.Place.{Place}
use Rattle.vol_model.specs.Space.{is_in}
use Rattle.vtoc_index.specs.declared.vol.Vol.{Vol}
use Rattle.mount_repair.specs.Sets.{set_by}

part_at_same : (g : Geometry) (a b : List (List ℕ)) (owned : List ℕ) (end to : Place) (k : ℕ) → ((t : ℕ) → slice_get owned k ≡ Some t → records_in g b (upto_last to k) t ≡ records_in g a (upto_last to k) t) → part_at g b owned end to k ≡ part_at g a owned end to k
unfolding part_at part_on
part_at_same g a b owned end to k same = by (slice_get owned k) refl
  where
    by : (o : Option ℕ) → slice_get owned k ≡ o → option_and_then (part_on g b end to k) o ≡ option_and_then (part_on g a end to k) o
    by None there = refl
    by (Some t) there = ap (λ (o : Option (List Record)). cond ((k == to.tt) && (to.r == 0)) None (option_and_then (part_blocks end k) o)) (same t there)

-- directories on tracks that are read alike
upto_same : (g : Geometry) (a b : List (List ℕ)) (owned : List ℕ) (end : Place) → ((k t : ℕ) (u : Option ℕ) → slice_get owned k ≡ Some t → records_in g b u t ≡ records_in g a u t) → directory_upto g b owned end ≡ directory_upto g a owned end
unfolding part_tracks
upto_same g a b owned end same =
    ap (λ (ts : List (Option (List Block))). before_end end (flat_map (λ o. unwrap_or o []) ts))
    (map_range (part_at g b owned end end) (part_at g a owned end end) (end.tt + 1) 0 (λ k l u. part_at_same g a b owned end end k (λ t there. same k t (upto_last end k) there)))

module _ (before after : List ℕ) (v : Vol) (f : F1) (part : IsPartIn before v f) (differ : DifferOnOwned v f before after) where
  abbrev g : Geometry
  g = v.geometry

  pub same_vtoc : (t : ℕ) → IsIn v.vtoc t → track_bytes after g t ≡ track_bytes before g t
  same_vtoc t within = differ.others t (λ k there. both (is_in t v.vtoc) (inside t within) (outside before v f part k t there))
    where
      inside : (t : ℕ) → IsIn v.vtoc t → is_in t v.vtoc ≡ true
      inside t within = grind (arith, nat_tests)

      both : (b : Bool) → b ≡ true → b ≡ false → ⊥
      both b one two = cc

  read_alike : (n : ℕ) (x : F1) → slice_get (fs before v f part) n ≡ Some x → n ≢ (among before v f part).0 → (k t : ℕ) (u : Option ℕ) → slice_get (owned_in before v x) k ≡ Some t → records_in g (data_in after v) u t ≡ records_in g (data_in before v) u t
  read_alike n x is apart k t u own =
      on_same g v.vtoc before after u t (set_out before v f part x n k t is own) (by_bytes g u t before after (differ.others t (λ j mine. others_apart before v f part x n j k t is apart own mine)))

  -- that of another data set is read alike
  pub upto_other : (n : ℕ) (x : F1) → slice_get (fs before v f part) n ≡ Some x → n ≢ (among before v f part).0 → (end : Place)
      → directory_upto g (data_in after v) (owned_tracks (set_by before v x).extents) end ≡ directory_upto g (data_in before v) (owned_tracks (set_by before v x).extents) end
  unfolding data_set_of
  upto_other n x is apart end = upto_same g (data_in before v) (data_in after v) (owned_in before v x) end (read_alike n x is apart)
