-- The blocks on a track of a partitioned data set whose records a buffer holds whole.
use Rattle.std.proofs.Common.{◌≡◌, ◌<◌, ℕ, zero, suc, Bool, cond, List, [], ◌∷◌, length, take, Option, Some, None, inl, inr, refl, sym, ap, ◌∙◌, arith, option_and_then}
use Rattle.std.specs.Prelude.{◌==◌, ◌&&◌}
use Rattle.std.specs.Option.{option_map}
use Rattle.std.proofs.lemmas.Bool.Decides.{leb_tells}
use Rattle.ckd_image.specs.declared.header.Geometry.{Geometry}
use Rattle.ckd_image.specs.Track.{Record}
use Rattle.dscb_codec.specs.declared.F1.{F1}
use Rattle.pack_spec.specs.Blocks.{records_in, upto_last}
use Rattle.pack_spec.specs.Directories.{part_at, part_blocks, part_on}
use Rattle.pack_spec.proofs.FrontRecords.{first_of_all, first_records, first_taken}
use Rattle.track_records.specs.Buffers.{Buffer}
use Rattle.vol_model.specs.declared.contents.Place.{Place}
use Rattle.vtoc_index.specs.declared.vol.Vol.{Vol}
use Rattle.seq_access.specs.Bodies.{HoldsWhole, IsSetIn, data_in, held_upto, owned_in, part_held}
use Rattle.vtoc_sets.proofs.DataPlaces.{records_are}
use Rattle.vtoc_sets.proofs.OwnedSets.{own_inside}

-- there aren't more of these records than all
first_past : (n : ℕ) (xs : List Record) → length xs < n → first_records n xs ≡ None
first_past zero xs past = absurd (omega (arith, past))
first_past (suc n) [] past = refl
first_past (suc n) (x ∷ xs) past = ap (option_map (λ (ys : List Record). x ∷ ys)) (first_past n xs (omega (arith, past)))

first_held : (n : ℕ) (xs : List Record) → first_records n xs ≡ held_upto (Some n) xs
first_held n xs = elim (leb_tells n (length xs)) [
  | inl w ↦ first_taken n xs w.1 ∙ sym (ap (λ (b : Bool). cond b (Some (take n xs)) None) w.0)
  | inr w ↦ first_past n xs w.1 ∙ sym (ap (λ (b : Bool). cond b (Some (take n xs)) None) w.0)
]

-- what is read of a track up to a record, where all of its records are these
pub held_read : (g : Geometry) (tracks : List (List ℕ)) (t : ℕ) (xs : List Record) (u : Option ℕ) → records_in g tracks None t ≡ Some xs → records_in g tracks u t ≡ held_upto u xs
held_read g tracks t xs None is = is
held_read g tracks t xs (Some n) is = first_of_all g tracks t xs n is ∙ first_held n xs

module _ (image : List ℕ) (v : Vol) (f : F1) (set : IsSetIn image v f) (end to : Place) (b : Buffer) (held : HoldsWhole image v f end.tt b) where
  all_read : records_in v.geometry (data_in image v) None held.0 ≡ Some b.records
  all_read = records_are image v f set None end.tt held.0 held.1 (own_inside image v f set end.tt held.0 held.1) ∙ held.2

  -- the blocks on the track with a directory's end are those of the buffer
  pub part_whole : part_at v.geometry (data_in image v) (owned_in image v f) end to end.tt ≡ part_held end to b.records
  unfolding part_at part_on
  part_whole =
      ap (option_and_then (part_on v.geometry (data_in image v) end to end.tt)) held.1
      ∙ ap (λ (o : Option (List Record)). cond ((end.tt == to.tt) && (to.r == 0)) None (option_and_then (part_blocks end end.tt) o)) (held_read v.geometry (data_in image v) held.0 b.records (upto_last to end.tt) all_read)
