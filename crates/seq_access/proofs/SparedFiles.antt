-- Files in which a write after the last block of a data set is pending or done.
use Rattle.std.proofs.Common.{◌≡◌, ◌+◌, ◌≤◌, ◌<◌, ℕ, List, [], length, take, Option, Some, None, Result, Ok, Err, refl, sym, ap, ◌∙◌, subst, arith, ⊎_elim}
use Rattle.std.specs.Prelude.{OnOk, slice_get, unwrap_or}
use Rattle.ckd_image.specs.Header.{HasGeometry}
use Rattle.ckd_image.specs.Track.{Record}
use Rattle.dscb_codec.specs.declared.F1.{F1}
use Rattle.stop_model.specs.Blocks.{Keeps}
use Rattle.stop_model.specs.Files.{AfterWrite, File, file_of, written}
use Rattle.stop_model.specs.Moments.{Meaning}
use Rattle.stop_model.proofs.BlockLemmas.{keeps_more, keeps_none, pends_of_write}
use Rattle.pack_spec.specs.Label.{records_on, tracks_of}
use Rattle.track_records.specs.Appends.{continuation, place_behind, start_behind}
use Rattle.track_records.specs.Buffers.{Buffer}
use Rattle.vol_model.specs.declared.contents.Place.{Place}
use Rattle.vtoc_index.specs.declared.vol.Vol.{Vol}
use Rattle.free_rebuild.specs.Repairs.{image_named}
use Rattle.free_rebuild.proofs.PutLemmas.{written_other, written_there}
use Rattle.seq_access.specs.Bodies.{owned_in}
use Rattle.seq_access.specs.Writing.{AreSpared, DifferBehind}
use Rattle.seq_access.proofs.SparedImages.{spared_write}

-- What a write after a buffer's records asks, on the image before: the buffer is of a track of the set that isn't before its last block's, and holds the records up to that block, if it is that track.
pub record MayWrite (before : List ℕ) (v : Vol) (f : F1) (last : Place) (b : Buffer) (new : List Record) : Type 0 where
  pub geometry : b.geometry ≡ v.geometry
  pub whole : HasGeometry (length before) v.geometry
  pub inside : b.track < tracks_of v.geometry
  pub room : start_behind b.records + length (continuation b new) ≤ v.geometry.track_size
  pub k : ℕ
  pub owned : slice_get (owned_in before v f) k ≡ Some b.track
  pub past : last.tt ≤ k
  pub first : slice_get (owned_in before v f) last.tt ≡ Some b.track → 1 ≤ last.r
      → (last.r ≤ length b.records) × (records_on before v.geometry (Some last.r) b.track ≡ Some (take last.r b.records))

pub on_ok : {T E P : Type 0} (r : Result T E) → P → OnOk r P
on_ok (Ok x) p = p
on_ok (Err e) p = tt

module _ (name : List ℕ) (before : List File) (v : Vol) (f : F1) (last : Place) (b : Buffer) (new : List Record) (may : MayWrite (image_named before name) v f last b new) where
  file_there : (files : List File) → length (image_named files name) ≡ length (image_named before name) → file_of files name ≡ Some (image_named files name)
  file_there files size = by (file_of files name) refl size
    where
      by : (o : Option (List ℕ)) → file_of files name ≡ o → length (unwrap_or o []) ≡ length (image_named before name) → file_of files name ≡ Some (image_named files name)
      by None is e = absurd (omega (arith, e, may.whole.whole))
      by (Some l) is e = is ∙ ap (λ (o : Option (List ℕ)). Some (unwrap_or o [])) (sym is)

  -- the files with that write
  pub spared_files : (files : List File) → AreSpared name v f last before files → AreSpared name v f last before (written files name (place_behind b) (continuation b new))
  spared_files files spared =
      let image : List ℕ = image_named files name in
      let has : HasGeometry (length image) v.geometry = subst (λ (n : ℕ). HasGeometry n v.geometry) (sym spared.image.size) may.whole in
      let differ = spared_write (image_named before name) image v f last b new may.k may.geometry has may.inside may.room may.owned may.past may.first spared.image in
      record {
        image = subst (DifferBehind v f last (image_named before name)) (sym (ap (λ (o : Option (List ℕ)). unwrap_or o []) (written_there files name (place_behind b) (continuation b new) image (file_there files spared.image.size)))) differ;
        others = λ other apart. written_other files name other (place_behind b) (continuation b new) apart ∙ spared.others other apart;
      }

  -- and what is read and left while it is pending
  pub spared_pends : {T E : Type 0} (old now : Meaning (List File)) (result : Result T E) → AfterWrite name (place_behind b) (continuation b new) old now result → ((files : List File) → old.left files → AreSpared name v f last before files) → AreSpared name v f last before old.state
      → Keeps (AreSpared name v f last before) now.state old now result × AreSpared name v f last before now.state
  spared_pends {T = T} {E = E} old now result wrote left here =
      let k = keeps_more (keeps_none {E = E} (AreSpared name v f last before) old left) (pends_of_write wrote) (λ files spared. spared_files files spared) in
      (record { printed = k.printed; done = on_ok result refl; left = k.left; moments = k.moments }, by result wrote)
    where
      after : now.state ≡ written old.state name (place_behind b) (continuation b new) → AreSpared name v f last before now.state
      after is = subst (AreSpared name v f last before) (sym is) (spared_files old.state here)

      by : (r : Result T E) → AfterWrite name (place_behind b) (continuation b new) old now r → AreSpared name v f last before now.state
      by (Ok x) w = after w.done
      by (Err e) w = ⊎_elim (λ same. subst (AreSpared name v f last before) (sym same) here) after w.failed
