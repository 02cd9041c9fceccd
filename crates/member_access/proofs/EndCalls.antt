-- The walk over a member, after the search for its directory's end.
use Rattle.std.proofs.Common.{◌≡◌, Bool, IsTrue, List, [], ℕ, None, refl, subst}
use Rattle.dscb_codec.specs.declared.F1.{F1}
use Rattle.hall_core.specs.Facts.{Facts}
use Rattle.hall_core.specs.Images.{image_in}
use Rattle.stop_model.specs.Files.{File}
use Rattle.stop_model.specs.Moments.{Meaning}
use Rattle.vol_model.specs.declared.contents.Body.{Body}
use Rattle.vol_model.specs.declared.contents.Body.TheVariants as bodies
use Rattle.vol_model.specs.Shelf.{unreadable}
use Rattle.vtoc_index.specs.declared.vol.Vol.{Vol}
use Rattle.vtoc_index.specs.Index.{IsMounted}
use Rattle.seq_access.specs.Bodies.{IsReadablePart as IsReadableBody, IsSetIn, part_in}
use Rattle.pds_directory.specs.Directories.{IsReadablePart}
use Rattle.pds_directory.proofs.OnlyReading.{OnlyReads, onward}

-- a body that isn't unreadable has blocks
has_blocks : (body : Body) → unreadable body ≡ None → IsReadableBody body
has_blocks (bodies.Seq bs) is = (bs, refl)
has_blocks (bodies.Part dir end es bs) is = (bs, refl)
has_blocks bodies.Catalog is = ([], refl)
has_blocks bodies.Other is = ([], refl)
has_blocks (bodies.Unreadable track) is = cc

-- a data set of an index with another buffer
set_with : (image : List ℕ) (v0 v1 : Vol) (f : F1) → IsReadablePart image v0 f → IsMounted image (record v0 { buf = v1.buf }) → IsSetIn image (record v0 { buf = v1.buf }) f
set_with image v0 v1 f is mounted = record { set = record { mounted = mounted; extents = is.part.set.extents }; slot = is.part.slot; dscb = is.part.dscb }

module _ (tells : Bool) (f0 f1 : Facts) (m0 m1 : Meaning (List File)) (v0 v1 : Vol) (f : F1) (w : OnlyReads tells f0 f1 m0 m1 v0 v1) where
  abbrev image : List ℕ
  image = image_in m0 f0 v0.unit

  abbrev now : List ℕ
  now = image_in m1 f1 v1.unit

  pub set_now : IsTrue tells → IsReadablePart image v0 f → IsSetIn now v1 f
  set_now told is = onward tells f0 f1 m0 m1 v0 v1 w told (λ i v. IsSetIn i v f) (set_with image v0 v1 f is (subst (IsMounted image) w.others (w.mounted told)))

  pub readable_now : IsTrue tells → IsReadablePart image v0 f → IsReadableBody (part_in now v1 f)
  readable_now told is = onward tells f0 f1 m0 m1 v0 v1 w told (λ i v. IsReadableBody (part_in i v f)) (has_blocks (part_in image v0 f) is.readable)
