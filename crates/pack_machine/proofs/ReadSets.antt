-- What the reads of the blocks of a data set need of it, by its name on a pack that is ready.
use Rattle.std.proofs.Common.{◌≡◌, ℕ, Bool, IsTrue, List, Some, refl}
use Rattle.std.specs.Prelude.{Err, slice_get}
use Rattle.dscb_codec.specs.declared.F1.{F1}
use Rattle.ebcdic_names.specs.declared.names.Dsn.{Dsn}
use Rattle.free_rebuild.specs.Repairs.{image_named}
use Rattle.hall_core.specs.Facts.{Facts}
use Rattle.seq_access.specs.Bodies.{IsReadable, IsSetIn, body_in}
use Rattle.stop_model.specs.Files.{File}
use Rattle.stop_model.specs.Moments.{Meaning}
use Rattle.vol_model.specs.declared.answers.Kind.TheVariants as kinds
use Rattle.vol_model.specs.declared.contents.Shelf.{Shelf}
use Rattle.vol_model.specs.Reading.{readable}
use Rattle.vol_model.specs.Writing.{body_on, set_on}
use Rattle.vtoc_sets.specs.Sets.{volume_in}
use Rattle.pack_machine.specs.Blocks.{IsOnImage, IsPartOn}
use Rattle.pack_machine.specs.Ready.{IsReady, file_name}
use Rattle.pack_machine.specs.Reads.{HasVolume, IsSetOn}
use Rattle.pack_machine.specs.declared.pack.Pack.{Pack}
use Rattle.pack_machine.proofs.ReadBlocks.{IsKind, not_readable, part_named, readable_set}
use Rattle.pack_machine.proofs.Resting.{on_image, on_one}

module _ {tells : Bool} {f : Facts} {m : Meaning (List File)} {pack : Pack} (ready : IsReady tells f m pack) (told : IsTrue tells) where
  abbrev image : List ℕ
  image = image_named m.state (file_name f pack.vol)

  abbrev IsIn : Shelf → ℕ → Type 0
  IsIn shelf n = slice_get shelf.volumes n ≡ Some (volume_in image pack.vol)

  -- the pack's image, as that of a volume of a shelf
  abbrev pub seen_on : (shelf : Shelf) (n : ℕ) → IsIn shelf n → IsOnImage image pack.vol pack.cache
  seen_on shelf n there = on_image image pack (ready.image told) shelf n there

  abbrev pub volume_on : (shelf : Shelf) (n : ℕ) → IsIn shelf n → HasVolume shelf n pack.vol
  volume_on shelf n there = record { image = image; mounted = (seen_on shelf n there).mounted; there = there }

  module _ (dsn : Dsn) (set : F1) (named : (shelf : Shelf) (n : ℕ) (has : HasVolume shelf n pack.vol) → IsSetOn has.image pack.vol (set_on shelf n dsn.bytes) (Some set)) where
    here : IsOnImage image pack.vol pack.cache
    here = on_one image pack (ready.image told)

    pub set_known : IsSetIn image pack.vol set
    set_known = (named here.shelf here.number (record { image = image; mounted = here.mounted; there = here.there })).0

    -- one that can be read
    pub set_readable : IsKind set pack.cache.unread.items kinds.Seq → IsReadable (body_in image pack.vol set)
    set_readable is = readable_set image pack.vol pack.cache here dsn.bytes set (named here.shelf here.number (record { image = image; mounted = here.mounted; there = here.there })) pack.cache.unread.items refl is

    pub part_known : IsKind set pack.cache.unread.items kinds.Part → (on : IsOnImage image pack.vol pack.cache) → IsPartOn image pack.vol set (body_on on.shelf on.number set.name)
    part_known is on = part_named image pack.vol pack.cache on dsn.bytes set (named on.shelf on.number (record { image = image; mounted = on.mounted; there = on.there })) pack.cache.unread.items refl is

    -- and one that can't
    pub set_unreadable : (track : ℕ) → IsKind set pack.cache.unread.items (kinds.Unreadable track) → (shelf : Shelf) (n : ℕ) → IsIn shelf n → readable (body_on shelf n dsn.bytes) ≡ Err track
    set_unreadable track is shelf n there = not_readable image pack.vol pack.cache (seen_on shelf n there) dsn.bytes set (named shelf n (volume_on shelf n there)) pack.cache.unread.items refl track is
