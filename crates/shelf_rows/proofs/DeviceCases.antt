-- Allocations on small packs of two devices, computed by the definitions of Shelf.antt.
use Rattle.std.proofs.Common.{◌≡◌, ◌*◌, ℕ, false, [], ◌∷◌, refl}
use Rattle.std.specs.Prelude.{Some, Ok, Err}
use Rattle.ckd_image.specs.declared.device.DiskType.{DiskType}
use Rattle.ckd_image.specs.declared.device.DiskType.TheVariants.{D2314, D3350}
use Rattle.ckd_image.specs.Device.{row_of}
use Rattle.ebcdic_names.specs.declared.names.Dsn.{Dsn}
use Rattle.vol_model.specs.declared.catalogs.CatBody.TheVariants as catalogs
use Rattle.vol_model.specs.declared.contents.Attr.{Attr}
use Rattle.vol_model.specs.declared.contents.Body.{Body}
use Rattle.vol_model.specs.declared.contents.Body.TheVariants as bodies
use Rattle.vol_model.specs.declared.contents.Place.{Place}
use Rattle.vol_model.specs.declared.contents.Run.{Run}
use Rattle.vol_model.specs.declared.contents.Shelf.{Shelf}
use Rattle.vol_model.specs.declared.contents.Volume.{Volume}
use Rattle.vol_model.specs.declared.refusals.Refusal.TheVariants.{NoRoom, WrongKind}
use Rattle.vol_model.specs.declared.requests.Op.TheVariants.{Allocate}
use Rattle.vol_model.specs.declared.requests.Request.{Request}
use Rattle.vol_model.specs.declared.requests.SpaceUnit.TheVariants.{Track}
use Rattle.vol_model.specs.Order.{in_order, rank}
use Rattle.vol_model.specs.Places.{directory_end}
use Rattle.vol_model.specs.Shelf.{allocate_on, catalog_name, step, step_on}
use Rattle.vol_model.specs.Slots.{slots_needed}
use Rattle.vol_model.specs.Space.{choice, choice_from, chosen, longest_first}

abbrev run : ℕ → ℕ → Run
run s n = record { start = s; len = n }

abbrev place : ℕ → ℕ → Place
place t r = record { tt = t; r = r }

abbrev named : Dsn
named = record { bytes = 0xC1 ∷ [] }

abbrev sysctlg : Dsn
sysctlg = record { bytes = catalog_name }

-- one track
abbrev one : Request
one = record { unit = Track; primary = 1; secondary = 0; contig = false }

-- 35 directory blocks and the end-of-file record fit on a track of a 3350; a 36th block fits too, but not the record after it
directory_35 : directory_end D3350 35 ≡ place 0 36
unfolding directory_end
directory_35 = refl

directory_36 : directory_end D3350 36 ≡ place 1 1
unfolding directory_end
directory_36 = refl

module _ (v : Volume) (attr : Attr) where
  -- a pack of one cylinder with a VTOC of 3 tracks and no data set
  abbrev pack : DiskType → Shelf
  pack device = record { volumes = record v { geometry = record { device = device; cylinders = 1; track_size = (row_of device).written_track_size }; vtoc = run 1 3; slots = 3 * (row_of device).dscbs_per_track; sets = [] } ∷ [] }

  abbrev library : Attr
  library = record attr { dsorg = 0x0200 }

  -- the pack with one data set on the first free track, and this catalog
  abbrev holding : DiskType → Dsn → Attr → Body → Shelf
  holding device name a body = record {
    volumes = record v {
      geometry = record { device = device; cylinders = 1; track_size = (row_of device).written_track_size };
      vtoc = run 1 3;
      slots = 3 * (row_of device).dscbs_per_track;
      sets = record { name = name; attr = record a { scalo = 0x80; secondary = 0 }; extents = run 4 1 ∷ []; body = body } ∷ [];
    } ∷ [];
  }

  library_35 : step (pack D3350) (Allocate 0 named library one 35) ≡ Ok (holding D3350 named library (bodies.Part 35 (place 0 36) [] []))
  unfolding step step_on allocate_on choice choice_from chosen longest_first directory_end slots_needed in_order rank
  library_35 = refl

  library_36 : step (pack D3350) (Allocate 0 named library one 36) ≡ Err NoRoom
  unfolding step step_on allocate_on choice choice_from chosen longest_first directory_end slots_needed in_order rank
  library_36 = refl

  -- a library without a directory is none
  library_0 : step (pack D3350) (Allocate 0 named library one 0) ≡ Err WrongKind
  unfolding step step_on allocate_on
  library_0 = refl

  -- the catalog's data set, whose attributes are given, on one track of so many blocks
  abbrev cataloged : DiskType → ℕ → Volume
  cataloged device blocks = record v {
    geometry = record { device = device; cylinders = 1; track_size = (row_of device).written_track_size };
    vtoc = run 1 3;
    slots = 3 * (row_of device).dscbs_per_track;
    sets = record { name = sysctlg; attr = record attr { dsorg = 0x2000; recfm = 0x80; blksize = 256; keylen = 8; scalo = 0x80; secondary = 0 }; extents = run 4 1 ∷ []; body = bodies.Catalog } ∷ [];
    catalog = Some (catalogs.Tree blocks []);
  }

  seventeen_blocks_on_a_2314 : step (pack D2314) (Allocate 0 sysctlg attr one 0) ≡ Ok (record { volumes = cataloged D2314 17 ∷ [] })
  unfolding step step_on allocate_on choice choice_from chosen longest_first directory_end slots_needed in_order rank
  seventeen_blocks_on_a_2314 = refl

  thirty_six_blocks_on_a_3350 : step (pack D3350) (Allocate 0 sysctlg attr one 0) ≡ Ok (record { volumes = cataloged D3350 36 ∷ [] })
  unfolding step step_on allocate_on choice choice_from chosen longest_first directory_end slots_needed in_order rank
  thirty_six_blocks_on_a_3350 = refl
