-- The record of a directory block stands at its place, with the lengths of a block.
use Rattle.std.proofs.Common.{ℕ, List, Some, sym, ◌∙◌, subst}
use Rattle.dscb_codec.specs.declared.F1.{F1}
use Rattle.pack_spec.specs.Directories.{read_to}
use Rattle.vol_model.specs.declared.contents.Place.{Place}
use Rattle.vtoc_index.specs.declared.vol.Vol.{Vol}
use Rattle.pds_directory.specs.Directories.{IsPartIn, data_in, end_in, owned_in}
use Rattle.stow_ops.specs.Stores.{IsPlaceIn}
use Rattle.stow_ops.proofs.FoundBlocks.{IsFound, block_found}
use Rattle.pds_directory.proofs.PartSets.{outside, own_inside}
use Rattle.set_records.specs.Rewriting.{HasRecord}
use Rattle.vtoc_sets.proofs.Owners.{data_read}

pub place_found : (image : List ℕ) (v : Vol) (f : F1) (place : Place) → IsPlaceIn image v f place → IsFound v.geometry (data_in image v) (owned_in image v f) place
place_found image v f place at =
    subst (IsFound v.geometry (data_in image v) (owned_in image v f)) at.1.2
    (block_found v.geometry (data_in image v) (owned_in image v f) (end_in image v f) (read_to (end_in image v f) f.lstar) at.0 at.1.0 at.1.1).0

-- its record has the lengths of a block
pub place_held : (image : List ℕ) (v : Vol) (f : F1) (place : Place) → IsPartIn image v f → IsPlaceIn image v f place → HasRecord image v f place 8 256
place_held image v f place part at =
    let found = place_found image v f place at in
    let inside = own_inside image v f part place.tt found.track found.there in
    record {
      track = found.track;
      owned = found.there;
      records = found.held;
      read = sym (data_read image v.geometry v.vtoc (Some place.r) found.track (outside image v f part place.tt found.track found.there) inside) ∙ found.read;
      lengths = found.lengths;
    }
