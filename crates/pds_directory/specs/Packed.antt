-- Whether directories are packed, as tests, in this project's profile.
use Rattle.std.specs.Prelude.{ℕ, ◌+◌, ◌&&◌, Bool, true, false, List, [], ◌∷◌, map, nat_le, nat_lt, Option, Some, None, option_map, Result, Ok, Err, if◌then◌else◌}
use Rattle.std.specs.List.{list_all}
use Rattle.std.specs.Option.{option_map_or}
use Rattle.chain_spec.specs.Cut.{first_size, total}
use Rattle.chain_spec.specs.Kept.{joined}
use Rattle.chain_spec.specs.Store.{Block as Stored}
use Rattle.ckd_image.specs.declared.header.Geometry.{Geometry}
use Rattle.vol_model.specs.declared.contents.Block.{Block}
use Rattle.vol_model.specs.declared.contents.Body.{Body}
use Rattle.vol_model.specs.declared.contents.Body.TheVariants.{Part}
use Rattle.vol_model.specs.declared.contents.DataSet.{DataSet}
use Rattle.vol_model.specs.declared.contents.Entry.{Entry}
use Rattle.vol_model.specs.declared.contents.Run.{Run}
use Rattle.vol_model.specs.declared.contents.Volume.{Volume}
use Rattle.vol_model.specs.Slots.{entry_size}
use Rattle.pack_spec.specs.declared.MountErr.{MountErr}
use Rattle.pack_spec.specs.Blocks.{data_tracks, owned_tracks}
use Rattle.pack_spec.specs.Directories.{rise_from, stored_in}
use Rattle.pack_spec.specs.Settled.{directory_upto}
use Rattle.pack_spec.specs.Volume.{volume_of}

-- the entries of each block of a directory up to the first that ends it; none where none does, or one up to there breaks the format
abbrev pub used_blocks : List (Option (Stored Entry)) → Option (List (List Entry))
used_blocks [] = None
used_blocks (None ∷ bs) = None
used_blocks (Some b ∷ bs) = if b.ends then (Some (b.entries ∷ [])) else (option_map (λ ds. b.entries ∷ ds) (used_blocks bs))

-- there is a block, and the entries of each fit it, those of the last with the end entry
abbrev pub all_fit : List (List Entry) → Bool
all_fit [] = false
all_fit (b ∷ []) = nat_le (total entry_size b + 12) 254
all_fit (b ∷ c ∷ cs) = nat_le (total entry_size b) 254 && all_fit (c ∷ cs)

-- no block has room for the first entry of the next, which is the end entry where the last has no other
abbrev pub are_full : List (List Entry) → Bool
are_full [] = true
are_full (b ∷ []) = true
are_full (b ∷ c ∷ cs) = nat_lt 254 (total entry_size b + first_size entry_size 12 c cs) && are_full (c ∷ cs)

-- the names of these blocks' entries rise, and each block takes as many of them as fit
abbrev pub is_cut : List (List Entry) → Bool
is_cut blocks = rise_from 0 (joined blocks) && (all_fit blocks && are_full blocks)

-- a directory in these blocks is packed
unfoldable pub is_packed : List Block → Bool
is_packed directory = option_map_or is_cut (used_blocks (map stored_in directory)) false

-- the directory of a data set with these extents and this body is packed, if it has one that can be read
abbrev pub has_packed : Geometry → List (List ℕ) → List Run → Body → Bool
has_packed g tracks extents (Part dir end entries blocks) = is_packed (directory_upto g tracks (owned_tracks extents) end)
has_packed g tracks extents body = true

-- and so that of each data set of a volume
abbrev pub have_packed : List ℕ → Volume → Bool
have_packed image volume =
    list_all (λ (d : DataSet). has_packed volume.geometry (data_tracks image volume.geometry volume.vtoc) d.extents d.body) volume.sets

-- where an image stands for a volume
abbrev pub have_packed_if : List ℕ → Result Volume MountErr → Bool
have_packed_if image (Ok volume) = have_packed image volume
have_packed_if image (Err e) = false

-- an image stands for a volume, and each of its directories that can be read is packed
unfoldable pub are_packed : List ℕ → Bool
are_packed image = have_packed_if image (volume_of image)
