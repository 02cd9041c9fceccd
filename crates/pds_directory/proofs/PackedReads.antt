-- Whether what was read of a directory is packed.
use Rattle.std.proofs.Common.{◌≡◌, ◌&&◌, Bool, false, List, [], ◌∷◌, Option, ap, ◌∙◌}
use Rattle.std.specs.Option.{option_map_or}
use Rattle.chain_spec.specs.Cut.{AllFit}
use Rattle.chain_spec.specs.Kept.{joined}
use Rattle.chain_spec.specs.Store.{Block as Stored}
use Rattle.pack_spec.specs.Directories.{rise_from}
use Rattle.vol_model.specs.declared.contents.Block.{Block}
use Rattle.vol_model.specs.declared.contents.Entry.{Entry}
use Rattle.vol_model.specs.Slots.{entry_size}
use Rattle.pds_directory.specs.declared.dir.Dir.{Dir}
use Rattle.pds_directory.specs.Directories.{IsLawfulDir, IsRead, entries_read}
use Rattle.pds_directory.specs.Packed.{are_full, is_cut, is_packed, used_blocks}
use Rattle.pds_directory.proofs.PackedTests.{fit_are, used_stored}

-- if blocks are left, the entries of each fit it
abbrev pub FitIfSome : List (List Entry) → Type 0
FitIfSome [] = Unit {0}
FitIfSome (b ∷ bs) = AllFit entry_size 254 12 (b ∷ bs)

-- a directory that was read is packed where the names of its entries rise and no block has room for the next one's first
pub read_packed : (directory : List Block) (dir : Dir) → IsLawfulDir dir → IsRead directory dir → is_packed directory ≡ (rise_from 0 (joined (entries_read dir)) && are_full (entries_read dir))
unfolding is_packed
read_packed directory dir lawful read =
    ap (λ (s : List (Option (Stored Entry))). option_map_or is_cut (used_blocks s) false) read.blocks
    ∙ ap (λ (o : Option (List (List Entry))). option_map_or is_cut o false) (used_stored (entries_read dir) read.behind lawful.fit)
    ∙ ap (λ (b : Bool). rise_from 0 (joined (entries_read dir)) && (b && are_full (entries_read dir))) (fit_are (entries_read dir) lawful.fit)
