-- Whether the image of a pack is settled, as a test (this project's profile).
use Rattle.std.specs.Prelude.{◌&&◌, ℕ, Bool, List}
use Rattle.free_rebuild.specs.Settled.{is_settled_vtoc}
use Rattle.pds_directory.specs.Packed.{are_packed}

-- an image stands for a volume and is settled: its VTOC is, and each directory that can be read is packed
abbrev pub is_settled : List ℕ → Bool
is_settled image = is_settled_vtoc image && are_packed image
