-- The devices: numbers of their packs and tracks, as this project's profile has them.
use Rattle.std.specs.Prelude.{ℕ, ◌==◌, List, Option, Some, None, codes, if◌then◌else◌}
use Rattle.ckd_image.specs.declared.device.DiskType.{DiskType}
use Rattle.ckd_image.specs.declared.device.DiskType.TheVariants.{D2311, D2314, D3330, D3350}

-- a row of the table of devices
pub record Device : Type 0 where
  -- the byte that names it in the header of an image
  pub type_byte : ℕ
  -- the most cylinders of an image
  pub most_cylinders : ℕ
  -- heads, which are the tracks of a cylinder
  pub heads : ℕ
  -- the bytes of the largest R1 that a track holds
  pub largest_record : ℕ
  -- cylinders that aren't alternates
  pub primary_cylinders : ℕ
  -- the bytes of a track that records share, with what each of them costs
  pub track_capacity : ℕ
  -- I: the bytes around a record with a key that isn't the last of its track
  pub overhead : ℕ
  -- L: the same of the last record
  pub last_overhead : ℕ
  -- K: how many of these bytes a record without a key saves
  pub key_overhead : ℕ
  -- T: what a byte of key or data costs, in 512ths of a byte
  pub tolerance : ℕ
  -- DSCBs on a track of a VTOC
  pub dscbs_per_track : ℕ
  -- blocks on a track of a partitioned set's directory
  pub directory_blocks_per_track : ℕ
  -- the bytes that a track takes in a new image
  pub written_track_size : ℕ
  -- the device code in a catalog's entries
  pub device_code : ℕ
  -- the device's name on a card and in a listing
  pub device_word : List ℕ

-- the table of devices
abbrev pub row_of : DiskType → Device
row_of D2311 = record {
  type_byte = 0x11;
  most_cylinders = 203;
  heads = 10;
  largest_record = 3625;
  primary_cylinders = 200;
  track_capacity = 3625;
  overhead = 81;
  last_overhead = 20;
  key_overhead = 20;
  tolerance = 537;
  dscbs_per_track = 16;
  directory_blocks_per_track = 10;
  written_track_size = 4096;
  device_code = 0x30002001;
  device_word = codes "2311";
}
row_of D2314 = record {
  type_byte = 0x14;
  most_cylinders = 203;
  heads = 20;
  largest_record = 7294;
  primary_cylinders = 200;
  track_capacity = 7294;
  overhead = 146;
  last_overhead = 45;
  key_overhead = 45;
  tolerance = 534;
  dscbs_per_track = 25;
  directory_blocks_per_track = 17;
  written_track_size = 7680;
  device_code = 0x30C02008;
  device_word = codes "2314";
}
row_of D3330 = record {
  type_byte = 0x30;
  most_cylinders = 411;
  heads = 19;
  largest_record = 13030;
  primary_cylinders = 404;
  track_capacity = 13165;
  overhead = 191;
  last_overhead = 191;
  key_overhead = 56;
  tolerance = 512;
  dscbs_per_track = 39;
  directory_blocks_per_track = 28;
  written_track_size = 13312;
  device_code = 0x30502009;
  device_word = codes "3330";
}
row_of D3350 = record {
  type_byte = 0x50;
  most_cylinders = 560;
  heads = 30;
  largest_record = 19069;
  primary_cylinders = 555;
  track_capacity = 19254;
  overhead = 267;
  last_overhead = 267;
  key_overhead = 82;
  tolerance = 512;
  dscbs_per_track = 47;
  directory_blocks_per_track = 36;
  written_track_size = 19456;
  device_code = 0x3050200B;
  device_word = codes "3350";
}

-- the device that a type byte names
abbrev pub device_of : ℕ → Option DiskType
device_of b =
    if b == 0x11 then Some D2311
    else (if b == 0x14 then Some D2314
    else (if b == 0x30 then Some D3330
    else (if b == 0x50 then Some D3350 else None)))
