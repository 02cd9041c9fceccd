-- The DSCB that the 140 bytes of a slot's key and data are, by the tables of places in System Control Blocks GC28-6628.
use Rattle.std.specs.Prelude.{◌≡◌, ℕ, ◌+◌, ◌*◌, ◌<◌, length, List, Bool, ◌==◌, ◌||◌, Result, Ok, Err, slice_index, slice_range, if◌then◌else◌}
use Rattle.std.specs.List.{AllByRecursion, list_all}
use Rattle.std.specs.Int.{w16, w32, from_be_bytes}
use Rattle.std.specs.Simd.{first_chunks}
use Rattle.dscb_codec.specs.declared.F1.{F1}
use Rattle.dscb_codec.specs.declared.F3.{F3}
use Rattle.dscb_codec.specs.declared.F4.{F4}
use Rattle.dscb_codec.specs.declared.F5.{F5}
use Rattle.dscb_codec.specs.declared.Dscb.{Dscb}
use Rattle.dscb_codec.specs.declared.Dscb.TheVariants as formats
use Rattle.dscb_codec.specs.declared.DscbErr.{DscbErr}
use Rattle.dscb_codec.specs.declared.DscbErr.TheVariants.{Unsupported, BadFormat}

-- so many bytes from an offset
abbrev pub part : List ℕ → ℕ → ℕ → List ℕ
part bytes at len = slice_range bytes at (at + len)

-- the byte at an offset
abbrev pub byte : List ℕ → ℕ → ℕ
byte bytes at = slice_index bytes at

-- the number in two bytes, the high one first
abbrev pub half : List ℕ → ℕ → ℕ
half bytes at = from_be_bytes w16 (part bytes at 2)

-- the number in four bytes, the high one first
abbrev pub word : List ℕ → ℕ → ℕ
word bytes at = from_be_bytes w32 (part bytes at 4)

-- rows from an offset: so many, and so many bytes each
abbrev pub rows : List ℕ → ℕ → ℕ → ℕ → List (List ℕ)
rows bytes at count len = first_chunks len count (part bytes at (len * count))

-- format 1: a data set
unfoldable pub f1_of : List ℕ → F1
f1_of bytes = record {
  name = part bytes 0 44;
  serial = part bytes 45 6;
  volseq = half bytes 51;
  created = part bytes 53 3;
  expires = part bytes 56 3;
  extents = byte bytes 59;
  dir_used = byte bytes 60;
  res61 = part bytes 61 1;
  system = part bytes 62 13;
  res75 = part bytes 75 7;
  dsorg = half bytes 82;
  recfm = byte bytes 84;
  optcd = byte bytes 85;
  blksize = half bytes 86;
  lrecl = half bytes 88;
  keylen = byte bytes 90;
  rkp = half bytes 91;
  indicators = byte bytes 93;
  scalo = word bytes 94;
  lstar = part bytes 98 3;
  balance = half bytes 101;
  res103 = part bytes 103 2;
  runs = rows bytes 105 3 10;
  pointer = part bytes 135 5;
}

-- format 3: more extents of a data set
unfoldable pub f3_of : List ℕ → F3
f3_of bytes = record {
  id = word bytes 0;
  front = rows bytes 4 4 10;
  back = rows bytes 45 9 10;
  pointer = part bytes 135 5;
}

-- format 4: the VTOC and the device
unfoldable pub f4_of : List ℕ → F4
f4_of bytes = record {
  id = part bytes 0 44;
  highest = part bytes 45 5;
  free = half bytes 50;
  next_alt = word bytes 52;
  alternates = half bytes 56;
  indicators = byte bytes 58;
  extents = byte bytes 59;
  res60 = part bytes 60 2;
  size = word bytes 62;
  capacity = half bytes 66;
  i = byte bytes 68;
  l = byte bytes 69;
  k = byte bytes 70;
  flag = byte bytes 71;
  tolerance = half bytes 72;
  dscbs = byte bytes 74;
  dirs = byte bytes 75;
  res76 = part bytes 76 29;
  vtoc = part bytes 105 10;
  res115 = part bytes 115 25;
}

-- format 5: free space
unfoldable pub f5_of : List ℕ → F5
f5_of bytes = record {
  id = word bytes 0;
  front = rows bytes 4 8 5;
  back = rows bytes 45 18 5;
  pointer = part bytes 135 5;
}

-- each byte is zero
abbrev pub is_zeros : List ℕ → Bool
is_zeros bytes = list_all (λ b. b == 0) bytes

-- the byte that tells the format
abbrev pub format_byte : List ℕ → ℕ
format_byte bytes = byte bytes 44

-- the DSCB that 140 bytes are, or why they are none: the format byte alone decides, and for format 0 all bytes
unfoldable pub decoded : List ℕ → Result Dscb DscbErr
decoded bytes =
    let format = format_byte bytes in
    if format == 0xF1 then Ok (formats.F1 (f1_of bytes))
    else (if format == 0xF3 then Ok (formats.F3 (f3_of bytes))
    else (if format == 0xF4 then Ok (formats.F4 (f4_of bytes))
    else (if format == 0xF5 then Ok (formats.F5 (f5_of bytes))
    else (if (format == 0xF2) || (format == 0xF6) then Err (Unsupported format)
    else (if is_zeros bytes then Ok formats.F0 else Err (BadFormat format))))))

-- each is a byte
abbrev pub AreBytes : List ℕ → Type 0
AreBytes bytes = (k : ℕ) → slice_index bytes k < 256

-- so many rows, of so many bytes each
abbrev pub AreRows : ℕ → ℕ → List (List ℕ) → Type 0
AreRows len count rows = (length rows ≡ count) × AllByRecursion (λ row. length row ≡ len) rows
