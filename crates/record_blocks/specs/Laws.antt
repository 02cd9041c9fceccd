-- What the definitions of reading, joining and packing mean.
use Rattle.std.specs.Prelude.{◌≡◌, ◌↔◌, ℕ, List, None, Ok, true, false}
use Rattle.record_blocks.specs.declared.formats.Format.{Format}
use Rattle.record_blocks.specs.declared.pieces.BlockErr.{BlockErr}
use Rattle.record_blocks.specs.Formats.{first_fault}
use Rattle.record_blocks.specs.Blocks.{Segment, IsBlock}
use Rattle.record_blocks.specs.Segments.{AreCodes, AreRecords}
use Rattle.record_blocks.specs.Reading.{AreBytes, complete_reading, broken_reading, IsBroken, reading}
use Rattle.record_blocks.specs.Joining.{joined_records}
use Rattle.record_blocks.specs.Packing.{is_spanned}
use Rattle.record_blocks.specs.Cut.{AllShort, IsCutPacking}
use Rattle.record_blocks.specs.Layout.{packing, IsSpannedPacking, IsReadBack}

-- a block is read without a fault as these segments exactly where it holds them
abbrev pub ReadingIsExact : Type 0
ReadingIsExact = (format : Format) (block : List ℕ) (segments : List Segment) → first_fault format ≡ None → AreBytes block
    → (reading format block ≡ complete_reading segments) ↔ IsBlock format block segments

-- where a fault is read it stands after the segments in front of it, and none may follow there
abbrev pub FaultsAreFirst : Type 0
FaultsAreFirst = (format : Format) (block : List ℕ) (segments : List Segment) (e : BlockErr) → first_fault format ≡ None
    → AreBytes block → reading format block ≡ broken_reading segments e → IsBroken format block segments e

-- segments are joined without a fault to these records exactly where they fall into them
abbrev pub JoiningIsExact : Type 0
JoiningIsExact = (longest : ℕ) (segments : List Segment) (records : List (List ℕ)) → AreCodes segments
    → (joined_records longest None segments ≡ Ok records) ↔ AreRecords longest segments records

-- in formats other than VS and VBS, blocks are the packing exactly where they are those of the cut
abbrev pub PackingIsCut : Type 0
PackingIsCut = (format : Format) (records blocks : List (List ℕ)) → is_spanned format ≡ false → first_fault format ≡ None
    → AllShort format records → (blocks ≡ packing format records) ↔ IsCutPacking format records blocks

-- in VS and VBS, blocks are the packing exactly where the records lie in them as they must
abbrev pub SpannedPackingIsLayout : Type 0
SpannedPackingIsLayout = (format : Format) (records blocks : List (List ℕ)) → is_spanned format ≡ true → first_fault format ≡ None
    → AllShort format records → (blocks ≡ packing format records) ↔ IsSpannedPacking format records blocks

-- the records of a packing are read back
abbrev pub PackingIsReadBack : Type 0
PackingIsReadBack = (format : Format) (records : List (List ℕ)) → first_fault format ≡ None → AllShort format records
    → IsReadBack format records (packing format records)
