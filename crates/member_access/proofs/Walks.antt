-- A member that a hall reads block by block.
use Rattle.std.proofs.Common.{◌≡◌, Bool, IsTrue, List, ℕ}
use Rattle.dscb_codec.specs.declared.F1.{F1}
use Rattle.hall_core.specs.Facts.{Facts, ReportedCall}
use Rattle.hall_core.specs.Images.{image_in}
use Rattle.stop_model.specs.Files.{File}
use Rattle.stop_model.specs.Moments.{Meaning, Same}
use Rattle.vol_model.specs.declared.contents.Block.{Block}
use Rattle.vol_model.specs.declared.contents.Place.{Place}
use Rattle.vol_model.specs.Shelf.{blocks_of}
use Rattle.vtoc_index.specs.declared.vol.Vol.{Vol}
use Rattle.seq_access.specs.declared.read_buf.ReadBuf.{ReadBuf}
use Rattle.seq_access.specs.Bodies.{part_in}
use Rattle.seq_access.specs.Reading.{HoldsTrack}
use Rattle.vtoc_sets.proofs.OtherBuffers.{call_none}
use Rattle.member_access.specs.declared.ends.Walk.{Walk}
use Rattle.member_access.specs.Ends.{IsPlace, end_behind, member_end}
use Rattle.member_access.proofs.MemberSteps.{began}

-- the blocks of a data set on an image
abbrev pub blocks_in : List ℕ → Vol → F1 → List Block
blocks_in image v f = blocks_of (part_in image v f)

-- How far a member was walked, where no fault was reported: its end is that of what is left.
pub record Walks (tells : Bool) (f0 f1 : Facts) (m0 m1 : Meaning (List File)) (v : Vol) (f : F1) (from : Place) (b : ReadBuf) (w : Walk) : Type 0 where
  pub facts : ReportedCall ⊥ f0 f1
  pub same : IsTrue tells → Same m0 m1
  pub held : IsTrue tells → HoldsTrack (image_in m0 f0 v.unit) b
  pub geometry : b.records.geometry ≡ v.geometry
  pub place : IsPlace w.next
  pub end : IsTrue tells → end_behind (blocks_in (image_in m0 f0 v.unit) v f) w ≡ member_end (blocks_in (image_in m0 f0 v.unit) v f) from

pub walks_first : (tells : Bool) (f0 : Facts) (m0 : Meaning (List File)) (v : Vol) (f : F1) (from : Place) (b : ReadBuf) → (IsTrue tells → Same m0 m0) → (IsTrue tells → HoldsTrack (image_in m0 f0 v.unit) b) → b.records.geometry ≡ v.geometry → IsPlace from
    → Walks tells f0 f0 m0 m0 v f from b (record { last = from; next = from })
walks_first tells f0 m0 v f from b same held geometry place = record {
  facts = call_none f0;
  same = same;
  held = held;
  geometry = geometry;
  place = place;
  end = λ told. began (blocks_in (image_in m0 f0 v.unit) v f) from;
}
