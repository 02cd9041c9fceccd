-- The attributes and the body of a new data set, as they are read back from its format 1.
use Rattle.std.proofs.Common.{◌≡◌, ◌+◌, ◌*◌, ◌/◌, ◌%◌, ◌^◌, ◌<◌, ℕ, Bool, true, false, cond, ◌||◌, List, [], refl, ap, ap₂, ◌∙◌, arith}
use Rattle.std.specs.Prelude.{◌==◌, bit_and, replicate}
use Rattle.ckd_image.specs.declared.device.DiskType.{DiskType}
use Rattle.ckd_image.specs.declared.header.Geometry.{Geometry}
use Rattle.dscb_codec.specs.declared.F1.{F1}
use Rattle.pack_spec.specs.Blocks.{seq_body}
use Rattle.pack_spec.specs.Bodies.{body_of}
use Rattle.pack_spec.specs.Directories.{part_body}
use Rattle.pack_spec.specs.Volume.{attr_of, secondary_of, space_flags}
use Rattle.vol_model.specs.declared.contents.Attr.{Attr}
use Rattle.vol_model.specs.declared.contents.Body.{Body}
use Rattle.vol_model.specs.declared.contents.Body.TheVariants as bodies
use Rattle.vol_model.specs.declared.contents.Run.{Run}
use Rattle.vol_model.specs.declared.requests.Request.{Request}
use Rattle.vol_model.specs.declared.requests.SpaceUnit.{SpaceUnit}
use Rattle.vol_model.specs.declared.requests.SpaceUnit.TheVariants.{Track, Cylinder}
use Rattle.vol_model.specs.Places.{directory_end}
use Rattle.vol_model.specs.Shelf.{flags_of, is_catalog, is_partitioned, is_sequential, new_attr, new_body}
use Rattle.dadsm_ops.specs.Allocating.{new_f1}

-- the secondary quantity by the flags
abbrev by_flags : ℕ → ℕ → ℕ
by_flags flags n = cond ((bit_and flags 0xC0 == 0xC0) || (bit_and flags 0xC0 == 0x80)) n 0

flags_named : (unit : SpaceUnit) (contig : Bool) (n : ℕ) → by_flags (flags_of unit contig) n ≡ n
flags_named Track true n = refl
flags_named Track false n = refl
flags_named Cylinder true n = refl
flags_named Cylinder false n = refl

top : (flags n : ℕ) → n < 2 ^ 24 → (flags * 2 ^ 24 + n) / 2 ^ 24 ≡ flags
top flags n few = omega (arith, few)

rest : (flags n : ℕ) → n < 2 ^ 24 → (flags * 2 ^ 24 + n) % 2 ^ 24 ≡ n
rest flags n few = omega (arith, few)

-- the attributes that a request gives a set
abbrev pub asked : Attr → Request → Attr
asked attr q = record attr { scalo = flags_of q.unit q.contig; secondary = q.secondary }

pub attr_asked : (name : List ℕ) (attr : Attr) (q : Request) → is_catalog name ≡ false → new_attr name attr q ≡ asked attr q
attr_asked name attr q other =
    ap (λ (b : Bool). cond b (record (asked attr q) { dsorg = 0x2000; recfm = 0x80; blksize = 256; keylen = 8 }) (asked attr q)) other

module _ (name serial : List ℕ) (attr : Attr) (q : Request) (g : Geometry) (kind : ℕ) (runs : List Run) (pointer : List ℕ) (dir : ℕ) (few : q.secondary < 2 ^ 24) where
  abbrev f : F1
  f = new_f1 name serial (asked attr q) g kind runs pointer dir

  flags_read : space_flags f ≡ flags_of q.unit q.contig
  unfolding new_f1
  flags_read = top (flags_of q.unit q.contig) q.secondary few

  secondary_read : secondary_of f ≡ q.secondary
  unfolding new_f1
  secondary_read =
      ap (λ (flags : ℕ). by_flags flags (f.scalo % 2 ^ 24)) flags_read
      ∙ flags_named q.unit q.contig (f.scalo % 2 ^ 24)
      ∙ rest (flags_of q.unit q.contig) q.secondary few

  -- the attributes are those that were asked for
  pub attr_read : attr_of f ≡ asked attr q
  unfolding attr_of new_f1
  attr_read = ap₂ (λ (flags n : ℕ). record attr { scalo = flags; secondary = n }) flags_read secondary_read

-- a set without a directory has no block
pub body_read : (name : List ℕ) (attr : Attr) (q : Request) (g : Geometry) (device : DiskType) (tracks : List (List ℕ)) (extents : List Run) → is_catalog name ≡ false → is_partitioned name attr ≡ false → body_of g tracks name (asked attr q) extents (replicate 3 0) ≡ new_body device name attr 0
unfolding body_of seq_body
body_read name attr q g device tracks extents other flat = by_tests (is_catalog name) (is_sequential name attr) (is_partitioned name attr) (part_body g tracks extents (replicate 3 0)) other flat
  where
    by_tests : (c s p : Bool) (part : Body) → c ≡ false → p ≡ false → cond s (bodies.Seq []) (cond p part (cond c (bodies.Unreadable 0) bodies.Other))
        ≡ cond c bodies.Catalog (cond s (bodies.Seq []) (cond p (bodies.Part 0 (directory_end device 0) [] []) bodies.Other))
    by_tests true s p part is none = cc
    by_tests false true p part is none = refl
    by_tests false false true part is none = cc
    by_tests false false false part is none = refl
