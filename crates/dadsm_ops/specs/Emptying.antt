-- What empties a data set, in the slots of a VTOC (System Control Blocks GC28-6628), and where that isn't refused.
use Rattle.std.specs.Prelude.{◌≡◌, ℕ, ◌==◌, List, replicate, Ok, if◌then◌else◌}
use Rattle.dscb_codec.specs.declared.Dscb.{Dscb}
use Rattle.dscb_codec.specs.declared.Dscb.TheVariants as formats
use Rattle.dscb_codec.specs.declared.F1.{F1}
use Rattle.ebcdic_names.specs.declared.names.Dsn.{Dsn}
use Rattle.pack_spec.specs.Volume.{volume_of}
use Rattle.vol_model.specs.Shelf.{empty_on}
use Rattle.vol_model.specs.declared.contents.Attr.{Attr}
use Rattle.vol_model.specs.declared.contents.Volume.{Volume}

-- a format 1 without blocks, with the record format and lengths of these attributes; one without an organization becomes sequential
abbrev pub emptied_format_1 : Attr → F1 → F1
emptied_format_1 attr f = record f {
  dsorg = if f.dsorg == 0 then 0x4000 else f.dsorg;
  recfm = attr.recfm;
  optcd = attr.optcd;
  blksize = attr.blksize;
  lrecl = attr.lrecl;
  keylen = attr.keylen;
  rkp = attr.rkp;
  lstar = replicate 3 0;
  balance = 0;
}

-- a DSCB, without blocks where it is a format 1
abbrev pub emptied_dscb : Attr → Dscb → Dscb
emptied_dscb attr (formats.F1 f) = formats.F1 (emptied_format_1 attr f)
emptied_dscb attr d = d

-- the volume of an image has a data set of this name that may be emptied
abbrev pub MayEmpty : List ℕ → Dsn → Attr → Type 0
MayEmpty image dsn attr = (volume : Volume) → volume_of image ≡ Ok volume
    → (after : Volume) × (empty_on dsn attr volume ≡ Ok after)
