-- The space and the attributes of a new data set, in this project's profile.
use Rattle.std.specs.Prelude.{ℕ, ◌^◌, ◌&&◌, ◌==◌, nat_le, nat_lt, Bool, List, replicate, Option, Some, None, unwrap_or, if◌then◌else◌}
use Rattle.std.specs.List.{prefix_len, range_with_len}
use Rattle.std.specs.Int.{div_ceil}
use Rattle.ckd_image.specs.declared.device.DiskType.{DiskType}
use Rattle.ckd_image.specs.Fit.{fits}
use Rattle.jcl_forms.specs.declared.space.Space.{Space}
use Rattle.jcl_forms.specs.declared.space.SpaceAsk.{SpaceAsk}
use Rattle.jcl_forms.specs.declared.space.SpaceAsk.TheVariants.{Tracks, Cylinders, Length}
use Rattle.job_deck.specs.declared.job.DdSet.{DdSet}
use Rattle.vol_model.specs.declared.TheConstants.{MAX_DIR}
use Rattle.vol_model.specs.declared.contents.Attr.{Attr}
use Rattle.vol_model.specs.declared.requests.Request.{Request}
use Rattle.vol_model.specs.declared.requests.SpaceUnit.{SpaceUnit}
use Rattle.vol_model.specs.declared.requests.SpaceUnit.TheVariants.{Track, Cylinder}

-- so many blocks of a length, without keys, stand on a track and one more fits after them
unfoldable pub takes_one_more : DiskType → ℕ → ℕ → Bool
takes_one_more device len n = fits device (replicate n (0, len)) 0 len

-- how many blocks of a length, without keys, a track takes; the number of a record is a byte
unfoldable pub blocks_per_track : DiskType → ℕ → ℕ
blocks_per_track device len = prefix_len (takes_one_more device len) (range_with_len 0 255)

abbrev pub request_in : SpaceUnit → Space → Request
request_in unit space = record { unit = unit; primary = space.primary; secondary = space.secondary; contig = space.contig }

-- quantities of blocks in tracks, with so many to a track
abbrev pub request_by : ℕ → Space → Request
request_by per space = record { unit = Track; primary = div_ceil space.primary per; secondary = div_ceil space.secondary per; contig = space.contig }

abbrev pub in_blocks : Space → ℕ → Option Request
in_blocks space per = if per == 0 then None else Some (request_by per space)

abbrev pub request_as : DiskType → Space → SpaceAsk → Option Request
request_as device space Tracks = Some (request_in Track space)
request_as device space Cylinders = Some (request_in Cylinder space)
request_as device space (Length len) = in_blocks space (blocks_per_track device len)

-- its quantities are within the limits that those of every deck keep
abbrev pub is_within_limits : Space → Bool
is_within_limits space = nat_lt space.secondary (2 ^ 24) && nat_le space.dir MAX_DIR

-- what a SPACE asks for on a device; nothing where its blocks fit no track, or past those limits
unfoldable pub request_on : DiskType → Space → Option Request
request_on device space = if is_within_limits space then request_as device space space.ask else None

-- the organization of a new set: what DCB says, and else partitioned where a directory is asked for
abbrev pub organization_asked : DdSet → ℕ → ℕ
organization_asked set dir = unwrap_or set.dcb.dsorg (if dir == 0 then 0x4000 else 0x0200)

-- the attributes of a new set with so many directory blocks that is made on a date
unfoldable pub new_attributes : List ℕ → DdSet → ℕ → Attr
new_attributes date set dir = record {
  volseq = 0;
  created = date;
  expires = set.expires;
  system = replicate 13 0;
  dsorg = organization_asked set dir;
  recfm = unwrap_or set.dcb.recfm 0;
  optcd = 0;
  blksize = unwrap_or set.dcb.blksize 0;
  lrecl = unwrap_or set.dcb.lrecl 0;
  keylen = unwrap_or set.dcb.keylen 0;
  rkp = 0;
  indicators = 0;
  scalo = 0;
  secondary = 0;
}
