use Rattle.std.proofs.Common.{rules}
use Rattle.track_records.proofs.buffer.TrackBuf.track.Goals as goal

pub returns : goal.returns
returns c = search rules
