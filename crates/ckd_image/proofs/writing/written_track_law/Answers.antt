use Rattle.ckd_image.proofs.WrittenTracks.{written_track, written_whole, written_up_to}
use Rattle.ckd_image.proofs.writing.written_track_law.Goals as goal

pub returns-clause-track : goal.returns-clause-track
returns-clause-track c = written_track

pub returns-clause-whole : goal.returns-clause-whole
returns-clause-whole c = written_whole

pub returns-clause-up_to : goal.returns-clause-up_to
returns-clause-up_to c = written_up_to
