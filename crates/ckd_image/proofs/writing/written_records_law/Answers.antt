use Rattle.ckd_image.proofs.WrittenTracks.{record_stands, records_bytes-append, AreRecords-append}
use Rattle.ckd_image.proofs.writing.written_records_law.Goals as goal

pub returns-clause-one : goal.returns-clause-one
returns-clause-one c = record_stands

pub returns-clause-bytes : goal.returns-clause-bytes
returns-clause-bytes c = records_bytes-append

pub returns-clause-stand : goal.returns-clause-stand
returns-clause-stand c = AreRecords-append
