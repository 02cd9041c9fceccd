use Rattle.std.proofs.Common.{refl}
use Rattle.iebgener_util.proofs.EditedLemmas.{begun_edited}
use Rattle.iebgener_util.proofs.edited.EditedRecords.new.Goals as goal

pub returns : goal.returns
returns c shelf st is = begun_edited _ c.args.reader c.args.lrecl c.args.before.now c.args.edits.now refl refl c.groups.ensures refl refl shelf st is
