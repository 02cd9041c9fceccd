-- The blocks of edited records.
use Rattle.std.proofs.Common.{◌≡◌, List, ap}
use Rattle.record_blocks.specs.declared.formats.Format.{Format}
use Rattle.record_files.specs.Inputs.{Found, records_of}
use Rattle.record_files.specs.Streams.{Stream}
use Rattle.record_files.specs.Writing.{packed}
use Rattle.iebgener_util.specs.declared.orders.Order.{Order}
use Rattle.iebgener_util.specs.declared.requests.Edit.{Edit}
use Rattle.iebgener_util.specs.Editing.{edited_by, left_behind}
use Rattle.iebgener_util.specs.Items.{blocks_in, groups}

-- the blocks of these records
pub blocks_of_records : (format : Format) (before : List Order) (edits : List Edit) (found : Found) (st : Stream) → st ≡ edited_by format.lrecl (groups edits) (left_behind before (records_of found)) → packed format st ≡ blocks_in format before edits found
unfolding blocks_in
blocks_of_records format before edits found st is = ap (packed format) is
