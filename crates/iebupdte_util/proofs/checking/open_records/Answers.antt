use Rattle.record_files.specs.Inputs.{records_of}
use Rattle.iebupdte_util.proofs.CheckLemmas.{opened}
use Rattle.iebupdte_util.proofs.checking.open_records.Goals as goal

pub returns : goal.returns
returns c shelf found reads known =
    let made = c.new.ensures in
    opened c.new.result c.args.function.now c.in_ok-reader.reader made.reader made.next shelf (records_of found) (c.in_ok-reader.ensures shelf found reads known)
    (rw c.ranges_for-ranges.ensures at made.ranges) (rw c.cards_for-cards.ensures at made.cards) made.numbering made.last made.rising made.fits
