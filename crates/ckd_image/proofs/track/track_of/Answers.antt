-- What was read, or where it broke, is what the grammar says.
use Rattle.std.proofs.Common.{arith}
use Rattle.ckd_image.specs.Reading.{records_of}
use Rattle.ckd_image.proofs.Counts.{counted}
use Rattle.ckd_image.proofs.Grammar.{read_follows, follows_read}
use Rattle.ckd_image.proofs.GrammarFirstBreak.{break_breaks}
use Rattle.ckd_image.proofs.track.track_of.Goals as goal

pub returns-in-Ok-clause-reads : goal.returns-in-Ok-clause-reads
returns-in-Ok-clause-reads c =
    let read = counted (records_of c.args.cylinder c.args.head c.args.upto c.args.bytes.now) c.in-Ok.records c.in-Ok.ensures.reading.1 in
    (read.0, read.1, read_follows c.args.cylinder c.args.head c.args.upto read.0 c.args.bytes.now (λ i. omega (arith, c.type_inv.bytes i)) read.1, read.2)

pub returns-in-Ok-clause-only : goal.returns-in-Ok-clause-only
returns-in-Ok-clause-only c records follows = follows_read c.args.cylinder c.args.head c.args.upto records c.args.bytes.now follows

pub returns-in-Err-clause-only : goal.returns-in-Err-clause-only
returns-in-Err-clause-only c records follows = follows_read c.args.cylinder c.args.head c.args.upto records c.args.bytes.now follows

pub returns-in-Err-clause-breaks : goal.returns-in-Err-clause-breaks
returns-in-Err-clause-breaks c =
    break_breaks c.args.cylinder c.args.head c.args.upto c.args.bytes.now c.in-Err.at (λ i. omega (arith, c.type_inv.bytes i)) c.in-Err.ensures.last_fits c.in-Err.ensures.reading.0
