use Rattle.std.proofs.Common.{◌≡◌, ◌+◌, ◌-◌, ◌*◌, ◌<◌, ◌≤◌, ◌++◌, None, Some, length, sym, ap, ◌∙◌, subst, take, arith}
use Rattle.std.specs.Prelude.{Err, Result, Bool, slice_get}
use Rattle.std.proofs.lemmas.Result.{err_from_is_err_and}
use Rattle.vol_model.specs.declared.answers.ReadErr.{ReadErr}
use Rattle.pack_spec.specs.Blocks.{blocks_from}
use Rattle.pds_directory.specs.Reading.{ReadsRecords, end_on}
use Rattle.pds_directory.proofs.DirectoryReads.{is_met, lawful_taken, lawful_with, no_device, not_met, read_taken, so_far_with, stands_at, taken_err, taken_more, taken_none}
use Rattle.pds_directory.proofs.reading.add_reached.Goals as goal

pub loop-passed-init : goal.loop-passed-init
loop-passed-init c = taken_none c.args.k c.args.buf.now.records c.args.reading.now c.requires.lawful

pub returns-in_err-add_record-clause-read : goal.returns-in_err-add_record-clause-read
returns-in_err-add_record-clause-read c directory so_far =
    let p = err_from_is_err_and c.from_residual.result c.from_residual.ensures.1 in
    let n = c.loop-passed.passed in
    let records = c.args.buf.now.records in
    let less : n < c.args.reached.before = omega (arith, c.loop-passed-test.true) in
    let low : n < length records = omega (arith, less, c.requires.held.before) in
    let at = stands_at n records low in
    let same : n + 1 - 1 ≡ n = omega arith in
    subst (λ (r : Result Bool ReadErr). ReadsRecords r c.args.k directory (take c.args.reached.before records) c.add_record.new.reading) (sym (p.1 ∙ ap Err p.2))
    (taken_err c.args.k n records c.args.reading.now c.loop-passed.reading c.add_record.new.reading c.loop-passed.invariant low at.0 c.args.reached.before c.in_err-add_record.field-0.0 at.1 less
    (c.in_err-add_record.ensures at.0 (ap (slice_get records) same ∙ at.1)) directory so_far)

pub returns-in_err-add_record-clause-device : goal.returns-in_err-add_record-clause-device
returns-in_err-add_record-clause-device c =
    let p = err_from_is_err_and c.from_residual.result c.from_residual.ensures.1 in
    let n = c.loop-passed.passed in
    let records = c.args.buf.now.records in
    let low : n < length records = omega (arith, c.loop-passed-test.true, c.requires.held.before) in
    let at = stands_at n records low in
    let same : n + 1 - 1 ≡ n = omega arith in
    no_device (record { tt = c.args.k; r = n + 1 }) at.0 c.loop-passed.reading c.add_record.new.reading c.in_err-add_record.field-0.0 c.from_residual.result (p.1 ∙ ap Err p.2) (c.in_err-add_record.ensures at.0 (ap (slice_get records) same ∙ at.1))

pub loop-passed-preserved : goal.loop-passed-preserved
loop-passed-preserved c =
    let n = c.loop-passed.passed in
    let records = c.args.buf.now.records in
    let low : n < length records = omega (arith, c.loop-passed-test.true, c.requires.held.before) in
    let few : n < 255 = omega (arith, low, c.requires.held.few) in
    let at = stands_at n records low in
    let same : n + 1 - 1 ≡ n = omega arith in
    taken_more c.args.k n records c.args.reading.now c.loop-passed.reading c.add_record.new.reading c.loop-passed.invariant low at.0 at.1 few (c.in_ok-add_record.ensures at.0 (ap (slice_get records) same ∙ at.1))

pub returns-in_default-clause-ended : goal.returns-in_default-clause-ended
returns-in_default-clause-ended c =
    let none : end_on c.args.k c.args.reached ≡ None = cc in
    not_met c.args.k c.args.reached none

pub returns-in_default-clause-end : goal.returns-in_default-clause-end
returns-in_default-clause-end c end is =
    let none : end_on c.args.k c.args.reached ≡ None = cc in
    cc

pub returns-in_default-clause-read : goal.returns-in_default-clause-read
returns-in_default-clause-read c directory so_far =
    let all : c.loop-passed.passed ≡ c.args.reached.before = omega (arith, c.loop-passed-test.false) in
    read_taken c.args.k c.loop-passed.passed c.args.reached.before c.args.buf.now.records c.args.reading.now c.loop-passed.reading c.loop-passed.invariant all directory so_far

pub returns-in_default-clause-lawful : goal.returns-in_default-clause-lawful
returns-in_default-clause-lawful c =
    let all : c.loop-passed.passed ≡ c.args.reached.before = omega (arith, c.loop-passed-test.false) in
    let low : c.args.reached.before ≤ 255 = omega (arith, c.requires.held.before, c.requires.held.few) in
    lawful_taken c.args.k c.loop-passed.passed c.args.reached.before c.args.buf.now.records c.args.reading.now c.loop-passed.reading c.loop-passed.invariant all low

pub returns-clause-ended : goal.returns-clause-ended
returns-clause-ended c =
    let some : end_on c.args.k c.args.reached ≡ Some c.in-Some.end = cc in
    is_met c.args.k c.args.reached c.in-Some.end some

pub returns-clause-end : goal.returns-clause-end
returns-clause-end c end is =
    let some : end_on c.args.k c.args.reached ≡ Some c.in-Some.end = cc in
    cc

pub returns-clause-read : goal.returns-clause-read
returns-clause-read c directory so_far =
    let all : c.loop-passed.passed ≡ c.args.reached.before = omega (arith, c.loop-passed-test.false) in
    let read = read_taken c.args.k c.loop-passed.passed c.args.reached.before c.args.buf.now.records c.args.reading.now c.loop-passed.reading c.loop-passed.invariant all directory so_far in
    (read.0, so_far_with c.loop-passed.reading c.in-Some.end c.args.reached.whole (directory ++ blocks_from c.args.k 1 (take c.args.reached.before c.args.buf.now.records)) read.1)

pub returns-clause-lawful : goal.returns-clause-lawful
returns-clause-lawful c =
    let all : c.loop-passed.passed ≡ c.args.reached.before = omega (arith, c.loop-passed-test.false) in
    let low : c.args.reached.before ≤ 255 = omega (arith, c.requires.held.before, c.requires.held.few) in
    lawful_with c.loop-passed.reading c.in-Some.end c.args.reached.whole (255 * (c.args.k + 1)) (lawful_taken c.args.k c.loop-passed.passed c.args.reached.before c.args.buf.now.records c.args.reading.now c.loop-passed.reading c.loop-passed.invariant all low)
