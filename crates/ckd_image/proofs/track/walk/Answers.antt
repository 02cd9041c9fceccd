-- The front breaks, or what is after it is read.
use Rattle.std.proofs.Common.{◌≡◌, Some, None, sym}
use Rattle.std.proofs.lemmas.List.{take_rest}
use Rattle.ckd_image.specs.Break.{front_pattern, pattern_break}
use Rattle.ckd_image.proofs.Front.{break_of-front, break_of-ok, break_of-err}
use Rattle.ckd_image.proofs.track.walk.Goals as goal

pub returns-in-Some-clause-reading : goal.returns-in-Some-clause-reading
returns-in-Some-clause-reading c =
    let place : pattern_break (front_pattern c.args.cylinder c.args.head) c.args.bytes.now ≡ Some c.in-Some.at = sym (rw c.front_pattern.ensures at c.in-Some.ensures.place) in
    break_of-front c.args.cylinder c.args.head c.args.upto c.args.bytes.now c.in-Some.at place

pub returns-in-Ok-clause-reading : goal.returns-in-Ok-clause-reading
returns-in-Ok-clause-reading c =
    let place : pattern_break (front_pattern c.args.cylinder c.args.head) c.args.bytes.now ≡ None = sym (rw c.front_pattern.ensures at c.in_default.ensures.place) in
    let reading = rw (take_rest c.args.bytes.now 21) at c.in-Ok.ensures.reading in
    break_of-ok c.args.cylinder c.args.head c.args.upto c.args.bytes.now c.in-Ok.records place reading

pub returns-in-Err-clause-reading : goal.returns-in-Err-clause-reading
returns-in-Err-clause-reading c =
    let place : pattern_break (front_pattern c.args.cylinder c.args.head) c.args.bytes.now ≡ None = sym (rw c.front_pattern.ensures at c.in_default.ensures.place) in
    let reading = rw (take_rest c.args.bytes.now 21) at c.in-Err.ensures.reading in
    break_of-err c.args.cylinder c.args.head c.args.upto c.args.bytes.now c.in-Err.at place reading
