use Rattle.std.proofs.Common.{get_or, refl, sym, arith}
use Rattle.std.proofs.lemmas.List.{length-map}
use Rattle.std.proofs.lemmas.Option.{slice_get-get_or}
use Rattle.mount_repair.specs.declared.scanned.Scan.{Scan}
use Rattle.shelf_machine.specs.Packs.{indexes_of}
use Rattle.shelf_machine.proofs.ReadingPacks.{apart_upto, first_twice, none_more}
use Rattle.shelf_machine.proofs.opening.same_serial.Goals as goal

pub returns-in-Some-clause-found : goal.returns-in-Some-clause-found
returns-in-Some-clause-found c =
    let scans = c.args.scans.now in
    let s = get_or scans c.loop-k.k c.index-scans-k.result in
    let at = slice_get-get_or scans c.loop-k.k c.index-scans-k.result c.loop-k-test.true in
    (c.in-Some.other, refl, first_twice scans c.loop-k.k c.in-Some.other s at (sym c.in-Some.ensures.place) c.loop-k.invariant)

pub loop-k-preserved : goal.loop-k-preserved
loop-k-preserved c =
    let scans = c.args.scans.now in
    let s = get_or scans c.loop-k.k c.index-scans-k.result in
    let at = slice_get-get_or scans c.loop-k.k c.index-scans-k.result c.loop-k-test.true in
    none_more scans c.loop-k.k s at (sym c.in_default.ensures.place) c.loop-k.invariant

pub returns-clause-apart : goal.returns-clause-apart
returns-clause-apart c = apart_upto (indexes_of c.args.scans.now) c.loop-k.k (omega (arith, c.loop-k-test.false, length-map c.args.scans.now (λ (s : Scan). s.vol))) c.loop-k.invariant
