use Rattle.std.proofs.Common.{◌≡◌, ◌∙◌, [], Some, ap, sym}
use Rattle.std.specs.Prelude.{slice_get}
use Rattle.std.proofs.lemmas.Option.{slice_get-get_or}
use Rattle.std.proofs.lemmas.Result.{err_from_is_err_and}
use Rattle.mount_repair.specs.declared.scanned.Unpacked.{Unpacked}
use Rattle.mount_repair.proofs.PackLoops.{kept_all, left_here, mounted_here, packed_next, packed_stopped}
use Rattle.mount_repair.proofs.repairing.pack_all.Goals as goal

pub pack_one-requires-clause-packing : goal.pack_one-requires-clause-packing
pack_one-requires-clause-packing g c =
    let l = c.loop-dir in
    let at : slice_get c.args.unpacked.now l.dir-index ≡ Some c.dir-item.result = slice_get-get_or c.args.unpacked.now l.dir-index c.dir-item.result c.loop-dir-test.true ∙ ap (λ (u : Unpacked). Some u) (sym c.dir-item.is) in
    (c.requires.sound l.dir-index c.dir-item.result at).1

pub pack_one-requires-clause-mounted : goal.pack_one-requires-clause-mounted
pack_one-requires-clause-mounted g c told = mounted_here _ _ _ _ _ _ _ _ _ _ c.loop-dir.invariant told

pub pack_one-requires-clause-can : goal.pack_one-requires-clause-can
pack_one-requires-clause-can g c told =
    let l = c.loop-dir in
    let at : slice_get c.args.unpacked.now l.dir-index ≡ Some c.dir-item.result = slice_get-get_or c.args.unpacked.now l.dir-index c.dir-item.result c.loop-dir-test.true ∙ ap (λ (u : Unpacked). Some u) (sym c.dir-item.is) in
    (left_here _ _ _ _ _ _ _ _ _ _ l.invariant c.dir-item.result at told).each 0 c.dir-item.result (λ i. Some c.dir-item.result)

pub returns-in_err-pack_one-clause-files : goal.returns-in_err-pack_one-clause-files
returns-in_err-pack_one-clause-files g c told =
    let l = c.loop-dir in
    let at : slice_get c.args.unpacked.now l.dir-index ≡ Some c.dir-item.result = slice_get-get_or c.args.unpacked.now l.dir-index c.dir-item.result c.loop-dir-test.true ∙ ap (λ (u : Unpacked). Some u) (sym c.dir-item.is) in
    let p = err_from_is_err_and c.from_residual.result c.from_residual.ensures.1 in
    rw p.1 (packed_stopped _ _ _ _ _ _ _ _ _ _ l.invariant (g.H.Hall.facts c.pack_one.new.hall) (g.H.Hall.meaning c.pack_one.new.hall) c.pack_one.new.vol c.in_err-pack_one.ensures.others _ _ _ [] told
    (c.in_err-pack_one.ensures.files told _ (left_here _ _ _ _ _ _ _ _ _ _ l.invariant c.dir-item.result at told)))

pub loop-dir-preserved : goal.loop-dir-preserved
loop-dir-preserved g c =
    let l = c.loop-dir in
    let at : slice_get c.args.unpacked.now l.dir-index ≡ Some c.dir-item.result = slice_get-get_or c.args.unpacked.now l.dir-index c.dir-item.result c.loop-dir-test.true ∙ ap (λ (u : Unpacked). Some u) (sym c.dir-item.is) in
    let done = c.in_ok-pack_one.ensures in
    packed_next _ _ _ _ _ _ _ _ _ _ l.invariant (g.H.Hall.facts c.pack_one.new.hall) (g.H.Hall.meaning c.pack_one.new.hall) c.pack_one.new.vol done.others c.dir-item.result at done.unit done.faults (λ is. cc)
    (λ told. done.files told _ (left_here _ _ _ _ _ _ _ _ _ _ l.invariant c.dir-item.result at told)) done.libraries

pub returns-clause-libraries : goal.returns-clause-libraries
returns-clause-libraries g c told = kept_all _ _ _ _ _ _ _ _ _ _ c.loop-dir.invariant told
