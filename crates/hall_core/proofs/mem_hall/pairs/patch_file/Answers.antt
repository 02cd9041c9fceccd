use Rattle.std.proofs.Common.{ap, length, arith}
use Rattle.hall_core.specs.Facts.{Attached}
use Rattle.hall_core.proofs.UnitLemmas.{Patched, patched_pairs, shape_of_pair, inside_pairs}
use Rattle.hall_core.proofs.mem_hall.pairs.patch_file.Goals as goal
use Rattle.hall_core.proofs.mem_hall.pairs.patch_file.Goals.{After-patch}

pub patch-requires : goal.patch-requires
patch-requires c =
    let low = inside_pairs c.args.files.now.items c.args.place c.requires.first in
    omega (arith, ap length c.deref_mut.ensures.value, c.requires.inside, ap (λ (u : Attached). u.size) (shape_of_pair c.args.files.now.items c.args.place c.index_mut-file.result.now low c.index_mut-file.ensures.value))

done : (c : After-patch) → Patched c.args.files.now.items c.args.place c.index_mut-file.result.now c.patch.new.image c.args.at c.args.bytes.now
done c = patched_pairs c.args.files.now.items c.args.place c.index_mut-file.result.now c.deref_mut.result.now c.patch.new.image c.args.at c.args.bytes.now c.requires.first c.index_mut-file.ensures.value c.deref_mut.ensures.value c.patch.ensures c.patch.auto.image

pub returns-clause-done : goal.returns-clause-done
returns-clause-done c = (done (goal.at.returns-clause-done c).After-patch).done

pub returns-clause-shapes : goal.returns-clause-shapes
returns-clause-shapes c = (done (goal.at.returns-clause-shapes c).After-patch).shapes
