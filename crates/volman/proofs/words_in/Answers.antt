use Rattle.std.proofs.Common.{◌≡◌, length, refl, rules}
use Rattle.std.proofs.lemmas.Iterator.{items_from_collect}
use Rattle.std.proofs.lemmas.Iterator.Adapters.{YieldsList-from_vec}
use Rattle.std.specs.Vec.Iter.{into_iter_items, into_iter_len}
use Rattle.volman.proofs.words_in.Goals as goal

pub returns-in-Ok-clause-given : goal.returns-in-Ok-clause-given
returns-in-Ok-clause-given c =
    let count : into_iter_len c.in-Ok.args ≡ length (into_iter_items c.in-Ok.args) = search rules in
    rw c.in-Ok.is (items_from_collect c.collect.result c.collect.ensures.ran (YieldsList-from_vec {s = c.in-Ok.args} _ refl count))
