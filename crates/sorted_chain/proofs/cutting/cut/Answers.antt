use Rattle.std.proofs.Common.{map, arith, ap, sym, subst, ◌∙◌, ◌≡◌, ◌+◌, ◌++◌, ◌∷◌, [], take, vec_items}
use Rattle.std.proofs.lemmas.List.{take_all}
use Rattle.sorted_chain.proofs.Walks.{take_read}
use Rattle.sorted_chain.specs.Cutting.{IsOpen}
use Rattle.sorted_chain.specs.Plan.{write_of}
use Rattle.sorted_chain.proofs.cutting.cut.Goals as goal

pub loop-entry-preserved : goal.loop-entry-preserved
loop-entry-preserved g c =
    let i = c.loop-entry.entry-index in
    let taken : take (i + 1) c.args.new.now ≡ take i c.args.new.now ++ (c.in_ok-copied.copied ∷ []) = take_read c.args.new.now i c.entry-item.result c.loop-entry-test.true c.entry-item.is ∙ ap (λ e. take i c.args.new.now ++ (e ∷ [])) (sym c.in_ok-copied.ensures) in
    record {
      so_far = subst (IsOpen g.E.ChainEntry.bytes c.args.room c.args.end (map write_of (vec_items c.add.new.cutting.done)) (vec_items c.add.new.cutting.block) c.add.new.cutting.used) (sym taken) (c.in_ok-add.ensures.entries c.args.end (take i c.args.new.now) c.loop-entry.invariant.so_far);
      few = omega (arith, c.in_ok-add.ensures.one_more, c.loop-entry.invariant.few);
    }

pub returns : goal.returns
returns g c = c.finish.ensures c.args.new.now (subst (IsOpen g.E.ChainEntry.bytes c.args.room c.args.end (map write_of (vec_items c.loop-entry.cutting.done)) (vec_items c.loop-entry.cutting.block) c.loop-entry.cutting.used) (take_all c.loop-entry.entry-index c.args.new.now c.loop-entry-test.false) c.loop-entry.invariant.so_far)
