use Rattle.std.proofs.Common.{ap, refl, arith, rules}
use Rattle.std.proofs.lemmas.List.{nil_from_length}
use Rattle.vol_model.specs.declared.contents.Shelf.{Shelf}
use Rattle.iebcopy_util.specs.Items.{items_missing}
use Rattle.iebcopy_util.proofs.MemberItems.{missing_next}
use Rattle.iebcopy_util.proofs.RunLemmas.{far_begins, far_ends, far_further, far_stops}
use Rattle.iebcopy_util.proofs.reporting.report_missing.Goals as goal

pub loop-parts-init : goal.loop-parts-init
loop-parts-init g c = record { far = far_begins g.M.Machine c.requires (λ told. refl); small = omega arith }

pub returns-in-None-clause-items : goal.returns-in-None-clause-items
returns-in-None-clause-items g c =
    far_ends g.M.Machine c.loop-parts.invariant.far c.loop-parts.code (λ told. ap (items_missing c.args.card c.args.out.now c.args.tasks.now) (nil_from_length c.loop-parts.rest.now c.in-None.ensures.cases)) (λ told is. is)

pub returns-in_err-own-clause-items : goal.returns-in_err-own-clause-items
returns-in_err-own-clause-items g c =
    far_stops g.M.Machine c.loop-parts.invariant.far c.from_residual.result c.from_residual.ensures (rw c.in_err-own.was at c.report_pick.ensures.items)
    (λ told. (items_missing c.args.card c.args.out.now c.args.tasks.now c.in-Some.parts.1.now, missing_next c.args.card c.args.out.now c.args.tasks.now c.in-Some.parts.0.now c.in-Some.parts.1.now c.loop-parts.rest.now c.in-Some.ensures.cases.0))

pub loop-parts-preserved : goal.loop-parts-preserved
loop-parts-preserved g c = record {
  far = far_further g.M.Machine c.loop-parts.invariant.far {after = λ (s : Shelf). items_missing c.args.card c.args.out.now c.args.tasks.now c.in-Some.parts.1.now} c.in_ok-own.own c.max-code.result c.in_ok-own.ensures.items
      (λ told. missing_next c.args.card c.args.out.now c.args.tasks.now c.in-Some.parts.0.now c.in-Some.parts.1.now c.loop-parts.rest.now c.in-Some.ensures.cases.0) (λ told. (c.in_ok-own.ensures.items.does told).answer) (search rules);
  small = search (rules, arith);
}
