-- The data sets are added one after the other.
use Rattle.std.proofs.Common.{◌≡◌, ◌+◌, ◌++◌, ◌∷◌, [], ℕ, List, Some, None, map, take, refl, sym, ap, subst, ◌∙◌, arith}
use Rattle.std.proofs.lemmas.List.{take_all}
use Rattle.pack_spec.specs.Volume.{data_set_of, data_sets_in}
use Rattle.pack_spec.proofs.SetNames.{sets_among}
use Rattle.vol_model.specs.declared.contents.Run.{Run}
use Rattle.vol_model.specs.declared.contents.DataSet.{DataSet}
use Rattle.vtoc_index.specs.Owned.{AreOwned}
use Rattle.vtoc_index.specs.declared.owned.Owned.{Owned}
use Rattle.vtoc_index.proofs.GoodSets.{good_extents}
use Rattle.vtoc_index.proofs.OwnedSets.{owned_more, owned_none, set_more, set_same}
use Rattle.vtoc_index.proofs.owned.owned_by_sets.Goals.{in-Some+in_ok-add, in_default}
use Rattle.vtoc_index.proofs.owned.owned_by_sets.Goals as goal

pub loop-slot-init : goal.loop-slot-init
loop-slot-init c = record {
  owned = λ tracks.
      owned_none c.args.geometry c.args.vtoc _ c.requires.vtoc
      (c.in_ok-push-2.ensures.items ∙ ap (λ (l : List Run). l ++ c.args.vtoc ∷ []) (c.in_ok-push.ensures.items ∙ ap (λ (l : List Run). l ++ record { start = 0; len = 1 } ∷ []) c.new.ensures.items)) refl;
  few = omega arith;
}

pub add-requires-clause-good : goal.add-requires-clause-good
add-requires-clause-good c = good_extents c.args.geometry c.args.slots.now c.loop-slot.slot-index _ _ c.requires.good c.loop-slot-test.true (sym c.in-Some.ensures)

pub loop-slot-preserved : goal.loop-slot-preserved
loop-slot-preserved c =
    let g = c.args.geometry in
    let slots = c.args.slots.now in
    let i = c.loop-slot.slot-index in
    elim c.match-set_in.branch [
      | in-Some+in_ok-add w ↦ record {
        owned = λ tracks.
            subst (AreOwned g c.args.vtoc (map (data_set_of g tracks slots) (sets_among (take (i + 1) slots)))) (sym w.owned-is)
            (subst (λ (l : List DataSet). AreOwned g c.args.vtoc l w.add.new.self) (set_more slots i _ c.loop-slot-test.true (data_set_of g tracks slots) _ (sym w.in-Some.ensures))
            (owned_more g c.args.vtoc (map (data_set_of g tracks slots) (sets_among (take i slots))) (data_set_of g tracks slots w.in-Some.set.now) c.loop-slot.owned w.add.new.self (c.loop-slot.invariant.owned tracks) (w.in_ok-add.ensures.more tracks)));
        few = omega (arith, ap (λ (o : Owned). o.slots) w.owned-is, w.in_ok-add.ensures.few, c.loop-slot.invariant.few);
      }
      | in_default w ↦ record {
        owned = λ tracks.
            subst (AreOwned g c.args.vtoc (map (data_set_of g tracks slots) (sets_among (take (i + 1) slots)))) (sym w.owned-is)
            (subst (λ (l : List DataSet). AreOwned g c.args.vtoc l c.loop-slot.owned) (set_same slots i _ c.loop-slot-test.true (data_set_of g tracks slots) (sym w.in_default.ensures)) (c.loop-slot.invariant.owned tracks));
        few = omega (arith, ap (λ (o : Owned). o.slots) w.owned-is, c.loop-slot.invariant.few);
      }
    ]

pub returns-clause-owned : goal.returns-clause-owned
unfolding data_sets_in
returns-clause-owned c tracks =
    subst (λ l. AreOwned c.args.geometry c.args.vtoc (map (data_set_of c.args.geometry tracks c.args.slots.now) (sets_among l)) c.loop-slot.owned) (take_all c.loop-slot.slot-index c.args.slots.now (omega arith)) (c.loop-slot.invariant.owned tracks)
