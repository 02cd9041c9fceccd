use Rattle.std.proofs.Common.{◌∙◌, ℕ, List, ap, arith, subst, sym}
use Rattle.std.specs.Prelude.{is_some, slice_get}
use Rattle.hall_core.specs.Images.{image_in}
use Rattle.vtoc_index.specs.Index.{IsMounted}
use Rattle.vtoc_index.specs.Names.{AreByName, name_at}
use Rattle.vtoc_index.specs.declared.vol.Vol.{Vol}
use Rattle.mount_repair.specs.Scans.{AreSound}
use Rattle.mount_repair.proofs.SettledScans.{format_there}
use Rattle.mount_repair.proofs.WalkedSets.{image_kept, sets_next, slot_named, walked_all}
use Rattle.mount_repair.proofs.walk.walk_sets.Goals as goal

pub walk_set-requires-clause-set : goal.walk_set-requires-clause-set
walk_set-requires-clause-set g c =
    let l = c.loop-k in
    let order = subst (λ (w : Vol). AreByName (name_at w.slots.items) w.by_name.items) (sym l.invariant.sets.others) c.requires.names in
    ap is_some (slot_named l.vol order l.k c.slot_at-slot.result c.slot_at-slot.ensures).1

pub walk_set-requires-clause-mounted : goal.walk_set-requires-clause-mounted
walk_set-requires-clause-mounted g c told =
    let l = c.loop-k in
    subst (λ (i : List ℕ). IsMounted i l.vol) (sym (image_kept _ _ _ _ _ _ _ _ _ l.invariant.sets told)) (l.invariant.sets.mounted told)

pub returns-in_err-walk_set-clause-mounted : goal.returns-in_err-walk_set-clause-mounted
returns-in_err-walk_set-clause-mounted g c told =
    subst (λ (i : List ℕ). IsMounted i c.walk_set.new.vol) (image_kept _ _ _ _ _ _ _ _ _ c.loop-k.invariant.sets told) (c.in_err-walk_set.ensures.mounted told)

pub loop-k-preserved : goal.loop-k-preserved
loop-k-preserved g c =
    let l = c.loop-k in
    let done = c.in_ok-walk_set.ensures in
    let slot = c.slot_at-slot.result in
    let order = subst (λ (w : Vol). AreByName (name_at w.slots.items) w.by_name.items) (sym l.invariant.sets.others) c.requires.names in
    let named = slot_named l.vol order l.k slot c.slot_at-slot.ensures in
    let found = format_there l.vol.slots.items slot named.0 named.1 in
    record {
      sets = sets_next _ _ _ _ _ _ _ _ _ l.invariant.sets _ _ c.walk_set.new.vol c.walk_set.new.walk slot found.0 c.requires.mounted c.requires.names done.faults (λ is. cc) done.same done.others done.unit done.mounted
          (ap (λ (w : Vol). slice_get w.by_name.items l.k) (sym l.invariant.sets.others) ∙ c.slot_at-slot.ensures) found.1 (λ told. done.walk told found.0 found.1);
      sound =
          let slots = ap (λ (w : Vol). w.slots.items) l.invariant.sets.others in
          subst (λ ds. AreSound ds c.walk_set.new.walk.unpacked.items) slots (done.sound (subst (λ ds. AreSound ds l.walk.unpacked.items) (sym slots) l.invariant.sound));
    }

pub returns-clause-walk : goal.returns-clause-walk
returns-clause-walk g c told =
    let image = image_in (g.H.Hall.meaning c.args.hall.now) (g.H.Hall.facts c.args.hall.now) c.args.vol.now.unit in
    walked_all image c.args.vol.now (c.requires.mounted told) c.requires.names c.loop-k.walk c.loop-k.k (omega (arith, c.loop-k-test.false, c.len-k-end.ensures)) (c.loop-k.invariant.sets.walked told)
