use Rattle.std.proofs.Common.{◌∙◌, Bool, List, ℕ, ap, subst, sym}
use Rattle.std.specs.Prelude.{◌↔◌, ◌==◌, IsTrue}
use Rattle.hall_core.specs.Facts.{Attached}
use Rattle.hall_core.specs.Images.{image_in}
use Rattle.pack_spec.specs.Settled.{IsSettled}
use Rattle.stop_model.proofs.MomentLemmas.{same_then}
use Rattle.vtoc_index.specs.Index.{IsMounted, IsOfUnit}
use Rattle.vtoc_index.specs.Names.{AreByName, name_at}
use Rattle.vtoc_index.specs.declared.vol.Vol.{Vol}
use Rattle.vtoc_sets.specs.Sets.{volume_in}
use Rattle.mount_repair.specs.Scans.{AreSound}
use Rattle.mount_repair.specs.Sets.{HasRoom, names_and_kinds}
use Rattle.mount_repair.specs.Walks.{IsWalkOf}
use Rattle.mount_repair.proofs.OtherBuffers.{image_of_unit}
use Rattle.mount_repair.proofs.SettledScans.{settled_else, settled_then}
use Rattle.mount_repair.proofs.WalkedSets.{libraries_with, unpacked_with}
use Rattle.mount_repair.proofs.scanning.scan.Goals as goal
use Rattle.mount_repair.proofs.scanning.scan.Goals.{then-is_settled, else-is_settled}

pub returns-clause-image : goal.returns-clause-image
returns-clause-image g c told =
    let read = c.in_ok-vol.ensures in
    let walked = c.in_ok-walk.ensures in
    let image = image_in (g.H.Hall.meaning c.args.hall.now) (g.H.Hall.facts c.args.hall.now) c.args.unit in
    let v : Vol = c.in_ok-vol.vol in
    let v' : Vol = c.walk_sets.new.vol in
    let same = image_of_unit (g.H.Hall.meaning c.args.hall.now) (g.H.Hall.meaning c.read_index.new.hall) (g.H.Hall.facts c.args.hall.now) (g.H.Hall.facts c.read_index.new.hall) v c.args.unit (read.same told).state read.faults.units read.unit.0 in
    let mounted = read.mounted told in
    let mounted' = subst (λ (i : List ℕ). IsMounted i v') same (walked.mounted told) in
    let walk = subst (λ (i : List ℕ). IsWalkOf i v c.in_ok-walk.walk) same (walked.walk told) in
    let is = c.is_settled.ensures image mounted' in
    record {
      mounted = mounted';
      volume = walk.volume ∙ ap (λ (w : Vol). names_and_kinds (volume_in image w)) (sym walked.others);
      settled = elim c.if-is_settled.branch as (λ _. IsTrue c.if-is_settled.settled ↔ IsSettled image) [
        | then-is_settled w ↦ subst (λ (b : Bool). IsTrue b ↔ IsSettled image) (sym w.settled-is) (settled_then image v mounted read.names c.in_ok-walk.walk c.is_settled.result w.is_empty-settled.result walk is w.if-is_settled.true (w.is_empty-settled.ensures ∙ ap (λ (n : ℕ). n == 0) c.in_ok-walk.walk.unpacked.ok.0))
        | else-is_settled w ↦ subst (λ (b : Bool). IsTrue b ↔ IsSettled image) (sym w.settled-is) (settled_else image v mounted read.names c.is_settled.result is w.if-is_settled.false)
      ];
      unpacked = unpacked_with image v v' c.in_ok-walk.walk.unpacked.items walked.others mounted mounted' walk.unpacked;
      libraries = libraries_with image v v' c.in_ok-walk.walk walked.others mounted mounted' walk;
    }

pub returns-clause-unit : goal.returns-clause-unit
returns-clause-unit g c =
    let read = c.in_ok-vol.ensures in
    let walked = c.in_ok-walk.ensures in
    let v' : Vol = c.walk_sets.new.vol in
    record {
      unit = ap (λ (w : Vol). w.unit) walked.others ∙ read.unit.0;
      index = subst (λ (us : List Attached). IsOfUnit us v') (walked.faults.units ∙ read.faults.units) walked.unit;
      room = subst HasRoom (sym walked.others) read.room;
      names = subst (λ (w : Vol). AreByName (name_at w.slots.items) w.by_name.items) (sym walked.others) read.names;
      sound = subst (λ (w : Vol). AreSound w.slots.items c.in_ok-walk.walk.unpacked.items) (sym walked.others) walked.sound;
    }

pub returns-clause-same : goal.returns-clause-same
returns-clause-same g c told = same_then (c.in_ok-vol.ensures.same told) (c.in_ok-walk.ensures.same told)
