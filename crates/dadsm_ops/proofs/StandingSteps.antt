-- One slot of a marked image's VTOC put and made durable, but not slot 0, as a step of an update: the volume stays, or the operation is decided.
use Rattle.std.proofs.Common.{◌≡◌, ◌≢◌, inl, inr, ⊎_elim, ℕ, ◌<◌, List, [], length, refl, sym, ap, subst, ◌∙◌}
use Rattle.std.specs.Prelude.{Result, Ok, Err, OnOk}
use Rattle.dscb_codec.specs.declared.Dscb.{Dscb}
use Rattle.stop_model.specs.Files.{File}
use Rattle.stop_model.specs.Moments.{Meaning}
use Rattle.stop_model.proofs.MomentLemmas.{elapses_weaker}
use Rattle.pack_spec.specs.Owned.{volume_faults}
use Rattle.pack_spec.specs.Rules.{slots_faults}
use Rattle.pack_spec.specs.Settled.{IsMarked}
use Rattle.pack_spec.specs.Blocks.{data_tracks}
use Rattle.pack_spec.specs.Volume.{volume_by, volume_with}
use Rattle.vol_model.specs.declared.contents.Volume.{Volume}
use Rattle.vol_model.specs.declared.refusals.Refusal.{Refusal}
use Rattle.vol_model.specs.Space.{free_runs}
use Rattle.vtoc_index.specs.declared.vol.Vol.{Vol}
use Rattle.vtoc_index.specs.Index.{IsIndexOf, IsMounted, with_dscb}
use Rattle.free_rebuild.specs.Updates.{IsMarkedFor, Marks}
use Rattle.dadsm_ops.specs.Allocating.{Decides}
use Rattle.dadsm_ops.specs.Operations.{image_named}
use Rattle.free_rebuild.specs.Durable.{PutsDurably}
use Rattle.slot_laws.proofs.StandingPuts.{label_by, put_differs, put_marked, put_mounted, put_stands, slots_by}
use Rattle.free_rebuild.proofs.DurableLemmas.{slot_put, slot_written}

module _ (name : List ℕ) (v v' : Vol) (slot : ℕ) (d : Dscb) (m n : Meaning (List File)) (mounted : IsMounted (image_named m.state name) v) (low : slot < length v.slots.items) (other : slot ≢ 0) (marked : IsMarked (slots_by (image_named m.state name) v))
    (lawful : slots_faults v.geometry (with_dscb slot d (slots_by (image_named m.state name) v)) ≡ []) where
  abbrev image : List ℕ
  image = image_named m.state name

  -- the volume before, and that of the slots then
  abbrev pub volume_before : Volume
  volume_before = volume_by image v.geometry v.vtoc

  abbrev pub volume_then : Volume
  volume_then = volume_with v.geometry (data_tracks image v.geometry v.vtoc) (label_by image v) v.vtoc (with_dscb slot d (slots_by image v))

  module _ (whole : volume_faults volume_then ≡ []) {T E : Type 0} {result : Result T E} (put : PutsDurably name v slot d v' m n result) where
    put_for : IsMarkedFor name volume_then m.state put.after
    unfolding volume_with
    put_for = record {
      stands = put_stands image (image_named put.after name) v slot d put.bytes mounted low put.size put.dscb (slot_written put.put) (slot_put put.put) other lawful whole;
      marked = put_marked image (image_named put.after name) v slot d put.bytes mounted low put.size put.dscb (slot_written put.put) (slot_put put.put) other marked;
      tracks = put_differs image (image_named put.after name) v slot d put.bytes mounted low put.size put.dscb (slot_written put.put) (slot_put put.put) other;
      others = put.put.others;
    }

    put_index : (w : Vol) → w ≡ record v { slots = w.slots; free = w.free; by_name = w.by_name; buf = w.buf } → IsIndexOf (image_named put.after name) w → w.free.items ≡ free_runs volume_then → IsMounted (image_named put.after name) w
    put_index w others index free = put_mounted image (image_named put.after name) v slot d put.bytes mounted low put.size put.dscb (slot_written put.put) (slot_put put.put) other lawful whole w others index free

  -- The volume stays, as a step of an update.
  module _ (same : volume_then ≡ volume_before) where
    fine : volume_faults volume_then ≡ []
    fine = ap volume_faults same ∙ mounted.whole

    alike_for : {T E : Type 0} {result : Result T E} (put : PutsDurably name v slot d v' m n result) → IsMarkedFor name volume_before m.state put.after
    alike_for put = subst (λ (x : Volume). IsMarkedFor name x m.state put.after) same (put_for fine put)

    all_parts : v' ≡ record v { slots = v'.slots; buf = v'.buf } → v' ≡ record v { slots = v'.slots; free = v'.free; by_name = v'.by_name; buf = v'.buf }
    all_parts is = is ∙ sym (ap (λ (x : Vol). record v { slots = v'.slots; free = x.free; by_name = x.by_name; buf = v'.buf }) is)

    alike_index : {T E : Type 0} {result : Result T E} (put : PutsDurably name v slot d v' m n result) → v' ≡ record v { slots = v'.slots; buf = v'.buf } → IsIndexOf (image_named put.after name) v' → IsMounted (image_named put.after name) v'
    alike_index put others index = put_index fine put v' (all_parts others) index (ap (λ (x : Vol). x.free.items) others ∙ mounted.free ∙ sym (ap free_runs same))

    pub alike_marks : {T E : Type 0} (result : Result T E) → v' ≡ record v { slots = v'.slots; buf = v'.buf } → PutsDurably name v slot d v' m n result → Marks name v' m n result
    alike_marks (Ok x) others put =
        let is : n.state ≡ put.after = put.step.done.0 in
        record {
          volume = volume_before;
          before = mounted.volume;
          marked = subst (IsMarkedFor name volume_before m.state) (sym is) (alike_for put);
          index = subst (λ (files : List File). IsMounted (image_named files name) v') (sym is) (alike_index put others (subst (λ (files : List File). IsIndexOf (image_named files name) v') is put.index));
          durable = put.step.done.1;
          printed = put.step.printed;
          moments = elapses_weaker put.step.moments (λ files p (which, text). (⊎_elim (λ same. inl same) (λ same. inr (subst (IsMarkedFor name volume_before m.state) (sym same) (alike_for put))) which, text));
        }
    alike_marks (Err e) others put = record {
      volume = volume_before;
      before = mounted.volume;
      marked = tt;
      index = tt;
      durable = tt;
      printed = put.step.printed;
      moments = elapses_weaker put.step.moments (λ files p (which, text). (⊎_elim (λ same. inl same) (λ same. inr (subst (IsMarkedFor name volume_before m.state) (sym same) (alike_for put))) which, text));
    }

  -- The write decides an operation, which leaves the volume of the slots then.
  module _ (operation : Volume → Result Volume Refusal) (stepped : operation volume_before ≡ Ok volume_then) (whole : volume_faults volume_then ≡ []) where
    pub put_decides : {T E : Type 0} (result : Result T E) (w : Vol) → OnOk result (w ≡ record v { slots = w.slots; free = w.free; by_name = w.by_name; buf = w.buf }) → OnOk result (IsIndexOf (image_named n.state name) v' → IsIndexOf (image_named n.state name) w)
        → OnOk result (w.free.items ≡ free_runs volume_then) → PutsDurably name v slot d v' m n result → Decides name operation w m n result
    unfolding volume_with
    put_decides (Ok x) w others indexed free put =
        let is : n.state ≡ put.after = put.step.done.0 in
        record {
          volume = volume_before;
          before = mounted.volume;
          after = volume_then;
          step = stepped;
          geometry = refl;
          vtoc = refl;
          decided = subst (IsMarkedFor name volume_then m.state) (sym is) (put_for whole put);
          index = subst (λ (files : List File). IsMounted (image_named files name) w) (sym is) (put_index whole put w others (subst (λ (files : List File). IsIndexOf (image_named files name) w) is (indexed put.index)) free);
          durable = put.step.done.1;
          printed = put.step.printed;
          moments = elapses_weaker put.step.moments (λ files p (which, text). (⊎_elim (λ same. inl same) (λ same. inr (subst (IsMarkedFor name volume_then m.state) (sym same) (put_for whole put))) which, text));
        }
    put_decides (Err e) w others indexed free put = record {
      volume = volume_before;
      before = mounted.volume;
      after = volume_then;
      step = stepped;
      geometry = refl;
      vtoc = refl;
      decided = tt;
      index = tt;
      durable = tt;
      printed = put.step.printed;
      moments = elapses_weaker put.step.moments (λ files p (which, text). (⊎_elim (λ same. inl same) (λ same. inr (subst (IsMarkedFor name volume_then m.state) (sym same) (put_for whole put))) which, text));
    }
