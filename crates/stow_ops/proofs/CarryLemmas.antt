-- The first and the next step in carrying out a plan, and a step that is left out.
use Rattle.std.proofs.Common.{◌≡◌, ◌+◌, ℕ, suc, List, length, take, drop, Option, Some, None, Ok, refl, sym, ◌∙◌, subst, arith}
use Rattle.std.specs.Prelude.{is_none, nat_eq, slice_get}
use Rattle.chain_spec.specs.Store.{Block as Stored}
use Rattle.dscb_codec.specs.declared.F1.{F1}
use Rattle.hall_core.specs.Facts.{DeviceCall, Facts, ReportedCall}
use Rattle.pack_spec.proofs.PartBodies.{no_position, part_is}
use Rattle.sorted_chain.specs.Plan.{after_write, after_writes}
use Rattle.stop_model.specs.Files.{File}
use Rattle.stop_model.specs.Moments.{Meaning}
use Rattle.vol_model.specs.declared.contents.Block.{Block}
use Rattle.vol_model.specs.declared.contents.Body.TheVariants as bodies
use Rattle.vol_model.specs.declared.contents.Entry.{Entry}
use Rattle.vtoc_index.specs.declared.vol.Vol.{Vol}
use Rattle.vtoc_sets.specs.Sets.{extents_in}
use Rattle.free_rebuild.specs.Repairs.{image_named}
use Rattle.pds_directory.specs.declared.dir.Dir.{Dir}
use Rattle.pds_directory.specs.Directories.{IsReadIn, broken_in, data_in, end_in, entries_read, part_in, tracks_in}
use Rattle.stow_ops.specs.Stores.{IsDirPlan, SoFar, store_in}
use Rattle.stow_ops.proofs.StoreSteps.{left_out, parted}

-- no track breaks a body that is read
pub whole_read : (image : List ℕ) (v : Vol) (f : F1) (n : ℕ) (es : List Entry) (bs : List Block) → part_in image v f ≡ bodies.Part n (end_in image v f) es bs → broken_in image v f ≡ None
whole_read image v f n es bs is = no_position (λ o. is_none o) (tracks_in image v f) (part_is v.geometry (data_in image v) (extents_in image v f) f.lstar n (end_in image v f) es bs is).whole

pub no_calls : (f : Facts) → ReportedCall ⊥ f f
no_calls f = record { units = refl; references = refl; prints = refl; later = omega arith; device = λ none. absurd none; others = λ no. refl }

pub more_calls : {T E : Type 0} (x : T) (f0 f1 f2 : Facts) → ReportedCall ⊥ f0 f1 → DeviceCall {T = T} {E = E} f1 f2 (Ok x) → ReportedCall ⊥ f0 f2
more_calls x f0 f1 f2 first call = record {
  units = call.units ∙ first.units;
  references = call.references ∙ first.references;
  prints = call.prints ∙ first.prints;
  later = omega (arith, first.later, call.later);
  device = λ none. absurd none;
  others = λ no. call.done ∙ first.others no;
}

-- a block that is as it was read
module _ (name : List ℕ) (v : Vol) (f : F1) (blocks : ℕ) (writes : List (ℕ × List Entry)) (old now : Meaning (List File)) (k : ℕ) (v1 : Vol) (dir : Dir) (entries : List Entry)
    (plan : IsDirPlan (entries_read dir) entries blocks writes) (read : IsReadIn (image_named old.state name) v f dir) (w : ℕ × List Entry) (at : slice_get writes k ≡ Some w)
    (stays : slice_get (entries_read dir) w.0 ≡ Some w.1) (last : nat_eq (w.0 + 1) (length (entries_read dir)) ≡ nat_eq (w.0 + 1) blocks) where
  abbrev store : List (Option (Stored Entry))
  store = store_in (image_named old.state name) v f

  by_suc : nat_eq (suc w.0) (length (entries_read dir)) ≡ nat_eq (suc w.0) blocks
  by_suc = let one : w.0 + 1 ≡ suc w.0 = omega arith in subst (λ (n : ℕ). nat_eq n (length (entries_read dir)) ≡ nat_eq n blocks) one last

  same : after_write blocks w (after_writes blocks (take k writes) store) ≡ after_writes blocks (take k writes) store
  same = subst (λ (s : List (Option (Stored Entry))). after_write blocks w (after_writes blocks (take k writes) s) ≡ after_writes blocks (take k writes) s) (sym read.read.blocks)
      (plan.unchanged (take k writes) w (drop (k + 1) writes) (parted writes k w at) stays by_suc read.read.behind)

  pub left_here : SoFar name v f blocks writes k v1 old now → SoFar name v f blocks writes (k + 1) v1 old now
  left_here so = left_out name v f blocks writes old k w v1 now at same so
