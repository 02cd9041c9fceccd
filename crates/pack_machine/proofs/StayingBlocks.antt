-- The directories that stand on an image stay while blocks are put after the last record of a data set, and once they are the set's.
use Rattle.std.proofs.Common.{◌≡◌, ℕ, List, [], Result, Ok, sym, ap, ◌∙◌, subst}
use Rattle.dscb_codec.specs.declared.F1.{F1}
use Rattle.stop_model.specs.Files.{File}
use Rattle.stop_model.specs.Moments.{Meaning}
use Rattle.pack_spec.specs.Alike.{DifferInVtoc}
use Rattle.pack_spec.specs.Volume.{volume_of, volume_with}
use Rattle.vol_model.specs.declared.contents.Place.{Place}
use Rattle.vol_model.specs.declared.contents.Volume.{Volume}
use Rattle.vol_model.specs.declared.refusals.Refusal.{Refusal}
use Rattle.vtoc_index.specs.declared.vol.Vol.{Vol}
use Rattle.vtoc_sets.specs.Sets.{volume_in}
use Rattle.free_rebuild.specs.Repairs.{image_named}
use Rattle.seq_access.specs.Bodies.{IsLastOf, IsSetIn}
use Rattle.seq_access.specs.Writing.{DifferBehind, IsCommitted}
use Rattle.seq_access.proofs.SparedCalls.{differ_by}
use Rattle.seq_access.proofs.SparedImages.{volume_kept}
use Rattle.seq_access.proofs.SparedSets.{bare, bare_set}
use Rattle.pds_directory.proofs.PackedTracks.{KeepsDirectories, same_keeps}
use Rattle.pack_machine.specs.Standing.{DirectoriesStay}
use Rattle.pack_machine.proofs.PackedBlocks.{agree, pending_stands}
use Rattle.pack_machine.proofs.StayingDirectories.{stays_step, stays_vtoc, volume_mounted}

module _ (before after : List ℕ) (v : Vol) (f : F1) (set : IsSetIn before (bare v) f) (last : Place) (differ : DifferBehind v f last before after) (ends : IsLastOf before v f last) where
  abbrev u : Volume
  u = volume_in before v

  stands : volume_of before ≡ Ok u
  stands = set.set.mounted.volume

  -- the other image stands for the same volume
  pub pending_volume : volume_in after v ≡ u
  pending_volume =
      let d : DifferBehind (bare v) f last before after = differ_by v (record (v.buf) { records = [] }) f last before after differ in
      volume_kept before after (bare v) f set last d ends

  module _ (w : Volume) (volume : volume_of before ≡ Ok w) where
    is_w : u ≡ w
    is_w = let both : Ok u ≡ Ok w = sym stands ∙ volume in cc

    pub pending_of : volume_of after ≡ Ok w
    pending_of = pending_stands before after v f set last differ ends ∙ ap (λ (x : Volume). Ok x) is_w

    now : DirectoriesStay before after u u
    unfolding volume_with
    now = stays_step before after u stands u (same_keeps u) (λ k x end there is. agree before after v f set last differ ends k x end there is)

    -- While blocks are pending the directories stay.
    pub pending_stays : DirectoriesStay before after w w
    pending_stays = subst (λ (x : Volume). DirectoriesStay before after x x) is_w now

    in_volume : (done : List ℕ) → DifferInVtoc v.geometry v.vtoc after done → DifferInVtoc u.geometry u.vtoc after done
    unfolding volume_with
    in_volume done vtoc = vtoc

    -- Once they are the set's, the VTOC differs too.
    pub blocks_stay : (done : List ℕ) (w' : Volume) → DifferInVtoc v.geometry v.vtoc after done → KeepsDirectories w w' → DirectoriesStay before done w w'
    blocks_stay done w' vtoc keeps start dir at =
        stays_vtoc after done w pending_of w' (subst (λ (x : Volume). DifferInVtoc x.geometry x.vtoc after done) is_w (in_volume done vtoc)) keeps start dir (pending_stays start dir at)

-- by the contract of a commit
pub committed_stays : (name : List ℕ) (stepped : Result Volume Refusal) (v' : Vol) (before : List File) (new : Meaning (List File)) (w : Volume) → volume_of (image_named before name) ≡ Ok w → ((w' : Volume) → stepped ≡ Ok w' → KeepsDirectories w w') → IsCommitted name stepped v' before new
    → DirectoriesStay (image_named before name) (image_named new.state name) w (volume_in (image_named new.state name) v')
committed_stays name stepped v' before new w stands keeps done =
    let c = done.changes in
    let image : List ℕ = image_named before name in
    let image' : List ℕ = image_named new.state name in
    subst (DirectoriesStay image image' w) (volume_mounted image' v' done.after done.stands done.index)
    (blocks_stay image c.between c.old c.f (bare_set image c.old c.f c.set) c.last c.behind c.ends w stands image' done.after c.alone (keeps done.after done.step))
