-- Blocks that are put after the last record of a data set leave the directories packed, while they are pending and once they are the set's.
use Rattle.std.proofs.Common.{◌≡◌, ◌≢◌, ◌⊎◌, ◌≤◌, ℕ, Bool, true, false, cond, List, [], Option, Some, None, Result, Ok, inl, inr, refl, sym, ap, ◌∙◌, subst, eqb, arith}
use Rattle.std.specs.Prelude.{slice_get}
use Rattle.std.proofs.lemmas.Bool.{eq-eqb}
use Rattle.std.proofs.lemmas.Bool.Decides.{eqb_tells}
use Rattle.ckd_image.specs.declared.header.Geometry.{Geometry}
use Rattle.ckd_image.specs.Track.{Record}
use Rattle.dscb_codec.specs.declared.Dscb.TheVariants as formats
use Rattle.dscb_codec.specs.declared.F1.{F1}
use Rattle.stop_model.specs.Files.{File}
use Rattle.stop_model.specs.Moments.{Meaning}
use Rattle.pack_spec.specs.Alike.{DifferInVtoc}
use Rattle.pack_spec.specs.Blocks.{data_tracks, owned_tracks, records_in, upto_last}
use Rattle.pack_spec.specs.Directories.{read_to}
use Rattle.pack_spec.specs.Settled.{ArePacked}
use Rattle.pack_spec.specs.Slots.{slots_of_vtoc}
use Rattle.pack_spec.specs.Volume.{attr_of, data_set_of, volume_by, volume_of, volume_with}
use Rattle.pack_spec.proofs.FrontRecords.{first_of_some}
use Rattle.pack_spec.proofs.Lawful.{lawful_volume}
use Rattle.pack_spec.proofs.PartBodies.{IsPast, part_read, read_past_end}
use Rattle.vol_model.specs.declared.contents.Block.{Block}
use Rattle.vol_model.specs.declared.contents.Body.{Body}
use Rattle.vol_model.specs.declared.contents.Body.TheVariants as bodies
use Rattle.vol_model.specs.declared.contents.DataSet.{DataSet}
use Rattle.vol_model.specs.declared.contents.Entry.{Entry}
use Rattle.vol_model.specs.declared.contents.Place.{Place}
use Rattle.vol_model.specs.declared.contents.Volume.{Volume}
use Rattle.vol_model.specs.declared.refusals.Refusal.{Refusal}
use Rattle.vol_model.specs.Lawful.{OwnsOnce}
use Rattle.vol_model.specs.Space.{is_in}
use Rattle.vtoc_index.specs.declared.vol.Vol.{Vol}
use Rattle.vtoc_index.specs.Index.{IsMounted}
use Rattle.vtoc_sets.specs.Sets.{extents_in}
use Rattle.free_rebuild.specs.Repairs.{image_named}
use Rattle.seq_access.specs.Bodies.{IsLastOf, IsSetIn, body_of_set, last_read, owned_in}
use Rattle.seq_access.specs.Writing.{DifferBehind, IsCommitted}
use Rattle.seq_access.proofs.OwnBodies.{as_partitioned, part_first}
use Rattle.seq_access.proofs.SparedCalls.{differ_by}
use Rattle.seq_access.proofs.SparedImages.{spared_mounted, volume_kept}
use Rattle.seq_access.proofs.SparedSets.{bare, bare_set}
use Rattle.vtoc_sets.proofs.Owners.{on_same as read_records, read_bytes}
use Rattle.pds_directory.proofs.PackedTracks.{AgreeUpto, KeepsDirectories, end_by, outside, own_apart, packed_step, packed_vtoc, same_keeps, set_there, sets_apart}
use Rattle.pack_machine.proofs.PackedVtoc.{IsPackedImage, packed_of}
use Rattle.vtoc_sets.proofs.OwnedSets.{among_sets}

-- a format 1 of an index is that of one of the volume's sets
pub index_set : (image : List ℕ) (v : Vol) (f : F1) (slot : ℕ) → IsMounted image v → slice_get v.slots.items slot ≡ Some (formats.F1 f)
    → (j : ℕ) × (slice_get (volume_by image v.geometry v.vtoc).sets j ≡ Some (data_set_of v.geometry (data_tracks image v.geometry v.vtoc) (slots_of_vtoc image v.geometry v.vtoc) f))
index_set image v f slot mounted there =
    let at = among_sets (slots_of_vtoc image v.geometry v.vtoc) v.slots.items slot f mounted.index.slots there in
    set_there image v.geometry v.vtoc at.0 f at.1

-- what a body is whose directory ends at a place
pub part_from : (body : Body) (end : Place) → end_by body ≡ Some end → (n : ℕ) × (es : List Entry) × (bs : List Block) × (body ≡ bodies.Part n end es bs)
part_from (bodies.Part n at es bs) end is = let same : at ≡ end = cc in (n, es, bs, ap (λ (p : Place). bodies.Part n p es bs) same)
part_from (bodies.Seq bs) end is = cc
part_from bodies.Catalog end is = cc
part_from bodies.Other end is = cc
part_from (bodies.Unreadable k) end is = cc

module _ (before after : List ℕ) (v : Vol) (f : F1) (set : IsSetIn before (bare v) f) (last : Place) (differ : DifferBehind v f last before after) (ends : IsLastOf before v f last) where
  abbrev g : Geometry
  g = v.geometry

  abbrev a : List (List ℕ)
  a = data_tracks before g v.vtoc

  abbrev b : List (List ℕ)
  b = data_tracks after g v.vtoc

  abbrev u : Volume
  u = volume_by before g v.vtoc

  stands : volume_of before ≡ Ok u
  stands = set.set.mounted.volume

  once : OwnsOnce u
  once = (lawful_volume before u stands).owned

  abbrev mine : DataSet
  mine = data_set_of g a (slots_of_vtoc before g v.vtoc) f

  place : (j : ℕ) × (slice_get u.sets j ≡ Some mine)
  place = index_set before (bare v) f set.slot set.set.mounted set.dscb

  -- the directory of another set
  other : (k : ℕ) (x : DataSet) (end : Place) → slice_get u.sets k ≡ Some x → k ≢ place.0 → AgreeUpto g a b (owned_tracks x.extents) end
  unfolding data_set_of
  other k x end there apart j t low own =
      read_bytes g v.vtoc before after (upto_last end j) t (differ.others t (λ n owned past. sets_apart u once k place.0 x mine there place.1 apart j n t own owned))

  -- and of this one
  own : (end : Place) → end_by mine.body ≡ Some end → AgreeUpto g a b (owned_tracks mine.extents) end
  unfolding data_set_of volume_with
  own end is j t low owned =
      let part = part_from (body_of_set before v f) end is in
      let kind = as_partitioned g a f.name (attr_of f) (extents_in before v f) f.lstar part.0 end part.1 part.2 part.3 in
      let to : Place = read_to end f.lstar in
      let at : last ≡ to = ends.1 ∙ ap (λ (x : Body). last_read x f.lstar) part.3 in
      let past : IsPast end last = subst (IsPast end) (sym at) (read_past_end end f.lstar) in
      let first : 1 ≤ last.r = subst (λ (p : Place). 1 ≤ p.r) (sym at) (part_first g a (extents_in before v f) f.lstar part.0 end part.1 part.2 kind.1) in
      let read = part_read g a (extents_in before v f) f.lstar part.0 end part.1 part.2 kind.1 to.tt (omega arith) in
      by past first (ap (λ (p : Place). p.tt) at) read.track read.there read.xs (subst (λ (p : Place). records_in g a (upto_last p p.tt) read.track ≡ Some read.xs) (sym at) read.records) (eqb_tells j last.tt)
    where
      by : IsPast end last → 1 ≤ last.r → last.tt ≡ (read_to end f.lstar).tt → (track : ℕ) → slice_get (owned_in before v f) (read_to end f.lstar).tt ≡ Some track → (xs : List Record) → records_in g a (upto_last last last.tt) track ≡ Some xs
          → ((eqb j last.tt ≡ true) × (j ≡ last.tt)) ⊎ ((eqb j last.tt ≡ false) × (j ≡ last.tt → ⊥)) → records_in g b (upto_last end j) t ≡ records_in g a (upto_last end j) t
      by past first same track at xs read (inr w) =
          read_bytes g v.vtoc before after (upto_last end j) t (differ.others t (λ n mine' behind. omega (arith, low, past.track, w.1, behind, own_apart u once place.0 mine place.1 j n t owned mine')))
      by past first same track at xs read (inl w) =
          let end_at : j ≡ end.tt = omega (arith, low, past.track, w.1) in
          let up : upto_last end j ≡ Some end.r = ap (λ (c : Bool). cond c (Some end.r) None) (eq-eqb j end.tt end_at) in
          let up_last : upto_last last last.tt ≡ Some last.r = ap (λ (c : Bool). cond c (Some last.r) None) (eq-eqb last.tt last.tt refl) in
          let here : slice_get (owned_in before v f) last.tt ≡ Some t = ap (slice_get (owned_in before v f)) (sym w.1) ∙ owned in
          let track_is : Some track ≡ Some t = sym at ∙ ap (slice_get (owned_in before v f)) (sym same) ∙ here in
          let is_t : track ≡ t = cc in
          let was : records_in g a (Some last.r) t ≡ Some xs = ap (records_in g a (Some last.r)) (sym is_t) ∙ ap (λ (o : Option ℕ). records_in g a o track) (sym up_last) ∙ read in
          let out : is_in t v.vtoc ≡ false = outside u once place.0 mine place.1 j t owned in
          let now : records_in g b (Some last.r) t ≡ Some xs = read_records g v.vtoc before after (Some last.r) t out (differ.kept t here first) ∙ was in
          let low_r : end.r ≤ last.r = past.place (omega (arith, end_at, w.1)) in
          ap (λ (o : Option ℕ). records_in g b o t) up
          ∙ first_of_some g b t xs end.r last.r low_r now ∙ sym (first_of_some g a t xs end.r last.r low_r was)
          ∙ ap (λ (o : Option ℕ). records_in g a o t) (sym up)

  -- each directory has the same records up to its end
  pub agree : (k : ℕ) (x : DataSet) (end : Place) → slice_get u.sets k ≡ Some x → end_by x.body ≡ Some end → AgreeUpto g a b (owned_tracks x.extents) end
  agree k x end there is = elim (eqb_tells k place.0) [
    | inl w ↦ same w.1
    | inr w ↦ other k x end there w.1
  ]
    where
      same : k ≡ place.0 → AgreeUpto g a b (owned_tracks x.extents) end
      same e =
          let both : Some mine ≡ Some x = sym place.1 ∙ ap (slice_get u.sets) (sym e) ∙ there in
          let set_is : mine ≡ x = cc in
          subst (λ (y : DataSet). end_by y.body ≡ Some end → AgreeUpto g a b (owned_tracks y.extents) end) set_is (own end) is

  -- the other image stands for the same volume
  pub pending_stands : volume_of after ≡ Ok u
  pending_stands =
      let d : DifferBehind (bare v) f last before after = differ_by v (record (v.buf) { records = [] }) f last before after differ in
      let index : IsMounted after (bare v) = spared_mounted before after (bare v) f set last d ends (inl refl) in
      index.volume ∙ ap (λ (x : Volume). Ok x) (volume_kept before after (bare v) f set last d ends)

  packed_now : ArePacked before u → ArePacked after u
  unfolding volume_with
  packed_now packed = packed_step before after u stands u (same_keeps u) agree packed

  -- While blocks are pending an image is packed where it was,
  pub pending_image : IsPackedImage before → IsPackedImage after
  pending_image was = (u, pending_stands, packed_now (packed_of before u stands was))

  in_volume : (done : List ℕ) → DifferInVtoc g v.vtoc after done → DifferInVtoc u.geometry u.vtoc after done
  unfolding volume_with
  in_volume done vtoc = vtoc

  module _ (w : Volume) (volume : volume_of before ≡ Ok w) where
    is_u : u ≡ w
    is_u = let both : Ok u ≡ Ok w = sym stands ∙ volume in cc

    -- and by the volume.
    pub pending_packed : ArePacked before w → ArePacked after w
    pending_packed = subst (λ (x : Volume). ArePacked before x → ArePacked after x) is_u packed_now

    -- Once they are the set's, the VTOC differs too.
    pub packed_blocks : (done : List ℕ) (w' : Volume) → DifferInVtoc v.geometry v.vtoc after done → KeepsDirectories w w' → ArePacked before w → ArePacked done w'
    packed_blocks done w' vtoc keeps packed =
        let stands_after : volume_of after ≡ Ok w = pending_stands ∙ ap (λ (x : Volume). Ok x) is_u in
        packed_vtoc after done w stands_after w' (subst (λ (x : Volume). DifferInVtoc x.geometry x.vtoc after done) is_u (in_volume done vtoc)) keeps (pending_packed packed)

-- by the contract of a commit
module _ (name : List ℕ) (stepped : Result Volume Refusal) (v' : Vol) (before : List File) (new : Meaning (List File)) (w : Volume) (stands : volume_of (image_named before name) ≡ Ok w) (keeps : (w' : Volume) → stepped ≡ Ok w' → KeepsDirectories w w')
    (done : IsCommitted name stepped v' before new) where
  pub committed_packed : IsPackedImage (image_named before name) → IsPackedImage (image_named new.state name)
  committed_packed was =
      let c = done.changes in
      let image : List ℕ = image_named before name in
      (done.after, done.stands, packed_blocks image c.between c.old c.f (bare_set image c.old c.f c.set) c.last c.behind c.ends w stands (image_named new.state name) done.after c.alone (keeps done.after done.step) (packed_of image w stands was))
