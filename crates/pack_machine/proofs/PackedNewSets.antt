-- A new data set leaves the directories of the others packed, and its own is.
use Rattle.std.proofs.Common.{◌≡◌, ◌⊎◌, ◌≤◌, ◌<◌, ℕ, Bool, true, false, cond, not, List, [], ◌∷◌, Option, Some, Result, Ok, inl, inr, refl, sym, ap, ◌∙◌, subst, arith}
use Rattle.std.specs.Prelude.{◌==◌, OnOk, if◌then◌else◌, slice_get, unwrap_or}
use Rattle.std.proofs.lemmas.Bool.Decides.{eqb_tells, nat_tests}
use Rattle.ckd_image.specs.declared.device.DiskType.{DiskType}
use Rattle.ckd_image.specs.declared.header.Geometry.{Geometry}
use Rattle.ebcdic_names.specs.declared.names.Dsn.{Dsn}
use Rattle.stop_model.specs.Files.{File}
use Rattle.stop_model.specs.Moments.{Meaning}
use Rattle.pack_spec.specs.Alike.{IsIn}
use Rattle.pack_spec.specs.Blocks.{data_tracks, last_of, owned_tracks, upto_last}
use Rattle.pack_spec.specs.Label.{tracks_of}
use Rattle.pack_spec.specs.Settled.{ArePacked, HasPacked, IsPacked, directory_upto}
use Rattle.pack_spec.specs.Volume.{volume_of}
use Rattle.pack_spec.proofs.Lawful.{lawful_volume}
use Rattle.shelf_laws.proofs.Tracks.{choice_new}
use Rattle.vol_model.specs.declared.contents.Attr.{Attr}
use Rattle.vol_model.specs.declared.contents.Body.TheVariants as bodies
use Rattle.vol_model.specs.declared.contents.DataSet.{DataSet}
use Rattle.vol_model.specs.declared.contents.Place.{Place}
use Rattle.vol_model.specs.declared.contents.Run.{Run}
use Rattle.vol_model.specs.declared.contents.Volume.{Volume}
use Rattle.vol_model.specs.declared.requests.Request.{Request}
use Rattle.vol_model.specs.Places.{directory_end, is_before}
use Rattle.vol_model.specs.Shelf.{allocate_on, is_catalog, is_partitioned, is_sequential, new_body}
use Rattle.vol_model.specs.Space.{is_in}
use Rattle.vtoc_index.specs.declared.vol.Vol.{Vol}
use Rattle.free_rebuild.specs.Operations.{DoesOperation, IsDone}
use Rattle.free_rebuild.specs.Repairs.{image_named}
use Rattle.dadsm_ops.specs.Allocating.{DifferBeside, HasDirectory, InNewSet, directory_runs, new_tracks}
use Rattle.dadsm_ops.specs.Formatting.{IsFormatted}
use Rattle.dadsm_ops.proofs.FormattedBodies.{new_on}
use Rattle.vtoc_sets.proofs.Owners.{owned_some, read_bytes}
use Rattle.pds_directory.proofs.PackedTracks.{AddsSet, AgreeUpto, ComesFrom, allocate_adds, end_by, new_packed, on_pack, outside, owned_by, packed_all, packed_if, packed_one}
use Rattle.pack_machine.proofs.PackedVtoc.{IsPackedImage, mounted_place, on_both, packed_of}

none_owned : (k t : ℕ) → slice_get (owned_tracks []) k ≡ Some t → ⊥
unfolding owned_tracks
none_owned k t there = cc

-- a new body with a directory is that of a partitioned set
new_end : (device : DiskType) (name : List ℕ) (attr : Attr) (dir : ℕ) (end : Place) → end_by (new_body device name attr dir) ≡ Some end → (is_partitioned name attr ≡ true) × (directory_end device dir ≡ end)
new_end device name attr dir end = by (is_catalog name) (is_sequential name attr) (is_partitioned name attr)
  where
    by : (c s p : Bool) → end_by (cond c bodies.Catalog (cond s (bodies.Seq []) (cond p (bodies.Part dir (directory_end device dir) [] []) bodies.Other))) ≡ Some end → (p ≡ true) × (directory_end device dir ≡ end)
    by true s p is = cc
    by false true p is = cc
    by false false true is = (refl, cc)
    by false false false is = cc

-- so it has directory blocks
some_blocks : (dir : ℕ) (part : Bool) → (if dir == 0 then part else not part) ≡ false → part ≡ true → 1 ≤ dir
some_blocks dir part right is = elim (eqb_tells dir 0) [
  | inl w ↦ by_zero (ap (λ (b : Bool). cond b part (not part)) (sym w.0) ∙ right)
  | inr w ↦ omega (arith, w.1)
]
  where
    by_zero : part ≡ false → 1 ≤ dir
    by_zero none = let never : true ≡ false = sym is ∙ none in cc

-- no block stands before the place that LSTAR of zeros says
none_before : (p : Place) → is_before p (last_of (0 ∷ 0 ∷ 0 ∷ [])) ≡ false
none_before p = at_start p.tt p.r
  where
    at_start : (t r : ℕ) → is_before (record { tt = t; r = r }) (record { tt = 0; r = 0 }) ≡ false
    at_start t r = grind (arith, nat_tests)

module _ (before after : List ℕ) (w w' : Volume) (stands : volume_of before ≡ Ok w) (stands' : volume_of after ≡ Ok w') (dsn : Dsn) (attr : Attr) (q : Request) (dir : ℕ) (adds : AddsSet dsn attr q dir w w') where
  abbrev g : Geometry
  g = w.geometry

  abbrev a : List (List ℕ)
  a = data_tracks before g w.vtoc

  abbrev b : List (List ℕ)
  b = data_tracks after g w.vtoc

  tracks_are : new_tracks q dir (volume_of before) ≡ directory_runs dir adds.runs
  tracks_are = ap (new_tracks q dir) stands ∙ ap (λ (o : Option (List Run)). directory_runs dir (unwrap_or o [])) adds.chosen

  module _ (differ : DifferBeside g w.vtoc (directory_runs dir adds.runs) before after) where
    not_in : (t : ℕ) → is_in t w.vtoc ≡ false → ¬ IsIn w.vtoc t
    not_in t out within = grind (arith, nat_tests)

    -- a track of another set is none of the new one's
    not_new : (from_number : ℕ) (x : DataSet) → slice_get w.sets from_number ≡ Some x → (m t : ℕ) → slice_get (owned_tracks x.extents) m ≡ Some t → (k : ℕ) → slice_get (owned_tracks (directory_runs dir adds.runs)) k ≡ Some t → ⊥
    not_new number x there m t own k new = by (dir == 0) new
      where
        by : (c : Bool) → slice_get (owned_tracks (cond c [] adds.runs)) k ≡ Some t → ⊥
        by true is = none_owned k t is
        by false is =
            let once = (lawful_volume before w stands).owned in
            let chosen = (choice_new w q.unit q.contig q.primary adds.runs adds.chosen).once t (once t) in
            omega (arith, chosen, owned_by w once number x there m t own, owned_some adds.runs k t is)

    -- so the tracks of another set have the same records
    pub agree_old : (y : DataSet) (from : ComesFrom w.sets y) (end : Place) → AgreeUpto g a b (owned_tracks from.set.extents) end
    agree_old y from end j t low own =
        let once = (lawful_volume before w stands).owned in
        read_bytes g w.vtoc before after (upto_last end j) t
        (differ.tracks t (not_in t (outside w once from.number from.set from.there j t own)) (not_new from.number from.set from.there j t own))

    old_packed : ArePacked before w → (y : DataSet) → ComesFrom w.sets y → HasPacked g b y.extents y.body
    old_packed packed y from = packed_one before after w stands y from (λ end is. agree_old y from end) packed

    module _ (directory : HasDirectory after g adds.runs dir) where
      new_is_packed : (k : ℕ) (y : DataSet) → slice_get w'.sets k ≡ Some y → y.extents ≡ adds.runs → y.body ≡ new_body g.device dsn.bytes attr dir → HasPacked g b y.extents y.body
      new_is_packed k y there extents body = packed_if g b y.extents y.body (λ end is.
          let new = new_end g.device dsn.bytes attr dir end (ap end_by (sym body) ∙ is) in
          let some : 1 ≤ dir = some_blocks dir (is_partitioned dsn.bytes attr) adds.right new.0 in
          let out : (j t : ℕ) → slice_get (owned_tracks adds.runs) j ≡ Some t → (is_in t w.vtoc ≡ false) × (t < tracks_of g) = inside in
          let first = new_on after g w.vtoc adds.runs dir (0 ∷ 0 ∷ 0 ∷ []) some (none_before (directory_end g.device dir)) out (directory some) 0 (omega arith) in
          let here : IsPacked (directory_upto g b (owned_tracks adds.runs) (directory_end g.device dir)) = new_packed g b (owned_tracks adds.runs) g.device dir some first in
          subst (λ (p : Place). IsPacked (directory_upto g b (owned_tracks y.extents) p)) new.1
          (subst (λ (rs : List Run). IsPacked (directory_upto g b (owned_tracks rs) (directory_end g.device dir))) (sym extents) here))
        where
          mine : (j t : ℕ) → slice_get (owned_tracks adds.runs) j ≡ Some t → slice_get (owned_tracks y.extents) j ≡ Some t
          mine j t own = ap (λ (rs : List Run). slice_get (owned_tracks rs) j) extents ∙ own

          inside : (j t : ℕ) → slice_get (owned_tracks adds.runs) j ≡ Some t → (is_in t w.vtoc ≡ false) × (t < tracks_of g)
          inside j t own = (
            ap (is_in t) (sym adds.vtoc) ∙ outside w' (lawful_volume after w' stands').owned k y there j t (mine j t own),
            subst (λ (h : Geometry). t < tracks_of h) adds.geometry (on_pack after w' stands' k y there j t (mine j t own)),
          )

      -- the directories of the volume after it
      pub packed_new_set : ArePacked before w → ArePacked after w'
      packed_new_set packed = packed_all before after w stands w' adds.geometry adds.vtoc (λ k y there. elim (adds.sets k y there) [
        | inl new ↦ new_is_packed k y there new.0 new.1
        | inr old ↦ old_packed packed y old
      ])

-- by the contract of an allocation that is done, the images differ beside the tracks of the new set's directory
pub differ_new : (name : List ℕ) (dsn : Dsn) (attr : Attr) (q : Request) (dir : ℕ) (v' : Vol) (before : List File) (new : Meaning (List File)) (w : Volume) → volume_of (image_named before name) ≡ Ok w
    → (done : IsDone name (allocate_on dsn attr q dir w) v' (InNewSet q dir v') before new) → (adds : AddsSet dsn attr q dir w done.after)
    → DifferBeside w.geometry w.vtoc (directory_runs dir adds.runs) (image_named before name) (image_named new.state name)
differ_new name dsn attr q dir v' before new w stands done adds =
    let image : List ℕ = image_named before name in
    let image' : List ℕ = image_named new.state name in
    let place = mounted_place image' v' done.after done.index done.stands in
    subst (λ (g : Geometry). DifferBeside g w.vtoc (directory_runs dir adds.runs) image image') (sym place.0 ∙ adds.geometry)
    (subst (λ (r : Run). DifferBeside v'.geometry r (directory_runs dir adds.runs) image image') (sym place.1 ∙ adds.vtoc)
    (subst (λ (rs : List Run). DifferBeside v'.geometry v'.vtoc rs image image') (tracks_are image image' w done.after stands done.stands dsn attr q dir adds) done.changes.image))

-- by the contract of an allocation
module _ {T E : Type 0} (name : List ℕ) (dsn : Dsn) (attr : Attr) (q : Request) (dir : ℕ) (v' : Vol) (old new : Meaning (List File)) (result : Result T E)
    (directory : OnOk result (HasDirectory (image_named new.state name) v'.geometry (new_tracks q dir (volume_of (image_named old.state name))) dir))
    (does : DoesOperation name (allocate_on dsn attr q dir) v' (InNewSet q dir v') old new result) where
  abbrev image : List ℕ
  image = image_named old.state name

  abbrev image' : List ℕ
  image' = image_named new.state name

  -- where there is no directory, there is none on any tracks
  at_runs : (g : Geometry) (runs : List Run) → HasDirectory image' g (directory_runs dir runs) dir → HasDirectory image' g runs dir
  at_runs g runs has some k low = by (eqb_tells dir 0) (has some k low)
    where
      by : (((dir == 0) ≡ true) × (dir ≡ 0)) ⊎ (((dir == 0) ≡ false) × (dir ≡ 0 → ⊥)) → IsFormatted image' g (directory_runs dir runs) dir k → IsFormatted image' g runs dir k
      by (inl w) f = absurd (omega (arith, w.1, some))
      by (inr w) f = subst (λ (c : Bool). IsFormatted image' g (cond c [] runs) dir k) w.0 f

  pub new_set_packed : OnOk result (IsPackedImage image → IsPackedImage image')
  new_set_packed = on_both result (λ done written was.
      let w : Volume = does.volume in
      let w' : Volume = done.after in
      let adds = allocate_adds dsn attr q dir w w' done.step in
      let place = mounted_place image' v' w' done.index done.stands in
      let geometry : v'.geometry ≡ w.geometry = sym place.0 ∙ adds.geometry in
      let runs = tracks_are image image' w w' does.before done.stands dsn attr q dir adds in
      let has : HasDirectory image' w.geometry adds.runs dir =
      at_runs w.geometry adds.runs (subst (λ (g : Geometry). HasDirectory image' g (directory_runs dir adds.runs) dir) geometry (subst (λ (rs : List Run). HasDirectory image' v'.geometry rs dir) runs written))
      in
      (w', done.stands, packed_new_set image image' w w' does.before done.stands dsn attr q dir adds (differ_new name dsn attr q dir v' old.state new w does.before done adds) has (packed_of image w does.before was))) does.done directory
