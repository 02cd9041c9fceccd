-- The directory of a new data set stays as it was written while the VTOC alone is changed.
use Rattle.std.proofs.Common.{◌≡◌, ◌≤◌, ◌/◌, ◌%◌, ℕ, Bool, false, cond, List, [], Option, Some, None, sym, ap, ◌∙◌, subst, arith}
use Rattle.std.specs.Prelude.{Result, Ok, Err, OnOk, slice_get, unwrap_or}
use Rattle.std.proofs.lemmas.Bool.{ne_eqb}
use Rattle.std.proofs.lemmas.Bool.Decides.{nat_tests}
use Rattle.ckd_image.specs.declared.header.Geometry.{Geometry}
use Rattle.ckd_image.specs.Reading.{records_of}
use Rattle.ebcdic_names.specs.declared.names.Dsn.{Dsn}
use Rattle.stop_model.specs.Files.{File}
use Rattle.stop_model.specs.Moments.{Meaning}
use Rattle.pack_spec.specs.Alike.{DifferInVtoc, IsIn}
use Rattle.pack_spec.specs.Blocks.{owned_tracks}
use Rattle.pack_spec.specs.Label.{heads_of, records_on}
use Rattle.pack_spec.specs.Volume.{volume_by, volume_of, volume_with}
use Rattle.vol_model.specs.declared.contents.Attr.{Attr}
use Rattle.vol_model.specs.declared.contents.Run.{Run}
use Rattle.vol_model.specs.declared.contents.Volume.{Volume}
use Rattle.vol_model.specs.declared.refusals.Refusal.{Refusal}
use Rattle.vol_model.specs.declared.requests.Request.{Request}
use Rattle.vol_model.specs.Space.{is_in}
use Rattle.vtoc_index.specs.declared.vol.Vol.{Vol}
use Rattle.vtoc_index.specs.Index.{IsMounted}
use Rattle.free_rebuild.specs.Updates.{Concludes}
use Rattle.dadsm_ops.specs.Allocating.{Decides, HasDirectory, HasPlan, directory_runs, new_tracks}
use Rattle.dadsm_ops.specs.Formatting.{IsFormatted}
use Rattle.dadsm_ops.specs.Operations.{HasVtocOf, image_named}
use Rattle.dadsm_ops.proofs.NewChoices.{volume_is}
use Rattle.dadsm_ops.proofs.NewSetCalls.{plan_outside}

-- images that differ in the VTOC alone, of which no track is one of the runs'
module _ (g : Geometry) (vtoc : Run) (runs : List Run) (outside : (k t : ℕ) → slice_get (owned_tracks runs) k ≡ Some t → is_in t vtoc ≡ false) (image image' : List ℕ) (differ : DifferInVtoc g vtoc image image') where
  not_in : (t : ℕ) → is_in t vtoc ≡ false → ¬ IsIn vtoc t
  not_in t out within = grind (arith, nat_tests)

  records_kept : (t : ℕ) → is_in t vtoc ≡ false → records_on image' g None t ≡ records_on image g None t
  unfolding records_on
  records_kept t out = ap (records_of (t / heads_of g) (t % heads_of g) None) (differ.tracks t (not_in t out))

  directory_kept : (dir : ℕ) → HasDirectory image g runs dir → HasDirectory image' g runs dir
  directory_kept dir has some k low =
      let f = has some k low in
      record {
        track = f.track;
        there = f.there;
        xs = f.xs;
        records = records_kept f.track (outside k f.track f.there) ∙ f.records;
        holds = f.holds;
      }

-- the VTOC of a mounted volume is that of its index
differ_by : (image image' : List ℕ) (v w : Vol) (volume : Volume) (at : List ℕ) → IsMounted at v → volume_of at ≡ Ok volume → w.geometry ≡ v.geometry → w.vtoc ≡ v.vtoc → DifferInVtoc volume.geometry volume.vtoc image image' → DifferInVtoc w.geometry w.vtoc image image'
unfolding volume_with
differ_by image image' v w volume at mounted stands geometry vtoc differ =
    let same : volume ≡ volume_by at v.geometry v.vtoc = volume_is at v volume mounted stands in
    let here : DifferInVtoc v.geometry v.vtoc image image' = subst (λ (x : Volume). DifferInVtoc x.geometry x.vtoc image image') same differ in
    subst (λ (g : Geometry). DifferInVtoc g w.vtoc image image') (sym geometry) (subst (λ (r : Run). DifferInVtoc v.geometry r image image') (sym vtoc) here)

on_done : {T E P Q : Type 0} (result : Result T E) → (P → Q) → OnOk result P → OnOk result Q
on_done (Ok x) follows done = follows done
on_done (Err e) follows done = tt

-- where a set has a directory, its tracks are those that are planned
runs_are : (runs : List Run) (dir : ℕ) → 1 ≤ dir → directory_runs dir runs ≡ runs
runs_are runs dir some = ap (λ (b : Bool). cond b [] runs) (ne_eqb dir 0 (λ e. omega (arith, e, some)))

-- What was written before the deciding write is there when the operation is done.
pub directory_done : {T E A B : Type 0} {x : A} (name : List ℕ) (operation : Volume → Result Volume Refusal) (v0 v3 v4 v5 : Vol) (m0 m3 m4 m5 : Meaning (List File)) (result : Result T E) (dsn : Dsn) (attr : Attr) (q : Request) (dir : ℕ) (runs : List Run)
    → IsMounted (image_named m0.state name) v0 → HasPlan (image_named m0.state name) dsn attr q dir runs → HasVtocOf v0 v3 → HasVtocOf v3 v4 → HasVtocOf v4 v5 → HasDirectory (image_named m3.state name) v3.geometry runs dir
    → Decides {T = A} {E = B} name operation v4 m3 m4 (Ok x) → Concludes name v5 m4 m5 result → OnOk result (HasDirectory (image_named m5.state name) v5.geometry (new_tracks q dir (volume_of (image_named m0.state name))) dir)
directory_done name operation v0 v3 v4 v5 m0 m3 m4 m5 result dsn attr q dir runs mounted plan three four five written decides concludes =
    let geometry5 : v5.geometry ≡ v4.geometry = ap (λ (v : Vol). v.geometry) five in
    let vtoc5 : v5.vtoc ≡ v4.vtoc = ap (λ (v : Vol). v.vtoc) five in
    let geometry3 : v5.geometry ≡ v3.geometry = geometry5 ∙ ap (λ (v : Vol). v.geometry) four in
    let vtoc0 : v5.vtoc ≡ v0.vtoc = vtoc5 ∙ ap (λ (v : Vol). v.vtoc) four ∙ ap (λ (v : Vol). v.vtoc) three in
    let image3 : List ℕ = image_named m3.state name in
    let image4 : List ℕ = image_named m4.state name in
    let image5 : List ℕ = image_named m5.state name in
    let out : (k t : ℕ) → slice_get (owned_tracks runs) k ≡ Some t → is_in t v5.vtoc ≡ false =
    λ k t there. subst (λ (r : Run). is_in t r ≡ false) (sym vtoc0) (plan_outside (image_named m0.state name) v0 mounted dsn attr q dir runs plan k t there).0
    in
    let one : DifferInVtoc v5.geometry v5.vtoc image3 image4 = differ_by image3 image4 v4 v5 decides.after image4 decides.index decides.decided.stands geometry5 vtoc5 decides.decided.tracks in
    let at3 : HasDirectory image3 v5.geometry runs dir = subst (λ (g : Geometry). HasDirectory image3 g runs dir) (sym geometry3) written in
    let at4 : HasDirectory image4 v5.geometry runs dir = directory_kept v5.geometry v5.vtoc runs out image3 image4 one dir at3 in
    let planned : new_tracks q dir (volume_of (image_named m0.state name)) ≡ directory_runs dir runs = ap (new_tracks q dir) plan.stands ∙ ap (λ (o : Option (List Run)). directory_runs dir (unwrap_or o [])) plan.has.chosen in
    on_done result (λ safe.
    let two : DifferInVtoc v5.geometry v5.vtoc image4 image5 = differ_by image4 image5 v4 v5 concludes.volume image4 decides.index concludes.before geometry5 vtoc5 safe.tracks in
    let at5 : HasDirectory image5 v5.geometry runs dir = directory_kept v5.geometry v5.vtoc runs out image4 image5 two dir at4 in
    λ some k low. subst (λ (rs : List Run). IsFormatted image5 v5.geometry rs dir k) (sym (planned ∙ runs_are runs dir some)) (at5 some k low)) concludes.safe
