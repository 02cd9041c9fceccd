-- A new data set leaves each directory where it stands that doesn't begin on the set's first track.
use Rattle.std.proofs.Common.{◌≡◌, ◌≢◌, ℕ, zero, suc, Bool, true, false, cond, not, List, [], ◌∷◌, Option, Some, None, Result, Ok, inl, inr, refl, sym, ap, ◌∙◌, subst}
use Rattle.std.specs.Prelude.{◌==◌, OnOk, find, if◌then◌else◌, nat_lt, option_and_then, slice_get}
use Rattle.std.proofs.lemmas.Bool.Decides.{eqb_tells}
use Rattle.std.proofs.lemmas.Slice.Eq.{bytes_eq-Decides}
use Rattle.dadsm_ops.specs.Allocating.{DifferBeside, InNewSet, directory_runs}
use Rattle.ebcdic_names.specs.declared.names.Dsn.{Dsn}
use Rattle.free_rebuild.specs.Operations.{DoesOperation}
use Rattle.free_rebuild.specs.Repairs.{image_named}
use Rattle.mount_repair.proofs.OrderedSets.{find_in_order}
use Rattle.pack_spec.specs.Blocks.{owned_tracks}
use Rattle.pack_spec.specs.Volume.{volume_of}
use Rattle.pds_directory.specs.declared.dir.Dir.{Dir}
use Rattle.pds_directory.proofs.PackedTracks.{AddsSet, allocate_adds}
use Rattle.stop_model.specs.Files.{File}
use Rattle.stop_model.specs.Moments.{Meaning}
use Rattle.vol_model.specs.declared.contents.Attr.{Attr}
use Rattle.vol_model.specs.declared.contents.DataSet.{DataSet}
use Rattle.vol_model.specs.declared.contents.Run.{Run}
use Rattle.vol_model.specs.declared.contents.Volume.{Volume}
use Rattle.vol_model.specs.declared.refusals.Refusal.{Refusal}
use Rattle.vol_model.specs.declared.refusals.Refusal.TheVariants.{NoRoom, SetExists, VtocFull, WrongKind}
use Rattle.vol_model.specs.declared.requests.Request.{Request}
use Rattle.vol_model.specs.Places.{tracks_in}
use Rattle.vol_model.specs.Shelf.{allocate_on, has_name, has_set, if_room, is_partitioned, lacks_room, new_attr, new_body, on_choice, refuse, set_of, with_new}
use Rattle.vol_model.specs.Slots.{slots_needed}
use Rattle.vol_model.specs.Space.{choice}
use Rattle.vtoc_index.specs.Index.{IsMounted}
use Rattle.vtoc_index.specs.declared.vol.Vol.{Vol}
use Rattle.vtoc_sets.specs.Sets.{volume_in}
use Rattle.pack_machine.specs.Known.{HoldLibraries}
use Rattle.pack_machine.specs.NewSets.{first_track, without_first}
use Rattle.pack_machine.specs.Standing.{IsDirectoryAt}
use Rattle.mount_repair.specs.declared.library.Library.{Library}
use Rattle.pack_machine.proofs.Operating.{ok_volume, unrefused}
use Rattle.pack_machine.proofs.PackedNewSets.{agree_old, differ_new}
use Rattle.pack_machine.proofs.StayingDirectories.{stays_all, stays_one, volume_mounted}
use Rattle.std.proofs.lemmas.Result.{on_ok_weaker}

-- each directory that stood on an image stands on another, too, unless it begins on this track
abbrev pub OthersStay : Option ℕ → List ℕ → List ℕ → Volume → Volume → Type 0
OthersStay first before after w w' = (start : ℕ) (dir : Dir) → first ≢ Some start → IsDirectoryAt before w start dir → IsDirectoryAt after w' start dir

-- The directories of the other sets stay.
pub new_set_stays : (before after : List ℕ) (w w' : Volume) → volume_of before ≡ Ok w → volume_of after ≡ Ok w' → (dsn : Dsn) (attr : Attr) (q : Request) (dir : ℕ) (adds : AddsSet dsn attr q dir w w')
    → DifferBeside w.geometry w.vtoc (directory_runs dir adds.runs) before after → OthersStay (slice_get (owned_tracks adds.runs) 0) before after w w'
new_set_stays before after w w' stands stands' dsn attr q dir adds differ start directory other at = stays_all before after w stands w' adds.geometry adds.vtoc start directory (λ k n y end es bs there first is. elim (adds.sets k y there) [
  | inl new ↦ absurd (other (ap (λ (rs : List Run). slice_get (owned_tracks rs) 0) (sym new.0) ∙ first))
  | inr from ↦ stays_one before after w stands start directory y from n end es bs first is (λ ends. agree_old before after w w' stands stands' dsn attr q dir adds differ y from end) at
])

-- ---- where the new set begins

-- the set of this name is the new one, on the tracks that were chosen for it
pub new_found : (dsn : Dsn) (attr : Attr) (q : Request) (dir : ℕ) (w w' : Volume) → allocate_on dsn attr q dir w ≡ Ok w' → (x : DataSet) × (set_of dsn.bytes w' ≡ Some x) × (choice w q.unit q.contig q.primary ≡ Some x.extents)
unfolding allocate_on
new_found dsn attr q dir w w' done =
    let wants_dir = is_partitioned dsn.bytes attr in
    by (choice w q.unit q.contig q.primary) refl (unrefused (if dir == 0 then wants_dir else not wants_dir) WrongKind _ w' (unrefused (has_set w dsn.bytes) SetExists _ w' done))
  where
    with_runs : List Run → Result Volume Refusal
    with_runs runs = if_room (lacks_room w.geometry.device dsn.bytes dir (tracks_in runs)) (with_new dsn attr q dir w runs)

    by : (o : Option (List Run)) → choice w q.unit q.contig q.primary ≡ o → on_choice q.primary o with_runs ≡ Ok w' → (x : DataSet) × (set_of dsn.bytes w' ≡ Some x) × (choice w q.unit q.contig q.primary ≡ Some x.extents)
    by None there is = absurd cc
    by (Some runs) there is =
        let x : DataSet = record { name = dsn; attr = new_attr dsn.bytes attr q; extents = runs; body = new_body w.geometry.device dsn.bytes attr dir } in
        let new : Volume = with_new dsn attr q dir w runs in
        let room : Bool = lacks_room w.geometry.device dsn.bytes dir (tracks_in runs) in
        let free = unrefused (nat_lt new.slots (slots_needed new)) (VtocFull (slots_needed new)) (refuse room NoRoom (Ok new)) w' is in
        let same : w' ≡ new = sym (ok_volume (unrefused room NoRoom (Ok new) w' free)) in
        let named : has_name dsn.bytes x ≡ true = (bytes_eq-Decides dsn.bytes dsn.bytes).1 refl in (
          x,
          ap (set_of dsn.bytes) same ∙ find_in_order dsn.bytes (x ∷ w.sets) ∙ ap (λ (b : Bool). cond b (Some x) (find (has_name dsn.bytes) w.sets)) named,
          there,
        )

-- so its first track is the first of these
pub new_first : (dsn : Dsn) (attr : Attr) (q : Request) (dir : ℕ) (w w' : Volume) → allocate_on dsn attr q dir w ≡ Ok w' → (adds : AddsSet dsn attr q dir w w') → first_track dsn.bytes w' ≡ slice_get (owned_tracks adds.runs) 0
new_first dsn attr q dir w w' done adds =
    let found = new_found dsn attr q dir w w' done in
    let both : Some found.0.extents ≡ Some adds.runs = sym found.2 ∙ adds.chosen in
    let same : found.0.extents ≡ adds.runs = cc in
    ap (option_and_then (λ (x : DataSet). slice_get (owned_tracks x.extents) 0)) found.1 ∙ ap (λ (rs : List Run). slice_get (owned_tracks rs) 0) same

-- by the contract of an allocation
pub new_directories_stay : {T E : Type 0} (name : List ℕ) (dsn : Dsn) (attr : Attr) (q : Request) (dir : ℕ) (v v' : Vol) (old new : Meaning (List File)) (result : Result T E) → IsMounted (image_named old.state name) v
    → DoesOperation name (allocate_on dsn attr q dir) v' (InNewSet q dir v') old new result
    → OnOk result (OthersStay (first_track dsn.bytes (volume_in (image_named new.state name) v')) (image_named old.state name) (image_named new.state name) (volume_in (image_named old.state name) v) (volume_in (image_named new.state name) v'))
new_directories_stay name dsn attr q dir v v' old new result mounted does = on_ok_weaker result (λ done.
    let image : List ℕ = image_named old.state name in
    let image' : List ℕ = image_named new.state name in
    let w : Volume = does.volume in
    let w' : Volume = done.after in
    let adds = allocate_adds dsn attr q dir w w' done.step in
    let stays : OthersStay (slice_get (owned_tracks adds.runs) 0) image image' w w' =
    new_set_stays image image' w w' does.before done.stands dsn attr q dir adds (differ_new name dsn attr q dir v' old.state new w does.before done adds)
    in
    subst (λ (x : Volume). OthersStay (first_track dsn.bytes (volume_in image' v')) image image' x (volume_in image' v')) (volume_mounted image v w does.before mounted)
    (subst (λ (x : Volume). OthersStay (first_track dsn.bytes x) image image' w x) (volume_mounted image' v' w' done.stands done.index)
    (subst (λ (first : Option ℕ). OthersStay first image image' w w') (sym (new_first dsn attr q dir w w' done.step adds)) stays))) does.done

-- ---- the libraries that are left

-- a library of these begins on another track
abbrev IsLeftOf : ℕ → List Library → Library → Type 0
IsLeftOf start libraries l = (j : ℕ) × (slice_get libraries j ≡ Some l) × (l.start ≢ start)

left_at : (start : ℕ) (libraries : List Library) (n : ℕ) (l : Library) → slice_get (without_first (Some start) libraries) n ≡ Some l → IsLeftOf start libraries l
left_at start [] n l is = absurd cc
left_at start (m ∷ ms) n l is = by (λ i there. let rest = left_at start ms i l there in (suc rest.0, rest.1, rest.2)) (m.start == start) refl n is
  where
    left : List Library
    left = without_first (Some start) ms

    differs : (m.start == start) ≡ false → m.start ≢ start
    differs at = elim (eqb_tells m.start start) [
      | inl w ↦ absurd (let both : true ≡ false = sym w.0 ∙ at in cc)
      | inr w ↦ w.1
    ]

    by : ((i : ℕ) → slice_get left i ≡ Some l → IsLeftOf start (m ∷ ms) l) → (b : Bool) → (m.start == start) ≡ b → (i : ℕ) → slice_get (cond (not b) (m ∷ left) left) i ≡ Some l → IsLeftOf start (m ∷ ms) l
    by later true at i there = later i there
    by later false at zero there = let same : m ≡ l = cc in (zero, there, λ begins. differs at (ap (λ (x : Library). x.start) same ∙ begins))
    by later false at (suc i) there = later i there

pub libraries_stay : (first : Option ℕ) (before after : List ℕ) (v v' : Vol) → OthersStay first before after (volume_in before v) (volume_in after v') → (libraries : List Library) → HoldLibraries before v libraries → HoldLibraries after v' (without_first first libraries)
libraries_stay None before after v v' stay libraries held n l there = stay l.start l.dir (λ is. absurd cc) (held n l there)
libraries_stay (Some start) before after v v' stay libraries held n l there =
    let was = left_at start libraries n l there in
    stay l.start l.dir (λ is. was.2 (let same : start ≡ l.start = cc in sym same)) (held was.0 l was.1)
