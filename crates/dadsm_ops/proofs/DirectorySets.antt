-- The body of a new data set as its format 1 and its tracks say it, with a directory or without one, and what of its tracks is written for that.
use Rattle.std.proofs.Common.{◌≡◌, ◌||◌, ◌+◌, ◌-◌, ◌/◌, ◌≤◌, ◌<◌, ℕ, Bool, true, false, cond, not, List, [], length, Some, Ok, Result, inl, inr, refl, sym, ap, ◌∙◌, subst, arith, replicate}
use Rattle.std.specs.Prelude.{◌==◌, ◌&&◌, Err, nat_le, slice_get}
use Rattle.std.specs.List.{list_any}
use Rattle.std.proofs.lemmas.Bool.Decides.{eqb_tells, leb_tells}
use Rattle.ckd_image.specs.declared.device.DiskType.{DiskType}
use Rattle.ckd_image.specs.declared.device.DiskType.TheVariants.{D2311, D2314, D3330, D3350}
use Rattle.ckd_image.specs.declared.header.Geometry.{Geometry}
use Rattle.ckd_image.specs.Fit.{fits}
use Rattle.ebcdic_names.specs.declared.names.Dsn.{Dsn}
use Rattle.stop_model.specs.Files.{File}
use Rattle.stop_model.specs.Moments.{Elapses, Meaning, IsDurable}
use Rattle.stop_model.proofs.MomentLemmas.{elapses_none}
use Rattle.pack_spec.specs.Blocks.{data_tracks, owned_tracks}
use Rattle.pack_spec.specs.Bodies.{body_of}
use Rattle.pack_spec.specs.Label.{tracks_of}
use Rattle.pack_spec.specs.Settled.{IsMarked}
use Rattle.pack_spec.specs.Volume.{volume_by, volume_of, volume_with}
use Rattle.pack_spec.proofs.NewPlaces.{end_few, per_track}
use Rattle.pack_spec.proofs.SeqBodies.{length-owned}
use Rattle.vol_model.specs.declared.contents.Attr.{Attr}
use Rattle.vol_model.specs.declared.contents.DataSet.{DataSet}
use Rattle.vol_model.specs.declared.contents.Place.{Place}
use Rattle.vol_model.specs.declared.contents.Run.{Run}
use Rattle.vol_model.specs.declared.contents.Volume.{Volume}
use Rattle.vol_model.specs.declared.requests.Request.{Request}
use Rattle.vol_model.specs.Places as places
use Rattle.vol_model.specs.Places.{directory_end, directory_lengths, directory_place}
use Rattle.vol_model.specs.Shelf.{is_catalog, is_partitioned, lacks_room, new_body}
use Rattle.vol_model.specs.Space.{covers, is_in}
use Rattle.vtoc_index.specs.declared.vol.Vol.{Vol}
use Rattle.vtoc_index.specs.Index.{IsMounted}
use Rattle.vtoc_index.specs.Last.{lstar_of}
use Rattle.dadsm_ops.specs.Allocating.{HasDirectory, HasPlan, PutsDirectory, directory_runs, is_wrong, new_lstar}
use Rattle.dadsm_ops.specs.Formatting.{AreSpare, AreSpared, DifferOn, FormatsSet}
use Rattle.dadsm_ops.specs.Operations.{image_named}
use Rattle.dadsm_ops.proofs.ChosenTracks.{chosen_spare}
use Rattle.dadsm_ops.proofs.DirectoryPlaces.{place_by}
use Rattle.dadsm_ops.proofs.FormattedBodies.{end_said, formatted_set}
use Rattle.dadsm_ops.proofs.NewAttributes.{asked, body_read}
use Rattle.dadsm_ops.proofs.NewChoices.{geometry_is}
use Rattle.dadsm_ops.proofs.SpareTracks.{slots_kept}
use Rattle.slot_laws.proofs.StandingPuts.{slots_by}

-- ---- the place of its end

track_low : (device : DiskType) (i : ℕ) → i < 2000 → i / per_track device < 2000
track_low D2311 i low = omega (arith, low)
track_low D2314 i low = omega (arith, low)
track_low D3330 i low = omega (arith, low)
track_low D3350 i low = omega (arith, low)

end_low : (device : DiskType) (n : ℕ) → 1 ≤ n → n ≤ 2000 → (directory_end device n).tt ≤ 2000
unfolding directory_end
end_low device n some most = by (fits device (replicate p.r directory_lengths) 0 0) (omega (arith, (place_by device (n - 1)).0, track_low device (n - 1) (omega (arith, some, most))))
  where
    p : Place
    p = directory_place device (n - 1)

    pick : Bool → Place
    pick b = cond b (record { tt = p.tt; r = p.r + 1 }) (record { tt = p.tt + 1; r = 1 })

    by : (b : Bool) → p.tt < 2000 → (pick b).tt ≤ 2000
    by true low = omega (arith, low)
    by false low = omega (arith, low)

-- ---- the body

part_needed : (p : Bool) → not p ≡ false → p ≡ true
part_needed true is = refl
part_needed false is = cc

-- It is read as that of the new set.
pub new_read : (image : List ℕ) (g : Geometry) (vtoc : Run) (dsn : Dsn) (attr : Attr) (q : Request) (dir : ℕ) (runs : List Run) → dir ≤ 2000 → is_catalog dsn.bytes ≡ false → is_wrong dsn attr dir ≡ false
    → ((k t : ℕ) → slice_get (owned_tracks runs) k ≡ Some t → (is_in t vtoc ≡ false) × (t < tracks_of g)) → HasDirectory image g runs dir
    → body_of g (data_tracks image g vtoc) dsn.bytes (asked attr q) runs (new_lstar g.device dir) ≡ new_body g.device dsn.bytes attr dir
new_read image g vtoc dsn attr q dir runs most other right outside formatted = elim (eqb_tells dir 0) [
  | inl w ↦
      let flat : is_partitioned dsn.bytes attr ≡ false = sym (ap (λ (b : Bool). cond b (is_partitioned dsn.bytes attr) (not (is_partitioned dsn.bytes attr))) w.0) ∙ right in
      let lstar : new_lstar g.device dir ≡ replicate 3 0 = ap (λ (b : Bool). cond b (replicate 3 0) (lstar_of (directory_end g.device dir))) w.0 in
      ap (body_of g (data_tracks image g vtoc) dsn.bytes (asked attr q) runs) lstar
      ∙ body_read dsn.bytes attr q g g.device (data_tracks image g vtoc) runs other flat
      ∙ ap (new_body g.device dsn.bytes attr) (sym w.1)
  | inr w ↦
      let part : is_partitioned dsn.bytes attr ≡ true = part_needed (is_partitioned dsn.bytes attr) (sym (ap (λ (b : Bool). cond b (is_partitioned dsn.bytes attr) (not (is_partitioned dsn.bytes attr))) w.0) ∙ right) in
      let some : 1 ≤ dir = omega (arith, w.1) in
      let end : Place = directory_end g.device dir in
      let low : end.tt < 65536 = omega (arith, end_low g.device dir some most) in
      let small : end.r < 256 = omega (arith, end_few g.device dir) in
      let lstar : new_lstar g.device dir ≡ lstar_of end = ap (λ (b : Bool). cond b (replicate 3 0) (lstar_of (directory_end g.device dir))) w.0 in
      ap (body_of g (data_tracks image g vtoc) dsn.bytes (asked attr q) runs) lstar
      ∙ formatted_set image g vtoc runs dir (lstar_of end) some (end_said end low small) outside (formatted some) dsn.bytes attr (asked attr q) refl other part
]

-- ---- its tracks

not_vtoc : (a b c : Bool) → not (a || (b || c)) ≡ true → b ≡ false
not_vtoc true b c free = cc
not_vtoc false true c free = cc
not_vtoc false false c free = refl

-- what nothing owns isn't the VTOC's
pub spare_outside : (volume : Volume) (runs : List Run) → AreSpare volume runs → (k t : ℕ) → slice_get (owned_tracks runs) k ≡ Some t → is_in t volume.vtoc ≡ false
spare_outside volume runs spare k t there = not_vtoc (t == 0) (is_in t volume.vtoc) (list_any (λ (x : DataSet). covers x.extents t) volume.sets) (spare.free k t there)

-- nothing owns what is planned
pub planned_spare : (image : List ℕ) (dsn : Dsn) (attr : Attr) (q : Request) (dir : ℕ) (runs : List Run) → HasPlan image dsn attr q dir runs → (volume : Volume) → volume_of image ≡ Ok volume → AreSpare volume runs
planned_spare image dsn attr q dir runs plan volume stands =
    let both : Ok plan.volume ≡ Ok volume = sym plan.stands ∙ stands in
    let same : plan.volume ≡ volume = cc in
    subst (λ (x : Volume). AreSpare x runs) same (chosen_spare plan.volume q.unit q.contig q.primary runs plan.has.chosen)

-- nor what of it is written for the directory
spare_directory : (volume : Volume) (dir : ℕ) (runs : List Run) → AreSpare volume runs → AreSpare volume (directory_runs dir runs)
unfolding owned_tracks
spare_directory volume dir runs spare = by (dir == 0)
  where
    by : (b : Bool) → AreSpare volume (cond b [] runs)
    by true = record { free = λ k t there. absurd (cc there) }
    by false = spare

-- its tracks take the directory
pub room_there : (device : DiskType) (name : List ℕ) (dir : ℕ) (runs : List Run) → is_catalog name ≡ false → lacks_room device name dir (places.tracks_in runs) ≡ false → 1 ≤ dir → (directory_end device dir).tt < length (owned_tracks runs)
room_there device name dir runs other roomy some = elim (leb_tells (places.tracks_in runs) (directory_end device dir).tt) [
  | inl w ↦
      let never : true ≡ false = sym w.0 ∙ sym judged ∙ roomy in
      absurd (cc never)
  | inr w ↦ omega (arith, w.1, length-owned runs)
]
  where
    not_none : (dir == 0) ≡ false
    not_none = elim (eqb_tells dir 0) [ inl w ↦ absurd (omega (arith, some, w.1)) | inr w ↦ w.0 ]

    judged : lacks_room device name dir (places.tracks_in runs) ≡ nat_le (places.tracks_in runs) (directory_end device dir).tt
    judged =
        ap (λ (b : Bool). cond b (places.tracks_in runs == 0) (not (dir == 0) && nat_le (places.tracks_in runs) (directory_end device dir).tt)) other
        ∙ ap (λ (b : Bool). not b && nat_le (places.tracks_in runs) (directory_end device dir).tt) not_none

-- ---- what writing it leaves

written_runs : (dir : ℕ) (runs : List Run) → 1 ≤ dir → runs ≡ directory_runs dir runs
written_runs dir runs some = elim (eqb_tells dir 0) [
  | inl w ↦ absurd (omega (arith, some, w.1))
  | inr w ↦ sym (ap (λ (b : Bool). cond b [] runs) w.0)
]

-- it is written where there is one
pub puts_formatted : {T E : Type 0} (name : List ℕ) (runs : List Run) (dir : ℕ) (v : Vol) (old new : Meaning (List File)) (result : Result T E) → 1 ≤ dir → FormatsSet name runs dir v old new result → PutsDirectory name runs dir v old new result
puts_formatted name runs dir v old new (Ok x) some set = record {
  volume = set.volume;
  before = set.before;
  spared = subst (λ (rs : List Run). AreSpared name set.volume rs old.state new.state) (written_runs dir runs some) set.spared;
  tracks = λ more. set.tracks;
  index = set.index;
  durable = set.durable;
  printed = set.printed;
  moments = subst (λ (rs : List Run). Elapses old new (λ files p. AreSpared name set.volume rs old.state files × (p ≡ old.printed))) (written_runs dir runs some) set.moments;
}
puts_formatted name runs dir v old new (Err e) some set = record {
  volume = set.volume;
  before = set.before;
  spared = tt;
  tracks = tt;
  index = tt;
  durable = tt;
  printed = set.printed;
  moments = subst (λ (rs : List Run). Elapses old new (λ files p. AreSpared name set.volume rs old.state files × (p ≡ old.printed))) (written_runs dir runs some) set.moments;
}

-- or nothing is
pub puts_none : {T E : Type 0} (name : List ℕ) (runs : List Run) (dir : ℕ) (v : Vol) (m : Meaning (List File)) (x : T) → dir ≡ 0 → IsMounted (image_named m.state name) v → IsMarked (slots_by (image_named m.state name) v) → IsDurable m → PutsDirectory {T = T} {E = E} name runs dir v m m (Ok x)
unfolding volume_with
puts_none name runs dir v m x none mounted marked durable = record {
  volume = volume_by (image_named m.state name) v.geometry v.vtoc;
  before = mounted.volume;
  spared = record {
    stands = mounted.volume;
    marked = marked;
    differ = record { image = record { size = refl; header = refl; others = λ track out. refl }; others = λ other apart. refl };
  };
  tracks = λ some. absurd (omega (arith, none, some));
  index = mounted;
  durable = durable;
  printed = refl;
  moments = elapses_none m _;
}

module _ {T E : Type 0} {x : T} (name : List ℕ) (runs : List Run) (dir : ℕ) (v w : Vol) (m n : Meaning (List File)) (mounted : IsMounted (image_named m.state name) v) (puts : PutsDirectory {T = T} {E = E} name runs dir w m n (Ok x)) where
  -- the slots of the VTOC stay
  pub puts_slots : ((volume : Volume) → volume_of (image_named m.state name) ≡ Ok volume → AreSpare volume runs) → slots_by (image_named n.state name) v ≡ slots_by (image_named m.state name) v
  puts_slots spare =
      let before : List ℕ = image_named m.state name in
      let after : List ℕ = image_named n.state name in
      let geometry = geometry_is before v puts.volume mounted puts.before in
      slots_kept before after v (directory_runs dir runs) mounted
      (subst (λ (g : Geometry). DifferOn g (directory_runs dir runs) before after) geometry puts.spared.differ.image)
      (spare_directory _ dir runs (spare _ mounted.volume))
