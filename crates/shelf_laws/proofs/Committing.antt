-- A shelf stays lawful where contents are written to a set that has room for them.
use Rattle.std.proofs.Common.{◌≡◌, ◌<◌, ℕ, Bool, true, false, List, [], ◌∷◌, ◌++◌, drop, length, map, refl, sym, ◌∙◌, ap, subst, arith}
use Rattle.std.specs.Prelude.{Option, Some, None, Ok, option_and_then, slice_get, if◌then◌else◌}
use Rattle.std.specs.List.{AllByRecursion}
use Rattle.std.specs.Option.{option_map_or}
use Rattle.ckd_image.specs.declared.device.DiskType.TheVariants.{D2311}
use Rattle.ebcdic_names.specs.declared.names.Dsn.{Dsn}
use Rattle.vol_model.specs.declared.answers.Mode.{Mode}
use Rattle.vol_model.specs.declared.answers.Mode.TheVariants as modes
use Rattle.vol_model.specs.declared.contents.Attr.{Attr}
use Rattle.vol_model.specs.declared.contents.Block.{Block}
use Rattle.vol_model.specs.declared.contents.Body.{Body}
use Rattle.vol_model.specs.declared.contents.Body.TheVariants as bodies
use Rattle.vol_model.specs.declared.contents.DataSet.{DataSet}
use Rattle.vol_model.specs.declared.contents.Shelf.{Shelf}
use Rattle.vol_model.specs.declared.contents.Volume.{Volume}
use Rattle.vol_model.specs.declared.refusals.Refusal.{Refusal}
use Rattle.vol_model.specs.declared.requests.Op.TheVariants.{Area, Fill}
use Rattle.vol_model.specs.Lawful.{IsLawful, IsLawfulSet, IsLawfulVolume, is_of_kind}
use Rattle.vol_model.specs.Places.{Content, content, end_of_file, is_open_ended, placed, tracks_in, with_blocks}
use Rattle.vol_model.specs.Shelf.{blocks_of, put_first, put_last, set_of, step, step_on, unless_refused, with_set, with_written, write_on, write_refusal, write_refusal_for, written}
use Rattle.vol_model.specs.Writing.{Target, blocks_for, body_on, device_on, placed_on, set_on, target_body, tracks_on, writes}
use Rattle.shelf_laws.specs.Ready.{AreOnTracks, IsContent}
use Rattle.shelf_laws.proofs.Amounts.{few_tracks}
use Rattle.shelf_laws.proofs.Lists.{all_joined}
use Rattle.shelf_laws.proofs.Placing.{all_placed, placed_contents}
use Rattle.shelf_laws.proofs.SetChanges.{found_all, lawful_contents}
use Rattle.shelf_laws.proofs.Steps.{ok_same, step_lawful_at}

-- what is put first and last may be
pub first_contents : (mode : Mode) (body : Body) → AllByRecursion IsContent (put_first mode body)
first_contents modes.Fill body = tt
first_contents modes.Area body = by_test (is_open_ended (blocks_of body))
  where
    by_test : (b : Bool) → AllByRecursion IsContent (if b then end_of_file ∷ [] else [])
    by_test true = ((omega arith, omega arith), tt)
    by_test false = tt

pub last_contents : (mode : Mode) → AllByRecursion IsContent (put_last mode)
last_contents modes.Fill = tt
last_contents modes.Area = ((omega arith, omega arith), tt)

pub written_contents : (mode : Mode) (body : Body) (cs : List Content) → AllByRecursion IsContent cs → AllByRecursion IsContent (written mode body cs)
written_contents mode body cs is = all_joined IsContent (put_first mode body ++ cs) (put_last mode) (all_joined IsContent (put_first mode body) cs (first_contents mode body) is) (last_contents mode)

-- ---- the volume

kind_stays : (name : List ℕ) (attr : Attr) (body : Body) (bs : List Block) → is_of_kind name attr (with_blocks body bs) ≡ is_of_kind name attr body
kind_stays name attr (bodies.Seq old) bs = refl
kind_stays name attr (bodies.Part dir end es old) bs = refl
kind_stays name attr bodies.Catalog bs = refl
kind_stays name attr bodies.Other bs = refl
kind_stays name attr (bodies.Unreadable track) bs = refl

-- blocks stand on tracks of a set
abbrev AreOwned : DataSet → List Block → Type 0
AreOwned x bs = AllByRecursion (λ (b : Block). b.place.tt < tracks_in x.extents) bs

module _ (mode : Mode) (dsn : Dsn) (cs : List Content) (is : AllByRecursion IsContent cs) (volume : Volume) (h : IsLawfulVolume volume) where
  set_written : (x : DataSet) → set_of dsn.bytes volume ≡ Some x → AreOwned x (placed volume.geometry.device x.body (written mode x.body cs)) → IsLawfulSet volume.geometry (with_written volume.geometry.device mode cs x)
  set_written x at on =
      let set = (found_all (IsLawfulSet volume.geometry) dsn.bytes volume.sets x h.sets at).0 in
      record {
        few = set.few;
        extents = set.extents;
        secondary = set.secondary;
        kind = kind_stays x.name.bytes x.attr x.body (placed volume.geometry.device x.body (written mode x.body cs)) ∙ set.kind;
        body = all_placed volume.geometry.device (tracks_in x.extents) (few_tracks dsn volume x h at) (written mode x.body cs) x.body (written_contents mode x.body cs is) set.body on;
      }

  volume_written : (w : Volume) → ((x : DataSet) → set_of dsn.bytes volume ≡ Some x → AreOwned x (placed volume.geometry.device x.body (written mode x.body cs))) → write_on mode dsn cs volume ≡ Ok w → IsLawfulVolume w
  unfolding write_on write_refusal
  volume_written w on done = by_set (set_of dsn.bytes volume) refl done
    where
      by_refusal : (x : DataSet) → set_of dsn.bytes volume ≡ Some x → (o : Option Refusal) → unless_refused o (with_set volume dsn.bytes (with_written volume.geometry.device mode cs)) ≡ Ok w → IsLawfulVolume w
      by_refusal x at (Some r) done = cc
      by_refusal x at None done =
          let new = with_set volume dsn.bytes (with_written volume.geometry.device mode cs) in
          subst IsLawfulVolume (ok_same new w done) (lawful_contents volume dsn.bytes (with_written volume.geometry.device mode cs) x (λ y. refl) (λ y. refl) h at (set_written x at (on x at)))

      by_set : (o : Option DataSet) → set_of dsn.bytes volume ≡ o → unless_refused (write_refusal_for mode dsn.bytes o) (with_set volume dsn.bytes (with_written volume.geometry.device mode cs)) ≡ Ok w → IsLawfulVolume w
      by_set None at done = cc
      by_set (Some x) at done = by_refusal x at (write_refusal_for mode dsn.bytes (Some x)) done

-- ---- the shelf

-- on the volume and the set of a target, contents stand on tracks of the set
on_set : (s : Shelf) (t : Target) (cs : List Content) (volume : Volume) (x : DataSet) → slice_get s.volumes t.v ≡ Some volume → set_of t.dsn.bytes volume ≡ Some x → AreOnTracks s t (written t.mode (target_body s t) cs)
    → AreOwned x (placed volume.geometry.device x.body (written t.mode x.body cs))
unfolding body_on tracks_on set_on device_on
on_set s t cs volume x at found on =
    let of_volume = subst (λ (o : Option Volume). AllByRecursion (λ (b : Block). b.place.tt < option_map_or (λ (x : DataSet). tracks_in x.extents) (option_and_then (set_of t.dsn.bytes) o) 0)
    (placed (option_map_or (λ (v : Volume). v.geometry.device) o D2311) (option_map_or (λ (x : DataSet). x.body) (option_and_then (set_of t.dsn.bytes) o) bodies.Other)
    (written t.mode (option_map_or (λ (x : DataSet). x.body) (option_and_then (set_of t.dsn.bytes) o) bodies.Other) cs))) at on in
    subst (λ (o : Option DataSet). AllByRecursion (λ (b : Block). b.place.tt < option_map_or (λ (x : DataSet). tracks_in x.extents) o 0)
    (placed volume.geometry.device (option_map_or (λ (x : DataSet). x.body) o bodies.Other) (written t.mode (option_map_or (λ (x : DataSet). x.body) o bodies.Other) cs))) found of_volume

-- the blocks that a writer hands over hold what was put
map_drop : (n : List Content) (bs : List Block) → map content (drop (length n) bs) ≡ drop (length n) (map content bs)
map_drop [] bs = refl
map_drop (c ∷ n) [] = refl
map_drop (c ∷ n) (b ∷ bs) = map_drop n bs

drop_front : (n cs : List Content) → drop (length n) (n ++ cs) ≡ cs
drop_front [] cs = refl
drop_front (c ∷ n) cs = drop_front n cs

handed_over : (s : Shelf) (t : Target) (cs : List Content) → map content (blocks_for s t cs) ≡ cs
handed_over s t cs =
    let first = put_first t.mode (target_body s t) in
    map_drop first (placed_on s t (first ++ cs)) ∙ ap (drop (length first)) (placed_contents (device_on s t.v) (first ++ cs) (target_body s t)) ∙ drop_front first cs

fill_lawful : (s u : Shelf) (v : ℕ) (dsn : Dsn) (bs : List Block) → AllByRecursion IsContent (map content bs) → IsLawful s → AreOnTracks s (record { v = v; dsn = dsn; mode = modes.Fill }) (written modes.Fill (body_on s v dsn.bytes) (map content bs)) → step s (Fill v dsn bs) ≡ Ok u → IsLawful u
unfolding step_on
fill_lawful s u v dsn bs is h on done =
    let t : Target = record { v = v; dsn = dsn; mode = modes.Fill } in
    step_lawful_at s u (Fill v dsn bs) (λ volume w at lawful ok. volume_written modes.Fill dsn (map content bs) is volume lawful w (λ x found. on_set s t (map content bs) volume x at found on) ok) h done

area_lawful : (s u : Shelf) (v : ℕ) (dsn : Dsn) (bs : List Block) → AllByRecursion IsContent (map content bs) → IsLawful s → AreOnTracks s (record { v = v; dsn = dsn; mode = modes.Area }) (written modes.Area (body_on s v dsn.bytes) (map content bs)) → step s (Area v dsn bs) ≡ Ok u → IsLawful u
unfolding step_on
area_lawful s u v dsn bs is h on done =
    let t : Target = record { v = v; dsn = dsn; mode = modes.Area } in
    step_lawful_at s u (Area v dsn bs) (λ volume w at lawful ok. volume_written modes.Area dsn (map content bs) is volume lawful w (λ x found. on_set s t (map content bs) volume x at found on) ok) h done

-- the operation that puts blocks into a set, by its mode
writes_by : (s u : Shelf) (v : ℕ) (dsn : Dsn) (mode : Mode) (bs : List Block) → AllByRecursion IsContent (map content bs) → IsLawful s → AreOnTracks s (record { v = v; dsn = dsn; mode = mode }) (written mode (body_on s v dsn.bytes) (map content bs))
    → step s (writes (record { v = v; dsn = dsn; mode = mode }) bs) ≡ Ok u → IsLawful u
writes_by s u v dsn modes.Fill bs is h on done = fill_lawful s u v dsn bs is h on done
writes_by s u v dsn modes.Area bs is h on done = area_lawful s u v dsn bs is h on done

-- a shelf stays lawful where what was put on another becomes the set's, if it has room there
pub written_lawful : (s o u : Shelf) (t : Target) (cs : List Content) → AllByRecursion IsContent cs → IsLawful s → AreOnTracks s t (written t.mode (target_body s t) cs) → step s (writes t (blocks_for o t cs)) ≡ Ok u → IsLawful u
written_lawful s o u t cs is h on done =
    let bs = blocks_for o t cs in
    let same = sym (handed_over o t cs) in
    writes_by s u t.v t.dsn t.mode bs (subst (AllByRecursion IsContent) same is) h (subst (λ (l : List Content). AreOnTracks s t (written t.mode (target_body s t) l)) same on) done
