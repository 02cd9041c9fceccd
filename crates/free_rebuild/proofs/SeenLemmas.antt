-- What a repair leaves of files, write by write: they stand for the volume of its entry.
use Rattle.std.proofs.Common.{◌≡◌, ◌≢◌, ◌+◌, ◌≤◌, ℕ, List, [], Option, Some, Ok, refl, sym, ap, subst, ◌∙◌, ◌⊎◌, inl, inr}
use Rattle.std.specs.Prelude.{unwrap_or}
use Rattle.ckd_image.specs.declared.header.Geometry.{Geometry}
use Rattle.stop_model.specs.Files.{File, file_of}
use Rattle.vol_model.specs.declared.contents.Run.{Run}
use Rattle.vol_model.specs.declared.contents.Volume.{Volume}
use Rattle.pack_spec.specs.Alike.{DifferInVtoc, StandAlike}
use Rattle.pack_spec.specs.Label.{track_bytes}
use Rattle.pack_spec.specs.Settled.{AreGuarded, IsMarked, slots_for}
use Rattle.pack_spec.specs.declared.slot.VtocSlot.{VtocSlot}
use Rattle.pack_spec.specs.Slots.{slots_of_vtoc}
use Rattle.pack_spec.specs.Volume.{volume_of}
use Rattle.vtoc_index.specs.declared.vol.Vol.{Vol}
use Rattle.vtoc_index.specs.Index.{IsIndexOf, IsMounted}
use Rattle.free_rebuild.specs.Repairs.{IsSafe, image_named}
use Rattle.free_rebuild.specs.Stops.{AreAlikeTo}
use Rattle.free_rebuild.specs.Updates.{IsGuardedFor, IsMarkedFor}
use Rattle.free_rebuild.proofs.SettledRepair.{stands_parts}
use Rattle.free_rebuild.proofs.StandLemmas.{StandsFor, alike_mounted, slots_by, volume_on}

-- Files whose image stands for a volume by an index, and which differ from those of an entry in the VTOC of that image alone.
pub record Seen (name : List ℕ) (v : Vol) (volume : Volume) (start files : List File) (w : Vol) : Type 0 where
  pub there : file_of files name ≡ Some (image_named files name)
  pub others : w ≡ record v { slots = w.slots; buf = w.buf }
  pub stands : StandsFor volume (image_named files name) w
  pub tracks : DifferInVtoc v.geometry v.vtoc (image_named start name) (image_named files name)
  pub rest : (other : List ℕ) → other ≢ name → file_of files other ≡ file_of start other

pub seen_first : (name : List ℕ) (v : Vol) (start : List File) → file_of start name ≡ Some (image_named start name) → IsMounted (image_named start name) v → Seen name v (volume_on (image_named start name) v) start start v
seen_first name v start there mounted = record {
  there = there;
  others = refl;
  stands = record { mounted = mounted; same = refl };
  tracks = record { size = refl; header = refl; tracks = λ track apart. refl };
  rest = λ other apart. refl;
}

differ_then : (g : Geometry) (vtoc : Run) (a b c : List ℕ) → DifferInVtoc g vtoc a b → DifferInVtoc g vtoc b c → DifferInVtoc g vtoc a c
differ_then g vtoc a b c one two = record {
  size = two.size ∙ one.size;
  header = two.header ∙ one.header;
  tracks = λ track apart. two.tracks track apart ∙ one.tracks track apart;
}

-- files whose image is alike to such a one, and else are the same
pub seen_alike : (name : List ℕ) (v : Vol) (volume : Volume) (start files next : List File) (w w' : Vol) (image : List ℕ) → v.vtoc.start + v.vtoc.len ≤ 65536 → Seen name v volume start files w → file_of next name ≡ Some image → StandAlike w.geometry w.vtoc (image_named files name) image → IsIndexOf image w' → w' ≡ record w { slots = w'.slots; buf = w'.buf }
    → ((other : List ℕ) → other ≢ name → file_of next other ≡ file_of files other) → Seen name v volume start next w'
seen_alike name v volume start files next w w' image low seen there alike index others rest =
    let is : image_named next name ≡ image = ap (λ (o : Option (List ℕ)). unwrap_or o []) there in
    let geometry : w.geometry ≡ v.geometry = ap (λ (x : Vol). x.geometry) seen.others in
    let vtoc : w.vtoc ≡ v.vtoc = ap (λ (x : Vol). x.vtoc) seen.others in
    let below : w.vtoc.start + w.vtoc.len ≤ 65536 = subst (λ (r : Run). r.start + r.len ≤ 65536) (sym vtoc) low in
    let stands = alike_mounted volume (image_named files name) image w seen.stands below alike w' index others in
    let one : DifferInVtoc w.geometry v.vtoc (image_named files name) image = subst (λ (r : Run). DifferInVtoc w.geometry r (image_named files name) image) vtoc alike.others in
    let two : DifferInVtoc v.geometry v.vtoc (image_named files name) image = subst (λ (g : Geometry). DifferInVtoc g v.vtoc (image_named files name) image) geometry one in
    record {
      there = there ∙ ap Some (sym is);
      others = others ∙ ap (λ (x : Vol). record x { slots = w'.slots; buf = w'.buf }) seen.others;
      stands = subst (λ (i : List ℕ). StandsFor volume i w') (sym is) stands;
      tracks = subst (DifferInVtoc v.geometry v.vtoc (image_named start name)) (sym is) (differ_then v.geometry v.vtoc (image_named start name) (image_named files name) image seen.tracks two);
      rest = λ other apart. rest other apart ∙ seen.rest other apart;
    }

-- what is alike by an index of its own
pub alike_seen : (name : List ℕ) (v : Vol) (volume : Volume) (start files next : List File) (w : Vol) → v.vtoc.start + v.vtoc.len ≤ 65536 → Seen name v volume start files w → (all : AreAlikeTo name w (image_named files name) files next) → Seen name v volume start next all.holds.index
alike_seen name v volume start files next w low seen all =
    seen_alike name v volume start files next w all.holds.index all.bytes low seen all.there all.alike all.holds.is all.holds.others all.others

-- What such files show by the volume: it stands there, with these slots, and the tracks outside its VTOC are as before.
record Shows (name : List ℕ) (volume : Volume) (start files : List File) (w : Vol) : Type 0 where
  pub stands : volume_of (image_named files name) ≡ Ok volume
  pub slots : slots_by (image_named files name) w ≡ slots_for (image_named files name) volume
  pub tracks : DifferInVtoc volume.geometry volume.vtoc (image_named start name) (image_named files name)

shows : (name : List ℕ) (v : Vol) (volume : Volume) (start files : List File) (w : Vol) → Seen name v volume start files w → Shows name volume start files w
shows name v volume start files w seen =
    let image : List ℕ = image_named files name in
    let parts = stands_parts volume image w seen.stands in
    let geometry : v.geometry ≡ volume.geometry = sym (ap (λ (x : Vol). x.geometry) seen.others) ∙ parts.0 in
    let vtoc : v.vtoc ≡ volume.vtoc = sym (ap (λ (x : Vol). x.vtoc) seen.others) ∙ parts.1 in
    let one : DifferInVtoc volume.geometry v.vtoc (image_named start name) image = subst (λ (g : Geometry). DifferInVtoc g v.vtoc (image_named start name) image) geometry seen.tracks in
    record {
      stands = seen.stands.mounted.volume ∙ ap (λ (x : Volume). Ok x) seen.stands.same;
      slots = ap (λ (g : Geometry). slots_of_vtoc image g w.vtoc) parts.0 ∙ ap (slots_of_vtoc image volume.geometry) parts.1;
      tracks = subst (λ (r : Run). DifferInVtoc volume.geometry r (image_named start name) image) vtoc one;
    }

-- such files tell that an update is under way, where the slots do
pub marked_of : (name : List ℕ) (v : Vol) (volume : Volume) (start files : List File) (w : Vol) → Seen name v volume start files w → IsMarked (slots_by (image_named files name) w) → IsMarkedFor name volume start files
marked_of name v volume start files w seen marked =
    let shown = shows name v volume start files w seen in
    record {
      stands = shown.stands;
      marked = subst (λ (ss : List VtocSlot). IsMarked ss) shown.slots marked;
      tracks = shown.tracks;
      others = seen.rest;
    }

-- they are guarded, where the slots are
pub guarded_of : (name : List ℕ) (v : Vol) (volume : Volume) (start files : List File) (w : Vol) → Seen name v volume start files w → AreGuarded (slots_by (image_named files name) w) volume → IsGuardedFor name volume start files
guarded_of name v volume start files w seen guarded =
    let shown = shows name v volume start files w seen in
    record {
      stands = shown.stands;
      guarded = (volume, shown.stands, subst (λ (ss : List VtocSlot). AreGuarded ss volume) shown.slots guarded);
      tracks = shown.tracks;
      others = seen.rest;
    }

-- guarded files are safe
pub safe_guarded : (name : List ℕ) (volume : Volume) (start files : List File) → IsGuardedFor name volume start files → IsSafe name volume start files
safe_guarded name volume start files guarded = record {
  stands = guarded.stands;
  guarded = inl guarded.guarded;
  tracks = guarded.tracks;
  others = guarded.others;
}

-- such files are safe, where the image is guarded or has the VTOC of the entry
pub safe_of : (name : List ℕ) (v : Vol) (volume : Volume) (start files : List File) (w : Vol) → Seen name v volume start files w → AreGuarded (slots_by (image_named files name) w) volume ⊎ (files ≡ start) → IsSafe name volume start files
safe_of name v volume start files w seen (inl guarded) = safe_guarded name volume start files (guarded_of name v volume start files w seen guarded)
safe_of name v volume start files w seen (inr same) =
    let shown = shows name v volume start files w seen in
    record {
      stands = shown.stands;
      guarded = inr (λ track inside. ap (λ (fs : List File). track_bytes (image_named fs name) volume.geometry track) same);
      tracks = shown.tracks;
      others = seen.rest;
    }
