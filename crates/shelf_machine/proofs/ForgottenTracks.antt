-- What is known of packs of which one forgets the track that is held of it.
use Rattle.std.proofs.Common.{◌≡◌, ◌≢◌, ⊎_elim, ℕ, List, [], set, Option, Some, refl, sym, ap, ◌∙◌, subst}
use Rattle.std.specs.Prelude.{slice_get, unwrap_or}
use Rattle.std.proofs.lemmas.Bool.{cases_eq}
use Rattle.free_rebuild.specs.Repairs.{image_named}
use Rattle.hall_core.specs.Facts.{Attached, unit_of}
use Rattle.stop_model.specs.Files.{File, file_of}
use Rattle.seq_access.specs.declared.read_buf.Reach.TheVariants.{Nothing}
use Rattle.vol_model.specs.declared.contents.Shelf.{Shelf}
use Rattle.vtoc_index.specs.declared.vol.Vol.{Vol}
use Rattle.vtoc_sets.specs.Sets.{volume_in}
use Rattle.shelf_machine.specs.Known.{AreHeld, ForgetsOn, KeepsLists, KnowsBodies}
use Rattle.pack_machine.specs.Known.{HoldLibraries, HoldsPack, ListsUnread}
use Rattle.shelf_machine.specs.Opening.{AreApart, names_of}
use Rattle.shelf_machine.specs.Machine.{units_of}
use Rattle.pack_machine.specs.Standing.{DirectoriesStay}
use Rattle.pack_machine.specs.declared.pack_cache.PackCache.{PackCache}
use Rattle.pack_machine.specs.declared.unread.Unread.{Unread}
use Rattle.pack_machine.proofs.KnownLemmas.{nothing_held}
use Rattle.pack_machine.proofs.ListPlaces.{get_other, get_set, map_set_same}
use Rattle.shelf_machine.proofs.Operating.{name_there}
use Rattle.std.proofs.lemmas.Option.{same_Some}

-- one of which the track is forgotten
pub forgets : (known : List PackCache) (k : ℕ) (a b : PackCache) → slice_get known k ≡ Some a → b ≡ record a { buf = record (a.buf) { reach = Nothing } } → ForgetsOn k known (set known k b)
forgets known k a b at is = record {
  buffers = map_set_same (λ (x : PackCache). x.buf.records.geometry) known k a b at (ap (λ (x : PackCache). x.buf.records.geometry) is);
  rest = λ n x there. ⊎_elim
      (λ same.
      let this : b ≡ x = same_Some _ _ (sym (get_set known k a b at) ∙ ap (slice_get (set known k b)) (sym same) ∙ there) in
      (a, ap (slice_get known) same ∙ at, ap (λ (y : PackCache). y.unread.items) (sym this ∙ is), ap (λ (y : PackCache). y.libraries.items) (sym this ∙ is)))
      (λ differs. (x, sym (get_other known n k b differs) ∙ there, refl, refl))
      (cases_eq n k);
  others = λ n differs. get_other known n k b differs;
  here = λ x there. ap (λ (y : PackCache). y.buf.reach) (sym (same_Some _ _ (sym (get_set known k a b at) ∙ there)) ∙ is);
}

-- which data sets can't be read is known as before then
pub keeps_lists : (k : ℕ) (old new : List PackCache) → ForgetsOn k old new → KeepsLists old new
keeps_lists k old new forgot = record {
  buffers = forgot.buffers;
  unread = λ n b there. let was = forgot.rest n b there in (was.0, was.1, was.2);
}

pub same_lists : (known : List PackCache) → KeepsLists known known
same_lists known = record { buffers = refl; unread = λ n b there. (b, there, refl) }

pub knows_kept : (old new : List PackCache) → KeepsLists old new → (shelf : Shelf) → KnowsBodies shelf old → KnowsBodies shelf new
knows_kept old new keeps shelf knows n b there =
    let was = keeps.unread n b there in
    subst (λ (us : List Unread). ListsUnread shelf n us) (sym was.2) (knows n was.0 was.1)

pub knows_still : (k : ℕ) (old new : List PackCache) → ForgetsOn k old new → (shelf : Shelf) → KnowsBodies shelf old → KnowsBodies shelf new
knows_still k old new forgot shelf knows = knows_kept old new (keeps_lists k old new forgot) shelf knows

-- what is held of the other packs is held still where the image of this one alone is another
pub held_still : (files after : List File) (attached : List Attached) (vols : List Vol) (known known' : List PackCache) (k : ℕ) (v v' : Vol) → slice_get vols k ≡ Some v → AreApart (names_of attached (units_of vols)) → v'.unit ≡ v.unit
    → ((other : List ℕ) → other ≢ (unit_of attached v.unit).name → file_of after other ≡ file_of files other) → ((n : ℕ) → n ≢ k → slice_get known' n ≡ slice_get known n)
    → ((b : PackCache) → slice_get known' k ≡ Some b → HoldsPack (image_named after (unit_of attached v.unit).name) v' b) → AreHeld files attached vols known → AreHeld after attached (set vols k v') known'
held_still files after attached vols known known' k v v' at apart unit others rest this held n u b there is = ⊎_elim (λ same. here same) (λ differs. stays differs) (cases_eq n k)
  where
    some_vol : {x y : Vol} → Some x ≡ Some y → x ≡ y
    some_vol same = cc

    here : n ≡ k → HoldsPack (image_named after (unit_of attached u.unit).name) u b
    here same =
        let one : v' ≡ u = some_vol (sym (get_set vols k v v' at) ∙ ap (slice_get (set vols k v')) (sym same) ∙ there) in
        subst (λ (w : Vol). HoldsPack (image_named after (unit_of attached w.unit).name) w b) one
        (subst (λ (m : ℕ). HoldsPack (image_named after (unit_of attached m).name) v' b) (sym unit) (this b (ap (slice_get known') (sym same) ∙ is)))

    stays : (n ≡ k → ⊥) → HoldsPack (image_named after (unit_of attached u.unit).name) u b
    stays differs =
        let was : slice_get vols n ≡ Some u = sym (get_other vols n k v' differs) ∙ there in
        let another : (unit_of attached u.unit).name ≢ (unit_of attached v.unit).name =
        λ one. differs (apart n k (unit_of attached v.unit).name (name_there attached vols n u was ∙ ap (λ (t : List ℕ). Some t) one) (name_there attached vols k v at)) in
        let image : image_named after (unit_of attached u.unit).name ≡ image_named files (unit_of attached u.unit).name = ap (λ (o : Option (List ℕ)). unwrap_or o []) (others (unit_of attached u.unit).name another) in
        subst (λ (i : List ℕ). HoldsPack i u b) (sym image) (held n u b was (sym (rest n differs) ∙ is))

-- a pack of which the track is forgotten, and whose directories stay where they are
pub pack_still : (before after : List ℕ) (v v' : Vol) (old new : List PackCache) (k : ℕ) → ForgetsOn k old new → DirectoriesStay before after (volume_in before v) (volume_in after v')
    → ((a : PackCache) → slice_get old k ≡ Some a → HoldsPack before v a) → (b : PackCache) → slice_get new k ≡ Some b → HoldsPack after v' b
pack_still before after v v' old new k forgot stay held b there =
    let was = forgot.rest k b there in
    record {
      track = nothing_held after b (forgot.here b there);
      libraries = subst (HoldLibraries after v') (sym was.3) (λ m l at. stay l.start l.dir ((held was.0 was.1).libraries m l at));
    }

-- what is held of packs is held still where a track is forgotten
pub held_forgot : (files : List File) (attached : List Attached) (vols : List Vol) (k : ℕ) (old new : List PackCache) → ForgetsOn k old new → AreHeld files attached vols old → AreHeld files attached vols new
held_forgot files attached vols k old new forgot held n v b at there = ⊎_elim (λ same. here same) (λ differs. held n v b at (sym (forgot.others n differs) ∙ there)) (cases_eq n k)
  where
    here : n ≡ k → HoldsPack (image_named files (unit_of attached v.unit).name) v b
    here same =
        let image : List ℕ = image_named files (unit_of attached v.unit).name in
        pack_still image image v v old new k forgot (λ start dir stands. stands) (λ a is. held n v a at (ap (slice_get old) same ∙ is)) b (ap (slice_get new) (sym same) ∙ there)
