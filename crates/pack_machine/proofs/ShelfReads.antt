-- What the shelf of a mounted image has, by the index of the image.
use Rattle.std.proofs.Common.{◌≡◌, ◌≢◌, ◌+◌, not, ℕ, Bool, true, false, cond, inl, inr, List, [], length, get_or, map, Option, Some, None, refl, sym, ap, subst, ◌∙◌, arith}
use Rattle.std.specs.Prelude.{◌⊎◌, ◌||◌, ◌&&◌, ◌==◌, is_none, is_some, unwrap_or, Result, Ok, Err, option_and_then, position, slice_get}
use Rattle.std.specs.List.{find, flat_map, list_any, range_with_len}
use Rattle.std.specs.Option.{option_map, option_map_or}
use Rattle.std.proofs.lemmas.List.{get_or_default}
use Rattle.std.proofs.lemmas.List.Quantifiers.{position-Some}
use Rattle.std.proofs.lemmas.Option.{get_or_from_slice_get}
use Rattle.std.proofs.lemmas.Slice.Eq.{bytes_eq-Decides}
use Rattle.ckd_image.specs.declared.header.Geometry.{Geometry}
use Rattle.dscb_codec.specs.declared.Dscb.{Dscb}
use Rattle.dscb_codec.specs.declared.Dscb.TheVariants as formats
use Rattle.dscb_codec.specs.declared.F1.{F1}
use Rattle.pack_spec.specs.declared.slot.VtocSlot.{VtocSlot}
use Rattle.pack_spec.specs.Blocks.{blocks_at, has_no_block, last_of, owned_tracks, seq_body, seq_of, seq_unless}
use Rattle.pack_spec.specs.Bodies.{body_of, catalog_of}
use Rattle.pack_spec.specs.Directories.{part_body}
use Rattle.pack_spec.proofs.PartBodies.{part_or_unread}
use Rattle.seq_access.specs.Bodies.{data_in}
use Rattle.vtoc_sets.specs.declared.sets.BodyKind.TheVariants as set_kinds
use Rattle.pack_spec.specs.Rules.{has_extents, is_named, set_in}
use Rattle.slot_laws.proofs.ChangedLists.{any_first}
use Rattle.dadsm_ops.proofs.FoundSets.{set_found}
use Rattle.slot_laws.proofs.FoundSlots.{content_at}
use Rattle.pack_spec.specs.Slots.{slots_of_vtoc}
use Rattle.pack_spec.specs.Volume.{attr_of, data_set_of, data_sets_in, volume_with}
use Rattle.pack_spec.proofs.Lawful.{good_sets}
use Rattle.vol_model.specs.declared.answers.Kind.TheVariants as kinds
use Rattle.vol_model.specs.declared.catalogs.CatBody.TheVariants as catalogs
use Rattle.vol_model.specs.declared.contents.Attr.{Attr}
use Rattle.vol_model.specs.declared.contents.Block.{Block}
use Rattle.vol_model.specs.declared.contents.Body.{Body}
use Rattle.vol_model.specs.declared.contents.Body.TheVariants.{Catalog, Other, Part, Seq, Unreadable}
use Rattle.vol_model.specs.declared.contents.DataSet.{DataSet}
use Rattle.vol_model.specs.declared.contents.Entry.{Entry}
use Rattle.vol_model.specs.declared.contents.Place.{Place}
use Rattle.vol_model.specs.declared.contents.Shelf.{Shelf}
use Rattle.vol_model.specs.declared.contents.Volume.{Volume}
use Rattle.vol_model.specs.Order.{in_order}
use Rattle.ebcdic_names.specs.declared.names.Dsn.{Dsn}
use Rattle.vol_model.specs.declared.answers.SetInfo.{SetInfo}
use Rattle.vol_model.specs.declared.answers.VolumeInfo.{VolumeInfo}
use Rattle.vol_model.specs.declared.catalogs.CatPath.{CatPath}
use Rattle.vol_model.specs.declared.contents.Run.{Run}
use Rattle.vol_model.specs.Places.{tracks_in}
use Rattle.vol_model.specs.Trees.{child_at, nodes_below}
use Rattle.vol_model.specs.Reading.{Picks, catalog_on, directory_size, entries_in, extent_on, kind_of, name_on, nodes_in, readable, set_info, volume_info}
use Rattle.vol_model.specs.Shelf.{catalog_name, fits_mode, has_name, is_catalog, is_partitioned, is_sequential, organization, set_of, unreadable, write_refusal, write_refusal_for}
use Rattle.vol_model.specs.declared.answers.Mode.{Mode}
use Rattle.vol_model.specs.declared.refusals.Refusal.TheVariants as refusals
use Rattle.vol_model.specs.Writing.{begin_refusal, body_on, set_on, target_refusal}
use Rattle.vol_model.proofs.Steps.{any_in_order}
use Rattle.vtoc_index.specs.Index.{first_named}
use Rattle.vtoc_index.specs.declared.vol.Vol.{Vol}
use Rattle.pack_machine.specs.Reads.{HasVolume, IsSetOn}
use Rattle.vtoc_sets.specs.Sets.{extents_in, kind_by, volume_in}
use Rattle.pack_machine.specs.Known.{ListsUnread}
use Rattle.pack_machine.specs.Unread.{broken_at, broken_by, broken_in, is_walked, track_in}
use Rattle.pack_machine.specs.declared.unread.Unread.{Unread}
use Rattle.pack_machine.proofs.FoundByKey.{find_passes}
use Rattle.mount_repair.proofs.OrderedSets.{find_in_order}
use Rattle.mount_repair.proofs.SetsByName.{found, found_not, named_alike, sets_by}

-- the body of a format 1 of an image
abbrev pub body_here : List ℕ → Vol → F1 → Body
body_here image v f = body_of v.geometry (data_in image v) f.name (attr_of f) (extents_in image v f) f.lstar

-- the kind of a body that can't be read, and of one of a sequential set that can
pub kind_broken : (b : Body) (t : ℕ) → broken_at b ≡ Some t → kind_of b ≡ kinds.Unreadable t
kind_broken (Seq blocks) t is = absurd cc
kind_broken (Part dir end entries blocks) t is = absurd cc
kind_broken Catalog t is = absurd cc
kind_broken Other t is = absurd cc
kind_broken (Unreadable track) t is = let same : track ≡ t = cc in ap (λ (k : ℕ). kinds.Unreadable k) same

-- what is true of each body of a sequential set
seq_cases : (P : Body → Type 0) → ((bs : List Block) → P (Seq bs)) → ((t : ℕ) → P (Unreadable t)) → (g : Geometry) (tracks : List (List ℕ)) (extents : List Run) (lstar : List ℕ) → P (seq_body g tracks extents lstar)
unfolding seq_body
seq_cases P good bad g tracks extents lstar = by (has_no_block lstar)
  where
    each : List (Option (List Block))
    each = map (blocks_at g tracks (owned_tracks extents) (last_of lstar)) (range_with_len 0 ((last_of lstar).tt + 1))

    by_first : (o : Option ℕ) (bs : List Block) → P (seq_unless o bs)
    by_first None bs = good bs
    by_first (Some k) bs = bad k

    by : (b : Bool) → P (cond b (Seq []) (seq_of each))
    by true = good []
    by false = by_first (position (λ o. is_none o) each) (flat_map (λ o. unwrap_or o []) each)

pub kind_whole : (g : Geometry) (tracks : List (List ℕ)) (extents : List Run) (lstar : List ℕ) → broken_at (seq_body g tracks extents lstar) ≡ None → kind_of (seq_body g tracks extents lstar) ≡ kinds.Seq
kind_whole = seq_cases (λ b. broken_at b ≡ None → kind_of b ≡ kinds.Seq) (λ bs is. refl) (λ t is. absurd cc)

pub kind_part : (g : Geometry) (tracks : List (List ℕ)) (extents : List Run) (lstar : List ℕ) → broken_at (part_body g tracks extents lstar) ≡ None → kind_of (part_body g tracks extents lstar) ≡ kinds.Part
kind_part g tracks extents lstar = part_or_unread g tracks extents lstar (λ b. broken_at b ≡ None → kind_of b ≡ kinds.Part) (λ dir end entries blocks is. refl) (λ t is. absurd cc)

-- which sets are sequential or partitioned
module _ (name : List ℕ) (attr : Attr) where
  pub walked_by : (kind_by name attr ≡ set_kinds.Seq) ⊎ (kind_by name attr ≡ set_kinds.Part) → is_walked name attr ≡ true
  walked_by = by (is_catalog name) (organization attr == 32) (organization attr == 1)
    where
      by : (a s p : Bool) → (cond a set_kinds.Catalog (cond (not a && s) set_kinds.Seq (cond (not a && p) set_kinds.Part set_kinds.Other)) ≡ set_kinds.Seq) ⊎ (cond a set_kinds.Catalog (cond (not a && s) set_kinds.Seq (cond (not a && p) set_kinds.Part set_kinds.Other)) ≡ set_kinds.Part)
          → ((not a && s) || (not a && p)) ≡ true
      by true s p (inl is) = absurd cc
      by true s p (inr is) = absurd cc
      by false true p is = refl
      by false false true is = refl
      by false false false (inl is) = absurd cc
      by false false false (inr is) = absurd cc

  pub sequential_by : kind_by name attr ≡ set_kinds.Seq → is_sequential name attr ≡ true
  sequential_by = by (is_catalog name) (organization attr == 32) (organization attr == 1)
    where
      by : (a s p : Bool) → cond a set_kinds.Catalog (cond (not a && s) set_kinds.Seq (cond (not a && p) set_kinds.Part set_kinds.Other)) ≡ set_kinds.Seq → (not a && s) ≡ true
      by true s p is = absurd cc
      by false true p is = refl
      by false false true is = absurd cc
      by false false false is = absurd cc

  pub partitioned_by : kind_by name attr ≡ set_kinds.Part → is_partitioned name attr ≡ true
  partitioned_by = by (is_catalog name) (organization attr == 32) (organization attr == 1)
    where
      by : (a s p : Bool) → cond a set_kinds.Catalog (cond (not a && s) set_kinds.Seq (cond (not a && p) set_kinds.Part set_kinds.Other)) ≡ set_kinds.Part → (not a && p) ≡ true
      by true s p is = absurd cc
      by false true p is = absurd cc
      by false false true is = refl
      by false false false is = absurd cc

  pub not_walked : (kind_by name attr ≡ set_kinds.Seq → ⊥) → (kind_by name attr ≡ set_kinds.Part → ⊥) → is_walked name attr ≡ false
  not_walked = by (is_catalog name) (organization attr == 32) (organization attr == 1)
    where
      by : (a s p : Bool) → (cond a set_kinds.Catalog (cond (not a && s) set_kinds.Seq (cond (not a && p) set_kinds.Part set_kinds.Other)) ≡ set_kinds.Seq → ⊥)
          → (cond a set_kinds.Catalog (cond (not a && s) set_kinds.Seq (cond (not a && p) set_kinds.Part set_kinds.Other)) ≡ set_kinds.Part → ⊥) → ((not a && s) || (not a && p)) ≡ false
      by true s p not_seq not_part = refl
      by false true p not_seq not_part = absurd (not_seq refl)
      by false false true not_seq not_part = absurd (not_part refl)
      by false false false not_seq not_part = refl

-- the kind of a set that is walked, by the list of those that can't be read
module _ (name : List ℕ) (attr : Attr) (body : Body) (unread : List Unread) (walked : (kind_by name attr ≡ set_kinds.Seq) ⊎ (kind_by name attr ≡ set_kinds.Part)) (listed : track_in unread name ≡ broken_by name attr body) where
  listed_at : track_in unread name ≡ broken_at body
  listed_at = listed ∙ ap (λ (b : Bool). cond b (broken_at body) None) (walked_by name attr walked)

  pub kind_listed : (t : ℕ) → Some t ≡ track_in unread name → kinds.Unreadable t ≡ kind_of body
  kind_listed t is = sym (kind_broken body t (sym listed_at ∙ sym is))

  pub kind_unlisted : (g : Geometry) (tracks : List (List ℕ)) (extents : List Run) (lstar : List ℕ) → body ≡ seq_body g tracks extents lstar → None ≡ track_in unread name → kinds.Seq ≡ kind_of body
  kind_unlisted g tracks extents lstar whole is = sym (ap kind_of whole ∙ kind_whole g tracks extents lstar (ap broken_at (sym whole) ∙ sym listed_at ∙ sym is))

  pub part_unlisted : (g : Geometry) (tracks : List (List ℕ)) (extents : List Run) (lstar : List ℕ) → body ≡ part_body g tracks extents lstar → None ≡ track_in unread name → kinds.Part ≡ kind_of body
  part_unlisted g tracks extents lstar whole is = sym (ap kind_of whole ∙ kind_part g tracks extents lstar (ap broken_at (sym whole) ∙ sym listed_at ∙ sym is))

-- a body that can't be read has no entry, and no block
pub unread_by : (b : Body) (t : ℕ) → kinds.Unreadable t ≡ kind_of b → (entries_in b ≡ Err t) × (readable b ≡ Err t)
unread_by (Seq blocks) t is = absurd cc
unread_by (Part dir end entries blocks) t is = absurd cc
unread_by Catalog t is = absurd cc
unread_by Other t is = absurd cc
unread_by (Unreadable track) t is = let same : track ≡ t = cc in (ap (λ (k : ℕ). Err k) same, ap (λ (k : ℕ). Err k) same)

pub unread_is : (b : Body) (t : ℕ) → kinds.Unreadable t ≡ kind_of b → b ≡ Unreadable t
unread_is (Seq blocks) t is = absurd cc
unread_is (Part dir end entries blocks) t is = absurd cc
unread_is Catalog t is = absurd cc
unread_is Other t is = absurd cc
unread_is (Unreadable track) t is = let same : track ≡ t = cc in ap (λ (k : ℕ). Unreadable k) same

-- what is true of each body of a set
set_cases : (P : Body → Type 0) → ((bs : List Block) → P (Seq bs)) → ((dir : ℕ) (end : Place) (es : List Entry) (bs : List Block) → P (Part dir end es bs)) → ((t : ℕ) → P (Unreadable t)) → P Other
    → (g : Geometry) (tracks : List (List ℕ)) (name : List ℕ) (attr : Attr) (extents : List Run) (lstar : List ℕ) → P (body_of g tracks name attr extents lstar)
unfolding body_of
set_cases P good part bad other g tracks name attr extents lstar = by (is_sequential name attr) (is_partitioned name attr) (is_catalog name)
  where
    by : (a b c : Bool) → P (cond a (seq_body g tracks extents lstar) (cond b (part_body g tracks extents lstar) (cond c (Unreadable 0) Other)))
    by true b c = seq_cases P good bad g tracks extents lstar
    by false true c = part_or_unread g tracks extents lstar P part bad
    by false false true = bad 0
    by false false false = other

-- the body of a sequential set
pub sequential_is : (g : Geometry) (tracks : List (List ℕ)) (name : List ℕ) (attr : Attr) (extents : List Run) (lstar : List ℕ) → is_sequential name attr ≡ true → body_of g tracks name attr extents lstar ≡ seq_body g tracks extents lstar
unfolding body_of
sequential_is g tracks name attr extents lstar is =
    ap (λ (b : Bool). cond b (seq_body g tracks extents lstar) (cond (is_partitioned name attr) (part_body g tracks extents lstar) (cond (is_catalog name) (Unreadable 0) Other))) is

-- one of another kind has no block
pub no_block : (g : Geometry) (tracks : List (List ℕ)) (name : List ℕ) (attr : Attr) (extents : List Run) (lstar : List ℕ) → kind_of (body_of g tracks name attr extents lstar) ≢ kinds.Seq
    → kind_of (body_of g tracks name attr extents lstar) ≢ kinds.Part → ((t : ℕ) → kind_of (body_of g tracks name attr extents lstar) ≢ kinds.Unreadable t) → readable (body_of g tracks name attr extents lstar) ≡ Ok []
no_block = set_cases (λ b. kind_of b ≢ kinds.Seq → kind_of b ≢ kinds.Part → ((t : ℕ) → kind_of b ≢ kinds.Unreadable t) → readable b ≡ Ok []) (λ bs not_seq not_part not. absurd (not_seq refl)) (λ dir end es bs not_seq not_part not. absurd (not_part refl))
    (λ t not_seq not_part not. absurd (not t refl)) (λ not_seq not_part not. refl)

-- what isn't a partitioned set has no directory, and no entry that can be read
pub record HasNoEntry (b : Body) : Type 0 where
  pub entries : entries_in b ≡ Ok []
  pub size : directory_size b ≡ 0

pub no_entry : (b : Body) → kind_of b ≢ kinds.Part → ((t : ℕ) → kind_of b ≢ kinds.Unreadable t) → HasNoEntry b
no_entry (Seq blocks) not_part not = record { entries = refl; size = refl }
no_entry (Part dir end entries blocks) not_part not = absurd (not_part refl)
no_entry Catalog not_part not = record { entries = refl; size = refl }
no_entry Other not_part not = record { entries = refl; size = refl }
no_entry (Unreadable track) not_part not = absurd (not track refl)

-- a readable sequential body
pub whole_body : (b : Body) → kinds.Seq ≡ kind_of b → (bs : List Block) × (b ≡ Seq bs)
whole_body (Seq blocks) is = (blocks, refl)
whole_body (Part dir end entries blocks) is = absurd cc
whole_body Catalog is = absurd cc
whole_body Other is = absurd cc
whole_body (Unreadable track) is = absurd cc

-- the body of a set with blocks is that of a sequential one
pub body_sequential : (g : Geometry) (tracks : List (List ℕ)) (name : List ℕ) (attr : Attr) (extents : List Run) (lstar : List ℕ) → kinds.Seq ≡ kind_of (body_of g tracks name attr extents lstar)
    → body_of g tracks name attr extents lstar ≡ seq_body g tracks extents lstar
unfolding body_of
body_sequential g tracks name attr extents lstar = by (is_sequential name attr) (is_partitioned name attr) (is_catalog name)
  where
    part : Body
    part = part_body g tracks extents lstar

    by : (a b c : Bool) → kinds.Seq ≡ kind_of (cond a (seq_body g tracks extents lstar) (cond b part (cond c (Unreadable 0) Other))) → cond a (seq_body g tracks extents lstar) (cond b part (cond c (Unreadable 0) Other)) ≡ seq_body g tracks extents lstar
    by true b c is = refl
    by false true c is = absurd (part_or_unread g tracks extents lstar (λ x. kinds.Seq ≡ kind_of x → ⊥) (λ dir end es bs same. absurd cc) (λ t same. absurd cc) is)
    by false false true is = absurd cc
    by false false false is = absurd cc

-- and that of a set with a directory is that of a partitioned one
pub body_partitioned : (g : Geometry) (tracks : List (List ℕ)) (name : List ℕ) (attr : Attr) (extents : List Run) (lstar : List ℕ) → kinds.Part ≡ kind_of (body_of g tracks name attr extents lstar)
    → (body_of g tracks name attr extents lstar ≡ part_body g tracks extents lstar) × (is_partitioned name attr ≡ true)
unfolding body_of
body_partitioned g tracks name attr extents lstar = by (is_sequential name attr) (is_partitioned name attr) (is_catalog name)
  where
    part : Body
    part = part_body g tracks extents lstar

    by : (a b c : Bool) → kinds.Part ≡ kind_of (cond a (seq_body g tracks extents lstar) (cond b part (cond c (Unreadable 0) Other))) → (cond a (seq_body g tracks extents lstar) (cond b part (cond c (Unreadable 0) Other)) ≡ part) × (b ≡ true)
    by true b c is = absurd (seq_cases (λ x. kinds.Part ≡ kind_of x → ⊥) (λ bs same. absurd cc) (λ t same. absurd cc) g tracks extents lstar is)
    by false true c is = (refl, refl)
    by false false true is = absurd cc
    by false false false is = absurd cc

-- a readable partitioned body
pub record IsWholePart (b : Body) : Type 0 where
  pub dir : ℕ
  pub end : Place
  pub entries : List Entry
  pub blocks : List Block
  pub body : b ≡ Part dir end entries blocks

pub whole_part : (b : Body) → kinds.Part ≡ kind_of b → IsWholePart b
whole_part (Seq blocks) is = absurd cc
whole_part (Part dir end entries blocks) is = record { dir = dir; end = end; entries = entries; blocks = blocks; body = refl }
whole_part Catalog is = absurd cc
whole_part Other is = absurd cc
whole_part (Unreadable track) is = absurd cc

module _ (shelf : Shelf) (n : ℕ) (v : Vol) (has : HasVolume shelf n v) where
  abbrev slots : List VtocSlot
  slots = slots_of_vtoc has.image v.geometry v.vtoc

  abbrev tracks : List (List ℕ)
  tracks = data_in has.image v

  -- its data set of a name
  set_here : (name : List ℕ) → set_on shelf n name ≡ find (has_name name) (sets_by v.geometry tracks slots slots)
  unfolding set_on volume_with data_sets_in
  set_here name = ap (option_and_then (set_of name)) has.there ∙ find_in_order name (data_sets_in v.geometry tracks slots)

  pub no_set : (name : List ℕ) → first_named name v.slots.items ≡ None → IsSetOn has.image v (set_on shelf n name) None
  no_set name none =
      set_here name ∙ found_not v.geometry tracks slots name v.slots.items slots has.mounted.index.slots (any_first (λ d. is_named name (Ok d)) v.slots.items ∙ ap is_some none)

  pub is_set : (name : List ℕ) (k : ℕ) (f : F1) → first_named name v.slots.items ≡ Some k → slice_get v.slots.items k ≡ Some (formats.F1 f) → IsSetOn has.image v (set_on shelf n name) (Some f)
  is_set name k f first is =
      let items : List Dscb = v.slots.items in
      let at = position-Some (λ d. is_named name (Ok d)) items k (formats.F1 f) first in
      let this : get_or items k (formats.F1 f) ≡ formats.F1 f = get_or_from_slice_get items k (formats.F1 f) (formats.F1 f) is in (
        record {
          set = record { mounted = has.mounted; extents = good (slice_get slots k) refl (content_at items slots k (formats.F1 f) has.mounted.index.slots is) };
          slot = k;
          dscb = is;
        },
        set_here name ∙ found v.geometry tracks slots name items slots k f has.mounted.index.slots is (ap (λ (x : Dscb). is_named name (Ok x)) (sym this) ∙ at.1)
            (λ j d low. ap (λ (x : Dscb). is_named name (Ok x)) (get_or_default items j d (formats.F1 f) (omega (arith, low, at.0))) ∙ at.2 j low),
      )
    where
      good : (o : Option VtocSlot) → slice_get slots k ≡ o → option_map (λ s. s.content) o ≡ Some (Ok (formats.F1 f)) → has_extents v.geometry slots f ≡ true
      good None there content = cc
      good (Some s) there content =
          let here : s.content ≡ Ok (formats.F1 f) = cc in
          good_sets v.geometry slots has.mounted.lawful k s f there (ap set_in here)

  -- a body, by the data set
  pub body_found : (name : List ℕ) (f : F1) → IsSetOn has.image v (set_on shelf n name) (Some f) → body_here has.image v f ≡ body_on shelf n name
  unfolding body_on data_set_of
  body_found name f set = sym (ap (λ (o : Option DataSet). option_map_or (λ (x : DataSet). x.body) o Other) set.1)

  pub body_none : (name : List ℕ) → IsSetOn has.image v (set_on shelf n name) None → body_on shelf n name ≡ Other
  unfolding body_on
  body_none name set = ap (λ (o : Option DataSet). option_map_or (λ (x : DataSet). x.body) o Other) set

  pub blocks_none : (name : List ℕ) → IsSetOn has.image v (set_on shelf n name) None → readable (body_on shelf n name) ≡ Ok []
  unfolding body_on
  blocks_none name set = ap (λ (o : Option DataSet). readable (option_map_or (λ (x : DataSet). x.body) o Other)) set

  -- the data set that is found has the name
  pub named : (name : List ℕ) (f : F1) → IsSetOn has.image v (set_on shelf n name) (Some f) → f.name ≡ name
  unfolding data_set_of
  named name f set =
      let found = sym (set_here name) ∙ set.1 in
      (bytes_eq-Decides f.name name).0 (find_passes (has_name name) _ _ found)

  -- and the list tells whether it can't be read
  pub known_set : (name : List ℕ) (f : F1) (unread : List Unread) → IsSetOn has.image v (set_on shelf n name) (Some f) → ListsUnread shelf n unread
      → track_in unread f.name ≡ broken_by f.name (attr_of f) (body_here has.image v f)
  unfolding data_set_of
  known_set name f unread set lists = ap (track_in unread) (named name f set) ∙ lists name ∙ ap (option_and_then broken_in) set.1

  -- the catalog
  pub catalog_here : (b : Bool) → b ≡ list_any (λ d. is_named catalog_name (Ok d)) v.slots.items → nodes_in (catalog_on shelf n) ≡ cond b (Err 0) (Ok [])
  unfolding catalog_on volume_with catalog_of data_sets_in
  catalog_here b is =
      let any : list_any (has_name catalog_name) (in_order (sets_by v.geometry tracks slots slots)) ≡ b =
      any_in_order (has_name catalog_name) (sets_by v.geometry tracks slots slots) ∙ named_alike v.geometry tracks slots catalog_name v.slots.items slots has.mounted.index.slots ∙ sym is in
      ap (λ (o : Option Volume). nodes_in (option_and_then (λ (w : Volume). w.catalog) o)) has.there
      ∙ ap (λ (t : Bool). nodes_in (cond t (Some (catalogs.Unreadable 0)) None)) any
      ∙ by_test b
    where
      by_test : (b : Bool) → nodes_in (cond b (Some (catalogs.Unreadable 0)) None) ≡ cond b (Err 0) (Ok [])
      by_test true = refl
      by_test false = refl

  -- the volume, a name, an extent and a data set in short
  pub volume_is : (info : VolumeInfo) → info ≡ volume_info (volume_in has.image v) → Some info ≡ option_map volume_info (slice_get shelf.volumes n)
  volume_is info is = ap (λ (x : VolumeInfo). Some x) is ∙ sym (ap (option_map volume_info) has.there)

  pub name_is : (k : ℕ) (o : Option Dsn) → o ≡ option_map (λ (x : DataSet). x.name) (slice_get (volume_in has.image v).sets k) → o ≡ name_on shelf n k
  unfolding name_on
  name_is k o is =
      let by : Option Volume → Option Dsn = λ w. option_map (λ (x : DataSet). x.name) (option_and_then (λ (volume : Volume). slice_get volume.sets k) w) in
      is ∙ sym (ap by has.there)

  pub extent_found : (k : ℕ) (name : List ℕ) (f : F1) (r : Option Run) → IsSetOn has.image v (set_on shelf n name) (Some f) → r ≡ slice_get (extents_in has.image v f) k → r ≡ extent_on shelf n name k
  unfolding extent_on data_set_of
  extent_found k name f r set is = is ∙ sym (ap (option_and_then (λ (x : DataSet). slice_get x.extents k)) set.1)

  pub extent_none : (k : ℕ) (name : List ℕ) → IsSetOn has.image v (set_on shelf n name) None → None ≡ extent_on shelf n name k
  unfolding extent_on
  extent_none k name set = sym (ap (option_and_then (λ (x : DataSet). slice_get x.extents k)) set)

  pub info_found : (name : List ℕ) (f : F1) (info : SetInfo) → IsSetOn has.image v (set_on shelf n name) (Some f) → info.attr ≡ attr_of f → info.kind ≡ kind_of (body_here has.image v f)
      → info.extents ≡ length (extents_in has.image v f) → info.tracks ≡ tracks_in (extents_in has.image v f) → info.dir ≡ directory_size (body_here has.image v f) → Some info ≡ option_map set_info (set_on shelf n name)
  unfolding set_info data_set_of
  info_found name f info set attr kind extents many dir =
      (λ i. Some (record { attr = attr i; kind = kind i; extents = extents i; tracks = many i; dir = dir i })) ∙ sym (ap (option_map set_info) set.1)

  pub info_none : (name : List ℕ) → IsSetOn has.image v (set_on shelf n name) None → None ≡ option_map set_info (set_on shelf n name)
  info_none name set = sym (ap (option_map set_info) set)

-- a shelf that has no volume of a number
module _ (shelf : Shelf) (n : ℕ) (none : slice_get shelf.volumes n ≡ None) where
  no_set_there : (name : List ℕ) → set_on shelf n name ≡ None
  unfolding set_on
  no_set_there name = ap (option_and_then (set_of name)) none

  pub volume_missing : None ≡ option_map volume_info (slice_get shelf.volumes n)
  volume_missing = sym (ap (option_map volume_info) none)

  pub name_missing : (k : ℕ) → None ≡ name_on shelf n k
  unfolding name_on
  name_missing k = sym (ap (λ (w : Option Volume). option_map (λ (x : DataSet). x.name) (option_and_then (λ (volume : Volume). slice_get volume.sets k) w)) none)

  pub info_missing : (name : List ℕ) → None ≡ option_map set_info (set_on shelf n name)
  info_missing name = sym (ap (option_map set_info) (no_set_there name))

  pub extent_missing : (k : ℕ) (name : List ℕ) → None ≡ extent_on shelf n name k
  unfolding extent_on
  extent_missing k name = sym (ap (option_and_then (λ (x : DataSet). slice_get x.extents k)) (no_set_there name))

  pub body_missing : (name : List ℕ) → body_on shelf n name ≡ Other
  unfolding body_on
  body_missing name = ap (λ (o : Option DataSet). option_map_or (λ (x : DataSet). x.body) o Other) (no_set_there name)

  pub blocks_missing : (name : List ℕ) → readable (body_on shelf n name) ≡ Ok []
  unfolding body_on
  blocks_missing name = ap (λ (o : Option DataSet). readable (option_map_or (λ (x : DataSet). x.body) o Other)) (no_set_there name)

  pub catalog_missing : nodes_in (catalog_on shelf n) ≡ Ok []
  unfolding catalog_on
  catalog_missing = ap (λ (o : Option Volume). nodes_in (option_and_then (λ (w : Volume). w.catalog) o)) none

  pub begin_missing : (dsn : Dsn) (mode : Mode) → Some refusals.NoVolume ≡ begin_refusal shelf (record { v = n; dsn = dsn; mode = mode })
  unfolding begin_refusal
  begin_missing dsn mode = sym (ap (target_refusal (record { v = n; dsn = dsn; mode = mode })) none)

-- a body that can't be read is refused
pub refused_by : (b : Body) (t : ℕ) → kinds.Unreadable t ≡ kind_of b → Some (refusals.Unreadable t) ≡ unreadable b
refused_by (Seq blocks) t is = cc
refused_by (Part dir end entries blocks) t is = cc
refused_by Catalog t is = cc
refused_by Other t is = cc
refused_by (Unreadable track) t is = let same : t ≡ track = cc in ap (λ (n : ℕ). Some (refusals.Unreadable n)) same

pub refused_not : (b : Body) → ((t : ℕ) → kind_of b ≢ kinds.Unreadable t) → None ≡ unreadable b
refused_not (Seq blocks) not = refl
refused_not (Part dir end entries blocks) not = refl
refused_not Catalog not = refl
refused_not Other not = refl
refused_not (Unreadable track) not = absurd (not track refl)

module _ (shelf : Shelf) (n : ℕ) (v : Vol) (has : HasVolume shelf n v) (dsn : Dsn) (mode : Mode) where
  -- why a writer isn't opened on a data set
  begin_by : (o : Option DataSet) → set_on shelf n dsn.bytes ≡ o → begin_refusal shelf (record { v = n; dsn = dsn; mode = mode }) ≡ write_refusal_for mode dsn.bytes o
  unfolding begin_refusal write_refusal set_on
  begin_by o is =
      ap (target_refusal (record { v = n; dsn = dsn; mode = mode })) has.there ∙ ap (write_refusal_for mode dsn.bytes) (sym (ap (option_and_then (set_of dsn.bytes)) has.there) ∙ is)

  pub begin_none : IsSetOn has.image v (set_on shelf n dsn.bytes) None → Some refusals.NoSet ≡ begin_refusal shelf (record { v = n; dsn = dsn; mode = mode })
  begin_none set = sym (begin_by None set)

  module _ (f : F1) (set : IsSetOn has.image v (set_on shelf n dsn.bytes) (Some f)) where
    pub begin_set : begin_refusal shelf (record { v = n; dsn = dsn; mode = mode }) ≡ cond (fits_mode mode f.name (attr_of f)) (unreadable (body_here has.image v f)) (Some refusals.WrongKind)
    unfolding data_set_of
    begin_set = begin_by _ set.1 ∙ ap (λ (name : List ℕ). cond (fits_mode mode name (attr_of f)) (unreadable (body_here has.image v f)) (Some refusals.WrongKind)) (sym (named shelf n v has dsn.bytes f set))

    begin_tested : (b : Bool) → b ≡ fits_mode mode f.name (attr_of f) → begin_refusal shelf (record { v = n; dsn = dsn; mode = mode }) ≡ cond b (unreadable (body_here has.image v f)) (Some refusals.WrongKind)
    begin_tested b is = begin_set ∙ ap (λ (c : Bool). cond c (unreadable (body_here has.image v f)) (Some refusals.WrongKind)) (sym is)

    pub begin_wrong : false ≡ fits_mode mode f.name (attr_of f) → Some refusals.WrongKind ≡ begin_refusal shelf (record { v = n; dsn = dsn; mode = mode })
    begin_wrong is = sym (begin_tested false is)

    pub begin_unread : (t : ℕ) → true ≡ fits_mode mode f.name (attr_of f) → kinds.Unreadable t ≡ kind_of (body_here has.image v f) → Some (refusals.Unreadable t) ≡ begin_refusal shelf (record { v = n; dsn = dsn; mode = mode })
    begin_unread t is kind = refused_by (body_here has.image v f) t kind ∙ sym (begin_tested true is)

    pub begin_well : true ≡ fits_mode mode f.name (attr_of f) → ((t : ℕ) → kind_of (body_here has.image v f) ≢ kinds.Unreadable t) → None ≡ begin_refusal shelf (record { v = n; dsn = dsn; mode = mode })
    begin_well is not = refused_not (body_here has.image v f) not ∙ sym (begin_tested true is)

-- what stands in the slot that is found: a format 1
pub item_is : (name : List ℕ) (items : List Dscb) (slot : ℕ) (x : Dscb) (f : F1) → first_named name items ≡ Some slot → x ≡ get_or items slot x → x ≡ formats.F1 f → slice_get items slot ≡ Some (formats.F1 f)
item_is name items slot x f first read is =
    let of = set_found name items slot first in
    of.set ∙ ap (λ (d : Dscb). Some d) (sym (get_or_from_slice_get items slot (formats.F1 of.f) x of.set) ∙ sym read ∙ is)

pub not_other : (name : List ℕ) (items : List Dscb) (slot : ℕ) (x : Dscb) → first_named name items ≡ Some slot → x ≡ get_or items slot x → ((f : F1) → x ≡ formats.F1 f → ⊥) → ⊥
not_other name items slot x first read other =
    let of = set_found name items slot first in
    other of.f (read ∙ get_or_from_slice_get items slot (formats.F1 of.f) x of.set)

-- nothing is picked of nothing
pub picks_none : {X L : Type 0} (pick : L → Option X) (content : Result L ℕ) (empty : L) → content ≡ Ok empty → pick empty ≡ None → Picks (Ok None) content pick
picks_none pick content empty is none = subst (λ r. Picks (Ok None) r pick) (sym is) (sym none)

pub no_child : (path : CatPath) (k : ℕ) → child_at [] path k ≡ None
unfolding child_at nodes_below
no_child path k = refl
