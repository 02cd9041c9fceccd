-- Why a data set of an image isn't emptied, or gets no extents.
use Rattle.std.proofs.Common.{◌≡◌, ◌≢◌, ◌∙◌, arith, eqb, inl, inr, not, ◌&&◌, ◌||◌, ℕ, suc, Bool, true, false, cond, List, [], ◌∷◌, Option, Some, None, refl, sym, ap, subst}
use Rattle.std.specs.Prelude.{◌==◌, ◌⊎◌, length, Result, Ok, Err, slice_get}
use Rattle.std.proofs.lemmas.Bool.Decides.{eqb_tells, nat_tests}
use Rattle.dadsm_ops.proofs.VacantSets.{vacant_front}
use Rattle.dadsm_ops.specs.Emptying.{MayEmpty}
use Rattle.pack_spec.specs.Blocks.{last_of}
use Rattle.pack_spec.specs.Bodies.{body_of}
use Rattle.pds_directory.specs.Directories.{IsReadablePart, data_in, part_in}
use Rattle.seq_access.proofs.PartReading.{no_members}
use Rattle.vol_model.specs.declared.contents.Block.{Block}
use Rattle.vol_model.specs.declared.contents.Entry.{Entry}
use Rattle.vol_model.specs.declared.contents.Place.{Place}
use Rattle.vol_model.specs.Places.{is_before}
use Rattle.pack_machine.specs.Libraries.{IsVacancyOf}
use Rattle.mount_repair.specs.declared.library.Library.{Library}
use Rattle.dadsm_ops.specs.Extending.{HoldsSet, IsReadable}
use Rattle.dscb_codec.specs.declared.Dscb.{Dscb}
use Rattle.dscb_codec.specs.declared.Dscb.TheVariants as formats
use Rattle.dscb_codec.specs.declared.F1.{F1}
use Rattle.ebcdic_names.specs.declared.names.Dsn.{Dsn}
use Rattle.ckd_image.specs.declared.header.Geometry.{Geometry}
use Rattle.pack_spec.specs.Directories.{part_body}
use Rattle.pack_spec.specs.Volume.{attr_of, data_set_of, volume_of}
use Rattle.pack_spec.proofs.PartBodies.{part_or_unread}
use Rattle.vol_model.specs.declared.answers.Kind.TheVariants as answers
use Rattle.vol_model.specs.declared.answers.StoreErr.{StoreErr}
use Rattle.vol_model.specs.declared.answers.StoreErr.TheVariants as store
use Rattle.vol_model.specs.declared.contents.Run.{Run}
use Rattle.vol_model.specs.Reading.{kind_of}
use Rattle.vol_model.specs.declared.contents.Attr.{Attr}
use Rattle.vol_model.specs.declared.contents.Body.{Body}
use Rattle.vol_model.specs.declared.contents.Body.TheVariants as bodies
use Rattle.vol_model.specs.declared.contents.DataSet.{DataSet}
use Rattle.vol_model.specs.declared.contents.Shelf.{Shelf}
use Rattle.vol_model.specs.declared.contents.Volume.{Volume}
use Rattle.vol_model.specs.declared.refusals.Refusal.{Refusal}
use Rattle.vol_model.specs.declared.refusals.Refusal.TheVariants.{NoSet, Unreadable, WrongKind}
use Rattle.vol_model.specs.Shelf.{blocks_of, emptied, empty_on, empty_set, extend_on, extend_set, if_readable, is_catalog, is_partitioned, is_vacant, may_empty, on_found, organization, refuse, set_of, unreadable, with_set}
use Rattle.vol_model.specs.Writing.{set_on}
use Rattle.vtoc_index.specs.Index.{IsMounted, first_named}
use Rattle.vtoc_index.specs.Names.{name_at}
use Rattle.vtoc_index.specs.declared.vol.Vol.{Vol}
use Rattle.vtoc_sets.specs.Sets.{extents_in, kind_by, volume_in}
use Rattle.vtoc_sets.specs.declared.sets.BodyKind.TheVariants as kinds
use Rattle.pack_machine.specs.Known.{HoldLibraries, ListsBroken}
use Rattle.pack_machine.specs.Reads.{HasVolume, IsSetOn, set_by}
use Rattle.pack_machine.specs.Refusals.{IsReason, IsRefusedBy, empty_refusal, extend_refusal}
use Rattle.pack_machine.specs.Unread.{broken_by, track_in}
use Rattle.pack_machine.specs.declared.unread.Unread.{Unread}
use Rattle.pack_machine.proofs.HeldLibraries.{whole_kind}
use Rattle.pack_machine.proofs.Scratching.{name_found}
use Rattle.pack_machine.proofs.OneVolume.{one_volume}
use Rattle.pack_machine.proofs.ShelfReads.{body_here, body_partitioned, is_set, known_set, named, no_set, refused_not, sequential_by}
use Rattle.std.proofs.lemmas.Option.{same_Some}

-- which sets may be emptied, by the kind of their body
module _ (name : List ℕ) (attr : Attr) (body : Body) where
  pub may_sequential : kinds.Seq ≡ kind_by name attr → true ≡ may_empty name attr body
  may_sequential is = sym (ap (λ (b : Bool). b || ((attr.dsorg == 0 && not (is_catalog name)) || (is_partitioned name attr && is_vacant body))) (sequential_by name attr (sym is)))

  pub may_partitioned : kinds.Part ≡ kind_by name attr → is_vacant body ≡ true → true ≡ may_empty name attr body
  may_partitioned is vacant = by (is_catalog name) (organization attr == 32) (organization attr == 1) (attr.dsorg == 0) (is_vacant body) vacant is
    where
      by : (a s p z v : Bool) → v ≡ true → kinds.Part ≡ cond a kinds.Catalog (cond (not a && s) kinds.Seq (cond (not a && p) kinds.Part kinds.Other)) → true ≡ ((not a && s) || ((z && not a) || ((not a && p) && v)))
      by true s p z v vacant same = absurd cc
      by false true p z v vacant same = absurd cc
      by false false false z v vacant same = absurd cc
      by false false true true v vacant same = refl
      by false false true false v vacant same = sym vacant

  pub may_not : kinds.Catalog ≡ kind_by name attr → false ≡ may_empty name attr body
  may_not is = by (is_catalog name) (organization attr == 32) (organization attr == 1) (attr.dsorg == 0) (is_vacant body) is
    where
      by : (a s p z v : Bool) → kinds.Catalog ≡ cond a kinds.Catalog (cond (not a && s) kinds.Seq (cond (not a && p) kinds.Part kinds.Other)) → false ≡ ((not a && s) || ((z && not a) || ((not a && p) && v)))
      by true s p true v same = refl
      by true s p false v same = refl
      by false true p z v same = absurd cc
      by false false true z v same = absurd cc
      by false false false z v same = absurd cc

  pub may_other : kinds.Other ≡ kind_by name attr → (attr.dsorg == 0) ≡ may_empty name attr body
  may_other is = by (is_catalog name) (organization attr == 32) (organization attr == 1) (attr.dsorg == 0) (is_vacant body) is
    where
      by : (a s p z v : Bool) → kinds.Other ≡ cond a kinds.Catalog (cond (not a && s) kinds.Seq (cond (not a && p) kinds.Part kinds.Other)) → z ≡ ((not a && s) || ((z && not a) || ((not a && p) && v)))
      by true s p z v same = absurd cc
      by false true p z v same = absurd cc
      by false false true z v same = absurd cc
      by false false false true v same = refl
      by false false false false v same = refl

-- a partitioned body that can't be read has nothing
pub vacant_by : (g : Geometry) (tracks : List (List ℕ)) (extents : List Run) (lstar : List ℕ) → kind_of (part_body g tracks extents lstar) ≢ answers.Part → is_vacant (part_body g tracks extents lstar) ≡ true
vacant_by g tracks extents lstar = part_or_unread g tracks extents lstar (λ b. kind_of b ≢ answers.Part → is_vacant b ≡ true) (λ dir end es bs not. absurd (not refl)) (λ t not. refl)

-- ---- a partitioned set that can be read, by its library

-- it has no entry and no block
vacant_is : (g : Geometry) (tracks : List (List ℕ)) (extents : List Run) (lstar : List ℕ) (n : ℕ) (end : Place) (es : List Entry) (bs : List Block) → part_body g tracks extents lstar ≡ bodies.Part n end es bs
    → ((length es == 0) && not (is_before end (last_of lstar))) ≡ is_vacant (bodies.Part n end es bs)
vacant_is g tracks extents lstar n end [] bs is = by (is_before end (last_of lstar)) refl bs refl
  where
    by : (b : Bool) → is_before end (last_of lstar) ≡ b → (xs : List Block) → bs ≡ xs → not b ≡ is_vacant (bodies.Part n end [] xs)
    by true behind [] none = absurd (let front = vacant_front g tracks extents lstar n end (is ∙ ap (bodies.Part n end []) none) in let both : true ≡ false = sym behind ∙ front in cc)
    by true behind (x ∷ xs) none = refl
    by false front [] none = refl
    by false front (x ∷ xs) none = absurd (let empty = no_members g tracks extents lstar n end [] bs is front in let both : x ∷ xs ≡ [] = sym none ∙ empty in cc)
vacant_is g tracks extents lstar n end (e ∷ es) bs is = ap (λ (b : Bool). b && not (is_before end (last_of lstar))) (some_entry (length es))
  where
    some_entry : (k : ℕ) → (suc k == 0) ≡ false
    some_entry k = grind (arith, nat_tests)

-- so it may be emptied
may_part : (name : List ℕ) (attr : Attr) (body : Body) → is_partitioned name attr ≡ true → may_empty name attr body ≡ is_vacant body
may_part name attr body = by (is_catalog name) (eqb_tells (organization attr) 1) (is_vacant body)
  where
    by : (a : Bool) → ((eqb (organization attr) 1 ≡ true) × (organization attr ≡ 1)) ⊎ ((eqb (organization attr) 1 ≡ false) × (organization attr ≢ 1)) → (v : Bool) → (not a && organization attr == 1) ≡ true
        → ((not a && organization attr == 32) || ((attr.dsorg == 0 && not a) || ((not a && organization attr == 1) && v))) ≡ v
    by true org v is = absurd cc
    by false (inr other) v is = absurd (let both : false ≡ true = sym other.0 ∙ is in cc)
    by false (inl one) v is = grind (arith, nat_tests, one.1)

module _ (g : Geometry) (tracks : List (List ℕ)) (name : List ℕ) (attr : Attr) (extents : List Run) (lstar : List ℕ) (vacant : Bool)
    (its : IsVacancyOf (Some vacant) (body_of g tracks name attr extents lstar) lstar) (part : answers.Part ≡ kind_of (body_of g tracks name attr extents lstar)) where
  abbrev whole : Body
  whole = body_of g tracks name attr extents lstar

  vacancy_is : is_vacant whole ≡ vacant
  vacancy_is =
      let l : Library = its.0 in
      ap is_vacant its.1
      ∙ sym (vacant_is g tracks extents lstar (length l.dir.places.items) l.dir.end l.entries.items (blocks_of whole) (sym (body_partitioned g tracks name attr extents lstar part).0 ∙ its.1))
      ∙ sym its.2

  vacancy_told : empty_refusal name attr whole ≡ cond vacant (unreadable whole) (Some WrongKind)
  vacancy_told = ap (λ (b : Bool). cond b (unreadable whole) (Some WrongKind)) (may_part name attr whole (body_partitioned g tracks name attr extents lstar part).1 ∙ vacancy_is)

  pub vacancy_none : vacant ≡ true → empty_refusal name attr whole ≡ None
  vacancy_none is =
      vacancy_told
      ∙ ap (λ (b : Bool). cond b (unreadable whole) (Some WrongKind)) is
      ∙ sym (refused_not whole (λ t bad. let both : answers.Part ≡ answers.Unreadable t = part ∙ bad in absurd cc))

  pub vacancy_some : vacant ≡ false → empty_refusal name attr whole ≡ Some WrongKind
  vacancy_some is = vacancy_told ∙ ap (λ (b : Bool). cond b (unreadable whole) (Some WrongKind)) is

-- why a set isn't emptied, by the test of its kind
pub empty_tested : (name : List ℕ) (attr : Attr) (body : Body) (b : Bool) → b ≡ may_empty name attr body → empty_refusal name attr body ≡ cond b (unreadable body) (Some WrongKind)
empty_tested name attr body b is = ap (λ (t : Bool). cond t (unreadable body) (Some WrongKind)) (sym is)

-- an operation on a set is refused for this reason, or isn't refused
abbrev IsRefusedFor : Option Refusal → Result Volume Refusal → Type 0
IsRefusedFor (Some r) step = step ≡ Err r
IsRefusedFor None step = (after : Volume) × (step ≡ Ok after)

empty_by : (after : Volume) (b : Bool) (body : Body) (o : Option Refusal) → o ≡ cond b (unreadable body) (Some WrongKind) → IsRefusedFor o (refuse (not b) WrongKind (if_readable body (Ok after)))
empty_by after false body o is = subst (λ (r : Option Refusal). IsRefusedFor r (Err WrongKind)) (sym is) refl
empty_by after true (bodies.Seq blocks) o is = subst (λ (r : Option Refusal). IsRefusedFor r (Ok after)) (sym is) (after, refl)
empty_by after true (bodies.Part dir end entries blocks) o is = subst (λ (r : Option Refusal). IsRefusedFor r (Ok after)) (sym is) (after, refl)
empty_by after true bodies.Catalog o is = subst (λ (r : Option Refusal). IsRefusedFor r (Ok after)) (sym is) (after, refl)
empty_by after true bodies.Other o is = subst (λ (r : Option Refusal). IsRefusedFor r (Ok after)) (sym is) (after, refl)
empty_by after true (bodies.Unreadable track) o is = subst (λ (r : Option Refusal). IsRefusedFor r (Err (Unreadable track))) (sym is) refl

-- a set gets no extents for this reason
extend_by : (b : Bool) (body : Body) (rest : Result Volume Refusal) (r : Refusal) → Some r ≡ cond b (Some WrongKind) (unreadable body) → refuse b WrongKind (if_readable body rest) ≡ Err r
extend_by true body rest r is = let same : WrongKind ≡ r = cc in ap (λ (x : Refusal). Err x) same
extend_by false (bodies.Seq blocks) rest r is = absurd cc
extend_by false (bodies.Part dir end entries blocks) rest r is = absurd cc
extend_by false bodies.Catalog rest r is = absurd cc
extend_by false bodies.Other rest r is = absurd cc
extend_by false (bodies.Unreadable track) rest r is = let same : Unreadable track ≡ r = cc in ap (λ (x : Refusal). Err x) same

extend_read : (b : Bool) (body : Body) → None ≡ cond b (Some WrongKind) (unreadable body) → unreadable body ≡ None
extend_read true body is = absurd cc
extend_read false body is = sym is

-- why a set gets no extents, by the test of its name
pub extend_tested : (name : List ℕ) (body : Body) (b : Bool) → b ≡ is_catalog name → extend_refusal name body ≡ cond b (Some WrongKind) (unreadable body)
extend_tested name body b is = ap (λ (t : Bool). cond t (Some WrongKind) (unreadable body)) (sym is)

-- the data set of a name on the volume of an image
module _ (image : List ℕ) (v : Vol) (dsn : Dsn) (mounted : IsMounted image v) where
  abbrev alone : Shelf
  alone = record { volumes = volume_in image v ∷ [] }

  abbrev here : HasVolume alone 0 v
  here = record { image = image; mounted = mounted; there = refl }

  pub empty_none : (attr : Attr) → first_named dsn.bytes v.slots.items ≡ None → empty_on dsn attr (volume_in image v) ≡ Err NoSet
  unfolding empty_on set_on
  empty_none attr none = ap (λ (o : Option DataSet). on_found o (empty_set dsn attr (volume_in image v))) (no_set alone 0 v here dsn.bytes none)

  pub extend_none : first_named dsn.bytes v.slots.items ≡ None → extend_on dsn (volume_in image v) ≡ Err NoSet
  unfolding extend_on set_on
  extend_none none = ap (λ (o : Option DataSet). on_found o (extend_set dsn (volume_in image v))) (no_set alone 0 v here dsn.bytes none)

  module _ (unread : List Unread) (lists : ListsBroken (volume_in image v) unread) (slot : ℕ) (f : F1) (first : first_named dsn.bytes v.slots.items ≡ Some slot) (is : slice_get v.slots.items slot ≡ Some (formats.F1 f)) where
    set_there : IsSetOn image v (set_on alone 0 dsn.bytes) (Some f)
    set_there = is_set alone 0 v here dsn.bytes slot f first is

    set_named : f.name ≡ dsn.bytes
    set_named = named alone 0 v here dsn.bytes f set_there

    -- the list tells whether it can't be read
    pub set_listed : track_in unread f.name ≡ broken_by f.name (attr_of f) (body_here image v f)
    unfolding set_on
    set_listed = known_set alone 0 v here dsn.bytes f unread set_there lists

    -- a partitioned one that can be read
    part_there : kind_of (body_here image v f) ≡ answers.Part → IsReadablePart image v f
    part_there kind =
        let both = body_partitioned v.geometry (data_in image v) f.name (attr_of f) (extents_in image v f) f.lstar (sym kind) in
        record {
          part = record { set = set_there.0.set; slot = slot; dscb = is; partitioned = both.1 };
          readable = whole_kind (part_in image v f) (ap kind_of (sym both.0) ∙ kind);
        }

    pub vacancy_there : (o : Option Bool) (libraries : List Library) → ((i : List ℕ) → IsReadablePart i v f → HoldLibraries i v libraries → IsVacancyOf o (part_in i v f) f.lstar)
        → HoldLibraries image v libraries → kind_of (body_here image v f) ≡ answers.Part → IsVacancyOf o (body_here image v f) f.lstar
    vacancy_there o libraries told held kind =
        subst (λ (b : Body). IsVacancyOf o b f.lstar) (sym (body_partitioned v.geometry (data_in image v) f.name (attr_of f) (extents_in image v f) f.lstar (sym kind)).0) (told image (part_there kind) held)

    pub empty_told : (attr : Attr) (o : Option Refusal) → o ≡ empty_refusal f.name (attr_of f) (body_here image v f) → IsRefusedFor o (empty_on dsn attr (volume_in image v))
    unfolding empty_on set_on data_set_of
    empty_told attr o told =
        let x : DataSet = set_by image v f in
        subst (IsRefusedFor o) (sym (ap (λ (s : Option DataSet). on_found s (empty_set dsn attr (volume_in image v))) set_there.1))
        (empty_by (with_set (volume_in image v) dsn.bytes (emptied attr)) (may_empty dsn.bytes x.attr x.body) x.body o (told ∙ ap (λ (n : List ℕ). empty_refusal n x.attr x.body) set_named))

    -- the same by an error
    pub empty_refused : (attr : Attr) (e : StoreErr) → IsReason (Some e) (empty_refusal f.name (attr_of f) (body_here image v f)) → IsRefusedBy e (empty_on dsn attr (volume_in image v))
    empty_refused attr (store.Refused r) told = empty_told attr (Some r) (sym told)
    empty_refused attr store.Memory told = tt
    empty_refused attr store.Device told = told

    pub extend_told : (r : Refusal) → Some r ≡ extend_refusal f.name (body_here image v f) → extend_on dsn (volume_in image v) ≡ Err r
    unfolding extend_on set_on data_set_of
    extend_told r told =
        let x : DataSet = set_by image v f in
        ap (λ (s : Option DataSet). on_found s (extend_set dsn (volume_in image v))) set_there.1
        ∙ extend_by (is_catalog dsn.bytes) x.body _ r (told ∙ ap (λ (n : List ℕ). extend_refusal n x.body) set_named)

    pub extend_readable : None ≡ extend_refusal f.name (body_here image v f) → IsReadable image dsn.bytes
    unfolding set_on data_set_of
    extend_readable none w x stands there =
        let this : set_by image v f ≡ x = some_set (sym set_there.1 ∙ ap (set_of dsn.bytes) (one_volume image mounted.volume stands) ∙ there) in
        ap (λ (y : DataSet). unreadable y.body) (sym this) ∙ extend_read (is_catalog f.name) (body_here image v f) none
      where
        some_set : {a b : DataSet} → Some a ≡ Some b → a ≡ b
        some_set same = cc

-- a slot that holds the set may be that of no other name
-- an operation that is done on the volume of an image isn't refused on it
pub accepts : (image : List ℕ) (v : Vol) (operation : Volume → Result Volume Refusal) → IsMounted image v → (after : Volume) × (operation (volume_in image v) ≡ Ok after) → (r : Refusal) (w : Volume) → volume_of image ≡ Ok w → operation w ≡ Err r → ⊥
accepts image v operation mounted done r w stands refused =
    let same : volume_in image v ≡ w = one_volume image mounted.volume stands in
    contradicts (sym done.1 ∙ ap operation same ∙ refused)
  where
    contradicts : {a : Volume} → ◌≡◌ {A = Result Volume Refusal} (Ok a) (Err r) → ⊥
    contradicts is = cc

-- the set in the slot of a name may be emptied, under whatever name it is found there
pub may_be_emptied : (image : List ℕ) (v : Vol) (dsn other : Dsn) (attr : Attr) (slot : ℕ) → IsMounted image v → first_named dsn.bytes v.slots.items ≡ Some slot → name_at v.slots.items slot ≡ Some other.bytes
    → (after : Volume) × (empty_on dsn attr (volume_in image v) ≡ Ok after) → MayEmpty image other attr
may_be_emptied image v dsn other attr slot mounted first named done w stands =
    let one : dsn ≡ other = ap (λ (n : List ℕ). record { bytes = n }) (same_Some _ _ (sym (name_found dsn.bytes v.slots.items slot first) ∙ named)) in
    (done.0, ap (λ (d : Dsn). empty_on d attr w) (sym one) ∙ ap (empty_on dsn attr) (one_volume image stands mounted.volume) ∙ done.1)

-- so is the body of the set in the slot of a name, under whatever name it is found there
pub may_be_extended : (image : List ℕ) (v : Vol) (dsn : Dsn) (name : List ℕ) (slot : ℕ) → first_named dsn.bytes v.slots.items ≡ Some slot → name_at v.slots.items slot ≡ Some name → IsReadable image dsn.bytes → IsReadable image name
may_be_extended image v dsn name slot first named =
    subst (λ (n : List ℕ). IsReadable image n) (same_Some _ _ (sym (name_found dsn.bytes v.slots.items slot first) ∙ named))

-- the slot of a set holds one that isn't the catalog
pub holds_set : (items : List Dscb) (slot : ℕ) (f : F1) → slice_get items slot ≡ Some (formats.F1 f) → is_catalog f.name ≡ false → HoldsSet items slot
holds_set items slot f there other = record { set = f; there = there; other = other }
