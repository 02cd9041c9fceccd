-- The data sets of a mounted image by their names, and in the order of these.
use Rattle.std.proofs.Common.{◌≡◌, ◌<◌, ℕ, zero, suc, Bool, true, false, cond, List, [], ◌∷◌, get_or, length, map, Option, Some, None, refl, sym, ap, ◌∙◌, arith}
use Rattle.std.specs.Prelude.{◌||◌, Result, Ok, Err, option_and_then, slice_get, take}
use Rattle.std.specs.Cmp.Lexicographic.{slice_cmp}
use Rattle.std.specs.List.{AllByRecursion, cons_option, filter_map, find, list_any}
use Rattle.std.specs.Option.{option_map}
use Rattle.std.specs.Ordering.{is_lt, nat_cmp}
use Rattle.std.specs.declared.cmp.Ordering.{Ordering}
use Rattle.std.specs.declared.cmp.Ordering.TheVariants.{Less, Equal, Greater}
use Rattle.std.specs.Str.{bytes_eq}
use Rattle.std.proofs.lemmas.Bool.{or_parts}
use Rattle.std.proofs.lemmas.List.{get_or_default}
use Rattle.std.proofs.lemmas.List.Quantifiers.{position-Some}
use Rattle.std.proofs.lemmas.Option.{get_or_from_slice_get}
use Rattle.std.proofs.lemmas.Slice.Eq.{bytes_eq-Decides}
use Rattle.ckd_image.specs.declared.header.Geometry.{Geometry}
use Rattle.ckd_image.proofs.GeometryLemmas.{has_geometry}
use Rattle.dscb_codec.specs.declared.Dscb.{Dscb}
use Rattle.dscb_codec.specs.declared.Dscb.TheVariants as formats
use Rattle.dscb_codec.specs.declared.DscbErr.{DscbErr}
use Rattle.dscb_codec.specs.declared.F1.{F1}
use Rattle.ebcdic_names.specs.declared.names.Dsn.{Dsn}
use Rattle.pack_spec.specs.Rules.{has_extents, is_named, set_in}
use Rattle.pack_spec.specs.Slots.{slots_of_vtoc}
use Rattle.pack_spec.specs.Volume.{data_set_of, data_sets_in, volume_with}
use Rattle.pack_spec.specs.declared.slot.VtocSlot.{VtocSlot}
use Rattle.pack_spec.proofs.Lawful.{good_sets, lawful_with}
use Rattle.seq_access.specs.Bodies.{IsSetIn, data_in}
use Rattle.vol_model.specs.declared.contents.DataSet.{DataSet}
use Rattle.vol_model.specs.Order.{IsAscending, is_before}
use Rattle.vol_model.specs.Shelf.{has_name, set_of}
use Rattle.vtoc_index.specs.Index.{AreDscbs, IsMounted, first_named}
use Rattle.vtoc_index.specs.Names.{AreByName, name_at, or_zeros}
use Rattle.vtoc_index.specs.declared.vol.Vol.{Vol}
use Rattle.vtoc_index.proofs.NameOrder.{found_first, not_before, one_slot, zeros_some}
use Rattle.vtoc_index.proofs.NamedSets.{name_of_kth}
use Rattle.vtoc_sets.specs.Sets.{volume_in}
use Rattle.mount_repair.specs.Sets.{set_by}
use Rattle.mount_repair.proofs.OrderedSets.{find_in_order}

-- the data sets in some slots of a VTOC
abbrev pub sets_by : Geometry → List (List ℕ) → List VtocSlot → List VtocSlot → List DataSet
sets_by g tracks slots some = map (data_set_of g tracks slots) (filter_map (λ s. set_in s.content) some)

module _ (g : Geometry) (tracks : List (List ℕ)) (slots : List VtocSlot) (name : List ℕ) where
  -- a slot that is no data set of the name is passed over
  passed : (c : Result Dscb DscbErr) (rest : List F1) → is_named name c ≡ false → find (has_name name) (map (data_set_of g tracks slots) (cons_option (set_in c) rest)) ≡ find (has_name name) (map (data_set_of g tracks slots) rest)
  unfolding data_set_of
  passed (Ok formats.F0) rest not = refl
  passed (Ok (formats.F1 f)) rest not = ap (λ (b : Bool). cond b (Some (data_set_of g tracks slots f)) (find (has_name name) (map (data_set_of g tracks slots) rest))) not
  passed (Ok (formats.F3 f)) rest not = refl
  passed (Ok (formats.F4 f)) rest not = refl
  passed (Ok (formats.F5 f)) rest not = refl
  passed (Err e) rest not = refl

  taken : (c : Result Dscb DscbErr) (f : F1) (rest : List F1) → c ≡ Ok (formats.F1 f) → is_named name c ≡ true → find (has_name name) (map (data_set_of g tracks slots) (cons_option (set_in c) rest)) ≡ Some (data_set_of g tracks slots f)
  unfolding data_set_of
  taken c f rest is named =
      ap (λ (x : Result Dscb DscbErr). find (has_name name) (map (data_set_of g tracks slots) (cons_option (set_in x) rest))) is
      ∙ ap (λ (b : Bool). cond b (Some (data_set_of g tracks slots f)) (find (has_name name) (map (data_set_of g tracks slots) rest))) (ap (is_named name) (sym is) ∙ named)

  pub found : (items : List Dscb) (some : List VtocSlot) (k : ℕ) (f : F1) → AreDscbs items some → slice_get items k ≡ Some (formats.F1 f) → is_named name (Ok (formats.F1 f)) ≡ true → ((j : ℕ) (d : Dscb) → j < k → is_named name (Ok (get_or items j d)) ≡ false)
      → find (has_name name) (sets_by g tracks slots some) ≡ Some (data_set_of g tracks slots f)
  found [] some k f are is named earlier = cc
  found (d ∷ items) [] k f are is named earlier = cc
  found (d ∷ items) (s ∷ some) zero f are is named earlier =
      let content : s.content ≡ Ok d = cc in
      let this : d ≡ formats.F1 f = cc in
      let here : s.content ≡ Ok (formats.F1 f) = content ∙ ap (λ (x : Dscb). Ok x) this in
      taken s.content f (filter_map (λ t. set_in t.content) some) here (ap (is_named name) here ∙ named)
  found (d ∷ items) (s ∷ some) (suc k) f are is named earlier =
      let content : s.content ≡ Ok d = cc in
      let rest : AreDscbs items some = cc in
      passed s.content (filter_map (λ t. set_in t.content) some) (ap (is_named name) content ∙ earlier 0 d (omega arith))
      ∙ found items some k f rest is named (λ j e low. earlier (suc j) e (omega (arith, low)))

  pub found_not : (items : List Dscb) (some : List VtocSlot) → AreDscbs items some → list_any (λ d. is_named name (Ok d)) items ≡ false → find (has_name name) (sets_by g tracks slots some) ≡ None
  found_not [] [] are none = refl
  found_not [] (s ∷ some) are none = cc
  found_not (d ∷ items) [] are none = cc
  found_not (d ∷ items) (s ∷ some) are none =
      let content : s.content ≡ Ok d = cc in
      let rest : AreDscbs items some = cc in
      let parts = or_parts (is_named name (Ok d)) (list_any (λ x. is_named name (Ok x)) items) none in
      passed s.content (filter_map (λ t. set_in t.content) some) (ap (is_named name) content ∙ parts.0) ∙ found_not items some rest parts.1

  -- whether a data set has the name
  pub named_alike : (items : List Dscb) (some : List VtocSlot) → AreDscbs items some → list_any (has_name name) (sets_by g tracks slots some) ≡ list_any (λ d. is_named name (Ok d)) items
  unfolding data_set_of
  named_alike [] [] are = refl
  named_alike [] (s ∷ some) are = cc
  named_alike (d ∷ items) [] are = cc
  named_alike (d ∷ items) (s ∷ some) are =
      let content : s.content ≡ Ok d = cc in
      let rest : AreDscbs items some = cc in
      ap (λ (c : Result Dscb DscbErr). list_any (has_name name) (map (data_set_of g tracks slots) (cons_option (set_in c) (filter_map (λ t. set_in t.content) some)))) content
      ∙ one d (filter_map (λ t. set_in t.content) some) (named_alike items some rest)
    where
      one : (d : Dscb) (rest : List F1) → list_any (has_name name) (map (data_set_of g tracks slots) rest) ≡ list_any (λ x. is_named name (Ok x)) items → list_any (has_name name) (map (data_set_of g tracks slots) (cons_option (set_in (Ok d)) rest)) ≡ (is_named name (Ok d) || list_any (λ x. is_named name (Ok x)) items)
      one formats.F0 rest same = same
      one (formats.F1 f) rest same = ap (λ (b : Bool). bytes_eq f.name name || b) same
      one (formats.F3 f) rest same = same
      one (formats.F4 f) rest same = same
      one (formats.F5 f) rest same = same

-- ---- the data set of a format 1

-- what is in a slot whose DSCB the index holds
content_at : (items : List Dscb) (slots : List VtocSlot) (slot : ℕ) (d : Dscb) → AreDscbs items slots → slice_get items slot ≡ Some d → option_map (λ s. s.content) (slice_get slots slot) ≡ Some (Ok d)
content_at [] slots slot d are is = cc
content_at (x ∷ items) [] slot d are is = absurd (none (map (λ (e : Dscb). Ok e) items) are)
  where
    none : (rest : List (Result Dscb DscbErr)) → [] ≡ Ok x ∷ rest → ⊥
    none rest same = cc
content_at (x ∷ items) (s ∷ slots) zero d are is =
    let same : x ≡ d = cc in
    let content : s.content ≡ Ok x = cc in
    ap (λ (c : Result Dscb DscbErr). Some c) (content ∙ ap (λ (e : Dscb). Ok e) same)
content_at (x ∷ items) (s ∷ slots) (suc slot) d are is =
    let rest : AreDscbs items slots = cc in
    content_at items slots slot d rest is

module _ (image : List ℕ) (v : Vol) (mounted : IsMounted image v) where
  abbrev slots : List VtocSlot
  slots = slots_of_vtoc image v.geometry v.vtoc

  module _ (k : ℕ) (f : F1) (is : slice_get v.slots.items k ≡ Some (formats.F1 f)) where
    -- a slot that holds a format 1 has a data set of the image
    pub set_there : IsSetIn image v f
    set_there = record {
      set = record { mounted = mounted; extents = good (slice_get slots k) refl (content_at v.slots.items slots k (formats.F1 f) mounted.index.slots is) };
      slot = k;
      dscb = is;
    }
      where
        good : (o : Option VtocSlot) → slice_get slots k ≡ o → option_map (λ s. s.content) o ≡ Some (Ok (formats.F1 f)) → has_extents v.geometry slots f ≡ true
        good None there content = cc
        good (Some s) there content =
            let here : s.content ≡ Ok (formats.F1 f) = cc in
            good_sets v.geometry slots mounted.lawful k s f there (ap set_in here)

    -- and where its name stands first there, it is found by that
    pub set_named : (name : List ℕ) → first_named name v.slots.items ≡ Some k → set_of name (volume_in image v) ≡ Some (set_by image v f)
    unfolding volume_with data_sets_in
    set_named name first =
        let items : List Dscb = v.slots.items in
        let at = position-Some (λ d. is_named name (Ok d)) items k (formats.F1 f) first in
        let this : get_or items k (formats.F1 f) ≡ formats.F1 f = get_or_from_slice_get items k (formats.F1 f) (formats.F1 f) is in
        find_in_order name (data_sets_in v.geometry (data_in image v) slots)
        ∙ found v.geometry (data_in image v) slots name items slots k f mounted.index.slots is (ap (λ (x : Dscb). is_named name (Ok x)) (sym this) ∙ at.1)
        (λ j d low. ap (λ (x : Dscb). is_named name (Ok x)) (get_or_default items j d (formats.F1 f) (omega (arith, low, at.0))) ∙ at.2 j low)

-- ---- data sets whose names rise

not_itself : (x y : DataSet) → is_before x y ≡ true → has_name y.name.bytes x ≡ false
not_itself x y before = by (has_name y.name.bytes x) refl
  where
    never : (n : List ℕ) → is_lt (slice_cmp nat_cmp n n) ≡ true → ⊥
    never n less = by_order (slice_cmp nat_cmp n n) refl less
      where
        by_order : (o : Ordering) → slice_cmp nat_cmp n n ≡ o → is_lt o ≡ true → ⊥
        by_order Less is same = not_before n is
        by_order Equal is same = cc
        by_order Greater is same = cc

    by : (b : Bool) → has_name y.name.bytes x ≡ b → has_name y.name.bytes x ≡ false
    by false is = is
    by true is =
        let same : x.name.bytes ≡ y.name.bytes = (bytes_eq-Decides x.name.bytes y.name.bytes).0 is in
        absurd (never y.name.bytes (ap (λ (n : List ℕ). is_lt (slice_cmp nat_cmp n y.name.bytes)) (sym same) ∙ before))

-- each is the first of its name
pub first_of_name : (xs : List DataSet) (k : ℕ) (x : DataSet) → IsAscending xs → slice_get xs k ≡ Some x → find (has_name x.name.bytes) xs ≡ Some x
first_of_name [] k x up at = cc
first_of_name (y ∷ ys) zero x up at =
    let this : y ≡ x = cc in
    let named : has_name x.name.bytes y ≡ true = ap (λ (z : DataSet). has_name x.name.bytes z) this ∙ (bytes_eq-Decides x.name.bytes x.name.bytes).1 refl in
    ap (λ (b : Bool). cond b (Some y) (find (has_name x.name.bytes) ys)) named ∙ ap Some this
first_of_name (y ∷ ys) (suc k) x up at =
    ap (λ (b : Bool). cond b (Some y) (find (has_name x.name.bytes) ys)) (not_itself y x (later ys k up.0 at)) ∙ first_of_name ys k x up.1 at
  where
    later : (zs : List DataSet) (j : ℕ) → AllByRecursion (λ z. is_before y z ≡ true) zs → slice_get zs j ≡ Some x → is_before y x ≡ true
    later [] j all there = cc
    later (z ∷ zs) zero all there = let this : z ≡ x = cc in ap (is_before y) (sym this) ∙ all.0
    later (z ∷ zs) (suc j) all there = later zs j all.1 there

-- ---- the k-th data set

module _ (image : List ℕ) (v : Vol) (mounted : IsMounted image v) (order : AreByName (name_at v.slots.items) v.by_name.items) where
  pub rising : IsAscending (volume_in image v).sets
  rising = (lawful_with (length image) image v.geometry v.vtoc (has_geometry (take 512 image) (length image) v.geometry mounted.index.header) mounted.vtoc mounted.lawful mounted.whole).order

  -- the slot of a data set is the only one of its name
  only_slot : (slot : ℕ) (n : List ℕ) → name_at v.slots.items slot ≡ Some n → first_named n v.slots.items ≡ Some slot
  only_slot slot n is = found_first v.slots.items slot n (λ j other. one_slot (name_at v.slots.items) v.by_name.items order j slot n other is) is

  pub name_here : (slot : ℕ) (f : F1) → slice_get v.slots.items slot ≡ Some (formats.F1 f) → name_at v.slots.items slot ≡ Some f.name
  name_here slot f is = ap (option_and_then (λ (d : Dscb). option_map (λ (x : F1). x.name) (set_in (Ok d)))) is

  -- the set at a place in the order of names is that of the format 1 in the slot there
  pub kth_set : (k slot : ℕ) (f : F1) → slice_get v.by_name.items k ≡ Some slot → slice_get v.slots.items slot ≡ Some (formats.F1 f) → slice_get (volume_in image v).sets k ≡ Some (set_by image v f)
  kth_set k slot f at is = by (slice_get (volume_in image v).sets k) refl (name_of_kth image v (volume_in image v) k mounted mounted.volume order)
    where
      as_named : ℕ → Dsn
      as_named s = record { bytes = or_zeros (name_at v.slots.items s) }

      this_name : or_zeros (name_at v.slots.items slot) ≡ f.name
      this_name = ap or_zeros (name_here slot f is) ∙ zeros_some f.name

      by : (o : Option DataSet) → slice_get (volume_in image v).sets k ≡ o → option_map as_named (slice_get v.by_name.items k) ≡ option_map (λ (x : DataSet). x.name) o → o ≡ Some (set_by image v f)
      by None there same = let wrong : Some (as_named slot) ≡ None = sym (ap (option_map as_named) at) ∙ same in cc
      by (Some x) there same =
          let both : Some (as_named slot) ≡ Some x.name = sym (ap (option_map as_named) at) ∙ same in
          let one : as_named slot ≡ x.name = cc in
          let name : f.name ≡ x.name.bytes = sym this_name ∙ ap (λ (d : Dsn). d.bytes) one in
          sym (first_of_name (volume_in image v).sets k x rising there)
          ∙ ap (λ (n : List ℕ). set_of n (volume_in image v)) (sym name)
          ∙ set_named image v mounted slot f is f.name (only_slot slot f.name (name_here slot f is))

  -- there are no more data sets than slots in that order
  pub no_more_sets : (k : ℕ) → slice_get v.by_name.items k ≡ None → slice_get (volume_in image v).sets k ≡ None
  no_more_sets k none = by (slice_get (volume_in image v).sets k) (name_of_kth image v (volume_in image v) k mounted mounted.volume order)
    where
      by : (o : Option DataSet) → option_map (λ s. record { bytes = or_zeros (name_at v.slots.items s) }) (slice_get v.by_name.items k) ≡ option_map (λ (x : DataSet). x.name) o → o ≡ None
      by None same = refl
      by (Some x) same =
          let wrong : None ≡ Some x.name = sym (ap (option_map (λ s. record { bytes = or_zeros (name_at v.slots.items s) })) none) ∙ same in
          cc
