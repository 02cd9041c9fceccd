-- The two writes of a new data set in an update of an image: the format 3, which has no part in the volume yet, and the format 1, with which the image stands for the volume with the set.
use Rattle.std.proofs.Common.{◌≡◌, ◌≢◌, inl, inr, ℕ, zero, suc, ◌^◌, ◌<◌, ◌≤◌, Bool, true, false, cond, not, ◌||◌, ◌&&◌, List, [], ◌∷◌, length, map, Option, Some, None, refl, sym, ap, ap₂, subst, ◌∙◌, arith}
use Rattle.std.specs.Prelude.{Result, Ok, Err, find, is_some, nat_le, nat_lt, slice_get}
use Rattle.std.specs.List.{AllByRecursion, list_all, list_any}
use Rattle.std.specs.Str.{bytes_eq}
use Rattle.std.proofs.lemmas.Bool.{and_parts}
use Rattle.std.proofs.lemmas.Bool.Decides.{nat_tests, eqb_tells}
use Rattle.std.proofs.lemmas.Slice.Eq.{bytes_eq-Decides}
use Rattle.ckd_image.specs.declared.header.Geometry.{Geometry}
use Rattle.dscb_codec.specs.declared.Dscb.{Dscb}
use Rattle.dscb_codec.specs.declared.Dscb.TheVariants as formats
use Rattle.dscb_codec.specs.declared.DscbErr.{DscbErr}
use Rattle.dscb_codec.specs.declared.F1.{F1}
use Rattle.dscb_codec.specs.declared.F3.{F3}
use Rattle.ebcdic_names.specs.declared.names.Dsn.{Dsn}
use Rattle.pack_spec.specs.declared.slot.VtocSlot.{VtocSlot}
use Rattle.pack_spec.specs.Alike.{AreAlike, has_no_part, is_blank}
use Rattle.pack_spec.specs.Bodies.{body_of}
use Rattle.pack_spec.specs.Label.{tracks_of}
use Rattle.pack_spec.specs.Rules.{counted_extents, format_3_of, has_extents, has_types, is_chained, is_f3, is_f5_or_f0, is_led_to, is_named, shares_chain, slots_faults}
use Rattle.pack_spec.specs.Settled.{is_used, leads_to}
use Rattle.pack_spec.specs.Volume.{attr_of, data_set_of}
use Rattle.pack_spec.specs.Vtoc.{run_of_extent}
use Rattle.pack_spec.proofs.AddressesApart.{AreApart}
use Rattle.pack_spec.proofs.AlikeSlots.{IsSetOf}
use Rattle.pack_spec.proofs.AlikeVolumes.{chain_found}
use Rattle.vol_model.specs.declared.contents.Attr.{Attr}
use Rattle.vol_model.specs.declared.contents.Run.{Run}
use Rattle.vol_model.specs.declared.requests.Request.{Request}
use Rattle.vol_model.specs.Lawful.{IsOnPack}
use Rattle.vol_model.specs.Shelf.{is_catalog, new_attr, new_body}
use Rattle.vtoc_index.specs.Index.{with_dscb}
use Rattle.free_rebuild.proofs.PutLemmas.{alike_with}
use Rattle.dadsm_ops.specs.Allocating.{HasFurther, HasFurtherIfMany, extent_type, new_f1, new_f3, new_lstar}
use Rattle.slot_laws.proofs.ChangedSlots.{changed_elsewhere, changed_there}
use Rattle.dadsm_ops.proofs.NewAttributes.{asked, attr_asked, attr_read}
use Rattle.dadsm_ops.proofs.NewExtents.{counted_new, field_types, kind_counted, numbered, numbered_inside, numbered_read, numbered_types}
use Rattle.dadsm_ops.proofs.NewSlots.{CanPut, free_third, none_at, not_same}

-- what is in a slot
abbrev Content : Type 0
Content = Result Dscb DscbErr

none_any : {X : Type 0} (p : X → Bool) (xs : List X) → ((k : ℕ) (x : X) → slice_get xs k ≡ Some x → p x ≡ false) → list_any p xs ≡ false
none_any p [] none = refl
none_any p (x ∷ xs) none = ap (λ (b : Bool). b || list_any p xs) (none 0 x refl) ∙ none_any p xs (λ k y at. none (suc k) y at)

-- the one item that passes is the one that is found
find_only : (p : VtocSlot → Bool) (xs : List VtocSlot) (j : ℕ) (s : VtocSlot) → slice_get xs j ≡ Some s → p s ≡ true → ((k : ℕ) (t : VtocSlot) → slice_get xs k ≡ Some t → p t ≡ true → t ≡ s) → find p xs ≡ Some s
find_only p [] j s at is one = cc
find_only p (x ∷ xs) zero s at is one =
    let same : x ≡ s = cc in
    ap (λ (b : Bool). cond b (Some x) (find p xs)) (ap p same ∙ is) ∙ ap Some same
find_only p (x ∷ xs) (suc j) s at is one = by_test (p x) refl (find_only p xs j s at is (λ k t there passes. one (suc k) t there passes))
  where
    by_test : (b : Bool) → p x ≡ b → find p xs ≡ Some s → cond (p x) (Some x) (find p xs) ≡ Some s
    by_test true test rest = ap (λ (t : Bool). cond t (Some x) (find p xs)) test ∙ ap Some (one 0 x refl test)
    by_test false test rest = ap (λ (t : Bool). cond t (Some x) (find p xs)) test ∙ rest

-- ---- the format 3

not_led : (c : Content) (s : VtocSlot) → is_f3 s.content ≡ false → leads_to c s ≡ false
not_led (Ok formats.F0) s other = refl
not_led (Ok (formats.F1 f)) s other = ap (λ (b : Bool). is_chained f && (bytes_eq s.address f.pointer && b)) other ∙ fails (is_chained f) (bytes_eq s.address f.pointer)
  where
    fails : (a b : Bool) → (a && (b && false)) ≡ false
    fails true true = refl
    fails true false = refl
    fails false b = refl
not_led (Ok (formats.F3 f)) s other = refl
not_led (Ok (formats.F4 f)) s other = refl
not_led (Ok (formats.F5 f)) s other = refl
not_led (Err e) s other = refl

-- an open slot has no part in the volume
pub open_no_part : (slots : List VtocSlot) (k : ℕ) (s : VtocSlot) → 2 ≤ k → is_f5_or_f0 s.content ≡ true → has_no_part slots k s ≡ true
open_no_part slots zero s behind opened = absurd (omega (arith, behind))
open_no_part slots (suc zero) s behind opened = absurd (omega (arith, behind))
open_no_part slots (suc (suc k)) s behind opened =
    let unused : is_used slots s ≡ false = none_any (λ (t : VtocSlot). leads_to t.content s) slots (λ i t at. not_led t.content s (free_third s.content opened)) in
    ap (λ (b : Bool). (b || is_f3 s.content) && not (is_used slots s)) opened ∙ ap (λ (b : Bool). not b) unused

pub third_blank : (k : ℕ) (h : F3) → 2 ≤ k → is_blank k (Ok (formats.F3 h)) ≡ true
third_blank zero h behind = absurd (omega (arith, behind))
third_blank (suc zero) h behind = absurd (omega (arith, behind))
third_blank (suc (suc k)) h behind = refl

self_alike : (slots : List VtocSlot) → AreAlike slots slots
self_alike slots = record {
  addresses = refl;
  each = λ k s t one two. let both : Some s ≡ Some t = sym one ∙ two in let same : s ≡ t = cc in inl (ap (λ (x : VtocSlot). x.content) (sym same));
}

-- slots of which an open one gets a format 3 are alike
pub third_alike : (slots : List VtocSlot) (k : ℕ) (s : VtocSlot) (h : F3) → 2 ≤ k → slice_get slots k ≡ Some s → is_f5_or_f0 s.content ≡ true → AreAlike slots (with_dscb k (formats.F3 h) slots)
third_alike slots k s h behind there opened =
    alike_with slots slots k (formats.F3 h) (self_alike slots)
    (λ t at. let both : Some s ≡ Some t = sym there ∙ at in let same : s ≡ t = cc in subst (λ (x : VtocSlot). has_no_part slots k x ≡ true) same (open_no_part slots k s behind opened))
    (third_blank k h behind)

found_there : (p : VtocSlot → Bool) (xs : List VtocSlot) → is_some (find p xs) ≡ true → (j : ℕ) × (x : VtocSlot) × (slice_get xs j ≡ Some x) × (p x ≡ true)
found_there p [] is = cc
found_there p (y ∷ xs) is = by_test (p y) refl (λ found. found_there p xs found) is
  where
    by_test : (t : Bool) → p y ≡ t → (is_some (find p xs) ≡ true → (j : ℕ) × (x : VtocSlot) × (slice_get xs j ≡ Some x) × (p x ≡ true)) → is_some (cond t (Some y) (find p xs)) ≡ true → (j : ℕ) × (x : VtocSlot) × (slice_get (y ∷ xs) j ≡ Some x) × (p x ≡ true)
    by_test true test more found = (zero, y, refl, test)
    by_test false test more found = let rest = more found in (suc rest.0, rest.1, rest.2, rest.3)

-- no format 1 of slots that break no rule counts a pointer to an open slot
module _ (g : Geometry) (slots : List VtocSlot) (lawful : slots_faults g slots ≡ []) (apart : AreApart slots) (k : ℕ) (s : VtocSlot) (there : slice_get slots k ≡ Some s) (opened : is_f5_or_f0 s.content ≡ true) where
  pub not_pointed : (h : F1) → IsSetOf slots h → is_chained h ≡ true → bytes_eq s.address h.pointer ≡ false
  not_pointed h set chained = by_address (bytes_eq s.address h.pointer) refl
    where
      by_address : (t : Bool) → bytes_eq s.address h.pointer ≡ t → t ≡ false
      by_address false here = refl
      by_address true here =
          let some : is_some (find (is_led_to h) slots) ≡ true = sym (ap (λ (b : Bool). is_some (cond b (find (is_led_to h) slots) None)) chained) ∙ chain_found g slots lawful h set chained in
          let found = found_there (is_led_to h) slots some in
          let parts = and_parts (bytes_eq found.1.address h.pointer) (is_f3 found.1.content) found.3 in
          let one : s.address ≡ found.1.address = (bytes_eq-Decides s.address h.pointer).0 here ∙ sym ((bytes_eq-Decides found.1.address h.pointer).0 parts.0) in
          let number : k ≡ found.0 = apart k found.0 s found.1 there found.2 one in
          let both : Some s ≡ Some found.1 = sym there ∙ ap (slice_get slots) number ∙ found.2 in
          let same : s ≡ found.1 = cc in
          let third : is_f3 s.content ≡ true = ap (λ (x : VtocSlot). is_f3 x.content) same ∙ parts.1 in
          let never : true ≡ false = sym third ∙ free_third s.content opened in
          absurd cc

  not_leading : (h : F3) (m : ℕ) (t : VtocSlot) (c : Content) → k ≢ m → slice_get slots m ≡ Some t → t.content ≡ c → leads_to c (record s { content = Ok (formats.F3 h) }) ≡ false
  not_leading h m t (Ok formats.F0) other at held = refl
  not_leading h m t (Ok (formats.F1 f)) other at held = by_chain (is_chained f) refl
    where
      by_chain : (b : Bool) → is_chained f ≡ b → (b && (bytes_eq s.address f.pointer && true)) ≡ false
      by_chain true chained = ap (λ (b : Bool). b && true) (not_pointed f (m, t, at, held) chained)
      by_chain false chained = refl
  not_leading h m t (Ok (formats.F3 f)) other at held = refl
  not_leading h m t (Ok (formats.F4 f)) other at held = refl
  not_leading h m t (Ok (formats.F5 f)) other at held = refl
  not_leading h m t (Err e) other at held = refl

  -- so none leads to a format 3 that is put there
  pub third_unused : (h : F3) → is_used (with_dscb k (formats.F3 h) slots) (record s { content = Ok (formats.F3 h) }) ≡ false
  third_unused h = none_any (λ (t : VtocSlot). leads_to t.content (record s { content = Ok (formats.F3 h) })) (with_dscb k (formats.F3 h) slots)
      (λ m t at. elim (eqb_tells k m) [
        | inl w ↦
            let both : Some (record s { content = Ok (formats.F3 h) }) ≡ Some t = sym (changed_there k (formats.F3 h) slots s there) ∙ ap (slice_get (with_dscb k (formats.F3 h) slots)) w.1 ∙ at in
            let same : record s { content = Ok (formats.F3 h) } ≡ t = cc in
            ap (λ (x : VtocSlot). leads_to x.content (record s { content = Ok (formats.F3 h) })) (sym same)
        | inr w ↦ not_leading h m t t.content w.1 (sym (changed_elsewhere k m (formats.F3 h) slots (λ same. w.1 (sym same))) ∙ at) refl
      ])

  -- The format 3 of a new set is there.
  pub further_put : (kind : ℕ) (runs : List Run) → HasFurther (with_dscb k (formats.F3 (new_f3 g kind runs)) slots) g kind runs s.address
  further_put kind runs = record {
    number = k;
    slot = record s { content = Ok (formats.F3 (new_f3 g kind runs)) };
    there = changed_there k (formats.F3 (new_f3 g kind runs)) slots s there;
    address = refl;
    content = refl;
    unused = third_unused (new_f3 g kind runs);
  }

-- ---- the format 1

module _ (g : Geometry) (few : tracks_of g ≤ 65536) (slots : List VtocSlot) (lawful : slots_faults g slots ≡ []) (apart : AreApart slots)
    (dsn : Dsn) (serial : List ℕ) (attr : Attr) (q : Request) (runs : List Run) (pointer : List ℕ) (dir : ℕ)
    (other : is_catalog dsn.bytes ≡ false) (secondary : q.secondary < 2 ^ 24)
    (five : length runs ≤ 5) (on_pack : AllByRecursion (IsOnPack g) runs) (third : HasFurtherIfMany slots g (extent_type q.unit) runs pointer) where
  abbrev kind : ℕ
  kind = extent_type q.unit

  abbrev f : F1
  f = new_f1 dsn.bytes serial (asked attr q) g kind runs pointer dir

  chained_more : is_chained f ≡ true → 3 < length runs
  unfolding new_f1
  chained_more chained = more (length runs) chained
    where
      more : (n : ℕ) → nat_lt 3 n ≡ true → 3 < n
      more n e = grind (arith, nat_tests)

  pointer_is : f.pointer ≡ pointer
  unfolding new_f1
  pointer_is = refl

  third_by : (has : HasFurther slots g kind runs pointer) → find (is_led_to f) slots ≡ Some has.slot
  third_by has =
      let led : is_led_to f has.slot ≡ true =
      ap₂ (λ (a b : Bool). a && b) ((bytes_eq-Decides has.slot.address f.pointer).1 (has.address ∙ sym pointer_is)) (ap is_f3 has.content) in
      find_only (is_led_to f) slots has.number has.slot has.there led (λ k t at passes.
      let parts = and_parts (bytes_eq t.address f.pointer) (is_f3 t.content) passes in
      let one : t.address ≡ has.slot.address = (bytes_eq-Decides t.address f.pointer).0 parts.0 ∙ pointer_is ∙ sym has.address in
      let number : k ≡ has.number = apart k has.number t has.slot at has.there one in
      let both : Some t ≡ Some has.slot = sym at ∙ ap (slice_get slots) number ∙ has.there in
      cc)

  led_to : is_chained f ≡ true → (s : VtocSlot) × (format_3_of slots f ≡ Some s) × (s.content ≡ Ok (formats.F3 (new_f3 g kind runs)))
  led_to chained =
      let has = third (chained_more chained) in
      (has.slot, ap (λ (b : Bool). cond b (find (is_led_to f) slots) None) chained ∙ third_by has, has.content)

  counted : counted_extents slots f ≡ numbered g kind 0 runs
  counted = counted_new g dsn.bytes serial (asked attr q) kind pointer dir slots runs five led_to

  types : has_types slots f ≡ true
  unfolding has_types
  types = ap₂ (λ (a b : Bool). a && b) (field_types g dsn.bytes serial (asked attr q) kind pointer dir runs (kind_counted q.unit)) (ap (list_all _) counted ∙ numbered_types g kind 0 runs (kind_counted q.unit))

  extents : has_extents g slots f ≡ true
  unfolding has_extents new_f1
  extents = ap₂ (λ (a b : Bool). a && b) (at_most (length runs) (omega (arith, five))) (ap (list_all _) counted ∙ numbered_inside g kind 0 runs few on_pack)
    where
      at_most : (n : ℕ) → n ≤ 16 → nat_le n 16 ≡ true
      at_most n l = grind (arith, nat_tests)

  shared_by : (s : VtocSlot) (c : Content) → is_f3 s.content ≡ true → s.address ≡ f.pointer → leads_to c s ≡ false → shares_chain f c ≡ false
  shared_by s (Ok formats.F0) is at none = refl
  shared_by s (Ok (formats.F1 h)) is at none = by_chain (is_chained h) none
    where
      drop_true : (b : Bool) → (b && is_f3 s.content) ≡ false → b ≡ false
      drop_true true e = sym is ∙ e
      drop_true false e = refl

      by_chain : (c : Bool) → (c && (bytes_eq s.address h.pointer && is_f3 s.content)) ≡ false → (c && bytes_eq h.pointer f.pointer) ≡ false
      by_chain true e = not_same f.pointer h.pointer (ap (λ (l : List ℕ). bytes_eq l h.pointer) (sym at) ∙ drop_true (bytes_eq s.address h.pointer) e)
      by_chain false e = refl
  shared_by s (Ok (formats.F3 h)) is at none = refl
  shared_by s (Ok (formats.F4 h)) is at none = refl
  shared_by s (Ok (formats.F5 h)) is at none = refl
  shared_by s (Err e) is at none = refl

  alone : is_chained f ≡ true → list_any (λ (t : VtocSlot). shares_chain f t.content) slots ≡ false
  alone chained =
      let has = third (chained_more chained) in
      none_any (λ (t : VtocSlot). shares_chain f t.content) slots (λ k t at. shared_by has.slot t.content (ap is_f3 has.content) (has.address ∙ sym pointer_is) (none_at (λ (u : VtocSlot). leads_to u.content has.slot) k slots t has.unused at))

  -- The format 1 may be put into an open slot.
  pub can_put : (k : ℕ) (s : VtocSlot) → 2 ≤ k → slice_get slots k ≡ Some s → is_f5_or_f0 s.content ≡ true → list_any (λ (t : VtocSlot). is_named dsn.bytes t.content) slots ≡ false → CanPut g slots k f
  unfolding new_f1
  can_put k s behind there opened absent = record {
    lawful = lawful;
    slot = s;
    there = there;
    free = opened;
    behind = behind;
    absent = absent;
    types = types;
    extents = extents;
    third = λ chained. ap (λ (o : Option VtocSlot). is_some o) (led_to chained).1;
    alone = alone;
  }

  -- and is read as the new set, where its tracks are read as its body
  pub set_read : (tracks : List (List ℕ)) → body_of g tracks dsn.bytes (asked attr q) runs (new_lstar g.device dir) ≡ new_body g.device dsn.bytes attr dir → data_set_of g tracks slots f ≡ record { name = dsn; attr = new_attr dsn.bytes attr q; extents = runs; body = new_body g.device dsn.bytes attr dir }
  unfolding data_set_of new_f1
  set_read tracks is =
      let attrs = attr_read dsn.bytes serial attr q g kind runs pointer dir secondary in
      let rows : map (run_of_extent g) (counted_extents slots f) ≡ runs = ap (map (run_of_extent g)) counted ∙ numbered_read g kind 0 runs few on_pack in
      let body : body_of g tracks f.name (attr_of f) (map (run_of_extent g) (counted_extents slots f)) f.lstar ≡ new_body g.device dsn.bytes attr dir =
      ap₂ (λ (a : Attr) (rs : List Run). body_of g tracks f.name a rs f.lstar) attrs rows ∙ is in
      let whole : attr_of f ≡ new_attr dsn.bytes attr q = attrs ∙ sym (attr_asked dsn.bytes attr q other) in
      λ i. record { name = dsn; attr = whole i; extents = rows i; body = body i }
