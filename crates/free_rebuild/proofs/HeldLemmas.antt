-- The slots that an index holds, and what the walk over them finds.
use Rattle.std.proofs.Common.{◌≡◌, ◌+◌, ◌≤◌, ◌<◌, ◌≢◌, ℕ, zero, suc, Bool, true, false, not, ◌||◌, ◌&&◌, List, [], ◌∷◌, ◌++◌, length, take, drop, map, cond, Option, Some, None, option_and_then, Result, Ok, refl, sym, ap, ◌∙◌, arith}
use Rattle.std.specs.Prelude.{◌==◌, bit_and, count_by, get_or, position, replicate, slice_get}
use Rattle.std.specs.Cmp.Lexicographic.{pointwise}
use Rattle.std.specs.List.{enumerate_from, list_all, list_any}
use Rattle.std.specs.Option.{option_map, option_map_or}
use Rattle.std.specs.Str.{bytes_eq}
use Rattle.std.proofs.lemmas.Bool.{eq-eqb, ne_eqb}
use Rattle.std.proofs.lemmas.List.{drop_all, take_all}
use Rattle.dscb_codec.specs.declared.Dscb.{Dscb}
use Rattle.dscb_codec.specs.declared.Dscb.TheVariants as formats
use Rattle.dscb_codec.specs.declared.DscbErr.{DscbErr}
use Rattle.dscb_codec.specs.declared.F4.{F4}
use Rattle.dscb_codec.specs.declared.F5.{F5}
use Rattle.ckd_image.specs.declared.header.Geometry.{Geometry}
use Rattle.vol_model.specs.declared.contents.Run.{Run}
use Rattle.vol_model.specs.declared.contents.Volume.{Volume}
use Rattle.pack_spec.specs.declared.slot.VtocSlot.{VtocSlot}
use Rattle.pack_spec.specs.FreeChain.{dscbs_for, entries_in, entries_of, next_free}
use Rattle.pack_spec.specs.Label.{heads_of}
use Rattle.pack_spec.specs.Rules.{is_chained, is_f3}
use Rattle.pack_spec.specs.Settled.{head_in, head_of, highest_of, is_f0, is_f5, is_used, leads_to, slots_for}
use Rattle.pack_spec.specs.Slots.{slots_of_vtoc}
use Rattle.pack_spec.specs.Volume.{volume_by}
use Rattle.vtoc_index.specs.declared.vol.Vol.{Vol}
use Rattle.vtoc_index.specs.Index.{IsIndexOf, IsMounted, address_in}
use Rattle.free_rebuild.specs.Chain.{is_open, next_open}
use Rattle.free_rebuild.specs.Clearing.{highest_among, is_extra, is_pointed, points_to}
use Rattle.free_rebuild.specs.Settled.{are_settled, are_settled_on, has_head, has_no_extra, has_space, is_chain, is_kept, counts_match, is_settled_vtoc, is_space, leads_on, lists, next_linked, slots_held}
use Rattle.free_rebuild.proofs.AddressLemmas.{held_slots}
use Rattle.free_rebuild.proofs.ChainLemmas.{AreHeld, get_some, held_next}
use Rattle.free_rebuild.proofs.HighestLemmas.{highest_held}
use Rattle.free_rebuild.proofs.SettledLemmas.{counts_alike, held_tests}
use Rattle.free_rebuild.proofs.SettledRepair.{stands_entries, stands_parts}
use Rattle.free_rebuild.proofs.StandLemmas.{StandsFor}
use Rattle.free_rebuild.proofs.WriteLemmas.{entries_at, entries_many}

-- the slots from a number on, each at its address
abbrev slots_from : (ℕ → List ℕ) → ℕ → List Dscb → List VtocSlot
slots_from at n ds = map (λ p. record { address = at p.0; content = Ok p.1 }) (enumerate_from n ds)

held_from : (at : ℕ → List ℕ) (n : ℕ) (ds : List Dscb) (k : ℕ) → slice_get (slots_from at n ds) k ≡ option_map (λ (d : Dscb). record { address = at (n + k); content = Ok d }) (slice_get ds k)
held_from at n [] k = refl
held_from at n (d ∷ ds) zero = let e : n + zero ≡ n = omega arith in ap (λ (m : ℕ). Some (record { address = at m; content = Ok d })) (sym e)
held_from at n (d ∷ ds) (suc k) =
    let e : n + suc k ≡ n + 1 + k = omega arith in
    held_from at (n + 1) ds k ∙ ap (λ (m : ℕ). option_map (λ (x : Dscb). record { address = at m; content = Ok x }) (slice_get ds k)) (sym e)

pub held : (v : Vol) → AreHeld (address_in v) (slots_held v) v.slots.items
unfolding slots_held
held v k = let e : 0 + k ≡ k = omega arith in held_from (address_in v) 0 v.slots.items k ∙ ap (λ (m : ℕ). option_map (λ (x : Dscb). record { address = address_in v m; content = Ok x }) (slice_get v.slots.items k)) e

same_items : {X : Type 0} (xs ys : List X) → ((k : ℕ) → slice_get xs k ≡ slice_get ys k) → xs ≡ ys
same_items [] [] each = refl
same_items [] (y ∷ ys) each = let first = each 0 in absurd cc
same_items (x ∷ xs) [] each = let first = each 0 in absurd cc
same_items {X = X} (x ∷ xs) (y ∷ ys) each =
    let first : Some x ≡ Some y = each 0 in
    let one : x ≡ y = cc in
    ap (λ (z : X). z ∷ xs) one ∙ ap (λ (l : List X). y ∷ l) (same_items xs ys (λ k. each (suc k)))

-- they are those of the image
held_same : (image : List ℕ) (v : Vol) → IsIndexOf image v → slots_held v ≡ slots_of_vtoc image v.geometry v.vtoc
held_same image v index = same_items (slots_held v) (slots_of_vtoc image v.geometry v.vtoc) (λ k. held v k ∙ sym (held_slots image v index k))

pub settled_held : (image : List ℕ) (v : Vol) → IsMounted image v → are_settled (slots_held v) (entries_of (heads_of v.geometry) v.free.items) ≡ is_settled_vtoc image
unfolding is_settled_vtoc
settled_held image v mounted =
    let volume : Volume = volume_by image v.geometry v.vtoc in
    let ess : List (List (List ℕ)) = entries_of (heads_of v.geometry) v.free.items in
    let stands : StandsFor volume image v = record { mounted = mounted; same = refl } in
    let parts = stands_parts volume image v stands in
    let slots : slots_held v ≡ slots_for image volume =
    held_same image v mounted.index ∙ ap (λ (g : Geometry). slots_of_vtoc image g v.vtoc) parts.0 ∙ ap (slots_of_vtoc image volume.geometry) parts.1 in
    ap (λ (ss : List VtocSlot). are_settled ss ess) slots
    ∙ ap (are_settled (slots_for image volume)) (sym (stands_entries volume image v stands))
    ∙ sym (ap (are_settled_on image) mounted.volume)

-- the slots and the DSCBs
pub held_many : (v : Vol) → length (slots_held v) ≡ length v.slots.items
unfolding slots_held
held_many v = many (address_in v) 0 v.slots.items
  where
    many : (at : ℕ → List ℕ) (n : ℕ) (ds : List Dscb) → length (slots_from at n ds) ≡ length ds
    many at n [] = refl
    many at n (d ∷ ds) = ap suc (many at (n + 1) ds)

pub held_get : (v : Vol) (k : ℕ) (d : Dscb) → slice_get v.slots.items k ≡ Some d → slice_get (slots_held v) k ≡ Some (record { address = address_in v k; content = Ok d })
held_get v k d is = held v k ∙ ap (option_map (λ (x : Dscb). record { address = address_in v k; content = Ok x })) is

pub held_none : (v : Vol) (k : ℕ) → slice_get v.slots.items k ≡ None → slice_get (slots_held v) k ≡ None
held_none v k is = held v k ∙ ap (option_map (λ (x : Dscb). record { address = address_in v k; content = Ok x })) is

pub held_count : (q : Result Dscb DscbErr → Bool) (v : Vol) → count_by (λ (s : VtocSlot). q s.content) (slots_held v) ≡ count_by (λ (d : Dscb). q (Ok d)) v.slots.items
held_count q v = counts_alike (λ (s : VtocSlot). q s.content) (λ (d : Dscb). q (Ok d)) (slots_held v) v.slots.items (held_tests (address_in v) q (slots_held v) v.slots.items (held v))

pub held_highest : (v : Vol) → highest_among (address_in v) v.slots.items ≡ highest_of (slots_held v)
held_highest v = highest_held (address_in v) (slots_held v) v.slots.items (held v)

pub held_free : (v : Vol) (from : ℕ) → next_free (slots_held v) from ≡ next_open v.slots.items from
held_free v from = held_next (address_in v) (slots_held v) v.slots.items from (held v)

-- format 4
pub held_head : (v : Vol) → head_of (slots_held v) ≡ option_and_then (λ (d : Dscb). head_in (Ok d)) (slice_get v.slots.items 0)
held_head v = ap (option_and_then (λ (s : VtocSlot). head_in s.content)) (held v 0) ∙ by_item (slice_get v.slots.items 0)
  where
    by_item : (o : Option Dscb) → option_and_then (λ (s : VtocSlot). head_in s.content) (option_map (λ (d : Dscb). record { address = address_in v 0; content = Ok d }) o) ≡ option_and_then (λ (d : Dscb). head_in (Ok d)) o
    by_item None = refl
    by_item (Some d) = refl

-- format 3
any_alike : {X Y : Type 0} (p : X → Bool) (q : Y → Bool) (xs : List X) (ys : List Y) → map p xs ≡ map q ys → list_any p xs ≡ list_any q ys
any_alike p q [] [] same = refl
any_alike p q [] (y ∷ ys) same = absurd cc
any_alike p q (x ∷ xs) [] same = absurd cc
any_alike p q (x ∷ xs) (y ∷ ys) same =
    let one : p x ≡ q y = cc in
    let rest : map p xs ≡ map q ys = cc in
    ap (λ (t : Bool). t || list_any p xs) one ∙ ap (λ (t : Bool). q y || t) (any_alike p q xs ys rest)

same_test : (address : List ℕ) (s : VtocSlot) → s.address ≡ address → is_f3 s.content ≡ true → (ds : List Dscb) → map (λ (d : Dscb). leads_to (Ok d) s) ds ≡ map (points_to address) ds
same_test address s at third [] = refl
same_test address s at third (d ∷ ds) = ap (λ (t : Bool). t ∷ map (λ (x : Dscb). leads_to (Ok x) s) ds) (one d) ∙ ap (λ (l : List Bool). points_to address d ∷ l) (same_test address s at third ds)
  where
    and_true : (t : Bool) → (t && true) ≡ t
    and_true true = refl
    and_true false = refl

    one : (d : Dscb) → leads_to (Ok d) s ≡ points_to address d
    one formats.F0 = refl
    one (formats.F1 f) =
        ap (λ (t : Bool). is_chained f && (bytes_eq s.address f.pointer && t)) third
        ∙ ap (λ (t : Bool). is_chained f && t) (and_true (bytes_eq s.address f.pointer))
        ∙ ap (λ (a : List ℕ). is_chained f && bytes_eq a f.pointer) at
    one (formats.F3 f) = refl
    one (formats.F4 f) = refl
    one (formats.F5 f) = refl

pub held_used : (v : Vol) (k : ℕ) (d : Dscb) (s : VtocSlot) → slice_get v.slots.items k ≡ Some d → slice_get (slots_held v) k ≡ Some s → is_kept (slots_held v) s ≡ (not (is_f3 (Ok d)) || not (is_extra v.slots.items (address_in v k) d))
held_used v k d s there is =
    let both : Some s ≡ Some (record { address = address_in v k; content = Ok d }) = sym is ∙ held_get v k d there in
    let same : s ≡ record { address = address_in v k; content = Ok d } = cc in
    let address : s.address ≡ address_in v k = ap (λ (x : VtocSlot). x.address) same in
    let content : is_f3 s.content ≡ is_f3 (Ok d) = ap (λ (x : VtocSlot). is_f3 x.content) same in
    ap (λ (t : Bool). not t || is_used (slots_held v) s) content ∙ by_dscb d (address_in v k) address content
  where
    used : (address : List ℕ) → s.address ≡ address → is_f3 s.content ≡ true → is_used (slots_held v) s ≡ is_pointed v.slots.items address
    used address at third =
        any_alike (λ (t : VtocSlot). leads_to t.content s) (points_to address) (slots_held v) v.slots.items
        (held_tests (address_in v) (λ (c : Result Dscb DscbErr). leads_to c s) (slots_held v) v.slots.items (held v) ∙ same_test address s at third v.slots.items)

    twice : (t : Bool) → t ≡ not (not t)
    twice true = refl
    twice false = refl

    by_dscb : (d : Dscb) (address : List ℕ) → s.address ≡ address → is_f3 s.content ≡ is_f3 (Ok d) → (not (is_f3 (Ok d)) || is_used (slots_held v) s) ≡ (not (is_f3 (Ok d)) || not (is_extra v.slots.items address d))
    by_dscb formats.F0 address at third = refl
    by_dscb (formats.F1 f) address at third = refl
    by_dscb (formats.F3 f) address at third = used address at third ∙ twice (is_pointed v.slots.items address)
    by_dscb (formats.F4 f) address at third = refl
    by_dscb (formats.F5 f) address at third = refl

-- the walk over them
pub kept_more : (p : VtocSlot → Bool) (slots : List VtocSlot) (k : ℕ) (s : VtocSlot) → slice_get slots k ≡ Some s → list_all p (take k slots) ≡ true → p s ≡ true → list_all p (take (k + 1) slots) ≡ true
kept_more p [] k s is front holds = cc
kept_more p (x ∷ xs) zero s is front holds =
    let e : zero + 1 ≡ suc zero = omega arith in
    let same : x ≡ s = cc in
    ap (λ (n : ℕ). list_all p (take n (x ∷ xs))) e ∙ ap (λ (t : Bool). t && true) (ap p same ∙ holds)
kept_more p (x ∷ xs) (suc k) s is front holds =
    let e : suc k + 1 ≡ suc (k + 1) = omega arith in
    ap (λ (n : ℕ). list_all p (take n (x ∷ xs))) e ∙ by_test (p x) front (kept_more p xs k s is)
  where
    by_test : (t : Bool) → (t && list_all p (take k xs)) ≡ true → (list_all p (take k xs) ≡ true → p s ≡ true → list_all p (take (k + 1) xs) ≡ true) → (t && list_all p (take (k + 1) xs)) ≡ true
    by_test true front more = more front holds
    by_test false front more = cc

pub kept_none : (p : VtocSlot → Bool) (slots : List VtocSlot) (k : ℕ) (s : VtocSlot) → slice_get slots k ≡ Some s → p s ≡ false → list_all p slots ≡ false
kept_none p [] k s is fails = cc
kept_none p (x ∷ xs) zero s is fails =
    let same : x ≡ s = cc in
    ap (λ (t : Bool). t && list_all p xs) (ap p same ∙ fails)
kept_none p (x ∷ xs) (suc k) s is fails = ap (λ (t : Bool). p x && t) (kept_none p xs k s is fails) ∙ and_false (p x)
  where
    and_false : (t : Bool) → (t && false) ≡ false
    and_false true = refl
    and_false false = refl

-- the chain
chain_head : (slots : List VtocSlot) (k i : ℕ) (ess : List (List (List ℕ))) → i + 1 < length ess → is_chain slots k (drop i ess) ≡ option_map_or (λ (n : ℕ). is_chain slots n (drop (i + 1) ess)) (next_linked slots k (get_or ess i [])) false
unfolding is_chain
chain_head slots k i [] low = absurd (omega (arith, low))
chain_head slots k zero (es ∷ []) low = absurd (omega (arith, low))
chain_head slots k zero (es ∷ more ∷ others) low =
    let e : suc zero ≡ zero + 1 = omega arith in
    ap (λ (m : ℕ). option_map_or (λ (n : ℕ). is_chain slots n (drop m (es ∷ more ∷ others))) (next_linked slots k es) false) e
chain_head slots k (suc i) (es ∷ ess) low =
    let e : suc (i + 1) ≡ suc i + 1 = omega arith in
    chain_head slots k i ess (omega (arith, low))
    ∙ ap (λ (m : ℕ). option_map_or (λ (n : ℕ). is_chain slots n (drop m (es ∷ ess))) (next_linked slots k (get_or ess i [])) false) e

chain_tail : (slots : List VtocSlot) (k i : ℕ) (ess : List (List (List ℕ))) → i + 1 ≡ length ess → is_chain slots k (drop i ess) ≡ has_space slots k (get_or ess i []) (replicate 5 0)
unfolding is_chain
chain_tail slots k i [] last = absurd (omega (arith, last))
chain_tail slots k zero (es ∷ []) last = refl
chain_tail slots k zero (es ∷ more ∷ others) last = absurd (omega (arith, last))
chain_tail slots k (suc i) (es ∷ ess) last = chain_tail slots k i ess (omega (arith, last))

module _ (slots : List VtocSlot) (heads : ℕ) (runs : List Run) where
  abbrev ess : List (List (List ℕ))
  ess = entries_of heads runs

  linked : (k i : ℕ) → i + 1 < dscbs_for (length runs) → is_chain slots k (drop i ess) ≡ option_map_or (λ (n : ℕ). is_chain slots n (drop (i + 1) ess)) (next_linked slots k (entries_in heads runs i)) false
  linked k i low =
      chain_head slots k i ess (let many = entries_many heads runs in omega (arith, low, many))
      ∙ ap (λ (es : List (List ℕ)). option_map_or (λ (n : ℕ). is_chain slots n (drop (i + 1) ess)) (next_linked slots k es) false) (entries_at heads runs i (omega (arith, low)))

  -- the rest of the chain is told by that after the next slot
  pub chain_goes : (k i n : ℕ) → i + 1 < dscbs_for (length runs) → next_linked slots k (entries_in heads runs i) ≡ Some n → is_chain slots n (drop (i + 1) (entries_of heads runs)) ≡ is_chain slots k (drop i (entries_of heads runs))
  chain_goes k i n low next = sym (linked k i low ∙ ap (λ (o : Option ℕ). option_map_or (λ (m : ℕ). is_chain slots m (drop (i + 1) ess)) o false) next)

  pub chain_breaks : (k i : ℕ) → i + 1 < dscbs_for (length runs) → next_linked slots k (entries_in heads runs i) ≡ None → is_chain slots k (drop i (entries_of heads runs)) ≡ false
  chain_breaks k i low next = linked k i low ∙ ap (λ (o : Option ℕ). option_map_or (λ (m : ℕ). is_chain slots m (drop (i + 1) ess)) o false) next

  pub chain_ends : (k i : ℕ) → i + 1 ≡ dscbs_for (length runs) → is_chain slots k (drop i (entries_of heads runs)) ≡ has_space slots k (entries_in heads runs i) (replicate 5 0)
  chain_ends k i last =
      chain_tail slots k i ess (last ∙ sym (entries_many heads runs))
      ∙ ap (λ (es : List (List ℕ)). has_space slots k es (replicate 5 0)) (entries_at heads runs i (omega (arith, last)))

-- entries in two parts
pub parts_alike : (es bs xs ys : List (List ℕ)) → length es ≡ length xs → pointwise bytes_eq (es ++ bs) (xs ++ ys) ≡ (pointwise bytes_eq es xs && pointwise bytes_eq bs ys)
parts_alike [] bs [] ys same = refl
parts_alike [] bs (x ∷ xs) ys same = absurd (omega (arith, same))
parts_alike (e ∷ es) bs [] ys same = absurd (omega (arith, same))
parts_alike (e ∷ es) bs (x ∷ xs) ys same = by_test (bytes_eq e x) (parts_alike es bs xs ys (omega (arith, same)))
  where
    by_test : (t : Bool) → pointwise bytes_eq (es ++ bs) (xs ++ ys) ≡ (pointwise bytes_eq es xs && pointwise bytes_eq bs ys) → (t && pointwise bytes_eq (es ++ bs) (xs ++ ys)) ≡ ((t && pointwise bytes_eq es xs) && pointwise bytes_eq bs ys)
    by_test true rest = rest
    by_test false rest = refl

-- two DSCBs of format 5
lists_parts : (f w : F5) → length f.front ≡ length w.front → lists f (w.front ++ w.back) w.pointer ≡ ((pointwise bytes_eq f.front w.front && pointwise bytes_eq f.back w.back) && bytes_eq f.pointer w.pointer)
lists_parts f w many = ap (λ (t : Bool). t && bytes_eq f.pointer w.pointer) (parts_alike f.front f.back w.front w.back many)

pub lists_back : (f w : F5) → length f.front ≡ length w.front → bytes_eq f.pointer w.pointer ≡ true → pointwise bytes_eq f.front w.front ≡ true → pointwise bytes_eq f.back w.back ≡ lists f (w.front ++ w.back) w.pointer
lists_back f w many pointer front = sym (
    lists_parts f w many
    ∙ ap (λ (t : Bool). (t && pointwise bytes_eq f.back w.back) && bytes_eq f.pointer w.pointer) front
    ∙ ap (λ (t : Bool). pointwise bytes_eq f.back w.back && t) pointer
    ∙ and_true (pointwise bytes_eq f.back w.back))
  where
    and_true : (t : Bool) → (t && true) ≡ t
    and_true true = refl
    and_true false = refl

pub lists_not : (f w : F5) → length f.front ≡ length w.front → pointwise bytes_eq f.front w.front ≡ false → false ≡ lists f (w.front ++ w.back) w.pointer
lists_not f w many front = sym (lists_parts f w many ∙ ap (λ (t : Bool). (t && pointwise bytes_eq f.back w.back) && bytes_eq f.pointer w.pointer) front)

-- what tests of a format 4 tell
right_unmarked : (slots : List VtocSlot) (head : F4) → bit_and head.indicators 0x84 ≡ 0 → counts_match slots head ≡ ((head.free == count_by (λ (s : VtocSlot). is_f0 s.content) slots) && bytes_eq head.highest (highest_of slots))
right_unmarked slots head off = ap (λ (t : Bool). not (not t) && ((head.free == count_by (λ (s : VtocSlot). is_f0 s.content) slots) && bytes_eq head.highest (highest_of slots))) (eq-eqb (bit_and head.indicators 0x84) 0 off)

pub right_counted : (slots : List VtocSlot) (head : F4) → bit_and head.indicators 0x84 ≡ 0 → head.free ≡ count_by (λ (s : VtocSlot). is_f0 s.content) slots → bytes_eq head.highest (highest_of slots) ≡ counts_match slots head
right_counted slots head off free = sym (right_unmarked slots head off ∙ ap (λ (t : Bool). t && bytes_eq head.highest (highest_of slots)) (eq-eqb head.free (count_by (λ (s : VtocSlot). is_f0 s.content) slots) free))

pub right_miscounted : (slots : List VtocSlot) (head : F4) → bit_and head.indicators 0x84 ≡ 0 → head.free ≢ count_by (λ (s : VtocSlot). is_f0 s.content) slots → false ≡ counts_match slots head
right_miscounted slots head off free = sym (right_unmarked slots head off ∙ ap (λ (t : Bool). t && bytes_eq head.highest (highest_of slots)) (ne_eqb head.free (count_by (λ (s : VtocSlot). is_f0 s.content) slots) free))

-- the DSCBs of a chain in the slots
pub held_space : (v : Vol) (k : ℕ) (d : Dscb) (entries : List (List ℕ)) (pointer : List ℕ) → slice_get v.slots.items k ≡ Some d → has_space (slots_held v) k entries pointer ≡ is_space entries pointer (Ok d)
held_space v k d entries pointer is = ap (λ (o : Option VtocSlot). option_map_or (λ (s : VtocSlot). is_space entries pointer s.content) o false) (held_get v k d is)

pub held_no_space : (v : Vol) (k : ℕ) (entries : List (List ℕ)) (pointer : List ℕ) → slice_get v.slots.items k ≡ None → has_space (slots_held v) k entries pointer ≡ false
held_no_space v k entries pointer is = ap (λ (o : Option VtocSlot). option_map_or (λ (s : VtocSlot). is_space entries pointer s.content) o false) (held_none v k is)

pub held_next_linked : (v : Vol) (k n : ℕ) (entries : List (List ℕ)) (t : Bool) → next_free (slots_held v) (k + 1) ≡ Some n → n < length v.slots.items → t ≡ has_space (slots_held v) k entries (address_in v n) → cond t (Some n) None ≡ next_linked (slots_held v) k entries
held_next_linked v k n entries t free low has =
    let slots : List VtocSlot = slots_held v in
    let item = get_some v.slots.items n low in
    let leads : leads_on slots k entries n ≡ has_space slots k entries (address_in v n) = ap (λ (o : Option VtocSlot). option_map_or (λ (s : VtocSlot). has_space slots k entries s.address) o false) (held_get v n item.0 item.1) in
    let found : ℕ → Option ℕ = λ m. cond (leads_on slots k entries m) (Some m) None in
    sym (ap (option_and_then found) free ∙ ap (λ (b : Bool). cond b (Some n) None) (leads ∙ sym has))

pub held_not_linked : (v : Vol) (k : ℕ) (entries : List (List ℕ)) → next_free (slots_held v) (k + 1) ≡ None → next_linked (slots_held v) k entries ≡ None
held_not_linked v k entries free =
    let found : ℕ → Option ℕ = λ m. cond (leads_on (slots_held v) k entries m) (Some m) None in
    ap (option_and_then found) free

-- none is free after the last slot
pub none_past : (ds : List Dscb) (from : ℕ) → length ds ≤ from → next_open ds from ≡ None
none_past ds from high = ap (λ (l : List Dscb). option_map (λ (i : ℕ). from + i) (position is_open l)) (drop_all from ds high)

-- an item of a list
pub found_item : {X : Type 0} (xs : List X) (k : ℕ) (x : X) → k < length xs → x ≡ get_or xs k x → slice_get xs k ≡ Some x
found_item [] k x low is = absurd (omega (arith, low))
found_item (y ∷ xs) zero x low is = ap Some (sym is)
found_item (y ∷ xs) (suc k) x low is = found_item xs k x (omega (arith, low)) is

pub item_past : {X : Type 0} (xs : List X) (k : ℕ) → length xs ≤ k → slice_get xs k ≡ None
item_past [] k high = refl
item_past (x ∷ xs) zero high = absurd (omega (arith, high))
item_past (x ∷ xs) (suc k) high = item_past xs k (omega (arith, high))

pub kept_all : (p : VtocSlot → Bool) (slots : List VtocSlot) (k : ℕ) → length slots ≤ k → list_all p (take k slots) ≡ true → list_all p slots ≡ true
kept_all p slots k high all = ap (list_all p) (sym (take_all k slots high)) ∙ all

-- what is told of the parts is told of all
pub settled_parts : (slots : List VtocSlot) (ess : List (List (List ℕ))) (a b : Bool) → a ≡ has_head slots → b ≡ is_chain slots 1 ess → (a && (b && has_no_extra slots ess)) ≡ are_settled slots ess
unfolding are_settled
settled_parts slots ess a b head chain =
    ap (λ (t : Bool). t && (b && has_no_extra slots ess)) head ∙ ap (λ (t : Bool). has_head slots && (t && has_no_extra slots ess)) chain

pub extra_counted : (slots : List VtocSlot) (ess : List (List (List ℕ))) (n m : ℕ) → list_all (is_kept slots) slots ≡ true → n ≡ count_by (λ (s : VtocSlot). is_f5 s.content) slots → m ≡ length ess → (n == m) ≡ has_no_extra slots ess
extra_counted slots ess n m kept count many =
    ap (λ (x : ℕ). x == m) count
    ∙ ap (λ (x : ℕ). count_by (λ (s : VtocSlot). is_f5 s.content) slots == x) many
    ∙ sym (ap (λ (t : Bool). t && (count_by (λ (s : VtocSlot). is_f5 s.content) slots == length ess)) kept)
