-- A slot that belongs to nothing is cleared.
use Rattle.std.proofs.Common.{◌≡◌, ◌+◌, ◌≤◌, ◌<◌, ℕ, zero, suc, Bool, true, false, cond, not, ◌||◌, ◌&&◌, List, [], ◌∷◌, length, map, Option, Some, Result, Ok, Err, refl, sym, ap, subst, ◌∙◌, ⊎_elim, arith}
use Rattle.std.specs.Prelude.{get_or, nat_le, nat_lt, slice_get, slice_set, OnOk}
use Rattle.std.proofs.lemmas.Bool.Decides.{nat_tests}
use Rattle.std.specs.List.{list_any}
use Rattle.std.specs.Option.{option_map}
use Rattle.std.specs.Str.{bytes_eq}
use Rattle.std.proofs.lemmas.List.{length-map}
use Rattle.std.proofs.lemmas.Option.{slice_get-get_or}
use Rattle.dscb_codec.specs.declared.Dscb.{Dscb}
use Rattle.dscb_codec.specs.declared.Dscb.TheVariants as formats
use Rattle.dscb_codec.specs.declared.DscbErr.{DscbErr}
use Rattle.stop_model.specs.Blocks.{Keeps}
use Rattle.stop_model.specs.Files.{File, file_of, written, AfterWrite}
use Rattle.stop_model.specs.Moments.{Meaning}
use Rattle.stop_model.proofs.BlockLemmas.{keeps_more, keeps_none, keeps_then, pends_of_write}
use Rattle.pack_spec.specs.declared.slot.VtocSlot.{VtocSlot}
use Rattle.pack_spec.specs.Alike.{AreAlike, has_no_part, is_blank}
use Rattle.pack_spec.specs.Rules.{is_chained, is_f3}
use Rattle.pack_spec.specs.Settled.{is_used, leads_to}
use Rattle.pack_spec.specs.Slots.{slots_of_vtoc}
use Rattle.vtoc_index.specs.declared.vol.Vol.{Vol}
use Rattle.vtoc_index.specs.Index.{IsIndexOf, address_in, place_of_slot}
use Rattle.vtoc_index.specs.Puts.{AfterPut}
use Rattle.free_rebuild.specs.Clearing.{AreCleared, clear_at, is_extra, is_extra_at, is_pointed, points_to}
use Rattle.free_rebuild.specs.Stops.{AreAlikeTo, KeepsAlike}
use Rattle.free_rebuild.proofs.AddressLemmas.{held_slots}
use Rattle.free_rebuild.proofs.ChainLemmas.{AreHeld, get_low}
use Rattle.free_rebuild.proofs.ClearedLemmas.{cleared_kept, cleared_more}
use Rattle.free_rebuild.proofs.PutLemmas.{put_changed}
use Rattle.free_rebuild.proofs.SettledLemmas.{held_tests}
use Rattle.free_rebuild.proofs.WriteLemmas.{none_leads}

-- what has no part by itself leads nowhere
blank_leads : (k : ℕ) (c : Result Dscb DscbErr) (s : VtocSlot) → is_blank k c ≡ true → leads_to c s ≡ false
blank_leads k (Ok formats.F0) s is = refl
blank_leads zero (Ok (formats.F1 f)) s is = cc
blank_leads (suc zero) (Ok (formats.F1 f)) s is = cc
blank_leads (suc (suc k)) (Ok (formats.F1 f)) s is = cc
blank_leads k (Ok (formats.F3 f)) s is = refl
blank_leads k (Ok (formats.F4 f)) s is = refl
blank_leads k (Ok (formats.F5 f)) s is = refl
blank_leads k (Err e) s is = refl

any_alike : {X : Type 0} (p : X → Bool) (ys zs : List X) → length zs ≡ length ys → ((k : ℕ) (a b : X) → slice_get ys k ≡ Some a → slice_get zs k ≡ Some b → p b ≡ p a) → list_any p zs ≡ list_any p ys
any_alike p [] [] size each = refl
any_alike p [] (b ∷ zs) size each = absurd (omega (arith, size))
any_alike p (a ∷ ys) [] size each = absurd (omega (arith, size))
any_alike p (a ∷ ys) (b ∷ zs) size each = ap (λ (t : Bool). t || list_any p zs) (each 0 a b refl refl) ∙ ap (λ (t : Bool). p a || t) (any_alike p ys zs (omega (arith, size)) (λ k x y is_x is_y. each (suc k) x y is_x is_y))

both_parts : (t u : Bool) → (t && not u) ≡ true → (t ≡ true) × (u ≡ false)
both_parts true true e = cc
both_parts true false e = (refl, refl)
both_parts false u e = cc

address_at : (y z : List VtocSlot) (k : ℕ) (s t : VtocSlot) → map (λ (x : VtocSlot). x.address) z ≡ map (λ (x : VtocSlot). x.address) y → slice_get y k ≡ Some s → slice_get z k ≡ Some t → t.address ≡ s.address
address_at [] z k s t same is_s is_t = cc
address_at (a ∷ y) [] k s t same is_s is_t = cc
address_at (a ∷ y) (b ∷ z) zero s t same is_s is_t =
    let one : a ≡ s = cc in
    let two : b ≡ t = cc in
    let address : b.address ≡ a.address = cc in
    ap (λ (x : VtocSlot). x.address) (sym two) ∙ address ∙ ap (λ (x : VtocSlot). x.address) one
address_at (a ∷ y) (b ∷ z) (suc k) s t same is_s is_t =
    let rest : map (λ (x : VtocSlot). x.address) z ≡ map (λ (x : VtocSlot). x.address) y = cc in
    address_at y z k s t rest is_s is_t

-- what has no part now had none before
pub part_alike : (y z : List VtocSlot) (k : ℕ) (s t : VtocSlot) → AreAlike y z → slice_get y k ≡ Some s → slice_get z k ≡ Some t → has_no_part z k t ≡ true → has_no_part y k s ≡ true
part_alike y z k s t alike is_s is_t none = ⊎_elim
    (λ same.
    let address : VtocSlot → List ℕ = λ x. x.address in
    let parts = both_parts (is_blank k t.content) (is_used z t) none in
    let one : t ≡ s = ap (λ (a : List ℕ). record { address = a; content = t.content }) (address_at y z k s t alike.addresses is_s is_t) ∙ ap (λ (c : Result Dscb DscbErr). record { address = s.address; content = c }) same in
    let size : length z ≡ length y = sym (length-map z address) ∙ ap length alike.addresses ∙ length-map y address in
    let used : is_used z s ≡ is_used y s = any_alike (λ (x : VtocSlot). leads_to x.content s) y z size (λ j a b is_a is_b. ⊎_elim (λ eq. ap (λ (c : Result Dscb DscbErr). leads_to c s) eq) (λ both. blank_leads j b.content s both.1 ∙ sym (blank_leads j a.content s (both_parts (is_blank j a.content) (is_used y a) both.0).0)) (alike.each j a b is_a is_b)) in
    let free : is_used y s ≡ false = sym used ∙ ap (is_used z) (sym one) ∙ parts.1 in
    ap (λ (b : Bool). b && not (is_used y s)) (ap (λ (x : VtocSlot). is_blank k x.content) (sym one) ∙ parts.0) ∙ ap not free)
    (λ both. both.0)
    (alike.each k s t is_s is_t)

-- where a format 3 is used, its address is pointed at
pub used_pointed : (at : ℕ → List ℕ) (z : List VtocSlot) (ds : List Dscb) (t : VtocSlot) → AreHeld at z ds → is_f3 t.content ≡ true → is_used z t ≡ is_pointed ds t.address
used_pointed at z ds t held third =
    let leads : Result Dscb DscbErr → Bool = λ c. leads_to c t in
    by_map z ds (held_tests at leads z ds held)
  where
    and_true : (b : Bool) → (b && true) ≡ b
    and_true true = refl
    and_true false = refl

    points : (d : Dscb) → leads_to (Ok d) t ≡ points_to t.address d
    points formats.F0 = refl
    points (formats.F1 f) = ap (λ (b : Bool). is_chained f && (bytes_eq t.address f.pointer && b)) third ∙ ap (λ (b : Bool). is_chained f && b) (and_true (bytes_eq t.address f.pointer))
    points (formats.F3 f) = refl
    points (formats.F4 f) = refl
    points (formats.F5 f) = refl

    by_map : (ss : List VtocSlot) (es : List Dscb) → map (λ (s : VtocSlot). leads_to s.content t) ss ≡ map (λ (d : Dscb). leads_to (Ok d) t) es → list_any (λ (s : VtocSlot). leads_to s.content t) ss ≡ list_any (points_to t.address) es
    by_map [] [] same = refl
    by_map [] (e ∷ es) same = absurd cc
    by_map (s ∷ ss) [] same = absurd cc
    by_map (s ∷ ss) (e ∷ es) same =
        let one : leads_to s.content t ≡ leads_to (Ok e) t = cc in
        let rest : map (λ (x : VtocSlot). leads_to x.content t) ss ≡ map (λ (d : Dscb). leads_to (Ok d) t) es = cc in
        ap (λ (b : Bool). b || list_any (λ (x : VtocSlot). leads_to x.content t) ss) (one ∙ points e) ∙ ap (λ (b : Bool). points_to t.address e || b) (by_map ss es rest)

-- what belongs to nothing has no part
extra_part : (at : ℕ → List ℕ) (z : List VtocSlot) (ds : List Dscb) (k : ℕ) (d : Dscb) (t : VtocSlot) → AreHeld at z ds → 2 ≤ k → t ≡ record { address = at k; content = Ok d } → is_extra ds (at k) d ≡ true → has_no_part z k t ≡ true
extra_part at z ds zero d t held two is extra = absurd (omega (arith, two))
extra_part at z ds (suc zero) d t held two is extra = absurd (omega (arith, two))
extra_part at z ds (suc (suc k)) d t held two is extra = by_dscb d is extra
  where
    n : ℕ
    n = suc (suc k)

    not_true : (b : Bool) → not b ≡ true → b ≡ false
    not_true true e = cc
    not_true false e = refl

    by_dscb : (d : Dscb) → t ≡ record { address = at n; content = Ok d } → is_extra ds (at n) d ≡ true → has_no_part z n t ≡ true
    by_dscb formats.F0 is extra = cc
    by_dscb (formats.F1 f) is extra = cc
    by_dscb (formats.F3 f) is extra =
        let third : is_f3 t.content ≡ true = ap (λ (x : VtocSlot). is_f3 x.content) is in
        let unpointed : is_pointed ds (at n) ≡ false = not_true (is_pointed ds (at n)) extra in
        let free : is_used z t ≡ false = used_pointed at z ds t held third ∙ ap (λ (x : VtocSlot). is_pointed ds x.address) is ∙ unpointed in
        ap (λ (x : VtocSlot). is_blank n x.content && not (is_used z t)) is ∙ ap not free
    by_dscb (formats.F4 f) is extra = cc
    by_dscb (formats.F5 f) is extra =
        let third : is_f3 t.content ≡ false = ap (λ (x : VtocSlot). is_f3 x.content) is in
        ap (λ (x : VtocSlot). is_blank n x.content && not (is_used z t)) is ∙ ap not (none_leads z t third)

-- a cleared slot keeps what a stop leaves alike
pub clear_keeps : {T E : Type 0} (name : List ℕ) (v' new_v : Vol) (slot : ℕ) (image put : List ℕ) {m new : Meaning (List File)} {result : Result T E} → AfterPut name v' slot formats.F0 new_v image put m new result → m.left m.state → file_of m.state name ≡ Some image → IsIndexOf image v' → 2 ≤ slot → slot < length v'.slots.items → is_extra_at (address_in v' slot) v'.slots.items slot ≡ true → KeepsAlike name v' m new result
clear_keeps name v' new_v slot image put {m = m} {new = new} {result = result} after here there index two low extra v y before others found during =
    let state = during m.state here in
    let same : state.bytes ≡ image = let both : Some state.bytes ≡ Some image = sym state.there ∙ there in cc in
    let geometry : slots_of_vtoc image v'.geometry v'.vtoc ≡ slots_of_vtoc image v.geometry v.vtoc = ap (λ (x : Vol). slots_of_vtoc image x.geometry x.vtoc) others in
    let z : List VtocSlot = slots_of_vtoc image v.geometry v.vtoc in
    let alike : AreAlike (slots_of_vtoc y v.geometry v.vtoc) z = subst (λ (b : List ℕ). AreAlike (slots_of_vtoc y v.geometry v.vtoc) (slots_of_vtoc b v.geometry v.vtoc)) same state.alike.slots in
    let ds : List Dscb = v'.slots.items in
    let held : AreHeld (address_in v') z ds = subst (λ (ss : List VtocSlot). AreHeld (address_in v') ss ds) geometry (held_slots image v' index) in
    let d : Dscb = get_or ds slot formats.F0 in
    let item : slice_get ds slot ≡ Some d = slice_get-get_or ds slot formats.F0 low in
    let t : VtocSlot = record { address = address_in v' slot; content = Ok d } in
    let is_t : slice_get z slot ≡ Some t = held slot ∙ ap (λ (o : Option Dscb). option_map (λ (x : Dscb). record { address = address_in v' slot; content = Ok x }) o) item in
    let none : has_no_part z slot t ≡ true = extra_part (address_in v') z ds slot d t held two refl extra in
    let address : VtocSlot → List ℕ = λ s. s.address in
    let many : length z ≡ length (slots_of_vtoc y v.geometry v.vtoc) = sym (length-map z address) ∙ ap length alike.addresses ∙ length-map (slots_of_vtoc y v.geometry v.vtoc) address in
    let inside : slot < length (slots_of_vtoc y v.geometry v.vtoc) = let there = get_low z slot t is_t in omega (arith, there, many) in
    let place : place_of_slot v' slot ≡ place_of_slot v slot = ap (λ (x : Vol). place_of_slot x slot) others in
    let write : AfterWrite name (place_of_slot v slot) after.bytes m new result = subst (λ (n : ℕ). AfterWrite name n after.bytes m new result) place after.write in
    let kept : Keeps (AreAlikeTo name v y before) (written m.state name (place_of_slot v slot) after.bytes) m new result = keeps_more (keeps_none {E = Unit {0}} (AreAlikeTo name v y before) m during) (pends_of_write write)
    (λ files all. put_changed name v y before files slot formats.F0 after.bytes all found (λ e. omega (arith, e, two)) inside after.dscb after.size (λ s is_s. part_alike (slots_of_vtoc y v.geometry v.vtoc) z slot s t alike is_s is_t none) (zeros slot two)) in
    record { printed = kept.printed; done = always result; left = kept.left; moments = kept.moments }
  where
    zeros : (k : ℕ) → 2 ≤ k → is_blank k (Ok formats.F0) ≡ true
    zeros zero two = absurd (omega (arith, two))
    zeros (suc zero) two = absurd (omega (arith, two))
    zeros (suc (suc k)) two = refl

    always : {T E : Type 0} (r : Result T E) → OnOk r (new.state ≡ new.state)
    always (Ok x) = refl
    always (Err e) = tt

-- one slot more is cleared, or stands
pub cleared_step : (at : ℕ → List ℕ) (i : ℕ) (ds es : List Dscb) → 2 ≤ i → i < length es → AreCleared at i ds es → AreCleared at (i + 1) ds (clear_at (at i) es i)
cleared_step at i ds es two low cleared = by_extra (is_extra_at (at i) es i) refl
  where
    item : slice_get es i ≡ Some (get_or es i formats.F0)
    item = slice_get-get_or es i formats.F0 low

    by_extra : (t : Bool) → is_extra_at (at i) es i ≡ t → AreCleared at (i + 1) ds (cond t (slice_set es i formats.F0) es)
    by_extra true extra = cleared_more at i ds es (get_or es i formats.F0) two cleared item extra
    by_extra false extra = cleared_kept at i ds es (get_or es i formats.F0) cleared item extra

-- where all slots are reached, those up to the last are cleared
pub cleared_upto : (at : ℕ → List ℕ) (n : ℕ) (ds es : List Dscb) → length ds ≤ n → AreCleared at n ds es → AreCleared at (length ds) ds es
cleared_upto at n ds es high cleared = record {
  size = cleared.size;
  each = λ k d is. cleared.each k d is ∙ ap (λ (t : Bool). Some (cond (nat_le 2 k && (t && is_extra ds (at k) d)) formats.F0 d)) (reached k (length ds) (get_low ds k d is) high);
}
  where
    reached : (k m : ℕ) → k < m → m ≤ n → nat_lt k n ≡ nat_lt k m
    reached k m low high = grind (arith, nat_tests)

-- calls one after another
pub told_then : {A B T E : Type 0} (name : List ℕ) (start v1 : Vol) {m0 m1 new : Meaning (List File)} {a : A} {result : Result T E} → KeepsAlike {T = A} {E = B} name start m0 m1 (Ok a) → v1 ≡ record start { slots = v1.slots; buf = v1.buf } → KeepsAlike name v1 m1 new result → KeepsAlike name start m0 new result
told_then name start v1 one mine two v y before others found during =
    let first = one v y before others found during in
    keeps_then first (two v y before (mine ∙ ap (λ (x : Vol). record x { slots = v1.slots; buf = v1.buf }) others) found first.left)
