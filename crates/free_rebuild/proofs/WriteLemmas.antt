-- Slots without a part that are put, one after another, while writes are pending.
use Rattle.std.proofs.Common.{◌≡◌, ◌+◌, ◌≤◌, ◌<◌, ℕ, zero, suc, Bool, true, false, cond, not, ◌||◌, ◌&&◌, List, [], ◌∷◌, length, drop, Option, Some, None, Result, Ok, Err, refl, sym, ap, subst, ◌∙◌, ⊎_elim, arith}
use Rattle.std.specs.Prelude.{get_or, nat_lt, replicate, slice_get, slice_set, unwrap_or, IsErr, OnOk}
use Rattle.std.specs.Str.{bytes_eq}
use Rattle.std.proofs.lemmas.Bool.{ltb-false, ltb-true}
use Rattle.std.proofs.lemmas.List.{length-map}
use Rattle.dscb_codec.specs.declared.Dscb.{Dscb}
use Rattle.dscb_codec.specs.declared.Dscb.TheVariants as formats
use Rattle.dscb_codec.specs.declared.DscbErr.{DscbErr}
use Rattle.stop_model.specs.Blocks.{Keeps}
use Rattle.stop_model.specs.Files.{File, file_of, written, AfterWrite}
use Rattle.stop_model.specs.Moments.{Meaning}
use Rattle.stop_model.proofs.BlockLemmas.{keeps_more, keeps_none, keeps_not, keeps_then, pends_of_write}
use Rattle.pack_spec.specs.declared.slot.VtocSlot.{VtocSlot}
use Rattle.pack_spec.specs.Alike.{AreAlike, has_no_part, is_blank}
use Rattle.pack_spec.specs.Rules.{is_chained, is_f3, is_f5_or_f0}
use Rattle.pack_spec.specs.Settled.{is_used, leads_to}
use Rattle.pack_spec.specs.Slots.{slots_of_vtoc}
use Rattle.vtoc_index.specs.declared.vol.Vol.{Vol}
use Rattle.vtoc_index.specs.Index.{AreDscbs, IsIndexOf, place_of_slot}
use Rattle.vtoc_index.specs.Puts.{AfterPut}
use Rattle.vtoc_index.proofs.HeldDscbs.{dscbs_many}
use Rattle.free_rebuild.specs.Chain.{IsOpenAt, chained, is_open, next_open, next_or, space_of}
use Rattle.free_rebuild.specs.Stops.{AreAlikeTo, KeepsAlike}
use Rattle.free_rebuild.proofs.AddressLemmas.{content_of}
use Rattle.free_rebuild.proofs.ChainLemmas.{get_low, get_set, get_set_other, get_some, next_there, same_or_not}
use Rattle.free_rebuild.proofs.PutLemmas.{put_changed}
use Rattle.free_rebuild.proofs.SettledLemmas.{next_above}
use Rattle.std.proofs.lemmas.List.FromFn.{get_or-map-range_with_len, length-map-range_with_len}
use Rattle.hall_core.specs.Facts.{Attached, DeviceCall, Facts, unit_of}
use Rattle.hall_core.specs.Images.{AreWhole}
use Rattle.pack_spec.specs.FreeChain.{dscbs_for, entries_in, entries_of}
use Rattle.vol_model.specs.declared.contents.Run.{Run}

-- a slot that isn't of format 3 is used by none
pub none_leads : (ss : List VtocSlot) (s : VtocSlot) → is_f3 s.content ≡ false → is_used ss s ≡ false
none_leads [] s other = refl
none_leads (t ∷ ss) s other = ap (λ (b : Bool). b || is_used ss s) (not_led t.content) ∙ none_leads ss s other
  where
    and_false : (b : Bool) → (b && false) ≡ false
    and_false true = refl
    and_false false = refl

    not_led : (c : Result Dscb DscbErr) → leads_to c s ≡ false
    not_led (Ok formats.F0) = refl
    not_led (Ok (formats.F1 f)) = ap (λ (b : Bool). is_chained f && (bytes_eq s.address f.pointer && b)) other ∙ ap (λ (b : Bool). is_chained f && b) (and_false (bytes_eq s.address f.pointer)) ∙ and_false (is_chained f)
    not_led (Ok (formats.F3 f)) = refl
    not_led (Ok (formats.F4 f)) = refl
    not_led (Ok (formats.F5 f)) = refl
    not_led (Err e) = refl

-- what is open isn't of format 3, and has no part
open_third : (c : Result Dscb DscbErr) → is_f5_or_f0 c ≡ true → is_f3 c ≡ false
open_third (Ok formats.F0) opened = refl
open_third (Ok (formats.F1 f)) opened = cc
open_third (Ok (formats.F3 f)) opened = cc
open_third (Ok (formats.F4 f)) opened = cc
open_third (Ok (formats.F5 f)) opened = refl
open_third (Err e) opened = cc

pub open_blank : (k : ℕ) (c : Result Dscb DscbErr) → 1 ≤ k → is_f5_or_f0 c ≡ true → is_blank k c ≡ true
open_blank zero c some opened = absurd (omega (arith, some))
open_blank (suc zero) c some opened = opened
open_blank (suc (suc k)) c some opened = ap (λ (b : Bool). b || is_f3 c) opened

-- a slot that is open now had no part before
open_part : (y z : List VtocSlot) (k : ℕ) (d : Dscb) (t : VtocSlot) → AreAlike y z → 1 ≤ k → slice_get z k ≡ Some t → t.content ≡ Ok d → is_open d ≡ true → (s : VtocSlot) → slice_get y k ≡ Some s → has_no_part y k s ≡ true
open_part y z k d t alike some is_t content opened s is_s = ⊎_elim
    (λ same.
    let here : is_f5_or_f0 s.content ≡ true = ap is_f5_or_f0 (sym same ∙ content) ∙ opened in
    ap (λ (b : Bool). b && not (is_used y s)) (open_blank k s.content some here) ∙ ap not (none_leads y s (open_third s.content here)))
    (λ both. both.0)
    (alike.each k s t is_s is_t)

-- one slot that is put keeps what a stop leaves alike
pub put_keeps : {T E : Type 0} (name : List ℕ) (v' new_v : Vol) (slot : ℕ) (d : Dscb) (image put : List ℕ) {m new : Meaning (List File)} {result : Result T E} → AfterPut name v' slot d new_v image put m new result → m.left m.state → file_of m.state name ≡ Some image → IsIndexOf image v' → 1 ≤ slot → IsOpenAt v'.slots.items slot → is_open d ≡ true → KeepsAlike name v' m new result
put_keeps name v' new_v slot d image put {m = m} {new = new} {result = result} after here there index some opened blank v y before others found during =
    let state = during m.state here in
    let same : state.bytes ≡ image = let both : Some state.bytes ≡ Some image = sym state.there ∙ there in cc in
    let geometry : slots_of_vtoc image v'.geometry v'.vtoc ≡ slots_of_vtoc image v.geometry v.vtoc = ap (λ (x : Vol). slots_of_vtoc image x.geometry x.vtoc) others in
    let z : List VtocSlot = slots_of_vtoc image v.geometry v.vtoc in
    let alike : AreAlike (slots_of_vtoc y v.geometry v.vtoc) z = subst (λ (b : List ℕ). AreAlike (slots_of_vtoc y v.geometry v.vtoc) (slots_of_vtoc b v.geometry v.vtoc)) same state.alike.slots in
    let held : AreDscbs v'.slots.items z = subst (AreDscbs v'.slots.items) geometry index.slots in
    let low : slot < length z = let inside = get_low v'.slots.items slot opened.0 opened.1 in omega (arith, inside, dscbs_many v'.slots.items z held) in
    let t = get_some z slot low in
    let content = content_of v'.slots.items z slot t.0 held t.1 in
    let is : content.0 ≡ opened.0 = let both : Some content.0 ≡ Some opened.0 = sym content.1 ∙ opened.1 in cc in
    let part = open_part (slots_of_vtoc y v.geometry v.vtoc) z slot opened.0 t.0 alike some t.1 (content.2 ∙ ap (λ (x : Dscb). Ok x) is) opened.2 in
    let address : VtocSlot → List ℕ = λ s. s.address in
    let many : length z ≡ length (slots_of_vtoc y v.geometry v.vtoc) = sym (length-map z address) ∙ ap length alike.addresses ∙ length-map (slots_of_vtoc y v.geometry v.vtoc) address in
    let place : place_of_slot v' slot ≡ place_of_slot v slot = ap (λ (x : Vol). place_of_slot x slot) others in
    let write : AfterWrite name (place_of_slot v slot) after.bytes m new result = subst (λ (n : ℕ). AfterWrite name n after.bytes m new result) place after.write in
    let w : List File → List File = λ files. written files name (place_of_slot v slot) after.bytes in
    let kept : Keeps (AreAlikeTo name v y before) (w m.state) m new result = keeps_more (keeps_none {E = Unit {0}} (AreAlikeTo name v y before) m during) (pends_of_write write)
    (λ files all. put_changed name v y before files slot d after.bytes all found (λ e. omega (arith, e, some)) (omega (arith, low, many)) after.dscb after.size part (open_blank slot (Ok d) some blank)) in
    by_state kept
  where
    by_state : {w : List File} → Keeps (AreAlikeTo name v y before) w m new result → Keeps (AreAlikeTo name v y before) new.state m new result
    by_state kept = record { printed = kept.printed; done = always result; left = kept.left; moments = kept.moments }
      where
        always : {T E : Type 0} (r : Result T E) → OnOk r (new.state ≡ new.state)
        always (Ok x) = refl
        always (Err e) = tt

-- the next slot of a chain is open, since that of the last one is
pub next_opened : (ds : List Dscb) (k : ℕ) → IsOpenAt ds k → IsOpenAt ds (next_or ds k)
next_opened ds k opened = by_next (next_open ds (k + 1)) refl
  where
    by_next : (o : Option ℕ) → next_open ds (k + 1) ≡ o → IsOpenAt ds (unwrap_or o k)
    by_next None is = opened
    by_next (Some n) is = let next = next_there ds (k + 1) n is in (next.there, next.at, next.is_open)

-- and stays so where a format 5 is put
pub opened_set : (ds : List Dscb) (k j : ℕ) (e : Dscb) → k < length ds → is_open e ≡ true → IsOpenAt ds j → IsOpenAt (slice_set ds k e) j
opened_set ds k j e low five opened = ⊎_elim
    (λ here. (e, ap (slice_get (slice_set ds k e)) here ∙ get_set ds k e low, five))
    (λ other. (opened.0, get_set_other ds k j e other ∙ opened.1, opened.2))
    (same_or_not j k)

-- a slot more is put
pub told_step : {A B T E : Type 0} (name : List ℕ) (start v1 v2 : Vol) (slot : ℕ) (d : Dscb) (image put : List ℕ) {m0 m1 new : Meaning (List File)} {a : A} {result : Result T E} → KeepsAlike {T = A} {E = B} name start m0 m1 (Ok a) → v1 ≡ record start { slots = v1.slots; buf = v1.buf } → AfterPut name v1 slot d v2 image put m1 new result → m1.left m1.state → file_of m1.state name ≡ Some image → IsIndexOf image v1 → 1 ≤ slot → IsOpenAt v1.slots.items slot → is_open d ≡ true → KeepsAlike name start m0 new result
told_step name start v1 v2 slot d image put one mine after here there index some opened blank v y before others found during =
    let first = one v y before others found during in
    let more : v1 ≡ record v { slots = v1.slots; buf = v1.buf } = mine ∙ ap (λ (x : Vol). record x { slots = v1.slots; buf = v1.buf }) others in
    keeps_then first (put_keeps name v1 v2 slot d image put after here there index some opened blank v y before more found first.left)

-- no slot so far
pub told_none : {E : Type 0} (name : List ℕ) (start : Vol) (m : Meaning (List File)) → KeepsAlike {T = Unit {0}} {E = E} name start m m (Ok tt)
told_none name start m v y before others found during = keeps_none (AreAlikeTo name v y before) m during

-- an answer of the caller's own
pub told_not : {T E A B : Type 0} (name : List ℕ) (start : Vol) {m new : Meaning (List File)} {result : Result T E} (answer : Result A B) → IsErr answer → KeepsAlike name start m new result → KeepsAlike name start m new answer
told_not name start answer failed call v y before others found during = keeps_not answer failed (call v y before others found during)

pub told_done : {T E A B : Type 0} (name : List ℕ) (start : Vol) {m new : Meaning (List File)} {x : T} (a : A) → KeepsAlike {T = T} {E = E} name start m new (Ok x) → KeepsAlike {T = A} {E = B} name start m new (Ok a)
told_done name start a call v y before others found during = let kept = call v y before others found during in record { printed = kept.printed; done = kept.done; left = kept.left; moments = kept.moments }

drop-cons-at : (i : ℕ) (xs : List (List (List ℕ))) → i < length xs → drop i xs ≡ get_or xs i [] ∷ drop (i + 1) xs
drop-cons-at i [] low = absurd (omega (arith, low))
drop-cons-at zero (x ∷ xs) low = let e : zero + 1 ≡ suc zero = omega arith in ap (λ (l : List (List (List ℕ))). x ∷ l) (sym (none xs))
  where
    none : (ys : List (List (List ℕ))) → drop 0 ys ≡ ys
    none [] = refl
    none (y ∷ ys) = refl
drop-cons-at (suc i) (x ∷ xs) low = let e : suc i + 1 ≡ suc (i + 1) = omega arith in drop-cons-at i xs (omega (arith, low)) ∙ ap (λ (n : ℕ). get_or xs i [] ∷ drop n (x ∷ xs)) (sym e)

-- one DSCB of the chain more
pub chain_step : (at : ℕ → List ℕ) (ds : List Dscb) (slot i next : ℕ) (ess : List (List (List ℕ))) (d : Dscb) (t : Bool) → i < length ess → nat_lt (i + 1) (length ess) ≡ t → next ≡ cond t (next_or ds slot) slot → d ≡ space_of (get_or ess i []) (cond t (at next) (replicate 5 0)) → chained at (slice_set ds slot d) next (drop (i + 1) ess) ≡ chained at ds slot (drop i ess)
chain_step at ds slot i next ess d true low test to is =
    let es : List (List ℕ) = get_or ess i [] in
    let more : i + 1 < length ess = ltb-true (i + 1) (length ess) test in
    let one : drop i ess ≡ es ∷ drop (i + 1) ess = front i ess low in
    let two : drop (i + 1) ess ≡ get_or ess (i + 1) [] ∷ drop (i + 1 + 1) ess = front (i + 1) ess more in
    let whole : drop i ess ≡ es ∷ get_or ess (i + 1) [] ∷ drop (i + 1 + 1) ess = one ∙ ap (λ (l : List (List (List ℕ))). es ∷ l) two in
    ap (λ (l : List (List (List ℕ))). chained at (slice_set ds slot d) next l) two
    ∙ ap (λ (e : Dscb). chained at (slice_set ds slot e) next (get_or ess (i + 1) [] ∷ drop (i + 1 + 1) ess)) is
    ∙ ap (λ (n : ℕ). chained at (slice_set ds slot (space_of es (at n))) n (get_or ess (i + 1) [] ∷ drop (i + 1 + 1) ess)) to
    ∙ sym (ap (chained at ds slot) whole)
  where
    front : (i : ℕ) (xs : List (List (List ℕ))) → i < length xs → drop i xs ≡ get_or xs i [] ∷ drop (i + 1) xs
    front i xs low = drop-cons-at i xs low
chain_step at ds slot i next ess d false low test to is =
    let es : List (List ℕ) = get_or ess i [] in
    let none : drop (i + 1) ess ≡ [] = past (i + 1) ess (ltb-false (i + 1) (length ess) test) in
    let one : drop i ess ≡ es ∷ [] = drop-cons-at i ess low ∙ ap (λ (l : List (List (List ℕ))). es ∷ l) none in
    ap (λ (l : List (List (List ℕ))). chained at (slice_set ds slot d) next l) none
    ∙ ap (λ (e : Dscb). slice_set ds slot e) is
    ∙ sym (ap (chained at ds slot) one)
  where
    past : {X : Type 0} (n : ℕ) (xs : List X) → length xs ≤ n → drop n xs ≡ []
    past zero [] high = refl
    past (suc n) [] high = refl
    past zero (x ∷ xs) high = absurd (omega (arith, high))
    past (suc n) (x ∷ xs) high = past n xs (omega (arith, high))

-- where a chain goes on
pub chosen_above : (ds : List Dscb) (slot next : ℕ) (t : Bool) → next ≡ cond t (next_or ds slot) slot → 1 ≤ slot → 1 ≤ next
chosen_above ds slot next true is some = let above = next_above ds slot in omega (arith, above, is, some)
chosen_above ds slot next false is some = omega (arith, is, some)

pub chosen_opened : (ds : List Dscb) (slot next : ℕ) (t : Bool) → next ≡ cond t (next_or ds slot) slot → IsOpenAt ds slot → IsOpenAt ds next
chosen_opened ds slot next true is opened = subst (IsOpenAt ds) (sym is) (next_opened ds slot opened)
chosen_opened ds slot next false is opened = subst (IsOpenAt ds) (sym is) opened

-- the DSCBs of a chain
pub entries_many : (heads : ℕ) (runs : List Run) → length (entries_of heads runs) ≡ dscbs_for (length runs)
unfolding entries_of
entries_many heads runs = length-map-range_with_len (entries_in heads runs) 0 (dscbs_for (length runs))

pub entries_at : (heads : ℕ) (runs : List Run) (i : ℕ) → i < dscbs_for (length runs) → get_or (entries_of heads runs) i [] ≡ entries_in heads runs i
unfolding entries_of
entries_at heads runs i low = get_or-map-range_with_len (entries_in heads runs) 0 (dscbs_for (length runs)) i i [] low (omega arith)

-- calls one after another
pub device_then : {A B T E : Type 0} {old mid new : Facts} {a : A} {x : T} → DeviceCall {T = A} {E = B} old mid (Ok a) → DeviceCall {T = T} {E = E} mid new (Ok x) → DeviceCall {T = A} {E = B} old new (Ok a)
device_then one two = record {
  units = two.units ∙ one.units;
  references = two.references ∙ one.references;
  prints = two.prints ∙ one.prints;
  later = omega (arith, one.later, two.later);
  done = two.done ∙ one.done;
  failed = tt;
}

-- the image of a unit is that of its file
pub image_there : (files : List File) (units : List Attached) (unit : ℕ) → AreWhole files units → unit < length units → file_of files (unit_of units unit).name ≡ Some (unwrap_or (file_of files (unit_of units unit).name) [])
image_there files units unit whole low =
    let there = whole unit low in
    there.1 ∙ ap Some (sym (ap (λ (o : Option (List ℕ)). unwrap_or o []) there.1))
