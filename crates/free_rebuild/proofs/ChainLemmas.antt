-- The chain that is written is the one that is meant.
use Rattle.std.proofs.Common.{◌≡◌, ◌≢◌, ◌+◌, ◌≤◌, ◌<◌, ℕ, zero, suc, Bool, true, false, cond, not, List, [], ◌∷◌, length, take, drop, map, Option, Some, None, Ok, refl, sym, ap, subst, ◌∙◌, ◌⊎◌, inl, inr, ⊎_elim, arith}
use Rattle.std.specs.Prelude.{nat_lt, position, replicate, slice_get, unwrap_or}
use Rattle.std.specs.List.{position_or_len}
use Rattle.std.specs.Option.{option_map}
use Rattle.std.proofs.Math.ListN.{set}
use Rattle.std.proofs.lemmas.Bool.{ltb-true}
use Rattle.std.proofs.lemmas.List.{length-set, take-append-drop}
use Rattle.dscb_codec.specs.declared.Dscb.{Dscb}
use Rattle.pack_spec.specs.declared.slot.VtocSlot.{VtocSlot}
use Rattle.pack_spec.specs.FreeChain.{HasSpace, IsChain, next_free}
use Rattle.pack_spec.specs.Rules.{is_f5_or_f0}
use Rattle.free_rebuild.specs.Chain.{chained, is_open, next_open, next_or, space_of}

-- two numbers are one, or not
pub same_or_not : (j k : ℕ) → (j ≡ k) ⊎ (j ≢ k)
same_or_not zero zero = inl refl
same_or_not zero (suc k) = inr (λ e. omega arith)
same_or_not (suc j) zero = inr (λ e. omega arith)
same_or_not (suc j) (suc k) = ⊎_elim (λ e. inl (ap suc e)) (λ ne. inr (λ e. ne (omega arith))) (same_or_not j k)

module _ {X : Type 0} where
  -- the item that is set, and the others
  pub get_set : (xs : List X) (k : ℕ) (x : X) → k < length xs → slice_get (set xs k x) k ≡ Some x
  get_set [] k x low = absurd (omega (arith, low))
  get_set (y ∷ xs) zero x low = refl
  get_set (y ∷ xs) (suc k) x low = get_set xs k x (omega (arith, low))

  pub get_set_other : (xs : List X) (k j : ℕ) (x : X) → j ≢ k → slice_get (set xs k x) j ≡ slice_get xs j
  get_set_other [] k j x other = refl
  get_set_other (y ∷ xs) zero zero x other = absurd (other refl)
  get_set_other (y ∷ xs) zero (suc j) x other = refl
  get_set_other (y ∷ xs) (suc k) zero x other = refl
  get_set_other (y ∷ xs) (suc k) (suc j) x other = get_set_other xs k j x (λ e. other (ap suc e))

  -- an item of a list
  pub get_some : (xs : List X) (k : ℕ) → k < length xs → (x : X) × (slice_get xs k ≡ Some x)
  get_some [] k low = absurd (omega (arith, low))
  get_some (x ∷ xs) zero low = (x, refl)
  get_some (x ∷ xs) (suc k) low = get_some xs k (omega (arith, low))

  pub get_low : (xs : List X) (k : ℕ) (x : X) → slice_get xs k ≡ Some x → k < length xs
  get_low [] k x is = cc
  get_low (y ∷ xs) zero x is = omega arith
  get_low (y ∷ xs) (suc k) x is = let more = get_low xs k x is in omega (arith, more)

  pub get_drop : (xs : List X) (n i : ℕ) → slice_get (drop n xs) i ≡ slice_get xs (n + i)
  get_drop xs zero i = let e : 0 + i ≡ i = omega arith in rw e (ap (λ (l : List X). slice_get l i) (drop_none xs))
    where
      drop_none : (ys : List X) → drop 0 ys ≡ ys
      drop_none [] = refl
      drop_none (y ∷ ys) = refl
  get_drop [] (suc n) i = refl
  get_drop (x ∷ xs) (suc n) i = let e : suc n + i ≡ suc (n + i) = omega arith in rw e (get_drop xs n i)

  -- where an item of a list stands that passes, if any is found
  first_at : (p : X → Bool) (xs : List X) → position_or_len p xs < length xs → (x : X) × (slice_get xs (position_or_len p xs) ≡ Some x) × (p x ≡ true)
  first_at p [] low = absurd (omega (arith, low))
  first_at p (x ∷ xs) low = by_test (p x) refl (λ less. first_at p xs less) low
    where
      by_test : (t : Bool) → p x ≡ t → (position_or_len p xs < length xs → (y : X) × (slice_get xs (position_or_len p xs) ≡ Some y) × (p y ≡ true)) → cond (not t) (1 + position_or_len p xs) 0 < suc (length xs) → (y : X) × (slice_get (x ∷ xs) (cond (not t) (1 + position_or_len p xs) 0) ≡ Some y) × (p y ≡ true)
      by_test true test more less = (x, refl, test)
      by_test false test more less =
          let rest = more (omega (arith, less)) in
          let e : 1 + position_or_len p xs ≡ suc (position_or_len p xs) = omega arith in
          (rest.0, ap (slice_get (x ∷ xs)) e ∙ rest.1, rest.2)

  pub found_at : (p : X → Bool) (xs : List X) (i : ℕ) → position p xs ≡ Some i → (x : X) × (slice_get xs i ≡ Some x) × (p x ≡ true)
  found_at p xs i is = by_test (nat_lt (position_or_len p xs) (length xs)) refl is
    where
      by_test : (t : Bool) → nat_lt (position_or_len p xs) (length xs) ≡ t → cond t (Some (position_or_len p xs)) None ≡ Some i → (x : X) × (slice_get xs i ≡ Some x) × (p x ≡ true)
      by_test false test found = cc
      by_test true test found =
          let same : position_or_len p xs ≡ i = cc in
          let first = first_at p xs (ltb-true (position_or_len p xs) (length xs) test) in
          (first.0, ap (slice_get xs) (sym same) ∙ first.1, first.2)

-- lists that pass a test alike find the same first
position_alike : {X Y : Type 0} (p : X → Bool) (q : Y → Bool) (xs : List X) (ys : List Y) → map p xs ≡ map q ys → position p xs ≡ position q ys
position_alike {X = X} {Y = Y} p q xs ys same =
    let answer : ℕ → ℕ → Option ℕ = λ i m. cond (nat_lt i m) (Some i) None in
    ap (λ (i : ℕ). answer i (length xs)) (front xs ys same) ∙ ap (answer (position_or_len q ys)) (size xs ys same)
  where
    front : (xs : List X) (ys : List Y) → map p xs ≡ map q ys → position_or_len p xs ≡ position_or_len q ys
    front [] [] same = refl
    front [] (y ∷ ys) same = absurd cc
    front (x ∷ xs) [] same = absurd cc
    front (x ∷ xs) (y ∷ ys) same =
        let one : p x ≡ q y = cc in
        let rest : map p xs ≡ map q ys = cc in
        ap (λ (t : Bool). cond (not t) (1 + position_or_len p xs) 0) one ∙ ap (λ (i : ℕ). cond (not (q y)) (1 + i) 0) (front xs ys rest)

    size : (xs : List X) (ys : List Y) → map p xs ≡ map q ys → length xs ≡ length ys
    size [] [] same = refl
    size [] (y ∷ ys) same = absurd cc
    size (x ∷ xs) [] same = absurd cc
    size (x ∷ xs) (y ∷ ys) same = let rest : map p xs ≡ map q ys = cc in ap suc (size xs ys rest)

drop_map : {X Y : Type 0} (f : X → Y) (n : ℕ) (xs : List X) → map f (drop n xs) ≡ drop n (map f xs)
drop_map f zero [] = refl
drop_map f zero (x ∷ xs) = refl
drop_map f (suc n) [] = refl
drop_map f (suc n) (x ∷ xs) = drop_map f n xs

-- slots that are open alike have the same next open one
pub next_alike : (ds es : List Dscb) (from : ℕ) → map is_open ds ≡ map is_open es → next_open ds from ≡ next_open es from
next_alike ds es from same = ap (option_map (λ (i : ℕ). from + i)) (position_alike is_open is_open (drop from ds) (drop from es)
    (drop_map is_open from ds ∙ ap (drop from) same ∙ sym (drop_map is_open from es)))

-- the slot that is found is after and open
pub record Opened (ds : List Dscb) (from n : ℕ) : Type 0 where
  pub behind : from ≤ n
  pub there : Dscb
  pub at : slice_get ds n ≡ Some there
  pub is_open : is_open there ≡ true

pub next_there : (ds : List Dscb) (from n : ℕ) → next_open ds from ≡ Some n → Opened ds from n
next_there ds from n is = by_place (position is_open (drop from ds)) refl is
  where
    by_place : (o : Option ℕ) → position is_open (drop from ds) ≡ o → option_map (λ (i : ℕ). from + i) o ≡ Some n → Opened ds from n
    by_place None found same = cc
    by_place (Some i) found same =
        let number : from + i ≡ n = cc in
        let first = found_at is_open (drop from ds) i found in
        record { behind = omega (arith, number); there = first.0; at = ap (slice_get ds) (sym number) ∙ sym (get_drop ds from i) ∙ first.1; is_open = first.2 }

-- slots enough are open for a chain from one on
abbrev pub HasRoom : List Dscb → ℕ → List (List (List ℕ)) → Type 0
HasRoom ds k [] = Unit {0}
HasRoom ds k (es ∷ []) = Unit {0}
HasRoom ds k (es ∷ more ∷ others) = (n : ℕ) × (next_open ds (k + 1) ≡ Some n) × HasRoom ds n (more ∷ others)

pub room_alike : (ds ds' : List Dscb) (k : ℕ) (ess : List (List (List ℕ))) → map is_open ds' ≡ map is_open ds → HasRoom ds k ess → HasRoom ds' k ess
room_alike ds ds' k [] same room = tt
room_alike ds ds' k (es ∷ []) same room = tt
room_alike ds ds' k (es ∷ more ∷ others) same room = (room.0, next_alike ds' ds (k + 1) same ∙ room.1, room_alike ds ds' room.0 (more ∷ others) same room.2)

-- an open slot that is written over is open still
pub open_set : (ds : List Dscb) (k : ℕ) (d e : Dscb) → slice_get ds k ≡ Some d → is_open d ≡ true → is_open e ≡ true → map is_open (set ds k e) ≡ map is_open ds
open_set [] k d e is one two = refl
open_set (x ∷ ds) zero d e is one two =
    let same : x ≡ d = cc in
    ap (λ (t : Bool). t ∷ map is_open ds) (two ∙ sym (ap is_open same ∙ one))
open_set (x ∷ ds) (suc k) d e is one two = ap (λ (l : List Bool). is_open x ∷ l) (open_set ds k d e is one two)

-- the chain's slots are as many
pub chained_length : (at : ℕ → List ℕ) (ds : List Dscb) (k : ℕ) (ess : List (List (List ℕ))) → length (chained at ds k ess) ≡ length ds
chained_length at ds k [] = refl
chained_length at ds k (es ∷ []) = length-set ds k (space_of es (replicate 5 0))
chained_length at ds k (es ∷ more ∷ others) = chained_length at (set ds k (space_of es (at (next_or ds k)))) (next_or ds k) (more ∷ others) ∙ length-set ds k (space_of es (at (next_or ds k)))

module _ (at : ℕ → List ℕ) where
  -- where the chain goes on
  pub next_is : (ds : List Dscb) (k n : ℕ) → next_open ds (k + 1) ≡ Some n → next_or ds k ≡ n
  next_is ds k n is = ap (λ (o : Option ℕ). unwrap_or o k) is

  -- slots in front of the chain stay
  pub chained_front : (ds : List Dscb) (k j : ℕ) (ess : List (List (List ℕ))) → HasRoom ds k ess → (d : Dscb) → slice_get ds k ≡ Some d → is_open d ≡ true → j < k → slice_get (chained at ds k ess) j ≡ slice_get ds j
  chained_front ds k j [] room d is opened low = refl
  chained_front ds k j (es ∷ []) room d is opened low = get_set_other ds k j (space_of es (replicate 5 0)) (λ e. omega (arith, low, e))
  chained_front ds k j (es ∷ more ∷ others) room d is opened low =
      let n : ℕ = room.0 in
      let e : Dscb = space_of es (at (next_or ds k)) in
      let number : next_or ds k ≡ n = next_is ds k n room.1 in
      let same : map is_open (set ds k e) ≡ map is_open ds = open_set ds k d e is opened refl in
      let next = next_there (set ds k e) (k + 1) n (next_alike (set ds k e) ds (k + 1) same ∙ room.1) in
      ap (λ (m : ℕ). slice_get (chained at (set ds k e) m (more ∷ others)) j) number
      ∙ chained_front (set ds k e) n j (more ∷ others) (room_alike ds (set ds k e) n (more ∷ others) same room.2) next.there next.at next.is_open (omega (arith, low, next.behind))
      ∙ get_set_other ds k j e (λ e. omega (arith, low, e))

  -- the same slots are open
  pub chained_open : (ds : List Dscb) (k : ℕ) (ess : List (List (List ℕ))) → HasRoom ds k ess → (d : Dscb) → slice_get ds k ≡ Some d → is_open d ≡ true → map is_open (chained at ds k ess) ≡ map is_open ds
  chained_open ds k [] room d is opened = refl
  chained_open ds k (es ∷ []) room d is opened = open_set ds k d (space_of es (replicate 5 0)) is opened refl
  chained_open ds k (es ∷ more ∷ others) room d is opened =
      let n : ℕ = room.0 in
      let e : Dscb = space_of es (at (next_or ds k)) in
      let number : next_or ds k ≡ n = next_is ds k n room.1 in
      let same : map is_open (set ds k e) ≡ map is_open ds = open_set ds k d e is opened refl in
      let next = next_there (set ds k e) (k + 1) n (next_alike (set ds k e) ds (k + 1) same ∙ room.1) in
      ap (λ (m : ℕ). map is_open (chained at (set ds k e) m (more ∷ others))) number
      ∙ chained_open (set ds k e) n (more ∷ others) (room_alike ds (set ds k e) n (more ∷ others) same room.2) next.there next.at next.is_open
      ∙ same

  -- slots of these DSCBs, each at its address
  abbrev pub AreHeld : List VtocSlot → List Dscb → Type 0
  AreHeld slots ds = (k : ℕ) → slice_get slots k ≡ option_map (λ (d : Dscb). record { address = at k; content = Ok d }) (slice_get ds k)

  held_open : (slots : List VtocSlot) (ds : List Dscb) → AreHeld slots ds → map (λ (s : VtocSlot). is_f5_or_f0 s.content) slots ≡ map is_open ds
  held_open slots ds held = walk 0 slots ds (λ i. let e : 0 + i ≡ i = omega arith in held i ∙ ap (λ (n : ℕ). option_map (λ (d : Dscb). record { address = at n; content = Ok d }) (slice_get ds i)) (sym e))
    where
      walk : (n : ℕ) (ss : List VtocSlot) (ds : List Dscb) → ((i : ℕ) → slice_get ss i ≡ option_map (λ (d : Dscb). record { address = at (n + i); content = Ok d }) (slice_get ds i)) → map (λ (s : VtocSlot). is_f5_or_f0 s.content) ss ≡ map is_open ds
      walk n [] [] each = refl
      walk n [] (d ∷ ds) each = let first = each 0 in absurd cc
      walk n (s ∷ ss) [] each = let first = each 0 in absurd cc
      walk n (s ∷ ss) (d ∷ ds) each =
          let first : s ≡ record { address = at (n + 0); content = Ok d } = let one = each 0 in cc in
          let here : is_f5_or_f0 s.content ≡ is_open d = ap (λ (x : VtocSlot). is_f5_or_f0 x.content) first in
          ap (λ (t : Bool). t ∷ map (λ (x : VtocSlot). is_f5_or_f0 x.content) ss) here
          ∙ ap (λ (l : List Bool). is_open d ∷ l) (walk (n + 1) ss ds (λ i. let e : n + suc i ≡ n + 1 + i = omega arith in each (suc i) ∙ ap (λ (m : ℕ). option_map (λ (x : Dscb). record { address = at m; content = Ok x }) (slice_get ds i)) e))

  pub held_next : (slots : List VtocSlot) (ds : List Dscb) (from : ℕ) → AreHeld slots ds → next_free slots from ≡ next_open ds from
  held_next slots ds from held = ap (option_map (λ (i : ℕ). from + i)) (position_alike (λ (s : VtocSlot). is_f5_or_f0 s.content) is_open (drop from slots) (drop from ds)
      (drop_map (λ (s : VtocSlot). is_f5_or_f0 s.content) from slots ∙ ap (drop from) (held_open slots ds held) ∙ sym (drop_map is_open from ds)))

  held_at : (slots : List VtocSlot) (ds : List Dscb) (k : ℕ) (d : Dscb) → AreHeld slots ds → slice_get ds k ≡ Some d → slice_get slots k ≡ Some (record { address = at k; content = Ok d })
  held_at slots ds k d held is = held k ∙ ap (option_map (λ (x : Dscb). record { address = at k; content = Ok x })) is

  space_at : (slots : List VtocSlot) (ds : List Dscb) (k : ℕ) (es : List (List ℕ)) (pointer : List ℕ) → AreHeld slots ds → slice_get ds k ≡ Some (space_of es pointer) → HasSpace slots k es pointer
  space_at slots ds k es pointer held is =
      (record { address = at k; content = Ok (space_of es pointer) }, held_at slots ds k (space_of es pointer) held is, (record { id = 0x05050505; front = take 8 es; back = drop 8 es; pointer = pointer }, refl, take-append-drop 8 es, refl))

  -- the chain that is written is the one that is meant
  pub chained_chain : (ds : List Dscb) (k : ℕ) (ess : List (List (List ℕ))) (slots : List VtocSlot) → 0 < length ess → HasRoom ds k ess → (d : Dscb) → slice_get ds k ≡ Some d → is_open d ≡ true → AreHeld slots (chained at ds k ess) → IsChain slots k ess
  chained_chain ds k [] slots some room d is opened held = absurd (omega (arith, some))
  chained_chain ds k (es ∷ []) slots some room d is opened held = space_at slots _ k es (replicate 5 0) held (get_set ds k (space_of es (replicate 5 0)) (get_low ds k d is))
  chained_chain ds k (es ∷ more ∷ others) slots some room d is opened held =
      let n : ℕ = room.0 in
      let number : next_or ds k ≡ n = next_is ds k n room.1 in
      let e : Dscb = space_of es (at (next_or ds k)) in
      let ds' : List Dscb = set ds k e in
      let final : List Dscb = chained at ds' n (more ∷ others) in
      let whole : chained at ds' (next_or ds k) (more ∷ others) ≡ final = ap (λ (m : ℕ). chained at ds' m (more ∷ others)) number in
      let same : map is_open ds' ≡ map is_open ds = open_set ds k d e is opened refl in
      let next = next_there ds' (k + 1) n (next_alike ds' ds (k + 1) same ∙ room.1) in
      let room' = room_alike ds ds' n (more ∷ others) same room.2 in
      let all : AreHeld slots final = subst (AreHeld slots) whole held in
      let opens : map is_open final ≡ map is_open ds = chained_open ds' n (more ∷ others) room' next.there next.at next.is_open ∙ same in
      let there = get_some final n (omega (arith, get_low ds' n next.there next.at, chained_length at ds' n (more ∷ others))) in
      let first : slice_get final k ≡ Some e = chained_front ds' n k (more ∷ others) room' next.there next.at next.is_open (omega (arith, next.behind)) ∙ get_set ds k e (get_low ds k d is) in
      let pointed : slice_get final k ≡ Some (space_of es (at n)) = first ∙ ap (λ (m : ℕ). Some (space_of es (at m))) number in (
        n,
        record { address = at n; content = Ok there.0 },
        held_next slots final (k + 1) all ∙ next_alike final ds (k + 1) opens ∙ room.1,
        held_at slots final n there.0 all there.1,
        space_at slots final k es (at n) all pointed,
        chained_chain ds' n (more ∷ others) slots (omega arith) room' next.there next.at next.is_open all,
      )
