-- A repair leaves the data sets in their slots, and so their order by name.
use Rattle.std.proofs.Common.{◌≡◌, ◌≤◌, ◌<◌, ℕ, zero, suc, true, List, [], ◌∷◌, length, replicate, Option, Some, None, option_and_then, Ok, refl, sym, ap, subst, ◌∙◌, ⊎_elim, arith}
use Rattle.std.specs.Prelude.{is_some, slice_get, slice_index_or}
use Rattle.std.specs.Option.{option_map}
use Rattle.std.specs.Cmp.Lexicographic.{slice_cmp}
use Rattle.std.specs.List.Sorted.{IsStrictlySortedBy}
use Rattle.std.specs.Ordering.{nat_cmp}
use Rattle.std.proofs.Math.ListN.{set}
use Rattle.dscb_codec.specs.declared.Dscb.{Dscb}
use Rattle.dscb_codec.specs.declared.Dscb.TheVariants as formats
use Rattle.dscb_codec.specs.declared.F1.{F1}
use Rattle.pack_spec.specs.Rules.{set_in}
use Rattle.vtoc_index.specs.declared.vol.Vol.{Vol}
use Rattle.vtoc_index.specs.Names.{AreByName, name_at, names_of, or_zeros}
use Rattle.free_rebuild.specs.Chain.{IsOpenAt, chained, is_open, next_or, space_of}
use Rattle.vtoc_index.specs.Bits.{with_bit}
use Rattle.free_rebuild.specs.Clearing.{AreCleared, with_counts}
use Rattle.free_rebuild.proofs.ChainLemmas.{get_low, get_set, get_set_other, get_some, same_or_not}
use Rattle.free_rebuild.proofs.RoomThere.{set_stays}
use Rattle.free_rebuild.proofs.WriteLemmas.{next_opened, opened_set}

-- slots have the same names
abbrev pub HaveSameNames : List Dscb → List Dscb → Type 0
HaveSameNames before after = (k : ℕ) → name_at after k ≡ name_at before k

pub names_stay : (before after : List Dscb) (slots : List ℕ) → HaveSameNames before after → AreByName (name_at before) slots → AreByName (name_at after) slots
names_stay before after slots same ordered = record {
  each = λ slot. ordered.each slot ∙ ap is_some (sym (same slot));
  rise = subst (IsStrictlySortedBy (slice_cmp nat_cmp)) (sym (names_alike slots)) ordered.rise;
}
  where
    names_alike : (slots : List ℕ) → names_of (name_at after) slots ≡ names_of (name_at before) slots
    names_alike [] = refl
    names_alike (s ∷ slots) = ap (λ (n : Option (List ℕ)). or_zeros n ∷ names_of (name_at after) slots) (same s) ∙ ap (λ (l : List (List ℕ)). or_zeros (name_at before s) ∷ l) (names_alike slots)

-- the name of a data set, if a DSCB is a format 1
abbrev name_of : Dscb → Option (List ℕ)
name_of d = option_map (λ (f : F1). f.name) (set_in (Ok d))

-- a slot is put over by a DSCB of the same name, if any
set_names : (ds : List Dscb) (k : ℕ) (d e : Dscb) → slice_get ds k ≡ Some d → set_in (Ok e) ≡ set_in (Ok d) → HaveSameNames ds (set ds k e)
set_names ds k d e there same j = ⊎_elim
    (λ here.
    let one : name_at (set ds k e) j ≡ name_of e = ap (λ (n : ℕ). name_at (set ds k e) n) here ∙ ap (option_and_then name_of) (get_set ds k e (get_low ds k d there)) in
    let two : name_at ds j ≡ name_of d = ap (name_at ds) here ∙ ap (option_and_then name_of) there in
    one ∙ ap (option_map (λ (f : F1). f.name)) same ∙ sym two)
    (λ other. ap (option_and_then name_of) (get_set_other ds k j e other))
    (same_or_not j k)

-- a chain stands in open slots alone
open_set_in : (d : Dscb) → is_open d ≡ true → set_in (Ok d) ≡ None
open_set_in formats.F0 opened = refl
open_set_in (formats.F1 f) opened = cc
open_set_in (formats.F3 f) opened = cc
open_set_in (formats.F4 f) opened = cc
open_set_in (formats.F5 f) opened = refl

pub chain_names : (at : ℕ → List ℕ) (ds : List Dscb) (k : ℕ) (ess : List (List (List ℕ))) → IsOpenAt ds k → HaveSameNames ds (chained at ds k ess)
chain_names at ds k [] opened j = refl
chain_names at ds k (es ∷ []) opened j = set_names ds k opened.0 (space_of es (replicate 5 0)) opened.1 (sym (open_set_in opened.0 opened.2)) j
chain_names at ds k (es ∷ more ∷ others) opened j =
    let e : Dscb = space_of es (at (next_or ds k)) in
    chain_names at (set ds k e) (next_or ds k) (more ∷ others) (opened_set ds k (next_or ds k) e (get_low ds k opened.0 opened.1) refl (next_opened ds k opened)) j
    ∙ set_names ds k opened.0 e opened.1 (sym (open_set_in opened.0 opened.2)) j

-- what belongs to nothing has no name
pub clear_names : (at : ℕ → List ℕ) (ds cleared : List Dscb) → AreCleared at (length ds) ds cleared → HaveSameNames ds cleared
clear_names at ds cleared clears k = by_item (slice_get ds k) refl
  where
    by_item : (o : Option Dscb) → slice_get ds k ≡ o → name_at cleared k ≡ name_at ds k
    by_item (Some d) there =
        let low : k < length cleared = let inside = get_low ds k d there in omega (arith, inside, clears.size) in
        let is = get_some cleared k low in
        ap (option_and_then name_of) is.1 ∙ ap (option_map (λ (f : F1). f.name)) (set_stays at ds cleared clears k d is.0 there is.1) ∙ sym (ap (option_and_then name_of) there)
    by_item None there = ap (option_and_then name_of) (past cleared k (omega (arith, end ds k there, clears.size))) ∙ sym (ap (option_and_then name_of) there)
      where
        end : (xs : List Dscb) (n : ℕ) → slice_get xs n ≡ None → length xs ≤ n
        end [] n none = omega arith
        end (x ∷ xs) zero none = cc
        end (x ∷ xs) (suc n) none = omega (arith, end xs n none)

        past : (xs : List Dscb) (n : ℕ) → length xs ≤ n → slice_get xs n ≡ None
        past [] n high = refl
        past (x ∷ xs) zero high = absurd (omega (arith, high))
        past (x ∷ xs) (suc n) high = past xs n (omega (arith, high))

-- format 4 has none either
first_there : (ds : List Dscb) → 1 ≤ length ds → slice_get ds 0 ≡ Some (slice_index_or ds 0 formats.F0)
first_there [] some = absurd (omega (arith, some))
first_there (x ∷ ds) some = refl

pub mark_names : (ds marked_ds : List Dscb) → marked_ds ≡ set ds 0 (with_bit true (slice_index_or ds 0 formats.F0)) → HaveSameNames ds marked_ds
mark_names [] marked_ds is k = ap (λ (l : List Dscb). name_at l k) is
mark_names (d ∷ ds) marked_ds is k = ap (λ (l : List Dscb). name_at l k) is ∙ set_names (d ∷ ds) 0 d (with_bit true d) refl (same d) k
  where
    same : (d : Dscb) → set_in (Ok (with_bit true d)) ≡ set_in (Ok d)
    same formats.F0 = refl
    same (formats.F1 f) = refl
    same (formats.F3 f) = refl
    same (formats.F4 f) = refl
    same (formats.F5 f) = refl

pub tell_names : (ds told_ds : List Dscb) (free : ℕ) (highest : List ℕ) → 1 ≤ length ds → told_ds ≡ set ds 0 (with_counts free highest (slice_index_or ds 0 formats.F0)) → HaveSameNames ds told_ds
tell_names ds told_ds free highest some is k = ap (λ (l : List Dscb). name_at l k) is ∙ set_names ds 0 (slice_index_or ds 0 formats.F0) (with_counts free highest (slice_index_or ds 0 formats.F0)) (first_there ds some) (same (slice_index_or ds 0 formats.F0)) k
  where
    same : (d : Dscb) → set_in (Ok (with_counts free highest d)) ≡ set_in (Ok d)
    same formats.F0 = refl
    same (formats.F1 f) = refl
    same (formats.F3 f) = refl
    same (formats.F4 f) = refl
    same (formats.F5 f) = refl

-- an index that differs in its slots and its buffer alone has the same order, where the names stay
pub names_kept : (v w : Vol) → w ≡ record v { slots = w.slots; buf = w.buf } → HaveSameNames v.slots.items w.slots.items → AreByName (name_at v.slots.items) v.by_name.items → AreByName (name_at w.slots.items) w.by_name.items
names_kept v w others same ordered =
    subst (AreByName (name_at w.slots.items)) (sym (ap (λ (x : Vol). x.by_name.items) others)) (names_stay v.slots.items w.slots.items v.by_name.items same ordered)
