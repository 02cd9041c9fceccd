-- The entries that bytes hold are lawful, and fit them.
use Rattle.std.proofs.Common.{◌≡◌, ◌⊎◌, inl, inr, ◌+◌, ◌-◌, ◌≤◌, ◌<◌, ℕ, zero, suc, Bool, true, false, cond, List, [], ◌∷◌, length, take, drop, get_or, Option, Some, None, refl, sym, subst, ◌∙◌, arith, length-take, length-drop}
use Rattle.std.specs.List.{AllByRecursion}
use Rattle.std.specs.Option.{option_map}
use Rattle.std.specs.Prelude.{slice_index, slice_range}
use Rattle.std.specs.Str.{bytes_eq}
use Rattle.std.proofs.lemmas.Bool.{cases_Bool, cases_eq, cases_lt}
use Rattle.chain_spec.specs.Cut.{total}
use Rattle.chain_spec.specs.Store.{Block as Stored}
use Rattle.vol_model.specs.declared.contents.Entry.{Entry}
use Rattle.vol_model.specs.Slots.{entry_size}
use Rattle.pack_spec.specs.Directories.{end_name, front_entry, front_length, no_entry, user_length, with_front}
use Rattle.pack_spec.proofs.NameOrder.{AreBytes}
use Rattle.pds_directory.specs.Entries.{IsReadEntry}
use Rattle.pds_directory.proofs.ReadEntries.{read, read_broken, read_end, read_entry, read_none}

pub are_bytes : (bytes : List ℕ) → ((i : ℕ) → get_or bytes i 0 < 256) → AreBytes bytes
are_bytes [] below = tt
are_bytes (x ∷ xs) below = (below 0, are_bytes xs (λ i. below (suc i)))

pub take_bytes : (n : ℕ) (bytes : List ℕ) → AreBytes bytes → AreBytes (take n bytes)
take_bytes zero bytes are = tt
take_bytes (suc n) [] are = tt
take_bytes (suc n) (x ∷ xs) are = (are.0, take_bytes n xs are.1)

pub drop_bytes : (n : ℕ) (bytes : List ℕ) → AreBytes bytes → AreBytes (drop n bytes)
drop_bytes zero bytes are = are
drop_bytes (suc n) [] are = tt
drop_bytes (suc n) (x ∷ xs) are = drop_bytes n xs are.1

-- So many bytes hold these entries, and the end entry if it stands there.
pub record IsHeld (room : ℕ) (b : Stored Entry) : Type 0 where
  pub fits : total entry_size b.entries + cond b.ends 12 0 ≤ room
  pub entries : AllByRecursion IsReadEntry b.entries

user_long : (bytes : List ℕ) → front_length bytes ≤ length bytes → length (slice_range bytes 12 (front_length bytes)) ≡ user_length (slice_index bytes 11)
user_long bytes low =
    let u : ℕ = user_length (slice_index bytes 11) in
    let n : ℕ = 12 + u - 12 in
    let same : n ≡ u = omega arith in
    omega (arith, same, low, length-take n (drop 12 bytes), length-drop 12 bytes)

front_held : (bytes : List ℕ) → AreBytes bytes → 12 ≤ length bytes → bytes_eq (take 8 bytes) end_name ≡ false → front_length bytes ≤ length bytes → IsReadEntry (front_entry bytes)
front_held bytes are some other low = record {
  lawful = record { user = user_long bytes low; name = other };
  named = record { eight = omega (arith, some, length-take 8 bytes); bytes = take_bytes 8 bytes are };
}

-- fewer bytes than this number, those after the entry at the front, hold what is read of them
abbrev HoldBehind : ℕ → List ℕ → Type 0
HoldBehind n bytes = (c : Stored Entry) → length (drop (front_length bytes) bytes) < n → read (drop (front_length bytes) bytes) ≡ Some c → IsHeld (length (drop (front_length bytes) bytes)) c

held_below : (n : ℕ) (bytes : List ℕ) (b : Stored Entry) → length bytes < n → AreBytes bytes → read bytes ≡ Some b → IsHeld (length bytes) b
held_below zero bytes b short are is = absurd (omega (arith, short))
held_below (suc n) bytes b short are is =
    by (λ c fewer e. held_below n (drop (front_length bytes) bytes) c fewer (drop_bytes (front_length bytes) bytes are) e)
    (cases_lt (length bytes) 12) (cases_Bool (bytes_eq (take 8 bytes) end_name)) (cases_lt (length bytes) (front_length bytes))
  where
    no_more : (ends : Bool) → Some (no_entry ends) ≡ Some b → cond ends 12 0 ≤ length bytes → IsHeld (length bytes) b
    no_more ends e room =
        let same : no_entry ends ≡ b = cc in
        subst (IsHeld (length bytes)) same (record { fits = omega (arith, room); entries = tt })

    front : HoldBehind n bytes → 12 ≤ length bytes → bytes_eq (take 8 bytes) end_name ≡ false → front_length bytes ≤ length bytes → (o : Option (Stored Entry)) → read (drop (front_length bytes) bytes) ≡ o
        → option_map (with_front (front_entry bytes)) o ≡ Some b → IsHeld (length bytes) b
    front later some other low None found e = cc
    front later some other low (Some c) found e =
        let same : with_front (front_entry bytes) c ≡ b = cc in
        let fewer = length-drop (front_length bytes) bytes in
        let rest = later c (omega (arith, short, some, fewer)) found in
        subst (IsHeld (length bytes)) same (record {
          fits = omega (arith, rest.fits, user_long bytes low, low, fewer);
          entries = (front_held bytes are some other low, rest.entries);
        })

    few : length bytes < 12 → (length bytes ≡ 0) ⊎ (length bytes ≡ 0 → ⊥) → IsHeld (length bytes) b
    few low (inl none) = no_more false (sym (read_none bytes none) ∙ is) (omega arith)
    few low (inr some) = let broken = read_broken bytes (omega (arith, some)) (inl low) in cc

    by : HoldBehind n bytes → (length bytes < 12) ⊎ (12 ≤ length bytes) → (bytes_eq (take 8 bytes) end_name ≡ true) ⊎ (bytes_eq (take 8 bytes) end_name ≡ false)
        → (length bytes < front_length bytes) ⊎ (front_length bytes ≤ length bytes) → IsHeld (length bytes) b
    by later (inl low) p q = few low (cases_eq (length bytes) 0)
    by later (inr some) (inl end) q = no_more true (sym (read_end bytes some end) ∙ is) some
    by later (inr some) (inr other) (inl long) = let broken = read_broken bytes (omega (arith, some)) (inr (other, long)) in cc
    by later (inr some) (inr other) (inr low) = front later some other low (read (drop (front_length bytes) bytes)) refl (sym (read_entry bytes some other low) ∙ is)

pub held : (bytes : List ℕ) (b : Stored Entry) → AreBytes bytes → read bytes ≡ Some b → IsHeld (length bytes) b
held bytes b are is = held_below (suc (length bytes)) bytes b (omega arith) are is
