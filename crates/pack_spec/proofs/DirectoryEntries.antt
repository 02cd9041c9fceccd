-- The entries that count in a directory are lawful, rise by their names, and need no more blocks than it has.
use Rattle.std.proofs.Common.{◌≡◌, ◌+◌, ◌-◌, ◌%◌, ◌≤◌, ◌<◌, ℕ, zero, suc, Bool, true, false, cond, List, [], ◌∷◌, ◌++◌, length, map, take, drop, Option, Some, None, refl, sym, ap, ◌∙◌, subst, arith, length-take, length-drop, option_and_then}
use Rattle.std.specs.Prelude.{◌==◌, ◌&&◌, nat_le, nat_lt, slice_index, slice_range, unwrap_or}
use Rattle.std.specs.List.{AllByRecursion}
use Rattle.std.specs.Option.{option_map}
use Rattle.std.specs.Str.{bytes_eq}
use Rattle.std.specs.Int.{w16, from_be_bytes}
use Rattle.std.proofs.Math.Nat.{mod-lt}
use Rattle.std.proofs.lemmas.Bool.{and_parts, leb-true, ltb-false}
use Rattle.std.proofs.lemmas.List.{length-map}
use Rattle.chain_spec.specs.Cut.{total}
use Rattle.chain_spec.specs.Kept.{RisesFrom, kept, kept_from}
use Rattle.chain_spec.specs.Store.{Block as Stored, up_to_end}
use Rattle.chain_spec.proofs.KeptLemmas.{kept_rises}
use Rattle.vol_model.specs.declared.contents.Block.{Block}
use Rattle.vol_model.specs.declared.contents.Entry.{Entry}
use Rattle.vol_model.specs.Lawful.{EntriesAscend, IsLawfulEntry}
use Rattle.vol_model.specs.Shelf.{is_entry_before}
use Rattle.vol_model.specs.Slots.{directory_needed, entry_size}
use Rattle.pack_spec.specs.Directories.{block_entries, break_from, directory_break, end_name, entries_from, entries_of, front_entry, front_length, if_rising, name_number, no_entry, rise_from, stored_in, used_bytes, user_length, with_front}
use Rattle.sorted_chain.proofs.ChainRoom.{Fits, chain_room}
use Rattle.pack_spec.proofs.NameOrder.{AreBytes, HasName, number_before}

-- ---- bytes

take_bytes : (n : ℕ) (xs : List ℕ) → AreBytes xs → AreBytes (take n xs)
take_bytes zero xs are = tt
take_bytes (suc n) [] are = tt
take_bytes (suc n) (x ∷ xs) are = (are.0, take_bytes n xs are.1)

drop_bytes : (n : ℕ) (xs : List ℕ) → AreBytes xs → AreBytes (drop n xs)
drop_bytes zero xs are = are
drop_bytes (suc n) [] are = tt
drop_bytes (suc n) (x ∷ xs) are = drop_bytes n xs are.1

all_bytes : (xs : List ℕ) → AreBytes (map (λ x. x % 256) xs)
all_bytes [] = tt
all_bytes (x ∷ xs) = (omega (arith, mod-lt x {m = 255} (omega arith)), all_bytes xs)

-- ---- the entries of a block

-- an entry as it stands in a block
pub record IsEntry (e : Entry) : Type 0 where
  pub lawful : IsLawfulEntry e
  pub name : HasName e

-- entries in so many bytes, with the end entry if it stands there
pub record IsIn (room : ℕ) (b : Stored Entry) : Type 0 where
  pub fits : total entry_size b.entries + cond b.ends 12 0 ≤ room
  pub entries : AllByRecursion IsEntry b.entries

user_long : (bytes : List ℕ) → front_length bytes ≤ length bytes → length (slice_range bytes 12 (front_length bytes)) ≡ user_length (slice_index bytes 11)
user_long bytes low =
    let u : ℕ = user_length (slice_index bytes 11) in
    let n : ℕ = 12 + u - 12 in
    let same : n ≡ u = omega arith in
    let room : 12 + u ≤ length bytes = low in
    omega (arith, same, room, length-take n (drop 12 bytes), length-drop 12 bytes)

front_is : (bytes : List ℕ) → AreBytes bytes → 12 ≤ length bytes → bytes_eq (take 8 bytes) end_name ≡ false → front_length bytes ≤ length bytes → IsEntry (front_entry bytes)
front_is bytes are some other low = record {
  lawful = record { user = user_long bytes low; name = other };
  name = record { eight = omega (arith, some, length-take 8 bytes); bytes = take_bytes 8 bytes are };
}

entries_in : (n : ℕ) (bytes : List ℕ) (b : Stored Entry) → AreBytes bytes → entries_from n bytes ≡ Some b → IsIn (length bytes) b
unfolding entries_from
entries_in zero bytes b are is =
    let same : no_entry false ≡ b = cc in
    subst (IsIn (length bytes)) same (record { fits = omega arith; entries = tt })
entries_in (suc n) bytes b are is =
    by (length bytes == 0) (nat_lt (length bytes) 12) (bytes_eq (take 8 bytes) end_name) (nat_lt (length bytes) (front_length bytes)) (entries_from n (drop (front_length bytes) bytes)) refl refl refl
    (λ c e. entries_in n (drop (front_length bytes) bytes) c (drop_bytes (front_length bytes) bytes are) e) is
  where
    by : (p q r s : Bool) (o : Option (Stored Entry)) → nat_lt (length bytes) 12 ≡ q → bytes_eq (take 8 bytes) end_name ≡ r → nat_lt (length bytes) (front_length bytes) ≡ s
        → ((c : Stored Entry) → o ≡ Some c → IsIn (length (drop (front_length bytes) bytes)) c)
        → cond p (Some (no_entry false)) (cond q None (cond r (Some (no_entry true)) (cond s None (option_map (with_front (front_entry bytes)) o)))) ≡ Some b → IsIn (length bytes) b
    by true q r s o short ends long later e =
        let same : no_entry false ≡ b = cc in
        subst (IsIn (length bytes)) same (record { fits = omega arith; entries = tt })
    by false true r s o short ends long later e = cc
    by false false true s o short ends long later e =
        let same : no_entry true ≡ b = cc in
        let some : 12 ≤ length bytes = ltb-false (length bytes) 12 short in
        subst (IsIn (length bytes)) same (record { fits = omega (arith, some); entries = tt })
    by false false false true o short ends long later e = cc
    by false false false false None short ends long later e = cc
    by false false false false (Some c) short ends long later e =
        let same : with_front (front_entry bytes) c ≡ b = cc in
        let some : 12 ≤ length bytes = ltb-false (length bytes) 12 short in
        let low : front_length bytes ≤ length bytes = ltb-false (length bytes) (front_length bytes) long in
        let rest = later c refl in
        subst (IsIn (length bytes)) same (record {
          fits = omega (arith, rest.fits, user_long bytes low, low, length-drop (front_length bytes) bytes);
          entries = (front_is bytes are some ends low, rest.entries);
        })

-- what a block holds fits its room
pub block_in : (b : Block) (s : Stored Entry) → stored_in b ≡ Some s → IsIn 254 s
unfolding block_entries
block_in b s is = by (nat_le 2 used && nat_le used 256) refl is
  where
    bytes : List ℕ
    bytes = map (λ x. x % 256) b.payload

    used : ℕ
    used = from_be_bytes w16 (take 2 bytes)

    rising : (c : Stored Entry) (r : Bool) → cond r (Some c) None ≡ Some s → c ≡ s
    rising c true e = cc
    rising c false e = cc

    found : (o : Option (Stored Entry)) → entries_from (length (used_bytes used bytes)) (used_bytes used bytes) ≡ o → used ≤ 256 → option_and_then if_rising o ≡ Some s → IsIn 254 s
    found None held few e = cc
    found (Some c) held few e =
        let all = entries_in (length (used_bytes used bytes)) (used_bytes used bytes) c (take_bytes (used - 2) (drop 2 bytes) (drop_bytes 2 bytes (all_bytes b.payload))) held in
        let short : length (used_bytes used bytes) ≤ 254 = omega (arith, few, length-take (used - 2) (drop 2 bytes)) in
        subst (IsIn 254) (rising c (rise_from 0 c.entries) e) (record { fits = omega (arith, all.fits, short); entries = all.entries })

    by : (c : Bool) → (nat_le 2 used && nat_le used 256) ≡ c → cond c (option_and_then if_rising (entries_from (length (used_bytes used bytes)) (used_bytes used bytes))) None ≡ Some s → IsIn 254 s
    by true good e = found _ refl (leb-true used 256 (and_parts (nat_le 2 used) (nat_le used 256) good).1) e
    by false good e = cc

-- ---- the entries of a directory

-- a block in front of a chain of which this is read
abbrev up_to_end_with : Option (Stored Entry) → Option (List Entry) → Option (List Entry)
up_to_end_with None o = None
up_to_end_with (Some s) o = cond s.ends (Some s.entries) (option_map (λ (es : List Entry). s.entries ++ es) o)

front_of : (q : Option (Stored Entry)) (rest : List (Option (Stored Entry))) → up_to_end (q ∷ rest) ≡ up_to_end_with q (up_to_end rest)
front_of None rest = refl
front_of (Some s) rest = refl

all_append : {X : Type 0} (P : X → Type 0) (xs ys : List X) → AllByRecursion P xs → AllByRecursion P ys → AllByRecursion P (xs ++ ys)
all_append P [] ys first second = second
all_append P (x ∷ xs) ys first second = (first.0, all_append P xs ys first.1 second)

all_kept : (P : Entry → Type 0) (t : ℕ) (es : List Entry) → AllByRecursion P es → AllByRecursion P (kept_from name_number t es)
all_kept P t [] all = tt
all_kept P t (e ∷ es) all = by (nat_le t (name_number e)) (all_kept P (suc (name_number e)) es all.1) (all_kept P t es all.1)
  where
    by : (b : Bool) → AllByRecursion P (kept_from name_number (suc (name_number e)) es) → AllByRecursion P (kept_from name_number t es)
        → AllByRecursion P (cond b (e ∷ kept_from name_number (suc (name_number e)) es) (kept_from name_number t es))
    by true with_it without = (all.0, with_it)
    by false with_it without = without

-- entries whose numbers rise stand in the order of their names
later_before : (d : Entry) (t : ℕ) (es : List Entry) → HasName d → name_number d < t → RisesFrom name_number t es → AllByRecursion IsEntry es → AllByRecursion (λ (x : Entry). is_entry_before d x ≡ true) es
later_before d t [] has low rises all = tt
later_before d t (e ∷ es) has low rises all = (
  number_before d e has all.0.name (omega (arith, low, rises.0)),
  later_before d (suc (name_number e)) es has (omega (arith, low, rises.0)) rises.1 all.1,
)

ascending : (t : ℕ) (es : List Entry) → RisesFrom name_number t es → AllByRecursion IsEntry es → EntriesAscend es
ascending t [] rises all = tt
ascending t (e ∷ es) rises all = (later_before e (suc (name_number e)) es all.0.name (omega arith) rises.1 all.1, ascending (suc (name_number e)) es rises.1 all.1)

lawful_entries : (es : List Entry) → AllByRecursion IsEntry es → AllByRecursion IsLawfulEntry es
lawful_entries [] all = tt
lawful_entries (e ∷ es) all = (all.0.lawful, lawful_entries es all.1)

-- a directory that doesn't break is read up to its end
up_to : (last : ℕ) (bs : List Block) → directory_break last bs ≡ None → (es : List Entry) × (up_to_end (map stored_in bs) ≡ Some es)
up_to last [] whole = cc
up_to last (b ∷ bs) whole = by (stored_in b) whole (λ e. up_to last bs e)
  where
    ends : (s : Stored Entry) (c : Bool) → s.ends ≡ c → cond c None (directory_break last bs) ≡ None → (directory_break last bs ≡ None → (es : List Entry) × (up_to_end (map stored_in bs) ≡ Some es))
        → (es : List Entry) × (cond c (Some s.entries) (option_map (λ es. s.entries ++ es) (up_to_end (map stored_in bs))) ≡ Some es)
    ends s true is e later = (s.entries, refl)
    ends s false is e later = let rest = later e in (s.entries ++ rest.0, ap (option_map (λ (es : List Entry). s.entries ++ es)) rest.1)

    by : (o : Option (Stored Entry)) → break_from b.place.tt (directory_break last bs) o ≡ None → (directory_break last bs ≡ None → (es : List Entry) × (up_to_end (map stored_in bs) ≡ Some es))
        → (es : List Entry) × (up_to_end (o ∷ map stored_in bs) ≡ Some es)
    by None e later = cc
    by (Some s) e later = ends s s.ends refl e later

all_fit : (bs : List Block) → AllByRecursion (Fits name_number entry_size 254 12) (map stored_in bs)
all_fit [] = tt
all_fit (b ∷ bs) = (by (stored_in b) (λ s e. block_in b s e), all_fit bs)
  where
    by : (o : Option (Stored Entry)) → ((s : Stored Entry) → o ≡ Some s → IsIn 254 s) → Fits name_number entry_size 254 12 o
    by None found = tt
    by (Some s) found = (found s refl).fits

all_entries : (bs : List Block) (es : List Entry) → up_to_end (map stored_in bs) ≡ Some es → AllByRecursion IsEntry es
all_entries [] es is = cc
all_entries (b ∷ bs) es is = by (stored_in b) (λ s e. block_in b s e) (up_to_end (map stored_in bs)) (λ ds e. all_entries bs ds e) (sym (front_of (stored_in b) (map stored_in bs)) ∙ is)
  where
    chosen : (s : Stored Entry) (c : Bool) (o : Option (List Entry)) → AllByRecursion IsEntry s.entries → ((ds : List Entry) → o ≡ Some ds → AllByRecursion IsEntry ds) → cond c (Some s.entries) (option_map (λ ds. s.entries ++ ds) o) ≡ Some es
        → AllByRecursion IsEntry es
    chosen s true o here later e = let same : s.entries ≡ es = cc in subst (AllByRecursion IsEntry) same here
    chosen s false None here later e = cc
    chosen s false (Some ds) here later e = let same : s.entries ++ ds ≡ es = cc in subst (AllByRecursion IsEntry) same (all_append IsEntry s.entries ds here (later ds refl))

    by : (q : Option (Stored Entry)) → ((s : Stored Entry) → q ≡ Some s → IsIn 254 s) → (o : Option (List Entry)) → ((ds : List Entry) → o ≡ Some ds → AllByRecursion IsEntry ds) → up_to_end_with q o ≡ Some es → AllByRecursion IsEntry es
    by None found o later e = cc
    by (Some s) found o later e = chosen s s.ends o (found s refl).entries later e

-- The entries that count in a directory.
pub record IsLawfulDirectory (blocks : ℕ) (es : List Entry) : Type 0 where
  pub room : directory_needed es ≤ blocks
  pub order : EntriesAscend es
  pub entries : AllByRecursion IsLawfulEntry es

pub lawful_directory : (last : ℕ) (bs : List Block) → directory_break last bs ≡ None → IsLawfulDirectory (length bs) (entries_of bs)
unfolding directory_needed
lawful_directory last bs whole =
    let found = up_to last bs whole in
    let es : List Entry = found.0 in
    let all = all_entries bs es found.1 in
    let is : entries_of bs ≡ kept name_number es = ap (λ (o : Option (List Entry)). unwrap_or (option_map (kept name_number) o) []) found.1 in
    let good = all_kept IsEntry 0 es all in
    subst (IsLawfulDirectory (length bs)) (sym is) (record {
      room = omega (arith, chain_room name_number entry_size 254 12 (map stored_in bs) es 0 (all_fit bs) found.1, length-map bs stored_in);
      order = ascending 0 (kept name_number es) (kept_rises name_number 0 es) good;
      entries = lawful_entries (kept name_number es) good;
    })
