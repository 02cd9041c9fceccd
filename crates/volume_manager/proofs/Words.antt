-- The words of a run give a date, and 1 to 8 files of which no two are alike.
use Rattle.std.proofs.Common.{◌≡◌, ◌∙◌, ℕ, zero, suc, ◌<◌, ◌≤◌, Bool, true, false, List, [], ◌∷◌, length, refl, ap, subst, arith}
use Rattle.std.proofs.lemmas.Slice.Eq.{bytes_eq-Decides}
use Rattle.std.specs.Prelude.{◌&&◌, ◌||◌, not, slice_get, ◌/◌, ◌%◌, ◌==◌, nat_le, nat_lt, codes, Option, Some, None, option_map, option_and_then, if◌then◌else◌}
use Rattle.std.specs.List.{list_any}
use Rattle.std.specs.Str.{bytes_eq}
use Rattle.command_words.specs.Command.{Parts, words_in}
use Rattle.command_words.specs.Requests.{Run, Init, Names, Check, file_alone, has_any, init_request, new_pack, only_file, request_in_parts, request_named, request_of, run_request}
use Rattle.command_words.specs.Values.{are_distinct}
use Rattle.command_words.specs.declared.action.NewPack.{NewPack}
use Rattle.jcl_forms.specs.Dates.{IsDate, date_bytes, date_in}
use Rattle.jcl_forms.specs.Numbers.{number_below}
use Rattle.shelf_machine.specs.Opening.{AreApart}

-- what a value that comes of another comes of
then_some : {X Y : Type 0} (f : X → Option Y) (o : Option X) (y : Y) → option_and_then f o ≡ Some y → (x : X) × (o ≡ Some x) × (f x ≡ Some y)
then_some f None y is = absurd (cc is)
then_some f (Some x) y is = (x, refl, is)

-- ---- dates

if_some : {X : Type 0} (b : Bool) (x y : X) → (if b then Some x else None) ≡ Some y → (b ≡ true) × (x ≡ y)
if_some true x y is = (refl, cc)
if_some false x y is = absurd (cc is)

small : (limit : ℕ) (text : List ℕ) (n : ℕ) → number_below limit text ≡ Some n → n < limit
unfolding number_below
small limit text n is =
    let found = then_some (λ m. if nat_lt m limit then Some m else None) _ n is in
    let checked = if_some (nat_lt found.0 limit) found.0 n found.2 in
    subst (λ (m : ℕ). m < limit) checked.1 (below found.0 checked.0)
  where
    below : (m : ℕ) → nat_lt m limit ≡ true → m < limit
    below m is = grind (arith, is)

-- a year and a day as they are written
dated : (n : ℕ) (date : List ℕ) → n < 100000 → (if nat_lt 0 (n % 1000) && nat_lt (n % 1000) 367 then Some (date_bytes (n / 1000) (n % 1000)) else None) ≡ Some date → IsDate date
dated n date few is =
    let checked = if_some (nat_lt 0 (n % 1000) && nat_lt (n % 1000) 367) (date_bytes (n / 1000) (n % 1000)) date is in
    by_bytes checked.0 checked.1
  where
    by_bytes : (nat_lt 0 (n % 1000) && nat_lt (n % 1000) 367) ≡ true → date_bytes (n / 1000) (n % 1000) ≡ date → IsDate date
    by_bytes days same = subst IsDate same (record {
      year = omega (arith, few);
      first = grind (arith, days);
      last = grind (arith, days);
    })

pub date_read : (text date : List ℕ) → date_in text ≡ Some date → IsDate date
unfolding date_in
date_read text date is = by_length (length text == 5) is
  where
    by_length : (b : Bool) → (if b then option_and_then (λ n. if nat_lt 0 (n % 1000) && nat_lt (n % 1000) 367 then Some (date_bytes (n / 1000) (n % 1000)) else None) (number_below 100000 text) else None) ≡ Some date → IsDate date
    by_length false none = absurd (cc none)
    by_length true some =
        let found = then_some (λ n. if nat_lt 0 (n % 1000) && nat_lt (n % 1000) 367 then Some (date_bytes (n / 1000) (n % 1000)) else None) (number_below 100000 text) date some in
        dated found.0 date (small 100000 text found.0 found.1) found.2

-- ---- files

any_at : {X : Type 0} (test : X → Bool) (xs : List X) (k : ℕ) (x : X) → slice_get xs k ≡ Some x → test x ≡ true → list_any test xs ≡ true
any_at test [] k x there is = absurd (cc there)
any_at test (y ∷ ys) zero x there is = by_test (test y) (ap_test y x there) is
  where
    ap_test : (y x : _) → ◌≡◌ {A = Option _} (Some y) (Some x) → test y ≡ test x
    ap_test y x same = let here : y ≡ x = cc in ap test here

    by_test : (b : Bool) → b ≡ test x → test x ≡ true → (b || list_any test ys) ≡ true
    by_test true same holds = refl
    by_test false same holds = absurd (cc (same ∙ holds))
any_at test (y ∷ ys) (suc k) x there is = by_test (test y) (any_at test ys k x there is)
  where
    by_test : (b : Bool) → list_any test ys ≡ true → (b || list_any test ys) ≡ true
    by_test true holds = refl
    by_test false holds = holds

both_true : (a b : Bool) → (a && b) ≡ true → (a ≡ true) × (b ≡ true)
both_true true true is = (refl, refl)
both_true true false is = absurd (cc is)
both_true false b is = absurd (cc is)

-- the first word stands among the others
met : (word : List ℕ) (words : List (List ℕ)) (k : ℕ) (text : List ℕ) → (not (list_any (bytes_eq word) words) && are_distinct words) ≡ true → slice_get (word ∷ words) 0 ≡ Some text → slice_get words k ≡ Some text → ⊥
met word words k text is first second =
    let same : word ≡ text = cc in
    let among = any_at (bytes_eq word) words k text second ((bytes_eq-Decides word text).1 same) in
    never (list_any (bytes_eq word) words) among (both_true (not (list_any (bytes_eq word) words)) (are_distinct words) is).0
  where
    never : (b : Bool) → b ≡ true → not b ≡ true → ⊥
    never true here other = cc other
    never false here other = cc here

-- words that are distinct stand once each
pub distinct_apart : (words : List (List ℕ)) → are_distinct words ≡ true → AreApart words
unfolding are_distinct
distinct_apart [] is j k text first second = absurd (cc first)
distinct_apart (word ∷ words) is zero zero text first second = refl
distinct_apart (word ∷ words) is zero (suc k) text first second = absurd (met word words k text is first second)
distinct_apart (word ∷ words) is (suc j) zero text first second = absurd (met word words j text is second first)
distinct_apart (word ∷ words) is (suc j) (suc k) text first second = ap suc (distinct_apart words (both_true (not (list_any (bytes_eq word) words)) (are_distinct words) is).1 j k text first second)

-- ---- runs

-- A run is asked for as it may be.
pub record IsProperRun (date : List ℕ) (files : List (List ℕ)) : Type 0 where
  pub proper : IsDate date
  pub few : length files ≤ 8
  pub apart : AreApart files

checked_run : (any few : Bool) (o : Option (List ℕ)) (date : List ℕ) (fs files : List (List ℕ)) → (if any then None else (if few then option_map (λ (d : List ℕ). Run d fs) o else None)) ≡ Some (Run date files) → (few ≡ true) × (o ≡ Some date) × (fs ≡ files)
checked_run true few o date fs files is = absurd (cc is)
checked_run false false o date fs files is = absurd (cc is)
checked_run false true None date fs files is = absurd (cc is)
checked_run false true (Some d) date fs files is = (refl, cc, cc)

at_most : (n : ℕ) → nat_le n 8 ≡ true → n ≤ 8
at_most n is = grind (arith, is)

run_proper : (p : Parts) (date : List ℕ) (files : List (List ℕ)) → run_request p ≡ Some (Run date files) → IsProperRun date files
unfolding run_request
run_proper p date files is =
    let found = checked_run (has_any (p.device ∷ p.serial ∷ p.vtoc ∷ p.cylinders ∷ p.count ∷ [])) (nat_le (length p.files) 8 && are_distinct p.files) (option_and_then date_in p.date) date p.files files is in
    let checks = both_true (nat_le (length p.files) 8) (are_distinct p.files) found.0 in
    let text = then_some date_in p.date date found.1 in
    record {
      proper = date_read text.0 date text.2;
      few = subst (λ (fs : List (List ℕ)). length fs ≤ 8) found.2 (at_most (length p.files) checks.0);
      apart = subst AreApart found.2 (distinct_apart p.files checks.1);
    }

-- the other actions ask for no run
never_named : (o : Option (List ℕ)) (date : List ℕ) (files : List (List ℕ)) → option_map Names o ≡ Some (Run date files) → ⊥
never_named None date files is = cc is
never_named (Some file) date files is = cc is

never_checked : (o : Option (List ℕ)) (date : List ℕ) (files : List (List ℕ)) → option_map Check o ≡ Some (Run date files) → ⊥
never_checked None date files is = cc is
never_checked (Some file) date files is = cc is

never_with : (pack : NewPack) (o : Option (List ℕ)) (date : List ℕ) (files : List (List ℕ)) → option_map (Init pack) o ≡ Some (Run date files) → ⊥
never_with pack None date files is = cc is
never_with pack (Some file) date files is = cc is

never_made : (p : Parts) (date : List ℕ) (files : List (List ℕ)) → init_request p ≡ Some (Run date files) → ⊥
unfolding init_request
never_made p date files is =
    let found = then_some (λ pack. option_map (Init pack) (only_file p.files)) (new_pack p) (Run date files) is in
    never_with found.0 (only_file p.files) date files found.2

by_names : (run init names check : Bool) (p : Parts) (date : List ℕ) (files : List (List ℕ)) → (if run then run_request p else (if init then init_request p else (if names then option_map Names (file_alone p) else (if check then option_map Check (file_alone p) else None)))) ≡ Some (Run date files) → run_request p ≡ Some (Run date files)
by_names true init names check p date files is = is
by_names false true names check p date files is = absurd (never_made p date files is)
by_names false false true check p date files is = absurd (never_named (file_alone p) date files is)
by_names false false false true p date files is = absurd (never_checked (file_alone p) date files is)
by_names false false false false p date files is = absurd (cc is)

named_run : (p : Parts) (name date : List ℕ) (files : List (List ℕ)) → request_named p name ≡ Some (Run date files) → IsProperRun date files
unfolding request_named
named_run p name date files is =
    run_proper p date files (by_names (bytes_eq name (codes "run")) (bytes_eq name (codes "init")) (bytes_eq name (codes "names")) (bytes_eq name (codes "check")) p date files is)

parts_run : (p : Parts) (date : List ℕ) (files : List (List ℕ)) → request_in_parts p ≡ Some (Run date files) → IsProperRun date files
unfolding request_in_parts
parts_run p date files is = let found = then_some (request_named p) p.action (Run date files) is in named_run p found.0 date files found.2

-- the words that ask for a run
pub asked_run : (words : List (List ℕ)) (date : List ℕ) (files : List (List ℕ)) → request_of words ≡ Some (Run date files) → IsProperRun date files
unfolding request_of
asked_run words date files is = let found = then_some request_in_parts (words_in words) (Run date files) is in parts_run found.0 date files found.2
