-- The members that a copy takes, case by case.
use Rattle.std.proofs.Common.{◌≡◌, ℕ, zero, suc, ◌+◌, ◌*◌, ◌≤◌, ◌<◌, min, Bool, true, false, cond, List, [], ◌∷◌, ◌++◌, length, map, filter, drop, refl, sym, ◌∙◌, ap, subst, arith, append_assoc}
use Rattle.std.specs.Prelude.{Option, Some, None, Result, Ok, Err, if◌then◌else◌, nat_le, unwrap_or, slice_get, find, option_and_then}
use Rattle.std.specs.List.{AllByRecursion, flat_map, list_any}
use Rattle.std.proofs.lemmas.List.{append-nil}
use Rattle.std.proofs.lemmas.Option.{slice_get_within}
use Rattle.std.proofs.lemmas.Bool.Decides.{nat_tests}
use Rattle.ebcdic_names.specs.declared.names.Name8.{Name8}
use Rattle.chain_spec.specs.Cut.{needed_from}
use Rattle.vol_model.specs.declared.answers.SetInfo.{SetInfo}
use Rattle.vol_model.specs.declared.contents.Attr.{Attr}
use Rattle.vol_model.specs.declared.contents.Body.{Body}
use Rattle.vol_model.specs.declared.contents.Body.TheVariants as bodies
use Rattle.vol_model.specs.declared.contents.DataSet.{DataSet}
use Rattle.vol_model.specs.declared.contents.Entry.{Entry}
use Rattle.vol_model.specs.declared.contents.Shelf.{Shelf}
use Rattle.vol_model.specs.declared.contents.Volume.{Volume}
use Rattle.vol_model.specs.declared.refusals.Refusal.{Refusal}
use Rattle.vol_model.specs.declared.refusals.Refusal.TheVariants.{WrongKind}
use Rattle.vol_model.specs.Lawful.{IsLawful, IsLawfulBody, IsLawfulEntry, IsLawfulSet, IsLawfulVolume}
use Rattle.vol_model.specs.Places.{tracks_in}
use Rattle.vol_model.specs.Shelf.{has_name, is_partitioned, set_of, unreadable}
use Rattle.vol_model.specs.Slots.{directory_needed, entry_size}
use Rattle.vol_model.specs.Reading.{entries_in, set_info}
use Rattle.vol_model.specs.Writing.{body_on, set_on}
use Rattle.util_steps.specs.declared.calls.SetRef.{SetRef}
use Rattle.iebcopy_util.specs.declared.orders.Choice.{Choice}
use Rattle.iebcopy_util.specs.declared.orders.Choice.TheVariants.{All, Select, Exclude}
use Rattle.iebcopy_util.specs.declared.requests.Pick.{Pick}
use Rattle.iebcopy_util.specs.declared.sets.Input.{Input}
use Rattle.iebcopy_util.specs.declared.tasks.InputLibrary.{InputLibrary}
use Rattle.iebcopy_util.specs.declared.tasks.MemberCopy.{MemberCopy}
use Rattle.record_files.specs.Members.{entries_of}
use Rattle.iebcopy_util.specs.Sets.{library}
use Rattle.iebcopy_util.specs.Tasks.{IsLawfulChoice, IsLawfulPick, IsLawfulMemberCopy, is_name, is_taken, on_library, source_for, task, tasks_of, wanted, with_source}
use Rattle.record_files.specs.declared.attributes.Purpose.TheVariants as purposes
use Rattle.record_files.specs.Attributes.{set_if_mounted, set_if_there, unless_refused, usable_set}
use Rattle.record_files.proofs.FoundLemmas.{library_entries}

-- an entry that is left out
pub none_wanted : (choice : Choice) (names : List Name8) (earlier : List MemberCopy) (source : InputLibrary) (e : Entry) → choice ≡ Exclude names → list_any (λ (n : Name8). is_name n e.name) names ≡ true → wanted choice earlier source e ≡ []
unfolding wanted
none_wanted choice names earlier source e is there =
    ap (λ (c : Choice). wanted c earlier source e) is ∙ ap (λ (t : Bool). cond t [] (task source e e.name false ∷ [])) there

-- ---- lawful copies

pub all_append : {X : Type 0} (P : X → Type 0) (xs ys : List X) → AllByRecursion P xs → AllByRecursion P ys → AllByRecursion P (xs ++ ys)
all_append P [] ys all more = more
all_append P (x ∷ xs) ys all more = (all.0, all_append P xs ys all.1 more)

-- the copies for a lawful entry are lawful
pub wanted_lawful : (choice : Choice) (earlier : List MemberCopy) (source : InputLibrary) (e : Entry) → IsLawfulChoice choice → IsLawfulEntry e → AllByRecursion IsLawfulMemberCopy (wanted choice earlier source e)
unfolding wanted
wanted_lawful All earlier source e choice lawful = (record { entry = lawful; name = lawful.name }, tt)
wanted_lawful (Exclude names) earlier source e choice lawful = by_test (list_any (λ (n : Name8). is_name n e.name) names)
  where
    by_test : (t : Bool) → AllByRecursion IsLawfulMemberCopy (cond t [] (task source e e.name false ∷ []))
    by_test true = tt
    by_test false = (record { entry = lawful; name = lawful.name }, tt)
wanted_lawful (Select picks) earlier source e choice lawful = by_test (is_taken e.name earlier)
  where
    by_pick : (p : Pick) (ps : List Pick) (t : Bool) → IsLawfulPick p → AllByRecursion IsLawfulMemberCopy (map (λ (q : Pick). task source e q.new q.replace) ps) → AllByRecursion IsLawfulMemberCopy (map (λ (q : Pick). task source e q.new q.replace) (cond t (p ∷ ps) ps))
    by_pick p ps true ok rest = (record { entry = lawful; name = ok }, rest)
    by_pick p ps false ok rest = rest

    picked : (ps : List Pick) → AllByRecursion IsLawfulPick ps → AllByRecursion IsLawfulMemberCopy (map (λ (q : Pick). task source e q.new q.replace) (filter (λ (q : Pick). is_name q.name e.name) ps))
    picked [] all = tt
    picked (p ∷ ps) all = by_pick p (filter (λ (q : Pick). is_name q.name e.name) ps) (is_name p.name e.name) all.0 (picked ps all.1)

    by_test : (t : Bool) → AllByRecursion IsLawfulMemberCopy (cond t [] (map (λ (q : Pick). task source e q.new q.replace) (filter (λ (q : Pick). is_name q.name e.name) picks)))
    by_test true = tt
    by_test false = picked picks choice

-- ---- the entries of a lawful directory are few

last_room : (used : ℕ) (t : Bool) → 12 * 0 + min used 254 ≤ 254 * cond t 1 2
last_room used true = omega arith
last_room used false = omega arith

next_room : (used size few this next : ℕ) (t : Bool) → nat_le (used + (12 + size)) 254 ≡ t → 12 * few + min (used + (12 + size)) 254 ≤ 254 * this → 12 * few + min (12 + size) 254 ≤ 254 * next → 12 * suc few + min used 254 ≤ 254 * cond t this (suc next)
next_room used size few this next true is here there = let fits : used + (12 + size) ≤ 254 = grind (arith, nat_tests) in omega (arith, here, fits)
next_room used size few this next false is here there = omega (arith, there)

-- entries of at least twelve bytes in blocks of 254
entries_room : (used : ℕ) (es : List Entry) → 12 * length es + min used 254 ≤ 254 * needed_from entry_size 254 12 used es
entries_room used [] = last_room used (nat_le (used + 12) 254)
entries_room used (e ∷ es) =
    next_room used (length e.user) (length es) (needed_from entry_size 254 12 (used + entry_size e) es) (needed_from entry_size 254 12 (entry_size e) es) (nat_le (used + entry_size e) 254) refl (entries_room (used + entry_size e) es) (entries_room (entry_size e) es)

module _ (P : Volume → Type 0) where
  volume_at : (xs : List Volume) (i : ℕ) (x : Volume) → AllByRecursion P xs → slice_get xs i ≡ Some x → P x
  volume_at [] i x all at = cc
  volume_at (y ∷ xs) zero x all at = let same : y ≡ x = cc in subst P same all.0
  volume_at (y ∷ xs) (suc i) x all at = volume_at xs i x all.1 at

at_first : (Q : DataSet → Type 0) (y x : DataSet) (rest : Option DataSet) (b : Bool) → Q y → (rest ≡ Some x → Q x) → cond b (Some y) rest ≡ Some x → Q x
at_first Q y x rest true here there at = let same : y ≡ x = cc in subst Q same here
at_first Q y x rest false here there at = there at

set_at : (Q : DataSet → Type 0) (test : DataSet → Bool) (sets : List DataSet) (x : DataSet) → AllByRecursion Q sets → find test sets ≡ Some x → Q x
set_at Q test [] x all at = cc
set_at Q test (y ∷ sets) x all at = at_first Q y x (find test sets) (test y) all.0 (set_at Q test sets x all.1) at

few_in : (tracks : ℕ) (b : Body) → IsLawfulBody tracks b → length (entries_of b) < 4294967295
unfolding directory_needed
few_in tracks (bodies.Seq bs) h = omega arith
few_in tracks (bodies.Part dir end es bs) h = omega (arith, entries_room 0 es, h.few, h.room)
few_in tracks bodies.Catalog h = omega arith
few_in tracks bodies.Other h = omega arith
few_in tracks (bodies.Unreadable track) h = omega arith

-- a directory on a lawful shelf has fewer entries than 32 bits count
pub entries_few : (shelf : Shelf) (v : ℕ) (name : List ℕ) (x : DataSet) → IsLawful shelf → set_on shelf v name ≡ Some x → length (entries_of x.body) < 4294967295
unfolding set_on
entries_few shelf v name x lawful there = by_volume (slice_get shelf.volumes v) refl there
  where
    by_volume : (o : Option Volume) → slice_get shelf.volumes v ≡ o → option_and_then (set_of name) o ≡ Some x → length (entries_of x.body) < 4294967295
    by_volume None at is = let never : ⊥ = cc in absurd never
    by_volume (Some volume) at is =
        let so : IsLawfulVolume volume = volume_at IsLawfulVolume shelf.volumes v volume lawful.volumes at in
        let set : IsLawfulSet volume.geometry x = set_at (IsLawfulSet volume.geometry) (has_name name) volume.sets x so.sets is in
        few_in (tracks_in x.extents) x.body set.body

-- ---- the entries one after another

pub drop_at : {X : Type 0} (xs : List X) (k : ℕ) (x : X) → slice_get xs k ≡ Some x → drop k xs ≡ x ∷ drop (k + 1) xs
drop_at [] k x at = cc
drop_at {X = X} (y ∷ xs) zero x at = let same : y ≡ x = cc in ap (λ (z : X). z ∷ xs) same
drop_at (y ∷ xs) (suc k) x at = drop_at xs k x at ∙ ap (λ (n : ℕ). x ∷ drop n (y ∷ xs)) (next k)
  where
    next : (i : ℕ) → suc (i + 1) ≡ suc i + 1
    next i = omega arith

pub drop_past : {X : Type 0} (xs : List X) (k : ℕ) → slice_get xs k ≡ None → drop k xs ≡ []
drop_past [] zero at = refl
drop_past [] (suc k) at = refl
drop_past (y ∷ xs) zero at = cc
drop_past (y ∷ xs) (suc k) at = drop_past xs k at

module _ {X Y : Type 0} (f : X → List Y) (es : List X) (k : ℕ) (now whole : List Y) (so : now ++ flat_map f (drop k es) ≡ whole) where
  -- one item more is passed
  pub passed_one : (e : X) (new : List Y) (next : ℕ) → slice_get es k ≡ Some e → new ≡ now ++ f e → next ≡ k + 1 → new ++ flat_map f (drop next es) ≡ whole
  passed_one e new next at is further =
      ap (λ (l : List Y). l ++ flat_map f (drop next es)) is ∙ append_assoc now (f e) (flat_map f (drop next es))
      ∙ ap (λ (i : ℕ). now ++ (f e ++ flat_map f (drop i es))) further ∙ ap (λ (l : List X). now ++ flat_map f l) (sym (drop_at es k e at)) ∙ so

  -- all are passed
  pub passed_all : (new : List Y) → slice_get es k ≡ None → new ≡ now → new ≡ whole
  passed_all new at is = is ∙ sym (append-nil now) ∙ ap (λ (l : List X). now ++ flat_map f l) (sym (drop_past es k at)) ∙ so

-- the entries of an input that is found stay
pub entries_there : (s0 s1 : Shelf) (set : SetRef) (x : DataSet) → s1 ≡ s0 → library s0 set ≡ Ok x → entries_in (body_on s1 set.v set.dsn.bytes) ≡ Ok (entries_of x.body)
entries_there s0 s1 set x same is = ap (λ (s : Shelf). entries_in (body_on s set.v set.dsn.bytes)) same ∙ library_entries s0 set x is

-- a library that is found is there
set_there : (s : Shelf) (set : SetRef) (x : DataSet) → library s set ≡ Ok x → set_on s set.v set.dsn.bytes ≡ Some x
unfolding usable_set set_on
set_there s set x is = by_volume (slice_get s.volumes set.v) is
  where
    by_test : (y : DataSet) (o : Option Refusal) (t : Bool) → (if t then unless_refused y o else Err WrongKind) ≡ Ok x → (let found : Option DataSet = Some y in found) ≡ Some x
    by_test y None true at = let same : y ≡ x = cc in ap (λ (z : DataSet). Some z) same
    by_test y (Some r) true at = let never : ⊥ = cc in absurd never
    by_test y o false at = let never : ⊥ = cc in absurd never

    by_set : (o : Option DataSet) → set_if_there purposes.Members set.dsn.bytes o ≡ Ok x → o ≡ Some x
    by_set None at = let never : ⊥ = cc in absurd never
    by_set (Some y) at = by_test y (unreadable y.body) (is_partitioned set.dsn.bytes y.attr) at

    by_volume : (o : Option Volume) → set_if_mounted purposes.Members set.dsn o ≡ Ok x → option_and_then (set_of set.dsn.bytes) o ≡ Some x
    by_volume None at = let never : ⊥ = cc in absurd never
    by_volume (Some volume) at = by_set (set_of set.dsn.bytes volume) at

-- no entry stands past the 32nd bit
pub no_entry_past : (s : Shelf) (set : SetRef) (x : DataSet) (k : ℕ) (e : Entry) → IsLawful s → library s set ≡ Ok x → slice_get (entries_of x.body) k ≡ Some e → 4294967295 ≤ k → ⊥
no_entry_past s set x k e lawful is at past =
    let few = entries_few s set.v set.dsn.bytes x lawful (set_there s set x is) in
    let within = slice_get_within (entries_of x.body) k e at in
    absurd (omega (arith, few, within, past))

-- ---- the inputs one after another

-- an input that is found, by what a machine tells of it in short
pub source_told : (number : ℕ) (given : Option Attr) (i : Input) (x : DataSet) (info : SetInfo) (first : Attr) → info ≡ set_info x → first ≡ unwrap_or given info.attr → (let s : InputLibrary = record { number = number; set = i.set; attr = info.attr; given = first; replace = i.replace } in s) ≡ source_for number given i x
unfolding set_info
source_told number given i x info first told is =
    let attr : info.attr ≡ x.attr = ap (λ (n : SetInfo). n.attr) told in
    ap (λ (a : Attr). record { number = number; set = i.set; attr = a; given = first; replace = i.replace }) attr
    ∙ ap (λ (a : Attr). record { number = number; set = i.set; attr = x.attr; given = a; replace = i.replace }) (is ∙ ap (unwrap_or given) attr)

-- the copies of members of one input are taken
pub input_taken : (shelf : Shelf) (choice : Choice) (number : ℕ) (given : Option Attr) (i : Input) (old new : List MemberCopy) (x : DataSet) (source : InputLibrary) → library shelf i.set ≡ Ok x → source ≡ source_for number given i x → new ≡ with_source choice old source x
    → (is : List Input) → tasks_of shelf choice number given old (i ∷ is) ≡ tasks_of shelf choice (number + 1) (Some source.given) new is
input_taken shelf choice number given i old new x source found same added is =
    ap (λ (r : Result DataSet Refusal). on_library i.set r (λ y. let s = source_for number given i y in tasks_of shelf choice (number + 1) (Some s.given) (with_source choice old s y) is)) found
    ∙ ap (λ (s : InputLibrary). tasks_of shelf choice (number + 1) (Some s.given) (with_source choice old s x) is) (sym same)
    ∙ ap (λ (l : List MemberCopy). tasks_of shelf choice (number + 1) (Some source.given) l is) (sym added)
