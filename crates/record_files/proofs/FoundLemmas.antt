-- The data sets of a copy, as a machine tells of them in short.
use Rattle.std.proofs.Common.{◌≡◌, ℕ, Bool, true, false, refl, sym, ◌∙◌, ap, subst}
use Rattle.std.specs.Prelude.{List, if◌then◌else◌, is_some, slice_get, Option, Some, None, option_map, option_and_then, Result, Ok, Err}
use Rattle.std.specs.Option.{option_map_or}
use Rattle.card_text.specs.declared.cards.Card.{Card}
use Rattle.ebcdic_names.specs.declared.names.Name8.{Name8}
use Rattle.vol_model.specs.declared.answers.SetInfo.{SetInfo}
use Rattle.vol_model.specs.declared.contents.Body.{Body}
use Rattle.vol_model.specs.declared.contents.Body.TheVariants as bodies
use Rattle.vol_model.specs.declared.contents.DataSet.{DataSet}
use Rattle.vol_model.specs.declared.contents.Entry.{Entry}
use Rattle.vol_model.specs.declared.contents.Place.{Place}
use Rattle.vol_model.specs.declared.contents.Shelf.{Shelf}
use Rattle.vol_model.specs.declared.contents.Volume.{Volume}
use Rattle.vol_model.specs.declared.refusals.Refusal.{Refusal}
use Rattle.vol_model.specs.declared.refusals.Refusal.TheVariants.{NoMember, NoSet, NoVolume, WrongKind}
use Rattle.vol_model.specs.Reading.{entries_in, kind_of, readable, set_info, volume_info}
use Rattle.vol_model.specs.Shelf.{blocks_of, set_of, unreadable}
use Rattle.vol_model.specs.Writing.{body_on, set_on}
use Rattle.util_steps.specs.declared.calls.SetRef.{SetRef}
use Rattle.util_steps.specs.Copying.{source}
use Rattle.record_files.specs.declared.attributes.Purpose.{Purpose}
use Rattle.record_files.specs.declared.attributes.Purpose.TheVariants as purposes
use Rattle.record_files.specs.declared.inputs.RecordInput.{RecordInput}
use Rattle.record_files.specs.Attributes.{FindsSet, info_if, info_unless, serves, set_if_mounted, set_if_there, unless_refused, usable_set}
use Rattle.record_files.specs.Inputs.{Found, InputView, IsFound, ReadsAs, cards, found_cards, found_input, found_member, found_set, found_whole, from}
use Rattle.record_files.specs.Members.{FindsMember, entries_of, entry_named, member_if, member_in, place_if}

-- a set that can be read, or the track at which it can't
kind_told : (x : DataSet) (info : SetInfo) → info ≡ set_info x → (b : Body) → FindsSet (info_unless info (kind_of b)) (unless_refused x (unreadable b))
kind_told x info is (bodies.Seq blocks) = (x, refl, is)
kind_told x info is (bodies.Part dir end entries blocks) = (x, refl, is)
kind_told x info is bodies.Catalog = (x, refl, is)
kind_told x info is bodies.Other = (x, refl, is)
kind_told x info is (bodies.Unreadable track) = refl

set_told : (purpose : Purpose) (name : List ℕ) (x : DataSet) → FindsSet (info_if purpose name (set_info x)) (set_if_there purpose name (Some x))
unfolding set_info
set_told purpose name x = by_test (serves purpose name x.attr)
  where
    by_test : (t : Bool) → FindsSet (if t then info_unless (set_info x) (kind_of x.body) else Err WrongKind) (if t then unless_refused x (unreadable x.body) else Err WrongKind)
    by_test true = kind_told x (set_info x) refl x.body
    by_test false = refl

module _ (shelf : Shelf) (purpose : Purpose) (s : SetRef) where
  abbrev name : List ℕ
  name = s.dsn.bytes

  -- a set that is there
  pub found_some : (info : SetInfo) → Some info ≡ option_map set_info (set_on shelf s.v s.dsn.bytes) → FindsSet (info_if purpose s.dsn.bytes info) (usable_set shelf purpose s)
  unfolding set_on usable_set
  found_some info told = by_volume (slice_get shelf.volumes s.v) told
    where
      by_set : (o : Option DataSet) → Some info ≡ option_map set_info o → FindsSet (info_if purpose name info) (set_if_there purpose name o)
      by_set None is = let never : ⊥ = cc in absurd never
      by_set (Some x) is = let same : info ≡ set_info x = cc in subst (λ (i : SetInfo). FindsSet (info_if purpose name i) (set_if_there purpose name (Some x))) (sym same) (set_told purpose name x)

      by_volume : (o : Option Volume) → Some info ≡ option_map set_info (option_and_then (set_of name) o) → FindsSet (info_if purpose name info) (set_if_mounted purpose s.dsn o)
      by_volume None is = let never : ⊥ = cc in absurd never
      by_volume (Some volume) is = by_set (set_of name volume) is

  -- a set that isn't, on a volume that is
  pub found_no_set : None ≡ option_map set_info (set_on shelf s.v s.dsn.bytes) → is_some (option_map volume_info (slice_get shelf.volumes s.v)) ≡ true → usable_set shelf purpose s ≡ Err NoSet
  unfolding set_on usable_set
  found_no_set told mounted = by_volume (slice_get shelf.volumes s.v) told mounted
    where
      by_set : (o : Option DataSet) → None ≡ option_map set_info o → set_if_there purpose name o ≡ Err NoSet
      by_set None is = refl
      by_set (Some x) is = cc

      by_volume : (o : Option Volume) → None ≡ option_map set_info (option_and_then (set_of name) o) → is_some (option_map volume_info o) ≡ true → set_if_mounted purpose s.dsn o ≡ Err NoSet
      by_volume None is there = cc
      by_volume (Some volume) is there = by_set (set_of name volume) is

  -- a volume that isn't there
  pub found_no_volume : is_some (option_map volume_info (slice_get shelf.volumes s.v)) ≡ false → usable_set shelf purpose s ≡ Err NoVolume
  unfolding usable_set
  found_no_volume mounted = by_volume (slice_get shelf.volumes s.v) mounted
    where
      by_volume : (o : Option Volume) → is_some (option_map volume_info o) ≡ false → set_if_mounted purpose s.dsn o ≡ Err NoVolume
      by_volume None there = refl
      by_volume (Some volume) there = cc

-- ---- what is read

body_read : (b : Body) → unreadable b ≡ None → readable b ≡ Ok (blocks_of b)
body_read (bodies.Seq blocks) none = refl
body_read (bodies.Part dir end entries blocks) none = refl
body_read bodies.Catalog none = refl
body_read bodies.Other none = refl
body_read (bodies.Unreadable track) none = cc

not_refused : (y x : DataSet) (o : Option Refusal) → unless_refused y o ≡ Ok x → (o ≡ None) × (y ≡ x)
not_refused y x None is = (refl, cc)
not_refused y x (Some r) is = let never : ⊥ = cc in absurd never

-- a set that is found can be read
pub set_reads : (shelf : Shelf) (purpose : Purpose) (s : SetRef) (x : DataSet) → usable_set shelf purpose s ≡ Ok x → source shelf s ≡ Ok (blocks_of x.body)
unfolding usable_set body_on set_on
set_reads shelf purpose s x is = by_volume (slice_get shelf.volumes s.v) is
  where
    by_test : (y : DataSet) (t : Bool) → (if t then unless_refused y (unreadable y.body) else Err WrongKind) ≡ Ok x → readable y.body ≡ Ok (blocks_of x.body)
    by_test y true at = let so = not_refused y x (unreadable y.body) at in body_read y.body so.0 ∙ ap (λ (z : DataSet). Ok (blocks_of z.body)) so.1
    by_test y false at = cc

    by_set : (o : Option DataSet) → set_if_there purpose s.dsn.bytes o ≡ Ok x → readable (option_map_or (λ (y : DataSet). y.body) o bodies.Other) ≡ Ok (blocks_of x.body)
    by_set None at = cc
    by_set (Some y) at = by_test y (serves purpose s.dsn.bytes y.attr) at

    by_volume : (o : Option Volume) → set_if_mounted purpose s.dsn o ≡ Ok x → readable (option_map_or (λ (y : DataSet). y.body) (option_and_then (set_of s.dsn.bytes) o) bodies.Other) ≡ Ok (blocks_of x.body)
    by_volume None at = cc
    by_volume (Some volume) at = by_set (set_of s.dsn.bytes volume) at

-- the library of a member that is found
member_library : (name : Name8) (r : Result DataSet Refusal) (m : DataSet × Place) → member_if name r ≡ Ok m → r ≡ Ok m.0
member_library name (Err e) m is = cc
member_library name (Ok x) m is = by_entry (entry_named name (entries_of x.body)) is
  where
    by_entry : (o : Option Entry) → place_if x o ≡ Ok m → (let r : Result DataSet Refusal = Ok x in r) ≡ Ok m.0
    by_entry None at = cc
    by_entry (Some e) at = let same : (x, e.place) ≡ m = cc in ap (λ (p : DataSet × Place). Ok p.0) same

-- what is found is read so
pub reads_found : (shelf : Shelf) (i : InputView) (f : Found) → found_input shelf i ≡ Ok f → ReadsAs shelf i f
unfolding found_input member_in
reads_found shelf (cards cs) f is = cc
reads_found shelf (from s None) f is = by_set (usable_set shelf purposes.Records s) refl is
  where
    by_set : (r : Result DataSet Refusal) → usable_set shelf purposes.Records s ≡ r → found_whole r ≡ Ok f → ReadsAs shelf (from s None) f
    by_set (Ok x) at so = (x, None, cc, set_reads shelf purposes.Records s x at)
    by_set (Err r) at so = let never : ⊥ = cc in absurd never
reads_found shelf (from s (Some name)) f is = by_member (member_if name (usable_set shelf purposes.Members s)) refl is
  where
    by_member : (r : Result (DataSet × Place) Refusal) → member_if name (usable_set shelf purposes.Members s) ≡ r → found_member r ≡ Ok f → ReadsAs shelf (from s (Some name)) f
    by_member (Ok m) at so = (m.0, Some m.1, cc, set_reads shelf purposes.Members s m.0 (member_library name (usable_set shelf purposes.Members s) m at))
    by_member (Err r) at so = let never : ⊥ = cc in absurd never

-- and so it is where the blocks of the set stay
pub reads_kept : (old new : Shelf) (i : InputView) (f : Found) → ((s : SetRef) (member : Option Name8) → i ≡ from s member → source new s ≡ source old s) → ReadsAs old i f → ReadsAs new i f
reads_kept old new (cards cs) f stays reads = reads
reads_kept old new (from s member) f stays reads = (reads.0, reads.1, reads.2, stays s member refl ∙ reads.3)

-- ---- what is known of an input

abbrev pub known_whole : SetInfo → RecordInput
known_whole info = record { attr = Some info.attr; start = None }

abbrev pub known_member : SetInfo → Place → RecordInput
known_member info place = record { attr = Some info.attr; start = Some place }

pub input_found : (shelf : Shelf) (s : SetRef) (info : SetInfo) → FindsSet (Ok info) (usable_set shelf purposes.Records s) → IsFound (Ok (known_whole info)) (found_input shelf (from s None))
unfolding found_input set_info
input_found shelf s info finds = (found_set finds.0 None, ap found_whole finds.1, ap known_whole finds.2)

pub input_refused : (shelf : Shelf) (s : SetRef) (r : Refusal) → FindsSet (Err r) (usable_set shelf purposes.Records s) → found_input shelf (from s None) ≡ Err r
unfolding found_input
input_refused shelf s r finds = ap found_whole finds

pub member_found : (shelf : Shelf) (s : SetRef) (name : Name8) (info : SetInfo) (place : Place) → FindsMember (Ok (info, place)) (member_in shelf s name) → IsFound (Ok (known_member info place)) (found_input shelf (from s (Some name)))
unfolding found_input set_info
member_found shelf s name info place finds = (found_set finds.0 (Some place), ap found_member finds.1, ap (λ (i : SetInfo). known_member i place) finds.2)

pub member_refused : (shelf : Shelf) (s : SetRef) (name : Name8) (r : Refusal) → FindsMember (Err r) (member_in shelf s name) → found_input shelf (from s (Some name)) ≡ Err r
unfolding found_input
member_refused shelf s name r finds = ap found_member finds

pub input_cards : (shelf : Shelf) (cs : List (ℕ × Card)) → IsFound (Ok (record { attr = None; start = None })) (found_input shelf (cards cs))
unfolding found_input
input_cards shelf cs = (found_cards cs, refl, refl)

-- ---- a member of a library

-- the entries of a library that is found
pub library_entries : (shelf : Shelf) (s : SetRef) (x : DataSet) → usable_set shelf purposes.Members s ≡ Ok x → entries_in (body_on shelf s.v s.dsn.bytes) ≡ Ok (entries_of x.body)
unfolding usable_set body_on set_on
library_entries shelf s x is = by_volume (slice_get shelf.volumes s.v) is
  where
    body_entries : (b : Body) → unreadable b ≡ None → entries_in b ≡ Ok (entries_of b)
    body_entries (bodies.Seq blocks) none = refl
    body_entries (bodies.Part dir end entries blocks) none = refl
    body_entries bodies.Catalog none = refl
    body_entries bodies.Other none = refl
    body_entries (bodies.Unreadable track) none = cc

    by_test : (y : DataSet) (t : Bool) → (if t then unless_refused y (unreadable y.body) else Err WrongKind) ≡ Ok x → entries_in y.body ≡ Ok (entries_of x.body)
    by_test y true at = let so = not_refused y x (unreadable y.body) at in body_entries y.body so.0 ∙ ap (λ (z : DataSet). Ok (entries_of z.body)) so.1
    by_test y false at = cc

    by_set : (o : Option DataSet) → set_if_there purposes.Members s.dsn.bytes o ≡ Ok x → entries_in (option_map_or (λ (y : DataSet). y.body) o bodies.Other) ≡ Ok (entries_of x.body)
    by_set None at = cc
    by_set (Some y) at = by_test y (serves purposes.Members s.dsn.bytes y.attr) at

    by_volume : (o : Option Volume) → set_if_mounted purposes.Members s.dsn o ≡ Ok x → entries_in (option_map_or (λ (y : DataSet). y.body) (option_and_then (set_of s.dsn.bytes) o) bodies.Other) ≡ Ok (entries_of x.body)
    by_volume None at = cc
    by_volume (Some volume) at = by_set (set_of s.dsn.bytes volume) at

-- a member of a library whose entries these are
pub place_found : (shelf : Shelf) (s : SetRef) (name : Name8) (info : SetInfo) (finds : FindsSet (Ok info) (usable_set shelf purposes.Members s)) (e : Entry) → entry_named name (entries_of finds.0.body) ≡ Some e → FindsMember (Ok (info, e.place)) (member_in shelf s name)
unfolding member_in
place_found shelf s name info finds e is = (finds.0, ap (member_if name) finds.1 ∙ ap (place_if finds.0) is, finds.2)

pub place_missing : (shelf : Shelf) (s : SetRef) (name : Name8) (info : SetInfo) (finds : FindsSet (Ok info) (usable_set shelf purposes.Members s)) → entry_named name (entries_of finds.0.body) ≡ None → member_in shelf s name ≡ Err NoMember
unfolding member_in
place_missing shelf s name info finds is = ap (member_if name) finds.1 ∙ ap (place_if finds.0) is

pub place_refused : (shelf : Shelf) (s : SetRef) (name : Name8) (r : Refusal) → usable_set shelf purposes.Members s ≡ Err r → member_in shelf s name ≡ Err r
unfolding member_in
place_refused shelf s name r is = ap (member_if name) is
