-- A step that changes the entries of a directory changes those of one data set.
use Rattle.std.proofs.Common.{◌≡◌, ◌&&◌, ℕ, Bool, not, List, Option, Some, None, refl, sym, ap}
use Rattle.std.specs.Prelude.{Result, Ok, filter, nat_lt}
use Rattle.std.specs.Str.{bytes_eq}
use Rattle.ebcdic_names.specs.declared.names.Dsn.{Dsn}
use Rattle.ebcdic_names.specs.declared.names.Name8.{Name8}
use Rattle.vol_model.specs.declared.contents.Body.{Body}
use Rattle.vol_model.specs.declared.contents.Body.TheVariants as bodies
use Rattle.vol_model.specs.declared.contents.DataSet.{DataSet}
use Rattle.vol_model.specs.declared.contents.Entry.{Entry}
use Rattle.vol_model.specs.declared.contents.Volume.{Volume}
use Rattle.vol_model.specs.declared.refusals.Refusal.{Refusal}
use Rattle.vol_model.specs.declared.refusals.Refusal.TheVariants.{DirFull, MemberExists, NoMember, WrongKind}
use Rattle.vol_model.specs.declared.requests.Op.TheVariants.{Drop, Enter}
use Rattle.vol_model.specs.Shelf.{drop_on, enter_on, has_member, in_directory, is_partitioned, on_directory, on_found, refuse, set_of, step_on, with_entries, with_entry, with_set}
use Rattle.vol_model.specs.Slots.{directory_needed}
use Rattle.pack_machine.specs.Entries.{IsOnDirectory}
use Rattle.pack_machine.proofs.Operating.{ok_volume, unrefused}

pub enter_on_directory : (dsn : Dsn) (e : Entry) (replace : Bool) → IsOnDirectory dsn (enter_on dsn e replace)
unfolding enter_on
enter_on_directory dsn e replace w = (_, refl)

pub drop_on_directory : (dsn : Dsn) (name : Name8) → IsOnDirectory dsn (drop_on dsn name)
unfolding drop_on
drop_on_directory dsn name w = (_, refl)

-- the volume is one in which this set has other entries
abbrev pub HasEntries : Dsn → Volume → Volume → Type 0
HasEntries dsn w after = (es : List Entry) × (with_set w dsn.bytes (with_entries es) ≡ after)

module _ (dsn : Dsn) (w : Volume) (operation : ℕ → List Entry → Result Volume Refusal) (has : (dir : ℕ) (entries : List Entry) (after : Volume) → operation dir entries ≡ Ok after → HasEntries dsn w after) where
  in_body : (body : Body) (after : Volume) → in_directory body operation ≡ Ok after → HasEntries dsn w after
  in_body (bodies.Seq blocks) after is = absurd cc
  in_body (bodies.Part dir end entries blocks) after is = has dir entries after is
  in_body bodies.Catalog after is = absurd cc
  in_body bodies.Other after is = absurd cc
  in_body (bodies.Unreadable track) after is = absurd cc

  on_set : (o : Option DataSet) (after : Volume) → on_found o (λ (x : DataSet). refuse (not (is_partitioned dsn.bytes x.attr)) WrongKind (in_directory x.body operation)) ≡ Ok after → HasEntries dsn w after
  on_set None after is = absurd cc
  on_set (Some x) after is = in_body x.body after (unrefused (not (is_partitioned dsn.bytes x.attr)) WrongKind (in_directory x.body operation) after is)

  directory_is : (after : Volume) → on_directory dsn w operation ≡ Ok after → HasEntries dsn w after
  directory_is after is = on_set (set_of dsn.bytes w) after is

pub enter_is : (dsn : Dsn) (e : Entry) (replace : Bool) (w after : Volume) → enter_on dsn e replace w ≡ Ok after → HasEntries dsn w after
unfolding enter_on
enter_is dsn e replace w after is = directory_is dsn w _ entered after is
  where
    entered : (dir : ℕ) (entries : List Entry) (x : Volume) → refuse (not replace && has_member e.name.bytes entries) MemberExists
        (refuse (nat_lt dir (directory_needed (with_entry e entries))) (DirFull (directory_needed (with_entry e entries))) (Ok (with_set w dsn.bytes (with_entries (with_entry e entries))))) ≡ Ok x → HasEntries dsn w x
    entered dir entries x done =
        let new : Volume = with_set w dsn.bytes (with_entries (with_entry e entries)) in (
          with_entry e entries,
          ok_volume (unrefused (nat_lt dir (directory_needed (with_entry e entries))) (DirFull (directory_needed (with_entry e entries))) (Ok new) x
              (unrefused (not replace && has_member e.name.bytes entries) MemberExists _ x done)),
        )

pub drop_is : (dsn : Dsn) (name : Name8) (w after : Volume) → drop_on dsn name w ≡ Ok after → HasEntries dsn w after
unfolding drop_on
drop_is dsn name w after is = directory_is dsn w _ dropped after is
  where
    dropped : (dir : ℕ) (entries : List Entry) (x : Volume) → refuse (not (has_member name.bytes entries)) NoMember
        (Ok (with_set w dsn.bytes (with_entries (filter (λ (e : Entry). not (bytes_eq e.name.bytes name.bytes)) entries)))) ≡ Ok x → HasEntries dsn w x
    dropped dir entries x done =
        (filter (λ (e : Entry). not (bytes_eq e.name.bytes name.bytes)) entries, ok_volume (unrefused (not (has_member name.bytes entries)) NoMember _ x done))

pub enter_keeps : (n : ℕ) (dsn : Dsn) (e : Entry) (replace : Bool) (w after : Volume) → step_on (Enter n dsn e replace) w ≡ Ok after → after.serial.bytes ≡ w.serial.bytes
unfolding step_on
enter_keeps n dsn e replace w after is = ap (λ (y : Volume). y.serial.bytes) (sym (enter_is dsn e replace w after is).1)

pub drop_keeps : (n : ℕ) (dsn : Dsn) (name : Name8) (w after : Volume) → step_on (Drop n dsn name) w ≡ Ok after → after.serial.bytes ≡ w.serial.bytes
unfolding step_on
drop_keeps n dsn name w after is = ap (λ (y : Volume). y.serial.bytes) (sym (drop_is dsn name w after is).1)
