-- What an operation that is done has found, and makes of its volume.
use Rattle.std.proofs.Common.{◌≡◌, ◌+◌, ◌&&◌, ◌||◌, not, nat_lt, ℕ, Bool, true, false, List, length, filter, map, refl, sym, ap}
use Rattle.std.specs.Prelude.{Option, Some, None, Result, Ok, Err, if◌then◌else◌}
use Rattle.std.specs.Str.{bytes_eq}
use Rattle.ebcdic_names.specs.declared.names.Dsn.{Dsn}
use Rattle.ebcdic_names.specs.declared.names.Name8.{Name8}
use Rattle.vol_model.specs.declared.answers.Mode.{Mode}
use Rattle.vol_model.specs.declared.catalogs.CatBody.{CatBody}
use Rattle.vol_model.specs.declared.catalogs.CatBody.TheVariants as catalogs
use Rattle.vol_model.specs.declared.contents.Attr.{Attr}
use Rattle.vol_model.specs.declared.contents.Block.{Block}
use Rattle.vol_model.specs.declared.contents.Body.{Body}
use Rattle.vol_model.specs.declared.contents.Body.TheVariants as bodies
use Rattle.vol_model.specs.declared.contents.DataSet.{DataSet}
use Rattle.vol_model.specs.declared.contents.Entry.{Entry}
use Rattle.vol_model.specs.declared.contents.Place.{Place}
use Rattle.vol_model.specs.declared.contents.Run.{Run}
use Rattle.vol_model.specs.declared.contents.Volume.{Volume}
use Rattle.vol_model.specs.declared.refusals.Refusal.{Refusal}
use Rattle.vol_model.specs.declared.refusals.Refusal.TheVariants.{CatalogFull, DirFull, ExtentsFull, MemberExists, NoMember, NoSet, SetExists, VtocFull, WrongKind}
use Rattle.vol_model.specs.declared.requests.Request.{Request}
use Rattle.vol_model.specs.Order.{in_order}
use Rattle.vol_model.specs.Places.{Content}
use Rattle.vol_model.specs.Shelf.{after_nodes, allocate_on, drop_on, empty_on, empty_set, emptied, enter_on, extend_on, extend_set, extended_by, fits_mode, has_member, has_name, has_set, if_readable, if_slots, in_catalog, in_directory, is_catalog, is_partitioned, may_empty, on_catalog, on_choice, on_directory, refuse, rename_on, rename_refusal, renamed, scratch_on, secondary_asked, secondary_choice, set_of, unless_refused, unreadable, with_entries, with_entry, with_extents, with_name, with_new, with_set, with_written, write_on, write_refusal, write_refusal_for}
use Rattle.vol_model.specs.Slots.{catalog_needed, directory_needed, slots_needed}
use Rattle.vol_model.specs.Trees.{Node}
use Rattle.shelf_laws.proofs.Allocating.{allocated_on}
use Rattle.shelf_laws.proofs.Extending.{choice_ok, readable_ok}
use Rattle.shelf_laws.proofs.Steps.{found_ok, ok_same, refuse_ok}

module _ (volume w : Volume) where
  -- The set of a name was changed.
  pub record Changed (dsn : Dsn) (f : DataSet → DataSet) : Type 0 where
    pub set : DataSet
    pub at : set_of dsn.bytes volume ≡ Some set
    pub is : with_set volume dsn.bytes f ≡ w

  -- Its directory was, to what a function makes of its entries.
  pub record DirectoryChanged (dsn : Dsn) (after : List Entry → List Entry) : Type 0 where
    pub dir : ℕ
    pub end : Place
    pub entries : List Entry
    pub blocks : List Block
    pub change : Changed dsn (with_entries (after entries))
    pub body : change.set.body ≡ bodies.Part dir end entries blocks

  module _ (dsn : Dsn) where
    -- ---- one set

    pub extend_changes : extend_on dsn volume ≡ Ok w → (runs : List Run) × Changed dsn (with_extents runs)
    unfolding extend_on
    extend_changes done =
        let found = found_ok (set_of dsn.bytes volume) (extend_set dsn volume) w done in
        let x = found.0 in
        let chosen = on_choice (secondary_asked x.attr) (secondary_choice volume x.attr) (extended_by dsn volume x) in
        let kind = refuse_ok (is_catalog dsn.bytes) WrongKind (if_readable x.body chosen) w found.2 in
        let at = choice_ok (secondary_asked x.attr) (secondary_choice volume x.attr) (extended_by dsn volume x) w (readable_ok x.body chosen w kind.1) in
        let runs = at.0 in
        let after = with_set volume dsn.bytes (with_extents runs) in
        let few = refuse_ok (nat_lt 16 (length x.extents + length runs)) ExtentsFull (if_slots after) w at.2 in
        let slots = refuse_ok (nat_lt after.slots (slots_needed after)) (VtocFull (slots_needed after)) (Ok after) w few.1 in
        (runs, record { set = x; at = found.1; is = ok_same after w slots.1 })

    not_not : (b : Bool) → not b ≡ false → b ≡ true
    not_not true e = refl
    not_not false e = cc

    pub empty_changes : (attr : Attr) → empty_on dsn attr volume ≡ Ok w → (c : Changed dsn (emptied attr)) × (may_empty dsn.bytes c.set.attr c.set.body ≡ true)
    unfolding empty_on
    empty_changes attr done =
        let found = found_ok (set_of dsn.bytes volume) (empty_set dsn attr volume) w done in
        let x = found.0 in
        let after = with_set volume dsn.bytes (emptied attr) in
        let kind = refuse_ok (not (may_empty dsn.bytes x.attr x.body)) WrongKind (if_readable x.body (Ok after)) w found.2 in
        (record { set = x; at = found.1; is = ok_same after w (readable_ok x.body (Ok after) w kind.1) }, not_not (may_empty dsn.bytes x.attr x.body) kind.0)

    pub write_changes : (mode : Mode) (cs : List Content) → write_on mode dsn cs volume ≡ Ok w → (c : Changed dsn (with_written volume.geometry.device mode cs)) × (fits_mode mode dsn.bytes c.set.attr ≡ true)
    unfolding write_on write_refusal
    write_changes mode cs done = by_set (set_of dsn.bytes volume) refl done
      where
        by_fit : (x : DataSet) → set_of dsn.bytes volume ≡ Some x → (b : Bool) → fits_mode mode dsn.bytes x.attr ≡ b → (o : Option Refusal) → unless_refused (if b then o else Some WrongKind) (with_set volume dsn.bytes (with_written volume.geometry.device mode cs)) ≡ Ok w
            → (c : Changed dsn (with_written volume.geometry.device mode cs)) × (fits_mode mode dsn.bytes c.set.attr ≡ true)
        by_fit x at false fit o done = cc
        by_fit x at true fit (Some r) done = cc
        by_fit x at true fit None done = (record { set = x; at = at; is = ok_same (with_set volume dsn.bytes (with_written volume.geometry.device mode cs)) w done }, fit)

        by_set : (o : Option DataSet) → set_of dsn.bytes volume ≡ o → unless_refused (write_refusal_for mode dsn.bytes o) (with_set volume dsn.bytes (with_written volume.geometry.device mode cs)) ≡ Ok w → (c : Changed dsn (with_written volume.geometry.device mode cs)) × (fits_mode mode dsn.bytes c.set.attr ≡ true)
        by_set None at done = cc
        by_set (Some x) at done = by_fit x at (fits_mode mode dsn.bytes x.attr) refl (unreadable x.body) done

    entries_change : (operation : ℕ → List Entry → Result Volume Refusal) (after : List Entry → List Entry) → ((dir : ℕ) (es : List Entry) → operation dir es ≡ Ok w → with_set volume dsn.bytes (with_entries (after es)) ≡ w)
        → on_directory dsn volume operation ≡ Ok w → DirectoryChanged dsn after
    entries_change operation after gives done =
        let found = found_ok (set_of dsn.bytes volume) (λ x. refuse (not (is_partitioned dsn.bytes x.attr)) WrongKind (in_directory x.body operation)) w done in
        let went = refuse_ok (not (is_partitioned dsn.bytes found.0.attr)) WrongKind (in_directory found.0.body operation) w found.2 in
        by_body found.0 found.1 found.0.body refl went.1
      where
        by_body : (x : DataSet) → set_of dsn.bytes volume ≡ Some x → (body : Body) → x.body ≡ body → in_directory body operation ≡ Ok w → DirectoryChanged dsn after
        by_body x at (bodies.Part dir end es bs) is done = record { dir = dir; end = end; entries = es; blocks = bs; change = record { set = x; at = at; is = gives dir es done }; body = is }
        by_body x at (bodies.Seq bs) is done = cc
        by_body x at bodies.Catalog is done = cc
        by_body x at bodies.Other is done = cc
        by_body x at (bodies.Unreadable track) is done = cc

    pub enter_changes : (new : Entry) (replace : Bool) → enter_on dsn new replace volume ≡ Ok w → DirectoryChanged dsn (with_entry new)
    unfolding enter_on
    enter_changes new replace done =
        entries_change _ (with_entry new)
        (λ dir es ok.
        let after = with_entry new es in
        let u = with_set volume dsn.bytes (with_entries after) in
        let first = refuse_ok (not replace && has_member new.name.bytes es) MemberExists (refuse (nat_lt dir (directory_needed after)) (DirFull (directory_needed after)) (Ok u)) w ok in
        ok_same u w (refuse_ok (nat_lt dir (directory_needed after)) (DirFull (directory_needed after)) (Ok u) w first.1).1)
        done

    pub drop_changes : (name : Name8) → drop_on dsn name volume ≡ Ok w → DirectoryChanged dsn (filter (λ (e : Entry). not (bytes_eq e.name.bytes name.bytes)))
    unfolding drop_on
    drop_changes name done =
        let left : Entry → Bool = λ e. not (bytes_eq e.name.bytes name.bytes) in
        entries_change _ (filter left)
        (λ dir es ok. let u = with_set volume dsn.bytes (with_entries (filter left es)) in ok_same u w (refuse_ok (not (has_member name.bytes es)) NoMember (Ok u) w ok).1)
        done

    -- ---- which sets there are

    pub allocate_changes : (attr : Attr) (q : Request) (dir : ℕ) → allocate_on dsn attr q dir volume ≡ Ok w → (runs : List Run) × (has_set volume dsn.bytes ≡ false) × (with_new dsn attr q dir volume runs ≡ w)
    allocate_changes attr q dir done = let a = allocated_on dsn attr q dir volume w done in (a.runs, a.fresh, a.is)

    pub scratch_changes : scratch_on dsn volume ≡ Ok w → w.sets ≡ filter (λ (y : DataSet). not (has_name dsn.bytes y)) volume.sets
    unfolding scratch_on
    scratch_changes done =
        let u : Volume = record volume { sets = filter (λ (y : DataSet). not (has_name dsn.bytes y)) volume.sets; catalog = if is_catalog dsn.bytes then None else volume.catalog } in
        let found = found_ok (set_of dsn.bytes volume) (λ x. Ok u) w done in
        ap (λ (v : Volume). v.sets) (sym (ok_same u w found.2))

    pub rename_changes : (new : Dsn) → rename_on dsn new volume ≡ Ok w → (has_set volume new.bytes ≡ false) × (is_catalog new.bytes ≡ false) × (w.sets ≡ in_order (map (with_name dsn.bytes new) volume.sets))
    unfolding rename_on rename_refusal renamed
    rename_changes new done = by_tests (has_set volume dsn.bytes) (has_set volume new.bytes) (is_catalog dsn.bytes) (is_catalog new.bytes) refl refl done
      where
        by_tests : (a b c d : Bool) → has_set volume new.bytes ≡ b → is_catalog new.bytes ≡ d → unless_refused (if not a then Some NoSet else (if b then Some SetExists else (if c || d then Some WrongKind else None))) (record volume { sets = in_order (map (with_name dsn.bytes new) volume.sets) }) ≡ Ok w
            → (has_set volume new.bytes ≡ false) × (is_catalog new.bytes ≡ false) × (w.sets ≡ in_order (map (with_name dsn.bytes new) volume.sets))
        by_tests false b c d p q e = cc
        by_tests true true c d p q e = cc
        by_tests true false true d p q e = cc
        by_tests true false false true p q e = cc
        by_tests true false false false p q e = (p, q, ap (λ (v : Volume). v.sets) (sym (ok_same (record volume { sets = in_order (map (with_name dsn.bytes new) volume.sets) }) w e)))

  -- ---- the catalog

  pub catalog_changes : (operation : List Node → Result (List Node) Refusal) → on_catalog operation volume ≡ Ok w → w.sets ≡ volume.sets
  unfolding on_catalog
  catalog_changes operation done = by_catalog volume.catalog done
    where
      by_nodes : (most : ℕ) (r : Result (List Node) Refusal) → after_nodes volume most r ≡ Ok w → w.sets ≡ volume.sets
      by_nodes most (Err r) done = cc
      by_nodes most (Ok nodes) done =
          let u : Volume = record volume { catalog = Some (catalogs.Tree most nodes) } in
          let room = refuse_ok (nat_lt most (catalog_needed nodes)) (CatalogFull (catalog_needed nodes)) (Ok u) w done in
          ap (λ (v : Volume). v.sets) (sym (ok_same u w room.1))

      by_catalog : (o : Option CatBody) → in_catalog volume operation o ≡ Ok w → w.sets ≡ volume.sets
      by_catalog None done = cc
      by_catalog (Some (catalogs.Unreadable track)) done = cc
      by_catalog (Some (catalogs.Tree most nodes)) done = by_nodes most (operation nodes) done
