-- The list of the data sets of a volume that can't be read tells of each name whether its data set is one.
use Rattle.std.proofs.Common.{◌≡◌, ℕ, suc, Bool, true, false, cond, not, ◌&&◌, List, [], ◌∷◌, map, Option, Some, None, refl, sym, ap, subst, ◌∙◌}
use Rattle.std.specs.Prelude.{◌||◌, ◌==◌, option_and_then, slice_get, find}
use Rattle.std.specs.List.{AllByRecursion, cons_option, filter_map, list_any}
use Rattle.std.specs.Option.{option_map}
use Rattle.std.proofs.lemmas.Slice.Eq.{bytes_eq-Decides}
use Rattle.dscb_codec.specs.declared.F1.{F1}
use Rattle.ebcdic_names.specs.declared.names.Dsn.{Dsn}
use Rattle.mount_repair.specs.Sets.{body_at, name_and_kind, set_by}
use Rattle.mount_repair.proofs.SetsByName.{first_of_name, rising}
use Rattle.mount_repair.proofs.SettledScans.{set_in_slot}
use Rattle.pack_spec.specs.Blocks.{seq_body}
use Rattle.pack_spec.specs.Bodies.{body_of}
use Rattle.pack_spec.specs.Directories.{part_body}
use Rattle.pack_spec.specs.Volume.{attr_of, data_set_of}
use Rattle.seq_access.specs.Bodies.{data_in}
use Rattle.vol_model.specs.declared.contents.Body.{Body}
use Rattle.vol_model.specs.declared.contents.Body.TheVariants.{Catalog, Other, Part, Seq, Unreadable}
use Rattle.vol_model.specs.declared.contents.DataSet.{DataSet}
use Rattle.vol_model.specs.declared.contents.Volume.{Volume}
use Rattle.vol_model.specs.Reading.{kind_of}
use Rattle.vol_model.specs.Shelf.{has_name, is_catalog, organization, set_of}
use Rattle.vtoc_index.specs.Index.{IsMounted}
use Rattle.vtoc_index.specs.Names.{AreByName, name_at}
use Rattle.vtoc_index.specs.declared.vol.Vol.{Vol}
use Rattle.vtoc_sets.specs.Sets.{extents_in, volume_in}
use Rattle.pack_machine.specs.Checking.{all_unread, entry_of, unread_entry}
use Rattle.pack_machine.specs.Unread.{broken_at, broken_by, broken_in, is_of, track_in}
use Rattle.pack_machine.specs.declared.unread.Unread.{Unread}
use Rattle.pack_machine.proofs.FoundByKey.{none_found}

-- the entry of a name that can't be read from a track on
abbrev entry_at : Dsn → ℕ → Unread
entry_at dsn t = record { dsn = dsn; track = t }

-- ---- one data set

entry_kind : (dsn : Dsn) (b : Body) → entry_of dsn (kind_of b) ≡ option_map (entry_at dsn) (broken_at b)
entry_kind dsn (Seq blocks) = refl
entry_kind dsn (Part dir end entries blocks) = refl
entry_kind dsn Catalog = refl
entry_kind dsn Other = refl
entry_kind dsn (Unreadable track) = refl

-- that of a format 1 is listed where it is walked and can't be read
entry_set : (image : List ℕ) (v : Vol) (f : F1) → unread_entry (name_and_kind (set_by image v f)) ≡ option_map (entry_at (record { bytes = f.name })) (broken_by f.name (attr_of f) (body_at image v f))
unfolding data_set_of body_of
entry_set image v f = by (is_catalog f.name) (organization (attr_of f) == 32) (organization (attr_of f) == 1)
  where
    dsn : Dsn
    dsn = record { bytes = f.name }

    seq : Body
    seq = seq_body v.geometry (data_in image v) (extents_in image v f) f.lstar

    part : Body
    part = part_body v.geometry (data_in image v) (extents_in image v f) f.lstar

    body : Bool → Bool → Bool → Body
    body a s p = cond (not a && s) seq (cond (not a && p) part (cond a (Unreadable 0) Other))

    by : (a s p : Bool) → cond a None (entry_of dsn (kind_of (body a s p))) ≡ option_map (entry_at dsn) (cond ((not a && s) || (not a && p)) (broken_at (body a s p)) None)
    by true s p = refl
    by false true p = entry_kind dsn seq
    by false false true = entry_kind dsn part
    by false false false = refl

-- ---- all of them

module _ (expected : List ℕ → Option ℕ) (name : List ℕ) where
  abbrev IsAsExpected : DataSet → Type 0
  IsAsExpected x = unread_entry (name_and_kind x) ≡ option_map (entry_at x.name) (expected x.name.bytes)

  listed : (xs : List DataSet) → AllByRecursion IsAsExpected xs → track_in (filter_map unread_entry (map name_and_kind xs)) name ≡ cond (list_any (has_name name) xs) (expected name) None
  listed [] all = refl
  listed (x ∷ xs) all =
      ap (λ (o : Option Unread). track_in (cons_option o rest) name) all.0
      ∙ by (expected x.name.bytes) refl (has_name name x) refl (list_any (has_name name) xs) (listed xs all.1)
    where
      rest : List Unread
      rest = filter_map unread_entry (map name_and_kind xs)

      this : has_name name x ≡ true → x.name.bytes ≡ name
      this = (bytes_eq-Decides x.name.bytes name).0

      none_either : (c : Bool) → expected name ≡ None → cond c (expected name) None ≡ expected name
      none_either true is = refl
      none_either false is = sym is

      by : (o : Option ℕ) → expected x.name.bytes ≡ o → (b : Bool) → has_name name x ≡ b → (c : Bool) → track_in rest name ≡ cond c (expected name) None
          → track_in (cons_option (option_map (entry_at x.name) o) rest) name ≡ cond (has_name name x || c) (expected name) None
      by None is true named c same =
          same ∙ none_either c (ap expected (sym (this named)) ∙ is) ∙ sym (ap (λ (t : Bool). cond (t || c) (expected name) None) named)
      by None is false named c same = same ∙ sym (ap (λ (t : Bool). cond (t || c) (expected name) None) named)
      by (Some t) is true named c same =
          ap (λ (b : Bool). option_map (λ (u : Unread). u.track) (cond b (Some (entry_at x.name t)) (find (is_of name) rest))) named
          ∙ sym is ∙ ap expected (this named) ∙ sym (ap (λ (b : Bool). cond (b || c) (expected name) None) named)
      by (Some t) is false named c same =
          ap (λ (b : Bool). option_map (λ (u : Unread). u.track) (cond b (Some (entry_at x.name t)) (find (is_of name) rest))) named
          ∙ same ∙ sym (ap (λ (b : Bool). cond (b || c) (expected name) None) named)

module _ (image : List ℕ) (v : Vol) (mounted : IsMounted image v) (order : AreByName (name_at v.slots.items) v.by_name.items) where
  abbrev w : Volume
  w = volume_in image v

  abbrev broken_named : List ℕ → Option ℕ
  broken_named n = option_and_then broken_in (set_of n w)

  -- each data set is listed where it is expected
  one_as_expected : (k : ℕ) (x : DataSet) → slice_get w.sets k ≡ Some x → IsAsExpected broken_named [] x
  unfolding data_set_of
  one_as_expected k x there =
      let found : set_of x.name.bytes w ≡ Some x = first_of_name w.sets k x (rising image v mounted order) there in
      let from = set_in_slot image v mounted order k x there in
      subst (λ (y : DataSet). unread_entry (name_and_kind y) ≡ option_map (entry_at y.name) (broken_in y)) (sym from.3) (entry_set image v from.1)
      ∙ sym (ap (λ (o : Option DataSet). option_map (entry_at x.name) (option_and_then broken_in o)) found)

  all_as_expected : (xs : List DataSet) (from : ℕ) → ((k : ℕ) (x : DataSet) → slice_get xs k ≡ Some x → IsAsExpected broken_named [] x) → AllByRecursion (IsAsExpected broken_named []) xs
  all_as_expected [] from each = tt
  all_as_expected (x ∷ xs) from each = (each 0 x refl, all_as_expected xs from (λ k y there. each (suc k) y there))

  -- The list tells of each name whether its data set can't be read.
  pub lists_all : (name : List ℕ) → track_in (all_unread w) name ≡ option_and_then broken_in (set_of name w)
  lists_all name = listed broken_named name w.sets (all_as_expected w.sets 0 one_as_expected) ∙ by (list_any (has_name name) w.sets) refl
    where
      by : (b : Bool) → list_any (has_name name) w.sets ≡ b → cond b (broken_named name) None ≡ broken_named name
      by true any = refl
      by false none = sym (ap (option_and_then broken_in) (none_found (has_name name) w.sets none))
