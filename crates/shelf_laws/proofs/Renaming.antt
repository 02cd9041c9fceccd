-- A shelf stays lawful where a data set is given another name.
use Rattle.std.proofs.Common.{◌≡◌, ◌/◌, ◌==◌, ℕ, Bool, true, false, not, ◌&&◌, ◌||◌, List, [], ◌∷◌, refl, sym, ◌∙◌, ap, subst, arith}
use Rattle.std.specs.Prelude.{Some, None, Ok, if◌then◌else◌}
use Rattle.std.specs.List.{AllByRecursion, list_any}
use Rattle.ckd_image.specs.declared.header.Geometry.{Geometry}
use Rattle.ebcdic_names.specs.declared.names.Dsn.{Dsn}
use Rattle.vol_model.specs.declared.contents.Attr.{Attr}
use Rattle.vol_model.specs.declared.contents.Body.{Body}
use Rattle.vol_model.specs.declared.contents.Body.TheVariants as bodies
use Rattle.vol_model.specs.declared.contents.DataSet.{DataSet}
use Rattle.vol_model.specs.declared.contents.Shelf.{Shelf}
use Rattle.vol_model.specs.declared.contents.Volume.{Volume}
use Rattle.vol_model.specs.declared.refusals.Refusal.TheVariants.{NoSet, SetExists, WrongKind}
use Rattle.vol_model.specs.declared.requests.Op.TheVariants.{Rename}
use Rattle.vol_model.specs.Lawful.{IsLawful, IsLawfulSet, IsLawfulVolume, is_of_kind}
use Rattle.vol_model.specs.Shelf.{catalog_name, changed, has_name, has_set, is_catalog, rename_on, rename_refusal, renamed, step, step_on, unless_refused, with_set}
use Rattle.vol_model.proofs.Steps.{any_in_order, renamed-ascending}
use Rattle.shelf_laws.proofs.SetChanges.{named_so, owned_kept, slots_kept}
use Rattle.shelf_laws.proofs.Sorted.{sorted_all, sorted_owned, sorted_slots}
use Rattle.shelf_laws.proofs.Steps.{ok_same, step_lawful}

-- under another name
abbrev under : Dsn → DataSet → DataSet
under new x = record x { name = new }

-- ---- each set

unfoldable pub kind_by : Bool → Attr → Body → Bool
kind_by c attr (bodies.Seq bs) = not c && attr.dsorg / 512 == 32
kind_by c attr (bodies.Part dir end es bs) = not c && attr.dsorg / 512 == 1
kind_by c attr bodies.Catalog = c
kind_by c attr bodies.Other = not (c || ((not c && attr.dsorg / 512 == 32) || (not c && attr.dsorg / 512 == 1)))
kind_by c attr (bodies.Unreadable track) = true

pub kind_is : (name : List ℕ) (attr : Attr) (body : Body) → is_of_kind name attr body ≡ kind_by (is_catalog name) attr body
unfolding kind_by
kind_is name attr (bodies.Seq bs) = refl
kind_is name attr (bodies.Part dir end es bs) = refl
kind_is name attr bodies.Catalog = refl
kind_is name attr bodies.Other = refl
kind_is name attr (bodies.Unreadable track) = refl

module _ (old : List ℕ) (new : Dsn) (no_old : is_catalog old ≡ false) (no_new : is_catalog new.bytes ≡ false) where
  set_under : (g : Geometry) (x : DataSet) (b : Bool) → has_name old x ≡ b → IsLawfulSet g x → IsLawfulSet g (if b then under new x else x)
  set_under g x false e h = h
  set_under g x true e h = record {
    few = h.few;
    extents = h.extents;
    secondary = h.secondary;
    kind = kind_is new.bytes x.attr x.body ∙ ap (λ c. kind_by c x.attr x.body) (no_new ∙ sym (ap is_catalog (named_so old x e) ∙ no_old)) ∙ sym (kind_is x.name.bytes x.attr x.body) ∙ h.kind;
    body = h.body;
  }

  sets_under : (g : Geometry) (sets : List DataSet) → AllByRecursion (IsLawfulSet g) sets → AllByRecursion (IsLawfulSet g) (changed old (under new) sets)
  sets_under g [] all = tt
  sets_under g (x ∷ sets) all = (set_under g x (has_name old x) refl all.0, sets_under g sets all.1)

  one_catalog : (x : DataSet) (b : Bool) → has_name old x ≡ b → has_name catalog_name (if b then under new x else x) ≡ has_name catalog_name x
  one_catalog x false e = refl
  one_catalog x true e = no_new ∙ sym (ap is_catalog (named_so old x e) ∙ no_old)

  same_catalog : (sets : List DataSet) → list_any (has_name catalog_name) (changed old (under new) sets) ≡ list_any (has_name catalog_name) sets
  same_catalog [] = refl
  same_catalog (x ∷ sets) = ap (λ b. b || list_any (has_name catalog_name) (changed old (under new) sets)) (one_catalog x (has_name old x) refl) ∙ ap (λ b. has_name catalog_name x || b) (same_catalog sets)

  renamed_lawful : (volume : Volume) → IsLawfulVolume volume → has_set volume new.bytes ≡ false → IsLawfulVolume (renamed volume old new)
  unfolding renamed
  renamed_lawful volume h none =
      let u = with_set volume old (under new) in
      let room = h.room in
      let kept = slots_kept old (under new) (λ x. refl) volume in
      let same = sorted_slots u in
      record {
        some = h.some;
        most = h.most;
        slots = h.slots;
        room = omega (arith, room, kept, same);
        order = renamed-ascending old new volume.sets h.order none;
        sets = sorted_all (IsLawfulSet volume.geometry) u.sets (sets_under volume.geometry volume.sets h.sets);
        owned = sorted_owned u (owned_kept old (under new) (λ x. refl) volume h.owned);
        has_catalog = any_in_order (has_name catalog_name) u.sets ∙ same_catalog volume.sets ∙ h.has_catalog;
        catalog = h.catalog;
      }

-- ---- the operation

renames : (old new : Dsn) (volume w : Volume) → IsLawfulVolume volume → rename_on old new volume ≡ Ok w → IsLawfulVolume w
unfolding rename_on rename_refusal
renames old new volume w h done = by_tests (has_set volume old.bytes) (has_set volume new.bytes) (is_catalog old.bytes) (is_catalog new.bytes) refl refl refl done
  where
    by_tests : (a b c d : Bool) → has_set volume new.bytes ≡ b → is_catalog old.bytes ≡ c → is_catalog new.bytes ≡ d
        → unless_refused (if not a then Some NoSet else (if b then Some SetExists else (if c || d then Some WrongKind else None))) (renamed volume old.bytes new) ≡ Ok w → IsLawfulVolume w
    by_tests false b c d p q r e = cc
    by_tests true true c d p q r e = cc
    by_tests true false true d p q r e = cc
    by_tests true false false true p q r e = cc
    by_tests true false false false p q r e = subst IsLawfulVolume (ok_same (renamed volume old.bytes new) w e) (renamed_lawful old.bytes new q r volume h p)

pub rename_lawful : (s t : Shelf) (v : ℕ) (old new : Dsn) → IsLawful s → step s (Rename v old new) ≡ Ok t → IsLawful t
unfolding step_on
rename_lawful s t v old new h done = step_lawful s t (Rename v old new) (λ volume w. renames old new volume w) h done
