-- Each operation keeps each member of the shelf, or removes it.
use Rattle.std.proofs.Common.{◌≡◌, ◌⊎◌, inl, inr, ⊎_elim, ◌==◌, ◌&&◌, map, Bool, true, false, refl, sym, ◌∙◌, ap, subst}
use Rattle.std.proofs.lemmas.Bool.Decides.{Decides-eqb}
use Rattle.std.specs.Prelude.{Ok, if◌then◌else◌}
use Rattle.std.specs.Str.{bytes_eq}
use Rattle.vol_model.specs.declared.answers.Mode.TheVariants as modes
use Rattle.vol_model.specs.declared.catalogs.CatNode.TheVariants.{Index, Group}
use Rattle.vol_model.specs.declared.contents.Shelf.{Shelf}
use Rattle.vol_model.specs.declared.contents.Volume.{Volume}
use Rattle.vol_model.specs.declared.requests.Op.{Op}
use Rattle.vol_model.specs.declared.requests.Op.TheVariants.{Alias, Allocate, Area, BuildGroup, BuildIndex, Catalog, Drop, DropNode, Empty, Enter, Extend, Fill, Rename, Scratch, Uncatalog}
use Rattle.vol_model.specs.Places.{content}
use Rattle.vol_model.specs.Shelf.{aliased, built, cataloged, node_dropped, step, step_on, uncataloged}
use Rattle.member_laws.specs.Members.{HasMember, HoldsMember, Removes, SetMember, renamed_by}
use Rattle.member_laws.proofs.AllSets.{allocate_keeps, catalog_keeps, rename_keeps, scratch_keeps}
use Rattle.member_laws.proofs.OneSet.{drop_keeps, empty_keeps, enter_keeps, extend_keeps, write_keeps}
use Rattle.member_laws.proofs.OnVolumes.{KeepsOn, body_in, step_keeps}
use Rattle.member_laws.proofs.Ordered.{IsOrdered, IsOrderedVolume}
use Rattle.member_laws.proofs.StaysOrdered.{volume_stays}

-- on its volume
keeps_on : (op : Op) (volume w : Volume) → IsOrderedVolume volume → IsOrderedVolume w → step_on op volume ≡ Ok w → KeepsOn op volume w
unfolding step_on
keeps_on (Allocate v dsn attr request dir) volume w h k done m on holds = inr (allocate_keeps volume w k m.set m.entry m.blocks holds dsn attr request dir done)
keeps_on (Extend v dsn) volume w h k done m on holds = inr (extend_keeps volume w h m.set m.entry m.blocks holds dsn done)
keeps_on (Scratch v dsn) volume w h k done m on holds = ⊎_elim (λ same. inl (on, same)) (λ held. inr held) (scratch_keeps volume w k m.set m.entry m.blocks holds dsn done)
keeps_on (Rename v old new) volume w h k done m on holds =
    let here : (v == m.v) ≡ true = (Decides-eqb v m.v).1 on in
    let name : (if v == m.v && bytes_eq m.set old.bytes then record m { set = new.bytes } else m).set ≡ (if bytes_eq m.set old.bytes then new.bytes else m.set) =
    ap (λ b. (if b && bytes_eq m.set old.bytes then record m { set = new.bytes } else m).set) here ∙ by_test (bytes_eq m.set old.bytes) in
    inr (subst (λ n. HoldsMember (body_in n w) m.entry m.blocks) (sym name) (rename_keeps volume w k m.set m.entry m.blocks holds old new done))
  where
    by_test : (b : Bool) → (if b then record m { set = new.bytes } else m).set ≡ (if b then new.bytes else m.set)
    by_test true = refl
    by_test false = refl
keeps_on (Empty v dsn attr) volume w h k done m on holds = inr (empty_keeps volume w h m.set m.entry m.blocks holds dsn attr done)
keeps_on (Fill v dsn blocks) volume w h k done m on holds = inr (write_keeps volume w h m.set m.entry m.blocks holds modes.Fill dsn (map content blocks) done)
keeps_on (Area v dsn blocks) volume w h k done m on holds = inr (write_keeps volume w h m.set m.entry m.blocks holds modes.Area dsn (map content blocks) done)
keeps_on (Enter v dsn entry replace) volume w h k done m on holds = ⊎_elim (λ gone. inl ((on, gone.0), gone.1)) (λ held. inr held) (enter_keeps volume w h m.set m.entry m.blocks holds dsn entry replace done)
keeps_on (Drop v dsn name) volume w h k done m on holds = ⊎_elim (λ gone. inl ((on, gone.0), gone.1)) (λ held. inr held) (drop_keeps volume w h m.set m.entry m.blocks holds dsn name done)
keeps_on (BuildIndex v path) volume w h k done m on holds = inr (catalog_keeps volume w k m.set m.entry m.blocks holds (built path Index) done)
keeps_on (BuildGroup v path limit empty delete) volume w h k done m on holds = inr (catalog_keeps volume w k m.set m.entry m.blocks holds (built path (Group limit empty delete)) done)
keeps_on (DropNode v path) volume w h k done m on holds = inr (catalog_keeps volume w k m.set m.entry m.blocks holds (node_dropped path) done)
keeps_on (Catalog v path vols replace) volume w h k done m on holds = inr (catalog_keeps volume w k m.set m.entry m.blocks holds (cataloged path vols replace) done)
keeps_on (Uncatalog v path) volume w h k done m on holds = inr (catalog_keeps volume w k m.set m.entry m.blocks holds (uncataloged path) done)
keeps_on (Alias v name of) volume w h k done m on holds = inr (catalog_keeps volume w k m.set m.entry m.blocks holds (aliased name of) done)

-- on the shelf
pub each_keeps : (s t : Shelf) (op : Op) → IsOrdered s → step s op ≡ Ok t → (m : SetMember) → HasMember s m → Removes op m ⊎ HasMember t (renamed_by op m)
each_keeps s t op h done = step_keeps s t op (λ volume w ordered is. keeps_on op volume w ordered (volume_stays op volume w ordered is) is) h done
