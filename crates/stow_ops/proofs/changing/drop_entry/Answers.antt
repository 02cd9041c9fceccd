-- The entry of a name is taken from those that count, and then they are stored.
use Rattle.std.proofs.lemmas.Result.{err_from_is_err_and}
use Rattle.std.proofs.Common.{IsTrue, Some, length, ◌≡◌, ◌∙◌, ℕ, false, List, Err, refl, sym, ap, subst}
use Rattle.std.specs.Prelude.{slice_get}
use Rattle.chain_spec.specs.Kept.{joined, kept}
use Rattle.dscb_codec.specs.declared.Dscb.TheVariants as formats
use Rattle.dscb_codec.specs.declared.F1.{F1}
use Rattle.hall_core.specs.Images.{image_in}
use Rattle.pack_spec.specs.Directories.{name_number}
use Rattle.vol_model.specs.declared.answers.StoreErr.{StoreErr}
use Rattle.vol_model.specs.declared.answers.StoreErr.TheVariants as errors
use Rattle.vol_model.specs.declared.contents.Entry.{Entry}
use Rattle.vol_model.specs.Shelf.{drop_on, has_member}
use Rattle.pds_directory.specs.Directories.{entries_read}
use Rattle.stow_ops.specs.Stores.{AreForDir, MakesEntries}
use Rattle.stow_ops.proofs.ChangedEntries.{dropped_changes}
use Rattle.stow_ops.proofs.ChangedDirs.{changes_done, changes_failed, changes_none, changes_unread, to_have}
use Rattle.stow_ops.proofs.FoundSets.{drop_refused}
use Rattle.stow_ops.proofs.ReadLists.{drop_for}
use Rattle.stow_ops.proofs.MadeEntries.{dropped_makes}
use Rattle.stow_ops.proofs.changing.drop_entry.Given.{Over}
use Rattle.stow_ops.proofs.changing.drop_entry.Goals.{After-store}
use Rattle.stow_ops.proofs.changing.drop_entry.Goals as goal

pub returns-in_err-kept_of : goal.returns-in_err-kept_of
returns-in_err-kept_of g c =
    let p = err_from_is_err_and c.from_residual.result c.from_residual.ensures.1 in
    record {
      changes = changes_unread g.H.Hall.tells (λ dsn. drop_on dsn c.args.name.now) g.H.Hall.facts g.H.Hall.meaning c.args.hall.now c.args.vol.now c.args.slot c.args.dir.now c.requires.dir (g.met.H.Hall.counts_now c.args.hall.now) c.from_residual.result c.in_err-kept_of.field-0.0 (p.1 ∙ ap (λ (e : StoreErr). Err e) p.2)
          (c.in_err-kept_of.ensures.memory c.in_err-kept_of.field-0.0 refl);
    }

pub returns-in_err-entries : goal.returns-in_err-entries
returns-in_err-entries g c =
    let p = err_from_is_err_and c.from_residual-in_err-entries.result c.from_residual-in_err-entries.ensures.1 in
    let image : List ℕ = image_in (g.H.Hall.meaning c.args.hall.now) (g.H.Hall.facts c.args.hall.now) c.args.vol.now.unit in
    record {
      changes = changes_none g.H.Hall.tells (λ dsn. drop_on dsn c.args.name.now) g.H.Hall.facts g.H.Hall.meaning c.args.hall.now c.args.vol.now c.args.slot c.args.dir.now c.requires.dir (g.met.H.Hall.counts_now c.args.hall.now) c.from_residual-in_err-entries.result (errors.Refused c.in_err-entries.field-0.0) (p.1 ∙ ap (λ (x : StoreErr). Err x) p.2)
          (λ failed. cc)
          (λ told f is r why.
          let list : c.in_ok-kept_of.field-0.items ≡ kept name_number (joined (entries_read c.args.dir.now)) = c.in_ok-kept_of.ensures.kept in
          let refused = c.in_err-entries.ensures.refused in
          let given : c.in_err-entries.field-0.0 ≡ r = cc in
          drop_refused image c.args.vol.now f (c.requires.dir.part told f is).part c.args.dir.now (c.requires.dir.read told f is) c.args.name.now (subst (λ (es : List Entry). has_member c.args.name.now.bytes es ≡ false) list refused.1) ∙ ap Err (sym refused.0 ∙ given));
    }

pub store-requires-clause-entries : goal.store-requires-clause-entries
store-requires-clause-entries g c = subst AreForDir (sym c.deref.ensures.value) (drop_for c.args.dir.now c.requires.dir.lawful c.in_ok-kept_of.field-0.items c.in_ok-kept_of.ensures.kept c.args.name.now.bytes c.in_ok-entries.entries.items c.in_ok-entries.ensures.dropped)

pub store-requires-clause-change : goal.store-requires-clause-change
store-requires-clause-change g c = λ told f is.
    let old : List Entry = c.in_ok-kept_of.field-0.items in
    to_have (image_in (g.H.Hall.meaning c.args.hall.now) (g.H.Hall.facts c.args.hall.now) c.args.vol.now.unit) c.args.vol.now f c.args.dir.now c.requires.dir.lawful (c.requires.dir.part told f is) (c.requires.dir.read told f is) (c.requires.dir.packed told f is) old c.in_ok-kept_of.ensures.kept c.in_ok-entries.entries.items _ c.deref.ensures.value
    (dropped_changes c.args.name.now.bytes old c.in_ok-entries.entries.items c.in_ok-entries.ensures.dropped)

-- the entries are those of the operation
makes : (g : Over) (c : After-store g) → IsTrue g.H.Hall.tells → (f : F1) → slice_get c.args.vol.now.slots.items c.args.slot ≡ Some (formats.F1 f) → MakesEntries (drop_on (record { bytes = f.name }) c.args.name.now) (image_in (g.H.Hall.meaning c.args.hall.now) (g.H.Hall.facts c.args.hall.now) c.args.vol.now.unit) f (length c.args.dir.now.places.items) c.deref.result.now
makes g c told f is =
    let image : List ℕ = image_in (g.H.Hall.meaning c.args.hall.now) (g.H.Hall.facts c.args.hall.now) c.args.vol.now.unit in
    dropped_makes image c.args.vol.now f (c.requires.dir.part told f is).part c.args.dir.now c.requires.dir.lawful (c.requires.dir.read told f is) c.in_ok-kept_of.field-0.items c.in_ok-entries.entries.items c.deref.result.now c.in_ok-kept_of.ensures.kept c.deref.ensures.value c.args.name.now c.in_ok-entries.ensures.dropped (c.requires.dir.packed told f is)

pub returns-in_err-store : goal.returns-in_err-store
returns-in_err-store g c =
    let p = err_from_is_err_and c.from_residual-in_err-store.result c.from_residual-in_err-store.ensures.1 in
    let left = c.in_err-store.ensures in
    record {
      changes = changes_failed g.H.Hall.tells (λ dsn. drop_on dsn c.args.name.now) g.H.Hall.facts g.H.Hall.meaning c.args.hall.now c.args.vol.now c.args.slot c.args.dir.now c.requires.dir c.store.new.hall c.store.new.vol c.store.new.dir left.lawful left.others left.unit c.from_residual-in_err-store.result c.in_err-store.field-0.0 (p.1 ∙ ap (λ (e : StoreErr). Err e) p.2)
          (λ told f is. left.files told f (drop_on (record { bytes = f.name }) c.args.name.now) is (makes g (goal.at.returns-in_err-store g c).After-store told f is)) left.stays left.memory left.refused left.faults;
    }

pub returns : goal.returns
returns g c =
    let left = c.in_ok-store.ensures in
    record {
      changes = changes_done g.H.Hall.tells (λ dsn. drop_on dsn c.args.name.now) g.H.Hall.facts g.H.Hall.meaning c.args.hall.now c.args.vol.now c.args.slot c.args.dir.now c.requires.dir c.store.new.hall c.store.new.vol c.store.new.dir left.lawful left.others left.unit c.in_ok-store.field-0 c.in_ok-entries.entries
          (λ told f is. left.files told f (drop_on (record { bytes = f.name }) c.args.name.now) is (makes g (goal.at.returns g c).After-store told f is)) left.packed left.dir (sym c.deref.ensures.value ∙ left.entries) left.faults;
    }
