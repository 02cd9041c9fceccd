-- An entry is put among those that count, and then they are stored.
use Rattle.std.proofs.lemmas.Result.{err_from_is_err_and}
use Rattle.std.proofs.Common.{IsTrue, Some, length, ◌≡◌, ◌∙◌, ℕ, true, List, Err, refl, sym, ap, subst}
use Rattle.std.specs.Prelude.{slice_get}
use Rattle.chain_spec.specs.Kept.{joined, kept}
use Rattle.dscb_codec.specs.declared.Dscb.TheVariants as formats
use Rattle.dscb_codec.specs.declared.F1.{F1}
use Rattle.hall_core.specs.Images.{image_in}
use Rattle.pack_spec.specs.Directories.{name_number}
use Rattle.vol_model.specs.declared.answers.StoreErr.{StoreErr}
use Rattle.vol_model.specs.declared.contents.Entry.{Entry}
use Rattle.vol_model.specs.Shelf.{enter_on, has_member}
use Rattle.pds_directory.specs.declared.dir.Dir.{Dir}
use Rattle.pds_directory.specs.Directories.{entries_read}
use Rattle.stow_ops.specs.Stores.{AreForDir, MakesEntries}
use Rattle.stow_ops.proofs.ChangedEntries.{entered_changes, stands_member}
use Rattle.stow_ops.proofs.ChangedDirs.{changes_done, changes_failed, changes_none, changes_unread, to_have}
use Rattle.stow_ops.proofs.FoundSets.{enter_refused}
use Rattle.stow_ops.proofs.ReadLists.{enter_for, read_named, read_rises}
use Rattle.stow_ops.proofs.MadeEntries.{entered_makes}
use Rattle.stow_ops.proofs.changing.enter.Given.{Over}
use Rattle.stow_ops.proofs.changing.enter.Goals.{After-store}
use Rattle.stow_ops.proofs.changing.enter.Goals as goal

pub with_entry-requires : goal.with_entry-requires
with_entry-requires g c = record { rise = read_rises c.args.dir.now c.requires.dir.lawful c.in_ok-kept_of.field-0.items c.in_ok-kept_of.ensures.kept }

pub returns-in_err-kept_of : goal.returns-in_err-kept_of
returns-in_err-kept_of g c =
    let p = err_from_is_err_and c.from_residual.result c.from_residual.ensures.1 in
    record {
      changes = changes_unread g.H.Hall.tells (λ dsn. enter_on dsn c.args.entry.now c.args.replace) g.H.Hall.facts g.H.Hall.meaning c.args.hall.now c.args.vol.now c.args.slot c.args.dir.now c.requires.dir (g.met.H.Hall.counts_now c.args.hall.now) c.from_residual.result c.in_err-kept_of.field-0.0 (p.1 ∙ ap (λ (e : StoreErr). Err e) p.2)
          (c.in_err-kept_of.ensures.memory c.in_err-kept_of.field-0.0 refl);
    }

pub returns-in_err-entries : goal.returns-in_err-entries
returns-in_err-entries g c =
    let p = err_from_is_err_and c.from_residual-in_err-entries.result c.from_residual-in_err-entries.ensures.1 in
    let e = c.in_err-entries.field-0.0 in
    let image : List ℕ = image_in (g.H.Hall.meaning c.args.hall.now) (g.H.Hall.facts c.args.hall.now) c.args.vol.now.unit in
    record {
      changes = changes_none g.H.Hall.tells (λ dsn. enter_on dsn c.args.entry.now c.args.replace) g.H.Hall.facts g.H.Hall.meaning c.args.hall.now c.args.vol.now c.args.slot c.args.dir.now c.requires.dir (g.met.H.Hall.counts_now c.args.hall.now) c.from_residual-in_err-entries.result e (p.1 ∙ ap (λ (x : StoreErr). Err x) p.2)
          (λ failed. c.in_err-entries.ensures.device (ap (λ (x : StoreErr). Err x) failed))
          (λ told f is r why.
          let dir : Dir = c.args.dir.now in
          let old : List Entry = c.in_ok-kept_of.field-0.items in
          let list : old ≡ kept name_number (joined (entries_read dir)) = c.in_ok-kept_of.ensures.kept in
          let refused = c.in_err-entries.ensures.refused r (ap (λ (x : StoreErr). Err x) why) in
          let rise = read_rises dir c.requires.dir.lawful old list in
          let member : has_member c.args.entry.now.name.bytes old ≡ true = stands_member c.args.entry.now old old rise c.in_err-entries.ensures.named (read_named dir c.requires.dir.lawful old list) refused.2.0 refused.2.1 in
          enter_refused image c.args.vol.now f (c.requires.dir.part told f is).part dir (c.requires.dir.read told f is) c.args.entry.now c.args.replace refused.1 (subst (λ (es : List Entry). has_member c.args.entry.now.name.bytes es ≡ true) list member) ∙ ap Err (sym refused.0));
    }

pub store-requires-clause-entries : goal.store-requires-clause-entries
store-requires-clause-entries g c = subst AreForDir (sym c.deref.ensures.value) (enter_for c.args.dir.now c.requires.dir.lawful c.in_ok-kept_of.field-0.items c.in_ok-kept_of.ensures.kept c.args.entry.now c.in_ok-entries.entries.items c.requires.entry c.in_ok-entries.ensures.named c.in_ok-entries.ensures.entered)

pub store-requires-clause-change : goal.store-requires-clause-change
store-requires-clause-change g c = λ told f is.
    let old : List Entry = c.in_ok-kept_of.field-0.items in
    to_have (image_in (g.H.Hall.meaning c.args.hall.now) (g.H.Hall.facts c.args.hall.now) c.args.vol.now.unit) c.args.vol.now f c.args.dir.now c.requires.dir.lawful (c.requires.dir.part told f is) (c.requires.dir.read told f is) (c.requires.dir.packed told f is) old c.in_ok-kept_of.ensures.kept c.in_ok-entries.entries.items _ c.deref.ensures.value
    (entered_changes c.args.entry.now old c.in_ok-entries.entries.items (read_rises c.args.dir.now c.requires.dir.lawful old c.in_ok-kept_of.ensures.kept) c.in_ok-entries.ensures.entered)

-- the entries are those of the operation
makes : (g : Over) (c : After-store g) → IsTrue g.H.Hall.tells → (f : F1) → slice_get c.args.vol.now.slots.items c.args.slot ≡ Some (formats.F1 f) → MakesEntries (enter_on (record { bytes = f.name }) c.args.entry.now c.args.replace) (image_in (g.H.Hall.meaning c.args.hall.now) (g.H.Hall.facts c.args.hall.now) c.args.vol.now.unit) f (length c.args.dir.now.places.items) c.deref.result.now
makes g c told f is =
    let image : List ℕ = image_in (g.H.Hall.meaning c.args.hall.now) (g.H.Hall.facts c.args.hall.now) c.args.vol.now.unit in
    entered_makes image c.args.vol.now f (c.requires.dir.part told f is).part c.args.dir.now c.requires.dir.lawful (c.requires.dir.read told f is) c.in_ok-kept_of.field-0.items c.in_ok-entries.entries.items c.deref.result.now c.in_ok-kept_of.ensures.kept c.deref.ensures.value c.args.entry.now c.args.replace c.in_ok-entries.ensures.named c.in_ok-entries.ensures.entered c.in_ok-entries.ensures.replaced

pub returns-in_err-store : goal.returns-in_err-store
returns-in_err-store g c =
    let p = err_from_is_err_and c.from_residual-in_err-store.result c.from_residual-in_err-store.ensures.1 in
    let left = c.in_err-store.ensures in
    record {
      changes = changes_failed g.H.Hall.tells (λ dsn. enter_on dsn c.args.entry.now c.args.replace) g.H.Hall.facts g.H.Hall.meaning c.args.hall.now c.args.vol.now c.args.slot c.args.dir.now c.requires.dir c.store.new.hall c.store.new.vol c.store.new.dir left.lawful left.others left.unit c.from_residual-in_err-store.result c.in_err-store.field-0.0 (p.1 ∙ ap (λ (e : StoreErr). Err e) p.2)
          (λ told f is. left.files told f (enter_on (record { bytes = f.name }) c.args.entry.now c.args.replace) is (makes g (goal.at.returns-in_err-store g c).After-store told f is)) left.stays left.memory left.refused left.faults;
    }

pub returns : goal.returns
returns g c =
    let left = c.in_ok-store.ensures in
    record {
      changes = changes_done g.H.Hall.tells (λ dsn. enter_on dsn c.args.entry.now c.args.replace) g.H.Hall.facts g.H.Hall.meaning c.args.hall.now c.args.vol.now c.args.slot c.args.dir.now c.requires.dir c.store.new.hall c.store.new.vol c.store.new.dir left.lawful left.others left.unit c.in_ok-store.field-0 c.in_ok-entries.entries
          (λ told f is. left.files told f (enter_on (record { bytes = f.name }) c.args.entry.now c.args.replace) is (makes g (goal.at.returns g c).After-store told f is)) left.packed left.dir (sym c.deref.ensures.value ∙ left.entries) left.faults;
    }
