-- What an entry that is put into the entries of a directory, or taken out, makes of the volume.
use Rattle.std.proofs.Common.{◌≡◌, ◌⊎◌, ◌≤◌, ◌&&◌, ◌∙◌, ℕ, Bool, true, false, not, List, filter, length, refl, ap, subst, ⊎_elim, arith}
use Rattle.std.specs.Prelude.{vec_items}
use Rattle.std.specs.Str.{bytes_eq}
use Rattle.std.proofs.lemmas.List.{length-map}
use Rattle.chain_spec.specs.Kept.{Rises, joined, kept}
use Rattle.dscb_codec.specs.declared.F1.{F1}
use Rattle.ebcdic_names.specs.declared.names.Name8.{Name8}
use Rattle.pack_spec.specs.Directories.{name_number}
use Rattle.vol_model.specs.declared.contents.Entry.{Entry}
use Rattle.vol_model.specs.Shelf.{drop_on, enter_on, has_member, with_entry}
use Rattle.vtoc_index.specs.declared.vol.Vol.{Vol}
use Rattle.pds_directory.specs.declared.dir.Dir.{Dir}
use Rattle.pds_directory.specs.Directories.{IsLawfulDir, IsPacked, IsPartIn, IsReadIn, directory_in, entries_read}
use Rattle.pds_directory.specs.Entries.{IsNamed}
use Rattle.stow_ops.specs.Entries.{HasDropped, HasEntered, StandsAt}
use Rattle.stow_ops.specs.Stores.{MakesEntries}
use Rattle.stow_ops.proofs.ChangedEntries.{dropped_filter, dropped_member, entered_with, no_member}
use Rattle.stow_ops.proofs.FoundSets.{makes_drop, makes_enter}
use Rattle.stow_ops.proofs.ReadLists.{packed_read, read_named, read_rises}

none_there : (b : Bool) → (b && false) ≡ false
none_there true = refl
none_there false = refl

module _ (image : List ℕ) (v : Vol) (f : F1) (part : IsPartIn image v f) (dir : Dir) (lawful : IsLawfulDir dir) (read : IsReadIn image v f dir)
    (old new made : List Entry) (list : old ≡ kept name_number (joined (entries_read dir))) (value : made ≡ new) where
  rise : Rises name_number old
  rise = read_rises dir lawful old list

  pub entered_makes : (e : Entry) (replace : Bool) → IsNamed e → HasEntered e old new → (replace ≡ true) ⊎ ((at : ℕ) → StandsAt old e at → ⊥) → MakesEntries (enter_on (record { bytes = f.name }) e replace) image f (length dir.places.items) made
  entered_makes e replace named entered replaced =
      let all = read_named dir lawful old list in
      let after : made ≡ with_entry e (kept name_number (joined (entries_read dir))) = value ∙ entered_with e old new rise named all entered ∙ ap (with_entry e) list in
      let free : (not replace && has_member e.name.bytes old) ≡ false = ⊎_elim
      (λ is. ap (λ (b : Bool). not b && has_member e.name.bytes old) is)
      (λ none. ap (λ (b : Bool). not replace && b) (no_member e old new rise named all none) ∙ none_there (not replace))
      replaced in
      makes_enter image v f part dir read e replace made after (subst (λ (es : List Entry). (not replace && has_member e.name.bytes es) ≡ false) list free)

  pub dropped_makes : (name : Name8) → HasDropped name.bytes old new → IsPacked (directory_in image v f) → MakesEntries (drop_on (record { bytes = f.name }) name) image f (length dir.places.items) made
  dropped_makes name dropped packed =
      let others : List Entry → List Entry = filter (λ (e : Entry). not (bytes_eq e.name.bytes name.bytes)) in
      let after : made ≡ others (kept name_number (joined (entries_read dir))) = value ∙ dropped_filter name.bytes old new dropped rise ∙ ap others list in
      let there : has_member name.bytes (kept name_number (joined (entries_read dir))) ≡ true =
      subst (λ (es : List Entry). has_member name.bytes es ≡ true) list (dropped_member name.bytes old new dropped) in
      let room : length (entries_read dir) ≤ length dir.places.items = omega (arith, length-map dir.blocks.items vec_items, lawful.room) in
      makes_drop image v f part dir read name made after there (packed_read image v f dir read lawful packed) room
