-- Operations that change one set keep the members of all sets, but for the entry that they drop or replace.
use Rattle.std.proofs.Common.{◌≡◌, ◌⊎◌, inl, inr, ⊎_elim, ◌/◌, ◌==◌, ◌&&◌, ◌||◌, not, ℕ, Bool, true, false, List, [], ◌∷◌, refl, sym, ◌∙◌, ap, subst, arith}
use Rattle.std.proofs.lemmas.Bool.{cases_Bool}
use Rattle.std.proofs.lemmas.Bool.Decides.{nat_tests}
use Rattle.std.proofs.lemmas.Slice.Eq.{bytes_eq-Decides}
use Rattle.std.specs.Prelude.{Option, Some, Ok, Contains}
use Rattle.std.specs.Str.{bytes_eq}
use Rattle.ckd_image.specs.declared.device.DiskType.{DiskType}
use Rattle.ebcdic_names.specs.declared.names.Dsn.{Dsn}
use Rattle.ebcdic_names.specs.declared.names.Name8.{Name8}
use Rattle.vol_model.specs.declared.answers.Mode.{Mode}
use Rattle.vol_model.specs.declared.answers.Mode.TheVariants as modes
use Rattle.vol_model.specs.declared.contents.Attr.{Attr}
use Rattle.vol_model.specs.declared.contents.Block.{Block}
use Rattle.vol_model.specs.declared.contents.Body.{Body}
use Rattle.vol_model.specs.declared.contents.Body.TheVariants as bodies
use Rattle.vol_model.specs.declared.contents.DataSet.{DataSet}
use Rattle.vol_model.specs.declared.contents.Entry.{Entry}
use Rattle.vol_model.specs.declared.contents.Volume.{Volume}
use Rattle.vol_model.specs.Places.{Content, placed, with_blocks}
use Rattle.vol_model.specs.Shelf.{drop_on, empty_on, emptied, enter_on, extend_on, fits_mode, is_catalog, is_partitioned, is_sequential, is_vacant, set_of, with_directory, with_entries, with_entry, with_extents, with_written, write_on, written}
use Rattle.shelf_laws.proofs.SetChanges.{KeepsNames, found_all, named_so}
use Rattle.member_laws.specs.Members.{HoldsMember}
use Rattle.member_laws.proofs.Changes.{Changed, DirectoryChanged, drop_changes, empty_changes, enter_changes, extend_changes, write_changes}
use Rattle.member_laws.proofs.FoundSets.{keeps_changed}
use Rattle.member_laws.proofs.MoreBlocks.{area_kept, named_among}
use Rattle.member_laws.proofs.OnVolumes.{body_in}
use Rattle.member_laws.proofs.Ordered.{IsOrderedBody, IsOrderedSet, IsOrderedVolume}
use Rattle.member_laws.proofs.OtherEntries.{dropped_stays, entered_stays}

-- what is found of a set is found once
one_found : (o : Option DataSet) (x y : DataSet) → o ≡ Some x → o ≡ Some y → y ≡ x
one_found o x y a b = cc

-- the set of a name on an ordered volume is ordered, under that name
set_ordered : (volume : Volume) (name : List ℕ) (x : DataSet) → IsOrderedVolume volume → set_of name volume ≡ Some x → IsOrderedBody name x.attr x.body
set_ordered volume name x h at =
    let all = found_all IsOrderedSet name volume.sets x h.sets at in
    subst (λ n. IsOrderedBody n x.attr x.body) (named_so name x all.1) all.0

-- a set in which a member stands is partitioned
part_kind : (name : List ℕ) (attr : Attr) (body : Body) (e : Entry) (blocks : List Block) → HoldsMember body e blocks → IsOrderedBody name attr body → is_partitioned name attr ≡ true
part_kind name attr (bodies.Part dir end es bs) e blocks holds h = h.0
part_kind name attr (bodies.Seq bs) e blocks holds h = absurd holds
part_kind name attr bodies.Catalog e blocks holds h = absurd holds
part_kind name attr bodies.Other e blocks holds h = absurd holds
part_kind name attr (bodies.Unreadable track) e blocks holds h = absurd holds

-- and its directory isn't vacant
not_vacant : (body : Body) (e : Entry) (blocks : List Block) → HoldsMember body e blocks → is_vacant body ≡ false
not_vacant (bodies.Part dir end [] bs) e blocks holds = absurd (let lt = holds.0.1 in omega arith)
not_vacant (bodies.Part dir end (x ∷ es) bs) e blocks holds = refl
not_vacant (bodies.Seq bs) e blocks holds = absurd holds
not_vacant bodies.Catalog e blocks holds = absurd holds
not_vacant bodies.Other e blocks holds = absurd holds
not_vacant (bodies.Unreadable track) e blocks holds = absurd holds

module _ (volume w : Volume) (h : IsOrderedVolume volume) (set : List ℕ) (e : Entry) (blocks : List Block) (holds : HoldsMember (body_in set volume) e blocks) where
  -- the member of the set after the operation
  abbrev Stays : Type 0
  Stays = HoldsMember (body_in set w) e blocks

  -- it stays where the set that is changed keeps it
  unless_gone : (dsn : Dsn) (f : DataSet → DataSet) → KeepsNames f → (Gone : Type 0) → (c : Changed volume w dsn f) → (set ≡ dsn.bytes → HoldsMember c.set.body e blocks → Gone ⊎ HoldsMember (f c.set).body e blocks) → Gone ⊎ Stays
  unless_gone dsn f names Gone c changes =
      subst (λ (v : Volume). Gone ⊎ HoldsMember (body_in set v) e blocks) c.is
      (keeps_changed dsn.bytes f names volume set e blocks Gone holds (λ y at on. subst (λ (z : DataSet). HoldsMember z.body e blocks → Gone ⊎ HoldsMember (f z).body e blocks) (one_found (set_of dsn.bytes volume) y c.set at c.at) (changes on)))

  always : (dsn : Dsn) (f : DataSet → DataSet) → KeepsNames f → (c : Changed volume w dsn f) → (HoldsMember c.set.body e blocks → HoldsMember (f c.set).body e blocks) → Stays
  always dsn f names c changes = elim (unless_gone dsn f names ⊥ c (λ on held. inr (changes held))) [ inl never ↦ absurd never | inr held ↦ held ]

  -- a member's set that is changed is partitioned
  part : (dsn : Dsn) (f : DataSet → DataSet) (c : Changed volume w dsn f) → HoldsMember c.set.body e blocks → is_partitioned dsn.bytes c.set.attr ≡ true
  part dsn f c held = part_kind dsn.bytes c.set.attr c.set.body e blocks held (set_ordered volume dsn.bytes c.set h c.at)

  -- ---- more extents

  pub extend_keeps : (dsn : Dsn) → extend_on dsn volume ≡ Ok w → Stays
  extend_keeps dsn done = let c = extend_changes volume w dsn done in always dsn (with_extents c.0) (λ y. refl) c.1 (λ held. held)

  -- ---- no entries and blocks: there was none

  none_emptied : (c : Bool) (d : ℕ) → (not c && d / 512 == 1) ≡ true → ((not c && d / 512 == 32) || ((d == 0 && not c) || ((not c && d / 512 == 1) && false))) ≡ true → ⊥
  none_emptied c d part may = grind (arith, nat_tests)

  pub empty_keeps : (dsn : Dsn) (attr : Attr) → empty_on dsn attr volume ≡ Ok w → Stays
  empty_keeps dsn attr done =
      let found = empty_changes volume w dsn attr done in
      let c = found.0 in
      let x = c.set in
      always dsn (emptied attr) (λ y. refl) c (λ held.
      let vacant = ap (λ v. is_sequential dsn.bytes x.attr || ((x.attr.dsorg == 0 && not (is_catalog dsn.bytes)) || (is_partitioned dsn.bytes x.attr && v))) (sym (not_vacant x.body e blocks held)) in
      absurd (none_emptied (is_catalog dsn.bytes) x.attr.dsorg (part dsn (emptied attr) c held) (vacant ∙ found.1)))

  -- ---- more blocks

  both_kinds : (c : Bool) (d : ℕ) → (not c && d / 512 == 32) ≡ true → (not c && d / 512 == 1) ≡ true → ⊥
  both_kinds c d seq part = grind (arith, nat_tests)

  area_body : (d : DiskType) (name : List ℕ) (attr : Attr) (cs : List Content) (body : Body) → IsOrderedBody name attr body → HoldsMember body e blocks → HoldsMember (with_blocks body (placed d body (written modes.Area body cs))) e blocks
  area_body d name attr cs (bodies.Part dir end es bs) h held =
      let new = placed d (bodies.Part dir end es bs) (written modes.Area (bodies.Part dir end es bs) cs) in
      (held.0, named_among bs new e.place held.1, area_kept d dir end es bs e.place held.1 h.1 cs ∙ held.2)
  area_body d name attr cs (bodies.Seq bs) h held = absurd held
  area_body d name attr cs bodies.Catalog h held = absurd held
  area_body d name attr cs bodies.Other h held = absurd held
  area_body d name attr cs (bodies.Unreadable track) h held = absurd held

  -- by its mode, for a set that fits it
  by_mode : (mode : Mode) (dsn : Dsn) (cs : List Content) (c : Changed volume w dsn (with_written volume.geometry.device mode cs)) → fits_mode mode dsn.bytes c.set.attr ≡ true → HoldsMember c.set.body e blocks → HoldsMember (with_written volume.geometry.device mode cs c.set).body e blocks
  by_mode modes.Fill dsn cs c fit held = absurd (both_kinds (is_catalog dsn.bytes) c.set.attr.dsorg fit (part dsn (with_written volume.geometry.device modes.Fill cs) c held))
  by_mode modes.Area dsn cs c fit held = area_body volume.geometry.device dsn.bytes c.set.attr cs c.set.body (set_ordered volume dsn.bytes c.set h c.at) held

  pub write_keeps : (mode : Mode) (dsn : Dsn) (cs : List Content) → write_on mode dsn cs volume ≡ Ok w → Stays
  write_keeps mode dsn cs done = let found = write_changes volume w dsn mode cs done in always dsn (with_written volume.geometry.device mode cs) (λ y. refl) found.0 (by_mode mode dsn cs found.0 found.1)

  -- ---- another directory

  -- the member stays where the directory keeps its entry
  entries_keep : (dsn : Dsn) (after : List Entry → List Entry) (Gone : Type 0) → DirectoryChanged volume w dsn after → ((es : List Entry) → set ≡ dsn.bytes → Contains es e → Gone ⊎ Contains (after es) e) → Gone ⊎ Stays
  entries_keep dsn after Gone c keeps =
      let x = c.change.set in
      unless_gone dsn (with_entries (after c.entries)) (λ y. refl) Gone c.change (λ on held.
      let part : HoldsMember (bodies.Part c.dir c.end c.entries c.blocks) e blocks = subst (λ (b : Body). HoldsMember b e blocks) c.body held in
      ⊎_elim (λ gone. inl gone) (λ among. inr (subst (λ (b : Body). HoldsMember (with_directory (after c.entries) b) e blocks) (sym c.body) (among, part.1, part.2))) (keeps c.entries on part.0))

  pub enter_keeps : (dsn : Dsn) (new : Entry) (replace : Bool) → enter_on dsn new replace volume ≡ Ok w → ((dsn.bytes ≡ set) × (new.name.bytes ≡ e.name.bytes)) ⊎ Stays
  enter_keeps dsn new replace done =
      entries_keep dsn (with_entry new) ((dsn.bytes ≡ set) × (new.name.bytes ≡ e.name.bytes)) (enter_changes volume w dsn new replace done)
      (λ es on among. ⊎_elim (λ same. inl (sym on, sym ((bytes_eq-Decides e.name.bytes new.name.bytes).0 same))) (λ apart. inr (entered_stays new e es among apart)) (cases_Bool (bytes_eq e.name.bytes new.name.bytes)))

  pub drop_keeps : (dsn : Dsn) (name : Name8) → drop_on dsn name volume ≡ Ok w → ((dsn.bytes ≡ set) × (name.bytes ≡ e.name.bytes)) ⊎ Stays
  drop_keeps dsn name done =
      entries_keep dsn _ ((dsn.bytes ≡ set) × (name.bytes ≡ e.name.bytes)) (drop_changes volume w dsn name done)
      (λ es on among. ⊎_elim (λ same. inl (sym on, sym ((bytes_eq-Decides e.name.bytes name.bytes).0 same))) (λ apart. inr (dropped_stays name.bytes e es among apart)) (cases_Bool (bytes_eq e.name.bytes name.bytes)))
