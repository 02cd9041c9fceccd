-- A shelf that is ordered stays so under any operation.
use Rattle.std.proofs.Common.{◌≡◌, ◌+◌, ◌/◌, ◌==◌, ◌&&◌, ◌||◌, not, nat_lt, ℕ, zero, suc, Bool, true, false, cond, List, [], ◌∷◌, ◌++◌, filter, map, refl, sym, ◌∙◌, ap, subst, append_assoc, arith}
use Rattle.std.proofs.lemmas.Bool.Decides.{nat_tests}
use Rattle.std.proofs.lemmas.List.{append-nil}
use Rattle.std.proofs.lemmas.Slice.Eq.{bytes_eq-Decides}
use Rattle.std.specs.Prelude.{Ok, slice_set, if◌then◌else◌}
use Rattle.std.specs.List.{AllByRecursion, IsDistinct, list_any}
use Rattle.std.specs.Str.{bytes_eq}
use Rattle.ckd_image.specs.Fit.{fits}
use Rattle.ckd_image.specs.declared.device.DiskType.{DiskType}
use Rattle.ebcdic_names.specs.declared.names.Dsn.{Dsn}
use Rattle.vol_model.specs.declared.answers.Mode.{Mode}
use Rattle.vol_model.specs.declared.answers.Mode.TheVariants as modes
use Rattle.vol_model.specs.declared.catalogs.CatNode.TheVariants.{Index, Group}
use Rattle.vol_model.specs.declared.contents.Attr.{Attr}
use Rattle.vol_model.specs.declared.contents.Block.{Block}
use Rattle.vol_model.specs.declared.contents.Body.{Body}
use Rattle.vol_model.specs.declared.contents.Body.TheVariants as bodies
use Rattle.vol_model.specs.declared.contents.DataSet.{DataSet}
use Rattle.vol_model.specs.declared.contents.Entry.{Entry}
use Rattle.vol_model.specs.declared.contents.Place.{Place}
use Rattle.vol_model.specs.declared.contents.Run.{Run}
use Rattle.vol_model.specs.declared.contents.Shelf.{Shelf}
use Rattle.vol_model.specs.declared.contents.Volume.{Volume}
use Rattle.vol_model.specs.declared.requests.Op.{Op}
use Rattle.vol_model.specs.declared.requests.Op.TheVariants.{Alias, Allocate, Area, BuildGroup, BuildIndex, Catalog, Drop, DropNode, Empty, Enter, Extend, Fill, Rename, Scratch, Uncatalog}
use Rattle.vol_model.specs.declared.requests.Request.{Request}
use Rattle.vol_model.specs.Lawful.{is_next}
use Rattle.vol_model.specs.Order.{IsAscending, in_order, is_before}
use Rattle.vol_model.specs.Places.{Content, content, directory_end, front_lengths, last_place, lengths, lengths_on, next_block, next_place, placed, with_blocks}
use Rattle.vol_model.specs.Shelf.{aliased, built, cataloged, emptied, flags_of, has_name, is_catalog, is_sequential, is_partitioned, new_attr, new_body, node_dropped, step, step_on, uncataloged, volume_number, with_directory, with_entries, with_extents, with_name, with_new, with_written, without_blocks, written}
use Rattle.vol_model.proofs.Steps.{ascending-distinct, in_order-ascending, renamed-ascending, same_names}
use Rattle.shelf_laws.proofs.Lists.{all_filter}
use Rattle.shelf_laws.proofs.SetChanges.{KeepsNames, changed-all, changed-ascending, found_all}
use Rattle.shelf_laws.proofs.Sorted.{sorted_all}
use Rattle.shelf_laws.proofs.Steps.{each_at}
use Rattle.member_laws.proofs.Changes.{Changed, DirectoryChanged, allocate_changes, catalog_changes, drop_changes, empty_changes, enter_changes, extend_changes, rename_changes, scratch_changes, write_changes}
use Rattle.member_laws.proofs.OnVolumes.{stepped}
use Rattle.member_laws.proofs.Ordered.{Follow, IsOrdered, IsOrderedBody, IsOrderedSet, IsOrderedVolume}

-- ---- one body

-- blocks that are placed after others follow them

place_next : (d : DiskType) (last : Place) (earlier : List (ℕ × ℕ)) (new : ℕ × ℕ) (b : Bool) → is_next last (if b then record { tt = last.tt; r = last.r + 1 } else record { tt = last.tt + 1; r = 1 }) ≡ true
place_next d last earlier new true = here last.tt last.r
  where
    here : (t r : ℕ) → ((t == t && r + 1 == r + 1) || (nat_lt t t && r + 1 == 1)) ≡ true
    here t r = grind (arith, nat_tests)
place_next d last earlier new false = there last.tt last.r
  where
    there : (t r : ℕ) → ((t + 1 == t && 1 == r + 1) || (nat_lt t (t + 1) && 1 == 1)) ≡ true
    there t r = grind (arith, nat_tests)

next_follows : (d : DiskType) (dir : ℕ) (end : Place) (es : List Entry) (bs : List Block) (c : Content) → is_next (last_place end bs) (next_place d (bodies.Part dir end es bs) c) ≡ true
unfolding next_place
next_follows d dir end es bs c =
    let last = last_place end bs in
    let earlier = front_lengths end last.tt ++ lengths_on last.tt bs in
    place_next d last earlier (lengths c) (fits d earlier (lengths c).0 (lengths c).1)

follow_one : (p : Place) (bs : List Block) (b : Block) → Follow p bs → is_next (last_place p bs) b.place ≡ true → Follow p (bs ++ b ∷ [])
follow_one p [] b h next = (next, tt)
follow_one p (c ∷ bs) b h next = (h.0, follow_one c.place bs b h.1 next)

placed_follow : (d : DiskType) (dir : ℕ) (end : Place) (es : List Entry) (cs : List Content) (bs : List Block) → Follow end bs → Follow end (bs ++ placed d (bodies.Part dir end es bs) cs)
unfolding placed
placed_follow d dir end es [] bs h = subst (Follow end) (sym (append-nil bs)) h
placed_follow d dir end es (c ∷ cs) bs h =
    let b = next_block d (bodies.Part dir end es bs) c in
    subst (Follow end) (append_assoc bs (b ∷ []) (placed d (bodies.Part dir end es (bs ++ b ∷ [])) cs)) (placed_follow d dir end es cs (bs ++ b ∷ []) (follow_one end bs b h (next_follows d dir end es bs c)))

written_ordered : (d : DiskType) (name : List ℕ) (attr : Attr) (cs : List Content) (body : Body) → IsOrderedBody name attr body → IsOrderedBody name attr (with_blocks body (placed d body cs))
written_ordered d name attr cs (bodies.Part dir end es bs) h = (h.0, placed_follow d dir end es cs bs h.1)
written_ordered d name attr cs (bodies.Seq bs) h = tt
written_ordered d name attr cs bodies.Catalog h = tt
written_ordered d name attr cs bodies.Other h = tt
written_ordered d name attr cs (bodies.Unreadable track) h = tt

-- an emptied library keeps its organization
emptied_ordered : (name : List ℕ) (a attr : Attr) (body : Body) → IsOrderedBody name attr body
    → IsOrderedBody name (record attr { dsorg = if attr.dsorg == 0 then 0x4000 else attr.dsorg; recfm = a.recfm; optcd = a.optcd; blksize = a.blksize; lrecl = a.lrecl; keylen = a.keylen; rkp = a.rkp }) (without_blocks body)
emptied_ordered name a attr (bodies.Part dir end es bs) h = (part_stays (is_catalog name) attr.dsorg h.0, tt)
  where
    part_stays : (c : Bool) (d : ℕ) → (not c && d / 512 == 1) ≡ true → (not c && (if d == 0 then 0x4000 else d) / 512 == 1) ≡ true
    part_stays c d part = by_zero (d == 0) refl
      where
        by_zero : (b : Bool) → (d == 0) ≡ b → (not c && (if b then 0x4000 else d) / 512 == 1) ≡ true
        by_zero true z = let no : ⊥ = grind (arith, nat_tests) in absurd no
        by_zero false z = part
emptied_ordered name a attr (bodies.Seq bs) h = tt
emptied_ordered name a attr bodies.Catalog h = tt
emptied_ordered name a attr bodies.Other h = tt
emptied_ordered name a attr (bodies.Unreadable track) h = tt

entries_ordered : (name : List ℕ) (attr : Attr) (entries : List Entry) (body : Body) → IsOrderedBody name attr body → IsOrderedBody name attr (with_directory entries body)
entries_ordered name attr entries (bodies.Part dir end es bs) h = h
entries_ordered name attr entries (bodies.Seq bs) h = tt
entries_ordered name attr entries bodies.Catalog h = tt
entries_ordered name attr entries bodies.Other h = tt
entries_ordered name attr entries (bodies.Unreadable track) h = tt

-- under any other name but the catalog's
under_other : (name new : List ℕ) (attr : Attr) (body : Body) → is_catalog new ≡ false → IsOrderedBody name attr body → IsOrderedBody new attr body
under_other name new attr (bodies.Part dir end es bs) apart h = (ap (λ c. not c && attr.dsorg / 512 == 1) apart ∙ part (is_catalog name) (attr.dsorg / 512 == 1) h.0, h.1)
  where
    part : (c p : Bool) → (not c && p) ≡ true → p ≡ true
    part true p e = cc
    part false p e = e
under_other name new attr (bodies.Seq bs) apart h = tt
under_other name new attr bodies.Catalog apart h = tt
under_other name new attr bodies.Other apart h = tt
under_other name new attr (bodies.Unreadable track) apart h = tt

new_ordered : (d : DiskType) (name : List ℕ) (attr : Attr) (q : Request) (dir : ℕ) → IsOrderedBody name (new_attr name attr q) (new_body d name attr dir)
new_ordered d name attr q dir = by_tests (is_catalog name) refl (is_sequential name attr) (is_partitioned name attr) refl
  where
    by_tests : (c : Bool) → is_catalog name ≡ c → (s p : Bool) → is_partitioned name attr ≡ p
        → (let asked : Attr = record attr { scalo = flags_of q.unit q.contig; secondary = q.secondary } in
        IsOrderedBody name (if c then record asked { dsorg = 0x2000; recfm = 0x80; blksize = 256; keylen = 8 } else asked) (if c then bodies.Catalog else (if s then bodies.Seq [] else (if p then bodies.Part dir (directory_end d dir) [] [] else bodies.Other))))
    by_tests true f s p e = tt
    by_tests false f true p e = tt
    by_tests false f false true e = (e, tt)
    by_tests false f false false e = tt

-- ---- which sets there are

rise_first : (x : DataSet) (xs : List DataSet) (b : Bool) → AllByRecursion (λ y. is_before x y ≡ true) xs → IsAscending xs → IsAscending (cond b (x ∷ xs) xs)
rise_first x xs true before up = (before, up)
rise_first x xs false before up = up

filter_ascending : (t : DataSet → Bool) (xs : List DataSet) → IsAscending xs → IsAscending (filter t xs)
filter_ascending t [] up = tt
filter_ascending t (x ∷ xs) up = rise_first x (filter t xs) (t x) (all_filter (λ y. is_before x y ≡ true) t xs up.0) (filter_ascending t xs up.1)

other_way : (a b : List ℕ) → bytes_eq a b ≡ false → bytes_eq b a ≡ false
other_way a b e = by_test (bytes_eq b a) refl
  where
    by_test : (t : Bool) → bytes_eq b a ≡ t → t ≡ false
    by_test true h = let wrong = sym e ∙ (bytes_eq-Decides a b).1 (sym ((bytes_eq-Decides b a).0 h)) in cc
    by_test false h = refl

none_named : (x : DataSet) (sets : List DataSet) → list_any (has_name x.name.bytes) sets ≡ false → AllByRecursion (λ y. same_names x y ≡ false) sets
none_named x [] e = tt
none_named x (y ∷ sets) e = let both = parts (has_name x.name.bytes y) (list_any (has_name x.name.bytes) sets) e in (other_way y.name.bytes x.name.bytes both.0, none_named x sets both.1)
  where
    parts : (a b : Bool) → (a || b) ≡ false → (a ≡ false) × (b ≡ false)
    parts true b e = cc
    parts false b e = (refl, e)

new_ascending : (x : DataSet) (sets : List DataSet) → IsAscending sets → list_any (has_name x.name.bytes) sets ≡ false → IsAscending (in_order (x ∷ sets))
unfolding IsDistinct
new_ascending x sets up none = in_order-ascending (x ∷ sets) (none_named x sets none, ascending-distinct sets up)

names_ordered : (old : List ℕ) (new : Dsn) → is_catalog new.bytes ≡ false → (sets : List DataSet) → AllByRecursion IsOrderedSet sets → AllByRecursion IsOrderedSet (map (with_name old new) sets)
names_ordered old new apart [] all = tt
names_ordered old new apart (x ∷ sets) all = (one (has_name old x), names_ordered old new apart sets all.1)
  where
    one : (b : Bool) → IsOrderedSet (if b then record x { name = new } else x)
    one true = under_other x.name.bytes new.bytes x.attr x.body apart all.0
    one false = all.0

-- ---- the volume

module _ (volume w : Volume) (h : IsOrderedVolume volume) where
  changed : (dsn : Dsn) (f : DataSet → DataSet) → KeepsNames f → (c : Changed volume w dsn f) → (IsOrderedSet c.set → IsOrderedSet (f c.set)) → IsOrderedVolume w
  changed dsn f names c keeps =
      let found = found_all IsOrderedSet dsn.bytes volume.sets c.set h.sets c.at in
      subst IsOrderedVolume c.is (record {
        order = changed-ascending dsn.bytes f names volume.sets h.order;
        sets = changed-all IsOrderedSet dsn.bytes f volume.sets c.set h.order c.at (keeps found.0) h.sets;
      })

  directory : (dsn : Dsn) (after : List Entry → List Entry) → DirectoryChanged volume w dsn after → IsOrderedVolume w
  directory dsn after c = let x = c.change.set in changed dsn (with_entries (after c.entries)) (λ y. refl) c.change (entries_ordered x.name.bytes x.attr (after c.entries) x.body)

  write : (mode : Mode) (dsn : Dsn) (cs : List Content) → Changed volume w dsn (with_written volume.geometry.device mode cs) → IsOrderedVolume w
  write mode dsn cs c = let x = c.set in changed dsn (with_written volume.geometry.device mode cs) (λ y. refl) c (written_ordered volume.geometry.device x.name.bytes x.attr (written mode x.body cs) x.body)

  others : (sets : List DataSet) → w.sets ≡ sets → IsAscending sets → AllByRecursion IsOrderedSet sets → IsOrderedVolume w
  others sets is up all = record { order = subst IsAscending (sym is) up; sets = subst (AllByRecursion IsOrderedSet) (sym is) all }

  allocate : (dsn : Dsn) (attr : Attr) (q : Request) (dir : ℕ) (runs : List Run) → list_any (has_name dsn.bytes) volume.sets ≡ false → with_new dsn attr q dir volume runs ≡ w → IsOrderedVolume w
  allocate dsn attr q dir runs none is =
      let d = volume.geometry.device in
      let x : DataSet = record { name = dsn; attr = new_attr dsn.bytes attr q; extents = runs; body = new_body d dsn.bytes attr dir } in
      others (in_order (x ∷ volume.sets)) (ap (λ (v : Volume). v.sets) (sym is)) (new_ascending x volume.sets h.order none) (sorted_all IsOrderedSet (x ∷ volume.sets) (new_ordered d dsn.bytes attr q dir, h.sets))

  rename : (old : List ℕ) (new : Dsn) → list_any (has_name new.bytes) volume.sets ≡ false → is_catalog new.bytes ≡ false → w.sets ≡ in_order (map (with_name old new) volume.sets) → IsOrderedVolume w
  rename old new none apart is =
      let sets = map (with_name old new) volume.sets in
      others (in_order sets) is (renamed-ascending old new volume.sets h.order none) (sorted_all IsOrderedSet sets (names_ordered old new apart volume.sets h.sets))

  catalog : w.sets ≡ volume.sets → IsOrderedVolume w
  catalog is = others volume.sets is h.order h.sets

pub volume_stays : (op : Op) (volume w : Volume) → IsOrderedVolume volume → step_on op volume ≡ Ok w → IsOrderedVolume w
unfolding step_on
volume_stays (Allocate v dsn attr request dir) volume w h done = let c = allocate_changes volume w dsn attr request dir done in allocate volume w h dsn attr request dir c.0 c.1 c.2
volume_stays (Extend v dsn) volume w h done = let c = extend_changes volume w dsn done in changed volume w h dsn (with_extents c.0) (λ y. refl) c.1 (λ set. set)
volume_stays (Scratch v dsn) volume w h done =
    let left : DataSet → Bool = λ y. not (has_name dsn.bytes y) in
    others volume w h (filter left volume.sets) (scratch_changes volume w dsn done) (filter_ascending left volume.sets h.order) (all_filter IsOrderedSet left volume.sets h.sets)
volume_stays (Rename v old new) volume w h done = let c = rename_changes volume w old new done in rename volume w h old.bytes new c.0 c.1 c.2
volume_stays (Empty v dsn attr) volume w h done =
    let c = (empty_changes volume w dsn attr done).0 in
    changed volume w h dsn (emptied attr) (λ y. refl) c (emptied_ordered c.set.name.bytes attr c.set.attr c.set.body)
volume_stays (Fill v dsn blocks) volume w h done = let cs = map content blocks in write volume w h modes.Fill dsn cs (write_changes volume w dsn modes.Fill cs done).0
volume_stays (Area v dsn blocks) volume w h done = let cs = map content blocks in write volume w h modes.Area dsn cs (write_changes volume w dsn modes.Area cs done).0
volume_stays (Enter v dsn entry replace) volume w h done = directory volume w h dsn _ (enter_changes volume w dsn entry replace done)
volume_stays (Drop v dsn name) volume w h done = directory volume w h dsn _ (drop_changes volume w dsn name done)
volume_stays (BuildIndex v path) volume w h done = catalog volume w h (catalog_changes volume w (built path Index) done)
volume_stays (BuildGroup v path limit empty delete) volume w h done = catalog volume w h (catalog_changes volume w (built path (Group limit empty delete)) done)
volume_stays (DropNode v path) volume w h done = catalog volume w h (catalog_changes volume w (node_dropped path) done)
volume_stays (Catalog v path vols replace) volume w h done = catalog volume w h (catalog_changes volume w (cataloged path vols replace) done)
volume_stays (Uncatalog v path) volume w h done = catalog volume w h (catalog_changes volume w (uncataloged path) done)
volume_stays (Alias v name of) volume w h done = catalog volume w h (catalog_changes volume w (aliased name of) done)

-- ---- the shelf

each_set : {X : Type 0} (P : X → Type 0) (xs : List X) (i : ℕ) (x : X) → AllByRecursion P xs → P x → AllByRecursion P (slice_set xs i x)
each_set P [] i x all new = tt
each_set P (y ∷ xs) zero x all new = (new, all.1)
each_set P (y ∷ xs) (suc i) x all new = (all.0, each_set P xs i x all.1 new)

pub shelf_stays : (s t : Shelf) (op : Op) → IsOrdered s → step s op ≡ Ok t → IsOrdered t
shelf_stays s t op h done =
    let c = stepped s op t done in
    let v = volume_number op in
    subst IsOrdered (sym c.is) (each_set IsOrderedVolume s.volumes v c.after h (volume_stays op c.volume c.after (each_at IsOrderedVolume s.volumes v c.volume h c.at) c.done))
