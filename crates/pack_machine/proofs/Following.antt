-- Which data sets can't be read after an operation on a volume.
use Rattle.std.proofs.Common.{◌≡◌, ◌≢◌, ⊎_elim, inl, inr, ℕ, Bool, true, false, cond, not, ◌&&◌, ◌||◌, List, [], ◌∷◌, map, Option, Some, None, refl, sym, ap, subst, ◌∙◌}
use Rattle.std.specs.Prelude.{◌⊎◌, ◌==◌, nat_lt, option_and_then, Result, Ok, filter, find, if◌then◌else◌}
use Rattle.std.specs.Option.{option_map}
use Rattle.std.proofs.lemmas.Bool.{cases_Bool}
use Rattle.std.proofs.lemmas.Slice.Eq.{bytes_eq-Decides}
use Rattle.std.specs.Str.{bytes_eq}
use Rattle.ebcdic_names.specs.declared.names.Dsn.{Dsn}
use Rattle.ckd_image.specs.declared.device.DiskType.{DiskType}
use Rattle.vol_model.specs.declared.contents.Attr.{Attr}
use Rattle.vol_model.specs.declared.contents.Body.{Body}
use Rattle.vol_model.specs.declared.contents.Body.TheVariants as bodies
use Rattle.vol_model.specs.declared.contents.DataSet.{DataSet}
use Rattle.vol_model.specs.declared.contents.Entry.{Entry}
use Rattle.vol_model.specs.declared.contents.Run.{Run}
use Rattle.vol_model.specs.declared.contents.Volume.{Volume}
use Rattle.vol_model.specs.declared.refusals.Refusal.{Refusal}
use Rattle.vol_model.specs.declared.refusals.Refusal.TheVariants.{NoRoom, NoSet, SetExists, VtocFull, WrongKind}
use Rattle.vol_model.specs.declared.requests.Request.{Request}
use Rattle.vol_model.specs.Order.{in_order}
use Rattle.vol_model.specs.Places.{directory_end, tracks_in}
use Rattle.vol_model.specs.Shelf.{allocate_on, with_directory, with_entries, emptied, empty_on, empty_set, extend_on, has_name, has_set, if_room, is_catalog, is_partitioned, is_sequential, lacks_room, may_empty, new_attr, new_body, on_choice, on_found, organization, refuse, rename_on, rename_refusal, renamed, scratch_on, set_of, unless_refused, with_extents, with_name, with_new, with_set, without_blocks}
use Rattle.vol_model.specs.Slots.{slots_needed}
use Rattle.vol_model.specs.Space.{choice}
use Rattle.pack_machine.specs.Known.{ListsBroken}
use Rattle.pack_machine.specs.Unread.{broken_at, broken_in, is_of, is_walked, others_of, renamed_in, track_in}
use Rattle.pack_machine.specs.declared.unread.Unread.{Unread}
use Rattle.pack_machine.proofs.FoundByKey.{find_passes, found_changed, found_new, found_old, found_other, none_found, others_none, others_same}
use Rattle.pack_machine.proofs.Operating.{extend_is, ok_volume, read_through, unrefused}
use Rattle.mount_repair.proofs.OrderedSets.{find_in_order}

abbrev track_of : Unread → ℕ
track_of u = u.track

abbrev name_of : DataSet → List ℕ
name_of x = x.name.bytes

abbrev entry_name : Unread → List ℕ
entry_name u = u.dsn.bytes

-- two names are one, or they differ
one_name : (a b : List ℕ) → (a ≡ b) ⊎ (a ≢ b)
one_name a b = ⊎_elim (λ same. inl ((bytes_eq-Decides a b).0 same)) (λ not. inr (λ same. absurd (let both : true ≡ false = sym ((bytes_eq-Decides a b).1 same) ∙ not in cc))) (cases_Bool (bytes_eq a b))

-- a new body can be read
new_whole : (device : DiskType) (name : List ℕ) (attr : Attr) (dir : ℕ) → broken_at (new_body device name attr dir) ≡ None
new_whole device name attr dir = by (is_catalog name) (is_sequential name attr) (is_partitioned name attr)
  where
    by : (a b c : Bool) → broken_at (cond a bodies.Catalog (cond b (bodies.Seq []) (cond c (bodies.Part dir (directory_end device dir) [] []) bodies.Other))) ≡ None
    by true b c = refl
    by false true c = refl
    by false false true = refl
    by false false false = refl

whole_set : (x : DataSet) → broken_at x.body ≡ None → broken_in x ≡ None
whole_set x whole = by (is_walked x.name.bytes x.attr)
  where
    by : (b : Bool) → cond b (broken_at x.body) None ≡ None
    by true = whole
    by false = refl

module _ (w : Volume) (unread : List Unread) (lists : ListsBroken w unread) where
  -- a name that no set has is in no entry
  none_listed : (name : List ℕ) → has_set w name ≡ false → track_in unread name ≡ None
  none_listed name none = lists name ∙ ap (option_and_then broken_in) (none_found (has_name name) w.sets none)

  -- after a new set
  lists_new : (x : DataSet) (sets : List DataSet) → sets ≡ in_order (x ∷ w.sets) → has_set w x.name.bytes ≡ false → broken_in x ≡ None → (name : List ℕ) → track_in unread name ≡ option_and_then broken_in (find (has_name name) sets)
  lists_new x sets is none whole name =
      by (has_name name x) refl
      ∙ sym (ap (λ (l : List DataSet). option_and_then broken_in (find (has_name name) l)) is ∙ ap (option_and_then broken_in) (find_in_order name (x ∷ w.sets)))
    where
      by : (b : Bool) → has_name name x ≡ b → track_in unread name ≡ option_and_then broken_in (cond b (Some x) (find (has_name name) w.sets))
      by true same =
          let this : x.name.bytes ≡ name = (bytes_eq-Decides x.name.bytes name).0 same in
          none_listed name (ap (has_set w) (sym this) ∙ none) ∙ sym whole
      by false same = lists name

  -- and after one that is gone
  lists_gone : (gone name : List ℕ) → track_in (others_of gone unread) name ≡ option_and_then broken_in (find (has_name name) (filter (λ y. not (has_name gone y)) w.sets))
  lists_gone gone name = ⊎_elim
      (λ same. subst (λ (m : List ℕ). track_in (others_of gone unread) m ≡ option_and_then broken_in (find (has_name m) (filter (λ y. not (has_name gone y)) w.sets))) same
      (ap (option_map track_of) (others_none entry_name gone unread) ∙ sym (ap (option_and_then broken_in) (others_none name_of gone w.sets))))
      (λ differs. ap (option_map track_of) (others_same entry_name gone name differs unread) ∙ lists name ∙ sym (ap (option_and_then broken_in) (others_same name_of gone name differs w.sets)))
      (one_name gone name)

  -- and after one that is changed, but not in whether it can be read
  module _ (name : List ℕ) (f : DataSet → DataSet) (keeps : (x : DataSet) → name_of (f x) ≡ name_of x) (whole : (x : DataSet) → set_of name w ≡ Some x → broken_in (f x) ≡ broken_in x) where
    lists_changed : ListsBroken (with_set w name f) unread
    lists_changed m = lists m ∙ by (find (has_name m) w.sets) refl ∙ sym (ap (option_and_then broken_in) (found_changed name_of name f keeps m w.sets))
      where
        test : (x : DataSet) → find (has_name m) w.sets ≡ Some x → (b : Bool) → has_name name x ≡ b → broken_in x ≡ broken_in (cond b (f x) x)
        test x there false not = refl
        test x there true is =
            let this : m ≡ name = sym ((bytes_eq-Decides x.name.bytes m).0 (find_passes (has_name m) w.sets x there)) ∙ (bytes_eq-Decides x.name.bytes name).0 is in
            sym (whole x (ap (λ (n : List ℕ). find (has_name n) w.sets) (sym this) ∙ there))

        by : (o : Option DataSet) → find (has_name m) w.sets ≡ o → option_and_then broken_in o ≡ option_and_then broken_in (option_map (λ (x : DataSet). cond (has_name name x) (f x) x) o)
        by None there = refl
        by (Some x) there = test x there (has_name name x) refl

  module _ (old : List ℕ) (new : Dsn) (none : has_set w new.bytes ≡ false) (apart : old ≢ new.bytes) (before : is_catalog old ≡ false) (after : is_catalog new.bytes ≡ false) where
    abbrev entry_renamed : Unread → Unread
    entry_renamed u = record u { dsn = new }

    abbrev set_renamed : DataSet → DataSet
    set_renamed x = record x { name = new }

    track_kept : (o : Option Unread) → option_map track_of (option_map entry_renamed o) ≡ option_map track_of o
    track_kept None = refl
    track_kept (Some u) = refl

    set_kept : (x : DataSet) → has_name old x ≡ true → broken_in (set_renamed x) ≡ broken_in x
    set_kept x is =
        let named : x.name.bytes ≡ old = (bytes_eq-Decides x.name.bytes old).0 is in
        ap (λ (b : Bool). cond ((not b && (organization x.attr == 32)) || (not b && (organization x.attr == 1))) (broken_at x.body) None) (after ∙ sym (ap is_catalog named ∙ before))

    body_kept : (o : Option DataSet) → find (has_name old) w.sets ≡ o → option_and_then broken_in (option_map set_renamed o) ≡ option_and_then broken_in o
    body_kept None there = refl
    body_kept (Some x) there = set_kept x (find_passes (has_name old) w.sets x there)

    -- after one that has another name
    lists_renamed : (name : List ℕ) → track_in (map (renamed_in old new) unread) name ≡ option_and_then broken_in (find (has_name name) (map (with_name old new) w.sets))
    lists_renamed name = ⊎_elim
        (λ is_new. subst (λ (m : List ℕ). track_in (map (renamed_in old new) unread) m ≡ option_and_then broken_in (find (has_name m) (map (with_name old new) w.sets))) is_new
        (ap (option_map track_of) (found_new entry_name old new.bytes entry_renamed (λ u. refl) unread no_entry) ∙ track_kept (find (is_of old) unread)
        ∙ lists old ∙ sym (body_kept (find (has_name old) w.sets) refl)
        ∙ sym (ap (option_and_then broken_in) (found_new name_of old new.bytes set_renamed (λ x. refl) w.sets (none_found (has_name new.bytes) w.sets none)))))
        (λ not_new. ⊎_elim
        (λ is_old. subst (λ (m : List ℕ). track_in (map (renamed_in old new) unread) m ≡ option_and_then broken_in (find (has_name m) (map (with_name old new) w.sets))) is_old
        (ap (option_map track_of) (found_old entry_name old new.bytes entry_renamed (λ u. refl) apart unread)
        ∙ sym (ap (option_and_then broken_in) (found_old name_of old new.bytes set_renamed (λ x. refl) apart w.sets))))
        (λ not_old. ap (option_map track_of) (found_other entry_name old new.bytes entry_renamed (λ u. refl) name not_old not_new unread)
        ∙ lists name
        ∙ sym (ap (option_and_then broken_in) (found_other name_of old new.bytes set_renamed (λ x. refl) name not_old not_new w.sets)))
        (one_name old name))
        (one_name new.bytes name)
      where
        nothing : (o : Option Unread) → option_map track_of o ≡ None → o ≡ None
        nothing None is = refl
        nothing (Some u) is = absurd cc

        no_entry : find (is_of new.bytes) unread ≡ None
        no_entry = nothing (find (is_of new.bytes) unread) (none_listed new.bytes none)

-- what a rename that is done says of the names
record Renames (w : Volume) (old new : List ℕ) : Type 0 where
  there : has_set w old ≡ true
  none : has_set w new ≡ false
  before : is_catalog old ≡ false
  after : is_catalog new ≡ false

renames : (w : Volume) (old new : List ℕ) → rename_refusal w old new ≡ None → Renames w old new
unfolding rename_refusal
renames w old new = by (has_set w old) refl (has_set w new) refl (is_catalog old) refl (is_catalog new) refl
  where
    by : (a : Bool) → has_set w old ≡ a → (b : Bool) → has_set w new ≡ b → (c : Bool) → is_catalog old ≡ c → (d : Bool) → is_catalog new ≡ d
        → cond (not a) (Some NoSet) (cond b (Some SetExists) (cond (c || d) (Some WrongKind) None)) ≡ None → Renames w old new
    by false there b none c before d after is = absurd cc
    by true there true none c before d after is = absurd cc
    by true there false none true before d after is = absurd cc
    by true there false none false before true after is = absurd cc
    by true there false none false before false after is = record { there = there; none = none; before = before; after = after }

pub rename_after : (old new : Dsn) (w after : Volume) → rename_on old new w ≡ Ok after → (unread : List Unread) → ListsBroken w unread → ListsBroken after (map (renamed_in old.bytes new) unread)
unfolding rename_on renamed
rename_after old new w after done unread lists = by (rename_refusal w old.bytes new.bytes) refl done
  where
    by : (o : Option Refusal) → rename_refusal w old.bytes new.bytes ≡ o → unless_refused o (renamed w old.bytes new) ≡ Ok after → ListsBroken after (map (renamed_in old.bytes new) unread)
    by (Some r) there is = absurd cc
    by None there is =
        let names = renames w old.bytes new.bytes there in
        let apart : old.bytes ≢ new.bytes = λ same. let both : true ≡ false = sym names.there ∙ ap (has_set w) same ∙ names.none in cc in
        subst (λ (x : Volume). ListsBroken x (map (renamed_in old.bytes new) unread)) (ok_volume is)
        (λ name. lists_renamed w unread lists old.bytes new names.none apart names.before names.after name
        ∙ sym (ap (option_and_then broken_in) (find_in_order name (map (with_name old.bytes new) w.sets))))

pub scratch_after : (dsn : Dsn) (w after : Volume) → scratch_on dsn w ≡ Ok after → (unread : List Unread) → ListsBroken w unread → ListsBroken after (others_of dsn.bytes unread)
unfolding scratch_on
scratch_after dsn w after done unread lists = by (set_of dsn.bytes w) done
  where
    without : DataSet → Result Volume Refusal
    without x = Ok (record w { sets = filter (λ (y : DataSet). not (has_name dsn.bytes y)) w.sets; catalog = if is_catalog dsn.bytes then None else w.catalog })

    by : (o : Option DataSet) → on_found o without ≡ Ok after → ListsBroken after (others_of dsn.bytes unread)
    by None is = absurd cc
    by (Some x) is = subst (λ (y : Volume). ListsBroken y (others_of dsn.bytes unread)) (ok_volume is) (λ name. lists_gone w unread lists dsn.bytes name)

-- what isn't refused wasn't to be
not_refused : (b : Bool) (r : Refusal) (rest : Result Volume Refusal) (after : Volume) → refuse b r rest ≡ Ok after → b ≡ false
not_refused true r rest after is = absurd cc
not_refused false r rest after is = refl

pub allocate_after : (dsn : Dsn) (attr : Attr) (q : Request) (dir : ℕ) (w after : Volume) → allocate_on dsn attr q dir w ≡ Ok after → (unread : List Unread) → ListsBroken w unread → ListsBroken after unread
unfolding allocate_on
allocate_after dsn attr q dir w after done unread lists =
    let wants_dir = is_partitioned dsn.bytes attr in
    by (choice w q.unit q.contig q.primary) (unrefused (if dir == 0 then wants_dir else not wants_dir) WrongKind _ after (unrefused (has_set w dsn.bytes) SetExists _ after done))
  where
    with_runs : List Run → Result Volume Refusal
    with_runs runs = if_room (lacks_room w.geometry.device dsn.bytes dir (tracks_in runs)) (with_new dsn attr q dir w runs)

    none : has_set w dsn.bytes ≡ false
    none = not_refused (has_set w dsn.bytes) SetExists _ after done

    by : (o : Option (List Run)) → on_choice q.primary o with_runs ≡ Ok after → ListsBroken after unread
    by None is = absurd cc
    by (Some runs) is =
        let x : DataSet = record { name = dsn; attr = new_attr dsn.bytes attr q; extents = runs; body = new_body w.geometry.device dsn.bytes attr dir } in
        let new : Volume = with_new dsn attr q dir w runs in
        let room : Bool = lacks_room w.geometry.device dsn.bytes dir (tracks_in runs) in
        let free = unrefused (nat_lt new.slots (slots_needed new)) (VtocFull (slots_needed new)) (refuse room NoRoom (Ok new)) after is in
        subst (λ (y : Volume). ListsBroken y unread) (ok_volume (unrefused room NoRoom (Ok new) after free))
        (lists_new w unread lists x new.sets refl none (whole_set x (new_whole w.geometry.device dsn.bytes attr dir)))

-- a body that can be read is read as well without its blocks
vacant_whole : (b : Body) → broken_at (without_blocks b) ≡ None
vacant_whole (bodies.Seq blocks) = refl
vacant_whole (bodies.Part dir end entries blocks) = refl
vacant_whole bodies.Catalog = refl
vacant_whole bodies.Other = refl
vacant_whole (bodies.Unreadable track) = refl

pub empty_after : (dsn : Dsn) (attr : Attr) (w after : Volume) → empty_on dsn attr w ≡ Ok after → (unread : List Unread) → ListsBroken w unread → ListsBroken after unread
unfolding empty_on
empty_after dsn attr w after done unread lists = by (set_of dsn.bytes w) refl done
  where
    some_set : {a b : DataSet} → Some a ≡ Some b → a ≡ b
    some_set same = cc

    by : (o : Option DataSet) → set_of dsn.bytes w ≡ o → on_found o (empty_set dsn attr w) ≡ Ok after → ListsBroken after unread
    by None there is = absurd cc
    by (Some x) there is =
        let read = read_through x.body _ after (unrefused (not (may_empty dsn.bytes x.attr x.body)) WrongKind _ after is) in
        subst (λ (y : Volume). ListsBroken y unread) (ok_volume read.0)
        (lists_changed w unread lists dsn.bytes (emptied attr) (λ y. refl) (λ y found.
        let this : x ≡ y = some_set (sym there ∙ found) in
        whole_set (emptied attr y) (vacant_whole y.body) ∙ sym (whole_set y (ap (λ (z : DataSet). broken_at z.body) (sym this) ∙ read.1))))

-- and so is one with more extents
pub extend_after : (dsn : Dsn) (w after : Volume) → extend_on dsn w ≡ Ok after → (unread : List Unread) → ListsBroken w unread → ListsBroken after unread
extend_after dsn w after done unread lists =
    let is = extend_is dsn w after done in
    subst (λ (y : Volume). ListsBroken y unread) is.1 (lists_changed w unread lists dsn.bytes (with_extents is.0) (λ y. refl) (λ y found. refl))

-- a body with other entries can be read where it could
entries_whole : (es : List Entry) (b : Body) → broken_at (with_directory es b) ≡ broken_at b
entries_whole es (bodies.Seq blocks) = refl
entries_whole es (bodies.Part dir end entries blocks) = refl
entries_whole es bodies.Catalog = refl
entries_whole es bodies.Other = refl
entries_whole es (bodies.Unreadable track) = refl

-- and so are all where one has other entries
pub entries_after : (dsn : Dsn) (w after : Volume) → (es : List Entry) × (with_set w dsn.bytes (with_entries es) ≡ after) → (unread : List Unread) → ListsBroken w unread → ListsBroken after unread
entries_after dsn w after is unread lists = subst (λ (y : Volume). ListsBroken y unread) is.1
    (lists_changed w unread lists dsn.bytes (with_entries is.0) (λ y. refl) (λ y found. ap (λ (o : Option ℕ). if is_walked y.name.bytes y.attr then o else None) (entries_whole is.0 y.body)))
