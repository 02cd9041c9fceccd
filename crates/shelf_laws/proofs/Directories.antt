-- A shelf stays lawful where an entry is put into a directory, or goes.
use Rattle.std.proofs.Common.{◌≡◌, ◌≤◌, ℕ, Bool, true, false, cond, not, ◌&&◌, List, [], ◌∷◌, ◌++◌, filter, refl, sym, ◌∙◌, ap, subst, arith}
use Rattle.std.proofs.lemmas.Cmp.{nat_list_cmp_total}
use Rattle.std.specs.Prelude.{Some, Result, Ok, nat_lt}
use Rattle.std.specs.Cmp.Lexicographic.{slice_cmp}
use Rattle.std.specs.List.{AllByRecursion}
use Rattle.std.specs.Ordering.{is_lt, nat_cmp}
use Rattle.std.specs.Str.{bytes_eq}
use Rattle.std.specs.declared.cmp.Ordering.{Ordering}
use Rattle.std.specs.declared.cmp.Ordering.TheVariants.{Less, Equal, Greater}
use Rattle.ebcdic_names.specs.declared.names.Dsn.{Dsn}
use Rattle.ebcdic_names.specs.declared.names.Name8.{Name8}
use Rattle.vol_model.specs.declared.contents.Body.{Body}
use Rattle.vol_model.specs.declared.contents.Body.TheVariants as bodies
use Rattle.vol_model.specs.declared.contents.DataSet.{DataSet}
use Rattle.vol_model.specs.declared.contents.Entry.{Entry}
use Rattle.vol_model.specs.declared.contents.Shelf.{Shelf}
use Rattle.vol_model.specs.declared.contents.Volume.{Volume}
use Rattle.vol_model.specs.declared.refusals.Refusal.{Refusal}
use Rattle.vol_model.specs.declared.refusals.Refusal.TheVariants.{DirFull, MemberExists, NoMember, WrongKind}
use Rattle.vol_model.specs.declared.requests.Op.TheVariants.{Drop, Enter}
use Rattle.vol_model.specs.Lawful.{EntriesAscend, IsLawful, IsLawfulBody, IsLawfulEntry, IsLawfulPart, IsLawfulSet, IsLawfulVolume, is_of_kind}
use Rattle.vol_model.specs.Places.{tracks_in}
use Rattle.vol_model.specs.Shelf.{drop_on, enter_on, has_member, in_directory, is_entry_before, is_partitioned, on_directory, refuse, set_of, step, step_on, with_directory, with_entries, with_entry, with_set}
use Rattle.vol_model.specs.Slots.{directory_needed, entry_size}
use Rattle.shelf_laws.proofs.Lists.{all_filter, all_joined, all_weaker, passed}
use Rattle.shelf_laws.proofs.Needed.{fewer_needed}
use Rattle.shelf_laws.proofs.SetChanges.{found_all, lawful_contents}
use Rattle.shelf_laws.proofs.Steps.{not_more, found_ok, ok_same, refuse_ok, step_lawful}

-- ---- lists of entries

is_less : (o : Ordering) → is_lt o ≡ true → o ≡ Less
is_less Less e = refl
is_less Equal e = cc
is_less Greater e = cc

before_trans : (a b c : Entry) → is_entry_before a b ≡ true → is_entry_before b c ≡ true → is_entry_before a c ≡ true
before_trans a b c p q = ap is_lt (nat_list_cmp_total.trans a.name.bytes b.name.bytes c.name.bytes (is_less (slice_cmp nat_cmp a.name.bytes b.name.bytes) p) (is_less (slice_cmp nat_cmp b.name.bytes c.name.bytes) q))

ascend_first : (p : Entry → Bool) (x : Entry) (xs : List Entry) (b : Bool) → AllByRecursion (λ y. is_entry_before x y ≡ true) xs → EntriesAscend xs → EntriesAscend (cond b (x ∷ xs) xs)
ascend_first p x xs true before up = (before, up)
ascend_first p x xs false before up = up

pub filter_ascend : (p : Entry → Bool) (xs : List Entry) → EntriesAscend xs → EntriesAscend (filter p xs)
filter_ascend p [] up = tt
filter_ascend p (x ∷ xs) up = ascend_first p x (filter p xs) (p x) (all_filter (λ y. is_entry_before x y ≡ true) p xs up.0) (filter_ascend p xs up.1)

ascend_append : (e : Entry) (xs ys : List Entry) → EntriesAscend xs → EntriesAscend ys → AllByRecursion (λ x. is_entry_before x e ≡ true) xs → AllByRecursion (λ y. is_entry_before e y ≡ true) ys → EntriesAscend (xs ++ e ∷ ys)
ascend_append e [] ys a b below above = (above, b)
ascend_append e (x ∷ xs) ys a b below above = (
  all_joined (λ y. is_entry_before x y ≡ true) xs (e ∷ ys) a.0 (below.0, all_weaker (λ y. is_entry_before e y ≡ true) (λ y. is_entry_before x y ≡ true) (λ y l. before_trans x e y below.0 l) ys above),
  ascend_append e xs ys a.1 b below.1 above,
)

entered_ascend : (e : Entry) (es : List Entry) → EntriesAscend es → EntriesAscend (with_entry e es)
entered_ascend e es up =
    ascend_append e (filter (λ x. is_entry_before x e) es) (filter (λ x. is_entry_before e x) es) (filter_ascend (λ x. is_entry_before x e) es up) (filter_ascend (λ x. is_entry_before e x) es up)
    (passed (λ x. is_entry_before x e) es) (passed (λ x. is_entry_before e x) es)

entered_all : (P : Entry → Type 0) (e : Entry) (es : List Entry) → P e → AllByRecursion P es → AllByRecursion P (with_entry e es)
entered_all P e es here all =
    all_joined P (filter (λ x. is_entry_before x e) es) (e ∷ filter (λ x. is_entry_before e x) es) (all_filter P (λ x. is_entry_before x e) es all) (here, all_filter P (λ x. is_entry_before e x) es all)

-- ---- a directory with other entries

-- an operation on a directory gives a volume in whose set other entries stand; they stand in order, are lawful and have room
module _ (dsn : Dsn) (volume w : Volume) (h : IsLawfulVolume volume) (operation : ℕ → List Entry → Result Volume Refusal) (after : List Entry → List Entry) where
  abbrev gives : Type 0
  gives = (dir : ℕ) (es : List Entry) → EntriesAscend es → AllByRecursion IsLawfulEntry es → directory_needed es ≤ dir → operation dir es ≡ Ok w
      → (with_set volume dsn.bytes (with_entries (after es)) ≡ w) × (EntriesAscend (after es) × (AllByRecursion IsLawfulEntry (after es) × (directory_needed (after es) ≤ dir)))

  as_part : (x : DataSet) (dir : ℕ) (es : List Entry) → gives → set_of dsn.bytes volume ≡ Some x → (body : Body) → x.body ≡ body → IsLawfulBody (tracks_in x.extents) body → is_of_kind x.name.bytes x.attr body ≡ true → IsLawfulSet volume.geometry x → in_directory body operation ≡ Ok w → IsLawfulVolume w
  as_part x d l give found (bodies.Part dir end es bs) is lawful kind set done =
      let given = give dir es lawful.order lawful.entries lawful.room done in
      let same : with_directory (after es) x.body ≡ bodies.Part dir end (after es) bs = ap (with_directory (after es)) is in
      let part : IsLawfulPart (tracks_in x.extents) dir end (after es) bs = record { few = lawful.few; room = given.1.1.1; order = given.1.0; entries = given.1.1.0; end = lawful.end; follow = lawful.follow; blocks = lawful.blocks } in
      let new : IsLawfulSet volume.geometry (with_entries (after es) x) = record {
        few = set.few;
        extents = set.extents;
        secondary = set.secondary;
        kind = ap (is_of_kind x.name.bytes x.attr) same ∙ kind;
        body = subst (IsLawfulBody (tracks_in x.extents)) (sym same) part;
      } in
      subst IsLawfulVolume given.0 (lawful_contents volume dsn.bytes (with_entries (after es)) x (λ y. refl) (λ y. refl) h found new)
  as_part x d l give found (bodies.Seq bs) is lawful kind set done = cc
  as_part x d l give found bodies.Catalog is lawful kind set done = cc
  as_part x d l give found bodies.Other is lawful kind set done = cc
  as_part x d l give found (bodies.Unreadable track) is lawful kind set done = cc

  pub in_directory_lawful : gives → on_directory dsn volume operation ≡ Ok w → IsLawfulVolume w
  in_directory_lawful give done =
      let found = found_ok (set_of dsn.bytes volume) (λ x. refuse (not (is_partitioned dsn.bytes x.attr)) WrongKind (in_directory x.body operation)) w done in
      let x = found.0 in
      let set = (found_all (IsLawfulSet volume.geometry) dsn.bytes volume.sets x h.sets found.1).0 in
      let went = refuse_ok (not (is_partitioned dsn.bytes x.attr)) WrongKind (in_directory x.body operation) w found.2 in
      as_part x 0 [] give found.1 x.body refl set.body set.kind set went.1

enters : (dsn : Dsn) (e : Entry) (replace : Bool) (volume w : Volume) → IsLawfulEntry e → IsLawfulVolume volume → enter_on dsn e replace volume ≡ Ok w → IsLawfulVolume w
unfolding enter_on
enters dsn e replace volume w lawful h done =
    in_directory_lawful dsn volume w h _ (with_entry e) (λ dir es up all room ok.
    let after = with_entry e es in
    let new = with_set volume dsn.bytes (with_entries after) in
    let first = refuse_ok (not replace && has_member e.name.bytes es) MemberExists (refuse (nat_lt dir (directory_needed after)) (DirFull (directory_needed after)) (Ok new)) w ok in
    let second = refuse_ok (nat_lt dir (directory_needed after)) (DirFull (directory_needed after)) (Ok new) w first.1 in
    (ok_same new w second.1, (entered_ascend e es up, (entered_all IsLawfulEntry e es lawful all, not_more dir (directory_needed after) second.0)))) done

drops : (dsn : Dsn) (name : Name8) (volume w : Volume) → IsLawfulVolume volume → drop_on dsn name volume ≡ Ok w → IsLawfulVolume w
unfolding drop_on directory_needed
drops dsn name volume w h done =
    let left : Entry → Bool = λ e. not (bytes_eq e.name.bytes name.bytes) in
    in_directory_lawful dsn volume w h _ (filter left) (λ dir es up all room ok.
    let new = with_set volume dsn.bytes (with_entries (filter left es)) in
    let first = refuse_ok (not (has_member name.bytes es)) NoMember (Ok new) w ok in
    let fewer = fewer_needed entry_size 254 12 left es in
    (ok_same new w first.1, (filter_ascend left es up, (all_filter IsLawfulEntry left es all, omega (arith, room, fewer))))) done

pub enter_lawful : (s t : Shelf) (v : ℕ) (dsn : Dsn) (e : Entry) (replace : Bool) → IsLawfulEntry e → IsLawful s → step s (Enter v dsn e replace) ≡ Ok t → IsLawful t
unfolding step_on
enter_lawful s t v dsn e replace lawful h done = step_lawful s t (Enter v dsn e replace) (λ volume w. enters dsn e replace volume w lawful) h done

pub drop_lawful : (s t : Shelf) (v : ℕ) (dsn : Dsn) (name : Name8) → IsLawful s → step s (Drop v dsn name) ≡ Ok t → IsLawful t
unfolding step_on
drop_lawful s t v dsn name h done = step_lawful s t (Drop v dsn name) (λ volume w. drops dsn name volume w) h done
