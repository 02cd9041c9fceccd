-- The directories of data sets, and their entries one by one.
use Rattle.std.proofs.Common.{◌≡◌, ℕ, zero, suc, ◌+◌, ◌*◌, ◌^◌, ◌<◌, ◌≤◌, Bool, true, false, not, cond, List, [], ◌∷◌, ◌++◌, length, map, refl, sym, ◌∙◌, ap, subst, arith, ◌⊎◌, ⊎_elim}
use Rattle.std.proofs.lemmas.Bool.Decides.{leb_tells}
use Rattle.std.specs.Prelude.{if◌then◌else◌, nat_le, Option, Some, None, option_map, option_and_then, drop, find, slice_get, Result, Ok, Err}
use Rattle.std.specs.List.{AllByRecursion}
use Rattle.std.specs.Option.{option_map_or}
use Rattle.chain_spec.specs.Cut.{needed_from}
use Rattle.ebcdic_names.specs.declared.names.Dsn.{Dsn}
use Rattle.vol_model.specs.declared.answers.Kind.{Kind}
use Rattle.vol_model.specs.declared.answers.Kind.TheVariants as kinds
use Rattle.vol_model.specs.declared.answers.SetInfo.{SetInfo}
use Rattle.vol_model.specs.declared.contents.Body.{Body}
use Rattle.vol_model.specs.declared.contents.Body.TheVariants as bodies
use Rattle.vol_model.specs.declared.contents.DataSet.{DataSet}
use Rattle.vol_model.specs.declared.contents.Entry.{Entry}
use Rattle.vol_model.specs.declared.contents.Shelf.{Shelf}
use Rattle.vol_model.specs.declared.contents.Volume.{Volume}
use Rattle.vol_model.specs.declared.refusals.Refusal.{Refusal}
use Rattle.vol_model.specs.declared.refusals.Refusal.TheVariants.{NoSet, WrongKind, Unreadable}
use Rattle.vol_model.specs.Lawful.{IsLawful, IsLawfulBody, IsLawfulSet, IsLawfulVolume}
use Rattle.vol_model.specs.Places.{tracks_in}
use Rattle.vol_model.specs.Reading.{entries_in, kind_of, directory_size, set_info}
use Rattle.vol_model.specs.Shelf.{has_name, in_directory, is_partitioned, refuse, set_of}
use Rattle.vol_model.specs.Slots.{directory_needed, entry_size}
use Rattle.vol_model.specs.Writing.{body_on, set_on}
use Rattle.util_syntax.specs.declared.listing.Outcome.TheVariants.{Refused}
use Rattle.iehlist_util.specs.Lines.{directory_line, entry_line}
use Rattle.iehlist_util.specs.Directories.{Directory, HasEntries, PdsListing, answer_of, behind_last, blocks_in, directory_lines, directory_of, directory_on, lines_of, listed_first, pds_listing}
use Rattle.iehlist_util.proofs.SetLemmas.{lawful_at, left_at, none_left, past_end, set_at, tells_set}

-- ---- how many entries a directory has

-- the entries of blocks, the first of which is used so far, are no more than their bytes
few_from : (low used : ℕ) (es : List Entry) → low ≤ used → low ≤ 254 → low + length es ≤ 254 * needed_from entry_size 254 12 used es
few_from low used [] less most = by_test (nat_le (used + 12) 254)
  where
    by_test : (t : Bool) → low + 0 ≤ 254 * (if t then 1 else 2)
    by_test true = omega (arith, most)
    by_test false = omega (arith, most)
few_from low used (e ∷ es) less most =
    let here = few_from (low + 1) (used + entry_size e) es in
    let next = few_from 1 (entry_size e) es in
    ⊎_elim (fits here) (behind next) (leb_tells (used + entry_size e) 254)
  where
    fits : (low + 1 ≤ used + entry_size e → low + 1 ≤ 254 → low + 1 + length es ≤ 254 * needed_from entry_size 254 12 (used + entry_size e) es) → (nat_le (used + entry_size e) 254 ≡ true) × (used + entry_size e ≤ 254)
        → low + suc (length es) ≤ 254 * needed_from entry_size 254 12 used (e ∷ es)
    fits here is =
        let rest = here (omega (arith, less)) (omega (arith, less, is.1)) in
        rw is.0 (omega (arith, rest))

    behind : (1 ≤ entry_size e → 1 ≤ 254 → 1 + length es ≤ 254 * needed_from entry_size 254 12 (entry_size e) es) → (nat_le (used + entry_size e) 254 ≡ false) × (254 < used + entry_size e)
        → low + suc (length es) ≤ 254 * needed_from entry_size 254 12 used (e ∷ es)
    behind next is =
        let rest = next (omega arith) (omega arith) in
        rw is.0 (omega (arith, rest, most))

few_needed : (es : List Entry) (dir : ℕ) → directory_needed es ≤ dir → dir < 2 ^ 24 → length es < 2 ^ 32
unfolding directory_needed
few_needed es dir room few = omega (arith, few_from 0 0 es (omega arith) (omega arith), room, few)

none_in : (es : List Entry) → entries_in bodies.Other ≡ Ok es → length es < 2 ^ 32
none_in [] is = omega arith
none_in (e ∷ es) is = let never : ⊥ = cc in absurd never

few_in : (tracks : ℕ) (body : Body) (es : List Entry) → IsLawfulBody tracks body → entries_in body ≡ Ok es → length es < 2 ^ 32
few_in tracks (bodies.Part dir end entries bs) es h is = let same : entries ≡ es = cc in subst (λ (l : List Entry). length l < 2 ^ 32) same (few_needed entries dir h.room h.few)
few_in tracks (bodies.Unreadable track) es h is = let never : ⊥ = cc in absurd never
few_in tracks (bodies.Seq bs) es h is = none_in es is
few_in tracks bodies.Catalog es h is = none_in es is
few_in tracks bodies.Other es h is = none_in es is

set_found : (P : DataSet → Type 0) (name : List ℕ) (sets : List DataSet) (x : DataSet) → AllByRecursion P sets → find (has_name name) sets ≡ Some x → P x
set_found P name [] x all is = let never : ⊥ = cc in absurd never
set_found P name (y ∷ ys) x all is = by_test (has_name name y) is (set_found P name ys x all.1)
  where
    by_test : (t : Bool) → cond t (Some y) (find (has_name name) ys) ≡ Some x → (find (has_name name) ys ≡ Some x → P x) → P x
    by_test true is later = let same : y ≡ x = cc in subst P same all.0
    by_test false is later = later is

-- a directory has fewer than 2^32 entries
pub few_entries : (shelf : Shelf) (v : ℕ) (name : List ℕ) (es : List Entry) → IsLawful shelf → HasEntries shelf v name es → length es < 2 ^ 32
unfolding body_on set_on
few_entries shelf v name es lawful = by_volume (slice_get shelf.volumes v) refl
  where
    by_set : (volume : Volume) → IsLawfulVolume volume → (o : Option DataSet) → set_of name volume ≡ o → entries_in (option_map_or (λ (x : DataSet). x.body) o bodies.Other) ≡ Ok es → length es < 2 ^ 32
    by_set volume h None at is = none_in es is
    by_set volume h (Some x) at is = let set = set_found (IsLawfulSet volume.geometry) name volume.sets x h.sets at in few_in (tracks_in x.extents) x.body es set.body is

    by_volume : (o : Option Volume) → slice_get shelf.volumes v ≡ o → entries_in (option_map_or (λ (x : DataSet). x.body) (option_and_then (set_of name) o) bodies.Other) ≡ Ok es → length es < 2 ^ 32
    by_volume None at is = none_in es is
    by_volume (Some volume) at is = by_set volume (lawful_at shelf v volume lawful at) (set_of name volume) refl is

-- after the last entry there is none
pub all_counted : (es : List Entry) (k : ℕ) → slice_get es k ≡ None → k ≤ length es → k ≡ length es
all_counted es k none most = omega (arith, past_end es k none, most)

-- up to an entry that is there, and with it, there are no more
pub one_more : (es : List Entry) (k : ℕ) (e : Entry) → Some e ≡ slice_get es k → k + 1 ≤ length es
one_more [] k e is = let never : ⊥ = cc in absurd never
one_more (x ∷ es) zero e is = omega arith
one_more (x ∷ es) (suc k) e is = omega (arith, one_more es k e is)

-- ---- the directory of a set

-- that of a body that is listed
by_body : (body : Body) (d : Directory) → in_directory body (λ dir entries. Ok (record { blocks = dir; entries = entries })) ≡ Ok d → entries_in body ≡ Ok d.entries
by_body (bodies.Part dir end entries bs) d is = ap entries_of is
  where
    entries_of : Result Directory Refusal → Result (List Entry) ℕ
    entries_of (Ok d) = Ok d.entries
    entries_of (Err r) = Ok []
by_body (bodies.Unreadable track) d is = let never : ⊥ = cc in absurd never
by_body (bodies.Seq bs) d is = let never : ⊥ = cc in absurd never
by_body bodies.Catalog d is = let never : ⊥ = cc in absurd never
by_body bodies.Other d is = let never : ⊥ = cc in absurd never

-- its entries are those of the set
pub has_entries : (shelf : Shelf) (v : ℕ) (name : List ℕ) (d : Directory) → directory_on shelf v name ≡ Ok d → HasEntries shelf v name d.entries
unfolding directory_of body_on
has_entries shelf v name d = by_set (set_on shelf v name)
  where
    by_kind : (t : Bool) (body : Body) → refuse t WrongKind (in_directory body (λ dir entries. Ok (record { blocks = dir; entries = entries }))) ≡ Ok d → entries_in body ≡ Ok d.entries
    by_kind true body is = let never : ⊥ = cc in absurd never
    by_kind false body is = by_body body d is

    by_set : (o : Option DataSet) → directory_of name o ≡ Ok d → entries_in (option_map_or (λ (x : DataSet). x.body) o bodies.Other) ≡ Ok d.entries
    by_set None is = let never : ⊥ = cc in absurd never
    by_set (Some x) is = by_kind (not (is_partitioned name x.attr)) x.body is

-- how many blocks a directory has, or why it isn't listed, by the kind of its set
abbrev pub blocks_by : Kind → ℕ → Result ℕ Refusal
blocks_by kinds.Part dir = Ok dir
blocks_by (kinds.Unreadable track) dir = Err (Unreadable track)
blocks_by kinds.Seq dir = Err WrongKind
blocks_by kinds.Catalog dir = Err WrongKind
blocks_by kinds.Other dir = Err WrongKind

kind_tells : (body : Body) → blocks_by (kind_of body) (directory_size body) ≡ blocks_in (in_directory body (λ dir entries. Ok (record { blocks = dir; entries = entries })))
kind_tells (bodies.Part dir end entries bs) = refl
kind_tells (bodies.Unreadable track) = refl
kind_tells (bodies.Seq bs) = refl
kind_tells bodies.Catalog = refl
kind_tells bodies.Other = refl

module _ (name : List ℕ) (x : DataSet) (info : SetInfo) (told : info ≡ set_info x) where
  -- a set that isn't partitioned isn't listed
  pub no_directory : is_partitioned name info.attr ≡ false → Err WrongKind ≡ blocks_in (directory_of name (Some x))
  unfolding directory_of set_info
  no_directory is =
      let kind : is_partitioned name x.attr ≡ false = ap (λ (i : SetInfo). is_partitioned name i.attr) (sym told) ∙ is in
      ap (λ (t : Bool). blocks_in (refuse (not t) WrongKind (in_directory x.body (λ dir entries. Ok (record { blocks = dir; entries = entries }))))) (sym kind)

  -- and else it is by its kind
  pub by_its_kind : is_partitioned name info.attr ≡ true → blocks_by info.kind info.dir ≡ blocks_in (directory_of name (Some x))
  unfolding directory_of set_info
  by_its_kind is =
      let kind : is_partitioned name x.attr ≡ true = ap (λ (i : SetInfo). is_partitioned name i.attr) (sym told) ∙ is in
      ap (λ (i : SetInfo). blocks_by i.kind i.dir) told ∙ kind_tells x.body
      ∙ ap (λ (t : Bool). blocks_in (refuse (not t) WrongKind (in_directory x.body (λ dir entries. Ok (record { blocks = dir; entries = entries }))))) (sym kind)

-- neither is one of another kind
pub of_other_kind : (kind : Kind) (dir : ℕ) → (kind ≡ kinds.Seq) ⊎ ((kind ≡ kinds.Catalog) ⊎ (kind ≡ kinds.Other)) → Err WrongKind ≡ blocks_by kind dir
of_other_kind kind dir is =
    ⊎_elim (λ (k : kind ≡ kinds.Seq). ap (λ (o : Kind). blocks_by o dir) (sym k))
    (λ (more : (kind ≡ kinds.Catalog) ⊎ (kind ≡ kinds.Other)). ⊎_elim (λ (k : kind ≡ kinds.Catalog). ap (λ (o : Kind). blocks_by o dir) (sym k)) (λ (k : kind ≡ kinds.Other). ap (λ (o : Kind). blocks_by o dir) (sym k)) more) is

-- a set that isn't there has no directory
pub missing_set : (name : List ℕ) (o : Option DataSet) → o ≡ None → directory_of name o ≡ Err NoSet
unfolding directory_of
missing_set name o is = ap (directory_of name) is

-- Of a set whose blocks are told the directory is listed.
pub record ListsDirectory (r : Result Directory Refusal) (blocks : ℕ) : Type 0 where
  pub d : Directory
  pub is : r ≡ Ok d
  pub blocks_are : blocks ≡ d.blocks

pub lists_directory : (r : Result Directory Refusal) (blocks : ℕ) → Ok blocks ≡ blocks_in r → ListsDirectory r blocks
lists_directory (Ok d) blocks told = let same : blocks ≡ d.blocks = cc in record { d = d; is = refl; blocks_are = same }
lists_directory (Err q) blocks told = let never : ⊥ = cc in absurd never

-- The directory of a set that is listed, on the shelf where the set was told and on one that is the same.
pub record ListsOn (old shelf : Shelf) (v : ℕ) (name : List ℕ) (blocks : ℕ) : Type 0 where
  pub d : Directory
  pub told : directory_on old v name ≡ Ok d
  pub is : directory_on shelf v name ≡ Ok d
  pub blocks_are : blocks ≡ d.blocks

pub lists_on : (old shelf : Shelf) (v : ℕ) (name : List ℕ) (info : SetInfo) (blocks : ℕ) → Some info ≡ option_map set_info (set_on old v name) → ((x : DataSet) → info ≡ set_info x → Ok blocks ≡ blocks_in (directory_of name (Some x))) → shelf ≡ old
    → ListsOn old shelf v name blocks
lists_on old shelf v name info blocks told lists same =
    let found = tells_set (set_on old v name) info told in
    let one = lists_directory (directory_of name (Some found.x)) blocks (lists found.x found.info_is) in
    let on : directory_on old v name ≡ Ok one.d = ap (directory_of name) found.is ∙ one.is in
    record { d = one.d; told = on; is = ap (λ (s : Shelf). directory_on s v name) same ∙ on; blocks_are = one.blocks_are }

pub refuses_directory : (r : Result Directory Refusal) (q : Refusal) → Err q ≡ blocks_in r → r ≡ Err q
refuses_directory (Ok d) q told = let never : ⊥ = cc in absurd never
refuses_directory (Err p) q told = let same : p ≡ q = cc in ap (λ (x : Refusal). Err x) same

-- the line of a directory, and those of its entries
pub directory_parts : (name : List ℕ) (d : Directory) (blocks members : ℕ) → blocks ≡ d.blocks → members ≡ length d.entries → directory_lines name d ≡ (directory_line name blocks members ∷ []) ++ map entry_line d.entries
unfolding directory_lines
directory_parts name d blocks members blocks_are members_are =
    ap (λ (n : ℕ). directory_line name n (length d.entries) ∷ map entry_line d.entries) (sym blocks_are) ∙ ap (λ (n : ℕ). directory_line name blocks n ∷ map entry_line d.entries) (sym members_are)

-- ---- the lines of entries

-- the line of the entry at a place, and of those after it
pub next_entry : (es : List Entry) (k : ℕ) (e : Entry) → Some e ≡ slice_get es k → map entry_line (drop k es) ≡ (entry_line e ∷ []) ++ map entry_line (drop (k + 1) es)
next_entry es k e is = ap (map entry_line) (left_at es k e (sym is))

-- after the last there is none
pub no_entry : (es : List Entry) (k : ℕ) → None ≡ slice_get es k → map entry_line (drop k es) ≡ []
no_entry es k is = ap (map entry_line) (none_left es k (past_end es k (sym is)))

pub entries_end : (es : List Entry) (k : ℕ) → k ≡ length es → map entry_line (drop k es) ≡ []
entries_end es k is = ap (map entry_line) (none_left es k (omega (arith, is)))

-- ---- directories by the names of their sets

-- what is listed after a set, if its directory is
abbrev pub others_of : Volume → Dsn → List Dsn → PdsListing
others_of volume dsn [] = behind_last dsn
others_of volume dsn (next ∷ dsns) = pds_listing volume next dsns

-- the lines after a set: none where it is refused
abbrev pub lines_behind : Result Directory Refusal → PdsListing → List (List ℕ)
lines_behind (Ok d) others = others.lines
lines_behind (Err r) others = []

pub behind_refused : (r : Result Directory Refusal) (q : Refusal) (others : PdsListing) → Err q ≡ answer_of r → lines_behind r others ≡ []
behind_refused (Ok d) q others is = let never : ⊥ = cc in absurd never
behind_refused (Err p) q others is = refl

pub behind_listed : (r : Result Directory Refusal) (u : Unit {0}) (others : PdsListing) → Ok u ≡ answer_of r → lines_behind r others ≡ others.lines
behind_listed (Ok d) u others is = refl
behind_listed (Err p) u others is = let never : ⊥ = cc in absurd never

first_lines : (dsn : Dsn) (r : Result Directory Refusal) (others : PdsListing) → (listed_first dsn r others).lines ≡ lines_of dsn.bytes r ++ lines_behind r others
first_lines dsn (Ok d) others = refl
first_lines dsn (Err q) others = refl

first_refused : (dsn : Dsn) (r : Result Directory Refusal) (q : Refusal) (others : PdsListing) → Err q ≡ answer_of r → (listed_first dsn r others).answer ≡ record { dsn = dsn; outcome = Refused q }
first_refused dsn (Ok d) q others is = let never : ⊥ = cc in absurd never
first_refused dsn (Err p) q others is = let same : p ≡ q = cc in ap (λ (x : Refusal). record { dsn = dsn; outcome = Refused x }) same

first_listed : (dsn : Dsn) (r : Result Directory Refusal) (u : Unit {0}) (others : PdsListing) → Ok u ≡ answer_of r → (listed_first dsn r others).answer ≡ others.answer
first_listed dsn (Ok d) u others is = refl
first_listed dsn (Err p) u others is = let never : ⊥ = cc in absurd never

by_rest : (volume : Volume) (dsn : Dsn) (dsns : List Dsn) → pds_listing volume dsn dsns ≡ listed_first dsn (directory_of dsn.bytes (set_of dsn.bytes volume)) (others_of volume dsn dsns)
unfolding pds_listing
by_rest volume dsn [] = refl
by_rest volume dsn (next ∷ dsns) = refl

module _ (shelf : Shelf) (v : ℕ) (volume : Volume) (at : slice_get shelf.volumes v ≡ Some volume) (dsn : Dsn) (dsns : List Dsn) where
  listing_here : pds_listing volume dsn dsns ≡ listed_first dsn (directory_on shelf v dsn.bytes) (others_of volume dsn dsns)
  listing_here = by_rest volume dsn dsns ∙ ap (λ (o : Option DataSet). listed_first dsn (directory_of dsn.bytes o) (others_of volume dsn dsns)) (sym (set_at shelf v volume at dsn.bytes))

  -- the lines of a set, and of those after it
  pub listing_lines : (pds_listing volume dsn dsns).lines ≡ lines_of dsn.bytes (directory_on shelf v dsn.bytes) ++ lines_behind (directory_on shelf v dsn.bytes) (others_of volume dsn dsns)
  listing_lines = ap (λ (l : PdsListing). l.lines) listing_here ∙ first_lines dsn (directory_on shelf v dsn.bytes) (others_of volume dsn dsns)

  -- the answer where it is refused
  pub listing_refused : (q : Refusal) → Err q ≡ answer_of (directory_on shelf v dsn.bytes) → (pds_listing volume dsn dsns).answer ≡ record { dsn = dsn; outcome = Refused q }
  listing_refused q is = ap (λ (l : PdsListing). l.answer) listing_here ∙ first_refused dsn (directory_on shelf v dsn.bytes) q (others_of volume dsn dsns) is

  -- and where it is listed
  pub listing_listed : (u : Unit {0}) → Ok u ≡ answer_of (directory_on shelf v dsn.bytes) → (pds_listing volume dsn dsns).answer ≡ (others_of volume dsn dsns).answer
  listing_listed u is = ap (λ (l : PdsListing). l.answer) listing_here ∙ first_listed dsn (directory_on shelf v dsn.bytes) u (others_of volume dsn dsns) is
