-- What a read of a lawful shelf finds.
use Rattle.std.proofs.Common.{◌≡◌, ℕ, zero, suc, Bool, true, false, not, List, [], ◌∷◌, filter, refl, sym, ◌∙◌, ap, subst, cond}
use Rattle.std.specs.Prelude.{Option, Some, None, Result, Ok, Err, IfOk, IfSome, IsTrue, find, slice_get, option_and_then}
use Rattle.std.specs.List.{AllByRecursion}
use Rattle.ckd_image.specs.declared.header.Geometry.{Geometry}
use Rattle.vol_model.specs.declared.answers.CheckErr.{CheckErr}
use Rattle.vol_model.specs.declared.answers.ReadErr.{ReadErr}
use Rattle.vol_model.specs.declared.answers.ReadErr.TheVariants.{Unreadable, Memory, Device}
use Rattle.vol_model.specs.declared.contents.Block.{Block}
use Rattle.vol_model.specs.declared.contents.Body.{Body}
use Rattle.vol_model.specs.declared.contents.Body.TheVariants as bodies
use Rattle.vol_model.specs.declared.contents.DataSet.{DataSet}
use Rattle.vol_model.specs.declared.contents.Entry.{Entry}
use Rattle.vol_model.specs.declared.contents.Place.{Place}
use Rattle.vol_model.specs.declared.contents.Shelf.{Shelf}
use Rattle.vol_model.specs.declared.contents.Volume.{Volume}
use Rattle.vol_model.specs.Lawful.{IsLawful, IsLawfulBlock, IsLawfulBody, IsLawfulEntry, IsLawfulSet, IsLawfulVolume}
use Rattle.vol_model.specs.Places.{is_before}
use Rattle.vol_model.specs.Reading.{Picks, ReadsInto, entries_in, first, readable}
use Rattle.vol_model.specs.Shelf.{blocks_of, has_name, set_of}
use Rattle.vol_model.specs.Writing.{set_on}
use Rattle.map_machine.specs.Reads.{Copied, body_in}

module _ {X : Type 0} (p : X → Bool) where
  by_test : (x : X) (xs : List X) (b : Bool) → p x ≡ b → first (filter p xs) ≡ find p xs → first (cond b (x ∷ filter p xs) (filter p xs)) ≡ cond b (Some x) (find p xs)
  by_test x xs true is rest = refl
  by_test x xs false is rest = rest

  -- the first that passes a test
  pub first_passed : (xs : List X) → first (filter p xs) ≡ find p xs
  first_passed [] = refl
  first_passed (x ∷ xs) = by_test x xs (p x) refl (first_passed xs)

  cut : (l : List X) (x : X) → first l ≡ Some x → (rest : List X) × (l ≡ x ∷ rest)
  cut [] x is = cc
  cut (y ∷ l) x is = let same : y ≡ x = cc in (l, ap (λ z. z ∷ l) same)

  none : (l : List X) → first l ≡ None → l ≡ []
  none [] is = refl
  none (y ∷ l) is = cc

  pub found_cut : (xs : List X) (x : X) → Some x ≡ find p xs → (rest : List X) × (filter p xs ≡ x ∷ rest)
  found_cut xs x is = cut (filter p xs) x (first_passed xs ∙ sym is)

  pub found_none : (xs : List X) → None ≡ find p xs → filter p xs ≡ []
  found_none xs is = none (filter p xs) (first_passed xs ∙ sym is)

  by_head : (P : X → Type 0) (y : X) (xs : List X) (x : X) (b : Bool) → p y ≡ b → P y → (find p xs ≡ Some x → P x × (p x ≡ true)) → cond b (Some y) (find p xs) ≡ Some x → P x × (p x ≡ true)
  by_head P y xs x true e here rest is = let same : y ≡ x = cc in subst (λ z. P z × (p z ≡ true)) same (here, e)
  by_head P y xs x false e here rest is = rest is

  found_both : (P : X → Type 0) (xs : List X) (x : X) → AllByRecursion P xs → find p xs ≡ Some x → P x × (p x ≡ true)
  found_both P [] x all is = cc
  found_both P (y ∷ xs) x all is = by_head P y xs x (p y) refl all.0 (λ e. found_both P xs x all.1 e) is

  -- the head of those that pass a test
  pub head_both : (P : X → Type 0) (xs : List X) (x : X) (rest : List X) → AllByRecursion P xs → filter p xs ≡ x ∷ rest → P x × (p x ≡ true)
  head_both P xs x rest all is = found_both P xs x all (sym (first_passed xs) ∙ ap first is)

  pub found_all : (P : X → Type 0) (xs : List X) (x : X) → AllByRecursion P xs → find p xs ≡ Some x → P x
  found_all P xs x all is = (found_both P xs x all is).0

  pub all_unit : (xs : List X) → AllByRecursion (λ (x : X). Unit {0}) xs
  all_unit [] = tt
  all_unit (x ∷ xs) = (tt, all_unit xs)

  pub found_passes : (xs : List X) (x : X) → find p xs ≡ Some x → p x ≡ true
  found_passes xs x is = (found_both (λ (y : X). Unit {0}) xs x (all_unit xs) is).1

pub at_all : {X : Type 0} (P : X → Type 0) (xs : List X) (k : ℕ) (x : X) → AllByRecursion P xs → slice_get xs k ≡ Some x → P x
at_all P [] k x all at = cc
at_all P (y ∷ xs) zero x all at = let same : y ≡ x = cc in subst P same all.0
at_all P (y ∷ xs) (suc k) x all at = at_all P xs k x all.1 at

-- what a read picks has a property that all have that can be picked
pub picks_hold : {X L : Type 0} (P : X → Type 0) (result : Result (Option X) ReadErr) (content : Result L ℕ) (pick : L → Option X) → Picks result content pick
    → ((l : L) → content ≡ Ok l → (x : X) → pick l ≡ Some x → P x) → IfOk result (λ found. IfSome found P)
picks_hold P (Ok None) content pick picks has = tt
picks_hold P (Ok (Some x)) (Ok l) pick picks has = has l refl x (sym picks)
picks_hold P (Ok (Some x)) (Err track) pick picks has = absurd picks
picks_hold P (Err e) content pick picks has = tt

-- a volume of a lawful shelf
pub lawful_volume : (s : Shelf) (v : ℕ) (volume : Volume) → IsLawful s → slice_get s.volumes v ≡ Some volume → IsLawfulVolume volume
lawful_volume s v volume h at = at_all IsLawfulVolume s.volumes v volume h.volumes at

-- a data set of one
pub lawful_set : (s : Shelf) (v : ℕ) (name : List ℕ) (x : DataSet) → IsLawful s → set_on s v name ≡ Some x → (g : Geometry) × IsLawfulSet g x
unfolding set_on
lawful_set s v name x h is = by_volume (slice_get s.volumes v) refl is
  where
    by_volume : (o : Option Volume) → slice_get s.volumes v ≡ o → option_and_then (set_of name) o ≡ Some x → (g : Geometry) × IsLawfulSet g x
    by_volume None at is = cc
    by_volume (Some volume) at is = (volume.geometry, found_all (has_name name) (IsLawfulSet volume.geometry) volume.sets x (lawful_volume s v volume h at).sets is)

lawful_blocks : (tracks : ℕ) (body : Body) → IsLawfulBody tracks body → AllByRecursion IsLawfulBlock (blocks_of body)
lawful_blocks tracks (bodies.Seq bs) h = h.1
lawful_blocks tracks (bodies.Part dir end es bs) h = h.blocks
lawful_blocks tracks bodies.Catalog h = tt
lawful_blocks tracks bodies.Other h = tt
lawful_blocks tracks (bodies.Unreadable track) h = tt

lawful_entries : (tracks : ℕ) (body : Body) → IsLawfulBody tracks body → (es : List Entry) → entries_in body ≡ Ok es → AllByRecursion IsLawfulEntry es
lawful_entries tracks (bodies.Seq bs) h es is = let same : [] ≡ es = cc in subst (AllByRecursion IsLawfulEntry) same tt
lawful_entries tracks (bodies.Part dir end ds bs) h es is = let same : ds ≡ es = cc in subst (AllByRecursion IsLawfulEntry) same h.entries
lawful_entries tracks bodies.Catalog h es is = let same : [] ≡ es = cc in subst (AllByRecursion IsLawfulEntry) same tt
lawful_entries tracks bodies.Other h es is = let same : [] ≡ es = cc in subst (AllByRecursion IsLawfulEntry) same tt
lawful_entries tracks (bodies.Unreadable track) h es is = cc

module _ (s : Shelf) (v : ℕ) (name : List ℕ) (h : IsLawful s) where
  -- the blocks of a set
  pub blocks_found : (o : Option DataSet) → set_on s v name ≡ o → AllByRecursion IsLawfulBlock (blocks_of (body_in o))
  blocks_found None is = tt
  blocks_found (Some x) is = let set = lawful_set s v name x h is in lawful_blocks _ x.body set.1.body

  -- and its entries
  pub entries_found : (o : Option DataSet) → set_on s v name ≡ o → (es : List Entry) → entries_in (body_in o) ≡ Ok es → AllByRecursion IsLawfulEntry es
  entries_found None is es e = let same : [] ≡ es = cc in subst (AllByRecursion IsLawfulEntry) same tt
  entries_found (Some x) is es e = let set = lawful_set s v name x h is in lawful_entries _ x.body set.1.body es e

-- a copy of what is picked
pub copied_picks : {X L : Type 0} (r : Result (Option X) ReadErr) (found : Option X) (content : Result L ℕ) (l : L) (pick : L → Option X) → Copied r found → content ≡ Ok l → found ≡ pick l → Picks r content pick
copied_picks {X = X} {L = L} r found content l pick copied is same = subst (λ q. Picks r q pick) (sym is) (by_result r copied)
  where
    by_result : (r : Result (Option X) ReadErr) → Copied r found → Picks r (Ok l) pick
    by_result (Ok x) copied = copied ∙ same
    by_result (Err (Unreadable track)) copied = absurd copied
    by_result (Err Memory) copied = tt
    by_result (Err Device) copied = absurd copied

-- the same is picked
pub picks_same : {X L : Type 0} (r : Result (Option X) ReadErr) (content : Result L ℕ) (pick other : L → Option X) → ((l : L) → pick l ≡ other l) → Picks r content pick → Picks r content other
picks_same (Ok x) (Ok l) pick other same picks = picks ∙ same l
picks_same (Ok x) (Err track) pick other same picks = picks
picks_same (Err (Unreadable track)) content pick other same picks = picks
picks_same (Err Memory) content pick other same picks = tt
picks_same (Err Device) content pick other same picks = tt

pub not_true : (b : Bool) → not b ≡ true → b ≡ false
not_true true e = cc
not_true false e = refl

-- the blocks of a body that can be read
pub readable_found : (body : Body) (bs : List Block) → AllByRecursion IsLawfulBlock (blocks_of body) → readable body ≡ Ok bs → AllByRecursion IsLawfulBlock bs
readable_found (bodies.Seq old) bs all is = let same : old ≡ bs = cc in subst (AllByRecursion IsLawfulBlock) same all
readable_found (bodies.Part dir end es old) bs all is = let same : old ≡ bs = cc in subst (AllByRecursion IsLawfulBlock) same all
readable_found bodies.Catalog bs all is = let same : [] ≡ bs = cc in subst (AllByRecursion IsLawfulBlock) same tt
readable_found bodies.Other bs all is = let same : [] ≡ bs = cc in subst (AllByRecursion IsLawfulBlock) same tt
readable_found (bodies.Unreadable track) bs all is = cc

-- a block that was read stands at or after the place, and is lawful
pub reads_both : (r : Result Bool CheckErr) (body : Body) (from : Place) (block : Block) → AllByRecursion IsLawfulBlock (blocks_of body) → ReadsInto r (readable body) from block
    → IfOk r (λ more. IsTrue more → IsLawfulBlock block × (is_before block.place from ≡ false))
reads_both (Ok true) body from block all reads =
    λ told.
    let bs = reads.0 in
    let cut = reads.2 in
    let both = head_both (λ (b : Block). not (is_before b.place from)) IsLawfulBlock bs block cut.0 (readable_found body bs all reads.1) cut.1 in
    (both.0, not_true (is_before block.place from) both.1)
reads_both (Ok false) body from block all reads = λ told. absurd (cc told)
reads_both (Err e) body from block all reads = tt

pub and_first : (r : Result Bool CheckErr) (A B : Type 0) → IfOk r (λ more. IsTrue more → A × B) → IfOk r (λ more. IsTrue more → A)
and_first (Ok more) A B both = λ told. (both told).0
and_first (Err e) A B both = tt

pub and_second : (r : Result Bool CheckErr) (A B : Type 0) → IfOk r (λ more. IsTrue more → A × B) → IfOk r (λ more. IsTrue more → B)
and_second (Ok more) A B both = λ told. (both told).1
and_second (Err e) A B both = tt
