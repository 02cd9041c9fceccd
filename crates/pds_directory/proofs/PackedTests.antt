-- The tests whether directories are packed tell that.
use Rattle.std.proofs.Common.{◌≡◌, ◌+◌, ◌≤◌, ◌<◌, ℕ, zero, suc, Bool, true, false, cond, ◌&&◌, List, [], ◌∷◌, ◌++◌, length, map, Option, Some, None, refl, sym, ap, ap₂, ◌∙◌, subst, arith}
use Rattle.std.specs.Prelude.{nat_le, nat_lt, Ok}
use Rattle.std.specs.List.{list_all}
use Rattle.std.specs.Option.{option_map, option_map_or}
use Rattle.std.proofs.lemmas.Bool.{and_parts}
use Rattle.std.proofs.lemmas.Bool.Decides.{nat_tests}
use Rattle.chain_spec.specs.Cut.{AllFit, IsCut, IsFull, first_size, total}
use Rattle.chain_spec.specs.Kept.{RisesFrom, joined, kept}
use Rattle.chain_spec.specs.Store.{Block as Stored, stored}
use Rattle.chain_spec.proofs.KeptLemmas.{kept_all, kept_rises}
use Rattle.ckd_image.specs.declared.header.Geometry.{Geometry}
use Rattle.vol_model.specs.declared.contents.Block.{Block}
use Rattle.vol_model.specs.declared.contents.Body.{Body}
use Rattle.vol_model.specs.declared.contents.Body.TheVariants.{Seq, Part, Catalog, Other, Unreadable}
use Rattle.vol_model.specs.declared.contents.DataSet.{DataSet}
use Rattle.vol_model.specs.declared.contents.Entry.{Entry}
use Rattle.vol_model.specs.declared.contents.Run.{Run}
use Rattle.vol_model.specs.declared.contents.Volume.{Volume}
use Rattle.vol_model.specs.Slots.{entry_size}
use Rattle.pack_spec.specs.Blocks.{data_tracks, owned_tracks}
use Rattle.pack_spec.specs.Directories.{name_number, rise_from, stored_in}
use Rattle.pack_spec.specs.Settled.{ArePacked, HasPacked, HavePacked, IsPacked, directory_upto}
use Rattle.pack_spec.specs.Volume.{volume_of}
use Rattle.pds_directory.specs.Packed.{all_fit, are_full, are_packed, has_packed, have_packed_if, is_cut, is_packed, used_blocks}

-- ---- numbers

low_of : (m n : ℕ) → nat_le m n ≡ true → m ≤ n
low_of m n is = grind (arith, nat_tests)

low_is : (m n : ℕ) → m ≤ n → nat_le m n ≡ true
low_is m n low = grind (arith, nat_tests)

less_of : (m n : ℕ) → nat_lt m n ≡ true → m < n
less_of m n is = grind (arith, nat_tests)

less_is : (m n : ℕ) → m < n → nat_lt m n ≡ true
less_is m n low = grind (arith, nat_tests)

-- ---- the blocks of a cut

rises_of : (t : ℕ) (es : List Entry) → rise_from t es ≡ true → RisesFrom name_number t es
rises_of t [] is = tt
rises_of t (e ∷ es) is =
    let parts = and_parts (nat_le t (name_number e)) (rise_from (suc (name_number e)) es) is in
    (low_of t (name_number e) parts.0, rises_of (suc (name_number e)) es parts.1)

rises_are : (t : ℕ) (es : List Entry) → RisesFrom name_number t es → rise_from t es ≡ true
rises_are t [] rises = refl
rises_are t (e ∷ es) rises = ap₂ (λ (a b : Bool). a && b) (low_is t (name_number e) rises.0) (rises_are (suc (name_number e)) es rises.1)

fit_of : (bs : List (List Entry)) → all_fit bs ≡ true → AllFit entry_size 254 12 bs
fit_of [] is = cc
fit_of (b ∷ []) is = low_of (total entry_size b + 12) 254 is
fit_of (b ∷ c ∷ cs) is =
    let parts = and_parts (nat_le (total entry_size b) 254) (all_fit (c ∷ cs)) is in
    (low_of (total entry_size b) 254 parts.0, fit_of (c ∷ cs) parts.1)

pub fit_are : (bs : List (List Entry)) → AllFit entry_size 254 12 bs → all_fit bs ≡ true
fit_are [] fit = absurd fit
fit_are (b ∷ []) fit = low_is (total entry_size b + 12) 254 fit
fit_are (b ∷ c ∷ cs) fit = ap₂ (λ (x y : Bool). x && y) (low_is (total entry_size b) 254 fit.0) (fit_are (c ∷ cs) fit.1)

full_of : (bs : List (List Entry)) → are_full bs ≡ true → IsFull entry_size 254 12 bs
full_of [] is = tt
full_of (b ∷ []) is = tt
full_of (b ∷ c ∷ cs) is =
    let parts = and_parts (nat_lt 254 (total entry_size b + first_size entry_size 12 c cs)) (are_full (c ∷ cs)) is in
    (less_of 254 (total entry_size b + first_size entry_size 12 c cs) parts.0, full_of (c ∷ cs) parts.1)

full_are : (bs : List (List Entry)) → IsFull entry_size 254 12 bs → are_full bs ≡ true
full_are [] full = refl
full_are (b ∷ []) full = refl
full_are (b ∷ c ∷ cs) full = ap₂ (λ (x y : Bool). x && y) (less_is 254 (total entry_size b + first_size entry_size 12 c cs) full.0) (full_are (c ∷ cs) full.1)

pub cut_of : (bs : List (List Entry)) → is_cut bs ≡ true → IsCut entry_size 254 12 bs (kept name_number (joined bs))
cut_of bs is =
    let parts = and_parts (rise_from 0 (joined bs)) (all_fit bs && are_full bs) is in
    let sizes = and_parts (all_fit bs) (are_full bs) parts.1 in
    record {
      holds = sym (kept_all name_number 0 0 (joined bs) (omega arith) (rises_of 0 (joined bs) parts.0));
      fits = fit_of bs sizes.0;
      full = full_of bs sizes.1;
    }

pub cut_is : (bs : List (List Entry)) → IsCut entry_size 254 12 bs (kept name_number (joined bs)) → is_cut bs ≡ true
cut_is bs cut =
    let rises : RisesFrom name_number 0 (joined bs) = subst (RisesFrom name_number 0) (sym cut.holds) (kept_rises name_number 0 (joined bs)) in
    ap₂ (λ (x y : Bool). x && y) (rises_are 0 (joined bs) rises) (ap₂ (λ (x y : Bool). x && y) (fit_are bs cut.fits) (full_are bs cut.full))

-- ---- the blocks up to the end of a directory

pub used_stored : (bs : List (List Entry)) (behind : List (Option (Stored Entry))) → AllFit entry_size 254 12 bs → used_blocks (stored bs ++ behind) ≡ Some bs
used_stored [] behind fit = absurd fit
used_stored (b ∷ []) behind fit = refl
used_stored (b ∷ c ∷ cs) behind fit = ap (option_map (λ (ds : List (List Entry)). b ∷ ds)) (used_stored (c ∷ cs) behind fit.1)

-- A store begins with these blocks, the last of which ends the directory.
record IsUpToEnd (store : List (Option (Stored Entry))) (bs : List (List Entry)) : Type 0 where
  pub some : 1 ≤ length bs
  pub behind : List (Option (Stored Entry))
  pub is : store ≡ stored bs ++ behind

used_of : (store : List (Option (Stored Entry))) (bs : List (List Entry)) → used_blocks store ≡ Some bs → IsUpToEnd store bs
used_of [] bs is = cc
used_of (None ∷ store) bs is = cc
used_of (Some s ∷ store) bs is = by_end s.ends (λ ds u. used_of store ds u) refl is
  where
    one : (b : Bool) → s.ends ≡ b → Some s ≡ Some (record { entries = s.entries; ends = b })
    one b e = ap (λ (c : Bool). Some (record { entries = s.entries; ends = c })) e

    more : (ds : List (List Entry)) → s.ends ≡ false → IsUpToEnd store ds → IsUpToEnd (Some s ∷ store) (s.entries ∷ ds)
    more [] e rest = absurd (omega (arith, rest.some))
    more (d ∷ ds) e rest = record {
      some = omega arith;
      behind = rest.behind;
      is = ap₂ (λ (o : Option (Stored Entry)) (os : List (Option (Stored Entry))). o ∷ os) (one false e) rest.is;
    }

    by : (o : Option (List (List Entry))) → ((ds : List (List Entry)) → o ≡ Some ds → IsUpToEnd store ds) → s.ends ≡ false → option_map (λ (ds : List (List Entry)). s.entries ∷ ds) o ≡ Some bs → IsUpToEnd (Some s ∷ store) bs
    by None later e h = cc
    by (Some ds) later e h = let same : s.entries ∷ ds ≡ bs = cc in subst (IsUpToEnd (Some s ∷ store)) same (more ds e (later ds refl))

    by_end : (b : Bool) → ((ds : List (List Entry)) → used_blocks store ≡ Some ds → IsUpToEnd store ds) → s.ends ≡ b → cond b (Some (s.entries ∷ [])) (option_map (λ (ds : List (List Entry)). s.entries ∷ ds) (used_blocks store)) ≡ Some bs → IsUpToEnd (Some s ∷ store) bs
    by_end true later e h =
        let same : s.entries ∷ [] ≡ bs = cc in
        subst (IsUpToEnd (Some s ∷ store)) same (record { some = omega arith; behind = store; is = ap (λ (o : Option (Stored Entry)). o ∷ store) (one true e) })
    by_end false later e h = by (used_blocks store) later e h

-- ---- a directory

pub packed_of : (d : List Block) → is_packed d ≡ true → IsPacked d
unfolding is_packed
packed_of d is = by (used_blocks (map stored_in d)) refl is
  where
    by : (o : Option (List (List Entry))) → used_blocks (map stored_in d) ≡ o → option_map_or is_cut o false ≡ true → IsPacked d
    by None u h = cc
    by (Some bs) u h =
        let found = used_of (map stored_in d) bs u in
        record { blocks = bs; behind = found.behind; store = found.is; cut = cut_of bs h }

pub packed_is : (d : List Block) → IsPacked d → is_packed d ≡ true
unfolding is_packed
packed_is d packed =
    ap (λ (s : List (Option (Stored Entry))). option_map_or is_cut (used_blocks s) false) packed.store
    ∙ ap (λ (o : Option (List (List Entry))). option_map_or is_cut o false) (used_stored packed.blocks packed.behind packed.cut.fits)
    ∙ cut_is packed.blocks packed.cut

-- ---- that of a data set

pub has_packed_of : (g : Geometry) (tracks : List (List ℕ)) (extents : List Run) (body : Body) → has_packed g tracks extents body ≡ true → HasPacked g tracks extents body
has_packed_of g tracks extents (Seq blocks) is = tt
has_packed_of g tracks extents (Part dir end entries blocks) is = packed_of (directory_upto g tracks (owned_tracks extents) end) is
has_packed_of g tracks extents Catalog is = tt
has_packed_of g tracks extents Other is = tt
has_packed_of g tracks extents (Unreadable k) is = tt

pub has_packed_is : (g : Geometry) (tracks : List (List ℕ)) (extents : List Run) (body : Body) → HasPacked g tracks extents body → has_packed g tracks extents body ≡ true
has_packed_is g tracks extents (Seq blocks) packed = refl
has_packed_is g tracks extents (Part dir end entries blocks) packed = packed_is (directory_upto g tracks (owned_tracks extents) end) packed
has_packed_is g tracks extents Catalog packed = refl
has_packed_is g tracks extents Other packed = refl
has_packed_is g tracks extents (Unreadable k) packed = refl

-- ---- those of an image

module _ (g : Geometry) (tracks : List (List ℕ)) where
  abbrev test : DataSet → Bool
  test d = has_packed g tracks d.extents d.body

  pub have_packed_of : (sets : List DataSet) → list_all test sets ≡ true → HavePacked g tracks sets
  have_packed_of [] is k d there = cc
  have_packed_of (x ∷ xs) is zero d there =
      let parts = and_parts (test x) (list_all test xs) is in
      let same : x ≡ d = cc in
      subst (λ (y : DataSet). HasPacked g tracks y.extents y.body) same (has_packed_of g tracks x.extents x.body parts.0)
  have_packed_of (x ∷ xs) is (suc k) d there = have_packed_of xs (and_parts (test x) (list_all test xs) is).1 k d there

  pub have_packed_is : (sets : List DataSet) → HavePacked g tracks sets → list_all test sets ≡ true
  have_packed_is [] packed = refl
  have_packed_is (x ∷ xs) packed =
      ap₂ (λ (a b : Bool). a && b) (has_packed_is g tracks x.extents x.body (packed zero x refl)) (have_packed_is xs (λ k d there. packed (suc k) d there))

module _ (image : List ℕ) (w : Volume) (stands : volume_of image ≡ Ok w) where
  -- The test of an image that stands for a volume tells whether its directories are packed.
  pub are_packed_of : are_packed image ≡ true → ArePacked image w
  unfolding are_packed
  are_packed_of is = have_packed_of w.geometry (data_tracks image w.geometry w.vtoc) w.sets (sym (ap (have_packed_if image) stands) ∙ is)

  pub are_packed_is : ArePacked image w → are_packed image ≡ true
  unfolding are_packed
  are_packed_is packed = ap (have_packed_if image) stands ∙ have_packed_is w.geometry (data_tracks image w.geometry w.vtoc) w.sets packed
