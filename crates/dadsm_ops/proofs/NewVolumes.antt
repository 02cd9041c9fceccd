-- The volume with a new data set: what it breaks, what of it is free, and the slots that it needs.
use Rattle.std.proofs.Common.{◌≡◌, ◌+◌, ◌*◌, ◌/◌, ◌^◌, ◌<◌, ◌≤◌, ℕ, suc, max, Bool, true, false, cond, not, ◌||◌, ◌&&◌, List, [], ◌∷◌, length, nat_lt, Some, refl, sym, ap, subst, ◌∙◌, arith}
use Rattle.std.specs.Prelude.{◌==◌, Result, Ok, Err}
use Rattle.std.specs.List.{list_any, sum_by}
use Rattle.std.proofs.lemmas.Bool.Decides.{nat_tests}
use Rattle.std.proofs.lemmas.List.Sorted.{length_permutation, sum_by-IsPermutation}
use Rattle.std.proofs.lemmas.List.Sums.{sum_by-cons}
use Rattle.ckd_image.specs.Device.{row_of}
use Rattle.ebcdic_names.specs.declared.names.Dsn.{Dsn}
use Rattle.space_alloc.specs.Edits.{AreWithout}
use Rattle.vol_model.specs.declared.contents.Attr.{Attr}
use Rattle.vol_model.specs.declared.contents.DataSet.{DataSet}
use Rattle.vol_model.specs.declared.contents.Run.{Run}
use Rattle.vol_model.specs.declared.contents.Shelf.{Shelf}
use Rattle.vol_model.specs.declared.contents.Volume.{Volume}
use Rattle.vol_model.specs.declared.refusals.Refusal.{Refusal}
use Rattle.vol_model.specs.declared.refusals.Refusal.TheVariants as refusals
use Rattle.vol_model.specs.declared.requests.Op.TheVariants.{Allocate}
use Rattle.vol_model.specs.declared.requests.Request.{Request}
use Rattle.vol_model.specs.Lawful.{IsLawful, IsLawfulVolume}
use Rattle.vol_model.specs.Order.{in_order}
use Rattle.vol_model.specs.Places.{tracks_in}
use Rattle.vol_model.specs.Shelf.{allocate_on, has_set, lacks_room, new_attr, new_body, step, step_on, with_new, with_volume}
use Rattle.vol_model.specs.Slots.{slots_needed}
use Rattle.vol_model.specs.Space.{AreFreeRuns, choice, covers, free_runs, is_in, is_unowned, usable_cylinders}
use Rattle.vol_model.proofs.FreeRuns.{AreRunsOf-runs_of, runs_of-AreRunsOf}
use Rattle.vol_model.proofs.InOrder.{in_order-permutation}
use Rattle.vol_model.proofs.Steps.{any_in_order}
use Rattle.shelf_laws.proofs.Allocating.{allocate_lawful}
use Rattle.dadsm_ops.specs.Allocating.{is_wrong}
use Rattle.dadsm_ops.proofs.DirectoryOutcomes.{no_room, set_made, vtoc_full}

not_less : (a b : ℕ) → b ≤ a → nat_lt a b ≡ false
not_less a b few = grind (arith, nat_tests)

-- ---- the slots that data sets take

-- one for a set, and one more for one of more than three extents
abbrev pub takes : DataSet → ℕ
takes x = cond (nat_lt 3 (length x.extents)) 2 1

abbrev pub has_third : DataSet → ℕ
has_third x = cond (nat_lt 3 (length x.extents)) 1 0

pub taken_sum : (sets : List DataSet) → length sets + sum_by has_third sets ≡ sum_by takes sets
taken_sum [] = refl
taken_sum (x ∷ sets) =
    let more = taken_sum sets in
    let one = sum_by-cons has_third x sets in
    let two = sum_by-cons takes x sets in
    by_third (nat_lt 3 (length x.extents)) (length sets) (sum_by has_third sets) (sum_by has_third (x ∷ sets)) (sum_by takes sets) (sum_by takes (x ∷ sets)) one two more
  where
    by_third : (b : Bool) (n a c t s : ℕ) → c ≡ cond b 1 0 + a → s ≡ cond b 2 1 + t → n + a ≡ t → suc n + c ≡ s
    by_third true n a c t s e f h = omega (arith, e, f, h)
    by_third false n a c t s e f h = omega (arith, e, f, h)

-- ---- the volume with a new set

module _ (dsn : Dsn) (attr : Attr) (q : Request) (dir : ℕ) (volume : Volume) (runs : List Run) where
  abbrev w : Volume
  w = with_new dsn attr q dir volume runs

  abbrev x : DataSet
  x = record { name = dsn; attr = new_attr dsn.bytes attr q; extents = runs; body = new_body volume.geometry.device dsn.bytes attr dir }

  -- its extents are free no more
  unowned_new : (t : ℕ) → is_unowned w t ≡ (is_unowned volume t && not (covers runs t))
  unowned_new t =
      ap (λ (b : Bool). not (t == 0 || (is_in t volume.vtoc || b))) (any_in_order (λ (y : DataSet). covers y.extents t) (x ∷ volume.sets))
      ∙ neither (t == 0) (is_in t volume.vtoc) (covers runs t) (list_any (λ (y : DataSet). covers y.extents t) volume.sets)
    where
      neither : (a b c d : Bool) → not (a || (b || (c || d))) ≡ (not (a || (b || d)) && not c)
      neither true b c d = refl
      neither false true c d = refl
      neither false false true true = refl
      neither false false true false = refl
      neither false false false true = refl
      neither false false false false = refl

  pub free_new : (free new : List Run) → AreFreeRuns volume free → AreWithout free runs new → AreFreeRuns w new
  free_new free new before without = record {
    maximal = without.maximal;
    within = without.within (usable_cylinders volume.geometry * (row_of volume.geometry.device).heads) before.within;
    same = λ t low. unowned_new t ∙ ap (λ b. b && not (covers runs t)) (before.same t low) ∙ sym (without.tracks t);
  }

  -- the free runs are those without them
  pub free_runs_new : (free new : List Run) → free ≡ free_runs volume → AreWithout free runs new → new ≡ free_runs w
  free_runs_new free new before without =
      let limit = usable_cylinders volume.geometry * (row_of volume.geometry.device).heads in
      sym (AreRunsOf-runs_of (is_unowned w) limit new
      (free_new free new (subst (AreFreeRuns volume) (sym before) (runs_of-AreRunsOf (is_unowned volume) limit)) without))

  -- the slots that it needs
  pub needed_new : slots_needed w ≡ 1 + max 1 ((length (free_runs w) + 25) / 26) + (cond (nat_lt 3 (length runs)) 2 1 + sum_by takes volume.sets)
  unfolding slots_needed
  needed_new =
      let moved = in_order-permutation (x ∷ volume.sets) in
      let many : length (in_order (x ∷ volume.sets)) ≡ length (x ∷ volume.sets) = length_permutation (x ∷ volume.sets) (in_order (x ∷ volume.sets)) moved in
      let third : sum_by has_third (in_order (x ∷ volume.sets)) ≡ sum_by has_third (x ∷ volume.sets) = sum_by-IsPermutation has_third (x ∷ volume.sets) (in_order (x ∷ volume.sets)) moved in
      let both = taken_sum (x ∷ volume.sets) in
      let last = sum_by-cons takes x volume.sets in
      total (1 + max 1 ((length (free_runs w) + 25) / 26)) _ _ _ _ _ _ many third both last
    where
      total : (a n m t s u v : ℕ) → n ≡ m → t ≡ s → m + s ≡ u → u ≡ v → a + n + t ≡ a + v
      total a n m t s u v e f h i = omega (arith, e, f, h, i)

-- ---- the operation

module _ (dsn : Dsn) (attr : Attr) (q : Request) (dir : ℕ) (volume : Volume) where
  abbrev after : List Run → Volume
  after runs = with_new dsn attr q dir volume runs

  module _ (absent : has_set volume dsn.bytes ≡ false) (right : is_wrong dsn attr dir ≡ false) (runs : List Run) (chosen : choice volume q.unit q.contig q.primary ≡ Some runs) where
    -- there are too few slots
    pub allocate_full : volume.slots < slots_needed (after runs) → allocate_on dsn attr q dir volume ≡ Err (refusals.VtocFull (slots_needed (after runs)))
    allocate_full more = vtoc_full dsn attr q dir volume absent right runs chosen (lower volume.slots (slots_needed (after runs)) more)
      where
        lower : (a b : ℕ) → a < b → nat_lt a b ≡ true
        lower a b l = grind (arith, nat_tests)

    module _ (fits : slots_needed (after runs) ≤ volume.slots) where
      enough : nat_lt volume.slots (slots_needed (after runs)) ≡ false
      enough = not_less volume.slots (slots_needed (after runs)) fits

      -- its directory doesn't fit the tracks
      pub allocate_crowded : lacks_room volume.geometry.device dsn.bytes dir (tracks_in runs) ≡ true → allocate_on dsn attr q dir volume ≡ Err refusals.NoRoom
      allocate_crowded crowded = no_room dsn attr q dir volume absent right runs chosen enough crowded

      -- else it is done
      pub allocate_ok : lacks_room volume.geometry.device dsn.bytes dir (tracks_in runs) ≡ false → allocate_on dsn attr q dir volume ≡ Ok (after runs)
      allocate_ok roomy = set_made dsn attr q dir volume absent right runs chosen enough roomy

  stepped : (later : Volume) → allocate_on dsn attr q dir volume ≡ Ok later → step (record { volumes = volume ∷ [] }) (Allocate 0 dsn attr q dir) ≡ Ok (record { volumes = later ∷ [] })
  unfolding step step_on
  stepped later done = ap (λ (r : Result Volume Refusal). with_volume (record { volumes = volume ∷ [] }) 0 r) done

  -- the volume that it leaves is lawful
  pub allocate_keeps : dir ≤ 2000 → q.secondary < 2 ^ 24 → (later : Volume) → IsLawfulVolume volume → allocate_on dsn attr q dir volume ≡ Ok later → IsLawfulVolume later
  allocate_keeps blocks few later lawful done =
      let before : Shelf = record { volumes = volume ∷ [] } in
      let behind : Shelf = record { volumes = later ∷ [] } in
      let one : 1 ≤ 256 = omega arith in
      let whole : IsLawful before = record { few = one; volumes = (lawful, tt) } in
      let then : IsLawful behind = allocate_lawful before behind 0 dsn attr q dir blocks few whole (stepped later done) in
      then.volumes.0
