-- How far the packing of directories has come, and the repair of a pack after it.
use Rattle.std.proofs.Common.{◌≡◌, ◌≤◌, ◌+◌, ℕ, zero, suc, Bool, true, List, [], ◌∷◌, drop, length, Some, refl, sym, ap, subst, ◌∙◌, arith}
use Rattle.std.specs.Prelude.{IsTrue, Result, Ok, Err, slice_get, vec_items}
use Rattle.free_rebuild.specs.Repairs.{Repairs, image_named}
use Rattle.hall_core.specs.Facts.{Attached, Facts, ReportedCall, unit_of}
use Rattle.stop_model.specs.Files.{File}
use Rattle.pack_spec.specs.Settled.{IsSettled}
use Rattle.pack_spec.specs.Volume.{volume_of}
use Rattle.pack_spec.specs.declared.MountErr.TheVariants as mounts
use Rattle.stop_model.specs.Moments.{Elapses, IsDurable, Meaning, Same}
use Rattle.stop_model.proofs.MomentLemmas.{durable_leaves, elapses_none, elapses_same, elapses_then, elapses_weaker}
use Rattle.vol_model.specs.declared.contents.Volume.{Volume}
use Rattle.vtoc_index.specs.Index.{IsMounted, IsOfUnit}
use Rattle.vtoc_index.specs.Names.{AreByName, name_at}
use Rattle.vtoc_index.specs.declared.vol.Vol.{Vol}
use Rattle.vtoc_sets.specs.Sets.{volume_in}
use Rattle.mount_repair.specs.Repairs.{KeepsVtoc, MountsPack, PacksDirs, RepairsPack, StaysVolume}
use Rattle.mount_repair.specs.Scans.{AreLibraries, AreUnpacked, IsListed, IsScanOf, KeepsLibraries}
use Rattle.mount_repair.specs.Sets.{names_and_kinds}
use Rattle.mount_repair.specs.declared.library.Library.{Library}
use Rattle.mount_repair.specs.declared.scanned.Scan.{Scan}
use Rattle.mount_repair.specs.declared.scanned.Unpacked.{Unpacked}
use Rattle.mount_repair.proofs.DeviceCalls.{Unreported, reported_none, unreported}
use Rattle.mount_repair.proofs.RepairSteps.{one_volume, packs_next, packs_none, packs_stopped, stays_safe, stays_same, stays_then}
use Rattle.mount_repair.proofs.SettledScans.{all_packed, settled_of}

-- the name of the file of a pack
abbrev pub name_of : Facts → Vol → List ℕ
name_of facts v = (unit_of facts.units v.unit).name

-- So many directories are packed, and the libraries of data sets that aren't listed are kept; the index is as before, but for its buffer.
pub record PackedSoFar (E : Type 0) (tells : Bool) (old now : Facts) (m m' : Meaning (List File)) (before v : Vol) (all : List Unpacked) (k : ℕ) : Type 0 where
  pub facts : Unreported old now
  pub others : v ≡ record before { buf = v.buf }
  pub unit : IsOfUnit now.units v
  pub packs : IsTrue tells → PacksDirs {T = Unit {0}} {E = E} (name_of old before) v (drop k all) m m' (Ok tt)
  pub libraries : IsTrue tells → KeepsLibraries (image_named m.state (name_of old before)) before all (image_named m'.state (name_of old before)) v

pub packed_none : (E : Type 0) (tells : Bool) (facts : Facts) (m : Meaning (List File)) (v : Vol) (all : List Unpacked) → IsOfUnit facts.units v → (IsTrue tells → IsMounted (image_named m.state (name_of facts v)) v) → (IsTrue tells → IsDurable m)
    → (IsTrue tells → AreUnpacked (image_named m.state (name_of facts v)) v all) → PackedSoFar E tells facts facts m m v v all 0
packed_none E tells facts m v all unit mounted durable unpacked = record {
  facts = unreported facts;
  others = refl;
  unit = unit;
  packs = λ told. packs_none (name_of facts v) v all m tt (mounted told) (durable told) (unpacked told);
  libraries = λ told slot l out was. was;
}

-- the first of those that are left
pub left_at : (all : List Unpacked) (k : ℕ) (u : Unpacked) → slice_get all k ≡ Some u → drop k all ≡ u ∷ drop (k + 1) all
left_at [] k u at = absurd cc
left_at (x ∷ all) zero u at = let same : x ≡ u = cc in ap (λ (y : Unpacked). y ∷ all) same
left_at (x ∷ all) (suc k) u at = let next : suc k + 1 ≡ suc (k + 1) = omega arith in left_at all k u at ∙ ap (λ (n : ℕ). u ∷ drop n (x ∷ all)) (sym next)

none_left : (all : List Unpacked) (k : ℕ) → length all ≤ k → drop k all ≡ []
none_left [] zero low = refl
none_left [] (suc k) low = refl
none_left (x ∷ all) zero low = absurd (omega (arith, low))
none_left (x ∷ all) (suc k) low = none_left all k (omega (arith, low))

-- what the one in a place lists, all list
listed_among : (all : List Unpacked) (k : ℕ) (u : Unpacked) (slot : ℕ) → slice_get all k ≡ Some u → IsListed (u ∷ []) slot → IsListed all slot
listed_among all k u slot at listed = by listed.0 listed.1 listed.2 listed.3
  where
    by : (j : ℕ) (w : Unpacked) → slice_get (u ∷ []) j ≡ Some w → w.slot ≡ slot → IsListed all slot
    by zero w there here = let same : u ≡ w = cc in (k, u, at, ap (λ (d : Unpacked). d.slot) same ∙ here)
    by (suc j) w there here = absurd cc

-- after it no directory is listed, and the libraries are there still
pub libraries_left : (image image' : List ℕ) (v v' : Vol) (all : List Unpacked) (libraries : List Library) → KeepsLibraries image v all image' v' → AreLibraries image v all libraries → AreLibraries image' v' [] libraries
libraries_left image image' v v' all libraries keeps was k l there =
    let is = was k l there in (is.0, λ listed. none_listed listed.0 listed.1 listed.2, keeps is.0 l is.1 is.2)
  where
    none_listed : (j : ℕ) (u : Unpacked) → slice_get [] j ≡ Some u → ⊥
    none_listed j u at = cc

-- the same by other names of the pack's file, which are this
pub libraries_left_as : (name from to : List ℕ) (v v' : Vol) (m m' : Meaning (List File)) (all listed : List Unpacked) (libraries : List Library) → from ≡ name → to ≡ name → listed ≡ all
    → KeepsLibraries (image_named m.state from) v listed (image_named m'.state to) v' → AreLibraries (image_named m.state name) v all libraries → AreLibraries (image_named m'.state name) v' [] libraries
libraries_left_as name from to v v' m m' all listed libraries is_from is_to same keeps was =
    libraries_left (image_named m.state name) (image_named m'.state name) v v' all libraries
    (subst (λ (n : List ℕ). KeepsLibraries (image_named m.state n) v all (image_named m'.state name) v') is_from
    (subst (λ (n : List ℕ). KeepsLibraries (image_named m.state from) v all (image_named m'.state n) v') is_to
    (subst (λ (us : List Unpacked). KeepsLibraries (image_named m.state from) v us (image_named m'.state to) v') same keeps))) was

module _ (E : Type 0) (tells : Bool) (old now : Facts) (m m' : Meaning (List File)) (before v : Vol) (all : List Unpacked) (k : ℕ) (so_far : PackedSoFar E tells old now m m' before v all k) where
  -- the pack has its name still
  pub name_kept : name_of now v ≡ name_of old before
  name_kept = ap (λ (us : List Attached). (unit_of us v.unit).name) so_far.facts.units ∙ ap (λ (w : Vol). name_of old w) so_far.others

  pub left_here : (u : Unpacked) → slice_get all k ≡ Some u → IsTrue tells → AreUnpacked (image_named m'.state (name_of now v)) v (u ∷ drop (k + 1) all)
  left_here u at told =
      subst (λ (n : List ℕ). AreUnpacked (image_named m'.state n) v (u ∷ drop (k + 1) all)) (sym name_kept)
      (subst (AreUnpacked (image_named m'.state (name_of old before)) v) (left_at all k u at) (so_far.packs told).left)

  pub mounted_here : IsTrue tells → IsMounted (image_named m'.state (name_of now v)) v
  mounted_here told = subst (λ (n : List ℕ). IsMounted (image_named m'.state n) v) (sym name_kept) (so_far.packs told).index

  module _ (next : Facts) (m'' : Meaning (List File)) (v' : Vol) (others : v' ≡ record v { buf = v'.buf }) where
    others_next : v' ≡ record before { buf = v'.buf }
    others_next = others ∙ ap (λ (w : Vol). record w { buf = v'.buf }) so_far.others

    -- by the name of the first
    kept_next : next.units ≡ now.units → (u : Unpacked) → KeepsLibraries (image_named m'.state (name_of now v)) v (u ∷ []) (image_named m''.state (name_of next v)) v'
        → KeepsLibraries (image_named m'.state (name_of old before)) v (u ∷ []) (image_named m''.state (name_of old before)) v'
    kept_next units u keeps =
        let named : name_of next v ≡ name_of old before = ap (λ (us : List Attached). (unit_of us v.unit).name) units ∙ name_kept in
        subst (λ (n : List ℕ). KeepsLibraries (image_named m'.state n) v (u ∷ []) (image_named m''.state (name_of old before)) v') name_kept
        (subst (λ (n : List ℕ). KeepsLibraries (image_named m'.state (name_of now v)) v (u ∷ []) (image_named m''.state n) v') named keeps)

    -- one more is packed
    pub packed_next : {P F : Type 0} (u : Unpacked) → slice_get all k ≡ Some u → IsOfUnit next.units v' → ReportedCall P now next → ¬ P → (IsTrue tells → PacksDirs {T = Unit {0}} {E = F} (name_of now v) v' (drop (k + 1) all) m' m'' (Ok tt))
        → (IsTrue tells → KeepsLibraries (image_named m'.state (name_of now v)) v (u ∷ []) (image_named m''.state (name_of next v)) v') → PackedSoFar E tells old next m m'' before v' all (k + 1)
    packed_next {F = F} u at unit call done run keeps = record {
      facts = reported_none old now next so_far.facts call done;
      others = others_next;
      unit = unit;
      packs = λ told. packs_next (name_of old before) v v' (drop k all) (drop (k + 1) all) m m' m'' tt (so_far.packs told) tt tt
          (subst (λ (n : List ℕ). PacksDirs {T = Unit {0}} {E = F} n v' (drop (k + 1) all) m' m'' (Ok tt)) name_kept (run told));
      libraries = λ told slot l out was. kept_next call.units u (keeps told) slot l (λ listed. out (listed_among all k u slot at listed)) (so_far.libraries told slot l out was);
    }

    -- or isn't
    pub packed_stopped : {T U F D : Type 0} (e : F) (d : D) (rest left : List Unpacked) → IsTrue tells → PacksDirs {T = T} (name_of now v) v' rest m' m'' (Err e) → PacksDirs {T = U} (name_of old before) v' left m m'' (Err d)
    packed_stopped {T = T} e d rest left told run =
        left_any (packs_stopped (name_of old before) v v' (drop k all) rest m m' m'' tt (so_far.packs told) e d (subst (λ (n : List ℕ). PacksDirs {T = T} n v' rest m' m'' (Err e)) name_kept run))
      where
        left_any : {A B : Type 0} {b : B} {n : List ℕ} {mm : Meaning (List File)} → PacksDirs {T = A} n v' rest mm m'' (Err b) → PacksDirs {T = A} n v' left mm m'' (Err b)
        left_any is = record { volume = is.volume; before = is.before; keeps = tt; settled = tt; index = tt; left = tt; durable = tt; printed = is.printed; moments = is.moments }

  -- all are packed
  pub packed_all : length all ≤ k → IsTrue tells → PacksDirs {T = Unit {0}} {E = E} (name_of old before) v [] m m' (Ok tt)
  packed_all low told = subst (λ (l : List Unpacked). PacksDirs {T = Unit {0}} {E = E} (name_of old before) v l m m' (Ok tt)) (none_left all k low) (so_far.packs told)

  -- and the libraries of the others are kept
  pub kept_all : IsTrue tells → KeepsLibraries (image_named m.state (name_of old before)) before all (image_named m'.state (name_of now before)) v
  kept_all told =
      let named : name_of old before ≡ name_of now before = ap (λ (us : List Attached). (unit_of us before.unit).name) (sym so_far.facts.units) in
      subst (λ (n : List ℕ). KeepsLibraries (image_named m.state (name_of old before)) before all (image_named m'.state n) v) named (so_far.libraries told)

-- ---- the repair of a pack

-- a pack that is settled isn't repaired
pub repairs_settled : {E : Type 0} (name : List ℕ) (s : Scan) (m : Meaning (List File)) → s.settled ≡ true → IsScanOf (image_named m.state name) s → IsDurable m → RepairsPack {E = E} name m m (Ok s)
repairs_settled name s m is scan durable =
    let settled = scan.settled.0 is in record {
      volume = settled.0;
      before = settled.1;
      done = record { stays = stays_same name settled.0 m.state settled.1; settled = settled; scan = scan; durable = durable };
      printed = refl;
      moments = elapses_none m _;
    }

-- the repair of the VTOC failed
pub repairs_failed : {T E F : Type 0} (name : List ℕ) (v : Vol) (m m' : Meaning (List File)) (e : E) (f : F) → Repairs {T = T} name v m m' (Err e) → RepairsPack name m m' (Err f)
repairs_failed name v m m' e f run = record {
  volume = run.volume;
  before = run.before;
  done = tt;
  printed = run.printed;
  moments = elapses_weaker run.moments (λ files p stop. (stays_safe name run.volume m.state files stop.0, stop.1));
}

module _ {T D : Type 0} (name : List ℕ) (v v' : Vol) (rest : List Unpacked) (m mid m' : Meaning (List File)) (x : T) (first : Repairs {E = D} name v m mid (Ok x)) where
  moments_both : {U E : Type 0} (r : Result U E) → PacksDirs name v' rest mid m' r → Elapses m m' (λ files p. StaysVolume name first.volume m.state files × (p ≡ m.printed))
  moments_both r run =
      let same : run.volume ≡ first.volume = one_volume (sym run.before ∙ first.safe.stands) in
      elapses_then (elapses_weaker first.moments (λ files p stop. (stays_safe name first.volume m.state files stop.0, stop.1)))
      (elapses_weaker run.moments (λ files p stop. (
        stays_then name first.volume m.state mid.state files (stays_safe name first.volume m.state mid.state first.safe) (subst (λ (w : Volume). KeepsVtoc name w mid.state files) same stop.0),
        stop.1 ∙ first.printed,
      )))

  -- the packing of the directories failed
  pub repairs_stopped : {U E F : Type 0} (e : E) (f : F) → PacksDirs {T = U} name v' rest mid m' (Err e) → RepairsPack name m m' (Err f)
  repairs_stopped e f run = record {
    volume = first.volume;
    before = first.before;
    done = tt;
    printed = run.printed ∙ first.printed;
    moments = moments_both (Err e) run;
  }

  -- all is done
  pub repairs_done : {U E F : Type 0} (y : U) (before after : Scan) → rest ≡ [] → PacksDirs {T = U} {E = E} name v' rest mid m' (Ok y) → AreByName (name_at v'.slots.items) v'.by_name.items → IsScanOf (image_named m.state name) before
      → AreLibraries (image_named m'.state name) v' [] before.libraries.items
      → after.vol ≡ v' → after.volume ≡ before.volume → after.settled ≡ true → after.libraries ≡ before.libraries → after.unpacked.items ≡ [] → RepairsPack {E = F} name m m' (Ok after)
  repairs_done y before after none run order scan libraries vol volume is_settled held nothing =
      let image : List ℕ = image_named m'.state name in
      let same : run.volume ≡ first.volume = one_volume (sym run.before ∙ first.safe.stands) in
      let keeps : KeepsVtoc name first.volume mid.state m'.state = subst (λ (w : Volume). KeepsVtoc name w mid.state m'.state) same run.keeps in
      let left : AreUnpacked image v' [] = subst (AreUnpacked image v') none run.left in
      let settled : IsSettled image = settled_of image v' run.index order (run.settled first.settled) (all_packed image v' run.index order left) in
      let now : volume_in image v' ≡ first.volume = one_volume (sym run.index.volume ∙ keeps.stands) in
      let was : volume_in (image_named m.state name) before.vol ≡ first.volume = one_volume (sym scan.mounted.volume ∙ first.before) in
      record {
        volume = first.volume;
        before = first.before;
        done = record {
          stays = stays_then name first.volume m.state mid.state m'.state (stays_safe name first.volume m.state mid.state first.safe) keeps;
          settled = settled;
          scan = record {
            mounted = subst (IsMounted image) (sym vol) run.index;
            volume = ap vec_items volume ∙ scan.volume ∙ ap names_and_kinds (was ∙ sym now) ∙ ap (λ (w : Vol). names_and_kinds (volume_in image w)) (sym vol);
            settled = (λ is. settled, λ is. is_settled);
            unpacked = subst (λ (w : Vol). AreUnpacked image w after.unpacked.items) (sym vol) (subst (AreUnpacked image v') (sym nothing) left);
            libraries = subst (λ (w : Vol). AreLibraries image w after.unpacked.items after.libraries.items) (sym vol)
                (subst (λ (us : List Unpacked). AreLibraries image v' us after.libraries.items) (sym nothing)
                (subst (AreLibraries image v' []) (ap vec_items (sym held)) libraries));
          };
          durable = run.durable;
        };
        printed = run.printed ∙ first.printed;
        moments = moments_both (Ok y) run;
      }

  -- the same by another name of the pack's file, which is this
  pub repairs_stopped_as : {U E F : Type 0} (name' : List ℕ) (e : E) (f : F) → name' ≡ name → PacksDirs {T = U} name' v' rest mid m' (Err e) → RepairsPack name m m' (Err f)
  repairs_stopped_as {U = U} name' e f same run = repairs_stopped e f (subst (λ (n : List ℕ). PacksDirs {T = U} n v' rest mid m' (Err e)) same run)

  pub repairs_done_as : {U E F : Type 0} (name' : List ℕ) (y : U) (before after : Scan) → name' ≡ name → rest ≡ [] → PacksDirs {T = U} {E = E} name' v' rest mid m' (Ok y) → AreByName (name_at v'.slots.items) v'.by_name.items → IsScanOf (image_named m.state name) before
      → AreLibraries (image_named m'.state name) v' [] before.libraries.items
      → after.vol ≡ v' → after.volume ≡ before.volume → after.settled ≡ true → after.libraries ≡ before.libraries → after.unpacked.items ≡ [] → RepairsPack {E = F} name m m' (Ok after)
  repairs_done_as {U = U} {E = E} name' y before after same none run order scan libraries vol volume is_settled held nothing =
      repairs_done y before after none (subst (λ (n : List ℕ). PacksDirs {T = U} {E = E} n v' rest mid m' (Ok y)) same run) order scan libraries vol volume is_settled held nothing

-- ---- the mounting of a pack

-- a repair after a scan
module _ (name : List ℕ) (m mid m' : Meaning (List File)) (durable : IsDurable m) (same : Same m mid) where
  repaired_then : {E : Type 0} (r : Result Scan E) → (run : RepairsPack name mid m' r) → Elapses m m' (λ files p. StaysVolume name run.volume m.state files × (p ≡ m.printed))
  repaired_then r run =
      let before : volume_of (image_named m.state name) ≡ Ok run.volume = ap (λ (fs : List File). volume_of (image_named fs name)) (sym same.state) ∙ run.before in
      elapses_then (elapses_same same (durable_leaves m (λ (fs : List File). StaysVolume name run.volume m.state fs × (m.printed ≡ m.printed)) durable (stays_same name run.volume m.state before, refl)))
      (elapses_weaker run.moments (λ files p stop. (subst (λ (fs : List File). StaysVolume name run.volume fs files) same.state stop.0, stop.1 ∙ same.printed)))

  pub mounts_done : {E : Type 0} (s : Scan) → RepairsPack {E = E} name mid m' (Ok s) → MountsPack name m m' (Ok s)
  mounts_done s run = record {
    repairs = λ volume stands. record {
      volume = run.volume;
      before = ap (λ (fs : List File). volume_of (image_named fs name)) (sym same.state) ∙ run.before;
      done = record {
        stays = subst (λ (fs : List File). StaysVolume name run.volume fs m'.state) same.state run.done.stays;
        settled = run.done.settled;
        scan = run.done.scan;
        durable = run.done.durable;
      };
      printed = run.printed ∙ same.printed;
      moments = repaired_then (Ok s) run;
    };
    refused = tt;
    same = tt;
  }

  pub mounts_failed : {E : Type 0} (e : E) → RepairsPack name mid m' (Err e) → MountsPack name m m' (Err mounts.Device)
  mounts_failed e run = record {
    repairs = λ volume stands. record {
      volume = run.volume;
      before = ap (λ (fs : List File). volume_of (image_named fs name)) (sym same.state) ∙ run.before;
      done = tt;
      printed = run.printed ∙ same.printed;
      moments = repaired_then (Err e) run;
    };
    refused = tt;
    same = λ differs. absurd (differs refl);
  }

  pub mounts_done_as : {E : Type 0} (name' : List ℕ) → name' ≡ name → (s : Scan) → RepairsPack {E = E} name' mid m' (Ok s) → MountsPack name m m' (Ok s)
  mounts_done_as {E = E} name' is s run = mounts_done s (subst (λ (n : List ℕ). RepairsPack {E = E} n mid m' (Ok s)) is run)

  pub mounts_failed_as : {E : Type 0} (name' : List ℕ) → name' ≡ name → (e : E) → RepairsPack name' mid m' (Err e) → MountsPack name m m' (Err mounts.Device)
  mounts_failed_as name' is e run = mounts_failed e (subst (λ (n : List ℕ). RepairsPack n mid m' (Err e)) is run)
