-- A volume is judged as a whole by the runs that its data sets own.
use Rattle.std.proofs.Common.{◌≡◌, ◌≤◌, ◌+◌, ◌*◌, ◌/◌, ℕ, List, [], Some, None, Option, inr, not, length, sym, ap, subst, ◌∙◌, arith}
use Rattle.std.specs.Prelude.{max}
use Rattle.std.specs.List.Sorted.{IsPermutation}
use Rattle.ckd_image.specs.Device.{row_of}
use Rattle.vol_model.specs.declared.contents.Run.{Run}
use Rattle.vol_model.specs.Space.{AreMaximal, AreRunsOf, EndBy, covers, free_runs, usable_cylinders}
use Rattle.pack_spec.specs.Label.{tracks_of}
use Rattle.pack_spec.specs.Volume.{data_sets_in, volume_with}
use Rattle.pack_spec.proofs.OwnedRuns.{runs_owned}
use Rattle.space_alloc.specs.Owned.{IsLowestTwice}
use Rattle.space_alloc.proofs.SortedRuns.{EndBy-permutation}
use Rattle.vtoc_index.proofs.OwnedVolumes.{first_twice, free_are, free_small, needed_are, no_faults, owned_small, room_fault, runs_end, runs_some, usable_inside}
use Rattle.vol_model.specs.Slots.{slots_needed}
use Rattle.vtoc_index.proofs.owned.free_runs_in.Goals.{After-len, After-slots_for-needed}
use Rattle.vtoc_index.proofs.owned.free_runs_in.Goals as goal

pub lowest_twice-requires-clause-within : goal.lowest_twice-requires-clause-within
lowest_twice-requires-clause-within c = owned_small c.args.geometry c.in_ok-owned.owned.runs.items c.requires.whole (c.in_ok-owned.ensures.owned []).inside

pub lowest_twice-requires-clause-some : goal.lowest_twice-requires-clause-some
lowest_twice-requires-clause-some c = runs_some c.args.geometry c.in_ok-owned.owned.runs.items (c.in_ok-owned.ensures.owned []).inside

pub returns-in-Some-clause-refused : goal.returns-in-Some-clause-refused
returns-in-Some-clause-refused c tracks label =
    let g = c.args.geometry in
    let runs = (c.in_ok-owned.ensures.owned tracks).runs in
    let ends = subst (EndBy (tracks_of g)) runs (runs_end g c.in_ok-owned.owned.runs.items (c.in_ok-owned.ensures.owned []).inside) in
    let low = subst (λ (l : List Run). IsLowestTwice l (Some c.in-Some.track)) runs (subst (IsLowestTwice c.in_ok-owned.owned.runs.items) c.in-Some.is c.in_ok-track.ensures.lowest) in
    inr (first_twice g tracks label c.args.vtoc c.args.slots.now c.in-Some.track ends low)

pub free_runs-requires : goal.free_runs-requires
free_runs-requires c =
    subst (EndBy 65535) (sym c.deref.ensures.value)
    (EndBy-permutation 65535 c.in_ok-owned.owned.runs.items _ c.in_ok-track.ensures.permutation (owned_small c.args.geometry c.in_ok-owned.owned.runs.items c.requires.whole (c.in_ok-owned.ensures.owned []).inside))

small : (c : After-len) → c.len.result ≤ 65535
small c =
    let g = c.args.geometry in
    let free = c.in_ok-free.free in
    let are = subst (λ (n : ℕ). AreRunsOf (λ t. not (covers c.deref.result.now t)) n free.items) c.usable_tracks.ensures c.in_ok-free.ensures in
    omega (arith, c.len.ensures, free_small g _ free.items c.requires.whole are)

pub overflow_cast-len : goal.overflow_cast-len
overflow_cast-len c = let few = small c in omega arith

pub slots_for-needed-requires-clause-runs : goal.slots_for-needed-requires-clause-runs
slots_for-needed-requires-clause-runs c = small c

-- no track is owned twice, these are the free runs, and so many slots are needed
record Judged (c : After-slots_for-needed) (tracks : List (List ℕ)) (label : List ℕ) : Type 0 where
  once : IsLowestTwice (runs_owned c.args.vtoc (data_sets_in c.args.geometry tracks c.args.slots.now)) None
  free : c.in_ok-free.free.items ≡ free_runs (volume_with c.args.geometry tracks label c.args.vtoc c.args.slots.now)
  needed : c.slots_for-needed.result ≡ slots_needed (volume_with c.args.geometry tracks label c.args.vtoc c.args.slots.now)

many : (c : After-slots_for-needed) → c.len.result ≡ length c.in_ok-free.free.items
many c = omega (arith, c.len.ensures)

judged : (c : After-slots_for-needed) (tracks : List (List ℕ)) (label : List ℕ) → Judged c tracks label
judged c tracks label =
    let g = c.args.geometry in
    let vtoc = c.args.vtoc in
    let slots = c.args.slots.now in
    let owned = c.in_ok-owned.ensures.owned tracks in
    let free = c.in_ok-free.free.items in
    let once = subst (λ (l : List Run). IsLowestTwice l None) owned.runs (subst (IsLowestTwice c.in_ok-owned.owned.runs.items) c.in_default.is c.in_ok-track.ensures.lowest) in
    let moved = subst (λ (l : List Run). IsPermutation l c.lowest_twice.new.runs.items) owned.runs c.in_ok-track.ensures.permutation in
    let are = subst (λ (n : ℕ). AreRunsOf (λ t. not (covers c.deref.result.now t)) n free) c.usable_tracks.ensures c.in_ok-free.ensures in
    let same = subst (λ (l : List Run). AreRunsOf (λ t. not (covers l t)) (usable_cylinders g * (row_of g.device).heads) free) c.deref.ensures.value are in
    let is = free_are g tracks label vtoc slots free _ moved same in
    let number : c.slots_for-needed.result ≡ 1 + max 1 ((length free + 25) / 26) + c.in_ok-owned.owned.slots =
    c.slots_for-needed.ensures ∙ ap (λ (n : ℕ). 1 + max 1 ((n + 25) / 26) + c.in_ok-owned.owned.slots) (many c) in
    record { once = once; free = is; needed = number ∙ needed_are g tracks label vtoc slots free c.in_ok-owned.owned.slots is owned.slots }

pub returns-then-slots-needed-clause-refused : goal.returns-then-slots-needed-clause-refused
returns-then-slots-needed-clause-refused c tracks label =
    let w = (goal.at.returns-then-slots-needed-clause-refused c).After-slots_for-needed in
    let j = judged w tracks label in
    inr (room_fault c.args.geometry tracks label c.args.vtoc c.args.slots.now c.slots_for-needed.result j.once j.needed c.if-slots-needed.true)

pub returns-clause-runs : goal.returns-clause-runs
returns-clause-runs c =
    let g = c.args.geometry in
    let are = subst (λ (n : ℕ). AreRunsOf (λ t. not (covers c.deref.result.now t)) n c.in_ok-free.free.items) c.usable_tracks.ensures c.in_ok-free.ensures in
    subst (λ (l : List Run). AreMaximal l × EndBy (tracks_of g) l) (sym c.in_ok-reserve.ensures.items) (are.maximal, usable_inside g c.in_ok-free.free.items are.within)

pub returns-clause-free : goal.returns-clause-free
returns-clause-free c tracks label =
    let w = (goal.at.returns-clause-free c).After-slots_for-needed in
    let j = judged w tracks label in
    (no_faults c.args.geometry tracks label c.args.vtoc c.args.slots.now c.slots_for-needed.result j.once j.needed c.if-slots-needed.false, c.in_ok-reserve.ensures.items ∙ j.free)
