use Rattle.std.proofs.Common.{◌≡◌, ◌<◌, ◌∷◌, ◌++◌, [], ℕ, List, length, get_or, Some, refl, sym, ap, subst, ◌∙◌, arith}
use Rattle.std.specs.Prelude.{Contains, Err, IfErr, slice_get}
use Rattle.std.proofs.lemmas.Iterator.Adapters.{YieldsList-from_vec}
use Rattle.std.proofs.lemmas.Iterator.Consumers.{YieldsList-end, YieldsList-turn}
use Rattle.std.proofs.lemmas.List.{length-map, length_push}
use Rattle.std.specs.Vec.Iter.{into_iter_items}
use Rattle.std.proofs.lemmas.Option.{slice_get-get_or}
use Rattle.std.proofs.lemmas.Result.{err_from_is_err_and}
use Rattle.hall_core.specs.Facts.{Attached}
use Rattle.mount_repair.specs.Scans.{IsScanOn}
use Rattle.mount_repair.specs.declared.scanned.Scan.{Scan}
use Rattle.shelf_machine.specs.Known.{AreHeld, HoldsOn, KeepsLists}
use Rattle.shelf_machine.specs.Machine.{AreInOrder, units_of}
use Rattle.shelf_machine.specs.Opening.{names_of}
use Rattle.shelf_machine.specs.Packs.{RepairsAll, indexes_of}
use Rattle.shelf_machine.specs.declared.open_failure.OpenFailure.{OpenFailure}
use Rattle.shelf_machine.proofs.KnownPacks.{scan_unit}
use Rattle.shelf_machine.proofs.ReadingPacks.{map_push, mounted_scans}
use Rattle.shelf_machine.specs.ReadyPacks.{caches_of, vols_of}
use Rattle.pack_machine.specs.declared.pack.Pack.{Pack}
use Rattle.pack_machine.specs.declared.pack_cache.PackCache.{PackCache}
use Rattle.shelf_machine.proofs.KnownLemmas.{as_many}
use Rattle.shelf_machine.proofs.OpenedLibraries.{HeldSoFar, buffer_next, held_done, held_next, held_none, holds_next, none_over}
use Rattle.shelf_machine.proofs.RepairLoops.{OpenedSoFar, none_more_scans, opened_done, opened_next, opened_none, opened_stopped, scan_still}
use Rattle.shelf_machine.proofs.opening.repair_all.Goals as goal

-- the next scan stands at the number of those that were taken
at_next : (scans : List Scan) (n : ℕ) (s : Scan) → (n < length scans) × (s ≡ get_or scans n s) → slice_get scans n ≡ Some s
at_next scans n s turn = slice_get-get_or scans n s turn.0 ∙ ap (λ (x : Scan). Some x) (sym turn.1)

pub loop-scanned-init : goal.loop-scanned-init
loop-scanned-init g c = (
  opened_none g.H.Hall.tells (g.H.Hall.facts c.args.hall.now) (g.H.Hall.meaning c.args.hall.now) c.args.scans.items (vols_of c.args.packs.now.items) (ap vols_of c.requires.room.0) c.requires.indexes c.requires.order
      (λ told. mounted_scans (g.H.Hall.meaning c.args.hall.now).state (g.H.Hall.facts c.args.hall.now).units c.args.scans.items (c.requires.images told)) c.requires.durable,
  c.requires.room.1,
  subst (λ (l : List PackCache). HeldSoFar g.H.Hall.tells (g.H.Hall.facts c.args.hall.now) (g.H.Hall.meaning c.args.hall.now) c.args.scans.items (vols_of c.args.packs.now.items) c.args.known.items l 0)
      (sym (ap (λ (ps : List Pack). caches_of ps ++ into_iter_items c.into_iter-caches.result) c.requires.room.0 ∙ c.into_iter-caches.ensures.rest))
      (held_none g.H.Hall.tells (g.H.Hall.facts c.args.hall.now) (g.H.Hall.meaning c.args.hall.now) c.args.scans.items (vols_of c.args.packs.now.items) c.args.known.items c.requires.known.fresh),
  omega (arith, c.into_iter-caches.ensures.len, c.args.known.ok.0, as_many (indexes_of c.args.scans.items) c.args.known.items c.requires.known.buffers, length-map c.args.scans.items (λ (x : Scan). x.vol)),
)

pub repair_pack-requires-clause-unit : goal.repair_pack-requires-clause-unit
repair_pack-requires-clause-unit g c =
    let l = c.loop-scanned in
    let scans = c.args.scans.items in
    let vec = c.into_iter-scanned-iterator.ensures.into_iter_gives in
    let turn = YieldsList-turn (YieldsList-from_vec {s = c.into_iter-scanned-iterator.result} scans vec.0 (vec.1 ∙ c.args.scans.ok.0)) l.yielded l.scanned-iterator l.yielded_by c.next.result c.next.new.self c.in-Some.scanned c.in-Some.is c.next.ensures.steps in
    subst (λ (us : List Attached). IsScanOn us c.in-Some.scanned.vol.unit c.in-Some.scanned) (sym l.invariant.0.repairs.facts.units)
    (c.requires.scanned (length l.yielded) c.in-Some.scanned (at_next scans (length l.yielded) c.in-Some.scanned turn))

pub repair_pack-requires-clause-scan : goal.repair_pack-requires-clause-scan
repair_pack-requires-clause-scan g c told =
    let l = c.loop-scanned in
    let scans = c.args.scans.items in
    let vec = c.into_iter-scanned-iterator.ensures.into_iter_gives in
    let turn = YieldsList-turn (YieldsList-from_vec {s = c.into_iter-scanned-iterator.result} scans vec.0 (vec.1 ∙ c.args.scans.ok.0)) l.yielded l.scanned-iterator l.yielded_by c.next.result c.next.new.self c.in-Some.scanned c.in-Some.is c.next.ensures.steps in
    scan_still g.H.Hall.tells _ _ _ _ scans (vols_of l.packs.items) (length l.yielded) l.invariant.0 c.in-Some.scanned (at_next scans (length l.yielded) c.in-Some.scanned turn) told (c.requires.images told)

pub returns-in_err-vol-clause-files : goal.returns-in_err-vol-clause-files
returns-in_err-vol-clause-files g c told =
    let l = c.loop-scanned in
    let scans = c.args.scans.items in
    let vec = c.into_iter-scanned-iterator.ensures.into_iter_gives in
    let turn = YieldsList-turn (YieldsList-from_vec {s = c.into_iter-scanned-iterator.result} scans vec.0 (vec.1 ∙ c.args.scans.ok.0)) l.yielded l.scanned-iterator l.yielded_by c.next.result c.next.new.self c.in-Some.scanned c.in-Some.is c.next.ensures.steps in
    let p = err_from_is_err_and c.from_residual.result c.from_residual.ensures.1 in
    subst (λ r. RepairsAll {T = Unit} {E = OpenFailure} (names_of (g.H.Hall.facts c.args.hall.now).units (units_of (indexes_of scans))) (g.H.Hall.facts c.args.hall.now).units (vols_of l.packs.items) (g.H.Hall.meaning c.args.hall.now) (g.H.Hall.meaning c.repair_pack.new.hall) r) (sym p.1)
    (opened_stopped g.H.Hall.tells _ _ _ _ scans (vols_of l.packs.items) (length l.yielded) l.invariant.0 c.in-Some.scanned (at_next scans (length l.yielded) c.in-Some.scanned turn) told c.requires.indexes
    (mounted_scans (g.H.Hall.meaning c.args.hall.now).state (g.H.Hall.facts c.args.hall.now).units scans (c.requires.images told)) (g.H.Hall.meaning c.repair_pack.new.hall) c.repair_pack.result p.0 (vols_of l.packs.items) (c.repair_pack.ensures.files told))

pub returns-in_err-vol-clause-unit : goal.returns-in_err-vol-clause-unit
returns-in_err-vol-clause-unit g c =
    let l = c.loop-scanned in
    let scans = c.args.scans.items in
    let vec = c.into_iter-scanned-iterator.ensures.into_iter_gives in
    let turn = YieldsList-turn (YieldsList-from_vec {s = c.into_iter-scanned-iterator.result} scans vec.0 (vec.1 ∙ c.args.scans.ok.0)) l.yielded l.scanned-iterator l.yielded_by c.next.result c.next.new.self c.in-Some.scanned c.in-Some.is c.next.ensures.steps in
    let p = err_from_is_err_and c.from_residual.result c.from_residual.ensures.1 in
    subst (λ r. IfErr r (λ (s : OpenFailure). Contains (units_of (indexes_of scans)) s.unit)) (sym (p.1 ∙ ap Err p.2))
    (subst (λ (n : ℕ). Contains (units_of (indexes_of scans)) n) (sym c.in_err-vol.ensures.place) (scan_unit scans (length l.yielded) c.in-Some.scanned (at_next scans (length l.yielded) c.in-Some.scanned turn)))

-- a pack has room for its free runs, and its buffer has its geometry
pub invariant_of-push_reserved-clause-room : goal.invariant_of-push_reserved-clause-room
invariant_of-push_reserved-clause-room g c = c.in_ok-vol.ensures.unit.room

pub invariant_of-push_reserved-clause-buffer : goal.invariant_of-push_reserved-clause-buffer
invariant_of-push_reserved-clause-buffer g c =
    let l = c.loop-scanned in
    let scans = c.args.scans.items in
    let vec = c.into_iter-scanned-iterator.ensures.into_iter_gives in
    let turn = YieldsList-turn (YieldsList-from_vec {s = c.into_iter-scanned-iterator.result} scans vec.0 (vec.1 ∙ c.args.scans.ok.0)) l.yielded l.scanned-iterator l.yielded_by c.next.result c.next.new.self c.in-Some.scanned c.in-Some.is c.next.ensures.steps in
    let packs = l.packs.items in
    let size : length (caches_of packs) ≡ length l.yielded = omega (arith, length-map packs (λ (p : Pack). p.cache), length-map packs (λ (p : Pack). p.vol), l.invariant.0.size) in
    buffer_next scans c.args.known.items (caches_of packs ++ into_iter_items l.caches) c.requires.known l.invariant.2.lists (length l.yielded) c.in-Some.scanned c.in_ok-vol.field-0.vol (caches_of packs) (into_iter_items c.next-in-loop-scanned.new.self) c.in-Some-next.cache
    (at_next scans (length l.yielded) c.in-Some.scanned turn) (ap (λ (x : List PackCache). caches_of packs ++ x) c.in-Some-next.ensures.items) size c.in_ok-vol.ensures.index

pub loop-scanned-preserved : goal.loop-scanned-preserved
loop-scanned-preserved g c =
    let l = c.loop-scanned in
    let scans = c.args.scans.items in
    let vec = c.into_iter-scanned-iterator.ensures.into_iter_gives in
    let turn = YieldsList-turn (YieldsList-from_vec {s = c.into_iter-scanned-iterator.result} scans vec.0 (vec.1 ∙ c.args.scans.ok.0)) l.yielded l.scanned-iterator l.yielded_by c.next.result c.next.new.self c.in-Some.scanned c.in-Some.is c.next.ensures.steps in
    let at = at_next scans (length l.yielded) c.in-Some.scanned turn in
    let repaired = c.in_ok-vol.ensures in
    let s' : Scan = c.in_ok-vol.field-0 in
    let packs = l.packs.items in
    let packs' = c.push_reserved.new.self.items in
    let pushed = c.push_reserved.ensures.items in
    let rest = into_iter_items c.next-in-loop-scanned.new.self in
    let b : PackCache = c.in-Some-next.cache in
    let b' : PackCache = record b { libraries = s'.libraries } in
    let size : length (caches_of packs) ≡ length l.yielded = omega (arith, length-map packs (λ (p : Pack). p.cache), length-map packs (λ (p : Pack). p.vol), l.invariant.0.size) in
    let vols : vols_of packs' ≡ vols_of packs ++ s'.vol ∷ [] = ap vols_of pushed ∙ map_push (λ (p : Pack). p.vol) packs _ in
    let caches : caches_of packs' ≡ caches_of packs ++ b' ∷ [] = ap caches_of pushed ∙ map_push (λ (p : Pack). p.cache) packs _ in
    let holds = subst (λ (x : List PackCache). HoldsOn (length l.yielded) s'.libraries.items (caches_of packs ++ x) (caches_of packs' ++ rest)) (sym c.in-Some-next.ensures.items)
    (subst (λ (x : List PackCache). HoldsOn (length l.yielded) s'.libraries.items (caches_of packs ++ b ∷ rest) (x ++ rest)) (sym caches) (holds_next (caches_of packs) rest (length l.yielded) b b' s'.libraries.items size refl refl refl)) in (
      subst (OpenedSoFar g.H.Hall.tells (g.H.Hall.facts c.args.hall.now) (g.H.Hall.facts c.repair_pack.new.hall) (g.H.Hall.meaning c.args.hall.now) (g.H.Hall.meaning c.repair_pack.new.hall) scans (vols_of packs')) (sym (length_push l.yielded c.in-Some.scanned))
          (opened_next g.H.Hall.tells _ _ _ _ scans (vols_of packs) (length l.yielded) l.invariant.0 c.in-Some.scanned at _ _ s' (vols_of packs') c.requires.indexes
          (λ told. mounted_scans (g.H.Hall.meaning c.args.hall.now).state (g.H.Hall.facts c.args.hall.now).units scans (c.requires.images told)) repaired.index repaired.unit repaired.faults repaired.files vols),
      omega (arith, l.invariant.1, c.push_reserved.ensures.capacity),
      subst (HeldSoFar g.H.Hall.tells (g.H.Hall.facts c.repair_pack.new.hall) (g.H.Hall.meaning c.repair_pack.new.hall) scans (vols_of packs') c.args.known.items (caches_of packs' ++ rest)) (sym (length_push l.yielded c.in-Some.scanned))
          (held_next g.H.Hall.tells _ _ _ _ scans (vols_of packs) (length l.yielded) l.invariant.0 c.in-Some.scanned at _ _ _ l.invariant.2 s' holds _ _ (vols_of packs') repaired.index repaired.faults repaired.files vols),
      omega (arith, l.invariant.3, c.in-Some-next.ensures.len, length_push l.yielded c.in-Some.scanned),
    )

pub returns-clause-files : goal.returns-clause-files
returns-clause-files g c told =
    let l = c.loop-scanned in
    let scans = c.args.scans.items in
    let vec = c.into_iter-scanned-iterator.ensures.into_iter_gives in
    let end = YieldsList-end (YieldsList-from_vec {s = c.into_iter-scanned-iterator.result} scans vec.0 (vec.1 ∙ c.args.scans.ok.0)) l.yielded l.scanned-iterator l.yielded_by c.next.result c.next.new.self c.in-None.is c.next.ensures.steps in
    opened_done g.H.Hall.tells _ _ _ _ scans (vols_of l.packs.items) (length l.yielded) l.invariant.0 (omega (arith, end.1)) told c.requires.indexes
    (mounted_scans (g.H.Hall.meaning c.args.hall.now).state (g.H.Hall.facts c.args.hall.now).units scans (c.requires.images told)) tt

pub returns-clause-order : goal.returns-clause-order
returns-clause-order g c =
    let l = c.loop-scanned in
    let scans = c.args.scans.items in
    let vec = c.into_iter-scanned-iterator.ensures.into_iter_gives in
    let end = YieldsList-end (YieldsList-from_vec {s = c.into_iter-scanned-iterator.result} scans vec.0 (vec.1 ∙ c.args.scans.ok.0)) l.yielded l.scanned-iterator l.yielded_by c.next.result c.next.new.self c.in-None.is c.next.ensures.steps in
    subst AreInOrder (none_more_scans scans (length l.yielded) (vols_of l.packs.items) (omega (arith, end.1))) l.invariant.0.repairs.order

-- nothing that is known is left over
pub returns-clause-lists : goal.returns-clause-lists
returns-clause-lists g c =
    let l = c.loop-scanned in
    let scans = c.args.scans.items in
    let vec = c.into_iter-scanned-iterator.ensures.into_iter_gives in
    let end = YieldsList-end (YieldsList-from_vec {s = c.into_iter-scanned-iterator.result} scans vec.0 (vec.1 ∙ c.args.scans.ok.0)) l.yielded l.scanned-iterator l.yielded_by c.next.result c.next.new.self c.in-None.is c.next.ensures.steps in
    subst (KeepsLists c.args.known.items)
    (none_over g.H.Hall.tells _ _ _ _ scans l.packs.items c.args.known.items (into_iter_items l.caches) (length l.yielded) l.invariant.0 c.requires.known l.invariant.2.lists (omega (arith, end.1))) l.invariant.2.lists

pub returns-clause-held : goal.returns-clause-held
returns-clause-held g c told =
    let l = c.loop-scanned in
    let scans = c.args.scans.items in
    let vec = c.into_iter-scanned-iterator.ensures.into_iter_gives in
    let end = YieldsList-end (YieldsList-from_vec {s = c.into_iter-scanned-iterator.result} scans vec.0 (vec.1 ∙ c.args.scans.ok.0)) l.yielded l.scanned-iterator l.yielded_by c.next.result c.next.new.self c.in-None.is c.next.ensures.steps in
    subst (AreHeld (g.H.Hall.meaning l.hall).state (g.H.Hall.facts l.hall).units (vols_of l.packs.items))
    (none_over g.H.Hall.tells _ _ _ _ scans l.packs.items c.args.known.items (into_iter_items l.caches) (length l.yielded) l.invariant.0 c.requires.known l.invariant.2.lists (omega (arith, end.1)))
    (held_done g.H.Hall.tells _ _ scans (vols_of l.packs.items) _ _ (length l.yielded) l.invariant.2 (omega (arith, end.1)) told)
