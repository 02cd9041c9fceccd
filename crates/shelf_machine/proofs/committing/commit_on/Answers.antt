use Rattle.std.proofs.Common.{◌≡◌, ℕ, List, true, false, set, Some, refl, sym, ap, ◌∙◌, subst, arith}
use Rattle.std.specs.Prelude.{slice_get}
use Rattle.std.proofs.lemmas.Bool.Decides.{nat_tests}
use Rattle.std.proofs.lemmas.Result.{on_ok_weaker}
use Rattle.dadsm_ops.proofs.FoundSets.{set_found}
use Rattle.vol_model.specs.Writing.{blocks_for, writes}
use Rattle.vtoc_index.specs.declared.vol.Vol.{Vol}
use Rattle.seq_access.specs.Writing.{has_put}
use Rattle.shelf_machine.specs.Committing.{CommitsOn}
use Rattle.shelf_machine.specs.Known.{ForgetsOn}
use Rattle.shelf_machine.specs.Machine.{AreIndexes, AreInOrder, base_of, placed_in, units_of}
use Rattle.shelf_machine.specs.Opening.{names_of}
use Rattle.pack_machine.specs.Ready.{IsSamePack}
use Rattle.shelf_machine.specs.PutBlocks.{shelf_on}
use Rattle.shelf_machine.proofs.CommitOnPacks.{commits_by, commits_set, committed_on, order_same, synced_on}
use Rattle.shelf_machine.proofs.ForgottenTracks.{forgets}
use Rattle.pack_machine.proofs.ListPlaces.{get_map, set_itself, there}
use Rattle.shelf_machine.proofs.Operating.{base_same, indexes_after, order_after}
use Rattle.shelf_machine.proofs.Pendings.{writing_of}
use Rattle.shelf_machine.proofs.Settling.{base_called}
use Rattle.seq_access.proofs.SparedFiles.{on_ok}
use Rattle.hall_core.specs.Facts.{Attached}
use Rattle.shelf_machine.proofs.committing.commit_on.Given.{Over}
use Rattle.shelf_machine.specs.ReadyPacks.{caches_of, vols_of}
use Rattle.pack_machine.specs.declared.pack.Pack.{Pack}
use Rattle.pack_machine.specs.declared.pack_cache.PackCache.{PackCache}
use Rattle.shelf_machine.proofs.ReadyPacks.{bodies_in, held_in, index_vol, order_in, pack_of, vols_kept, vols_set}
use Rattle.shelf_machine.specs.PendingShelves.{kept_in}
use Rattle.pack_machine.proofs.OneVolume.{pack_same}
use Rattle.shelf_machine.proofs.committing.commit_on.Goals as goal

-- without blocks its pack is as it was, but for the track that was held of it
pub returns-then-writer-eq0-clause-shelf : goal.returns-then-writer-eq0-clause-shelf
returns-then-writer-eq0-clause-shelf g c told cs all =
    let packs = c.args.packs.now.items in
    let vols = vols_of packs in
    let known = caches_of packs in
    let k = c.from.result in
    let p : Pack = c.index_mut-pack.result.now in
    let w = c.args.writer in
    let m = g.H.Hall.meaning c.args.hall.now in
    let m' = g.H.Hall.meaning c.settle.new.hall in
    let f = g.H.Hall.facts c.args.hall.now in
    let f' = g.H.Hall.facts c.settle.new.hall in
    let at = there vols w.v c.requires.writer.slot.0 in
    let pend = c.requires.writer.pending told at.0 at.1 in
    let it = pack_of c.args.packs.now.items c.from.result _ c.index_mut-pack.result.now c.from.ensures c.requires.writer.slot.0 c.index_mut-pack.ensures.value in
    let b : PackCache = record (p.cache) { buf = c.forget.new.self } in
    let forgot = subst (λ (n : ℕ). ForgetsOn n known (set known k b)) c.from.ensures (forgets known k p.cache b (get_map (λ (q : Pack). q.cache) packs k p it) (ap (λ r. record (p.cache) { buf = r }) c.forget.ensures)) in
    let none : has_put w.inner ≡ false = grind (arith, nat_tests) in
    let placed = placed_in m.state f.units vols w in
    let op = writes placed.target (blocks_for (shelf_on m.state f.units vols) placed.target cs) in
    let names = names_of f.units (units_of vols) in
    commits_set packs k _ op names f'.units m m' c.settle.result
    (subst (λ (vs : List Vol). CommitsOn op names (names_of f'.units (units_of vs)) f'.units vols vs (set known k b) m m' c.settle.result) (sym (set_itself vols k p.vol (get_map (λ (q : Pack). q.vol) packs k p it)))
    (synced_on f f' vols c.requires.writer.ready.indexes m m'
    (g.met.H.Hall.counts_now c.args.hall.now) (g.met.H.Hall.leaves_state c.args.hall.now) (kept_in c.requires.writer.ready told) w at.0 at.1 (c.requires.writer.slot.1 at.0 at.1) c.settle.ensures.faults.units pend.0 pend.1
    known (set known k b) forgot (held_in c.requires.writer.ready told) (bodies_in c.requires.writer.ready told) cs all c.settle.result (c.settle.ensures.files told) none))

-- its indexes are those of before
still : (g : Over) (c : goal.After-settle g) → slice_get c.args.packs.now.items c.from.result ≡ Some c.index_mut-pack.result.now
still g c = pack_of c.args.packs.now.items c.from.result _ c.index_mut-pack.result.now c.from.ensures c.requires.writer.slot.0 c.index_mut-pack.ensures.value

pub returns-then-writer-eq0-clause-indexes : goal.returns-then-writer-eq0-clause-indexes
returns-then-writer-eq0-clause-indexes g c =
    subst (AreIndexes (g.H.Hall.facts c.settle.new.hall).units) (sym (vols_kept c.args.packs.now.items c.from.result c.index_mut-pack.result.now _ (still g c) refl))
    (subst (λ (us : List Attached). AreIndexes us (vols_of c.args.packs.now.items)) (sym c.settle.ensures.faults.units) c.requires.writer.ready.indexes)

pub returns-then-writer-eq0-clause-order : goal.returns-then-writer-eq0-clause-order
returns-then-writer-eq0-clause-order g c =
    on_ok c.settle.result (subst AreInOrder (sym (vols_kept c.args.packs.now.items c.from.result c.index_mut-pack.result.now _ (still g c) refl)) (order_in c.requires.writer.ready))

pub returns-then-writer-eq0-clause-base : goal.returns-then-writer-eq0-clause-base
returns-then-writer-eq0-clause-base g c =
    let new = g.H.Hall.facts c.settle.new.hall in
    ap (base_of new) (vols_kept c.args.packs.now.items c.from.result c.index_mut-pack.result.now _ (still g c) refl)
    ∙ base_called (g.H.Hall.facts c.args.hall.now) new (vols_of c.args.packs.now.items) c.settle.ensures.faults.references c.settle.ensures.faults.units

pub commit-requires-clause-unit : goal.commit-requires-clause-unit
commit-requires-clause-unit g c = (c.requires.writer.ready.each c.from.result c.index_mut-pack.result.now (pack_of c.args.packs.now.items c.from.result _ c.index_mut-pack.result.now c.from.ensures c.requires.writer.slot.0 c.index_mut-pack.ensures.value)).unit

pub commit-requires-clause-slot : goal.commit-requires-clause-slot
commit-requires-clause-slot g c =
    let v = c.index_mut-pack.result.now.vol in
    let here = index_vol c.args.packs.now.items c.from.result _ c.index_mut-pack.result.now c.from.ensures c.requires.writer.slot.0 c.index_mut-pack.ensures.value in
    (set_found c.args.writer.dsn.bytes v.slots.items c.args.writer.inner.slot (c.requires.writer.slot.1 v here).0).low

pub commit-requires-clause-writing : goal.commit-requires-clause-writing
commit-requires-clause-writing g c told =
    let v = c.index_mut-pack.result.now.vol in
    let w = c.args.writer in
    let here = index_vol c.args.packs.now.items c.from.result _ c.index_mut-pack.result.now c.from.ensures c.requires.writer.slot.0 c.index_mut-pack.ensures.value in
    let found = set_found w.dsn.bytes v.slots.items w.inner.slot (c.requires.writer.slot.1 v here).0 in
    writing_of _ v found.f w.inner (kept_in c.requires.writer.ready told w.v v here).kept found.set ((c.requires.writer.pending told v here).0.writing found.f found.set)

-- the pack of the writer's number, and its index
it_there : (g : Over) (c : goal.After-packs-2-1 g) → slice_get c.args.packs.now.items c.from.result ≡ Some c.index_mut-pack.result.now
it_there g c = pack_of c.args.packs.now.items c.from.result _ c.index_mut-pack.result.now c.from.ensures c.requires.writer.slot.0 c.index_mut-pack.ensures.value

now_here : (g : Over) (c : goal.After-packs-2-1 g) → slice_get (vols_of c.args.packs.now.items) c.from.result ≡ Some c.index_mut-pack.result.now.vol
now_here g c = get_map (λ (p : Pack). p.vol) c.args.packs.now.items c.from.result c.index_mut-pack.result.now (it_there g c)

alike : (g : Over) (c : goal.After-packs-2-1 g) → IsSamePack c.index_mut-pack.result.now.vol c.commit.new.vol
alike g c = pack_same c.index_mut-pack.result.now.vol c.commit.new.vol c.commit.ensures.others

pub returns-clause-shelf : goal.returns-clause-shelf
returns-clause-shelf g c told cs all =
    let packs = c.args.packs.now.items in
    let vols = vols_of packs in
    let known = caches_of packs in
    let k = c.from.result in
    let p : Pack = c.index_mut-pack.result.now in
    let b : PackCache = record (p.cache) { buf = c.forget.new.self } in
    let known' = set known k b in
    let w = c.args.writer in
    let v = p.vol in
    let v' = c.commit.new.vol in
    let m = g.H.Hall.meaning c.args.hall.now in
    let m' = g.H.Hall.meaning c.commit.new.hall in
    let f = g.H.Hall.facts c.args.hall.now in
    let f' = g.H.Hall.facts c.commit.new.hall in
    let counts = g.met.H.Hall.counts_now c.args.hall.now in
    let left = g.met.H.Hall.leaves_state c.args.hall.now in
    let at = index_vol c.args.packs.now.items c.from.result _ c.index_mut-pack.result.now c.from.ensures c.requires.writer.slot.0 c.index_mut-pack.ensures.value in
    let slot = c.requires.writer.slot.1 v at in
    let pend = c.requires.writer.pending told v at in
    let units = c.commit.ensures.faults.units in
    let forgot = subst (λ (n : ℕ). ForgetsOn n known known') c.from.ensures (forgets known k p.cache b (get_map (λ (q : Pack). q.cache) packs k p (it_there g c)) (ap (λ r. record (p.cache) { buf = r }) c.forget.ensures)) in
    let put : has_put w.inner ≡ true = grind (arith, nat_tests) in
    let held = held_in c.requires.writer.ready told in
    let bodies = bodies_in c.requires.writer.ready told in
    let commits = commits_by f f' vols c.requires.writer.ready.indexes m m' counts left (kept_in c.requires.writer.ready told) w v at slot units pend.0 pend.1 known known' forgot held bodies cs all v' c.commit.result (c.commit.ensures.files told put) in
    let placed = placed_in m.state f.units vols w in
    let shelf = shelf_on m.state f.units vols in
    commits_set packs k _ (writes placed.target (blocks_for shelf placed.target cs)) (names_of f.units (units_of vols)) f'.units m m' c.commit.result
    (subst (λ (n : ℕ). CommitsOn (writes placed.target (blocks_for shelf placed.target cs)) (names_of f.units (units_of vols)) (names_of f'.units (units_of (set vols n v'))) f'.units vols (set vols n v') known' m m' c.commit.result) (sym c.from.ensures)
    (committed_on f f' vols c.requires.writer.ready.indexes m m' counts left (kept_in c.requires.writer.ready told) w v at slot units pend.0 pend.1 known known' forgot held bodies cs v' (alike g c) c.commit.result commits
    (g.met.H.Hall.only_now c.args.hall.now) (g.met.H.Hall.counts_now c.commit.new.hall) (g.met.H.Hall.leaves_state c.commit.new.hall)))

pub returns-clause-indexes : goal.returns-clause-indexes
returns-clause-indexes g c =
    subst (AreIndexes (g.H.Hall.facts c.commit.new.hall).units) (sym (vols_set c.args.packs.now.items c.from.result _))
    (indexes_after (g.H.Hall.facts c.args.hall.now) (g.H.Hall.facts c.commit.new.hall) (vols_of c.args.packs.now.items) c.from.result
    c.index_mut-pack.result.now.vol c.commit.new.vol (now_here g c) (alike g c) c.commit.ensures.faults.units c.requires.writer.ready.indexes c.commit.ensures.unit)

pub returns-clause-order : goal.returns-clause-order
returns-clause-order g c = on_ok_weaker c.commit.result (λ names. subst AreInOrder (sym (vols_set c.args.packs.now.items c.from.result _)) (order_after (g.H.Hall.facts c.args.hall.now) (g.H.Hall.facts c.commit.new.hall) (vols_of c.args.packs.now.items) c.from.result
    c.index_mut-pack.result.now.vol c.commit.new.vol (now_here g c) (alike g c) c.commit.ensures.faults.units (order_in c.requires.writer.ready)
    (order_same c.index_mut-pack.result.now.vol c.commit.new.vol c.commit.ensures.others names (order_in c.requires.writer.ready c.from.result c.index_mut-pack.result.now.vol (now_here g c))))) c.commit.ensures.names

pub returns-clause-base : goal.returns-clause-base
returns-clause-base g c =
    ap (base_of (g.H.Hall.facts c.commit.new.hall)) (vols_set c.args.packs.now.items c.from.result _)
    ∙ base_same (g.H.Hall.facts c.args.hall.now) (g.H.Hall.facts c.commit.new.hall) (vols_of c.args.packs.now.items) c.from.result
    c.index_mut-pack.result.now.vol c.commit.new.vol (now_here g c) (alike g c) c.commit.ensures.faults.units c.commit.ensures.faults.references
