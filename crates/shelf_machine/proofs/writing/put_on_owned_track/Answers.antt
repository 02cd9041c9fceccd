-- A put on the pack of the open writer, by what the call on the index of that pack ensures.
use Rattle.std.proofs.Common.{◌≡◌, List, Some, set, ℕ, sym, ap, ap₂, subst, ◌∙◌}
use Rattle.std.specs.Prelude.{IsTrue, slice_get}
use Rattle.hall_core.specs.Facts.{unit_of}
use Rattle.vtoc_index.specs.declared.vol.Vol.{Vol}
use Rattle.dadsm_ops.proofs.FoundSets.{set_found}
use Rattle.vol_model.specs.declared.contents.Shelf.{Shelf}
use Rattle.shelf_machine.specs.Known.{ForgetsOn, KnowsBodies}
use Rattle.shelf_machine.specs.Machine.{AreIndexes, base_of, placed_in, shelf_under, units_of}
use Rattle.shelf_machine.specs.Opening.{names_of}
use Rattle.shelf_machine.specs.Pending.{HasSlot}
use Rattle.shelf_machine.specs.PendingShelves.{kept_in}
use Rattle.shelf_machine.specs.Putting.{DidPut, PutsOn}
use Rattle.shelf_machine.specs.ReadyPacks.{caches_of, vols_of}
use Rattle.pack_machine.specs.declared.pack.Pack.{Pack}
use Rattle.pack_machine.specs.declared.pack_cache.PackCache.{PackCache}
use Rattle.shelf_machine.specs.declared.writer.Writer.{Writer}
use Rattle.shelf_machine.proofs.ForgottenTracks.{forgets, knows_still}
use Rattle.pack_machine.proofs.ListPlaces.{get_map}
use Rattle.shelf_machine.proofs.Machines.{same_base}
use Rattle.shelf_machine.proofs.OwnedPuts.{Puts, base_put, indexes_put, writing_here, order_put, owned_did, owned_puts, slot_put}
use Rattle.shelf_machine.proofs.ReadyPacks.{bodies_in, held_in, index_vol, order_in, pack_of, ready_set, vols_set}
use Rattle.shelf_machine.proofs.PutOnPacks.{puts_set}
use Rattle.shelf_machine.proofs.writing.put_on_owned_track.Given.{Over}
use Rattle.shelf_machine.proofs.writing.put_on_owned_track.Goals as goal

pub put-requires-clause-unit : goal.put-requires-clause-unit
put-requires-clause-unit g c = (c.requires.writer.ready.each c.from.result c.index_mut-pack.result.now (pack_of c.args.packs.now.items c.from.result _ c.index_mut-pack.result.now c.from.ensures c.requires.writer.slot.0 c.index_mut-pack.ensures.value)).unit

pub put-requires-clause-slot : goal.put-requires-clause-slot
put-requires-clause-slot g c =
    let v = c.index_mut-pack.result.now.vol in
    let here = index_vol c.args.packs.now.items c.from.result _ c.index_mut-pack.result.now c.from.ensures c.requires.writer.slot.0 c.index_mut-pack.ensures.value in
    (set_found c.args.writer.now.dsn.bytes v.slots.items c.args.writer.now.inner.slot (c.requires.writer.slot.1 v here).0).low

pub put-requires-clause-writing : goal.put-requires-clause-writing
put-requires-clause-writing g c told =
    writing_here (g.H.Hall.facts c.args.hall.now) (vols_of c.args.packs.now.items) (g.H.Hall.meaning c.args.hall.now) (kept_in c.requires.writer.ready told) c.args.writer.now c.index_mut-pack.result.now.vol
    (index_vol c.args.packs.now.items c.from.result _ c.index_mut-pack.result.now c.from.ensures c.requires.writer.slot.0 c.index_mut-pack.ensures.value) c.requires.writer.slot (c.requires.writer.pending told)

-- the pack of the writer's number, and its index
there : (g : Over) (c : goal.After-packs-1 g) → slice_get c.args.packs.now.items c.from.result ≡ Some c.index_mut-pack.result.now
there g c = pack_of c.args.packs.now.items c.from.result _ c.index_mut-pack.result.now c.from.ensures c.requires.writer.slot.0 c.index_mut-pack.ensures.value

here : (g : Over) (c : goal.After-packs-1 g) → slice_get (vols_of c.args.packs.now.items) c.from.result ≡ Some c.index_mut-pack.result.now.vol
here g c = get_map (λ (p : Pack). p.vol) c.args.packs.now.items c.from.result c.index_mut-pack.result.now (there g c)

at : (g : Over) (c : goal.After-packs-1 g) → slice_get (vols_of c.args.packs.now.items) c.args.writer.now.v ≡ Some c.index_mut-pack.result.now.vol
at g c = index_vol c.args.packs.now.items c.from.result _ c.index_mut-pack.result.now c.from.ensures c.requires.writer.slot.0 c.index_mut-pack.ensures.value

-- what is known of it, without its track
abbrev forgotten : (g : Over) (c : goal.After-packs-1 g) → PackCache
forgotten g c = record (c.index_mut-pack.result.now.cache) { buf = c.forget.new.self }

forgot : (g : Over) (c : goal.After-packs-1 g) → ForgetsOn c.from.result (caches_of c.args.packs.now.items) (set (caches_of c.args.packs.now.items) c.from.result (forgotten g c))
forgot g c =
    let p : Pack = c.index_mut-pack.result.now in
    forgets (caches_of c.args.packs.now.items) c.from.result p.cache (forgotten g c) (get_map (λ (q : Pack). q.cache) c.args.packs.now.items c.from.result p (there g c)) (ap (λ r. record (p.cache) { buf = r }) c.forget.ensures)

puts : (g : Over) (c : goal.After-packs-1 g) (told : IsTrue g.H.Hall.tells)
    → Puts (writing_here (g.H.Hall.facts c.args.hall.now) (vols_of c.args.packs.now.items) (g.H.Hall.meaning c.args.hall.now) (kept_in c.requires.writer.ready told) c.args.writer.now c.index_mut-pack.result.now.vol (at g c) c.requires.writer.slot (c.requires.writer.pending told))
    (unit_of (g.H.Hall.facts c.args.hall.now).units c.index_mut-pack.result.now.vol.unit).name (unit_of (g.H.Hall.facts c.put.new.hall).units c.index_mut-pack.result.now.vol.unit).name (c.args.key.now, c.args.payload.now)
    c.put.new.vol c.put.new.writer (g.H.Hall.meaning c.args.hall.now) (g.H.Hall.meaning c.put.new.hall) c.put.result
puts g c told =
    let stands = writing_here (g.H.Hall.facts c.args.hall.now) (vols_of c.args.packs.now.items) (g.H.Hall.meaning c.args.hall.now) (kept_in c.requires.writer.ready told) c.args.writer.now c.index_mut-pack.result.now.vol (at g c) c.requires.writer.slot (c.requires.writer.pending told) in record {
      put = c.put.ensures.put told;
      spares = c.put.ensures.spares told stands;
      long = c.put.ensures.long;
      short = c.put.ensures.short;
      need = λ need. c.put.ensures.need told need stands;
      long_same = λ long. ap (λ h. (g.H.Hall.meaning h).state) (c.put.ensures.long_same long).0;
      need_same = λ need. (c.put.ensures.refused told need).state;
      mounted = c.put.ensures.mounted told;
      writer = c.put.ensures.writer;
      slot = c.put.ensures.slot;
    }

files : (g : Over) (c : goal.After-packs-1 g) (told : IsTrue g.H.Hall.tells)
    → PutsOn (names_of (g.H.Hall.facts c.args.hall.now).units (units_of (vols_of c.args.packs.now.items))) (g.H.Hall.facts c.put.new.hall).units (vols_of c.args.packs.now.items) (set (vols_of c.args.packs.now.items) c.from.result c.put.new.vol)
    (set (caches_of c.args.packs.now.items) c.from.result (forgotten g c)) (record (c.args.writer.now) { inner = c.put.new.writer }) (g.H.Hall.meaning c.args.hall.now) (g.H.Hall.meaning c.put.new.hall) c.put.result
files g c told =
    let vols = vols_of c.args.packs.now.items in
    let known = caches_of c.args.packs.now.items in
    let known' = set known c.from.result (forgotten g c) in
    let old = g.H.Hall.facts c.args.hall.now in
    let new = g.H.Hall.facts c.put.new.hall in
    let m = g.H.Hall.meaning c.args.hall.now in
    let m' = g.H.Hall.meaning c.put.new.hall in
    let w : Writer = c.args.writer.now in
    let w' : Writer = record w { inner = c.put.new.writer } in
    let number = c.from.ensures in
    subst (λ (k : ℕ). PutsOn (names_of old.units (units_of vols)) new.units vols (set vols k c.put.new.vol) known' w' m m' c.put.result) (sym number)
    (owned_puts old vols m (kept_in c.requires.writer.ready told) w c.index_mut-pack.result.now.vol (at g c) c.requires.writer.slot (c.requires.writer.pending told) new c.requires.writer.ready.indexes m'
    (g.met.H.Hall.counts_now c.args.hall.now) (g.met.H.Hall.leaves_state c.args.hall.now) c.put.ensures.faults.units
    (c.args.key.now, c.args.payload.now) c.requires.due c.put.new.vol c.put.ensures.others c.put.new.writer c.put.result (puts g c told)
    known known' (subst (λ (k : ℕ). ForgetsOn k known known') number (forgot g c)) (held_in c.requires.writer.ready told))

pub returns-clause-files : goal.returns-clause-files
returns-clause-files g c told =
    let packs = c.args.packs.now.items in
    let vols = vols_of packs in
    let names = names_of (g.H.Hall.facts c.args.hall.now).units (units_of vols) in
    let us = (g.H.Hall.facts c.put.new.hall).units in
    let w' : Writer = record (c.args.writer.now) { inner = c.put.new.writer } in
    let m = g.H.Hall.meaning c.args.hall.now in
    let m' = g.H.Hall.meaning c.put.new.hall in
    puts_set packs c.from.result _ names us w' m m' c.put.result (files g c told)

pub returns-clause-did : goal.returns-clause-did
returns-clause-did g c told =
    let packs = c.args.packs.now.items in
    let vols = vols_of packs in
    let old = g.H.Hall.facts c.args.hall.now in
    let new = g.H.Hall.facts c.put.new.hall in
    let m = g.H.Hall.meaning c.args.hall.now in
    let m' = g.H.Hall.meaning c.put.new.hall in
    let w : Writer = c.args.writer.now in
    let w' : Writer = record w { inner = c.put.new.writer } in
    let number = c.from.ensures in
    subst (λ (vs : List Vol). DidPut (shelf_under (names_of old.units (units_of vols)) m.state) (placed_in m.state old.units vols w) (c.args.key.now, c.args.payload.now) (placed_in m'.state new.units vs w') c.put.result) (sym (vols_set packs c.from.result _))
    (subst (λ (k : ℕ). DidPut (shelf_under (names_of old.units (units_of vols)) m.state) (placed_in m.state old.units vols w) (c.args.key.now, c.args.payload.now)
    (placed_in m'.state new.units (set vols k c.put.new.vol) w') c.put.result) (sym number)
    (owned_did old vols m (kept_in c.requires.writer.ready told) w c.index_mut-pack.result.now.vol (at g c) c.requires.writer.slot (c.requires.writer.pending told) new c.requires.writer.ready.indexes m'
    (g.met.H.Hall.counts_now c.args.hall.now) (g.met.H.Hall.leaves_state c.args.hall.now) c.put.ensures.faults.units
    (c.args.key.now, c.args.payload.now) c.requires.due c.put.new.vol c.put.ensures.others c.put.new.writer c.put.result (puts g c told)))

indexes : (g : Over) (c : goal.After-packs-1 g) → AreIndexes (g.H.Hall.facts c.put.new.hall).units (set (vols_of c.args.packs.now.items) c.from.result c.put.new.vol)
indexes g c =
    indexes_put (g.H.Hall.facts c.args.hall.now) (g.H.Hall.facts c.put.new.hall) (vols_of c.args.packs.now.items) c.from.result c.index_mut-pack.result.now.vol c.put.new.vol (here g c)
    c.put.ensures.others c.put.ensures.faults.units c.requires.writer.ready.indexes c.put.ensures.unit

base : (g : Over) (c : goal.After-packs-1 g) → base_of (g.H.Hall.facts c.put.new.hall) (set (vols_of c.args.packs.now.items) c.from.result c.put.new.vol) ≡ base_of (g.H.Hall.facts c.args.hall.now) (vols_of c.args.packs.now.items)
base g c =
    base_put (g.H.Hall.facts c.args.hall.now) (g.H.Hall.facts c.put.new.hall) (vols_of c.args.packs.now.items) c.from.result c.index_mut-pack.result.now.vol c.put.new.vol (here g c)
    c.put.ensures.others c.put.ensures.faults.units c.put.ensures.faults.references

pub returns-clause-indexes : goal.returns-clause-indexes
returns-clause-indexes g c = subst (AreIndexes (g.H.Hall.facts c.put.new.hall).units) (sym (vols_set c.args.packs.now.items c.from.result _)) (indexes g c)

pub returns-clause-slot : goal.returns-clause-slot
returns-clause-slot g c =
    subst (λ (vs : List Vol). HasSlot vs (Some (record (c.args.writer.now) { inner = c.put.new.writer }))) (sym (vols_set c.args.packs.now.items c.from.result _))
    (slot_put (vols_of c.args.packs.now.items) c.from.result c.index_mut-pack.result.now.vol c.put.new.vol (here g c) c.put.ensures.others
    c.args.writer.now c.put.new.writer (sym c.from.ensures) c.put.ensures.slot c.requires.writer.slot)

pub returns-clause-base : goal.returns-clause-base
returns-clause-base g c = ap (base_of (g.H.Hall.facts c.put.new.hall)) (vols_set c.args.packs.now.items c.from.result _) ∙ base g c

pub returns-clause-ready : goal.returns-clause-ready
returns-clause-ready g c fit =
    let packs = c.args.packs.now.items in
    let vols = vols_of packs in
    let known = caches_of packs in
    let k = c.from.result in
    let old = g.H.Hall.facts c.args.hall.now in
    let new = g.H.Hall.facts c.put.new.hall in
    let m = g.H.Hall.meaning c.args.hall.now in
    let m' = g.H.Hall.meaning c.put.new.hall in
    let known' = set known k (forgotten g c) in
    let vols' = set vols k c.put.new.vol in
    let same = same_base old new vols vols' (base g c) in
    let names : names_of new.units (units_of vols') ≡ names_of old.units (units_of vols) = ap₂ names_of same.attached same.numbers in
    ready_set g.H.Hall.tells new m' packs k _ (indexes g c)
    (order_put old new vols k c.index_mut-pack.result.now.vol c.put.new.vol (here g c) c.put.ensures.others c.put.ensures.faults.units (order_in c.requires.writer.ready))
    (λ told. (files g c told).kept fit)
    (λ told. subst (λ (s : Shelf). KnowsBodies s known') (sym (ap (λ (ns : List (List ℕ)). shelf_under ns m'.state) names ∙ (files g c told).state))
    (knows_still k known known' (forgot g c) (shelf_under (names_of old.units (units_of vols)) m.state) (bodies_in c.requires.writer.ready told)))
    (λ told. (files g c told).held fit)
