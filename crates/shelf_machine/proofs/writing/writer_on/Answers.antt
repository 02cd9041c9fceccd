use Rattle.std.proofs.Common.{◌≡◌, Some, sym, ap, ◌∙◌, arith}
use Rattle.std.specs.Prelude.{slice_get}
use Rattle.shelf_machine.specs.ReadyPacks.{caches_of, vols_of}
use Rattle.pack_machine.specs.declared.pack.Pack.{Pack}
use Rattle.pack_machine.proofs.ListPlaces.{get_map, set_itself}
use Rattle.shelf_machine.proofs.OpenedWriters.{begun_on, slot_opened}
use Rattle.shelf_machine.proofs.ReadyPacks.{caches_set, pack_at, vols_kept}
use Rattle.shelf_machine.proofs.writing.writer_on.Given.{Over}
use Rattle.shelf_machine.proofs.writing.writer_on.Goals as goal

pub writer_at-requires : goal.writer_at-requires
writer_at-requires g c = record { names = c.requires.order c.from-k.result c.index_mut.result.now.vol (get_map (λ (p : Pack). p.vol) c.args.packs.now.items c.from-k.result c.index_mut.result.now (pack_at c.args.packs.now.items c.from-k.result c.index_mut.result.now (omega (arith, c.if-k-len.false, c.len.ensures)) c.index_mut.ensures.value)) }

-- the pack of this number, after the opening
there : (g : Over) (c : goal.After-packs-1 g) → slice_get c.args.packs.now.items c.from-k.result ≡ Some c.index_mut.result.now
there g c = pack_at c.args.packs.now.items c.from-k.result c.index_mut.result.now (omega (arith, c.if-k-len.false, c.len.ensures)) c.index_mut.ensures.value

at : (g : Over) (c : goal.After-packs-1 g) → slice_get (vols_of c.args.packs.now.items) c.args.v ≡ Some c.index_mut.result.now.vol
at g c = ap (slice_get (vols_of c.args.packs.now.items)) (sym c.from-k.ensures) ∙ get_map (λ (p : Pack). p.vol) c.args.packs.now.items c.from-k.result c.index_mut.result.now (there g c)

pub returns-clause-slot : goal.returns-clause-slot
returns-clause-slot g c = slot_opened c.args.v c.args.dsn.now c.args.mode (vols_of c.args.packs.now.items) c.index_mut.result.now.vol (at g c) c.writer_at.result c.writer_at.ensures.target c.writer_at.ensures.slot

pub returns-clause-begun : goal.returns-clause-begun
returns-clause-begun g c files attached indexes kept none begins =
    begun_on c.args.v c.args.dsn.now c.args.mode (vols_of c.args.packs.now.items) c.index_mut.result.now.vol (at g c) files attached c.writer_at.result c.args.front indexes kept c.writer_at.ensures.target c.writer_at.ensures.begun none begins

pub returns-clause-same : goal.returns-clause-same
returns-clause-same g c =
    let packs = c.args.packs.now.items in
    let k = c.from-k.result in
    let p : Pack = c.index_mut.result.now in
    record {
      vols = vols_kept packs k p _ (there g c) c.writer_at.ensures.same.1;
      caches = caches_set packs k _ ∙ set_itself (caches_of packs) k p.cache (get_map (λ (q : Pack). q.cache) packs k p (there g c));
    }
