use Rattle.std.proofs.Common.{ap, ◌∙◌, rules}
use Rattle.free_rebuild.proofs.SettledBool.{settled_vtoc}
use Rattle.seq_access.specs.declared.read_buf.ReadBuf.{ReadBuf}
use Rattle.vol_model.specs.Shelf.{allocate_on}
use Rattle.vtoc_index.proofs.KeptLemmas.{mounted_of}
use Rattle.pack_machine.proofs.Leaving.{leaves_new, leaves_none, on_failed}
use Rattle.pack_machine.specs.declared.pack_cache.PackCache.{PackCache}
use Rattle.pack_machine.proofs.operations.allocate_on.Goals as goal

pub returns-then-is_catalog : goal.returns-then-is_catalog
returns-then-is_catalog g c = record {
  leaves = leaves_none g.H.Hall.tells (allocate_on c.args.dsn.now c.args.attr.now c.args.request.now c.args.dir) (g.H.Hall.facts c.args.hall.now) (g.H.Hall.meaning c.args.hall.now) c.args.pack.now c.requires.ready c.requires.durable
      (g.met.H.Hall.counts_now c.args.hall.now) (search rules);
}

pub allocate_set-requires-clause-mounted : goal.allocate_set-requires-clause-mounted
allocate_set-requires-clause-mounted g c told = mounted_of _ _ (c.requires.ready.image told).kept.kept

pub allocate_set-requires-clause-settled : goal.allocate_set-requires-clause-settled
allocate_set-requires-clause-settled g c told = settled_vtoc _ (c.requires.ready.image told).kept.settled

pub returns : goal.returns
returns g c =
    let ran = c.allocate_set.ensures in
    record {
      leaves = leaves_new g.H.Hall.tells c.args.dsn.now c.args.attr.now c.args.request.now c.args.dir (g.H.Hall.facts c.args.hall.now) (g.H.Hall.facts c.allocate_set.new.hall) (g.H.Hall.meaning c.args.hall.now) (g.H.Hall.meaning c.allocate_set.new.hall)
          c.args.pack.now _ c.allocate_set.result c.requires.ready c.requires.durable ran.index ran.unit
          ran.faults
          ran.names ran.refused ran.memory ran.files ran.directory ran.libraries
          (on_failed (λ (b : PackCache). b.libraries.items) c.allocate_set.new.known _ c.allocate_set.result ran.failed)
          (ap (λ (b : PackCache). b.buf.reach) ran.known ∙ ap (λ (b : ReadBuf). b.reach) c.forget.ensures) (ap (λ (b : PackCache). b.unread.items) ran.known);
    }
