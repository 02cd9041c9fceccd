use Rattle.std.proofs.Common.{refl, sym, ap, subst}
use Rattle.std.specs.Prelude.{Ok, Err}
use Rattle.pds_directory.proofs.PackedTracks as directories
use Rattle.seq_access.specs.declared.read_buf.ReadBuf.{ReadBuf}
use Rattle.vol_model.specs.Shelf.{scratch_on}
use Rattle.vtoc_index.proofs.KeptLemmas.{mounted_of}
use Rattle.pack_machine.specs.Known.{ListsBroken}
use Rattle.pack_machine.proofs.Following.{scratch_after}
use Rattle.pack_machine.proofs.Leaving.{leaves_vtoc}
use Rattle.pack_machine.proofs.operations.scratch_on.Goals as goal

pub scratch_set-requires-clause-mounted : goal.scratch_set-requires-clause-mounted
scratch_set-requires-clause-mounted g c told = mounted_of _ _ (c.requires.ready.image told).kept.kept

pub returns-in-Ok : goal.returns-in-Ok
returns-in-Ok g c =
    let ran = c.in-Ok.ensures in
    record {
      leaves = leaves_vtoc g.H.Hall.tells (scratch_on c.args.dsn.now) (g.H.Hall.facts c.args.hall.now) (g.H.Hall.facts c.scratch_set.new.hall) (g.H.Hall.meaning c.args.hall.now) (g.H.Hall.meaning c.scratch_set.new.hall) c.args.pack.now _ (Ok tt)
          c.requires.ready c.requires.durable ran.index ran.unit ran.faults
          ran.names (λ why is. absurd cc) (λ is. absurd cc) (directories.scratch_keeps c.args.dsn.now) ran.files
          (λ w w' done lists. subst (ListsBroken w') (sym c.forget-in-Ok.ensures) (scratch_after c.args.dsn.now w w' done c.args.pack.now.cache.unread.items lists)) tt
          (ap (λ (b : ReadBuf). b.reach) c.forget.ensures) refl;
    }

pub returns-in-Err : goal.returns-in-Err
returns-in-Err g c =
    let ran = c.in-Err.ensures in
    record {
      leaves = leaves_vtoc g.H.Hall.tells (scratch_on c.args.dsn.now) (g.H.Hall.facts c.args.hall.now) (g.H.Hall.facts c.scratch_set.new.hall) (g.H.Hall.meaning c.args.hall.now) (g.H.Hall.meaning c.scratch_set.new.hall) c.args.pack.now _ (Err c.in-Err.error)
          c.requires.ready c.requires.durable ran.index ran.unit ran.faults
          tt ran.refused (λ is. absurd (ran.memory is)) (directories.scratch_keeps c.args.dsn.now) ran.files
          tt refl (ap (λ (b : ReadBuf). b.reach) c.forget.ensures) refl;
    }
