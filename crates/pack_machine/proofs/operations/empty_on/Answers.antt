use Rattle.std.proofs.Common.{refl, ap}
use Rattle.pds_directory.proofs.PackedTracks as directories
use Rattle.seq_access.specs.declared.read_buf.ReadBuf.{ReadBuf}
use Rattle.vol_model.specs.Shelf.{empty_on}
use Rattle.vtoc_index.proofs.KeptLemmas.{mounted_of}
use Rattle.pack_machine.proofs.Following.{empty_after}
use Rattle.pack_machine.proofs.Leaving.{leaves_vtoc, on_err}
use Rattle.seq_access.proofs.SparedFiles.{on_ok}
use Rattle.pack_machine.proofs.operations.empty_on.Goals as goal

pub empty_set-requires-clause-mounted : goal.empty_set-requires-clause-mounted
empty_set-requires-clause-mounted g c told = mounted_of _ _ (c.requires.ready.image told).kept.kept

pub empty_set-requires-clause-bodies : goal.empty_set-requires-clause-bodies
empty_set-requires-clause-bodies g c told = (c.requires.ready.image told).lists

pub empty_set-requires-clause-library : goal.empty_set-requires-clause-library
empty_set-requires-clause-library g c told = (c.requires.ready.image told).held.libraries

pub returns : goal.returns
returns g c =
    let ran = c.empty_set.ensures in
    record {
      leaves = leaves_vtoc g.H.Hall.tells (empty_on c.args.dsn.now c.args.attr.now) (g.H.Hall.facts c.args.hall.now) (g.H.Hall.facts c.empty_set.new.hall) (g.H.Hall.meaning c.args.hall.now) (g.H.Hall.meaning c.empty_set.new.hall) c.args.pack.now _ c.empty_set.result
          c.requires.ready c.requires.durable ran.index ran.unit ran.faults
          ran.names ran.refused ran.memory (directories.empty_keeps c.args.dsn.now c.args.attr.now) ran.files
          (on_ok c.empty_set.result (λ w w' done lists. empty_after c.args.dsn.now c.args.attr.now w w' done c.args.pack.now.cache.unread.items lists)) (on_err c.empty_set.result refl)
          (ap (λ (b : ReadBuf). b.reach) c.forget.ensures) refl;
    }
