use Rattle.std.proofs.Common.{refl, ap}
use Rattle.free_rebuild.proofs.SettledBool.{settled_vtoc}
use Rattle.pds_directory.proofs.PackedTracks as directories
use Rattle.seq_access.specs.declared.read_buf.ReadBuf.{ReadBuf}
use Rattle.vol_model.specs.Shelf.{extend_on}
use Rattle.vtoc_index.proofs.KeptLemmas.{mounted_of}
use Rattle.pack_machine.proofs.Following.{extend_after}
use Rattle.pack_machine.proofs.Leaving.{leaves_vtoc, on_err}
use Rattle.seq_access.proofs.SparedFiles.{on_ok}
use Rattle.pack_machine.proofs.operations.extend_on.Goals as goal

pub extend_set-requires-clause-mounted : goal.extend_set-requires-clause-mounted
extend_set-requires-clause-mounted g c told = mounted_of _ _ (c.requires.ready.image told).kept.kept

pub extend_set-requires-clause-bodies : goal.extend_set-requires-clause-bodies
extend_set-requires-clause-bodies g c told = (c.requires.ready.image told).lists

pub extend_set-requires-clause-settled : goal.extend_set-requires-clause-settled
extend_set-requires-clause-settled g c told = settled_vtoc _ (c.requires.ready.image told).kept.settled

pub returns-clause-leaves : goal.returns-clause-leaves
returns-clause-leaves g c =
    let ran = c.extend_set.ensures in
    leaves_vtoc g.H.Hall.tells (extend_on c.args.dsn.now) (g.H.Hall.facts c.args.hall.now) (g.H.Hall.facts c.extend_set.new.hall) (g.H.Hall.meaning c.args.hall.now) (g.H.Hall.meaning c.extend_set.new.hall) c.args.pack.now _ c.extend_set.result
    c.requires.ready c.requires.durable ran.index ran.unit ran.faults
    ran.names ran.refused (λ is. absurd (ran.memory is)) (directories.extend_keeps c.args.dsn.now) ran.files
    (on_ok c.extend_set.result (λ w w' done lists. extend_after c.args.dsn.now w w' done c.args.pack.now.cache.unread.items lists)) (on_err c.extend_set.result refl)
    (ap (λ (b : ReadBuf). b.reach) c.forget.ensures) refl
