use Rattle.std.proofs.Common.{◌≡◌, refl, sym, ap, subst, vec_capacity}
use Rattle.std.specs.Prelude.{Ok, Err}
use Rattle.pds_directory.proofs.PackedTracks as directories
use Rattle.seq_access.specs.declared.read_buf.ReadBuf.{ReadBuf}
use Rattle.vol_model.specs.Shelf.{rename_on}
use Rattle.vtoc_index.proofs.KeptLemmas.{mounted_of}
use Rattle.vtoc_index.specs.declared.vol.Vol.{Vol}
use Rattle.pack_machine.specs.Known.{ListsBroken}
use Rattle.pack_machine.specs.Ready.{IsSamePack}
use Rattle.pack_machine.proofs.Following.{rename_after}
use Rattle.pack_machine.proofs.Leaving.{leaves_vtoc}
use Rattle.pack_machine.proofs.operations.rename_on.Goals as goal

-- an index with other slots is one of the same pack
alike : (v v' : Vol) → v' ≡ record v { slots = v'.slots; by_name = v'.by_name; buf = v'.buf } → IsSamePack v v'
alike v v' is = record {
  unit = ap (λ (w : Vol). w.unit) is;
  serial = ap (λ (w : Vol). w.serial.bytes) is;
  geometry = ap (λ (w : Vol). w.geometry) is;
  vtoc = ap (λ (w : Vol). w.vtoc) is;
  room = ap (λ (w : Vol). vec_capacity w.free) is;
}

pub rename-requires-clause-mounted : goal.rename-requires-clause-mounted
rename-requires-clause-mounted g c told = mounted_of _ _ (c.requires.ready.image told).kept.kept

pub returns-in-Ok : goal.returns-in-Ok
returns-in-Ok g c =
    let ran = c.in-Ok.ensures in
    record {
      leaves = leaves_vtoc g.H.Hall.tells (rename_on c.args.old.now c.args.new.now) (g.H.Hall.facts c.args.hall.now) (g.H.Hall.facts c.rename.new.hall) (g.H.Hall.meaning c.args.hall.now) (g.H.Hall.meaning c.rename.new.hall) c.args.pack.now _ (Ok tt)
          c.requires.ready c.requires.durable (alike c.args.pack.now.vol c.rename.new.vol ran.index) ran.unit ran.faults
          ran.names (λ why is. absurd cc) (λ is. absurd cc) (directories.rename_keeps c.args.old.now c.args.new.now) ran.files
          (λ w w' done lists. subst (ListsBroken w') (sym c.rename-in-Ok.ensures) (rename_after c.args.old.now c.args.new.now w w' done c.args.pack.now.cache.unread.items lists)) tt
          (ap (λ (b : ReadBuf). b.reach) c.forget.ensures) refl;
    }

pub returns-in-Err : goal.returns-in-Err
returns-in-Err g c =
    let ran = c.in-Err.ensures in
    record {
      leaves = leaves_vtoc g.H.Hall.tells (rename_on c.args.old.now c.args.new.now) (g.H.Hall.facts c.args.hall.now) (g.H.Hall.facts c.rename.new.hall) (g.H.Hall.meaning c.args.hall.now) (g.H.Hall.meaning c.rename.new.hall) c.args.pack.now _ (Err c.in-Err.error)
          c.requires.ready c.requires.durable (alike c.args.pack.now.vol c.rename.new.vol ran.index) ran.unit ran.faults
          tt (λ why is. (ran.refused why is).1) (λ is. absurd (ran.memory is)) (directories.rename_keeps c.args.old.now c.args.new.now) ran.files
          tt refl (ap (λ (b : ReadBuf). b.reach) c.forget.ensures) refl;
    }
