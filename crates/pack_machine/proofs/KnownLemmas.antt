-- What is held of a pack where nothing is.
use Rattle.std.proofs.Common.{◌≡◌, ℕ, List, sym, subst}
use Rattle.seq_access.specs.Reading.{AreRead, HoldsTrack}
use Rattle.seq_access.specs.declared.read_buf.Reach.{Reach}
use Rattle.seq_access.specs.declared.read_buf.Reach.TheVariants.{Nothing}
use Rattle.vtoc_index.specs.declared.vol.Vol.{Vol}
use Rattle.pack_machine.specs.Known.{HoldLibraries, HoldsPack, IsFresh}
use Rattle.pack_machine.specs.declared.pack_cache.PackCache.{PackCache}

-- a buffer that holds nothing holds its track
pub nothing_held : (image : List ℕ) (b : PackCache) → b.buf.reach ≡ Nothing → HoldsTrack image b.buf
nothing_held image b none = subst (λ (r : Reach). AreRead image r b.buf.records) (sym none) tt

-- where neither a track nor a library is held
pub fresh_pack : (image : List ℕ) (v : Vol) (b : PackCache) → IsFresh b → HoldsPack image v b
fresh_pack image v b fresh = record {
  track = nothing_held image b fresh.reach;
  libraries = subst (HoldLibraries image v) (sym fresh.libraries) (λ n l there. absurd cc);
}
