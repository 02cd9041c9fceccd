-- A pack has few maximal runs of tracks.
use Rattle.std.proofs.Common.{◌≤◌, ◌+◌, ◌*◌, List, [], ◌∷◌, length, ℕ, arith}
use Rattle.hall_core.specs.Facts.{Attached, unit_of}
use Rattle.vol_model.specs.declared.contents.Run.{Run}
use Rattle.vol_model.specs.Space.{AreApartFrom, EndBy}
use Rattle.pack_spec.specs.Label.{tracks_of}
use Rattle.vtoc_index.specs.declared.vol.Vol.{Vol}
use Rattle.vtoc_index.specs.Index.{IsOfUnit}
use Rattle.vtoc_index.proofs.OwnedVolumes.{few_tracks}

-- each run has a track, and one stands between two of them
runs_apart : (low limit : ℕ) (runs : List Run) → AreApartFrom low runs → EndBy limit runs → low ≤ limit + 1 → 2 * length runs + low ≤ limit + 1
runs_apart low limit [] apart end below = omega (arith, below)
runs_apart low limit (r ∷ rs) apart end below =
    let rest = runs_apart (r.start + r.len + 1) limit rs apart.2 end.1 (omega (arith, end.0)) in
    omega (arith, rest, apart.0, apart.1)

pub few_runs : (units : List Attached) (v : Vol) → IsOfUnit units v → length v.free.items ≤ 65535
few_runs units v of =
    let limit : ℕ = tracks_of v.geometry in
    omega (arith, runs_apart 0 limit v.free.items of.free.0 of.free.1 (omega arith), few_tracks v.geometry ((unit_of units v.unit).size, of.whole))

-- and its tracks have small numbers
pub low_tracks : (units : List Attached) (v : Vol) → IsOfUnit units v → v.vtoc.start + v.vtoc.len ≤ 65536
low_tracks units v of = omega (arith, of.inside, few_tracks v.geometry ((unit_of units v.unit).size, of.whole))
