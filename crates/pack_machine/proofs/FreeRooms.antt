-- The room of an index for free runs.
use Rattle.std.proofs.Common.{◌+◌, ◌*◌, ◌≤◌, ℕ, List, [], ◌∷◌, length, vec_capacity, vec_len, arith}
use Rattle.hall_core.specs.Facts.{Attached}
use Rattle.pack_spec.specs.Label.{tracks_of}
use Rattle.vol_model.specs.Space.{AreApartFrom, EndBy}
use Rattle.vol_model.specs.declared.contents.Run.{Run}
use Rattle.vtoc_index.specs.Index.{IsOfUnit}
use Rattle.vtoc_index.specs.declared.vol.Vol.{Vol}
use Rattle.mount_repair.specs.Sets.{HasRoom}

-- runs with room between them are at most half as many as the tracks that they end by
few_apart : (limit low : ℕ) (rs : List Run) → low ≤ limit + 1 → AreApartFrom low rs → EndBy limit rs → low + 2 * length rs ≤ limit + 1
few_apart limit low [] within apart ends = omega (arith, within)
few_apart limit low (r ∷ rs) within apart ends =
    omega (arith, apart.0, apart.1, few_apart limit (r.start + r.len + 1) rs (omega (arith, ends.0)) apart.2 ends.1)

-- so there is room for 16 more
pub room_for_more : (attached : List Attached) (v : Vol) → IsOfUnit attached v → HasRoom v → vec_len v.free + 16 ≤ vec_capacity v.free
room_for_more attached v unit room =
    omega (arith, room, v.free.ok.0, few_apart (tracks_of v.geometry) 0 v.free.items (omega arith) unit.free.0 unit.free.1)
