-- The last block's place, as three bytes say it, and the body up to it.
use Rattle.std.proofs.Common.{◌≡◌, ◌+◌, ◌%◌, ◌≤◌, ◌<◌, ℕ, Bool, true, false, cond, List, [], ◌∷◌, map, refl, sym, ap, ◌∙◌, arith}
use Rattle.std.specs.Prelude.{slice_index, slice_range}
use Rattle.std.specs.List.{range_with_len}
use Rattle.std.specs.Int.{w16, from_be_bytes}
use Rattle.std.proofs.lemmas.Nat.{from_be_bytes-to_be_bytes_2}
use Rattle.std.proofs.lemmas.Slice.Eq.{bytes_eq-Decides}
use Rattle.std.proofs.Math.Nat.{mod-eq_of_lt}
use Rattle.ckd_image.specs.declared.header.Geometry.{Geometry}
use Rattle.vol_model.specs.declared.contents.Block.{Block}
use Rattle.vol_model.specs.declared.contents.Body.{Body}
use Rattle.vol_model.specs.declared.contents.Body.TheVariants.{Seq}
use Rattle.vol_model.specs.declared.contents.Place.{Place}
use Rattle.vol_model.specs.declared.contents.Run.{Run}
use Rattle.pack_spec.specs.Blocks.{blocks_at, has_no_block, last_of, owned_tracks, seq_body, seq_of}
use Rattle.vtoc_index.specs.Last.{lstar_of}
use Rattle.seq_access.proofs.MoreBlocks.{parts_of}

-- the bytes say the place
pub last_said : (p : Place) → p.tt < 65536 → p.r < 256 → last_of (lstar_of p) ≡ p
last_said p low small =
    let tt_is : from_be_bytes w16 (slice_range (lstar_of p) 0 2) ≡ p.tt = from_be_bytes-to_be_bytes_2 p.tt low in
    let r_is : slice_index (lstar_of p) 2 % 256 ≡ p.r = mod-eq_of_lt small in
    ap (λ (n : ℕ). record { tt = n; r = slice_index (lstar_of p) 2 % 256 }) tt_is ∙ ap (λ (n : ℕ). record { tt = p.tt; r = n }) r_is

-- and aren't zeros, where the place is a block's
pub some_said : (p : Place) → 1 ≤ p.r → has_no_block (lstar_of p) ≡ false
some_said p first = by (has_no_block (lstar_of p)) refl
  where
    by : (b : Bool) → has_no_block (lstar_of p) ≡ b → b ≡ false
    by true is =
        let same : lstar_of p ≡ 0 ∷ 0 ∷ 0 ∷ [] = (bytes_eq-Decides (lstar_of p) (0 ∷ 0 ∷ 0 ∷ [])).0 is in
        let none : p.r ≡ 0 = ap (λ (l : List ℕ). slice_index l 2) same in
        absurd (omega (arith, first, none))
    by false is = refl

-- A body that can be read is the one up to its last block's place.
pub body_said : (g : Geometry) (tracks : List (List ℕ)) (extents : List Run) (lstar : List ℕ) (p : Place) (bs : List Block) → p ≡ last_of lstar → p.tt < 65536 → p.r < 256 → seq_body g tracks extents lstar ≡ Seq bs → seq_body g tracks extents (lstar_of p) ≡ Seq bs
unfolding seq_body
body_said g tracks extents lstar p bs at low small is = by (has_no_block lstar) refl
  where
    f : Place → Bool → Body
    f q b = cond b (Seq []) (seq_of (map (blocks_at g tracks (owned_tracks extents) q) (range_with_len 0 (q.tt + 1))))

    by : (b : Bool) → has_no_block lstar ≡ b → seq_body g tracks extents (lstar_of p) ≡ Seq bs
    by true none =
        let zeros : lstar ≡ 0 ∷ 0 ∷ 0 ∷ [] = (bytes_eq-Decides lstar (0 ∷ 0 ∷ 0 ∷ [])).0 none in
        let place : p ≡ record { tt = 0; r = 0 } = at ∙ ap last_of zeros in
        ap (seq_body g tracks extents) (ap lstar_of place ∙ sym zeros) ∙ is
    by false some =
        let parts = parts_of g extents tracks lstar p bs (sym at) some is in
        ap (f (last_of (lstar_of p))) (some_said p parts.first)
        ∙ ap (λ (q : Place). f q false) (last_said p low small ∙ at)
        ∙ sym (ap (f (last_of lstar)) some)
        ∙ is
