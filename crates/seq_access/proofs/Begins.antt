-- A writer that was opened after the blocks of a data set, and has put none.
use Rattle.std.proofs.Common.{◌≡◌, ◌≤◌, ◌<◌, ℕ, true, false, List, [], ◌∷◌, ◌++◌, length, map, drop, Option, Some, inr, refl, sym, ap, ap₂, ◌∙◌, arith}
use Rattle.std.specs.Prelude.{slice_get}
use Rattle.std.specs.Option.{option_map_or}
use Rattle.std.proofs.lemmas.Bool.Decides.{nat_tests}
use Rattle.std.proofs.lemmas.List.{append-nil}
use Rattle.dscb_codec.specs.declared.Dscb.TheVariants as formats
use Rattle.dscb_codec.specs.declared.F1.{F1}
use Rattle.pack_spec.specs.Blocks.{last_of}
use Rattle.pack_spec.specs.Directories.{read_to}
use Rattle.pack_spec.specs.Volume.{attr_of}
use Rattle.vol_model.specs.declared.contents.Block.{Block}
use Rattle.vol_model.specs.declared.contents.Body.{Body}
use Rattle.vol_model.specs.declared.contents.Body.TheVariants as bodies
use Rattle.vol_model.specs.declared.contents.Place.{Place}
use Rattle.vol_model.specs.Places.{Content, content, placed}
use Rattle.vol_model.specs.Shelf.{blocks_of}
use Rattle.vtoc_index.specs.declared.vol.Vol.{Vol}
use Rattle.vtoc_index.specs.Last.{lstar_of}
use Rattle.vtoc_sets.specs.Sets.{HasSet, extents_in}
use Rattle.seq_access.specs.declared.writer.Writer.{Writer}
use Rattle.seq_access.specs.Bodies.{HasBlocks, IsWritable, body_of_set, body_upto, data_in, last_in, last_read}
use Rattle.seq_access.specs.Writing.{EndsAt, IsWriting, body_so_far, front_in, has_put, puts_in}
use Rattle.seq_access.proofs.OwnBodies.{front_read}

-- by its count a writer put a block, or none
pub has_some : (w : Writer) → 0 < w.blocks → has_put w ≡ true
has_some w any = grind (arith, nat_tests)

pub has_none : (w : Writer) → w.blocks ≤ 0 → has_put w ≡ false
has_none w none = grind (arith, nat_tests)

nothing_behind : (bs : List Block) → map content (drop (length bs) bs) ≡ []
nothing_behind [] = refl
nothing_behind (b ∷ bs) = nothing_behind bs

-- A writer that has put none stands on an image whose set ends at its last block.
pub begun_at : (image : List ℕ) (v : Vol) (f : F1) (w : Writer) (old : List Block) → has_put w ≡ false → slice_get v.slots.items w.slot ≡ Some (formats.F1 f) → HasSet image v f → IsWritable (body_of_set image v f) → HasBlocks (front_in image v f) old → w.last ≡ last_in image v f
    → (is : IsWriting image v w) × (is.f ≡ f) × (is.old ≡ old) × (puts_in image v f w ≡ [])
unfolding puts_in placed
begun_at image v f w old fresh there set writable front at =
    let so_far : body_so_far image v f w ≡ bodies.Seq old = ap (λ (p : Place). body_upto image v f (lstar_of p)) at ∙ front in
    let none : puts_in image v f w ≡ [] = ap₂ (λ (x y : Body). map content (drop (length (blocks_of x)) (blocks_of y))) front so_far ∙ nothing_behind old in
    let all : old ++ placed v.geometry.device (bodies.Seq old) (puts_in image v f w) ≡ old = ap (λ (cs : List Content). old ++ placed v.geometry.device (bodies.Seq old) cs) none ∙ append-nil old in (
      record {
        f = f;
        slot = there;
        set = set;
        writable = writable;
        old = old;
        front = front;
        so_far = so_far ∙ ap bodies.Seq (sym all);
        begun = λ not. at;
        some = λ put. cc;
        behind = inr (ap (λ (p : Place). p.tt) (sym at), omega (arith, ap (λ (p : Place). p.r) at));
        ended = λ put. cc;
      },
      refl,
      refl,
      none,
    )

-- the last record of a body by its directory's end, if it is a partitioned set's
last_told : (b : Body) (end : Option Place) (lstar : List ℕ) → EndsAt end b → option_map_or (λ (p : Place). read_to p lstar) end (last_of lstar) ≡ last_read b lstar
last_told (bodies.Part dir at entries blocks) end lstar told = ap (λ (o : Option Place). option_map_or (λ (p : Place). read_to p lstar) o (last_of lstar)) told
last_told b end lstar told = ap (λ (o : Option Place). option_map_or (λ (p : Place). read_to p lstar) o (last_of lstar)) told

pub begins : (image : List ℕ) (v : Vol) (f : F1) (slot : ℕ) (end : Option Place) (last : Place) → slice_get v.slots.items slot ≡ Some (formats.F1 f) → HasSet image v f → IsWritable (body_of_set image v f) → EndsAt end (body_of_set image v f) → last ≡ option_map_or (λ (p : Place). read_to p f.lstar) end (last_of f.lstar) → last.tt < 65536
    → (is : IsWriting image v (record { slot = slot; last = last; blocks = 0 })) × (is.f ≡ f) × (puts_in image v f (record { slot = slot; last = last; blocks = 0 }) ≡ [])
begins image v f slot end last there set writable told is low =
    let at : last ≡ last_in image v f = is ∙ last_told (body_of_set image v f) end f.lstar told in
    let front = front_read v.geometry (data_in image v) f.name (attr_of f) (extents_in image v f) f.lstar writable (omega (arith, low, ap (λ (p : Place). p.tt) at)) in
    let begun = begun_at image v f (record { slot = slot; last = last; blocks = 0 }) front.0 refl there set writable front.1 at in
    (begun.0, begun.1, begun.3)
