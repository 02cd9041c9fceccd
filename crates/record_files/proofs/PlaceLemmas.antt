-- Where a member begins.
use Rattle.std.proofs.Common.{◌≡◌, ℕ, suc, List, [], ◌∷◌, ◌++◌, length, drop, map, refl, sym, ◌∙◌, ap, append_assoc}
use Rattle.std.proofs.lemmas.List.{append-nil}
use Rattle.ckd_image.specs.declared.device.DiskType.{DiskType}
use Rattle.std.specs.Prelude.{unwrap_or, Option}
use Rattle.vol_model.specs.declared.answers.Mode.TheVariants as modes
use Rattle.vol_model.specs.declared.contents.Block.{Block}
use Rattle.vol_model.specs.declared.contents.Body.{Body}
use Rattle.vol_model.specs.declared.contents.Body.TheVariants as bodies
use Rattle.vol_model.specs.declared.contents.Place.{Place}
use Rattle.vol_model.specs.declared.contents.Shelf.{Shelf}
use Rattle.vol_model.specs.Places.{Content, content, last_place, next_block, placed, with_blocks}
use Rattle.vol_model.specs.Shelf.{blocks_of, put_first}
use Rattle.vol_model.specs.Writing.{Target, blocks_for, body_on, device_on, target_body}
use Rattle.util_steps.specs.declared.calls.SetRef.{SetRef}
use Rattle.util_steps.specs.Copying.{target}
use Rattle.record_files.specs.Advancing.{first_at, first_place_put}
use Rattle.record_files.specs.Members.{first_place, member_start}

pub with_none : (body : Body) → with_blocks body [] ≡ body
with_none (bodies.Seq bs) = ap (λ (l : List Block). bodies.Seq l) (append-nil bs)
with_none (bodies.Part dir end es bs) = ap (λ (l : List Block). bodies.Part dir end es l) (append-nil bs)
with_none bodies.Catalog = refl
with_none bodies.Other = refl
with_none (bodies.Unreadable track) = refl

pub with_more : (body : Body) (xs ys : List Block) → with_blocks (with_blocks body xs) ys ≡ with_blocks body (xs ++ ys)
with_more (bodies.Seq bs) xs ys = ap (λ (l : List Block). bodies.Seq l) (append_assoc bs xs ys)
with_more (bodies.Part dir end es bs) xs ys = ap (λ (l : List Block). bodies.Part dir end es l) (append_assoc bs xs ys)
with_more bodies.Catalog xs ys = refl
with_more bodies.Other xs ys = refl
with_more (bodies.Unreadable track) xs ys = refl

-- contents after others
pub placed_joined : (d : DiskType) (xs ys : List Content) (body : Body) → placed d body (xs ++ ys) ≡ placed d body xs ++ placed d (with_blocks body (placed d body xs)) ys
unfolding placed
placed_joined d [] ys body = ap (λ (b : Body). placed d b ys) (sym (with_none body))
placed_joined d (c ∷ xs) ys body =
    let b = next_block d body c in
    let more = with_blocks body (b ∷ []) in
    ap (λ (l : List Block). b ∷ l) (placed_joined d xs ys more ∙ ap (λ (u : Body). placed d more xs ++ placed d u ys) (with_more body (b ∷ []) (placed d more xs)))

pub placed_length : (d : DiskType) (cs : List Content) (body : Body) → length (placed d body cs) ≡ length cs
unfolding placed
placed_length d [] body = refl
placed_length d (c ∷ cs) body = ap suc (placed_length d cs (with_blocks body (next_block d body c ∷ [])))

pub drop_front : {X : Type 0} (xs ys : List X) → drop (length xs) (xs ++ ys) ≡ ys
drop_front [] ys = refl
drop_front (x ∷ xs) ys = drop_front xs ys

module _ (s : Shelf) (t : Target) where
  abbrev device : DiskType
  device = device_on s t.v

  abbrev body : Body
  body = target_body s t

  abbrev front : List Content
  front = put_first t.mode (target_body s t)

  -- the blocks of an area stand after what is put in front of them
  blocks_are : (cs : List Content) → blocks_for s t cs ≡ placed device (with_blocks body (placed device body front)) cs
  blocks_are cs =
      ap (drop (length front)) (placed_joined device front cs body)
      ∙ ap (λ (n : ℕ). drop n (placed device body front ++ placed device (with_blocks body (placed device body front)) cs)) (sym (placed_length device front body))
      ∙ drop_front (placed device body front) (placed device (with_blocks body (placed device body front)) cs)

  -- the first of them stands where it was put
  pub first_stands : (cs : List Content) (last : Place) → first_place last (blocks_for s t cs) ≡ unwrap_or (first_at s t cs) last
  unfolding placed
  first_stands cs last = ap (first_place last) (blocks_are cs) ∙ by_blocks cs
    where
      by_blocks : (l : List Content) → first_place last (placed device (with_blocks body (placed device body front)) l) ≡ unwrap_or (first_at s t l) last
      by_blocks [] = refl
      by_blocks (c ∷ l) = refl

-- a member begins where its first block was put, or else at the last block of the library
pub start_is : (before behind : Shelf) (to : SetRef) (bs : List Block) (first : Option Place) (place : Place) → first ≡ first_place_put before (target to modes.Area) bs
    → place ≡ unwrap_or first (last_place (record { tt = 0; r = 0 }) (blocks_of (body_on behind to.v to.dsn.bytes))) → place ≡ member_start before behind to bs
unfolding member_start
start_is before behind to bs first place is at =
    let last = last_place (record { tt = 0; r = 0 }) (blocks_of (body_on behind to.v to.dsn.bytes)) in
    at ∙ ap (λ (o : Option Place). unwrap_or o last) is ∙ sym (first_stands before (target to modes.Area) (map content bs) last)
