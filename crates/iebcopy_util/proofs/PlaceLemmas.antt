-- Where the copies of a member's blocks stand.
use Rattle.std.proofs.Common.{◌≡◌, ℕ, List, [], ◌∷◌, ◌++◌, length, drop, refl, sym, ◌∙◌, ap, append_assoc}
use Rattle.std.proofs.lemmas.List.{append-nil}
use Rattle.ckd_image.specs.declared.device.DiskType.{DiskType}
use Rattle.vol_model.specs.declared.contents.Body.{Body}
use Rattle.vol_model.specs.declared.contents.Place.{Place}
use Rattle.vol_model.specs.declared.contents.Shelf.{Shelf}
use Rattle.vol_model.specs.Places.{Content, next_block, placed, with_blocks}
use Rattle.vol_model.specs.Shelf.{put_first}
use Rattle.vol_model.specs.Writing.{Target, begun, blocks_for, device_on, target_body}
use Rattle.record_files.proofs.PlaceLemmas.{drop_front, placed_joined, placed_length, with_more}
use Rattle.iebcopy_util.specs.Copying.{places}
use Rattle.iebcopy_util.specs.Steps.{put_places}

module _ (s : Shelf) (t : Target) where
  abbrev device : DiskType
  device = device_on s t.v

  abbrev body : Body
  body = target_body s t

  abbrev front : List Content
  front = put_first t.mode (target_body s t)

  -- the body once some contents stand after it
  abbrev behind : List Content → Body
  behind cs = with_blocks body (placed device body cs)

  behind_one : (cs : List Content) (c : Content) → behind (cs ++ c ∷ []) ≡ with_blocks (behind cs) (next_block device (behind cs) c ∷ [])
  unfolding placed
  behind_one cs c = ap (with_blocks body) (placed_joined device cs (c ∷ []) body) ∙ sym (with_more body (placed device body cs) (next_block device (behind cs) c ∷ []))

  puts_at : (puts cs : List Content) → put_places s (record { target = t; puts = puts }) cs ≡ places (placed device (behind (front ++ puts)) cs)
  unfolding placed
  puts_at puts [] = refl
  puts_at puts (c ∷ cs) =
      ap (λ (l : List Place). (next_block device (behind (front ++ puts)) c).place ∷ l)
      (puts_at (puts ++ c ∷ []) cs ∙ ap (λ (b : Body). places (placed device b cs)) (ap behind (sym (append_assoc front puts (c ∷ []))) ∙ behind_one (front ++ puts) c))

  -- contents that are put one after another stand where the blocks of an area do
  pub put_places_are : (cs : List Content) → put_places s (begun t) cs ≡ places (blocks_for s t cs)
  put_places_are cs =
      puts_at [] cs ∙ ap (λ (l : List Content). places (placed device (behind l) cs)) (append-nil front)
      ∙ ap places (sym (drop_front (placed device body front) (placed device (behind front) cs)) ∙ ap (λ (n : ℕ). drop n (placed device body front ++ placed device (behind front) cs)) (placed_length device front body)
      ∙ ap (drop (length front)) (sym (placed_joined device front cs body)))
