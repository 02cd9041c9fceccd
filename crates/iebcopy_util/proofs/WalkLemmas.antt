-- The blocks of a member one after another, and the last of a library.
use Rattle.std.proofs.Common.{◌≡◌, ◌⊎◌, ⊎_elim, Bool, true, false, ◌&&◌, List, [], ◌∷◌, ◌++◌, refl, sym, ◌∙◌, ap, append_assoc}
use Rattle.std.proofs.lemmas.List.{append-nil}
use Rattle.std.specs.List.{list_all}
use Rattle.vol_model.specs.declared.contents.Block.{Block}
use Rattle.vol_model.specs.declared.contents.Place.{Place}
use Rattle.vol_model.specs.Places.{is_end_of_file}
use Rattle.vol_model.specs.Reading.{blocks_from, member}
use Rattle.vol_model.proofs.Keeping.{AreBlocks}
use Rattle.util_steps.specs.Copying.{behind_place, has_data}
use Rattle.record_files.proofs.BlockLemmas.{left_end, left_none, next_left}
use Rattle.iebcopy_util.specs.declared.walking.Walk.{Walk}
use Rattle.iebcopy_util.specs.Copying.{places}

module _ (bs : List Block) (place : Place) where
  -- a block of the member, and those after it
  pub member_one : (b : Block) (rest : List Block) → AreBlocks bs → blocks_from place bs ≡ b ∷ rest → is_end_of_file b ≡ false → member bs place ≡ b ∷ member bs (behind_place b.place)
  member_one b rest are is within = next_left true bs place b rest are is within

  -- the member's end
  pub member_end : (blocks_from place bs ≡ []) ⊎ ((b : Block) × (rest : List Block) × (blocks_from place bs ≡ b ∷ rest) × (is_end_of_file b ≡ true)) → member bs place ≡ []
  member_end end = ⊎_elim (λ none. left_none true place bs none) (λ last. left_end true place bs last.0 last.1 last.2 last.3) end

-- How far a member is walked: what is known of its blocks, and those that are left, are all.
pub record Walks (bs all : List Block) (place : Place) (walk : Walk) : Type 0 where
  pub places : walk.places.items ++ places (member bs place) ≡ places all
  pub has_data : (walk.has_data && list_all has_data (member bs place)) ≡ list_all has_data all

-- none of its blocks is walked yet
pub walks_begin : (bs : List Block) (start : Place) (walk : Walk) → walk.places.items ≡ [] → walk.has_data ≡ true → Walks bs (member bs start) start walk
walks_begin bs start walk none all = record {
  places = ap (λ (l : List Place). l ++ places (member bs start)) none;
  has_data = ap (λ (t : Bool). t && list_all has_data (member bs start)) all;
}

module _ (bs all : List Block) (place : Place) (old new : Walk) (so : Walks bs all place old) where
  -- one block more
  pub walks_further : (next : Place) (b : Block) (rest : List Block) → AreBlocks bs → blocks_from place bs ≡ b ∷ rest → is_end_of_file b ≡ false → next ≡ behind_place b.place → new.places.items ≡ old.places.items ++ b.place ∷ []
      → new.has_data ≡ (old.has_data && has_data b) → Walks bs all next new
  walks_further next b rest are is within at more data_so =
      let one = member_one bs place b rest are is within in
      let left : member bs next ≡ member bs (behind_place b.place) = ap (member bs) at in
      record {
        places = ap (λ (l : List Place). l ++ places (member bs next)) more ∙ append_assoc old.places.items (b.place ∷ []) (places (member bs next))
            ∙ ap (λ (l : List Block). old.places.items ++ (b.place ∷ places l)) left ∙ ap (λ (l : List Block). old.places.items ++ places l) (sym one) ∙ so.places;
        has_data = ap (λ (t : Bool). t && list_all has_data (member bs next)) data_so ∙ and_then_and old.has_data (has_data b) (list_all has_data (member bs next))
            ∙ ap (λ (l : List Block). old.has_data && (has_data b && list_all has_data l)) left ∙ ap (λ (l : List Block). old.has_data && list_all has_data l) (sym one) ∙ so.has_data;
      }
    where
      and_then_and : (x y z : Bool) → ((x && y) && z) ≡ (x && (y && z))
      and_then_and true y z = refl
      and_then_and false y z = refl

  -- all blocks are walked
  pub walks_all : new ≡ old → (blocks_from place bs ≡ []) ⊎ ((b : Block) × (rest : List Block) × (blocks_from place bs ≡ b ∷ rest) × (is_end_of_file b ≡ true)) → (new.places.items ≡ places all) × (new.has_data ≡ list_all has_data all)
  walks_all same end =
      let none = member_end bs place end in (
        ap (λ (w : Walk). w.places.items) same ∙ sym (append-nil old.places.items) ∙ ap (λ (l : List Block). old.places.items ++ places l) (sym none) ∙ so.places,
        ap (λ (w : Walk). w.has_data) same ∙ and_true old.has_data ∙ ap (λ (l : List Block). old.has_data && list_all has_data l) (sym none) ∙ so.has_data,
      )
    where
      and_true : (x : Bool) → x ≡ (x && true)
      and_true true = refl
      and_true false = refl
