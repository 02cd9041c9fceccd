-- Where a writer begins, by what is known of the bodies of its pack.
use Rattle.std.proofs.Common.{◌≡◌, ◌≢◌, ◌∙◌, ℕ, Bool, false, List, Option, Some, None, refl, sym, ap, subst}
use Rattle.std.specs.Prelude.{slice_get}
use Rattle.std.specs.Option.{option_map_or}
use Rattle.dscb_codec.specs.declared.F1.{F1}
use Rattle.seq_access.specs.Bodies.{IsReadablePart, data_in, end_in, part_in}
use Rattle.seq_access.proofs.PartReading.{shape}
use Rattle.vol_model.specs.Places.{is_open_ended}
use Rattle.vol_model.specs.Reading.{kind_of}
use Rattle.vol_model.specs.Shelf.{blocks_of}
use Rattle.vol_model.specs.Writing.{body_on, set_on}
use Rattle.vol_model.specs.declared.answers.Kind.{Kind}
use Rattle.vol_model.specs.declared.answers.Kind.TheVariants as kinds
use Rattle.vol_model.specs.declared.contents.Body.{Body}
use Rattle.vol_model.specs.declared.contents.Body.TheVariants.{Catalog, Other, Part, Seq, Unreadable}
use Rattle.vol_model.specs.declared.contents.DataSet.{DataSet}
use Rattle.vol_model.specs.declared.contents.Place.{Place}
use Rattle.vol_model.specs.declared.contents.Shelf.{Shelf}
use Rattle.vtoc_index.specs.declared.vol.Vol.{Vol}
use Rattle.vtoc_sets.specs.Sets.{extents_in}
use Rattle.pack_machine.specs.Blocks.{IsOnImage}
use Rattle.pack_machine.specs.Fronts.{IsFrontOf}
use Rattle.pack_machine.specs.Reads.{HasVolume, IsSetOn}
use Rattle.pack_machine.specs.declared.area_start.AreaStart.{AreaStart}
use Rattle.pack_machine.specs.declared.pack_cache.PackCache.{PackCache}
use Rattle.pack_machine.proofs.ReadBlocks.{IsKind, part_on}
use Rattle.pack_machine.proofs.ShelfReads.{body_found, body_here, body_missing, known_set}

abbrev pub none : AreaStart
none = record { end = None; owes_end_of_file = false }

-- what isn't partitioned has no front
pub no_front : (front : AreaStart) (body : Body) → kind_of body ≢ kinds.Part → IsFrontOf front body
no_front front (Seq blocks) not = tt
no_front front (Part dir end entries blocks) not = absurd (not refl)
no_front front Catalog not = tt
no_front front Other not = tt
no_front front (Unreadable track) not = tt

-- what is partitioned has the end of its directory and the state of its last block
pub part_front : (image : List ℕ) (v : Vol) (f : F1) (end : Place) (owes : Bool) → end ≡ end_in image v f → IsReadablePart (part_in image v f) → owes ≡ is_open_ended (blocks_of (part_in image v f))
    → IsFrontOf (record { end = Some end; owes_end_of_file = owes }) (part_in image v f)
part_front image v f end owes at readable is =
    let s = shape image v f end at readable in
    subst (IsFrontOf (record { end = Some end; owes_end_of_file = owes })) (sym s.3) (refl, is ∙ ap (λ (b : Body). is_open_ended (blocks_of b)) s.3)

-- a pack that isn't there has no set
pub missing_kind : (shelf : Shelf) (n : ℕ) (none : slice_get shelf.volumes n ≡ None) (name : List ℕ) → kind_of (body_on shelf n name) ≢ kinds.Part
missing_kind shelf n none name part = let other : kind_of Other ≡ kinds.Part = sym (ap kind_of (body_missing shelf n none name)) ∙ part in absurd cc

module _ (image : List ℕ) (v : Vol) (b : PackCache) (on : IsOnImage image v b) (name : List ℕ) where
  abbrev has : HasVolume on.shelf on.number v
  has = record { image = image; mounted = on.mounted; there = on.there }

  abbrev body : Body
  body = body_on on.shelf on.number name

  -- no set has the name
  pub front_none : IsSetOn image v (set_on on.shelf on.number name) None → IsFrontOf none body
  unfolding body_on
  front_none set = subst (IsFrontOf none) (sym (ap (λ (o : Option DataSet). option_map_or (λ (x : DataSet). x.body) o Other) set)) tt

  module _ (f : F1) (set : IsSetOn image v (set_on on.shelf on.number name) (Some f)) where
    -- one of another kind has it
    pub front_other : (k : Kind) → IsKind f b.unread.items k → k ≢ kinds.Part → IsFrontOf none body
    front_other k is not =
        let whole = known_set on.shelf on.number v has name f b.unread.items set on.lists in
        let kind = is v.geometry (data_in image v) (extents_in image v f) whole in
        subst (IsFrontOf none) (body_found on.shelf on.number v has name f set) (no_front none (body_here image v f) (λ part. not (kind ∙ part)))

    -- a partitioned one has it
    pub front_part : IsKind f b.unread.items kinds.Part → (front : AreaStart) → IsFrontOf front (part_in image v f) → IsFrontOf front body
    front_part is front here = subst (IsFrontOf front) (sym (part_on image v b on name f set b.unread.items refl is).content) here
