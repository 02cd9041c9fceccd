-- What the definitions that serve sets of both kinds say of a sequential one.
use Rattle.std.proofs.Common.{◌≡◌, ◌<◌, ℕ, List, None, refl, sym, ap, ◌∙◌, subst}
use Rattle.std.proofs.lemmas.List.{append-nil}
use Rattle.dscb_codec.specs.declared.F1.{F1}
use Rattle.pack_spec.specs.Blocks.{last_of}
use Rattle.pack_spec.specs.Volume.{attr_of}
use Rattle.pack_spec.proofs.BodyKinds.{sequential_body}
use Rattle.vol_model.specs.declared.answers.Mode.TheVariants.{Fill}
use Rattle.vol_model.specs.declared.contents.Block.{Block}
use Rattle.vol_model.specs.declared.contents.Body.{Body}
use Rattle.vol_model.specs.declared.contents.Body.TheVariants.{Seq}
use Rattle.vol_model.specs.Places.{Content}
use Rattle.vol_model.specs.Shelf.{written}
use Rattle.vtoc_index.specs.declared.vol.Vol.{Vol}
use Rattle.vtoc_sets.specs.Sets.{extents_in}
use Rattle.seq_access.specs.Bodies.{HasBlocks, IsSequential, IsWritable, body_in, body_of_set, data_in, last_in, last_read}
use Rattle.seq_access.specs.Writing.{EndsAt, front_in}
use Rattle.seq_access.proofs.LastPlaces.{body_said}
use Rattle.seq_access.proofs.OwnBodies.{last_small}

-- all that a Fill writes is what is put
pub fill_written : (body : Body) (cs : List Content) → written Fill body cs ≡ cs
fill_written body cs = append-nil cs

module _ (image : List ℕ) (v : Vol) (f : F1) (sequential : IsSequential f) where
  pub sequential_in : body_of_set image v f ≡ body_in image v f
  sequential_in = sequential_body v.geometry (data_in image v) f.name (attr_of f) (extents_in image v f) f.lstar sequential

  module _ (bs : List Block) (is : HasBlocks (body_in image v f) bs) where
    body_is : body_of_set image v f ≡ Seq bs
    body_is = sequential_in ∙ is

    pub sequential_writable : IsWritable (body_of_set image v f)
    sequential_writable = subst IsWritable (sym body_is) tt

    -- no directory's end is told of it
    pub sequential_end : EndsAt None (body_of_set image v f)
    sequential_end = subst (EndsAt None) (sym body_is) refl

    pub sequential_last : last_in image v f ≡ last_of f.lstar
    sequential_last = ap (λ (b : Body). last_read b f.lstar) body_is

    -- its records up to the last are its blocks
    pub sequential_front : (last_in image v f).tt < 65536 → front_in image v f ≡ Seq bs
    sequential_front low = body_said v.geometry (data_in image v) (extents_in image v f) f.lstar (last_in image v f) bs sequential_last low
        (last_small v.geometry (data_in image v) f.name (attr_of f) (extents_in image v f) f.lstar sequential_writable) is
