-- What is read of the blocks of a data set, by what is known of the bodies on its pack.
use Rattle.std.proofs.Common.{◌≡◌, ◌≢◌, ℕ, Bool, false, List, [], ◌∷◌, Option, Some, None, refl, sym, ap, subst, ◌∙◌}
use Rattle.std.specs.Prelude.{Result, Ok, Err}
use Rattle.ckd_image.specs.declared.header.Geometry.{Geometry}
use Rattle.dscb_codec.specs.declared.F1.{F1}
use Rattle.pack_spec.specs.Bodies.{body_of}
use Rattle.pack_spec.specs.Volume.{attr_of}
use Rattle.seq_access.specs.Bodies.{IsReadable, IsReadablePart, IsSetIn, body_in, data_in, part_in}
use Rattle.seq_access.specs.Reading.{GivesFirst, GivesMembers, ReadsBlock, ReadsMembers}
use Rattle.vol_model.specs.declared.answers.Kind.{Kind}
use Rattle.vol_model.specs.declared.answers.Kind.TheVariants as kinds
use Rattle.vol_model.specs.declared.contents.Block.{Block}
use Rattle.vol_model.specs.declared.contents.Body.{Body}
use Rattle.vol_model.specs.declared.contents.Body.TheVariants.{Seq, Unreadable}
use Rattle.vol_model.specs.declared.contents.Place.{Place}
use Rattle.vol_model.specs.declared.contents.Run.{Run}
use Rattle.vol_model.specs.Reading.{Picks, ReadsInto, blocks_from, first, kind_of, readable}
use Rattle.vol_model.specs.Writing.{body_on, set_on}
use Rattle.vtoc_index.specs.declared.vol.Vol.{Vol}
use Rattle.vtoc_sets.specs.Sets.{extents_in}
use Rattle.pack_machine.specs.Blocks.{IsOnImage, IsPartOn}
use Rattle.pack_machine.specs.Reads.{HasVolume, IsSetOn}
use Rattle.pack_machine.specs.Unread.{broken_by, track_in}
use Rattle.pack_machine.specs.declared.pack_cache.PackCache.{PackCache}
use Rattle.pack_machine.specs.declared.unread.Unread.{Unread}
use Rattle.pack_machine.proofs.ShelfReads.{HasNoEntry, blocks_none, body_found, body_here, body_partitioned, body_sequential, known_set, named, no_block, no_entry, unread_by, unread_is, whole_body, whole_part}

-- a kind is that of each body which a format 1 may have, by a list of those that can't be read
abbrev pub IsKind : F1 → List Unread → Kind → Type 0
IsKind f unread k = (g : Geometry) (tracks : List (List ℕ)) (extents : List Run)
    → track_in unread f.name ≡ broken_by f.name (attr_of f) (body_of g tracks f.name (attr_of f) extents f.lstar) → k ≡ kind_of (body_of g tracks f.name (attr_of f) extents f.lstar)

-- nothing is read where there is no block, whatever the one that was to hold it is
abbrev blank : Place → Block
blank p = record { place = p; key = []; payload = [] }

pub nothing_into : (body : Result (List Block) ℕ) (from : Place) → body ≡ Ok [] → ReadsInto (Ok false) body from (blank from)
nothing_into body from is = ([], is, refl)

pub nothing_picked : (body : Result (List Block) ℕ) (from : Place) → body ≡ Ok [] → Picks (Ok None) body (λ bs. first (blocks_from from bs))
nothing_picked body from is = subst (λ r. Picks (Ok None) r (λ bs. first (blocks_from from bs))) (sym is) refl

first_is : {X : Type 0} (xs : List X) (x : X) (rest : List X) → xs ≡ x ∷ rest → Some x ≡ first xs
first_is xs x rest is = sym (ap first is)

module _ (image : List ℕ) (v : Vol) (b : PackCache) (on : IsOnImage image v b) (name : List ℕ) where
  abbrev has : HasVolume on.shelf on.number v
  has = record { image = image; mounted = on.mounted; there = on.there }

  abbrev body : Body
  body = body_on on.shelf on.number name

  pub into_none : (from : Place) → IsSetOn image v (set_on on.shelf on.number name) None → ReadsInto (Ok false) (readable body) from (blank from)
  into_none from set = nothing_into (readable body) from (blocks_none on.shelf on.number v has name set)

  pub picks_no_set : (from : Place) → IsSetOn image v (set_on on.shelf on.number name) None → Picks (Ok None) (readable body) (λ bs. first (blocks_from from bs))
  picks_no_set from set = nothing_picked (readable body) from (blocks_none on.shelf on.number v has name set)

  module _ (f : F1) (set : IsSetOn image v (set_on on.shelf on.number name) (Some f)) (unread : List Unread) (same : unread ≡ b.unread.items) where
    here : body_here image v f ≡ body
    here = body_found on.shelf on.number v has name f set

    kind_here : (k : Kind) → IsKind f unread k → k ≡ kind_of (body_here image v f)
    kind_here k is = is v.geometry (data_in image v) (extents_in image v f) (known_set on.shelf on.number v has name f unread set (λ n. ap (λ (us : List Unread). track_in us n) same ∙ on.lists n))

    -- a set that can't be read
    pub not_readable : (t : ℕ) → IsKind f unread (kinds.Unreadable t) → readable body ≡ Err t
    not_readable t is = sym (ap readable here) ∙ (unread_by (body_here image v f) t (kind_here (kinds.Unreadable t) is)).1

    -- one of another kind
    without : (k : Kind) → IsKind f unread k → k ≢ kinds.Seq → k ≢ kinds.Part → ((t : ℕ) → k ≢ kinds.Unreadable t) → readable body ≡ Ok []
    without k is not_seq not_part not =
        sym (ap readable here)
        ∙ no_block v.geometry (data_in image v) f.name (attr_of f) (extents_in image v f) f.lstar (λ seq. not_seq (kind_here k is ∙ seq)) (λ part. not_part (kind_here k is ∙ part)) (λ t bad. not t (kind_here k is ∙ bad))

    pub into_other : (k : Kind) (from : Place) → IsKind f unread k → k ≢ kinds.Seq → k ≢ kinds.Part → ((t : ℕ) → k ≢ kinds.Unreadable t) → ReadsInto (Ok false) (readable body) from (blank from)
    into_other k from is not_seq not_part not = nothing_into (readable body) from (without k is not_seq not_part not)

    pub picks_other : (k : Kind) (from : Place) → IsKind f unread k → k ≢ kinds.Seq → k ≢ kinds.Part → ((t : ℕ) → k ≢ kinds.Unreadable t) → Picks (Ok None) (readable body) (λ bs. first (blocks_from from bs))
    picks_other k from is not_seq not_part not = nothing_picked (readable body) from (without k is not_seq not_part not)

    -- a sequential one that can be read
    module _ (is : IsKind f unread kinds.Seq) where
      in_set : body_here image v f ≡ body_in image v f
      in_set = body_sequential v.geometry (data_in image v) f.name (attr_of f) (extents_in image v f) f.lstar (kind_here kinds.Seq is)

      pub readable_set : IsReadable (body_in image v f)
      readable_set =
          let whole = whole_body (body_here image v f) (kind_here kinds.Seq is) in
          (whole.0, sym in_set ∙ whole.1)

      blocks_are : (bs : List Block) → body_in image v f ≡ Seq bs → readable body ≡ Ok bs
      blocks_are bs whole = ap readable (sym here ∙ in_set ∙ whole)

      pub into_set : (more : Bool) (from : Place) (block : Block) → ReadsBlock (Ok more) (body_in image v f) from block → ReadsInto (Ok more) (readable body) from block
      into_set more from block read = (read.0, blocks_are read.0 read.1, read.2)

      pub picks_set : (found : Option Block) (from : Place) → GivesFirst (Ok found) (body_in image v f) from → Picks (Ok found) (readable body) (λ bs. first (blocks_from from bs))
      picks_set None from read = subst (λ r. Picks (Ok None) r (λ bs. first (blocks_from from bs))) (sym (blocks_are read.0 read.1)) (sym (ap first read.2))
      picks_set (Some block) from read =
          subst (λ r. Picks (Ok (Some block)) r (λ bs. first (blocks_from from bs))) (sym (blocks_are read.0 read.2)) (first_is (blocks_from from read.0) block read.1 read.3)

    -- what has no directory, by its kind
    pub no_library : (k : Kind) → IsKind f unread k → k ≢ kinds.Part → ((t : ℕ) → k ≢ kinds.Unreadable t) → HasNoEntry body
    no_library k is not_part not =
        subst HasNoEntry here (no_entry (body_here image v f) (λ part. not_part (kind_here k is ∙ part)) (λ t bad. not t (kind_here k is ∙ bad)))

    pub not_listed : (t : ℕ) → IsKind f unread (kinds.Unreadable t) → body ≡ Unreadable t
    not_listed t is = sym here ∙ unread_is (body_here image v f) t (kind_here (kinds.Unreadable t) is)

    -- a partitioned one that can be read
    module _ (is : IsKind f unread kinds.Part) where
      in_part : body_here image v f ≡ part_in image v f
      in_part = (body_partitioned v.geometry (data_in image v) f.name (attr_of f) (extents_in image v f) f.lstar (kind_here kinds.Part is)).0

      pub part_on : IsPartOn image v f body
      part_on = record {
        part = record {
          set = set.0.set;
          slot = set.0.slot;
          dscb = set.0.dscb;
          partitioned = (body_partitioned v.geometry (data_in image v) f.name (attr_of f) (extents_in image v f) f.lstar (kind_here kinds.Part is)).1;
        };
        content = sym here ∙ in_part;
        readable = ap kind_of (sym in_part) ∙ sym (kind_here kinds.Part is);
      }

      pub part_named : IsPartOn image v f (body_on on.shelf on.number f.name)
      part_named = subst (λ (n : List ℕ). IsPartOn image v f (body_on on.shelf on.number n)) (sym (named on.shelf on.number v has name f set)) part_on

      members_are : (bs : List Block) → readable (part_in image v f) ≡ Ok bs → readable body ≡ Ok bs
      members_are bs whole = ap readable (sym here ∙ in_part) ∙ whole

      pub into_part : (more : Bool) (from : Place) (block : Block) → ReadsMembers (Ok more) (part_in image v f) from block → ReadsInto (Ok more) (readable body) from block
      into_part more from block read = (read.0, members_are read.0 read.1, read.2)

      pub picks_part : (found : Option Block) (from : Place) → GivesMembers (Ok found) (part_in image v f) from → Picks (Ok found) (readable body) (λ bs. first (blocks_from from bs))
      picks_part None from read = subst (λ r. Picks (Ok None) r (λ bs. first (blocks_from from bs))) (sym (members_are read.0 read.1)) (sym (ap first read.2))
      picks_part (Some block) from read =
          subst (λ r. Picks (Ok (Some block)) r (λ bs. first (blocks_from from bs))) (sym (members_are read.0 read.2)) (first_is (blocks_from from read.0) block read.1 read.3)

-- what a partitioned set that can be read has, by the index of its pack
module _ (image : List ℕ) (v : Vol) (f : F1) (body : Body) (on : IsPartOn image v f body) where
  pub part_set : IsSetIn image v f
  part_set = record { set = on.part.set; slot = on.part.slot; dscb = on.part.dscb }

  pub part_blocks : IsReadablePart (part_in image v f)
  part_blocks = let whole = whole_part (part_in image v f) (sym on.readable) in (whole.blocks, ap readable whole.body)
