-- A writer stands on an image still where the buffer of the index alone is another.
use Rattle.std.proofs.Common.{◌≡◌, ◌++◌, ℕ, List, [], Some, true, inl, refl, sym, ◌∙◌, subst}
use Rattle.std.specs.Prelude.{slice_get}
use Rattle.dscb_codec.specs.declared.Dscb.TheVariants as formats
use Rattle.dscb_codec.specs.declared.F1.{F1}
use Rattle.track_records.specs.Buffers.{Buffer}
use Rattle.vol_model.specs.declared.contents.Block.{Block}
use Rattle.vol_model.specs.declared.contents.Body.TheVariants as bodies
use Rattle.vol_model.specs.Places.{Content, placed}
use Rattle.vtoc_index.specs.declared.vol.Vol.{Vol}
use Rattle.vtoc_index.specs.Index.{IsMounted}
use Rattle.vtoc_sets.specs.Sets.{HasSet}
use Rattle.seq_access.specs.declared.writer.Writer.{Writer}
use Rattle.seq_access.specs.Bodies.{HasBlocks, IsSetIn}
use Rattle.seq_access.specs.Writing.{IsEnded, IsWriting, body_so_far, has_put, puts_in}
use Rattle.vtoc_sets.proofs.OtherBuffers.{mounted_with}

-- one slot holds one format 1
pub same_set : (v : Vol) (slot : ℕ) (f g : F1) → slice_get v.slots.items slot ≡ Some (formats.F1 f) → slice_get v.slots.items slot ≡ Some (formats.F1 g) → f ≡ g
same_set v slot f g one other = let both : Some (formats.F1 f) ≡ Some (formats.F1 g) = sym one ∙ other in cc

pub set_there : (image : List ℕ) (v : Vol) (w : Writer) (f : F1) → IsWriting image v w → slice_get v.slots.items w.slot ≡ Some (formats.F1 f) → IsSetIn image v f
set_there image v w f is there = record {
  set = subst (HasSet image v) (same_set v w.slot is.f f is.slot there) is.set;
  slot = w.slot;
  dscb = there;
}

module _ (image : List ℕ) (v : Vol) (b : Buffer) where
  pub puts_with : (f : F1) (w : Writer) → puts_in image (record v { buf = b }) f w ≡ puts_in image v f w
  unfolding puts_in
  puts_with f w = refl

  pub set_by : (f : F1) → HasSet image v f → b.records ≡ [] → HasSet image (record v { buf = b }) f
  set_by f set empty = record { mounted = mounted_with image v b set.mounted (inl empty); extents = set.extents }

  abbrev pub writing_with : (w : Writer) → IsWriting image v w → IsMounted image (record v { buf = b }) → IsWriting image (record v { buf = b }) w
  writing_with w is m = record {
    f = is.f;
    slot = is.slot;
    set = record { mounted = m; extents = is.set.extents };
    writable = is.writable;
    old = is.old;
    front = is.front;
    so_far = subst (λ (cs : List Content). HasBlocks (body_so_far image v is.f w) (is.old ++ placed v.geometry.device (bodies.Seq is.old) cs)) (sym (puts_with is.f w)) is.so_far;
    begun = is.begun;
    some = λ put none. is.some put (sym (puts_with is.f w) ∙ none);
    behind = is.behind;
    ended = is.ended;
  }

-- the track of the last block that was put ends after it
pub ended_put : (image : List ℕ) (v : Vol) (w : Writer) (is : IsWriting image v w) → has_put w ≡ true → IsEnded image v is.f is.old w image v
ended_put image v w is put = record {
  writing = is;
  same = refl;
  body = refl;
  old = refl;
  puts = refl;
  tracks = refl;
  ended = is.ended put;
}

pub ended_with : (before image : List ℕ) (v : Vol) (b : Buffer) (f : F1) (blocks : List Block) (w : Writer) → IsEnded before v f blocks w image v → b.records ≡ [] → IsEnded before v f blocks w image (record v { buf = b })
ended_with before image v b f blocks w is empty = record {
  writing = writing_with image v b w is.writing (mounted_with image v b is.writing.set.mounted (inl empty));
  same = is.same;
  body = is.body;
  old = is.old;
  puts = puts_with image v b f w ∙ is.puts;
  tracks = is.tracks;
  ended = is.ended;
}
