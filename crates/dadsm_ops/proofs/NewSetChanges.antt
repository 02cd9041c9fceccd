-- What an operation for a new data set changes of an image: the VTOC, and the tracks that its directory is written on.
use Rattle.std.proofs.Common.{◌≡◌, ℕ, List, [], Option, Some, Ok, refl, sym, ap, ◌∙◌}
use Rattle.std.specs.Prelude.{slice_get, unwrap_or}
use Rattle.ebcdic_names.specs.declared.names.Dsn.{Dsn}
use Rattle.pack_spec.specs.Blocks.{owned_tracks}
use Rattle.pack_spec.specs.Volume.{volume_of}
use Rattle.vol_model.specs.declared.contents.Attr.{Attr}
use Rattle.vol_model.specs.declared.contents.Run.{Run}
use Rattle.vol_model.specs.declared.contents.Volume.{Volume}
use Rattle.vol_model.specs.declared.requests.Request.{Request}
use Rattle.vtoc_index.specs.declared.vol.Vol.{Vol}
use Rattle.dadsm_ops.specs.Allocating.{HasPlan, InNewSet, directory_runs, new_tracks}
use Rattle.dadsm_ops.specs.Formatting.{DifferOn}
use Rattle.dadsm_ops.specs.Operations.{InVtoc}
use Rattle.dadsm_ops.proofs.Updating.{GoesOn}

module _ (q : Request) (dir : ℕ) (v : Vol) (start : List ℕ) where
  -- they begin with none, and go on with those of the VTOC
  pub set_goes_on : GoesOn v start (InNewSet q dir v)
  set_goes_on = record {
    none = record { size = refl; header = refl; tracks = λ track out apart. refl };
    more = λ b c one two. record {
      size = two.size ∙ one.size;
      header = two.header ∙ one.header;
      tracks = λ track out apart. two.tracks track out ∙ one.tracks track out apart;
    };
  }

  -- and with those of the tracks that are planned
  pub set_onto : (dsn : Dsn) (attr : Attr) (runs : List Run) → HasPlan start dsn attr q dir runs → (b c : List ℕ) → InNewSet q dir v start b → DifferOn v.geometry (directory_runs dir runs) b c → InNewSet q dir v start c
  set_onto dsn attr runs plan b c one two =
      let is : new_tracks q dir (volume_of start) ≡ directory_runs dir runs = ap (new_tracks q dir) plan.stands ∙ ap (λ (o : Option (List Run)). directory_runs dir (unwrap_or o [])) plan.has.chosen in
      record {
        size = two.size ∙ one.size;
        header = two.header ∙ one.header;
        tracks = λ track out apart. two.others track (λ k there. apart k (ap (λ (rs : List Run). slice_get (owned_tracks rs) k) is ∙ there)) ∙ one.tracks track out apart;
      }

none_owned : (k t : ℕ) → slice_get (owned_tracks []) k ≡ Some t → ⊥
unfolding owned_tracks
none_owned k t there = cc

-- Without a directory they are those of the VTOC alone.
pub set_in_vtoc : (q : Request) (v : Vol) (before after : List ℕ) (volume : Volume) → volume_of before ≡ Ok volume → InNewSet q 0 v before after → InVtoc v before after
set_in_vtoc q v before after volume stands changes =
    let is : new_tracks q 0 (volume_of before) ≡ [] = ap (new_tracks q 0) stands in
    record {
      size = changes.size;
      header = changes.header;
      tracks = λ track out. changes.tracks track out (λ k there. none_owned k track (sym (ap (λ (rs : List Run). slice_get (owned_tracks rs) k) is) ∙ there));
    }
