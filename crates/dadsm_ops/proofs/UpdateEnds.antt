-- How an operation of some steps on a mounted image ends: the mark, writes without a part in the volume, the directory of a new set, the deciding write, and the end of the update.
use Rattle.std.proofs.Common.{◌≡◌, ℕ, List, refl, sym, ap}
use Rattle.std.specs.Prelude.{Result, Ok, Err, IsErr}
use Rattle.stop_model.specs.Files.{File}
use Rattle.stop_model.specs.Moments.{Meaning}
use Rattle.pack_spec.specs.Volume.{volume_by, volume_with}
use Rattle.vol_model.specs.declared.contents.Volume.{Volume}
use Rattle.vol_model.specs.declared.refusals.Refusal.{Refusal}
use Rattle.vtoc_index.specs.Index.{IsMounted}
use Rattle.vtoc_index.specs.declared.vol.Vol.{Vol}
use Rattle.free_rebuild.specs.Updates.{Concludes, Marks}
use Rattle.vol_model.specs.declared.contents.Run.{Run}
use Rattle.dadsm_ops.specs.Allocating.{Decides, PutsDirectory, directory_runs}
use Rattle.dadsm_ops.specs.Formatting.{DifferOn}
use Rattle.dadsm_ops.specs.Operations.{DoesOperation, HasVtocOf, image_named}
use Rattle.dadsm_ops.proofs.Updating.{Come, GoesOn, begins, concludes_time, decides_come, decides_time, ends_done, ends_not, marks_come, marks_time, puts_come, puts_time}

module _ (name : List ℕ) (operation : Volume → Result Volume Refusal) (v w : Vol) (start : Meaning (List File)) (mounted : IsMounted (image_named start.state name) v) (same : HasVtocOf v w) (Changes : List ℕ → List ℕ → Type 0) (goes : GoesOn w (image_named start.state name) Changes) where
  abbrev volume : Volume
  volume = volume_by (image_named start.state name) v.geometry v.vtoc

  same_g : volume.geometry ≡ w.geometry
  unfolding volume_with
  same_g = sym (ap (λ (x : Vol). x.geometry) same)

  same_vtoc : volume.vtoc ≡ w.vtoc
  unfolding volume_with
  same_vtoc = sym (ap (λ (x : Vol). x.vtoc) same)

  first : Come name operation w start volume mounted.volume same_g same_vtoc Changes goes volume start
  first = begins name operation w start volume mounted.volume same_g same_vtoc Changes goes

  -- it ended at the mark
  pub ends_marking : {T E A B : Type 0} {a : Vol} {n : Meaning (List File)} {result : Result A B} (answer : Result T E) → IsErr answer → Marks name a start n result → DoesOperation name operation w Changes start n answer
  ends_marking answer failed marks =
      let time = marks_time name operation w start volume mounted.volume same_g same_vtoc Changes goes first marks in
      ends_not name operation w start volume mounted.volume same_g same_vtoc Changes goes answer failed time.0 time.1

  module _ {T E : Type 0} {x : T} {a : Vol} {m : Meaning (List File)} (marks : Marks {T = T} {E = E} name a start m (Ok x)) where
    second : Come name operation w start volume mounted.volume same_g same_vtoc Changes goes volume m
    second = marks_come name operation w start volume mounted.volume same_g same_vtoc Changes goes first marks

    -- or at the writes without a part
    pub ends_writing : {A B C D : Type 0} {b : Vol} {n : Meaning (List File)} {result : Result C D} (answer : Result A B) → IsErr answer → Marks name b m n result → DoesOperation name operation w Changes start n answer
    ends_writing answer failed more =
        let time = marks_time name operation w start volume mounted.volume same_g same_vtoc Changes goes second more in
        ends_not name operation w start volume mounted.volume same_g same_vtoc Changes goes answer failed time.0 time.1

    module _ {A B : Type 0} {y : A} {b : Vol} {n : Meaning (List File)} (more : Marks {T = A} {E = B} name b m n (Ok y)) where
      third : Come name operation w start volume mounted.volume same_g same_vtoc Changes goes volume n
      third = marks_come name operation w start volume mounted.volume same_g same_vtoc Changes goes second more

      -- or at the deciding write
      pub ends_deciding : {C D F G : Type 0} {c : Vol} {o : Meaning (List File)} {result : Result F G} (answer : Result C D) → IsErr answer → Decides name operation c n o result → DoesOperation name operation w Changes start o answer
      ends_deciding answer failed decides =
          let time = decides_time name operation w start volume mounted.volume same_g same_vtoc Changes goes third decides in
          ends_not name operation w start volume mounted.volume same_g same_vtoc Changes goes answer failed time.0 time.1

      -- or at the end of the update, done or not
      pub ends : {C D F G : Type 0} {z : C} {c : Vol} {o p : Meaning (List File)} (result : Result F G) → Decides {T = C} {E = D} name operation c n o (Ok z) → Concludes name w o p result → DoesOperation name operation w Changes start p result
      ends (Ok done) decides concludes =
          ends_done name operation w start volume mounted.volume same_g same_vtoc Changes goes (decides_come name operation w start volume mounted.volume same_g same_vtoc Changes goes third decides) done concludes
      ends (Err e) decides concludes =
          let time = concludes_time name operation w start volume mounted.volume same_g same_vtoc Changes goes (decides_come name operation w start volume mounted.volume same_g same_vtoc Changes goes third decides) concludes in
          ends_not name operation w start volume mounted.volume same_g same_vtoc Changes goes (Err e) refl time.0 time.1

      -- The same where the directory of a new set is written in front of the deciding write.
      module _ (runs : List Run) (dir : ℕ) (onto : (b c : List ℕ) → Changes (image_named start.state name) b → DifferOn w.geometry (directory_runs dir runs) b c → Changes (image_named start.state name) c) where
        -- it ended at that
        pub ends_formatting : {C D F G : Type 0} {c : Vol} {o : Meaning (List File)} {result : Result F G} (answer : Result C D) → IsErr answer → PutsDirectory name runs dir c n o result → DoesOperation name operation w Changes start o answer
        ends_formatting answer failed puts =
            let time = puts_time name operation w start volume mounted.volume same_g same_vtoc Changes goes third runs dir onto puts in
            ends_not name operation w start volume mounted.volume same_g same_vtoc Changes goes answer failed time.0 time.1

        module _ {C D : Type 0} {z : C} {c : Vol} {o : Meaning (List File)} (puts : PutsDirectory {T = C} {E = D} name runs dir c n o (Ok z)) where
          fourth : Come name operation w start volume mounted.volume same_g same_vtoc Changes goes volume o
          fourth = puts_come name operation w start volume mounted.volume same_g same_vtoc Changes goes third runs dir onto puts

          -- or at the deciding write
          pub ends_set : {F G H I : Type 0} {d : Vol} {p : Meaning (List File)} {result : Result H I} (answer : Result F G) → IsErr answer → Decides name operation d o p result → DoesOperation name operation w Changes start p answer
          ends_set answer failed decides =
              let time = decides_time name operation w start volume mounted.volume same_g same_vtoc Changes goes fourth decides in
              ends_not name operation w start volume mounted.volume same_g same_vtoc Changes goes answer failed time.0 time.1

          -- or at the end of the update, done or not
          pub ends_new : {F G H I : Type 0} {y : F} {d : Vol} {p q : Meaning (List File)} (result : Result H I) → Decides {T = F} {E = G} name operation d o p (Ok y) → Concludes name w p q result → DoesOperation name operation w Changes start q result
          ends_new (Ok done) decides concludes =
              ends_done name operation w start volume mounted.volume same_g same_vtoc Changes goes (decides_come name operation w start volume mounted.volume same_g same_vtoc Changes goes fourth decides) done concludes
          ends_new (Err e) decides concludes =
              let time = concludes_time name operation w start volume mounted.volume same_g same_vtoc Changes goes (decides_come name operation w start volume mounted.volume same_g same_vtoc Changes goes fourth decides) concludes in
              ends_not name operation w start volume mounted.volume same_g same_vtoc Changes goes (Err e) refl time.0 time.1
