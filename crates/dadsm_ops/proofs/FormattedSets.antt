-- A new directory on tracks that nothing owns: what a stop leaves, and the image once it is durable.
use Rattle.std.proofs.Common.{◌≡◌, ◌+◌, ℕ, List, [], Result, Ok, Err, inl, refl, sym, ap, ◌∙◌, subst, arith}
use Rattle.std.specs.Prelude.{IsErr, OnOk}
use Rattle.stop_model.specs.Files.{AfterSync, File}
use Rattle.stop_model.specs.Moments.{IsDurable, Meaning}
use Rattle.stop_model.proofs.MomentLemmas.{elapses_from_exactly, elapses_then, elapses_weaker}
use Rattle.pack_spec.specs.Settled.{IsMarked}
use Rattle.pack_spec.specs.Slots.{slots_of_vtoc}
use Rattle.pack_spec.specs.Volume.{volume_by, volume_of, volume_with}
use Rattle.track_records.specs.Buffers.{Buffer}
use Rattle.vol_model.specs.declared.contents.Run.{Run}
use Rattle.vol_model.specs.declared.contents.Volume.{Volume}
use Rattle.vol_model.specs.Places.{directory_end}
use Rattle.vtoc_index.specs.declared.vol.Vol.{Vol}
use Rattle.vtoc_index.specs.Index.{IsMounted}
use Rattle.dadsm_ops.specs.Operations.{image_named}
use Rattle.dadsm_ops.specs.Formatting.{AreOn, AreSpare, AreSpared, Formats, FormatsSet, IsFormatted}
use Rattle.dadsm_ops.proofs.SpareTracks.{slots_kept, spare_mounted, volume_kept}

-- an index with another buffer, which holds no record
with_empty : (image : List ℕ) (v : Vol) (b : Buffer) → b.records ≡ [] → IsMounted image v → IsMounted image (record v { buf = b })
with_empty image v b none m = record {
  index = record { header = m.index.header; serial = m.index.serial; tracks = m.index.tracks; slots = m.index.slots; firsts = m.index.firsts; buffer = inl none };
  vtoc = m.vtoc;
  lawful = m.lawful;
  whole = m.whole;
  free = m.free;
  volume = m.volume;
}

none_done : {T E : Type 0} (P : Type 0) (r : Result T E) → IsErr r → OnOk r P
none_done P (Ok y) is = cc
none_done P (Err e) is = tt

by_done : {T E P Q : Type 0} (r : Result T E) → (P → Q) → OnOk r P → OnOk r Q
by_done (Ok x) f p = f p
by_done (Err e) f p = tt

always_done : {T E P : Type 0} (r : Result T E) → P → OnOk r P
always_done (Ok x) p = p
always_done (Err e) p = tt

module _ (name : List ℕ) (v : Vol) (runs : List Run) (n : ℕ) (old : Meaning (List File)) (m : IsMounted (image_named old.state name) v) (marked : IsMarked (slots_of_vtoc (image_named old.state name) v.geometry v.vtoc))
    (spare : (volume : Volume) → volume_of (image_named old.state name) ≡ Ok volume → AreSpare volume runs) (durable : IsDurable old) where
  abbrev image : List ℕ
  image = image_named old.state name

  abbrev volume : Volume
  volume = volume_by image v.geometry v.vtoc

  abbrev empty : Buffer
  empty = record (v.buf) { records = [] }

  abbrev bare : Vol
  bare = record v { buf = empty }

  mounted : (files : List File) → AreOn name v.geometry runs old.state files → (b : Buffer) → b.records ≡ [] → IsMounted (image_named files name) (record v { buf = b })
  mounted files on b none = spare_mounted image (image_named files name) (record v { buf = b }) runs (with_empty image v b none m) on.image (spare volume m.volume) (inl none)

  spared : (files : List File) → AreOn name v.geometry runs old.state files → AreSpared name volume runs old.state files
  unfolding volume_with
  spared files on =
      let after : List ℕ = image_named files name in
      let m0 : IsMounted image bare = with_empty image v empty refl m in
      let slots : slots_of_vtoc after v.geometry v.vtoc ≡ slots_of_vtoc image v.geometry v.vtoc = slots_kept image after bare runs m0 on.image (spare volume m.volume) in
      record {
        stands = (mounted files on empty refl).volume ∙ ap (λ (x : Volume). Ok x) (volume_kept image after bare runs m0 on.image (spare volume m.volume));
        marked = subst IsMarked (sym slots) marked;
        differ = on;
      }

  left : (files : List File) → old.left files → AreOn name v.geometry runs old.state files
  left files is = subst (AreOn name v.geometry runs old.state) (sym (durable files is)) (record { image = record { size = refl; header = refl; others = λ track out. refl }; others = λ other apart. refl })

  abbrev last : ℕ
  last = (directory_end v.geometry.device n).tt + 1

  pub set_formats_not : {T E A B : Type 0} (mid : Meaning (List File)) (b : Buffer) (result : Result T E) (answer : Result A B) → IsErr answer → Formats name v.geometry runs n last old mid result → FormatsSet name runs n (record v { buf = b }) old mid answer
  set_formats_not mid b result answer failed wrote =
      let kept = wrote.keeps old.state left in
      record {
        volume = volume;
        before = m.volume;
        spared = none_done _ answer failed;
        tracks = none_done _ answer failed;
        index = none_done _ answer failed;
        durable = none_done _ answer failed;
        printed = kept.printed;
        moments = elapses_weaker kept.moments (λ files p at. (spared files at.0, at.1));
      }

  pub set_formats : {T E A B : Type 0} (mid new : Meaning (List File)) (b : Buffer) (x : T) (answer : Result A B) → b.records ≡ [] → mid.left mid.state → Formats {T = T} {E = E} name v.geometry runs n last old mid (Ok x) → AfterSync mid new answer → FormatsSet name runs n (record v { buf = b }) old new answer
  set_formats mid new b x answer none here wrote synced =
      let kept = wrote.keeps old.state left in
      let on : AreOn name v.geometry runs old.state new.state = subst (AreOn name v.geometry runs old.state) (sym synced.state) (kept.left mid.state here) in
      record {
        volume = volume;
        before = m.volume;
        spared = always_done answer (spared new.state on);
        tracks = always_done answer (λ k low. subst (λ (files : List File). IsFormatted (image_named files name) v.geometry runs n k) (sym synced.state) (wrote.tracks k (omega (arith, low))));
        index = always_done answer (mounted new.state on b none);
        durable = synced.done;
        printed = synced.printed ∙ kept.printed;
        moments = elapses_then
            (elapses_weaker kept.moments (λ files p at. (spared files at.0, at.1)))
            (elapses_from_exactly synced.time (λ files p now. (spared files (kept.left files now.0), now.1 ∙ kept.printed)));
      }
