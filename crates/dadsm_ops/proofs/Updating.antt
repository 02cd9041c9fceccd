-- An operation on the volume of an image that is an update of several steps: the mark, writes without a part in the volume, the deciding write, and the end of the update.
use Rattle.std.proofs.Common.{◌≡◌, ◌≢◌, inl, inr, ⊎_elim, ℕ, List, refl, sym, ap, subst, ◌∙◌}
use Rattle.std.specs.Prelude.{Result, Ok, IsErr}
use Rattle.std.proofs.lemmas.Result.{IfOk-from_err}
use Rattle.ckd_image.specs.declared.header.Geometry.{Geometry}
use Rattle.stop_model.specs.Files.{File, file_of}
use Rattle.stop_model.specs.Moments.{Meaning, Elapses}
use Rattle.stop_model.proofs.MomentLemmas.{elapses_none, elapses_then, elapses_weaker}
use Rattle.pack_spec.specs.Alike.{DifferInVtoc}
use Rattle.pack_spec.specs.Volume.{volume_of}
use Rattle.vol_model.specs.declared.contents.Run.{Run}
use Rattle.vol_model.specs.declared.contents.Volume.{Volume}
use Rattle.vol_model.specs.declared.refusals.Refusal.{Refusal}
use Rattle.vtoc_index.specs.declared.vol.Vol.{Vol}
use Rattle.free_rebuild.specs.Updates.{Concludes, IsGuardedFor, IsMarkedFor, Marks}
use Rattle.dadsm_ops.specs.Allocating.{Decides, PutsDirectory, directory_runs}
use Rattle.dadsm_ops.specs.Formatting.{AreSpared, DifferOn}
use Rattle.dadsm_ops.specs.Operations.{ChangesImage, DoesOperation, InVtoc, IsLeftInOperation, image_named}

-- Changes of an image that begin with none, and go on with those of an index's VTOC.
pub record GoesOn (v : Vol) (start : List ℕ) (Changes : List ℕ → List ℕ → Type 0) : Type 0 where
  pub none : Changes start start
  pub more : (b c : List ℕ) → Changes start b → InVtoc v b c → Changes start c

-- those of the VTOC do so
pub vtoc_goes_on : (v : Vol) (start : List ℕ) → GoesOn v start (InVtoc v)
vtoc_goes_on v start = record {
  none = record { size = refl; header = refl; tracks = λ track outside. refl };
  more = λ b c one two. record {
    size = two.size ∙ one.size;
    header = two.header ∙ one.header;
    tracks = λ track outside. two.tracks track outside ∙ one.tracks track outside;
  };
}

-- an image stands for one volume
one_volume : (image : List ℕ) (a b : Volume) → volume_of image ≡ Ok a → volume_of image ≡ Ok b → a ≡ b
one_volume image a b one two = let both = sym one ∙ two in cc both

module _ (name : List ℕ) (operation : Volume → Result Volume Refusal) (v : Vol) (start : Meaning (List File)) (volume : Volume) (before : volume_of (image_named start.state name) ≡ Ok volume) (same_g : volume.geometry ≡ v.geometry) (same_vtoc : volume.vtoc ≡ v.vtoc) (Changes : List ℕ → List ℕ → Type 0) (goes : GoesOn v (image_named start.state name) Changes) where
  abbrev Left : List File → Type 0
  Left files = IsLeftInOperation name volume (operation volume) Changes start.state files

  -- the files that were changed so since the start
  abbrev Changed : List File → Type 0
  Changed files = ChangesImage name Changes start.state files

  no_change : Changed start.state
  no_change = record { others = λ other apart. refl; image = goes.none }

  abbrev Time : Meaning (List File) → Type 0
  Time m = Elapses start m (λ files p. Left files × (p ≡ start.printed))

  -- How far an update has come: what a stop since its start left is left in the operation; and now the image stands for this volume, with such changes alone.
  pub record Come (now : Volume) (m : Meaning (List File)) : Type 0 where
    pub time : Time m
    pub printed : m.printed ≡ start.printed
    pub stands : volume_of (image_named m.state name) ≡ Ok now
    pub left : Left m.state
    pub changes : Changed m.state

  pub begins : Come volume start
  begins = record {
    time = elapses_none start _;
    printed = refl;
    stands = before;
    left = record { stands = inl before; guarded = λ is. is; changes = no_change };
    changes = no_change;
  }

  -- the VTOC alone is changed, of a volume of the same geometry and VTOC
  changed : (w : Volume) (mid files : List File) → w.geometry ≡ v.geometry → w.vtoc ≡ v.vtoc → Changed mid → DifferInVtoc w.geometry w.vtoc (image_named mid name) (image_named files name) → ((other : List ℕ) → other ≢ name → file_of files other ≡ file_of mid other) → Changed files
  changed w mid files g vtoc sofar tracks others =
      let here : DifferInVtoc v.geometry v.vtoc (image_named mid name) (image_named files name) =
      subst (λ (x : Geometry). DifferInVtoc x v.vtoc (image_named mid name) (image_named files name)) g
      (subst (λ (r : Run). DifferInVtoc w.geometry r (image_named mid name) (image_named files name)) vtoc tracks) in
      record {
        others = λ other apart. others other apart ∙ sofar.others other apart;
        image = goes.more (image_named mid name) (image_named files name) sofar.image here;
      }

  -- more time, in which each stop leaves what is left in the operation
  more_time : {m n : Meaning (List File)} {Q : List File → Type 0} → Time m → m.printed ≡ start.printed → Elapses m n (λ files p. Q files × (p ≡ m.printed)) → ((files : List File) → Q files → Left files) → Time n
  more_time time printed more weaker = elapses_then time (elapses_weaker more (λ files p (is, text). (weaker files is, text ∙ printed)))

  module _ {m : Meaning (List File)} (come : Come volume m) where
    marked_left : (files : List File) → IsMarkedFor name volume m.state files → Left files
    marked_left files is = record {
      stands = inl is.stands;
      guarded = λ was. (volume, is.stands, inl is.marked);
      changes = changed volume m.state files same_g same_vtoc come.changes is.tracks is.others;
    }

    as_before : (files : List File) → files ≡ m.state → Left files
    as_before files is = subst Left (sym is) come.left

    module _ {T E : Type 0} {n : Meaning (List File)} {w : Vol} {result : Result T E} where
      -- a step that marks the image, or leaves it marked
      pub marks_time : Marks name w m n result → Time n × (n.printed ≡ start.printed)
      marks_time marks =
          let same : marks.volume ≡ volume = one_volume (image_named m.state name) marks.volume volume marks.before come.stands in (
            more_time come.time come.printed marks.moments (λ files is. ⊎_elim (as_before files) (λ marked. marked_left files (subst (λ (x : Volume). IsMarkedFor name x m.state files) same marked)) is),
            marks.printed ∙ come.printed,
          )

      -- the deciding write
      pub decides_time : Decides name operation w m n result → Time n × (n.printed ≡ start.printed)
      decides_time decides =
          let same : decides.volume ≡ volume = one_volume (image_named m.state name) decides.volume volume decides.before come.stands in (
            more_time come.time come.printed decides.moments (λ files is. ⊎_elim (as_before files) (decided_left decides same files) is),
            decides.printed ∙ come.printed,
          )
        where
          decided_left : (decides : Decides name operation w m n result) → decides.volume ≡ volume → (files : List File) → IsMarkedFor name decides.after m.state files → Left files
          decided_left decides same files is = record {
            stands = inr (decides.after, ap operation (sym same) ∙ decides.step, is.stands);
            guarded = λ was. (decides.after, is.stands, inl is.marked);
            changes = changed decides.after m.state files (decides.geometry ∙ ap (λ (x : Volume). x.geometry) same ∙ same_g) (decides.vtoc ∙ ap (λ (x : Volume). x.vtoc) same ∙ same_vtoc) come.changes is.tracks is.others;
          }

    module _ {T E : Type 0} {n : Meaning (List File)} {w : Vol} {x : T} where
      pub marks_come : Marks {T = T} {E = E} name w m n (Ok x) → Come volume n
      marks_come marks =
          let same : marks.volume ≡ volume = one_volume (image_named m.state name) marks.volume volume marks.before come.stands in
          let marked : IsMarkedFor name volume m.state n.state = subst (λ (y : Volume). IsMarkedFor name y m.state n.state) same marks.marked in
          let time = marks_time marks in
          let left = marked_left n.state marked in
          record { time = time.0; printed = time.1; stands = marked.stands; left = left; changes = left.changes }

    -- the directory of a new set, where its tracks may be changed too
    module _ (runs : List Run) (dir : ℕ) (onto : (b c : List ℕ) → Changes (image_named start.state name) b → DifferOn v.geometry (directory_runs dir runs) b c → Changes (image_named start.state name) c) where
      spared_left : (files : List File) → AreSpared name volume (directory_runs dir runs) m.state files → Left files
      spared_left files is = record {
        stands = inl is.stands;
        guarded = λ was. (volume, is.stands, inl is.marked);
        changes = record {
          others = λ other apart. is.differ.others other apart ∙ come.changes.others other apart;
          image = onto (image_named m.state name) (image_named files name) come.changes.image
              (subst (λ (x : Geometry). DifferOn x (directory_runs dir runs) (image_named m.state name) (image_named files name)) same_g is.differ.image);
        };
      }

      module _ {T E : Type 0} {n : Meaning (List File)} {w : Vol} {result : Result T E} where
        pub puts_time : PutsDirectory name runs dir w m n result → Time n × (n.printed ≡ start.printed)
        puts_time puts =
            let same : puts.volume ≡ volume = one_volume (image_named m.state name) puts.volume volume puts.before come.stands in (
              more_time come.time come.printed puts.moments (λ files is. spared_left files (subst (λ (x : Volume). AreSpared name x (directory_runs dir runs) m.state files) same is)),
              puts.printed ∙ come.printed,
            )

      module _ {T E : Type 0} {n : Meaning (List File)} {w : Vol} {x : T} where
        pub puts_come : PutsDirectory {T = T} {E = E} name runs dir w m n (Ok x) → Come volume n
        puts_come puts =
            let same : puts.volume ≡ volume = one_volume (image_named m.state name) puts.volume volume puts.before come.stands in
            let spared : AreSpared name volume (directory_runs dir runs) m.state n.state = subst (λ (y : Volume). AreSpared name y (directory_runs dir runs) m.state n.state) same puts.spared in
            let time = puts_time puts in
            let left = spared_left n.state spared in
            record { time = time.0; printed = time.1; stands = spared.stands; left = left; changes = left.changes }

  -- how an operation ends that isn't done
  pub ends_not : {T E : Type 0} {m : Meaning (List File)} (answer : Result T E) → IsErr answer → Time m → m.printed ≡ start.printed → DoesOperation name operation v Changes start m answer
  ends_not answer failed time printed = record {
    volume = volume;
    before = before;
    done = IfOk-from_err answer _ failed;
    settled = IfOk-from_err answer _ failed;
    printed = printed;
    moments = time;
  }

  -- The deciding write is done: the image stands for the volume after the operation.
  pub record Decided (after : Volume) (m : Meaning (List File)) : Type 0 where
    pub come : Come after m
    pub step : operation volume ≡ Ok after
    pub geometry : after.geometry ≡ v.geometry
    pub vtoc : after.vtoc ≡ v.vtoc

  pub decides_come : {T E : Type 0} {m n : Meaning (List File)} {w : Vol} {x : T} → Come volume m → (decides : Decides {T = T} {E = E} name operation w m n (Ok x)) → Decided decides.after n
  decides_come {m = m} {n = n} come decides =
      let same : decides.volume ≡ volume = one_volume (image_named m.state name) decides.volume volume decides.before come.stands in
      let step : operation volume ≡ Ok decides.after = ap operation (sym same) ∙ decides.step in
      let geometry : decides.after.geometry ≡ v.geometry = decides.geometry ∙ ap (λ (x : Volume). x.geometry) same ∙ same_g in
      let vtoc : decides.after.vtoc ≡ v.vtoc = decides.vtoc ∙ ap (λ (x : Volume). x.vtoc) same ∙ same_vtoc in
      let marked = decides.decided in
      let time = decides_time come decides in
      let changes = changed decides.after m.state n.state geometry vtoc come.changes marked.tracks marked.others in
      record {
        come = record {
          time = time.0;
          printed = time.1;
          stands = marked.stands;
          left = record { stands = inr (decides.after, step, marked.stands); guarded = λ was. (decides.after, marked.stands, inl marked.marked); changes = changes };
          changes = changes;
        };
        step = step;
        geometry = geometry;
        vtoc = vtoc;
      }

  module _ {after : Volume} {m : Meaning (List File)} (decided : Decided after m) where
    guarded_left : (files : List File) → IsGuardedFor name after m.state files → Left files
    guarded_left files is = record {
      stands = inr (after, decided.step, is.stands);
      guarded = λ was. is.guarded;
      changes = changed after m.state files decided.geometry decided.vtoc decided.come.changes is.tracks is.others;
    }

    pub concludes_time : {T E : Type 0} {n : Meaning (List File)} {w : Vol} {result : Result T E} → Concludes name w m n result → Time n × (n.printed ≡ start.printed)
    concludes_time concludes =
        let same : concludes.volume ≡ after = one_volume (image_named m.state name) concludes.volume after concludes.before decided.come.stands in (
          more_time decided.come.time decided.come.printed concludes.moments (λ files is. guarded_left files (subst (λ (x : Volume). IsGuardedFor name x m.state files) same is)),
          concludes.printed ∙ decided.come.printed,
        )

    -- the operation is done where the update has ended
    pub ends_done : {T E A B : Type 0} {n : Meaning (List File)} {x : T} (answer : A) → Concludes {T = T} {E = E} name v m n (Ok x) → DoesOperation {T = A} {E = B} name operation v Changes start n (Ok answer)
    ends_done {n = n} answer concludes =
        let same : concludes.volume ≡ after = one_volume (image_named m.state name) concludes.volume after concludes.before decided.come.stands in
        let safe : IsGuardedFor name after m.state n.state = subst (λ (y : Volume). IsGuardedFor name y m.state n.state) same concludes.safe in
        let time = concludes_time concludes in
        record {
          volume = volume;
          before = before;
          done = record {
            after = after;
            step = decided.step;
            stands = safe.stands;
            index = concludes.index;
            durable = concludes.durable;
            changes = (guarded_left n.state safe).changes;
          };
          settled = λ was. concludes.settled;
          printed = time.1;
          moments = time.0;
        }
