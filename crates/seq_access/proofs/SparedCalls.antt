-- What calls leave of files that differ after the last block of a data set alone, one after another and under other buffers of the index.
use Rattle.std.proofs.Common.{◌≡◌, ℕ, List, [], Result, refl, sym, ◌∙◌, subst}
use Rattle.dscb_codec.specs.declared.F1.{F1}
use Rattle.stop_model.specs.Files.{File}
use Rattle.stop_model.specs.Moments.{Meaning, Same}
use Rattle.stop_model.proofs.MomentLemmas.{elapses_from_exactly, elapses_none, elapses_then, elapses_weaker}
use Rattle.track_records.specs.Buffers.{Buffer}
use Rattle.vol_model.specs.declared.contents.Place.{Place}
use Rattle.vtoc_index.specs.declared.vol.Vol.{Vol}
use Rattle.seq_access.specs.Writing.{AreSpared, DifferBehind, Spares}
use Rattle.seq_access.proofs.SparedFiles.{on_ok}
use Rattle.seq_access.proofs.WritersKept.{set_by}

-- what differs so does by an index with any buffer
pub differ_by : (v : Vol) (b : Buffer) (f : F1) (last : Place) (before after : List ℕ) → DifferBehind v f last before after → DifferBehind (record v { buf = b }) f last before after
differ_by v b f last before after d = record { size = d.size; header = d.header; others = d.others; kept = d.kept }

pub differ_from : (v : Vol) (b : Buffer) (f : F1) (last : Place) (before after : List ℕ) → DifferBehind (record v { buf = b }) f last before after → DifferBehind v f last before after
differ_from v b f last before after d = record { size = d.size; header = d.header; others = d.others; kept = d.kept }

pub differ_none : (v : Vol) (f : F1) (last : Place) (image : List ℕ) → DifferBehind v f last image image
differ_none v f last image = record { size = refl; header = refl; others = λ track out. refl; kept = λ track at some. refl }

module _ (name : List ℕ) (v : Vol) (f : F1) (last : Place) where
  -- calls that write nothing
  pub spares_same : {T E : Type 0} (old new : Meaning (List File)) (result : Result T E) → Same old new → Spares name v f last old new result
  spares_same old new result same before set left here = (
    record {
      printed = same.printed;
      done = on_ok result refl;
      left = λ files l. left files ((same.left files).0 l);
      moments = elapses_from_exactly same.time (λ files p l. (left files l.0, l.1));
    },
    subst (AreSpared name v f last before) (sym same.state) here,
  )

  pub spares_none : {T E : Type 0} (old : Meaning (List File)) (result : Result T E) → Spares name v f last old old result
  spares_none old result before set left here = (
    record {
      printed = refl;
      done = on_ok result refl;
      left = left;
      moments = elapses_none old (λ files p. AreSpared name v f last before files × (p ≡ old.printed));
    },
    here,
  )

  -- and others after them
  pub spares_then : {T E : Type 0} (old mid new : Meaning (List File)) (result : Result T E) → Same old mid → Spares name v f last mid new result → Spares name v f last old new result
  spares_then old mid new result same spares before set left here =
      let k = spares before set (λ files l. left files ((same.left files).0 l)) (subst (AreSpared name v f last before) (sym same.state) here) in (
        record {
          printed = k.0.printed ∙ same.printed;
          done = k.0.done;
          left = k.0.left;
          moments = elapses_then (elapses_from_exactly same.time (λ files p l. (left files l.0, l.1))) (elapses_weaker k.0.moments (λ files p has. (has.0, has.1 ∙ same.printed)));
        },
        k.1,
      )

  pub spares_back : {T E : Type 0} (old mid new : Meaning (List File)) (result : Result T E) → Spares name v f last old mid result → Same mid new → Spares name v f last old new result
  spares_back old mid new result spares same before set left here =
      let k = spares before set left here in (
        record {
          printed = same.printed ∙ k.0.printed;
          done = on_ok result refl;
          left = λ files l. k.0.left files ((same.left files).0 l);
          moments = elapses_then k.0.moments (elapses_from_exactly same.time (λ files p l. (k.0.left files l.0, l.1 ∙ k.0.printed)));
        },
        subst (AreSpared name v f last before) (sym same.state) k.1,
      )

  -- whatever they answer
  pub spares_as : {T E U D : Type 0} (old new : Meaning (List File)) (r : Result T E) (s : Result U D) → Spares name v f last old new r → Spares name v f last old new s
  spares_as old new r s spares before set left here =
      let k = spares before set left here in
      (record { printed = k.0.printed; done = on_ok s refl; left = k.0.left; moments = k.0.moments }, k.1)

  module _ (b : Buffer) where
    spared_by : (before files : List File) → AreSpared name v f last before files → AreSpared name (record v { buf = b }) f last before files
    spared_by before files spared = record { image = differ_by v b f last _ _ spared.image; others = spared.others }

    spared_from : (before files : List File) → AreSpared name (record v { buf = b }) f last before files → AreSpared name v f last before files
    spared_from before files spared = record { image = differ_from v b f last _ _ spared.image; others = spared.others }

    -- and by whatever buffer of the index
    pub spares_with : {T E : Type 0} (old new : Meaning (List File)) (result : Result T E) → Spares name (record v { buf = b }) f last old new result → Spares name v f last old new result
    spares_with old new result spares before set left here =
        let k = spares before (set_by _ (record v { buf = record (v.buf) { records = [] } }) (record b { records = [] }) f set refl) (λ files l. spared_by before files (left files l)) (spared_by before old.state here) in (
          record {
            printed = k.0.printed;
            done = k.0.done;
            left = λ files l. spared_from before files (k.0.left files l);
            moments = elapses_weaker k.0.moments (λ files p has. (spared_from before files has.0, has.1));
          },
          spared_from before new.state k.1,
        )
