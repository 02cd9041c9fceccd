-- An operation after calls that change nothing, and one that isn't begun.
use Rattle.std.proofs.Common.{◌≡◌, ℕ, List, Result, Ok, Err, inl, refl, sym, ◌∙◌, subst}
use Rattle.std.specs.Prelude.{OnOk}
use Rattle.pack_spec.specs.Settled.{IsSettledVtoc}
use Rattle.pack_spec.specs.Volume.{volume_of}
use Rattle.stop_model.specs.Files.{File}
use Rattle.stop_model.specs.Moments.{Elapses, IsDurable, Meaning, Same}
use Rattle.stop_model.proofs.MomentLemmas.{elapses_from_exactly, elapses_then, elapses_weaker, same_then}
use Rattle.vol_model.specs.declared.answers.StoreErr.{StoreErr}
use Rattle.vol_model.specs.declared.answers.StoreErr.TheVariants as errors
use Rattle.vol_model.specs.declared.contents.Volume.{Volume}
use Rattle.vol_model.specs.declared.refusals.Refusal.{Refusal}
use Rattle.vtoc_index.specs.declared.vol.Vol.{Vol}
use Rattle.free_rebuild.specs.Repairs.{image_named}
use Rattle.free_rebuild.specs.Operations.{ChangesImage, IsDone, IsLeftInOperation, Operates}

module _ (name : List ℕ) (operation : Volume → Result Volume Refusal) (v : Vol) (Changes : List ℕ → List ℕ → Type 0) (old : Meaning (List File)) (durable : IsDurable old)
    (none : Changes (image_named old.state name) (image_named old.state name)) where
  changes_none : ChangesImage name Changes old.state old.state
  changes_none = record { others = λ other apart. refl; image = none }

  -- nothing is changed
  left_none : (volume : Volume) → volume_of (image_named old.state name) ≡ Ok volume → IsLeftInOperation name volume (operation volume) Changes old.state old.state
  left_none volume stands = record { stands = inl stands; guarded = λ was. was; changes = changes_none }

  abbrev Left : Volume → List File → List ℕ → Type 0
  Left volume files p = IsLeftInOperation name volume (operation volume) Changes old.state files × (p ≡ old.printed)

  same_left : (mid : Meaning (List File)) (volume : Volume) → volume_of (image_named old.state name) ≡ Ok volume → Same old mid → Elapses old mid (Left volume)
  same_left mid volume stands same = elapses_from_exactly same.time (λ files p now. (subst (λ (fs : List File). IsLeftInOperation name volume (operation volume) Changes old.state fs) (sym (durable files now.0)) (left_none volume stands), now.1))

  -- it isn't begun
  pub not_operated : {T : Type 0} (new : Meaning (List File)) (e : StoreErr) (volume : Volume) → volume_of (image_named old.state name) ≡ Ok volume → Same old new → ((r : Refusal) → e ≡ errors.Refused r → operation volume ≡ Err r) → Operates {T = T} name operation v Changes old new (Err e)
  not_operated new e volume stands same refused = record {
    does = record {
      volume = volume;
      before = stands;
      done = tt;
      settled = tt;
      printed = same.printed;
      moments = same_left new volume stands same;
    };
    refused = λ r is. let this : e ≡ errors.Refused r = cc in refused r this;
    idle = λ r is. same;
    memory = λ is. same;
  }

  module _ (mid new : Meaning (List File)) (same : Same old mid) where
    -- it is begun then
    pub operated_later : {T : Type 0} (result : Result T StoreErr) → Operates name operation v Changes mid new result → Operates name operation v Changes old new result
    operated_later {T = T} result later = record {
      does = record {
        volume = later.does.volume;
        before = stands;
        done = subst (λ (fs : List File). OnOk result (IsDone name (operation later.does.volume) v Changes fs new)) same.state later.does.done;
        settled = subst (λ (fs : List File). OnOk result (IsSettledVtoc (image_named fs name) → IsSettledVtoc (image_named new.state name))) same.state later.does.settled;
        printed = later.does.printed ∙ same.printed;
        moments = elapses_then (same_left mid later.does.volume stands same)
            (elapses_weaker later.does.moments (λ files p left. (subst (λ (fs : List File). IsLeftInOperation name later.does.volume (operation later.does.volume) Changes fs files) same.state left.0, left.1 ∙ same.printed)));
      };
      refused = later.refused;
      idle = λ r is. same_then same (later.idle r is);
      memory = λ is. same_then same (later.memory is);
    }
      where
        stands : volume_of (image_named old.state name) ≡ Ok later.does.volume
        stands = subst (λ (fs : List File). volume_of (image_named fs name) ≡ Ok later.does.volume) same.state later.does.before
