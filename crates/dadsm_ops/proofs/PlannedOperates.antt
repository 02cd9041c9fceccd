-- A new data set as an operation that may be refused: nothing is begun, or what is planned is carried out.
use Rattle.std.proofs.Common.{◌≡◌, ℕ, List, refl, sym, ap, ◌∙◌}
use Rattle.std.specs.Prelude.{Result, Ok, Err}
use Rattle.ebcdic_names.specs.declared.names.Dsn.{Dsn}
use Rattle.stop_model.specs.Files.{File}
use Rattle.stop_model.specs.Moments.{Meaning, Same}
use Rattle.stop_model.proofs.MomentLemmas.{elapses_none}
use Rattle.pack_spec.specs.Volume.{volume_of}
use Rattle.vol_model.specs.declared.answers.StoreErr.TheVariants.{Device, Memory}
use Rattle.vol_model.specs.declared.contents.Attr.{Attr}
use Rattle.vol_model.specs.declared.contents.Run.{Run}
use Rattle.vol_model.specs.declared.contents.Volume.{Volume}
use Rattle.vol_model.specs.declared.refusals.Refusal.{Refusal}
use Rattle.vol_model.specs.declared.requests.Request.{Request}
use Rattle.vol_model.specs.Shelf.{allocate_on}
use Rattle.vtoc_index.specs.declared.vol.Vol.{Vol}
use Rattle.dadsm_ops.specs.Allocating.{HasPlan}
use Rattle.dadsm_ops.specs.Operations.{DoesOperation, Operates, image_named}
use Rattle.dadsm_ops.proofs.NewVolumes.{allocate_ok}
use Rattle.dadsm_ops.proofs.Operating.{operates_done}
use Rattle.dadsm_ops.proofs.Operating.{operates_failed as unless_done}

-- memory ran out before anything was called
pub operates_memory : {T : Type 0} (name : List ℕ) (operation : Volume → Result Volume Refusal) (v : Vol) (Changes : List ℕ → List ℕ → Type 0) (m : Meaning (List File)) (volume : Volume) → volume_of (image_named m.state name) ≡ Ok volume → Same m m → Operates {T = T} name operation v Changes m m (Err Memory)
operates_memory name operation v Changes m volume before same = record {
  does = record { volume = volume; before = before; done = tt; settled = tt; printed = refl; moments = elapses_none m _ };
  refused = λ other given. absurd (let wrong = given in cc);
  idle = λ other refused. same;
  memory = λ given. same;
}

module _ (name : List ℕ) (dsn : Dsn) (attr : Attr) (q : Request) (dir : ℕ) (v : Vol) (Changes : List ℕ → List ℕ → Type 0) (m n : Meaning (List File)) (runs : List Run) (plan : HasPlan (image_named m.state name) dsn attr q dir runs) where
  -- what is planned isn't refused
  not_refused : (volume : Volume) → volume_of (image_named m.state name) ≡ Ok volume → (r : Refusal) → allocate_on dsn attr q dir volume ≡ Err r → ⊥
  not_refused volume stands r refused =
      let both : Ok plan.volume ≡ Ok volume = sym plan.stands ∙ stands in
      let same : plan.volume ≡ volume = cc in
      let done = allocate_ok dsn attr q dir plan.volume plan.has.absent plan.has.right runs plan.has.chosen plan.fits plan.roomy in
      let wrong = sym done ∙ ap (λ (x : Volume). allocate_on dsn attr q dir x) same ∙ refused in
      cc wrong

  -- it is done
  pub operates_planned : {T A B : Type 0} {x : A} (y : T) → DoesOperation {T = A} {E = B} name (allocate_on dsn attr q dir) v Changes m n (Ok x) → Operates name (allocate_on dsn attr q dir) v Changes m n (Ok y)
  operates_planned y does = operates_done name (allocate_on dsn attr q dir) v Changes m n not_refused y does

  -- or the device failed
  pub operates_failed : {T A B : Type 0} {result : Result A B} → DoesOperation name (allocate_on dsn attr q dir) v Changes m n result → Operates {T = T} name (allocate_on dsn attr q dir) v Changes m n (Err Device)
  operates_failed does = unless_done name (allocate_on dsn attr q dir) v Changes m n not_refused does
