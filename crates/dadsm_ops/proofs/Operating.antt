-- An operation on the volume of an image that is one step over the files.
use Rattle.std.proofs.Common.{◌≡◌, ℕ, List, inl, inr, ⊎_elim, refl, sym, ap, subst, ◌∙◌}
use Rattle.std.specs.Prelude.{Result, Ok, Err}
use Rattle.ckd_image.specs.declared.header.Geometry.{Geometry}
use Rattle.stop_model.specs.Files.{File}
use Rattle.stop_model.specs.Moments.{Meaning, Elapses, Same}
use Rattle.stop_model.specs.Steps.{StepTo}
use Rattle.stop_model.proofs.MomentLemmas.{elapses_none, elapses_weaker}
use Rattle.pack_spec.specs.Settled.{IsGuarded, IsSettledVtoc}
use Rattle.pack_spec.specs.Volume.{volume_of}
use Rattle.vol_model.specs.declared.answers.StoreErr.TheVariants.{Device, Refused}
use Rattle.vol_model.specs.declared.contents.Run.{Run}
use Rattle.vol_model.specs.declared.contents.Volume.{Volume}
use Rattle.vol_model.specs.declared.refusals.Refusal.{Refusal}
use Rattle.vtoc_index.specs.Index.{IsMounted}
use Rattle.vtoc_index.specs.declared.vol.Vol.{Vol}
use Rattle.dadsm_ops.specs.Operations.{ChangesVtoc, DoesOperation, InVtoc, IsLeftInOperation, Operates, image_named}

-- the files as before
pub unchanged : (name : List ℕ) (g : Geometry) (vtoc : Run) (before after : List File) → after ≡ before → ChangesVtoc name g vtoc before after
unchanged name g vtoc before after same =
    let none : ChangesVtoc name g vtoc before before = record { others = λ other apart. refl; image = record { size = refl; header = refl; tracks = λ track outside. refl } } in
    subst (λ (files : List File). ChangesVtoc name g vtoc before files) (sym same) none

-- an index that differs in its slots, their order and its buffer alone has the same VTOC
indexed : (name : List ℕ) (v v' : Vol) (before after : List File) → v' ≡ record v { slots = v'.slots; by_name = v'.by_name; buf = v'.buf } → ChangesVtoc name v.geometry v.vtoc before after → ChangesVtoc name v'.geometry v'.vtoc before after
indexed name v v' before after same changes =
    subst (λ (g : Geometry). ChangesVtoc name g v'.vtoc before after) (sym (ap (λ (x : Vol). x.geometry) same))
    (subst (λ (run : Run). ChangesVtoc name v.geometry run before after) (sym (ap (λ (x : Vol). x.vtoc) same)) changes)

-- A step of the volume, and files whose image stands for the volume after it, guarded and settled where it was.
pub record LeadsTo (name : List ℕ) (stepped : Result Volume Refusal) (v : Vol) (before files : List File) : Type 0 where
  pub after : Volume
  pub step : stepped ≡ Ok after
  pub stands : volume_of (image_named files name) ≡ Ok after
  pub guarded : IsGuarded (image_named before name) → IsGuarded (image_named files name)
  pub settled : IsSettledVtoc (image_named before name) → IsSettledVtoc (image_named files name)
  pub changes : ChangesVtoc name v.geometry v.vtoc before files

-- the files as before are what a stop may leave
left_before : (name : List ℕ) (volume : Volume) (stepped : Result Volume Refusal) (v : Vol) (before : List File) → volume_of (image_named before name) ≡ Ok volume → IsLeftInOperation name volume stepped (InVtoc v) before before
left_before name volume stepped v before stands = record { stands = inl stands; guarded = λ guarded. guarded; changes = unchanged name v.geometry v.vtoc before before refl }

module _ (name : List ℕ) (operation : Volume → Result Volume Refusal) (v v' : Vol) (same : v' ≡ record v { slots = v'.slots; by_name = v'.by_name; buf = v'.buf }) (old new : Meaning (List File)) (volume : Volume) (before : volume_of (image_named old.state name) ≡ Ok volume) where
  module _ (files : List File) (leads : LeadsTo name (operation volume) v old.state files) where
    left_after : IsLeftInOperation name volume (operation volume) (InVtoc v') old.state files
    left_after = record {
      stands = inr (leads.after, leads.step, leads.stands);
      guarded = leads.guarded;
      changes = indexed name v v' old.state files same leads.changes;
    }

    -- what a stop in it leaves
    stopped : {T E : Type 0} {result : Result T E} → StepTo (λ all. all) files old new result
        → Elapses old new (λ left p. IsLeftInOperation name volume (operation volume) (InVtoc v') old.state left × (p ≡ old.printed))
    stopped step = elapses_weaker step.moments (λ left p (which, printed). (
      ⊎_elim
          (λ is. subst (λ (all : List File). IsLeftInOperation name volume (operation volume) (InVtoc v') old.state all) (sym is) (left_before name volume (operation volume) v' old.state before))
          (λ is. subst (λ (all : List File). IsLeftInOperation name volume (operation volume) (InVtoc v') old.state all) (sym is) left_after)
          which,
      printed,
    ))

    -- the step isn't refused
    not_refused : {P : Type 0} (r : Refusal) → operation volume ≡ Err r → P
    not_refused r refused = let never = sym leads.step ∙ refused in absurd (cc never)

    -- it is done
    pub operates : {T X Y : Type 0} {x : X} (answer : T) → StepTo {T = X} {E = Y} (λ all. all) files old new (Ok x) → IsMounted (image_named new.state name) v' → Operates name operation v' (InVtoc v') old new (Ok answer)
    operates answer step mounted = record {
      does = record {
        volume = volume;
        before = before;
        done = record {
          after = leads.after;
          step = leads.step;
          stands = ap (λ (all : List File). volume_of (image_named all name)) step.done.0 ∙ leads.stands;
          index = mounted;
          durable = step.done.1;
          changes = subst (λ (all : List File). ChangesVtoc name v'.geometry v'.vtoc old.state all) (sym step.done.0) (indexed name v v' old.state files same leads.changes);
        };
        settled = λ was. subst (λ (all : List File). IsSettledVtoc (image_named all name)) (sym step.done.0) (leads.settled was);
        printed = step.printed;
        moments = stopped step;
      };
      refused = λ r other. absurd (let wrong = other in cc);
      idle = λ r refused. not_refused r refused;
      memory = λ other. absurd (let wrong = other in cc);
    }

    -- the device failed
    pub operates_not : {T X Y : Type 0} {result : Result X Y} → StepTo (λ all. all) files old new result → Operates {T = T} name operation v' (InVtoc v') old new (Err Device)
    operates_not step = record {
      does = record { volume = volume; before = before; done = tt; settled = tt; printed = step.printed; moments = stopped step };
      refused = λ r other. absurd (let wrong = other in cc);
      idle = λ r refused. not_refused r refused;
      memory = λ other. absurd (let wrong = other in cc);
    }

-- it is refused where its step is, before anything is called
pub operates_none : {T : Type 0} (name : List ℕ) (operation : Volume → Result Volume Refusal) (v : Vol) (Changes : List ℕ → List ℕ → Type 0) (m : Meaning (List File)) (volume : Volume) (r : Refusal) → volume_of (image_named m.state name) ≡ Ok volume → operation volume ≡ Err r → Same m m → Operates {T = T} name operation v Changes m m (Err (Refused r))
operates_none name operation v Changes m volume r before is same = record {
  does = record { volume = volume; before = before; done = tt; settled = tt; printed = refl; moments = elapses_none m _ };
  refused = λ other given. is ∙ ap (λ (x : Refusal). Err x) (let one : r ≡ other = cc given in one);
  idle = λ other refused. same;
  memory = λ other. absurd (let wrong = other in cc);
}

-- An operation that isn't refused, done or failed.
module _ (name : List ℕ) (operation : Volume → Result Volume Refusal) (v : Vol) (Changes : List ℕ → List ℕ → Type 0) (m n : Meaning (List File)) (never : (volume : Volume) → volume_of (image_named m.state name) ≡ Ok volume → (r : Refusal) → operation volume ≡ Err r → ⊥) where
  pub operates_done : {T A B : Type 0} {x : A} (y : T) → DoesOperation {T = A} {E = B} name operation v Changes m n (Ok x) → Operates name operation v Changes m n (Ok y)
  operates_done y does = record {
    does = record {
      volume = does.volume;
      before = does.before;
      done = does.done;
      settled = does.settled;
      printed = does.printed;
      moments = does.moments;
    };
    refused = λ r wrong. absurd (let given = wrong in cc);
    idle = λ r refused. absurd (never does.volume does.before r refused);
    memory = λ wrong. absurd (let given = wrong in cc);
  }

  pub operates_failed : {T A B : Type 0} {result : Result A B} → DoesOperation name operation v Changes m n result → Operates {T = T} name operation v Changes m n (Err Device)
  operates_failed does = record {
    does = record { volume = does.volume; before = does.before; done = tt; settled = tt; printed = does.printed; moments = does.moments };
    refused = λ r wrong. absurd (let given = wrong in cc);
    idle = λ r refused. absurd (never does.volume does.before r refused);
    memory = λ wrong. absurd (let given = wrong in cc);
  }
