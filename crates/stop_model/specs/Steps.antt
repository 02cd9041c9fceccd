-- One step of a thing that a stop may catch, in this project's profile, and how far a chain of steps has come.
use Rattle.std.specs.Prelude.{◌≡◌, ◌⊎◌, ℕ, ◌≤◌, List, Result, OnOk, OnErr}
use Rattle.stop_model.specs.Moments.{Meaning, IsDurable, Elapses}

-- the same meaning, seen through a function of the state
abbrev pub seen : {X Y : Type 0} → (X → Y) → Meaning X → Meaning Y
seen {X} f m = record {
  state = f m.state;
  printed = m.printed;
  left = λ y. (x : X) × m.left x × (f x ≡ y);
  clock = m.clock;
  left_since = λ t y p. (x : X) × m.left_since t x p × (f x ≡ y);
}

-- what a stop now leaves has P
abbrev pub Leaves : {X : Type 0} → Meaning X → (X → List ℕ → Type 0) → Type 0
Leaves {X} m P = (x : X) → m.left x → P x m.printed

-- the state is the one before or the one after, and this text is what was printed
abbrev pub IsBeforeOrAfter : {Y : Type 0} → Y → Y → List ℕ → Y → List ℕ → Type 0
IsBeforeOrAfter before after text y p = ((y ≡ before) ⊎ (y ≡ after)) × (p ≡ text)

-- One step: a stop in it leaves what is seen as the state before or as `after`; once it is done that is `after`, durably.
pub record StepTo {X Y T E : Type 0} (f : X → Y) (after : Y) (old new : Meaning X) (result : Result T E) : Type 0 where
  pub done : OnOk result ((f new.state ≡ after) × IsDurable new)
  pub printed : new.printed ≡ old.printed
  pub moments : Elapses old new (λ x p. IsBeforeOrAfter (f old.state) after old.printed (f x) p)

-- How far a chain of steps has come: what a stop left since its start has P; and now the state is durable and is seen as `y`, with this text printed, which has P too.
pub record Stage {X Y : Type 0} (f : X → Y) (P : Y → List ℕ → Type 0) (old now : Meaning X) (y : Y) (text : List ℕ) : Type 0 where
  pub so_far : Elapses old now (λ x p. P (f x) p)
  pub durable : IsDurable now
  pub state : f now.state ≡ y
  pub printed : now.printed ≡ text
  pub allowed : P y text

-- How a chain of steps ends, done or failed: what a stop left since its start has P, and at Ok it has come this far.
pub record Exit {X Y T E : Type 0} (f : X → Y) (P : Y → List ℕ → Type 0) (old new : Meaning X) (y : Y) (text : List ℕ) (result : Result T E) : Type 0 where
  pub done : OnOk result (Stage f P old new y text)
  pub moments : Elapses old new (λ x p. P (f x) p)
