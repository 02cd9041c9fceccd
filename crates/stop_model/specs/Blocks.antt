-- Writes that share a sync, and how far a chain of them has come, in this project's profile.
use Rattle.std.specs.Prelude.{◌≡◌, ◌⊎◌, ℕ, List, Result, OnOk}
use Rattle.stop_model.specs.Moments.{Meaning, IsDurable, LeftNow, Elapses, ElapsesExactly}

-- A write, done or failed, is pending: a stop leaves what one left before, or that with the write.
pub record Pends {X T E : Type 0} (w : X → X) (old new : Meaning X) (result : Result T E) : Type 0 where
  pub printed : new.printed ≡ old.printed
  pub done : OnOk result (new.state ≡ w old.state)
  pub pending : (z : X) → new.left z → (d : X) × old.left d × ((z ≡ d) ⊎ (z ≡ w d))
  pub time : ElapsesExactly old new (LeftNow new)

-- A sync that is done makes what is read durable; a stop in one leaves what one left before.
pub record Syncs {X T E : Type 0} (old new : Meaning X) (result : Result T E) : Type 0 where
  pub state : new.state ≡ old.state
  pub printed : new.printed ≡ old.printed
  pub done : OnOk result (IsDurable new)
  pub time : ElapsesExactly old new (LeftNow old)

-- How far a block of writes has come that no sync has made durable: what a stop left since the chain's start has P; what one leaves now has Q, which has P too; the state is seen as `y`, which has Q.
pub record Block {X Y : Type 0} (f : X → Y) (P : Y → List ℕ → Type 0) (Q : Y → Type 0) (old now : Meaning X) (y : Y) (text : List ℕ) : Type 0 where
  pub so_far : Elapses old now (λ x p. P (f x) p)
  pub left : (x : X) → now.left x → Q (f x)
  pub state : f now.state ≡ y
  pub printed : now.printed ≡ text
  pub here : Q y
  pub allowed : (z : Y) → Q z → P z text

-- How a write in a block goes, done or failed: at Ok the block has come this far.
pub record BlockExit {X Y T E : Type 0} (f : X → Y) (P : Y → List ℕ → Type 0) (Q : Y → Type 0) (old new : Meaning X) (y : Y) (text : List ℕ) (result : Result T E) : Type 0 where
  pub done : OnOk result (Block f P Q old new y text)
  pub printed : new.printed ≡ text
  pub moments : Elapses old new (λ x p. P (f x) p)

-- A block of writes and its sync: a stop leaves the state as one of what the writes may leave of it; once done it is as with all of them, durably. `Among` says what the writes may leave.
pub record BlockTo {X Y T E : Type 0} (f : X → Y) (Among : Y → Y → Type 0) (after : Y) (old new : Meaning X) (result : Result T E) : Type 0 where
  pub done : OnOk result ((f new.state ≡ after) × IsDurable new)
  pub printed : new.printed ≡ old.printed
  pub moments : Elapses old new (λ x p. Among (f old.state) (f x) × (p ≡ old.printed))

-- Writes, done or failed, that no sync has made durable: what a stop leaves has Q, and so has what one in them left.
pub record Keeps {X T E : Type 0} (Q : X → Type 0) (after : X) (old new : Meaning X) (result : Result T E) : Type 0 where
  pub printed : new.printed ≡ old.printed
  pub done : OnOk result (new.state ≡ after)
  pub left : (x : X) → new.left x → Q x
  pub moments : Elapses old new (λ x p. Q x × (p ≡ old.printed))
