-- A disk, or a layer above one, that may be stopped at each moment: what is known of it, in this project's profile.
use Rattle.std.specs.Prelude.{◌≡◌, ◌⊎◌, ◌↔◌, ℕ, ◌≤◌, List}

-- Its state, and all that it printed; what a stop now may leave of the state; the time; and what a stop at some moment since a time may have left of both.
pub record Meaning (X : Type 0) : Type 1 where
  pub state : X
  pub printed : List ℕ
  pub left : X → Type 0
  pub clock : ℕ
  pub left_since : ℕ → X → List ℕ → Type 0

-- what a stop now leaves
abbrev pub LeftNow : {X : Type 0} → Meaning X → X → List ℕ → Type 0
LeftNow m x p = m.left x × (p ≡ m.printed)

-- nothing but the state is left by a stop now
abbrev pub IsDurable : {X : Type 0} → Meaning X → Type 0
IsDurable {X} m = (x : X) → m.left x → x ≡ m.state

-- a stop now leaves what it left before
abbrev pub LeavesSame : {X : Type 0} → Meaning X → Meaning X → Type 0
LeavesSame {X} old new = (x : X) → new.left x ↔ old.left x

-- Time goes on, and a stop at one of its moments leaves what has P, all of that and nothing else.
pub record ElapsesExactly {X : Type 0} (old new : Meaning X) (P : X → List ℕ → Type 0) : Type 0 where
  pub later : old.clock ≤ new.clock
  pub since : (t : ℕ) (x : X) (p : List ℕ) → t ≤ old.clock → new.left_since t x p ↔ (old.left_since t x p ⊎ P x p)

-- Time goes on: to what stops since an earlier moment left nothing comes but what has P, and none of it is lost.
pub record Elapses {X : Type 0} (old new : Meaning X) (P : X → List ℕ → Type 0) : Type 0 where
  pub later : old.clock ≤ new.clock
  pub moments : (t : ℕ) (x : X) (p : List ℕ) → t ≤ old.clock → new.left_since t x p → old.left_since t x p ⊎ P x p
  pub keeps : (t : ℕ) (x : X) (p : List ℕ) → t ≤ old.clock → old.left_since t x p → new.left_since t x p

-- nothing changes but the time
pub record Same {X : Type 0} (old new : Meaning X) : Type 0 where
  pub state : new.state ≡ old.state
  pub printed : new.printed ≡ old.printed
  pub left : LeavesSame old new
  pub time : ElapsesExactly old new (LeftNow old)
