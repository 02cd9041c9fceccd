-- A machine that prints nothing: what it stands on, and what it promises of the printed bytes, in this project's profile.
use Rattle.std.specs.Prelude.{ℕ, Bool, List, ◌∷◌, IsTrue, if◌then◌else◌}
use Rattle.stop_model.specs.Moments.{Meaning}
use Rattle.vol_model.specs.declared.contents.Shelf.{Shelf}
use Rattle.vol_model.specs.Calls.{Bytes, Files, Known, PrintedSince, Status}

-- what a quiet machine stands on: what the machine within does, and in front the bytes that this printed, where it tells them
abbrev pub quiet_base : Bool → List ℕ → List (List ℕ) → List (List ℕ)
quiet_base told printed base = if told then printed ∷ base else base

-- the status of a quiet machine, by that of the machine within
abbrev pub quiet_status : Bool → Meaning Shelf → Status → Status
quiet_status told m s = record s { base = quiet_base told m.printed s.base }

-- what a quiet machine promises: what the machine within does by files, and of printed bytes that they stay, where that tells them
abbrev pub quiet_promise : Bool → Meaning Shelf → (ℕ → Known → Type 0) → ℕ → Known → Type 0
quiet_promise told m promise t (Files files) = promise t (Files files)
quiet_promise told m promise t (Bytes bytes) = IsTrue told → PrintedSince m t bytes
