-- What a stop leaves of a small disk, where a near reading of the definitions gives something else.
use Rattle.std.proofs.Common.{◌≡◌, ◌^◌, ◌-◌, ℕ, List, [], ◌∷◌, ◌++◌, ◌∙◌, get_or, refl, ap, arith, lit≤, true}
use Rattle.stop_model.specs.Counts.{Rose}
use Rattle.stop_model.specs.Files.{File}
use Rattle.hall_core.specs.History.{Write, wrote, synced, printed, MayLeaveAt, MayLeaveSince, writing, with_change}
use Rattle.hall_core.specs.HistoryLaws.{since_now}

-- a count that stands still rose at its type's end alone
stands_at_the_end : Rose (2 ^ 64 - 1) (2 ^ 64 - 1)
stands_at_the_end = lit≤ tt

stood_still : ¬ Rose 3 3
stood_still rose = absurd (omega arith)

abbrev files : List File
files = record { name = 65 ∷ []; bytes = 1 ∷ 2 ∷ [] } ∷ []

-- a stop in a print leaves a prefix of it, and no other part
one_printed : MayLeaveAt files (printed (97 ∷ 98 ∷ []) ∷ []) 0 files (97 ∷ [])
one_printed = record { files = ([], refl); text = (97 ∷ [], (98 ∷ [], refl), refl) }

second_alone : ¬ MayLeaveAt files (printed (97 ∷ 98 ∷ []) ∷ []) 0 files (98 ∷ [])
second_alone left =
    let (q, (rest, whole), is) = left.text in
    let head : 98 ≡ 97 = ap (λ (l : List ℕ). get_or l 0 0) (ap (λ (l : List ℕ). l ++ rest) is ∙ whole) in
    absurd (omega (arith, head))

abbrev nine : Write
nine = record { name = 65 ∷ []; at = 1; bytes = 9 ∷ []; is_done = true }

-- a stop since the beginning leaves a write out, and one since the sync keeps it
left_out : MayLeaveSince files (wrote nine ∷ synced ∷ []) 0 files []
left_out = (0, lit≤ tt, lit≤ tt, record { files = ([], refl); text = ([], ([], refl), refl) })

always_kept : (j : List File) (p : List ℕ) → MayLeaveSince files (wrote nine ∷ synced ∷ []) 2 j p → j ≡ with_change files (writing nine)
always_kept j p left =
    let now = since_now files (wrote nine ∷ synced ∷ []) j p left in
    now.0.1
