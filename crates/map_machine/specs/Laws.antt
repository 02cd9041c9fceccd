-- What the trait asks of every machine, for one in memory.
use Rattle.std.specs.Prelude.{◌≡◌, ℕ, ◌≤◌, List, length}
use Rattle.std.proofs.Common.{sym, ap, ◌∙◌, arith}
use Rattle.std.proofs.lemmas.List.{drop_all}
use Rattle.stop_model.specs.Moments.{LeftNow}
use Rattle.map_machine.specs.declared.past.Done.{Done}
use Rattle.map_machine.specs.Past.{Moment, before_all, moment_at}
use Rattle.map_machine.specs.Held.{Held, meaning_in}
use Rattle.vol_model.specs.declared.contents.Shelf.{Shelf}

-- the last moment is now
pub last_moment : (log : List Done) (now : Moment) (k : ℕ) → length log ≤ k → moment_at log now k ≡ now
last_moment log now k past = ap (λ (l : List Done). before_all l now) (drop_all k log past)

-- what a stop leaves now was left by one since each earlier moment, with the text as it is now
pub counts_now : (held : Held) (t : ℕ) (shelf : Shelf) → t ≤ (meaning_in held).clock → (meaning_in held).left shelf → (meaning_in held).left_since t shelf (meaning_in held).printed
counts_now held t shelf early left =
    let log = held.log in
    let last = last_moment log held.now (length log) (omega arith) in
    (length log, early, omega arith, ap (λ (m : Moment). m.shelf) last ∙ sym left, ap (λ (m : Moment). m.text) last)

-- a stop since now leaves what one leaves now
pub only_now : (held : Held) (shelf : Shelf) (text : List ℕ) → (meaning_in held).left_since (meaning_in held).clock shelf text → LeftNow (meaning_in held) shelf text
only_now held shelf text (k, low, high, is, said) =
    let last = last_moment held.log held.now k low in
    (sym is ∙ ap (λ (m : Moment). m.shelf) last, sym said ∙ ap (λ (m : Moment). m.text) last)
