-- Disks after one event more, and what a stop leaves of them.
use Rattle.std.proofs.Common.{◌≡◌, ◌<◌, ◌⊎◌, inl, inr, ⊎_elim, ℕ, zero, suc, ◌+◌, ◌≤◌, List, [], ◌∷◌, ◌++◌, length, take, refl, sym, ◌∙◌, ap, subst, arith, length-append, Bool, true, false}
use Rattle.std.specs.Prelude.{Some, slice_get}
use Rattle.std.proofs.lemmas.List.{append-nil, take-append-le}
use Rattle.std.proofs.lemmas.Bool.{cases_lt}
use Rattle.stop_model.specs.Moments.{ElapsesExactly}
use Rattle.stop_model.specs.Files.{File}
use Rattle.hall_core.specs.HistoryLaws.{LeftIn, at_of, of_at, now_in, last_disk, now_since, since_now, with_changes_more, kept_with, left_made}
use Rattle.hall_core.specs.History.{Write, Change, writing, making, Event, wrote, made, Disk, new_disk, with_change, with_changes, after, after_all, kept, MayLeave, bytes_of_print, MayLeaveAt, MayLeaveSince, meaning_after}

pub after_all_more : (d : Disk) (es : List Event) (e : Event) → after_all d (es ++ e ∷ []) ≡ after (after_all d es) e
after_all_more d [] e = refl
after_all_more d (x ∷ es) e = after_all_more (after d x) es e

get_last : (es : List Event) (e : Event) → slice_get (es ++ e ∷ []) (length es) ≡ Some e
get_last [] e = refl
get_last (x ∷ es) e = get_last es e

get_before : (es : List Event) (e : Event) (n : ℕ) → n < length es → slice_get (es ++ e ∷ []) n ≡ slice_get es n
get_before [] e n low = absurd (omega arith)
get_before (x ∷ es) e zero low = refl
get_before (x ∷ es) e (suc n) low = get_before es e n (omega arith)

module _ (first : List File) (es : List Event) (e : Event) where
  abbrev es' : List Event
  es' = es ++ e ∷ []

  abbrev old : Disk
  old = after_all (new_disk first) es

  abbrev bytes : List ℕ
  bytes = bytes_of_print (Some e)

  pub next_disk : after_all (new_disk first) es' ≡ after old e
  next_disk = after_all_more (new_disk first) es e

  longer : length es' ≡ length es + 1
  longer = length-append es (e ∷ [])

  same_disk : (k : ℕ) → k ≤ length es → after_all (new_disk first) (take k es') ≡ after_all (new_disk first) (take k es)
  same_disk k le = ap (after_all (new_disk first)) (take-append-le k es (e ∷ []) le)

  here_disk : after_all (new_disk first) (take (length es) es') ≡ old
  here_disk = same_disk (length es) (omega arith) ∙ last_disk first es

  here_print : bytes_of_print (slice_get es' (length es)) ≡ bytes
  here_print = ap bytes_of_print (get_last es e)

  -- a stop in the event
  during_since : (t : ℕ) (j : List File) (p : List ℕ) → t ≤ length es → LeftIn old bytes j p → MayLeaveSince first es' t j p
  during_since t j p le left = (length es, le, omega (arith, longer), of_at first es' (length es) old bytes j p here_disk here_print left)

  -- a stop after it
  behind_since : (t : ℕ) (j : List File) (p : List ℕ) → t ≤ length es → MayLeave (after old e) j → p ≡ (after old e).text → MayLeaveSince first es' t j p
  behind_since t j p le left is =
      now_since first es' t j p (omega (arith, longer)) (subst (λ (x : Disk). MayLeave x j) (sym next_disk) left) (is ∙ ap (λ (x : Disk). x.text) (sym next_disk))

  -- a stop since an earlier moment leaves what one left before, or is in the event, or after it
  since_more : (t : ℕ) (j : List File) (p : List ℕ) → t ≤ length es → MayLeaveSince first es' t j p → MayLeaveSince first es t j p ⊎ (LeftIn old bytes j p ⊎ (MayLeave (after old e) j × (p ≡ (after old e).text)))
  since_more t j p le (k, low, high, left) = ⊎_elim before (λ not_before. ⊎_elim (past not_before) (here not_before) (cases_lt (length es) k)) (cases_lt k (length es))
    where
      Goal : Type 0
      Goal = MayLeaveSince first es t j p ⊎ (LeftIn old bytes j p ⊎ (MayLeave (after old e) j × (p ≡ (after old e).text)))

      before : k < length es → Goal
      before inside =
          let r = at_of first es' k _ _ j p (same_disk k (omega arith)) (ap bytes_of_print (get_before es e k inside)) left in
          inl (k, low, omega arith, record { files = r.0; text = r.1 })

      here : length es ≤ k → k ≤ length es → Goal
      here above below =
          let same : k ≡ length es = omega arith in
          inr (inl (at_of first es' (length es) old bytes j p here_disk here_print (subst (λ (n : ℕ). MayLeaveAt first es' n j p) same left)))

      past : length es ≤ k → length es < k → Goal
      past above beyond =
          let same : k ≡ length es' = omega (arith, longer) in
          let now = since_now first es' j p (length es', omega arith, omega arith, subst (λ (n : ℕ). MayLeaveAt first es' n j p) same left) in
          inr (inr (subst (λ (x : Disk). MayLeave x j) next_disk now.0, now.1 ∙ ap (λ (x : Disk). x.text) next_disk))

  -- what was left before stays
  since_keeps : (t : ℕ) (j : List File) (p : List ℕ) → t ≤ length es → MayLeaveSince first es t j p → MayLeaveSince first es' t j p
  since_keeps t j p le (k, low, high, left) = ⊎_elim before last (cases_lt k (length es))
    where
      before : k < length es → MayLeaveSince first es' t j p
      before inside = (k, low, omega (arith, longer), of_at first es' k _ _ j p (same_disk k high) (ap bytes_of_print (get_before es e k inside)) (left.files, left.text))

      last : length es ≤ k → MayLeaveSince first es' t j p
      last past =
          let same : k ≡ length es = omega arith in
          let now = since_now first es j p (length es, omega arith, omega arith, subst (λ (n : ℕ). MayLeaveAt first es n j p) same left) in
          during_since t j p le (now_in old bytes j p now)

  -- time goes on by the event, where what has P is left in it or after it, or was left before
  pub elapses : (P : List File → List ℕ → Type 0)
      → ((j : List File) (p : List ℕ) → LeftIn old bytes j p → (MayLeave old j × (p ≡ old.text)) ⊎ P j p)
      → ((j : List File) (p : List ℕ) → MayLeave (after old e) j → p ≡ (after old e).text → (MayLeave old j × (p ≡ old.text)) ⊎ P j p)
      → ((j : List File) (p : List ℕ) → P j p → LeftIn old bytes j p ⊎ (MayLeave (after old e) j × (p ≡ (after old e).text)))
      → ElapsesExactly (meaning_after first es) (meaning_after first es') P
  elapses P during behind back = record {
    later = omega (arith, longer);
    since = λ t j p le. (forth t j p le, ⊎_elim (since_keeps t j p le) (λ has. ⊎_elim (during_since t j p le) (λ now. behind_since t j p le now.0 now.1) (back j p has)));
  }
    where
      was : (t : ℕ) (j : List File) (p : List ℕ) → t ≤ length es → (MayLeave old j × (p ≡ old.text)) ⊎ P j p → MayLeaveSince first es t j p ⊎ P j p
      was t j p le = ⊎_elim (λ now. inl (now_since first es t j p le now.0 now.1)) (λ has. inr has)

      forth : (t : ℕ) (j : List File) (p : List ℕ) → t ≤ length es → MayLeaveSince first es' t j p → MayLeaveSince first es t j p ⊎ P j p
      forth t j p le left = ⊎_elim (λ before. inl before) (λ new. was t j p le (⊎_elim (during j p) (λ now. behind j p now.0 now.1) new)) (since_more t j p le left)

-- what is kept of one write more
kept_more : (flags : List Bool) (cs : List Change) (w : Write) → (less : List Bool) × ((kept flags (cs ++ writing w ∷ []) ≡ kept less cs) ⊎ (kept flags (cs ++ writing w ∷ []) ≡ kept less cs ++ writing w ∷ []))
kept_more [] [] w = ([], inl refl)
kept_more (true ∷ flags) [] w = ([], inr refl)
kept_more (false ∷ flags) [] w = ([], inl refl)
kept_more flags (making f ∷ cs) w = let r = kept_more flags cs w in (r.0, ⊎_elim (λ same. inl (ap (λ (l : List Change). making f ∷ l) same)) (λ more. inr (ap (λ (l : List Change). making f ∷ l) more)) r.1)
kept_more [] (writing v ∷ cs) w = let r = kept_more [] cs w in (false ∷ r.0, r.1)
kept_more (true ∷ flags) (writing v ∷ cs) w = let r = kept_more flags cs w in (true ∷ r.0, ⊎_elim (λ same. inl (ap (λ (l : List Change). writing v ∷ l) same)) (λ more. inr (ap (λ (l : List Change). writing v ∷ l) more)) r.1)
kept_more (false ∷ flags) (writing v ∷ cs) w = let r = kept_more flags cs w in (false ∷ r.0, r.1)

-- a write is pending
pub left_more : (d : Disk) (w : Write) (j : List File) → MayLeave (after d (wrote w)) j → (e : List File) × MayLeave d e × ((j ≡ e) ⊎ (j ≡ with_change e (writing w)))
left_more d w j (flags, is) =
    let r = kept_more flags d.pending w in
    (with_changes d.stable (kept r.0 d.pending), (r.0, refl), ⊎_elim (λ same. inl (is ∙ ap (with_changes d.stable) same)) (λ more. inr (is ∙ ap (with_changes d.stable) more ∙ with_changes_more d.stable (kept r.0 d.pending) (writing w))) r.1)

pub left_out : (d : Disk) (w : Write) (j : List File) → MayLeave d j → MayLeave (after d (wrote w)) j
left_out d w j (flags, is) = let r = kept_with false flags d.pending w in (r.0, is ∙ ap (with_changes d.stable) (sym (r.1 ∙ append-nil (kept flags d.pending))))

pub left_in : (d : Disk) (w : Write) (j : List File) → MayLeave d j → MayLeave (after d (wrote w)) (with_change j (writing w))
left_in d w j (flags, is) = let r = kept_with true flags d.pending w in (r.0, ap (λ (l : List File). with_change l (writing w)) is ∙ sym (with_changes_more d.stable (kept flags d.pending) (writing w)) ∙ ap (with_changes d.stable) (sym r.1))

-- a file that was made is left, with what was left before
pub left_behind : (d : Disk) (f : File) (j : List File) → MayLeave (after d (made f)) j → (e : List File) × MayLeave d e × (j ≡ e ++ f ∷ [])
left_behind d f j (flags, is) = (with_changes d.stable (kept flags d.pending), (flags, refl), is ∙ left_made d flags f)

pub left_with : (d : Disk) (f : File) (e : List File) → MayLeave d e → MayLeave (after d (made f)) (e ++ f ∷ [])
left_with d f e (flags, is) = (flags, ap (λ (l : List File). l ++ f ∷ []) is ∙ sym (left_made d flags f))
