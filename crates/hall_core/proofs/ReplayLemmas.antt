-- What the steps leave of a disk, from the writes among them.
use Rattle.std.proofs.Common.{◌≡◌, ◌<◌, ⊎_elim, ℕ, zero, suc, ◌+◌, ◌≤◌, List, [], ◌∷◌, ◌++◌, length, take, drop, get_or, refl, sym, ◌∙◌, ap, subst, arith, append_assoc, length-append, length-take, length-drop, Bool, true, false}
use Rattle.std.specs.Prelude.{if◌then◌else◌, min}
use Rattle.std.proofs.lemmas.List.{append-nil, map-append, take-append-le, drop-append-le, take_all, take_more, take-map, get_or-take, get_or-drop, get_or_default}
use Rattle.std.proofs.Math.Seq.{drop-cons}
use Rattle.std.proofs.lemmas.Bool.{cases_lt}
use Rattle.hall_core.specs.declared.mem_hall.step.Step.{Step}
use Rattle.hall_core.specs.declared.mem_hall.step.Step.TheVariants.{Write, Create, Sync, Print, Pass}
use Rattle.hall_core.specs.Facts.{Attached, unit_of}
use Rattle.stop_model.specs.Files.{File}
use Rattle.hall_core.specs.History.{Write as Writing, Change, writing, making, Disk, new_disk, with_change, with_changes, after, after_all, kept}
use Rattle.hall_core.specs.Replay.{part, event_of, events_at, AreWithin, IsWritable, AreWritable, ArePrinted, changes_at, done_of, prints_at, text_needed, new_file, is_write, is_done_write, is_kept_step, pending_place, IsPendingFrom, disk_after}
use Rattle.hall_core.specs.Memory.{first_files, facts_of, disk_at}
use Rattle.hall_core.specs.declared.mem_hall.MemHall.{MemHall}
use Rattle.hall_core.proofs.HistoryLemmas.{after_all_more}

pub with_changes-append : (s : List File) (xs ys : List Change) → with_changes s (xs ++ ys) ≡ with_changes (with_changes s xs) ys
with_changes-append s [] ys = refl
with_changes-append s (x ∷ xs) ys = with_changes-append (with_change s x) xs ys

pub changes_at-append : (units : List Attached) (pool : List ℕ) (xs ys : List Step) → changes_at units pool (xs ++ ys) ≡ changes_at units pool xs ++ changes_at units pool ys
changes_at-append units pool [] ys = refl
changes_at-append units pool (Write unit at start len is_done ∷ xs) ys = ap (λ (l : List Change). writing (record { name = (unit_of units unit).name; at = at; bytes = part pool start len; is_done = is_done }) ∷ l) (changes_at-append units pool xs ys)
changes_at-append units pool (Create unit ∷ xs) ys = ap (λ (l : List Change). making (new_file (unit_of units unit)) ∷ l) (changes_at-append units pool xs ys)
changes_at-append units pool (Sync ∷ xs) ys = changes_at-append units pool xs ys
changes_at-append units pool (Print start len ∷ xs) ys = changes_at-append units pool xs ys
changes_at-append units pool (Pass ∷ xs) ys = changes_at-append units pool xs ys

pub done_of-append : (xs ys : List Change) → done_of (xs ++ ys) ≡ done_of xs ++ done_of ys
done_of-append [] ys = refl
done_of-append (writing w ∷ xs) ys = by_done w.is_done (done_of-append xs ys)
  where
    by_done : (b : Bool) → done_of (xs ++ ys) ≡ done_of xs ++ done_of ys → (if b then writing w ∷ done_of (xs ++ ys) else done_of (xs ++ ys)) ≡ (if b then writing w ∷ done_of xs else done_of xs) ++ done_of ys
    by_done true rest = ap (λ (l : List Change). writing w ∷ l) rest
    by_done false rest = rest
done_of-append (making f ∷ xs) ys = ap (λ (l : List Change). making f ∷ l) (done_of-append xs ys)

pub prints_at-append : (text : List ℕ) (xs ys : List Step) → prints_at text (xs ++ ys) ≡ prints_at text xs ++ prints_at text ys
prints_at-append text [] ys = refl
prints_at-append text (Write unit at start len is_done ∷ xs) ys = prints_at-append text xs ys
prints_at-append text (Create unit ∷ xs) ys = prints_at-append text xs ys
prints_at-append text (Sync ∷ xs) ys = prints_at-append text xs ys
prints_at-append text (Print start len ∷ xs) ys = ap (λ (l : List ℕ). part text start len ++ l) (prints_at-append text xs ys) ∙ sym (append_assoc (part text start len) (prints_at text xs) (prints_at text ys))
prints_at-append text (Pass ∷ xs) ys = prints_at-append text xs ys

-- what is done of one step
pub done_of_one : (units : List Attached) (pool : List ℕ) (s : Step) → (if is_kept_step s (is_done_write s) then changes_at units pool (s ∷ []) else []) ≡ done_of (changes_at units pool (s ∷ []))
done_of_one units pool (Write unit at start len true) = refl
done_of_one units pool (Write unit at start len false) = refl
done_of_one units pool (Create unit) = refl
done_of_one units pool Sync = refl
done_of_one units pool (Print start len) = refl
done_of_one units pool Pass = refl

-- what is kept of a write, by its flag
kept_flag : (keep : List Bool) (next : ℕ) (w : Writing) (cs : List Change) → kept (drop next keep) (writing w ∷ cs) ≡ (if get_or keep next false then writing w ∷ [] else []) ++ kept (drop (next + 1) keep) cs
kept_flag [] zero w cs = refl
kept_flag [] (suc next) w cs = let more : suc next + 1 ≡ suc (next + 1) = omega arith in rw more refl
kept_flag (true ∷ keep) zero w cs = refl
kept_flag (false ∷ keep) zero w cs = refl
kept_flag (flag ∷ keep) (suc next) w cs =
    let more : suc next + 1 ≡ suc (next + 1) = omega arith in
    subst (λ (n : ℕ). kept (drop next keep) (writing w ∷ cs) ≡ (if get_or keep next false then writing w ∷ [] else []) ++ kept (drop n (flag ∷ keep)) cs) (sym more) (kept_flag keep next w cs)

-- what is kept of the changes from one step on
pub kept_one : (units : List Attached) (pool : List ℕ) (keep : List Bool) (next : ℕ) (s : Step) (cs : List Change) → kept (drop next keep) (changes_at units pool (s ∷ []) ++ cs) ≡ (if is_kept_step s (get_or keep next false) then changes_at units pool (s ∷ []) else []) ++ kept (drop (if is_write s then next + 1 else next) keep) cs
kept_one units pool keep next (Write unit at start len is_done) cs = kept_flag keep next _ cs
kept_one units pool keep next (Create unit) cs = refl
kept_one units pool keep next Sync cs = refl
kept_one units pool keep next (Print start len) cs = refl
kept_one units pool keep next Pass cs = refl

-- the files as they are read, from the writes that were done
files_read : (d : Disk) (units : List Attached) (pool text : List ℕ) (steps : List Step) → (after_all d (events_at units pool text steps)).files ≡ with_changes d.files (done_of (changes_at units pool steps))
files_read d units pool text [] = refl
files_read d units pool text (Write unit at start len true ∷ steps) = files_read (after d (event_of units pool text (Write unit at start len true))) units pool text steps
files_read d units pool text (Write unit at start len false ∷ steps) = files_read (after d (event_of units pool text (Write unit at start len false))) units pool text steps
files_read d units pool text (Create unit ∷ steps) = files_read (after d (event_of units pool text (Create unit))) units pool text steps
files_read d units pool text (Sync ∷ steps) = files_read (after d (event_of units pool text Sync)) units pool text steps
files_read d units pool text (Print start len ∷ steps) = files_read (after d (event_of units pool text (Print start len))) units pool text steps
files_read d units pool text (Pass ∷ steps) = files_read (after d (event_of units pool text Pass)) units pool text steps

-- the text, from what was printed
pub text_read : (d : Disk) (units : List Attached) (pool text : List ℕ) (steps : List Step) → (after_all d (events_at units pool text steps)).text ≡ d.text ++ prints_at text steps
text_read d units pool text [] = sym (append-nil d.text)
text_read d units pool text (Write unit at start len is_done ∷ steps) = text_read (after d (event_of units pool text (Write unit at start len is_done))) units pool text steps
text_read d units pool text (Create unit ∷ steps) = text_read (after d (event_of units pool text (Create unit))) units pool text steps
text_read d units pool text (Sync ∷ steps) = text_read (after d (event_of units pool text Sync)) units pool text steps
text_read d units pool text (Print start len ∷ steps) = text_read (after d (event_of units pool text (Print start len))) units pool text steps ∙ append_assoc d.text (part text start len) (prints_at text steps)
text_read d units pool text (Pass ∷ steps) = text_read (after d (event_of units pool text Pass)) units pool text steps

disk_more : (first : List File) (units : List Attached) (pool text : List ℕ) (steps : List Step) (s : Step) → disk_after first units pool text (steps ++ s ∷ []) ≡ after (disk_after first units pool text steps) (event_of units pool text s)
disk_more first units pool text steps s = ap (after_all (new_disk first)) (map-append (event_of units pool text) steps (s ∷ [])) ∙ after_all_more (new_disk first) (events_at units pool text steps) (event_of units pool text s)

module _ (steps : List Step) (from : ℕ) (was : IsPendingFrom steps from) where
  -- after a step that is no sync
  stays : (s : Step) → ((d : Disk) (units : List Attached) (pool text : List ℕ) → (after d (event_of units pool text s)).stable ≡ d.stable)
      → ((d : Disk) (units : List Attached) (pool text : List ℕ) → (after d (event_of units pool text s)).pending ≡ d.pending ++ changes_at units pool (s ∷ []))
      → IsPendingFrom (steps ++ s ∷ []) from
  stays s stable pending = record {
    within = omega (arith, was.within, length-append steps (s ∷ []));
    pending = λ first units pool text.
        ap (λ (d : Disk). d.pending) (disk_more first units pool text steps s) ∙ pending _ units pool text ∙ ap (λ (l : List Change). l ++ changes_at units pool (s ∷ [])) (was.pending first units pool text)
        ∙ sym (changes_at-append units pool (drop from steps) (s ∷ [])) ∙ ap (changes_at units pool) (sym (drop-append-le from steps (s ∷ []) was.within));
    stable = λ first units pool text.
        ap (λ (d : Disk). d.stable) (disk_more first units pool text steps s) ∙ stable _ units pool text ∙ was.stable first units pool text
        ∙ ap (λ (l : List Step). with_changes first (done_of (changes_at units pool l))) (sym (take-append-le from steps (s ∷ []) was.within));
  }

  -- after a sync
  past_sync : IsPendingFrom (steps ++ Sync ∷ []) (length steps + 1)
  past_sync =
      let size : length (steps ++ Sync ∷ []) ≡ length steps + 1 = length-append steps (Sync ∷ []) in
      record {
        within = omega (arith, size);
        pending = λ first units pool text.
            ap (λ (d : Disk). d.pending) (disk_more first units pool text steps Sync) ∙ ap (changes_at units pool) (sym (nothing_left size));
        stable = λ first units pool text.
            ap (λ (d : Disk). d.stable) (disk_more first units pool text steps Sync) ∙ files_read (new_disk first) units pool text steps
            ∙ ap (λ (l : List Change). with_changes first (done_of l)) (sym (append-nil (changes_at units pool steps)) ∙ sym (changes_at-append units pool steps (Sync ∷ [])))
            ∙ ap (λ (l : List Step). with_changes first (done_of (changes_at units pool l))) (sym (take_all (length steps + 1) (steps ++ Sync ∷ []) (omega (arith, size))));
      }
    where
      none : (xs : List Step) (n : ℕ) → length xs ≤ n → drop n xs ≡ []
      none [] zero le = refl
      none [] (suc n) le = refl
      none (x ∷ xs) zero le = absurd (omega arith)
      none (x ∷ xs) (suc n) le = none xs n (omega arith)

      nothing_left : length (steps ++ Sync ∷ []) ≡ length steps + 1 → drop (length steps + 1) (steps ++ Sync ∷ []) ≡ []
      nothing_left size = none (steps ++ Sync ∷ []) (length steps + 1) (omega (arith, size))

  pub pending_more : (s : Step) → IsPendingFrom (steps ++ s ∷ []) (pending_place s (length steps) from)
  pending_more (Write unit at start len is_done) = stays _ (λ d units pool text. refl) (λ d units pool text. refl)
  pending_more (Create unit) = stays _ (λ d units pool text. refl) (λ d units pool text. refl)
  pending_more Sync = past_sync
  pending_more (Print start len) = stays _ (λ d units pool text. refl) (λ d units pool text. sym (append-nil d.pending))
  pending_more Pass = stays _ (λ d units pool text. refl) (λ d units pool text. sym (append-nil d.pending))

-- one step more of those that were seen
pub pending_step : (steps : List Step) (i from : ℕ) (s : Step) → i < length steps → s ≡ get_or steps i Pass → IsPendingFrom (take i steps) from → IsPendingFrom (take (i + 1) steps) (pending_place s i from)
pending_step steps i from s low is was =
    let size : length (take i steps) ≡ i = omega (arith, length-take i steps) in
    let grown : take (i + 1) steps ≡ take i steps ++ s ∷ [] = take_more steps i Pass low ∙ ap (λ (x : Step). take i steps ++ x ∷ []) (sym is) in
    subst (λ (l : List Step). IsPendingFrom l (pending_place s i from)) (sym grown) (subst (λ (n : ℕ). IsPendingFrom (take i steps ++ s ∷ []) (pending_place s n from)) size (pending_more (take i steps) from was s))

-- before any step
pub pending_none : IsPendingFrom [] 0
pending_none = record { within = omega arith; pending = λ first units pool text. refl; stable = λ first units pool text. refl }

-- one step more that was made again, where it was done
pub done_step : (first : List File) (units : List Attached) (pool : List ℕ) (steps : List Step) (i : ℕ) (s : Step) (files files' : List File) → i < length steps → s ≡ get_or steps i Pass
    → files ≡ with_changes first (done_of (changes_at units pool (take i steps))) → files' ≡ with_changes files (if is_kept_step s (is_done_write s) then changes_at units pool (s ∷ []) else []) → files' ≡ with_changes first (done_of (changes_at units pool (take (i + 1) steps)))
done_step first units pool steps i s files files' low is so_far now =
    let seen = take i steps in
    let grown : take (i + 1) steps ≡ seen ++ s ∷ [] = take_more steps i Pass low ∙ ap (λ (x : Step). seen ++ x ∷ []) (sym is) in
    now ∙ ap (with_changes files) (done_of_one units pool s) ∙ ap (λ (l : List File). with_changes l (done_of (changes_at units pool (s ∷ [])))) so_far
    ∙ sym (with_changes-append first (done_of (changes_at units pool seen)) (done_of (changes_at units pool (s ∷ []))))
    ∙ ap (with_changes first) (sym (done_of-append (changes_at units pool seen) (changes_at units pool (s ∷ []))))
    ∙ ap (λ (l : List Change). with_changes first (done_of l)) (sym (changes_at-append units pool seen (s ∷ [])))
    ∙ ap (λ (l : List Step). with_changes first (done_of (changes_at units pool l))) (sym grown)

-- one step more that was made again, where it was kept
pub kept_step : (units : List Attached) (pool : List ℕ) (steps : List Step) (keep : List Bool) (i next next' : ℕ) (s : Step) (all files files' : List File) → i < length steps → s ≡ get_or steps i Pass
    → all ≡ with_changes files (kept (drop next keep) (changes_at units pool (drop i steps)))
    → ((cs : List Change) → with_changes files (kept (drop next keep) (changes_at units pool (s ∷ []) ++ cs)) ≡ with_changes files' (kept (drop next' keep) cs))
    → all ≡ with_changes files' (kept (drop next' keep) (changes_at units pool (drop (i + 1) steps)))
kept_step units pool steps keep i next next' s all files files' low is so_far step =
    let rest = drop (i + 1) steps in
    let more : suc i ≡ i + 1 = omega arith in
    let front : drop i steps ≡ (s ∷ []) ++ rest = drop-cons steps i Pass low ∙ ap (λ (x : Step). x ∷ drop (suc i) steps) (sym is) ∙ ap (λ (n : ℕ). s ∷ drop n steps) more in
    so_far ∙ ap (λ (l : List Step). with_changes files (kept (drop next keep) (changes_at units pool l))) front
    ∙ ap (λ (l : List Change). with_changes files (kept (drop next keep) l)) (changes_at-append units pool (s ∷ []) rest)
    ∙ step (changes_at units pool rest)

-- one step more that printed
pub text_step : (text : List ℕ) (steps : List Step) (i : ℕ) (s : Step) (out out' : List ℕ) → i < length steps → s ≡ get_or steps i Pass → out ≡ prints_at text (take i steps) → out' ≡ out ++ prints_at text (s ∷ []) → out' ≡ prints_at text (take (i + 1) steps)
text_step text steps i s out out' low is so_far now =
    let seen = take i steps in
    let grown : take (i + 1) steps ≡ seen ++ s ∷ [] = take_more steps i Pass low ∙ ap (λ (x : Step). seen ++ x ∷ []) (sym is) in
    now ∙ ap (λ (l : List ℕ). l ++ prints_at text (s ∷ [])) so_far ∙ sym (prints_at-append text seen (s ∷ [])) ∙ ap (prints_at text) (sym grown)

-- the step that a loop reads
pub step_read : (steps : List Step) (i : ℕ) (d : Step) → i < length steps → get_or steps i d ≡ get_or steps i Pass
step_read steps i d low = get_or_default steps i d Pass low

-- after the last step nothing is left
pub none_left : (units : List Attached) (pool : List ℕ) (steps : List Step) (flags : List Bool) (files : List File) (i : ℕ) → length steps ≤ i → with_changes files (kept flags (changes_at units pool (drop i steps))) ≡ files
none_left units pool [] flags files zero le = refl
none_left units pool [] flags files (suc i) le = refl
none_left units pool (s ∷ steps) flags files zero le = absurd (omega arith)
none_left units pool (s ∷ steps) flags files (suc i) le = none_left units pool steps flags files i (omega arith)

-- the steps before a moment
pub steps_before : (steps : List Step) (moment last : ℕ) → last ≡ min (length steps) moment → take last steps ≡ take moment steps
steps_before steps moment last is = ⊎_elim inside past (cases_lt moment (length steps))
  where
    inside : moment < length steps → take last steps ≡ take moment steps
    inside low = ap (λ (n : ℕ). take n steps) (let same : last ≡ moment = omega arith in same)

    past : length steps ≤ moment → take last steps ≡ take moment steps
    past le = take_all last steps (omega arith) ∙ sym (take_all moment steps le)

-- the disk at a moment, from the steps before it
pub disk_before : (first : List File) (units : List Attached) (pool text : List ℕ) (steps : List Step) (moment last : ℕ) → last ≡ min (length steps) moment → after_all (new_disk first) (take moment (events_at units pool text steps)) ≡ disk_after first units pool text (take last steps)
disk_before first units pool text steps moment last is =
    ap (after_all (new_disk first)) (take-map (event_of units pool text) moment steps ∙ ap (events_at units pool text) (sym (steps_before steps moment last is)))

-- what is made of the first files again
pub record IsRedone (d : Disk) (keep : List Bool) (files : List File) (text : List ℕ) : Type 0 where
  pub files_are : files ≡ with_changes d.stable (kept keep d.pending)
  pub text_is : text ≡ d.text

pub redone : (first : List File) (units : List Attached) (pool text : List ℕ) (steps : List Step) (moment last from : ℕ) (keep : List Bool) (done files : List File) (out : List ℕ)
    → last ≡ min (length steps) moment → IsPendingFrom (take last steps) from
    → done ≡ with_changes first (done_of (changes_at units pool (take from (take last steps))))
    → files ≡ with_changes done (kept keep (changes_at units pool (drop from (take last steps))))
    → out ≡ prints_at text (take last steps)
    → IsRedone (after_all (new_disk first) (take moment (events_at units pool text steps))) keep files out
redone first units pool text steps moment last from keep done files out is pending done_is files_are out_is = subst (λ (d : Disk). IsRedone d keep files out) (sym (disk_before first units pool text steps moment last is)) (record {
  files_are =
      files_are ∙ ap (λ (l : List File). with_changes l (kept keep (changes_at units pool (drop from seen)))) (done_is ∙ sym (pending.stable first units pool text))
      ∙ ap (λ (cs : List Change). with_changes (disk_after first units pool text seen).stable (kept keep cs)) (sym (pending.pending first units pool text));
  text_is = out_is ∙ sym (text_read (new_disk first) units pool text seen);
})
  where
    seen : List Step
    seen = take last steps

-- steps of those that are within, are so too
pub writable_take : (units : List Attached) (pool : ℕ) (steps : List Step) (n : ℕ) → AreWritable units pool steps → AreWritable units pool (take n steps)
writable_take units pool steps n within k low =
    let size = length-take n steps in
    subst (λ (s : Step). IsWritable units pool s) (sym (get_or-take n steps k Pass (omega (arith, low, size)))) (within k (omega (arith, low, size)))

pub writable_drop : (units : List Attached) (pool : ℕ) (steps : List Step) (n : ℕ) → AreWritable units pool steps → AreWritable units pool (drop n steps)
writable_drop units pool steps n within k low =
    let size = length-drop n steps in
    subst (λ (s : Step). IsWritable units pool s) (sym (get_or-drop n steps k Pass)) (within (n + k) (omega (arith, low, size)))

pub printed_take : (text : ℕ) (steps : List Step) (n : ℕ) → ArePrinted text steps → ArePrinted text (take n steps)
printed_take text steps n within k low =
    let size = length-take n steps in
    subst (λ (s : Step). text_needed s ≤ text) (sym (get_or-take n steps k Pass (omega (arith, low, size)))) (within k (omega (arith, low, size)))

pub writable : (units : List Attached) (pool text : ℕ) (steps : List Step) → AreWithin units pool text steps → AreWritable units pool steps
writable units pool text steps within k low = let w = within k low in record { unit = w.unit; size = w.size; from_pool = w.from_pool }

pub printed_within : (units : List Attached) (pool text : ℕ) (steps : List Step) → AreWithin units pool text steps → ArePrinted text steps
printed_within units pool text steps within k low = (within k low).from_text

-- what is made again of the first files of a hall, from lists that are those of the hall
module _ (hall : MemHall) (moment last from : ℕ) (keep : List Bool) (files : List File) (out : List ℕ) (is : last ≡ min (length hall.steps.items) moment) where
  -- the first files with the changes before the place that were done, and over them with those after it that are kept
  abbrev made_of : List File → List Attached → List ℕ → List Step → List File
  made_of copied units pool steps = with_changes (with_changes copied (done_of (changes_at units pool (take from steps)))) (kept keep (changes_at units pool (drop from steps)))

  abbrev Claim : List Step → List Attached → List ℕ → List ℕ → List File → Type 0
  Claim steps units pool text copied = IsPendingFrom (take last steps) from
      → files ≡ made_of copied units pool (take last steps)
      → out ≡ prints_at text (take last steps)
      → IsRedone (disk_at hall moment) keep files out

  base : Claim hall.steps.items (facts_of hall).units hall.written.items hall.printed.items (first_files hall)
  base pending files_are out_is = redone (first_files hall) (facts_of hall).units hall.written.items hall.printed.items hall.steps.items moment last from keep _ files out is pending refl files_are out_is

  pub left_made : (steps : List Step) (units : List Attached) (pool text : List ℕ) (copied : List File)
      → steps ≡ hall.steps.items → units ≡ (facts_of hall).units → pool ≡ hall.written.items → text ≡ hall.printed.items → copied ≡ first_files hall
      → Claim steps units pool text copied
  left_made steps units pool text copied a b c d e =
      subst (λ (x : List Step). Claim x units pool text copied) (sym a)
      (subst (λ (x : List Attached). Claim hall.steps.items x pool text copied) (sym b)
      (subst (λ (x : List ℕ). Claim hall.steps.items (facts_of hall).units x text copied) (sym c)
      (subst (λ (x : List ℕ). Claim hall.steps.items (facts_of hall).units hall.written.items x copied) (sym d)
      (subst (λ (x : List File). Claim hall.steps.items (facts_of hall).units hall.written.items hall.printed.items x) (sym e) base))))
