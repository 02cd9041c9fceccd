-- What a stop leaves of a disk, whatever happened to it.
use Rattle.std.specs.Prelude.{◌≡◌, ◌≤◌, ℕ, List, [], ◌∷◌, ◌++◌, length, take, refl, Bool, true, false, None, slice_get}
use Rattle.std.proofs.Common.{zero, suc, sym, ◌∙◌, ap, subst, arith}
use Rattle.std.proofs.lemmas.List.{append-nil, take_all}
use Rattle.stop_model.specs.Moments.{LeftNow}
use Rattle.stop_model.specs.Files.{File, IsPrefixOf}
use Rattle.hall_core.specs.History.{Write, Change, writing, making, Event, wrote, made, synced, printed, passed, Disk, new_disk, with_change, with_changes, after, after_all, kept, MayLeave, bytes_of_print, MayLeaveAt, MayLeaveSince, meaning_after}

pub get_past : (es : List Event) (n : ℕ) → length es ≤ n → slice_get es n ≡ None
get_past [] n le = refl
get_past (x ∷ es) zero le = absurd (omega arith)
get_past (x ∷ es) (suc n) le = get_past es n (omega arith)

-- what a stop at a moment leaves, by the disk then and by what the event prints
abbrev pub LeftIn : Disk → List ℕ → List File → List ℕ → Type 0
LeftIn d bytes j p = MayLeave d j × ((q : List ℕ) × IsPrefixOf q bytes × (p ≡ d.text ++ q))

pub at_of : (first : List File) (es : List Event) (k : ℕ) (d : Disk) (bytes : List ℕ) (j : List File) (p : List ℕ) → after_all (new_disk first) (take k es) ≡ d → bytes_of_print (slice_get es k) ≡ bytes → MayLeaveAt first es k j p → LeftIn d bytes j p
at_of first es k d bytes j p disk print left = subst (λ (x : Disk). LeftIn x bytes j p) disk (subst (λ (bs : List ℕ). LeftIn (after_all (new_disk first) (take k es)) bs j p) print (left.files, left.text))

pub of_at : (first : List File) (es : List Event) (k : ℕ) (d : Disk) (bytes : List ℕ) (j : List File) (p : List ℕ) → after_all (new_disk first) (take k es) ≡ d → bytes_of_print (slice_get es k) ≡ bytes → LeftIn d bytes j p → MayLeaveAt first es k j p
of_at first es k d bytes j p disk print left =
    let here : LeftIn (after_all (new_disk first) (take k es)) (bytes_of_print (slice_get es k)) j p = subst (λ (x : Disk). LeftIn x (bytes_of_print (slice_get es k)) j p) (sym disk) (subst (λ (bs : List ℕ). LeftIn d bs j p) (sym print) left) in
    record { files = here.0; text = here.1 }

pub now_in : (d : Disk) (bytes : List ℕ) (j : List File) (p : List ℕ) → MayLeave d j × (p ≡ d.text) → LeftIn d bytes j p
now_in d bytes j p now = (now.0, ([], (bytes, refl), now.1 ∙ sym (append-nil d.text)))

pub in_now : (d : Disk) (j : List File) (p : List ℕ) → LeftIn d [] j p → MayLeave d j × (p ≡ d.text)
in_now d j p (files, (q, (rest, is), text)) = (files, text ∙ ap (λ (l : List ℕ). d.text ++ l) (nothing q rest is) ∙ append-nil d.text)
  where
    nothing : (q rest : List ℕ) → q ++ rest ≡ [] → q ≡ []
    nothing [] rest is = refl
    nothing (x ∷ q) rest is = absurd (cc is)

module _ (first : List File) (es : List Event) where
  abbrev pub d : Disk
  d = after_all (new_disk first) es

  pub last_disk : after_all (new_disk first) (take (length es) es) ≡ d
  last_disk = ap (after_all (new_disk first)) (take_all (length es) es (omega arith))

  pub last_print : bytes_of_print (slice_get es (length es)) ≡ []
  last_print = ap bytes_of_print (get_past es (length es) (omega arith))

  -- what a stop leaves now, one since an earlier moment may have left
  pub now_since : (t : ℕ) (j : List File) (p : List ℕ) → t ≤ length es → MayLeave d j → p ≡ d.text → MayLeaveSince first es t j p
  now_since t j p le left is = (length es, le, omega arith, of_at first es (length es) d [] j p last_disk last_print (now_in d [] j p (left, is)))

  -- at the last moment there is nothing else
  pub since_now : (j : List File) (p : List ℕ) → MayLeaveSince first es (length es) j p → LeftNow (meaning_after first es) j p
  since_now j p (k, low, high, left) =
      let same : k ≡ length es = omega arith in
      in_now d j p (at_of first es (length es) d [] j p last_disk last_print (subst (λ (n : ℕ). MayLeaveAt first es n j p) same left))

-- files after one change more
pub with_changes_more : (s : List File) (cs : List Change) (c : Change) → with_changes s (cs ++ c ∷ []) ≡ with_change (with_changes s cs) c
with_changes_more s [] c = refl
with_changes_more s (v ∷ cs) c = with_changes_more (with_change s v) cs c

abbrev pub one_if : Bool → Write → List Change
one_if true w = writing w ∷ []
one_if false w = []

-- one write more may be left out or kept
pub kept_with : (b : Bool) (flags : List Bool) (cs : List Change) (w : Write) → (more : List Bool) × (kept more (cs ++ writing w ∷ []) ≡ kept flags cs ++ one_if b w)
kept_with true flags [] w = (true ∷ [], refl)
kept_with false flags [] w = (false ∷ [], refl)
kept_with b flags (making f ∷ cs) w = let r = kept_with b flags cs w in (r.0, ap (λ (l : List Change). making f ∷ l) r.1)
kept_with b [] (writing v ∷ cs) w = let r = kept_with b [] cs w in (false ∷ r.0, r.1)
kept_with b (true ∷ flags) (writing v ∷ cs) w = let r = kept_with b flags cs w in (true ∷ r.0, ap (λ (l : List Change). writing v ∷ l) r.1)
kept_with b (false ∷ flags) (writing v ∷ cs) w = let r = kept_with b flags cs w in (false ∷ r.0, r.1)

-- one file more is kept
pub kept_made : (flags : List Bool) (cs : List Change) (f : File) → kept flags (cs ++ making f ∷ []) ≡ kept flags cs ++ making f ∷ []
kept_made flags [] f = refl
kept_made flags (making g ∷ cs) f = ap (λ (l : List Change). making g ∷ l) (kept_made flags cs f)
kept_made [] (writing v ∷ cs) f = kept_made [] cs f
kept_made (true ∷ flags) (writing v ∷ cs) f = ap (λ (l : List Change). writing v ∷ l) (kept_made flags cs f)
kept_made (false ∷ flags) (writing v ∷ cs) f = kept_made flags cs f

pub left_made : (d : Disk) (flags : List Bool) (f : File) → with_changes d.stable (kept flags (d.pending ++ making f ∷ [])) ≡ with_changes d.stable (kept flags d.pending) ++ f ∷ []
left_made d flags f = ap (with_changes d.stable) (kept_made flags d.pending f) ∙ with_changes_more d.stable (kept flags d.pending) (making f)

-- a disk reads as a stop may leave it
pub state_written : (d : Disk) (name : List ℕ) (at : ℕ) (bytes : List ℕ) (is_done : Bool) → MayLeave d d.files → let w : Write = record { name = name; at = at; bytes = bytes; is_done = is_done } in MayLeave (after d (wrote w)) (after d (wrote w)).files
state_written d name at bytes true (flags, is) =
    let w : Write = record { name = name; at = at; bytes = bytes; is_done = true } in
    let r = kept_with true flags d.pending w in
    (r.0, ap (λ (l : List File). with_change l (writing w)) is ∙ sym (with_changes_more d.stable (kept flags d.pending) (writing w)) ∙ ap (with_changes d.stable) (sym r.1))
state_written d name at bytes false (flags, is) =
    let w : Write = record { name = name; at = at; bytes = bytes; is_done = false } in
    let r = kept_with false flags d.pending w in
    (r.0, is ∙ ap (with_changes d.stable) (sym (r.1 ∙ append-nil (kept flags d.pending))))

pub state_after : (d : Disk) (e : Event) → MayLeave d d.files → MayLeave (after d e) (after d e).files
state_after d (wrote w) left = state_written d w.name w.at w.bytes w.is_done left
state_after d (made f) (flags, is) = (flags, ap (λ (l : List File). l ++ f ∷ []) is ∙ sym (left_made d flags f))
state_after d synced left = ([], refl)
state_after d (printed bytes) left = left
state_after d passed left = left

pub state_left : (d : Disk) (es : List Event) → MayLeave d d.files → MayLeave (after_all d es) (after_all d es).files
state_left d [] left = left
state_left d (e ∷ es) left = state_left (after d e) es (state_after d e left)

pub state_left_now : (first : List File) (es : List Event) → MayLeave (after_all (new_disk first) es) (after_all (new_disk first) es).files
state_left_now first es = state_left (new_disk first) es ([], refl)
