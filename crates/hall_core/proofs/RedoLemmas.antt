-- What is made again of the first files, step by step.
use Rattle.std.proofs.Common.{◌≡◌, ◌<◌, ◌+◌, ◌≤◌, ℕ, zero, suc, List, [], ◌∷◌, ◌++◌, length, take, drop, get_or, refl, sym, ◌∙◌, ap, subst, arith, length-take, length-drop, Bool, true, false}
use Rattle.std.specs.Prelude.{if◌then◌else◌, String, Vec}
use Rattle.std.specs.declared.alloc.Global.{Global}
use Rattle.std.proofs.lemmas.List.{map-append, take_more, take-append-drop, get_or-take, get_or-drop, get_or-map, length-map, length_push, length-replicate}
use Rattle.hall_core.specs.declared.mem_hall.step.Step.{Step}
use Rattle.hall_core.specs.declared.mem_hall.step.Step.TheVariants.{Write, Create, Pass}
use Rattle.hall_core.specs.Facts.{Attached, unit_of}
use Rattle.stop_model.specs.Files.{File, written}
use Rattle.hall_core.specs.History.{Change, with_changes, kept}
use Rattle.hall_core.specs.Held.{file_of_pair, files_of, attached_as, shapes_of, attached_in, with_bytes, IsFirst}
use Rattle.hall_core.specs.Replay.{part, changes_at, changes_in, done_of, new_file, files_made, is_write, is_done_write, is_kept_step, IsWritable, IsPlaced, ArePlaced, IsRedoable, AreRedoable, HasRedone}
use Rattle.hall_core.proofs.RecordLemmas.{made-append}
use Rattle.hall_core.proofs.UnitLemmas.{shape_of_pair}
use Rattle.hall_core.proofs.ReplayLemmas.{with_changes-append, changes_at-append, done_of-append, done_of_one, kept_one, writable, writable_take, writable_drop}
use Rattle.hall_core.specs.Memory.{first_files}
use Rattle.hall_core.specs.declared.mem_hall.MemHall.{MemHall}

abbrev Pairs : Type 0
Pairs = List (String Global × Vec ℕ Global)

-- the steps up to one and with it
pub seen_more : (steps : List Step) (i : ℕ) (s : Step) → i < length steps → s ≡ get_or steps i Pass → take (i + 1) steps ≡ take i steps ++ s ∷ []
seen_more steps i s low is = take_more steps i Pass low ∙ ap (λ (x : Step). take i steps ++ x ∷ []) (sym is)

pub made_seen : (steps : List Step) (i : ℕ) (s : Step) → i < length steps → s ≡ get_or steps i Pass → files_made (take (i + 1) steps) ≡ files_made (take i steps) + files_made (s ∷ [])
made_seen steps i s low is = ap files_made (seen_more steps i s low is) ∙ made-append (take i steps) (s ∷ [])

pub made_parts : (steps : List Step) (n : ℕ) → files_made (take n steps) + files_made (drop n steps) ≡ files_made steps
made_parts steps n = sym (made-append (take n steps) (drop n steps)) ∙ ap files_made (take-append-drop n steps)

pairs_size : (pairs : Pairs) → length (shapes_of (files_of pairs)) ≡ length pairs
pairs_size pairs = length-map (files_of pairs) attached_as ∙ length-map pairs file_of_pair

module _ (present : Pairs) (places : List ℕ) (pool : List ℕ) where
  abbrev shapes : List Attached
  shapes = shapes_of (files_of present)

  -- one of the steps can be made again over what those before it made
  pub redoable_at : (first pairs : Pairs) (steps : List Step) (i : ℕ) (s : Step) → AreRedoable present places (length pool) first steps → i < length steps → s ≡ get_or steps i Pass
      → shapes_of (files_of pairs) ≡ take (length pairs) shapes → length pairs ≡ length first + files_made (take i steps) → IsRedoable present places (length pool) pairs s
  redoable_at first pairs steps i s all low is same size = record {
    shapes = same;
    inside = omega (arith, size, all.inside, made_seen steps i s low is, made_parts steps (i + 1));
    firsts = all.firsts;
    within = subst (λ (x : Step). IsWritable (attached_in present places) (length pool) x) (sym is) (all.within i low);
    placed = subst (λ (n : ℕ). IsPlaced places n s) (sym size) (subst (λ (x : Step). IsPlaced places (length first + files_made (take i steps)) x) (sym is) (all.placed i low));
  }

  -- those up to a place, and those from it on
  pub redoable_take : (first : Pairs) (steps : List Step) (n : ℕ) → AreRedoable present places (length pool) first steps → AreRedoable present places (length pool) first (take n steps)
  redoable_take first steps n all = record {
    shapes = all.shapes;
    inside = omega (arith, all.inside, made_parts steps n);
    firsts = all.firsts;
    within = writable_take _ _ steps n all.within;
    placed = placed;
  }
    where
      placed : ArePlaced places (length first) (take n steps)
      placed k low =
          let size = length-take n steps in
          let below : k < n = omega (arith, low, size) in
          subst (λ (s : Step). IsPlaced places (length first + files_made (take k (take n steps))) s) (sym (get_or-take n steps k Pass below))
          (subst (λ (l : List Step). IsPlaced places (length first + files_made l) (get_or steps k Pass)) (sym (take_less k n steps below)) (all.placed k (omega (arith, low, size))))
        where
          take_less : (k n : ℕ) (xs : List Step) → k < n → take k (take n xs) ≡ take k xs
          take_less zero n xs below = refl
          take_less (suc k) zero xs below = absurd (omega (arith, below))
          take_less (suc k) (suc n) [] below = refl
          take_less (suc k) (suc n) (x ∷ xs) below = ap (λ (l : List Step). x ∷ l) (take_less k n xs (omega (arith, below)))

  pub redoable_drop : (first pairs : Pairs) (steps : List Step) (n : ℕ) → AreRedoable present places (length pool) first steps → n ≤ length steps
      → shapes_of (files_of pairs) ≡ take (length pairs) shapes → length pairs ≡ length first + files_made (take n steps) → AreRedoable present places (length pool) pairs (drop n steps)
  redoable_drop first pairs steps n all le same size = record {
    shapes = same;
    inside = omega (arith, all.inside, size, made_parts steps n);
    firsts = all.firsts;
    within = writable_drop _ _ steps n all.within;
    placed = placed;
  }
    where
      take_both : (n k m : ℕ) (xs : List Step) → m ≡ n + k → take m xs ≡ take n xs ++ take k (drop n xs)
      take_both zero k m xs is = ap (λ (i : ℕ). take i xs) (let same : m ≡ k = omega (arith, is) in same)
      take_both (suc n) k zero xs is = absurd (omega (arith, is))
      take_both (suc n) zero (suc m) [] is = refl
      take_both (suc n) (suc k) (suc m) [] is = refl
      take_both (suc n) k (suc m) (x ∷ xs) is = ap (λ (l : List Step). x ∷ l) (take_both n k m xs (omega (arith, is)))

      placed : ArePlaced places (length pairs) (drop n steps)
      placed k low =
          let rest = length-drop n steps in
          let count : length first + files_made (take (n + k) steps) ≡ length pairs + files_made (take k (drop n steps)) =
          omega (arith, size, ap files_made (take_both n k (n + k) steps refl) ∙ made-append (take n steps) (take k (drop n steps))) in
          subst (λ (s : Step). IsPlaced places (length pairs + files_made (take k (drop n steps))) s) (sym (get_or-drop n steps k Pass))
          (subst (λ (m : ℕ). IsPlaced places m (get_or steps (n + k) Pass)) count (all.placed (n + k) (omega (arith, low, rest))))

  -- nothing was made yet
  pub redone_none : (pairs : Pairs) → shapes_of (files_of pairs) ≡ take (length pairs) shapes → HasRedone present pairs pairs [] 0
  redone_none pairs same = record { made = refl; shapes = same; files = omega arith }

  pub redone_more : (first pairs pairs' : Pairs) (cs ds : List Change) (n m : ℕ) → HasRedone present first pairs cs n → HasRedone present pairs pairs' ds m → HasRedone present first pairs' (cs ++ ds) (n + m)
  redone_more first pairs pairs' cs ds n m before step = record {
    made = step.made ∙ ap (λ (l : List File). with_changes l ds) before.made ∙ sym (with_changes-append (files_of first) cs ds);
    shapes = step.shapes;
    files = omega (arith, before.files, step.files);
  }

  -- one step more of those that were done
  pub redone_done : (first pairs pairs' : Pairs) (steps : List Step) (i : ℕ) (s : Step) → i < length steps → s ≡ get_or steps i Pass
      → HasRedone present first pairs (done_of (changes_in present places pool (take i steps))) (files_made (take i steps))
      → HasRedone present pairs pairs' (if is_kept_step s (is_done_write s) then changes_in present places pool (s ∷ []) else []) (files_made (s ∷ []))
      → HasRedone present first pairs' (done_of (changes_in present places pool (take (i + 1) steps))) (files_made (take (i + 1) steps))
  redone_done first pairs pairs' steps i s low is before step =
      let units = attached_in present places in
      let lists : done_of (changes_at units pool (take i steps)) ++ (if is_kept_step s (is_done_write s) then changes_at units pool (s ∷ []) else []) ≡ done_of (changes_at units pool (take (i + 1) steps)) =
      ap (λ (l : List Change). done_of (changes_at units pool (take i steps)) ++ l) (done_of_one units pool s)
      ∙ sym (done_of-append (changes_at units pool (take i steps)) (changes_at units pool (s ∷ [])))
      ∙ ap done_of (sym (changes_at-append units pool (take i steps) (s ∷ [])))
      ∙ ap (λ (l : List Step). done_of (changes_at units pool l)) (sym (seen_more steps i s low is)) in
      subst (λ (n : ℕ). HasRedone present first pairs' (done_of (changes_in present places pool (take (i + 1) steps))) n) (sym (made_seen steps i s low is))
      (subst (λ (l : List Change). HasRedone present first pairs' l (files_made (take i steps) + files_made (s ∷ []))) lists (redone_more first pairs pairs' _ _ _ _ before step))

  -- one step more of those that are kept
  pub redone_kept : (pairs pairs' : Pairs) (keep : List Bool) (next : ℕ) (s : Step) → HasRedone present pairs pairs' (if is_kept_step s (get_or keep next false) then changes_in present places pool (s ∷ []) else []) (files_made (s ∷ []))
      → (cs : List Change) → with_changes (files_of pairs) (kept (drop next keep) (changes_in present places pool (s ∷ []) ++ cs)) ≡ with_changes (files_of pairs') (kept (drop (if is_write s then next + 1 else next) keep) cs)
  redone_kept pairs pairs' keep next s step cs =
      ap (with_changes (files_of pairs)) (kept_one (attached_in present places) pool keep next s cs)
      ∙ with_changes-append (files_of pairs) (if is_kept_step s (get_or keep next false) then changes_in present places pool (s ∷ []) else []) (kept (drop (if is_write s then next + 1 else next) keep) cs)
      ∙ ap (λ (l : List File). with_changes l (kept (drop (if is_write s then next + 1 else next) keep) cs)) (sym step.made)

  -- a place is that of a unit, and its file one of the first
  unit_at : (pairs : Pairs) (unit place : ℕ) → shapes_of (files_of pairs) ≡ take (length pairs) shapes → unit < length places → place ≡ get_or places unit 0 → get_or places unit 0 < length pairs
      → unit_of (shapes_of (files_of pairs)) place ≡ unit_of (attached_in present places) unit
  unit_at pairs unit place same low reads inside =
      ap (λ (x : List Attached). unit_of x place) same ∙ get_or-take (length pairs) shapes place _ (omega (arith, inside, reads))
      ∙ ap (unit_of shapes) reads ∙ sym (get_or-map (unit_of shapes) places unit 0 _ low)

  -- a file is the first of its name also among the first files
  first_at : (pairs : Pairs) (place : ℕ) → shapes_of (files_of pairs) ≡ take (length pairs) shapes → IsFirst shapes place → place < length pairs → IsFirst (shapes_of (files_of pairs)) place
  first_at pairs place same first low = record {
    inside = omega (arith, low, pairs_size pairs);
    before = λ k less is. first.before k less (sym (name_at k (omega (arith, less, low))) ∙ is ∙ name_at place low);
  }
    where
      name_at : (k : ℕ) → k < length pairs → (unit_of (shapes_of (files_of pairs)) k).name ≡ (unit_of shapes k).name
      name_at k inside = ap (λ (u : Attached). u.name) (ap (λ (x : List Attached). unit_of x k) same ∙ get_or-take (length pairs) shapes k _ inside)

  -- what a write needs
  pub record IsReady (pairs : Pairs) (unit place at len : ℕ) : Type 0 where
    pub is_first : IsFirst (shapes_of (files_of pairs)) place
    pub unit_is : unit_of (shapes_of (files_of pairs)) place ≡ unit_of (attached_in present places) unit
    pub inside : at + len ≤ (unit_of (shapes_of (files_of pairs)) place).size

  pub unit_low : (pairs : Pairs) (unit at start len : ℕ) (is_done : Bool) → IsRedoable present places (length pool) pairs (Write unit at start len is_done) → unit < length places
  unit_low pairs unit at start len is_done can = omega (arith, can.within.unit, length-map places (unit_of shapes))

  pub ready : (pairs : Pairs) (unit place at start len : ℕ) (is_done : Bool) → IsRedoable present places (length pool) pairs (Write unit at start len is_done) → place ≡ get_or places unit 0 → IsReady pairs unit place at len
  ready pairs unit place at start len is_done can reads =
      let low = unit_low pairs unit at start len is_done can in
      let unit_is = unit_at pairs unit place can.shapes low reads (omega (arith, can.placed.file)) in
      record {
        is_first = first_at pairs place can.shapes (subst (λ (p : ℕ). IsFirst shapes p) (sym reads) (can.firsts unit low)) (omega (arith, can.placed.file, reads));
        unit_is = unit_is;
        inside = omega (arith, can.within.size, ap (λ (u : Attached). u.size) unit_is);
      }

  pub redone_write : (pairs pairs' : Pairs) (unit place at start len : ℕ) (bytes : List ℕ) (is_done is_kept : Bool) → IsRedoable present places (length pool) pairs (Write unit at start len is_done) → place ≡ get_or places unit 0 → bytes ≡ part pool start len
      → files_of pairs' ≡ with_bytes (files_of pairs) place at bytes is_kept → shapes_of (files_of pairs') ≡ shapes_of (files_of pairs)
      → HasRedone present pairs pairs' (if is_kept then changes_in present places pool (Write unit at start len is_done ∷ []) else []) 0
  redone_write pairs pairs' unit place at start len bytes is_done is_kept can is bytes_are files_are same =
      let r = ready pairs unit place at start len is_done can is in
      let size : length pairs' ≡ length pairs = omega (arith, pairs_size pairs', pairs_size pairs, ap length same) in
      record {
        made = files_are ∙ by_flag is_kept (ap (λ (u : Attached). u.name) r.unit_is);
        shapes = same ∙ can.shapes ∙ ap (λ (n : ℕ). take n shapes) (sym size);
        files = omega (arith, size);
      }
    where
      by_flag : (b : Bool) → (unit_of (shapes_of (files_of pairs)) place).name ≡ (unit_of (attached_in present places) unit).name
          → with_bytes (files_of pairs) place at bytes b ≡ with_changes (files_of pairs) (if b then changes_in present places pool (Write unit at start len is_done ∷ []) else [])
      by_flag true name = ap (λ (l : List ℕ). written (files_of pairs) l at bytes) name ∙ ap (λ (l : List ℕ). written (files_of pairs) (unit_of (attached_in present places) unit).name at l) bytes_are
      by_flag false name = refl

  -- the place of a file that is made again
  pub record IsNew (pairs : Pairs) (unit place : ℕ) : Type 0 where
    pub low : place < length present
    pub next : place ≡ length pairs
    pub unit_is : unit_of shapes place ≡ unit_of (attached_in present places) unit

  pub create_low : (pairs : Pairs) (unit : ℕ) → IsRedoable present places (length pool) pairs (Create unit) → unit < length places
  create_low pairs unit can = omega (arith, can.within.unit, length-map places (unit_of shapes))

  pub new_place : (pairs : Pairs) (unit place : ℕ) → IsRedoable present places (length pool) pairs (Create unit) → place ≡ get_or places unit 0 → IsNew pairs unit place
  new_place pairs unit place can reads =
      let low = create_low pairs unit can in
      let next : place ≡ length pairs = omega (arith, reads, can.placed.next) in
      record {
        low = omega (arith, next, can.inside);
        next = next;
        unit_is = ap (unit_of shapes) reads ∙ sym (get_or-map (unit_of shapes) places unit 0 _ low);
      }

  pub redone_create : (pairs pairs' : Pairs) (unit place : ℕ) (pair item : String Global × Vec ℕ Global) → IsRedoable present places (length pool) pairs (Create unit) → place ≡ get_or places unit 0
      → item ≡ get_or present place item → file_of_pair pair ≡ new_file (attached_as (file_of_pair item)) → pairs' ≡ pairs ++ pair ∷ []
      → HasRedone present pairs pairs' (changes_in present places pool (Create unit ∷ [])) 1
  redone_create pairs pairs' unit place pair item can is item_is pair_is pairs_are =
      let n = new_place pairs unit place can is in
      let shape : unit_of shapes place ≡ attached_as (file_of_pair item) = shape_of_pair present place item n.low item_is in
      let file : file_of_pair pair ≡ new_file (unit_of (attached_in present places) unit) = pair_is ∙ ap new_file (sym shape ∙ n.unit_is) in
      let as_new : attached_as (new_file (attached_as (file_of_pair item))) ≡ attached_as (file_of_pair item) = zeros_shape (file_of_pair item) in
      let size : length pairs' ≡ length pairs + 1 = ap length pairs_are ∙ length_push pairs pair in
      record {
        made = ap files_of pairs_are ∙ map-append file_of_pair pairs (pair ∷ []) ∙ ap (λ (f : File). files_of pairs ++ f ∷ []) file;
        shapes =
            ap (λ (l : Pairs). shapes_of (files_of l)) pairs_are ∙ ap shapes_of (map-append file_of_pair pairs (pair ∷ [])) ∙ map-append attached_as (files_of pairs) (file_of_pair pair ∷ [])
            ∙ ap (λ (l : List Attached). l ++ attached_as (file_of_pair pair) ∷ []) can.shapes
            ∙ ap (λ (u : Attached). take (length pairs) shapes ++ u ∷ []) (ap attached_as pair_is ∙ as_new ∙ sym shape ∙ ap (unit_of shapes) n.next)
            ∙ sym (take_more shapes (length pairs) _ (omega (arith, n.low, n.next, pairs_size present)))
            ∙ ap (λ (m : ℕ). take m shapes) (sym size);
        files = size;
      }
    where
      zeros_shape : (f : File) → attached_as (new_file (attached_as f)) ≡ attached_as f
      zeros_shape f = ap (λ (n : ℕ). let a : Attached = record { name = f.name; size = n } in a) (length-replicate (length f.bytes) 0)

-- what a stop leaves is made of the first files, from lists that are those of the hall
pub redoable_left : (hall : MemHall) (present copied : Pairs) (places pool : List ℕ) (steps : List Step) (last : ℕ)
    → present ≡ hall.files.items → places ≡ hall.units.items → pool ≡ hall.written.items → steps ≡ hall.steps.items → files_of copied ≡ first_files hall → AreRedoable present places (length pool) copied (take last steps)
redoable_left hall present copied places pool steps last a b c d e =
    subst (λ (x : Pairs). AreRedoable x places (length pool) copied (take last steps)) (sym a)
    (subst (λ (x : List ℕ). AreRedoable hall.files.items x (length pool) copied (take last steps)) (sym b)
    (subst (λ (x : List ℕ). AreRedoable hall.files.items hall.units.items (length x) copied (take last steps)) (sym c)
    (subst (λ (x : List Step). AreRedoable hall.files.items hall.units.items (length hall.written.items) copied (take last x)) (sym d)
    (redoable_take hall.files.items hall.units.items hall.written.items copied hall.steps.items last all))))
  where
    size : length copied ≡ length (first_files hall)
    size = sym (length-map copied file_of_pair) ∙ ap length e

    all : AreRedoable hall.files.items hall.units.items (length hall.written.items) copied hall.steps.items
    all = record {
      shapes = ap shapes_of e ∙ hall.replay.shapes ∙ ap (λ (n : ℕ). take n (shapes_of (files_of hall.files.items))) (sym size);
      inside = omega (arith, size, hall.replay.count, length-map hall.files.items file_of_pair);
      firsts = hall.replay.firsts;
      within = writable _ _ _ hall.steps.items hall.replay.within;
      placed = subst (λ (n : ℕ). ArePlaced hall.units.items n hall.steps.items) (sym size) hall.replay.placed;
    }
