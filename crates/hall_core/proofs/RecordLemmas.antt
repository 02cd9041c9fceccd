-- Steps and the events that they stand for, after one step more, one unit more, or more bytes.
use Rattle.std.proofs.Common.{◌≡◌, ◌≢◌, ◌<◌, ⊎_elim, ℕ, suc, ◌+◌, ◌-◌, ◌≤◌, List, [], ◌∷◌, ◌++◌, length, take, drop, get_or, replicate, refl, sym, ◌∙◌, ap, subst, arith, length-append, length-drop, Bool, true, false}
use Rattle.std.proofs.lemmas.List.{append-nil, map-append, take-append-le, drop-append-le, take_all, take_at, length-map, get_or_append_left, get_or_push, length_push, map_push}
use Rattle.std.proofs.lemmas.Bool.{cases_lt}
use Rattle.hall_core.specs.declared.mem_hall.step.Step.{Step}
use Rattle.hall_core.specs.declared.mem_hall.step.Step.TheVariants.{Write, Create, Sync, Print, Pass}
use Rattle.hall_core.specs.Facts.{Attached, unit_of}
use Rattle.stop_model.specs.Files.{File, file_of, written}
use Rattle.hall_core.specs.History.{Event, wrote, made, synced, printed, passed, Write as Writing, Disk, new_disk, after, after_all}
use Rattle.std.specs.Prelude.{Option, Some, None, String, Vec, if◌then◌else◌}
use Rattle.std.specs.Option.{ForNone}
use Rattle.std.specs.declared.alloc.Global.{Global}
use Rattle.hall_core.specs.Held.{first_pairs, attached_as, shapes_of, units_at, IsFirst, AreFirst}
use Rattle.hall_core.specs.Replay.{part, event_of, events_at, new_file, files_made, units_needed, IsWithin, AreWithin, IsPlaced, ArePlaced, IsReplay, disk_after}
use Rattle.hall_core.proofs.HistoryLemmas.{after_all_more}
use Rattle.hall_core.specs.Laws.{others_named}
use Rattle.hall_core.specs.Memory.{HasRoom, Records, bytes_left, calls_left, calls_of, events_of}
use Rattle.hall_core.specs.declared.mem_hall.step.Call.{Call}
use Rattle.hall_core.specs.declared.mem_hall.MemHall.{MemHall}

-- a part of bytes to which others were added
part_grown : (bytes more : List ℕ) (start len : ℕ) → start + len ≤ length bytes → part (bytes ++ more) start len ≡ part bytes start len
part_grown bytes more start len low =
    ap (take len) (drop-append-le start bytes more (omega arith)) ∙ take-append-le len (drop start bytes) more (omega (arith, length-drop start bytes))

-- the part that was added
pub part_added : (bytes more : List ℕ) → part (bytes ++ more) (length bytes) (length more) ≡ more
part_added bytes more = ap (take (length more)) (drop_past bytes) ∙ take_all (length more) more (omega arith)
  where
    drop_past : (xs : List ℕ) → drop (length xs) (xs ++ more) ≡ more
    drop_past [] = refl
    drop_past (x ∷ xs) = drop_past xs

-- the event of a step stays
event_grown : (units more : List Attached) (pool pool' text text' : List ℕ) (s : Step) → IsWithin units (length pool) (length text) s → event_of (units ++ more) (pool ++ pool') (text ++ text') s ≡ event_of units pool text s
event_grown units more pool pool' text text' (Write unit at start len is_done) within =
    let inside : unit < length units = omega (arith, within.unit) in
    let same_unit : unit_of (units ++ more) unit ≡ unit_of units unit = get_or_append_left units more _ unit inside in
    let same_part : part (pool ++ pool') start len ≡ part pool start len = part_grown pool pool' start len within.from_pool in
    let event : List ℕ → List ℕ → Event = λ name bytes. wrote (record { name = name; at = at; bytes = bytes; is_done = is_done }) in
    ap (λ (u : Attached). event u.name (part (pool ++ pool') start len)) same_unit ∙ ap (λ (bytes : List ℕ). event (unit_of units unit).name bytes) same_part
event_grown units more pool pool' text text' (Create unit) within = ap (λ (u : Attached). made (new_file u)) (get_or_append_left units more _ unit (omega (arith, within.unit)))
event_grown units more pool pool' text text' Sync within = refl
event_grown units more pool pool' text text' (Print start len) within = ap printed (part_grown text text' start len within.from_text)
event_grown units more pool pool' text text' Pass within = refl

-- and so do the events of steps
pub events_grown : (units more : List Attached) (pool pool' text text' : List ℕ) (steps : List Step) → AreWithin units (length pool) (length text) steps → events_at (units ++ more) (pool ++ pool') (text ++ text') steps ≡ events_at units pool text steps
events_grown units more pool pool' text text' [] within = refl
events_grown units more pool pool' text text' (s ∷ steps) within =
    let rest = events_grown units more pool pool' text text' steps (λ k low. within (suc k) (omega arith)) in
    ap (λ (e : Event). e ∷ events_at (units ++ more) (pool ++ pool') (text ++ text') steps) (event_grown units more pool pool' text text' s (within 0 (omega arith)))
    ∙ ap (λ (es : List Event). event_of units pool text s ∷ es) rest

-- a step stays within what grows
within_grown : (units more : List Attached) (pool pool' text text' : ℕ) (s : Step) → pool ≤ pool' → text ≤ text' → IsWithin units pool text s → IsWithin (units ++ more) pool' text' s
within_grown units more pool pool' text text' (Write unit at start len is_done) up up' within =
    let inside : unit < length units = omega (arith, within.unit) in
    let same : unit_of (units ++ more) unit ≡ unit_of units unit = get_or_append_left units more _ unit inside in
    record {
      unit = omega (arith, within.unit, length-append units more);
      size = omega (arith, within.size, ap (λ (u : Attached). u.size) same);
      from_pool = omega (arith, within.from_pool);
      from_text = omega arith;
    }
within_grown units more pool pool' text text' (Create unit) up up' within = record { unit = omega (arith, within.unit, length-append units more); size = omega arith; from_pool = omega arith; from_text = omega arith }
within_grown units more pool pool' text text' Sync up up' within = record { unit = omega arith; size = omega arith; from_pool = omega arith; from_text = omega arith }
within_grown units more pool pool' text text' (Print start len) up up' within = record { unit = omega arith; size = omega arith; from_pool = omega arith; from_text = omega (arith, within.from_text) }
within_grown units more pool pool' text text' Pass up up' within = record { unit = omega arith; size = omega arith; from_pool = omega arith; from_text = omega arith }

pub all_within_grown : (units more : List Attached) (pool pool' text text' : ℕ) (steps : List Step) → pool ≤ pool' → text ≤ text' → AreWithin units pool text steps → AreWithin (units ++ more) pool' text' steps
all_within_grown units more pool pool' text text' steps up up' within k low = within_grown units more pool pool' text text' _ up up' (within k low)

-- one step more
pub within_more : (units : List Attached) (pool text : ℕ) (steps : List Step) (s : Step) → AreWithin units pool text steps → IsWithin units pool text s → AreWithin units pool text (steps ++ s ∷ [])
within_more units pool text steps s within new k low = ⊎_elim before last (cases_lt k (length steps))
  where
    before : k < length steps → IsWithin units pool text (get_or (steps ++ s ∷ []) k Pass)
    before inside = subst (λ (x : Step). IsWithin units pool text x) (sym (get_or_append_left steps (s ∷ []) Pass k inside)) (within k inside)

    last : length steps ≤ k → IsWithin units pool text (get_or (steps ++ s ∷ []) k Pass)
    last past = subst (λ (x : Step). IsWithin units pool text x) (sym (get_or_push steps s Pass k (omega (arith, low, length_push steps s)))) new

-- how many files steps and others made
pub made-append : (xs ys : List Step) → files_made (xs ++ ys) ≡ files_made xs + files_made ys
made-append [] ys = omega arith
made-append (Write unit at start len is_done ∷ xs) ys = made-append xs ys
made-append (Create unit ∷ xs) ys = let rest = made-append xs ys in omega (arith, rest)
made-append (Sync ∷ xs) ys = made-append xs ys
made-append (Print start len ∷ xs) ys = made-append xs ys
made-append (Pass ∷ xs) ys = made-append xs ys

-- one step more at its place
placed_more : (places : List ℕ) (n : ℕ) (steps : List Step) (s : Step) → ArePlaced places n steps → IsPlaced places (n + files_made steps) s → ArePlaced places n (steps ++ s ∷ [])
placed_more places n steps s was new k low = ⊎_elim before last (cases_lt k (length steps))
  where
    before : k < length steps → IsPlaced places (n + files_made (take k (steps ++ s ∷ []))) (get_or (steps ++ s ∷ []) k Pass)
    before inside =
        subst (λ (x : Step). IsPlaced places (n + files_made (take k (steps ++ s ∷ []))) x) (sym (get_or_append_left steps (s ∷ []) Pass k inside))
        (subst (λ (l : List Step). IsPlaced places (n + files_made l) (get_or steps k Pass)) (sym (take-append-le k steps (s ∷ []) (omega arith))) (was k inside))

    last : length steps ≤ k → IsPlaced places (n + files_made (take k (steps ++ s ∷ []))) (get_or (steps ++ s ∷ []) k Pass)
    last past =
        let same : k ≡ length steps = omega (arith, low, length_push steps s) in
        subst (λ (x : Step). IsPlaced places (n + files_made (take k (steps ++ s ∷ []))) x) (sym (get_or_push steps s Pass k (sym same)))
        (subst (λ (l : List Step). IsPlaced places (n + files_made l) s) (sym (take_at steps (s ∷ []) k (sym same))) new)

-- a step stays at its place, where units come
placed_grown : (places more : List ℕ) (n : ℕ) (s : Step) → units_needed s ≤ length places → IsPlaced places n s → IsPlaced (places ++ more) n s
placed_grown places more n (Write unit at start len is_done) low placed = record { file = omega (arith, placed.file, get_or_append_left places more 0 unit (omega (arith, low))); next = refl }
placed_grown places more n (Create unit) low placed = record { file = omega arith; next = get_or_append_left places more 0 unit (omega (arith, low)) ∙ placed.next }
placed_grown places more n Sync low placed = record { file = omega arith; next = refl }
placed_grown places more n (Print start len) low placed = record { file = omega arith; next = refl }
placed_grown places more n Pass low placed = record { file = omega arith; next = refl }

-- the units at places, of files to which others were added
pub units_grown : (shapes more : List Attached) (places : List ℕ) → AreFirst shapes places → units_at (shapes ++ more) places ≡ units_at shapes places
units_grown shapes more [] firsts = refl
units_grown shapes more (place ∷ places) firsts =
    ap (λ (u : Attached). u ∷ units_at (shapes ++ more) places) (get_or_append_left shapes more _ place (firsts 0 (omega arith)).inside)
    ∙ ap (λ (l : List Attached). unit_of shapes place ∷ l) (units_grown shapes more places (λ k low. firsts (suc k) (omega arith)))

-- the first file of its name stays so, where files come after
first_grown : (shapes more : List Attached) (place : ℕ) → IsFirst shapes place → IsFirst (shapes ++ more) place
first_grown shapes more place first = record {
  inside = omega (arith, first.inside, length-append shapes more);
  before = λ k low same. first.before k low (sym (name_at k (omega (arith, low, first.inside))) ∙ same ∙ name_at place first.inside);
}
  where
    name_at : (k : ℕ) → k < length shapes → (unit_of (shapes ++ more) k).name ≡ (unit_of shapes k).name
    name_at k low = ap (λ (u : Attached). u.name) (get_or_append_left shapes more _ k low)

-- a call is put on the record, and uses the room that it has
pub records_by : {used : ℕ} {call : Call} {event : Event} {old new : MemHall} → HasRoom old used → calls_of new ≡ calls_of old ++ call ∷ [] → events_of new ≡ events_of old ++ event ∷ [] → calls_left new ≡ calls_left old - 1 → bytes_left new ≡ bytes_left old - used → Records used call event old new
records_by room calls events one bytes = record {
  calls = calls;
  events = events;
  room_calls = omega (arith, room.calls, one);
  room_bytes = omega (arith, room.bytes, bytes);
}

-- what a step more makes of a hall in memory: its record, and the events of it
pub record IsMore (first files files' : List File) (places places' : List ℕ) (steps steps' : List Step) (pool pool' text text' : List ℕ) (e : Event) : Type 0 where
  pub replay : IsReplay first files' places' steps' pool' text'
  pub events : events_at (units_at (shapes_of files') places') pool' text' steps' ≡ events_at (units_at (shapes_of files) places) pool text steps ++ e ∷ []

module _ (first files : List File) (places : List ℕ) (steps : List Step) (pool text : List ℕ) (was : IsReplay first files places steps pool text) where
  abbrev units : List Attached
  units = units_at (shapes_of files) places

  abbrev disk : Disk
  disk = disk_after first units pool text steps

  -- how a step more stands among files and units, to which others may have been added
  record IsNext (files' : List File) (places' : List ℕ) (more : List Attached) (s : Step) : Type 0 where
    shapes : shapes_of first ≡ take (length first) (shapes_of files')
    count : length first + (files_made steps + files_made (s ∷ [])) ≡ length files'
    firsts : AreFirst (shapes_of files') places'
    units_are : units_at (shapes_of files') places' ≡ units ++ more
    before : ArePlaced places' (length first) steps
    placed : IsPlaced places' (length first + files_made steps) s

  -- The pool and the text may have grown, and the files are those after the step.
  one_more : (files' : List File) (places' : List ℕ) (more : List Attached) (pool' text' : List ℕ) (s : Step) (e : Event) → IsNext files' places' more s
      → event_of (units ++ more) (pool ++ pool') (text ++ text') s ≡ e → IsWithin (units ++ more) (length (pool ++ pool')) (length (text ++ text')) s
      → files' ≡ (after disk e).files → text ++ text' ≡ (after disk e).text → IsMore first files files' places places' steps (steps ++ s ∷ []) pool (pool ++ pool') text (text ++ text') e
  one_more files' places' more pool' text' s e next is within now shown = record {
    replay = record {
      shapes = next.shapes;
      count = omega (arith, next.count, made-append steps (s ∷ []));
      placed = placed_more places' (length first) steps s next.before next.placed;
      firsts = next.firsts;
      within = subst (λ (x : List Attached). AreWithin x (length (pool ++ pool')) (length (text ++ text')) (steps ++ s ∷ [])) (sym next.units_are) (within_more (units ++ more) _ _ steps s old_within within);
      present = ap (λ (x : Disk). x.files) new_disk_is ∙ sym now;
      printed = ap (λ (x : Disk). x.text) new_disk_is ∙ sym shown;
    };
    events = events;
  }
    where
      old_within : AreWithin (units ++ more) (length (pool ++ pool')) (length (text ++ text')) steps
      old_within = all_within_grown units more (length pool) (length (pool ++ pool')) (length text) (length (text ++ text')) steps (omega (arith, length-append pool pool')) (omega (arith, length-append text text')) was.within

      events : events_at (units_at (shapes_of files') places') (pool ++ pool') (text ++ text') (steps ++ s ∷ []) ≡ events_at units pool text steps ++ e ∷ []
      events =
          ap (λ (x : List Attached). events_at x (pool ++ pool') (text ++ text') (steps ++ s ∷ [])) next.units_are
          ∙ map-append (event_of (units ++ more) (pool ++ pool') (text ++ text')) steps (s ∷ [])
          ∙ ap (λ (es : List Event). es ++ event_of (units ++ more) (pool ++ pool') (text ++ text') s ∷ []) (events_grown units more pool pool' text text' steps was.within)
          ∙ ap (λ (x : Event). events_at units pool text steps ++ x ∷ []) is

      new_disk_is : disk_after first (units_at (shapes_of files') places') (pool ++ pool') (text ++ text') (steps ++ s ∷ []) ≡ after disk e
      new_disk_is = ap (after_all (new_disk first)) events ∙ after_all_more (new_disk first) (events_at units pool text steps) e

  -- no file and no unit came
  same_next : (files' : List File) (s : Step) → shapes_of files' ≡ shapes_of files → files_made (s ∷ []) ≡ 0 → IsPlaced places (length first + files_made steps) s → IsNext files' places [] s
  same_next files' s shapes none placed = record {
    shapes = was.shapes ∙ ap (take (length first)) (sym shapes);
    count = omega (arith, was.count, none, length-map files' attached_as, length-map files attached_as, ap length shapes);
    firsts = subst (λ (x : List Attached). AreFirst x places) (sym shapes) was.firsts;
    units_are = ap (λ (x : List Attached). units_at x places) shapes ∙ sym (append-nil units);
    before = was.placed;
    placed = placed;
  }

  -- a step more to the same files and units
  one_same : (files' : List File) (pool' text' : List ℕ) (s : Step) (e : Event) → shapes_of files' ≡ shapes_of files → files_made (s ∷ []) ≡ 0 → IsPlaced places (length first + files_made steps) s
      → event_of units (pool ++ pool') (text ++ text') s ≡ e → IsWithin units (length (pool ++ pool')) (length (text ++ text')) s
      → files' ≡ (after disk e).files → text ++ text' ≡ (after disk e).text → IsMore first files files' places places steps (steps ++ s ∷ []) pool (pool ++ pool') text (text ++ text') e
  one_same files' pool' text' s e shapes none placed is within now shown =
      one_more files' places [] pool' text' s e (same_next files' s shapes none placed)
      (ap (λ (x : List Attached). event_of x (pool ++ pool') (text ++ text') s) (append-nil units) ∙ is)
      (subst (λ (x : List Attached). IsWithin x (length (pool ++ pool')) (length (text ++ text')) s) (sym (append-nil units)) within) now shown

  -- the same of lists that are equal
  renamed : (files' : List File) (places' : List ℕ) (steps' steps'' : List Step) (pool' pool'' text' text'' : List ℕ) (e : Event) → steps'' ≡ steps' → pool'' ≡ pool' → text'' ≡ text'
      → IsMore first files files' places places' steps steps' pool pool' text text' e → IsMore first files files' places places' steps steps'' pool pool'' text text'' e
  renamed files' places' steps' steps'' pool' pool'' text' text'' e steps_are pool_is text_is more =
      subst (λ (x : List Step). IsMore first files files' places places' steps x pool pool'' text text'' e) (sym steps_are)
      (subst (λ (x : List ℕ). IsMore first files files' places places' steps steps' pool x text text'' e) (sym pool_is)
      (subst (λ (x : List ℕ). IsMore first files files' places places' steps steps' pool pool' text x e) (sym text_is) more))

  -- a sync, or nothing that stays
  pub plain_more : (is_sync : Bool) (s : Step) (steps' : List Step) → s ≡ (if is_sync then Sync else Pass) → steps' ≡ steps ++ s ∷ []
      → IsMore first files files places places steps steps' pool pool text text (if is_sync then synced else passed)
  plain_more is_sync s steps' is steps_are = renamed files places (steps ++ (if is_sync then Sync else Pass) ∷ []) steps' (pool ++ []) pool (text ++ []) text _ (steps_are ∙ ap (λ (x : Step). steps ++ x ∷ []) is) (sym (append-nil pool)) (sym (append-nil text)) (by_kind is_sync)
    where
      by_kind : (b : Bool) → IsMore first files files places places steps (steps ++ (if b then Sync else Pass) ∷ []) pool (pool ++ []) text (text ++ []) (if b then synced else passed)
      by_kind true = one_same files [] [] Sync synced refl refl (record { file = omega arith; next = refl }) refl (record { unit = omega arith; size = omega arith; from_pool = omega arith; from_text = omega arith }) (sym was.present) (append-nil text ∙ sym was.printed)
      by_kind false = one_same files [] [] Pass passed refl refl (record { file = omega arith; next = refl }) refl (record { unit = omega arith; size = omega arith; from_pool = omega arith; from_text = omega arith }) (sym was.present) (append-nil text ∙ sym was.printed)

  -- a print
  pub print_more : (bytes text' : List ℕ) (start : ℕ) (steps' : List Step) → start ≡ length text → text' ≡ text ++ bytes → steps' ≡ steps ++ Print start (length bytes) ∷ []
      → IsMore first files files places places steps steps' pool pool text text' (printed bytes)
  print_more bytes text' start steps' starts text_is steps_are =
      renamed files places (steps ++ Print start (length bytes) ∷ []) steps' (pool ++ []) pool (text ++ bytes) text' _ steps_are (sym (append-nil pool)) text_is
      (one_same files [] bytes (Print start (length bytes)) (printed bytes) refl refl (record { file = omega arith; next = refl })
      (ap printed (ap (λ (n : ℕ). part (text ++ bytes) n (length bytes)) starts ∙ part_added text bytes))
      (record { unit = omega arith; size = omega arith; from_pool = omega arith; from_text = omega (arith, starts, length-append text bytes) })
      (sym was.present) (ap (λ (l : List ℕ). l ++ bytes) (sym was.printed)))

  -- a write, done or failed
  pub write_more : (files' : List File) (unit at start : ℕ) (bytes : List ℕ) (is_done : Bool) (pool' : List ℕ) (steps' : List Step)
      → shapes_of files' ≡ shapes_of files → files' ≡ (if is_done then written files (unit_of units unit).name at bytes else files)
      → unit < length units → at + length bytes ≤ (unit_of units unit).size
      → start ≡ length pool → pool' ≡ pool ++ bytes → steps' ≡ steps ++ Write unit at start (length bytes) is_done ∷ []
      → IsMore first files files' places places steps steps' pool pool' text text (wrote (record { name = (unit_of units unit).name; at = at; bytes = bytes; is_done = is_done }))
  write_more files' unit at start bytes is_done pool' steps' shapes now low inside starts pool_is steps_are =
      let in_places : unit < length places = omega (arith, low, length-map places (unit_of (shapes_of files))) in
      let place_inside : get_or places unit 0 < length first + files_made steps = omega (arith, (was.firsts unit in_places).inside, was.count, length-map files attached_as) in
      renamed files' places (steps ++ Write unit at start (length bytes) is_done ∷ []) steps' (pool ++ bytes) pool' (text ++ []) text _ steps_are pool_is (sym (append-nil text))
      (one_same files' bytes [] (Write unit at start (length bytes) is_done) _ shapes refl (record { file = omega (arith, place_inside); next = refl })
      (ap (λ (l : List ℕ). let w : Writing = record { name = (unit_of units unit).name; at = at; bytes = l; is_done = is_done } in wrote w) (ap (λ (n : ℕ). part (pool ++ bytes) n (length bytes)) starts ∙ part_added pool bytes))
      (record { unit = omega arith; size = inside; from_pool = omega (arith, starts, length-append pool bytes); from_text = omega arith })
      (now ∙ ap (λ (l : List File). if is_done then written l (unit_of units unit).name at bytes else l) (sym was.present)) (append-nil text ∙ sym was.printed))

  all_placed_grown : (more : List ℕ) → ArePlaced (places ++ more) (length first) steps
  all_placed_grown more k low = placed_grown places more _ _ (omega (arith, (was.within k low).unit, length-map places (unit_of (shapes_of files)))) (was.placed k low)

  -- a file made, which is attached as the next unit
  pub create_more : (f : File) (files' : List File) (places' : List ℕ) (steps' : List Step)
      → file_of files f.name ≡ None → f.bytes ≡ replicate (length f.bytes) 0
      → files' ≡ files ++ f ∷ [] → places' ≡ places ++ length files ∷ [] → steps' ≡ steps ++ Create (length places) ∷ []
      → IsMore first files files' places places' steps steps' pool pool text text (made f) × (units_at (shapes_of files') places' ≡ units ++ attached_as f ∷ [])
  create_more f files' places' steps' none zeros files_are places_are steps_are =
      subst (λ (x : List File). IsMore first files x places places' steps steps' pool pool text text (made f) × (units_at (shapes_of x) places' ≡ units ++ attached_as f ∷ [])) (sym files_are)
      (subst (λ (x : List ℕ). IsMore first files (files ++ f ∷ []) places x steps steps' pool pool text text (made f) × (units_at (shapes_of (files ++ f ∷ [])) x ≡ units ++ attached_as f ∷ [])) (sym places_are)
      (renamed (files ++ f ∷ []) (places ++ length files ∷ []) (steps ++ Create (length places) ∷ []) steps' (pool ++ []) pool (text ++ []) text (made f) steps_are (sym (append-nil pool)) (sym (append-nil text)) base, next.units_are))
    where
      shape : Attached
      shape = attached_as f

      shapes : List Attached
      shapes = shapes_of files

      shapes_are : shapes_of (files ++ f ∷ []) ≡ shapes ++ shape ∷ []
      shapes_are = map-append attached_as files (f ∷ [])

      size : length shapes ≡ length files
      size = length-map files attached_as

      at_end : unit_of (shapes ++ shape ∷ []) (length files) ≡ shape
      at_end = get_or_push shapes shape _ (length files) size

      is_first : IsFirst (shapes ++ shape ∷ []) (length files)
      is_first = record {
        inside = omega (arith, size, length-append shapes (shape ∷ []));
        before = λ k low same. absent (omega (arith, low)) (sym (ap (λ (u : Attached). u.name) (get_or_append_left shapes (shape ∷ []) _ k (omega (arith, low, size)))) ∙ same ∙ ap (λ (u : Attached). u.name) at_end);
      }
        where
          absent : {k : ℕ} → k < length files → (unit_of shapes k).name ≢ f.name
          absent {k} low = others_named files f.name none k low

      units_are : units_at (shapes ++ shape ∷ []) (places ++ length files ∷ []) ≡ units ++ shape ∷ []
      units_are = map_push (unit_of (shapes ++ shape ∷ [])) places (length files)
          ∙ ap (λ (l : List Attached). l ++ unit_of (shapes ++ shape ∷ []) (length files) ∷ []) (units_grown shapes (shape ∷ []) places was.firsts)
          ∙ ap (λ (u : Attached). units ++ u ∷ []) at_end

      firsts : AreFirst (shapes ++ shape ∷ []) (places ++ length files ∷ [])
      firsts k low = ⊎_elim before last (cases_lt k (length places))
        where
          before : k < length places → IsFirst (shapes ++ shape ∷ []) (get_or (places ++ length files ∷ []) k 0)
          before inside = subst (λ (p : ℕ). IsFirst (shapes ++ shape ∷ []) p) (sym (get_or_append_left places (length files ∷ []) 0 k inside)) (first_grown shapes (shape ∷ []) _ (was.firsts k inside))

          last : length places ≤ k → IsFirst (shapes ++ shape ∷ []) (get_or (places ++ length files ∷ []) k 0)
          last past = subst (λ (p : ℕ). IsFirst (shapes ++ shape ∷ []) p) (sym (get_or_push places (length files) 0 k (omega (arith, low, length_push places (length files))))) is_first

      next : IsNext (files ++ f ∷ []) (places ++ length files ∷ []) (shape ∷ []) (Create (length places))
      next = record {
        shapes = was.shapes ∙ sym (take-append-le (length first) shapes (shape ∷ []) (omega (arith, was.count, size))) ∙ ap (take (length first)) (sym shapes_are);
        count = omega (arith, was.count, length-append files (f ∷ []));
        firsts = subst (λ (x : List Attached). AreFirst x (places ++ length files ∷ [])) (sym shapes_are) firsts;
        units_are = ap (λ (x : List Attached). units_at x (places ++ length files ∷ [])) shapes_are ∙ units_are;
        before = all_placed_grown (length files ∷ []);
        placed = record { file = omega arith; next = get_or_push places (length files) 0 (length places) refl ∙ sym was.count };
      }

      unit_is : unit_of (units ++ shape ∷ []) (length places) ≡ shape
      unit_is = get_or_push units shape _ (length places) (length-map places (unit_of shapes))

      base : IsMore first files (files ++ f ∷ []) places (places ++ length files ∷ []) steps (steps ++ Create (length places) ∷ []) pool (pool ++ []) text (text ++ []) (made f)
      base = one_more (files ++ f ∷ []) (places ++ length files ∷ []) (shape ∷ []) [] [] (Create (length places)) (made f) next
          (ap (λ (u : Attached). made (new_file u)) unit_is ∙ ap (λ (l : List ℕ). let x : File = record { name = f.name; bytes = l } in made x) (sym zeros))
          (record { unit = omega (arith, length-append units (shape ∷ []), length-map places (unit_of shapes)); size = omega arith; from_pool = omega arith; from_text = omega arith })
          (ap (λ (l : List File). l ++ f ∷ []) (sym was.present)) (append-nil text ∙ sym was.printed)

  -- one unit more
  pub record IsAttachedMore (places' : List ℕ) (place : ℕ) : Type 0 where
    pub replay : IsReplay first files places' steps pool text
    pub events : events_at (units_at (shapes_of files) places') pool text steps ≡ events_at units pool text steps
    pub units_are : units_at (shapes_of files) places' ≡ units ++ unit_of (shapes_of files) place ∷ []

  pub unit_more : (places' : List ℕ) (place : ℕ) → IsFirst (shapes_of files) place → places' ≡ places ++ place ∷ [] → IsAttachedMore places' place
  unit_more places' place new places_are = record {
    replay = record {
      shapes = was.shapes;
      count = was.count;
      placed = subst (λ (x : List ℕ). ArePlaced x (length first) steps) (sym places_are) (all_placed_grown (place ∷ []));
      firsts = subst (λ (x : List ℕ). AreFirst (shapes_of files) x) (sym places_are) firsts;
      within = subst (λ (x : List Attached). AreWithin x (length pool) (length text) steps) (sym units_are) (all_within_grown units more (length pool) (length pool) (length text) (length text) steps (omega arith) (omega arith) was.within);
      present = ap (λ (es : List Event). (after_all (new_disk first) es).files) events ∙ was.present;
      printed = ap (λ (es : List Event). (after_all (new_disk first) es).text) events ∙ was.printed;
    };
    events = events;
    units_are = units_are;
  }
    where
      more : List Attached
      more = unit_of (shapes_of files) place ∷ []

      units_are : units_at (shapes_of files) places' ≡ units ++ more
      units_are = ap (units_at (shapes_of files)) places_are ∙ map_push (unit_of (shapes_of files)) places place

      events : events_at (units_at (shapes_of files) places') pool text steps ≡ events_at units pool text steps
      events =
          ap (λ (x : List Attached). events_at x pool text steps) units_are
          ∙ ap (λ (l : List ℕ). events_at (units ++ more) l text steps) (sym (append-nil pool))
          ∙ ap (λ (l : List ℕ). events_at (units ++ more) (pool ++ []) l steps) (sym (append-nil text))
          ∙ events_grown units more pool [] text [] steps was.within

      firsts : AreFirst (shapes_of files) (places ++ place ∷ [])
      firsts k low = ⊎_elim before last (cases_lt k (length places))
        where
          before : k < length places → IsFirst (shapes_of files) (get_or (places ++ place ∷ []) k 0)
          before inside = subst (λ (p : ℕ). IsFirst (shapes_of files) p) (sym (get_or_append_left places (place ∷ []) 0 k inside)) (was.firsts k inside)

          last : length places ≤ k → IsFirst (shapes_of files) (get_or (places ++ place ∷ []) k 0)
          last past = subst (λ (p : ℕ). IsFirst (shapes_of files) p) (sym (get_or_push places place 0 k (omega (arith, low, length_push places place)))) new

-- with room, the files as first given were copied, and so no write changes them
pub first_stays : (first : Option (Vec (String Global × Vec ℕ Global) Global)) (old new : List (String Global × Vec ℕ Global)) (room : ℕ) → ForNone first (room ≡ 0) → 0 < room → first_pairs first new ≡ first_pairs first old
first_stays (Some copy) old new room copied some = refl
first_stays None old new room copied some = absurd (omega (arith, copied refl))
