-- What each call does to what a hall means, by the event that it was.
use Rattle.std.proofs.Common.{◌≡◌, ◌<◌, inl, inr, ⊎_elim, ℕ, List, [], ◌∷◌, ◌++◌, length, refl, sym, ◌∙◌, ap, subst, arith, append_assoc, length-append, true, false}
use Rattle.std.specs.Prelude.{◌↔◌, Ok, Err, Some, None, IsErrOf}
use Rattle.std.proofs.lemmas.List.{append-nil, append_cancel_left}
use Rattle.hall_core.specs.declared.hall.HallErr.{HallErr}
use Rattle.stop_model.specs.Moments.{Meaning, LeftNow, LeavesSame, ElapsesExactly, Same}
use Rattle.stop_model.specs.Files.{File, file_of, IsPrefixOf, IsPending, AfterWrite, AfterSync, AfterPrint}
use Rattle.hall_core.specs.HistoryLaws.{LeftIn, now_in, in_now, state_left_now, now_since}
use Rattle.hall_core.specs.History.{Write, Event, wrote, made, synced, printed, passed, Disk, new_disk, after, after_all, MayLeave, meaning_after}
use Rattle.hall_core.proofs.HistoryLemmas.{next_disk, elapses, left_more, left_out, left_in, left_behind, left_with}
use Rattle.hall_core.specs.Images.{Creates, IsPartlyCreated, zeros_named}
use Rattle.hall_core.specs.declared.hall.HallErr.TheVariants.{Exists, Memory}

-- what is known of a meaning, of another that is the same
pub moved : (P : Meaning (List File) → Type 0) (first first' : List File) (es es' : List Event) → first' ≡ first → es' ≡ es → P (meaning_after first es) → P (meaning_after first' es')
moved P first first' es es' same events known = subst (λ (f : List File). P (meaning_after f es')) (sym same) (subst (λ (e : List Event). P (meaning_after first e)) (sym events) known)

only_nothing : (q r : List ℕ) → q ++ r ≡ [] → q ≡ []
only_nothing [] r is = refl
only_nothing (x ∷ q) r is = absurd (cc is)

-- a creation after which nothing changed but the time
pub creates_nothing : (name : List ℕ) (len : ℕ) (old new : Meaning (List File)) (e : HallErr) → Same old new → (IsErrOf {T = ℕ} {E = HallErr} (Err e) Exists → (image : List ℕ) × (file_of old.state name ≡ Some image)) → ¬ IsErrOf {T = ℕ} {E = HallErr} (Err e) Memory → Creates name len old new (Err e)
creates_nothing name len old new e same exists fine = record {
  fresh = tt;
  state = tt;
  left = tt;
  exists = exists;
  stays = λ image there. same;
  failed = (inl same.state, record { only = λ j left. (j, (same.left j).0 left, inl refl); each = λ j left. (j, (same.left j).1 left, inl refl) });
  memory = λ memory. absurd (fine memory);
  printed = same.printed;
  moments = record {
    later = same.time.later;
    moments = λ t j p le left. ⊎_elim (λ before. inl before) (λ now. inr ((j, now.0, inl refl), now.1)) ((same.time.since t j p le).0 left);
    keeps = λ t j p le left. (same.time.since t j p le).1 (inl left);
  };
}

-- a call that did nothing, and wasn't put on the record
module _ (first : List File) (es : List Event) where
  abbrev m : Meaning (List File)
  m = meaning_after first es

  abbrev d : Disk
  d = after_all (new_disk first) es

  still : (P : List File → List ℕ → Type 0) → ((j : List File) (p : List ℕ) → P j p → MayLeave d j × (p ≡ d.text)) → ElapsesExactly m m P
  still P now = record {
    later = omega arith;
    since = λ t j p le. ((λ left. inl left), ⊎_elim (λ left. left) (λ has. let n = now j p has in now_since first es t j p le n.0 n.1));
  }

  stays : LeavesSame m m
  stays j = ((λ left. left), (λ left. left))

  pub same_still : Same m m
  same_still = record { state = refl; printed = refl; left = stays; time = still (LeftNow m) (λ j p now. now) }

  pub write_lacking : (name : List ℕ) (at : ℕ) (bytes : List ℕ) (e : HallErr) → AfterWrite {T = Unit {0}} name at bytes m m (Err e)
  write_lacking name at bytes e = record {
    printed = refl;
    done = tt;
    failed = inl refl;
    pending = inr (refl, stays);
    ticks = tt;
    time = still (LeftNow m) (λ j p now. now);
  }

  pub sync_lacking : (e : HallErr) → AfterSync {T = Unit {0}} m m (Err e)
  sync_lacking e = record { state = refl; printed = refl; done = tt; failed = stays; ticks = tt; time = still (LeftNow m) (λ j p now. now) }

  between : (j : List File) (p : List ℕ) → MayLeave d j × (IsPrefixOf d.text p × IsPrefixOf p d.text) → MayLeave d j × (p ≡ d.text)
  between j p (left, ((q, more), (r, less))) =
      let whole : d.text ++ (q ++ r) ≡ d.text ++ [] = sym (append_assoc d.text q r) ∙ ap (λ (l : List ℕ). l ++ r) more ∙ less ∙ sym (append-nil d.text) in
      let none : q ≡ [] = only_nothing q r (append_cancel_left d.text (q ++ r) [] whole) in
      (left, sym more ∙ ap (λ (l : List ℕ). d.text ++ l) none ∙ append-nil d.text)

  pub print_lacking : (bytes : List ℕ) (e : HallErr) → AfterPrint {T = Unit {0}} bytes m m (Err e)
  print_lacking bytes e = record {
    state = refl;
    left = stays;
    done = tt;
    prefix = ([], (bytes, refl), sym (append-nil d.text));
    ticks = tt;
    time = still _ between;
  }

  -- a call that did nothing, and was put on the record
  abbrev m' : Meaning (List File)
  m' = meaning_after first (es ++ passed ∷ [])

  passed_disk : after_all (new_disk first) (es ++ passed ∷ []) ≡ d
  passed_disk = next_disk first es passed

  passed_stays : LeavesSame m m'
  passed_stays j = (subst (λ (x : Disk). MayLeave x j) passed_disk, subst (λ (x : Disk). MayLeave x j) (sym passed_disk))

  passed_time : (P : List File → List ℕ → Type 0) → ((j : List File) (p : List ℕ) → P j p → MayLeave d j × (p ≡ d.text)) → ElapsesExactly m m' P
  passed_time P now = elapses first es passed P (λ j p during. inl (in_now d j p during)) (λ j p left is. inl (left, is)) (λ j p has. inl (now_in d [] j p (now j p has)))

  pub same_passed : Same m m'
  same_passed = record {
    state = ap (λ (x : Disk). x.files) passed_disk;
    printed = ap (λ (x : Disk). x.text) passed_disk;
    left = passed_stays;
    time = passed_time (LeftNow m) (λ j p now. now);
  }

  pub sync_failed : (e : HallErr) → AfterSync {T = Unit {0}} m m' (Err e)
  sync_failed e = record {
    state = ap (λ (x : Disk). x.files) passed_disk;
    printed = ap (λ (x : Disk). x.text) passed_disk;
    done = tt;
    failed = passed_stays;
    ticks = tt;
    time = passed_time (LeftNow m) (λ j p now. now);
  }

  pub print_failed : (bytes : List ℕ) (e : HallErr) → AfterPrint {T = Unit {0}} bytes m m' (Err e)
  print_failed bytes e = record {
    state = ap (λ (x : Disk). x.files) passed_disk;
    left = passed_stays;
    done = tt;
    prefix = ([], (bytes, refl), ap (λ (x : Disk). x.text) passed_disk ∙ sym (append-nil d.text));
    ticks = tt;
    time = passed_time _ (λ j p (left, (more, (r, less))). between j p (left, (more, (r, less ∙ ap (λ (x : Disk). x.text) passed_disk))));
  }

  -- a sync that was done
  abbrev synced_m : Meaning (List File)
  synced_m = meaning_after first (es ++ synced ∷ [])

  synced_disk : after_all (new_disk first) (es ++ synced ∷ []) ≡ after d synced
  synced_disk = next_disk first es synced

  longer : (e : Event) → length es < length (es ++ e ∷ [])
  longer e = omega (arith, length-append es (e ∷ []))

  durable : (j : List File) → MayLeave (after d synced) j → j ≡ d.files
  durable j (flags, is) = is

  pub sync_done : AfterSync {T = Unit {0}} {E = HallErr} m synced_m (Ok tt)
  sync_done = record {
    state = ap (λ (x : Disk). x.files) synced_disk;
    printed = ap (λ (x : Disk). x.text) synced_disk;
    done = λ j left. durable j (subst (λ (x : Disk). MayLeave x j) synced_disk left) ∙ sym (ap (λ (x : Disk). x.files) synced_disk);
    failed = tt;
    ticks = longer synced;
    time = elapses first es synced (LeftNow m) (λ j p during. inl (in_now d j p during))
        (λ j p left is. inl (subst (λ (l : List File). MayLeave d l) (sym (durable j left)) (state_left_now first es), is))
        (λ j p has. inl (now_in d [] j p has));
  }

  -- a print that was done
  module _ (bytes : List ℕ) where
    printed_disk : after_all (new_disk first) (es ++ printed bytes ∷ []) ≡ after d (printed bytes)
    printed_disk = next_disk first es (printed bytes)

    abbrev printed_m : Meaning (List File)
    printed_m = meaning_after first (es ++ printed bytes ∷ [])

    printed_text : (after_all (new_disk first) (es ++ printed bytes ∷ [])).text ≡ d.text ++ bytes
    printed_text = ap (λ (x : Disk). x.text) printed_disk

    abbrev IsBetween : List File → List ℕ → Type 0
    IsBetween j p = MayLeave d j × (IsPrefixOf d.text p × IsPrefixOf p printed_m.printed)

    printing : (j : List File) (p : List ℕ) → LeftIn d bytes j p → IsBetween j p
    printing j p (left, (q, (rest, whole), is)) =
        (left, ((q, sym is), (rest, ap (λ (l : List ℕ). l ++ rest) is ∙ append_assoc d.text q rest ∙ ap (λ (l : List ℕ). d.text ++ l) whole ∙ sym printed_text)))

    print_back : (j : List File) (p : List ℕ) → IsBetween j p → LeftIn d bytes j p
    print_back j p (left, ((q, more), (r, less))) =
        let whole : d.text ++ (q ++ r) ≡ d.text ++ bytes = sym (append_assoc d.text q r) ∙ ap (λ (l : List ℕ). l ++ r) more ∙ less ∙ printed_text in
        (left, (q, (r, append_cancel_left d.text (q ++ r) bytes whole), sym more))

    pub print_done : AfterPrint {T = Unit {0}} {E = HallErr} bytes m printed_m (Ok tt)
    print_done = record {
      state = ap (λ (x : Disk). x.files) printed_disk;
      left = λ j. (subst (λ (x : Disk). MayLeave x j) printed_disk, subst (λ (x : Disk). MayLeave x j) (sym printed_disk));
      done = printed_text;
      prefix = (bytes, ([], append-nil bytes), printed_text);
      ticks = longer (printed bytes);
      time = elapses first es (printed bytes) IsBetween (λ j p during. inr (printing j p during))
          (λ j p left is. inr (printing j p (left, (bytes, ([], append-nil bytes), is))))
          (λ j p has. inl (print_back j p has));
    }

  -- a file that was made
  module _ (f : File) where
    made_disk : after_all (new_disk first) (es ++ made f ∷ []) ≡ after d (made f)
    made_disk = next_disk first es (made f)

    abbrev made_m : Meaning (List File)
    made_m = meaning_after first (es ++ made f ∷ [])

    made_left : (j : List File) → made_m.left j ↔ ((e : List File) × MayLeave d e × (j ≡ e ++ f ∷ []))
    made_left j = (
      (λ left. left_behind d f j (subst (λ (x : Disk). MayLeave x j) made_disk left)),
      (λ (e, left, is). subst (λ (x : Disk). MayLeave x j) (sym made_disk) (subst (λ (l : List File). MayLeave (after d (made f)) l) (sym is) (left_with d f e left))),
    )

    made_time : ElapsesExactly m made_m (LeftNow made_m)
    made_time = elapses first es (made f) (LeftNow made_m) (λ j p during. inl (in_now d j p during))
        (λ j p left is. inr (subst (λ (x : Disk). MayLeave x j × (p ≡ x.text)) (sym made_disk) (left, is)))
        (λ j p has. inr (subst (λ (x : Disk). MayLeave x j × (p ≡ x.text)) made_disk has))

  pub create_done : (name : List ℕ) (len unit : ℕ) → file_of d.files name ≡ None → Creates name len m (meaning_after first (es ++ made (zeros_named name len) ∷ [])) (Ok unit)
  create_done name len unit none = record {
    fresh = none;
    state = ap (λ (x : Disk). x.files) (made_disk f);
    left = made_left f;
    exists = λ e. absurd (cc e);
    stays = λ image there. absurd (cc (there, none));
    failed = tt;
    memory = λ e. absurd (cc e);
    printed = text;
    moments = record {
      later = (made_time f).later;
      moments = λ t j p le left. ⊎_elim (λ before. inl before) (λ now. inr (partly j p now.1 ((made_left f j).0 now.0))) (((made_time f).since t j p le).0 left);
      keeps = λ t j p le left. ((made_time f).since t j p le).1 (inl left);
    };
  }
    where
      f : File
      f = zeros_named name len

      text : (meaning_after first (es ++ made f ∷ [])).printed ≡ d.text
      text = ap (λ (x : Disk). x.text) (made_disk f)

      partly : (j : List File) (p : List ℕ) → p ≡ (meaning_after first (es ++ made f ∷ [])).printed → (e : List File) × MayLeave d e × (j ≡ e ++ f ∷ []) → ((e : List File) × MayLeave d e × IsPartlyCreated name len e j) × (p ≡ d.text)
      partly j p is (e, left, whole) = ((e, left, inr (len, omega arith, whole)), is ∙ text)

  -- a write, done or failed, that was put on the record
  module _ (w : Write) where
    written_disk : after_all (new_disk first) (es ++ wrote w ∷ []) ≡ after d (wrote w)
    written_disk = next_disk first es (wrote w)

    abbrev written_m : Meaning (List File)
    written_m = meaning_after first (es ++ wrote w ∷ [])

    is_pending : IsPending w.name w.at w.bytes m written_m
    is_pending j = (
      (λ left. left_more d w j (subst (λ (x : Disk). MayLeave x j) written_disk left)),
      (λ (e, left, which). subst (λ (x : Disk). MayLeave x j) (sym written_disk)
          (⊎_elim (λ same. subst (λ (l : List File). MayLeave (after d (wrote w)) l) (sym same) (left_out d w e left))
          (λ more. subst (λ (l : List File). MayLeave (after d (wrote w)) l) (sym more) (left_in d w e left)) which)),
    )

    write_time : ElapsesExactly m written_m (LeftNow written_m)
    write_time = elapses first es (wrote w) (LeftNow written_m) (λ j p during. inl (in_now d j p during))
        (λ j p left is. inr (subst (λ (x : Disk). MayLeave x j × (p ≡ x.text)) (sym written_disk) (left, is)))
        (λ j p has. inr (subst (λ (x : Disk). MayLeave x j × (p ≡ x.text)) written_disk has))

    pub write_done : w.is_done ≡ true → AfterWrite {T = Unit {0}} {E = HallErr} w.name w.at w.bytes m written_m (Ok tt)
    write_done done = record {
      printed = ap (λ (x : Disk). x.text) written_disk;
      done = ap (λ (x : Disk). x.files) written_disk ∙ rw done refl;
      failed = tt;
      pending = inl is_pending;
      ticks = longer (wrote w);
      time = write_time;
    }

    pub write_failed : w.is_done ≡ false → (e : HallErr) → AfterWrite {T = Unit {0}} w.name w.at w.bytes m written_m (Err e)
    write_failed done e = record {
      printed = ap (λ (x : Disk). x.text) written_disk;
      done = tt;
      failed = inl (ap (λ (x : Disk). x.files) written_disk ∙ rw done refl);
      pending = inl is_pending;
      ticks = tt;
      time = write_time;
    }
