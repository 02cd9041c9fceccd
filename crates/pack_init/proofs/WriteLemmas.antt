-- Writes and syncs of a file that stands after others.
use Rattle.std.specs.Prelude.{Result, Ok, Err, OnOk, OnErr, IsErr, IsErrAnd, None}
use Rattle.std.proofs.Common.{◌≡◌, ◌∷◌, ◌++◌, ℕ, List, [], length, Bool, true, false, ⊎_elim, ap, sym, subst, refl, ◌∙◌, arith}
use Rattle.std.specs.Str.{bytes_eq}
use Rattle.std.proofs.lemmas.List.{get_or_push}
use Rattle.std.proofs.lemmas.Result.{IfOk-from_err, err_from_is_err_and, on_ok_weaker}
use Rattle.stop_model.specs.Files.{File, file_of, written, patched, AfterWrite, AfterSync}
use Rattle.stop_model.specs.Moments.{Meaning, IsDurable, LeavesSame}
use Rattle.stop_model.proofs.MomentLemmas.{elapses_none, elapses_weaker, elapses_then, elapses_from_exactly}
use Rattle.hall_core.specs.Facts.{Attached, Facts, DeviceCall, name_in, unit_of}
use Rattle.stop_model.specs.Counts.{Rose}
use Rattle.hall_core.specs.Laws.{same_name}
use Rattle.pack_init.specs.Init.{with_file}
use Rattle.pack_init.specs.Layout.{with_front}
use Rattle.pack_init.specs.Progress.{HasBehind, IsFrontWritten, Writes}

-- a write over the file after others, none of which has its name
pub written_behind : (base : List File) (name image : List ℕ) (at : ℕ) (bytes : List ℕ) → file_of base name ≡ None → written (with_file base name image) name at bytes ≡ with_file base name (patched image at bytes)
unfolding written
written_behind [] name image at bytes fresh = rw (same_name name) refl
written_behind (f ∷ files) name image at bytes fresh = by (bytes_eq f.name name) refl (written_behind files name image at bytes)
  where
    by : (b : Bool) → bytes_eq f.name name ≡ b → (file_of files name ≡ None → written (with_file files name image) name at bytes ≡ with_file files name (patched image at bytes)) → written (with_file (f ∷ files) name image) name at bytes ≡ with_file (f ∷ files) name (patched image at bytes)
    by true e again = let no = rw e at fresh in absurd (cc no)
    by false e again = rw e (ap (λ (l : List File). f ∷ l) (again (rw e at fresh)))

module _ {name : List ℕ} {P : List ℕ → Type 0} where
  -- no write
  pub writes_none : {T E : Type 0} (m : Meaning (List File)) (x : T) → Writes {T = T} {E = E} name P (λ image. image) m m (Ok x)
  writes_none m x = record {
    printed = refl;
    state = λ base image fresh is. is;
    left = λ base fresh all. all;
    moments = λ base fresh all. elapses_none m _;
  }

  -- one write
  pub writes_one : {T E : Type 0} {at : ℕ} {bytes : List ℕ} {old new : Meaning (List File)} {result : Result T E} → ((image : List ℕ) → P image → P (patched image at bytes)) → AfterWrite name at bytes old new result → Writes name P (λ image. patched image at bytes) old new result
  writes_one {at = at} {bytes = bytes} {old = old} {new = new} {result = result} keeps write = record {
    printed = write.printed;
    state = on_ok_weaker result (λ done base image fresh is. done ∙ ap (λ (l : List File). written l name at bytes) is ∙ written_behind base name image at bytes fresh) write.done;
    left = behind;
    moments = λ base fresh all. elapses_from_exactly write.time (λ j p now. (behind base fresh all j now.0, now.1 ∙ write.printed));
  }
    where
      behind : (base : List File) → file_of base name ≡ None → ((j : List File) → old.left j → HasBehind base name P j) → (j : List File) → new.left j → HasBehind base name P j
      behind base fresh all j left = ⊎_elim
          (λ pending.
          let d = (pending j).0 left in
          let has = all d.0 d.1 in
          ⊎_elim
          (λ without. (has.0, without ∙ has.1, has.2))
          (λ kept. (patched has.0 at bytes, kept ∙ ap (λ (l : List File). written l name at bytes) has.1 ∙ written_behind base name has.0 at bytes fresh, keeps has.0 has.2))
          d.2)
          (λ absent. all j ((absent.1 j).0 left))
          write.pending

  -- a sync
  pub writes_sync : {T E : Type 0} {old new : Meaning (List File)} {result : Result T E} → old.left old.state → AfterSync old new result → Writes name P (λ image. image) old new result
  writes_sync {T = T} {E = E} {old = old} {new = new} {result = result} here sync = record {
    printed = sync.printed;
    state = on_ok_weaker {P = Unit {0}} result (λ u base image fresh is. sync.state ∙ is) (always result);
    left = λ base fresh all. behind result sync.done sync.failed base all;
    moments = λ base fresh all. elapses_from_exactly sync.time (λ j p now. (all j now.0, now.1));
  }
    where
      always : (r : Result T E) → OnOk r (Unit {0})
      always (Ok x) = tt
      always (Err e) = tt

      behind : (r : Result T E) → OnOk r (IsDurable new) → OnErr r (LeavesSame old new) → (base : List File) → ((j : List File) → old.left j → HasBehind base name P j) → (j : List File) → new.left j → HasBehind base name P j
      behind (Ok x) durable same base all j left = let has = all old.state here in (has.0, durable j left ∙ sync.state ∙ has.1, has.2)
      behind (Err e) durable same base all j left = all j ((same j).0 left)

  -- further writes
  pub writes_then : {T E A B : Type 0} {f g : List ℕ → List ℕ} {old mid new : Meaning (List File)} {x : A} {result : Result T E} → Writes {T = A} {E = B} name P f old mid (Ok x) → Writes name P g mid new result → Writes name P (λ image. g (f image)) old new result
  writes_then {f = f} {result = result} first second = record {
    printed = second.printed ∙ first.printed;
    state = on_ok_weaker result (λ done base image fresh is. done base (f image) fresh (first.state base image fresh is)) second.state;
    left = λ base fresh all. second.left base fresh (first.left base fresh all);
    moments = λ base fresh all. elapses_then (first.moments base fresh all) (elapses_weaker (second.moments base fresh (first.left base fresh all)) (λ j p has. (has.0, has.1 ∙ first.printed)));
  }

  -- writes that failed, whatever they were to make
  pub writes_fail : {T E A B : Type 0} {f g : List ℕ → List ℕ} {old new : Meaning (List File)} {result : Result T E} (answer : Result A B) → IsErr answer → Writes name P f old new result → Writes name P g old new answer
  writes_fail answer failed w = record { printed = w.printed; state = IfOk-from_err answer _ failed; left = w.left; moments = w.moments }

  -- writes that were done, whatever is answered
  pub writes_done : {T E A B : Type 0} {f : List ℕ → List ℕ} {old new : Meaning (List File)} {x : T} (y : A) → Writes {T = T} {E = E} name P f old new (Ok x) → Writes {T = A} {E = B} name P f old new (Ok y)
  writes_done y w = record { printed = w.printed; state = w.state; left = w.left; moments = w.moments }

-- a failed call's answer is an error
pub is_error : {T E : Type 0} (Q : E → Type 0) (r : Result T E) → IsErrAnd r Q → IsErr r
is_error Q r failed = let p = err_from_is_err_and r failed in subst (λ x. IsErr x) (sym p.1) refl

-- a write by a name that is the same
pub write_named : {T E : Type 0} {a b : List ℕ} {at : ℕ} {bytes : List ℕ} {old new : Meaning (List File)} {result : Result T E} → a ≡ b → AfterWrite a at bytes old new result → AfterWrite b at bytes old new result
write_named {at = at} {bytes = bytes} {old = old} {new = new} {result = result} same write = subst (λ (n : List ℕ). AfterWrite n at bytes old new result) same write

-- the units are the same, and so is the name of one of them
pub name_stays : (f h : Facts) (unit : ℕ) → f.units ≡ h.units → name_in f unit ≡ name_in h unit
name_stays f h unit same = ap (λ (us : List Attached). (unit_of us unit).name) same

-- a call of a device after one that was done
pub calls_then : {T E A B : Type 0} {f g h : Facts} {x : A} {result : Result T E} → DeviceCall {T = A} {E = B} f g (Ok x) → DeviceCall g h result → DeviceCall f h result
calls_then {T = T} {E = E} {f = f} {g = g} {h = h} {result = result} first second = record {
  units = second.units ∙ first.units;
  references = second.references ∙ first.references;
  prints = second.prints ∙ first.prints;
  later = omega (arith, first.later, second.later);
  done = on_ok_weaker result (λ same. same ∙ first.done) second.done;
  failed = on_err result second.failed;
}
  where
    on_err : (r : Result T E) → OnErr r (Rose g.dev_faults h.dev_faults) → OnErr r (Rose f.dev_faults h.dev_faults)
    on_err (Ok y) rose = tt
    on_err (Err e) rose = subst (λ (n : ℕ). Rose n h.dev_faults) first.done rose

-- no call
pub calls_none : {T E : Type 0} (f : Facts) (x : T) → DeviceCall {T = T} {E = E} f f (Ok x)
calls_none f x = record { units = refl; references = refl; prints = refl; later = omega arith; done = refl; failed = tt }

-- a call that was done, whatever is answered
pub calls_done : {T E A B : Type 0} {f g : Facts} {x : T} (y : A) → DeviceCall {T = T} {E = E} f g (Ok x) → DeviceCall {T = A} {E = B} f g (Ok y)
calls_done y call = record { units = call.units; references = call.references; prints = call.prints; later = call.later; done = call.done; failed = tt }

-- writes of a name that is the same
pub writes_named : {T E : Type 0} {a b : List ℕ} {P : List ℕ → Type 0} {f : List ℕ → List ℕ} {old new : Meaning (List File)} {result : Result T E} → a ≡ b → Writes a P f old new result → Writes b P f old new result
writes_named {P = P} {f = f} {old = old} {new = new} {result = result} same w = subst (λ (n : List ℕ). Writes n P f old new result) same w

-- the name of a unit that was added
pub name_added : (f : Facts) (units : List Attached) (unit len : ℕ) (name : List ℕ) → unit ≡ length units → f.units ≡ units ++ record { name = name; size = len } ∷ [] → name_in f unit ≡ name
name_added f units unit len name last added =
    let one : Attached = record { name = name; size = len } in
    let d : Attached = record { name = []; size = 0 } in
    ap (λ (us : List Attached). (unit_of us unit).name) added ∙ ap (λ (u : Attached). u.name) (get_or_push units one d unit (sym last))

-- the front by its header
pub front_header : {T E : Type 0} {name h k label rest : List ℕ} {old new : Meaning (List File)} {result : Result T E} → h ≡ k → Writes name (IsFrontWritten h label rest) (with_front h label) old new result → Writes name (IsFrontWritten k label rest) (with_front k label) old new result
front_header {name = name} {label = label} {rest = rest} {old = old} {new = new} {result = result} same w = subst (λ (x : List ℕ). Writes name (IsFrontWritten x label rest) (with_front x label) old new result) same w
