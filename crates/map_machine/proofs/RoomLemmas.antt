-- Room made for blocks, one after another, and what is done after it.
use Rattle.std.proofs.Common.{◌≡◌, ◌⊎◌, inl, inr, ◌≤◌, ℕ, suc, Bool, true, false, List, [], ◌∷◌, ◌++◌, length, map, take, arith, refl, sym, ◌∙◌, ap, subst, length-append}
use Rattle.std.proofs.Math.Logic.{⊎_elim}
use Rattle.std.proofs.lemmas.List.{append-nil, take_all}
use Rattle.std.specs.Prelude.{IfErr, IfOk, Option, Some, Result, Ok, Err, if◌then◌else◌}
use Rattle.std.specs.declared.alloc.AllocError.{AllocError}
use Rattle.stop_model.specs.Moments.{Same}
use Rattle.stop_model.proofs.MomentLemmas.{elapses_none, elapses_same, elapses_then, elapses_weaker}
use Rattle.map_machine.specs.declared.past.Writer.{Writer}
use Rattle.map_machine.specs.declared.rooms.Commit.{Commit}
use Rattle.map_machine.specs.declared.rooms.Put.{Put}
use Rattle.map_machine.specs.Held.{Held, meaning_in, writer_in}
use Rattle.map_machine.specs.Plans.{IsCommit, IsPut}
use Rattle.map_machine.specs.Rooms.{target_in}
use Rattle.map_machine.specs.Made.{Came, Extends, MakesRoom}
use Rattle.map_machine.specs.Open.{CanCommit, OpenCanCommit, as_open}
use Rattle.map_machine.proofs.OpenLemmas.{writes_done}
use Rattle.shelf_laws.specs.Laws.{RecordsPut, StaysLawful}
use Rattle.shelf_laws.specs.Ready.{IsReady}
use Rattle.vol_model.specs.declared.answers.MachErr.{MachErr}
use Rattle.vol_model.specs.declared.answers.MachErr.TheVariants.{Refused, Memory, Device, Print}
use Rattle.vol_model.specs.declared.contents.Place.{Place}
use Rattle.vol_model.specs.declared.contents.Shelf.{Shelf}
use Rattle.vol_model.specs.declared.refusals.Refusal.{Refusal}
use Rattle.vol_model.specs.declared.refusals.Refusal.TheVariants.{NoRoom}
use Rattle.vol_model.specs.declared.requests.Op.{Op}
use Rattle.vol_model.specs.Calls.{Applies, CountsOne, Does, counted}
use Rattle.vol_model.specs.Did.{Did}
use Rattle.vol_model.specs.Events.{Do, StopsIn, after_operations, behind}
use Rattle.vol_model.specs.Places.{Content}
use Rattle.vol_model.specs.Shelf.{step}
use Rattle.vol_model.specs.Lawful.{IsLawful}
use Rattle.vol_model.specs.Writing.{Making, OpenWriter, Target, Owned, Wanted, Never, blocks_for, did_commit, did_put, extension, if_made, making_by, making_close, making_room, room_for, room_made, with_puts}
use Rattle.vol_model.proofs.Stops.{stops_start}
use Rattle.vol_model.proofs.Working.{after_append}

-- ---- what room is made for one content

module _ (s : Shelf) (t : Target) (before : List Content) (c : Content) (cs : List Content) where
  abbrev more : Shelf → Making
  more u = making_room u t (before ++ c ∷ []) cs

  pub making_owned : Owned ≡ room_for s t before c → making_room s t before (c ∷ cs) ≡ more s
  making_owned is = ap (making_by s (extension t) (step s (extension t)) more) (sym is)

  pub making_never : Never ≡ room_for s t before c → making_room s t before (c ∷ cs) ≡ record { extends = []; all = false }
  making_never is = ap (making_by s (extension t) (step s (extension t)) more) (sym is)

  pub making_done : (u : Shelf) → Wanted ≡ room_for s t before c → step s (extension t) ≡ Ok u → making_room s t before (c ∷ cs) ≡ record { extends = extension t ∷ (more u).extends; all = (more u).all }
  making_done u is done = ap (making_by s (extension t) (step s (extension t)) more) (sym is) ∙ ap (λ q. making_by s (extension t) q more Wanted) done

  pub making_refused : (r : Refusal) → Wanted ≡ room_for s t before c → step s (extension t) ≡ Err r → making_room s t before (c ∷ cs) ≡ record { extends = []; all = false }
  making_refused r is refused = ap (making_by s (extension t) (step s (extension t)) more) (sym is) ∙ ap (λ q. making_by s (extension t) q more Wanted) refused

-- ---- operations that were done

abbrev Stop : List Op → Held → Shelf → List ℕ → Type 0
Stop way old shelf p = StopsIn old.now.shelf (map Do way) shelf [] × (p ≡ old.now.text)

-- a stop before the first
at_start : (way : List Op) (old : Held) (shelf : Shelf) (p : List ℕ) → shelf ≡ old.now.shelf → p ≡ old.now.text → Stop way old shelf p
at_start way old shelf p is text = (subst (λ s. StopsIn old.now.shelf (map Do way) s []) (sym is) (stops_start old.now.shelf (map Do way)), text)

pub came_none : (way : List Op) (old : Held) → Came way [] old old
came_none way old = record {
  state = refl;
  count = omega arith;
  printed = refl;
  writer = refl;
  moments = elapses_none (meaning_in old) (Stop way old);
}

-- nothing changed but the time
came_same : (way : List Op) (old new : Held) → Same (meaning_in old) (meaning_in new) → new.done ≡ old.done → new.writer ≡ old.writer → Came way [] old new
came_same way old new same count writer = record {
  state = same.state;
  count = omega (arith, count);
  printed = same.printed;
  writer = writer;
  moments = elapses_same same (λ shelf left. at_start way old shelf old.now.text left refl);
}

module _ (op : Op) (old mid new : Held) (applies : Applies {T = Unit {0}} op (meaning_in old) (meaning_in mid) (Ok tt)) (once : mid.done ≡ counted old.done 1) (stays : mid.writer ≡ old.writer) where
  there : behind old.now.shelf (step old.now.shelf op) ≡ mid.now.shelf
  there = ap (behind old.now.shelf) applies.answer

  first_stop : (rest : List Op) (shelf : Shelf) (p : List ℕ) → ((shelf ≡ old.now.shelf) ⊎ (step old.now.shelf op ≡ Ok shelf)) × (p ≡ old.now.text) → Stop (op ∷ rest) old shelf p
  first_stop rest shelf p stop = ⊎_elim
      (λ was. (inl (was, refl), stop.1))
      (λ done.
      let is : behind old.now.shelf (step old.now.shelf op) ≡ shelf = ap (behind old.now.shelf) done in
      (inr (subst (λ s. StopsIn (behind old.now.shelf (step old.now.shelf op)) (map Do rest) s []) is (stops_start (behind old.now.shelf (step old.now.shelf op)) (map Do rest))), stop.1))
      stop.0

  later_stop : (rest : List Op) (shelf : Shelf) (p : List ℕ) → Stop rest mid shelf p → Stop (op ∷ rest) old shelf p
  later_stop rest shelf p stop = (inr (subst (λ s. StopsIn s (map Do rest) shelf []) (sym there) stop.0), stop.1 ∙ applies.printed)

  -- one operation, and others after it
  pub came_after : (rest ops : List Op) → Came rest ops mid new → Came (op ∷ rest) (op ∷ ops) old new
  came_after rest ops came = record {
    state = came.state ∙ ap (λ s. after_operations s ops) (sym there);
    count = let n = length ops in let last : new.done ≡ counted mid.done n = came.count in omega (arith, last, once);
    printed = came.printed ∙ applies.printed;
    writer = came.writer ∙ stays;
    moments = elapses_then (elapses_weaker applies.moments (first_stop rest)) (elapses_weaker came.moments (later_stop rest));
  }

-- one that is refused
came_refused : (way : List Op) (op : Op) (r : Refusal) (old new : Held) → Applies {T = Unit {0}} op (meaning_in old) (meaning_in new) (Err (Refused r)) → new.done ≡ old.done → new.writer ≡ old.writer → Came way [] old new
came_refused way op r old new applies count writer = came_same way old new (applies.idle (inl (r, applies.answer.0))) count writer

-- one for which memory ran out
came_short : (way : List Op) (op : Op) (old new : Held) → Applies {T = Unit {0}} op (meaning_in old) (meaning_in new) (Err Memory) → new.done ≡ old.done → new.writer ≡ old.writer → Came way [] old new
came_short way op old new applies count writer = came_same way old new (applies.idle (inr refl)) count writer

-- ---- room is made

pub room_still : (held : Held) (made : Making) (b : Bool) → made ≡ record { extends = []; all = b } → MakesRoom made held held (Ok b)
room_still held made b is = subst (λ m. MakesRoom m held held (Ok b)) (sym is) (refl, came_none [] held)

pub room_short : (held : Held) (made : Making) (e : AllocError) → MakesRoom made held held (Err e)
room_short held made e = (0, omega arith, came_none made.extends held)

pub room_same : (made rest : Making) (old new : Held) (r : Result Bool AllocError) → made ≡ rest → MakesRoom rest old new r → MakesRoom made old new r
room_same made rest old new r is makes = subst (λ m. MakesRoom m old new r) (sym is) makes

module _ (op : Op) (made : Making) (old mid new : Held) where
  -- after an extension
  pub room_after : (rest : Making) (r : Result Bool AllocError) → Extends op old mid (Ok true) → made ≡ record { extends = op ∷ rest.extends; all = rest.all } → MakesRoom rest mid new r → MakesRoom made old new r
  room_after rest (Ok b) extends is makes = room_same made _ old new (Ok b) is (makes.0, came_after op old mid new extends.0 extends.1 extends.2 rest.extends rest.extends makes.1)
  room_after rest (Err e) extends is makes =
      let k = makes.0 in
      let few : k ≤ length rest.extends = makes.1 in
      room_same made _ old new (Err e) is (suc k, omega (arith, few), came_after op old mid new extends.0 extends.1 extends.2 rest.extends (take k rest.extends) makes.2)

  -- where one is refused
  pub room_refused : Extends op old mid (Ok false) → made ≡ record { extends = []; all = false } → MakesRoom made old mid (Ok false)
  room_refused extends is = room_same made _ old mid (Ok false) is (refl, came_refused [] op extends.0 old mid extends.1 extends.2 extends.3)

  -- where memory ran out for one
  pub room_failed : (e : AllocError) → Extends op old mid (Err e) → MakesRoom made old mid (Err e)
  room_failed e extends = (0, omega arith, came_short made.extends op old mid extends.0 extends.1 extends.2)

-- ---- what a call comes to

module _ {X : Type 0} (made : Making) (x : X) (old new : Held) where
  answer_yes : (b : Bool) → true ≡ b → (let r : Result X Refusal = if b then Ok x else Err NoRoom in r) ≡ Ok x
  answer_yes b is = ap (λ c. let r : Result X Refusal = if c then Ok x else Err NoRoom in r) (sym is)

  answer_no : (b : Bool) → false ≡ b → (let r : Result X Refusal = if b then Ok x else Err NoRoom in r) ≡ Err NoRoom
  answer_no b is = ap (λ c. let r : Result X Refusal = if c then Ok x else Err NoRoom in r) (sym is)

  pub put_does : true ≡ made.all → Came made.extends made.extends old new → Does made.extends (room_made made x) (meaning_in old) (meaning_in new) old.done new.done (Ok x)
  put_does is came = record { answer = answer_yes made.all is; state = (came.state, came.count); printed = came.printed; moments = came.moments }

  pub put_refused : false ≡ made.all → Came made.extends made.extends old new → Does made.extends (room_made made x) (meaning_in old) (meaning_in new) old.done new.done (Err (Refused NoRoom))
  put_refused is came = record { answer = answer_no made.all is; state = (came.state, came.count); printed = came.printed; moments = came.moments }

  pub put_short : (k : ℕ) → k ≤ length made.extends → Came made.extends (take k made.extends) old new → Does made.extends (room_made made x) (meaning_in old) (meaning_in new) old.done new.done (Err Memory)
  put_short k few came = record { answer = tt; state = (k, few, (came.state, came.count)); printed = came.printed; moments = came.moments }

-- ---- an operation after others

stops_front : (s : Shelf) (xs ys : List Op) (t : Shelf) → StopsIn s (map Do xs) t [] → StopsIn s (map Do (xs ++ ys)) t []
stops_front s [] ys t (is, none) = subst (λ u. StopsIn s (map Do ys) u []) (sym is) (stops_start s (map Do ys))
stops_front s (x ∷ xs) ys t (inl here) = inl here
stops_front s (x ∷ xs) ys t (inr later) = inr (stops_front (behind s (step s x)) xs ys t later)

stops_back : (s : Shelf) (xs ys : List Op) (t : Shelf) → StopsIn (after_operations s xs) (map Do ys) t [] → StopsIn s (map Do (xs ++ ys)) t []
stops_back s [] ys t stop = stop
stops_back s (x ∷ xs) ys t stop = inr (stops_back (behind s (step s x)) xs ys t stop)

came_then : (xs ys zs : List Op) (old mid new : Held) → Came xs xs old mid → Came ys zs mid new → Came (xs ++ ys) (xs ++ zs) old new
came_then xs ys zs old mid new first second = record {
  state = second.state ∙ ap (λ s. after_operations s zs) first.state ∙ sym (after_append old.now.shelf xs zs);
  count = let a : mid.done ≡ counted old.done (length xs) = first.count in let b : new.done ≡ counted mid.done (length zs) = second.count in omega (arith, a, b, length-append xs zs);
  printed = second.printed ∙ first.printed;
  writer = second.writer ∙ first.writer;
  moments = elapses_then
      (elapses_weaker first.moments (λ t p stop. (stops_front old.now.shelf xs ys t stop.0, stop.1)))
      (elapses_weaker second.moments (λ t p stop. (stops_back old.now.shelf xs ys t (subst (λ s. StopsIn s (map Do ys) t []) first.state stop.0), stop.1 ∙ first.printed)));
}

-- extensions, and an operation after them if there was room
abbrev pub committed : Making → Op → Did (Unit {0}) Refusal
committed made op = if_made {X = Unit {0}} made (op ∷ []) tt

module _ (made : Making) (op : Op) (old mid new : Held) where
  abbrev with_op : Did (Unit {0}) Refusal
  with_op = record { operations = made.extends ++ op ∷ []; answer = Ok tt }

  abbrev Commits : Did (Unit {0}) Refusal → Held → Result (Unit {0}) MachErr → Type 0
  Commits d later r = Does made.extends d (meaning_in old) (meaning_in later) old.done later.done r

  yes : true ≡ made.all → committed made op ≡ with_op
  yes is = ap (λ (b : Bool). let d : Did (Unit {0}) Refusal = if b then with_op else (record { operations = made.extends; answer = Err NoRoom }) in d) (sym is)

  no : false ≡ made.all → committed made op ≡ record { operations = made.extends; answer = Err NoRoom }
  no is = ap (λ (b : Bool). let d : Did (Unit {0}) Refusal = if b then with_op else (record { operations = made.extends; answer = Err NoRoom }) in d) (sym is)

  -- the operation is done after the extensions
  pub commit_does : true ≡ made.all → Came made.extends made.extends old mid → Extends op mid new (Ok true) → Commits (committed made op) new (Ok tt)
  commit_does is came extends =
      let one = came_after op mid new new extends.0 extends.1 extends.2 [] [] (came_none [] new) in
      let all = came_then made.extends (op ∷ []) (op ∷ []) old mid new came one in
      subst (λ d. Commits d new (Ok tt)) (sym (yes is))
      (record { answer = refl; state = (all.state, all.count); printed = all.printed; moments = all.moments })

  -- memory ran out for it
  pub commit_late : true ≡ made.all → Came made.extends made.extends old mid → Applies {T = Unit {0}} op (meaning_in mid) (meaning_in new) (Err Memory) → new.done ≡ mid.done → new.writer ≡ mid.writer → Commits (committed made op) new (Err Memory)
  commit_late is came applies count writer =
      let none = came_short (op ∷ []) op mid new applies count writer in
      let all = came_then made.extends (op ∷ []) [] old mid new came none in
      let n = length made.extends in
      let whole : made.extends ++ [] ≡ take n made.extends = append-nil made.extends ∙ sym (take_all n made.extends (omega arith)) in
      subst (λ d. Commits d new (Err Memory)) (sym (yes is))
      (record {
        answer = tt;
        state = (length made.extends, omega arith, (all.state ∙ ap (after_operations old.now.shelf) whole, all.count ∙ ap (λ (l : List Op). counted old.done (length l)) whole));
        printed = all.printed;
        moments = all.moments;
      })

  -- there was no room
  pub commit_refused : false ≡ made.all → Came made.extends made.extends old new → Commits (committed made op) new (Err (Refused NoRoom))
  commit_refused is came =
      subst (λ d. Commits d new (Err (Refused NoRoom))) (sym (no is))
      (record { answer = refl; state = (came.state, came.count); printed = came.printed; moments = came.moments })

  -- memory ran out before
  pub commit_short : (k : ℕ) → k ≤ length made.extends → Came made.extends (take k made.extends) old new → Commits (committed made op) new (Err Memory)
  commit_short k few came = by_all made.all refl
    where
      by_all : (b : Bool) → b ≡ made.all → Commits (committed made op) new (Err Memory)
      by_all true is =
          subst (λ d. Commits d new (Err Memory)) (sym (yes is))
          (record {
            answer = tt;
            state = (k, few, (came.state, came.count));
            printed = came.printed;
            moments = elapses_weaker came.moments (λ t p stop. (stops_front old.now.shelf made.extends (op ∷ []) t stop.0, stop.1));
          })
      by_all false is =
          subst (λ d. Commits d new (Err Memory)) (sym (no is))
          (record { answer = tt; state = (k, few, (came.state, came.count)); printed = came.printed; moments = came.moments })

-- ---- a put and a commit of an open writer

module _ (old : Held) (w : Writer) (is : old.writer ≡ Some w) where
  abbrev s : Shelf
  s = old.now.shelf

  abbrev t : Target
  t = target_in w.target

  module _ (put : Put) (c : Content) (p : IsPut s w c put) where
    abbrev room : Making
    room = making_room s t put.before put.coming

    abbrev Puts : Held → Result Place MachErr → Type 0
    Puts later r = let did = did_put s (writer_in old.writer) c in Does did.operations did (meaning_in old) (meaning_in later) old.done later.done r

    put_open : did_put s (as_open w) c ≡ room_made room put.place
    unfolding did_put
    put_open = λ i. room_made (making_room s t (sym p.before i) (sym p.coming i)) (sym p.place i)

    put_as : did_put s (writer_in old.writer) c ≡ room_made room put.place
    put_as = ap (λ (o : Option Writer). did_put s (writer_in o) c) is ∙ put_open

    puts_by : (later : Held) (r : Result Place MachErr) → Does room.extends (room_made room put.place) (meaning_in old) (meaning_in later) old.done later.done r → Puts later r
    puts_by later r does = subst (λ (d : Did Place Refusal). Does d.operations d (meaning_in old) (meaning_in later) old.done later.done r) (sym put_as) does

    pub puts_done : (later : Held) → MakesRoom room old later (Ok true) → Puts later (Ok put.place)
    puts_done later makes = puts_by later (Ok put.place) (put_does room put.place old later makes.0 makes.1)

    pub puts_refused : (later : Held) → MakesRoom room old later (Ok false) → Puts later (Err (Refused NoRoom))
    puts_refused later makes = puts_by later (Err (Refused NoRoom)) (put_refused room put.place old later makes.0 makes.1)

    pub puts_short : (later : Held) (e : AllocError) → MakesRoom room old later (Err e) → Puts later (Err Memory)
    puts_short later e makes = puts_by later (Err Memory) (put_short room put.place old later makes.0 makes.1 makes.2)

    -- a block that was put has room, and the writer can commit
    pub put_open_then : (later : Held) → MakesRoom room old later (Ok true) → RecordsPut s (as_open w) c → OpenCanCommit later.now.shelf later.writer → CanCommit later.now.shelf (record { target = t; puts = put.puts })
    put_open_then later makes records can =
        let Ready : Shelf → OpenWriter → Type 0 = IsReady in
        let new = with_puts (as_open w) (c ∷ []) in
        let at : IfOk (room_made room put.place).answer (λ (q : Place). Ready (after_operations s room.extends) new) = subst (λ (d : Did Place Refusal). IfOk d.answer (λ (q : Place). Ready (after_operations s d.operations) new)) put_open records in
        let there : Ready (after_operations s room.extends) new = subst (λ (a : Result Place Refusal). IfOk a (λ (q : Place). Ready (after_operations s room.extends) new)) (answer_yes room put.place old later room.all makes.0) at in
        let here : Ready later.now.shelf new = subst (λ (v : Shelf). Ready v new) (sym makes.1.state) there in
        record {
          ready = subst (λ (l : List Content). Ready later.now.shelf (record { target = t; puts = l })) (sym p.puts) here;
          target = (subst (OpenCanCommit later.now.shelf) (makes.1.writer ∙ is) can).target;
        }

  module _ (commit : Commit) (p : IsCommit s w commit) where
    abbrev last : Making
    last = making_room s t commit.before commit.coming

    abbrev Closes : Held → Result (Unit {0}) MachErr → Type 0
    Closes later r = Does (making_close s (writer_in old.writer)).extends (did_commit s (writer_in old.writer)) (meaning_in old) (meaning_in later) old.done later.done r

    close_as : making_close s (writer_in old.writer) ≡ last
    close_as = ap (λ (o : Option Writer). making_close s (writer_in o)) is ∙ (λ i. making_room s t (sym p.before i) (sym p.coming i))

    commit_open : did_commit s (as_open w) ≡ committed last commit.op
    unfolding did_commit
    commit_open = λ i. if_made {X = Unit {0}} (making_room s t (sym p.before i) (sym p.coming i)) (sym p.op i ∷ []) tt

    commit_as : did_commit s (writer_in old.writer) ≡ committed last commit.op
    commit_as = ap (λ (o : Option Writer). did_commit s (writer_in o)) is ∙ commit_open

    closes_by : (later : Held) (r : Result (Unit {0}) MachErr) → Does last.extends (committed last commit.op) (meaning_in old) (meaning_in later) old.done later.done r → Closes later r
    closes_by later r does =
        subst (λ (d : Did (Unit {0}) Refusal). Does (making_close s (writer_in old.writer)).extends d (meaning_in old) (meaning_in later) old.done later.done r) (sym commit_as)
        (subst (λ (m : Making). Does m.extends (committed last commit.op) (meaning_in old) (meaning_in later) old.done later.done r) (sym close_as) does)

    -- what the last operation comes to, where no writer is open
    pub closes_last : (mid later : Held) (r : Result (Unit {0}) MachErr) → MakesRoom last old mid (Ok true) → Applies commit.op (meaning_in mid) (meaning_in later) r → CountsOne r mid.done later.done → IfErr r (λ e. e ≡ Memory) → Closes later r
    closes_last mid later (Ok x) makes applies count memory = closes_by later (Ok x) (commit_does last commit.op old mid (record later { writer = mid.writer }) makes.0 makes.1 (applies, count, refl))
    closes_last mid later (Err Memory) makes applies count memory = closes_by later (Err Memory) (commit_late last commit.op old mid (record later { writer = mid.writer }) makes.0 makes.1 applies count refl)
    closes_last mid later (Err (Refused r)) makes applies count memory = absurd (cc memory)
    closes_last mid later (Err Device) makes applies count memory = absurd (cc memory)
    closes_last mid later (Err Print) makes applies count memory = absurd (cc memory)

    -- it leaves a lawful shelf
    pub last_lawful : (mid : Held) → MakesRoom last old mid (Ok true) → StaysLawful s (did_commit s (as_open w)).operations → (u : Shelf) → step mid.now.shelf commit.op ≡ Ok u → IsLawful u
    last_lawful mid makes stays u done =
        let ops = last.extends ++ commit.op ∷ [] in
        let n = length ops in
        let ended : (did_commit s (as_open w)).operations ≡ ops = ap (λ (d : Did (Unit {0}) Refusal). d.operations) (commit_open ∙ yes last commit.op old mid mid makes.0) in
        let here : IsLawful (after_operations s (take n ops)) = subst (λ (l : List Op). IsLawful (after_operations s (take n l))) ended (stays n) in
        let all : after_operations s (take n ops) ≡ behind mid.now.shelf (step mid.now.shelf commit.op) = ap (after_operations s) (take_all n ops (omega arith)) ∙ after_append s last.extends (commit.op ∷ []) ∙ ap (λ (v : Shelf). after_operations v (commit.op ∷ [])) (sym makes.1.state) in
        subst IsLawful (all ∙ ap (behind mid.now.shelf) done) here

    -- and isn't refused
    pub last_done : (mid : Held) → MakesRoom last old mid (Ok true) → OpenCanCommit mid.now.shelf mid.writer → (r : Refusal) → step mid.now.shelf commit.op ≡ Err r → ⊥
    last_done mid makes can r refused =
        let at = subst (OpenCanCommit mid.now.shelf) (makes.1.writer ∙ is) can in
        writes_done mid.now.shelf t (blocks_for s t w.puts) r at.target (subst (λ (o : Op). step mid.now.shelf o ≡ Err r) p.op refused)

    pub closes_refused : (mid : Held) → MakesRoom last old mid (Ok false) → Closes mid (Err (Refused NoRoom))
    closes_refused mid makes = closes_by mid (Err (Refused NoRoom)) (commit_refused last commit.op old mid mid makes.0 makes.1)

    pub closes_short : (mid : Held) (e : AllocError) → MakesRoom last old mid (Err e) → Closes mid (Err Memory)
    closes_short mid e makes = closes_by mid (Err Memory) (commit_short last commit.op old mid mid makes.0 makes.1 makes.2)
