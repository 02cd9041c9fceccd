-- The closing of a writer: the end-of-file blocks that are wanted yet are placed, and then all becomes its set's.
use Rattle.std.proofs.Common.{◌≡◌, ℕ, Bool, true, false, cond, List, [], ◌∷◌, ◌++◌, drop, length, Some, refl, sym, ap, ◌∙◌, subst, append_assoc}
use Rattle.std.specs.Prelude.{Result, Ok, Err}
use Rattle.std.proofs.lemmas.List.{append-nil}
use Rattle.ckd_image.specs.declared.device.DiskType.{DiskType}
use Rattle.hall_core.specs.Facts.{Attached}
use Rattle.stop_model.specs.Files.{File}
use Rattle.stop_model.specs.Moments.{Meaning}
use Rattle.stop_model.specs.Steps.{seen}
use Rattle.vol_model.specs.declared.answers.MachErr.{MachErr}
use Rattle.vol_model.specs.declared.answers.MachErr.TheVariants as mach
use Rattle.vol_model.specs.declared.contents.Body.{Body}
use Rattle.vol_model.specs.declared.contents.Shelf.{Shelf}
use Rattle.vol_model.specs.declared.refusals.Refusal.{Refusal}
use Rattle.vol_model.specs.declared.refusals.Refusal.TheVariants.{NoRoom}
use Rattle.vol_model.specs.declared.requests.Op.{Op}
use Rattle.vol_model.specs.Calls.{Does, counted}
use Rattle.vol_model.specs.Did.{Did, behind_them}
use Rattle.vol_model.specs.Places.{Content, placed}
use Rattle.vol_model.specs.Shelf.{put_first, put_last, written}
use Rattle.vol_model.specs.Writing.{Making, OpenWriter, Target, blocks_for, device_on, did_commit, if_made, making_close, making_room, room_made, target_body, writes}
use Rattle.vol_model.proofs.Filling.{made, making_keeps}
use Rattle.vtoc_index.specs.declared.vol.Vol.{Vol}
use Rattle.shelf_machine.specs.Committing.{ClosesOn, CommitsOn}
use Rattle.shelf_machine.specs.Fronts.{behind_first, due}
use Rattle.shelf_machine.specs.Machine.{placed_in, shelf_under, units_of, writer_in}
use Rattle.shelf_machine.specs.Opening.{names_of}
use Rattle.shelf_machine.specs.PutBlocks.{PlacesAll, ends_on, shelf_on}
use Rattle.pack_machine.specs.declared.pack_cache.PackCache.{PackCache}
use Rattle.shelf_machine.specs.declared.writer.Writer.{Writer}
use Rattle.shelf_machine.proofs.DoneParts.{does_one, does_one_failed, does_stop, does_then}
use Rattle.shelf_machine.proofs.FilledSets.{PlacesWell}
use Rattle.shelf_machine.proofs.FrontLemmas.{due_placed}
use Rattle.shelf_machine.proofs.Pendings.{pending_closed}
use Rattle.shelf_machine.proofs.PutBehind.{making_end}
use Rattle.shelf_machine.proofs.Settling.{keeps_then}

-- ---- the room that was made, and the operation after it

made_all : {X : Type 0} (q : Making) (x z : X) (ops : List Op) → ◌≡◌ {A = Result X Refusal} (room_made q x).answer (Ok z) → if_made q ops (tt {0}) ≡ behind_them q.extends (record { operations = ops; answer = Ok (tt {0}) })
made_all {X} q x z ops is = by q.all refl is
  where
    by : (b : Bool) → q.all ≡ b → ◌≡◌ {A = Result X Refusal} (cond b (Ok x) (Err NoRoom)) (Ok z) → if_made q ops (tt {0}) ≡ behind_them q.extends (record { operations = ops; answer = Ok (tt {0}) })
    by true at e = ap (λ (b : Bool). cond b (record { operations = q.extends ++ ops; answer = Ok (tt {0}) }) (record { operations = q.extends; answer = Err NoRoom })) at
    by false at e = cc

made_stopped : {X : Type 0} (q : Making) (x : X) (ops : List Op) (r : Refusal) → ◌≡◌ {A = Result X Refusal} (room_made q x).answer (Err r) → if_made q ops (tt {0}) ≡ record { operations = q.extends; answer = Err r }
made_stopped {X} q x ops r is = by q.all refl is
  where
    by : (b : Bool) → q.all ≡ b → ◌≡◌ {A = Result X Refusal} (cond b (Ok x) (Err NoRoom)) (Err r) → if_made q ops (tt {0}) ≡ record { operations = q.extends; answer = Err r }
    by true at e = cc
    by false at e =
        let why : NoRoom ≡ r = cc in
        ap (λ (b : Bool). cond b (record { operations = q.extends ++ ops; answer = Ok (tt {0}) }) (record { operations = q.extends; answer = Err NoRoom })) at
        ∙ ap (λ (y : Refusal). record { operations = q.extends; answer = Err y }) why

made_goes : (q : Making) (ops : List Op) → (more : List Op) × ((if_made q ops (tt {0})).operations ≡ q.extends ++ more)
made_goes q ops = by q.all refl
  where
    by : (b : Bool) → q.all ≡ b → (more : List Op) × ((if_made q ops (tt {0})).operations ≡ q.extends ++ more)
    by true at = (ops, ap (λ (b : Bool). (cond {A = Did (Unit {0}) Refusal} b (record { operations = q.extends ++ ops; answer = Ok (tt {0}) }) (record { operations = q.extends; answer = Err NoRoom })).operations) at)
    by false at = ([], ap (λ (b : Bool). (cond {A = Did (Unit {0}) Refusal} b (record { operations = q.extends ++ ops; answer = Ok (tt {0}) }) (record { operations = q.extends; answer = Err NoRoom })).operations) at ∙ sym (append-nil q.extends))

does_way : {X : Type 0} {did : Did X Refusal} {old new : Meaning Shelf} {n k : ℕ} (r : Result X MachErr) (way more : List Op) → (r ≡ Err mach.Memory → ⊥) → Does way did old new n k r → Does more did old new n k r
does_way (Ok x) way more none run = record { answer = run.answer; state = run.state; printed = run.printed; moments = run.moments }
does_way (Err (mach.Refused why)) way more none run = record { answer = run.answer; state = run.state; printed = run.printed; moments = run.moments }
does_way (Err mach.Memory) way more none run = absurd (none refl)
does_way (Err mach.Device) way more none run = record { answer = tt; state = tt; printed = run.printed; moments = run.moments }
does_way (Err mach.Print) way more none run = absurd run.answer

module _ (us mid us' : List Attached) (vols vols1 vols' : List Vol) (w w1 w' : Writer) (m m1 m' : Meaning (List File)) (n k : ℕ) where
  abbrev shelf : Shelf
  shelf = shelf_on m.state us vols

  abbrev before : OpenWriter
  before = placed_in m.state us vols w

  abbrev writer : OpenWriter
  writer = writer_in m.state us vols (Some w)

  abbrev t : Target
  t = before.target

  -- the contents that become the set's
  abbrev pub puts : List Content
  puts = behind_first w.owes_end_of_file before.puts

  abbrev ends : List Content
  ends = ends_on m.state us vols w

  abbrev making : Making
  making = making_room shelf t before.puts ends

  abbrev op : Op
  op = writes t (blocks_for shelf t puts)

  abbrev old : Meaning Shelf
  old = seen (shelf_under (names_of us (units_of vols))) m

  abbrev between : Meaning Shelf
  between = seen (shelf_under (names_of mid (units_of vols1))) m1

  abbrev new : Meaning Shelf
  new = seen (shelf_under (names_of us' (units_of vols'))) m'

  module _ (well : PlacesWell shelf w before) where
    close_is : making_close shelf writer ≡ making
    close_is = making_end shelf t w.owes_end_of_file before.puts well.first well.begins well.owned

    did_is : did_commit shelf writer ≡ if_made making (op ∷ []) (tt {0})
    unfolding did_commit
    did_is = ap (λ (q : Making). if_made q (op ∷ []) tt) close_is

    -- the ends aren't placed, and the writer is closed all the same
    pub closes_stopped : (e : MachErr) → (e ≡ mach.Memory → ⊥) → PlacesAll ends (tt {0}) us mid vols vols1 w w1 m m1 n k (Err e) → ClosesOn us mid vols vols1 w w1 m m1 n k (Err e)
    closes_stopped e none run =
        let goes = made_goes making (op ∷ []) in
        let stopped : Does (if_made making (op ∷ []) (tt {0})).operations (if_made making (op ∷ []) (tt {0})) old between n k (Err e) =
        does_stop (room_made making (tt {0})) (if_made making (op ∷ []) (tt {0})) e none (λ r is. made_stopped making (tt {0}) (op ∷ []) r is) goes.0 goes.1 run.does in
        record {
          does = subst (λ (d : Did (Unit {0}) Refusal). Does (making_close shelf writer).extends d old between n k (Err e)) (sym did_is) (does_way (Err e) (if_made making (op ∷ []) (tt {0})).operations (making_close shelf writer).extends (λ memory. none (let same : e ≡ mach.Memory = cc in same)) stopped);
          safe = run.safe;
          pending = λ sound. pending_closed m1 mid vols1 (Some w1) (run.pending sound);
        }

    -- they are, and what follows is one operation
    module _ (run : PlacesAll ends (tt {0}) us mid vols vols1 w w1 m m1 n k (Ok (tt {0}))) where
      abbrev t1 : Target
      t1 = (placed_in m1.state mid vols1 w1).target

      same_target : t1 ≡ t
      same_target = ap (λ (o : OpenWriter). o.target) run.done

      there : between.state ≡ made shelf making
      there = run.does.state.0

      body_there : target_body between.state t ≡ target_body shelf t
      body_there = ap (λ (s : Shelf). target_body s t) there ∙ (making_keeps t ends before.puts shelf).bodies t.v t.dsn.bytes

      device_there : device_on between.state t.v ≡ device_on shelf t.v
      device_there = ap (λ (s : Shelf). device_on s t.v) there ∙ (making_keeps t ends before.puts shelf).devices t.v

      -- all that is placed then is what is to be written
      pub all_placed : (placed_in m1.state mid vols1 w1).puts ≡ written t1.mode (target_body between.state t1) puts
      all_placed =
          let parts : (placed_in m1.state mid vols1 w1).puts ≡ written t.mode (target_body shelf t) puts =
          ap (λ (o : OpenWriter). o.puts) run.done
          ∙ sym (append_assoc before.puts (due w.owes_end_of_file before.puts) (put_last t.mode))
          ∙ ap (λ (cs : List Content). cs ++ put_last t.mode) (due_placed w.owes_end_of_file before.puts well.begins ∙ ap (λ (cs : List Content). cs ++ puts) (sym well.first)) in
          let there_is : written t.mode (target_body shelf t) puts ≡ written t.mode (target_body between.state t) puts = ap (λ (b : Body). written t.mode b puts) (sym body_there) in
          let at_target : written t.mode (target_body between.state t) puts ≡ written t1.mode (target_body between.state t1) puts = ap (λ (x : Target). written x.mode (target_body between.state x) puts) (sym same_target) in
          parts ∙ there_is ∙ at_target

      -- by the same operation
      op_there : writes t1 (blocks_for between.state t1 puts) ≡ op
      op_there =
          ap (λ (x : Target). writes x (blocks_for between.state x puts)) same_target
          ∙ ap (writes t)
          (ap (λ (b : Body). drop (length (put_first t.mode b)) (placed (device_on between.state t.v) b (put_first t.mode b ++ puts))) body_there
          ∙ ap (λ (d : DiskType). drop (length (put_first t.mode (target_body shelf t))) (placed d (target_body shelf t) (put_first t.mode (target_body shelf t) ++ puts))) device_there)

      module _ {E : Type 0} (known' : List PackCache) (result : Result (Unit {0}) E) (commits : CommitsOn (writes t1 (blocks_for between.state t1 puts)) (names_of mid (units_of vols1)) (names_of us' (units_of vols')) us' vols1 vols' known' m1 m' result) where
        here : CommitsOn op (names_of mid (units_of vols1)) (names_of us' (units_of vols')) us' vols1 vols' known' m1 m' result
        here = subst (λ (o : Op). CommitsOn o (names_of mid (units_of vols1)) (names_of us' (units_of vols')) us' vols1 vols' known' m1 m' result) op_there commits

        two : (l : ℕ) (r : Result (Unit {0}) MachErr) → (r ≡ Err mach.Memory → ⊥) → Does [] (record { operations = op ∷ []; answer = Ok (tt {0}) }) between new k l r → Does (making_close shelf writer).extends (did_commit shelf writer) old new n l r
        two l r none next =
            let both = does_then (room_made making (tt {0})) (tt {0}) run.does (record { operations = op ∷ []; answer = Ok (tt {0}) }) r none next in
            subst (λ (d : Did (Unit {0}) Refusal). Does (making_close shelf writer).extends d old new n l r) (sym (did_is ∙ made_all making (tt {0}) (tt {0}) (op ∷ []) run.does.answer))
            (does_way r (making.extends ++ op ∷ []) (making_close shelf writer).extends none both)

        -- it is done
        pub closes_done : result ≡ Ok (tt {0}) → ClosesOn us us' vols vols' w w' m m' n (counted k 1) (Ok (tt {0}))
        closes_done is =
            let done = subst (λ (q : Result (Unit {0}) E). CommitsOn op (names_of mid (units_of vols1)) (names_of us' (units_of vols')) us' vols1 vols' known' m1 m' q) is here in
            record {
              does = two (counted k 1) (Ok (tt {0})) (λ wrong. cc) (does_one between new op done.printed done.moments k done.stepped);
              safe = keeps_then run.does.moments.later run.safe done.safe;
              pending = λ sound. done.durable;
            }

        -- or the device failed
        pub closes_failed : (l : ℕ) → ClosesOn us us' vols vols' w w' m m' n l (Err mach.Device)
        closes_failed l = record {
          does = two l (Err mach.Device) (λ wrong. cc) (does_one_failed between new op here.printed here.moments k l);
          safe = keeps_then run.does.moments.later run.safe here.safe;
          pending = λ sound. absurd cc;
        }
