-- Parts of the putting of blocks, one after another.
use Rattle.std.proofs.Common.{◌≡◌, ℕ, Bool, true, false, List, [], ◌∷◌, ◌++◌, map, refl, sym, ◌∙◌, ap, subst, append_assoc}
use Rattle.std.proofs.lemmas.List.{append-nil}
use Rattle.std.specs.Prelude.{Option, Some, None, Result, Ok, Err, IsErr, if◌then◌else◌, unwrap_or}
use Rattle.stop_model.specs.Moments.{Meaning}
use Rattle.vol_model.specs.declared.answers.Stop.{Stop}
use Rattle.ckd_image.specs.declared.device.DiskType.{DiskType}
use Rattle.vol_model.specs.declared.contents.Block.{Block}
use Rattle.vol_model.specs.declared.contents.Body.{Body}
use Rattle.vol_model.specs.declared.contents.Place.{Place}
use Rattle.vol_model.specs.declared.contents.Shelf.{Shelf}
use Rattle.vol_model.specs.declared.refusals.Refusal.TheVariants.{NoRoom}
use Rattle.vol_model.specs.declared.requests.Op.{Op}
use Rattle.vol_model.specs.Did.{Did, and_then, answered, because, behind_them, with_reason}
use Rattle.vol_model.specs.Events.{after_operations}
use Rattle.vol_model.specs.Places.{Content, content, next_place, placed, with_blocks}
use Rattle.vol_model.specs.Reading.{readable}
use Rattle.vol_model.specs.Runs.{Works}
use Rattle.vol_model.specs.Shelf.{put_first}
use Rattle.vol_model.specs.Writing.{OpenWriter, Target, begun, body_on, device_on, did_put, did_puts, making_puts, next_up, place_on, so_far, target_body, with_puts}
use Rattle.vol_model.proofs.Filling.{making_keeps}
use Rattle.vol_model.proofs.Keeping.{KeepsBodies, bodies_kept_none}
use Rattle.vol_model.proofs.Working.{done_state, done_then, goes_on, has_done, then_then, works_behind, works_done, works_ends, works_none, works_stops}
use Rattle.util_steps.specs.declared.calls.Fault.{Fault}
use Rattle.util_steps.specs.declared.calls.Fault.TheVariants.{BadRecord, Refused}
use Rattle.util_steps.specs.declared.calls.SetRef.{SetRef}
use Rattle.util_steps.specs.Copying.{did_block, did_blocks, has_data, refusing, source}
use Rattle.util_steps.proofs.Blocks.{blocks_cons, blocks_none}
use Rattle.record_files.specs.Advancing.{Advanced, Advances, HasLast, done, first_at, first_place_put, start_by, put_place}
use Rattle.record_files.specs.Writing.{Coming, all_but_last, coming_of, data_block, did_output}

-- nothing is put
pub advanced_none : {p : Option Place} (tells : Bool) (c : Coming) (w : OpenWriter) (m : Meaning Shelf) (n : ℕ) → Advanced tells c c w w p p m m n n
advanced_none tells c w m n = record { ops = []; put = works_none tells m n (Ok tt); did = refl; bodies = λ v name. refl; devices = λ v. refl; puts = refl; start = λ is. is }

module _ {tells : Bool} {a b : Coming} {u v : OpenWriter} {p q : Option Place} {old mid : Meaning Shelf} {n k : ℕ} (first : Advanced tells a b u v p q old mid n k) where
  -- what can be read stays
  pub advanced_reads : (from : SetRef) → source mid.state from ≡ source old.state from
  advanced_reads from = ap readable (first.bodies from.v from.dsn.bytes)

  -- more is put
  pub advanced_then : {c : Coming} {w : OpenWriter} {r : Option Place} {new : Meaning Shelf} {m : ℕ} → Advanced tells b c v w q r mid new k m → Advanced tells a c u w p r old new n m
  advanced_then {c = c} {w = w} {new = new} second =
      let rest = did_output new.state w c in
      record {
        ops = first.ops ++ second.ops;
        put = works_done (done (first.ops ++ second.ops)) (Ok tt) (done_then (has_done first.put) (has_done second.put)) refl;
        did = first.did ∙ ap (behind_them first.ops) second.did ∙ ap (λ (l : List Op). record { operations = l; answer = rest.answer }) (sym (append_assoc first.ops second.ops rest.operations));
        bodies = λ x name. second.bodies x name ∙ first.bodies x name;
        devices = λ x. second.devices x ∙ first.devices x;
        puts = second.puts ∙ first.puts;
        start = λ is. second.start (first.start is);
      }

  -- the rest comes to an end, whatever that is
  pub advanced_works : {new : Meaning Shelf} {m : ℕ} (r : Result (Result (Unit {0}) Fault) Stop) → Works tells (did_output mid.state v b) mid new k m r → Works tells (did_output old.state u a) old new n m r
  advanced_works {new = new} {m = m} r works = subst (λ (d : Did (Unit {0}) Fault). Works tells d old new n m r) (sym first.did) (works_behind r (has_done first.put) works)

  pub advances_then : {c : Coming} {w : OpenWriter} {x : Option Place} {new : Meaning Shelf} {m : ℕ} (r : Result (Result (Unit {0}) Fault) Stop) → Advances tells b c v w q x mid new k m r → Advances tells a c u w p x old new n m r
  advances_then (Ok (Ok x)) second = record { step = advanced_then second.step }
  advances_then (Ok (Err e)) second = record { step = advanced_works (Ok (Err e)) second.step }
  advances_then (Err e) second = record { step = advanced_works (Err e) second.step }

-- ---- one block

-- putting a block keeps all bodies
pub block_kept : (s : Shelf) (w : OpenWriter) (b : Block) → KeepsBodies s (after_operations s (did_block s w b).operations)
unfolding did_block did_put with_reason
block_kept s w b = by_data (has_data b)
  where
    by_data : (t : Bool) → KeepsBodies s (after_operations s (if t then refusing (did_put s w (content b)) else answered (Err BadRecord)).operations)
    by_data true = let body = target_body s w.target in making_keeps w.target (next_up w.target.mode body w.puts (content b ∷ [])) (so_far w.target.mode body w.puts) s
    by_data false = bodies_kept_none s

-- the place of a block that is put
pub block_place : (s : Shelf) (w : OpenWriter) (b : Block) (p : Place) → Ok p ≡ (did_block s w b).answer → p ≡ put_place s w (content b)
unfolding did_block did_put with_reason
block_place s w b p is = by_data (has_data b) is
  where
    by_room : (t : Bool) → Ok p ≡ because Refused (if t then Ok (put_place s w (content b)) else Err NoRoom) → p ≡ put_place s w (content b)
    by_room true at = cc
    by_room false at = cc

    by_data : (t : Bool) → Ok p ≡ (if t then refusing (did_put s w (content b)) else answered (Err BadRecord)).answer → p ≡ put_place s w (content b)
    by_data true at = by_room (making_puts s w (content b ∷ [])).all at
    by_data false at = cc

-- where a content is put first, by the device and the body
place_in : DiskType → Body → Target → Content → Place
place_in device body t c = next_place device (with_blocks body (placed device body (put_first t.mode body))) c

first_kept : (s u : Shelf) (t : Target) (cs : List Content) → KeepsBodies s u → first_at u t cs ≡ first_at s t cs
unfolding place_in
first_kept s u t [] kept = refl
first_kept s u t (c ∷ cs) kept =
    ap (λ (d : DiskType). Some (place_in d (body_on u t.v t.dsn.bytes) t c)) (kept.devices t.v)
    ∙ ap (λ (b : Body). Some (place_in (device_on s t.v) b t c)) (kept.bodies t.v t.dsn.bytes)

-- where the first content was put, once one more is
first_start : (s u : Shelf) (w v : OpenWriter) (c : Content) (p : Place) (start : Option Place) → KeepsBodies s u → p ≡ put_place s w c → v ≡ with_puts w (c ∷ []) → start ≡ start_by s w → Some (unwrap_or start p) ≡ start_by u v
first_start s u w v c p start kept at writes is =
    ap (λ (o : Option Place). Some (unwrap_or o p)) is ∙ ap (λ (q : Place). Some (unwrap_or (start_by s w) q)) at ∙ by_puts w.puts
    ∙ sym (first_kept s u w.target (w.puts ++ c ∷ []) kept) ∙ sym (ap (start_by u) writes)
  where
    by_puts : (cs : List Content) → Some (unwrap_or (first_at s w.target cs) (place_on s w.target (put_first w.target.mode (target_body s w.target) ++ cs) c)) ≡ first_at s w.target (cs ++ c ∷ [])
    by_puts [] = ap (λ (l : List Content). Some (place_on s w.target l c)) (append-nil (put_first w.target.mode (target_body s w.target)))
    by_puts (d ∷ cs) = refl

-- the first block is put, and then the others
puts_cons : (s : Shelf) (w : OpenWriter) (b : List ℕ) (more : List (List ℕ)) (broken : Bool) → HasLast broken more
    → did_output s w (coming_of (b ∷ more) broken) ≡ and_then s (did_block s w (data_block b)) (λ p u. did_output u (with_puts w (content (data_block b) ∷ [])) (coming_of more broken))
unfolding did_output
puts_cons s w b more false last = blocks_cons s w (data_block b) (map data_block more)
puts_cons s w b [] true last = absurd last
puts_cons s w b (c ∷ cs) true last =
    ap (λ (d : Did (Unit {0}) Fault). and_then s d (λ x u. answered (Err BadRecord))) (blocks_cons s w (data_block b) (all_but_last (map data_block (c ∷ cs))))
    ∙ then_then s (did_block s w (data_block b)) (λ p u. did_blocks u (with_puts w (content (data_block b) ∷ [])) (all_but_last (map data_block (c ∷ cs)))) (λ x u. answered (Err BadRecord))

-- what comes after the first block
abbrev others : OpenWriter → List ℕ → List (List ℕ) → Bool → Place → Shelf → Did (Unit {0}) Fault
others w b more broken p u = did_output u (with_puts w (content (data_block b) ∷ [])) (coming_of more broken)

module _ {tells : Bool} (w : OpenWriter) (b : List ℕ) (more : List (List ℕ)) (broken : Bool) (last : HasLast broken more) {now new : Meaning Shelf} {m k : ℕ} where
  by_first : (r : Result (Result (Unit {0}) Fault) Stop) → Works tells (and_then now.state (did_block now.state w (data_block b)) (others w b more broken)) now new m k r → Works tells (did_output now.state w (coming_of (b ∷ more) broken)) now new m k r
  by_first r works = subst (λ (d : Did (Unit {0}) Fault). Works tells d now new m k r) (sym (puts_cons now.state w b more broken last)) works

  pub one_stops : (q : Result (Result Place Fault) Stop) (r : Result (Result (Unit {0}) Fault) Stop) → IsErr r → Works tells (did_block now.state w (data_block b)) now new m k q → Works tells (did_output now.state w (coming_of (b ∷ more) broken)) now new m k r
  one_stops q r failed works = by_first r (works_stops (did_block now.state w (data_block b)) (others w b more broken) q r failed works)

  pub one_fault : (e : Fault) → Works tells (did_block now.state w (data_block b)) now new m k (Ok (Err e)) → Works tells (did_output now.state w (coming_of (b ∷ more) broken)) now new m k (Ok (Err e))
  one_fault e works = by_first (Ok (Err e)) (works_ends (did_block now.state w (data_block b)) (others w b more broken) e works)

  pub one_put : (v : OpenWriter) (p : Place) (start : Option Place) → Works tells (did_block now.state w (data_block b)) now new m k (Ok (Ok p)) → v ≡ with_puts w (content (data_block b) ∷ []) → Advanced tells (coming_of (b ∷ more) broken) (coming_of more broken) w v start (Some (unwrap_or start p)) now new m k
  one_put v p start works writes =
      let first = did_block now.state w (data_block b) in
      let at : new.state ≡ after_operations now.state first.operations = done_state (has_done works) in
      let kept : KeepsBodies now.state new.state = subst (λ (s : Shelf). KeepsBodies now.state s) (sym at) (block_kept now.state w (data_block b)) in
      record {
        ops = first.operations;
        put = works_done (done first.operations) (Ok tt) (has_done works) refl;
        did = puts_cons now.state w b more broken last ∙ goes_on first (others w b more broken) now.state p works.answer
            ∙ ap (behind_them first.operations) (ap (λ (s : Shelf). did_output s (with_puts w (content (data_block b) ∷ [])) (coming_of more broken)) (sym at) ∙ ap (λ (x : OpenWriter). did_output new.state x (coming_of more broken)) (sym writes));
        bodies = λ x name. kept.bodies x name;
        devices = λ x. kept.devices x;
        puts = ap (λ (x : OpenWriter). with_puts x (map content (map data_block more))) writes ∙ ap (λ (l : List Content). record w { puts = l }) (append_assoc w.puts (content (data_block b) ∷ []) (map content (map data_block more)));
        start = λ is. first_start now.state new.state w v (content (data_block b)) p start kept (block_place now.state w (data_block b) p works.answer) writes is;
      }

-- ---- the end

module _ {tells : Bool} {a : Coming} {u v : OpenWriter} {p q : Option Place} {old new : Meaning Shelf} {n m : ℕ} (all : Advanced tells a (coming_of [] false) u v p q old new n m) where
  none_left : did_output new.state v (coming_of [] false) ≡ answered (Ok tt)
  unfolding did_output
  none_left = blocks_none new.state v

  -- all blocks are put
  pub all_put : Works tells (did_output old.state u a) old new n m (Ok (Ok tt))
  all_put = advanced_works all (Ok (Ok tt)) (subst (λ (d : Did (Unit {0}) Fault). Works tells d new new m m (Ok (Ok tt))) (sym none_left) (works_none tells new m (Ok tt)))

  pub all_puts : v ≡ with_puts u (map content a.blocks)
  all_puts = ap (λ (l : List Content). record v { puts = l }) (sym (append-nil v.puts)) ∙ all.puts

  -- where the first of them stands, if none was put before
  pub all_start : (t : Target) → u ≡ begun t → p ≡ None → q ≡ first_place_put old.state t a.blocks
  all_start t begins none =
      all.start (none ∙ sym (ap (start_by old.state) begins)) ∙ ap (start_by new.state) (all_puts ∙ ap (λ (w : OpenWriter). with_puts w (map content a.blocks)) begins)
      ∙ first_kept old.state new.state t (map content a.blocks) (record { bodies = all.bodies; devices = all.devices })

abbrev pub AtMostOne : List (List ℕ) → Type 0
AtMostOne [] = Unit {0}
AtMostOne (b ∷ []) = Unit {0}
AtMostOne (b ∷ c ∷ cs) = ⊥

-- a fault after at most one block, which isn't finished
pub fault_last : (s : Shelf) (w : OpenWriter) (held : List (List ℕ)) → AtMostOne held → did_output s w (coming_of held true) ≡ answered (Err BadRecord)
unfolding did_output did_blocks did_puts and_then with_reason
fault_last s w [] few = refl
fault_last s w (b ∷ []) few = refl
fault_last s w (b ∷ c ∷ cs) few = absurd few
