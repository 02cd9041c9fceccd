-- What a writer does keeps a shelf lawful, and the writer ready.
use Rattle.std.proofs.Common.{◌≡◌, ℕ, zero, suc, Bool, true, false, List, [], ◌∷◌, ◌++◌, refl, sym, ap, subst, append_assoc}
use Rattle.std.proofs.lemmas.List.{append-nil}
use Rattle.std.specs.Prelude.{IfOk, Result, Ok, Err, take, if◌then◌else◌}
use Rattle.std.specs.List.{AllByRecursion}
use Rattle.vol_model.specs.declared.answers.Mode.{Mode}
use Rattle.vol_model.specs.declared.contents.Body.{Body}
use Rattle.vol_model.specs.declared.contents.Place.{Place}
use Rattle.vol_model.specs.declared.contents.Shelf.{Shelf}
use Rattle.vol_model.specs.declared.refusals.Refusal.{Refusal}
use Rattle.vol_model.specs.declared.refusals.Refusal.TheVariants.{NoRoom}
use Rattle.vol_model.specs.declared.requests.Op.{Op}
use Rattle.vol_model.specs.Events.{after_operations, behind}
use Rattle.vol_model.specs.Lawful.{IsLawful}
use Rattle.vol_model.specs.Places.{Content, placed}
use Rattle.vol_model.specs.Shelf.{put_first, put_last, step, written}
use Rattle.vol_model.specs.Writing.{Making, OpenWriter, Target, at_close, begun, blocks_for, did_commit, did_put, did_write, if_made, making_close, making_puts, making_room, next_up, so_far, target_body, with_puts, writes}
use Rattle.vol_model.proofs.Filling.{made}
use Rattle.shelf_laws.specs.Ready.{AreOnTracks, IsContent, IsReady}
use Rattle.shelf_laws.proofs.Committing.{first_contents, last_contents, written_contents, written_lawful}
use Rattle.shelf_laws.proofs.Lists.{all_joined}
use Rattle.shelf_laws.proofs.MakingRoom.{AllExtend, IsExtended, all_extend, extended_all, on_more, room_made_on, take_extend}

-- ---- contents

so_far_contents : (mode : Mode) (body : Body) (cs : List Content) → AllByRecursion IsContent cs → AllByRecursion IsContent (so_far mode body cs)
so_far_contents mode body [] is = tt
so_far_contents mode body (c ∷ cs) is = all_joined IsContent (put_first mode body) (c ∷ cs) (first_contents mode body) is

next_contents : (mode : Mode) (body : Body) (earlier : List Content) (c : Content) → IsContent c → AllByRecursion IsContent (next_up mode body earlier (c ∷ []))
next_contents mode body [] c is = all_joined IsContent (put_first mode body) (c ∷ []) (first_contents mode body) (is, tt)
next_contents mode body (b ∷ earlier) c is = (is, tt)

close_contents : (mode : Mode) (body : Body) (cs : List Content) → AllByRecursion IsContent (at_close mode body cs)
close_contents mode body [] = all_joined IsContent (put_first mode body) (put_last mode) (first_contents mode body) (last_contents mode)
close_contents mode body (c ∷ cs) = last_contents mode

-- what was put and the next, or what comes at the end
so_far_next : (mode : Mode) (body : Body) (puts : List Content) (c : Content) → so_far mode body puts ++ next_up mode body puts (c ∷ []) ≡ so_far mode body (puts ++ c ∷ [])
so_far_next mode body [] c = refl
so_far_next mode body (b ∷ puts) c = append_assoc (put_first mode body) (b ∷ puts) (c ∷ [])

so_far_closed : (mode : Mode) (body : Body) (puts : List Content) → so_far mode body puts ++ at_close mode body puts ≡ written mode body puts
so_far_closed mode body [] = ap (λ (l : List Content). l ++ put_last mode) (sym (append-nil (put_first mode body)))
so_far_closed mode body (c ∷ puts) = refl

-- ---- a writer after extensions

-- a writer is ready after extensions of its target
ready_extended : (s u : Shelf) (w : OpenWriter) → IsExtended s u w.target → IsReady s w → IsReady u w
ready_extended s u w e h =
    let t = w.target in
    record {
      contents = h.contents;
      room = subst (λ (b : Body). AreOnTracks u t (so_far t.mode b w.puts)) (sym (e.bodies.bodies t.v t.dsn.bytes)) (on_more s u t (so_far t.mode (target_body s t) w.puts) e h.room);
    }

module _ (s : Shelf) (w : OpenWriter) (h : IsLawful s) (ready : IsReady s w) where
  abbrev t : Target
  t = w.target

  abbrev body : Body
  body = target_body s t

  abbrev puts_on : List Content
  puts_on = so_far t.mode body w.puts

  behind_some : (ops : List Op) (k : ℕ) → AllExtend t ops → IsLawful (after_operations s (take k ops)) × IsReady (after_operations s (take k ops)) w
  behind_some ops k all = let e = extended_all t (take k ops) s (take_extend t k ops all) h in (e.lawful, ready_extended s (after_operations s (take k ops)) w e ready)

  -- a put keeps the shelf lawful and the writer ready, and the content is among what was put, if it found room
  pub put_keeps : (c : Content) (k : ℕ) → IsContent c → IsLawful (after_operations s (take k (did_put s w c).operations)) × IsReady (after_operations s (take k (did_put s w c).operations)) w
  unfolding did_put
  put_keeps c k is = behind_some (making_puts s w (c ∷ [])).extends k (all_extend t (next_up t.mode body w.puts (c ∷ [])) puts_on s)

  put_records : (c : Content) → IsContent c → (m : Making) → making_puts s w (c ∷ []) ≡ m → m.all ≡ true → IsReady (after_operations s m.extends) (with_puts w (c ∷ []))
  put_records c is m is_made all =
      let up = next_up t.mode body w.puts (c ∷ []) in
      let e : IsExtended s (made s m) t = subst (λ (n : Making). IsExtended s (made s n) t) is_made (extended_all t (making_puts s w (c ∷ [])).extends s (all_extend t up puts_on s) h) in
      let on : AreOnTracks (made s m) t (puts_on ++ up) = subst (λ (n : Making). n.all ≡ true → AreOnTracks (made s n) t (puts_on ++ up)) is_made (room_made_on t up puts_on s (so_far_contents t.mode body w.puts ready.contents) (next_contents t.mode body w.puts c is) h ready.room) all in
      record {
        contents = all_joined IsContent w.puts (c ∷ []) ready.contents (is, tt);
        room = subst (λ (b : Body). AreOnTracks (made s m) t (so_far t.mode b (w.puts ++ c ∷ []))) (sym (e.bodies.bodies t.v t.dsn.bytes)) (subst (AreOnTracks (made s m) t) (so_far_next t.mode body w.puts c) on);
      }

  pub put_ready : (c : Content) → IsContent c → IfOk (did_put s w c).answer (λ p. IsReady (after_operations s (did_put s w c).operations) (with_puts w (c ∷ [])))
  unfolding did_put
  put_ready c is = by_all _ (making_puts s w (c ∷ [])).all refl
    where
      by_all : (p : Place) (b : Bool) → (making_puts s w (c ∷ [])).all ≡ b → IfOk (if b then Ok p else Err NoRoom) (λ (p : Place). IsReady (after_operations s (making_puts s w (c ∷ [])).extends) (with_puts w (c ∷ [])))
      by_all p true all = put_records c is (making_puts s w (c ∷ [])) refl all
      by_all p false all = tt

-- a writer that has just begun is ready
pub begin_ready : (s : Shelf) (t : Target) → IsReady s (begun t)
unfolding placed
begin_ready s t = record { contents = tt; room = tt }

-- ---- the last operation

after_joined : (xs ys : List Op) (s : Shelf) → after_operations s (xs ++ ys) ≡ after_operations (after_operations s xs) ys
after_joined [] ys s = refl
after_joined (x ∷ xs) ys s = after_joined xs ys (behind s (step s x))

-- a shelf is lawful after each of some operations and one more
each_lawful : (xs : List Op) (op : Op) (s : Shelf) → ((k : ℕ) → IsLawful (after_operations s (take k xs))) → ((u : Shelf) → step (after_operations s xs) op ≡ Ok u → IsLawful u) → (k : ℕ) → IsLawful (after_operations s (take k (xs ++ op ∷ [])))
each_lawful xs op s each last zero = each 0
each_lawful [] op s each last (suc k) = by_step (step s op) refl k
  where
    by_step : (r : Result Shelf Refusal) → step s op ≡ r → (k : ℕ) → IsLawful (after_operations (behind s r) (take k []))
    by_step (Ok u) is zero = last u is
    by_step (Ok u) is (suc k) = last u is
    by_step (Err r) is zero = each 0
    by_step (Err r) is (suc k) = each 0
each_lawful (x ∷ xs) op s each last (suc k) = each_lawful xs op (behind s (step s x)) (λ j. each (suc j)) last k

module _ (s o : Shelf) (t : Target) (cs : List Content) (is : AllByRecursion IsContent cs) (h : IsLawful s) where
  -- room is made, and where there was room what was put becomes the set's
  if_made_lawful : (m : Making) → AllExtend t m.extends → (m.all ≡ true → AreOnTracks (made s m) t (written t.mode (target_body s t) cs)) → (k : ℕ) → IsLawful (after_operations s (take k (if_made m (writes t (blocks_for o t cs) ∷ []) (let u : Unit {0} = tt in u)).operations))
  if_made_lawful m all on k = by_all m.extends m.all all on k
    where
      by_all : (es : List Op) (b : Bool) → AllExtend t es → (b ≡ true → AreOnTracks (after_operations s es) t (written t.mode (target_body s t) cs)) → (k : ℕ)
          → IsLawful (after_operations s (take k (if_made (record { extends = es; all = b }) (writes t (blocks_for o t cs) ∷ []) (let u : Unit {0} = tt in u)).operations))
      by_all es true all on k =
          let e = extended_all t es s all h in
          let u = after_operations s es in
          let there = subst (λ (b : Body). AreOnTracks u t (written t.mode b cs)) (sym (e.bodies.bodies t.v t.dsn.bytes)) (on refl) in
          each_lawful es (writes t (blocks_for o t cs)) s (λ j. (extended_all t (take j es) s (take_extend t j es all) h).lawful) (λ w done. written_lawful u o w t cs is e.lawful there done) k
      by_all es false all on k = (extended_all t (take k es) s (take_extend t k es all) h).lawful

-- a commit keeps the shelf lawful
pub commit_lawful : (s : Shelf) (w : OpenWriter) (k : ℕ) → IsLawful s → IsReady s w → IsLawful (after_operations s (take k (did_commit s w).operations))
unfolding did_commit
commit_lawful s w k h ready =
    let t = w.target in
    let body = target_body s t in
    let on = so_far t.mode body w.puts in
    let close = at_close t.mode body w.puts in
    let room = room_made_on t close on s (so_far_contents t.mode body w.puts ready.contents) (close_contents t.mode body w.puts) h ready.room in
    if_made_lawful s s t w.puts ready.contents h (making_close s w) (all_extend t close on s) (λ all. subst (AreOnTracks (made s (making_close s w)) t) (so_far_closed t.mode body w.puts) (room all)) k

-- and so does a set written as a whole
pub write_lawful : (s : Shelf) (t : Target) (cs : List Content) (k : ℕ) → AllByRecursion IsContent cs → IsLawful s → IsLawful (after_operations s (take k (did_write s t cs).operations))
unfolding did_write placed
write_lawful s t cs k is h =
    let all = written t.mode (target_body s t) cs in
    if_made_lawful s s t cs is h (making_room s t [] all) (all_extend t all [] s) (room_made_on t all [] s tt (written_contents t.mode (target_body s t) cs is) h tt) k
