-- How far the writing of a list of blocks has come, and the loop over items.
use Rattle.std.proofs.Common.{◌≡◌, ℕ, Bool, List, [], ◌∷◌, ◌++◌, length, map, refl, sym, ◌∙◌, ap, subst, arith, append_assoc}
use Rattle.std.proofs.lemmas.List.{append-nil}
use Rattle.std.specs.Prelude.{Result, Ok, Err, IsErr}
use Rattle.stop_model.specs.Moments.{Meaning}
use Rattle.vol_model.specs.declared.answers.Stop.{Stop}
use Rattle.vol_model.specs.declared.contents.Block.{Block}
use Rattle.vol_model.specs.declared.contents.Place.{Place}
use Rattle.vol_model.specs.declared.contents.Shelf.{Shelf}
use Rattle.vol_model.specs.declared.requests.Op.{Op}
use Rattle.vol_model.specs.Did.{Did, and_then, answered, behind_them}
use Rattle.vol_model.specs.Events.{after_operations}
use Rattle.vol_model.specs.Places.{Content, content}
use Rattle.vol_model.specs.Runs.{Works}
use Rattle.vol_model.specs.Writing.{OpenWriter, with_puts}
use Rattle.vol_model.proofs.Working.{HasDone, done_state, done_then, goes_on, has_done, works_behind, works_ends, works_none, works_stops}
use Rattle.util_steps.specs.declared.calls.Fault.{Fault}
use Rattle.util_steps.specs.Copying.{did_block, did_blocks}
use Rattle.util_steps.proofs.Blocks.{blocks_cons, blocks_none}

-- Some blocks were put, and these are left; all are those and what is left.
pub record Listed (tells : Bool) (bs rest : List Block) (w0 w : OpenWriter) (old now : Meaning Shelf) (n m : ℕ) : Type 0 where
  pub ops : List Op
  pub done : HasDone tells ops old now n m
  pub whole : did_blocks old.state w0 bs ≡ behind_them ops (did_blocks now.state w rest)
  pub puts : with_puts w (map content rest) ≡ with_puts w0 (map content bs)

-- nothing was put yet
pub list_begins : (tells : Bool) (bs : List Block) (w : OpenWriter) (old : Meaning Shelf) (n : ℕ) → Listed tells bs bs w w old old n n
list_begins tells bs w old n = record {
  ops = [];
  done = has_done (let start : Works tells (answered {X = ℕ} {E = Fault} (Ok 0)) old old n n (Ok (Ok 0)) = works_none tells old n (Ok 0) in start);
  whole = refl;
  puts = refl;
}

module _ {tells : Bool} {bs : List Block} {w0 w : OpenWriter} {old now : Meaning Shelf} {n m : ℕ} where
  list_whole : {rest : List Block} {new : Meaning Shelf} {k : ℕ} (r : Result (Result (Unit {0}) Fault) Stop) → Listed tells bs rest w0 w old now n m → Works tells (did_blocks now.state w rest) now new m k r → Works tells (did_blocks old.state w0 bs) old new n k r
  list_whole {new = new} {k = k} r so works = subst (λ (d : Did (Unit {0}) Fault). Works tells d old new n k r) (sym so.whole) (works_behind r so.done works)

  module _ (b : Block) (more : List Block) (so : Listed tells bs (b ∷ more) w0 w old now n m) where
    abbrev others : Place → Shelf → Did (Unit {0}) Fault
    others p u = did_blocks u (with_puts w (content b ∷ [])) more

    by_first : {new : Meaning Shelf} {k : ℕ} (r : Result (Result (Unit {0}) Fault) Stop) → Works tells (and_then now.state (did_block now.state w b) others) now new m k r → Works tells (did_blocks old.state w0 bs) old new n k r
    by_first {new = new} {k = k} r works = list_whole r so (subst (λ (d : Did (Unit {0}) Fault). Works tells d now new m k r) (sym (blocks_cons now.state w b more)) works)

    pub list_stops : {new : Meaning Shelf} {k : ℕ} (q : Result (Result Place Fault) Stop) (r : Result (Result (Unit {0}) Fault) Stop) → IsErr r → Works tells (did_block now.state w b) now new m k q → Works tells (did_blocks old.state w0 bs) old new n k r
    list_stops q r failed works = by_first r (works_stops (did_block now.state w b) others q r failed works)

    pub list_fault : {new : Meaning Shelf} {k : ℕ} (e : Fault) → Works tells (did_block now.state w b) now new m k (Ok (Err e)) → Works tells (did_blocks old.state w0 bs) old new n k (Ok (Err e))
    list_fault e works = by_first (Ok (Err e)) (works_ends (did_block now.state w b) others e works)

    pub list_further : {new : Meaning Shelf} {k : ℕ} (v : OpenWriter) (p : Place) → Works tells (did_block now.state w b) now new m k (Ok (Ok p)) → v ≡ with_puts w (content b ∷ []) → Listed tells bs more w0 v old new n k
    list_further {new = new} v p works writes =
        let first = did_block now.state w b in
        let at : new.state ≡ after_operations now.state first.operations = done_state (has_done works) in
        let rest : did_blocks (after_operations now.state first.operations) (with_puts w (content b ∷ [])) more ≡ did_blocks new.state v more =
        ap (λ (s : Shelf). did_blocks s (with_puts w (content b ∷ [])) more) (sym at) ∙ ap (λ (x : OpenWriter). did_blocks new.state x more) (sym writes) in
        record {
          ops = so.ops ++ first.operations;
          done = done_then so.done (has_done works);
          whole = so.whole ∙ ap (behind_them so.ops) (blocks_cons now.state w b more ∙ goes_on first others now.state p works.answer ∙ ap (behind_them first.operations) rest)
              ∙ ap (λ (l : List Op). record { operations = l; answer = (did_blocks new.state v more).answer }) (sym (append_assoc so.ops first.operations (did_blocks new.state v more).operations));
          puts = ap (λ (x : OpenWriter). with_puts x (map content more)) writes ∙ ap (λ (l : List Content). record w { puts = l }) (append_assoc w.puts (content b ∷ []) (map content more)) ∙ so.puts;
        }

  pub list_done : Listed tells bs [] w0 w old now n m → Works tells (did_blocks old.state w0 bs) old now n m (Ok (Ok tt))
  list_done so = list_whole (Ok (Ok tt)) so (subst (λ (d : Did (Unit {0}) Fault). Works tells d now now m m (Ok (Ok tt))) (sym (blocks_none now.state w)) (works_none tells now m (Ok tt)))

  pub list_writer : Listed tells bs [] w0 w old now n m → w ≡ with_puts w0 (map content bs)
  list_writer so = ap (λ (l : List Content). record w { puts = l }) (sym (append-nil w.puts)) ∙ so.puts

pub empty_list : (l : List Block) → length l ≡ 0 → l ≡ []
empty_list [] e = refl
empty_list (b ∷ l) e = absurd (omega (arith, e))

pub on_rest : {tells : Bool} {bs rest l : List Block} {w0 w : OpenWriter} {old now : Meaning Shelf} {n m : ℕ} → rest ≡ l → Listed tells bs rest w0 w old now n m → Listed tells bs l w0 w old now n m
on_rest {tells = tells} {bs = bs} {w0 = w0} {w = w} {old = old} {now = now} {n = n} {m = m} is so = subst (λ (l : List Block). Listed tells bs l w0 w old now n m) is so
