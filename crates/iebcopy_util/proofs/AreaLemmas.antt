-- How far the putting of a member's blocks has come, and where their copies stand.
use Rattle.std.proofs.Common.{◌≡◌, ℕ, Bool, List, [], ◌∷◌, ◌++◌, map, refl, sym, ◌∙◌, ap, subst, arith, length, append_assoc}
use Rattle.std.proofs.lemmas.List.{append-nil}
use Rattle.std.specs.Prelude.{Result, Ok, Err, IsErr}
use Rattle.ckd_image.specs.declared.device.DiskType.{DiskType}
use Rattle.stop_model.specs.Moments.{Meaning}
use Rattle.vol_model.specs.declared.answers.Stop.{Stop}
use Rattle.vol_model.specs.declared.contents.Block.{Block}
use Rattle.vol_model.specs.declared.contents.Body.{Body}
use Rattle.vol_model.specs.declared.contents.Place.{Place}
use Rattle.vol_model.specs.declared.contents.Shelf.{Shelf}
use Rattle.vol_model.specs.Events.{after_operations}
use Rattle.vol_model.specs.Places.{Content, content, next_place, placed, with_blocks}
use Rattle.vol_model.specs.Reading.{blocks_from, readable}
use Rattle.vol_model.specs.Runs.{Works}
use Rattle.vol_model.specs.Shelf.{put_first}
use Rattle.vol_model.specs.Writing.{OpenWriter, body_on, device_on, with_puts}
use Rattle.vol_model.proofs.Keeping.{KeepsBodies, bodies_kept_none, bodies_kept_then}
use Rattle.vol_model.proofs.Working.{done_state, has_done}
use Rattle.util_steps.specs.declared.calls.Fault.{Fault}
use Rattle.util_steps.specs.declared.calls.SetRef.{SetRef}
use Rattle.util_steps.specs.Copying.{did_block, did_blocks, source}
use Rattle.util_steps.proofs.ListLemmas.{Listed, list_begins, list_done, list_fault, list_further, list_stops, list_writer}
use Rattle.record_files.proofs.AdvanceLemmas.{block_kept, block_place}
use Rattle.iebcopy_util.specs.Copying.{places}
use Rattle.record_files.specs.Advancing.{put_place}
use Rattle.iebcopy_util.specs.Steps.{AreFound, put_places}

-- ---- one block

-- the place of a content that is put, by the device and the body
place_in : DiskType → Body → OpenWriter → Content → Place
place_in device body w c = next_place device (with_blocks body (placed device body (put_first w.target.mode body ++ w.puts))) c

place_kept : (s u : Shelf) (w : OpenWriter) (c : Content) → KeepsBodies s u → put_place u w c ≡ put_place s w c
unfolding place_in
place_kept s u w c kept =
    ap (λ (d : DiskType). place_in d (body_on u w.target.v w.target.dsn.bytes) w c) (kept.devices w.target.v)
    ∙ ap (λ (b : Body). place_in (device_on s w.target.v) b w c) (kept.bodies w.target.v w.target.dsn.bytes)

-- ---- block by block

-- Some blocks of a member were put, and those at these places are left.
pub record Puts (tells : Bool) (from : SetRef) (bs member : List Block) (left : List Place) (w0 w : OpenWriter) (to0 to : List Place) (old now : Meaning Shelf) (n m : ℕ) : Type 0 where
  pub rest : List Block
  pub at : left ≡ places rest
  pub found : AreFound bs rest
  pub listed : Listed tells member rest w0 w old now n m
  pub kept : KeepsBodies old.state now.state
  pub copies : to ++ put_places old.state w (map content rest) ≡ to0 ++ put_places old.state w0 (map content member)

-- nothing was put yet
pub puts_begin : (tells : Bool) (from : SetRef) (bs member : List Block) (left : List Place) (w : OpenWriter) (to : List Place) (old : Meaning Shelf) (n : ℕ) → left ≡ places member → AreFound bs member → Puts tells from bs member left w w to to old old n n
puts_begin tells from bs member left w to old n at found = record { rest = member; at = at; found = found; listed = list_begins tells member w old n; kept = bodies_kept_none old.state; copies = refl }

module _ {tells : Bool} {from : SetRef} {bs member : List Block} {w0 w : OpenWriter} {to0 to : List Place} {old now : Meaning Shelf} {n m : ℕ} where
  -- the blocks of the input stay
  pub puts_there : {left : List Place} → Puts tells from bs member left w0 w to0 to old now n m → source old.state from ≡ Ok bs → source now.state from ≡ Ok bs
  puts_there so is = ap readable (so.kept.bodies from.v from.dsn.bytes) ∙ is

-- The next block is that at this place, and those after it are left.
pub record PutsNext (tells : Bool) (from : SetRef) (bs member : List Block) (p : Place) (behind : List Place) (w0 w : OpenWriter) (to0 to : List Place) (old now : Meaning Shelf) (n m : ℕ) : Type 0 where
  pub block : Block
  pub more : List Block
  pub left : behind ≡ places more
  pub here : (rest : List Block) × (blocks_from p bs ≡ block ∷ rest)
  pub found : AreFound bs more
  pub listed : Listed tells member (block ∷ more) w0 w old now n m
  pub kept : KeepsBodies old.state now.state
  pub copies : to ++ put_places old.state w (map content (block ∷ more)) ≡ to0 ++ put_places old.state w0 (map content member)

module _ {tells : Bool} {from : SetRef} {bs member : List Block} {w0 w : OpenWriter} {to0 to : List Place} {old now : Meaning Shelf} {n m : ℕ} where
  pub puts_next : (p : Place) (behind left : List Place) → left ≡ p ∷ behind → Puts tells from bs member left w0 w to0 to old now n m → PutsNext tells from bs member p behind w0 w to0 to old now n m
  puts_next p behind left is so = by_rest so.rest (sym is ∙ so.at) so.found so.listed so.copies
    where
      by_rest : (rest : List Block) → p ∷ behind ≡ places rest → AreFound bs rest → Listed tells member rest w0 w old now n m → to ++ put_places old.state w (map content rest) ≡ to0 ++ put_places old.state w0 (map content member)
          → PutsNext tells from bs member p behind w0 w to0 to old now n m
      by_rest [] at found listed copies = let never : ⊥ = cc in absurd never
      by_rest (b ∷ more) at found listed copies =
          let here : p ≡ b.place = cc in
          let left_so : behind ≡ places more = cc in
          record { block = b; more = more; left = left_so; here = (found.0.0, ap (λ (q : Place). blocks_from q bs) here ∙ found.0.1); found = found.1; listed = listed; kept = so.kept; copies = copies }

  module _ {p : Place} {behind : List Place} (so : PutsNext tells from bs member p behind w0 w to0 to old now n m) where
    pub put_stops : {new : Meaning Shelf} {k : ℕ} (q : Result (Result Place Fault) Stop) (r : Result (Result (Unit {0}) Fault) Stop) → IsErr r → Works tells (did_block now.state w so.block) now new m k q → Works tells (did_blocks old.state w0 member) old new n k r
    put_stops q r failed works = list_stops so.block so.more so.listed q r failed works

    pub put_fault : {new : Meaning Shelf} {k : ℕ} (e : Fault) → Works tells (did_block now.state w so.block) now new m k (Ok (Err e)) → Works tells (did_blocks old.state w0 member) old new n k (Ok (Err e))
    put_fault e works = list_fault so.block so.more so.listed e works

    -- one block more is put
    pub put_further : {new : Meaning Shelf} {k : ℕ} (v : OpenWriter) (place : Place) (to' : List Place) → Works tells (did_block now.state w so.block) now new m k (Ok (Ok place)) → v ≡ with_puts w (content so.block ∷ []) → to' ≡ to ++ place ∷ []
        → Puts tells from bs member behind w0 v to0 to' old new n k
    put_further {new = new} v place to' works writes pushed =
        let b = so.block in
        let at : new.state ≡ after_operations now.state (did_block now.state w b).operations = done_state (has_done works) in
        let step : KeepsBodies now.state new.state = subst (λ (s : Shelf). KeepsBodies now.state s) (sym at) (block_kept now.state w b) in
        let stands : place ≡ put_place old.state w (content b) = block_place now.state w b place works.answer ∙ place_kept old.state now.state w (content b) so.kept in
        let cs = map content so.more in
        record {
          rest = so.more;
          at = so.left;
          found = so.found;
          listed = list_further b so.more so.listed v place works writes;
          kept = bodies_kept_then so.kept step;
          copies = ap (λ (l : List Place). l ++ put_places old.state v cs) pushed ∙ append_assoc to (place ∷ []) (put_places old.state v cs)
              ∙ ap (λ (q : Place). to ++ (q ∷ put_places old.state v cs)) stands ∙ ap (λ (x : OpenWriter). to ++ (put_place old.state w (content b) ∷ put_places old.state x cs)) writes ∙ so.copies;
        }

  -- all blocks were put
  module _ (left : List Place) (none : left ≡ []) (so : Puts tells from bs member left w0 w to0 to old now n m) where
    no_rest : so.rest ≡ []
    no_rest = by_rest so.rest (sym none ∙ so.at)
      where
        by_rest : (rest : List Block) → [] ≡ places rest → rest ≡ []
        by_rest [] at = refl
        by_rest (b ∷ more) at = cc

    all_listed : Listed tells member [] w0 w old now n m
    all_listed = subst (λ (l : List Block). Listed tells member l w0 w old now n m) no_rest so.listed

    pub puts_done : Works tells (did_blocks old.state w0 member) old now n m (Ok (Ok tt))
    puts_done = list_done all_listed

    pub puts_writer : w ≡ with_puts w0 (map content member)
    puts_writer = list_writer all_listed

    pub puts_copies : to ≡ to0 ++ put_places old.state w0 (map content member)
    puts_copies = sym (append-nil to) ∙ ap (λ (l : List Block). to ++ put_places old.state w (map content l)) (sym no_rest) ∙ so.copies

pub no_places : (l : List Place) → length l ≡ 0 → l ≡ []
no_places [] e = refl
no_places (p ∷ l) e = absurd (omega (arith, e))
