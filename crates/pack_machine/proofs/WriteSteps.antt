-- The operation by which the contents that a writer put are written: its step, and what a call leaves that does it.
use Rattle.std.proofs.Common.{◌≡◌, ℕ, List, [], ◌∷◌, ◌++◌, length, map, drop, Option, Some, None, refl, sym, ap, ◌∙◌}
use Rattle.std.specs.Prelude.{Ok}
use Rattle.ckd_image.specs.declared.device.DiskType.{DiskType}
use Rattle.ebcdic_names.specs.declared.names.Dsn.{Dsn}
use Rattle.vol_model.specs.declared.answers.Mode.{Mode}
use Rattle.vol_model.specs.declared.answers.Mode.TheVariants as modes
use Rattle.vol_model.specs.declared.contents.Block.{Block}
use Rattle.vol_model.specs.declared.contents.Body.{Body}
use Rattle.vol_model.specs.declared.contents.Shelf.{Shelf}
use Rattle.vol_model.specs.declared.contents.Volume.{Volume}
use Rattle.vol_model.specs.declared.refusals.Refusal.{Refusal}
use Rattle.vol_model.specs.Places.{Content, content, next_block, placed, with_blocks}
use Rattle.vol_model.specs.Shelf.{put_first, step_on, unless_refused, volume_number, with_set, with_written, write_on, write_refusal}
use Rattle.vol_model.specs.Writing.{Target, blocks_for, target_body, writes}

-- a target for a mode
abbrev pub to_set : ℕ → Dsn → Mode → Target
to_set v dsn mode = record { v = v; dsn = dsn; mode = mode }

-- blocks that are placed hold the contents
content_placed : (d : DiskType) (b : Body) (cs : List Content) → map content (placed d b cs) ≡ cs
unfolding placed
content_placed d b [] = refl
content_placed d b (c ∷ cs) = ap (λ (l : List Content). c ∷ l) (content_placed d (with_blocks b (next_block d b c ∷ [])) cs)

-- and those after the first of them the others
content_behind : (front : List Content) (bs : List Block) (cs : List Content) → map content bs ≡ front ++ cs → map content (drop (length front) bs) ≡ cs
content_behind [] bs cs is = is
content_behind (c ∷ front) [] cs is = cc
content_behind (c ∷ front) (b ∷ bs) cs is = content_behind front bs cs (tail is)
  where
    tail : {x y : Content} {xs ys : List Content} → x ∷ xs ≡ y ∷ ys → xs ≡ ys
    tail same = cc

pub content_written : (shelf : Shelf) (t : Target) (cs : List Content) → map content (blocks_for shelf t cs) ≡ cs
content_written shelf t cs =
    let front : List Content = put_first t.mode (target_body shelf t) in
    content_behind front _ cs (content_placed _ _ (front ++ cs))

-- the step of the operation is that of the volume
by_mode : (v : ℕ) (dsn : Dsn) (mode : Mode) (bs : List Block) (w : Volume) → step_on (writes (to_set v dsn mode) bs) w ≡ write_on mode dsn (map content bs) w
unfolding step_on
by_mode v dsn modes.Fill bs w = refl
by_mode v dsn modes.Area bs w = refl

pub step_written : (shelf : Shelf) (v : ℕ) (dsn : Dsn) (mode : Mode) (cs : List Content) (w : Volume) → step_on (writes (to_set v dsn mode) (blocks_for shelf (to_set v dsn mode) cs)) w ≡ write_on mode dsn cs w
step_written shelf v dsn mode cs w =
    by_mode v dsn mode (blocks_for shelf (to_set v dsn mode) cs) w ∙ ap (λ (l : List Content). write_on mode dsn l w) (content_written shelf (to_set v dsn mode) cs)

-- it is on this volume
pub written_number : (v : ℕ) (dsn : Dsn) (mode : Mode) (bs : List Block) → volume_number (writes (to_set v dsn mode) bs) ≡ v
written_number v dsn modes.Fill bs = refl
written_number v dsn modes.Area bs = refl

-- and keeps its serial
pub write_keeps_serial : (mode : Mode) (dsn : Dsn) (cs : List Content) (w after : Volume) → write_on mode dsn cs w ≡ Ok after → after.serial.bytes ≡ w.serial.bytes
unfolding write_on
write_keeps_serial mode dsn cs w after is = by_refusal (write_refusal mode dsn w) is
  where
    by_refusal : (o : Option Refusal) → unless_refused o (with_set w dsn.bytes (with_written w.geometry.device mode cs)) ≡ Ok after → after.serial.bytes ≡ w.serial.bytes
    by_refusal None done = let same : with_set w dsn.bytes (with_written w.geometry.device mode cs) ≡ after = cc in ap (λ (x : Volume). x.serial.bytes) (sym same)
    by_refusal (Some r) done = absurd cc
