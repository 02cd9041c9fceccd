-- What calls of an open writer need.
use Rattle.std.specs.Prelude.{◌≡◌, [], ◌∷◌, ◌++◌}
use Rattle.map_machine.specs.declared.past.Writer.{Writer}
use Rattle.map_machine.specs.declared.rooms.Commit.{Commit}
use Rattle.map_machine.specs.declared.rooms.Put.{Put}
use Rattle.map_machine.specs.Rooms.{target_in}
use Rattle.vol_model.specs.declared.contents.Shelf.{Shelf}
use Rattle.vol_model.specs.Places.{Content}
use Rattle.vol_model.specs.Shelf.{put_first}
use Rattle.vol_model.specs.Writing.{at_close, blocks_for, next_up, place_on, so_far, target_body, writes}

-- what a put of this content needs
pub record IsPut (shelf : Shelf) (w : Writer) (c : Content) (put : Put) : Type 0 where
  pub place : put.place ≡ place_on shelf (target_in w.target) (put_first w.target.mode (target_body shelf (target_in w.target)) ++ w.puts) c
  pub before : put.before ≡ so_far w.target.mode (target_body shelf (target_in w.target)) w.puts
  pub coming : put.coming ≡ next_up w.target.mode (target_body shelf (target_in w.target)) w.puts (c ∷ [])
  pub puts : put.puts ≡ w.puts ++ c ∷ []

-- what a commit needs
pub record IsCommit (shelf : Shelf) (w : Writer) (commit : Commit) : Type 0 where
  pub before : commit.before ≡ so_far w.target.mode (target_body shelf (target_in w.target)) w.puts
  pub coming : commit.coming ≡ at_close w.target.mode (target_body shelf (target_in w.target)) w.puts
  pub op : commit.op ≡ writes (target_in w.target) (blocks_for shelf (target_in w.target) w.puts)
