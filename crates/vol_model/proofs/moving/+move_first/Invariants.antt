use Rattle.vol_model.proofs.moving.+move_first.Given as goal

abbrev pub decreases-move_first : goal.decreases-move_first
decreases-move_first l = l.count
