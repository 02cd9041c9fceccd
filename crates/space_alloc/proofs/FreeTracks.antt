-- The free tracks are those of the pack that no owned run has.
use Rattle.std.proofs.Common.{◌≡◌, ℕ, ◌<◌, ◌&&◌, ◌||◌, not, true, List, [], sym, ap, subst, ◌∙◌, arith}
use Rattle.std.proofs.lemmas.Bool.Decides.{nat_tests}
use Rattle.vol_model.specs.declared.contents.Run.{Run}
use Rattle.vol_model.specs.Space.{AreRunsOf, EndBy, covers, is_in}
use Rattle.space_alloc.specs.Edits.{AreWith, AreWithout}

-- a track of the pack is in the run of all its tracks
inside : (tracks t : ℕ) → t < tracks → is_in t (record { start = 0; len = tracks }) ≡ true
inside tracks t l = grind (arith, nat_tests)

pub free_from_all : (tracks : ℕ) (none owned all free : List Run) → none ≡ [] → AreWith none (record { start = 0; len = tracks }) all → AreWithout all owned free
    → AreRunsOf (λ t. not (covers owned t)) tracks free
free_from_all tracks none owned all free empty whole left = record {
  maximal = left.maximal;
  within = left.within tracks (whole.within tracks (subst (λ rs. EndBy tracks rs) (sym empty) tt) (omega arith));
  same = λ t l. sym (left.tracks t ∙ ap (λ b. b && not (covers owned t))
      (whole.tracks t ∙ (ap (λ rs. covers rs t || is_in t (record { start = 0; len = tracks })) empty ∙ inside tracks t l)));
}
