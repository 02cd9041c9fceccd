-- Free space as it is written, on worked cases.
use Rattle.std.specs.Prelude.{◌≡◌, ℕ, List, [], ◌∷◌, refl}
use Rattle.pack_spec.specs.FreeChain.{dscbs_for, entry_of, whole_cylinders}

-- after a VTOC of five tracks of a 2314 with 200 cylinders: 199 cylinders and 14 tracks
new_pack_has_199_cylinders_and_14_tracks : entry_of 20 (record { start = 6; len = 3994 }) ≡ 0 ∷ 6 ∷ 0 ∷ 0xC7 ∷ 0x0E ∷ []
new_pack_has_199_cylinders_and_14_tracks = refl

-- as many tracks as a cylinder has are none where they lie in two, and one where they lie in one
cylinder_in_two_parts_is_none : whole_cylinders 20 (record { start = 10; len = 20 }) ≡ 0
cylinder_in_two_parts_is_none = refl

cylinder_alone_is_one : whole_cylinders 20 (record { start = 20; len = 20 }) ≡ 1
cylinder_alone_is_one = refl

-- one DSCB is there without a run, and 27 runs want two
no_run_wants_a_dscb : dscbs_for 0 ≡ 1
no_run_wants_a_dscb = refl

runs_26_want_one_dscb : dscbs_for 26 ≡ 1
runs_26_want_one_dscb = refl

runs_27_want_two_dscbs : dscbs_for 27 ≡ 2
runs_27_want_two_dscbs = refl
