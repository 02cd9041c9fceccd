-- The rules of mounting that a volume breaks as a whole: each track is owned once, and the VTOC has the slots that are needed (this project's profile).
use Rattle.std.specs.Prelude.{ℕ, nat_le, nat_lt, Bool, List, [], ◌∷◌, ◌++◌, count_by, filter, map, if◌then◌else◌}
use Rattle.std.specs.List.{range_with_len}
use Rattle.vol_model.specs.declared.contents.Volume.{Volume}
use Rattle.vol_model.specs.Lawful.{owned_runs}
use Rattle.vol_model.specs.Slots.{slots_needed}
use Rattle.vol_model.specs.Space.{is_in}
use Rattle.pack_spec.specs.declared.MountErr.{MountErr}
use Rattle.pack_spec.specs.declared.MountErr.TheVariants.{Overlap, VtocFull}
use Rattle.pack_spec.specs.Label.{tracks_of}

-- two of the owned runs, or more, have the track; track 0 and the VTOC are owned
abbrev pub is_owned_twice : Volume → ℕ → Bool
is_owned_twice volume track = nat_le 2 (count_by (is_in track) (owned_runs volume))

-- the tracks that are owned twice, in order
unfoldable pub overlap_faults : Volume → List MountErr
overlap_faults volume = map Overlap (filter (is_owned_twice volume)
    (range_with_len 0 (tracks_of volume.geometry)))

-- more slots are needed than the VTOC has
unfoldable pub room_faults : Volume → List MountErr
room_faults volume =
    if nat_lt volume.slots (slots_needed volume) then VtocFull (slots_needed volume) ∷ [] else []

-- the rules that a volume breaks as a whole, in the order in which they are judged
unfoldable pub volume_faults : Volume → List MountErr
volume_faults volume = overlap_faults volume ++ room_faults volume
