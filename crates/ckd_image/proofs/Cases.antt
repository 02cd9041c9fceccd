-- Worked rows and near misses of the definitions: what fits a track, and which bytes are a track.
use Rattle.std.specs.Prelude.{ℕ, ◌≡◌, true, false, List, [], ◌∷◌, ◌++◌, Some, None, replicate}
use Rattle.std.proofs.Common.{refl, arith}
use Rattle.ckd_image.specs.declared.device.DiskType.TheVariants.{D2311, D2314, D3330, D3350}
use Rattle.ckd_image.specs.Fit.{fits}
use Rattle.ckd_image.specs.Header.{HasGeometry}
use Rattle.ckd_image.specs.Track.{Record, end_marker, records_bytes}
use Rattle.ckd_image.specs.Reading.{is_front, records_of, records_to_end}
use Rattle.ckd_image.specs.Break.{break_of, break_to_end, break_up_to, pattern_break}
use Rattle.ckd_image.specs.Writing.{front_bytes, new_track, record_on}

-- without keys 3773 and 3521 make 7294, and 3774 and 3522 make 7296
two_blocks_of_3521_bytes_fit_a_2314_track : (fits D2314 ((0, 3521) ∷ []) 0 3521 ≡ true) × (fits D2314 ((0, 3522) ∷ []) 0 3522 ≡ false)
two_blocks_of_3521_bytes_fit_a_2314_track = (refl, refl)

-- 24 DSCBs of 292 and a last one of 185 make 7193 of 7294; on a 2311 15 of 227 and one of 160 make 3565 of 3625
dscbs_of_a_track :
    (fits D2314 (replicate 24 (44, 96)) 44 96 ≡ true) × (fits D2314 (replicate 25 (44, 96)) 44 96 ≡ false)
    × (fits D2311 (replicate 15 (44, 96)) 44 96 ≡ true) × (fits D2311 (replicate 16 (44, 96)) 44 96 ≡ false)
dscbs_of_a_track = (refl, refl, refl, refl)

-- after 35 directory blocks of 531 an end-of-file record of 185 makes 18770 of 19254, and after 36 of them 19301
directory_of_a_3350_track : (fits D3350 (replicate 35 (8, 256)) 0 0 ≡ true) × (fits D3350 (replicate 36 (8, 256)) 0 0 ≡ false)
directory_of_a_3350_track = (refl, refl)

-- the largest R1 of each device, and one byte more
largest_record :
    (fits D2311 [] 0 3625 ≡ true) × (fits D2311 [] 0 3626 ≡ false) × (fits D2314 [] 0 7294 ≡ true) × (fits D2314 [] 0 7295 ≡ false)
    × (fits D3330 [] 0 13030 ≡ true) × (fits D3330 [] 0 13031 ≡ false) × (fits D3350 [] 0 19069 ≡ true) × (fits D3350 [] 0 19070 ≡ false)
largest_record = (refl, refl, refl, refl, refl, refl, refl, refl)

-- each record saves by its own key: 146 + 112 and 7036 make 7294
one_of_two_keyed : (fits D2314 ((8, 100) ∷ []) 0 7036 ≡ true) × (fits D2314 ((8, 100) ∷ []) 0 7037 ≡ false)
one_of_two_keyed = (refl, refl)

-- each quotient is rounded by itself: twice 61 + 11, and 3481, make 3625; the two quotients together would be 23
three_blocks_on_2311 : (fits D2311 ((0, 11) ∷ (0, 11) ∷ []) 0 3481 ≡ true) × (fits D2311 ((0, 11) ∷ (0, 11) ∷ []) 0 3482 ≡ false)
three_blocks_on_2311 = (refl, refl)

-- 203 cylinders of a 2314, and the least track size that is allowed
whole_2314 : HasGeometry 31181312 (record { device = D2314; cylinders = 203; track_size = 7680 })
whole_2314 = record { cylinders = omega arith; most = omega arith; track_size = refl; whole = refl }

-- home address and R0 of the track of cylinder 258 and head 3
abbrev front : List ℕ
front = 0 ∷ 1 ∷ 2 ∷ 0 ∷ 3 ∷ 1 ∷ 2 ∷ 0 ∷ 3 ∷ 0 ∷ 0 ∷ 0 ∷ 8 ∷ replicate 8 0

-- R1 of that track, with a key of two bytes and data of three
abbrev r1 : List ℕ
r1 = 1 ∷ 2 ∷ 0 ∷ 3 ∷ 1 ∷ 2 ∷ 0 ∷ 3 ∷ 75 ∷ 75 ∷ 68 ∷ 68 ∷ 68 ∷ []

abbrev first : Record
first = record { address = 1 ∷ 2 ∷ 0 ∷ 3 ∷ []; key = 75 ∷ 75 ∷ []; «data» = 68 ∷ 68 ∷ 68 ∷ [] }

-- they are written so, and zeros stand after the end marker up to the size of the track
written :
    (front_bytes 258 3 ≡ front) × (records_bytes 1 (record_on 258 3 (75 ∷ 75 ∷ []) (68 ∷ 68 ∷ 68 ∷ []) ∷ []) ≡ r1)
    × (new_track 258 3 (first ∷ []) 44 ≡ front ++ (r1 ++ (replicate 8 255 ++ (0 ∷ 0 ∷ []))))
written = (refl, refl, refl)

-- what is after the end marker is no record, and the home address is that of one track
one_record : (records_of 258 3 None (front ++ (r1 ++ (end_marker ++ (1 ∷ [])))) ≡ Some (first ∷ [])) × (records_of 3 258 None (front ++ (r1 ++ end_marker)) ≡ None)
unfolding records_of is_front records_to_end
one_record = (refl, refl)

-- where the six X'FF' after R1 may begin an end marker, the byte after them breaks it; where R2 is asked for, they are no marker, and the first that breaks is R
broken_marker :
    (break_of 258 3 None (front ++ (r1 ++ (replicate 6 255 ++ replicate 8 0))) ≡ Some 40)
    × (break_of 258 3 (Some 2) (front ++ (r1 ++ (replicate 6 255 ++ replicate 8 0))) ≡ Some 38)
unfolding break_of break_to_end break_up_to pattern_break
broken_marker = (refl, refl)

-- up to R1 at least eight bytes stand after it, of any kind
eight_bytes_behind : (break_of 258 3 (Some 1) (front ++ (r1 ++ replicate 8 0)) ≡ None) × (break_of 258 3 (Some 1) (front ++ (r1 ++ replicate 7 0)) ≡ Some 41)
unfolding break_of break_up_to pattern_break
eight_bytes_behind = (refl, refl)
