-- The rules of mounting that slots break (DSCBs: System Control Blocks GC28-6628; rules: this project's profile).
use Rattle.std.specs.Prelude.{ℕ, ◌==◌, ◌||◌, ◌&&◌, nat_le, nat_lt, not, Bool, true, false, List, [], ◌∷◌, ◌++◌, find, is_some, take, position, slice_get, Option, Some, None, option_and_then, Result, Ok, Err, if◌then◌else◌}
use Rattle.std.specs.List.{enumerate_from, filter_map, list_all, list_any}
use Rattle.std.specs.Option.{option_map, option_map_or}
use Rattle.std.specs.Str.{bytes_eq}
use Rattle.ckd_image.specs.declared.header.Geometry.{Geometry}
use Rattle.dscb_codec.specs.declared.F1.{F1}
use Rattle.dscb_codec.specs.declared.Dscb.{Dscb}
use Rattle.dscb_codec.specs.declared.Dscb.TheVariants as formats
use Rattle.dscb_codec.specs.declared.DscbErr.{DscbErr}
use Rattle.dscb_codec.specs.declared.DscbErr.TheVariants.{Unsupported, BadFormat}
use Rattle.pack_spec.specs.declared.MountErr.{MountErr}
use Rattle.pack_spec.specs.declared.MountErr.TheVariants.{NoFormat4, NoFormat5, BadDscb, UnsupportedDscb, UnsupportedExtent, BadExtent, BadChain, DuplicateName}
use Rattle.pack_spec.specs.declared.slot.VtocSlot.{VtocSlot}
use Rattle.pack_spec.specs.Vtoc.{is_counted_type, is_extent, is_field_type}

-- the format 1 that a slot holds
abbrev pub set_in : Result Dscb DscbErr → Option F1
set_in (Ok (formats.F1 f)) = Some f
set_in _ = None

-- a format 3
abbrev pub is_f3 : Result Dscb DscbErr → Bool
is_f3 (Ok (formats.F3 f)) = true
is_f3 _ = false

-- a format 4
abbrev pub is_f4 : Result Dscb DscbErr → Bool
is_f4 (Ok (formats.F4 f)) = true
is_f4 _ = false

-- a format 5, or a format 0, which is free
abbrev pub is_f5_or_f0 : Result Dscb DscbErr → Bool
is_f5_or_f0 (Ok (formats.F5 f)) = true
is_f5_or_f0 (Ok formats.F0) = true
is_f5_or_f0 _ = false

-- a format 1 counts more extents than it holds, so its pointer counts
abbrev pub is_chained : F1 → Bool
is_chained f = nat_lt 3 f.extents

-- a slot is the format 3 to which the pointer of a format 1 leads
abbrev pub is_led_to : F1 → VtocSlot → Bool
is_led_to f s = bytes_eq s.address f.pointer && is_f3 s.content

-- the format 3 to which the pointer of a format 1 leads, where that counts
abbrev pub format_3_of : List VtocSlot → F1 → Option VtocSlot
format_3_of slots f = if is_chained f then find (is_led_to f) slots else None

-- the thirteen extents of a format 3; none of other content
abbrev pub further_extents : Result Dscb DscbErr → List (List ℕ)
further_extents (Ok (formats.F3 f)) = f.front ++ f.back
further_extents _ = []

-- the extents that a format 1 counts: first its own, then those of its format 3
unfoldable pub counted_extents : List VtocSlot → F1 → List (List ℕ)
counted_extents slots f = take f.extents
    (f.runs ++ option_map_or (λ s. further_extents s.content) (format_3_of slots f) [])

-- each extent in a format 1, and each that it counts, has a type that is read
unfoldable pub has_types : List VtocSlot → F1 → Bool
has_types slots f = list_all is_field_type f.runs && list_all is_counted_type
    (counted_extents slots f)

-- a format 1 counts at most 16 extents, each a run of tracks of the image
unfoldable pub has_extents : Geometry → List VtocSlot → F1 → Bool
has_extents g slots f = nat_le f.extents 16 && list_all (is_extent g) (counted_extents slots f)

-- a format 1 whose pointer counts and is that of this one
abbrev pub shares_chain : F1 → Result Dscb DscbErr → Bool
shares_chain f (Ok (formats.F1 other)) = is_chained other && bytes_eq other.pointer f.pointer
shares_chain f _ = false

-- a format 1 whose pointer counts leads to a format 3, to which none of a lower slot leads
unfoldable pub has_chain : List VtocSlot → List VtocSlot → F1 → Bool
has_chain slots lower f =
    not (is_chained f)
    || (is_some (format_3_of slots f) && not (list_any (λ s. shares_chain f s.content) lower))

-- the first rule on extents that the format 1 in the slot of this number breaks
unfoldable pub extents_fault : Geometry → List VtocSlot → ℕ → F1 → Option MountErr
extents_fault g slots k f =
    if not (has_types slots f) then Some (UnsupportedExtent k)
    else (if not (has_extents g slots f) then Some (BadExtent k)
    else (if not (has_chain slots (take k slots) f) then Some (BadChain k) else None))

-- the first rule that content of the slot of this number breaks, which isn't slot 0
abbrev pub content_fault : Geometry → List VtocSlot → ℕ → Result Dscb DscbErr → Option MountErr
content_fault g slots k (Ok formats.F0) = None
content_fault g slots k (Ok (formats.F1 f)) = extents_fault g slots k f
content_fault g slots k (Ok (formats.F3 f)) = None
content_fault g slots k (Ok (formats.F4 f)) = Some (BadDscb k 0xF4)
content_fault g slots k (Ok (formats.F5 f)) = None
content_fault g slots k (Err (Unsupported byte)) = Some (UnsupportedDscb k byte)
content_fault g slots k (Err (BadFormat byte)) = Some (BadDscb k byte)

-- the first rule that the slot of this number breaks by itself; slot 0 is judged in front of all
unfoldable pub slot_fault : Geometry → List VtocSlot → ℕ → VtocSlot → Option MountErr
slot_fault g slots k s = if k == 0 then None else content_fault g slots k s.content

-- slot 0 is a format 4, and slot 1 a format 5 or free
unfoldable pub front_faults : List VtocSlot → List MountErr
front_faults slots =
    (if option_map_or (λ s. is_f4 s.content) (slice_get slots 0) false then [] else NoFormat4 ∷ [])
    ++ (if option_map_or (λ s. is_f5_or_f0 s.content)
    (slice_get slots 1) false then [] else NoFormat5 ∷ [])

-- the rules that slots break by themselves, one a slot, in order
unfoldable pub slot_faults : Geometry → List VtocSlot → List MountErr
slot_faults g slots = filter_map (λ p. slot_fault g slots p.0 p.1) (enumerate_from 0 slots)

-- a format 1 of this name
abbrev pub is_named : List ℕ → Result Dscb DscbErr → Bool
is_named name (Ok (formats.F1 f)) = bytes_eq f.name name
is_named name _ = false

-- a data set whose name stands in an earlier slot, with the lowest of these
unfoldable pub name_fault : List VtocSlot → ℕ → VtocSlot → Option MountErr
name_fault slots k s =
    option_and_then (λ f. option_map (DuplicateName k)
    (position (λ t. is_named f.name t.content) (take k slots))) (set_in s.content)

-- the data sets whose names stand in earlier slots, in order
unfoldable pub name_faults : List VtocSlot → List MountErr
name_faults slots = filter_map (λ p. name_fault slots p.0 p.1) (enumerate_from 0 slots)

-- the rules that slots break, in the order in which they are judged
unfoldable pub slots_faults : Geometry → List VtocSlot → List MountErr
slots_faults g slots = front_faults slots ++ (slot_faults g slots ++ name_faults slots)
