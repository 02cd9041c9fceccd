-- What a stop in a change of the VTOC may leave of it, and what no stop leaves unfinished (System Control Blocks GC28-6628; the bit of an interrupted update: this project's profile).
use Rattle.std.specs.Prelude.{◌≡◌, ◌⊎◌, ℕ, ◌==◌, ◌&&◌, ◌||◌, not, Bool, true, false, List, [], ◌++◌, count_by, filter, length, map, bit_and, replicate, slice_get, unwrap_or, Option, Some, None, option_and_then, Result, Ok}
use Rattle.std.specs.List.{flat_map, last_or, list_all, list_any}
use Rattle.chain_spec.specs.Cut.{IsCut}
use Rattle.chain_spec.specs.Kept.{joined, kept}
use Rattle.chain_spec.specs.Store.{Block as Stored, stored}
use Rattle.ckd_image.specs.declared.header.Geometry.{Geometry}
use Rattle.dscb_codec.specs.declared.Dscb.{Dscb}
use Rattle.dscb_codec.specs.declared.Dscb.TheVariants as formats
use Rattle.dscb_codec.specs.declared.DscbErr.{DscbErr}
use Rattle.dscb_codec.specs.declared.F4.{F4}
use Rattle.vol_model.specs.declared.contents.Block.{Block}
use Rattle.vol_model.specs.declared.contents.Body.{Body}
use Rattle.vol_model.specs.declared.contents.Body.TheVariants.{Part}
use Rattle.vol_model.specs.declared.contents.DataSet.{DataSet}
use Rattle.vol_model.specs.declared.contents.Entry.{Entry}
use Rattle.vol_model.specs.declared.contents.Place.{Place}
use Rattle.vol_model.specs.declared.contents.Run.{Run}
use Rattle.vol_model.specs.declared.contents.Volume.{Volume}
use Rattle.vol_model.specs.Slots.{entry_size}
use Rattle.pack_spec.specs.declared.slot.VtocSlot.{VtocSlot}
use Rattle.pack_spec.specs.Blocks.{data_tracks, owned_tracks}
use Rattle.pack_spec.specs.Directories.{before_end, name_number, part_tracks, stored_in}
use Rattle.pack_spec.specs.FreeChain.{ListsFree, free_entries}
use Rattle.pack_spec.specs.Rules.{is_chained, is_f3, is_led_to}
use Rattle.pack_spec.specs.Slots.{slots_of_vtoc}
use Rattle.pack_spec.specs.Volume.{volume_of}

-- a format 0
abbrev pub is_f0 : Result Dscb DscbErr → Bool
is_f0 (Ok formats.F0) = true
is_f0 _ = false

-- a format 1
abbrev pub is_f1 : Result Dscb DscbErr → Bool
is_f1 (Ok (formats.F1 f)) = true
is_f1 _ = false

-- a format 5
abbrev pub is_f5 : Result Dscb DscbErr → Bool
is_f5 (Ok (formats.F5 f)) = true
is_f5 _ = false

-- the format 4 that a slot holds
abbrev pub head_in : Result Dscb DscbErr → Option F4
head_in (Ok (formats.F4 f)) = Some f
head_in _ = None

-- the format 4 of a VTOC, in slot 0
abbrev pub head_of : List VtocSlot → Option F4
head_of slots = option_and_then (λ s. head_in s.content) (slice_get slots 0)

-- X'04' is on, the bit of an interrupted update, or X'80', by which format 5 doesn't show the free space
abbrev pub is_marked : F4 → Bool
is_marked f = not (bit_and f.indicators 0x84 == 0)

-- one of the two bits is on in the format 4 of a VTOC
abbrev pub IsMarked : List VtocSlot → Type 0
IsMarked slots = (f : F4) × (head_of slots ≡ Some f) × (is_marked f ≡ true)

-- a format 1 that counts its pointer leads to this slot, which holds a format 3
abbrev pub leads_to : Result Dscb DscbErr → VtocSlot → Bool
leads_to (Ok (formats.F1 f)) s = is_chained f && is_led_to f s
leads_to _ s = false

-- a format 1 of these slots leads to the format 3 in this one
abbrev pub is_used : List VtocSlot → VtocSlot → Bool
is_used slots s = list_any (λ t. leads_to t.content s) slots

-- the address of the last format 1, or zeros where there is none
abbrev pub highest_of : List VtocSlot → List ℕ
highest_of slots = unwrap_or (last_or None (map (λ s. s.address)
    (filter (λ s. is_f1 s.content) slots))) (replicate 5 0)

-- The VTOC of these slots is settled: both bits are off, the chain of format 5 lists the free space of the volume, the counts of format 4 are right, each format 3 is used, and no format 5 stands beside the chain.
pub record AreSettled (slots : List VtocSlot) (volume : Volume) : Type 0 where
  pub head : F4
  pub first : head_of slots ≡ Some head
  pub bits : is_marked head ≡ false
  pub chain : ListsFree slots volume
  pub free : head.free ≡ count_by (λ s. is_f0 s.content) slots
  pub highest : head.highest ≡ highest_of slots
  pub used : list_all (λ s. not (is_f3 s.content) || is_used slots s) slots ≡ true
  pub alone : count_by (λ s. is_f5 s.content) slots ≡ length (free_entries volume)

-- one of the two bits is on, or the chain of format 5 lists the free space
abbrev pub AreGuarded : List VtocSlot → Volume → Type 0
AreGuarded slots volume = IsMarked slots ⊎ ListsFree slots volume

-- the slots on an image that stands for a volume
abbrev pub slots_for : List ℕ → Volume → List VtocSlot
slots_for image volume = slots_of_vtoc image volume.geometry volume.vtoc

-- an image that stands for a volume is guarded: format 5 isn't read, or shows the free space
abbrev pub IsGuarded : List ℕ → Type 0
IsGuarded image = (volume : Volume) × (volume_of image ≡ Ok volume)
    × AreGuarded (slots_for image volume) volume

-- an image that stands for a volume is settled, as far as the VTOC goes
abbrev pub IsSettledVtoc : List ℕ → Type 0
IsSettledVtoc image = (volume : Volume) × (volume_of image ≡ Ok volume)
    × AreSettled (slots_for image volume) volume

-- A directory in these blocks is cut as its entries need: each block takes as many of them as fit.
pub record IsPacked (directory : List Block) : Type 0 where
  pub blocks : List (List Entry)
  pub behind : List (Option (Stored Entry))
  pub store : map stored_in directory ≡ stored blocks ++ behind
  pub cut : IsCut entry_size 254 12 blocks (kept name_number (joined blocks))

-- the blocks of a directory that ends at a place, on the tracks of its data set
abbrev pub directory_upto : Geometry → List (List ℕ) → List ℕ → Place → List Block
directory_upto g tracks owned end = before_end end (flat_map (λ o. unwrap_or o []) (part_tracks g tracks owned end end))

-- the directory of a data set with these extents and this body is packed, if it has one that can be read
abbrev pub HasPacked : Geometry → List (List ℕ) → List Run → Body → Type 0
HasPacked g tracks extents (Part dir end entries blocks) = IsPacked (directory_upto g tracks (owned_tracks extents) end)
HasPacked g tracks extents body = Unit {0}

-- and so that of each of these data sets
abbrev pub HavePacked : Geometry → List (List ℕ) → List DataSet → Type 0
HavePacked g tracks sets = (k : ℕ) (d : DataSet) → slice_get sets k ≡ Some d → HasPacked g tracks d.extents d.body

-- each directory of an image that stands for a volume is packed, if it can be read
abbrev pub ArePacked : List ℕ → Volume → Type 0
ArePacked image volume = HavePacked volume.geometry (data_tracks image volume.geometry volume.vtoc) volume.sets

-- an image that stands for a volume is settled: its VTOC is, and each directory that can be read is packed
abbrev pub IsSettled : List ℕ → Type 0
IsSettled image = (volume : Volume) × (volume_of image ≡ Ok volume)
    × AreSettled (slots_for image volume) volume × ArePacked image volume
