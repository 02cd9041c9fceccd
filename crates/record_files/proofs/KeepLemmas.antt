-- A library that can be read can be read after an area.
use Rattle.std.proofs.Common.{◌≡◌, ⊎_elim, ℕ, Bool, true, false, List, map, refl, sym, subst}
use Rattle.std.specs.Prelude.{Option, Some, None, Ok, if◌then◌else◌, option_map, slice_get, slice_set}
use Rattle.std.specs.Option.{option_map_or}
use Rattle.ebcdic_names.specs.declared.names.Dsn.{Dsn}
use Rattle.vol_model.specs.declared.answers.Mode.TheVariants as modes
use Rattle.vol_model.specs.declared.contents.Block.{Block}
use Rattle.vol_model.specs.declared.contents.Body.{Body}
use Rattle.vol_model.specs.declared.contents.Body.TheVariants as bodies
use Rattle.vol_model.specs.declared.contents.DataSet.{DataSet}
use Rattle.vol_model.specs.declared.contents.Shelf.{Shelf}
use Rattle.vol_model.specs.declared.contents.Volume.{Volume}
use Rattle.vol_model.specs.declared.refusals.Refusal.{Refusal}
use Rattle.vol_model.specs.declared.requests.Op.TheVariants.{Area}
use Rattle.vol_model.specs.Events.{behind}
use Rattle.vol_model.specs.Places.{Content, content, with_blocks}
use Rattle.vol_model.specs.Reading.{readable}
use Rattle.vol_model.specs.Shelf.{blocks_of, has_name, on_volume, step, step_on, unless_refused, with_set, with_volume, with_written, write_on, write_refusal}
use Rattle.vol_model.specs.Writing.{body_on, set_on}
use Rattle.vol_model.proofs.Keeping.{ChangesSet, set_after}

-- a body that can be read
abbrev pub IsReadable : Body → Type 0
IsReadable b = readable b ≡ Ok (blocks_of b)

with_blocks_readable : (b : Body) (bs : List Block) → IsReadable b → IsReadable (with_blocks b bs)
with_blocks_readable (bodies.Seq old) bs is = refl
with_blocks_readable (bodies.Part dir end es old) bs is = refl
with_blocks_readable bodies.Catalog bs is = refl
with_blocks_readable bodies.Other bs is = refl
with_blocks_readable (bodies.Unreadable track) bs is = is

pub read_all : (b : Body) (bs : List Block) → readable b ≡ Ok bs → IsReadable b
read_all (bodies.Seq old) bs is = refl
read_all (bodies.Part dir end es old) bs is = refl
read_all bodies.Catalog bs is = refl
read_all bodies.Other bs is = refl
read_all (bodies.Unreadable track) bs is = cc

-- the body of a set, if it is there
abbrev body_of : Option DataSet → Body
body_of o = option_map_or (λ (x : DataSet). x.body) o bodies.Other

changed_if : (name : List ℕ) (f : DataSet → DataSet) → ((x : DataSet) → IsReadable x.body → IsReadable (f x).body) → (o : Option DataSet) → IsReadable (body_of o) → IsReadable (body_of (option_map (λ (x : DataSet). if has_name name x then f x else x) o))
changed_if name f reads None is = refl
changed_if name f reads (Some x) is = by_test (has_name name x)
  where
    by_test : (t : Bool) → IsReadable (if t then f x else x).body
    by_test true = reads x is
    by_test false = is

-- a change of data sets that keeps what can be read
pub changed_readable : (s after : Shelf) (v : ℕ) (name : List ℕ) (f : DataSet → DataSet) → ((x : DataSet) → (f x).name ≡ x.name) → ((x : DataSet) → IsReadable x.body → IsReadable (f x).body) → ChangesSet s v name f after → (v2 : ℕ) (n2 : List ℕ) → IsReadable (body_on s v2 n2) → IsReadable (body_on after v2 n2)
unfolding body_on
changed_readable s after v name f keeps reads c v2 n2 is =
    ⊎_elim (λ other. subst (λ (o : Option DataSet). IsReadable (body_of o)) (sym other) is)
    (λ same. subst (λ (o : Option DataSet). IsReadable (body_of o)) (sym same.1) (changed_if name f reads (set_on s v2 n2) is))
    (set_after s after v name f keeps c v2 n2)

module _ (s : Shelf) (v : ℕ) (dsn : Dsn) (blocks : List Block) (v2 : ℕ) (n2 : List ℕ) (is : IsReadable (body_on s v2 n2)) where
  abbrev cs : List Content
  cs = map content blocks

  by_refused : (volume : Volume) → slice_get s.volumes v ≡ Some volume → (o : Option Refusal)
      → IsReadable (body_on (behind s (with_volume s v (unless_refused o (with_set volume dsn.bytes (with_written volume.geometry.device modes.Area cs))))) v2 n2)
  by_refused volume at None =
      let f = with_written volume.geometry.device modes.Area cs in
      let after : Shelf = record { volumes = slice_set s.volumes v (with_set volume dsn.bytes f) } in
      changed_readable s after v dsn.bytes f (λ x. refl) (λ x h. with_blocks_readable x.body _ h) (record { volume = volume; at = at; is = refl }) v2 n2 is
  by_refused volume at (Some r) = is

  -- a set to which an area is added can be read
  pub area_readable : IsReadable (body_on (behind s (step s (Area v dsn blocks))) v2 n2)
  unfolding step step_on write_on
  area_readable = by_volume (slice_get s.volumes v) refl
    where
      by_volume : (o : Option Volume) → slice_get s.volumes v ≡ o → IsReadable (body_on (behind s (on_volume s v (step_on (Area v dsn blocks)) o)) v2 n2)
      by_volume None at = is
      by_volume (Some volume) at = by_refused volume at (write_refusal modes.Area dsn volume)
