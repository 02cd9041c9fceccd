-- Units and the files that they are.
use Rattle.std.proofs.Common.{◌≡◌, ◌≢◌, ◌<◌, ◌≤◌, ◌+◌, ℕ, zero, suc, List, [], ◌∷◌, ◌++◌, length, take, drop, get_or, Bool, Some, None, refl, sym, ◌∙◌, ap, subst, arith, append_assoc}
use Rattle.std.specs.Prelude.{String, Vec, string_bytes}
use Rattle.std.specs.declared.alloc.Global.{Global}
use Rattle.std.specs.Str.{bytes_eq}
use Rattle.std.proofs.Math.ListN.{set}
use Rattle.std.proofs.lemmas.List.{get_or-map, length-map, get_or_read, map-set, drop-drop, take_at, map-append, take_more}
use Rattle.std.proofs.Math.Seq.{map-set_same}
use Rattle.std.specs.Vec.{with_items}
use Rattle.hall_core.specs.Facts.{Attached, unit_of}
use Rattle.stop_model.specs.Files.{File, file_of, patched, written}
use Rattle.hall_core.specs.Laws.{other_name, same_name, tail_first, file_at_first, shape_at}
use Rattle.hall_core.specs.Held.{file_of_pair, files_of, attached_as, shapes_of, units_at, IsFirst, AreFirst, IsSpare}
use Rattle.std.specs.List.{All}
use Rattle.std.proofs.lemmas.List.Elements.{All-weaker}
use Rattle.hall_core.specs.declared.mem_hall.MemHall.{MemHall}

-- a spare pair has also less room
pub spare_less : (pair : String Global × Vec ℕ Global) (n m : ℕ) → m ≤ n → IsSpare n pair → IsSpare m pair
spare_less pair n m less spare = record { no_name = spare.no_name; no_bytes = spare.no_bytes; name_room = omega (arith, less, spare.name_room); bytes_room = omega (arith, less, spare.bytes_room) }

-- so have spare pairs
pub spares_less : (pairs : List (String Global × Vec ℕ Global)) (n m : ℕ) → m ≤ n → All (IsSpare n) pairs → All (IsSpare m) pairs
spares_less pairs n m less all = All-weaker (IsSpare n) (IsSpare m) (λ pair spare. spare_less pair n m less spare) pairs all

-- a write over the first file of a name
pub written_first : (files : List File) (place : ℕ) (d : File) (at : ℕ) (bytes : List ℕ) → IsFirst (shapes_of files) place → written files (unit_of (shapes_of files) place).name at bytes ≡ set files place (record (get_or files place d) { bytes = patched (get_or files place d).bytes at bytes })
unfolding written
written_first [] place d at bytes first = absurd (omega (arith, first.inside))
written_first (f ∷ files) zero d at bytes first = rw (same_name f.name) refl
written_first (f ∷ files) (suc place) d at bytes first = rw (other_name f.name _ (first.before 0 (omega arith))) (ap (λ (l : List File). f ∷ l) (written_first files place d at bytes (tail_first f files place first)))

-- what is put into the middle of an image
pub mid_patched : (xs bs : List ℕ) (at : ℕ) → take at xs ++ (bs ++ drop (length bs) (drop at xs)) ≡ patched xs at bs
unfolding patched
mid_patched xs bs at = rw (drop-drop) (sym (append_assoc (take at xs) bs (drop (at + length bs) xs)))

-- no file has a name that each of them differs from
pub none_named : (files : List File) (name : List ℕ) → ((k : ℕ) → k < length files → (unit_of (shapes_of files) k).name ≢ name) → file_of files name ≡ None
none_named [] name others = refl
none_named (f ∷ files) name others = rw (other_name f.name name (others 0 (omega arith))) (none_named files name (λ k low. others (suc k) (omega arith)))

pub inside_pairs : (pairs : List (String Global × Vec ℕ Global)) (place : ℕ) → IsFirst (shapes_of (files_of pairs)) place → place < length pairs
inside_pairs pairs place first = omega (arith, first.inside, length-map (files_of pairs) attached_as, length-map pairs file_of_pair)

-- the file of a pair
pub file_at_pair : (pairs : List (String Global × Vec ℕ Global)) (place : ℕ) (pair : String Global × Vec ℕ Global) → place < length pairs → pair ≡ get_or pairs place pair → get_or (files_of pairs) place (file_of_pair pair) ≡ file_of_pair pair
file_at_pair pairs place pair low is = get_or-map file_of_pair pairs place pair _ low ∙ ap file_of_pair (sym is)

-- the name and size of a pair
pub shape_of_pair : (pairs : List (String Global × Vec ℕ Global)) (place : ℕ) (pair : String Global × Vec ℕ Global) → place < length pairs → pair ≡ get_or pairs place pair → unit_of (shapes_of (files_of pairs)) place ≡ attached_as (file_of_pair pair)
shape_of_pair pairs place pair low is =
    let inside : place < length (files_of pairs) = omega (arith, low, length-map pairs file_of_pair) in
    shape_at (files_of pairs) place (file_of_pair pair) inside ∙ ap attached_as (file_at_pair pairs place pair low is)

-- the bytes put in place of an image of their length
items_with_items : (v : Vec ℕ Global) (ys : List ℕ) → length ys ≡ length v.items → (with_items v ys).items ≡ ys
items_with_items v ys same = take_at ys (drop (length ys) v.items) v.len (omega (arith, v.ok.0, same))

-- what a write over the bytes of a pair makes of the files
pub record Patched (pairs : List (String Global × Vec ℕ Global)) (place : ℕ) (pair : String Global × Vec ℕ Global) (image : List ℕ) (at : ℕ) (bytes : List ℕ) : Type 0 where
  pub done : files_of (set pairs place (pair.0, with_items pair.1 image)) ≡ written (files_of pairs) (unit_of (shapes_of (files_of pairs)) place).name at bytes
  pub shapes : shapes_of (files_of (set pairs place (pair.0, with_items pair.1 image))) ≡ shapes_of (files_of pairs)

abbrev over : ℕ → List ℕ → File → File
over at bytes f = record f { bytes = patched f.bytes at bytes }

pub patched_pairs : (pairs : List (String Global × Vec ℕ Global)) (place : ℕ) (pair : String Global × Vec ℕ Global) (old image : List ℕ) (at : ℕ) (bytes : List ℕ)
    → IsFirst (shapes_of (files_of pairs)) place → pair ≡ get_or pairs place pair → old ≡ pair.1.items → image ≡ patched old at bytes → length image ≡ length old → Patched pairs place pair image at bytes
patched_pairs pairs place pair old image at bytes first is reads patch size = record {
  done = new_files ∙ ap (set files place) new_file ∙ sym (written_first files place (file_of_pair pair) at bytes first);
  shapes = ap shapes_of new_files ∙ map-set_same attached_as files place (file_of_pair (pair.0, with_items pair.1 image)) (file_of_pair pair) same_shape;
}
  where
    files : List File
    files = files_of pairs

    low : place < length pairs
    low = inside_pairs pairs place first

    here : get_or files place (file_of_pair pair) ≡ file_of_pair pair
    here = file_at_pair pairs place pair low is

    put : (with_items pair.1 image).items ≡ image
    put = items_with_items pair.1 image (size ∙ ap length reads)

    new_files : files_of (set pairs place (pair.0, with_items pair.1 image)) ≡ set files place (file_of_pair (pair.0, with_items pair.1 image))
    new_files = map-set file_of_pair pairs place (pair.0, with_items pair.1 image)

    new_file : file_of_pair (pair.0, with_items pair.1 image) ≡ over at bytes (get_or files place (file_of_pair pair))
    new_file =
        ap (λ (b : List ℕ). let f : File = record { name = string_bytes pair.0; bytes = b } in f) (put ∙ patch ∙ ap (λ (b : List ℕ). patched b at bytes) reads)
        ∙ ap (over at bytes) (sym here)

    same_shape : attached_as (file_of_pair (pair.0, with_items pair.1 image)) ≡ attached_as (get_or files place (file_of_pair pair))
    same_shape =
        ap (λ (n : ℕ). let a : Attached = record { name = string_bytes pair.0; size = n } in a) (ap length put ∙ size ∙ ap length reads)
        ∙ ap attached_as (sym here)

-- a file of the name that was compared
pub named_at : (pairs : List (String Global × Vec ℕ Global)) (place : ℕ) (pair : String Global × Vec ℕ Global) (text name : List ℕ) (answer : Bool) → place < length pairs → pair ≡ get_or pairs place pair → text ≡ string_bytes pair.0 → answer ≡ bytes_eq text name → bytes_eq (unit_of (shapes_of (files_of pairs)) place).name name ≡ answer
named_at pairs place pair text name answer low is reads test =
    ap (λ (u : Attached). bytes_eq u.name name) (shape_of_pair pairs place pair low is) ∙ ap (λ (l : List ℕ). bytes_eq l name) (sym reads) ∙ sym test

-- the pair of a unit
pub record IsPairOf (pairs : List (String Global × Vec ℕ Global)) (places : List ℕ) (unit place : ℕ) (pair : String Global × Vec ℕ Global) : Type 0 where
  pub is_first : IsFirst (shapes_of (files_of pairs)) place
  pub shape : unit_of (units_at (shapes_of (files_of pairs)) places) unit ≡ unit_of (shapes_of (files_of pairs)) place
  pub size : (unit_of (units_at (shapes_of (files_of pairs)) places) unit).size ≡ length pair.1.items
  pub file : file_of (files_of pairs) (unit_of (units_at (shapes_of (files_of pairs)) places) unit).name ≡ Some pair.1.items

-- the place of a unit
pub record IsPlaceOf (shapes : List Attached) (places : List ℕ) (unit place : ℕ) : Type 0 where
  pub is_first : IsFirst shapes place
  pub shape : unit_of (units_at shapes places) unit ≡ unit_of shapes place

pub place_read : (shapes : List Attached) (places : List ℕ) (unit place : ℕ) → AreFirst shapes places → unit < length (units_at shapes places) → place ≡ get_or places unit place → IsPlaceOf shapes places unit place
place_read shapes places unit place firsts low is =
    let inside : unit < length places = omega (arith, low, length-map places (unit_of shapes)) in
    let reads : place ≡ get_or places unit 0 = get_or_read places unit place inside is 0 in
    record {
      is_first = subst (λ (p : ℕ). IsFirst shapes p) (sym reads) (firsts unit inside);
      shape = get_or-map (unit_of shapes) places unit 0 _ inside ∙ ap (unit_of shapes) (sym reads);
    }

pub pair_read : (pairs : List (String Global × Vec ℕ Global)) (places : List ℕ) (unit place : ℕ) (pair : String Global × Vec ℕ Global) → AreFirst (shapes_of (files_of pairs)) places → unit < length (units_at (shapes_of (files_of pairs)) places) → place ≡ get_or places unit place → pair ≡ get_or pairs place pair → IsPairOf pairs places unit place pair
pair_read pairs places unit place pair firsts low is reads =
    let shapes = shapes_of (files_of pairs) in
    let p = place_read shapes places unit place firsts low is in
    let inside : place < length pairs = inside_pairs pairs place p.is_first in
    let shape : unit_of shapes place ≡ attached_as (file_of_pair pair) = shape_of_pair pairs place pair inside reads in
    record {
      is_first = p.is_first;
      shape = p.shape;
      size = ap (λ (u : Attached). u.size) (p.shape ∙ shape);
      file = ap (λ (u : Attached). file_of (files_of pairs) u.name) p.shape ∙ file_at_first (files_of pairs) place (file_of_pair pair) p.is_first ∙ ap (λ (f : File). Some f.bytes) (file_at_pair pairs place pair inside reads);
    }

-- the pair at the place of the first file of a name
pub pair_named : (pairs : List (String Global × Vec ℕ Global)) (place : ℕ) (pair : String Global × Vec ℕ Global) (name : List ℕ) → IsFirst (shapes_of (files_of pairs)) place → (unit_of (shapes_of (files_of pairs)) place).name ≡ name → pair ≡ get_or pairs place pair → file_of (files_of pairs) name ≡ Some pair.1.items
pair_named pairs place pair name first named reads =
    let inside : place < length pairs = inside_pairs pairs place first in
    ap (file_of (files_of pairs)) (sym named) ∙ file_at_first (files_of pairs) place (file_of_pair pair) first ∙ ap (λ (f : File). Some f.bytes) (file_at_pair pairs place pair inside reads)

-- a file that is the first of its name is there
pub there : (files : List File) (place : ℕ) (name : List ℕ) → IsFirst (shapes_of files) place → (unit_of (shapes_of files) place).name ≡ name → (image : List ℕ) × (file_of files name ≡ Some image)
there files place name first named = let d : File = record { name = []; bytes = [] } in (_, ap (file_of files) (sym named) ∙ file_at_first files place d first)

-- one file more of a copy
pub copied_more : (pairs copy copy' : List (String Global × Vec ℕ Global)) (i : ℕ) (pair item : String Global × Vec ℕ Global) → i < length pairs → files_of copy ≡ take i (files_of pairs) → copy' ≡ copy ++ pair ∷ [] → file_of_pair pair ≡ file_of_pair item → item ≡ get_or pairs i item → files_of copy' ≡ take (i + 1) (files_of pairs)
copied_more pairs copy copy' i pair item low so_far grown same reads =
    let files = files_of pairs in
    let here : get_or files i (file_of_pair item) ≡ file_of_pair pair = file_at_pair pairs i item low reads ∙ sym same in
    let inside : i < length files = omega (arith, low, length-map pairs file_of_pair) in
    ap files_of grown ∙ map-append file_of_pair copy (pair ∷ []) ∙ ap (λ (l : List File). l ++ file_of_pair pair ∷ []) so_far ∙ ap (λ (f : File). take i files ++ f ∷ []) (sym here) ∙ sym (take_more files i (file_of_pair item) inside)

-- the pair of a unit, read after a change that kept the files and the units
pub unit_read : (old new : MemHall) (unit place : ℕ) (pair : String Global × Vec ℕ Global) → new.files ≡ old.files → new.units ≡ old.units → unit < length (units_at (shapes_of (files_of old.files.items)) old.units.items) → place ≡ get_or new.units.items unit place → pair ≡ get_or new.files.items place pair → IsPairOf old.files.items old.units.items unit place pair
unit_read old new unit place pair files units low is reads =
    let low' : unit < length (units_at (shapes_of (files_of new.files.items)) new.units.items) = rw (files, units) low in
    rw (← files, ← units) (pair_read new.files.items new.units.items unit place pair new.replay.firsts low' is reads)
