-- Where the next block of a sequential data set goes, by the records of the last block's track.
use Rattle.std.proofs.Common.{◌≡◌, ◌+◌, ◌<◌, ℕ, suc, Bool, true, false, cond, List, [], ◌∷◌, ◌++◌, length, map, drop, refl, sym, ap, ◌∙◌, arith, append_assoc}
use Rattle.std.specs.Prelude.{◌==◌, filter}
use Rattle.std.proofs.lemmas.Bool.Decides.{nat_tests}
use Rattle.std.proofs.lemmas.List.{append-nil, drop_at}
use Rattle.ckd_image.specs.Track.{Record}
use Rattle.ckd_image.specs.declared.device.DiskType.{DiskType}
use Rattle.pack_spec.specs.Blocks.{blocks_from}
use Rattle.vol_model.specs.declared.contents.Block.{Block}
use Rattle.vol_model.specs.declared.contents.Body.TheVariants as bodies
use Rattle.vol_model.specs.declared.contents.Place.{Place}
use Rattle.vol_model.specs.Places.{Content, content, last_place, lengths, lengths_on, next_block, next_place, place_behind, placed}
use Rattle.seq_access.specs.Writing.{sizes}

-- blocks on tracks before this one
abbrev pub AreBefore : ℕ → List Block → Type 0
AreBefore k [] = Unit {0}
AreBefore k (b ∷ bs) = (b.place.tt < k) × AreBefore k bs

-- one more content after the others
pub placed_more : (device : DiskType) (old : List Block) (cs : List Content) (c : Content) → placed device (bodies.Seq old) (cs ++ c ∷ []) ≡ placed device (bodies.Seq old) cs ++ next_block device (bodies.Seq (old ++ placed device (bodies.Seq old) cs)) c ∷ []
unfolding placed
placed_more device old [] c = ap (λ (l : List Block). next_block device (bodies.Seq l) c ∷ []) (sym (append-nil old))
placed_more device old (d ∷ cs) c =
    let b : Block = next_block device (bodies.Seq old) d in
    let rest : List Block = placed device (bodies.Seq (old ++ b ∷ [])) cs in
    ap (λ (l : List Block). b ∷ l) (placed_more device (old ++ b ∷ []) cs c ∙ ap (λ (l : List Block). rest ++ next_block device (bodies.Seq l) c ∷ []) (append_assoc old (b ∷ []) rest))

pub written_more : (device : DiskType) (old : List Block) (cs : List Content) (c : Content) → old ++ placed device (bodies.Seq old) (cs ++ c ∷ []) ≡ (old ++ placed device (bodies.Seq old) cs) ++ next_block device (bodies.Seq (old ++ placed device (bodies.Seq old) cs)) c ∷ []
written_more device old cs c = ap (λ (l : List Block). old ++ l) (placed_more device old cs c) ∙ sym (append_assoc old (placed device (bodies.Seq old) cs) (next_block device (bodies.Seq (old ++ placed device (bodies.Seq old) cs)) c ∷ []))

-- what the placed blocks hold
pub contents_placed : (device : DiskType) (old : List Block) (cs : List Content) → map content (placed device (bodies.Seq old) cs) ≡ cs
unfolding placed
contents_placed device old [] = refl
contents_placed device old (c ∷ cs) = ap (λ (l : List Content). c ∷ l) (contents_placed device (old ++ next_block device (bodies.Seq old) c ∷ []) cs)

pub contents_behind : (device : DiskType) (old : List Block) (cs : List Content) → map content (drop (length old) (old ++ placed device (bodies.Seq old) cs)) ≡ cs
contents_behind device old cs = ap (map content) (drop_at old (placed device (bodies.Seq old) cs) (length old) refl) ∙ contents_placed device old cs

-- tests of two numbers
apart : (m n : ℕ) → m < n → (m == n) ≡ true → ⊥
apart m n low is = grind (arith, nat_tests)

itself : (n : ℕ) → (n == n) ≡ false → ⊥
itself n is = grind (arith, nat_tests)

-- the blocks on a track, where others stand before it
pub lengths_before : (k : ℕ) (front rest : List Block) → AreBefore k front → lengths_on k (front ++ rest) ≡ lengths_on k rest
lengths_before k [] rest before = refl
lengths_before k (b ∷ bs) rest before = by (b.place.tt == k) refl (lengths_before k bs rest before.1)
  where
    by : (t : Bool) → (b.place.tt == k) ≡ t → lengths_on k (bs ++ rest) ≡ lengths_on k rest → map (λ (x : Block). lengths (content x)) (cond t (b ∷ filter (λ (x : Block). x.place.tt == k) (bs ++ rest)) (filter (λ (x : Block). x.place.tt == k) (bs ++ rest))) ≡ lengths_on k rest
    by true is more = absurd (apart b.place.tt k before.0 is)
    by false is more = more

pub lengths_at : (k r : ℕ) (xs : List Record) → lengths_on k (blocks_from k r xs) ≡ map sizes xs
lengths_at k r [] = refl
lengths_at k r (x ∷ xs) = by (k == k) refl (lengths_at k (r + 1) xs)
  where
    by : (t : Bool) → (k == k) ≡ t → lengths_on k (blocks_from k (r + 1) xs) ≡ map sizes xs → map (λ (y : Block). lengths (content y)) (cond t (record { place = record { tt = k; r = r }; key = x.key; payload = x.«data» } ∷ filter (λ (y : Block). y.place.tt == k) (blocks_from k (r + 1) xs)) (filter (λ (y : Block). y.place.tt == k) (blocks_from k (r + 1) xs))) ≡ map sizes (x ∷ xs)
    by true is more = ap (λ (l : List (ℕ × ℕ)). sizes x ∷ l) more
    by false is more = absurd (itself k is)

-- and the last of them
last_at : (p : Place) (k r : ℕ) (x : Record) (xs : List Record) → last_place p (blocks_from k r (x ∷ xs)) ≡ record { tt = k; r = r + length xs }
last_at p k r x [] = let none : r ≡ r + 0 = omega arith in ap (λ (n : ℕ). record { tt = k; r = n }) none
last_at p k r x (y ∷ xs) = let next : r + 1 + length xs ≡ r + suc (length xs) = omega arith in last_at (record { tt = k; r = r }) k (r + 1) y xs ∙ ap (λ (n : ℕ). record { tt = k; r = n }) next

pub last_behind : (p : Place) (front : List Block) (k r : ℕ) (x : Record) (xs : List Record) → last_place p (front ++ blocks_from k r (x ∷ xs)) ≡ record { tt = k; r = r + length xs }
last_behind p [] k r x xs = last_at p k r x xs
last_behind p (b ∷ bs) k r x xs = last_behind b.place bs k r x xs

-- The next content goes after the last record, by the lengths of those on its track.
pub next_behind : (device : DiskType) (front : List Block) (k : ℕ) (x : Record) (xs : List Record) (c : Content) → AreBefore k front
    → next_place device (bodies.Seq (front ++ blocks_from k 1 (x ∷ xs))) c ≡ place_behind device (record { tt = k; r = length (x ∷ xs) }) (map sizes (x ∷ xs)) (lengths c)
unfolding next_place
next_behind device front k x xs c before = by front before
  where
    count : 1 + length xs ≡ length (x ∷ xs)
    count = omega arith

    at : (bs : List Block) (last : Place) → last ≡ record { tt = k; r = 1 + length xs } → lengths_on k bs ≡ map sizes (x ∷ xs) → place_behind device last (lengths_on last.tt bs) (lengths c) ≡ place_behind device (record { tt = k; r = length (x ∷ xs) }) (map sizes (x ∷ xs)) (lengths c)
    at bs last is are = ap (λ (p : Place). place_behind device p (lengths_on p.tt bs) (lengths c)) (is ∙ ap (λ (n : ℕ). record { tt = k; r = n }) count) ∙ ap (λ (l : List (ℕ × ℕ)). place_behind device (record { tt = k; r = length (x ∷ xs) }) l (lengths c)) are

    by : (bs : List Block) → AreBefore k bs → next_place device (bodies.Seq (bs ++ blocks_from k 1 (x ∷ xs))) c ≡ place_behind device (record { tt = k; r = length (x ∷ xs) }) (map sizes (x ∷ xs)) (lengths c)
    by [] none = at (blocks_from k 1 (x ∷ xs)) (last_place (record { tt = k; r = 1 }) (blocks_from k 2 xs)) (last_at (record { tt = k; r = 1 }) k 1 x xs) (lengths_at k 1 (x ∷ xs))
    by (b ∷ bs) all = at (b ∷ bs ++ blocks_from k 1 (x ∷ xs)) (last_place b.place (bs ++ blocks_from k 1 (x ∷ xs))) (last_behind b.place bs k 1 x xs) (lengths_before k (b ∷ bs) (blocks_from k 1 (x ∷ xs)) all ∙ lengths_at k 1 (x ∷ xs))

-- and of no blocks, to the front of the first track
pub next_first : (device : DiskType) (c : Content) → next_place device (bodies.Seq []) c ≡ record { tt = 0; r = 1 }
unfolding next_place
next_first device c = refl
