-- A record is spread segment by segment.
use Rattle.std.proofs.Common.{◌≡◌, ◌∙◌, ap, sym, refl, subst, ℕ, zero, suc, ◌+◌, ◌-◌, ◌<◌, ◌≤◌, Bool, true, false, cond, not, List, [], ◌∷◌, ◌++◌, length, take, drop, Option, Some, None, arith}
pub use Rattle.std.proofs.Common.{length-append}
use Rattle.std.specs.Prelude.{if◌then◌else◌, ◌||◌, nat_le, nat_lt}
pub use Rattle.std.proofs.lemmas.List.{drop-drop}
use Rattle.std.proofs.lemmas.Bool.Decides.{nat_tests}
use Rattle.record_blocks.specs.declared.formats.Format.{Format}
use Rattle.record_blocks.specs.declared.formats.Base.{Base}
use Rattle.record_blocks.specs.declared.formats.Base.TheVariants.{Fixed, Variable, Undefined}
use Rattle.record_blocks.specs.Formats.{is_blocked, has_s, base_of}
use Rattle.record_blocks.specs.Packing.{room, room_as, needed, needed_as, is_spanned, is_spanned_as, block_of}
use Rattle.record_blocks.specs.Spanning.{closes, is_last_at, filling_at, least, in_open, is_last, filling, segment, filled_block, blocks_of_record, spanned_blocks, spanned_rest, must_close, pieces_in}
use Rattle.record_blocks.proofs.Steps.{drop-front}
pub use Rattle.record_blocks.proofs.Bounds.{block-fits}

-- bytes that are passed over are not placed again
spread-passed : (format : Format) (behind : List ℕ → List (List ℕ)) (start : Option (List ℕ)) (parted : Bool) (k : ℕ) (bs : List ℕ) → k ≤ length bs → blocks_of_record format behind start parted k bs ≡ blocks_of_record format behind start parted 0 (drop k bs)
unfolding blocks_of_record
spread-passed format behind start parted zero bs h = refl
spread-passed format behind start parted (suc k) [] h = absurd (omega arith)
spread-passed format behind start parted (suc k) (b ∷ bs) h = spread-passed format behind start parted k bs (omega arith)

-- the blocks with a segment in the block of these pieces
abbrev pub placed_in : Format → (List ℕ → List (List ℕ)) → Bool → List ℕ → List ℕ → List (List ℕ)
placed_in format behind parted rest body =
    if is_last format body rest then behind (body ++ segment parted true rest)
    else filled_block format parted body rest ∷ blocks_of_record format behind None true 0 (drop (filling format body) rest)

within-rest : (total size count : ℕ) → size + 5 ≤ total → nat_le (suc count + (size + 4)) total ≡ false → (total - (size + 4)) - 1 ≤ count
within-rest total size count h e = grind (arith, nat_tests)

pick-last : (format : Format) (behind : List ℕ → List (List ℕ)) (parted : Bool) (b : ℕ) (bs : List ℕ) (body : List ℕ) → length body + 5 ≤ room format → (v : Bool) → is_last format body (b ∷ bs) ≡ v
    → (if v then behind (body ++ segment parted true (b ∷ bs)) else filled_block format parted body (b ∷ bs) ∷ blocks_of_record format behind None true (filling format body - 1) bs)
    ≡ (if v then behind (body ++ segment parted true (b ∷ bs)) else filled_block format parted body (b ∷ bs) ∷ blocks_of_record format behind None true 0 (drop (filling format body) (b ∷ bs)))
pick-last format behind parted b bs body h true e = refl
pick-last format behind parted b bs body h false e =
    let within : filling format body - 1 ≤ length bs = within-rest (room format) (length body) (length bs) h e in
    let some : 0 < filling format body = omega arith in
    ap (λ others. filled_block format parted body (b ∷ bs) ∷ others) (spread-passed format behind None true (filling format body - 1) bs within ∙ ap (λ xs. blocks_of_record format behind None true 0 xs) (drop-front (filling format body) b bs some))

placed-same : (format : Format) (behind : List ℕ → List (List ℕ)) (parted : Bool) (b : ℕ) (bs : List ℕ) (body : List ℕ) → length body + 5 ≤ room format
    → (if is_last format body (b ∷ bs) then behind (body ++ segment parted true (b ∷ bs)) else filled_block format parted body (b ∷ bs) ∷ blocks_of_record format behind None true (filling format body - 1) bs)
    ≡ placed_in format behind parted (b ∷ bs) body
placed-same format behind parted b bs body h =
    let rest = b ∷ bs in
    let pick : (v : Bool) → is_last format body rest ≡ v
    → (if v then behind (body ++ segment parted true rest) else filled_block format parted body rest ∷ blocks_of_record format behind None true (filling format body - 1) bs)
    ≡ (if v then behind (body ++ segment parted true rest) else filled_block format parted body rest ∷ blocks_of_record format behind None true 0 (drop (filling format body) rest))
    = pick-last format behind parted b bs body h in
    pick (is_last format body rest) refl

open-room : (blocked : Bool) (total used : ℕ) → not blocked || nat_lt total used ≡ false → used ≤ total
open-room true total used e = grind (arith, nat_tests)
open-room false total used e = cc

pick-open : (format : Format) (body : List ℕ) (size : ℕ) (f g : List ℕ → List (List ℕ)) → size ≤ room format → ((body : List ℕ) → length body + size ≤ room format → f body ≡ g body) → (v : Bool) → closes format body size ≡ v
    → (if v then block_of format body ∷ f [] else f body) ≡ (if v then block_of format body ∷ g [] else g body)
pick-open format body size f g r h true e = ap (λ others. block_of format body ∷ others) (h [] (omega arith))
pick-open format body size f g r h false e = h body (open-room (is_blocked format) (room format) (length body + size) e)

open-same : (format : Format) (start : Option (List ℕ)) (size : ℕ) (f g : List ℕ → List (List ℕ)) → size ≤ room format → ((body : List ℕ) → length body + size ≤ room format → f body ≡ g body) → in_open format start size f ≡ in_open format start size g
open-same format None size f g r h = h [] (omega arith)
open-same format (Some body) size f g r h = pick-open format body size f g r h (closes format body size) refl

whole-last : (format : Format) (behind : List ℕ → List (List ℕ)) (parted : Bool) (body : List ℕ) → length body + 4 ≤ room format → behind (body ++ segment parted true []) ≡ placed_in format behind parted [] body
whole-last format behind parted body h = let last : is_last format body [] ≡ true = grind (arith, nat_tests) in rw last refl

pub spread-next : (format : Format) (behind : List ℕ → List (List ℕ)) (start : Option (List ℕ)) (parted : Bool) (rest : List ℕ) → 5 ≤ room format → blocks_of_record format behind start parted 0 rest ≡ in_open format start (least rest) (placed_in format behind parted rest)
unfolding blocks_of_record
spread-next format behind start parted [] r = open-same format start 4 (λ body. behind (body ++ segment parted true [])) (placed_in format behind parted []) (omega arith) (λ body h. whole-last format behind parted body h)
spread-next format behind start parted (b ∷ bs) r = open-same format start 5 (λ body. if is_last format body (b ∷ bs) then behind (body ++ segment parted true (b ∷ bs)) else filled_block format parted body (b ∷ bs) ∷ blocks_of_record format behind None true (filling format body - 1) bs) (placed_in format behind parted (b ∷ bs)) r (λ body h. placed-same format behind parted b bs body h)

-- a block for VS and VBS has room for a segment of a byte
room-five : (spanned : Bool) (lrecl total : ℕ) → spanned ≡ true → (if spanned then 5 else lrecl) ≤ total → 5 ≤ total
room-five true lrecl total e h = h
room-five false lrecl total e h = cc

pub room-spread : (base : Base) (format : Format) → is_spanned_as base format ≡ true → needed_as base format ≤ room_as base format → 5 ≤ room_as base format
room-spread Fixed format e h = cc
room-spread Variable format e h = omega (arith, room-five (has_s format) format.lrecl (format.blksize - 4) e h)
room-spread Undefined format e h = cc

pub room-of : (format : Format) → is_spanned format ≡ true → needed format ≤ room format → 5 ≤ room format
room-of format e h = room-spread (base_of format) format e h

-- a record begins to be spread
pub spread-begins : (format : Format) (start : Option (List ℕ)) (rec : List ℕ) (recs : List (List ℕ)) → spanned_blocks format start (rec ∷ recs) ≡ spanned_rest format start 0 rec recs
unfolding spanned_blocks spanned_rest
spread-begins format start rec recs = refl

-- what comes where the open block takes no segment
pub spread-closes : (format : Format) (start : Option (List ℕ)) (placed : ℕ) (rest : List ℕ) (recs : List (List ℕ)) → is_spanned format ≡ true → needed format ≤ room format → must_close format start rest ≡ true
    → spanned_rest format start placed rest recs ≡ block_of format (pieces_in start) ∷ spanned_rest format None placed rest recs
unfolding spanned_rest must_close pieces_in
spread-closes format None placed rest recs e h m = cc
spread-closes format (Some body) placed rest recs e h m =
    let behind : List ℕ → List (List ℕ) = λ body. spanned_blocks format (Some body) recs in
    let five = room-of format e h in
    spread-next format behind (Some body) (nat_lt 0 placed) rest five
    ∙ (rw m refl)
    ∙ ap (λ others. block_of format body ∷ others) (sym (spread-next format behind None (nat_lt 0 placed) rest five))

open-at : (format : Format) (start : Option (List ℕ)) (rest : List ℕ) (f : List ℕ → List (List ℕ)) → must_close format start rest ≡ false → in_open format start (least rest) f ≡ f (pieces_in start)
unfolding must_close pieces_in
open-at format None rest f m = refl
open-at format (Some body) rest f m = rw m refl

-- where it takes the last one
pub spread-ends : (format : Format) (start : Option (List ℕ)) (placed : ℕ) (rest : List ℕ) (recs : List (List ℕ)) → is_spanned format ≡ true → needed format ≤ room format → must_close format start rest ≡ false → is_last format (pieces_in start) rest ≡ true
    → spanned_rest format start placed rest recs ≡ spanned_blocks format (Some (pieces_in start ++ segment (nat_lt 0 placed) true rest)) recs
unfolding spanned_rest
spread-ends format start placed rest recs e h m l =
    let behind : List ℕ → List (List ℕ) = λ body. spanned_blocks format (Some body) recs in
    spread-next format behind start (nat_lt 0 placed) rest (room-of format e h) ∙ open-at format start rest (placed_in format behind (nat_lt 0 placed) rest) m ∙ (rw l refl)

pub some-placed : (placed size : ℕ) → 0 < size → true ≡ nat_lt 0 (placed + size)
some-placed placed size h = grind (arith, nat_tests)

-- and where a segment fills it
pub spread-fills : (format : Format) (start : Option (List ℕ)) (placed : ℕ) (rest : List ℕ) (recs : List (List ℕ)) → is_spanned format ≡ true → needed format ≤ room format → must_close format start rest ≡ false → is_last format (pieces_in start) rest ≡ false → 0 < filling format (pieces_in start)
    → spanned_rest format start placed rest recs ≡ filled_block format (nat_lt 0 placed) (pieces_in start) rest ∷ spanned_rest format None (placed + filling format (pieces_in start)) (drop (filling format (pieces_in start)) rest) recs
unfolding spanned_rest
spread-fills format start placed rest recs e h m l some =
    let behind : List ℕ → List (List ℕ) = λ body. spanned_blocks format (Some body) recs in
    let size = filling format (pieces_in start) in
    spread-next format behind start (nat_lt 0 placed) rest (room-of format e h) ∙ open-at format start rest (placed_in format behind (nat_lt 0 placed) rest) m ∙ (rw l refl)
    ∙ ap (λ parted. filled_block format (nat_lt 0 placed) (pieces_in start) rest ∷ blocks_of_record format behind None parted 0 (drop size rest)) (some-placed placed size some)

empty-is : (xs : List ℕ) → length xs ≡ 0 → [] ≡ xs
empty-is [] h = refl
empty-is (x ∷ xs) h = absurd (omega arith)

-- the pieces of an open block, or none
pub pieces-are : (begun : Bool) (body : List ℕ) → (begun ≡ false → length body ≡ 0) → pieces_in (if begun then Some body else None) ≡ body
unfolding pieces_in
pieces-are true body h = refl
pieces-are false body h = empty-is body (h refl)

pub some-filling : (format : Format) (body rest : List ℕ) → length body + least rest ≤ room format → is_last_at format (length body) (length rest) ≡ false → 0 < filling_at format (length body)
some-filling format body [] h l = grind (arith, nat_tests)
some-filling format body (b ∷ bs) h l = omega arith

-- the same of a block that is open or empty
pub open-ends : (format : Format) (begun : Bool) (body : List ℕ) (placed : ℕ) (rest : List ℕ) (recs : List (List ℕ)) → is_spanned format ≡ true → needed format ≤ room format → (begun ≡ false → length body ≡ 0)
    → must_close format (if begun then Some body else None) rest ≡ false → is_last_at format (length body) (length rest) ≡ true
    → spanned_rest format (if begun then Some body else None) placed rest recs ≡ spanned_blocks format (Some (body ++ segment (nat_lt 0 placed) true rest)) recs
open-ends format begun body placed rest recs e h closed m l =
    let start : Option (List ℕ) = if begun then Some body else None in
    let are : pieces_in start ≡ body = pieces-are begun body closed in
    spread-ends format start placed rest recs e h m (rw are l) ∙ ap (λ xs. spanned_blocks format (Some (xs ++ segment (nat_lt 0 placed) true rest)) recs) are

pub open-fills : (format : Format) (begun : Bool) (body : List ℕ) (placed : ℕ) (rest : List ℕ) (recs : List (List ℕ)) → is_spanned format ≡ true → needed format ≤ room format → (begun ≡ false → length body ≡ 0)
    → must_close format (if begun then Some body else None) rest ≡ false → length body + least rest ≤ room format → is_last_at format (length body) (length rest) ≡ false
    → spanned_rest format (if begun then Some body else None) placed rest recs
    ≡ filled_block format (nat_lt 0 placed) body rest ∷ spanned_rest format None (placed + filling_at format (length body)) (drop (filling_at format (length body)) rest) recs
open-fills format begun body placed rest recs e h closed m r l =
    let start : Option (List ℕ) = if begun then Some body else None in
    let are : pieces_in start ≡ body = pieces-are begun body closed in
    spread-fills format start placed rest recs e h m (rw are l) (rw are (some-filling format body rest r l))
    ∙ ap (λ xs. filled_block format (nat_lt 0 placed) xs rest ∷ spanned_rest format None (placed + filling format xs) (drop (filling format xs) rest) recs) are

pub ruleset spanning = (block-fits, length-append, spread-begins, spread-closes, open-ends, open-fills, pieces-are, room-of, drop-drop)

pub ruleset begins = (spread-begins)

pub ruleset rooms = (room-of)
