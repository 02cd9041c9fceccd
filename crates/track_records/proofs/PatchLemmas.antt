-- What is read of bytes over which others were written.
use Rattle.std.proofs.Common.{◌≡◌, ◌<◌, ◌≤◌, ◌+◌, ◌-◌, ℕ, List, ◌++◌, length, take, drop, get_or, refl, sym, ◌∙◌, ap, arith, append_assoc, length-append, length-drop, ⊎_elim}
use Rattle.std.specs.Prelude.{slice_range, slice_index}
use Rattle.std.proofs.lemmas.Bool.{cases_lt}
use Rattle.std.proofs.lemmas.List.{take-take, drop-take, drop-drop, get_or-take, length-take-le, take-append-le, drop-append-le, take_at, drop_at}
use Rattle.stop_model.specs.Files.{patched}

-- the bytes before the place are as they were
pub take-patched : (image bytes : List ℕ) (n at : ℕ) → n ≤ at → at ≤ length image → take n (patched image at bytes) ≡ take n image
unfolding patched
take-patched image bytes n at low inside =
    let whole : length (take at image) ≡ at = length-take-le at image inside in
    let within : n ≤ length (take at image) = omega arith in
    rw (append_assoc (take at image) bytes (drop (at + length bytes) image)) (take-append-le n (take at image) (bytes ++ drop (at + length bytes) image) within ∙ take-take n at image low)

-- and so are those after them
pub drop-patched_behind : (image bytes : List ℕ) (n at : ℕ) → n ≡ at + length bytes → at ≤ length image → drop n (patched image at bytes) ≡ drop n image
unfolding patched
drop-patched_behind image bytes n at is inside =
    let whole : length (take at image) ≡ at = length-take-le at image inside in
    drop_at (take at image ++ bytes) (drop (at + length bytes) image) n (length-append (take at image) bytes ∙ omega arith) ∙ ap (λ (m : ℕ). drop m image) (sym is)

-- the bytes are as many as before
pub length-patched : (image bytes : List ℕ) (at : ℕ) → at + length bytes ≤ length image → length (patched image at bytes) ≡ length image
unfolding patched
length-patched image bytes at inside =
    let before : length (take at image) ≡ at = length-take-le at image (omega arith) in
    omega (arith, length-append (take at image ++ bytes) (drop (at + length bytes) image), length-append (take at image) bytes, length-drop (at + length bytes) image, before)

-- at the place stand the bytes that were written
pub range-patched : (image bytes : List ℕ) (at : ℕ) → at ≤ length image → take (length bytes) (drop at (patched image at bytes)) ≡ bytes
unfolding patched
range-patched image bytes at inside =
    let whole : length (take at image) ≡ at = length-take-le at image inside in
    ap (λ (l : List ℕ). take (length bytes) (drop at l)) (append_assoc (take at image) bytes (drop (at + length bytes) image))
    ∙ ap (take (length bytes)) (drop_at (take at image) (bytes ++ drop (at + length bytes) image) at whole)
    ∙ take_at bytes (drop (at + length bytes) image) (length bytes) refl

-- after a front part they are the rest of the image, written over nearer
pub drop-patched : (image bytes : List ℕ) (n at : ℕ) → n + at ≤ length image → drop n (patched image (n + at) bytes) ≡ patched (drop n image) at bytes
unfolding patched
drop-patched image bytes n at inside =
    let whole : length (take (n + at) image) ≡ n + at = length-take-le (n + at) image inside in
    let within : n ≤ length (take (n + at) image) = omega arith in
    ap (drop n) (append_assoc (take (n + at) image) bytes (drop (n + at + length bytes) image))
    ∙ drop-append-le n (take (n + at) image) (bytes ++ drop (n + at + length bytes) image) within
    ∙ ap (λ (l : List ℕ). l ++ (bytes ++ drop (n + at + length bytes) image)) (drop-take n at image)
    ∙ sym (append_assoc (take at (drop n image)) bytes (drop (n + at + length bytes) image))
    ∙ ap (λ (l : List ℕ). take at (drop n image) ++ bytes ++ l) (ap (λ (m : ℕ). drop m image) (sum n at (length bytes)) ∙ sym (drop-drop (at + length bytes) n image))
  where
    sum : (a b c : ℕ) → a + b + c ≡ a + (b + c)
    sum a b c = omega arith

-- bytes that begin alike have the same parts there
pub range_alike : (n i j : ℕ) (xs ys : List ℕ) → j ≤ n → take n xs ≡ take n ys → slice_range xs i j ≡ slice_range ys i j
range_alike n i j xs ys low alike = ⊎_elim (λ before. inside (omega arith)) (λ past. none (omega arith)) (cases_lt i j)
  where
    cut : (zs : List ℕ) → i ≤ j → slice_range zs i j ≡ take (j - i) (drop i (take n zs))
    cut zs le =
        let size : n ≡ i + (n - i) = omega arith in
        let short : j - i ≤ n - i = omega arith in
        sym (ap (λ (m : ℕ). take (j - i) (drop i (take m zs))) size ∙ ap (take (j - i)) (drop-take i (n - i) zs) ∙ take-take (j - i) (n - i) (drop i zs) short)

    inside : i ≤ j → slice_range xs i j ≡ slice_range ys i j
    inside le = cut xs le ∙ ap (λ (l : List ℕ). take (j - i) (drop i l)) alike ∙ sym (cut ys le)

    none : j - i ≡ 0 → slice_range xs i j ≡ slice_range ys i j
    none is = rw is refl

pub index_alike : (n i : ℕ) (xs ys : List ℕ) → i < n → take n xs ≡ take n ys → slice_index xs i ≡ slice_index ys i
index_alike n i xs ys low alike = sym (get_or-take n xs i 0 low) ∙ ap (λ (l : List ℕ). get_or l i 0) alike ∙ get_or-take n ys i 0 low

pub take_alike : (n m : ℕ) (xs ys : List ℕ) → m ≤ n → take n xs ≡ take n ys → take m xs ≡ take m ys
take_alike n m xs ys low alike = sym (take-take m n xs low) ∙ ap (take m) alike ∙ take-take m n ys low

-- two parts that are put one after the other
pub put_twice : (image first second : List ℕ) (at : ℕ) → at ≤ length image
    → let once : List ℕ = take at image ++ (first ++ drop (length first) (drop at image)) in
    take (at + length first) once ++ (second ++ drop (length second) (drop (at + length first) once)) ≡ patched image at (first ++ second)
unfolding patched
put_twice image first second at inside =
    let rest : List ℕ = drop (length first) (drop at image) in
    let front : List ℕ = take at image ++ first in
    let whole : length (take at image) ≡ at = length-take-le at image inside in
    let long : length front ≡ at + length first = length-append (take at image) first ∙ ap (λ (n : ℕ). n + length first) whole in
    let joined : take at image ++ (first ++ rest) ≡ front ++ rest = sym (append_assoc (take at image) first rest) in
    let size : length (first ++ second) ≡ length first + length second = length-append first second in
    let behind : at + length first + length second ≡ at + length (first ++ second) = omega (arith, size) in
    let back : drop (length second) rest ≡ drop (at + length (first ++ second)) image =
    ap (drop (length second)) (drop-drop (length first) at image) ∙ drop-drop (length second) (at + length first) image ∙ ap (λ (n : ℕ). drop n image) behind
    in
    ap (λ (l : List ℕ). take (at + length first) l ++ (second ++ drop (length second) (drop (at + length first) l))) joined
    ∙ ap (λ (l : List ℕ). l ++ (second ++ drop (length second) (drop (at + length first) (front ++ rest)))) (take_at front rest (at + length first) long)
    ∙ ap (λ (l : List ℕ). front ++ (second ++ drop (length second) l)) (drop_at front rest (at + length first) long)
    ∙ ap (λ (l : List ℕ). front ++ (second ++ l)) back
    ∙ sym (append_assoc front second (drop (at + length (first ++ second)) image))
    ∙ ap (λ (l : List ℕ). l ++ drop (at + length (first ++ second)) image) (append_assoc (take at image) first second)
