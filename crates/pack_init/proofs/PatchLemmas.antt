-- Bytes that are written over others.
use Rattle.std.proofs.Common.{◌≡◌, ◌≤◌, ◌+◌, ℕ, List, ◌++◌, length, take, drop, ap, ap₂, sym, ◌∙◌, arith, append_assoc, length-append, length-drop, length-take-le}
use Rattle.std.proofs.lemmas.List.{take_at, drop_at, take-append-le, take-take}
use Rattle.stop_model.specs.Files.{patched}
use Rattle.pack_init.specs.Progress.{IsHeaderless}

-- over as many bytes after others
pub patched_at : (a c b r : List ℕ) (at : ℕ) → length a ≡ at → length c ≡ length b → patched (a ++ (c ++ r)) at b ≡ a ++ (b ++ r)
unfolding patched
patched_at a c b r at e same =
    let behind : length (a ++ c) ≡ at + length b = length-append a c ∙ omega arith in
    ap₂ (λ (x y : List ℕ). (x ++ b) ++ y) (take_at a (c ++ r) at e)
    (ap (drop (at + length b)) (sym (append_assoc a c r)) ∙ drop_at (a ++ c) r (at + length b) behind)
    ∙ append_assoc a b r

-- the length stays, where they are inside
pub length-patched : (image bytes : List ℕ) (at : ℕ) → at + length bytes ≤ length image → length (patched image at bytes) ≡ length image
unfolding patched
length-patched image bytes at inside =
    let front : length (take at image) ≡ at = length-take-le at image (omega arith) in
    omega (arith, length-append (take at image ++ bytes) (drop (at + length bytes) image), length-append (take at image) bytes, length-drop (at + length bytes) image)

-- and what stands before them
pub take-patched : (image bytes : List ℕ) (n at : ℕ) → n ≤ at → at ≤ length image → take n (patched image at bytes) ≡ take n image
unfolding patched
take-patched image bytes n at before inside =
    let whole : length (take at image) ≡ at = length-take-le at image inside in
    let within : n ≤ length (take at image) = omega arith in
    rw (append_assoc (take at image) bytes (drop (at + length bytes) image)) (take-append-le n (take at image) (bytes ++ drop (at + length bytes) image) within ∙ take-take n at image before)

-- an image keeps its zeros in the place of the header
pub headerless_patched : (size at : ℕ) (bytes image : List ℕ) → 512 ≤ at → at + length bytes ≤ size → IsHeaderless size image → IsHeaderless size (patched image at bytes)
headerless_patched size at bytes image behind inside was = record {
  whole = length-patched image bytes at (omega (arith, was.whole)) ∙ was.whole;
  zeros = take-patched image bytes 512 at behind (omega (arith, was.whole)) ∙ was.zeros;
}
