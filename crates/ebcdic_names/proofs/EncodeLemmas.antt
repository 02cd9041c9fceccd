-- The bytes of a text, written one by one over blanks.
use Rattle.std.proofs.Common.{◌≡◌, ℕ, suc, ◌+◌, ◌-◌, ◌<◌, List, [], ◌∷◌, ◌++◌, length, map, replicate, set, sym, ap, ◌∙◌, arith, append_assoc}
use Rattle.std.proofs.Math.Seq.{set-append_seam}
use Rattle.std.proofs.lemmas.List.{length-map, map_push, map-id}
use Rattle.ebcdic_names.specs.Names.{byte_of, padded}

one_more : (n m : ℕ) → m < n → replicate {A = ℕ} (n - m) 64 ≡ 64 ∷ replicate {A = ℕ} (n - (m + 1)) 64
one_more n m h = let e : n - m ≡ suc (n - (m + 1)) = omega (arith, h) in ap (λ (k : ℕ). replicate {A = ℕ} k 64) e

-- the byte of one more character
pub one_byte : (ys : List ℕ) (c n m b : ℕ) (bytes : List ℕ) → m ≡ length ys → m < n → b ≡ byte_of c
    → bytes ≡ map byte_of ys ++ replicate {A = ℕ} (n - m) 64 → set bytes m b ≡ map byte_of (ys ++ c ∷ []) ++ replicate {A = ℕ} (n - (m + 1)) 64
one_byte ys c n m b bytes at room is before =
    let len : m ≡ length (map byte_of ys) = at ∙ sym (length-map ys byte_of) in
    ap (λ (bs : List ℕ). set bs m b) (before ∙ ap (λ (bs : List ℕ). map byte_of ys ++ bs) (one_more n m room))
    ∙ ap (λ (k : ℕ). set (map byte_of ys ++ 64 ∷ replicate {A = ℕ} (n - (m + 1)) 64) k b) len
    ∙ set-append_seam (map byte_of ys) 64 (replicate {A = ℕ} (n - (m + 1)) 64) b
    ∙ ap (λ (x : ℕ). map byte_of ys ++ x ∷ replicate {A = ℕ} (n - (m + 1)) 64) is
    ∙ sym (append_assoc (map byte_of ys) (byte_of c ∷ []) (replicate {A = ℕ} (n - (m + 1)) 64))
    ∙ ap (λ (bs : List ℕ). bs ++ replicate {A = ℕ} (n - (m + 1)) 64) (sym (map_push byte_of ys c))

-- the bytes of all characters
pub all_bytes : (ys cs : List ℕ) (n m : ℕ) (bytes : List ℕ) → m ≡ length ys → map (λ x. x) ys ≡ cs → bytes ≡ map byte_of ys ++ replicate {A = ℕ} (n - m) 64 → bytes ≡ padded n cs
all_bytes ys cs n m bytes at whole before =
    before ∙ ap (λ (k : ℕ). map byte_of ys ++ replicate {A = ℕ} (n - k) 64) at ∙ ap (λ (l : List ℕ). padded n l) (sym (map-id ys) ∙ whole)
