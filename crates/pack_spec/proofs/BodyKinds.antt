-- The body of a data set of any kind: what it is, and what it depends on.
use Rattle.std.proofs.Common.{◌≡◌, ℕ, Bool, true, false, cond, not, ◌&&◌, List, ◌++◌, Option, Some, None, refl, sym, ap, ap₂, ◌∙◌, arith}
use Rattle.std.specs.Prelude.{◌==◌, slice_get}
use Rattle.std.proofs.lemmas.Bool.Decides.{nat_tests}
use Rattle.ckd_image.specs.declared.header.Geometry.{Geometry}
use Rattle.vol_model.specs.declared.contents.Attr.{Attr}
use Rattle.vol_model.specs.declared.contents.Block.{Block}
use Rattle.vol_model.specs.declared.contents.Body.{Body}
use Rattle.vol_model.specs.declared.contents.Body.TheVariants.{Seq, Part, Other, Unreadable}
use Rattle.vol_model.specs.declared.contents.Entry.{Entry}
use Rattle.vol_model.specs.declared.contents.Place.{Place}
use Rattle.vol_model.specs.declared.contents.Run.{Run}
use Rattle.vol_model.specs.Shelf.{is_catalog, is_partitioned, is_sequential, organization, unreadable}
use Rattle.pack_spec.specs.Blocks.{last_of, owned_tracks, records_in, seq_body}
use Rattle.pack_spec.specs.Bodies.{body_of}
use Rattle.pack_spec.specs.Directories.{part_body}
use Rattle.pack_spec.proofs.BlockBodies.{more_extents, same_body}
use Rattle.pack_spec.proofs.PartBodies.{more_part, part_or_unread, same_part}
use Rattle.pack_spec.proofs.SeqBodies.{seq_or_unread}

-- a body by the answers to the tests on its kind
abbrev by_kind : Bool → Bool → Bool → Body → Body → Body
by_kind s p c seq part = cond s seq (cond p part (cond c (Unreadable 0) Other))

module _ (g : Geometry) (tracks : List (List ℕ)) (name : List ℕ) (attr : Attr) (extents : List Run) (lstar : List ℕ) where
  -- what is true of each body that is read
  pub body_cases : (P : Body → Type 0) → ((bs : List Block) → P (Seq bs)) → ((n : ℕ) (end : Place) (es : List Entry) (bs : List Block) → P (Part n end es bs)) → ((k : ℕ) → P (Unreadable k)) → P Other → P (body_of g tracks name attr extents lstar)
  unfolding body_of
  body_cases P seq part unread other = by (is_sequential name attr) (is_partitioned name attr) (is_catalog name)
    where
      by : (s p c : Bool) → P (by_kind s p c (seq_body g tracks extents lstar) (part_body g tracks extents lstar))
      by true p c = seq_or_unread g tracks extents lstar P seq unread
      by false true c = part_or_unread g tracks extents lstar P part unread
      by false false true = unread 0
      by false false false = other

  pub sequential_body : is_sequential name attr ≡ true → body_of g tracks name attr extents lstar ≡ seq_body g tracks extents lstar
  unfolding body_of
  sequential_body is = ap (λ (s : Bool). by_kind s (is_partitioned name attr) (is_catalog name) (seq_body g tracks extents lstar) (part_body g tracks extents lstar)) is

  pub partitioned_body : is_partitioned name attr ≡ true → body_of g tracks name attr extents lstar ≡ part_body g tracks extents lstar
  unfolding body_of
  partitioned_body is =
      ap (λ (s : Bool). by_kind s (is_partitioned name attr) (is_catalog name) (seq_body g tracks extents lstar) (part_body g tracks extents lstar)) (other (is_catalog name) (organization attr) is)
      ∙ ap (λ (p : Bool). by_kind false p (is_catalog name) (seq_body g tracks extents lstar) (part_body g tracks extents lstar)) is
    where
      apart : (n : ℕ) → (n == 1) ≡ true → (n == 32) ≡ false
      apart n one = grind (arith, nat_tests)

      other : (c : Bool) (n : ℕ) → (not c && n == 1) ≡ true → (not c && n == 32) ≡ false
      other true n one = refl
      other false n one = apart n one

-- It is the same where the tracks have the same records, to their end marker and up to any record.
module _ (g : Geometry) (a b : List (List ℕ)) (name : List ℕ) (attr : Attr) (extents : List Run) (lstar : List ℕ)
    (same : (k t : ℕ) (u : Option ℕ) → slice_get (owned_tracks extents) k ≡ Some t → records_in g b u t ≡ records_in g a u t) where
  pub body_same : body_of g b name attr extents lstar ≡ body_of g a name attr extents lstar
  unfolding body_of
  body_same =
      ap₂ (by_kind (is_sequential name attr) (is_partitioned name attr) (is_catalog name))
      (same_body g a b extents lstar (λ k t low own. same k t None own) (λ t own. same (last_of lstar).tt t (Some (last_of lstar).r) own))
      (same_part g a b extents lstar same)

-- One that can be read is the same with more extents after the others.
module _ (g : Geometry) (tracks : List (List ℕ)) (name : List ℕ) (attr : Attr) (extents more : List Run) (lstar : List ℕ) where
  seq_more : unreadable (seq_body g tracks extents lstar) ≡ None → seq_body g tracks (extents ++ more) lstar ≡ seq_body g tracks extents lstar
  seq_more = seq_or_unread g tracks extents lstar (λ (b : Body). seq_body g tracks extents lstar ≡ b → unreadable b ≡ None → seq_body g tracks (extents ++ more) lstar ≡ seq_body g tracks extents lstar)
      (λ bs is read. more_extents g tracks extents more lstar bs is ∙ sym is)
      (λ k is read. absurd (let never : unreadable (Unreadable k) ≡ None = read in cc))
      refl

  part_more : unreadable (part_body g tracks extents lstar) ≡ None → part_body g tracks (extents ++ more) lstar ≡ part_body g tracks extents lstar
  part_more = part_or_unread g tracks extents lstar (λ (b : Body). part_body g tracks extents lstar ≡ b → unreadable b ≡ None → part_body g tracks (extents ++ more) lstar ≡ part_body g tracks extents lstar)
      (λ n end es bs is read. more_part g tracks extents more lstar n end es bs is ∙ sym is)
      (λ k is read. absurd (let never : unreadable (Unreadable k) ≡ None = read in cc))
      refl

  pub body_more : unreadable (body_of g tracks name attr extents lstar) ≡ None → body_of g tracks name attr (extents ++ more) lstar ≡ body_of g tracks name attr extents lstar
  unfolding body_of
  body_more = by (is_sequential name attr) (is_partitioned name attr) (is_catalog name)
    where
      by : (s p c : Bool) → unreadable (by_kind s p c (seq_body g tracks extents lstar) (part_body g tracks extents lstar)) ≡ None
          → by_kind s p c (seq_body g tracks (extents ++ more) lstar) (part_body g tracks (extents ++ more) lstar) ≡ by_kind s p c (seq_body g tracks extents lstar) (part_body g tracks extents lstar)
      by true p c read = seq_more read
      by false true c read = part_more read
      by false false true read = cc
      by false false false read = refl
