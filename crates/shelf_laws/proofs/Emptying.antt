-- A shelf stays lawful where a data set is emptied.
use Rattle.std.proofs.Common.{◌≡◌, ◌/◌, ℕ, Bool, true, false, not, ◌&&◌, ◌||◌, ◌==◌, [], ◌∷◌, refl, ◌∙◌, ap, subst, arith}
use Rattle.std.proofs.lemmas.Bool.Decides.{nat_tests}
use Rattle.std.specs.Prelude.{Result, Ok, if◌then◌else◌}
use Rattle.ckd_image.specs.declared.header.Geometry.{Geometry}
use Rattle.ebcdic_names.specs.declared.names.Dsn.{Dsn}
use Rattle.vol_model.specs.declared.contents.Attr.{Attr}
use Rattle.vol_model.specs.declared.contents.Body.{Body}
use Rattle.vol_model.specs.declared.contents.Body.TheVariants as bodies
use Rattle.vol_model.specs.declared.contents.DataSet.{DataSet}
use Rattle.vol_model.specs.declared.contents.Shelf.{Shelf}
use Rattle.vol_model.specs.declared.contents.Volume.{Volume}
use Rattle.vol_model.specs.declared.refusals.Refusal.{Refusal}
use Rattle.vol_model.specs.declared.refusals.Refusal.TheVariants.{WrongKind}
use Rattle.vol_model.specs.declared.requests.Op.TheVariants.{Empty}
use Rattle.vol_model.specs.Lawful.{IsLawful, IsLawfulBody, IsLawfulSet, IsLawfulVolume, is_of_kind}
use Rattle.vol_model.specs.Places.{tracks_in}
use Rattle.vol_model.specs.Shelf.{empty_on, empty_set, emptied, if_readable, is_catalog, may_empty, set_of, step, step_on, with_set, without_blocks}
use Rattle.shelf_laws.proofs.SetChanges.{named_so, found_all, lawful_contents}
use Rattle.shelf_laws.proofs.Steps.{found_ok, ok_same, refuse_ok, step_lawful}

-- the organization of a set that is emptied
abbrev after_dsorg : ℕ → ℕ
after_dsorg d = if d == 0 then 0x4000 else d

seq_stays : (c : Bool) (d : ℕ) → (not c && d / 512 == 32) ≡ true → (not c && after_dsorg d / 512 == 32) ≡ true
seq_stays c d e = by_zero (d == 0) refl
  where
    by_zero : (b : Bool) → (d == 0) ≡ b → (not c && (if b then 0x4000 else d) / 512 == 32) ≡ true
    by_zero true z = let at : d ≡ 0 = grind (arith, nat_tests) in let no : ⊥ = grind (arith, nat_tests) in absurd no
    by_zero false z = e

part_stays : (c : Bool) (d : ℕ) → (not c && d / 512 == 1) ≡ true → (not c && after_dsorg d / 512 == 1) ≡ true
part_stays c d e = by_zero (d == 0) refl
  where
    by_zero : (b : Bool) → (d == 0) ≡ b → (not c && (if b then 0x4000 else d) / 512 == 1) ≡ true
    by_zero true z = let at : d ≡ 0 = grind (arith, nat_tests) in let no : ⊥ = grind (arith, nat_tests) in absurd no
    by_zero false z = e

none_becomes_seq : (c : Bool) (d : ℕ) (p v : Bool) → not (c || ((not c && d / 512 == 32) || (not c && d / 512 == 1))) ≡ true → ((not c && d / 512 == 32) || ((d == 0 && not c) || ((not c && d / 512 == 1) && v))) ≡ true → (not c && after_dsorg d / 512 == 32) ≡ true
none_becomes_seq c d p v other may = by_zero (d == 0) refl
  where
    by_zero : (b : Bool) → (d == 0) ≡ b → (not c && (if b then 0x4000 else d) / 512 == 32) ≡ true
    by_zero true z = grind (arith, nat_tests)
    by_zero false z = let no : ⊥ = grind (arith, nat_tests) in absurd no

not_vacant : (c : Bool) (d : ℕ) → (not c && d / 512 == 1) ≡ true → ((not c && d / 512 == 32) || ((d == 0 && not c) || ((not c && d / 512 == 1) && false))) ≡ true → ⊥
not_vacant c d part may = grind (arith, nat_tests)

catalog_stays : (c : Bool) (d : ℕ) (v : Bool) → c ≡ true → ((not c && d / 512 == 32) || ((d == 0 && not c) || ((not c && d / 512 == 1) && v))) ≡ true → ⊥
catalog_stays true d v e may = grind (arith, nat_tests)
catalog_stays false d v e may = cc

-- an emptied set, by its body as it was: which is of its kind, lawful and readable, and may be emptied
module _ (g : Geometry) (a : Attr) (x : DataSet) where
  abbrev as_before : Body → Type 0
  as_before body = is_of_kind x.name.bytes x.attr body ≡ true → IsLawfulBody (tracks_in x.extents) body → may_empty x.name.bytes x.attr body ≡ true → (rest : Result Volume Refusal) → (w : Volume) → if_readable body rest ≡ Ok w
      → (is_of_kind x.name.bytes (emptied a x).attr (without_blocks body) ≡ true) × IsLawfulBody (tracks_in x.extents) (without_blocks body)

  body_kept : (body : Body) → as_before body
  body_kept (bodies.Seq bs) kind lawful may rest w ok = (seq_stays (is_catalog x.name.bytes) x.attr.dsorg kind, (tt, tt))
  body_kept (bodies.Part dir end [] []) kind lawful may rest w ok = (part_stays (is_catalog x.name.bytes) x.attr.dsorg kind, lawful)
  body_kept (bodies.Part dir end [] (b ∷ bs)) kind lawful may rest w ok = absurd (not_vacant (is_catalog x.name.bytes) x.attr.dsorg kind may)
  body_kept (bodies.Part dir end (e ∷ es) bs) kind lawful may rest w ok = absurd (not_vacant (is_catalog x.name.bytes) x.attr.dsorg kind may)
  body_kept bodies.Catalog kind lawful may rest w ok = absurd (catalog_stays (is_catalog x.name.bytes) x.attr.dsorg false kind may)
  body_kept bodies.Other kind lawful may rest w ok = (none_becomes_seq (is_catalog x.name.bytes) x.attr.dsorg (is_catalog x.name.bytes) false kind may, (tt, tt))
  body_kept (bodies.Unreadable track) kind lawful may rest w ok = cc

  emptied_lawful : may_empty x.name.bytes x.attr x.body ≡ true → (rest : Result Volume Refusal) → (w : Volume) → if_readable x.body rest ≡ Ok w → IsLawfulSet g x → IsLawfulSet g (emptied a x)
  emptied_lawful may rest w ok h =
      let body = body_kept x.body h.kind h.body may rest w ok in
      record { few = h.few; extents = h.extents; secondary = h.secondary; kind = body.0; body = body.1 }

not_not : (b : Bool) → not b ≡ false → b ≡ true
not_not true e = refl
not_not false e = cc

empties : (dsn : Dsn) (a : Attr) (volume w : Volume) → IsLawfulVolume volume → empty_on dsn a volume ≡ Ok w → IsLawfulVolume w
unfolding empty_on
empties dsn a volume w h done =
    let found = found_ok (set_of dsn.bytes volume) (empty_set dsn a volume) w done in
    let x = found.0 in
    let new = with_set volume dsn.bytes (emptied a) in
    let kind = refuse_ok (not (may_empty dsn.bytes x.attr x.body)) WrongKind (if_readable x.body (Ok new)) w found.2 in
    let was = found_all (IsLawfulSet volume.geometry) dsn.bytes volume.sets x h.sets found.1 in
    let name = named_so dsn.bytes x was.1 in
    let may : may_empty x.name.bytes x.attr x.body ≡ true = ap (λ n. may_empty n x.attr x.body) name ∙ not_not (may_empty dsn.bytes x.attr x.body) kind.0 in
    let lawful = lawful_contents volume dsn.bytes (emptied a) x (λ y. refl) (λ y. refl) h found.1 (emptied_lawful volume.geometry a x may (Ok new) w kind.1 was.0) in
    subst IsLawfulVolume (readable_same x.body new w kind.1) lawful
  where
    readable_same : (body : Body) (new w : Volume) → if_readable body (Ok new) ≡ Ok w → new ≡ w
    readable_same (bodies.Seq bs) new w e = ok_same new w e
    readable_same (bodies.Part dir end es bs) new w e = ok_same new w e
    readable_same bodies.Catalog new w e = ok_same new w e
    readable_same bodies.Other new w e = ok_same new w e
    readable_same (bodies.Unreadable track) new w e = cc

pub empty_lawful : (s t : Shelf) (v : ℕ) (dsn : Dsn) (attr : Attr) → IsLawful s → step s (Empty v dsn attr) ≡ Ok t → IsLawful t
unfolding step_on
empty_lawful s t v dsn attr h done = step_lawful s t (Empty v dsn attr) (λ volume w. empties dsn attr volume w) h done
