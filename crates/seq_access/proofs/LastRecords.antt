-- A body that can be read tells where its last record stands.
use Rattle.std.proofs.Common.{◌≡◌, ◌+◌, ◌<◌, ℕ, Bool, true, false, cond, List, [], ◌∷◌, ◌++◌, length, map, refl, sym, ap, ◌∙◌, arith}
use Rattle.std.specs.List.{range_with_len}
use Rattle.std.proofs.lemmas.Slice.Eq.{bytes_eq-Decides}
use Rattle.ckd_image.specs.Track.{Record}
use Rattle.ckd_image.specs.declared.header.Geometry.{Geometry}
use Rattle.dscb_codec.specs.declared.F1.{F1}
use Rattle.pack_spec.specs.Blocks.{blocks_at, blocks_from, has_no_block, last_of, owned_tracks, seq_body, seq_of}
use Rattle.pack_spec.specs.Directories.{part_body, read_to}
use Rattle.pack_spec.specs.Volume.{attr_of}
use Rattle.pack_spec.proofs.FrontRecords.{count_in}
use Rattle.pack_spec.proofs.PartBodies.{part_read}
use Rattle.vol_model.specs.declared.contents.Block.{Block}
use Rattle.vol_model.specs.declared.contents.Body.{Body}
use Rattle.vol_model.specs.declared.contents.Body.TheVariants.{Part, Seq}
use Rattle.vol_model.specs.declared.contents.Entry.{Entry}
use Rattle.vol_model.specs.declared.contents.Place.{Place}
use Rattle.vol_model.specs.declared.contents.Run.{Run}
use Rattle.vol_model.specs.Places.{last_place}
use Rattle.vtoc_index.specs.Last.{lstar_of}
use Rattle.vtoc_index.specs.declared.vol.Vol.{Vol}
use Rattle.vtoc_sets.specs.Sets.{extents_in}
use Rattle.std.proofs.lemmas.Option.{slice_get_within}
use Rattle.seq_access.specs.Bodies.{IsSetIn, IsWritable, body_of_set, data_in, last_in, last_read, owned_in}
use Rattle.vtoc_sets.proofs.DataPlaces.{few_owned_tracks}
use Rattle.seq_access.proofs.LastPlaces.{last_said, some_said}
use Rattle.seq_access.proofs.MoreBlocks.{Parts, parts_of}
use Rattle.seq_access.proofs.NextPlaces.{last_behind}
use Rattle.seq_access.proofs.OwnBodies.{as_partitioned, as_sequential, by_body, last_small, part_first}
use Rattle.seq_access.proofs.PartFronts.{split}
use Rattle.seq_access.proofs.PartReading.{all, read_up_to}

abbrev nowhere : Place
nowhere = record { tt = 0; r = 0 }

same_blocks : (xs ys : List Block) → Seq xs ≡ Seq ys → xs ≡ ys
same_blocks xs ys e = cc

-- the records up to a last one end with that
pub parts_last : (g : Geometry) (tracks : List (List ℕ)) (extents : List Run) (last : Place) (bs : List Block) → Parts g extents tracks last bs → (p : Place) → last_place p bs ≡ last
parts_last g tracks extents last bs parts p = on parts.records (count_in g tracks parts.track parts.records last.r parts.read) parts.all
  where
    on : (xs : List Record) → length xs ≡ last.r → bs ≡ parts.front ++ blocks_from last.tt 1 xs → last_place p bs ≡ last
    on [] many is = absurd (omega (arith, many, parts.first))
    on (x ∷ xs) many is =
        let number : 1 + length xs ≡ last.r = omega (arith, many) in
        ap (last_place p) is ∙ last_behind p parts.front last.tt 1 x xs ∙ ap (λ (n : ℕ). record { tt = last.tt; r = n }) number

-- of a sequential one
seq_told : (g : Geometry) (tracks : List (List ℕ)) (extents : List Run) (lstar : List ℕ) (bs : List Block) → seq_body g tracks extents lstar ≡ Seq bs → last_of lstar ≡ last_place nowhere bs
unfolding seq_body
seq_told g tracks extents lstar bs is = by (has_no_block lstar) refl
  where
    each : Body
    each = seq_of (map (blocks_at g tracks (owned_tracks extents) (last_of lstar)) (range_with_len 0 ((last_of lstar).tt + 1)))

    by : (b : Bool) → has_no_block lstar ≡ b → last_of lstar ≡ last_place nowhere bs
    by true none =
        let zeros : lstar ≡ 0 ∷ 0 ∷ 0 ∷ [] = (bytes_eq-Decides lstar (0 ∷ 0 ∷ 0 ∷ [])).0 none in
        let empty : [] ≡ bs = same_blocks [] bs (sym (ap (λ (b : Bool). cond b (Seq []) each) none) ∙ is) in
        ap last_of zeros ∙ ap (last_place nowhere) empty
    by false some = sym (parts_last g tracks extents (last_of lstar) bs (parts_of g extents tracks lstar (last_of lstar) bs refl some is) nowhere)

-- and of a partitioned one
part_told : (g : Geometry) (tracks : List (List ℕ)) (extents : List Run) (lstar : List ℕ) (n : ℕ) (end : Place) (es : List Entry) (bs : List Block) → part_body g tracks extents lstar ≡ Part n end es bs → (read_to end lstar).tt < 65536 → (read_to end lstar).r < 256
    → read_to end lstar ≡ last_place end bs
part_told g tracks extents lstar n end es bs is low small =
    let to : Place = read_to end lstar in
    let said : last_of (lstar_of to) ≡ to = last_said to low small in
    let read = read_up_to g tracks extents lstar n end es bs is (lstar_of to) said (some_said to (part_first g tracks extents lstar n end es bs is)) in
    let parts = split g tracks extents lstar n end es bs is in
    sym said
    ∙ seq_told g tracks extents (lstar_of to) (all g tracks extents lstar n end es bs is) read
    ∙ ap (last_place nowhere) parts.all
    ∙ last_both nowhere parts.front bs
    ∙ ap (λ (p : Place). last_place p bs) (parts.ahead.ends nowhere)
  where
    last_both : (p : Place) (us ws : List Block) → last_place p (us ++ ws) ≡ last_place (last_place p us) ws
    last_both p [] ws = refl
    last_both p (u ∷ us) ws = last_both u.place us ws

-- where it stands by the body
abbrev pub last_of_body : Body → Place
last_of_body (Seq bs) = last_place nowhere bs
last_of_body (Part n end es bs) = last_place end bs
last_of_body b = nowhere

pub last_by_body : (image : List ℕ) (v : Vol) (f : F1) → IsSetIn image v f → IsWritable (body_of_set image v f) → last_in image v f ≡ last_of_body (body_of_set image v f)
last_by_body image v f set writable = by_body g tracks f.name (attr_of f) extents f.lstar (last_in image v f ≡ last_of_body (body_of_set image v f)) writable
    (λ bs e.
    ap (λ (b : Body). last_read b f.lstar) e
    ∙ seq_told g tracks extents f.lstar bs (as_sequential g tracks f.name (attr_of f) extents f.lstar bs e).1
    ∙ sym (ap last_of_body e))
    (λ n end es bs e.
    let is = (as_partitioned g tracks f.name (attr_of f) extents f.lstar n end es bs e).1 in
    let at : last_in image v f ≡ read_to end f.lstar = ap (λ (b : Body). last_read b f.lstar) e in
    let read = part_read g tracks extents f.lstar n end es bs is (read_to end f.lstar).tt (omega arith) in
    let low : (read_to end f.lstar).tt < 65536 = omega (arith, few_owned_tracks image v f set, slice_get_within (owned_in image v f) (read_to end f.lstar).tt read.track read.there) in
    let small : (read_to end f.lstar).r < 256 = omega (arith, ap (λ (p : Place). p.r) at, last_small g tracks f.name (attr_of f) extents f.lstar writable) in
    at ∙ part_told g tracks extents f.lstar n end es bs is low small ∙ sym (ap last_of_body e))
  where
    g : Geometry
    g = v.geometry

    tracks : List (List ℕ)
    tracks = data_in image v

    extents : List Run
    extents = extents_in image v f
