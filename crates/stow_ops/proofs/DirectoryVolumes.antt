-- An image whose directory has another store of blocks stands for the volume with the entries that are read from it.
use Rattle.std.proofs.lemmas.List.{length-map}
use Rattle.std.proofs.Common.{◌≡◌, ℕ, suc, Bool, true, false, cond, List, [], ◌∷◌, ◌++◌, length, map, Option, Some, None, Ok, refl, sym, ap, ap₂, ◌∙◌}
use Rattle.std.specs.Prelude.{is_none, position, unwrap_or}
use Rattle.std.specs.Option.{option_map}
use Rattle.chain_spec.specs.Kept.{joined, kept}
use Rattle.chain_spec.specs.Store.{Block as Stored, reads, up_to_end}
use Rattle.dscb_codec.specs.declared.F1.{F1}
use Rattle.pack_spec.specs.Directories.{break_from, directory_break, name_number, part_body, stored_in}
use Rattle.pack_spec.specs.Volume.{attr_of, data_set_of, volume_by, volume_of}
use Rattle.pack_spec.proofs.BodyKinds.{partitioned_body}
use Rattle.pack_spec.proofs.PartBodies.{from_part}
use Rattle.pack_spec.proofs.SetNames.{nowhere}
use Rattle.vol_model.specs.declared.contents.Block.{Block}
use Rattle.vol_model.specs.declared.contents.Body.{Body}
use Rattle.vol_model.specs.declared.contents.Body.TheVariants as bodies
use Rattle.vol_model.specs.declared.contents.DataSet.{DataSet}
use Rattle.vol_model.specs.declared.contents.Entry.{Entry}
use Rattle.vol_model.specs.declared.contents.Place.{Place}
use Rattle.vol_model.specs.declared.contents.Run.{Run}
use Rattle.vol_model.specs.Shelf.{changed, has_name, with_entries, with_set}
use Rattle.vtoc_index.specs.declared.vol.Vol.{Vol}
use Rattle.vtoc_sets.specs.Sets.{extents_in}
use Rattle.pds_directory.specs.declared.dir.Dir.{Dir}
use Rattle.pds_directory.specs.Directories.{IsPartIn, IsReadIn, directory_in, data_in, end_in, entries_read, members_in, part_in, tracks_in}
use Rattle.stow_ops.specs.Stores.{HasStore, store_in}
use Rattle.stow_ops.proofs.DirectoryImages.{now, same_extents, stands_kept, volume_as, was}
use Rattle.stow_ops.proofs.WrittenDirectories.{on_owned}

-- a directory that is read is not broken
read_whole : (last : ℕ) (bs : List Block) (es : List Entry) → up_to_end (map stored_in bs) ≡ Some es → directory_break last bs ≡ None
read_whole last [] es is = cc
read_whole last (b ∷ bs) es is = by (stored_in b) is (λ xs e. read_whole last bs xs e)
  where
    by_end : (c : Bool) (xs : List Entry) (o : Option (List Entry)) (later : Option ℕ) → cond c (Some xs) (option_map (λ (ys : List Entry). xs ++ ys) o) ≡ Some es → ((ys : List Entry) → o ≡ Some ys → later ≡ None) → cond c None later ≡ None
    by_end true xs o later e rest = refl
    by_end false xs None later e rest = cc
    by_end false xs (Some ys) later e rest = rest ys refl

    by : (o : Option (Stored Entry)) → up_to_end (o ∷ map stored_in bs) ≡ Some es → ((xs : List Entry) → up_to_end (map stored_in bs) ≡ Some xs → directory_break last bs ≡ None) → break_from b.place.tt (directory_break last bs) o ≡ None
    by None e rest = cc
    by (Some x) e rest = by_end x.ends x.entries (up_to_end (map stored_in bs)) (directory_break last bs) e rest

some_read : (o : Option (List Entry)) (es : List Entry) → option_map (kept name_number) o ≡ Some es → (xs : List Entry) × (o ≡ Some xs)
some_read None es is = cc
some_read (Some xs) es is = (xs, refl)

as_many : (bs cs : List Block) → map (λ (b : Block). b.place) bs ≡ map (λ (b : Block). b.place) cs → length bs ≡ length cs
as_many [] [] same = refl
as_many [] (c ∷ cs) same = cc
as_many (b ∷ bs) [] same = cc
as_many (b ∷ bs) (c ∷ cs) same = ap suc (as_many bs cs (rest (map (λ (b : Block). b.place) bs) (map (λ (b : Block). b.place) cs) b.place c.place same))
  where
    rest : (ps qs : List Place) (p q : Place) → p ∷ ps ≡ q ∷ qs → ps ≡ qs
    rest ps qs p q e = cc

-- the body of an image by the store of its directory
body_by : (v : Vol) (f : F1) (image : List ℕ) (es : List Entry) → position (λ o. is_none o) (tracks_in image v f) ≡ None → reads name_number (store_in image v f) ≡ Some es
    → part_in image v f ≡ bodies.Part (length (directory_in image v f)) (end_in image v f) es (members_in image v f)
unfolding part_body
body_by v f image es whole read =
    let some = some_read (up_to_end (store_in image v f)) es read in
    from_part (end_in image v f) (tracks_in image v f) (length (directory_in image v f)) (end_in image v f) es (members_in image v f) (record {
      end_at = refl;
      whole = nowhere (λ o. is_none o) (tracks_in image v f) whole;
      ended = read_whole (end_in image v f).tt (directory_in image v f) some.0 some.1;
      count = refl;
      entries = ap (λ (o : Option (List Entry)). unwrap_or o []) read;
      blocks = refl;
    })

module _ (v : Vol) (f : F1) (before after : List ℕ) (part : IsPartIn before v f) (dir : Dir) (is_read : IsReadIn before v f dir) (store : List (Option (Stored Entry))) (has : HasStore v f store before after) where
  abbrev n : ℕ
  n = length dir.places.items

  abbrev old : List Entry
  old = kept name_number (joined (entries_read dir))

  pub body_after : (es : List Entry) → reads name_number store ≡ Some es → part_in after v f ≡ bodies.Part n (end_in before v f) es (members_in before v f)
  body_after es read =
      body_by v f after es has.whole (ap (reads name_number) has.stored ∙ read)
      ∙ ap₂ (λ (m : ℕ) (p : Place). bodies.Part m p es (members_in after v f)) (as_many (directory_in after v f) (directory_in before v f) has.places ∙ count) has.end
      ∙ ap (bodies.Part n (end_in before v f) es) has.members
    where
      count : length (directory_in before v f) ≡ n
      count = sym (ap length is_read.read.places ∙ length-map (directory_in before v f) (λ (b : Block). b.place))

  abbrev make : Body → DataSet
  make body = record { name = record { bytes = f.name }; attr = attr_of f; extents = extents_in before v f; body = body }

  was_part : was before after v f part (on_owned v f before after has.differ) f ≡ make (bodies.Part n (end_in before v f) old (members_in before v f))
  unfolding data_set_of
  was_part = ap make (partitioned_body v.geometry (data_in before v) f.name (attr_of f) (extents_in before v f) f.lstar part.partitioned ∙ is_read.body)

  now_part : (es : List Entry) → reads name_number store ≡ Some es → now before after v f part (on_owned v f before after has.differ) f ≡ make (bodies.Part n (end_in before v f) es (members_in before v f))
  unfolding data_set_of
  now_part es read = ap make
      (partitioned_body v.geometry (data_in after v) f.name (attr_of f) (extents_in before v f) f.lstar part.partitioned
      ∙ ap (λ (xs : List Run). part_body v.geometry (data_in after v) xs f.lstar) (sym (same_extents before after v f part (on_owned v f before after has.differ) f))
      ∙ body_after es read)

  pub volume_entries : (es : List Entry) → reads name_number store ≡ Some es → volume_of after ≡ Ok (with_set (volume_by before v.geometry v.vtoc) f.name (with_entries es))
  volume_entries es read =
      stands_kept before after v f part (on_owned v f before after has.differ)
      ∙ ap Ok (volume_as before after v f part (on_owned v f before after has.differ) (with_entries es) (λ x. refl) (now_part es read ∙ sym (ap (with_entries es) was_part)))

  none_changed : (xs : List DataSet) → changed f.name (λ (x : DataSet). x) xs ≡ xs
  none_changed [] = refl
  none_changed (x ∷ xs) = ap₂ (λ (y : DataSet) (ys : List DataSet). y ∷ ys) (by (has_name f.name x)) (none_changed xs)
    where
      by : (b : Bool) → cond b x x ≡ x
      by true = refl
      by false = refl

  pub volume_same : reads name_number store ≡ Some old → volume_of after ≡ Ok (volume_by before v.geometry v.vtoc)
  volume_same read =
      stands_kept before after v f part (on_owned v f before after has.differ)
      ∙ ap Ok (volume_as before after v f part (on_owned v f before after has.differ) (λ (x : DataSet). x) (λ x. refl) (now_part old read ∙ sym was_part)
      ∙ ap (λ (xs : List DataSet). record (volume_by before v.geometry v.vtoc) { sets = xs }) (none_changed (volume_by before v.geometry v.vtoc).sets))
