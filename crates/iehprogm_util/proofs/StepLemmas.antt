-- What statements do, case by case.
use Rattle.std.proofs.Common.{◌≡◌, ℕ, Bool, true, false, cond, not, List, [], refl, sym, ◌∙◌, ap}
use Rattle.std.specs.Prelude.{Option, Some, None, Result, Ok, Err, option_map}
use Rattle.std.specs.Option.{option_map_or}
use Rattle.std.specs.Ordering.{is_lt, nat_cmp}
use Rattle.std.specs.Cmp.Lexicographic.{slice_cmp}
use Rattle.ebcdic_names.specs.declared.names.Dsn.{Dsn}
use Rattle.ebcdic_names.specs.declared.names.Name8.{Name8}
use Rattle.vol_model.specs.declared.answers.SetInfo.{SetInfo}
use Rattle.vol_model.specs.declared.contents.Body.TheVariants as bodies
use Rattle.vol_model.specs.declared.contents.DataSet.{DataSet}
use Rattle.vol_model.specs.declared.contents.Entry.{Entry}
use Rattle.vol_model.specs.declared.contents.Shelf.{Shelf}
use Rattle.vol_model.specs.declared.refusals.Refusal.{Refusal}
use Rattle.vol_model.specs.declared.refusals.Refusal.TheVariants.{NoSet, NoVolume, WrongKind}
use Rattle.vol_model.specs.declared.requests.Op.TheVariants as ops
use Rattle.vol_model.specs.Did.{Did, and_then, answered, because, on_answer}
use Rattle.vol_model.specs.Reading.{entries_in, set_info}
use Rattle.vol_model.specs.Shelf.{is_partitioned, number_of, on_found, refuse}
use Rattle.vol_model.specs.Writing.{body_on, set_on}
use Rattle.util_syntax.specs.declared.listing.Outcome.{Outcome}
use Rattle.util_syntax.specs.declared.listing.Outcome.TheVariants as outcome
use Rattle.util_steps.specs.Expiry.{is_unexpired}
use Rattle.iehprogm_util.specs.declared.requests.Request.{Request}
use Rattle.util_program.specs.Outcomes.{performed}
use Rattle.iehprogm_util.specs.Items.{entry_in, entry_renamed, member_on, member_renamed, scratched, serial_in, steps_of, steps_on}

module _ (date : List ℕ) (shelf : Shelf) (v : ℕ) (dsn : Dsn) where
  -- an unexpired set stays
  pub kept_back : option_map_or (is_unexpired date) (set_on shelf v dsn.bytes) false ≡ true → scratched date shelf v dsn false ≡ answered (Err outcome.Expires)
  unfolding scratched
  kept_back so = ap (λ (t : Bool). cond t (answered {X = Unit {0}} (Err outcome.Expires)) (performed shelf (ops.Scratch v dsn))) so

  -- another goes
  pub not_kept : option_map_or (is_unexpired date) (set_on shelf v dsn.bytes) false ≡ false → scratched date shelf v dsn false ≡ performed shelf (ops.Scratch v dsn)
  unfolding scratched
  not_kept so = ap (λ (t : Bool). cond t (answered {X = Unit {0}} (Err outcome.Expires)) (performed shelf (ops.Scratch v dsn))) so

  -- and so does each that is purged
  pub purged : scratched date shelf v dsn true ≡ performed shelf (ops.Scratch v dsn)
  unfolding scratched
  purged = refl

-- the entry of a member, by what a machine tells of its data set in short
module _ (shelf : Shelf) (v : ℕ) (dsn : Dsn) (name : Name8) where
  abbrev of_set : Option DataSet → Result Entry Refusal
  of_set found = on_found found (λ x. refuse (not (is_partitioned dsn.bytes x.attr)) WrongKind (entry_in name (entries_in x.body)))

  -- the set isn't there
  pub member_nowhere : None ≡ option_map set_info (set_on shelf v dsn.bytes) → Err NoSet ≡ member_on shelf v dsn name
  unfolding member_on
  member_nowhere told = by_set (set_on shelf v dsn.bytes) told
    where
      by_set : (o : Option DataSet) → None ≡ option_map set_info o → Err NoSet ≡ of_set o
      by_set None is = refl
      by_set (Some x) is = let never : ⊥ = cc in absurd never

  -- it isn't partitioned
  pub member_elsewhere : (info : SetInfo) → Some info ≡ option_map set_info (set_on shelf v dsn.bytes) → is_partitioned dsn.bytes info.attr ≡ false → Err WrongKind ≡ member_on shelf v dsn name
  unfolding member_on set_info
  member_elsewhere info told kind = by_set (set_on shelf v dsn.bytes) told
    where
      by_set : (o : Option DataSet) → Some info ≡ option_map set_info o → Err WrongKind ≡ of_set o
      by_set None is = let never : ⊥ = cc in absurd never
      by_set (Some x) is =
          let same : info ≡ set_info x = cc in
          let other : is_partitioned dsn.bytes x.attr ≡ false = ap (λ (i : SetInfo). is_partitioned dsn.bytes i.attr) (sym same) ∙ kind in
          ap (λ (t : Bool). refuse (not t) WrongKind (entry_in name (entries_in x.body))) (sym other)

  -- it has a directory
  pub member_there : (info : SetInfo) → Some info ≡ option_map set_info (set_on shelf v dsn.bytes) → is_partitioned dsn.bytes info.attr ≡ true → entry_in name (entries_in (body_on shelf v dsn.bytes)) ≡ member_on shelf v dsn name
  unfolding member_on set_info body_on
  member_there info told kind = by_set (set_on shelf v dsn.bytes) told
    where
      by_set : (o : Option DataSet) → Some info ≡ option_map set_info o → entry_in name (entries_in (option_map_or (λ (x : DataSet). x.body) o bodies.Other)) ≡ of_set o
      by_set None is = let never : ⊥ = cc in absurd never
      by_set (Some x) is =
          let same : info ≡ set_info x = cc in
          let own : is_partitioned dsn.bytes x.attr ≡ true = ap (λ (i : SetInfo). is_partitioned dsn.bytes i.attr) (sym same) ∙ kind in
          ap (λ (t : Bool). refuse (not t) WrongKind (entry_in name (entries_in x.body))) (sym own)

module _ (date : List ℕ) (shelf : Shelf) (request : Request) where
  -- the volume is there
  pub steps_found : (v : ℕ) → Some v ≡ number_of shelf (serial_in request).bytes → steps_of date shelf request ≡ steps_on date shelf v request
  unfolding steps_of
  steps_found v is = sym (ap (λ (o : Option ℕ). option_map_or (λ w. steps_on date shelf w request) o (answered (Err (outcome.Refused NoVolume)))) is)

  -- it isn't
  pub steps_none : None ≡ number_of shelf (serial_in request).bytes → steps_of date shelf request ≡ answered (Err (outcome.Refused NoVolume))
  unfolding steps_of
  steps_none is = sym (ap (λ (o : Option ℕ). option_map_or (λ w. steps_on date shelf w request) o (answered (Err (outcome.Refused NoVolume)))) is)

-- a member that is there is renamed by its entry, and of one that isn't the reason is answered
module _ (shelf : Shelf) (v : ℕ) (dsn : Dsn) (old new : Name8) where
  abbrev with_entry : Result Entry Refusal → Did (Unit {0}) Outcome
  with_entry found = on_answer shelf [] (because outcome.Refused found) (λ e u. entry_renamed u v dsn old new e)

  pub renamed_there : (e : Entry) → Ok e ≡ member_on shelf v dsn old → member_renamed shelf v dsn old new ≡ entry_renamed shelf v dsn old new e
  unfolding member_renamed and_then
  renamed_there e is = sym (ap with_entry is)

  pub renamed_nowhere : (refusal : Refusal) → Err refusal ≡ member_on shelf v dsn old → member_renamed shelf v dsn old new ≡ answered (Err (outcome.Refused refusal))
  unfolding member_renamed and_then
  renamed_nowhere refusal is = sym (ap with_entry is)
