-- Inputs that aren't the output.
use Rattle.std.proofs.Common.{◌≡◌, inl, inr, ℕ, ◌+◌, Bool, true, false, cond, ◌&&◌, ◌||◌, List, [], ◌∷◌, map, filter, refl, subst, arith}
use Rattle.std.proofs.lemmas.Bool.Decides.{nat_tests}
use Rattle.std.specs.Prelude.{Option, Some, None, Result, Ok, Err, ◌==◌}
use Rattle.std.specs.List.{AllByRecursion, flat_map, list_any}
use Rattle.std.specs.Str.{bytes_eq}
use Rattle.ebcdic_names.specs.declared.names.Name8.{Name8}
use Rattle.vol_model.specs.declared.contents.Attr.{Attr}
use Rattle.vol_model.specs.declared.contents.DataSet.{DataSet}
use Rattle.vol_model.specs.declared.contents.Entry.{Entry}
use Rattle.vol_model.specs.declared.contents.Shelf.{Shelf}
use Rattle.vol_model.specs.declared.refusals.Refusal.{Refusal}
use Rattle.util_steps.specs.declared.calls.SetRef.{SetRef}
use Rattle.util_steps.specs.Steps.{AreApart}
use Rattle.iebcopy_util.specs.declared.orders.Choice.{Choice}
use Rattle.iebcopy_util.specs.declared.orders.Choice.TheVariants.{All, Select, Exclude}
use Rattle.iebcopy_util.specs.declared.requests.Pick.{Pick}
use Rattle.iebcopy_util.specs.declared.sets.Input.{Input}
use Rattle.iebcopy_util.specs.declared.tasks.InputLibrary.{InputLibrary}
use Rattle.iebcopy_util.specs.declared.tasks.MemberCopy.{MemberCopy}
use Rattle.iebcopy_util.specs.Items.{tasks_if}
use Rattle.record_files.specs.Members.{entries_of}
use Rattle.iebcopy_util.specs.Sets.{is_among, is_same, library}
use Rattle.iebcopy_util.specs.Tasks.{is_name, is_taken, on_library, source_for, task, tasks_of, wanted, with_source}
use Rattle.iebcopy_util.proofs.TaskLemmas.{all_append}

module _ (out : SetRef) where
  abbrev IsApart : MemberCopy → Type 0
  IsApart t = AreApart out t.source.set

  apart_from : (s : SetRef) → is_same s out ≡ false → AreApart out s
  apart_from s other = by_volume (s.v == out.v) refl other
    where
      no_volume : (s.v == out.v) ≡ false → out.v ≡ s.v → ⊥
      no_volume is same = grind (arith, nat_tests)

      by_volume : (t : Bool) → (s.v == out.v) ≡ t → (t && bytes_eq s.dsn.bytes out.dsn.bytes) ≡ false → AreApart out s
      by_volume true is name = inr name
      by_volume false is name = inl (no_volume is)

  -- each input is apart from an output that is none of them
  inputs_apart : (inputs : List Input) → is_among out inputs ≡ false → AllByRecursion (λ (i : Input). AreApart out i.set) inputs
  unfolding is_among
  inputs_apart [] none = tt
  inputs_apart (i ∷ is) none = by_first (is_same i.set out) refl none (λ other. inputs_apart is other)
    where
      by_first : (t : Bool) → is_same i.set out ≡ t → (t || list_any (λ (j : Input). is_same j.set out) is) ≡ false → (list_any (λ (j : Input). is_same j.set out) is ≡ false → AllByRecursion (λ (j : Input). AreApart out j.set) is) → AllByRecursion (λ (j : Input). AreApart out j.set) (i ∷ is)
      by_first true same other rest = let never : ⊥ = cc in absurd never
      by_first false same other rest = (apart_from i.set same, rest other)

  module _ (choice : Choice) (earlier : List MemberCopy) (source : InputLibrary) (apart : AreApart out source.set) where
    wanted_apart : (e : Entry) → AllByRecursion IsApart (wanted choice earlier source e)
    unfolding wanted
    wanted_apart e = by_choice choice
      where
        picked : (ps : List Pick) → AllByRecursion IsApart (map (λ (p : Pick). task source e p.new p.replace) ps)
        picked [] = tt
        picked (p ∷ ps) = (apart, picked ps)

        unless : (t : Bool) (ts : List MemberCopy) → AllByRecursion IsApart ts → AllByRecursion IsApart (cond t [] ts)
        unless true ts all = tt
        unless false ts all = all

        by_choice : (c : Choice) → AllByRecursion IsApart (wanted c earlier source e)
        by_choice All = (apart, tt)
        by_choice (Exclude names) = unless (list_any (λ (n : Name8). is_name n e.name) names) (task source e e.name false ∷ []) (apart, tt)
        by_choice (Select picks) = unless (is_taken e.name earlier) (map (λ (p : Pick). task source e p.new p.replace) (filter (λ (p : Pick). is_name p.name e.name) picks)) (picked (filter (λ (p : Pick). is_name p.name e.name) picks))

    entries_apart : (es : List Entry) → AllByRecursion IsApart (flat_map (wanted choice earlier source) es)
    entries_apart [] = tt
    entries_apart (e ∷ es) = all_append IsApart (wanted choice earlier source e) (flat_map (wanted choice earlier source) es) (wanted_apart e) (entries_apart es)

  copies_apart : (shelf : Shelf) (choice : Choice) (number : ℕ) (given : Option Attr) (earlier tasks : List MemberCopy) (inputs : List Input) → AllByRecursion IsApart earlier → AllByRecursion (λ (i : Input). AreApart out i.set) inputs → tasks_of shelf choice number given earlier inputs ≡ Ok tasks → AllByRecursion IsApart tasks
  copies_apart shelf choice number given earlier tasks [] before all is = let same : earlier ≡ tasks = cc in subst (λ (l : List MemberCopy). AllByRecursion IsApart l) same before
  copies_apart shelf choice number given earlier tasks (i ∷ is) before all at =
      let source : DataSet → InputLibrary = λ (x : DataSet). source_for number given i x in
      by_library (library shelf i.set) at
      (λ x so. copies_apart shelf choice (number + 1) (Some (source x).given) (with_source choice earlier (source x) x) tasks is (all_append IsApart earlier (flat_map (wanted choice earlier (source x)) (entries_of x.body)) before (entries_apart choice earlier (source x) all.0 (entries_of x.body))) all.1 so)
    where
      by_library : (r : Result DataSet Refusal) → on_library i.set r (λ x. let s = source_for number given i x in tasks_of shelf choice (number + 1) (Some s.given) (with_source choice earlier s x) is) ≡ Ok tasks
          → ((x : DataSet) → (let s = source_for number given i x in tasks_of shelf choice (number + 1) (Some s.given) (with_source choice earlier s x) is) ≡ Ok tasks → AllByRecursion IsApart tasks) → AllByRecursion IsApart tasks
      by_library (Err f) so rest = let never : ⊥ = cc in absurd never
      by_library (Ok x) so rest = rest x so

  -- the members of inputs that are no output
  pub tasks_apart : (shelf : Shelf) (choice : Choice) (inputs : List Input) (tasks : List MemberCopy) (found : Result DataSet Refusal) → is_among out inputs ≡ false → tasks_if shelf choice out inputs found ≡ Ok tasks → AllByRecursion (λ (t : MemberCopy). AreApart out t.source.set) tasks
  tasks_apart shelf choice inputs tasks (Err r) none is = let never : ⊥ = cc in absurd never
  tasks_apart shelf choice inputs tasks (Ok x) none is = copies_apart shelf choice 0 None [] tasks inputs tt (inputs_apart inputs none) is
