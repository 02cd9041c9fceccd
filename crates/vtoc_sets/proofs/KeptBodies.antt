-- Images that differ on tracks of one data set alone, which keeps its body, have the same data sets.
use Rattle.std.proofs.Common.{◌≡◌, ◌≢◌, ◌≤◌, ◌/◌, ◌%◌, ℕ, false, List, Option, Some, inl, inr, sym, ap, ◌∙◌, subst, arith}
use Rattle.std.specs.Prelude.{slice_get}
use Rattle.std.specs.List.{filter_map, flat_map}
use Rattle.std.proofs.lemmas.Bool.Decides.{eqb_tells}
use Rattle.ckd_image.specs.declared.header.Geometry.{Geometry}
use Rattle.ckd_image.specs.Reading.{records_of}
use Rattle.dscb_codec.specs.declared.F1.{F1}
use Rattle.vol_model.specs.declared.contents.Body.{Body}
use Rattle.vol_model.specs.declared.contents.Run.{Run}
use Rattle.vol_model.specs.Space.{is_in}
use Rattle.pack_spec.specs.declared.slot.VtocSlot.{VtocSlot}
use Rattle.pack_spec.specs.Blocks.{data_tracks, owned_tracks, records_in}
use Rattle.pack_spec.specs.Bodies.{body_of}
use Rattle.pack_spec.specs.Label.{heads_of, records_on, track_bytes}
use Rattle.pack_spec.specs.Rules.{set_in}
use Rattle.pack_spec.specs.Volume.{attr_of, counted_runs, data_set_of, data_sets_in}
use Rattle.pack_spec.proofs.BodyKinds.{body_same}
use Rattle.vtoc_sets.proofs.Owners.{map_at, on_same, owned_some, owners, two_of}

module _ (g : Geometry) (vtoc : Run) (before after : List ℕ) where
  abbrev a : List (List ℕ)
  a = data_tracks before g vtoc

  abbrev b : List (List ℕ)
  b = data_tracks after g vtoc

  by_bytes : (u : Option ℕ) (t : ℕ) → track_bytes after g t ≡ track_bytes before g t → records_on after g u t ≡ records_on before g u t
  unfolding records_on
  by_bytes u t same = ap (records_of (t / heads_of g) (t % heads_of g) u) same

  set_same : (slots : List VtocSlot) (h : F1) → body_of g b h.name (attr_of h) (counted_runs g slots h) h.lstar ≡ body_of g a h.name (attr_of h) (counted_runs g slots h) h.lstar → data_set_of g b slots h ≡ data_set_of g a slots h
  unfolding data_set_of
  set_same slots h same = ap (λ (y : Body). record { name = record { bytes = h.name }; attr = attr_of h; extents = counted_runs g slots h; body = y }) same

  -- the data sets of slots in which one keeps its body, and owns all tracks that differ
  pub sets_same : (slots : List VtocSlot) (m : ℕ) (f : F1) → slice_get (filter_map (λ (s : VtocSlot). set_in s.content) slots) m ≡ Some f → ((t : ℕ) → owners t (flat_map (counted_runs g slots) (filter_map (λ (s : VtocSlot). set_in s.content) slots)) ≤ 1)
      → ((x : F1) (n k t : ℕ) → slice_get (filter_map (λ (s : VtocSlot). set_in s.content) slots) n ≡ Some x → slice_get (owned_tracks (counted_runs g slots x)) k ≡ Some t → is_in t vtoc ≡ false)
      → ((t : ℕ) → ((k : ℕ) → slice_get (owned_tracks (counted_runs g slots f)) k ≡ Some t → ⊥) → track_bytes after g t ≡ track_bytes before g t)
      → body_of g b f.name (attr_of f) (counted_runs g slots f) f.lstar ≡ body_of g a f.name (attr_of f) (counted_runs g slots f) f.lstar → data_sets_in g b slots ≡ data_sets_in g a slots
  unfolding data_sets_in
  sets_same slots m f there once out others mine = map_at (data_set_of g b slots) (data_set_of g a slots) fs (λ n x is. set_same slots x (each n x is))
    where
      fs : List F1
      fs = filter_map (λ (s : VtocSlot). set_in s.content) slots

      h : F1 → List Run
      h = counted_runs g slots

      -- the body of a set on one of the images
      by : List (List ℕ) → F1 → Body
      by tracks x = body_of g tracks x.name (attr_of x) (h x) x.lstar

      other : (n : ℕ) (x : F1) → slice_get fs n ≡ Some x → n ≢ m → by b x ≡ by a x
      other n x is apart = body_same g a b x.name (attr_of x) (h x) x.lstar one
        where
          one : (k t : ℕ) (u : Option ℕ) → slice_get (owned_tracks (h x)) k ≡ Some t → records_in g b u t ≡ records_in g a u t
          one k t u own = on_same g vtoc before after u t (out x n k t is own) (by_bytes u t (others t (λ j mine'. absurd (omega (arith, once t, two_of h t fs n m x f is there apart, owned_some (h x) k t own, owned_some (h f) j t mine')))))

      each : (n : ℕ) (x : F1) → slice_get fs n ≡ Some x → by b x ≡ by a x
      each n x is = elim (eqb_tells n m) [
        | inl w ↦ same_set n x is w.1
        | inr w ↦ other n x is w.1
      ]
        where
          same_set : (n : ℕ) (x : F1) → slice_get fs n ≡ Some x → n ≡ m → by b x ≡ by a x
          same_set n x is e =
              let one : slice_get fs m ≡ Some x = ap (slice_get fs) (sym e) ∙ is in
              let same : f ≡ x = cc in
              subst (λ (y : F1). by b y ≡ by a y) same mine
