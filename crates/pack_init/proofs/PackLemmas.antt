-- How the making of a new pack goes on and ends.
use Rattle.std.specs.Prelude.{Result, Ok, Err, None}
use Rattle.std.proofs.Common.{◌≡◌, ◌≤◌, ◌+◌, ◌-◌, ◌*◌, ◌++◌, ℕ, List, [], true, false, inl, inr, ⊎_elim, length, take, replicate, ap, sym, subst, refl, ◌∙◌, arith, length-append, if◌then◌else◌}
use Rattle.std.proofs.lemmas.List.{length-replicate, take-replicate, take_at}
use Rattle.ckd_image.specs.declared.header.Geometry.{Geometry}
use Rattle.ckd_image.specs.Header.{header_bytes}
use Rattle.ckd_image.specs.Writing.{new_track}
use Rattle.dscb_codec.specs.declared.Dscb.TheVariants as formats
use Rattle.hall_core.specs.declared.hall.HallErr.{HallErr}
use Rattle.hall_core.specs.declared.hall.HallErr.TheVariants as hall
use Rattle.hall_core.specs.Images.{Creates, IsPartlyCreated}
use Rattle.stop_model.specs.Files.{File, file_of, patched}
use Rattle.stop_model.specs.Moments.{Meaning, IsDurable, Elapses}
use Rattle.stop_model.proofs.MomentLemmas.{elapses_then, elapses_weaker}
use Rattle.pack_spec.specs.Label.{tracks_of}
use Rattle.pack_spec.specs.New.{IsNewImage, IsNewPack, IsSlotOf, address_of, image_with, new_f4, new_f5}
use Rattle.pack_spec.specs.Written.{label_records}
use Rattle.pack_init.specs.declared.error.InitErr.{InitErr}
use Rattle.pack_init.specs.declared.error.InitErr.TheVariants.{Exists, Memory, Device}
use Rattle.pack_init.specs.Init.{IsInitLeft, IsRefusedOrNew, MakesPack, error_of, size_of, with_file}
use Rattle.pack_init.specs.Layout.{vtoc_tracks, with_front, with_tracks}
use Rattle.pack_init.specs.Progress.{HasBehind, IsFrontWritten, IsHeaderless, Writes}
use Rattle.pack_init.proofs.ImageLemmas.{empties, empties_length, tracks_over_zeros, whole_image}
use Rattle.pack_init.proofs.PatchLemmas.{patched_at}
use Rattle.pack_init.proofs.RefusalLemmas.{headerless_refused, unlabelled_refused, zeros_refused}

-- an error of a hall is one of its own
exists_back : (why : HallErr) → error_of why ≡ Exists → why ≡ hall.Exists
exists_back hall.Missing e = absurd (cc e)
exists_back hall.Exists e = refl
exists_back hall.Failed e = absurd (cc e)
exists_back hall.Memory e = absurd (cc e)

memory_back : (why : HallErr) → error_of why ≡ Memory → why ≡ hall.Memory
memory_back hall.Missing e = absurd (cc e)
memory_back hall.Exists e = absurd (cc e)
memory_back hall.Failed e = absurd (cc e)
memory_back hall.Memory e = refl

-- what the front comes to, of an image over whose zeros it is written
pub front_done : (header label rest : List ℕ) (size : ℕ) → length header ≡ 512 → length label ≡ size → with_front header label (replicate 512 0 ++ (replicate size 0 ++ rest)) ≡ header ++ (label ++ rest)
front_done header label rest size long same =
    let over : length (replicate {A = ℕ} 512 0) ≡ length header = sym long in
    let label_over : length (replicate {A = ℕ} size 0) ≡ length label = length-replicate {A = ℕ} size 0 ∙ sym same in
    ap (λ (image : List ℕ). patched image 512 label) (patched_at [] (replicate 512 0) header (replicate size 0 ++ rest) 0 refl over)
    ∙ patched_at header (replicate size 0) label rest 512 long label_over

-- A new pack: what is known of the slots, the label and the other tracks that are written.
pub record Parts (g : Geometry) (serial : List ℕ) (n : ℕ) (slot_0 slot_1 label vtoc : List ℕ) : Type 0 where
  pub pack : IsNewPack g n
  pub format_4 : IsSlotOf (formats.F4 (new_f4 g n)) slot_0
  pub format_5 : IsSlotOf (formats.F5 (new_f5 g n)) slot_1
  pub label_is : label ≡ new_track 0 0 (label_records serial (address_of g 1)) g.track_size
  pub label_size : length label ≡ g.track_size
  pub vtoc_is : vtoc ≡ vtoc_tracks g slot_0 slot_1 n
  pub vtoc_size : length vtoc ≡ n * g.track_size

-- The file was made: what a stop left since then.
pub record IsBegun (g : Geometry) (serial : List ℕ) (n : ℕ) (name : List ℕ) (old now : Meaning (List File)) : Type 0 where
  pub fresh : file_of old.state name ≡ None
  pub state : now.state ≡ with_file old.state name (replicate (size_of g) 0)
  pub printed : now.printed ≡ old.printed
  pub left : IsDurable old → (j : List File) → now.left j → HasBehind old.state name (IsHeaderless (size_of g)) j
  pub moments : IsDurable old → Elapses old now (λ j p. IsInitLeft g serial n name old.state j × (p ≡ old.printed))

-- All tracks but track 0 are written, durably.
pub record IsTracked (g : Geometry) (serial : List ℕ) (n : ℕ) (name rest : List ℕ) (old now : Meaning (List File)) : Type 0 where
  pub fresh : file_of old.state name ≡ None
  pub state : now.state ≡ with_file old.state name (replicate 512 0 ++ (replicate g.track_size 0 ++ rest))
  pub printed : now.printed ≡ old.printed
  pub durable : IsDurable now
  pub moments : IsDurable old → Elapses old now (λ j p. IsInitLeft g serial n name old.state j × (p ≡ old.printed))

module _ (g : Geometry) (serial : List ℕ) (n : ℕ) (name : List ℕ) where
  -- a creation may have ended early
  partly_left : (old : Meaning (List File)) → IsDurable old → (j : List File) → (d : List File) × old.left d × IsPartlyCreated name (size_of g) d j → IsInitLeft g serial n name old.state j
  partly_left old durable j (d, left, made) = ⊎_elim
      (λ none. inl (none ∙ durable d left))
      (λ file. inr (replicate file.0 0, file.2 ∙ ap (λ (l : List File). with_file l name (replicate file.0 0)) (durable d left), inl (zeros_refused file.0)))
      made

  -- the file couldn't be made
  pub create_fails : {old new : Meaning (List File)} (why : HallErr) (answer : Result (Unit {0}) InitErr) → answer ≡ Err (error_of why) → Creates name (size_of g) old new (Err why) → MakesPack g serial n name old new answer
  create_fails {old = old} {new = new} why answer is made = subst (λ a. MakesPack g serial n name old new a) (sym is) (record {
    fresh = tt;
    done = tt;
    durable = tt;
    exists = λ e. let same : error_of why ≡ Exists = cc in made.exists (ap Err (exists_back why same));
    stays = made.stays;
    memory = λ e. let same : error_of why ≡ Memory = cc in (made.memory (ap Err (memory_back why same))).0;
    printed = made.printed;
    moments = λ durable. elapses_weaker made.moments (λ j p has. (partly_left old durable j has.0, has.1));
  })

  -- the file was made
  pub begun : {old new : Meaning (List File)} (unit : ℕ) → Creates name (size_of g) old new (Ok unit) → IsBegun g serial n name old new
  begun {old = old} {new = new} unit made = record {
    fresh = made.fresh;
    state = made.state;
    printed = made.printed;
    left = λ durable j left.
        let d = (made.left j).0 left in
        (replicate (size_of g) 0, d.2 ∙ ap (λ (l : List File). with_file l name (replicate (size_of g) 0)) (durable d.0 d.1), zeros);
    moments = λ durable. elapses_weaker made.moments (λ j p has. (partly_left old durable j has.0, has.1));
  }
    where
      zeros : IsHeaderless (size_of g) (replicate (size_of g) 0)
      zeros = record { whole = length-replicate (size_of g) 0; zeros = let fits : 512 ≤ size_of g = omega arith in take-replicate 512 (size_of g) 0 fits }

  -- what a stop left of headerless images
  headerless_left : (base : List File) (text : List ℕ) (j : List File) (p : List ℕ) → HasBehind base name (IsHeaderless (size_of g)) j × (p ≡ text) → IsInitLeft g serial n name base j × (p ≡ text)
  headerless_left base text j p (has, printed) = (inr (has.0, has.1, inl (headerless_refused has.0 has.2.zeros)), printed)

  -- and since the file was made
  tracks_moments : {T E : Type 0} {f : List ℕ → List ℕ} {old mid new : Meaning (List File)} {result : Result T E} → IsBegun g serial n name old mid → Writes name (IsHeaderless (size_of g)) f mid new result → IsDurable old → Elapses old new (λ j p. IsInitLeft g serial n name old.state j × (p ≡ old.printed))
  tracks_moments {old = old} {mid = mid} b w durable = elapses_then (b.moments durable)
      (elapses_weaker (w.moments old.state b.fresh (b.left durable)) (λ j p has. headerless_left old.state old.printed j p (has.0, has.1 ∙ b.printed)))

  -- a fault of the device, after the creation
  fault_behind : {old new : Meaning (List File)} (answer : Result (Unit {0}) InitErr) → answer ≡ Err Device → file_of old.state name ≡ None → new.printed ≡ old.printed → (IsDurable old → Elapses old new (λ j p. IsInitLeft g serial n name old.state j × (p ≡ old.printed))) → MakesPack g serial n name old new answer
  fault_behind {old = old} {new = new} answer is fresh printed moments = subst (λ a. MakesPack g serial n name old new a) (sym is) (record {
    fresh = tt;
    done = tt;
    durable = tt;
    exists = λ e. absurd (cc e);
    stays = λ image there. absurd (cc (there, fresh));
    memory = λ e. absurd (cc e);
    printed = printed;
    moments = moments;
  })

  -- the tracks couldn't be written
  pub tracks_fail : {T E : Type 0} {f : List ℕ → List ℕ} {old mid new : Meaning (List File)} {result : Result T E} (answer : Result (Unit {0}) InitErr) → answer ≡ Err Device → IsBegun g serial n name old mid → Writes name (IsHeaderless (size_of g)) f mid new result → MakesPack g serial n name old new answer
  tracks_fail answer is b w = fault_behind answer is b.fresh (w.printed ∙ b.printed) (tracks_moments b w)

  module _ {slot_0 slot_1 label vtoc : List ℕ} (parts : Parts g serial n slot_0 slot_1 label vtoc) where
    abbrev rest : List ℕ
    rest = vtoc ++ empties g n

    -- they were
    pub tracked : {T E : Type 0} {old mid new : Meaning (List File)} {x : T} → IsBegun g serial n name old mid → Writes {T = T} {E = E} name (IsHeaderless (size_of g)) (with_tracks g n vtoc) mid new (Ok x) → IsDurable new → IsTracked g serial n name rest old new
    tracked {old = old} b w durable = record {
      fresh = b.fresh;
      state = w.state old.state (replicate (size_of g) 0) b.fresh b.state ∙ ap (with_file old.state name) (tracks_over_zeros g n vtoc parts.pack parts.vtoc_size);
      printed = w.printed ∙ b.printed;
      durable = durable;
      moments = tracks_moments b w;
    }

    whole : header_bytes g ++ (label ++ rest) ≡ image_with g serial n slot_0 slot_1
    whole = ap (λ (l : List ℕ). header_bytes g ++ (label ++ (l ++ empties g n))) parts.vtoc_is ∙ whole_image g serial n slot_0 slot_1 label parts.pack parts.label_is

    new : (image : List ℕ) → image ≡ header_bytes g ++ (label ++ rest) → IsNewImage g serial n image
    new image is = record { slot_0 = slot_0; slot_1 = slot_1; format_4 = parts.format_4; format_5 = parts.format_5; bytes = is ∙ whole }

    -- of header and track 0 some may be written
    front_left : (image : List ℕ) → IsFrontWritten (header_bytes g) label rest image → IsRefusedOrNew g serial n image
    front_left image (false, l, is) = inl (headerless_refused image (ap (take 512) is ∙ take_at (replicate 512 0) ((if l then label else replicate (length label) 0) ++ rest) 512 refl))
    front_left image (true, false, is) =
        let same : image ≡ header_bytes g ++ (replicate g.track_size 0 ++ rest) = is ∙ ap (λ (k : ℕ). header_bytes g ++ (replicate k 0 ++ rest)) parts.label_size in
        let header : length (header_bytes g) ≡ 512 = refl in
        let m = tracks_of g - (n + 1) in
        let number : tracks_of g ≡ 1 + n + m = omega (arith, parts.pack.room) in
        let all : tracks_of g * g.track_size ≡ (1 + n + m) * g.track_size = ap (λ (t : ℕ). t * g.track_size) number in
        let behind : length rest ≡ n * g.track_size + m * g.track_size = length-append vtoc (empties g n) ∙ omega (arith, parts.vtoc_size, empties_length g n parts.pack) in
        let tracks : length (replicate g.track_size 0 ++ rest) ≡ g.track_size + length rest = length-append (replicate g.track_size 0) rest ∙ omega (arith, length-replicate {A = ℕ} g.track_size 0) in
        let size : length image ≡ size_of g =
        ap length same ∙ length-append (header_bytes g) (replicate g.track_size 0 ++ rest) ∙ omega (arith, header, tracks, behind, all) in
        inr (inl (unlabelled_refused g n image rest parts.pack same size))
    front_left image (true, true, is) = inr (inr (new image is))

    front_behind : (base : List File) (text : List ℕ) (j : List File) (p : List ℕ) → HasBehind base name (IsFrontWritten (header_bytes g) label rest) j × (p ≡ text) → IsInitLeft g serial n name base j × (p ≡ text)
    front_behind base text j p (has, printed) = (inr (has.0, has.1, front_left has.0 has.2), printed)

    front_moments : {T E : Type 0} {f : List ℕ → List ℕ} {old mid new : Meaning (List File)} {result : Result T E} → IsTracked g serial n name rest old mid → Writes name (IsFrontWritten (header_bytes g) label rest) f mid new result → IsDurable old → Elapses old new (λ j p. IsInitLeft g serial n name old.state j × (p ≡ old.printed))
    front_moments {old = old} {mid = mid} t w durable = elapses_then (t.moments durable)
        (elapses_weaker (w.moments old.state t.fresh all) (λ j p has. front_behind old.state old.printed j p (has.0, has.1 ∙ t.printed)))
      where
        zeros : List ℕ
        zeros = replicate 512 0 ++ (replicate g.track_size 0 ++ rest)

        none : IsFrontWritten (header_bytes g) label rest zeros
        none = (false, false, ap (λ (k : ℕ). replicate 512 0 ++ (replicate k 0 ++ rest)) (sym parts.label_size))

        all : (j : List File) → mid.left j → HasBehind old.state name (IsFrontWritten (header_bytes g) label rest) j
        all j left = (zeros, t.durable j left ∙ t.state, none)

    -- header and track 0 couldn't be written
    pub front_fails : {T E : Type 0} {f : List ℕ → List ℕ} {old mid new : Meaning (List File)} {result : Result T E} (answer : Result (Unit {0}) InitErr) → answer ≡ Err Device → IsTracked g serial n name rest old mid → Writes name (IsFrontWritten (header_bytes g) label rest) f mid new result → MakesPack g serial n name old new answer
    front_fails answer is t w = fault_behind answer is t.fresh (w.printed ∙ t.printed) (front_moments t w)

    -- they were
    pub pack_made : {T E : Type 0} {old mid new : Meaning (List File)} {x : T} → IsTracked g serial n name rest old mid → Writes {T = T} {E = E} name (IsFrontWritten (header_bytes g) label rest) (with_front (header_bytes g) label) mid new (Ok x) → IsDurable new → MakesPack g serial n name old new (Ok tt)
    pack_made {old = old} t w durable = record {
      fresh = t.fresh;
      done = (
        header_bytes g ++ (label ++ rest),
        w.state old.state _ t.fresh t.state ∙ ap (with_file old.state name) (front_done (header_bytes g) label rest g.track_size refl parts.label_size),
        new (header_bytes g ++ (label ++ rest)) refl,
      );
      durable = durable;
      exists = λ e. absurd (cc e);
      stays = λ image there. absurd (cc (there, t.fresh));
      memory = λ e. absurd (cc e);
      printed = w.printed ∙ t.printed;
      moments = front_moments t w;
    }
