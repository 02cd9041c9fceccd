-- The steps of a repair, one after another.
use Rattle.std.proofs.Common.{◌≡◌, ⊎_elim, inl, inr, ℕ, List, refl, sym, subst, ◌∙◌}
use Rattle.std.specs.Prelude.{Result, Ok, Err}
use Rattle.free_rebuild.specs.Repairs.{IsSafe, image_named}
use Rattle.pack_spec.specs.Volume.{volume_of}
use Rattle.pack_spec.specs.declared.MountErr.{MountErr}
use Rattle.stop_model.specs.Files.{File}
use Rattle.stop_model.specs.Moments.{Elapses, IsDurable, Meaning}
use Rattle.stop_model.proofs.MomentLemmas.{elapses_none, elapses_then, elapses_weaker}
use Rattle.vol_model.specs.declared.contents.Volume.{Volume}
use Rattle.vtoc_index.specs.Index.{IsMounted}
use Rattle.vtoc_index.specs.declared.vol.Vol.{Vol}
use Rattle.mount_repair.specs.Repairs.{KeepsVtoc, PacksDirs, StaysVolume}
use Rattle.mount_repair.specs.Scans.{AreUnpacked}
use Rattle.mount_repair.specs.declared.scanned.Unpacked.{Unpacked}

pub one_volume : {a b : Volume} → ◌≡◌ {A = Result Volume MountErr} (Ok a) (Ok b) → a ≡ b
one_volume same = cc

-- ---- what stops leave

module _ (name : List ℕ) (volume : Volume) where
  pub keeps_same : (files : List File) → volume_of (image_named files name) ≡ Ok volume → KeepsVtoc name volume files files
  keeps_same files stands = record { stands = stands; guarded = λ is. is; vtoc = λ track inside. refl; others = λ other differs. refl }

  pub keeps_then : (a b c : List File) → KeepsVtoc name volume a b → KeepsVtoc name volume b c → KeepsVtoc name volume a c
  keeps_then a b c first second = record {
    stands = second.stands;
    guarded = λ is. second.guarded (first.guarded is);
    vtoc = λ track inside. second.vtoc track inside ∙ first.vtoc track inside;
    others = λ other differs. second.others other differs ∙ first.others other differs;
  }

  pub stays_same : (files : List File) → volume_of (image_named files name) ≡ Ok volume → StaysVolume name volume files files
  stays_same files stands = record { stands = stands; guarded = inr (λ track inside. refl); others = λ other differs. refl }

  pub stays_safe : (a b : List File) → IsSafe name volume a b → StaysVolume name volume a b
  stays_safe a b safe = record { stands = safe.stands; guarded = safe.guarded; others = safe.others }

  pub stays_then : (a b c : List File) → StaysVolume name volume a b → KeepsVtoc name volume b c → StaysVolume name volume a c
  stays_then a b c first second = record {
    stands = second.stands;
    guarded = ⊎_elim (λ is. inl (second.guarded is)) (λ same. inr (λ track inside. second.vtoc track inside ∙ same track inside)) first.guarded;
    others = λ other differs. second.others other differs ∙ first.others other differs;
  }

-- ---- directories packed one after another

-- none is packed yet
pub packs_none : {T E : Type 0} (name : List ℕ) (v : Vol) (rest : List Unpacked) (m : Meaning (List File)) (x : T) → IsMounted (image_named m.state name) v → IsDurable m → AreUnpacked (image_named m.state name) v rest → PacksDirs {E = E} name v rest m m (Ok x)
packs_none name v rest m x mounted durable left = record {
  volume = _;
  before = mounted.volume;
  keeps = keeps_same name _ m.state mounted.volume;
  settled = λ is. is;
  index = mounted;
  left = left;
  durable = durable;
  printed = refl;
  moments = elapses_none m _;
}

module _ {S D : Type 0} (name : List ℕ) (v v' : Vol) (rest rest' : List Unpacked) (old mid new : Meaning (List File)) (x : S) (so_far : PacksDirs {E = D} name v rest old mid (Ok x)) where
  moments_then : {T E : Type 0} (r : Result T E) → PacksDirs name v' rest' mid new r → Elapses old new (λ files p. KeepsVtoc name so_far.volume old.state files × (p ≡ old.printed))
  moments_then r run =
      let same : run.volume ≡ so_far.volume = one_volume (sym run.before ∙ so_far.keeps.stands) in
      elapses_then so_far.moments (elapses_weaker run.moments (λ files p stop. (
        keeps_then name so_far.volume old.state mid.state files so_far.keeps (subst (λ (w : Volume). KeepsVtoc name w mid.state files) same stop.0),
        stop.1 ∙ so_far.printed,
      )))

  -- one more is packed
  pub packs_next : {T U E F : Type 0} (y : T) (z : U) → PacksDirs {E = E} name v' rest' mid new (Ok y) → PacksDirs {E = F} name v' rest' old new (Ok z)
  packs_next y z run =
      let same : run.volume ≡ so_far.volume = one_volume (sym run.before ∙ so_far.keeps.stands) in record {
        volume = so_far.volume;
        before = so_far.before;
        keeps = keeps_then name so_far.volume old.state mid.state new.state so_far.keeps (subst (λ (w : Volume). KeepsVtoc name w mid.state new.state) same run.keeps);
        settled = λ is. run.settled (so_far.settled is);
        index = run.index;
        left = run.left;
        durable = run.durable;
        printed = run.printed ∙ so_far.printed;
        moments = moments_then (Ok y) run;
      }

  -- or isn't
  pub packs_stopped : {T U E F : Type 0} (e : E) (f : F) → PacksDirs {T = T} name v' rest' mid new (Err e) → PacksDirs {T = U} name v' rest' old new (Err f)
  packs_stopped e f run = record {
    volume = so_far.volume;
    before = so_far.before;
    keeps = tt;
    settled = tt;
    index = tt;
    left = tt;
    durable = tt;
    printed = run.printed ∙ so_far.printed;
    moments = moments_then (Err e) run;
  }
