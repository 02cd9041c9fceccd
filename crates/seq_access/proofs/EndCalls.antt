-- The calls at the end of a writer's blocks: what is spared since the first of them.
use Rattle.std.proofs.Common.{◌≡◌, ◌∙◌, ℕ, List, Result, ap}
use Rattle.hall_core.specs.Facts.{Attached, Facts, unit_of}
use Rattle.hall_core.specs.Images.{image_in}
use Rattle.stop_model.specs.Files.{File}
use Rattle.stop_model.specs.Moments.{Meaning, Same}
use Rattle.vtoc_index.specs.declared.vol.Vol.{Vol}
use Rattle.vtoc_index.specs.Index.{IsMounted}
use Rattle.seq_access.specs.declared.writer.Writer.{Writer}
use Rattle.seq_access.specs.Bodies.{last_in}
use Rattle.seq_access.specs.Writing.{IsWriting, Spares}
use Rattle.seq_access.proofs.EndSteps.{spares_from}
use Rattle.seq_access.proofs.PutCalls.{image_as}

module _ (m0 m1 m2 : Meaning (List File)) (f0 f1 : Facts) (v0 v1 : Vol) (w : Writer) (same : Same m0 m1) (units : f1.units ≡ f0.units) (others : v1 ≡ record v0 { buf = v1.buf }) (there : IsMounted (image_in m0 f0 v0.unit) v1) where
  pub spares_ended : {T E : Type 0} (is : IsWriting (image_in m0 f0 v0.unit) v0 w) (r : Result T E)
      → ((x : IsWriting (image_in m1 f1 v1.unit) v1 w) → Spares (unit_of f1.units v1.unit).name v1 x.f (last_in (image_in m1 f1 v1.unit) v1 x.f) m1 m2 r)
      → Spares (unit_of f0.units v0.unit).name v0 is.f (last_in (image_in m0 f0 v0.unit) v0 is.f) m0 m2 r
  spares_ended is r told =
      let image = image_as m0 m1 f0 f1 v0.unit v1.unit same.state units (ap (λ (v : Vol). v.unit) others) in
      let n0 : List ℕ = (unit_of f0.units v0.unit).name in
      let n1 : List ℕ = (unit_of f1.units v1.unit).name in
      let names : n1 ≡ n0 = ap (λ (v : Vol). (unit_of f1.units v.unit).name) others ∙ ap (λ (us : List Attached). (unit_of us v0.unit).name) units in
      spares_from (image_in m0 f0 v0.unit) (image_in m1 f1 v1.unit) v0 v1 w image others there is n0 n1 m0 m1 m2 r names same told
