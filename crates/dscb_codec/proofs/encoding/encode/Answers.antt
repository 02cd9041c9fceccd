use Rattle.std.proofs.Common.{Result, Ok, refl, ap, ◌∙◌}
use Rattle.dscb_codec.specs.declared.Dscb.{Dscb}
use Rattle.dscb_codec.specs.declared.DscbErr.{DscbErr}
use Rattle.dscb_codec.specs.Layout.{decoded}
use Rattle.dscb_codec.proofs.Formats.{decoded_f0, decoded_f1, decoded_f3, decoded_f4, decoded_f5}
use Rattle.dscb_codec.proofs.Tables.{same_zeros}
use Rattle.dscb_codec.proofs.encoding.encode.Goals as goal

pub returns-in-F0-clause-decoded : goal.returns-in-F0-clause-decoded
unfolding decoded
returns-in-F0-clause-decoded c = rw c.in-F0.is refl

pub returns-in-F0-clause-only : goal.returns-in-F0-clause-only
returns-in-F0-clause-only c bytes wide are is = same_zeros bytes _ wide (decoded_f0 bytes (is ∙ ap {B = Result Dscb DscbErr} Ok c.in-F0.is)) refl

pub returns-in-F1-clause-decoded : goal.returns-in-F1-clause-decoded
unfolding decoded
returns-in-F1-clause-decoded c = rw c.in-F1.is (simp (c.f1_bytes.ensures.format, c.f1_bytes.ensures.fields) refl)

pub returns-in-F1-clause-only : goal.returns-in-F1-clause-only
returns-in-F1-clause-only c bytes wide are is =
    let at = decoded_f1 bytes c.in-F1.f (is ∙ ap {B = Result Dscb DscbErr} Ok c.in-F1.is) in
    c.f1_bytes.ensures.only bytes wide are at.0 at.1

pub returns-in-F3-clause-decoded : goal.returns-in-F3-clause-decoded
unfolding decoded
returns-in-F3-clause-decoded c = rw c.in-F3.is (simp (c.f3_bytes.ensures.format, c.f3_bytes.ensures.fields) refl)

pub returns-in-F3-clause-only : goal.returns-in-F3-clause-only
returns-in-F3-clause-only c bytes wide are is =
    let at = decoded_f3 bytes c.in-F3.f (is ∙ ap {B = Result Dscb DscbErr} Ok c.in-F3.is) in
    c.f3_bytes.ensures.only bytes wide are at.0 at.1

pub returns-in-F4-clause-decoded : goal.returns-in-F4-clause-decoded
unfolding decoded
returns-in-F4-clause-decoded c = rw c.in-F4.is (simp (c.f4_bytes.ensures.format, c.f4_bytes.ensures.fields) refl)

pub returns-in-F4-clause-only : goal.returns-in-F4-clause-only
returns-in-F4-clause-only c bytes wide are is =
    let at = decoded_f4 bytes c.in-F4.f (is ∙ ap {B = Result Dscb DscbErr} Ok c.in-F4.is) in
    c.f4_bytes.ensures.only bytes wide are at.0 at.1

pub returns-in-F5-clause-decoded : goal.returns-in-F5-clause-decoded
unfolding decoded
returns-in-F5-clause-decoded c = rw c.in-F5.is (simp (c.f5_bytes.ensures.format, c.f5_bytes.ensures.fields) refl)

pub returns-in-F5-clause-only : goal.returns-in-F5-clause-only
returns-in-F5-clause-only c bytes wide are is =
    let at = decoded_f5 bytes c.in-F5.f (is ∙ ap {B = Result Dscb DscbErr} Ok c.in-F5.is) in
    c.f5_bytes.ensures.only bytes wide are at.0 at.1
