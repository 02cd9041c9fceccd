use Rattle.std.proofs.Common.{◌≡◌, ◌∙◌, [], refl, length, ap, arith, rules}
use Rattle.std.specs.List.{concat}
use Rattle.dscb_codec.proofs.Fields.{f3_format, f3_only, f3_read}
use Rattle.dscb_codec.proofs.Tables.{bytes_of, f3_fields, HasFields, HasWidths, has_fields}
use Rattle.dscb_codec.proofs.encoding.f3_bytes.Goals as goal

-- the bytes have the fields
has : (c : goal.After-joined) → HasFields c.joined.result (f3_fields c.args.f.now)
has c =
    let front : length (concat c.args.f.now.front) ≡ 40 = omega (arith, ap length c.flat-front.ensures.bytes) in
    let back : length (concat c.args.f.now.back) ≡ 90 = omega (arith, ap length c.flat-back.ensures.bytes) in
    let wide : HasWidths (f3_fields c.args.f.now) = search rules depth 40 in
    let is : c.joined.result ≡ bytes_of (f3_fields c.args.f.now) = c.joined.ensures ∙ simp (c.word_bytes.ensures.bytes, c.flat-front.ensures.bytes, c.flat-back.ensures.bytes) in
    has_fields (f3_fields c.args.f.now) 0 140 [] c.joined.result refl wide refl is

pub returns-clause-format : goal.returns-clause-format
returns-clause-format c = f3_format c.joined.result c.args.f.now (has c)

pub returns-clause-fields : goal.returns-clause-fields
returns-clause-fields c = f3_read c.joined.result c.args.f.now c.word_bytes.ensures.fits c.flat-front.ensures.rows c.flat-back.ensures.rows (has c)

pub returns-clause-only : goal.returns-clause-only
returns-clause-only c = f3_only c.args.f.now c.joined.result (omega arith) (has c)
