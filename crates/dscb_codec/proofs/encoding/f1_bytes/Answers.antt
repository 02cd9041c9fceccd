use Rattle.std.proofs.Common.{◌≡◌, ◌∙◌, [], refl, length, ap, arith, rules}
use Rattle.std.specs.List.{concat}
use Rattle.dscb_codec.proofs.Fields.{f1_format, f1_only, f1_read}
use Rattle.dscb_codec.proofs.Tables.{bytes_of, f1_fields, HasFields, HasWidths, has_fields}
use Rattle.dscb_codec.proofs.encoding.f1_bytes.Goals as goal

-- the bytes have the fields
has : (c : goal.After-joined) → HasFields c.joined.result (f1_fields c.args.f.now)
has c =
    let runs : length (concat c.args.f.now.runs) ≡ 30 = omega (arith, ap length c.flat-runs.ensures.bytes) in
    let wide : HasWidths (f1_fields c.args.f.now) = search rules depth 40 in
    let is : c.joined.result ≡ bytes_of (f1_fields c.args.f.now) = c.joined.ensures ∙ simp (c.halfword_bytes.ensures.bytes, c.halfword_bytes-2.ensures.bytes, c.halfword_bytes-3.ensures.bytes, c.halfword_bytes-4.ensures.bytes, c.halfword_bytes-5.ensures.bytes, c.word_bytes.ensures.bytes, c.halfword_bytes-6.ensures.bytes, c.flat-runs.ensures.bytes) in
    has_fields (f1_fields c.args.f.now) 0 140 [] c.joined.result refl wide refl is

pub returns-clause-format : goal.returns-clause-format
returns-clause-format c = f1_format c.joined.result c.args.f.now (has c)

pub returns-clause-fields : goal.returns-clause-fields
returns-clause-fields c = f1_read c.joined.result c.args.f.now c.halfword_bytes.ensures.fits c.halfword_bytes-2.ensures.fits c.halfword_bytes-3.ensures.fits c.halfword_bytes-4.ensures.fits c.halfword_bytes-5.ensures.fits c.word_bytes.ensures.fits c.halfword_bytes-6.ensures.fits c.flat-runs.ensures.rows (has c)

pub returns-clause-only : goal.returns-clause-only
returns-clause-only c = f1_only c.args.f.now c.joined.result (omega arith) (has c)
