use Rattle.std.proofs.Common.{◌≡◌, ◌∙◌, [], refl, arith, rules}
use Rattle.dscb_codec.proofs.Fields.{f4_format, f4_only, f4_read}
use Rattle.dscb_codec.proofs.Tables.{bytes_of, f4_fields, HasFields, HasWidths, has_fields}
use Rattle.dscb_codec.proofs.encoding.f4_bytes.Goals as goal

-- the bytes have the fields
has : (c : goal.After-joined) → HasFields c.joined.result (f4_fields c.args.f.now)
has c =
    let wide : HasWidths (f4_fields c.args.f.now) = search rules depth 40 in
    let is : c.joined.result ≡ bytes_of (f4_fields c.args.f.now) = c.joined.ensures ∙ simp (c.halfword_bytes.ensures.bytes, c.word_bytes.ensures.bytes, c.halfword_bytes-2.ensures.bytes, c.word_bytes-2.ensures.bytes, c.halfword_bytes-3.ensures.bytes, c.halfword_bytes-4.ensures.bytes) in
    has_fields (f4_fields c.args.f.now) 0 140 [] c.joined.result refl wide refl is

pub returns-clause-format : goal.returns-clause-format
returns-clause-format c = f4_format c.joined.result c.args.f.now (has c)

pub returns-clause-fields : goal.returns-clause-fields
returns-clause-fields c = f4_read c.joined.result c.args.f.now c.halfword_bytes.ensures.fits c.word_bytes.ensures.fits c.halfword_bytes-2.ensures.fits c.word_bytes-2.ensures.fits c.halfword_bytes-3.ensures.fits c.halfword_bytes-4.ensures.fits (has c)

pub returns-clause-only : goal.returns-clause-only
returns-clause-only c = f4_only c.args.f.now c.joined.result (omega arith) (has c)
