use Rattle.std.proofs.Common.{◌≡◌, ◌+◌, ◌++◌, ◌∷◌, [], arith, length, get_or, List, ℕ, ap, ◌∙◌}
use Rattle.std.specs.Int.{w16, to_be_bytes}
use Rattle.stop_model.specs.Files.{patched}
use Rattle.ckd_image.specs.Track.{count_of}
use Rattle.ckd_image.specs.Writing.{record_on}
use Rattle.track_records.proofs.PutLemmas.{record_put}
use Rattle.track_records.proofs.appending.put_record.Goals as goal

abbrev count_with : ℕ → ℕ → List ℕ → List ℕ → List ℕ → List ℕ
count_with r kl cc hh dl = get_or cc 0 0 ∷ get_or cc 1 0 ∷ get_or hh 0 0 ∷ get_or hh 1 0 ∷ r ∷ kl ∷ get_or dl 0 0 ∷ get_or dl 1 0 ∷ []

pub returns : goal.returns
returns c =
    let key : List ℕ = c.args.key.now in
    let bytes : List ℕ = c.args.bytes.now in
    let count : List ℕ = count_of c.args.number (record_on c.args.cylinder c.args.head key c.args.payload.now) in
    let kl : ℕ = length key in
    let first : c.put_parts.new.bytes ≡ patched bytes c.args.at (count ++ key) =
    c.put_parts.ensures
    ∙ ap (λ (cc : List ℕ). patched bytes c.args.at (count_with c.args.number kl cc c.to_be_bytes-2.result c.to_be_bytes-3.result ++ key)) c.to_be_bytes.ensures
    ∙ ap (λ (hh : List ℕ). patched bytes c.args.at (count_with c.args.number kl (to_be_bytes w16 c.args.cylinder) hh c.to_be_bytes-3.result ++ key)) c.to_be_bytes-2.ensures
    ∙ ap (λ (dl : List ℕ). patched bytes c.args.at (count_with c.args.number kl (to_be_bytes w16 c.args.cylinder) (to_be_bytes w16 c.args.head) dl ++ key)) c.to_be_bytes-3.ensures
    in
    record_put bytes c.put_parts.new.bytes c.put_parts-2.new.bytes c.args.at (c.args.at + 8 + kl) count key c.args.payload.now first c.put_parts-2.ensures (omega arith) (omega (arith, c.requires.room))
