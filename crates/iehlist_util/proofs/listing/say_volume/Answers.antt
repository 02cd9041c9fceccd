use Rattle.std.proofs.Common.{◌≡◌, ◌∙◌, List, [], ◌∷◌, ◌++◌, ℕ, refl, sym, ap}
use Rattle.std.specs.Prelude.{Some, slice_get}
use Rattle.vol_model.specs.declared.answers.VolumeInfo.{VolumeInfo}
use Rattle.vol_model.specs.declared.contents.Shelf.{Shelf}
use Rattle.util_steps.proofs.Reporting.{has_said}
use Rattle.iehlist_util.specs.Lines.{volume_line}
use Rattle.iehlist_util.specs.Items.{listed_on, volume_listing}
use Rattle.iehlist_util.proofs.Listings.{says_begin, says_last, says_more}
use Rattle.iehlist_util.proofs.listing.say_volume.Goals as goal

pub returns-clause-says : goal.returns-clause-says
returns-clause-says g c told volume at is =
    let m = g.M.Machine.meaning in
    let request = c.args.request.now in
    let rest = (listed_on request.format volume request.names).lines in
    let lines : List (List ℕ) = volume_line c.args.info.now ∷ [] in
    let runs = c.in_ok-say_volume_line.ensures.says told in
    let parts : (volume_listing request volume).lines ≡ lines ++ rest = ap (λ (i : VolumeInfo). (volume_line i ∷ []) ++ rest) (sym is) in
    let here : slice_get (m c.say_volume_line.new.machine).state.volumes c.args.v ≡ Some volume = ap (λ (s : Shelf). slice_get s.volumes c.args.v) runs.shelf ∙ at in
    says_last (says_more (says_begin g.M.Machine.tells_prints (volume_listing request volume).lines (m c.args.machine.now)) lines rest parts (has_said lines runs)) rest c.say_sets.result refl (c.say_sets.ensures.says told volume here)
