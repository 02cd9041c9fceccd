-- When a data set expires, by what a machine tells of it in short.
use Rattle.std.proofs.Common.{◌≡◌, ℕ, false, List, ap}
use Rattle.std.specs.Prelude.{Option, Some, None, option_map}
use Rattle.std.specs.Option.{option_map_or}
use Rattle.std.specs.Ordering.{is_lt, nat_cmp}
use Rattle.std.specs.Cmp.Lexicographic.{slice_cmp}
use Rattle.vol_model.specs.declared.answers.SetInfo.{SetInfo}
use Rattle.vol_model.specs.declared.contents.DataSet.{DataSet}
use Rattle.vol_model.specs.Reading.{set_info}
use Rattle.util_steps.specs.Expiry.{is_unexpired}

pub unexpired_by : (date : List ℕ) (o : Option DataSet) (info : SetInfo) → Some info ≡ option_map set_info o → is_lt (slice_cmp nat_cmp date info.attr.expires) ≡ option_map_or (is_unexpired date) o false
unfolding set_info
unexpired_by date None info told = let never : ⊥ = cc in absurd never
unexpired_by date (Some x) info told = let same : info ≡ set_info x = cc in ap (λ (i : SetInfo). is_lt (slice_cmp nat_cmp date i.attr.expires)) same
