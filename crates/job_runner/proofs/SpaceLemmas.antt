-- How many blocks a track takes, counted one by one, and what is told of a volume.
use Rattle.std.proofs.Common.{◌≡◌, ℕ, suc, ◌+◌, ◌-◌, ◌<◌, ◌≤◌, Bool, true, false, cond, take, sym, ◌∙◌, ap, arith}
use Rattle.std.specs.Prelude.{replicate, Option, Some, None, option_map}
use Rattle.std.specs.List.{prefix_len, range_with_len}
use Rattle.std.proofs.lemmas.Bool.Decides.{nat_tests}
use Rattle.std.proofs.lemmas.List.{take-replicate}
use Rattle.ckd_image.specs.declared.device.DiskType.{DiskType}
use Rattle.ckd_image.specs.declared.device.DiskType.TheVariants.{D2311, D2314, D3330, D3350}
use Rattle.jcl_forms.specs.declared.space.Space.{Space}
use Rattle.vol_model.specs.declared.answers.VolumeInfo.{VolumeInfo}
use Rattle.vol_model.specs.declared.contents.Volume.{Volume}
use Rattle.vol_model.specs.Reading.{volume_info}
use Rattle.job_runner.specs.DataSets.{wanted_on, wanted_with}
use Rattle.job_runner.specs.Space.{blocks_per_track, request_on, takes_one_more}

-- the first of so many like blocks
pub front : (n : ℕ) (x : ℕ × ℕ) → n < 255 → take n (replicate 255 x) ≡ replicate n x
front n x below = take-replicate n 255 x (omega (arith, below))

-- the blocks after so many
unfoldable pub more_blocks : DiskType → ℕ → ℕ → ℕ
more_blocks device len n = prefix_len (takes_one_more device len) (range_with_len n (255 - n))

pub blocks_begin : (device : DiskType) (len : ℕ) → blocks_per_track device len ≡ 0 + more_blocks device len 0
unfolding blocks_per_track more_blocks
blocks_begin device len = omega arith

module _ (device : DiskType) (len n : ℕ) where
  one_first : (k : ℕ) (t : Bool) → takes_one_more device len n ≡ t → prefix_len (takes_one_more device len) (range_with_len n (suc k)) ≡ cond t (1 + prefix_len (takes_one_more device len) (range_with_len (n + 1) k)) 0
  one_first k t is = ap (λ (b : Bool). cond b (1 + prefix_len (takes_one_more device len) (range_with_len (n + 1) k)) 0) is

  with_first : (t : Bool) → n < 255 → takes_one_more device len n ≡ t → more_blocks device len n ≡ cond t (1 + more_blocks device len (n + 1)) 0
  unfolding more_blocks
  with_first t below is =
      let left : 255 - n ≡ suc (255 - (n + 1)) = omega (arith, below) in
      ap (λ (k : ℕ). prefix_len (takes_one_more device len) (range_with_len n k)) left ∙ one_first (255 - (n + 1)) t is

  pub one_fits : n < 255 → takes_one_more device len n ≡ true → blocks_per_track device len ≡ n + more_blocks device len n → blocks_per_track device len ≡ (n + 1) + more_blocks device len (n + 1)
  one_fits below is so = let step = with_first true below is in omega (arith, so, step)

  pub none_fits : n < 255 → takes_one_more device len n ≡ false → blocks_per_track device len ≡ n + more_blocks device len n → n ≡ blocks_per_track device len
  none_fits below is so = let step = with_first false below is in omega (arith, so, step)

-- no more than 255
pub all_fit : (device : DiskType) (len n : ℕ) → 255 ≤ n → blocks_per_track device len ≡ n + more_blocks device len n → n ≡ blocks_per_track device len
unfolding more_blocks
all_fit device len n past so =
    let none : 255 - n ≡ 0 = omega (arith, past) in
    let step : prefix_len (takes_one_more device len) (range_with_len n (255 - n)) ≡ 0 = ap (λ (k : ℕ). prefix_len (takes_one_more device len) (range_with_len n k)) none in
    omega (arith, so, step)

-- a block that is longer than any count says fits no track
pub too_long : (device : DiskType) (len : ℕ) → 65535 < len → blocks_per_track device len ≡ 0
unfolding takes_one_more
too_long device len long = sym (none_fits device len 0 (omega arith) (by_device device) (blocks_begin device len))
  where
    by_device : (d : DiskType) → takes_one_more d len 0 ≡ false
    by_device D2311 = grind (arith, nat_tests, long)
    by_device D2314 = grind (arith, nat_tests, long)
    by_device D3330 = grind (arith, nat_tests, long)
    by_device D3350 = grind (arith, nat_tests, long)

-- what is wanted of a volume, by what is told of it in short
pub wanted_told : (space : Space) (v : ℕ) (o : Option Volume) (info : VolumeInfo) → Some info ≡ option_map volume_info o → wanted_with space v (request_on info.geometry.device space) ≡ wanted_on space v o
unfolding volume_info
wanted_told space v None info told = let never : ⊥ = cc in absurd never
wanted_told space v (Some volume) info told = let same : info ≡ volume_info volume = cc in ap (λ (i : VolumeInfo). wanted_with space v (request_on i.geometry.device space)) same
