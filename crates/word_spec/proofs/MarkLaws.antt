-- Laws of what a mark adds up to.
-- Assumes nothing.
use Rattle.std.specs.Prelude.{◌≡◌, refl, ◌≢◌, ℕ, zero, suc, ◌<◌, ◌≤◌}
use Rattle.std.proofs.Common.{arith}
use Rattle.word_spec.specs.Marks.{mark_meaning, flips_in, lost_in}

pub flips_told : (mark : ℕ) → mark < 3 → mark ≡ flips_in mark
unfolding flips_in mark_meaning
flips_told zero h = refl
flips_told (suc zero) h = refl
flips_told (suc (suc zero)) h = refl
flips_told (suc (suc (suc m))) h = absurd (omega arith)

pub no_flips_told : (mark : ℕ) → 3 ≤ mark → 0 ≡ flips_in mark
unfolding flips_in mark_meaning
no_flips_told zero h = absurd (omega arith)
no_flips_told (suc zero) h = absurd (omega arith)
no_flips_told (suc (suc zero)) h = absurd (omega arith)
no_flips_told (suc (suc (suc zero))) h = refl
no_flips_told (suc (suc (suc (suc m)))) h = refl

pub lost_told : (mark : ℕ) → mark ≡ 3 → 1 ≡ lost_in mark
unfolding lost_in mark_meaning
lost_told mark e = rw e refl

pub no_lost_told : (mark : ℕ) → mark ≢ 3 → 0 ≡ lost_in mark
unfolding lost_in mark_meaning
no_lost_told zero n = refl
no_lost_told (suc zero) n = refl
no_lost_told (suc (suc zero)) n = refl
no_lost_told (suc (suc (suc zero))) n = absurd (n refl)
no_lost_told (suc (suc (suc (suc m)))) n = refl

pub ruleset marks_telling = (flips_told, no_flips_told, lost_told, no_lost_told)
