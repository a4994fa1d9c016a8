-- The bytes of a number of 64 bits.
-- Assumes nothing.
use Rattle.std.specs.Prelude.{◌≡◌, refl, ℕ, zero, suc, ◌-◌, ◌*◌, ◌/◌, ◌%◌, ◌^◌, ◌<◌, get_or}
use Rattle.std.proofs.Common.{ap, arith}
use Rattle.std.specs.Int.{w64, to_be_bytes}

pub byte_of : (v i : ℕ) → i < 8 → get_or (to_be_bytes w64 v) i 0 ≡ v / 2 ^ (56 - 8 * i) % 256
byte_of v zero h = refl
byte_of v (suc zero) h = refl
byte_of v (suc (suc zero)) h = refl
byte_of v (suc (suc (suc zero))) h = refl
byte_of v (suc (suc (suc (suc zero)))) h = refl
byte_of v (suc (suc (suc (suc (suc zero))))) h = refl
byte_of v (suc (suc (suc (suc (suc (suc zero)))))) h = refl
byte_of v (suc (suc (suc (suc (suc (suc (suc zero))))))) h = ap (λ u. u % 256) (omega arith)
byte_of v (suc (suc (suc (suc (suc (suc (suc (suc i)))))))) h = absurd (omega arith)
