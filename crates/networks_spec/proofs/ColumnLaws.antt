-- The columns of the matrices are those of the code: compared with the powers of a, and their cubes, by computation.
-- Assumes nothing.
use Rattle.std.specs.Prelude.{◌≡◌, List, ℕ, zero, suc, ◌+◌, ◌-◌, ◌*◌, ◌/◌, ◌%◌, ◌<◌, get_or}
use Rattle.bits.specs.Tests.{grid}
use Rattle.bits.specs.Xor.{◌⊕◌}
use Rattle.gf256.specs.Linear.{Linear, lin, lin_linear, then, same}
use Rattle.gf256.specs.Tables.{powers, cubed}
use Rattle.blocks.specs.Moves.{pick}
use Rattle.networks_spec.specs.Networks.{back_columns, front_columns, up64_columns, up32_columns, up16_columns}

-- Of block C of eight, moved to the last place: 64, 32 and 16 places on, or not.
unfoldable pub raise : ℕ → ℕ → ℕ
raise C x =
    pick (C % 2) (pick (C / 2 % 2) (pick (C / 4) x (lin up64_columns x)) (lin up32_columns (pick (C / 4) x (lin up64_columns x))))
    (lin up16_columns (pick (C / 2 % 2) (pick (C / 4) x (lin up64_columns x)) (lin up32_columns (pick (C / 4) x (lin up64_columns x)))))

picked : (t : ℕ) {f g : ℕ → ℕ} → Linear f → Linear g → Linear (λ x. pick t (f x) (g x))
unfolding pick
picked zero F G = G
picked (suc t) F G = F

step_linear : (t : ℕ) (cs : List ℕ) {f : ℕ → ℕ} → Linear f → Linear (λ x. pick t (f x) (lin cs (f x)))
step_linear t cs F = picked t F (then F (lin_linear cs))

pub raise_linear : (C : ℕ) → Linear (raise C)
unfolding raise
raise_linear C = step_linear (C % 2) up16_columns (step_linear (C / 2 % 2) up32_columns (step_linear (C / 4) up64_columns same))

-- S1 and S3 of the word whose bit k alone is set; bit 255 as if the powers went on.
unfoldable pub column : ℕ → ℕ
column k = get_or powers ((509 - k) % 255) 0 + 256 * get_or cubed (get_or powers ((509 - k) % 255) 0) 0

pub front_columns_lem : (C j : ℕ) → C < 8 → j < 16 → raise C (get_or front_columns j 0) ≡ column (C * 16 + j)
unfolding raise column pick lin powers cubed front_columns up64_columns up32_columns up16_columns ◌⊕◌
front_columns_lem = grid 8 16 (λ C j. raise C (get_or front_columns j 0)) (λ C j. column (C * 16 + j)) tt

pub back_columns_lem : (C j : ℕ) → C < 8 → j < 16 → raise C (get_or back_columns j 0) ≡ column (128 + (C * 16 + j))
unfolding raise column pick lin powers cubed back_columns up64_columns up32_columns up16_columns ◌⊕◌
back_columns_lem = grid 8 16 (λ C j. raise C (get_or back_columns j 0)) (λ C j. column (128 + (C * 16 + j))) tt
