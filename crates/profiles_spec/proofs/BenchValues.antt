-- The bench values of 01 for cells: "† Bytes to cells: 255 gives 10, 10; 128 gives 12, 0; 8 gives 3, 0; 1 gives 0, 1." Below them a few
-- of QPSK, worked out by hand from 002, 7.3.1.1.
-- Assumes nothing.
use Rattle.std.specs.Prelude.{◌≡◌, refl, [], ◌∷◌}
use Rattle.bits.specs.Lists.{tabulate}
use Rattle.bits.specs.Bits.{bit_of, bit, from_bits}
use Rattle.cells_spec.specs.Levels.{level, ordinal, rails}
use Rattle.cells_spec.specs.Cells.{symbol_at, cells_at, to_cells}
use Rattle.cells_spec.specs.Qam16 as Q16
use Rattle.cells_spec.specs.Qpsk as Q
use Rattle.profiles_spec.specs.Profiles.{qam16, qpsk}

pub bench_cells : to_cells qam16 (255 ∷ 128 ∷ 8 ∷ 1 ∷ []) ≡ 10 ∷ 10 ∷ 12 ∷ 0 ∷ 3 ∷ 0 ∷ 0 ∷ 1 ∷ []
unfolding qam16 to_cells tabulate cells_at symbol_at from_bits bit Q16.cell_byte Q16.x_of Q16.y_of rails ordinal level bit_of
bench_cells = refl

-- 0x1B is the symbols 0001 and 1011: X (−1, −1) and Y (−1, 1), then X (1, 1) and Y (−1, 1).
pub bench_cells_qpsk : to_cells qpsk (27 ∷ []) ≡ 5 ∷ 6 ∷ 10 ∷ 6 ∷ []
unfolding qpsk to_cells tabulate cells_at symbol_at from_bits bit Q.cell_byte Q.x_of Q.y_of rails ordinal Q.bit_level bit_of
bench_cells_qpsk = refl

-- One cell of each level pair, in X and in Y: 0x47 and 0x8B are the symbols 0100, 0111, 1000 and 1011.
pub bench_levels_qpsk : to_cells qpsk (71 ∷ 139 ∷ []) ≡ 5 ∷ 9 ∷ 6 ∷ 10 ∷ 9 ∷ 5 ∷ 10 ∷ 6 ∷ []
unfolding qpsk to_cells tabulate cells_at symbol_at from_bits bit Q.cell_byte Q.x_of Q.y_of rails ordinal Q.bit_level bit_of
bench_levels_qpsk = refl
