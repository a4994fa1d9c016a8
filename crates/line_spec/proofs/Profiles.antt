-- Demand 3 for each profile: over the type of the two, and of either by name, with its received bit in numbers.
-- Assumes nothing.
use Rattle.std.specs.Prelude.{◌≡◌, List, ℕ, ◌+◌, ◌*◌, ◌/◌, ◌%◌}
use Rattle.bits.specs.Bits.{bit_of}
use Rattle.cells_spec.specs.Modulation.{symbol_of, cells_per_buffer}
use Rattle.profile.specs.declared.Profile.{Profile}
use Rattle.profiles_spec.specs.Profiles.{qam16, qpsk, modulation}
use Rattle.line_spec.specs.Sides.{Side}
use Rattle.line_spec.specs.Line.{output_position, payload_cell_of, line_byte, line_bit}
use Rattle.line_spec.specs.Outward.{Outward}
use Rattle.line_spec.specs.Inward.{Inward}
use Rattle.line_spec.specs.Demand3.{Demand3}
use Rattle.line_spec.proofs.Theorem.{demand3}

pub demand3_each : (f : Profile) (o : Outward (modulation f)) (i : Inward (modulation f) o) → Demand3 (modulation f) o i
demand3_each f = demand3 (modulation f)

pub demand3_qam16 : (o : Outward qam16) (i : Inward qam16 o) → Demand3 qam16 o i
demand3_qam16 = demand3 qam16

pub demand3_qpsk : (o : Outward qpsk) (i : Inward qpsk o) → Demand3 qpsk o i
demand3_qpsk = demand3 qpsk

-- The received bit in 16-QAM: output bit n is bit n mod 8 of the symbol of cell n div 8, of eight buffers of 21,504 cells.
pub line_bit_qam16 : (frames : List (List ℕ)) (e : Side) (R C r c n x : ℕ) → n ≡ output_position e R C r c → x ≡ R / 42 % 8 * 21504 + n / 8
    → line_bit qam16 frames e R C r c ≡ bit_of 8 (symbol_of qam16 (line_byte frames (R / 42 / 8) x 0) (line_byte frames (R / 42 / 8) x 1)) (n % 8)
unfolding line_bit payload_cell_of cells_per_buffer qam16
line_bit_qam16 frames e R C r c n x en ex = rw (ex, en)

-- In QPSK: bit n mod 4 of the symbol of cell n div 4, of four buffers of 43,008 cells.
pub line_bit_qpsk : (frames : List (List ℕ)) (e : Side) (R C r c n x : ℕ) → n ≡ output_position e R C r c → x ≡ R / 42 % 4 * 43008 + n / 4
    → line_bit qpsk frames e R C r c ≡ bit_of 4 (symbol_of qpsk (line_byte frames (R / 42 / 4) x 0) (line_byte frames (R / 42 / 4) x 1)) (n % 4)
unfolding line_bit payload_cell_of cells_per_buffer qpsk
line_bit_qpsk frames e R C r c n x en ex = rw (ex, en)
