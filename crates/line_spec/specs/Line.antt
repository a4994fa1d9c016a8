-- The received bit. 01, "Rows and pairs": "The received bit is the one that the cells off the line give there, by the definitions of
-- framing, cells and interleaving read backwards." It is a formula over the cells and not what our calls give back.
-- Assumes nothing.
use Rattle.std.specs.Prelude.{List, [], ℕ, ◌+◌, ◌*◌, ◌/◌, ◌%◌, get_or}
use Rattle.bits.specs.Bits.{bit_of}
use Rattle.pair_spec.specs.Rows.{RowBits}
use Rattle.interleaver_spec.specs.Interleaving.{pairs_bit, output_of}
use Rattle.cells_spec.specs.Modulation.{Modulation, symbol_of, cells_per_buffer}
use Rattle.frame_spec.specs.Frames.{sub_frame_of, cell_of}
use Rattle.line_spec.specs.Sides.{Side, encoder}

-- "A buffer takes 21 pairs" of each encoder: row R is in buffer R div 42, and there row R mod 42. Its bit (C, r, c) is this output bit.
unfoldable pub output_position : Side → ℕ → ℕ → ℕ → ℕ → ℕ
output_position e R C r c = output_of (encoder e) (pairs_bit (R % 42) C r c)

-- Output bit n is in symbol n div w of its buffer, w being the bits of a symbol, and a symbol is a cell. A super-frame is w buffers, so
-- that is this payload cell of super-frame R div 42 div w.
unfoldable pub payload_cell_of : Modulation → Side → ℕ → ℕ → ℕ → ℕ → ℕ
payload_cell_of p e R C r c = R / 42 % p.bits * cells_per_buffer p + output_position e R C r c / p.bits

-- Byte h (X or Y) of payload cell x of super-frame q, on a line that is the list of its sub-frames, 48 a super-frame.
unfoldable pub line_byte : List (List ℕ) → ℕ → ℕ → ℕ → ℕ
line_byte frames q x h = get_or (get_or frames (48 * q + sub_frame_of x) []) (cell_of x * 2 + h) 0

-- The bit of (R, C, r, c) of an encoder that a line of frames gives: bit n mod w of the symbol of that cell.
unfoldable pub line_bit : Modulation → List (List ℕ) → Side → RowBits
line_bit p frames e R C r c =
    bit_of p.bits
    (symbol_of p (line_byte frames (R / 42 / p.bits) (payload_cell_of p e R C r c) 0) (line_byte frames (R / 42 / p.bits) (payload_cell_of p e R C r c) 1))
    (output_position e R C r c % p.bits)
