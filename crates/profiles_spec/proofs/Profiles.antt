-- Laws of specs/Profiles.antt.
-- Assumes nothing.
use Rattle.std.specs.Prelude.{◌≡◌, refl, ◌*◌}
use Rattle.cells_spec.specs.Modulation.{cells_per_buffer, buffers_in, pairs_in}
use Rattle.profiles_spec.specs.Profiles.{qam16, qpsk}

-- "A buffer gives 43,008 bytes of cells"; a super-frame is "eight buffers", so 168 pairs of each encoder.
pub qam16_sizes : (cells_per_buffer qam16 * 2 ≡ 43008) × (buffers_in qam16 1 ≡ 8) × (pairs_in qam16 1 ≡ 168)
unfolding qam16 cells_per_buffer buffers_in
qam16_sizes = (refl, refl, refl)

-- 02, E1: "A super-frame then carries four buffers of 86,016 cell bytes", so 84 pairs of each encoder.
pub qpsk_sizes : (cells_per_buffer qpsk * 2 ≡ 86016) × (buffers_in qpsk 1 ≡ 4) × (pairs_in qpsk 1 ≡ 84)
unfolding qpsk cells_per_buffer buffers_in
qpsk_sizes = (refl, refl, refl)
