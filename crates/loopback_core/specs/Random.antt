-- Pseudo-random bytes: the upper bits of a linear congruential generator below 2^31.
-- Assumes nothing.
use Rattle.std.specs.Prelude.{ℕ, zero, suc, ◌+◌, ◌*◌, ◌/◌, ◌%◌, List}
use Rattle.bits.specs.Lists.{tabulate}
use Rattle.bits.specs.Parts.{end_to_end}

-- The generator's state, from the seed and the stream's number on.
unfoldable pub state_at : ℕ → ℕ → ℕ
state_at stream zero = 20251115 + stream
state_at stream (suc i) = (state_at stream i * 1103515245 + 12345) % 2147483648

-- Number i of a stream, divided by d.
unfoldable pub drawn : ℕ → ℕ → ℕ → ℕ
drawn stream d i = state_at stream (suc i) / 65536 % 256 / d

-- The payload of pair k of an encoder, a stream of its own; and of half q of a run, 168 pairs.
unfoldable pub pair_payload : ℕ → ℕ → List ℕ
pair_payload encoder k = tabulate 444 (drawn (k * 2 + encoder) 1)

unfoldable pub payload_in : ℕ → ℕ → List ℕ
payload_in encoder q = end_to_end 168 444 (λ k. pair_payload encoder (q * 168 + k))

-- The overhead list: sixteenths of a stream.
unfoldable pub drawn_list : List ℕ
drawn_list = tabulate 12288 (drawn 4294967295 16)
