-- Errors on the line, of a super-frame whose 48 frames stand end to end: cells replaced by legal cells, over a profile.
-- Assumes nothing.
use Rattle.std.specs.Prelude.{ℕ, ◌+◌, ◌-◌, ◌*◌, ◌/◌, ◌%◌, List, slice_index, slice_set}
use Rattle.profile.specs.declared.Profile.{Profile}
use Rattle.profile.specs.declared.Profile.TheVariants.{Qam16, Qpsk}
use Rattle.cells_spec.specs.Modulation.{Modulation, cells_per_buffer}
use Rattle.profiles_spec.specs.Profiles.{modulation}
use Rattle.frame_spec.specs.Frames.{sub_frame_of, cell_of}
use Rattle.loopback_core.specs.Steps.{each_step}

-- A run has 16 buffers: its super-frames.
unfoldable pub superframes_of : Modulation → ℕ
superframes_of p = 16 / p.bits

-- A byte that is legal in every cell.
unfoldable pub legal_byte : Profile → ℕ → ℕ
legal_byte Qam16 y = y % 16
legal_byte Qpsk y = 5 + y / 2 % 2 * 4 + y % 2

-- A cell replaced: X turned round, Y any.
unfoldable pub replaced : Profile → ℕ → ℕ → List ℕ → List ℕ
replaced f cell y line = slice_set (slice_set line (cell * 2) (15 - slice_index line (cell * 2) % 16)) (cell * 2 + 1) (legal_byte f y)

-- The byte of a buffer's bits that is struck: number i of five for an encoder in buffer b of 16.
unfoldable pub struck_byte : ℕ → ℕ → ℕ → ℕ
struck_byte b encoder i = ((b + encoder + i) % 8 * 16 + b) * 168 + i / 3 * 2 + encoder

-- The payload cell of the super-frame that has its first bit.
unfoldable pub struck : Modulation → ℕ → ℕ → ℕ → ℕ
struck p b encoder i = b % p.bits * cells_per_buffer p + struck_byte b encoder i * 8 / p.bits

-- The cell that carries payload cell x of the super-frame.
unfoldable pub carrier : ℕ → ℕ
carrier x = sub_frame_of x * 3712 + cell_of x

-- The payload cells that are struck: number u of the 160 of a run, ten to a buffer; number v of super-frame q.
unfoldable pub strike_one : Profile → ℕ → List ℕ → List ℕ
strike_one f u line = replaced f (carrier (struck (modulation f) (u / 10) (u % 2) (u / 2 % 5))) (u * 7) line

abbrev pub strike : Profile → ℕ → ℕ → List ℕ → List ℕ
strike f q v = strike_one f (q * ((modulation f).bits * 10) + v)

-- Cell c of sub-frame s.
unfoldable pub strike_cell : Profile → ℕ → ℕ → List ℕ → List ℕ
strike_cell f c s line = replaced f (s * 3712 + c) s line

-- All that is struck in super-frame q: training cell 0 and a pilot in every sub-frame, training cell 1 and another pilot in the first
-- 48, or 16 where q is odd.
unfoldable pub damaged : Profile → ℕ → List ℕ → List ℕ
damaged f q line =
    each_step (48 - q % 2 * 32) (strike_cell f 160) (each_step (48 - q % 2 * 32) (strike_cell f 1)
    (each_step 48 (strike_cell f 128) (each_step 48 (strike_cell f 0) (each_step ((modulation f).bits * 10) (strike f q) line))))
