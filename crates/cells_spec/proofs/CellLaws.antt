-- Laws of cells over any profile: the two maps undo each other, legal cells, and each bit by its place.
-- Assumes nothing.
use Rattle.std.specs.Prelude.{◌≡◌, Bool, List, ℕ, zero, suc, ◌+◌, ◌*◌, ◌/◌, ◌%◌, ◌^◌, ◌<◌, ◌≤◌, get_or}
use Rattle.std.proofs.Math.Path.{sym, ap}
use Rattle.std.proofs.Common.{ap₂, ◌∙◌, mul-div_cancel}
use native.Mathlib.Omega.{arith}
use Rattle.std.proofs.Math.ListN.{length}
use Rattle.std.proofs.Math.Seq.{ext_get_or}
use Rattle.bits.specs.Lists.{tabulate}
use Rattle.bits.specs.ListLaws.{length_tabulate, get_d_tabulate, tabulate_ext}
use Rattle.bits.specs.Bits.{bit_of, bit, from_bits, byte_of, pack}
use Rattle.bits.proofs.BitLaws.{bit_of_lt, bit_of_from_bits, from_bits_lt, from_bits_ext, from_bits_bit_of, bit_lt, length_pack, pack_below}
use Rattle.bits.proofs.BitLaws.{bit_pack_of, bits_equal}
use Rattle.bits.specs.Seeking.{first_none, none_passes}
use Rattle.bits.proofs.DigitLaws.{digit_lt, digits, group_of, place_of, place_lt, group_lt}
use Rattle.cells_spec.specs.Modulation.{Modulation, symbol_of, cells_per_buffer}
use Rattle.cells_spec.proofs.ModulationLaws.{width_pos, buffer_whole, symbol_back, cell_back}
use Rattle.cells_spec.specs.Cells.{payload_rule, first_illegal, Legal, symbol_at, cells_at, to_cells, cells_bit, to_bits}

-- ---- legal cells

module _ (rule : ℕ → ℕ → Bool) (cells : List ℕ) where
  pub all_legal : length cells ≤ first_illegal rule cells → Legal rule cells
  unfolding first_illegal
  all_legal h = record { legal = none_passes 0 rule cells h }

  pub none_illegal : Legal rule cells → length cells ≤ first_illegal rule cells
  unfolding first_illegal
  none_illegal h = omega (arith, first_none 0 rule cells h.legal)

module _ (p : Modulation) where
  -- ---- buffers by their places

  pub to_cells_length : (bits : List ℕ) (m : ℕ) → length bits * 8 ≡ m * p.bits → length (to_cells p bits) ≡ m * 2
  unfolding to_cells
  to_cells_length bits m is =
      length_tabulate (length bits * 8 / p.bits * 2) (cells_at p bits) ∙ ap (λ k. k / p.bits * 2) is ∙ ap (λ k. k * 2) (mul-div_cancel m (width_pos p))

  pub to_bits_length : (cells : List ℕ) (m n : ℕ) → length cells ≡ m * 2 → m * p.bits ≡ n * 8 → length (to_bits p cells) ≡ n
  unfolding to_bits
  to_bits_length cells m n lc is =
      let h : length cells / 2 ≡ m = omega arith in
      length_pack (length cells / 2 * p.bits / 8) (cells_bit p cells) ∙ ap (λ k. k * p.bits / 8) h ∙ ap (λ k. k / 8) is ∙ omega arith

  pub to_cells_at : (bits : List ℕ) (j : ℕ) → j < length (to_cells p bits)
      → get_or (to_cells p bits) j 0 ≡ p.cell (symbol_at p bits (j / 2)) (j % 2)
  unfolding to_cells cells_at
  to_cells_at bits j l =
      get_d_tabulate (length bits * 8 / p.bits * 2) (cells_at p bits) j 0 (omega (arith, length_tabulate (length bits * 8 / p.bits * 2) (cells_at p bits)))

  -- Bit n of the bits is bit n mod w of the symbol of cell n div w.
  pub to_bits_bit : (cells : List ℕ) (n : ℕ) → n < length (to_bits p cells) * 8
      → bit (to_bits p cells) n ≡ bit_of p.bits (symbol_of p (get_or cells (n / p.bits * 2) 0) (get_or cells (n / p.bits * 2 + 1) 0)) (n % p.bits)
  unfolding to_bits cells_bit
  to_bits_bit cells n l =
      bit_pack_of (length cells / 2 * p.bits / 8) (cells_bit p cells)
      (λ k. bit_of_lt p.bits (symbol_of p (get_or cells (k / p.bits * 2) 0) (get_or cells (k / p.bits * 2 + 1) 0)) (k % p.bits)) n
      (omega (arith, length_pack (length cells / 2 * p.bits / 8) (cells_bit p cells)))

  -- Bits to cells always gives legal cells, and cells to bits always gives bytes.
  pub to_cells_legal : (bits : List ℕ) → Legal (payload_rule p) (to_cells p bits)
  unfolding payload_rule
  to_cells_legal bits = record { legal = λ k l. ap p.illegal (to_cells_at bits k l) ∙ p.cell_legal (symbol_at p bits (k / 2)) (k % 2) }

  pub to_bits_below : (cells : List ℕ) (i : ℕ) → get_or (to_bits p cells) i 0 < 256
  unfolding to_bits
  to_bits_below cells = pack_below (length cells / 2 * p.bits / 8) (cells_bit p cells)

  -- ---- there and back

  -- Cells to bits after bits to cells gives the bytes back, where they are whole symbols.
  pub bits_back : (bits : List ℕ) (m : ℕ) → length bits * 8 ≡ m * p.bits → ((i : ℕ) → get_or bits i 0 < 256)
      → to_bits p (to_cells p bits) ≡ bits
  unfolding symbol_at
  bits_back bits m is bytes =
      bits_equal (to_bits p (to_cells p bits)) bits long (to_bits_below (to_cells p bits)) bytes (λ n l. at n (omega (arith, long)))
    where
      long : length (to_bits p (to_cells p bits)) ≡ length bits
      long = to_bits_length (to_cells p bits) m (length bits) (to_cells_length bits m is) (sym is)

      half : (i h : ℕ) → i < m → h < 2 → get_or (to_cells p bits) (i * 2 + h) 0 ≡ p.cell (symbol_at p bits i) h
      half i h l lh =
          let d : (i * 2 + h) / 2 ≡ i = omega arith in
          let r : (i * 2 + h) % 2 ≡ h = omega arith in
          to_cells_at bits (i * 2 + h) (omega (arith, to_cells_length bits m is)) ∙ ap₂ (λ k b. p.cell (symbol_at p bits k) b) d r

      symbol_at_lem : (i : ℕ) → i < m → symbol_of p (get_or (to_cells p bits) (i * 2) 0) (get_or (to_cells p bits) (i * 2 + 1) 0) ≡ symbol_at p bits i
      symbol_at_lem i l =
          ap₂ (symbol_of p) (ap (λ k. get_or (to_cells p bits) k 0) (omega arith) ∙ half i 0 l (omega arith)) (half i 1 l (omega arith))
          ∙ symbol_back p (symbol_at p bits i) (from_bits_lt p.bits (λ k. bit bits (i * p.bits + k)))

      at : (n : ℕ) → n < length bits * 8 → bit (to_bits p (to_cells p bits)) n ≡ bit bits n
      at n l =
          to_bits_bit (to_cells p bits) n (omega (arith, long))
          ∙ ap (λ s. bit_of p.bits s (n % p.bits)) (symbol_at_lem (n / p.bits) (group_lt p.bits (width_pos p) n m (omega arith)))
          ∙ bit_of_from_bits p.bits (λ k. bit bits (n / p.bits * p.bits + k)) (n % p.bits) (digit_lt p.bits (width_pos p) n)
          ∙ ap (λ k. bit bits k % 2) (digits p.bits (width_pos p) n)
          ∙ omega (arith, bit_lt bits n)

  -- Bits to cells after cells to bits gives legal cells back, where they are whole bytes.
  pub cells_back : (cells : List ℕ) (m n : ℕ) → length cells ≡ m * 2 → m * p.bits ≡ n * 8 → Legal (payload_rule p) cells
      → to_cells p (to_bits p cells) ≡ cells
  unfolding payload_rule symbol_at
  cells_back cells m n lc is legal =
      ext_get_or 0 (to_cells p (to_bits p cells)) cells (long ∙ sym lc) (λ j l. at j (omega (arith, long)))
    where
      long : length (to_cells p (to_bits p cells)) ≡ m * 2
      long = to_cells_length (to_bits p cells) m (ap (λ k. k * 8) (to_bits_length cells m n lc is) ∙ sym is)

      x : ℕ → ℕ
      x i = get_or cells (i * 2) 0

      y : ℕ → ℕ
      y i = get_or cells (i * 2 + 1) 0

      back : (i : ℕ) → i < m
          → (symbol_of p (x i) (y i) < 2 ^ p.bits) × (p.cell (symbol_of p (x i) (y i)) 0 ≡ x i) × (p.cell (symbol_of p (x i) (y i)) 1 ≡ y i)
      back i l = cell_back p (x i) (y i) (legal.legal (i * 2) (omega arith)) (legal.legal (i * 2 + 1) (omega arith))

      symbol_at_lem : (i : ℕ) → i < m → symbol_at p (to_bits p cells) i ≡ symbol_of p (x i) (y i)
      symbol_at_lem i l =
          from_bits_ext p.bits (λ k. bit (to_bits p cells) (i * p.bits + k)) (bit_of p.bits (symbol_of p (x i) (y i)))
          (λ k lk.
          ap (λ b. b % 2)
          (to_bits_bit cells (i * p.bits + k) (omega (arith, place_lt p.bits (width_pos p) i k m l lk, to_bits_length cells m n lc is))
          ∙ ap₂ (λ g b. bit_of p.bits (symbol_of p (get_or cells (g * 2) 0) (get_or cells (g * 2 + 1) 0)) b) (group_of p.bits (width_pos p) i k lk) (place_of p.bits (width_pos p) i k lk)))
          ∙ from_bits_bit_of p.bits (symbol_of p (x i) (y i)) (back i l).0

      half : (j h : ℕ) → j < m * 2 → h ≡ j % 2 → p.cell (symbol_of p (x (j / 2)) (y (j / 2))) h ≡ get_or cells j 0
      half j zero l z = (back (j / 2) (omega arith)).1 ∙ ap (λ k. get_or cells k 0) (omega arith)
      half j (suc zero) l z = (back (j / 2) (omega arith)).2 ∙ ap (λ k. get_or cells k 0) (omega arith)
      half j (suc (suc h)) l z = absurd (omega arith)

      at : (j : ℕ) → j < m * 2 → get_or (to_cells p (to_bits p cells)) j 0 ≡ get_or cells j 0
      at j l =
          to_cells_at (to_bits p cells) j (omega (arith, long))
          ∙ ap (λ s. p.cell s (j % 2)) (symbol_at_lem (j / 2) (omega arith))
          ∙ half j (j % 2) l (omega arith)

  -- ---- as the code fills the buffers: by functions that agree with the definitions

  pub symbol_at_bit : (bits : List ℕ) (i k : ℕ) → k < p.bits → bit_of p.bits (symbol_at p bits i) k ≡ bit bits (i * p.bits + k)
  unfolding symbol_at
  symbol_at_bit bits i k l =
      bit_of_from_bits p.bits (λ j. bit bits (i * p.bits + j)) k l ∙ omega (arith, bit_lt bits (i * p.bits + k))

  pub cells_made : (bits d : List ℕ) (n : ℕ) (f : ℕ → ℕ) → n ≡ length bits * 8 / p.bits * 2 → ((j : ℕ) → f j ≡ cells_at p bits j) → d ≡ tabulate n f
      → d ≡ to_cells p bits
  unfolding to_cells
  cells_made bits d n f e same is = is ∙ tabulate_ext n f (cells_at p bits) (λ j l. same j) ∙ ap (λ k. tabulate k (cells_at p bits)) e

  pub bits_made : (cells d : List ℕ) (n : ℕ) (f : ℕ → ℕ) → n ≡ length cells / 2 * p.bits / 8 → ((i : ℕ) → i < n → f i < 256)
      → ((i k : ℕ) → i < n → k < 8 → bit_of 8 (f i) k ≡ cells_bit p cells (i * 8 + k)) → d ≡ tabulate n f
      → d ≡ to_bits p cells
  unfolding to_bits pack byte_of
  bits_made cells d n f e bytes same is =
      is ∙ tabulate_ext n f (byte_of (cells_bit p cells)) (λ i l. sym (at i l)) ∙ ap (λ k. tabulate k (byte_of (cells_bit p cells))) e
    where
      at : (i : ℕ) → i < n → from_bits 8 (λ k. cells_bit p cells (i * 8 + k)) ≡ f i
      at i l =
          from_bits_ext 8 (λ k. cells_bit p cells (i * 8 + k)) (bit_of 8 (f i)) (λ k lk. ap (λ b. b % 2) (sym (same i k l lk)))
          ∙ from_bits_bit_of 8 (f i) (bytes i l)

  -- ---- a buffer: 21,504 bytes of bits

  pub buffer_cells_lem : (bits : List ℕ) → length bits ≡ 21504 → length (to_cells p bits) ≡ cells_per_buffer p * 2
  buffer_cells_lem bits lb = to_cells_length bits (cells_per_buffer p) (omega (arith, buffer_whole p))

  pub buffer_bits : (cells : List ℕ) → length cells ≡ cells_per_buffer p * 2 → length (to_bits p cells) ≡ 21504
  buffer_bits cells lc = to_bits_length cells (cells_per_buffer p) 21504 lc (omega (arith, buffer_whole p))

  pub buffer_back : (bits : List ℕ) → length bits ≡ 21504 → ((i : ℕ) → get_or bits i 0 < 256) → to_bits p (to_cells p bits) ≡ bits
  buffer_back bits lb bytes = bits_back bits (cells_per_buffer p) (omega (arith, buffer_whole p)) bytes

  pub buffer_cells_back : (cells : List ℕ) → length cells ≡ cells_per_buffer p * 2 → Legal (payload_rule p) cells
      → to_cells p (to_bits p cells) ≡ cells
  buffer_cells_back cells lc legal = cells_back cells (cells_per_buffer p) 21504 lc (omega (arith, buffer_whole p)) legal
