-- Laws of a modulation: its sizes, and a symbol and its cell give each other back.
-- Assumes nothing.
use Rattle.std.specs.Prelude.{◌≡◌, refl, false, ℕ, ◌+◌, ◌*◌, ◌/◌, ◌^◌, ◌<◌}
use Rattle.std.proofs.Math.Path.{sym}
use Rattle.std.proofs.Common.{subst, ◌∙◌, lit<}
use Rattle.std.proofs.Math.Nat.{add-mul}
use native.Mathlib.Omega.{arith}
use Rattle.bits.specs.LeastLaws.{least_pair}
use Rattle.bits.proofs.DigitLaws.{factor_pos}
use Rattle.cells_spec.specs.Modulation.{Modulation, symbol_of, cells_per_buffer, buffers_in, pairs_in}

module _ (p : Modulation) where
  -- ---- sizes

  pub width_pos : 0 < p.bits
  width_pos = factor_pos p.bits (172032 / p.bits) 172032 p.whole (lit< tt)

  pub buffer_whole : cells_per_buffer p * p.bits ≡ 172032
  unfolding cells_per_buffer
  buffer_whole = omega (arith, p.whole)

  pub cells_pos : 0 < cells_per_buffer p
  cells_pos = factor_pos (cells_per_buffer p) p.bits 172032 buffer_whole (lit< tt)

  -- The pairs of no super-frame, and of one more.
  pub pairs_none : pairs_in p 0 ≡ 0
  unfolding buffers_in
  pairs_none = omega arith

  pub pairs_after : (q P n : ℕ) → P ≡ pairs_in p q → n ≡ p.bits * 21 → P + n ≡ pairs_in p (q + 1)
  unfolding buffers_in
  pairs_after q P n eP en = omega (arith, eP, en, add-mul q 1 p.bits)

  -- ---- a symbol and its cell

  -- The only symbol whose cell it is.
  pub symbol_is : (s x y : ℕ) → s < 2 ^ p.bits → p.cell s 0 ≡ x → p.cell s 1 ≡ y → symbol_of p x y ≡ s
  unfolding symbol_of
  symbol_is s x y l ex ey =
      least_pair (2 ^ p.bits) (λ t. p.cell t 0) (λ t. p.cell t 1) x y s l ex ey (λ t lt tx ty. p.cell_only t s lt l (tx ∙ sym ex) (ty ∙ sym ey))

  pub symbol_back : (s : ℕ) → s < 2 ^ p.bits → symbol_of p (p.cell s 0) (p.cell s 1) ≡ s
  symbol_back s l = symbol_is s (p.cell s 0) (p.cell s 1) l refl refl

  module _ (x y : ℕ) (lx : p.illegal x ≡ false) (ly : p.illegal y ≡ false) where
    -- The symbol of a legal cell.
    pub cell_back : (symbol_of p x y < 2 ^ p.bits) × (p.cell (symbol_of p x y) 0 ≡ x) × (p.cell (symbol_of p x y) 1 ≡ y)
    cell_back =
        let (s, l, ex, ey) = p.cell_reached x y lx ly in
        subst (λ t. (t < 2 ^ p.bits) × (p.cell t 0 ≡ x) × (p.cell t 1 ≡ y)) (sym (symbol_is s x y l ex ey)) (l, ex, ey)
