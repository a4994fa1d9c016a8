-- The invariant of the loops that make block rows block after block: none / more / done.
-- Assumes nothing.
use Rattle.std.specs.Prelude.{◌≡◌, List, ℕ, ◌+◌, ◌*◌, ◌/◌, ◌%◌, ◌<◌, ◌≤◌, length, get_or}
use Rattle.std.proofs.Common.{sym, ap, ◌∙◌, arith, eq-eqb, ne_eqb}
use Rattle.std.proofs.Math.Decide.{ℕ_discrete}
use Rattle.bits.specs.ListLaws.{length_tabulate, get_d_tabulate, is_tabulate, tabulate_ext}
use Rattle.bits.specs.Bits.{bit_of, from_bits}
use Rattle.bits.proofs.BitLaws.{bit_of_from_bits, from_bits_ext}
use Rattle.blocks.specs.Block.{bit_at, row_word, block}
use Rattle.blocks.specs.Moves.{turned}
use Rattle.blocks.specs.SideBySide.{laid_word, laid, laid_at, laid_in, words_block}

-- ---- the blocks of a block row

-- The first C blocks of a block row are f's.
pub record Laid (f : ℕ → List ℕ) (C : ℕ) (row : List ℕ) : Type 0 where
  pub upto : C ≤ 8
  pub long : length row ≡ 128
  pub at : (x : ℕ) → x < 128 → x % 8 < C → get_or row x 0 ≡ laid_word f x

pub laid_none : (f : ℕ → List ℕ) (row : List ℕ) → length row ≡ 128 → Laid f 0 row
laid_none f row e = record { upto = omega arith; long = e; at = λ x l p. absurd (omega arith) }

pub laid_more : {f : ℕ → List ℕ} {C : ℕ} {from : List ℕ} (b row : List ℕ) → Laid f C from → C < 8 → row ≡ laid_in from C b → b ≡ f C
    → Laid f (C + 1) row
unfolding laid_word laid_in laid_at
laid_more {f} {C} {from} b row h l e p =
    record {
      upto = omega arith;
      long = ap length e ∙ length_tabulate 128 (laid_at from C b);
      at = λ x lx q. ap (λ r. get_or r x 0) e ∙ get_d_tabulate 128 (laid_at from C b) x 0 lx ∙ here x lx q (ℕ_discrete (x % 8) C);
    }
  where
    here : (x : ℕ) → x < 128 → x % 8 < C + 1 → Dec (x % 8 ≡ C) → laid_at from C b x ≡ laid_word f x
    here x lx q (yes s) = simp (eq-eqb (x % 8) C s) (ap (λ t. get_or t (x / 8) 0) (p ∙ ap f (sym s)))
    here x lx q (no s) = simp (ne_eqb (x % 8) C s) (h.at x lx (omega arith))

pub laid_done : {f : ℕ → List ℕ} {C : ℕ} {row : List ℕ} → Laid f C row → 8 ≤ C → row ≡ laid f
unfolding laid
laid_done {f} {C} {row} h l = is_tabulate 0 row 128 (laid_word f) h.long (λ x lx. h.at x lx (omega arith))

pub ruleset laying = (laid_none, laid_more, laid_done)

-- A bit of a block row that is laid.
pub laid_bit : (g : ℕ → List ℕ) (C i j : ℕ) → C < 8 → i < 16 → bit_of 16 (get_or (laid g) (8 * i + C) 0) j ≡ bit_at (g C) i j
unfolding bit_at laid laid_word
laid_bit g C i j lC li =
    let m : (8 * i + C) % 8 ≡ C = omega arith in
    let d : (8 * i + C) / 8 ≡ i = omega arith in
    ap (λ w. bit_of 16 w j) (get_d_tabulate 128 (laid_word g) (8 * i + C) 0 (omega arith) ∙ rw (m, d))

-- Fewer blocks than are laid.
pub laid_fewer : {f : ℕ → List ℕ} {C : ℕ} {row : List ℕ} (n : ℕ) → Laid f C row → n ≤ C → Laid f n row
laid_fewer n h l = record { upto = omega (arith, h.upto); long = h.long; at = λ x lx p. h.at x lx (omega arith) }

-- Words whose bytes stand the other way round: turned by 8 columns, those of block C are its bit rows.
pub words_block_lem : (words : List ℕ) (g : ℕ → ℕ → ℕ) (C : ℕ)
    → ((r : ℕ) → r < 16 → get_or words (8 * r + C) 0 ≡ from_bits 16 (λ c. g r ((c + 8) % 16))) → words_block words C ≡ block g
unfolding words_block block row_word turned
words_block_lem words g C e = tabulate_ext 16 (λ r. turned (get_or words (8 * r + C) 0) 8) (row_word g) row
  where
    twice : (x : ℕ) → x % 2 % 2 ≡ x % 2
    twice x = omega arith

    row : (r : ℕ) → r < 16 → turned (get_or words (8 * r + C) 0) 8 ≡ row_word g r
    row r lr =
        ap (λ z. turned z 8) (e r lr)
        ∙ from_bits_ext 16 (λ c. bit_of 16 (from_bits 16 (λ d. g r ((d + 8) % 16))) ((c + 8) % 16)) (g r)
        (λ c lc.
        let n : ((c + 8) % 16 + 8) % 16 ≡ c = omega arith in
        ap (λ z. z % 2) (bit_of_from_bits 16 (λ d. g r ((d + 8) % 16)) ((c + 8) % 16) (omega arith) ∙ ap (λ d. g r d % 2) n) ∙ twice (g r c))
