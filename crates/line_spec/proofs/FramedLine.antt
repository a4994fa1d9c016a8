-- A line made of the cells of its buffers: whatever legal cells they are, the frames are legal and each buffer's cells lie on the line.
-- Assumes nothing.
use Rattle.std.specs.Prelude.{◌≡◌, ℕ, ◌+◌, ◌*◌, ◌/◌, ◌%◌, ◌<◌, ◌≤◌}
use Rattle.std.proofs.Math.Path.{sym, ap, ap₂}
use Rattle.std.proofs.Common.{◌∙◌}
use Rattle.std.proofs.Math.Bool.{false}
use mathlib.Core.List.{List, []}
use native.Mathlib.Omega.{arith}
use Rattle.std.proofs.Math.ListN.{length, get_or}
use Rattle.bits.specs.Lists.{tabulate}
use Rattle.bits.specs.ListLaws.{length_tabulate, get_d_tabulate}
use Rattle.bits.proofs.DigitLaws.{digit_lt}
use Rattle.cells_spec.specs.Modulation.{Modulation, cells_per_buffer, buffers_in}
use Rattle.cells_spec.specs.Cells.{overhead_rule, payload_rule, Legal}
use Rattle.cells_spec.proofs.ModulationLaws.{cells_pos}
use Rattle.frame_spec.specs.Frames.{is_overhead, payload_before, payload_cells, payload_start, own_overhead, framed, frame_rule, sub_frame_of}
use Rattle.frame_spec.specs.Frames.{cell_of}
use Rattle.frame_spec.proofs.FrameLaws.{own_length, own_legal, framed_length, framed_payload, framed_legal}
use Rattle.frame_spec.proofs.PlaceLaws.{payload_index_lt_lem, PayloadCellAt, located}
use Rattle.line_spec.specs.Line.{line_byte}
use Rattle.line_spec.proofs.LineLaws.{OnLine, buffer_lt, cell_lt, cell_buffer, cell_place}

module _ (p : Modulation) (cells : ℕ → List ℕ) where
  -- Byte h of payload cell x of super-frame q, the payload of sub-frame f of the line, and its frame.
  unfoldable pub payload_byte_of : ℕ → ℕ → ℕ → ℕ
  payload_byte_of q x h = get_or (cells (buffers_in p q + x / cells_per_buffer p)) (x % cells_per_buffer p * 2 + h) 0

  unfoldable pub frame_payload_of : ℕ → List ℕ
  frame_payload_of f = tabulate (payload_cells (f % 48) * 2) (λ i. payload_byte_of (f / 48) (payload_start (f % 48) + i / 2) (i % 2))

  unfoldable pub frame_of : List ℕ → ℕ → List ℕ
  frame_of overhead f = framed (f % 48) (frame_payload_of f) (own_overhead (f % 48) overhead)

  payload_at_lem : (f i : ℕ) → i < payload_cells (f % 48) * 2
      → get_or (frame_payload_of f) i 0 ≡ payload_byte_of (f / 48) (payload_start (f % 48) + i / 2) (i % 2)
  unfolding frame_payload_of
  payload_at_lem f i l = get_d_tabulate (payload_cells (f % 48) * 2) (λ i. payload_byte_of (f / 48) (payload_start (f % 48) + i / 2) (i % 2)) i 0 l

  pub payload_length : (f : ℕ) → length (frame_payload_of f) ≡ payload_cells (f % 48) * 2
  unfolding frame_payload_of
  payload_length f = length_tabulate (payload_cells (f % 48) * 2) (λ i. payload_byte_of (f / 48) (payload_start (f % 48) + i / 2) (i % 2))

  module _ (long : (b : ℕ) → length (cells b) ≡ cells_per_buffer p * 2) where
    pub frame_payload_legal : ((b : ℕ) → Legal (payload_rule p) (cells b)) → (f : ℕ) → Legal (payload_rule p) (frame_payload_of f)
    unfolding payload_rule payload_byte_of
    frame_payload_legal legal f =
        record {
          legal = λ k l. ap p.illegal (payload_at_lem f k (omega (arith, payload_length f)))
              ∙ byte (f / 48) (payload_start (f % 48) + k / 2) (k % 2) (omega arith);
        }
      where
        byte : (q x h : ℕ) → h < 2 → p.illegal (payload_byte_of q x h) ≡ false
        byte q x h lh =
            let b = buffers_in p q + x / cells_per_buffer p in
            (legal b).legal (x % cells_per_buffer p * 2 + h) (omega (arith, digit_lt (cells_per_buffer p) (cells_pos p) x, long b))

    -- A line of n super-frames of these frames.
    module _ (n : ℕ) (overhead : List ℕ) (frames : List (List ℕ)) (is : (f : ℕ) → f < 48 * n → get_or frames f [] ≡ frame_of overhead f) where
      pub framed_length_at : (f : ℕ) → f < 48 * n → length (get_or frames f []) ≡ 7424
      unfolding frame_of
      framed_length_at f l = ap length (is f l) ∙ framed_length (f % 48) (frame_payload_of f) (own_overhead (f % 48) overhead)

      pub framed_legal_at : ((b : ℕ) → Legal (payload_rule p) (cells b)) → length overhead ≡ 12288 → Legal overhead_rule overhead
          → (f : ℕ) → f < 48 * n → Legal (frame_rule p (f % 48)) (get_or frames f [])
      unfolding frame_of
      framed_legal_at legal olong olegal f l =
          let s : f % 48 ≤ 47 = omega arith in
          rw (is f l)
          (framed_legal p (f % 48) (frame_payload_of f) (own_overhead (f % 48) overhead) (payload_length f) (own_length (f % 48) overhead s olong)
          (frame_payload_legal legal f) (own_legal (f % 48) overhead s olong olegal))

      frame_byte : (f m h : ℕ) → f < 48 * n → m < 3712 → h < 2 → is_overhead (f % 48) m ≡ false
          → get_or (get_or frames f []) (m * 2 + h) 0 ≡ payload_byte_of (f / 48) (payload_start (f % 48) + payload_before (f % 48) m) h
      unfolding frame_of
      frame_byte f m h lf lm lh e =
          let d : (payload_before (f % 48) m * 2 + h) / 2 ≡ payload_before (f % 48) m = omega arith in
          let r : (payload_before (f % 48) m * 2 + h) % 2 ≡ h = omega arith in
          ap (λ (l : List ℕ). get_or l (m * 2 + h) 0) (is f lf)
          ∙ framed_payload (f % 48) (frame_payload_of f) (own_overhead (f % 48) overhead) m h lm lh e
          ∙ payload_at_lem f (payload_before (f % 48) m * 2 + h) (omega (arith, payload_index_lt_lem (f % 48) m lm e))
          ∙ ap₂ (λ x b. payload_byte_of (f / 48) (payload_start (f % 48) + x) b) d r

      line_byte_lem : (q x h : ℕ) → q < n → x < 172032 → h < 2 → line_byte frames q x h ≡ payload_byte_of q x h
      unfolding line_byte
      line_byte_lem q x h lq lx lh =
          frame_byte (48 * q + sub_frame_of x) (cell_of x) h (omega (arith, at.sub_frame_lem)) at.inside lh (rw sub at.payload)
          ∙ ap₂ (λ t s. payload_byte_of t (payload_start s + payload_before s (cell_of x)) h) super sub
          ∙ ap (λ y. payload_byte_of q y h) at.index
        where
          at : PayloadCellAt x (sub_frame_of x) (cell_of x)
          at = located x lx

          sub : (48 * q + sub_frame_of x) % 48 ≡ sub_frame_of x
          sub = omega (arith, at.sub_frame_lem)

          super : (48 * q + sub_frame_of x) / 48 ≡ q
          super = omega (arith, at.sub_frame_lem)

      pub on_line : (b : ℕ) → b < buffers_in p n → OnLine p frames b (cells b)
      unfolding payload_byte_of
      on_line b lb =
          record {
            size = long b;
            bytes = λ i li. let lc : i / 2 < cells_per_buffer p = omega arith in
                sym
                (line_byte_lem (b / p.bits) (b % p.bits * cells_per_buffer p + i / 2) (i % 2) (buffer_lt p b n lb) (cell_lt p b (i / 2) lc) (omega arith)
                ∙ ap₂ (λ c k. get_or (cells c) k 0) (cell_buffer p b (i / 2) lc) (ap (λ k. k * 2 + i % 2) (cell_place p b (i / 2) lc) ∙ omega arith));
          }
