-- Laws of a super-frame: each buffer and each sub-frame is its block of the whole, and what the calls give for it.
-- Assumes nothing.
use Rattle.std.specs.Prelude.{◌≡◌, List, ◌≢◌, ℕ, zero, suc, ◌+◌, ◌-◌, ◌*◌, ◌/◌, ◌%◌, ◌<◌, ◌≤◌}
use Rattle.std.proofs.Math.Path.{refl, ap, ap₂}
use Rattle.std.proofs.Common.{sym, ◌∙◌, suc-mul, mul-le-mul_right, arith, add-one, lit<, Fits}
use Rattle.std.proofs.Math.Nat.{mul-mod_left, lt_of_mul-lt-mul_right}
use Rattle.std.proofs.Math.ListN.{length}
use Rattle.std.specs.Int.{w64}
use Rattle.bits.proofs.DigitLaws.{digit_lt}
use Rattle.bits.specs.Count.{count}
use Rattle.bits.specs.Lists.{tabulate}
use Rattle.bits.specs.Parts.{part, part_of, byte_of_each, end_to_end}
use Rattle.bits.proofs.PartLaws.{part_length, part_at, part_long, end_to_end_length, end_to_end_at, each_block}
use Rattle.calls.specs.Answers.{Answer}
use Rattle.calls.specs.Calls.{After, after}
use Rattle.interleaver_spec.specs.Interleaving.{interleaved}
use Rattle.interleaver_spec.proofs.InterleavingLaws.{length_interleaved}
use Rattle.interleaver_spec.specs.Calls.{interleave_call}
use Rattle.interleaver_spec.proofs.CallLaws.{interleave_bits}
use Rattle.cells_spec.specs.Modulation.{Modulation, cells_per_buffer}
use Rattle.cells_spec.specs.Cells.{overhead_rule, payload_rule, Legal}
use Rattle.cells_spec.proofs.ModulationLaws.{buffer_whole, cells_pos}
use Rattle.cells_spec.proofs.CellLaws.{to_cells_legal, buffer_cells_lem}
use Rattle.cells_spec.specs.Calls.{map_call}
use Rattle.cells_spec.proofs.CallLaws.{map_accepts}
use Rattle.frame_spec.specs.Frames.{payload_cells, payload_start, own_overhead}
use Rattle.frame_spec.proofs.FrameLaws.{framed_length, own_legal}
use Rattle.frame_spec.proofs.LayoutLaws.{payload_start_closed}
use Rattle.frame_spec.specs.Calls.{frame_call}
use Rattle.frame_spec.proofs.CallLaws.{frame_accepts}
use Rattle.superframe_spec.specs.Superframe.{buffer_cells, payload_of_pairs, sub_frame, frames_end_to_end, superframe}

-- A part of legal payload is legal.
pub part_legal : (p : Modulation) (a n : ℕ) (s : List ℕ) → a + n ≤ length s → Legal (payload_rule p) s → Legal (payload_rule p) (part a n s)
unfolding payload_rule
part_legal p a n s l h =
    record { legal = λ k lk. let i : k < n = omega (arith, part_length a n s l) in ap p.illegal (part_at a n s l k i) ∙ h.legal (a + k) (omega arith) }

-- ---- the sizes of buffers

-- All buffers of a super-frame are its payload.
pub payload_size : (p : Modulation) (n : ℕ) → n ≡ 344064 → n ≡ p.bits * (cells_per_buffer p * 2)
payload_size p n e = omega (arith, buffer_whole p)

-- The code has c for the bytes of a buffer's cells: where buffer b starts and ends.
module _ (p : Modulation) (b c : ℕ) (ec : c ≡ cells_per_buffer p * 2) (lb : b < p.bits) where
  buffer_end : b * c + c ≤ 344064
  buffer_end =
      let whole : p.bits * c ≡ 344064 = ap (λ x. p.bits * x) ec ∙ sym (payload_size p 344064 refl) in
      omega (arith, suc-mul b c, mul-le-mul_right {m = suc b} {n = p.bits} c lb)

  pub buffer_fits : Fits w64 (b * c)
  buffer_fits = record { fits = omega (arith, buffer_end) }

  pub buffer_end_fits : Fits w64 (b * c + c)
  buffer_end_fits = record { fits = omega (arith, buffer_end) }

  pub buffer_inside : (n : ℕ) → n ≡ 344064 → b * c + c ≤ n
  buffer_inside n en = omega (arith, buffer_end)

pub ruleset buffer_sizes = (buffer_fits, buffer_end_fits, buffer_inside)

-- ---- the cells of a buffer

-- Buffer b of n.
module _ (n b a e : ℕ) (ea : a ≡ b * 10752) (ee : e ≡ a + 10752) (lb : b < n) (pairs0 pairs1 : List ℕ) (l0 : length pairs0 ≡ n * 10752) (l1 : length pairs1 ≡ n * 10752) where
  own_pairs : e - a ≡ 10752
  own_pairs = omega arith

  pairs_long : (s : List ℕ) → length s ≡ n * 10752 → length (part a (e - a) s) ≡ 10752
  pairs_long s l = part_long a e 10752 s ee (omega arith)

  pub joined_bits : (r : Answer) (s bits : List ℕ) → after r s ≡ interleave_call (part a (e - a) pairs0) (part a (e - a) pairs1) bits
      → length bits ≡ 21504
      → s ≡ interleaved (part_of 10752 pairs0 b) (part_of 10752 pairs1 b)
  joined_bits r s bits j l =
      ap (λ (x : After (List ℕ)). x.written) j
      ∙ interleave_bits (part a (e - a) pairs0) (part a (e - a) pairs1) bits (pairs_long pairs0 l0) (pairs_long pairs1 l1) l
      ∙ ap₂ (λ x y. interleaved (part x y pairs0) (part x y pairs1)) ea own_pairs

module _ (p : Modulation) where
  pub mapped_cells : (b : ℕ) (pairs0 pairs1 : List ℕ) (r : Answer) (d s cells : List ℕ) → after r d ≡ map_call p s cells
      → s ≡ interleaved (part_of 10752 pairs0 b) (part_of 10752 pairs1 b) → length cells ≡ cells_per_buffer p * 2
      → d ≡ buffer_cells p pairs0 pairs1 b
  unfolding buffer_cells
  mapped_cells b pairs0 pairs1 r d s cells e f l =
      ap (λ (x : After (List ℕ)). x.written) e
      ∙ ap (λ u. (map_call p u cells).written) f
      ∙ ap (λ (x : After (List ℕ)). x.written) (map_accepts p _ cells (length_interleaved (part_of 10752 pairs0 b) (part_of 10752 pairs1 b)) l)

  size_pos : 0 < cells_per_buffer p * 2
  size_pos = omega (arith, cells_pos p)

  buffer_long : (pairs0 pairs1 : List ℕ) (b : ℕ) → length (buffer_cells p pairs0 pairs1 b) ≡ cells_per_buffer p * 2
  unfolding buffer_cells
  buffer_long pairs0 pairs1 b = buffer_cells_lem p _ (length_interleaved (part_of 10752 pairs0 b) (part_of 10752 pairs1 b))

  -- The payload is legal.
  pub payload_legal : (pairs0 pairs1 d : List ℕ) → d ≡ payload_of_pairs p pairs0 pairs1 → Legal (payload_rule p) d
  unfolding payload_of_pairs buffer_cells payload_rule
  payload_legal pairs0 pairs1 d e =
      rw e
      (record {
        legal = λ k l. ap p.illegal
            (end_to_end_at p.bits (cells_per_buffer p * 2) (buffer_cells p pairs0 pairs1) k
            (omega (arith, end_to_end_length p.bits (cells_per_buffer p * 2) (buffer_cells p pairs0 pairs1))))
            ∙ (to_cells_legal p _).legal (k % (cells_per_buffer p * 2))
            (omega (arith, digit_lt (cells_per_buffer p * 2) size_pos k, buffer_long pairs0 pairs1 (k / (cells_per_buffer p * 2))));
      })

pub ruleset buffering = (joined_bits, mapped_cells)

-- The cells of all buffers; the code has c for the bytes of a buffer's.
module _ (p : Modulation) (c : ℕ) (ec : c ≡ cells_per_buffer p * 2) where
  pub cells_some : 0 < c
  cells_some = omega (arith, size_pos p)

  all_parts : (n : ℕ) → n ≡ 344064 → n ≡ p.bits * c
  all_parts n en = payload_size p n en ∙ ap (λ x. p.bits * x) (sym ec)

  pub whole_buffers : (n : ℕ) → n ≡ 344064 → n % c ≡ 0
  whole_buffers n en = rw (all_parts n en) (mul-mod_left p.bits c)

  -- A part that begins within the payload is one of the buffers.
  pub buffer_below : (b n : ℕ) → n ≡ 344064 → b * c < n → b < p.bits
  buffer_below b n en l = lt_of_mul-lt-mul_right c (omega (arith, all_parts n en))

  module _ (pairs0 pairs1 : List ℕ) where
    pub cells_block : (b : ℕ) (ys : List ℕ) → ys ≡ buffer_cells p pairs0 pairs1 b
        → ys ≡ tabulate c (λ i. byte_of_each c (buffer_cells p pairs0 pairs1) (b * c + i))
    cells_block b ys e = each_block (buffer_cells p pairs0 pairs1) c b ys cells_some (ap length e ∙ buffer_long p pairs0 pairs1 b ∙ sym ec) e

    pub payload_joined : (n : ℕ) (d : List ℕ) → n ≡ 344064 → d ≡ tabulate n (byte_of_each c (buffer_cells p pairs0 pairs1)) → d ≡ payload_of_pairs p pairs0 pairs1
    unfolding payload_of_pairs end_to_end
    payload_joined n d en is = is ∙ ap₂ (λ m w. tabulate m (byte_of_each w (buffer_cells p pairs0 pairs1))) (payload_size p n en) ec

-- ---- a sub-frame

pub payload_start_zeroth : (s : ℕ) → s ≡ 0 → 0 ≡ payload_start s * 2
unfolding payload_start count
payload_start_zeroth zero z = refl
payload_start_zeroth (suc s) z = absurd (omega arith)

pub payload_start_other : (s : ℕ) → s ≢ 0 → s * 7172 - 192 ≡ payload_start s * 2
payload_start_other zero z = absurd (z refl)
payload_start_other (suc s) z = omega (arith, payload_start_closed s)

next_start : (s : ℕ) → payload_start (s + 1) ≡ payload_start s + payload_cells s
unfolding payload_start count
next_start s = ap payload_start (add-one s)

-- A sub-frame's payload ends inside that of the super-frame.
pub payload_within : (s : ℕ) → s < 48 → payload_start s * 2 + payload_cells s * 2 ≤ 344064
payload_within s l = omega (arith, next_start s, payload_start_closed s, ap payload_start (add-one s))

module _ (s a e : ℕ) (ls : s < 48) (ea : a ≡ payload_start s * 2) (ee : e ≡ payload_start (s + 1) * 2) where
  pub start_order : a ≤ e
  start_order = omega (arith, next_start s)

  pub start_within : (n : ℕ) → n ≡ 344064 → e ≤ n
  start_within n en = omega (arith, next_start s, payload_within s ls)

  own_part : e - a ≡ payload_cells s * 2
  own_part = omega (arith, next_start s)

  pub sub_frame_is : (p : Modulation) (r : Answer) (d cells overhead lent : List ℕ)
      → after r d ≡ frame_call p s (part a (e - a) cells) overhead lent → length cells ≡ 344064 → Legal (payload_rule p) cells
      → length overhead ≡ 12288 → Legal overhead_rule overhead → length lent ≡ 7424 → d ≡ sub_frame cells overhead s
  unfolding sub_frame
  sub_frame_is p r d cells overhead lent f lc hc lo ho lf =
      ap (λ (x : After (List ℕ)). x.written) f
      ∙ ap₂ (λ x y. (frame_call p s (part x y cells) overhead lent).written) ea own_part
      ∙ ap (λ (x : After (List ℕ)). x.written)
      (frame_accepts p s overhead lent (part (payload_start s * 2) (payload_cells s * 2) cells) (omega arith) lo lf (part_length (payload_start s * 2) (payload_cells s * 2) cells fits)
      (own_legal s overhead (omega arith) lo ho) (part_legal p (payload_start s * 2) (payload_cells s * 2) cells fits hc))
    where
      fits : payload_start s * 2 + payload_cells s * 2 ≤ length cells
      fits = omega (arith, next_start s, payload_within s ls)

pub ruleset starting = (payload_start_zeroth, payload_start_other)

pub ruleset sub_frame_placing = (start_order, start_within, sub_frame_is)

pub frame_block : (cells overhead : List ℕ) (s : ℕ) (ys : List ℕ) → ys ≡ sub_frame cells overhead s
    → ys ≡ tabulate 7424 (λ i. byte_of_each 7424 (sub_frame cells overhead) (s * 7424 + i))
unfolding sub_frame
frame_block cells overhead s ys e =
    each_block (sub_frame cells overhead) 7424 s ys (lit< tt) (ap length e ∙ framed_length s (part (payload_start s * 2) (payload_cells s * 2) cells) (own_overhead s overhead)) e

pub frames_are : (cells overhead d : List ℕ) → d ≡ tabulate 356352 (byte_of_each 7424 (sub_frame cells overhead))
    → d ≡ frames_end_to_end cells overhead
unfolding frames_end_to_end end_to_end
frames_are cells overhead d e = e

pub ruleset frame_blocks = (frame_block, frames_are)

-- ---- the super-frame

pub superframe_is : (p : Modulation) (pairs0 pairs1 overhead cells d : List ℕ) → cells ≡ payload_of_pairs p pairs0 pairs1
    → d ≡ frames_end_to_end cells overhead → d ≡ superframe p pairs0 pairs1 overhead
unfolding superframe
superframe_is p pairs0 pairs1 overhead cells d e f = f ∙ ap (λ c. frames_end_to_end c overhead) e
