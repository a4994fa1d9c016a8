-- Laws of a super-frame taken apart: what the calls give for each sub-frame and buffer, and the cases of the step.
-- Assumes nothing.
use Rattle.std.specs.Prelude.{◌≡◌, false, List, ℕ, ◌+◌, ◌-◌, ◌*◌, ◌/◌, ◌%◌, ◌<◌, ◌≤◌, get_or}
use Rattle.std.proofs.Math.Path.{refl, ap, ap₂}
use Rattle.std.proofs.Common.{sym, ◌∙◌, arith, add-one, lit<, Fits}
use borrow.Rule.Slice.PartMut.{put_mid}
use Rattle.std.proofs.Math.ListN.{length}
use Rattle.std.specs.Int.{w32}
use Rattle.bits.specs.Count.{count}
use Rattle.bits.proofs.CountLaws.{count_mono}
use Rattle.bits.proofs.DigitLaws.{group_of, place_of}
use Rattle.bits.specs.Filling.{Filling, fill_none, fill_part, fill_done, Blocks, blocks_none, blocks_next, blocks_done}
use Rattle.bits.proofs.Folding.{Counting, count_done}
use Rattle.bits.specs.Lists.{tabulate}
use Rattle.bits.specs.ListLaws.{length_tabulate, get_d_tabulate, is_tabulate}
use Rattle.bits.specs.Parts.{part, part_of, byte_of_each, end_to_end}
use Rattle.bits.proofs.PartLaws.{part_of_length, part_of_at, part_long, part_within, each_block}
use Rattle.calls.specs.Answers.{Answer}
use Rattle.std.specs.Prelude.{Ok}
use Rattle.calls.specs.Answers.{value_or}
use Rattle.calls.specs.Calls.{After, after}
use Rattle.calls.proofs.CallLaws.{cases}
use Rattle.interleaver_spec.specs.Interleaving.{apart}
use Rattle.interleaver_spec.proofs.InterleavingLaws.{length_apart}
use Rattle.interleaver_spec.specs.Calls.{Deinterleaved, after_deinterleave, deinterleave_call}
use Rattle.interleaver_spec.proofs.CallLaws.{deinterleave_pairs0, deinterleave_pairs1}
use Rattle.cells_spec.specs.Modulation.{Modulation, cells_per_buffer}
use Rattle.cells_spec.specs.Cells.{overhead_rule, payload_rule, first_illegal, Legal, to_bits}
use Rattle.cells_spec.proofs.CellLaws.{buffer_bits}
use Rattle.cells_spec.specs.Calls.{demap_call}
use Rattle.cells_spec.proofs.CallLaws.{legality, demap_accepts}
use Rattle.frame_spec.specs.Frames.{overhead_cells, payload_cells, overhead_start, payload_start, own_overhead, frame_rule}
use Rattle.frame_spec.specs.Frames.{unframed, sub_frame_of, cell_of}
use Rattle.frame_spec.proofs.FrameLaws.{unframed_length, unframed_legal, differing_le, own_legal}
use Rattle.frame_spec.proofs.LayoutLaws.{own_within, payload_all}
use Rattle.frame_spec.proofs.PlaceLaws.{located, payload_index_lt_lem, payload_start_next, sub_frame_of_is}
use Rattle.frame_spec.specs.Calls.{unframe_call}
use Rattle.frame_spec.proofs.CallLaws.{unframe_accepts}
use Rattle.superframe_spec.specs.Apart.{taken_byte, taken_cells, buffer_pairs, taken_pairs, differing_in, differing_all, line_rule}
use Rattle.superframe_spec.specs.Apart.{taken_apart, take_apart}
use Rattle.superframe_spec.proofs.SuperframeLaws.{part_legal, payload_size, payload_within}

-- ---- a sub-frame

module _ (p : Modulation) (s : ℕ) (ls : s < 48) (line : List ℕ) (ll : length line ≡ 356352) where
  pub frame_long : length (part_of 7424 line s) ≡ 7424
  frame_long = part_of_length 7424 48 s ls line ll

  -- The frames of a legal line are legal.
  pub frame_legal : Legal (line_rule p) line → Legal (frame_rule p s) (part_of 7424 line s)
  unfolding line_rule
  frame_legal legal =
      record {
        legal = λ k lk. let i : k < 7424 = omega (arith, frame_long) in
            ap₂ (λ t j. frame_rule p t j (get_or (part_of 7424 line s) k 0)) (sym (group_of 7424 (lit< tt) s k i)) (sym (place_of 7424 (lit< tt) s k i))
            ∙ ap (line_rule p (s * 7424 + k)) (part_of_at 7424 48 s ls line ll k i)
            ∙ legal.legal (s * 7424 + k) (omega arith);
      }

  module _ (overhead : List ℕ) (lo : length overhead ≡ 12288) (hl : Legal (line_rule p) line) (ho : Legal overhead_rule overhead) where
    -- Unframing it is accepted.
    pub unframe_is : (lent : List ℕ) → length lent ≡ payload_cells s * 2
        → unframe_call p s (part_of 7424 line s) overhead lent ≡ after (Ok (differing_in line overhead s)) (unframed s (part_of 7424 line s))
    unfolding differing_in
    unframe_is lent lp =
        unframe_accepts p s overhead (part_of 7424 line s) lent (omega arith) lo frame_long lp (own_legal s overhead (omega arith) lo ho) (frame_legal hl)

    -- What the call leaves, lent the part from f to g of the line.
    module _ (f g : ℕ) (ef : f ≡ s * 7424) (eg : g ≡ f + 7424) (r : Answer) (d lent : List ℕ) (is : after r d ≡ unframe_call p s (part f (g - f) line) overhead lent)
        (lp : length lent ≡ payload_cells s * 2) where
      unframe_left : after r d ≡ after (Ok (differing_in line overhead s)) (unframed s (part_of 7424 line s))
      unframe_left =
          let size : g - f ≡ 7424 = omega arith in
          is ∙ ap₂ (λ x y. unframe_call p s (part x y line) overhead lent) ef size ∙ unframe_is lent lp

      pub unframe_cells : d ≡ unframed s (part_of 7424 line s)
      unframe_cells = ap (λ (x : After (List ℕ)). x.written) unframe_left

      pub unframe_count : (v : ℕ) → v ≡ value_or r 0 → v ≡ differing_in line overhead s
      unframe_count v e = e ∙ ap (λ (x : After (List ℕ)). value_or x.answer 0) unframe_left

pub ruleset unframe_blocks = (unframe_cells, unframe_count)

-- ---- the payload of a super-frame

-- The invariant of the loop: the payload of the first s sub-frames.
pub record Unframing (line : List ℕ) (s : ℕ) (cells : List ℕ) : Type 0 where
  pub turns : s ≤ 48
  pub filled : Filling (λ j. taken_byte line (j / 2) (j % 2)) 344064 (payload_start s * 2) cells

pub unframing_none : (line cells : List ℕ) → length cells ≡ 344064 → Unframing line 0 cells
unfolding payload_start count
unframing_none line cells l = record { turns = omega arith; filled = fill_none (λ j. taken_byte line (j / 2) (j % 2)) 344064 cells l }

-- The payload of sub-frame s is that from payload_start s on.
taken_part : (line : List ℕ) (s : ℕ) → s < 48
    → unframed s (part_of 7424 line s) ≡ tabulate (payload_cells s * 2) (λ k. taken_byte line ((payload_start s * 2 + k) / 2) ((payload_start s * 2 + k) % 2))
unfolding taken_byte
taken_part line s ls =
    is_tabulate 0 (unframed s (part_of 7424 line s)) (payload_cells s * 2) (λ k. taken_byte line ((payload_start s * 2 + k) / 2) ((payload_start s * 2 + k) % 2))
    (unframed_length s (part_of 7424 line s)) at
  where
    at : (k : ℕ) → k < payload_cells s * 2
        → get_or (unframed s (part_of 7424 line s)) k 0 ≡ taken_byte line ((payload_start s * 2 + k) / 2) ((payload_start s * 2 + k) % 2)
    at k lk =
        let x : (payload_start s * 2 + k) / 2 ≡ payload_start s + k / 2 = omega arith in
        let h : (payload_start s * 2 + k) % 2 ≡ k % 2 = omega arith in
        let own : sub_frame_of (payload_start s + k / 2) ≡ s = sub_frame_of_is s (payload_start s + k / 2) ls (omega arith) (omega (arith, payload_start_next s)) in
        let place : k ≡ (payload_start s + k / 2 - payload_start s) * 2 + k % 2 = omega arith in
        ap (λ i. get_or (unframed s (part_of 7424 line s)) i 0) place
        ∙ ap (λ t. get_or (unframed t (part_of 7424 line t)) ((payload_start s + k / 2 - payload_start t) * 2 + k % 2) 0) (sym own)
        ∙ ap₂ (taken_byte line) (sym x) (sym h)

pub unframing_more : {line : List ℕ} {s : ℕ} {d : List ℕ} (a e : ℕ) (ys : List ℕ) → Unframing line s d → s < 48 → a ≡ payload_start s * 2
    → e ≡ payload_start (s + 1) * 2 → ys ≡ unframed s (part_of 7424 line s) → Unframing line (s + 1) (put_mid a (e - a) d ys)
unframing_more {line} {s} {d} a e ys u ls ea ee is =
    record {
      turns = omega arith;
      filled = rw (size, ea)
          (rw next (fill_part (payload_cells s * 2) ys u.filled (payload_within s ls) (is ∙ taken_part line s ls)));
    }
  where
    next : payload_start (s + 1) * 2 ≡ payload_start s * 2 + payload_cells s * 2
    next = omega (arith, payload_start_next s, ap payload_start (add-one s))

    size : e - a ≡ payload_cells s * 2
    size = omega (arith, next)

-- The part from a to e is lent, which is that of sub-frame s.
module _ {line : List ℕ} {s : ℕ} {d : List ℕ} (a e : ℕ) (u : Unframing line s d) (ls : s < 48) (ea : a ≡ payload_start s * 2) (ee : e ≡ payload_start (s + 1) * 2) where
  within : e ≤ length d
  within = omega (arith, u.filled.long, payload_start_next s, ap payload_start (add-one s), payload_within s ls)

  pub unframing_within : (n : ℕ) → n ≡ length d → e ≤ n
  unframing_within n en = omega (arith, within)

  pub unframing_lent : length (part a (e - a) d) ≡ payload_cells s * 2
  unframing_lent = part_long a e (payload_cells s * 2) d (omega (arith, payload_start_next s, ap payload_start (add-one s))) within

pub unframing_done : {line : List ℕ} {s : ℕ} {d : List ℕ} → Unframing line s d → 48 ≤ s → d ≡ taken_cells line
unfolding taken_cells
unframing_done {line} {s} {d} u l =
    let e : s ≡ 48 = omega (arith, u.turns) in
    fill_done u.filled (omega (arith, payload_all, ap payload_start e))

-- The count of differing cells fits.
pub differing_fits : (line overhead : List ℕ) (n s v : ℕ) → Counting (differing_in line overhead) 48 s n → s < 48
    → v ≡ differing_in line overhead s → Fits w32 (n + v)
unfolding differing_in overhead_start
differing_fits line overhead n s v c ls e =
    record {
      fits = omega (
        arith,
        c.is,
        count_mono s (differing_in line overhead) overhead_cells (λ t l. differing_le t (part_of 7424 line t) (own_overhead t overhead)),
        differing_le s (part_of 7424 line s) (own_overhead s overhead),
        own_within s (omega arith),
      );
    }

pub differing_done : (line overhead : List ℕ) (k acc : ℕ) → Counting (differing_in line overhead) 48 k acc → 48 ≤ k
    → acc ≡ differing_all line overhead
unfolding differing_all
differing_done line overhead k acc c l = count_done c l

pub ruleset unframing_all =
    (unframing_none, unframing_more, unframing_within, unframing_lent, unframing_done, differing_fits, differing_done)

-- The payload is legal.
module _ (p : Modulation) (line : List ℕ) (ll : length line ≡ 356352) (hl : Legal (line_rule p) line) where
  taken_byte_legal : (x h : ℕ) → x < 172032 → h < 2 → p.illegal (taken_byte line x h) ≡ false
  unfolding taken_byte payload_rule
  taken_byte_legal x h lx lh =
      let at = located x lx in
      let s = sub_frame_of x in
      let frame = part_of 7424 line s in
      let y : x - payload_start s < payload_cells s = omega (arith, at.index, payload_index_lt_lem s (cell_of x) at.inside at.payload) in
      (unframed_legal p s frame (frame_long p s at.sub_frame_lem line ll) (frame_legal p s at.sub_frame_lem line ll hl)).legal ((x - payload_start s) * 2 + h)
      (omega (arith, unframed_length s frame))

  pub taken_legal : (d : List ℕ) → d ≡ taken_cells line → Legal (payload_rule p) d
  unfolding taken_cells payload_rule
  taken_legal d e =
      rw e
      (record {
        legal = λ k lk. let l : k < 344064 = omega (arith, length_tabulate 344064 (λ j. taken_byte line (j / 2) (j % 2))) in
            ap p.illegal (get_d_tabulate 344064 (λ j. taken_byte line (j / 2) (j % 2)) k 0 l) ∙ taken_byte_legal (k / 2) (k % 2) (omega arith) (omega arith);
      })

-- ---- the pairs of a buffer

-- Buffer b, which stands from f to g; the code has c for the bytes of its cells.
module _ (p : Modulation) (b f g c : ℕ) (ef : f ≡ b * c) (eg : g ≡ f + c) (ec : c ≡ cells_per_buffer p * 2) (lb : b < p.bits) (cells : List ℕ)
    (lc : length cells ≡ 344064) (hc : Legal (payload_rule p) cells) where
  own_cells : part f (g - f) cells ≡ part_of (cells_per_buffer p * 2) cells b
  own_cells = let size : g - f ≡ c = omega arith in ap₂ (λ x y. part x y cells) (ef ∙ ap (λ x. b * x) ec) (size ∙ ec)

  own_long : length (part_of (cells_per_buffer p * 2) cells b) ≡ cells_per_buffer p * 2
  own_long = part_of_length (cells_per_buffer p * 2) p.bits b lb cells (payload_size p (length cells) lc)

  pub demapped_bits : (r : Answer) (s bits : List ℕ) → after r s ≡ demap_call p (part f (g - f) cells) bits → length bits ≡ 21504
      → s ≡ to_bits p (part_of (cells_per_buffer p * 2) cells b)
  demapped_bits r s bits is l =
      ap (λ (x : After (List ℕ)). x.written)
      (is ∙ ap (λ x. demap_call p x bits) own_cells
      ∙ demap_accepts p (part_of (cells_per_buffer p * 2) cells b) bits own_long l
      (part_legal p (b * (cells_per_buffer p * 2)) (cells_per_buffer p * 2) cells
      (part_within (cells_per_buffer p * 2) p.bits b lb cells (payload_size p (length cells) lc)) hc))

module _ (p : Modulation) (b : ℕ) (lb : b < p.bits) (cells : List ℕ) (lc : length cells ≡ 344064) (r : Answer) (x y s pairs0 pairs1 : List ℕ)
    (is : after_deinterleave r x y ≡ deinterleave_call s pairs0 pairs1) (es : s ≡ to_bits p (part_of (cells_per_buffer p * 2) cells b)) (l0 : length pairs0 ≡ 10752)
    (l1 : length pairs1 ≡ 10752) where
  bits_long : length s ≡ 21504
  bits_long =
      ap length es
      ∙ buffer_bits p (part_of (cells_per_buffer p * 2) cells b) (part_of_length (cells_per_buffer p * 2) p.bits b lb cells (payload_size p (length cells) lc))

  pub parted_pairs0 : x ≡ buffer_pairs p cells 0 b
  unfolding buffer_pairs
  parted_pairs0 = ap (λ (a : Deinterleaved). a.written.pairs0) is ∙ deinterleave_pairs0 s pairs0 pairs1 bits_long l0 l1 ∙ ap (λ t. apart t 0) es

  pub parted_pairs1 : y ≡ buffer_pairs p cells 1 b
  unfolding buffer_pairs
  parted_pairs1 = ap (λ (a : Deinterleaved). a.written.pairs1) is ∙ deinterleave_pairs1 s pairs0 pairs1 bits_long l0 l1 ∙ ap (λ t. apart t 1) es

pub ruleset part_blocks = (demapped_bits, parted_pairs0, parted_pairs1)

-- The invariant of the loop over the n buffers: the pairs of encoder e of the first b.
pub record Parting (p : Modulation) (cells : List ℕ) (e n b : ℕ) (pairs : List ℕ) : Type 0 where
  pub number : n ≡ p.bits
  pub blocks : Blocks (byte_of_each 10752 (buffer_pairs p cells e)) 10752 p.bits b pairs

pub parting_none : (p : Modulation) (cells : List ℕ) (e n : ℕ) (d : List ℕ) → n ≡ p.bits → length d ≡ p.bits * 10752 → Parting p cells e n 0 d
parting_none p cells e n d en ld = record { number = en; blocks = blocks_none _ 10752 p.bits d ld }

module _ {p : Modulation} {cells : List ℕ} {e n b : ℕ} {d : List ℕ} (j : Parting p cells e n b d) where
  pub parting_same : (m : ℕ) → m ≡ p.bits * 10752 → length d ≡ m
  parting_same m em = j.blocks.filled.long ∙ sym em

  module _ (lb : b < n) where
    pub parting_below : b < p.bits
    parting_below = omega (arith, j.number)

    pub parting_inside : (m : ℕ) → m ≡ length d → b * 10752 + 10752 ≤ m
    parting_inside m em = omega (arith, j.number, j.blocks.filled.long)

    -- The part from f to g is lent, which is that of buffer b.
    module _ (f g : ℕ) (ef : f ≡ b * 10752) (eg : g ≡ f + 10752) where
      pub parting_lent : length (part f (g - f) d) ≡ 10752
      parting_lent = part_long f g 10752 d eg (omega (arith, parting_inside (length d) refl))

      pub parting_more : (ys : List ℕ) → ys ≡ buffer_pairs p cells e b → Parting p cells e n (b + 1) (put_mid f (g - f) d ys)
      unfolding buffer_pairs
      parting_more ys is =
          record {
            number = j.number;
            blocks = blocks_next f g ys j.blocks parting_below ef eg
                (each_block (buffer_pairs p cells e) 10752 b ys (lit< tt) (ap length is ∙ length_apart (to_bits p (part_of (cells_per_buffer p * 2) cells b)) e) is);
          }

  pub parting_done : n ≤ b → d ≡ taken_pairs p cells e
  unfolding taken_pairs end_to_end
  parting_done l = blocks_done (p.bits * 10752) j.blocks (omega (arith, j.number)) refl

pub ruleset parting = (parting_none, parting_same, parting_below, parting_inside, parting_lent, parting_more, parting_done)

pub taken_is : (p : Modulation) (line overhead cells x y : List ℕ) (n : ℕ) → n ≡ differing_all line overhead → cells ≡ taken_cells line
    → x ≡ taken_pairs p cells 0
    → y ≡ taken_pairs p cells 1 → after_deinterleave (Ok n) x y ≡ taken_apart p line overhead
taken_is p line overhead cells x y n en ec ex ey = rw (en, ex, ey, ec)

-- ---- the step

pub apart_done : (p : Modulation) (line overhead pairs0 pairs1 : List ℕ) (list : ℕ) → list ≡ first_illegal overhead_rule overhead
    → length overhead ≤ list
    → (at : ℕ) → at ≡ first_illegal (line_rule p) line → length line ≤ at → (x : Deinterleaved) → x ≡ taken_apart p line overhead
    → x ≡ take_apart p line overhead pairs0 pairs1
apart_done p line overhead pairs0 pairs1 list el ok at ea h x e = rw e (search (cases, legality))
