-- Laws of the line: frames of coded pairs are legal, damaged too, so that they are taken apart; super-frame by super-frame.
-- Assumes nothing.
use Rattle.std.specs.Prelude.{◌≡◌}
use Rattle.std.proofs.Math.Path.{refl, ap, ap₂}
use Rattle.std.proofs.Common.{sym, subst, ◌∙◌, Fits}
use mathlib.Core.List.{List}
use Prim.Native.Nat.{ℕ, ◌+◌, ◌-◌, ◌*◌, ◌/◌, ◌%◌, ◌<◌, ◌≤◌}
use native.Mathlib.Omega.{arith}
use borrow.Rule.Slice.PartMut.{put_mid}
use Rattle.std.proofs.Math.ListN.{length}
use Rattle.std.specs.Int.{w64}
use Rattle.profile.specs.declared.Profile.{Profile}
use Rattle.profile.specs.declared.Profile.TheVariants.{Qam16, Qpsk}
use Rattle.bits.specs.Filling.{Blocks, blocks_none, blocks_next, blocks_done}
use Rattle.bits.specs.Parts.{part, byte_of_each, end_to_end}
use Rattle.bits.proofs.PartLaws.{part_length, part_long, end_to_end_length, end_to_end_at, each_block}
use Rattle.calls.specs.Answers.{Answer}
use Rattle.calls.specs.Answers.{value_or}
use Rattle.interleaver_spec.specs.Calls.{Deinterleaved, after_deinterleave}
use Rattle.cells_spec.specs.Modulation.{Modulation, cells_per_buffer}
use Rattle.profiles_spec.specs.Profiles.{qam16, qpsk, modulation}
use Rattle.cells_spec.proofs.ModulationLaws.{width_pos, buffer_whole}
use Rattle.cells_spec.specs.Cells.{overhead_rule, Legal}
use Rattle.cells_spec.proofs.CellLaws.{none_illegal}
use Rattle.frame_spec.specs.Frames.{payload_cells, payload_start, own_overhead, frame_rule}
use Rattle.frame_spec.proofs.FrameLaws.{framed_length, framed_legal, own_length, own_legal}
use Rattle.superframe_spec.specs.Superframe.{payload_of_pairs, sub_frame, frames_end_to_end, superframe}
use Rattle.superframe_spec.proofs.SuperframeLaws.{part_legal, payload_legal, payload_within}
use Rattle.superframe_spec.specs.Apart.{taken_pairs, differing_all, line_rule, taken_apart, take_apart}
use Rattle.superframe_spec.proofs.ApartLaws.{apart_done}
use Rattle.loopback_core.specs.Noise.{superframes_of, damaged}
use Rattle.loopback_core.specs.NoiseLaws.{buffers_most, damaged_legal}
use Rattle.loopback_core.specs.StepLaws.{Stepping, step_none, step_more, step_done}
use Rattle.loopback_core.specs.Tally.{tally_sum}
use Rattle.loopback.specs.Sent.{sent_in, sent_part}
use Rattle.loopback.specs.Line.{damaged_line, pairs_off, Taken, line_in, all_off, line_counted, all_counted}

-- ---- legal

-- The frames of a super-frame are legal.
module _ (p : Modulation) (pairs0 pairs1 list : List ℕ) (ll : length list ≡ 12288) (hl : Legal overhead_rule list) where
  cells_long : length (payload_of_pairs p pairs0 pairs1) ≡ 344064
  unfolding payload_of_pairs
  cells_long = end_to_end_length p.bits (cells_per_buffer p * 2) _ ∙ omega (arith, buffer_whole p)

  sub_frame_legal : (s : ℕ) → s < 48 → Legal (frame_rule p s) (sub_frame (payload_of_pairs p pairs0 pairs1) list s)
  unfolding sub_frame
  sub_frame_legal s ls =
      framed_legal p s (part (payload_start s * 2) (payload_cells s * 2) cells) (own_overhead s list) (part_length (payload_start s * 2) (payload_cells s * 2) cells fits)
      (own_length s list (omega arith) ll) (part_legal p (payload_start s * 2) (payload_cells s * 2) cells fits (payload_legal p pairs0 pairs1 cells refl))
      (own_legal s list (omega arith) ll hl)
    where
      cells : List ℕ
      cells = payload_of_pairs p pairs0 pairs1

      fits : payload_start s * 2 + payload_cells s * 2 ≤ length cells
      fits = omega (arith, payload_within s ls, cells_long)

  pub superframe_legal : Legal (line_rule p) (superframe p pairs0 pairs1 list)
  unfolding superframe frames_end_to_end sub_frame line_rule
  superframe_legal =
      record {
        legal = λ k lk.
            let l : k < 356352 = omega (arith, end_to_end_length 48 7424 (sub_frame (payload_of_pairs p pairs0 pairs1) list)) in
            let s : k / 7424 < 48 = omega arith in
            ap (frame_rule p (k / 7424) (k % 7424)) (end_to_end_at 48 7424 (sub_frame (payload_of_pairs p pairs0 pairs1) list) k l)
            ∙ (sub_frame_legal (k / 7424) s).legal (k % 7424) (omega (arith, sub_frame_long (k / 7424)));
      }
    where
      sub_frame_long : (s : ℕ) → length (sub_frame (payload_of_pairs p pairs0 pairs1) list s) ≡ 7424
      sub_frame_long s = framed_length s _ _

-- ---- the sizes of super-frames

run_end : (f : Profile) (q : ℕ) → q < superframes_of (modulation f)
    → q * ((modulation f).bits * 10752) + (modulation f).bits * 10752 ≤ 172032
unfolding superframes_of modulation qam16 qpsk
run_end Qam16 q l = omega arith
run_end Qpsk q l = omega arith

run_whole : (f : Profile) → superframes_of (modulation f) * ((modulation f).bits * 10752) ≡ 172032
unfolding superframes_of modulation qam16 qpsk
run_whole Qam16 = refl
run_whole Qpsk = refl

-- The code has n for the bytes of an encoder's pairs in a super-frame.
module _ (f : Profile) (q n : ℕ) (lq : q < superframes_of (modulation f)) (en : n ≡ (modulation f).bits * 10752) where
  part_end : q * n + n ≤ 172032
  part_end = rw en (run_end f q lq)

  pub part_fits : Fits w64 (q * n)
  part_fits = record { fits = omega (arith, part_end) }

  pub part_end_fits : Fits w64 (q * n + n)
  part_end_fits = record { fits = omega (arith, part_end) }

  pub part_inside : (m : ℕ) → m ≡ 172032 → q * n + n ≤ m
  part_inside m em = omega (arith, part_end)

  pub part_whole : (coded : List ℕ) (a b : ℕ) → length coded ≡ 172032 → a ≡ q * n → b ≡ a + n → n ≡ length (part a (b - a) coded)
  part_whole coded a b lc ea eb = sym (part_long a b n coded eb (omega (arith, part_end)))

pub pairs_most : (f : Profile) (n m : ℕ) → n ≡ (modulation f).bits * 10752 → m ≡ 86016 → n ≤ m
pairs_most f n m en em = omega (arith, buffers_most f)

pub ruleset part_sizes = (part_fits, part_end_fits, part_inside, part_whole)

-- What an encoder sends in super-frame q.
pub sent_part_lem : (f : Profile) (e q n a b : ℕ) (coded d : List ℕ) → n ≡ (modulation f).bits * 10752 → a ≡ q * n → b ≡ a + n
    → coded ≡ end_to_end 2 86016 (sent_in e) → d ≡ part a (b - a) coded
    → d ≡ sent_part f e q
unfolding sent_part
sent_part_lem f e q n a b coded d en ea eb ec ed =
    let size : b - a ≡ n = omega arith in
    ed ∙ ap₂ (λ x y. part x y coded) (ea ∙ ap (λ x. q * x) en) (size ∙ en)
    ∙ ap (λ s. part (q * ((modulation f).bits * 10752)) ((modulation f).bits * 10752) s) ec

-- ---- one super-frame

pub line_made : (f : Profile) (list : List ℕ) (q : ℕ) (coded0 coded1 a b : List ℕ) → a ≡ superframe (modulation f) coded0 coded1 list
    → b ≡ damaged f q a
    → b ≡ damaged_line f list q coded0 coded1
unfolding damaged_line
line_made f list q coded0 coded1 a b e d = d ∙ ap (damaged f q) e

-- What comes off the damaged frames of coded pairs, which a file leaves as they were.
module _ (f : Profile) (q : ℕ) (coded0 coded1 list made frames got0 got1 x y : List ℕ) (r : Answer) (is : made ≡ damaged_line f list q coded0 coded1) (kept : frames ≡ made)
    (ll : length list ≡ 12288) (hl : Legal overhead_rule list) (t : after_deinterleave r x y ≡ take_apart (modulation f) frames list got0 got1) where
  abbrev line : List ℕ
  line = damaged_line f list q coded0 coded1

  legal : Legal (line_rule (modulation f)) line
  unfolding damaged_line
  legal = damaged_legal f q (superframe (modulation f) coded0 coded1 list) (superframe_legal (modulation f) coded0 coded1 list ll hl)

  carried : after_deinterleave r x y ≡ taken_apart (modulation f) line list
  carried =
      t ∙ ap (λ l. take_apart (modulation f) l list got0 got1) (kept ∙ is)
      ∙ sym (apart_done (modulation f) line list got0 got1 _ refl (none_illegal overhead_rule list hl) _ refl (none_illegal (line_rule (modulation f)) line legal) _ refl)

  -- The differing cells and both encoders' pairs.
  pub line_carried : (v : ℕ) → v ≡ value_or r 0 → Taken f (damaged_line f list q coded0 coded1) list v x y
  unfolding pairs_off
  line_carried v e =
      record {
        differing = e ∙ ap (λ (a : Deinterleaved). value_or a.answer 0) carried;
        off0 = ap (λ (a : Deinterleaved). a.written.pairs0) carried;
        off1 = ap (λ (a : Deinterleaved). a.written.pairs1) carried;
      }

-- The same of what the encoders send.
pub sent_carried : (f : Profile) (q : ℕ) (coded0 coded1 list : List ℕ) {v : ℕ} {x y : List ℕ} → coded0 ≡ sent_part f 0 q → coded1 ≡ sent_part f 1 q
    → Taken f (damaged_line f list q coded0 coded1) list v x y → Taken f (line_in f list q) list v x y
unfolding line_in
sent_carried f q coded0 coded1 list {v} {x} {y} e0 e1 t =
    let is : damaged_line f list q coded0 coded1 ≡ damaged_line f list q (sent_part f 0 q) (sent_part f 1 q) = ap₂ (damaged_line f list q) e0 e1 in
    subst (λ l. Taken f l list v x y) is t

-- ---- super-frames end to end

pairs_long : (f : Profile) (list : List ℕ) (q e : ℕ) → length (pairs_off f (line_in f list q) e) ≡ (modulation f).bits * 10752
unfolding pairs_off taken_pairs
pairs_long f list q e = end_to_end_length (modulation f).bits 10752 _

-- The invariant of the loop over the n super-frames, each with c bytes of an encoder's pairs: the first q are carried.
pub record Carrying (f : Profile) (list : List ℕ) (e : ℕ) (before : List ℕ) (n c q : ℕ) (got counts : List ℕ) : Type 0 where
  pub number : n ≡ superframes_of (modulation f)
  pub size : c ≡ (modulation f).bits * 10752
  pub blocks : Blocks (byte_of_each ((modulation f).bits * 10752) (λ s. pairs_off f (line_in f list s) e)) ((modulation f).bits * 10752) (superframes_of (modulation f)) q got
  pub counting : Stepping (line_counted f list) (superframes_of (modulation f)) before q counts

pub size_fits : (f : Profile) (b : ℕ) → b ≡ (modulation f).bits → Fits w64 (b * 10752)
size_fits f b e = record { fits = omega (arith, buffers_most f) }

pub carrying_none : (f : Profile) (list : List ℕ) (e : ℕ) (before : List ℕ) (n b : ℕ) (got : List ℕ) → n ≡ superframes_of (modulation f)
    → b ≡ (modulation f).bits
    → length got ≡ 172032
    → Carrying f list e before n (b * 10752) 0 got before
carrying_none f list e before n b got en eb lg =
    record {
      number = en;
      size = ap (λ x. x * 10752) eb;
      blocks = blocks_none _ _ _ got (lg ∙ sym (run_whole f));
      counting = step_none _ _ before;
    }

module _ {f : Profile} {list : List ℕ} {e : ℕ} {before : List ℕ} {n c q : ℕ} {got counts : List ℕ} (s : Carrying f list e before n c q got counts) where
  pub carrying_same : (m : ℕ) → m ≡ 172032 → length got ≡ m
  carrying_same m em = s.blocks.filled.long ∙ run_whole f ∙ sym em

  module _ (lq : q < n) where
    pub carrying_below : q < superframes_of (modulation f)
    carrying_below = omega (arith, s.number)

    pub carrying_fits : Fits w64 (q * c)
    carrying_fits = part_fits f q c carrying_below s.size

    pub carrying_end_fits : Fits w64 (q * c + c)
    carrying_end_fits = part_end_fits f q c carrying_below s.size

    pub carrying_inside : (m : ℕ) → m ≡ length got → q * c + c ≤ m
    carrying_inside m em = part_inside f q c carrying_below s.size m (em ∙ carrying_same 172032 refl)

    -- The part from a to b is lent, which is that of super-frame q.
    module _ (a b : ℕ) (ea : a ≡ q * c) (eb : b ≡ a + c) where
      pub carrying_lent : length (part a (b - a) got) ≡ (modulation f).bits * 10752
      carrying_lent = part_long a b c got eb (omega (arith, carrying_inside (length got) refl)) ∙ s.size

      pub carrying_more : (v : ℕ) (ys counts' : List ℕ) → v ≡ differing_all (line_in f list q) list → ys ≡ pairs_off f (line_in f list q) e
          → counts' ≡ tally_sum 7 v counts
          → Carrying f list e before n c (q + 1) (put_mid a (b - a) got ys) counts'
      unfolding line_counted
      carrying_more v ys counts' ev ey ec =
          record {
            number = s.number;
            size = s.size;
            blocks = blocks_next a b ys s.blocks carrying_below (ea ∙ ap (λ x. q * x) s.size) (eb ∙ ap (λ x. a + x) s.size)
                (each_block (λ k. pairs_off f (line_in f list k) e) ((modulation f).bits * 10752) q ys size_pos (ap length ey ∙ pairs_long f list q e) ey);
            counting = step_more counts' s.counting carrying_below (ec ∙ ap (λ m. tally_sum 7 m counts) ev);
          }
        where
          size_pos : 0 < (modulation f).bits * 10752
          size_pos = omega (arith, width_pos (modulation f))

  module _ (l : n ≤ q) where
    pub carrying_done : got ≡ all_off f list e
    unfolding all_off end_to_end
    carrying_done = blocks_done _ s.blocks (omega (arith, s.number)) refl

    pub carrying_counted : counts ≡ all_counted f list before
    unfolding all_counted
    carrying_counted = step_done s.counting (omega (arith, s.number))

pub ruleset carrying = (size_fits, carrying_none, carrying_same, carrying_below, carrying_fits, carrying_end_fits, carrying_inside, carrying_lent, carrying_more, carrying_done, carrying_counted)

-- With a list that is known by another name.
module _ (f : Profile) (list known : List ℕ) (el : list ≡ known) where
  pub off_list : (e : ℕ) (d : List ℕ) → d ≡ all_off f list e → d ≡ all_off f known e
  off_list e d is = is ∙ ap (λ l. all_off f l e) el

  pub counted_list : (d d₁ d₂ : List ℕ) → d₁ ≡ d → d₂ ≡ all_counted f list d₁ → d₂ ≡ all_counted f known d
  counted_list d d₁ d₂ e₁ is = is ∙ ap₂ (all_counted f) el e₁
