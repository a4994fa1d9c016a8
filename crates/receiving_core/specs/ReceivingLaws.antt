-- What is gathered and repaired is what a pair received gives.
-- Assumes nothing.
use Rattle.std.specs.Prelude.{◌≡◌, refl, Bool, List, ◌++◌, ℕ, ◌+◌, ◌-◌, ◌*◌, ◌/◌, ◌%◌, ◌^◌, ◌<◌, leb, length, get_or, take, drop}
use Rattle.std.proofs.Math.Path.{sym, ap}
use Rattle.std.proofs.Common.{ap₂, ◌∙◌, append-nil, le-leb, length-drop, drop_of_length-le, take_all}
use native.Mathlib.Omega.{arith}
use Rattle.std.proofs.Math.Decide.{dec_lt}
use borrow.Rule.Slice.PartMut.{put_mid}
use Rattle.std.proofs.lemmas.Bool.{lt-leb}
use Rattle.std.proofs.Math.Seq.{take-append_seam, drop-append_seam, drop-append-le}
use Rattle.bits.specs.Bits.{bit_of, bit}
use Rattle.bits.proofs.BitLaws.{pack_ext, pack_bit}
use Rattle.bits.specs.Lists.{tabulate}
use Rattle.bits.specs.Parts.{part}
use Rattle.bits.specs.ListLaws.{tabulate_ext}
use Rattle.bits.specs.Xor.{◌⊕◌}
use Rattle.word_spec.specs.CodeWord.{Word}
use Rattle.word_spec.specs.Repair.{repair, repaired, mark}
use Rattle.word_spec.specs.declared.Repair.TheVariants.{Sound}
use Rattle.pair_spec.specs.Rows.{front_counts, checked}
use Rattle.pair_spec.specs.Pairs.{word_row, laid_out, coded_index, coded_pair}
use Rattle.pair_spec.proofs.PairLaws.{coded_place, coded_place_lt, coded_index_is, coded_from, coded_laid}
use Rattle.pair_spec.proofs.CallLaws.{receive_written}
use Rattle.pair_spec.specs.Calls.{receive_buffers, receive_pair}
use Rattle.pair_spec.specs.History.{depth, shift}
use Rattle.pair_spec.specs.Receiving.{held_word, repair_of, repaired_word, newest_pair, marks}
use Rattle.pair_spec.proofs.ReceivingLaws.{held_bits_lem}
use Rattle.pair_words_core.specs.Halves.{word_halves, payload_in}
use Rattle.pair_words_core.specs.HalvesLaws.{payload_of_halves}
use Rattle.pair_words_core.specs.WordBits.{held_back}
use Rattle.gathering_spec.specs.Sums.{Gathered, Parities}
use Rattle.gathering_spec.specs.Dirty.{Dirty, Joining}
use Rattle.gathering_spec.proofs.Dirty.{dirty_of, zero_digit}
use Rattle.rows_core.specs.RowWords.{coded_halves}
use Rattle.rows_core.specs.Held.{halves_word}
use Rattle.rows_core.specs.HeldLaws.{halves_held, gathered_held, parities_held}
use Rattle.mending_core.specs.Mending.{Holding, repaired_by, HandledAll}
use Rattle.mending_core.specs.MendingLaws.{sound, stays, halves_same, coded_same, holding_same}
use Rattle.receiving_core.specs.Receiving.{Repaired}

-- ---- the words of a pair

-- Flips may fall in front from pair 10 on.
front_same : (P w : ℕ) → w < 32 → front_counts (word_row P w) ≡ leb 10 P
unfolding front_counts
front_same P w l = go (dec_lt P 10)
  where
    go : Dec (P < 10) → leb 20 (word_row P w) ≡ leb 10 P
    go (yes m) = lt-leb 20 (word_row P w) (omega arith) ∙ sym (lt-leb 10 P m)
    go (no m) = le-leb 20 (word_row P w) (omega arith) ∙ sym (le-leb 10 P (omega arith))

module _ (h : List ℕ) (P : ℕ) (p : List ℕ) where
  repair_of_lem : (w : ℕ) → w < 32 → repair (leb 10 P) (held_word depth h P p w) ≡ repair_of depth h P p w
  unfolding repair_of checked
  repair_of_lem w l = ap (λ f. repair f (held_word depth h P p w)) (sym (front_same P w l))

  held_dirty : (t : List ℕ) (q d : ℕ) → Gathered (held_word depth h P p) t → Parities (held_word depth h P p) q → Joining q t 16 d
      → Dirty (held_word depth h P p) d
  held_dirty t q d g o j = dirty_of (λ w k l. held_bits_lem depth h P p w k) g o j

  -- A coded pair is that of its words as held.
  held_coded : length h ≡ 512 * depth → length p ≡ 512 → ((j : ℕ) → get_or p j 0 < 256) → p ≡ coded_pair (held_word depth h P p)
  unfolding coded_pair
  held_coded size long small =
      sym (pack_bit p 512 long small)
      ∙ pack_ext 512 (bit p) (laid_out 128 coded_index (held_word depth h P p))
      (λ i l.
      let w : i / 128 < 32 = omega arith in
      let m : (128 + coded_place i) % 16 ≡ coded_place i % 16 = omega arith in
      let q : (128 + coded_place i - 128) / 16 ≡ coded_place i / 16 = omega arith in
      held_back depth h p P (i / 128) size w (128 + coded_place i) ((coded_place i % 16) ⊕ (i / 128 % 16)) (bit p i) (omega arith) (omega (arith, coded_place_lt i)) (rw m refl)
      (ap (bit p) (sym (coded_from i) ∙ coded_index_is (i / 128) (coded_place i) ∙ rw q (omega arith)))
      ∙ sym (coded_laid (held_word depth h P p) i (omega arith)))

  module _ (t : List ℕ) (q d : ℕ) (g : Gathered (held_word depth h P p) t) (o : Parities (held_word depth h P p) q) (j : Joining q t 16 d)
      (b c ms a n : List ℕ) (r : HandledAll t q d (leb 10 P) b c ms a n) (e : Holding (held_word depth h P p) b c) where
    handled : (ms ≡ tabulate 32 (λ i. mark (repair (leb 10 P) (held_word depth h P p i)))) × Holding (repaired_by (leb 10 P) (held_word depth h P p)) a n
    handled = r.done (held_word depth h P p) (λ w k l. held_bits_lem depth h P p w k) g o (held_dirty t q d g o j) e

    handled_marks : ms ≡ marks depth h P p
    unfolding marks
    handled_marks =
        handled.0
        ∙ tabulate_ext 32 (λ i. mark (repair (leb 10 P) (held_word depth h P p i))) (λ i. mark (repair_of depth h P p i)) (λ i l. ap mark (repair_of_lem i l))

    handled_words : Holding (repaired_word depth h P p) a n
    unfolding repaired_word repaired_by
    handled_words = holding_same (λ u k lu x y. ap (λ r. repaired r (held_word depth h P p u) k) (repair_of_lem u lu)) handled.1

  -- ---- a pair without a dirty word

  module _ (t : List ℕ) (q d : ℕ) (g : Gathered (held_word depth h P p) t) (o : Parities (held_word depth h P p) q) (j : Joining q t 16 d) (z : d ≡ 0) where
    clean_repair : (w : ℕ) → w < 32 → repair_of depth h P p w ≡ Sound
    unfolding bit_of
    clean_repair w l =
        sym (repair_of_lem w l)
        ∙ sound (leb 10 P) (held_word depth h P p w) (λ k lk. held_bits_lem depth h P p w k) ((held_dirty t q d g o j).clean w l (ap (λ v. v / 2 ^ (32 - 1 - w) % 2) z ∙ zero_digit (32 - 1 - w)))

    clean_word : (w : ℕ) → w < 32 → repaired_word depth h P p w ≡ held_word depth h P p w
    unfolding repaired_word
    clean_word w l = ap (λ r. repaired r (held_word depth h P p w)) (clean_repair w l) ∙ stays (held_word depth h P p w)

    clean_marks : (ms : List ℕ) → ms ≡ tabulate 32 (λ w. 0) → ms ≡ marks depth h P p
    unfolding marks mark
    clean_marks ms e =
        e ∙ tabulate_ext 32 (λ w. 0) (λ w. mark (repair_of depth h P p w)) (λ w l. sym (ap mark (clean_repair w l)))

    clean_halves : (s : List ℕ) → s ≡ word_halves (held_word depth h P p) → s ≡ word_halves (repaired_word depth h P p)
    clean_halves s e =
        e ∙ halves_same (held_word depth h P p) (repaired_word depth h P p) (λ u k lu a b. sym (ap (λ (x : Word). x k) (clean_word u lu)))

    -- It enters the history as it came.
    clean_pair : length h ≡ 512 * depth → length p ≡ 512 → ((j : ℕ) → get_or p j 0 < 256) → p ≡ newest_pair depth h P p
    unfolding newest_pair
    clean_pair size long small =
        held_coded size long small ∙ coded_same (held_word depth h P p) (repaired_word depth h P p) (λ u k lu a b. sym (ap (λ (x : Word). x k) (clean_word u lu)))

-- ---- what receiving gives, from what code made

module _ (h : List ℕ) (P : ℕ) (p s t : List ℕ) (q d : ℕ) (y ms g : List ℕ) (size : length h ≡ 512 * depth) (long : length p ≡ 512)
    (small : (i : ℕ) → get_or p i 0 < 256) (e : s ≡ coded_halves p) (sums : Gathered (halves_word h P s) t) (odd : Parities (halves_word h P s) q)
    (j : Joining q t 16 d) where
  all_sums : Gathered (held_word depth h P p) t
  all_sums = gathered_held h p P size s e t sums

  all_odd : Parities (held_word depth h P p) q
  all_odd = parities_held h p P size s e q odd

  held : s ≡ word_halves (held_word depth h P p)
  held = halves_held h p P size s e

  pub received_clean : d ≡ 0 → y ≡ payload_in s → ms ≡ tabulate 32 (λ w. 0) → g ≡ shift h p → receive_buffers y ms g ≡ receive_pair depth h P p
  received_clean z ey em eg =
      receive_written (payload_of_halves depth h P p s (clean_halves h P p t q d all_sums all_odd j z s held) y ey)
      (clean_marks h P p t q d all_sums all_odd j z ms em) (eg ∙ ap (shift h) (clean_pair h P p t q d all_sums all_odd j z size long small))

  pub received_repaired : Repaired t q d P p s h y ms g → receive_buffers y ms g ≡ receive_pair depth h P p
  unfolding newest_pair
  received_repaired r =
      receive_written (payload_of_halves depth h P p r.halves is.halves_are y r.payload)
      (handled_marks h P p t q d all_sums all_odd j s p ms r.halves r.coded r.handled start) (r.history ∙ ap (shift h) is.coded_is)
    where
      start : Holding (held_word depth h P p) s p
      start = record { halves_are = held; coded_is = held_coded h P p size long small }

      is : Holding (repaired_word depth h P p) r.halves r.coded
      is = handled_words h P p t q d all_sums all_odd j s p ms r.halves r.coded r.handled start

-- The repairs stand in the newest pair of the shifted history, which code lends.
module _ (h p g n : List ℕ) (e : g ≡ shift h p) (size : length h ≡ 512 * depth) (long : length p ≡ 512) where
  abbrev kept : List ℕ
  kept = drop 512 h

  kept_long : length kept ≡ 4608
  kept_long = length-drop 512 h ∙ omega (arith, size)

  parts : (x : List ℕ) → shift h x ≡ kept ++ x
  unfolding shift
  parts x = drop-append-le 512 h x (omega (arith, size))

  behind_kept : drop 4608 g ≡ p
  behind_kept = ap (drop 4608) (e ∙ parts p) ∙ ap (λ k. drop k (kept ++ p)) (sym kept_long) ∙ drop-append_seam kept p

  newest_lent : part 4608 512 g ≡ p
  newest_lent = ap (take 512) behind_kept ∙ take_all 512 p (omega (arith, long))

  newest_put : put_mid 4608 512 g n ≡ shift h n
  newest_put =
      ap₂ (λ (a b : List ℕ). a ++ (n ++ b)) front (ap (drop 512) behind_kept ∙ drop_of_length-le p {i = 512} (omega (arith, long)))
      ∙ ap (λ l. kept ++ l) (append-nil n) ∙ sym (parts n)
    where
      front : take 4608 g ≡ kept
      front = ap (take 4608) (e ∙ parts p) ∙ ap (λ k. take k (kept ++ p)) (sym kept_long) ∙ take-append_seam kept p

pub repaired_made : (t : List ℕ) (q d P : ℕ) (p s h y ms g r n : List ℕ) (front : Bool) → g ≡ shift h p → length h ≡ 512 * depth → length p ≡ 512
    → front ≡ leb 10 P → HandledAll t q d front s (part 4608 512 g) ms r n → y ≡ payload_in r → Repaired t q d P p s h y ms (put_mid 4608 512 g n)
repaired_made t q d P p s h y ms g r n front e size long ef hd ey =
    record {
      halves = r;
      coded = n;
      handled = rw (newest_lent h p g n e size long, ef) at hd;
      payload = ey;
      history = newest_put h p g n e size long;
    }
