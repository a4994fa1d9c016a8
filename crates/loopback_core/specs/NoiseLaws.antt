-- Laws of errors on the line: the invariants of the loops that strike cells; the damaged line of legal frames is legal, so that it is taken
-- apart and not refused.
-- Assumes nothing.
use Rattle.std.specs.Prelude.{◌≡◌, ℕ, zero, suc, ◌+◌, ◌-◌, ◌*◌, ◌/◌, ◌%◌, ◌<◌, ◌≤◌, Bool, true, false, cond, not, ◌||◌, T, List, length, set, nat_le, slice_index, slice_set}
use Rattle.std.proofs.Math.Path.{refl}
use Rattle.std.proofs.Common.{ap, ◌∙◌, arith, length-set, get_or-set_same, get_or-set_other, Fits}
use Rattle.std.proofs.Math.Decide.{ℕ_discrete}
use Rattle.std.proofs.lemmas.Bool.{lt-leb}
use Rattle.std.specs.Int.{w64}
use Rattle.profile.specs.declared.Profile.{Profile}
use Rattle.profile.specs.declared.Profile.TheVariants.{Qam16, Qpsk}
use Rattle.bits.specs.Tests.{each}
use Rattle.bits.proofs.TestLaws.{either}
use Rattle.cells_spec.specs.Modulation.{Modulation, cells_per_buffer}
use Rattle.profiles_spec.specs.Profiles.{qam16, qpsk, modulation}
use Rattle.profiles_spec.proofs.ProfileLaws.{is_qam16, is_qpsk}
use Rattle.cells_spec.specs.Qpsk.{outer, illegal}
use Rattle.cells_spec.proofs.QpskLaws.{low}
use Rattle.cells_spec.specs.Levels.{ordinal}
use Rattle.cells_spec.specs.Cells.{Legal}
use Rattle.frame_spec.specs.Frames.{is_overhead, cell_rule, frame_rule}
use Rattle.superframe_spec.specs.Apart.{line_rule}
use Rattle.loopback_core.specs.Steps.{each_step}
use Rattle.loopback_core.specs.StepLaws.{Stepping, step_none, step_more, step_done, each_keeps}
use Rattle.loopback_core.specs.Noise.{superframes_of, legal_byte, replaced, struck_byte, struck, carrier, strike_one, strike, strike_cell, damaged}

-- ---- the cells that are struck

struck_bound : (c y e : ℕ) → c < 128 → y < 2 → e < 2 → c * 168 + y * 2 + e < 21504
struck_bound c y e lc ly le = omega arith

module _ (b e i : ℕ) (lb : b < 16) (le : e < 2) (li : i < 5) where
  pub byte_lt : ((b + e + i) % 8 * 16 + b) * 168 + i / 3 * 2 + e < 21504
  byte_lt =
      let c : (b + e + i) % 8 * 16 + b < 128 = omega arith in
      struck_bound ((b + e + i) % 8 * 16 + b) (i / 3) e c (omega arith) le

  pub byte_fits : Fits w64 (((b + e + i) % 8 * 16 + b) * 168 + i / 3 * 2 + e)
  byte_fits = record { fits = omega (arith, byte_lt) }

pub byte_is : (b e i : ℕ) → ((b + e + i) % 8 * 16 + b) * 168 + i / 3 * 2 + e ≡ struck_byte b e i
unfolding struck_byte
byte_is b e i = refl

pub ruleset striking = (byte_lt, byte_fits, byte_is)

module _ (f : Profile) (b e i x : ℕ) (is : x ≡ struck_byte b e i) where
  pub struck_qam16 : f ≡ Qam16 → b % 8 * 21504 + x ≡ struck (modulation f) b e i
  unfolding struck cells_per_buffer qam16
  struck_qam16 h = rw (is_qam16 f h) (omega (arith, is))

  pub struck_qpsk : f ≡ Qpsk → b % 4 * 43008 + x * 2 ≡ struck (modulation f) b e i
  unfolding struck cells_per_buffer qpsk
  struck_qpsk h = rw (is_qpsk f h) (omega (arith, is))

-- ---- by profile

module _ (f : Profile) where
  pub run_qam16 : f ≡ Qam16 → 2 ≡ superframes_of (modulation f)
  unfolding superframes_of qam16
  run_qam16 h = rw (is_qam16 f h) refl

  pub run_qpsk : f ≡ Qpsk → 4 ≡ superframes_of (modulation f)
  unfolding superframes_of qpsk
  run_qpsk h = rw (is_qpsk f h) refl

  pub byte_qam16 : (y : ℕ) → f ≡ Qam16 → y % 16 ≡ legal_byte f y
  unfolding legal_byte
  byte_qam16 y h = rw h refl

  pub byte_qpsk : (y : ℕ) → f ≡ Qpsk → 5 + y / 2 % 2 * 4 + y % 2 ≡ legal_byte f y
  unfolding legal_byte
  byte_qpsk y h = rw h refl

pub ruleset noise_by_profile = (struck_qam16, struck_qpsk, run_qam16, run_qpsk, byte_qam16, byte_qpsk)

-- ---- the loops

pub replaced_is : (f : Profile) (cell y : ℕ) (d : List ℕ) (v : ℕ) → v ≡ legal_byte f y
    → slice_set (slice_set d (cell * 2) (15 - slice_index d (cell * 2) % 16)) (cell * 2 + 1) v ≡ replaced f cell y d
unfolding replaced
replaced_is f cell y d v e = ap (λ x. set (slice_set d (cell * 2) (15 - slice_index d (cell * 2) % 16)) (cell * 2 + 1) x) e

pub strike_one_lem : (f : Profile) (u : ℕ) (d d' : List ℕ) (x cell : ℕ) → x ≡ struck (modulation f) (u / 10) (u % 2) (u / 2 % 5) → cell ≡ carrier x
    → d' ≡ replaced f cell (u * 7) d
    → d' ≡ strike_one f u d
unfolding strike_one
strike_one_lem f u d d' x cell ex ec is = is ∙ ap (λ c. replaced f c (u * 7) d) (ec ∙ ap carrier ex)

-- A super-frame has at most eight buffers.
pub buffers_most : (f : Profile) → (modulation f).bits ≤ 8
unfolding modulation qam16 qpsk
buffers_most Qam16 = omega arith
buffers_most Qpsk = omega arith

pub strikes_fit : (f : Profile) (b : ℕ) → b ≡ (modulation f).bits → Fits w64 (b * 10)
strikes_fit f b e = record { fits = omega (arith, buffers_most f) }

strike_inside : (f : Profile) (q v : ℕ) → q < superframes_of (modulation f) → v < (modulation f).bits * 10 → q * ((modulation f).bits * 10) + v < 160
unfolding superframes_of modulation qam16 qpsk
strike_inside Qam16 q v lq lv = omega arith
strike_inside Qpsk q v lq lv = omega arith

-- The code has n for the number of cells that are struck in a super-frame.
module _ (f : Profile) (q n v : ℕ) (lq : q < superframes_of (modulation f)) (en : n ≡ (modulation f).bits * 10) (lv : v < n) where
  pub strike_below : q * n + v < 160
  strike_below = rw en (strike_inside f q v lq (omega arith))

  pub strike_fits : Fits w64 (q * n + v)
  strike_fits = record { fits = omega (arith, strike_below) }

  pub strike_start_fits : Fits w64 (q * n)
  strike_start_fits = record { fits = omega (arith, strike_below) }

  pub strike_next_fits : Fits w64 (v + 1)
  strike_next_fits = record { fits = omega (arith, buffers_most f) }

pub strike_more : (f : Profile) (q n : ℕ) (before d : List ℕ) (v : ℕ) (d' : List ℕ) → n ≡ (modulation f).bits * 10
    → Stepping (strike f q) n before v d
    → v < n → d' ≡ strike_one f (q * n + v) d
    → Stepping (strike f q) n before (v + 1) d'
strike_more f q n before d v d' en s l is = step_more d' s l (is ∙ ap (λ m. strike_one f (q * m + v) d) en)

pub strike_done : (f : Profile) (q n : ℕ) (before d : List ℕ) (v : ℕ) → n ≡ (modulation f).bits * 10 → Stepping (strike f q) n before v d → n ≤ v
    → d ≡ each_step ((modulation f).bits * 10) (strike f q) before
strike_done f q n before d v en s l = step_done s l ∙ ap (λ m. each_step m (strike f q) before) en

pub ruleset strikes = (step_none, strikes_fit, strike_below, strike_fits, strike_start_fits, strike_next_fits, strike_more, strike_done)

pub strike_cell_lem : (f : Profile) (c n : ℕ) (before d : List ℕ) (s : ℕ) (d' : List ℕ) → Stepping (strike_cell f c) n before s d → s < n
    → d' ≡ replaced f (s * 3712 + c) s d
    → Stepping (strike_cell f c) n before (s + 1) d'
unfolding strike_cell
strike_cell_lem f c n before d i d' s l is = step_more d' s l is

pub damaged_is : (p : Profile) (q : ℕ) (a b c d e f : List ℕ) → b ≡ each_step ((modulation p).bits * 10) (strike p q) a
    → c ≡ each_step 48 (strike_cell p 0) b
    → d ≡ each_step 48 (strike_cell p 128) c
    → e ≡ each_step (48 - q % 2 * 32) (strike_cell p 1) d → f ≡ each_step (48 - q % 2 * 32) (strike_cell p 160) e → f ≡ damaged p q a
unfolding damaged
damaged_is p q a b c d e f eb ec ed ee ef = cc

-- ---- legal cells

-- A legal byte put in its place.
set_legal : (rule : ℕ → ℕ → Bool) (d : List ℕ) (i v : ℕ) → (i < length d → rule i v ≡ false) → Legal rule d → Legal rule (slice_set d i v)
set_legal rule d i v ok h = record { legal = λ k lk. go k (omega (arith, length-set d i v)) (ℕ_discrete k i) }
  where
    go : (k : ℕ) → k < length d → Dec (k ≡ i) → rule k (slice_index (slice_set d i v) k) ≡ false
    go k lk (yes e) =
        ap (rule k) (ap (λ j. slice_index (slice_set d i v) j) e ∙ get_or-set_same d i v 0 (omega arith)) ∙ ap (λ j. rule j v) e ∙ ok (omega arith)
    go k lk (no n) = ap (rule k) (get_or-set_other d i k v 0 n) ∙ h.legal k lk

-- A byte that a payload cell may have is legal everywhere.
payload_legal : (p : Modulation) (v : ℕ) → p.illegal v ≡ false → (k : ℕ) → line_rule p k v ≡ false
unfolding line_rule frame_rule cell_rule
payload_legal p v e k = either (λ b. b ≡ false) (is_overhead (k / 7424) (k % 7424 / 2)) _ _ (lt-leb 16 v (p.low v e)) e

four_legal : (a b : ℕ) → a < 2 → b < 2 → illegal (5 + a * 4 + b) ≡ false
unfolding illegal outer ordinal
four_legal zero zero la lb = refl
four_legal zero (suc zero) la lb = refl
four_legal (suc zero) zero la lb = refl
four_legal (suc zero) (suc zero) la lb = refl
four_legal (suc (suc a)) b la lb = absurd (omega arith)
four_legal zero (suc (suc b)) la lb = absurd (omega arith)
four_legal (suc zero) (suc (suc b)) la lb = absurd (omega arith)

legal_byte_legal : (f : Profile) (y : ℕ) → (modulation f).illegal (legal_byte f y) ≡ false
unfolding modulation qam16 qpsk legal_byte
legal_byte_legal Qam16 y = lt-leb 16 (y % 16) (omega arith)
legal_byte_legal Qpsk y = four_legal (y / 2 % 2) (y % 2) (omega arith) (omega arith)

-- A byte turned round is legal where it was.
false_of : (b : Bool) → T (not b) → b ≡ false
false_of true t = elim t [ ]
false_of false t = refl

turned_qpsk : (v : ℕ) → illegal v ≡ false → illegal (15 - v % 16) ≡ false
unfolding illegal outer ordinal
turned_qpsk v e =
    let at : T (illegal v || not (illegal (15 - v % 16))) = each 16 (λ k. illegal k || not (illegal (15 - k % 16))) tt v (low v e) in
    false_of _ (simp e at at)

turned_payload : (f : Profile) (v : ℕ) → (modulation f).illegal v ≡ false → (modulation f).illegal (15 - v % 16) ≡ false
unfolding modulation qam16 qpsk
turned_payload Qam16 v e = lt-leb 16 (15 - v % 16) (omega arith)
turned_payload Qpsk v e = turned_qpsk v e

turned_legal : (f : Profile) (k v : ℕ) → line_rule (modulation f) k v ≡ false → line_rule (modulation f) k (15 - v % 16) ≡ false
unfolding line_rule frame_rule cell_rule
turned_legal f k v = go (is_overhead (k / 7424) (k % 7424 / 2))
  where
    go : (b : Bool) → cond b (nat_le 16 v) ((modulation f).illegal v) ≡ false
        → cond b (nat_le 16 (15 - v % 16)) ((modulation f).illegal (15 - v % 16)) ≡ false
    go true e = lt-leb 16 (15 - v % 16) (omega arith)
    go false e = turned_payload f v e

-- So the damaged line is legal.
module _ (f : Profile) where
  abbrev LegalLine : List ℕ → Type 0
  LegalLine = Legal (line_rule (modulation f))

  replaced_legal : (cell y : ℕ) (d : List ℕ) → LegalLine d → LegalLine (replaced f cell y d)
  unfolding replaced
  replaced_legal cell y d h =
      set_legal _ _ _ _ (λ l. payload_legal (modulation f) (legal_byte f y) (legal_byte_legal f y) _)
      (set_legal _ _ _ _ (λ l. turned_legal f (cell * 2) _ (h.legal (cell * 2) l)) h)

  cell_legal : (c n : ℕ) (d : List ℕ) → LegalLine d → LegalLine (each_step n (strike_cell f c) d)
  unfolding strike_cell
  cell_legal c n d h = each_keeps LegalLine (strike_cell f c) (λ i. replaced_legal (i * 3712 + c) i) n d h

  pub damaged_legal : (q : ℕ) (d : List ℕ) → LegalLine d → LegalLine (damaged f q d)
  unfolding damaged strike_one
  damaged_legal q d h =
      cell_legal 160 (48 - q % 2 * 32) _ (cell_legal 1 (48 - q % 2 * 32) _ (cell_legal 128 48 _ (cell_legal 0 48 _
      (each_keeps LegalLine (strike f q) (λ i. replaced_legal _ _) ((modulation f).bits * 10) d h))))
