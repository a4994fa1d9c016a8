-- The code layer's promise about one word of a pair received. 01, "Whole runs": "What is compared: a word's 128 back-half bits in the
-- newest pair of the history that its call returned, and those of them that are payload in payload out, each with the sent bit."
-- S are the sent bits, W those that the line delivered; histories hold n pairs. Crates above cite `Promise` and read no bit of a history.
-- Assumes nothing.
use Rattle.std.specs.Prelude.{◌≡◌, List, ◌++◌, ℕ, ◌+◌, ◌-◌, ◌*◌, ◌/◌, ◌%◌, ◌<◌, ◌≤◌, get_or}
use Rattle.bits.specs.Bits.{bit}
use Rattle.bits.specs.Count.{distance}
use Rattle.word_spec.specs.Marks.{not_lost, lost, mark_meaning}
use Rattle.calls.specs.Sequences.{At, accepted}
use Rattle.pair_spec.specs.Rows.{RowBits, Checked, word_of, payload_index}
use Rattle.pair_spec.specs.Pairs.{pair_bit}
use Rattle.pair_spec.specs.History.{held_bits}
use Rattle.pair_spec.specs.Front.{held_pairs}
use Rattle.pair_spec.specs.Calls.{Received, Receiving, Receivings}

-- A coded pair holds the bits of pair P's two rows.
pub record Holds (v : RowBits) (P : ℕ) (pair : List ℕ) : Type 0 where
  pub holds : (R C r c : ℕ) → R / 2 ≡ P → C < 8 → r < 16 → c < 16 → pair_bit pair (R % 2) C r c ≡ v R C r c

-- "The accepted calls of a receiver take its encoder's received pairs in order from pair 0, all or only the first so many."
pub record Takes (W : RowBits) (cs : List Receiving) : Type 0 where
  pub takes : (P : ℕ) (c : Receiving) → At (accepted Receivings cs) P c → Holds W P c.coded

-- "A word's wrong received bits are counted in both halves as the line delivered them, not as a history holds them; for R < 20 in the
-- back half only." (In front of those rows' words stand zeros on both sides.)
unfoldable pub wrong_bits : RowBits → RowBits → ℕ → ℕ → ℕ
wrong_bits S W R r = distance 256 (word_of W R r) (word_of S R r)

-- "The three wrong bits are a limit on the words of the pairs that it took", those that are checked: of the first m pairs.
pub record Limit (S W : RowBits) (m : ℕ) : Type 0 where
  pub three : (R r : ℕ) → R < 2 * m → r < 16 → Checked R → wrong_bits S W R r ≤ 3

-- The mark of word (R, r), that the word is not marked lost, and that it is.
abbrev pub mark_of : Received → ℕ → ℕ → ℕ
mark_of after R r = get_or after.written.marks (16 * (R % 2) + r) 0

abbrev pub NotLost : Received → ℕ → ℕ → Type 0
NotLost after R r = mark_meaning (mark_of after R r) ≡ not_lost

abbrev pub Lost : Received → ℕ → ℕ → Type 0
Lost after R r = mark_meaning (mark_of after R r) ≡ lost

-- Back-half bit k of word (R, r) equals the sent bit, in the newest pair of the history returned and, where it is payload, in payload
-- out. That history is lent to the call on pair R div 2 + 1.
pub record AsSent (n : ℕ) (S : RowBits) (after : Received) (R r k : ℕ) : Type 0 where
  pub newest : word_of (held_bits n (held_pairs after.written.history) (R / 2 + 1)) R r k ≡ word_of S R r k
  pub paid : k < 239 → bit after.written.payload (payload_index (R % 2) r (k - 128)) ≡ word_of S R r k

-- What is promised of word (R, r) of an accepted call on pair R div 2: c is lent to it, and `after` stands afterwards.
pub record Promise (n : ℕ) (S W : RowBits) (c : Receiving) (after : Received) (R r : ℕ) : Type 0 where
  -- "Each whose received bit is right equals the sent bit."
  pub right : (k : ℕ) → 128 ≤ k → k < 256 → word_of W R r k ≡ word_of S R r k → AsSent n S after R r k
  -- "If the word is not marked lost, all do,"
  pub whole : NotLost after R r → (k : ℕ) → 128 ≤ k → k < 256 → AsSent n S after R r k
  -- "and its mark is the number of its bits, front as held and back as received, that differ from the sent bits (for R < 20 in the
  -- back half only)."
  pub flips : NotLost after R r
      → mark_of after R r ≡ distance 256 (word_of (held_bits n (held_pairs c.history ++ c.coded) (R / 2)) R r) (word_of S R r)
  -- "A word with at most two wrong received bits is not marked lost": one that is checked.
  pub two_not_lost : Checked R → wrong_bits S W R r ≤ 2 → NotLost after R r
