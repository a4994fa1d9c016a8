-- The front of a history. 02, E2: "The history gains eight bytes in front: encoder number, then next pair number, 32 bits each. It is 5,128
-- bytes from now on, and a fresh one has pair number 0."
-- Assumes nothing.
use Rattle.std.specs.Prelude.{◌≡◌, List, [], ◌∷◌, ◌++◌, ℕ, ◌+◌, ◌*◌, length, drop}
use Rattle.bits.specs.Numbers32.{number32, bytes32}
use Rattle.pair_spec.specs.History.{depth, fresh}

-- Bytes with numbers in front, and what stands behind n numbers.
unfoldable pub with_front : List ℕ → List ℕ → List ℕ
with_front numbers bytes = bytes32 numbers ++ bytes

unfoldable pub behind : ℕ → List ℕ → List ℕ
behind n bytes = drop (4 * n) bytes

-- "encoder number, then next pair number": what a history shows; and the ten pairs behind them.
unfoldable pub encoder_of : List ℕ → ℕ
encoder_of history = number32 history 0

unfoldable pub next_pair : List ℕ → ℕ
next_pair history = number32 history 1

abbrev pub held_pairs : List ℕ → List ℕ
held_pairs history = behind 2 history

-- The history of encoder e before pair P, which holds these pairs.
abbrev pub history_of : ℕ → ℕ → List ℕ → List ℕ
history_of e P pairs = with_front (e ∷ P ∷ []) pairs

-- "It is 5,128 bytes from now on".
abbrev pub history_bytes : ℕ
history_bytes = 4 * 2 + 512 * depth

-- "a fresh one has pair number 0": a fresh history of encoder e.
abbrev pub fresh_history : ℕ → List ℕ
fresh_history e = history_of e 0 (fresh depth)

-- A history of its length that is encoder e's before pair P.
pub record BeforePair (e P : ℕ) (history : List ℕ) : Type 0 where
  pub long : length history ≡ history_bytes
  pub is : history ≡ history_of e P (held_pairs history)

-- Those of both encoders.
pub record BothBefore (P : ℕ) (history0 history1 : List ℕ) : Type 0 where
  pub first : BeforePair 0 P history0
  pub second : BeforePair 1 P history1
