-- A call: its tests in the order of 01's table, what it does where none refuses, and what stands after it. Every call of the code
-- layer and of the line layer is defined by these words.
-- Assumes nothing.
use Rattle.std.specs.Prelude.{Bool, cond, not, ◌||◌, List, [], ◌∷◌, ℕ, eqb, ltb, leb, length}
use Rattle.calls.specs.declared.Refusal.{Refusal}
use Rattle.calls.specs.declared.Refusal.TheVariants.{Misfit, BadHeader, CountSpent, NoSuchFrame, OffGrid, StrayHistory}
use Rattle.calls.specs.Answers.{Answer}
use Rattle.std.specs.Prelude.{Ok, Err}

-- What stands after a call: its answer, and what it may write, a buffer or a record of buffers.
pub record After (B : Type 0) : Type 0 where
  pub answer : Answer
  pub written : B

abbrev pub after : {B : Type 0} → Answer → B → After B
after a w = record { answer = a; written = w }

-- A test, which refuses the call or does not.
pub record Test : Type 0 where
  pub refusal : Refusal
  pub refuses : Bool

abbrev pub refuse : Refusal → Bool → Test
refuse r t = record { refusal = r; refuses = t }

-- ---- the tests of 01's table and of 02

-- No. 1, misfit: "a lent buffer is not of the stated length (a file: under 16 bytes)".
unfoldable pub misfit : List ℕ → ℕ → Test
misfit s n = refuse Misfit (not (eqb (length s) n))

unfoldable pub short_file : ℕ → Test
short_file size = refuse Misfit (ltb size 16)

-- No. 2, bad header: "a header rule below fails".
unfoldable pub bad_header : Bool → Test
bad_header holds = refuse BadHeader (not holds)

-- No. 3, count spent: "pair number 4,294,967,295".
unfoldable pub count_spent : ℕ → Test
count_spent P = refuse CountSpent (eqb P 4294967295)

-- No. 4, no such frame: "sub-frame above 47, or super-frame not below n".
unfoldable pub no_sub_frame : ℕ → Test
no_sub_frame s = refuse NoSuchFrame (ltb 47 s)

unfoldable pub no_super_frame : ℕ → ℕ → Test
no_super_frame q n = refuse NoSuchFrame (leb n q)

-- No. 5, off grid: "an illegal byte in cells that the call reads", the first at place `at` of the n that are read, which is `index` of
-- their buffer.
unfoldable pub off_grid : ℕ → ℕ → ℕ → Test
off_grid index at n = refuse (OffGrid index) (ltb at n)

-- 02, E2, No. 6, stray history: "given if either front number differs from the call's or the encoder is above 1". The history's front
-- shows e' and P', and the call names encoder e and pair P. It is "tested directly after 1".
unfoldable pub stray_history : ℕ → ℕ → ℕ → ℕ → Test
stray_history e' P' e P = refuse StrayHistory (not (eqb e' e) || not (eqb P' P) || ltb 1 e)

-- ---- a call

-- "Tested in this order": the first test that refuses gives the answer.
unfoldable pub verdict : List Test → Answer
verdict [] = Ok 0
verdict (t ∷ ts) = cond t.refuses (Err t.refusal) (verdict ts)

-- "nothing else is turned back"; "Buffers and pair number stay" in a refused call. `lent` is what the call may write, as it was lent, and
-- `done` is what stands after a call that no test refuses.
abbrev pub ends : {B : Type 0} → Answer → B → After B → After B
ends (Ok v) lent done = done
ends (Err r) lent done = after (Err r) lent

unfoldable pub call : {B : Type 0} → List Test → B → After B → After B
call ts lent done = ends (verdict ts) lent done
