-- Lines with errors meet the premises of demand 3: for any choice of at most three wrong bits in the back half of a word there is such a
-- line within the limit, and receivers that take all of it; they mark that word 1, 2, or 3 for lost.
-- Assumes nothing.
use Rattle.std.specs.Prelude.{◌≡◌, refl, ℕ, zero, suc, ◌/◌, ◌<◌, ◌≤◌, ltb}
use Rattle.std.proofs.Common.{sym, ◌∙◌, subst, arith}
use Rattle.bits.specs.Count.{count}
use Rattle.bits.proofs.DigitLaws.{place_lt}
use Rattle.bits.proofs.TestLaws.{either}
use Rattle.calls.specs.Answers.{TurnedBack}
use Rattle.calls.specs.Sequences.{At, accepted}
use Rattle.pair_spec.proofs.RowLaws.{word_at, back_place, back_place_lt}
use Rattle.pair_spec.proofs.RowLaws.{all_checked}
use Rattle.pair_spec.specs.Calls.{Receiving, receive, Receivings}
use Rattle.pair_spec.specs.Promise.{Limit, mark_of, NotLost}
use Rattle.cells_spec.specs.Modulation.{Modulation, buffers_in, pairs_in, rows_in}
use Rattle.cells_spec.proofs.ModulationLaws.{width_pos}
use Rattle.line_spec.specs.Sides.{Side}
use Rattle.line_spec.specs.Line.{line_bit}
use Rattle.line_spec.specs.Outward.{Outward}
use Rattle.line_spec.specs.Inward.{LentIn, ReceivedLine, Inward}
use Rattle.line_spec.proofs.InwardLaws.{length_payloads, comes}
use Rattle.line_spec.proofs.AnyLine.{any_bits}
use Rattle.line_spec.specs.CallLists.{with_refused}
use Rattle.line_spec.specs.Runs.{LentBack, WordErrors, Errors, Erring, first_places, Marked, empty_receiving}
use Rattle.line_spec.proofs.RunLaws.{empty_receiving_refused}
use Rattle.line_spec.proofs.WrongLaws.{errors_front, errors_own, errors_most, with_errors, with_bit, with_errors_lem}
use Rattle.line_spec.proofs.Witness.{comes_in_with_refused, exact, taken_row}

-- Sent bits are bits.
sent_bit : (p : Modulation) (o : Outward p) (e : Side) (R C r c : ℕ) → R < rows_in p o.superframes → C < 8 → r < 16 → c < 16
    → o.sent e R C r c < 2
sent_bit p o e R C r c lR lC lr lc =
    subst (λ x. x < 2) (word_at (o.sent e) R C r c lr lc)
    (((o.formulas e).words.code R r (omega (arith, length_payloads (o.calls e), o.filled e)) lr).bits (back_place C r c)
    (back_place_lt C r c lC lr lc))

module _ (p : Modulation) (o : Outward p) (w : Side → WordErrors (rows_in p o.superframes)) where
  -- Over every line with these errors: the mark is their number, ..
  module _ (i : Inward p o) (errors : (e : Side) → Errors (o.sent e) (line_bit p i.received.frames e) (rows_in p o.superframes) (w e)) where
    pub errors_marked : (e : Side) (c : Receiving) → At (accepted Receivings (i.calls e)) ((w e).R / 2) c
        → mark_of (receive c) (w e).R (w e).r ≡ count 128 (w e).at
    errors_marked e c a = exact p o i e (w e).R (w e).r c (w e).bit_row_lem a (errors_front (w e) (errors e)) ∙ errors_own (w e) (errors e)

    -- .. and no word is lost but one with three.
    pub others_as_sent : (e : Side) (R r : ℕ) (c : Receiving) → r < 16 → At (accepted Receivings (i.calls e)) (R / 2) c
        → (R ≡ (w e).R → r ≡ (w e).r → count 128 (w e).at ≡ 3 → ⊥) → NotLost (receive c) R r
    others_as_sent e R r c lr a off =
        ((comes p o i).words e (R / 2) c a R r refl lr).two_not_lost (all_checked R)
        (errors_most (w e) (errors e) 2 R r (omega arith) (taken_row p o i e R c a) lr (λ q u. omega (arith, (w e).three, off q u)))

  -- There is such a line, ..
  pub errors_line : LentIn
      → (h : ReceivedLine p o.superframes) × ((e : Side) → Errors (o.sent e) (line_bit p h.frames e) (rows_in p o.superframes) (w e))
  errors_line lent =
      let line = any_bits p o.superframes (λ e. with_errors (o.sent e) (w e)) o.overhead o.overhead_long o.overhead_legal
      (λ e R C r c lR lC lr lc. with_bit (o.sent e) (w e) R C r c (sent_bit p o e R C r c lR lC lr lc)) lent in
      (line.0, λ e. with_errors_lem (o.sent e) (w e) (line_bit p line.0.frames e) (sent_bit p o e) (line.1 e))

  -- .. within the limit, and receivers that take all of it, with any refused call before each of theirs and after the last.
  pub erring : LentIn → LentBack → (y : Receiving) → TurnedBack (receive y).answer
      → (i : Inward p o) × Erring p o w i × ((e : Side) → i.calls e ≡ with_refused Receivings y (accepted Receivings (i.calls e)))
  erring lent room y bad =
      let line = errors_line lent in
      let back = comes_in_with_refused p o line.0 (λ e. pairs_in p o.superframes) (λ e. omega arith) (limit line.0 line.1) room y bad in
      let errors : (e : Side) → Wrong back.0.received e = λ e. subst (λ (h : ReceivedLine p o.superframes). Wrong h e) (sym back.1) (line.1 e) in (
        back.0,
        record {
          errors = errors;
          all = back.3;
          marked = errors_marked back.0 errors;
          as_sent = λ e R r c lr a off. let kept = others_as_sent back.0 errors e R r c lr a off in
              (kept, ((comes p o back.0).words e (R / 2) c a R r refl lr).whole kept);
        },
        back.2,
      )
    where
      Wrong : ReceivedLine p o.superframes → Side → Type 0
      Wrong h e = Errors (o.sent e) (line_bit p h.frames e) (rows_in p o.superframes) (w e)

      limit : (h : ReceivedLine p o.superframes) → ((e : Side) → Wrong h e) → (e : Side)
          → Limit (o.sent e) (line_bit p h.frames e) (pairs_in p o.superframes)
      limit h errors e =
          record { three = λ R r lR lr _. errors_most (w e) (errors e) 3 R r (omega arith) (omega arith) lr (λ q u. omega (arith, (w e).three)) }

-- ---- words by their numbers

pub first_count : (j : ℕ) → j ≤ 3 → count 128 (first_places j) ≡ j
unfolding count first_places
first_count zero l = refl
first_count (suc zero) l = refl
first_count (suc (suc zero)) l = refl
first_count (suc (suc (suc zero))) l = refl
first_count (suc (suc (suc (suc j)))) l = absurd (omega arith)

unfoldable pub first_errors : (n R r j : ℕ) → R < n → r < 16 → j ≤ 3 → WordErrors n
unfolding first_places
first_errors n R r j lR lr lj =
    record {
      R = R;
      r = r;
      at = first_places j;
      row = lR;
      bit_row_lem = lr;
      bits = λ k l. either (λ v. v < 2) (ltb k j) 1 0 (omega arith) (omega arith);
      three = omega (arith, first_count j lj);
    }

-- Of every outward run, for every word (R, r) and every number of wrong bits up to three in it, for each encoder its own.
pub word_marked : (p : Modulation) (o : Outward p) (R r : ℕ) → R < rows_in p o.superframes → r < 16 → (j : Side → ℕ) → ((e : Side) → j e ≤ 3)
    → LentIn → LentBack → (i : Inward p o) × Marked p o R r j i
unfolding first_errors
word_marked p o R r lR lr j lj lent room =
    let w : Side → WordErrors (rows_in p o.superframes) = λ e. first_errors (rows_in p o.superframes) R r (j e) lR lr (lj e) in
    let back = erring p o w lent room empty_receiving empty_receiving_refused in (
      back.0,
      record {
        all = back.1.all;
        wrong = λ e. errors_own (w e) (back.1.errors e) ∙ first_count (j e) (lj e);
        mark = λ e c a. back.1.marked e c a ∙ first_count (j e) (lj e);
      },
    )

-- Of every outward run that is not empty, word (20, 0), the first that has a front half: marked 1, marked 2, and lost.
pub row_20 : (p : Modulation) (n : ℕ) → 0 < n → 20 < rows_in p n
unfolding buffers_in
row_20 p n some = omega (arith, place_lt p.bits (width_pos p) 0 0 n some (width_pos p))

module _ (p : Modulation) (o : Outward p) (some : 0 < o.superframes) (lent : LentIn) (room : LentBack) where
  word_20_0 : (j : ℕ) → j ≤ 3 → (i : Inward p o) × Marked p o 20 0 (λ e. j) i
  word_20_0 j lj = word_marked p o 20 0 (row_20 p o.superframes some) (omega arith) (λ e. j) (λ e. lj) lent room

  pub word_20_0_one : (i : Inward p o) × Marked p o 20 0 (λ e. 1) i
  word_20_0_one = word_20_0 1 (omega arith)

  pub word_20_0_two : (i : Inward p o) × Marked p o 20 0 (λ e. 2) i
  word_20_0_two = word_20_0 2 (omega arith)

  pub word_20_0_lost : (i : Inward p o) × Marked p o 20 0 (λ e. 3) i
  word_20_0_lost = word_20_0 3 (omega arith)
