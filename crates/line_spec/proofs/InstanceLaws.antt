-- There is such a run.
-- Assumes nothing.
use Rattle.std.specs.Prelude.{◌≡◌, refl, List, [], ℕ, ◌*◌, ◌%◌, ◌≤◌, leb, length, replicate}
use Rattle.std.proofs.Common.{sym, ap, ◌∙◌, mul-le-mul_right, arith}
use Rattle.std.proofs.lemmas.List.{length-replicate, get_or-replicate}
use Rattle.bits.specs.Lists.{tabulate}
use Rattle.bits.specs.ListLaws.{length_tabulate, get_d_tabulate}
use Rattle.calls.specs.Answers.{TurnedBack}
use Rattle.word_spec.specs.Marks.{mark_meaning}
use Rattle.pair_spec.specs.Calls.{Encoding, encode, Encodings}
use Rattle.pair_spec.proofs.StateLaws.{refused_encoding}
use Rattle.cells_spec.specs.Modulation.{Modulation, cells_per_buffer, buffers_in, pairs_in, rows_in}
use Rattle.cells_spec.proofs.ModulationLaws.{buffer_whole, cells_pos}
use Rattle.cells_spec.specs.Cells.{overhead_rule, Legal}
use Rattle.frame_spec.specs.Frames.{payload_cells}
use Rattle.line_spec.specs.Sides.{Side, side0, side1}
use Rattle.line_spec.specs.Outward.{LentOut, Outward}
use Rattle.line_spec.specs.Inward.{LentIn, Inward}
use Rattle.line_spec.proofs.Theorem.{demand3}
use Rattle.line_spec.specs.CallLists.{with_refused}
use Rattle.line_spec.proofs.CallListLaws.{among_with_refused, with_refused_accepted}
use Rattle.line_spec.specs.Runs.{Given, encodings, LentBack, WordErrors, empty_encoding, empty_receiving}
use Rattle.line_spec.proofs.RunLaws.{empty_receiving_refused, encodings_accepted}
use Rattle.line_spec.proofs.Witness.{goes_out}
use Rattle.line_spec.proofs.WrongLaws.{errors_own}
use Rattle.line_spec.proofs.ErrorWitness.{first_count, first_errors, row_20, erring}
use Rattle.line_spec.specs.Instance.{OneSuperFrame}

-- ---- buffers of zeros

abbrev zeros : ℕ → List ℕ
zeros n = replicate n 0

zeros_long : (n : ℕ) → length (zeros n) ≡ n
zeros_long n = length-replicate n 0

lent_out : (p : Modulation) → LentOut p
lent_out p =
    record {
      bits = λ b. zeros 21504;
      cells = λ b. zeros (cells_per_buffer p * 2);
      frame = λ f. zeros 7424;
      bits_long = λ b. zeros_long 21504;
      cells_long = λ b. zeros_long (cells_per_buffer p * 2);
      frame_long = λ f. zeros_long 7424;
    }

lent_in : LentIn
lent_in =
    record {
      payload = λ f. zeros (payload_cells (f % 48) * 2);
      bits = λ b. zeros 21504;
      pairs = λ e b. zeros 10752;
      payload_long = λ f. zeros_long (payload_cells (f % 48) * 2);
      bits_long = λ b. zeros_long 21504;
      pairs_long = λ e b. zeros_long 10752;
    }

lent_back : LentBack
lent_back =
    record {
      payload = λ e P. zeros 444;
      marks = λ e P. zeros 32;
      payload_long = λ e P. zeros_long 444;
      marks_long = λ e P. zeros_long 32;
    }

zeros_legal : (n : ℕ) → Legal overhead_rule (zeros n)
unfolding overhead_rule
zeros_legal n = record { legal = λ k l. ap (leb 16) (get_or-replicate n k 0 0 (omega (arith, zeros_long n))) }

-- ---- the run

-- A symbol has no more bits than a buffer.
few : (p : Modulation) → p.bits ≤ 172032
few p = omega (arith, buffer_whole p, mul-le-mul_right {m = 1} {n = cells_per_buffer p} p.bits (cells_pos p))

given : (p : Modulation) → Given p
unfolding buffers_in
given p =
    record {
      superframes = 1;
      within = omega (arith, few p);
      payloads = λ e. tabulate (pairs_in p 1) (λ P. zeros 444);
      many = λ e. length_tabulate (pairs_in p 1) (λ P. zeros 444);
      long = λ e P l. ap length (get_d_tabulate (pairs_in p 1) (λ P. zeros 444) P [] l) ∙ zeros_long 444;
      coded = λ e P. zeros 512;
      coded_long = λ e P. zeros_long 512;
      overhead = zeros 12288;
      overhead_long = zeros_long 12288;
      overhead_legal = zeros_legal 12288;
      lent = lent_out p;
    }

refused : TurnedBack (encode empty_encoding).answer
refused = refused_encoding empty_encoding (λ e. omega arith)

-- Three errors of encoder 0, none of encoder 1.
wrong_of : Side → ℕ
wrong_of side0 = 3
wrong_of side1 = 0

wrong_most : (e : Side) → wrong_of e ≤ 3
unfolding wrong_of
wrong_most side0 = omega arith
wrong_most side1 = omega arith

wrong_three : (e : Side) → wrong_of e ≡ 3 → e ≡ side0
unfolding wrong_of
wrong_three side0 m = refl
wrong_three side1 m = absurd (omega arith)

pub one_super_frame : (p : Modulation) → (o : Outward p) × (i : Inward p o) × OneSuperFrame p o i
unfolding given first_errors wrong_of mark_meaning
one_super_frame p =
    let out = goes_out p (given p) (λ e. with_refused Encodings empty_encoding (encodings p (given p) e))
    (λ e. among_with_refused Encodings empty_encoding refused (encodings p (given p) e)) in
    let o = out.0 in
    let w : Side → WordErrors (rows_in p o.superframes) =
    λ e. first_errors (rows_in p o.superframes) 20 0 (wrong_of e) (row_20 p o.superframes (omega (arith, out.1))) (omega arith)
    (wrong_most e) in
    let back = erring p o w lent_in lent_back empty_receiving empty_receiving_refused in
    let all : pairs_in p o.superframes ≡ pairs_in p 1 = ap (pairs_in p) out.1 in (
      o,
      back.0,
      record {
        one = out.1;
        sent = λ e. o.filled e ∙ all;
        zero = out.3;
        taken = λ e. back.1.all e ∙ all;
        refused = (refused, empty_receiving_refused);
        between = λ e.
            with_refused_accepted Encodings empty_encoding refused (encodings p (given p) e) (o.calls e) (encodings_accepted p (given p) e)
            (ap (λ (c : Side → List Encoding). c e) out.2);
        between_back = back.2;
        three = errors_own (w side0) (back.1.errors side0) ∙ first_count 3 (omega arith);
        lost = λ c a. ap mark_meaning (back.1.marked side0 c a ∙ first_count 3 (omega arith));
        others = λ e R r c lr a off.
            (back.1.as_sent e R r c lr a (λ q u m. off (wrong_three e (sym (first_count (wrong_of e) (wrong_most e)) ∙ m)) q u)).0;
        demanded = demand3 p o back.0;
      },
    )
