-- The example of 01, "Line file": "Header hex 00000001 00000010 00003010 0005A010 on 368,656 bytes".
-- Assumes nothing.
use Rattle.std.specs.Prelude.{◌≡◌, refl, List, [], ◌∷◌, ℕ}
use Rattle.bits.specs.Lists.{tabulate}
use Rattle.bits.specs.Numbers32.{number32, byte32, bytes32}
use Rattle.calls.specs.Calls.{short_file, bad_header, verdict}
use Rattle.line_file_spec.specs.Header.{rules_hold, header_tests, good, judged}
use Rattle.line_file_spec.specs.Writing.{numbers_for}

unfoldable pub example : List ℕ
example = 0 ∷ 0 ∷ 0 ∷ 1 ∷ 0 ∷ 0 ∷ 0 ∷ 16 ∷ 0 ∷ 0 ∷ 48 ∷ 16 ∷ 0 ∷ 5 ∷ 160 ∷ 16 ∷ []

-- It is what a writer writes for one super-frame.
pub example_written : bytes32 (numbers_for 1) ≡ example
unfolding example bytes32 byte32 tabulate
example_written = refl

-- It is judged to have these numbers.
pub example_judged : judged example 368656 ≡ good 1 16 12304 368656
unfolding example judged verdict header_tests short_file bad_header rules_hold number32
example_judged = refl
