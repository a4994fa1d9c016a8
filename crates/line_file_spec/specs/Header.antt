-- The header of a line file. 01, "Line file": "Header, four 32-bit numbers, most significant byte first: super-frames n
-- (1 to 64), offset o of the overhead list, offset f of the frames, total length."
-- Assumes nothing.
use Rattle.std.specs.Prelude.{List, [], ◌∷◌, Bool, ℕ, ◌+◌, ◌*◌, leb, eqb, Result, Ok, Err}
use Rattle.bits.specs.Numbers32.{number32}
use Rattle.bits.specs.Tests.{both}
use Rattle.calls.specs.Answers.{Answer}
use Rattle.calls.specs.declared.Refusal.{Refusal}
use Rattle.calls.specs.Calls.{Test, short_file, bad_header, verdict}
use Rattle.line_file_spec.specs.declared.Header.{Header}

-- Number k of a header: 0 is n, 1 is o, 2 is f, 3 is the total length.
abbrev pub header_number : List ℕ → ℕ → ℕ
header_number bytes k = number32 bytes k

-- n is 1 to 64. "Rules: o ≥ 16, f ≥ o+12,288, total = f + 356,352×n = file length." The sums are those of whole numbers.
unfoldable pub rules_hold : ℕ → ℕ → ℕ → ℕ → ℕ → Bool
rules_hold n o f total size =
    both (leb 1 n)
    (both (leb n 64)
    (both (leb 16 o)
    (both (leb (o + 12288) f)
    (both (eqb total (f + 356352 * n))
    (eqb total size)))))

-- The tests of a file of so many bytes that begins with these.
unfoldable pub header_tests : List ℕ → ℕ → List Test
header_tests bytes size = short_file size ∷ bad_header (rules_hold (header_number bytes 0) (header_number bytes 1) (header_number bytes 2) (header_number bytes 3) size) ∷ []

-- The header by their answer: its numbers where it keeps the rules, and otherwise the refusal.
abbrev pub header_when : Answer → ℕ → ℕ → ℕ → ℕ → Result Header Refusal
header_when (Ok v) n o f total = Ok (record { superframes = n; overhead = o; frames = f; total = total })
header_when (Err r) n o f total = Err r

abbrev pub good : ℕ → ℕ → ℕ → ℕ → Result Header Refusal
good n o f total = header_when (Ok 0) n o f total

unfoldable pub judged : List ℕ → ℕ → Result Header Refusal
judged bytes size = header_when (verdict (header_tests bytes size)) (header_number bytes 0) (header_number bytes 1) (header_number bytes 2) (header_number bytes 3)
