-- Writing a header. 01, "Line file": "Writing a header takes n and a 16-byte buffer, and n outside 1 to 64 is refusal 2."
-- Assumes nothing.
use Rattle.std.specs.Prelude.{List, [], ◌∷◌, ℕ, ◌+◌, ◌*◌, leb}
use Rattle.bits.specs.Numbers32.{bytes32}
use Rattle.bits.specs.Tests.{both}
use Rattle.std.specs.Prelude.{Ok}
use Rattle.calls.specs.Calls.{After, after, misfit, bad_header, call}

-- n, o, f and total length of the header that is written: "a writer uses o = 16, f = 12,304".
abbrev pub numbers_for : ℕ → List ℕ
numbers_for n = n ∷ 16 ∷ 12304 ∷ (12304 + 356352 * n) ∷ []

-- The call writes the header.
abbrev pub write_call : ℕ → List ℕ → After (List ℕ)
write_call n header =
    call (misfit header 16 ∷ bad_header (both (leb 1 n) (leb n 64)) ∷ []) header (after (Ok 0) (bytes32 (numbers_for n)))
