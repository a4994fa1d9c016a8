-- The calls: interleaving and taking apart. 01, "Turned-back calls": No. 1, "a lent buffer is not of the stated length".
-- Assumes nothing.
use Rattle.std.specs.Prelude.{List, [], ◌∷◌, ℕ}
use Rattle.calls.specs.Answers.{Answer}
use Rattle.std.specs.Prelude.{Ok}
use Rattle.calls.specs.Calls.{After, after, misfit, call}
use Rattle.interleaver_spec.specs.Interleaving.{interleaved, apart}

-- Interleaving writes the bits.
abbrev pub interleave_call : List ℕ → List ℕ → List ℕ → After (List ℕ)
interleave_call pairs0 pairs1 bits =
    call (misfit pairs0 10752 ∷ misfit pairs1 10752 ∷ misfit bits 21504 ∷ []) bits
    (after (Ok 0) (interleaved pairs0 pairs1))

-- Taking apart, which is deinterleaving, writes the pairs of either encoder.
pub record PairBuffers : Type 0 where
  pub pairs0 : List ℕ
  pub pairs1 : List ℕ

abbrev pub pair_buffers : List ℕ → List ℕ → PairBuffers
pair_buffers s t = record { pairs0 = s; pairs1 = t }

abbrev pub Deinterleaved : Type 0
Deinterleaved = After PairBuffers

abbrev pub after_deinterleave : Answer → List ℕ → List ℕ → Deinterleaved
after_deinterleave a s t = after a (pair_buffers s t)

abbrev pub deinterleave_call : List ℕ → List ℕ → List ℕ → Deinterleaved
deinterleave_call bits pairs0 pairs1 =
    call (misfit bits 21504 ∷ misfit pairs0 10752 ∷ misfit pairs1 10752 ∷ []) (pair_buffers pairs0 pairs1)
    (after_deinterleave (Ok 0) (apart bits 0) (apart bits 1))
