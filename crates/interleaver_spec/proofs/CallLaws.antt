-- Laws of the calls: what an accepted one gives, what a refused one leaves, and each undoing the other.
-- Assumes nothing.
use Rattle.std.specs.Prelude.{◌≡◌, refl, List, ℕ, ◌<◌, length, get_or}
use Rattle.std.proofs.Common.{sym, ◌∙◌, arith}
use Rattle.std.proofs.Math.Path.{ap, ap₂}
use Rattle.bits.specs.Bits.{bit}
use Rattle.std.specs.Prelude.{Ok}
use Rattle.calls.specs.Answers.{refusal_of, Accepted, TurnedBack}
use Rattle.calls.specs.Calls.{after}
use Rattle.calls.proofs.CallLaws.{cases, call_keeps}
use Rattle.interleaver_spec.specs.Positions.{encoder_of}
use Rattle.interleaver_spec.specs.Interleaving.{pairs_of, interleaved, apart}
use Rattle.interleaver_spec.proofs.InterleavingLaws.{length_interleaved, length_apart, apart_interleaved, interleaved_apart}
use Rattle.interleaver_spec.proofs.InterleavingLaws.{apart_agree}
use Rattle.interleaver_spec.specs.Calls.{interleave_call, pair_buffers, after_deinterleave, deinterleave_call}

-- ---- calls that no test refuses

pub join_done : (pairs0 pairs1 bits s : List ℕ) → length pairs0 ≡ 10752 → length pairs1 ≡ 10752 → length bits ≡ 21504
    → s ≡ interleaved pairs0 pairs1
    → after (Ok 0) s ≡ interleave_call pairs0 pairs1 bits
join_done pairs0 pairs1 bits s p q r e = rw e (search cases depth 7)

pub part_done : (bits pairs0 pairs1 s t : List ℕ) → length bits ≡ 21504 → length pairs0 ≡ 10752 → length pairs1 ≡ 10752 → s ≡ apart bits 0
    → t ≡ apart bits 1
    → after_deinterleave (Ok 0) s t ≡ deinterleave_call bits pairs0 pairs1
part_done bits pairs0 pairs1 s t p q r e f = rw (e, f) (search cases depth 7)

-- ---- calls that are accepted

-- Where the lengths are right the call is accepted and gives the definition's bits, or pairs.
module _ (pairs0 pairs1 bits : List ℕ) (long0 : length pairs0 ≡ 10752) (long1 : length pairs1 ≡ 10752) (long : length bits ≡ 21504) where
  pub interleave_done : interleave_call pairs0 pairs1 bits ≡ after (Ok 0) (interleaved pairs0 pairs1)
  interleave_done = sym (join_done pairs0 pairs1 bits (interleaved pairs0 pairs1) long0 long1 long refl)

  pub interleave_accepts : Accepted (interleave_call pairs0 pairs1 bits).answer
  interleave_accepts = ap (λ a. refusal_of a.answer) interleave_done

  pub interleave_bits : (interleave_call pairs0 pairs1 bits).written ≡ interleaved pairs0 pairs1
  interleave_bits = ap (λ a. a.written) interleave_done

module _ (bits pairs0 pairs1 : List ℕ) (long : length bits ≡ 21504) (long0 : length pairs0 ≡ 10752) (long1 : length pairs1 ≡ 10752) where
  pub deinterleave_done : deinterleave_call bits pairs0 pairs1 ≡ after_deinterleave (Ok 0) (apart bits 0) (apart bits 1)
  deinterleave_done = sym (part_done bits pairs0 pairs1 (apart bits 0) (apart bits 1) long long0 long1 refl refl)

  pub deinterleave_accepts : Accepted (deinterleave_call bits pairs0 pairs1).answer
  deinterleave_accepts = ap (λ a. refusal_of a.answer) deinterleave_done

  pub deinterleave_pairs0 : (deinterleave_call bits pairs0 pairs1).written.pairs0 ≡ apart bits 0
  deinterleave_pairs0 = ap (λ a. a.written.pairs0) deinterleave_done

  pub deinterleave_pairs1 : (deinterleave_call bits pairs0 pairs1).written.pairs1 ≡ apart bits 1
  deinterleave_pairs1 = ap (λ a. a.written.pairs1) deinterleave_done

-- A refused call leaves every lent buffer as it was.
pub interleave_keeps : (pairs0 pairs1 bits : List ℕ) → TurnedBack (interleave_call pairs0 pairs1 bits).answer
    → (interleave_call pairs0 pairs1 bits).written ≡ bits
interleave_keeps pairs0 pairs1 bits = call_keeps _ _ _ refl

pub deinterleave_keeps : (bits pairs0 pairs1 : List ℕ) → TurnedBack (deinterleave_call bits pairs0 pairs1).answer
    → (deinterleave_call bits pairs0 pairs1).written ≡ pair_buffers pairs0 pairs1
deinterleave_keeps bits pairs0 pairs1 = call_keeps _ _ _ refl

-- ---- each call undoes the other, whatever the buffers that they write were lent with

module _ (pairs0 pairs1 : List ℕ) (long0 : length pairs0 ≡ 10752) (long1 : length pairs1 ≡ 10752)
    (bytes0 : (j : ℕ) → get_or pairs0 j 0 < 256) (bytes1 : (j : ℕ) → get_or pairs1 j 0 < 256) where
  pub deinterleave_after_interleave : (bits out0 out1 : List ℕ) → length bits ≡ 21504 → length out0 ≡ 10752 → length out1 ≡ 10752
      → deinterleave_call (interleave_call pairs0 pairs1 bits).written out0 out1 ≡ after_deinterleave (Ok 0) pairs0 pairs1
  unfolding pairs_of
  deinterleave_after_interleave bits out0 out1 long l0 l1 =
      ap (λ s. deinterleave_call s out0 out1) (interleave_bits pairs0 pairs1 bits long0 long1 long)
      ∙ deinterleave_done (interleaved pairs0 pairs1) out0 out1 (length_interleaved pairs0 pairs1) l0 l1
      ∙ ap₂ (after_deinterleave (Ok 0)) (apart_interleaved pairs0 pairs1 0 (omega arith) long0 bytes0) (apart_interleaved pairs0 pairs1 1 (omega arith) long1 bytes1)

pub interleave_after_deinterleave : (bits out0 out1 out : List ℕ) → length bits ≡ 21504 → ((j : ℕ) → get_or bits j 0 < 256) → length out0 ≡ 10752
    → length out1 ≡ 10752
    → length out ≡ 21504
    → interleave_call (deinterleave_call bits out0 out1).written.pairs0 (deinterleave_call bits out0 out1).written.pairs1 out ≡ after (Ok 0) bits
interleave_after_deinterleave bits out0 out1 out long bytes l0 l1 l =
    ap₂ (λ s t. interleave_call s t out) (deinterleave_pairs0 bits out0 out1 long l0 l1) (deinterleave_pairs1 bits out0 out1 long l0 l1)
    ∙ interleave_done (apart bits 0) (apart bits 1) out (length_apart bits 0) (length_apart bits 1) l
    ∙ ap (after (Ok 0)) (interleaved_apart bits long bytes)

-- Encoder 0's pairs are the same however encoder 1's bits alter, and the reverse.
module _ (s t out0 out1 : List ℕ) (ls : length s ≡ 21504) (lt : length t ≡ 21504) (l0 : length out0 ≡ 10752) (l1 : length out1 ≡ 10752) where
  pub deinterleave_agree_0 : ((n : ℕ) → n < 172032 → encoder_of n ≡ 0 → bit s n ≡ bit t n)
      → (deinterleave_call s out0 out1).written.pairs0 ≡ (deinterleave_call t out0 out1).written.pairs0
  deinterleave_agree_0 same =
      deinterleave_pairs0 s out0 out1 ls l0 l1 ∙ apart_agree s t 0 (omega arith) same ∙ sym (deinterleave_pairs0 t out0 out1 lt l0 l1)

  pub deinterleave_agree_1 : ((n : ℕ) → n < 172032 → encoder_of n ≡ 1 → bit s n ≡ bit t n)
      → (deinterleave_call s out0 out1).written.pairs1 ≡ (deinterleave_call t out0 out1).written.pairs1
  deinterleave_agree_1 same =
      deinterleave_pairs1 s out0 out1 ls l0 l1 ∙ apart_agree s t 1 (omega arith) same ∙ sym (deinterleave_pairs1 t out0 out1 lt l0 l1)
