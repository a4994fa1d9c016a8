-- What a receiver made of the pairs, compared with what was sent. `sent` and `got` are the coded pairs as sent and as received.
-- Assumes nothing.
use Rattle.std.specs.Prelude.{List, ℕ, ◌+◌, ◌-◌, ◌*◌, get_or}
use Rattle.bits.specs.Bits.{pack}
use Rattle.bits.specs.Parts.{part, part_of}
use Rattle.word_spec.specs.Completion.{first_bits}
use Rattle.word_spec.specs.Marks.{lost_in}
use Rattle.pair_spec.specs.History.{depth, fresh}
use Rattle.pair_spec.specs.Encoding.{open_word}
use Rattle.pair_spec.specs.Receiving.{held_word}
use Rattle.pair_spec.specs.Stream.{pair_receiver, payloads_of, marks_of, history_over, history_before}
use Rattle.loopback_core.specs.Random.{pair_payload}
use Rattle.loopback_core.specs.Steps.{each_step}
use Rattle.loopback_core.specs.Tally.{tally_sum, tallied, refused_two, word_kind, bit_kind}

-- Word w of pair k, with the ten pairs before it; a word of the first ten pairs has zeros in front, whatever stands there.
unfoldable pub word_in : List ℕ → ℕ → ℕ → List ℕ
word_in pairs k w = pack 32 (held_word depth (part ((k - 10) * 512) 5120 pairs) k (part_of 512 pairs k) w)

-- Word w of the newest of a history's ten pairs, as far as that pair has it: its back half.
abbrev pub kept_word : List ℕ → ℕ → ℕ → List ℕ
kept_word history k w = pack 32 (held_word depth history k (part 4608 512 history) w)

-- The payload bits of word w, in their places.
unfoldable pub payload_word : List ℕ → ℕ → ℕ → List ℕ
payload_word payload k w = pack 32 (first_bits (open_word depth (fresh depth) k payload w))

-- What is counted of word w of pair k, whose mark is given: the word, and the bits of its back half, from 27 on, or 31 in a lost word;
unfoldable pub coded_counted : ℕ → ℕ → List ℕ → List ℕ → List ℕ → ℕ → List ℕ → List ℕ
coded_counted k w sent got history mark counts =
    tallied 128 (bit_kind (27 + lost_in mark * 4) (word_in sent k w) (word_in got k w) (kept_word history k w))
    (tally_sum (word_kind (word_in sent k w) (word_in got k w) mark) 1 counts)

-- and its payload bits, from 35 on, or 37 in a lost word, which are right or wrong.
unfoldable pub payload_counted : ℕ → ℕ → List ℕ → List ℕ → ℕ → List ℕ → List ℕ
payload_counted k w sent out mark counts =
    tallied 111 (bit_kind (35 + lost_in mark * 2) (payload_word sent k w) (payload_word out k w) (payload_word sent k w)) counts

-- Word w of pair k of encoder e, with the history, the payload and the marks that the pair's call gave; and all its words.
unfoldable pub word_compared : ℕ → ℕ → List ℕ → List ℕ → List ℕ → List ℕ → List ℕ → ℕ → List ℕ → List ℕ
word_compared e k sent got history out marks w counts =
    payload_counted k w (pair_payload e k) out (get_or marks w 0) (coded_counted k w sent got history (get_or marks w 0) counts)

unfoldable pub pair_compared : ℕ → ℕ → List ℕ → List ℕ → List ℕ → List ℕ → List ℕ → List ℕ → List ℕ
pair_compared e k sent got history out marks counts = each_step 32 (word_compared e k sent got history out marks) counts

-- Pair k received, h being the ten pairs before it;
unfoldable pub pair_taken : ℕ → List ℕ → List ℕ → List ℕ → ℕ → List ℕ → List ℕ
pair_taken e sent got h k counts =
    pair_compared e k sent got (history_over pair_receiver 1 h k (part_of 512 got k)) (payloads_of 1 h k (part_of 512 got k)) (marks_of 1 h k (part_of 512 got k)) counts

-- and the same after refused calls, and after the pairs before it from fresh on.
unfoldable pub next_received : ℕ → List ℕ → List ℕ → ℕ → List ℕ → List ℕ
next_received e sent got k counts = pair_taken e sent got (history_before pair_receiver 1 (part_of 512 got) k) k (refused_two counts)
