-- Laws of what is sent and received, half by half and pair by pair.
-- Assumes nothing.
use Rattle.std.specs.Prelude.{◌≡◌, refl, List, ℕ, ◌+◌, ◌-◌, ◌*◌, ◌<◌, ◌≤◌, length, get_or, drop, replicate}
use Rattle.std.proofs.Common.{sym, ap₂, ◌∙◌, arith, add-one, lit<}
use Rattle.std.proofs.Math.Path.{ap}
use Rattle.std.proofs.Math.ListN.{length-drop}
use Rattle.std.proofs.Math.Seq.{take_all}
use Rattle.bits.specs.Bits.{pack}
use Rattle.bits.specs.Lists.{tabulate}
use Rattle.bits.specs.Parts.{part, part_of, byte_of_each}
use Rattle.bits.proofs.PartLaws.{end_to_end_length, each_block}
use Rattle.word_spec.specs.Completion.{first_bits}
use Rattle.word_spec.specs.Marks.{lost_in}
use Rattle.pair_spec.specs.History.{depth, fresh}
use Rattle.pair_spec.specs.Front.{behind, held_pairs, history_of, history_bytes, fresh_history}
use Rattle.pair_spec.proofs.FrontLaws.{pairs_of}
use Rattle.pair_spec.specs.Encoding.{open_word}
use Rattle.pair_spec.specs.Receiving.{held_word}
use Rattle.pair_spec.specs.Calls.{EncodeBuffers, encode_buffers, ReceiveBuffers, receive_buffers}
use Rattle.pair_spec.specs.Stream.{Coder, pair_encoder, pair_receiver, given_over, coded_of, payloads_of, marks_of, history_over, encode_stream, receive_stream, history_before}
use Rattle.loopback_core.specs.Random.{pair_payload, payload_in}
use Rattle.loopback_core.specs.StepLaws.{Stepping, step_more, step_done}
use Rattle.loopback_core.specs.Tally.{tally_sum, tallied, refused_two, word_kind, bit_kind}
use Rattle.loopback.specs.Sent.{sent_in}
use Rattle.loopback.specs.Received.{word_in, kept_word, payload_word, coded_counted, payload_counted, word_compared, pair_compared}
use Rattle.loopback.specs.Received.{pair_taken, next_received}

-- ---- the history before each half

pub before_none : (c : Coder) (m : ℕ) (S : ℕ → List ℕ) (e : ℕ) (h : List ℕ) → h ≡ fresh_history e → h ≡ history_of e 0 (history_before c m S 0)
unfolding history_before
before_none c m S e h is = is

pub before_more : (c : Coder) (m : ℕ) (S : ℕ → List ℕ) (q e : ℕ) (h h' : List ℕ) (p p' : ℕ) → h ≡ history_of e p (history_before c m S q) → p ≡ m * q
    → p' ≡ p + m → h' ≡ history_of e (p + m) (history_over c m (held_pairs h) p (S q)) → h' ≡ history_of e p' (history_before c m S (q + 1))
unfolding history_before
before_more c m S q e h h' p p' is ep ep' e' =
    let pairs : held_pairs h ≡ history_before c m S q = ap held_pairs is ∙ pairs_of e p _ in
    e' ∙ ap₂ (history_of e) (sym ep') (ap₂ (λ x n. history_over c m x n (S q)) pairs ep ∙ ap (history_before c m S) (sym (add-one q)))

-- ---- sending

pub sent_block_lem : (e q : ℕ) (h ys : List ℕ) → h ≡ history_of e (168 * q) (history_before pair_encoder 168 (payload_in e) q)
    → ys ≡ coded_of 168 (held_pairs h) (168 * q) (payload_in e q)
    → ys ≡ tabulate 86016 (λ i. byte_of_each 86016 (sent_in e) (q * 86016 + i))
unfolding sent_in given_over
sent_block_lem e q h ys is es =
    each_block (sent_in e) 86016 q ys (lit< tt) (ap length es ∙ end_to_end_length 168 512 _)
    (es ∙ ap (λ x. coded_of 168 x (168 * q) (payload_in e q)) (ap held_pairs is ∙ pairs_of e (168 * q) _))

-- From payload that is known by another name.
module _ (e q : ℕ) (h s ys : List ℕ) (es : s ≡ payload_in e q) where
  pub coded_of_lem : (g : List ℕ) → encode_buffers ys g ≡ encode_stream 168 h e (168 * q) s → ys ≡ coded_of 168 (held_pairs h) (168 * q) (payload_in e q)
  coded_of_lem g is = ap (λ (b : EncodeBuffers). b.coded) is ∙ ap (coded_of 168 (held_pairs h) (168 * q)) es

  pub history_of_lem : (c : List ℕ) → encode_buffers c ys ≡ encode_stream 168 h e (168 * q) s
      → ys ≡ history_of e (168 * q + 168) (history_over pair_encoder 168 (held_pairs h) (168 * q) (payload_in e q))
  history_of_lem c is =
      ap (λ (b : EncodeBuffers). b.history) is ∙ ap (λ x. history_of e (168 * q + 168) (history_over pair_encoder 168 (held_pairs h) (168 * q) x)) es

-- A half sent, after refused calls that leave the history.
module _ (e q : ℕ) (h h₁ ys : List ℕ) (is : h ≡ history_of e (168 * q) (history_before pair_encoder 168 (payload_in e) q)) (left : h₁ ≡ h) where
  pub half_block_lem : ys ≡ coded_of 168 (held_pairs h₁) (168 * q) (payload_in e q) → ys ≡ tabulate 86016 (λ i. byte_of_each 86016 (sent_in e) (q * 86016 + i))
  half_block_lem es = sent_block_lem e q h₁ ys (left ∙ is) es

-- ---- the words of a pair

pub word_in_lem : (pairs : List ℕ) (k w n a b m e : ℕ) (r : List ℕ) → n ≡ k - 10 → a ≡ n * 512 → b ≡ a + 5120 → m ≡ k * 512 → e ≡ m + 512
    → r ≡ pack 32 (held_word depth (part a (b - a) pairs) k (part m (e - m) pairs) w) → r ≡ word_in pairs k w
unfolding word_in
word_in_lem pairs k w n a b m e r en ea eb em ee is =
    let x : b - a ≡ 5120 = omega arith in
    let y : e - m ≡ 512 = omega arith in
    let z : a ≡ (k - 10) * 512 = omega arith in
    is ∙ rw (x, y, z, em)

pub payload_in_lem : (payload : List ℕ) (k w : ℕ) (r : List ℕ) → r ≡ pack 32 (first_bits (open_word depth (replicate 5120 0) k payload w))
    → r ≡ payload_word payload k w
unfolding payload_word fresh
payload_in_lem payload k w r e = e

-- ---- what is counted

pub coded_counted_lem : (k w : ℕ) (sent got history : List ℕ) (mark : ℕ) (s g h : List ℕ) (v l : ℕ) (d d₁ d₂ : List ℕ) → s ≡ word_in sent k w
    → g ≡ word_in got k w
    → h ≡ kept_word history k w → v ≡ word_kind s g mark → d₁ ≡ tally_sum v 1 d → l ≡ lost_in mark
    → d₂ ≡ tallied 128 (bit_kind (27 + l * 4) s g h) d₁
    → d₂ ≡ coded_counted k w sent got history mark d
unfolding coded_counted
coded_counted_lem k w sent got history mark s g h v l d d₁ d₂ es eg eh ev e₁ el e₂ = cc

pub payload_counted_lem : (k w pair_encoder : ℕ) (out : List ℕ) (mark : ℕ) (payload s o : List ℕ) (l : ℕ) (d d₁ : List ℕ)
    → payload ≡ pair_payload pair_encoder k
    → s ≡ payload_word payload k w → o ≡ payload_word out k w → l ≡ lost_in mark → d₁ ≡ tallied 111 (bit_kind (35 + l * 2) s o s) d
    → d₁ ≡ payload_counted k w (pair_payload pair_encoder k) out mark d
unfolding payload_counted
payload_counted_lem k w pair_encoder out mark payload s o l d d₁ ep es eo el e₁ = cc

module _ (e k : ℕ) (sent got history out marks before d : List ℕ) (w : ℕ) where
  pub words_more : (d₁ d₂ : List ℕ) → Stepping (word_compared e k sent got history out marks) 32 before w d → w < 32
      → d₁ ≡ coded_counted k w sent got history (get_or marks w 0) d → d₂ ≡ payload_counted k w (pair_payload e k) out (get_or marks w 0) d₁
      → Stepping (word_compared e k sent got history out marks) 32 before (w + 1) d₂
  unfolding word_compared
  words_more d₁ d₂ s l e₁ e₂ = step_more d₂ s l (e₂ ∙ ap (payload_counted k w (pair_payload e k) out (get_or marks w 0)) e₁)

  pub words_done : Stepping (word_compared e k sent got history out marks) 32 before w d → 32 ≤ w
      → d ≡ pair_compared e k sent got history out marks before
  unfolding pair_compared
  words_done s l = step_done s l

-- A pair received, from what is known after each call.
module _ (e k a b : ℕ) (got h : List ℕ) (ea : a ≡ k * 512) (eb : b ≡ a + 512) where
  own_pair : part a (b - a) got ≡ part_of 512 got k
  own_pair = let size : b - a ≡ 512 = omega arith in ap₂ (λ x y. part x y got) ea size

  module _ (h₁ out marks : List ℕ) (is : receive_buffers out marks h₁ ≡ receive_stream 1 h e k (part a (b - a) got)) where
    pub step_history : h₁ ≡ history_of e (k + 1) (history_over pair_receiver 1 (held_pairs h) k (part_of 512 got k))
    step_history =
        ap (λ (x : ReceiveBuffers). x.history) is ∙ ap (λ s. history_of e (k + 1) (history_over pair_receiver 1 (held_pairs h) k s)) own_pair

    -- The comparison is lent the ten pairs behind the front.
    pub pair_taken_lem : (sent d d₁ : List ℕ) → length h₁ ≡ history_bytes → d₁ ≡ pair_compared e k sent got (part 8 5120 h₁) out marks d
        → d₁ ≡ pair_taken e sent got (held_pairs h) k d
    unfolding pair_taken behind
    pair_taken_lem sent d d₁ l e₁ =
        let lent : part 8 5120 h₁ ≡ held_pairs h₁ = take_all 5120 (drop 8 h₁) (omega (arith, l, length-drop 8 h₁)) in
        let own : part a (b - a) got ≡ part_of 512 got k = own_pair in
        let eo : out ≡ payloads_of 1 (held_pairs h) k (part a (b - a) got) = ap (λ (x : ReceiveBuffers). x.payload) is in
        let em : marks ≡ marks_of 1 (held_pairs h) k (part a (b - a) got) = ap (λ (x : ReceiveBuffers). x.marks) is in
        let eh : part 8 5120 h₁ ≡ history_over pair_receiver 1 (held_pairs h) k (part_of 512 got k) = lent ∙ ap held_pairs step_history ∙ pairs_of e (k + 1) _ in
        cc

pub before_pair : (c : Coder) (S : ℕ → List ℕ) (k e : ℕ) (h h' : List ℕ) → h ≡ history_of e k (history_before c 1 S k)
    → h' ≡ history_of e (k + 1) (history_over c 1 (held_pairs h) k (S k))
    → h' ≡ history_of e (k + 1) (history_before c 1 S (k + 1))
before_pair c S k e h h' is = let one : k ≡ 1 * k = omega arith in before_more c 1 S k e h h' k (k + 1) is one refl

pub received_more : (e : ℕ) (sent got before d d₁ d₂ h h₁ : List ℕ) (k : ℕ) → Stepping (next_received e sent got) 336 before k d → k < 336
    → h ≡ history_of e k (history_before pair_receiver 1 (part_of 512 got) k) → h₁ ≡ h → d₁ ≡ refused_two d → d₂ ≡ pair_taken e sent got (held_pairs h₁) k d₁
    → Stepping (next_received e sent got) 336 before (k + 1) d₂
unfolding next_received
received_more e sent got before d d₁ d₂ h h₁ k s l eh e₀ e₁ e₂ =
    step_more d₂ s l (e₂ ∙ ap₂ (λ x y. pair_taken e sent got x k y) (ap held_pairs (e₀ ∙ eh) ∙ pairs_of e k _) e₁)
