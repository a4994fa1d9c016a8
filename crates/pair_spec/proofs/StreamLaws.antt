-- Laws of a stream: what a call gives for a pair, and streams one after the other.
-- Assumes nothing.
use Rattle.std.specs.Prelude.{◌≡◌, List, [], ◌∷◌}
use Rattle.std.proofs.Math.Path.{refl, ap, ap₂}
use Rattle.std.proofs.Common.{sym, ◌∙◌, add-zero, zero-add, add-one, lit<}
use Prim.Native.Nat.{ℕ, zero, suc, ◌+◌, ◌-◌, ◌*◌, ◌<◌, ◌≤◌}
use native.Mathlib.Omega.{arith}
use Rattle.std.proofs.Math.ListN.{length}
use Rattle.bits.specs.Lists.{tabulate}
use Rattle.bits.specs.Parts.{part, part_of, byte_of_each, end_to_end}
use Rattle.bits.proofs.PartLaws.{part_long, each_block}
use Rattle.calls.specs.Answers.{Answer}
use Rattle.std.specs.Prelude.{Ok}
use Rattle.calls.specs.Calls.{after}
use Rattle.pair_spec.specs.History.{depth, shift, fresh}
use Rattle.pair_spec.proofs.HistoryLaws.{length_shift, history_after}
use Rattle.pair_spec.specs.Front.{held_pairs, history_of, history_bytes, BeforePair}
use Rattle.pair_spec.proofs.FrontLaws.{length_front, pairs_of, length_pairs, before_of, own_before}
use Rattle.pair_spec.specs.Encoding.{encoded}
use Rattle.pair_spec.specs.EncodingLaws.{length_encoded}
use Rattle.pair_spec.proofs.ReceivingLaws.{length_payload_out, length_marks}
use Rattle.pair_spec.specs.Receiving.{payload_out, marks}
use Rattle.pair_spec.specs.Calls.{EncodeBuffers, encode_buffers, Encoded, after_encode, encode_next, encode_call, ReceiveBuffers, receive_buffers, Received, after_receive}
use Rattle.pair_spec.specs.Calls.{receive_next, receive_call}
use Rattle.pair_spec.proofs.CallLaws.{encode_done_lem, receive_done_lem}
use Rattle.pair_spec.specs.Stream.{Gives, Coder, pair_encoder, pair_receiver, history_at, given_at, given_over, history_over, history_before}
use Rattle.pair_spec.specs.Stream.{encode_stream, receive_stream}

-- ---- one pair

-- Part k of m, of w bytes, as code lends it.
module _ (w m k a e : ℕ) (lk : k < m) (ea : a ≡ k * w) (ee : e ≡ a + w) (s : List ℕ) (ls : length s ≡ m * w) where
  lent_is : part a (e - a) s ≡ part_of w s k
  lent_is = let size : e - a ≡ w = omega arith in ap₂ (λ x y. part x y s) ea size

-- What the call that encodes a pair leaves.
module _ (m k a b : ℕ) (lk : k < m) (ea : a ≡ k * 444) (eb : b ≡ a + 444) (e number : ℕ) (le : e ≤ 1) (ln : number < 4294967295) (payload : List ℕ)
    (lp : length payload ≡ m * 444) (r : Answer) (c h coded history : List ℕ) (is : after_encode r c h ≡ encode_call (part a (b - a) payload) coded history e number)
    (lc : length coded ≡ 512) (own : BeforePair e number history) where
  encode_left : after_encode r c h ≡ after (Ok (number + 1)) (encode_next history e number (part_of 444 payload k))
  encode_left =
      is
      ∙ sym (encode_done_lem (part a (b - a) payload) coded history e number (part_long a b 444 payload eb (omega arith)) lc own.long (own_before own le (omega arith)) (omega arith) _ refl)
      ∙ ap (λ s. after (Ok (number + 1)) (encode_next history e number s)) (lent_is 444 m k a b lk ea eb payload lp)

  pub pair_encoded : encode_buffers c h ≡ encode_next history e number (part_of 444 payload k)
  pair_encoded = ap (λ (x : Encoded). x.written) encode_left

-- What the call that receives a pair leaves.
module _ (m k a b : ℕ) (lk : k < m) (ea : a ≡ k * 512) (eb : b ≡ a + 512) (e number : ℕ) (le : e ≤ 1) (ln : number < 4294967295) (coded : List ℕ)
    (lc : length coded ≡ m * 512) (r : Answer) (y w h payload marks' history : List ℕ)
    (is : after_receive r y w h ≡ receive_call (part a (b - a) coded) payload marks' history e number) (lp : length payload ≡ 444) (lm : length marks' ≡ 32)
    (own : BeforePair e number history) where
  receive_left : after_receive r y w h ≡ after (Ok (number + 1)) (receive_next depth history e number (part_of 512 coded k))
  receive_left =
      is
      ∙ sym (receive_done_lem (part a (b - a) coded) payload marks' history e number (part_long a b 512 coded eb (omega arith)) lp lm own.long (own_before own le (omega arith)) (omega arith) _ refl)
      ∙ ap (λ s. after (Ok (number + 1)) (receive_next depth history e number s)) (lent_is 512 m k a b lk ea eb coded lc)

  pub pair_received : receive_buffers y w h ≡ receive_next depth history e number (part_of 512 coded k)
  pair_received = ap (λ (x : Received). x.written) receive_left

pub ruleset pair_calls = (pair_encoded, pair_received)

-- ---- the pairs of a super-frame

-- The invariant of the loop: the history before pair k.
pub record Streaming (c : Coder) (h : List ℕ) (e p : ℕ) (s : List ℕ) (k : ℕ) (history : List ℕ) : Type 0 where
  pub long : length history ≡ history_bytes
  pub is : history ≡ history_of e (p + k) (history_at c (held_pairs h) p (part_of c.given s) k)

pub stream_none : (c : Coder) (h : List ℕ) (e p : ℕ) (s : List ℕ) → BeforePair e p h → Streaming c h e p s 0 h
unfolding history_at
stream_none c h e p s b = record { long = b.long; is = b.is ∙ ap (λ n. history_of e n (held_pairs h)) (sym (add-zero p)) }

module _ {c : Coder} {h : List ℕ} {e p : ℕ} {s : List ℕ} {k : ℕ} {g : List ℕ} (number : ℕ) (st : Streaming c h e p s k g) (en : number ≡ p + k) where
  stream_pairs : held_pairs g ≡ history_at c (held_pairs h) p (part_of c.given s) k
  stream_pairs = ap held_pairs st.is ∙ pairs_of e (p + k) _

  -- It is encoder e's before pair p + k.
  pub stream_own : BeforePair e number g
  stream_own = record { long = st.long; is = st.is ∙ ap₂ (history_of e) (sym en) (sym stream_pairs) }

  pub stream_more : (g' : List ℕ) → g' ≡ history_of e (number + 1) (shift (held_pairs g) (c.newest (held_pairs g) number (part_of c.given s k)))
      → Streaming c h e p s (k + 1) g'
  unfolding history_at
  stream_more g' is =
      let next : number + 1 ≡ p + (k + 1) = omega (arith, en) in
      record {
        long = ap length is
            ∙ length_front (e ∷ (number + 1) ∷ []) _
            ∙ ap (λ n. 8 + n) (length_shift depth (held_pairs g) _ (length_pairs g st.long) (c.newest_long (held_pairs g) number (part_of c.given s k)));
        is = is
            ∙ ap₂ (history_of e) next
            (ap₂ (λ x n. shift x (c.newest x n (part_of c.given s k))) stream_pairs en ∙ ap (history_at c (held_pairs h) p (part_of c.given s)) (sym (add-one k)));
      }

  -- What the call on pair k gives is block k of the whole.
  stream_block : (out : Gives) (w : ℕ) (y : List ℕ) → 0 < w → length y ≡ w → y ≡ out (held_pairs g) number (part_of c.given s k)
      → y ≡ tabulate w (λ i. byte_of_each w (given_at c (held_pairs h) p (part_of c.given s) out) (k * w + i))
  unfolding given_at
  stream_block out w y pos long is =
      each_block (given_at c (held_pairs h) p (part_of c.given s) out) w k y pos long (is ∙ ap₂ (λ x n. out x n (part_of c.given s k)) stream_pairs en)

module _ {h : List ℕ} {e p : ℕ} {s : List ℕ} {k : ℕ} {g : List ℕ} (number : ℕ) where
  pub coded_block : (y : List ℕ) → Streaming pair_encoder h e p s k g → number ≡ p + k → y ≡ encoded depth (held_pairs g) number (part_of 444 s k)
      → y ≡ tabulate 512 (λ i. byte_of_each 512 (given_at pair_encoder (held_pairs h) p (part_of 444 s) (encoded depth)) (k * 512 + i))
  coded_block y st en is =
      stream_block number st en (encoded depth) 512 y (lit< tt) (ap length is ∙ length_encoded depth (held_pairs g) number (part_of 444 s k)) is

  pub payload_block : (y : List ℕ) → Streaming pair_receiver h e p s k g → number ≡ p + k → y ≡ payload_out depth (held_pairs g) number (part_of 512 s k)
      → y ≡ tabulate 444 (λ i. byte_of_each 444 (given_at pair_receiver (held_pairs h) p (part_of 512 s) (payload_out depth)) (k * 444 + i))
  payload_block y st en is =
      stream_block number st en (payload_out depth) 444 y (lit< tt) (ap length is ∙ length_payload_out depth (held_pairs g) number (part_of 512 s k)) is

  pub marks_block : (y : List ℕ) → Streaming pair_receiver h e p s k g → number ≡ p + k → y ≡ marks depth (held_pairs g) number (part_of 512 s k)
      → y ≡ tabulate 32 (λ i. byte_of_each 32 (given_at pair_receiver (held_pairs h) p (part_of 512 s) (marks depth)) (k * 32 + i))
  marks_block y st en is =
      stream_block number st en (marks depth) 32 y (lit< tt) (ap length is ∙ length_marks depth (held_pairs g) number (part_of 512 s k)) is

pub stream_given : (c : Coder) (out : Gives) (w m : ℕ) (h : List ℕ) (p : ℕ) (s d : List ℕ)
    → d ≡ tabulate (m * w) (byte_of_each w (given_at c h p (part_of c.given s) out))
    → d ≡ given_over c out w m h p s
unfolding given_over end_to_end
stream_given c out w m h p s d e = e

pub stream_done : {c : Coder} {m : ℕ} {h : List ℕ} {e p : ℕ} {s : List ℕ} {k : ℕ} {g : List ℕ} → Streaming c h e p s k g → k ≤ m → m ≤ k
    → g ≡ history_of e (p + m) (history_over c m (held_pairs h) p s)
unfolding history_over
stream_done {c} {m} {h} {e} {p} {s} {k} st l r =
    let is : k ≡ m = omega arith in st.is ∙ ap (λ n. history_of e (p + n) (history_at c (held_pairs h) p (part_of c.given s) n)) is

pub ruleset streaming = (stream_none, stream_own, stream_more, coded_block, payload_block, marks_block, stream_given, stream_done)

-- ---- the history after a stream

length_at : (c : Coder) (h : List ℕ) (p : ℕ) (f : ℕ → List ℕ) (n : ℕ) → length h ≡ 512 * depth → length (history_at c h p f n) ≡ 512 * depth
unfolding history_at
length_at c h p f zero l = l
length_at c h p f (suc n) l = length_shift depth (history_at c h p f n) _ (length_at c h p f n l) (c.newest_long (history_at c h p f n) (p + n) (f n))

before_next : (c : Coder) (m : ℕ) {h : List ℕ} {e p : ℕ} (s : List ℕ) {g : List ℕ} → BeforePair e p h
    → g ≡ history_of e (p + m) (history_over c m (held_pairs h) p s) → BeforePair e (p + m) g
unfolding history_over
before_next c m {h} {e} {p} s {g} b = before_of e (p + m) _ g (length_at c (held_pairs h) p (part_of c.given s) m (length_pairs h b.long))

-- It is the encoder's before the next pair.
pub encoded_after : (m : ℕ) {h : List ℕ} {e p : ℕ} (s : List ℕ) {q g : List ℕ} → BeforePair e p h → encode_buffers q g ≡ encode_stream m h e p s
    → BeforePair e (p + m) g
encoded_after m s b made = before_next pair_encoder m s b (ap (λ (x : EncodeBuffers). x.history) made)

pub received_after : (m : ℕ) {h : List ℕ} {e p : ℕ} (s : List ℕ) {y w g : List ℕ} → BeforePair e p h → receive_buffers y w g ≡ receive_stream m h e p s
    → BeforePair e (p + m) g
received_after m s b made = before_next pair_receiver m s b (ap (λ (x : ReceiveBuffers). x.history) made)

-- ---- one stream after the other

module _ (c : Coder) where
  pub history_at_ext : (h : List ℕ) (p : ℕ) (f g : ℕ → List ℕ) (n : ℕ) → ((k : ℕ) → k < n → f k ≡ g k)
      → history_at c h p f n ≡ history_at c h p g n
  unfolding history_at
  history_at_ext h p f g zero e = refl
  history_at_ext h p f g (suc n) e =
      let i = history_at_ext h p f g n (λ k l. e k (omega arith)) in
      ap₂ (λ x y. shift x (c.newest x (p + n) y)) i (e n (omega arith))

  pub history_at_more : (h : List ℕ) (p : ℕ) (f : ℕ → List ℕ) (m n : ℕ)
      → history_at c h p f (m + n) ≡ history_at c (history_at c h p f m) (p + m) (λ k. f (m + k)) n
  unfolding history_at
  history_at_more h p f m zero = ap (history_at c h p f) (add-zero m)
  history_at_more h p f m (suc n) =
      let i = history_at_more h p f m n in
      let s : m + suc n ≡ suc (m + n) = omega arith in
      let q : p + (m + n) ≡ p + m + n = omega arith in
      ap (history_at c h p f) s ∙ ap₂ (λ x y. shift x (c.newest x y (f (m + n)))) i q

  from_fresh : (f : ℕ → List ℕ) (n : ℕ) → history_at c (fresh depth) 0 f n ≡ history_after depth c.newest f n
  unfolding history_at history_after
  from_fresh f zero = refl
  from_fresh f (suc n) = ap₂ (λ x y. shift x (c.newest x y (f n))) (from_fresh f n) (zero-add n)

  -- Super-frame after super-frame: f gives all pairs from fresh on, and S the same by super-frames of m pairs, n of them.
  module _ (m n : ℕ) (f S : ℕ → List ℕ) (same : (q k : ℕ) → q < n → k < m → part_of c.given (S q) k ≡ f (m * q + k)) where
    history_from : (q k : ℕ) → q < n → k ≤ m → history_before c m S q ≡ history_after depth c.newest f (m * q)
        → history_at c (history_before c m S q) (m * q) (part_of c.given (S q)) k ≡ history_after depth c.newest f (m * q + k)
    history_from q k lq lk is =
        history_at_ext (history_before c m S q) (m * q) (part_of c.given (S q)) (λ i. f (m * q + i)) k (λ i l. same q i lq (omega arith))
        ∙ ap (λ x. history_at c x (m * q) (λ i. f (m * q + i)) k) (is ∙ sym (from_fresh f (m * q)))
        ∙ ap (λ x. history_at c (history_at c (fresh depth) 0 f (m * q)) x (λ i. f (m * q + i)) k) number
        ∙ sym (history_at_more (fresh depth) 0 f (m * q) k)
        ∙ from_fresh f (m * q + k)
      where
        number : m * q ≡ 0 + m * q
        number = omega arith

    -- The history before each super-frame is that of the pairs before it,
    pub history_before_lem : (q : ℕ) → q ≤ n → history_before c m S q ≡ history_after depth c.newest f (m * q)
    unfolding history_before history_over history_after
    history_before_lem zero l = let z : 0 ≡ m * 0 = omega arith in ap (history_after depth c.newest f) z
    history_before_lem (suc q) l =
        let s : m * q + m ≡ m * suc q = omega (arith) in
        history_from q m (omega arith) (omega arith) (history_before_lem q (omega arith)) ∙ ap (history_after depth c.newest f) s

    -- and so is that before each pair: its call gives what it gives of it.
    pub history_in : (q k : ℕ) → q < n → k ≤ m
        → history_at c (history_before c m S q) (m * q) (part_of c.given (S q)) k ≡ history_after depth c.newest f (m * q + k)
    history_in q k lq lk = history_from q k lq lk (history_before_lem q (omega arith))

    pub given_in : (out : Gives) (q k : ℕ) → q < n → k < m
        → given_at c (history_before c m S q) (m * q) (part_of c.given (S q)) out k ≡ out (history_after depth c.newest f (m * q + k)) (m * q + k) (f (m * q + k))
    unfolding given_at
    given_in out q k lq lk = ap₂ (λ x y. out x (m * q + k) y) (history_in q k lq (omega arith)) (same q k lq lk)
