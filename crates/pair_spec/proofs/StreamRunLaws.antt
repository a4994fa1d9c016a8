-- Lists of calls from fresh are streams: what their accepted calls give is what the streams give, super-frame after super-frame of m pairs.
-- Assumes nothing.
use Rattle.std.specs.Prelude.{◌≡◌, List, []}
use Rattle.std.proofs.Math.Path.{sym, ap}
use Rattle.std.proofs.Common.{◌∙◌, lit<}
use Prim.Native.Nat.{ℕ, suc, ◌+◌, ◌*◌, ◌^◌, ◌<◌}
use native.Mathlib.Omega.{arith}
use Rattle.std.proofs.Math.ListN.{length, get_or}
use Rattle.bits.specs.Parts.{part_of, end_to_end}
use Rattle.bits.proofs.PartLaws.{end_to_end_ext, part_end_to_end}
use Rattle.calls.specs.Sequences.{At, Run, accepted}
use Rattle.calls.proofs.SequenceLaws.{At_find}
use Rattle.pair_spec.specs.History.{depth}
use Rattle.pair_spec.specs.Front.{history_of, fresh_history}
use Rattle.pair_spec.specs.Encoding.{encoded}
use Rattle.pair_spec.proofs.SentLaws.{encoder_history}
use Rattle.pair_spec.specs.Receiving.{payload_out, marks}
use Rattle.pair_spec.proofs.ReceivingLaws.{length_payload_out, length_marks, receiver_history}
use Rattle.pair_spec.specs.Calls.{Encoding, encode, Encodings, payloads, Received, Receiving, receive, Receivings}
use Rattle.pair_spec.proofs.PromiseLaws.{coded_made, received_made}
use Rattle.pair_spec.specs.Stream.{Gives, pair_encoder, pair_receiver, history_at, given_at, given_over, coded_of, payloads_of, marks_of}
use Rattle.pair_spec.specs.Stream.{history_before}
use Rattle.pair_spec.proofs.StreamLaws.{history_in, given_in}

-- ---- encoding: S gives the payload of each of n super-frames

module _ (cs : List Encoding) {e : ℕ} (small : e < 2 ^ 32) {t : List ℕ} (run : Run Encodings (fresh_history e) cs t) (m n : ℕ) (S : ℕ → List ℕ)
    (many : (q k : ℕ) → q < n → k < m → m * q + k < length (accepted Encodings cs))
    (given : (q k : ℕ) → q < n → k < m → get_or (payloads cs) (m * q + k) [] ≡ part_of 444 (S q) k)
    (coded : ℕ → List ℕ) (left : (P : ℕ) (c : Encoding) → At (accepted Encodings cs) P c → coded P ≡ (encode c).written.coded) where
  -- The coded pairs of super-frame q are those that the accepted calls left.
  pub stream_coded : (q : ℕ) → q < n → coded_of m (history_before pair_encoder m S q) (m * q) (S q) ≡ end_to_end m 512 (λ k. coded (m * q + k))
  unfolding given_over encoder_history
  stream_coded q lq =
      end_to_end_ext m 512 (given_at pair_encoder (history_before pair_encoder m S q) (m * q) (part_of 444 (S q)) (encoded depth)) (λ k. coded (m * q + k)) (lit< tt) each
    where
      each : (k : ℕ) → k < m
          → given_at pair_encoder (history_before pair_encoder m S q) (m * q) (part_of 444 (S q)) (encoded depth) k ≡ coded (m * q + k)
      each k lk =
          let f = At_find (accepted Encodings cs) (m * q + k) (many q k lq lk) in
          given_in pair_encoder m n (λ i. get_or (payloads cs) i []) S (λ r i lr li. sym (given r i lr li)) (encoded depth) q k lq lk
          ∙ sym (coded_made cs small run (m * q + k) f.0 f.1)
          ∙ sym (left (m * q + k) f.0 f.1)

-- ---- receiving: the accepted calls take the pairs in order, and S gives those of each of n super-frames

module _ (cs : List Receiving) (pair : ℕ → List ℕ) (in_order : (P : ℕ) (c : Receiving) → At (accepted Receivings cs) P c → c.coded ≡ pair P) {e : ℕ}
    (small : e < 2 ^ 32) {t : List ℕ} (run : Run Receivings (fresh_history e) cs t) (m n : ℕ) (S : ℕ → List ℕ) (same : (q k : ℕ) → q < n → k < m → part_of 512 (S q) k ≡ pair (m * q + k))
    (q k : ℕ) (lq : q < n) (lk : k < m) (c : Receiving) (a : At (accepted Receivings cs) (m * q + k) c) where
  -- The pairs before super-frame q.
  abbrev before : List ℕ
  before = history_before pair_receiver m S q

  -- What the call on pair k gives is block k of what the stream gives.
  block : (out : Gives) (w : ℕ) → 0 < w → ((h : List ℕ) (P : ℕ) (s : List ℕ) → length (out h P s) ≡ w)
      → out (receiver_history depth pair (m * q + k)) (m * q + k) (pair (m * q + k)) ≡ part_of w (given_over pair_receiver out w m before (m * q) (S q)) k
  unfolding given_over receiver_history
  block out w pos long =
      sym (part_end_to_end m w (given_at pair_receiver before (m * q) (part_of 512 (S q)) out) k pos lk (ap length is ∙ long _ _ _) ∙ is)
    where
      is : given_at pair_receiver before (m * q) (part_of 512 (S q)) out k ≡ out (receiver_history depth pair (m * q + k)) (m * q + k) (pair (m * q + k))
      is = given_in pair_receiver m n pair S same out q k lq lk

  pub stream_payload : (receive c).written.payload ≡ part_of 444 (payloads_of m before (m * q) (S q)) k
  stream_payload =
      ap (λ (x : Received). x.written.payload) (received_made cs pair in_order small run (m * q + k) c a) ∙ block (payload_out depth) 444 (lit< tt) (length_payload_out depth)

  pub stream_marks : (receive c).written.marks ≡ part_of 32 (marks_of m before (m * q) (S q)) k
  stream_marks =
      ap (λ (x : Received). x.written.marks) (received_made cs pair in_order small run (m * q + k) c a)
      ∙ block (marks depth) 32 (lit< tt) (length_marks depth)

  -- It leaves the history that the stream has after it: after the last pair, that before the next super-frame.
  pub stream_history : (receive c).written.history ≡ history_of e (m * q + suc k) (history_at pair_receiver before (m * q) (part_of 512 (S q)) (suc k))
  unfolding receiver_history
  stream_history =
      ap (λ (x : Received). x.written.history) (received_made cs pair in_order small run (m * q + k) c a)
      ∙ ap (λ P. history_of e P (receiver_history depth pair P)) next
      ∙ ap (history_of e (m * q + suc k)) (sym (history_in pair_receiver m n pair S same q (suc k) lq lk))
    where
      next : suc (m * q + k) ≡ m * q + suc k
      next = omega arith
