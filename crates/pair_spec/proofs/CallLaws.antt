-- Laws of the two calls: what an accepted call is, and that a refused one leaves everything as it was lent.
-- Assumes nothing.
use Rattle.std.specs.Prelude.{◌≡◌, refl, List, [], ◌∷◌, ◌≢◌, ℕ, ◌+◌, ◌-◌, length}
use Rattle.std.proofs.Common.{sym, ap, ◌∙◌, arith}
use borrow.Rule.Slice.PartMut.{put_mid}
use Rattle.bits.specs.Numbers32.{bytes32}
use Rattle.bits.specs.Parts.{part}
use Rattle.bits.proofs.PartLaws.{part_behind}
use Rattle.std.specs.Prelude.{Ok}
use Rattle.calls.specs.Answers.{refusal_of, Accepted, TurnedBack}
use Rattle.calls.specs.Calls.{after}
use Rattle.calls.proofs.CallLaws.{Own, cases, told, call_accepted, call_keeps}
use Rattle.calls.specs.Sequences.{not_lent, Keeping, Separate}
use Rattle.calls.proofs.SequenceLaws.{part_kept}
use Rattle.pair_spec.specs.History.{depth, shift}
use Rattle.pair_spec.specs.Encoding.{encoded}
use Rattle.pair_spec.specs.Receiving.{marks}
use Rattle.pair_spec.specs.Front.{behind, encoder_of, next_pair, history_of, history_bytes}
use Rattle.pair_spec.proofs.FrontLaws.{front_put}
use Rattle.pair_spec.specs.Calls.{EncodeBuffers, encode_buffers, Encoded, encode_pair, encode_next, encode_call, ReceiveBuffers, receive_buffers}
use Rattle.pair_spec.specs.Calls.{Received, receive_pair, receive_next, receive_call, Encoding, Receiving, encode, receive, Encodings, Receivings}

-- ---- encoding

-- Where no test refuses, the call is done.
pub encode_done_lem : (payload coded history : List ℕ) (e P : ℕ) → length payload ≡ 444 → length coded ≡ 512 → length history ≡ history_bytes
    → Own (encoder_of history) (next_pair history) e P → P ≢ 4294967295
    → (w : EncodeBuffers) → w ≡ encode_next history e P payload → after (Ok (P + 1)) w ≡ encode_call payload coded history e P
encode_done_lem payload coded history e P a b c o d w is = rw is (search cases depth 9)

-- As a worker writes the two.
pub encode_written : (history payload q h : List ℕ) (P : ℕ) → q ≡ encoded depth history P payload → h ≡ shift history q
    → encode_buffers q h ≡ encode_pair history P payload
encode_written history payload q h P eq eh = rw (eh, eq)

-- As the call leaves them: a worker is lent what stands behind the front, and the front is written then.
pub encode_put : (history payload q pairs front : List ℕ) (e P : ℕ) → length history ≡ history_bytes
    → encode_buffers q pairs ≡ encode_pair (part 8 (length history - 8) history) P payload → front ≡ bytes32 (e ∷ (P + 1) ∷ [])
    → encode_buffers q (put_mid 0 8 (put_mid 8 (length history - 8) history pairs) front) ≡ encode_next history e P payload
unfolding behind
encode_put history payload q pairs front e P l made ef =
    ap (encode_buffers q) (front_put history (e ∷ (P + 1) ∷ []) front pairs 8 refl (omega (arith, l)) ef)
    ∙ ap (λ (b : EncodeBuffers). encode_buffers b.coded (history_of e (P + 1) b.history)) made
    ∙ ap encode_next_of (part_behind 8 history)
  where
    encode_next_of : List ℕ → EncodeBuffers
    encode_next_of x = encode_buffers (encode_pair x P payload).coded (history_of e (P + 1) (encode_pair x P payload).history)

-- Every lent buffer of its length, a history that shows the call's encoder and pair number, and a pair number that is not spent.
pub record EncodeFits (c : Encoding) : Type 0 where
  pub payload : length c.payload ≡ 444
  pub coded : length c.coded ≡ 512
  pub history : length c.history ≡ history_bytes
  pub own : Own (encoder_of c.history) (next_pair c.history) c.encoder c.pair
  pub pair : c.pair ≢ 4294967295

-- What a call leaves where it is done.
abbrev pub encode_done : Encoding → Encoded
encode_done c = after (Ok (c.pair + 1)) (encode_next c.history c.encoder c.pair c.payload)

-- An accepted call fits, and leaves what encoding gives.
pub encode_accepted : (c : Encoding) → Accepted (encode c).answer → EncodeFits c × (encode c ≡ encode_done c)
unfolding encode
encode_accepted c ok =
    let r = call_accepted _ _ (encode_done c) ok in
    let p = r.0 in
    (search (told, p), r.1)

-- A call that fits is accepted.
pub encode_accepts : (c : Encoding) → EncodeFits c → Accepted (encode c).answer
unfolding encode
encode_accepts c f =
    ap (λ (a : Encoded). refusal_of a.answer)
    (sym (encode_done_lem c.payload c.coded c.history c.encoder c.pair f.payload f.coded f.history f.own f.pair _ refl))

-- A refused call leaves every lent buffer as it was, and the pair number.
pub encode_refused : (c : Encoding) → TurnedBack (encode c).answer → (encode c).written ≡ encode_buffers c.coded c.history
unfolding encode
encode_refused c = call_keeps _ _ (encode_done c) refl

-- So the state is as it was, whatever of it was lent.
pub encode_keeps : Keeping Encodings
encode_keeps c bad s t = part_kept (ap (λ (b : EncodeBuffers). c.payload ∷ b.coded ∷ b.history ∷ []) (encode_refused c bad))

pub encode_separate : Separate Encodings
encode_separate c s = not_lent

-- ---- receiving

pub receive_done_lem : (coded payload marks' history : List ℕ) (e P : ℕ) → length coded ≡ 512 → length payload ≡ 444 → length marks' ≡ 32
    → length history ≡ history_bytes
    → Own (encoder_of history) (next_pair history) e P → P ≢ 4294967295
    → (w : ReceiveBuffers) → w ≡ receive_next depth history e P coded → after (Ok (P + 1)) w ≡ receive_call coded payload marks' history e P
receive_done_lem coded payload marks' history e P a b c d o f w is = rw is (search cases depth 10)

pub receive_written : {payload payload' marks marks' history history' : List ℕ} → payload ≡ payload' → marks ≡ marks' → history ≡ history'
    → receive_buffers payload marks history ≡ receive_buffers payload' marks' history'
receive_written e f g = rw (e, f, g)

pub receive_put : (history coded y w pairs front : List ℕ) (e P : ℕ) → length history ≡ history_bytes
    → receive_buffers y w pairs ≡ receive_pair depth (part 8 (length history - 8) history) P coded → front ≡ bytes32 (e ∷ (P + 1) ∷ [])
    → receive_buffers y w (put_mid 0 8 (put_mid 8 (length history - 8) history pairs) front) ≡ receive_next depth history e P coded
unfolding behind
receive_put history coded y w pairs front e P l made ef =
    ap (receive_buffers y w) (front_put history (e ∷ (P + 1) ∷ []) front pairs 8 refl (omega (arith, l)) ef)
    ∙ ap (λ (b : ReceiveBuffers). receive_buffers b.payload b.marks (history_of e (P + 1) b.history)) made
    ∙ ap receive_next_of (part_behind 8 history)
  where
    receive_next_of : List ℕ → ReceiveBuffers
    receive_next_of x =
        receive_buffers (receive_pair depth x P coded).payload (receive_pair depth x P coded).marks (history_of e (P + 1) (receive_pair depth x P coded).history)

pub record ReceiveFits (c : Receiving) : Type 0 where
  pub coded : length c.coded ≡ 512
  pub payload : length c.payload ≡ 444
  pub marks : length c.marks ≡ 32
  pub history : length c.history ≡ history_bytes
  pub own : Own (encoder_of c.history) (next_pair c.history) c.encoder c.pair
  pub pair : c.pair ≢ 4294967295

-- What a call leaves where it is done, with a history of n pairs.
abbrev pub receive_done : ℕ → Receiving → Received
receive_done n c = after (Ok (c.pair + 1)) (receive_next n c.history c.encoder c.pair c.coded)

pub receive_accepted : (c : Receiving) → Accepted (receive c).answer → ReceiveFits c × (receive c ≡ receive_done depth c)
unfolding receive
receive_accepted c ok =
    let r = call_accepted _ _ (receive_done depth c) ok in
    let p = r.0 in
    (search (told, p), r.1)

pub receive_accepts : (c : Receiving) → ReceiveFits c → Accepted (receive c).answer
unfolding receive
receive_accepts c f =
    ap (λ (a : Received). refusal_of a.answer)
    (sym (receive_done_lem c.coded c.payload c.marks c.history c.encoder c.pair f.coded f.payload f.marks f.history f.own f.pair _ refl))

pub receive_refused : (c : Receiving) → TurnedBack (receive c).answer
    → (receive c).written ≡ receive_buffers c.payload c.marks c.history
unfolding receive
receive_refused c = call_keeps _ _ (receive_done depth c) refl

pub receive_keeps : Keeping Receivings
receive_keeps c bad s t = part_kept (ap (λ (b : ReceiveBuffers). c.coded ∷ b.payload ∷ b.marks ∷ b.history ∷ []) (receive_refused c bad))

pub receive_separate : Separate Receivings
receive_separate c s = not_lent
