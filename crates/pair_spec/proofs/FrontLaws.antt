-- Laws of the front: what was put in front is shown, and what stands behind it stays.
-- Assumes nothing.
use Rattle.std.specs.Prelude.{◌≡◌, refl, List, [], ◌∷◌, ◌++◌, ℕ, ◌+◌, ◌-◌, ◌*◌, ◌^◌, ◌<◌, ◌≤◌, get_or, take, drop, replicate}
use Rattle.std.proofs.Common.{sym, ap₂, subst, ◌∙◌, append-nil, arith, length-drop, drop_of_length-le, length-take-le}
use Rattle.std.proofs.Math.Path.{ap}
use borrow.Rule.Slice.PartMut.{put_mid}
use Rattle.std.proofs.Math.ListN.{length, length-append}
use Rattle.std.proofs.lemmas.List.{length-replicate, replicate-append-replicate}
use Rattle.std.proofs.Math.Seq.{drop_at}
use Rattle.bits.specs.Lists.{tabulate}
use Rattle.bits.specs.Numbers32.{number32, byte32, bytes32}
use Rattle.bits.proofs.Numbers32Laws.{bytes32_length, number_in_front}
use Rattle.calls.proofs.CallLaws.{Own}
use Rattle.pair_spec.specs.History.{depth, fresh}
use Rattle.pair_spec.proofs.HistoryLaws.{length_fresh}
use Rattle.pair_spec.specs.Front.{with_front, behind, encoder_of, next_pair, held_pairs, history_of, history_bytes, fresh_history}
use Rattle.pair_spec.specs.Front.{BeforePair, BothBefore}

-- ---- any front

module _ (numbers bytes : List ℕ) where
  pub length_front : length (with_front numbers bytes) ≡ 4 * length numbers + length bytes
  unfolding with_front
  length_front = length-append (bytes32 numbers) bytes ∙ ap (λ n. n + length bytes) (bytes32_length numbers)

  pub behind_front : behind (length numbers) (with_front numbers bytes) ≡ bytes
  unfolding with_front behind
  behind_front = drop_at (bytes32 numbers) bytes (4 * length numbers) (bytes32_length numbers)

  pub front_number : (k : ℕ) → k < length numbers → get_or numbers k 0 < 2 ^ 32 → number32 (with_front numbers bytes) k ≡ get_or numbers k 0
  unfolding with_front
  front_number k l small = number_in_front numbers k l bytes small

-- ---- a history

-- In bytes: encoder 1 before pair 16,909,060, which is 01020304 in hex.
pub front_bytes : (pairs : List ℕ) → history_of 1 16909060 pairs ≡ 0 ∷ 0 ∷ 0 ∷ 1 ∷ 1 ∷ 2 ∷ 3 ∷ 4 ∷ pairs
unfolding with_front bytes32 byte32 tabulate
front_bytes pairs = refl

module _ (e P : ℕ) (pairs : List ℕ) where
  pub pairs_of : held_pairs (history_of e P pairs) ≡ pairs
  pairs_of = behind_front (e ∷ P ∷ []) pairs

  pub shows_encoder : e < 2 ^ 32 → encoder_of (history_of e P pairs) ≡ e
  unfolding encoder_of
  shows_encoder small = front_number (e ∷ P ∷ []) pairs 0 (omega arith) small

  pub shows_pair : P < 2 ^ 32 → next_pair (history_of e P pairs) ≡ P
  unfolding next_pair
  shows_pair small = front_number (e ∷ P ∷ []) pairs 1 (omega arith) small

-- What a history shows that a call of encoder e on pair P can be lent.
pub record Shows (e P : ℕ) (history : List ℕ) : Type 0 where
  pub long : length history ≡ history_bytes
  pub encoder : encoder_of history ≡ e
  pub pair : next_pair history ≡ P
  pub number : e < 2 ^ 32
  pub within : P < 2 ^ 32

pub shows : (e P : ℕ) (pairs : List ℕ) → length pairs ≡ 512 * depth → e < 2 ^ 32 → P < 2 ^ 32 → Shows e P (history_of e P pairs)
shows e P pairs l le lP =
    record {
      long = length_front (e ∷ P ∷ []) pairs ∙ omega (arith, l);
      encoder = shows_encoder e P pairs le;
      pair = shows_pair e P pairs lP;
      number = le;
      within = lP;
    }

pub shows_fresh : (e : ℕ) → e < 2 ^ 32 → Shows e 0 (fresh_history e)
shows_fresh e l = shows e 0 (fresh depth) (length_fresh depth) l (omega arith)

pub length_pairs : (history : List ℕ) → length history ≡ history_bytes → length (held_pairs history) ≡ 512 * depth
unfolding behind
length_pairs history l = length-drop 8 history ∙ omega (arith, l)

-- ---- whose a history is

pub before_is : (e P : ℕ) (pairs history : List ℕ) → length history ≡ history_bytes → history ≡ history_of e P pairs → BeforePair e P history
before_is e P pairs history l is = record { long = l; is = is ∙ ap (history_of e P) (sym (ap held_pairs is ∙ pairs_of e P pairs)) }

pub before_of : (e P : ℕ) (pairs history : List ℕ) → length pairs ≡ 512 * depth → history ≡ history_of e P pairs → BeforePair e P history
before_of e P pairs history l is = before_is e P pairs history (ap length is ∙ length_front (e ∷ P ∷ []) pairs ∙ omega (arith, l)) is

pub before_kept : {e P : ℕ} {history kept : List ℕ} → kept ≡ history → BeforePair e P history → BeforePair e P kept
before_kept {e} {P} is b = subst (BeforePair e P) (sym is) b

pub before_fresh : (e : ℕ) (history : List ℕ) → history ≡ fresh_history e → BeforePair e 0 history
before_fresh e history = before_of e 0 (fresh depth) history (length_fresh depth)

-- Zeros with a front in them; those of encoder e and pair 0 are a fresh history.
zeros_front : (e P : ℕ) (front : List ℕ) → front ≡ bytes32 (e ∷ P ∷ []) → put_mid 0 8 (replicate 5128 0) front ≡ history_of e P (fresh depth)
unfolding with_front fresh
zeros_front e P front is =
    ap₂ ◌++◌ is (ap (drop 8) (sym (replicate-append-replicate 8 5120 0)) ∙ drop_at (replicate 8 0) (replicate 5120 0) 8 (length-replicate {A = ℕ} 8 0))

pub fresh_put : (e : ℕ) (front : List ℕ) → front ≡ bytes32 (e ∷ 0 ∷ []) → put_mid 0 8 (replicate 5128 0) front ≡ fresh_history e
fresh_put e = zeros_front e 0

pub zeros_put : (e P : ℕ) (front : List ℕ) → front ≡ bytes32 (e ∷ P ∷ []) → BeforePair e P (put_mid 0 8 (replicate 5128 0) front)
zeros_put e P front is = before_of e P (fresh depth) _ (length_fresh depth) (zeros_front e P front is)

pub before_at : {e : ℕ} (P n m : ℕ) {h : List ℕ} → BeforePair e (P + n) h → n ≡ m → BeforePair e (P + m) h
before_at {e} P n m {h} b is = subst (λ k. BeforePair e (P + k) h) is b

-- Those of both encoders: fresh, and after a super-frame.
pub both_fresh : (P : ℕ) {h₀ h₁ : List ℕ} → P ≡ 0 → h₀ ≡ fresh_history 0 → h₁ ≡ fresh_history 1 → BothBefore P h₀ h₁
both_fresh P {h₀} {h₁} z e₀ e₁ = rw z (record { first = before_fresh 0 h₀ e₀; second = before_fresh 1 h₁ e₁ })

pub both_at : (P P' : ℕ) {h₀ h₁ : List ℕ} → BothBefore P h₀ h₁ → P ≡ P' → BothBefore P' h₀ h₁
both_at P P' {h₀} {h₁} b is = subst (λ k. BothBefore k h₀ h₁) is b

-- The same of two histories whose encoders are known by their numbers, and which are before the same pair.
pub both_numbered : {e₀ e₁ P₀ P₁ : ℕ} (P : ℕ) {h₀ h₁ : List ℕ} → BeforePair e₀ P₀ h₀ → BeforePair e₁ P₁ h₁ → e₀ ≡ 0 → e₁ ≡ 1 → P₀ ≡ P → P₁ ≡ P
    → BothBefore P h₀ h₁
both_numbered {e₀} {e₁} P {h₀} {h₁} b₀ b₁ n₀ n₁ p₀ p₁ =
    record {
      first = subst (λ e. BeforePair e P h₀) n₀ (subst (λ k. BeforePair e₀ k h₀) p₀ b₀);
      second = subst (λ e. BeforePair e P h₁) n₁ (subst (λ k. BeforePair e₁ k h₁) p₁ b₁);
    }

-- The same where they are known if r is 0, as where a program is not refused.
module _ {r : ℕ} where
  pub before_same : {e : ℕ} (P n m : ℕ) {h : List ℕ} → (r ≡ 0 → BeforePair e (P + n) h) → n ≡ m → r ≡ 0 → BeforePair e (P + m) h
  before_same P n m b is z = before_at P n m (b z) is

  pub both_before : {P q : ℕ} {h₀ h₁ : List ℕ} → (q ≡ 0 → BeforePair 0 P h₀) → q ≡ 0 → (r ≡ 0 → BeforePair 1 P h₁) → r ≡ 0 → BothBefore P h₀ h₁
  both_before a y b z = record { first = a y; second = b z }

-- Such a history is not stray to a call of that encoder on that pair.
pub own_before : {e P : ℕ} {history : List ℕ} → BeforePair e P history → e ≤ 1 → P < 2 ^ 32 → Own (encoder_of history) (next_pair history) e P
own_before {e} {P} {history} b le lP =
    record {
      encoder = ap encoder_of b.is ∙ shows_encoder e P (held_pairs history) (omega arith);
      pair = ap next_pair b.is ∙ shows_pair e P (held_pairs history) lP;
      known = le;
    }

-- As a call writes it: what stands behind m bytes first, and then the front.
pub front_put : (history numbers front made : List ℕ) (m : ℕ) → m ≡ 4 * length numbers → m ≤ length history → front ≡ bytes32 numbers
    → put_mid 0 m (put_mid m (length history - m) history made) front ≡ with_front numbers made
unfolding with_front
front_put history numbers front made m em l ef =
    ap₂ ◌++◌ ef
    (drop_at (take m history) (made ++ drop (length history - m) (drop m history)) m (length-take-le m history l) ∙ ap (λ t. made ++ t) none ∙ append-nil made)
  where
    none : drop (length history - m) (drop m history) ≡ []
    none = drop_of_length-le (drop m history) {i = length history - m} (omega (arith, length-drop m history))
