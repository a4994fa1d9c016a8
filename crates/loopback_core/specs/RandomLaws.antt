-- Laws of pseudo-random bytes: the invariant of the loop that draws them, and which are legal.
-- Assumes nothing.
use Rattle.std.specs.Prelude.{◌≡◌, ℕ, suc, ◌+◌, ◌*◌, ◌/◌, ◌%◌, ◌<◌, ◌≤◌, List, length, slice_set, refl}
use Rattle.std.proofs.Common.{sym, ap, ap₂, ◌∙◌, arith, add-one, lit<, Fits}
use Rattle.std.proofs.lemmas.Bool.{lt-leb}
use Rattle.std.specs.Int.{w64}
use Rattle.bits.specs.Filling.{Filling, fill_none, fill_more, fill_done}
use Rattle.bits.specs.Lists.{tabulate}
use Rattle.bits.specs.ListLaws.{length_tabulate, get_d_tabulate}
use Rattle.bits.specs.Parts.{byte_of_each, end_to_end}
use Rattle.bits.proofs.PartLaws.{each_block}
use Rattle.cells_spec.specs.Cells.{overhead_rule, Legal}
use Rattle.loopback_core.specs.Random.{state_at, drawn, pair_payload, payload_in, drawn_list}

-- The first i of n bytes are drawn.
pub record Drawing (stream d n i state : ℕ) (buffer : List ℕ) : Type 0 where
  pub filled : Filling (drawn stream d) n i buffer
  pub is : state ≡ state_at stream i
  pub small : state < 8589934592

pub draw_none : (stream d n : ℕ) (buffer : List ℕ) → length buffer ≡ n → stream < 4294967296
    → Drawing stream d n 0 (20251115 + stream) buffer
unfolding state_at
draw_none stream d n buffer l s = record { filled = fill_none (drawn stream d) n buffer l; is = refl; small = omega arith }

pub draw_more : {stream d n i state : ℕ} {buffer : List ℕ} (v : ℕ) → Drawing stream d n i state buffer → i < n
    → v ≡ (state * 1103515245 + 12345) % 2147483648 / 65536 % 256 / d
    → Drawing stream d n (i + 1) ((state * 1103515245 + 12345) % 2147483648) (slice_set buffer i v)
unfolding drawn state_at
draw_more {stream} {d} {n} {i} {state} v w l e =
    let next : (state * 1103515245 + 12345) % 2147483648 ≡ state_at stream (suc i) = ap (λ x. (x * 1103515245 + 12345) % 2147483648) w.is in
    record {
      filled = fill_more v w.filled l (e ∙ ap (λ x. x / 65536 % 256 / d) next);
      is = next ∙ ap (state_at stream) (sym (add-one i));
      small = omega arith;
    }

pub draw_done : {stream d n i state : ℕ} {buffer : List ℕ} → Drawing stream d n i state buffer → n ≤ i
    → buffer ≡ tabulate n (drawn stream d)
draw_done w l = fill_done w.filled l

pub draw_fits : {stream d n i state : ℕ} {buffer : List ℕ} → Drawing stream d n i state buffer → Fits w64 (state * 1103515245 + 12345)
draw_fits w = record { fits = omega (arith, w.small) }

pub draw_times : {stream d n i state : ℕ} {buffer : List ℕ} → Drawing stream d n i state buffer → Fits w64 (state * 1103515245)
draw_times w = record { fits = omega (arith, w.small) }

pub ruleset drawing = (draw_none, draw_more, draw_done, draw_fits, draw_times)

-- ---- a payload

pub payload_drawn : (encoder k stream n : ℕ) (d : List ℕ) → stream ≡ k * 2 + encoder → n ≡ 444 → d ≡ tabulate n (drawn stream 1)
    → d ≡ pair_payload encoder k
unfolding pair_payload
payload_drawn encoder k stream n d es l e = e ∙ ap₂ (λ m s. tabulate m (drawn s 1)) l es

pub pair_block : (encoder q k : ℕ) (ys lent : List ℕ) (stream : ℕ) → stream ≡ (q * 168 + k) * 2 + encoder → length lent ≡ 444
    → ys ≡ tabulate (length lent) (drawn stream 1)
    → ys ≡ tabulate 444 (λ i. byte_of_each 444 (λ j. pair_payload encoder (q * 168 + j)) (k * 444 + i))
pair_block encoder q k ys lent stream es l e =
    each_block (λ j. pair_payload encoder (q * 168 + j)) 444 k ys (lit< tt) (ap length e ∙ length_tabulate (length lent) (drawn stream 1) ∙ l)
    (payload_drawn encoder (q * 168 + k) stream (length lent) ys es l e)

pub payload_stream_is : (encoder q : ℕ) (d : List ℕ) → d ≡ tabulate 74592 (byte_of_each 444 (λ k. pair_payload encoder (q * 168 + k)))
    → d ≡ payload_in encoder q
unfolding payload_in end_to_end
payload_stream_is encoder q d e = e

-- ---- an overhead list

pub list_drawn : (lent list : List ℕ) → length lent ≡ 12288 → list ≡ tabulate (length lent) (drawn 4294967295 16) → list ≡ drawn_list
unfolding drawn_list
list_drawn lent list l e = e ∙ ap (λ n. tabulate n (drawn 4294967295 16)) l

-- Sixteenths are legal.
pub drawn_legal : (stream n : ℕ) (list : List ℕ) → list ≡ tabulate n (drawn stream 16) → Legal overhead_rule list
unfolding overhead_rule drawn
drawn_legal stream n list e =
    rw e
    (record {
      legal = λ k l. let h : k < n = omega (arith, length_tabulate n (drawn stream 16)) in
          ap (overhead_rule k) (get_d_tabulate n (drawn stream 16) k 0 h) ∙ lt-leb 16 (drawn stream 16 k) (omega arith);
    })
