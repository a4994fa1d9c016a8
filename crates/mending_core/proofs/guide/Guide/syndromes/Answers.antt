-- `Guide::syndromes` meets its contract.
use Rattle.std.proofs.Common.{◌≡◌, ℕ, ◌+◌, ◌-◌, ◌*◌, ◌/◌, ◌%◌, ◌^◌, get_or, refl, ap, ap₂, ◌∙◌, arith}
use Rattle.gathering_spec.proofs.Collecting.{syndromes_made}
use Rattle.mending_core.proofs.Bytes.{byte_of}
use Rattle.mending_core.proofs.guide.Guide.syndromes.Goals as goal

pub returns : goal.returns
returns c =
    let w = c.args.w in
    let v : ℕ = get_or c.args.self.now.numbers (w % 8) 0 in
    let e : 56 - 8 * (w / 8 + 4) ≡ 24 - 8 * (w / 8) = omega arith in
    ap₂ (λ (a b : ℕ). record { s1 = a; s3 = b; parity = c.args.self.now.odd / 2 ^ (31 - w) % 2 })
    (ap (λ l. get_or l (w / 8) 0) c.to_be_bytes-bytes.ensures ∙ byte_of v (w / 8) (omega arith))
    (ap (λ l. get_or l (w / 8 + 4) 0) c.to_be_bytes-bytes.ensures ∙ byte_of v (w / 8 + 4) (omega arith) ∙ ap (λ j. v / 2 ^ j % 256) e)
    ∙ syndromes_made _ _ w v refl
