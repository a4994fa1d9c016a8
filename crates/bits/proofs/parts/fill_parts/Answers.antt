-- `bits::parts::fill_parts` meets its contract: part after part.
use Rattle.std.proofs.Common.{◌≡◌, ℕ, ◌*◌, ◌%◌, ◌<◌, ◌≤◌, ◌/◌, ◌+◌, suc, length, arith, mul-le-mul_right, suc-mul, refl, rules}
use Rattle.bits.specs.Filling.{blocks_next, blocks_done}
use Rattle.bits.proofs.parts.fill_parts.Goals as goal

-- Part k ends within the buffer.
within : (n w k : ℕ) → 0 < w → k < n / w → k * w + w ≤ n
within n w k p l = omega (arith, suc-mul k w, mul-le-mul_right {m = suc k} {n = n / w} w l)

-- The buffer consists of parts.
whole : (n w : ℕ) → 0 < w → n % w ≡ 0 → n / w * w ≡ n
whole n w p e = omega arith

pub offset_bounds-out-start : goal.offset_bounds-out-start
offset_bounds-out-start g c =
    let s = prog.Memory.size (denote.Param.layout g.row.T) in
    let e : c.loop-k.k * c.args.width + c.args.width ≤ length c.args.out.now = within (length c.args.out.now) c.args.width c.loop-k.k c.requires.width c.loop-k-test.true in
    let b : c.loop-k.k * c.args.width ≤ length c.args.out.now = omega arith in
    let m : c.loop-k.k * c.args.width * prog.Memory.size (denote.Param.layout g.row.T) ≤ length c.args.out.now * prog.Memory.size (denote.Param.layout g.row.T) = mul-le-mul_right (prog.Memory.size (denote.Param.layout g.row.T)) b in
    omega arith

pub loop-k-preserved : goal.loop-k-preserved
loop-k-preserved g c h e =
    let ends : c.loop-k.k * c.args.width + c.args.width ≤ length c.args.out.now = within (length c.args.out.now) c.args.width c.loop-k.k c.requires.width c.loop-k-test.true in
    let here : c.loop-k.k * c.args.width < length c.args.out.now = omega arith in
    blocks_next {m = length c.args.out.now / c.args.width} {d = c.loop-k.out} (c.loop-k.k * c.args.width) (c.loop-k.k * c.args.width + c.args.width) c.fill.new.arg3 (c.loop-k.invariant h e) c.loop-k-test.true refl refl
    (e c.loop-k.k _ _ here (search rules) c.fill.ensures)

pub returns : goal.returns
returns g c h e =
    let all : length c.args.out.now / c.args.width * c.args.width ≡ length c.args.out.now = whole (length c.args.out.now) c.args.width c.requires.width c.requires.whole in
    blocks_done (length c.args.out.now) (c.loop-k.invariant h e) (omega arith) all
