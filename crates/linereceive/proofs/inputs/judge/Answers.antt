-- A header that keeps the rules has at most 64 super-frames.
use Rattle.std.specs.Prelude.{◌≡◌, refl, List, ℕ, ◌≤◌, Result, Ok, Err}
use Rattle.std.proofs.Common.{◌∙◌, ap, arith}
use Rattle.calls.specs.Answers.{Answer}
use Rattle.calls.specs.Calls.{verdict}
use Rattle.calls.specs.declared.Refusal.{Refusal}
use Rattle.line_file_spec.specs.declared.Header.{Header}
use Rattle.line_file_spec.specs.Header.{header_number, header_tests, judged}
use Rattle.line_file_spec.proofs.HeaderLaws.{judged_done, judged_refused}
use Rattle.linereceive.proofs.inputs.judge.Goals as goal

superframes_of : Result Header Refusal → ℕ
superframes_of (Ok h) = h.superframes
superframes_of (Err r) = 0

at_most : (bytes : List ℕ) (size : ℕ) (h : Header) → Ok h ≡ judged bytes size → h.superframes ≤ 64
unfolding superframes_of
at_most bytes size h e = go (verdict (header_tests bytes size)) refl
  where
    go : (a : Answer) → verdict (header_tests bytes size) ≡ a → h.superframes ≤ 64
    go (Ok v) p =
        let s = judged_done bytes size v p in
        let is : h.superframes ≡ header_number bytes 0 = ap superframes_of (e ∙ s.is) in
        omega (arith, s.rules.most)
    go (Err r) p =
        let none : h.superframes ≡ 0 = ap superframes_of (e ∙ judged_refused bytes size r p) in omega arith

pub invariant_of-result : goal.invariant_of-result
invariant_of-result g c = record { few = at_most _ _ _ c.in-Ok.ensures }
