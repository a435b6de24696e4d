-- What the loop of `put_uleb` has written.
use Rattle.bcs_num.proofs.Prelude.{◌≡◌, ℕ, ◌+◌, ◌/◌, ◌%◌, ◌<◌, ◌≤◌, List, ◌++◌, length, take, set, sym, ap, ◌∙◌, append_assoc, arith, take_more_set, uleb}
use Rattle.bcs_num.proofs.UlebLaws.{uleb-low, uleb-more}

pub put_more : (out : List ℕ) (i left : ℕ) (all : List ℕ) → i < length out → 128 ≤ left → take i out ++ uleb left ≡ all → take (i + 1) (set out i (left % 128 + 128)) ++ uleb (left / 128) ≡ all
put_more out i left all in' high e =
    let k : left % 128 + 128 ≡ 128 + left % 128 = omega arith in
    rw (take_more_set out i (left % 128 + 128) in', append_assoc, k) (ap (λ (x : List ℕ). take i out ++ x) (sym (uleb-more left high)) ∙ e)

pub put_last : (out : List ℕ) (i left : ℕ) (all : List ℕ) → i < length out → left < 128 → take i out ++ uleb left ≡ all → take (i + 1) (set out i left) ≡ all
put_last out i left all in' low e = take_more_set out i left in' ∙ ap (λ (x : List ℕ). take i out ++ x) (sym (uleb-low left low)) ∙ e
