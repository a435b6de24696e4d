-- Steps that may fail, and what each of them leaves of a limit.
use Rattle.bcs_encode_impl.proofs.Prelude.{◌≡◌, ℕ, ◌+◌, ◌-◌, Bool, true, false, nat_le, if◌then◌else◌, Option, Some, None, refl, sym, ap, ◌∙◌, arith, le-leb, leb-true, cond_some, none-some, option_and_then, less, leaf}

-- one step after another
pub then_some : (f : ℕ → Option ℕ) (o : Option ℕ) (m : ℕ) → option_and_then f o ≡ Some m → (x : ℕ) × (o ≡ Some x) × (f x ≡ Some m)
then_some f (Some x) m h = (x, refl, h)
then_some f None m h = absurd (none-some m h)

pub then_is : (f : ℕ → Option ℕ) (o : Option ℕ) (x m : ℕ) → o ≡ Some x → f x ≡ Some m → option_and_then f o ≡ Some m
then_is f o x m h g = ap (option_and_then f) h ∙ g

pub then_none : (f : ℕ → Option ℕ) (o : Option ℕ) → ((x : ℕ) → f x ≡ None) → option_and_then f o ≡ None
then_none f (Some x) h = h x
then_none f None h = refl

-- a step after a condition
pub if_some : (b : Bool) (o : Option ℕ) (m : ℕ) → (if b then o else None) ≡ Some m → (b ≡ true) × (o ≡ Some m)
if_some true o m h = (refl, h)
if_some false o m h = absurd (none-some m h)

pub if_is : (b : Bool) (o : Option ℕ) (m : ℕ) → b ≡ true → o ≡ Some m → (if b then o else None) ≡ Some m
if_is b o m h g = ap (λ (c : Bool). if c then o else None) h ∙ g

pub if_none : (b : Bool) (o : Option ℕ) → o ≡ None → (if b then o else None) ≡ None
if_none true o h = h
if_none false o h = refl

-- what was subtracted, and what is left
pub less_some : (k n m : ℕ) → less k n ≡ Some m → k + m ≡ n
less_some k n m h = let p = cond_some (nat_le k n) (n - k) m h in omega (arith, leb-true k n p.0, p.1)

pub less_is : (k n m : ℕ) → k + m ≡ n → less k n ≡ Some m
less_is k n m h =
    let left : n - k ≡ m = omega (arith, h) in
    if_is (nat_le k n) (Some (n - k)) m (le-leb k n (omega (arith, h))) (ap (λ (x : ℕ). Some x) left)

pub leaf_some : (b : Bool) (n m : ℕ) → leaf b n ≡ Some m → (b ≡ true) × (1 + m ≡ n)
leaf_some b n m h = let p = if_some b (less 1 n) m h in (p.0, less_some 1 n m p.1)

pub leaf_is : (b : Bool) (n m : ℕ) → b ≡ true → 1 + m ≡ n → leaf b n ≡ Some m
leaf_is b n m h e = if_is b (less 1 n) m h (less_is 1 n m e)

-- two options are equal if each has the value of the other
pub alike : (o p : Option ℕ) → ((m : ℕ) → o ≡ Some m → p ≡ Some m) → ((m : ℕ) → p ≡ Some m → o ≡ Some m) → o ≡ p
alike None None there back = refl
alike None (Some y) there back = back y refl
alike (Some x) p there back = sym (there x refl)
