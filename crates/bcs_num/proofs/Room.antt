-- What remains of a 32-bit number after some of its groups of seven bits.
use Rattle.bcs_num.proofs.Prelude.{◌≡◌, ℕ, zero, suc, ◌+◌, ◌-◌, ◌*◌, ◌/◌, ◌<◌, ◌≤◌, false, ◌&&◌, ◌==◌, nat_lt, refl, arith, nat_tests}

-- an upper bound for the remaining number after i groups
abbrev pub room : ℕ → ℕ
room zero = 4294967296
room (suc zero) = 33554432
room (suc (suc zero)) = 262144
room (suc (suc (suc zero))) = 2048
room (suc (suc (suc (suc zero)))) = 16
room (suc (suc (suc (suc (suc k))))) = 0

pub room_few : (i left : ℕ) → left < room i → i < 5
room_few zero left fits = omega arith
room_few (suc zero) left fits = omega arith
room_few (suc (suc zero)) left fits = omega arith
room_few (suc (suc (suc zero))) left fits = omega arith
room_few (suc (suc (suc (suc zero)))) left fits = omega arith
room_few (suc (suc (suc (suc (suc k))))) left fits = absurd (omega arith)

-- removing one group
pub room_next : (i left : ℕ) → 128 ≤ left → left < room i → (i < 4) × (left / 128 < room (suc i))
room_next zero left high fits = (omega arith, omega arith)
room_next (suc zero) left high fits = (omega arith, omega arith)
room_next (suc (suc zero)) left high fits = (omega arith, omega arith)
room_next (suc (suc (suc zero))) left high fits = (omega arith, omega arith)
room_next (suc (suc (suc (suc zero)))) left high fits = absurd (omega arith)
room_next (suc (suc (suc (suc (suc k))))) left high fits = absurd (omega arith)

-- prepending one group
pub room_step : (i b left : ℕ) → i < 4 → b < 256 → left < room (suc i) → (b - 128) + left * 128 < room i
room_step zero b left before low fits = omega arith
room_step (suc zero) b left before low fits = omega arith
room_step (suc (suc zero)) b left before low fits = omega arith
room_step (suc (suc (suc zero))) b left before low fits = omega arith
room_step (suc (suc (suc (suc k)))) b left before low fits = absurd (omega arith)

-- the last group fits, unless it is the fifth and above 15
pub room_last : (i b : ℕ) → i ≤ 4 → b < 128 → ((i == 4) && nat_lt 15 b) ≡ false → b < room i
room_last zero b few low small = omega arith
room_last (suc zero) b few low small = omega arith
room_last (suc (suc zero)) b few low small = omega arith
room_last (suc (suc (suc zero))) b few low small = omega arith
room_last (suc (suc (suc (suc zero)))) b few low small = grind (arith, nat_tests)
room_last (suc (suc (suc (suc (suc k))))) b few low small = absurd (omega arith)

pub room_small : (i b : ℕ) → i ≤ 4 → b < room i → ((i == 4) && nat_lt 15 b) ≡ false
room_small zero b few fits = refl
room_small (suc zero) b few fits = refl
room_small (suc (suc zero)) b few fits = refl
room_small (suc (suc (suc zero))) b few fits = refl
room_small (suc (suc (suc (suc zero)))) b few fits = grind (arith, nat_tests)
room_small (suc (suc (suc (suc (suc k))))) b few fits = absurd (omega arith)
