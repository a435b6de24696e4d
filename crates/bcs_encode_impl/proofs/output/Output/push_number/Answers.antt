use Rattle.bcs_encode_impl.proofs.Prelude.{ℕ, List, [], ◌∷◌, ◌++◌, Ok, ap, uleb, uleb-low}
use Rattle.bcs_encode_impl.proofs.AppendsLaws.{as_well, fits_as_well}
use Rattle.bcs_encode_impl.proofs.output.Output.push_number.Goals as goal

pub returns-then-number-lt128-clause-appended : goal.returns-then-number-lt128-clause-appended
returns-then-number-lt128-clause-appended c =
    as_well c.args.self.now c.push_byte.new.self (λ b. Ok (b ++ (c.args.number ∷ []))) (λ b. Ok (b ++ uleb c.args.number))
    (λ b. ap (λ (x : List ℕ). Ok (b ++ x)) (uleb-low c.args.number c.if-number-lt128.true)) c.push_byte.ensures.appended

pub returns-then-number-lt128-clause-fits : goal.returns-then-number-lt128-clause-fits
returns-then-number-lt128-clause-fits c =
    fits_as_well c.args.self.now c.push_byte.new.self (λ b. Ok (b ++ (c.args.number ∷ []))) (λ b. Ok (b ++ uleb c.args.number))
    (λ b. ap (λ (x : List ℕ). Ok (b ++ x)) (uleb-low c.args.number c.if-number-lt128.true)) c.push_byte.ensures.fits
