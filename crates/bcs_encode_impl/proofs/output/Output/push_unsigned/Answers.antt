use Rattle.bcs_encode_impl.proofs.Prelude.{◌≡◌, [], ◌∷◌, ◌++◌, Ok, true, rules, holds_unsigned, width_of, unsigned_written}
use Rattle.bcs_encode_impl.proofs.AppendsLaws.{as_well, fits_as_well}
use Rattle.bcs_encode_impl.proofs.OutputSteps.{byte_written}
use Rattle.bcs_encode_impl.proofs.output.Output.push_unsigned.Goals as goal

pub returns-in-W1-clause-appended : goal.returns-in-W1-clause-appended
returns-in-W1-clause-appended c =
    let holds : holds_unsigned (width_of c.args.width) c.args.number ≡ true = search rules in
    as_well c.args.self.now c.push_byte.new.self (λ b. Ok (b ++ (c.args.number ∷ []))) (unsigned_written (width_of c.args.width) c.args.number)
    (λ b. byte_written c.args.width c.args.number b c.in-W1.is holds) c.push_byte.ensures.appended

pub returns-in-W1-clause-fits : goal.returns-in-W1-clause-fits
returns-in-W1-clause-fits c =
    let holds : holds_unsigned (width_of c.args.width) c.args.number ≡ true = search rules in
    fits_as_well c.args.self.now c.push_byte.new.self (λ b. Ok (b ++ (c.args.number ∷ []))) (unsigned_written (width_of c.args.width) c.args.number)
    (λ b. byte_written c.args.width c.args.number b c.in-W1.is holds) c.push_byte.ensures.fits
