use Rattle.bcs_json_tokens.proofs.Prelude.{◌≡◌, Ok, Err, ap, sym, refl, token_of, boolean, alone, BadShape, read_truth}
use Rattle.bcs_json_tokens.proofs.Starts.{start_refused, starts}
use Rattle.bcs_json_tokens.proofs.Values.{tree_truth}
use Rattle.bcs_json_tokens.proofs.leaves.bool_of_token.Goals as goal

pub returns-in-Bool-clause-read : goal.returns-in-Bool-clause-read
returns-in-Bool-clause-read c = record { json = boolean c.in-Bool.truth; is = ap (λ k. alone (token_of k)) c.in-Bool.is; told = ap Ok (sym (tree_truth c.in-Bool.truth)) }

pub returns-in_default-clause-refused : goal.returns-in_default-clause-refused
returns-in_default-clause-refused c =
    start_refused read_truth (token_of c.args.token) c.args.depth c.args.reader.now c.refused.new.reader BadShape c.refused.result
    (starts (λ d. read_truth d ≡ Err BadShape) c.args.token (λ e. refl) (λ b e. absurd (c.in_default.not-Bool b e)) (λ s e n. refl) (λ s e b. refl) (λ e ds. refl) (λ e ms. refl)) c.refused.ensures
