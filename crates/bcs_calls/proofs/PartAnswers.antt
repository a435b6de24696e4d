-- The answers to a path, from what `part` returns.
use Rattle.bcs_calls.proofs.Prelude.{◌≡◌, ◌≢◌, ℕ, List, Option, Some, None, length, drop, take, ap, subst, ◌∙◌, Entries, of, Shape, Bounds, Tree, bytes_of, Accepts, Stops, Reason, accepts_once_is, no_two_verdicts_are, stops_once_is, Part, part_at, GivesPart, one_path, placed, plain, stop_at, IsUnlessMemory, AnswersPart, AnswersSteps, Finds, IsPath, RefusesPath, Steps, found, no_path, no_text, out_of_memory, stepped, stopped, Answer, Memory, No}
use Rattle.bcs_decode_parts.specs.declared.part.Part as declared
use Rattle.bcs_calls.specs.Parts.{no_memory, refused}

module _ (registry : Entries) (b : List ℕ) (a : Answer) where
  -- a part that is returned is reported
  pub finds : (p : Option Part) (r : declared.Part) → GivesPart registry b p (Some r) → a ≡ placed r.place (length r.bytes.now) → Finds registry b p a
  finds (Some x) r h is =
      let own = bytes_of registry x.value x.content in
      let bytes : r.bytes.now ≡ own = h.1 in (
        is ∙ ap (λ (n : ℕ). placed n (length r.bytes.now)) h.0 ∙ ap (λ (l : List ℕ). placed x.place (length l)) bytes,
        subst (λ (l : List ℕ). l ≡ take (length l) (drop x.place b)) bytes h.2,
      )
  finds None r h is = absurd h

  -- and so is the absence of a part
  pub finds_none : (p : Option Part) → GivesPart registry b p None → a ≡ plain No → Finds registry b p a
  finds_none (Some x) h is = absurd h
  finds_none None h is = is

-- a valid path is refused only if memory runs out
pub path_stands : (path : List ℕ) (steps : Steps) (a : Answer) → IsPath path steps → RefusesPath path a → a ≡ plain Memory
path_stands path steps a h (no_text never is) = absurd (never h.0)
path_stands path steps a h (no_path never is) = absurd (never steps h.1)
path_stands path steps a h (no_memory is) = is

module _ (registry : Entries) (limits : Bounds) (s : Shape) (b : List ℕ) (steps : Steps) (a : Answer) where
  steps_only : (n : ℕ) (c : Tree) → Accepts registry limits s b n c → AnswersSteps registry limits s b steps a → Finds registry b (part_at registry steps (of s) c) a
  steps_only n c h (found k t is finds) = subst (λ (x : Tree). Finds registry b (part_at registry steps (of s) x) a) (accepts_once_is registry limits s b k n t c is h).1 finds
  steps_only n c h (stopped e o stops is) = absurd (no_two_verdicts_are registry limits s b n c e o h stops)

  steps_stopped : (e : Reason) (o : ℕ) → Stops registry limits s b e o → AnswersSteps registry limits s b steps a → a ≡ stop_at e o
  steps_stopped e o h (found k t is finds) = absurd (no_two_verdicts_are registry limits s b k t e o is h)
  steps_stopped e o h (stopped g i stops is) =
      let same = stops_once_is registry limits s b g e i o stops h in
      is ∙ ap (λ (x : Reason). stop_at x i) same.0 ∙ ap (λ (x : ℕ). stop_at e x) same.1

module _ (registry : Entries) (limits : Bounds) (s : Shape) (b path : List ℕ) (a : Answer) where
  -- the answer to the steps of the path
  pub by_steps : (spelled steps : Steps) → IsPath path spelled → steps ≡ spelled → AnswersSteps registry limits s b steps a → AnswersPart registry limits s b path a
  by_steps spelled steps is same h = stepped spelled is (subst (λ (x : Steps). AnswersSteps registry limits s b x a) same h)

  -- if the input starts with a value, the part that the steps lead to is found
  pub part_only : (steps : Steps) (n : ℕ) (c : Tree) → IsPath path steps → Accepts registry limits s b n c → a ≢ plain Memory
      → AnswersPart registry limits s b path a → Finds registry b (part_at registry steps (of s) c) a
  part_only steps n c is h memory (refused why) = absurd (memory (path_stands path steps a is why))
  part_only steps n c is h memory (stepped others also answers) =
      subst (λ (x : Steps). Finds registry b (part_at registry x (of s) c) a) (one_path path others steps also.1 is.1)
      (steps_only registry limits s b others a n c h answers)
  part_only steps n c is h memory (out_of_memory none) = absurd (memory none)

  -- if the bytes stop being a value, the answer is that stop
  pub part_stopped : (steps : Steps) (e : Reason) (o : ℕ) → IsPath path steps → Stops registry limits s b e o
      → AnswersPart registry limits s b path a → IsUnlessMemory a (stop_at e o)
  part_stopped steps e o is h (refused why) memory = absurd (memory (path_stands path steps a is why))
  part_stopped steps e o is h (stepped others also answers) memory = steps_stopped registry limits s b others a e o h answers
  part_stopped steps e o is h (out_of_memory none) memory = absurd (memory none)
