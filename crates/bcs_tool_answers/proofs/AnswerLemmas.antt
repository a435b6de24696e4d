-- Answers with an equal status and equal output, and the parsed request for an input.
use Rattle.bcs_tool_answers.proofs.Prelude.{◌≡◌, ◌≢◌, ◌≤◌, ◌<◌, ◌⊎◌, ◌++◌, [], Err, List, Ok, arith, inl, inr, length, subst, sym, true, ℕ, Entries, Shape, shape_of, Tree, Bounds, Accepts, StopsAll, Stop, Shows, FromFault, json_fault_name, of, shown, Denotes, RefusesText, nesting_limit, JsonFault, decode_of, FromHexError, OutOfMemory, depth, Answers, AnswersTexts, IsAsked, checked, compared, damaged, decoded, described, differed, made, unmade, different, encoded, equal, exampled, explained, first_refused, found, front_stopped, grown, no_bytes, no_content, normalised, nowhere, refusal_line, refused, refused_early, scan_stopped, scanned, second_refused, sifted, stopped, too_nested, unopened, IsAnswer, Places, PrintsWithoutPlace, MayReport, nothing, told, RefusesJobOf, RefusesFormatted, RefusesPart, bytes_command, works_on_values, IsAskedBy, Answer, JobFault, BadPath, Growth, Registry, Asked, BytesCommand, size_limit, Work, Command, Check, Show, Example, Schema, FromMove, Encode, Decode, Explain, Normalise, Same, Scan, Which}
use Rattle.bcs_json.specs.declared.from_fault.FromFault.TheVariants as from
use Rattle.bcs_tool_answers.specs.Answers as answers
use Rattle.bcs_tool_answers.specs.declared.value_command.BytesCommand.TheVariants as on_bytes
use Rattle.bcs_tool_command_line.specs.declared.command.Command.TheVariants.{Diff, Grows, Part}

places_of : {work : Work} {input place : List ℕ} → MayReport work place → Places work input place
places_of (inl none) = nothing none
places_of (inr line) = told line.0 line.1

-- an answer with this status and this output after a list, and a place that may be printed with it
pub behind_list : (work : Work) (list input : List ℕ) (s : ℕ) (p : List ℕ) (a : Answer) → a.status ≡ s → a.output.items ≡ p → MayReport work a.place.items
    → Answers work input s (list ++ p) → Answers work input a.status (list ++ a.output.items) × Places work input a.place.items
behind_list work list input s p a same_status same_output reports is = (
  subst (λ (n : ℕ). Answers work input n (list ++ a.output.items)) (sym same_status)
      (subst (λ (bytes : List ℕ). Answers work input s (list ++ bytes)) (sym same_output) is),
  places_of reports,
)

-- without a list
pub placed_answer : (work : Work) (input : List ℕ) (s : ℕ) (p : List ℕ) (a : Answer) → a.status ≡ s → a.output.items ≡ p → MayReport work a.place.items
    → Answers work input s p → IsAnswer work input a
placed_answer work input s p a same_status same_output reports is = behind_list work [] input s p a same_status same_output reports is

-- with the list in its output
pub listed_answer : (work : Work) (list input : List ℕ) (verdict a : Answer) → a.status ≡ verdict.status → a.place.items ≡ verdict.place.items
    → a.output.items ≡ list ++ verdict.output.items
    → Answers work input verdict.status (list ++ verdict.output.items) × Places work input verdict.place.items → IsAnswer work input a
listed_answer work list input verdict a same_status same_place same_output is = (
  subst (λ (n : ℕ). Answers work input n a.output.items) (sym same_status) (subst (λ (bytes : List ℕ). Answers work input verdict.status bytes) (sym same_output) is.0),
  subst (λ (place : List ℕ). Places work input place) (sym same_place) is.1,
)

-- what is printed is an answer, and there is no place
pub same_answer : (work : Work) (input : List ℕ) (a : Answer) (s : ℕ) (p : List ℕ) → PrintsWithoutPlace a s p → Answers work input s p → IsAnswer work input a
same_answer work input a s p h is = placed_answer work input s p a h.same_status h.same_output (inl h.no_place) is

-- an answer with a place that was set
pub with_place : (work : Work) (place set : List ℕ) → place ≡ set → MayReport work set → MayReport work place
with_place work place set same reports = subst (λ (text : List ℕ). MayReport work text) (sym same) reports

-- the job is for this command, and its input is within the size limit
pub is_asked : {work : Work} {asked : Asked} (input : List ℕ) (k : Command) → work.command ≡ k → IsAskedBy work asked → length input ≤ size_limit
    → IsAsked work input k asked.registry (shape_of asked.format)
is_asked input k is asked within = record { is_command = is; asks = asked.asks; within = λ _. within }

-- the input of the command gives the bytes of a value
pub takes_bytes : (asked : BytesCommand) (k : Command) → k ≡ bytes_command asked → answers.TakesBytes k
takes_bytes on_bytes.Decode k is = inl is
takes_bytes on_bytes.Part k is = inr (inl is)
takes_bytes on_bytes.Explain k is = inr (inr (inl is))
takes_bytes on_bytes.Scan k is = inr (inr (inr (inl is)))
takes_bytes on_bytes.Which k is = inr (inr (inr (inr is)))

-- the first of two texts is refused, or else the second
pub refused_texts : (registry : Entries) (limits : Bounds) (s : Shape) (first second : List ℕ) (fault : JsonFault) → RefusesText registry limits s first fault
    ⊎ (((t : Tree) × Denotes registry limits s first t) × RefusesText registry limits s second fault)
    → AnswersTexts registry limits s first second 2 (refusal_line (json_fault_name fault))
refused_texts registry limits s first second fault (inl one) = first_refused fault one
refused_texts registry limits s first second fault (inr both) = second_refused both.0.0 fault both.0.1 both.1

-- what is printed is an answer to two texts
pub same_pair : (registry : Entries) (limits : Bounds) (s : Shape) (first second : List ℕ) (a : Answer) (n : ℕ) (p : List ℕ) → PrintsWithoutPlace a n p
    → AnswersTexts registry limits s first second n p → AnswersTexts registry limits s first second a.status a.output.items
same_pair registry limits s first second a n p h is =
    subst (λ (m : ℕ). AnswersTexts registry limits s first second m a.output.items) (sym h.same_status)
    (subst (λ (bytes : List ℕ). AnswersTexts registry limits s first second n bytes) (sym h.same_output) is)

refuses_part : (work : Work) (fault : JobFault) → RefusesFormatted work fault → RefusesPart work fault
refuses_part work (Registry e) h = h
refuses_part work (Growth e) h = absurd h
refuses_part work BadPath h = absurd h

-- the arguments of a command on values are refused because of its registry or its format
pub refuses_formatted : (asked : Command) (work : Work) (fault : JobFault) → works_on_values asked ≡ true → RefusesFormatted work fault → RefusesJobOf asked work fault
refuses_formatted Encode work fault on h = h
refuses_formatted Decode work fault on h = h
refuses_formatted Explain work fault on h = h
refuses_formatted Normalise work fault on h = h
refuses_formatted Same work fault on h = h
refuses_formatted Diff work fault on h = h
refuses_formatted Part work fault on h = refuses_part work fault h
refuses_formatted Scan work fault on h = h
refuses_formatted Which work fault on h = h
refuses_formatted other work fault on h = cc

-- what is shown if the bytes stop, and if their text would nest too deeply
module _ (registry : Entries) (limits : Bounds) (s : Shape) (bytes : List ℕ) (fault : FromFault) where
  pub stops : (stop : Stop) → fault ≡ from.Stop stop → Shows registry limits s bytes (Err fault) → StopsAll registry limits s bytes stop.reason stop.place
  stops stop is h = subst (λ (f : FromFault). Shows registry limits s bytes (Err f)) is h

  pub nests : fault ≡ from.TooNested → Shows registry limits s bytes (Err fault)
      → (c : Tree) × Accepts registry limits s bytes (length bytes) c × (nesting_limit < depth (shown registry c (of s)))
  nests is h = subst (λ (f : FromFault). Shows registry limits s bytes (Err f)) is h

-- the status of an answer is 0, 1 or 2
pub pair_below : (r : Entries) (limits : Bounds) (f : Shape) (first second : List ℕ) (s : ℕ) (p : List ℕ) → AnswersTexts r limits f first second s p → s < 3
pair_below r limits f first second s p (equal h) = omega arith
pair_below r limits f first second s p (different h) = omega arith
pair_below r limits f first second s p (first_refused e h) = omega arith
pair_below r limits f first second s p (second_refused t e d h) = omega arith

pub status_below : (work : Work) (input : List ℕ) (s : ℕ) (p : List ℕ) → Answers work input s p → s < 3
status_below work input s p (exampled r f z t a h) = omega (arith, h)
status_below work input s p (sifted r f b z t a g h) = omega (arith, h)
status_below work input s p (compared r f z o k h) = pair_below r work.limits f work.second.items input s p h
status_below work input s p (differed r f z o k h) = h
status_below work input s p other = omega arith

-- a text with invalid digits gives no bytes
pub no_digits : (text : List ℕ) (e : FromHexError) → (e ≡ OutOfMemory) ⊎ (decode_of text ≡ Err e) → e ≢ OutOfMemory
    → (bytes : List ℕ) → decode_of text ≡ Ok bytes → ⊥
no_digits text e (inl memory) differs bytes is = differs memory
no_digits text e (inr bad) differs bytes is = cc
