-- What a parse by the definition of `bcs` says of the words.
use Rattle.bcs_tool_command_line.proofs.Prelude.{◌≡◌, ◌∙◌, ◌⊎◌, [], ◌∷◌, List, Option, Some, None, inl, inr, refl, true, ap, subst, sym, IsSomeAnd, App, HasKind, IsAmong, is_simple_and_free, kind_of, Error, ErrorKind, clap_on_literals, bcs_app, IsFaultAmong, IsFaultOf, IsFaultOfKind, ReportsMisuse, AcceptsArguments, misuse_of, spelled, LineFault, Misuse, Usage, Help, OutOfMemory}
use Rattle.clap.specs.Words.{Kinds, Text, fault_of}
use Rattle.clap.specs.declared.error.kind.ErrorKind.TheVariants as kind

-- clap's contracts are exact for the definition
pub is_exact : is_simple_and_free bcs_app ≡ true
unfolding clap_on_literals
is_exact = refl

-- The definition is not computed where a parse is of a command that equals it.
pub taken_as : (a : App) (words : List Text) → a ≡ bcs_app
    → (is_simple_and_free a ≡ true → fault_of a words ≡ []) → fault_of bcs_app words ≡ []
taken_as a words same h =
    subst (λ (b : App). fault_of b words ≡ []) same (h (ap is_simple_and_free same ∙ is_exact))

refused_as : (a : App) (words : List Text) (e : Error) → a ≡ bcs_app
    → (is_simple_and_free a ≡ true → HasKind (fault_of a words) e) → HasKind (fault_of bcs_app words) e
refused_as a words e same h =
    subst (λ (b : App). HasKind (fault_of b words) e) same (h (ap is_simple_and_free same ∙ is_exact))

fault_among : (kinds : Kinds) (k : ErrorKind) (f : LineFault)
    → (k ≡ kind.OutOfMemory) ⊎ IsAmong k kinds → IsFaultOfKind k f → IsFaultAmong kinds f
fault_among kinds k (Usage text) (inl e) h = absurd (h.1 e)
fault_among kinds k (Usage text) (inr among) h = (k, among, h.0)
fault_among kinds k (Help text) (inl e) (inl h) = cc
fault_among kinds k (Help text) (inl e) (inr h) = cc
fault_among kinds k (Help text) (inr among) h =
    (k, among, h)
fault_among kinds k OutOfMemory a h = tt

-- the fault for an error of a parse is one that clap finds in the words
pub fault_of_error : (a : App) (words : List Text) (e : Error) (f : LineFault) → a ≡ bcs_app
    → (is_simple_and_free a ≡ true → HasKind (fault_of a words) e) → IsFaultOfKind (kind_of e) f → IsFaultAmong (fault_of bcs_app words) f
fault_of_error a words e f same h is = fault_among (fault_of bcs_app words) (kind_of e) f (refused_as a words e same h) is

-- where clap finds no fault, only memory can be wanting
pub none_is_memory : (kinds : Kinds) (f : LineFault) → IsFaultAmong kinds f → kinds ≡ [] → f ≡ OutOfMemory
none_is_memory (k ∷ ks) f h e = cc
none_is_memory [] (Usage text) h e = absurd h.1
none_is_memory [] (Help text) h e = absurd h.1
none_is_memory [] OutOfMemory h e = refl

pub memory_alone : (words : List Text) (f : LineFault) → IsFaultOf words f → AcceptsArguments words → f ≡ OutOfMemory
memory_alone words f (inl h) takes = none_is_memory (fault_of bcs_app (spelled words)) f h takes.0
memory_alone words f (inr h) takes = absurd (subst (λ (o : Option Misuse). IsSomeAnd o (λ misuse. ReportsMisuse misuse f)) takes.1 h.1)

pub takes_words : (words : List Text) (misuse : Option Misuse) → fault_of bcs_app (spelled words) ≡ [] → misuse ≡ misuse_of words → misuse ≡ None → AcceptsArguments words
takes_words words misuse none is apart = (none, sym is ∙ apart)

-- the fault for arguments that don't go together
pub fault_of_misuse : (words : List Text) (found : Option Misuse) (misuse : Misuse) (f : LineFault) → fault_of bcs_app (spelled words) ≡ []
    → found ≡ misuse_of words → found ≡ Some misuse → (f ≡ OutOfMemory) ⊎ ReportsMisuse misuse f → IsFaultOf words f
fault_of_misuse words found misuse f none is some (inl e) = subst (IsFaultOf words) (sym e) (inl tt)
fault_of_misuse words found misuse f none is some (inr reports) =
    inr (none, subst (λ (o : Option Misuse). IsSomeAnd o (λ m. ReportsMisuse m f)) (sym some ∙ is) reports)
