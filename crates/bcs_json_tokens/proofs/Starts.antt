-- JSON that begins with a token of the wrong kind, and refusals of single tokens.
use Rattle.bcs_json_tokens.proofs.Prelude.{◌≡◌, ◌≢◌, ◌∙◌, ◌∷◌, ℕ, ℤ, pos, List, [], Some, None, Option, Result, Ok, Err, IfErr, Bool, option_map, decimal, signed_decimal, refl, ap, sym, subst, none-some, All, All-nil, Token, token_of, Data, Num, Items, Members, null, boolean, number, string, array, object, converted, of_json, value, number_of, StartsAs, Entries, IsUnsigned, IsSigned, Width, SpellsWhole, read_unsigned, read_signed, unsigned_refused, signed_refused, Read, JsonFault, BadShape, JsonPart, IsGood, IsPlaceAmong, Refusal, steps, IfRefused, IsPassedWith, GivenUp, IsRefusal, IsTokenRefused, IsOutOfRange, IsStartRefused, IsRefused, IfSome}
use Rattle.json.specs.declared.token.Token as declared_token
use Rattle.json.specs.declared.token.Token.TheVariants as declared
use Rattle.bcs_json_passing.specs.declared.given_up.GivenUp.TheVariants as given
use Rattle.bcs_json_passing.proofs.Turns.{alone_read}

some_is : {A : Type 0} (x y : A) → Some x ≡ Some y → x ≡ y
some_is x y h = cc

number_is : (o : Option Num) (d : Data) → option_map number o ≡ Some d → (n : Num) × (d ≡ number n)
number_is None d h = absurd (none-some d h)
number_is (Some n) d h = (n, sym (some_is (number n) d h))

-- what holds for JSON of each kind that the token can begin holds for the JSON that it begins
pub starts : (P : Data → Type 0) (t : declared_token.Token) → (t ≡ declared.Null → P null) → ((b : Bool) → t ≡ declared.Bool b → P (boolean b)) → ((s : _) → t ≡ declared.Number s → (n : Num) → P (number n))
    → ((s : _) → t ≡ declared.String s → (b : List ℕ) → P (string b)) → (t ≡ declared.BeginArray → (ds : Items) → P (array ds)) → (t ≡ declared.BeginObject → (ms : Members) → P (object ms))
    → (d : Data) → StartsAs (token_of t) d → P d
starts P declared.Null z b n s a o d h = subst P (sym h) (z refl)
starts P (declared.Bool x) z b n s a o d h = subst P (sym h) (b x refl)
starts P (declared.Number x) z b n s a o d h = let is = number_is _ d h in subst P (sym is.1) (n x refl is.0)
starts P (declared.String x) z b n s a o d h = subst P (sym h) (s x refl _)
starts P declared.BeginArray z b n s a o d h = subst P (sym h.1) (a refl h.0)
starts P declared.BeginObject z b n s a o d h = subst P (sym h.1) (o refl h.0)
starts P declared.EndObject z b n s a o d h = absurd h
starts P declared.EndArray z b n s a o d h = absurd h
starts P (declared.Key x) z b n s a o d h = absurd h
starts P declared.Bad z b n s a o d h = absurd h

pub refused_as : (P Q : Refusal → Type 0) (g : GivenUp) → ((e : Refusal) → P e → Q e) → IfRefused P g → IfRefused Q g
refused_as P Q given.Unusual f h = tt
refused_as P Q given.OutOfMemory f h = tt
refused_as P Q (given.Refused b) f h = f b.value h

pub err_as : {A : Type 0} (P Q : Refusal → Type 0) (r : Result A GivenUp) → ((e : Refusal) → P e → Q e) → IfErr r (IfRefused P) → IfErr r (IfRefused Q)
err_as P Q (Ok x) f h = tt
err_as P Q (Err g) f h = refused_as P Q g f h

pub refused_is : (P : Refusal → Type 0) (g : GivenUp) (r : Refusal) → IsRefusal g r → IfRefused P g → P r
refused_is P given.Unusual r h p = absurd h
refused_is P given.OutOfMemory r h p = absurd h
refused_is P (given.Refused b) r h p = subst P h p

module _ {A : Type 0} (r : Data → Read A) (t : Token) (depth : ℕ) (ts rest : List Token) where
  -- the token begins JSON of the wrong kind, which was passed
  pub start_refused : (f : JsonFault) (g : GivenUp) → ((d : Data) → StartsAs t d → r d ≡ Err f) → IfRefused (IsPassedWith f t depth ts rest) g → IfRefused (IsStartRefused r t depth ts rest) g
  start_refused f g told = refused_as (IsPassedWith f t depth ts rest) (IsStartRefused r t depth ts rest) g
      (λ e h. record { json = h.passed.json; is = h.passed.is; told = told h.passed.json h.passed.starts ∙ ap Err (sym h.here.0); here = h.here.1 })

  -- the token is JSON by itself
  pub token_refused : (e : Refusal) → ts ≡ rest → IsTokenRefused r t e → IsStartRefused r t depth ts rest e
  token_refused e same h =
      record { json = h.json; is = alone_read t depth ts h.json h.is ∙ ap (λ us. Some (h.json, us)) same; told = h.told; here = h.here }

  -- refused in place of its parts
  pub whole_refused : (registry : Entries) (ps : Data → List JsonPart) → ((d : Data) → ps d ≡ []) → (us : List Token) → us ≡ t ∷ ts → (e : Refusal) → IsStartRefused r t depth ts rest e → IsRefused registry r ps depth us rest e
  whole_refused registry ps none us first e h = record {
    json = h.json;
    is = ap (λ vs. converted of_json (value depth vs)) first ∙ h.is;
    told = h.told;
    placed = λ other. subst (λ o. IfSome (steps o) (λ path. IsPlaceAmong registry path (ps h.json))) (sym h.here) (subst (All (IsGood registry)) (sym (none h.json)) (All-nil (IsGood registry)));
  }

  -- JSON of the wrong kind has no parts
  pub kind_refused : (registry : Entries) (ps : Data → List JsonPart) (us : List Token) → us ≡ t ∷ ts → (f : JsonFault) (g : GivenUp) → ((d : Data) → StartsAs t d → (r d ≡ Err f) × (ps d ≡ []))
      → IfRefused (IsPassedWith f t depth ts rest) g → IfRefused (IsRefused registry r ps depth us rest) g
  kind_refused registry ps us first f g told = refused_as (IsPassedWith f t depth ts rest) (IsRefused registry r ps depth us rest) g
      (λ e h.
      let both = told h.passed.json h.passed.starts in
      record {
        json = h.passed.json;
        is = ap (λ vs. converted of_json (value depth vs)) first ∙ h.passed.is;
        told = both.0 ∙ ap Err (sym h.here.0);
        placed = λ other. subst (λ o. IfSome (steps o) (λ path. IsPlaceAmong registry path (ps h.passed.json))) (sym h.here.1) (subst (All (IsGood registry)) (sym both.1) (All-nil (IsGood registry)));
      })

-- ---- numbers

unique : (n : Num) (y z : ℤ) → SpellsWhole (number n) y → SpellsWhole (number n) z → y ≡ z
unique n y z h k = some_is y z (sym h ∙ k)

module _ (w : Width) (s : List ℕ) where
  pub unsigned_other : (e : Refusal) → ((n : ℕ) → IsUnsigned w n → s ≡ decimal n → ⊥) → IsOutOfRange s e → IsTokenRefused (read_unsigned w) (Token.number s) e
  unsigned_other e none h =
      let n = number_is (number_of s) h.json h.is in
      record {
        json = h.json;
        is = h.is;
        told = ap (read_unsigned w) n.1 ∙ unsigned_refused w (number n.0) (λ m spells fits. none m fits (h.same ∙ ap signed_decimal (unique n.0 h.integer (pos m) (subst (λ d. SpellsWhole d h.integer) n.1 h.spells) spells))) ∙ ap Err (sym h.here.0);
        here = h.here.1;
      }

  pub signed_other : (e : Refusal) → ((z : ℤ) → IsSigned w z → s ≡ signed_decimal z → ⊥) → IsOutOfRange s e → IsTokenRefused (read_signed w) (Token.number s) e
  signed_other e none h =
      let n = number_is (number_of s) h.json h.is in
      record {
        json = h.json;
        is = h.is;
        told = ap (read_signed w) n.1 ∙ signed_refused w (number n.0) (λ z spells fits. none z fits (h.same ∙ ap signed_decimal (unique n.0 h.integer z (subst (λ d. SpellsWhole d h.integer) n.1 h.spells) spells))) ∙ ap Err (sym h.here.0);
        here = h.here.1;
      }

-- ---- integers of another kind

pub unsigned_kind : (w : Width) (t : declared_token.Token) → ((s : _) → t ≢ declared.String s) → ((s : _) → t ≢ declared.Number s) → (d : Data) → StartsAs (token_of t) d → read_unsigned w d ≡ Err BadShape
unfolding read_unsigned
unsigned_kind w t string_not number_not =
    starts (λ d. read_unsigned w d ≡ Err BadShape) t (λ e. refl) (λ b e. refl) (λ s e n. absurd (number_not s e)) (λ s e b. absurd (string_not s e)) (λ e ds. refl) (λ e ms. refl)

pub signed_kind : (w : Width) (t : declared_token.Token) → ((s : _) → t ≢ declared.String s) → ((s : _) → t ≢ declared.Number s) → (d : Data) → StartsAs (token_of t) d → read_signed w d ≡ Err BadShape
unfolding read_signed
signed_kind w t string_not number_not =
    starts (λ d. read_signed w d ≡ Err BadShape) t (λ e. refl) (λ b e. refl) (λ s e n. absurd (number_not s e)) (λ s e b. absurd (string_not s e)) (λ e ds. refl) (λ e ms. refl)
