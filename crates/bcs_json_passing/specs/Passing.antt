-- JSON that is passed: what it is, and which tokens follow it.
use Rattle.std.specs.Prelude.{◌≡◌, ◌<◌, ◌≤◌, ◌+◌, ◌==◌, ℕ, suc, List, [], ◌∷◌, length, Bool, Option, Some, None, true, false, option_map, Result, Ok, Err, IfSome, ⊤}
use Rattle.std.specs.List.{list_any}
use Rattle.std.specs.Str.{bytes_eq}
use Rattle.json.specs.Json.{items, members, read_key, value}
use Rattle.json.specs.Token.{Token}
use Rattle.json.specs.Token as token
use Rattle.serde_json.specs.Data.{Data, Items, Members, null, boolean, number, string, array, object}
use Rattle.serde_json.specs.Find.{get_member}
use Rattle.serde_json.specs.Read.{converted, number_of, of_items, of_json, of_members}
use Rattle.bcs_json_spec.specs.Look.{item_count}
use Rattle.bcs_json_spec.specs.Place.{item, member, PointerStep}
use Rattle.bcs_json_spec.specs.declared.json_fault.JsonFault.{JsonFault}
use Rattle.bcs_json_spec.specs.declared.json_fault.JsonFault.TheVariants.{BadShape}
use Rattle.bcs_json_reader.specs.Refused.{steps}
use Rattle.bcs_json_reader.specs.declared.refusal.Refusal.{Refusal}
use Rattle.bcs_json_reader.specs.declared.refusal.JsonLocation.TheVariants.{Here}
use Rattle.bcs_json_passing.specs.declared.given_up.GivenUp.{GivenUp}
use Rattle.bcs_json_passing.specs.declared.given_up.GivenUp.TheVariants.{Unusual, OutOfMemory, Refused}

-- ---- refusals

-- if the JSON was refused, the refusal is so
abbrev pub IfRefused : (Refusal → Type 0) → GivenUp → Type 0
IfRefused P Unusual = ⊤
IfRefused P OutOfMemory = ⊤
IfRefused P (Refused r) = P r.value

-- nothing was refused
abbrev pub IfUnrefused : {X : Type 0} → Result X GivenUp → Type 0
IfUnrefused (Ok x) = ⊤
IfUnrefused (Err e) = IfRefused (λ r. ⊥) e

-- it was refused with this refusal
abbrev pub IsRefusal : GivenUp → Refusal → Type 0
IsRefusal Unusual r = ⊥
IsRefusal OutOfMemory r = ⊥
IsRefusal (Refused b) r = b.value ≡ r

abbrev pub IsHere : JsonFault → Refusal → Type 0
IsHere e r = (r.fault ≡ e) × (r.location ≡ Here)

-- the refusal of a part, told of the JSON that contains it
pub record IsWithin (step : PointerStep) (inner e : Refusal) : Type 0 where
  pub fault : e.fault ≡ inner.fault
  pub location : IfSome (steps e.location) (λ path. option_map (λ tail. step ∷ tail) (steps inner.location) ≡ Some path)

-- ---- JSON and its tokens

-- the JSON value that a single token represents
abbrev pub alone : Token → Option Data
alone (token.string s) = Some (string s)
alone (token.number s) = option_map number (number_of s)
alone (token.boolean b) = Some (boolean b)
alone token.null = Some null
alone _ = None

-- the JSON begins with the token
abbrev pub StartsAs : Token → Data → Type 0
StartsAs (token.string s) d = d ≡ string s
StartsAs (token.number s) d = alone (token.number s) ≡ Some d
StartsAs (token.boolean b) d = d ≡ boolean b
StartsAs token.null d = d ≡ null
StartsAs token.begin_array d = (ds : Items) × (d ≡ array ds)
StartsAs token.begin_object d = (ms : Members) × (d ≡ object ms)
StartsAs _ d = ⊥

-- `rest` follows the value that the tokens begin with
pub record IsPassed (depth : ℕ) (ts rest : List Token) : Type 0 where
  pub json : Data
  pub is : converted of_json (value depth ts) ≡ Some (json, rest)

-- the same where the first token was taken
pub record IsPassedFrom (t : Token) (depth : ℕ) (ts rest : List Token) : Type 0 where
  pub json : Data
  pub is : converted of_json (value depth (t ∷ ts)) ≡ Some (json, rest)
  pub starts : StartsAs t json

-- `rest` follows the items of an array and its end
pub record ArePassed (depth : ℕ) (ts rest : List Token) (n : ℕ) : Type 0 where
  pub json : Items
  pub is : (turns : ℕ) → length ts ≤ turns → converted of_items (items (value depth) turns ts) ≡ Some (json, rest)
  pub count : item_count json ≡ n

-- `rest` follows the members of an object and its end, which are put into those found before
pub record MembersPassed (depth : ℕ) (ts rest : List Token) : Type 0 where
  pub json : Members → Members
  pub is : (found : Members) (turns : ℕ) → length ts ≤ turns → converted (λ ms. of_members ms found) (members (value depth) turns ts) ≡ Some (json found, rest)

-- the members of these names are those found before
abbrev pub AreKept : List (List ℕ) → (Members → Members) → Type 0
AreKept [] json = ⊤
AreKept (k ∷ ks) json = ((found : Members) → get_member k (json found) ≡ get_member k found) × AreKept ks json

-- the same, where none of the members has one of these names
pub record OthersPassed (known : List (List ℕ)) (depth : ℕ) (ts rest : List Token) : Type 0 where
  pub json : Members → Members
  pub is : (found : Members) (turns : ℕ) → length ts ≤ turns → converted (λ ms. of_members ms found) (members (value depth) turns ts) ≡ Some (json found, rest)
  pub kept : AreKept known json
  pub stays : (found : Members) (k : List ℕ) → get_member k (json found) ≡ None → get_member k found ≡ None

-- the same, where the first member's name was read
pub record IsNamePassed (known : List (List ℕ)) (name : List ℕ) (depth : ℕ) (ts rest : List Token) : Type 0 where
  pub new : list_any (bytes_eq name) known ≡ false
  pub between : List Token
  pub member : IsPassed depth ts between
  pub others : OthersPassed known depth between rest

-- ---- what was refused, and passed

-- JSON that begins with the token is refused itself, and passed
pub record IsPassedWith (fault : JsonFault) (t : Token) (depth : ℕ) (ts rest : List Token) (e : Refusal) : Type 0 where
  pub here : IsHere fault e
  pub passed : IsPassedFrom t depth ts rest

-- an array may have `n` items, if it should have `wanted`
abbrev pub is_count : Option ℕ → ℕ → Bool
is_count None n = true
is_count (Some wanted) n = n == wanted

-- an item is refused, and those after it are passed; another number of items than wanted comes first
pub record IsWithinItem (number : ℕ) (wanted : Option ℕ) (depth : ℕ) (ts rest : List Token) (g : GivenUp) (e : Refusal) : Type 0 where
  pub inner : Refusal
  pub was : IsRefusal g inner
  pub after : ℕ
  pub passed : ArePassed depth ts rest after
  pub within : is_count wanted (number + suc after) ≡ true → IsWithin (item number) inner e
  pub other : is_count wanted (number + suc after) ≡ false → IsHere BadShape e

-- an array has more items than it may have, and those are passed
pub record IsItemsRefusal (depth : ℕ) (ts rest : List Token) (e : Refusal) : Type 0 where
  pub number : ℕ
  pub some : 0 < number
  pub passed : ArePassed depth ts rest number
  pub here : IsHere BadShape e

-- the only member of an object is refused
pub record IsWithinOnly (name : List ℕ) (ts rest : List Token) (g : GivenUp) (e : Refusal) : Type 0 where
  pub inner : Refusal
  pub was : IsRefusal g inner
  pub within : IsWithin (member name) inner e
  pub over : read_key ts ≡ Some (None, rest)
