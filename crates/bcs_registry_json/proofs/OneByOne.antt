-- The containers of a registry, read one after another.
use Rattle.bcs_registry_json.proofs.Prelude.{◌≡◌, ◌∙◌, ◌-◌, ◌<◌, ◌≤◌, ℕ, List, [], ◌∷◌, String, Global, Some, None, ap, arith, length, string_bytes, string_cmp, subst, sym, insert_entry, IsStrictlySortedBy, keys_of, members, parse_map, read_key, value, tokens, Token, read_key-shorter, value-begin_object, no_members, object, put, converted, of_json, of_members, read, Entries, IsInRange, IsOrderly, container_of, entries_of, Container, Stored, names_rise, shown_registry, shown_container, shown_containers}
use Rattle.json.specs.Json as json
use Rattle.bcs_registry_json.proofs.Containers.{AllInRange, insert_in_range, insert_shown}
use Rattle.bcs_registry_json.proofs.Turns.{converted-object, member_read, members_over, whole_read}

-- the containers read so far and those in the remaining tokens are together those in all tokens
pub record AreSpelled (all rest : List Token) (es : List Stored) : Type 0 where
  pub turns : ℕ
  pub enough : length rest ≤ turns
  pub same : converted (λ ms. of_members ms no_members) (members (value 126) (length all) all)
      ≡ converted (λ ms. of_members ms (shown_containers (entries_of es))) (members (value 126) turns rest)
  pub names : IsStrictlySortedBy string_cmp (keys_of es)
  pub ranges : AllInRange es

pub none_spelled : (all : List Token) (es : List Stored) → es ≡ [] → IsStrictlySortedBy string_cmp (keys_of es) → AreSpelled all all es
none_spelled all es none names = record {
  turns = length all;
  enough = omega arith;
  same = ap (λ (xs : List Stored). converted (λ ms. of_members ms (shown_containers (entries_of xs))) (members (value 126) (length all) all)) (sym none);
  names = names;
  ranges = subst AllInRange (sym none) tt;
}

pub one_spelled : (all rest s r : List Token) (es more : List Stored) (name : List ℕ) (k : String Global) (v : Container) → AreSpelled all rest es → read_key rest ≡ Some (Some name, s)
    → string_bytes k ≡ name → converted of_json (value 126 s) ≡ Some (shown_container (container_of v), r) → length r < length s → IsInRange (container_of v)
    → more ≡ insert_entry string_cmp es k v → IsStrictlySortedBy string_cmp (keys_of more) → AreSpelled all r more
one_spelled all rest s r es more name k v are key named part less range inserted rise =
    let n = are.turns in
    let enough = are.enough in
    let shorter = read_key-shorter rest (Some name) s key in
    let old = shown_containers (entries_of es) in
    let put_here : put name (shown_container (container_of v)) old ≡ shown_containers (entries_of more) =
    ap (λ (l : List ℕ). put l (shown_container (container_of v)) old) (sym named) ∙ sym (ap (λ (xs : List Stored). shown_containers (entries_of xs)) inserted ∙ insert_shown k v es) in
    record {
      turns = n - 1;
      enough = omega (arith, enough, shorter, less);
      same = are.same ∙ member_read (value 126) old n name rest s r (shown_container (container_of v)) (omega (arith, enough, shorter)) key part
          ∙ ap (λ found. converted (λ ms. of_members ms found) (members (value 126) (n - 1) r)) put_here;
      names = rise;
      ranges = subst AllInRange (sym inserted) (insert_in_range k v range es are.ranges);
    }

pub all_spelled : (all rest r : List Token) (es : List Stored) → AreSpelled all rest es → read_key rest ≡ Some (None, r)
    → converted (λ ms. of_members ms no_members) (members (value 126) (length all) all) ≡ Some (shown_containers (entries_of es), r)
all_spelled all rest r es are over = are.same ∙ members_over (value 126) (shown_containers (entries_of es)) are.turns rest r are.enough over

pub spelled_orderly : (all rest : List Token) (es : List Stored) → AreSpelled all rest es → IsOrderly (entries_of es)
spelled_orderly all rest es are = record { names = names_rise es are.names; containers = are.ranges }

-- if the tokens of a document are containers and nothing follows, the document is read as these containers
pub text_spelled : (text : List ℕ) (all left : List Token) (registry : Entries) → tokens text ≡ Token.begin_object ∷ all
    → converted (λ ms. of_members ms no_members) (members (value 126) (length all) all) ≡ Some (shown_containers registry, left) → left ≡ [] → read text ≡ Some (shown_registry registry)
text_spelled text all left registry begins are none =
    let opened : value 127 (tokens text) ≡ parse_map json.object (members (value 126) (length all) all) =
    ap (value 127) begins ∙ value-begin_object 127 all (omega arith) in
    let whole = ap (converted of_json) opened ∙ converted-object (members (value 126) (length all) all) ∙ ap (parse_map object) are ∙ ap (λ (ts : List Token). Some (shown_registry registry, ts)) none in
    whole_read (value 127 (tokens text)) (shown_registry registry) whole
