-- If JSON has one thing, it has what follows from it.
use Rattle.bcs_json_spec.proofs.Prelude.{ℕ, List, Option, Some, None, Data, string, array, object, Items, no_items, item, Members, no_members, member, IfArray, IfStringOrArray, IfObject, IfTwo, IfOne, IfWordOrOne, IfThere}

pub in_one : (P Q : List ℕ → Data → Type 0) → ((k : List ℕ) (d : Data) → P k d → Q k d) → (j : Data) → IfOne P j → IfOne Q j
in_one P Q h (object (member k d no_members)) w = h k d w
in_one P Q h _ w = absurd w

pub in_two : (P Q : Data → Data → Type 0) → ((a b : Data) → P a b → Q a b) → (j : Data) → IfTwo P j → IfTwo Q j
in_two P Q h (array (item a (item b no_items))) w = h a b w
in_two P Q h _ w = absurd w

pub in_array : (P Q : Items → Type 0) → ((ds : Items) → P ds → Q ds) → (j : Data) → IfArray P j → IfArray Q j
in_array P Q h (array ds) w = h ds w
in_array P Q h _ w = absurd w

-- an array is allowed where a string or an array is
pub in_array_alone : (T : List ℕ → Type 0) (P Q : Items → Type 0) → ((ds : Items) → P ds → Q ds) → (j : Data) → IfArray P j → IfStringOrArray T Q j
in_array_alone T P Q h (array ds) w = h ds w
in_array_alone T P Q h _ w = absurd w

pub in_string_or_array : (T : List ℕ → Type 0) (P Q : Items → Type 0) → ((ds : Items) → P ds → Q ds) → (j : Data) → IfStringOrArray T P j → IfStringOrArray T Q j
in_string_or_array T P Q h (string s) w = w
in_string_or_array T P Q h (array ds) w = h ds w
in_string_or_array T P Q h _ w = absurd w

pub in_object : (P Q : Members → Type 0) → ((ms : Members) → P ms → Q ms) → (j : Data) → IfObject P j → IfObject Q j
in_object P Q h (object ms) w = h ms w
in_object P Q h _ w = absurd w

pub in_word_or_one : (P Q : List ℕ → Type 0) (R S : List ℕ → Data → Type 0) → ((k : List ℕ) → P k → Q k) → ((k : List ℕ) (d : Data) → R k d → S k d)
    → (j : Data) → IfWordOrOne P R j → IfWordOrOne Q S j
in_word_or_one P Q R S h g (string s) w = h s w
in_word_or_one P Q R S h g (object (member k d no_members)) w = g k d w
in_word_or_one P Q R S h g _ w = absurd w

pub in_there : {A : Type 0} (P Q : A → Type 0) → ((x : A) → P x → Q x) → (o : Option A) → IfThere P o → IfThere Q o
in_there P Q h None w = absurd w
in_there P Q h (Some x) w = h x w
