-- What a line of a script asks for is within the limits of frames.
use Rattle.std.proofs.Common.{◌≡◌, ℕ, zero, suc, ◌+◌, ◌-◌, ◌*◌, ◌%◌, ◌<◌, ◌≤◌, ◌^◌, nat_lt, nat_le, Bool, true, false, cond, not, ◌&&◌, ◌||◌, ◌==◌, List, [], ◌∷◌, length, drop, Option, Some, None, option_map, option_and_then, Result, Ok, Err, refl, subst, arith, rules, tests}
use Rattle.std.specs.Prelude.{slice_index}
use Rattle.std.specs.Str.{bytes_eq}
use Rattle.std.proofs.lemmas.Bool.{and_parts}
use Rattle.std.proofs.lemmas.List.{nil_from_length}
use Rattle.hex.specs.Hex.{◌>>=◌, decode_pairs, digit_or_error, hex_digit_value, pair_value, value_at}
use Rattle.hex.specs.declared.error.FromHexError.{FromHexError}
use Rattle.hex.specs.declared.error.FromHexError.TheVariants.{OddLength}
use Rattle.pay_frame.specs.declared.body.Kind.{Kind}
use Rattle.pay_frame.specs.declared.body.Kind.TheVariants.{Want}
use Rattle.pay_frame.specs.declared.limits.TheConstants.{GREATEST_VALUE, SEQS}
use Rattle.pay_frame.specs.Frame.{BodyFields, IsBare, IsBody, code_of}
use Rattle.pay_frame.specs.OneFrame.{is_bare, is_body}
use Rattle.pay_frame.specs.Stream.{IsBytes}
use Rattle.pay_text.specs.Numbers.{first_number, number_of}
use Rattle.pay_text.specs.Words.{first_word, is_none, words_of}
use Rattle.std.specs.Str.Parse.{digits_value}
use Rattle.pay_sim.specs.declared.command.ScriptCommand.{ScriptCommand}
use Rattle.pay_book.specs.Payment.{payment_value}
use Rattle.pay_sim.specs.declared.command.ScriptCommand.TheVariants.{Ask, Bring, Lie, Raw, All, Show}
use Rattle.pay_sim.specs.declared.command.TheConstants.{MEMBERS, ACCOUNTS}
use Rattle.pay_sim.specs.Commands.{alone_in, ask_in, asks_in, below, body_in, bring_in, bringing_in, bytes_in_word, script_command_in, command_of, decoded_bytes, first_bytes, first_kind, first_turn, if_below, if_body, if_last, lie_in, raw_in, several_in, turn_in_word}

-- the number that a lie says, if it says one, has 64 bits
abbrev pub IsTurn : Option ℕ → Type 0
IsTurn None = Unit {0}
IsTurn (Some number) = number < 2 ^ 64

-- what such a command brings may be read
abbrev pub FitsFrame : ScriptCommand → Type 0
FitsFrame (Ask member value) = Unit {0}
FitsFrame (Bring from to number) = number < 2 ^ 64
FitsFrame (Lie from to number body) = (from < MEMBERS) × (to < MEMBERS) × IsTurn number × IsBody body
FitsFrame (Raw to bytes) = IsBytes bytes
FitsFrame All = Unit {0}
FitsFrame Show = Unit {0}

abbrev pub AskedFits : Option ScriptCommand → Type 0
AskedFits None = Unit {0}
AskedFits (Some command) = FitsFrame command

is_less : (x y : ℕ) → nat_lt x y ≡ true → x < y
is_less x y p = search (rules, tests)

is_at_most : (x y : ℕ) → nat_le x y ≡ true → x ≤ y
is_at_most x y p = search (rules, tests)

is_same : (x y : ℕ) → (x == y) ≡ true → x ≡ y
is_same x y p = search (rules, tests)

then_is : {X Y : Type 0} (f : X → Option Y) (o : Option X) (y : Y) → option_and_then f o ≡ Some y → (x : X) × (o ≡ Some x) × (f x ≡ Some y)
then_is f None y is = absurd cc
then_is f (Some x) y is = (x, refl, is)

if_is : {X : Type 0} (b : Bool) (x y : X) → cond b (Some x) None ≡ Some y → (b ≡ true) × (x ≡ y)
if_is true x y is = (refl, cc)
if_is false x y is = absurd cc

-- ---- single words

number_small : (word : List ℕ) (n : ℕ) → number_of word ≡ Some n → n < 2 ^ 64
unfolding number_of
number_small word n is =
    let parts = if_is (bytes_eq word _ && nat_lt (digits_value 10 word) (2 ^ 64)) (digits_value 10 word) n is in
    let small = is_less (digits_value 10 word) (2 ^ 64) (and_parts (bytes_eq word _) (nat_lt (digits_value 10 word) (2 ^ 64)) parts.0).1 in
    subst (λ k. k < 2 ^ 64) parts.1 small

first_small : (words : List (List ℕ)) (n : ℕ) → first_number words ≡ Some n → n < 2 ^ 64
first_small [] n is = absurd cc
first_small (word ∷ words) n is = number_small word n is

below_is : (bound : ℕ) (words : List (List ℕ)) (n : ℕ) → below bound words ≡ Some n → n < bound
below_is bound words n is =
    let found = then_is (if_below bound) (first_number words) n is in
    let parts = if_is (nat_lt found.0 bound) found.0 n found.2 in
    subst (λ k. k < bound) parts.1 (is_less found.0 bound parts.0)

turn_word : (word : List ℕ) (turn : Option ℕ) → turn_in_word word ≡ Some turn → IsTurn turn
unfolding turn_in_word
turn_word word turn is = go (bytes_eq word _) (number_of word) refl is where
  go : (b : Bool) (o : Option ℕ) → number_of word ≡ o → cond b (Some None) (option_map Some o) ≡ Some turn → IsTurn turn
  go true o at is = let same : ◌≡◌ {A = Option ℕ} None turn = cc in subst IsTurn same tt
  go false None at is = absurd cc
  go false (Some n) at is = let same : Some n ≡ turn = cc in subst IsTurn same (number_small word n at)

turn_is : (words : List (List ℕ)) (turn : Option ℕ) → first_turn words ≡ Some turn → IsTurn turn
turn_is words turn is = let found = then_is turn_in_word (first_word words) turn is in turn_word found.0 turn found.2

-- ---- bytes in hexadecimal digits

digit_small : (c v : ℕ) → hex_digit_value c ≡ Some v → v < 16
digit_small c v is = go (nat_le 65 c && nat_le c 70) (nat_le 97 c && nat_le c 102) (nat_le 48 c && nat_le c 57) refl refl refl is where
  go : (a b d : Bool) → (nat_le 65 c && nat_le c 70) ≡ a → (nat_le 97 c && nat_le c 102) ≡ b → (nat_le 48 c && nat_le c 57) ≡ d
      → cond a (Some (c - 55)) (cond b (Some (c - 87)) (cond d (Some (c - 48)) None)) ≡ Some v → v < 16
  go true b d one two three is =
      let most = is_at_most c 70 (and_parts (nat_le 65 c) (nat_le c 70) one).1 in
      let same : c - 55 ≡ v = cc in
      omega arith
  go false true d one two three is =
      let most = is_at_most c 102 (and_parts (nat_le 97 c) (nat_le c 102) two).1 in
      let same : c - 87 ≡ v = cc in
      omega arith
  go false false true one two three is =
      let most = is_at_most c 57 (and_parts (nat_le 48 c) (nat_le c 57) three).1 in
      let same : c - 48 ≡ v = cc in
      omega arith
  go false false false one two three is = absurd cc

value_small : (c i v : ℕ) → value_at c i ≡ Ok v → v < 16
value_small c i v is = go (hex_digit_value c) refl is where
  go : (o : Option ℕ) → hex_digit_value c ≡ o → digit_or_error c i o ≡ Ok v → v < 16
  go None at is = absurd cc
  go (Some x) at is = let same : x ≡ v = cc in subst (λ k. k < 16) same (digit_small c x at)

pair_small : (high low i byte : ℕ) → pair_value high low i ≡ Ok byte → byte < 256
pair_small high low i byte is = go (value_at high i) (value_at low (i + 1)) refl refl is where
  go : (a b : Result ℕ FromHexError) → value_at high i ≡ a → value_at low (i + 1) ≡ b → (a >>= λ h. (b >>= λ l. Ok (h * 16 + l))) ≡ Ok byte → byte < 256
  go (Ok h) (Ok l) one two is =
      let first = value_small high i h one in
      let second = value_small low (i + 1) l two in
      let same : h * 16 + l ≡ byte = cc in
      omega arith
  go (Ok h) (Err e) one two is = absurd cc
  go (Err e) b one two is = absurd cc

no_bytes : IsBytes []
no_bytes = record { fits = λ i. (omega arith) }

one_byte_more : (b : ℕ) (bytes : List ℕ) → b < 256 → IsBytes bytes → IsBytes (b ∷ bytes)
one_byte_more b bytes small rest = record { fits = λ i. go i } where
  go : (i : ℕ) → slice_index (b ∷ bytes) i < 256
  go zero = small
  go (suc i) = rest.fits i

pairs_are : (i : ℕ) (text bytes : List ℕ) → decode_pairs i text ≡ Ok bytes → IsBytes bytes
unfolding decode_pairs
pairs_are i [] bytes is = let same : ◌≡◌ {A = List ℕ} [] bytes = cc in subst IsBytes same no_bytes
pairs_are i (digit ∷ []) bytes is = absurd cc
pairs_are i (high ∷ low ∷ rest) bytes is = go (pair_value high low i) (decode_pairs (i + 2) rest) refl refl (λ others at. pairs_are (i + 2) rest others at) is where
  go : (a : Result ℕ FromHexError) (b : Result (List ℕ) FromHexError) → pair_value high low i ≡ a → decode_pairs (i + 2) rest ≡ b → ((others : List ℕ) → decode_pairs (i + 2) rest ≡ Ok others → IsBytes others)
      → (a >>= λ byte. (b >>= λ bytes. Ok (byte ∷ bytes))) ≡ Ok bytes → IsBytes bytes
  go (Ok byte) (Ok others) one two rest_are is =
      let same : byte ∷ others ≡ bytes = cc in
      subst IsBytes same (one_byte_more byte others (pair_small high low i byte one) (rest_are others two))
  go (Ok byte) (Err e) one two rest_are is = absurd cc
  go (Err e) b one two rest_are is = absurd cc

bytes_are : (word bytes : List ℕ) → bytes_in_word word ≡ Some bytes → IsBytes bytes
unfolding bytes_in_word
bytes_are word bytes is = go (bytes_eq word _) (length word == 0) (length word % 2 == 1) (decode_pairs 0 word) refl is where
  go : (a b d : Bool) (r : Result (List ℕ) FromHexError) → decode_pairs 0 word ≡ r → cond a (Some []) (cond b None (decoded_bytes (cond d (Err OddLength) r))) ≡ Some bytes → IsBytes bytes
  go true b d r at is = let same : ◌≡◌ {A = List ℕ} [] bytes = cc in subst IsBytes same no_bytes
  go false true d r at is = absurd cc
  go false false true r at is = absurd cc
  go false false false (Ok x) at is = let same : x ≡ bytes = cc in subst IsBytes same (pairs_are 0 word x at)
  go false false false (Err e) at is = absurd cc

first_bytes_are : (words : List (List ℕ)) (bytes : List ℕ) → first_bytes words ≡ Some bytes → IsBytes bytes
first_bytes_are words bytes is = let found = then_is bytes_in_word (first_word words) bytes is in bytes_are found.0 bytes found.2

-- ---- a body

bare_is : (body : BodyFields) → is_bare body ≡ true → IsBare body
bare_is body is =
    let first = and_parts (body.owner == 0 && body.seq == 0) (length body.value == 0) is in
    let second = and_parts (body.owner == 0) (body.seq == 0) first.0 in
    (is_same body.owner 0 second.0, is_same body.seq 0 second.1, nil_from_length body.value (is_same (length body.value) 0 first.1))

want_is : (kind : Kind) (bare : Bool) → (not (code_of kind == 4) || bare) ≡ true → kind ≡ Want → bare ≡ true
want_is kind bare is want = subst (λ k. (not (code_of k == 4) || bare) ≡ true) want is

body_is : (body : BodyFields) → is_body body ≡ true → IsBody body
body_is body is =
    let first = and_parts (nat_lt body.owner (2 ^ 16) && nat_lt body.seq SEQS && nat_le (length body.value) GREATEST_VALUE) (not (code_of body.kind == 4) || is_bare body) is in
    let second = and_parts (nat_lt body.owner (2 ^ 16) && nat_lt body.seq SEQS) (nat_le (length body.value) GREATEST_VALUE) first.0 in
    let third = and_parts (nat_lt body.owner (2 ^ 16)) (nat_lt body.seq SEQS) second.0 in
    record {
      owner = is_less body.owner (2 ^ 16) third.0;
      seq = is_less body.seq SEQS third.1;
      value = is_at_most (length body.value) GREATEST_VALUE second.1;
      want = λ want. bare_is body (want_is body.kind (is_bare body) first.1 want);
    }

if_body_is : (words : List (List ℕ)) (body said : BodyFields) → if_body words body ≡ Some said → IsBody said
if_body_is words body said is = go (is_body body) (is_none words) refl is where
  go : (a b : Bool) → is_body body ≡ a → cond a (cond b (Some body) None) None ≡ Some said → IsBody said
  go true true at is = let same : body ≡ said = cc in subst IsBody same (body_is body at)
  go true false at is = absurd cc
  go false b at is = absurd cc

body_in_is : (words : List (List ℕ)) (body : BodyFields) → body_in words ≡ Some body → IsBody body
unfolding body_in
body_in_is words body is =
    let kind = then_is _ (first_kind words) body is in
    let owner = then_is _ (below ACCOUNTS (drop 1 words)) body kind.2 in
    let seq = then_is _ (below SEQS (drop 1 (drop 1 words))) body owner.2 in
    let value = then_is _ (first_bytes (drop 1 (drop 1 (drop 1 words)))) body seq.2 in
    if_body_is (drop 1 (drop 1 (drop 1 (drop 1 words)))) (record { kind = kind.0; owner = owner.0; seq = seq.0; value = value.0 }) body value.2

-- ---- commands

last_is : {X : Type 0} (words : List (List ℕ)) (x y : X) → if_last words x ≡ Some y → x ≡ y
last_is words x y is = (if_is (is_none words) x y is).1

map_is : {X Y : Type 0} (f : X → Y) (o : Option X) (y : Y) → option_map f o ≡ Some y → (x : X) × (o ≡ Some x) × (f x ≡ y)
map_is f None y is = absurd cc
map_is f (Some x) y is = (x, refl, cc)

ask_fits : (words : List (List ℕ)) (command : ScriptCommand) → ask_in words ≡ Some command → FitsFrame command
unfolding ask_in
ask_fits words command is =
    let member = then_is _ (below MEMBERS words) command is in
    let payee = then_is _ (below ACCOUNTS (drop 1 words)) command member.2 in
    let amount = then_is _ (first_number (drop 1 (drop 1 words))) command payee.2 in
    subst FitsFrame (last_is (drop 1 (drop 1 (drop 1 words))) (Ask member.0 (payment_value payee.0 amount.0)) command amount.2) tt

asks_fits : (words : List (List ℕ)) (command : ScriptCommand) → asks_in words ≡ Some command → FitsFrame command
unfolding asks_in
asks_fits words command is =
    let member = then_is _ (below MEMBERS words) command is in
    let value = map_is (Ask member.0) (several_in (drop 1 words)) command member.2 in
    subst FitsFrame value.2 tt

bring_fits : (words : List (List ℕ)) (command : ScriptCommand) → bring_in words ≡ Some command → FitsFrame command
unfolding bring_in
bring_fits words command is =
    let from = then_is _ (below MEMBERS words) command is in
    let to = then_is _ (below MEMBERS (drop 1 words)) command from.2 in
    let number = then_is _ (first_number (drop 1 (drop 1 words))) command to.2 in
    subst FitsFrame (last_is (drop 1 (drop 1 (drop 1 words))) (Bring from.0 to.0 number.0) command number.2) (first_small (drop 1 (drop 1 words)) number.0 number.1)

lie_fits : (words : List (List ℕ)) (command : ScriptCommand) → lie_in words ≡ Some command → FitsFrame command
unfolding lie_in
lie_fits words command is =
    let from = then_is _ (below MEMBERS words) command is in
    let to = then_is _ (below MEMBERS (drop 1 words)) command from.2 in
    let number = then_is _ (first_turn (drop 1 (drop 1 words))) command to.2 in
    let body = map_is (Lie from.0 to.0 number.0) (body_in (drop 1 (drop 1 (drop 1 words)))) command number.2 in
    subst FitsFrame body.2
    (below_is MEMBERS words from.0 from.1, below_is MEMBERS (drop 1 words) to.0 to.1, turn_is (drop 1 (drop 1 words)) number.0 number.1, body_in_is (drop 1 (drop 1 (drop 1 words))) body.0 body.1)

raw_fits : (words : List (List ℕ)) (command : ScriptCommand) → raw_in words ≡ Some command → FitsFrame command
unfolding raw_in
raw_fits words command is =
    let to = then_is _ (below MEMBERS words) command is in
    let bytes = then_is _ (first_bytes (drop 1 words)) command to.2 in
    subst FitsFrame (last_is (drop 1 (drop 1 words)) (Raw to.0 bytes.0) command bytes.2) (first_bytes_are (drop 1 words) bytes.0 bytes.1)

alone_fits : (name : List ℕ) (words : List (List ℕ)) (command : ScriptCommand) → alone_in name words ≡ Some command → FitsFrame command
unfolding alone_in
alone_fits name words command is = go (bytes_eq name _) (bytes_eq name _) is where
  go : (a b : Bool) → cond a (if_last words All) (cond b (if_last words Show) None) ≡ Some command → FitsFrame command
  go true b is = subst FitsFrame (last_is words All command is) tt
  go false true is = subst FitsFrame (last_is words Show command is) tt
  go false false is = absurd cc

bringing_fits : (name : List ℕ) (words : List (List ℕ)) (command : ScriptCommand) → bringing_in name words ≡ Some command → FitsFrame command
unfolding bringing_in
bringing_fits name words command is = go (bytes_eq name _) (bytes_eq name _) (bytes_eq name _) is where
  go : (b d e : Bool) → cond b (bring_in words) (cond d (lie_in words) (cond e (raw_in words) (alone_in name words))) ≡ Some command → FitsFrame command
  go true d e is = bring_fits words command is
  go false true e is = lie_fits words command is
  go false false true is = raw_fits words command is
  go false false false is = alone_fits name words command is

named_fits : (words : List (List ℕ)) (name : List ℕ) (command : ScriptCommand) → command_of words name ≡ Some command → FitsFrame command
named_fits words name command is = go (bytes_eq name _) (bytes_eq name _) is where
  go : (a s : Bool) → cond a (ask_in words) (cond s (asks_in words) (bringing_in name words)) ≡ Some command → FitsFrame command
  go true s is = ask_fits words command is
  go false true is = asks_fits words command is
  go false false is = bringing_fits name words command is

command_fits : (line : List ℕ) (command : ScriptCommand) → script_command_in line ≡ Some command → FitsFrame command
unfolding script_command_in
command_fits line command is =
    let found = then_is (command_of (drop 1 (words_of line))) (first_word (words_of line)) command is in
    named_fits (drop 1 (words_of line)) found.0 command found.2

pub asked_fits : (line : List ℕ) → AskedFits (script_command_in line)
asked_fits line = go (script_command_in line) refl where
  go : (o : Option ScriptCommand) → script_command_in line ≡ o → AskedFits o
  go None is = tt
  go (Some command) is = command_fits line command is
