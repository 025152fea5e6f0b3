-- What the lines of a script request, word by word.
use Rattle.std.specs.Prelude.{ℕ, ◌==◌, nat_lt, List, [], length, drop, codes, if◌then◌else◌, Option}
use Rattle.std.specs.Prelude.{Some, None, option_and_then, option_map, Result, Ok, Err}
use Rattle.std.specs.Str.{bytes_eq}
use Rattle.hex.specs.Hex.{decode_of}
use Rattle.hex.specs.declared.error.FromHexError.{FromHexError}
use Rattle.pay_frame.specs.declared.body.Kind.{Kind}
use Rattle.pay_frame.specs.declared.body.Kind.TheVariants.{Send, Echo, Ready, Want}
use Rattle.pay_frame.specs.declared.limits.TheConstants.{SEQS}
use Rattle.pay_frame.specs.Frame.{BodyFields}
use Rattle.pay_frame.specs.OneFrame.{is_body}
use Rattle.pay_text.specs.Words.{words_of, first_word, is_none}
use Rattle.pay_text.specs.Numbers.{number_of, first_number}
use Rattle.pay_text.specs.Pairs.{pairs_within}
use Rattle.pay_book.specs.declared.payment.TheConstants.{MOST_PAYMENTS}
use Rattle.pay_book.specs.Payment.{payment_value, payments_named, payments_value}
use Rattle.pay_sim.specs.declared.command.ScriptCommand.{ScriptCommand}
use Rattle.pay_sim.specs.declared.command.ScriptCommand.TheVariants.{Ask, Bring, Lie, Raw, All}
use Rattle.pay_sim.specs.declared.command.ScriptCommand.TheVariants.{Show}
use Rattle.pay_sim.specs.declared.command.TheConstants.{MEMBERS, ACCOUNTS}

-- ---- single words

-- a number below a bound
abbrev pub if_below : ℕ → ℕ → Option ℕ
if_below bound n = if nat_lt n bound then Some n else None

abbrev pub below : ℕ → List (List ℕ) → Option ℕ
below bound words = option_and_then (if_below bound) (first_number words)

abbrev pub decoded_bytes : Result (List ℕ) FromHexError → Option (List ℕ)
decoded_bytes (Ok bytes) = Some bytes
decoded_bytes (Err fault) = None

-- bytes in hexadecimal digits of either case, or `-` for none; an empty word isn't allowed
unfoldable pub bytes_in_word : List ℕ → Option (List ℕ)
bytes_in_word word =
    if bytes_eq word (codes "-") then Some []
    else if length word == 0 then None
    else decoded_bytes (decode_of word)

abbrev pub first_bytes : List (List ℕ) → Option (List ℕ)
first_bytes words = option_and_then bytes_in_word (first_word words)

unfoldable pub kind_in_word : List ℕ → Option Kind
kind_in_word word =
    if bytes_eq word (codes "send") then Some Send
    else if bytes_eq word (codes "echo") then Some Echo
    else if bytes_eq word (codes "ready") then Some Ready
    else if bytes_eq word (codes "want") then Some Want
    else None

abbrev pub first_kind : List (List ℕ) → Option Kind
first_kind words = option_and_then kind_in_word (first_word words)

-- a frame's number, or `next`
unfoldable pub turn_in_word : List ℕ → Option (Option ℕ)
turn_in_word word =
    if bytes_eq word (codes "next") then Some None else option_map Some (number_of word)

abbrev pub first_turn : List (List ℕ) → Option (Option ℕ)
first_turn words = option_and_then turn_in_word (first_word words)

-- ---- commands, by the words after their names

abbrev pub if_last : {X : Type 0} → List (List ℕ) → X → Option X
if_last words x = if is_none words then Some x else None

-- `I PAYEE AMOUNT`
unfoldable pub ask_in : List (List ℕ) → Option ScriptCommand
ask_in words =
    option_and_then (λ member. option_and_then (λ payee. option_and_then (λ amount.
    if_last (drop 1 (drop 1 (drop 1 words))) (Ask member (payment_value payee amount)))
    (first_number (drop 1 (drop 1 words))))
    (below ACCOUNTS (drop 1 words)))
    (below MEMBERS words)

-- `PAYEE AMOUNT ..`, which are the last words: the value of 1 to 32 payments
unfoldable pub several_in : List (List ℕ) → Option (List ℕ)
several_in words =
    option_map payments_value (option_and_then payments_named (pairs_within MOST_PAYMENTS words))

-- `I PAYEE AMOUNT ..`
unfoldable pub asks_in : List (List ℕ) → Option ScriptCommand
asks_in words =
    option_and_then (λ member. option_map (Ask member) (several_in (drop 1 words)))
    (below MEMBERS words)

-- `FROM TO M`
unfoldable pub bring_in : List (List ℕ) → Option ScriptCommand
bring_in words =
    option_and_then (λ from. option_and_then (λ to. option_and_then (λ number.
    if_last (drop 1 (drop 1 (drop 1 words))) (Bring from to number))
    (first_number (drop 1 (drop 1 words))))
    (below MEMBERS (drop 1 words)))
    (below MEMBERS words)

-- a body within a frame's limits, after which no word is left
abbrev pub if_body : List (List ℕ) → BodyFields → Option BodyFields
if_body words body = if is_body body then if_last words body else None

-- `KIND OWNER SEQ VALUE`, which are the last words, within a frame's limits
unfoldable pub body_in : List (List ℕ) → Option BodyFields
body_in words =
    option_and_then
    (λ kind. option_and_then (λ owner. option_and_then (λ seq. option_and_then (λ value.
    if_body (drop 1 (drop 1 (drop 1 (drop 1 words))))
    (record { kind = kind; owner = owner; seq = seq; value = value }))
    (first_bytes (drop 1 (drop 1 (drop 1 words)))))
    (below SEQS (drop 1 (drop 1 words))))
    (below ACCOUNTS (drop 1 words)))
    (first_kind words)

-- `FROM TO M` and a body
unfoldable pub lie_in : List (List ℕ) → Option ScriptCommand
lie_in words =
    option_and_then (λ from. option_and_then (λ to. option_and_then (λ number.
    option_map (Lie from to number) (body_in (drop 1 (drop 1 (drop 1 words)))))
    (first_turn (drop 1 (drop 1 words))))
    (below MEMBERS (drop 1 words)))
    (below MEMBERS words)

-- `TO HEX`
unfoldable pub raw_in : List (List ℕ) → Option ScriptCommand
raw_in words =
    option_and_then (λ to. option_and_then (λ bytes.
    if_last (drop 1 (drop 1 words)) (Raw to bytes))
    (first_bytes (drop 1 words)))
    (below MEMBERS words)

-- a name that is a command by itself
unfoldable pub alone_in : List ℕ → List (List ℕ) → Option ScriptCommand
alone_in name words =
    if bytes_eq name (codes "all") then if_last words All
    else if bytes_eq name (codes "show") then if_last words Show
    else None

-- the command of a name that delivers something, or that is a command by itself
unfoldable pub bringing_in : List ℕ → List (List ℕ) → Option ScriptCommand
bringing_in name words =
    if bytes_eq name (codes "bring") then bring_in words
    else if bytes_eq name (codes "lie") then lie_in words
    else if bytes_eq name (codes "raw") then raw_in words
    else alone_in name words

-- the command of this name
abbrev pub command_of : List (List ℕ) → List ℕ → Option ScriptCommand
command_of words name =
    if bytes_eq name (codes "ask") then ask_in words
    else if bytes_eq name (codes "asks") then asks_in words
    else bringing_in name words

unfoldable pub script_command_in : List ℕ → Option ScriptCommand
script_command_in line =
    option_and_then (command_of (drop 1 (words_of line))) (first_word (words_of line))
