use Rattle.std.proofs.Common.{rules, ◌≡◌, ◌≢◌, ◌<◌, ◌^◌, ℕ, Ok, Some, Option, Bor, List, [], ◌∷◌, ◌++◌, decimal, arith, sym, ◌∙◌, subst, ap}
use Rattle.std.specs.Option.{MatchOption}
use Rattle.std.specs.Str.{IsAscii, IsUtf8}
use Rattle.std.proofs.lemmas.Fmt.{parse-decimal, IsAscii-decimal}
use Rattle.std.proofs.lemmas.List.{append_cancel_right}
use Rattle.std.proofs.lemmas.Str.{IsUtf8-from_ascii, IsAscii-append}
use Rattle.std.proofs.lemmas.Str.Pattern.{strip_suffix_char}
use Rattle.pay_log.specs.Ended.{ended_text}
use Rattle.pay_log.proofs.folder.length_in.Goals as goal

ended_utf8 : (len : ℕ) → len < 2 ^ 64 → IsUtf8 (ended_text len)
ended_utf8 len small =
    let line : IsAscii (10 ∷ []) = search rules in
    IsUtf8-from_ascii (ended_text len) (IsAscii-append (decimal len) (10 ∷ []) (IsAscii-decimal len small) line)

-- what is left of a text without its line feed, if it has one
abbrev Cuts : List ℕ → Option (Bor (List ℕ)) → Type 0
Cuts text r = MatchOption r ((front : List ℕ) → text ≢ front ++ (10 ∷ [])) (λ x. text ≡ x.now ++ (10 ∷ []))

number_is :
    (text : List ℕ) (cut : Option (Bor (List ℕ))) (number : Bor (List ℕ)) (len : ℕ) → Cuts text cut → cut ≡ Some number → text ≡ ended_text len
    → number.now ≡ decimal len
number_is text cut number len cuts some is =
    append_cancel_right number.now (decimal len) (10 ∷ []) (sym (subst (Cuts text) some cuts) ∙ is)

pub returns-in_default-clause-changed : goal.returns-in_default-clause-changed
returns-in_default-clause-changed c said len small is = c.in_default.ensures.cases.0 (subst IsUtf8 (sym is) (ended_utf8 len small))

pub returns-in_default-parse-clause-changed : goal.returns-in_default-parse-clause-changed
returns-in_default-parse-clause-changed c said len small is =
    let text : List ℕ = c.in-Ok.text.now in
    let same : text ≡ c.args.bytes.now = search rules in
    let cuts = strip_suffix_char 10 text c.strip_suffix.result c.strip_suffix.ensures.cases (omega arith) in
    let read = number_is text c.strip_suffix.result c.in-Some.number len cuts c.in-Some.is (same ∙ is) in
    c.in_default-parse.not-Ok len (parse-decimal 64 len c.in-Some.number.now c.parse.result small small read c.parse.ensures.value.0)

pub returns-clause-changed : goal.returns-clause-changed
returns-clause-changed c said len small is =
    let text : List ℕ = c.in-Ok.text.now in
    let same : text ≡ c.args.bytes.now = search rules in
    let cuts = strip_suffix_char 10 text c.strip_suffix.result c.strip_suffix.ensures.cases (omega arith) in
    let read = number_is text c.strip_suffix.result c.in-Some.number len cuts c.in-Some.is (same ∙ is) in
    let parsed : c.parse.result ≡ Ok len = parse-decimal 64 len c.in-Some.number.now c.parse.result small small read c.parse.ensures.value.0 in
    let length_is : c.in-Ok-parse.len ≡ len = search (rules, parsed) in
    search (rules, ap ended_text length_is, is)
