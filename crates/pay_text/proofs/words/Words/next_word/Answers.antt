use Rattle.std.proofs.Common.{◌≡◌, ◌+◌, ℕ, List, drop, sym, ◌∙◌, ap}
use Rattle.std.specs.Option.{option_copied}
use Rattle.pay_text.specs.Words.{words_of, words_in, first_word}
use Rattle.pay_text.proofs.Splitting.{words_at_blank, words_without_blank, rest_of}
use Rattle.pay_text.proofs.words.Words.next_word.Goals as goal

pub returns-in-Some-clause-word : goal.returns-in-Some-clause-word
returns-in-Some-clause-word c =
    let rest = c.in_ok-rest.rest.now in
    let is : c.args.self.now ≡ words_of rest = sym c.self.view_is ∙ ap (λ r. words_in (option_copied r)) c.in_ok-rest.was in
    sym (ap first_word (is ∙ words_at_blank rest c.in-Some.at (sym c.blank_in.ensures ∙ c.in-Some.is)))

pub returns-in-Some-clause-rest : goal.returns-in-Some-clause-rest
returns-in-Some-clause-rest c =
    let rest = c.in_ok-rest.rest.now in
    let is : c.args.self.now ≡ words_of rest = sym c.self.view_is ∙ ap (λ r. words_in (option_copied r)) c.in_ok-rest.was in
    ap words_of (rest_of rest (c.in-Some.at + 1))
    ∙ sym (ap (λ (ws : List (List ℕ)). drop 1 ws) (is ∙ words_at_blank rest c.in-Some.at (sym c.blank_in.ensures ∙ c.in-Some.is)))

pub returns-in-None-clause-word : goal.returns-in-None-clause-word
returns-in-None-clause-word c =
    let rest = c.in_ok-rest.rest.now in
    let is : c.args.self.now ≡ words_of rest = sym c.self.view_is ∙ ap (λ r. words_in (option_copied r)) c.in_ok-rest.was in
    sym (ap first_word (is ∙ words_without_blank rest (sym c.blank_in.ensures ∙ c.in-None.is)))

pub returns-in-None-clause-rest : goal.returns-in-None-clause-rest
returns-in-None-clause-rest c =
    let rest = c.in_ok-rest.rest.now in
    let is : c.args.self.now ≡ words_of rest = sym c.self.view_is ∙ ap (λ r. words_in (option_copied r)) c.in_ok-rest.was in
    sym (ap (λ (ws : List (List ℕ)). drop 1 ws) (is ∙ words_without_blank rest (sym c.blank_in.ensures ∙ c.in-None.is)))
