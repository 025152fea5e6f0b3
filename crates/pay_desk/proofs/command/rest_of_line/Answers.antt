use Rattle.std.proofs.Common.{◌≡◌, ◌<◌, ◌++◌, ◌∷◌, [], ℕ, List, Some, length, sym, ◌∙◌, ap, subst}
use Rattle.pay_text.specs.Words.{blank, joined_words}
use Rattle.pay_desk.proofs.Joining.{fewer, next_word, no_word, one_word}
use Rattle.pay_desk.proofs.command.rest_of_line.Goals as goal

pub loop-word-init : goal.loop-word-init
loop-word-init c =
    ap (λ (rest : List ℕ). Some (joined_words rest c.next_word.new.self)) c.in_ok-rest.ensures.items
    ∙ ap (λ (words : List (List ℕ)). Some (joined_words c.in-Some.first.now words)) c.in-Some.ensures.rest
    ∙ one_word c.args.words.now c.in-Some.first.now c.in-Some.ensures.word

pub loop-word-preserved : goal.loop-word-preserved
loop-word-preserved c =
    let word = c.in-Some-next_word.word.now in
    let before = c.loop-word.rest.items in
    let now : c.extend_from_slice.new.self.items ≡ (before ++ blank ∷ []) ++ word =
    c.in_ok-extend_from_slice.ensures.items ∙ ap (λ (rest : List ℕ). rest ++ word) c.in_ok-push.ensures.items in
    ap (λ (rest : List ℕ). Some (joined_words rest c.next_word-in-loop-word.new.self)) now
    ∙ ap (λ (words : List (List ℕ)). Some (joined_words ((before ++ blank ∷ []) ++ word) words)) c.in-Some-next_word.ensures.rest
    ∙ ap Some (next_word c.loop-word.words before word c.in-Some-next_word.ensures.word)
    ∙ c.loop-word.invariant

pub loop-word-smaller : goal.loop-word-smaller
loop-word-smaller c =
    subst (λ (words : List (List ℕ)). length words < length c.loop-word.words) (sym c.in-Some-next_word.ensures.rest)
    (fewer c.loop-word.words c.in-Some-next_word.word.now c.in-Some-next_word.ensures.word)

pub returns : goal.returns
returns c =
    ap Some (c.in_ok-new.ensures.value ∙ sym (no_word c.loop-word.words c.loop-word.rest.items c.in_default-next_word.ensures.word))
    ∙ c.loop-word.invariant
