-- The answers to a client's lines, and the desk that one line more made.
use Rattle.std.proofs.Common.{◌≡◌, ℕ, Bool, true, false, List, [], ◌∷◌, ◌++◌, Ok, Err, Some, None, refl, sym, ap, ◌∙◌, subst, append-nil, append_assoc}
use Rattle.std.specs.Prelude.{IfOk, OnErr, Option, Result}
use Rattle.std.specs.Io.KnownBytes.{IsAtEnd}
use Rattle.pay_desk.specs.declared.command.TheConstants.{MOST_LINE}
use Rattle.pay_desk.specs.declared.desk.Desk.{Desk}
use Rattle.pay_channel.specs.Asked.{asked_values}
use Rattle.pay_desk.specs.Desk.{DeskSays}
use Rattle.pay_desk.specs.Laws.{LinesKeepAll}
use Rattle.pay_frame.specs.declared.device.StreamFault.{StreamFault}
use Rattle.pay_member.specs.Events.{events}
use Rattle.pay_net.specs.Desks.{AnswersClient, IsMadeOf, WritesClient, client_answering, desk_streams, first_desk}
use Rattle.pay_net.specs.DeskLaws.{ClientsAskOnce}
use Rattle.pay_peers.specs.Telling.{TellerFields, TellerSays, values_told}
use Rattle.pay_text.specs.Answers.{Answers, Either}
use Rattle.pay_text.specs.Engine.{WritesByEnd}
use Rattle.pay_text.specs.Lines.{lines_within}

-- ---- a client

abbrev client_says : Desk TellerFields → Unit {0} → Option (List ℕ) → List ℕ → Bool → Unit {0} → Type 0
client_says first = (client_answering first).says

goes_on : (first : Desk TellerFields) (lines : List (Option (List ℕ))) (old new : Unit {0}) (text : List ℕ) (on : Bool) → Answers (client_says first) old lines text on new → on ≡ true
goes_on first [] old new text on (silent, goes, same) = goes
goes_on first (line ∷ lines) old new text on (one, rest, true, mid, said, parts, after) = goes_on first lines mid new rest on after
goes_on first (line ∷ lines) old new text on (one, rest, false, mid, said, parts, after) = absurd (let bad : false ≡ true = said.said.on in cc)

-- an engine that ended well came to the input's end
pub to_end : (first : Desk TellerFields) (old new : Unit {0}) (input left before after : Option (List ℕ)) (on : Bool)
    → WritesByEnd (client_answering first) MOST_LINE (record { answerer = old; written = before }) (record { answerer = new; written = after }) input left (Ok on)
    → WritesClient first (desk_streams input left before after) (Ok tt)
to_end first old new None left before after on (all, end) = tt
to_end first old new (Some bytes) left before after on (all, end) =
    let e : on ≡ true = goes_on first (lines_within MOST_LINE bytes) old new all.text on all.answers in (
      record { text = all.text; answers = subst (λ (b : Bool). Answers (client_says first) old (lines_within MOST_LINE bytes) all.text b new) e all.answers; written = all.written },
      subst (λ (b : Bool). Either b (IsAtEnd left) Unit) e end,
    )

pub broken_off : (first : Desk TellerFields) (old new : Unit {0}) (input left before after : Option (List ℕ)) (fault : StreamFault)
    → WritesByEnd (client_answering first) MOST_LINE (record { answerer = old; written = before }) (record { answerer = new; written = after }) input left (Err fault)
    → WritesClient first (desk_streams input left before after) (Err fault)
broken_off first old new input left before after fault w = w

-- ---- a desk

more : (lines : List (Option (List ℕ))) (a old new : Desk TellerFields) (text : List ℕ) (line : Option (List ℕ)) (t : List ℕ)
    → Answers (DeskSays TellerSays) a lines text true old → DeskSays TellerSays old line t true new
    → Answers (DeskSays TellerSays) a (lines ++ line ∷ []) (text ++ t) true new
more [] a old new text line t (silent, goes, same) said =
    (t, [], true, new, subst (λ (d : Desk TellerFields). DeskSays TellerSays d line t true new) same said, ap (λ x. x ++ t) silent ∙ sym (append-nil t), (refl, refl, refl))
more (l ∷ lines) a old new text line t (one, rest, true, mid, says, parts, after) said =
    (one, rest ++ t, true, mid, says, ap (λ x. x ++ t) parts ∙ append_assoc one rest t, more lines mid old new rest line t after said)
more (l ∷ lines) a old new text line t (one, rest, false, mid, says, parts, after) said = absurd (let bad : true ≡ false = after.over in cc)

-- no line made the first desk
pub made_of_none : (first desk : Desk TellerFields) → desk ≡ first → IsMadeOf first desk
made_of_none first desk same = record { lines = []; text = []; answers = (refl, refl, same) }

-- and one line more makes this
made_by_line : (first old new : Desk TellerFields) (line : Option (List ℕ)) (text : List ℕ) (on : Bool)
    → IsMadeOf first old → DeskSays TellerSays old line text on new → IsMadeOf first new
made_by_line first old new line text on made said = record {
  lines = made.lines ++ line ∷ [];
  text = made.text ++ text;
  answers = more made.lines first old new made.text line text made.answers (record { on = refl; answer = said.answer });
}

-- the same by what a call answered; where memory was refused it is as it was
pub made_after : {A E : Type 0} (first old new : Desk TellerFields) (line : Option (List ℕ)) (text : A → List ℕ) (on : A → Bool) (r : Result A E)
    → IsMadeOf first old → IfOk r (λ a. DeskSays TellerSays old line (text a) (on a) new) → OnErr r (new ≡ old) → IsMadeOf first new
made_after first old new line text on (Ok a) made said same = made_by_line first old new line (text a) (on a) made said
made_after first old new line text on (Err e) made said same = subst (IsMadeOf first) (sym same) made

-- ---- what it keeps

pub asks_once : LinesKeepAll TellerSays (λ t. values_told t.seat.receipts) → ClientsAskOnce
unfolding values_told
asks_once keep n history kept desk of made =
    keep (asked_values (events history)) (first_desk n kept) desk made.lines made.text true made.answers
    (record { values = of.values ∙ sym (append-nil (asked_values (events history))); free = of.free })
