use Rattle.std.proofs.Common.{◌≢◌, ℕ, ◌<◌, List, All, refl, arith}
use Rattle.std.proofs.lemmas.List.Elements.{All-from_recursion}
use Rattle.pay_frame.specs.declared.body.Kind.TheVariants.{Send, Ready}
use Rattle.pay_echo.specs.Broadcast.{value_of, value_if_send, echoed_by, readied_by, first_known, size, is_for, echoed, echo_of, echo_set, other_ready_of, other_ready_set, may_ready, readied, ready_of, ready_set, may_deliver, delivered}
use Rattle.pay_channel.specs.History.{IsEvent, body_of, From, asks, votes_in, votes, says, out}
use Rattle.pay_channel.specs.Asked.{asked_values}
use Rattle.pay_channel.specs.Examples.{four, late_first_number, X, Y}
use Rattle.pay_channel.proofs.laws.late_first_number_asked.Goals as goal

ready : (p s : ℕ) (v : List ℕ) → p < 4 → p ≢ 0 → IsEvent four (From p (body_of Ready 3 s v))
ready p s v member other = (member, other, omega arith, λ e. cc)

send : IsEvent four (From 1 (body_of Send 3 0 Y))
send = (omega arith, λ e. omega arith, omega arith, λ e. cc)

-- members of the group sent all of them, and the value is short
events : All (IsEvent four) late_first_number
events =
    let first = ready 1 1 X (omega arith) (λ e. omega arith) in
    let second = ready 2 1 X (omega arith) (λ e. omega arith) in
    let third = ready 1 0 Y (omega arith) (λ e. omega arith) in
    let fourth = ready 2 0 Y (omega arith) (λ e. omega arith) in
    All-from_recursion (IsEvent four) late_first_number (first, (second, (third, (fourth, (send, (omega arith, tt))))))

pub returns : goal.returns
unfolding value_of value_if_send echoed_by readied_by first_known size is_for echoed echo_of echo_set other_ready_of other_ready_set may_ready readied ready_of ready_set may_deliver delivered asks votes_in votes says out asked_values
returns c = record { events = events; asked = refl; sends = refl; echo = refl; again = refl; numbered = refl; forged = refl }
