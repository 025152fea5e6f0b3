-- A frame that was taken has a number that can be counted on from: there are as many entries at least.
use Rattle.std.proofs.Common.{◌≡◌, ◌⊎◌, inl, inr, ℕ, ◌+◌, ◌<◌, ◌≤◌, ◌^◌, true, false, ltb, Option, Some, None, Result, Ok, Err, IfOk, List, [], ◌∷◌, length, refl, sym, ap, ◌∙◌, arith}
use Rattle.std.specs.List.{filter_map}
use Rattle.std.proofs.lemmas.List.{length_push}
use Rattle.std.proofs.lemmas.List.Sums.{count_by-le-length}
use Rattle.std.proofs.lemmas.Bool.{cases_Bool, ltb-false, cond-true, cond-false}
use Rattle.pay_channel.specs.History as channel
use Rattle.pay_channel.specs.Taken.{is_from, next}
use Rattle.pay_channel.specs.TakenLaws.{NextIsCount}
use Rattle.pay_link.specs.Checked.{CheckedFields}
use Rattle.pay_member.specs.Answer.{IsAnswer, answer_of_take}
use Rattle.pay_member.specs.declared.event.HistoryEntry.{HistoryEntry}
use Rattle.pay_member.specs.declared.event.Event.TheVariants.{Taken}
use Rattle.pay_member.specs.declared.event.Reply.TheVariants as reply
use Rattle.pay_member.specs.declared.fault.TakeFault.{TakeFault}
use Rattle.pay_member.specs.declared.event.Took.{Took}
use Rattle.pay_member.specs.Events.{channel_event, events}
use Rattle.pay_member.specs.Member.{MemberFields, with_entry}
use Rattle.pay_member.specs.Refusal.{refusal, is_for_member, turn_refusal}

length-events : (history : List HistoryEntry) → length (events history) ≤ length history
unfolding events
length-events [] = omega arith
length-events (x ∷ history) = go (channel_event x.event) refl (length-events history) where
  go : (o : Option channel.Event) → channel_event x.event ≡ o
      → length (filter_map (λ (y : HistoryEntry). channel_event y.event) history) ≤ length history
      → length (filter_map (λ (y : HistoryEntry). channel_event y.event) (x ∷ history)) ≤ length (x ∷ history)
  go None is more = rw is (omega arith)
  go (Some e) is more = rw is (omega arith)

some_none : {X : Type 0} (x : X) → Some x ≡ None → ⊥
some_none x same = cc

in_turn : (wanted number : ℕ) → turn_refusal wanted number ≡ None → number ≤ wanted
in_turn wanted number is = go (cases_Bool (ltb number wanted)) where
  above : (ltb wanted number ≡ true) ⊎ (ltb wanted number ≡ false) → ltb number wanted ≡ false → number ≤ wanted
  above (inl gap) past = absurd (some_none _ (sym (cond-true _ _ _ gap) ∙ sym (cond-false _ _ _ past) ∙ is))
  above (inr fits) past = ltb-false wanted number fits

  go : (ltb number wanted ≡ true) ⊎ (ltb number wanted ≡ false) → number ≤ wanted
  go (inl repeat) = absurd (some_none _ (sym (cond-true _ _ _ repeat) ∙ is))
  go (inr past) = above (cases_Bool (ltb wanted number)) past

taken_in_turn : (m : MemberFields) (c : CheckedFields) → refusal m.genesis m.keys (events m.history) (Taken c) ≡ None → c.frame.number ≤ next c.frame.from (events m.history)
taken_in_turn m c is = go (cases_Bool (is_for_member m.keys c)) where
  go : (is_for_member m.keys c ≡ true) ⊎ (is_for_member m.keys c ≡ false) → c.frame.number ≤ next c.frame.from (events m.history)
  go (inl mine) = in_turn _ _ (sym (cond-true _ _ _ mine) ∙ is)
  go (inr other) = absurd (some_none _ (sym (cond-false _ _ _ other) ∙ is))

pub has_next :
    NextIsCount → (m now : MemberFields) (stamp : ℕ) (c : CheckedFields) (answer : Result Took TakeFault) → IsAnswer m (Taken c) (answer_of_take answer)
    → IfOk (answer_of_take answer) (λ reply. now ≡ with_entry m (record { stamp = stamp; event = Taken c; reply = reply }))
    → length now.history < 2 ^ 64 → IfOk answer (λ _. c.frame.number + 1 < 2 ^ 64)
has_next count m now stamp c (Err fault) is entry few = tt
has_next count m now stamp c (Ok took) is entry few =
    let e : HistoryEntry = record { stamp = stamp; event = Taken c; reply = reply.Took took } in
    let turn = taken_in_turn m c is.0 in
    let counted = count c.frame.from (events m.history) in
    let few_from = count_by-le-length (is_from c.frame.from) (events m.history) in
    let few_events = length-events m.history in
    let more = length_push m.history e in
    let same = ap (λ (x : MemberFields). length x.history) entry in
    omega arith
