-- What a member answers to a frame that opened, and what it is then.
use Rattle.std.proofs.Common.{◌≡◌, ◌≢◌, ◌⊎◌, inl, inr, ℕ, ◌<◌, Bool, true, false, cond, eqb, ltb, List, ◌++◌, Option, Some, None, Result, Ok, Err, MatchOption, IsOkUnless, refl, sym, ap, ◌∙◌, subst, rules, append-nil}
use Rattle.std.specs.Bool.{⊤}
use Rattle.std.specs.Option.{option_and_then, option_map, option_to_list}
use Rattle.std.proofs.lemmas.Bool.{cases_order}
use Rattle.pay_frame.specs.declared.reading.FrameFault.{FrameFault}
use Rattle.pay_frame.specs.Frame.{FrameFields}
use Rattle.pay_channel.specs.History as channel
use Rattle.pay_channel.specs.Taken.{next}
use Rattle.pay_link.specs.Genesis.{GenesisFields}
use Rattle.pay_link.specs.Keys.{KeyFields}
use Rattle.pay_link.specs.Checked.{CheckedFields, IsFor}
use Rattle.pay_link.specs.Fronts.{turn}
use Rattle.pay_link.specs.declared.opened.LinkFault.{LinkFault}
use Rattle.pay_link.specs.declared.opened.LinkFault.TheVariants as link
use Rattle.pay_member.specs.declared.event.Event.TheVariants.{Taken}
use Rattle.pay_member.specs.declared.fault.MemberFault.{MemberFault}
use Rattle.pay_member.specs.declared.fault.MemberFault.TheVariants.{Memory, Repeat, Gap}
use Rattle.pay_member.specs.declared.bringing.Incoming.{Incoming}
use Rattle.pay_member.specs.declared.bringing.Incoming.TheVariants.{Message, Want}
use Rattle.pay_member.specs.declared.bringing.Outcome.{Outcome}
use Rattle.pay_member.specs.declared.bringing.Outcome.TheVariants as outcome
use Rattle.pay_member.specs.declared.event.Reply.{Reply}
use Rattle.pay_member.specs.declared.event.Reply.TheVariants as reply
use Rattle.pay_member.specs.declared.fault.TakeFault.{TakeFault}
use Rattle.pay_member.specs.declared.fault.TakeFault.TheVariants as take
use Rattle.pay_member.specs.declared.event.Took.{Took}
use Rattle.pay_member.specs.Answer.{answer_of_take}
use Rattle.pay_member.specs.Events.{events}
use Rattle.pay_member.specs.Refusal.{refusal, turn_refusal}
use Rattle.pay_member.specs.Reply.{took_by}
use Rattle.pay_member.specs.Member.{MemberFields}
use Rattle.pay_member.specs.Bringing.{event_of_frame, event_in, opened_in, outcome_of_judged, answer_to, incoming_at, outcome_of, outcome_to, want_for, want_after, with_taken}
use Rattle.pay_member.proofs.Members.{events-push}

-- ---- what taking a frame for this member answers

abbrev pub Answers : Option MemberFault → Result Took TakeFault → Type 0
Answers refused r = MatchOption refused (IsOkUnless r take.Memory) (λ fault. answer_of_take r ≡ Err fault)

refusal_for :
    (g : GenesisFields) (k : KeyFields) (before : List channel.Event) (c : CheckedFields) → IsFor k c
    → refusal g k before (Taken c) ≡ turn_refusal (next c.frame.from before) c.frame.number
refusal_for g k before c mine = search rules

ok_err : {A E : Type 0} (x : A) (e : E) → ◌≡◌ {A = Result A E} (Ok x) (Err e) → ⊥
ok_err x e same = cc

err_is : {A E : Type 0} (d e : E) → ◌≡◌ {A = Result A E} (Err d) (Err e) → d ≡ e
err_is d e same = cc

equal_taken : (n number : ℕ) → number ≡ n → turn_refusal n number ≡ None
equal_taken n number same = search rules

below_repeats : (n number : ℕ) → number < n → turn_refusal n number ≡ Some (Repeat n)
below_repeats n number below = search rules

above_gaps : (n number : ℕ) → n < number → turn_refusal n number ≡ Some (Gap n)
above_gaps n number above = search rules

repeat_is : (told n : ℕ) → Repeat told ≡ Repeat n → n ≡ told
repeat_is told n same = cc

gap_is : (told n : ℕ) → Gap told ≡ Gap n → n ≡ told
gap_is told n same = cc

repeat_no_gap : (told n : ℕ) → Repeat told ≡ Gap n → ⊥
repeat_no_gap told n same = cc

repeat_no_memory : (told : ℕ) → take.Repeat told ≡ take.Memory → ⊥
repeat_no_memory told same = cc

gap_no_memory : (told : ℕ) → take.Gap told ≡ take.Memory → ⊥
gap_no_memory told same = cc

memory_no_repeat : (told : ℕ) → Memory ≡ Repeat told → ⊥
memory_no_repeat told same = cc

memory_no_gap : (told : ℕ) → Memory ≡ Gap told → ⊥
memory_no_gap told same = cc

turned_ok : (n number : ℕ) (took : Took) → Answers (turn_refusal n number) (Ok took) → turn n number ≡ Ok tt
turned_ok n number took answers = go (cases_order number n) where
  go : (number ≡ n) ⊎ ((number < n) ⊎ (n < number)) → turn n number ≡ Ok tt
  go (inl same) = search rules
  go (inr (inl below)) = absurd (ok_err (reply.Took took) (Repeat n) (subst (λ o. Answers o (Ok took)) (below_repeats n number below) answers))
  go (inr (inr above)) = absurd (ok_err (reply.Took took) (Gap n) (subst (λ o. Answers o (Ok took)) (above_gaps n number above) answers))

turned_repeat : (n number told : ℕ) → Answers (turn_refusal n number) (Err (take.Repeat told)) → turn n number ≡ Err (link.Repeat told)
turned_repeat n number told answers = go (cases_order number n) where
  At : Option MemberFault → Type 0
  At o = Answers o (Err (take.Repeat told))

  here : number < n → turn n number ≡ Err (link.Repeat n)
  here below = search rules

  go : (number ≡ n) ⊎ ((number < n) ⊎ (n < number)) → turn n number ≡ Err (link.Repeat told)
  go (inl same) = absurd (repeat_no_memory told (subst At (equal_taken n number same) answers))
  go (inr (inl below)) =
      let is = repeat_is told n (err_is {A = Reply} (Repeat told) (Repeat n) (subst At (below_repeats n number below) answers)) in
      here below ∙ ap (λ t. Err (link.Repeat t)) is
  go (inr (inr above)) = absurd (repeat_no_gap told n (err_is {A = Reply} (Repeat told) (Gap n) (subst At (above_gaps n number above) answers)))

turned_gap : (n number told : ℕ) → Answers (turn_refusal n number) (Err (take.Gap told)) → turn n number ≡ Err (link.Gap told)
turned_gap n number told answers = go (cases_order number n) where
  At : Option MemberFault → Type 0
  At o = Answers o (Err (take.Gap told))

  here : n < number → turn n number ≡ Err (link.Gap n)
  here above = search rules

  go : (number ≡ n) ⊎ ((number < n) ⊎ (n < number)) → turn n number ≡ Err (link.Gap told)
  go (inl same) = absurd (gap_no_memory told (subst At (equal_taken n number same) answers))
  go (inr (inl below)) = absurd (repeat_no_gap n told (sym (err_is {A = Reply} (Gap told) (Repeat n) (subst At (below_repeats n number below) answers))))
  go (inr (inr above)) =
      let is = gap_is told n (err_is {A = Reply} (Gap told) (Gap n) (subst At (above_gaps n number above) answers)) in
      here above ∙ ap (λ t. Err (link.Gap t)) is

pub answers_took :
    (g : GenesisFields) (k : KeyFields) (before : List channel.Event) (c : CheckedFields) (took : Took) → IsFor k c
    → Answers (refusal g k before (Taken c)) (Ok took) → took ≡ took_by g k.own before (channel.From c.frame.from c.frame.body)
    → outcome.Took took ≡ answer_to g k.own before c.frame
unfolding answer_to
answers_took g k before c took mine answers is =
    let turned = turned_ok (next c.frame.from before) c.frame.number took (subst (λ o. Answers o (Ok took)) (refusal_for g k before c mine) answers) in
    ap outcome.Took is ∙ sym (ap (outcome_of_judged g k.own before c.frame) turned)

pub answers_repeat :
    (g : GenesisFields) (k : KeyFields) (before : List channel.Event) (c : CheckedFields) (told : ℕ) → IsFor k c
    → Answers (refusal g k before (Taken c)) (Err (take.Repeat told)) → outcome.Link (link.Repeat told) ≡ answer_to g k.own before c.frame
unfolding answer_to
answers_repeat g k before c told mine answers =
    sym (ap (outcome_of_judged g k.own before c.frame)
    (turned_repeat (next c.frame.from before) c.frame.number told (subst (λ o. Answers o (Err (take.Repeat told))) (refusal_for g k before c mine) answers)))

pub answers_gap :
    (g : GenesisFields) (k : KeyFields) (before : List channel.Event) (c : CheckedFields) (told : ℕ) → IsFor k c
    → Answers (refusal g k before (Taken c)) (Err (take.Gap told)) → outcome.Link (link.Gap told) ≡ answer_to g k.own before c.frame
unfolding answer_to
answers_gap g k before c told mine answers =
    sym (ap (outcome_of_judged g k.own before c.frame)
    (turned_gap (next c.frame.from before) c.frame.number told (subst (λ o. Answers o (Err (take.Gap told))) (refusal_for g k before c mine) answers)))

-- ---- memory is asked for where the frame is the next one

some_none : {X : Type 0} (x : X) → Some x ≡ None → ⊥
some_none x same = cc

in_turn : (before : List channel.Event) (f : FrameFields) → f.number ≡ next f.from before → event_of_frame before f ≢ None
in_turn before f same =
    let is : event_of_frame before f ≡ Some (channel.From f.from f.body) = search rules in
    λ none. some_none (channel.From f.from f.body) (sym is ∙ none)

pub judged_next : (before : List channel.Event) (f : FrameFields) → turn (next f.from before) f.number ≡ Ok tt → event_of_frame before f ≢ None
judged_next before f is = go (cases_order f.number n) where
  n : ℕ
  n = next f.from before

  go : (f.number ≡ n) ⊎ ((f.number < n) ⊎ (n < f.number)) → event_of_frame before f ≢ None
  go (inl same) = in_turn before f same
  go (inr (inl below)) =
      let here : turn n f.number ≡ Err (link.Repeat n) = search rules in
      absurd (ok_err tt (link.Repeat n) (sym is ∙ here))
  go (inr (inr above)) =
      let here : turn n f.number ≡ Err (link.Gap n) = search rules in
      absurd (ok_err tt (link.Gap n) (sym is ∙ here))

-- a frame that isn't has its fault for an answer
pub judged_not :
    (g : GenesisFields) (own : ℕ) (before : List channel.Event) (f : FrameFields) (fault : LinkFault)
    → turn (next f.from before) f.number ≡ Err fault → outcome.Link fault ≡ answer_to g own before f
unfolding answer_to
judged_not g own before f fault is = sym (ap (outcome_of_judged g own before f) is)

pub answers_memory :
    (g : GenesisFields) (k : KeyFields) (before : List channel.Event) (c : CheckedFields) → IsFor k c
    → Answers (refusal g k before (Taken c)) (Err take.Memory) → event_of_frame before c.frame ≢ None
answers_memory g k before c mine answers = go (cases_order c.frame.number n) where
  n : ℕ
  n = next c.frame.from before

  At : Option MemberFault → Type 0
  At o = Answers o (Err take.Memory)

  turned : At (turn_refusal n c.frame.number)
  turned = subst At (refusal_for g k before c mine) answers

  go : (c.frame.number ≡ n) ⊎ ((c.frame.number < n) ⊎ (n < c.frame.number)) → event_of_frame before c.frame ≢ None
  go (inl same) = in_turn before c.frame same
  go (inr (inl below)) = absurd (memory_no_repeat n (err_is {A = Reply} Memory (Repeat n) (subst At (below_repeats n c.frame.number below) turned)))
  go (inr (inr above)) = absurd (memory_no_gap n (err_is {A = Reply} Memory (Gap n) (subst At (above_gaps n c.frame.number above) turned)))

-- ---- what the member is then

-- its keys are the same
pub keys_kept : (m : MemberFields) (stamp : ℕ) (c : CheckedFields) (o : Outcome) → (with_taken m stamp c o).keys ≡ m.keys
keys_kept m stamp c (outcome.Took took) = refl
keys_kept m stamp c (outcome.Wanted from number) = refl
keys_kept m stamp c (outcome.Frame fault) = refl
keys_kept m stamp c (outcome.Link fault) = refl
keys_kept m stamp c outcome.WrongKey = refl

-- its events are longer by one exactly where the frame's number is the next
pub events_taken :
    (m : MemberFields) (stamp : ℕ) (c : CheckedFields)
    → events (with_taken m stamp c (answer_to m.genesis m.keys.own (events m.history) c.frame)).history
    ≡ events m.history ++ option_to_list (event_of_frame (events m.history) c.frame)
unfolding answer_to
events_taken m stamp c = go (eqb c.frame.number n) (ltb c.frame.number n) where
  n : ℕ
  n = next c.frame.from (events m.history)

  go : (same below : Bool)
      → events (with_taken m stamp c (outcome_of_judged m.genesis m.keys.own (events m.history) c.frame (cond same (Ok tt) (cond below (Err (link.Repeat n)) (Err (link.Gap n)))))).history
      ≡ events m.history ++ option_to_list (cond same (Some (channel.From c.frame.from c.frame.body)) None)
  go true below =
      events-push m.history
      (record { stamp = stamp; event = Taken c; reply = reply.Took (took_by m.genesis m.keys.own (events m.history) (channel.From c.frame.from c.frame.body)) })
      (channel.From c.frame.from c.frame.body) refl
  go false true = sym (append-nil (events m.history))
  go false false = sym (append-nil (events m.history))

pub key_known : (g : GenesisFields) (own : ℕ) (before : List channel.Event) (f : FrameFields) → answer_to g own before f ≢ outcome.WrongKey
unfolding answer_to
key_known g own before f = go (turn (next f.from before) f.number) where
  go : (r : Result ⊤ LinkFault) → outcome_of_judged g own before f r ≢ outcome.WrongKey
  go (Ok x) = λ is. cc
  go (Err fault) = λ is. cc

-- so is every answer to a frame
pub key_named : (g : GenesisFields) (own : ℕ) (before : List channel.Event) (i : Result Incoming LinkFault) → outcome_to g own before i ≢ outcome.WrongKey
key_named g own before (Ok (Message o)) = key_known g own before o.frame
key_named g own before (Ok (Want from number)) = λ is. cc
key_named g own before (Err fault) = λ is. cc

pub of_frame : (g : GenesisFields) (k : KeyFields) (before : List channel.Event) (f : FrameFields) → outcome_of g k before (Ok f) ≡ outcome_to g k.own before (incoming_at k f)
unfolding outcome_of
of_frame g k before f = refl

pub of_fault : (g : GenesisFields) (k : KeyFields) (before : List channel.Event) (fault : FrameFault) → outcome.Frame fault ≡ outcome_of g k before (Err fault)
unfolding outcome_of
of_fault g k before fault = refl

-- ---- what bytes are, by what is found in them

pub want_found :
    (k : KeyFields) (after : List channel.Event) (bytes : List ℕ) (found : Option FrameFields) → opened_in k bytes ≡ found
    → option_map (want_for k after) found ≡ want_after k after bytes
unfolding want_after
want_found k after bytes found is = sym (ap (option_map (want_for k after)) is)

pub event_found :
    (k : KeyFields) (before : List channel.Event) (bytes : List ℕ) (found : Option FrameFields) → opened_in k bytes ≡ found
    → option_and_then (event_of_frame before) found ≡ event_in k before bytes
unfolding event_in
event_found k before bytes found is = sym (ap (option_and_then (event_of_frame before)) is)
