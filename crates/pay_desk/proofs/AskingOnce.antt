-- A desk has its teller broadcast just what it keeps.
use Rattle.std.proofs.Common.{◌≡◌, ℕ, Bool, true, false, List, [], ◌∷◌, ◌++◌, map, refl, sym, ◌∙◌, ap, subst, append-nil, append_assoc, Some, None, Ok, Err, inl, inr}
use Rattle.std.specs.Prelude.{Option, Result}
use Rattle.std.proofs.lemmas.List.{map-append}
use Rattle.pay_text.specs.Answers as text
use Rattle.pay_desk.specs.declared.command.Command.{Command}
use Rattle.pay_desk.specs.declared.command.Command.TheVariants.{Pay, Note, Balance, State, Statement, Entries, Waiting, Front}
use Rattle.pay_desk.specs.declared.command.Order.{Order}
use Rattle.pay_desk.specs.declared.desk.Desk.{Desk}
use Rattle.pay_desk.specs.declared.fault.DeskFault.{DeskFault}
use Rattle.pay_desk.specs.declared.kept.Kept.{Kept}
use Rattle.pay_desk.specs.declared.fault.TellerFault.{TellerFault}
use Rattle.pay_desk.specs.declared.fault.TellerFault.TheVariants.{Memory, Spent, TooEarly, Forgotten}
use Rattle.pay_desk.specs.declared.fault.ReadFault.{ReadFault}
use Rattle.pay_desk.specs.declared.fault.ReadFault.TheVariants as read
use Rattle.pay_member.specs.declared.fault.QueryFault.{QueryFault}
use Rattle.pay_member.specs.declared.fault.QueryFault.TheVariants as query
use Rattle.pay_member.specs.declared.reading.Reading.{Reading}
use Rattle.pay_member.specs.declared.reading.Reading.TheVariants as reading
use Rattle.pay_member.specs.declared.event.Told.{Told}
use Rattle.pay_desk.specs.Answers.{AnswersCommand, AnswersPay, AnswersNote, Broadcasts, GaveUp, TellsAnswer, TellsBalance, Unless, account_fault, pay_fault}
use Rattle.pay_desk.specs.Calls as call
use Rattle.pay_desk.specs.Calls.{Asks, Exchange, Queries, AsksQuestion, values_asked_by, reads_at_length}
use Rattle.pay_desk.specs.Desk.{DeskSays, command_at}
use Rattle.pay_desk.specs.Kept.{kept_after, kept_under}
use Rattle.pay_desk.specs.Laws.{AreUnderFreeIds, AsksOnce, KeepsAll}
use Rattle.pay_book.specs.Notes.{note_value}
use Rattle.pay_desk.specs.Payments.{pairs_of, value_of_payments}

abbrev asked_of : Kept → List ℕ
asked_of k = k.value

module _ {T : Type 0} (says : T → Exchange → T → Type 0) (asked : T → List (List ℕ)) (only_asks : (old new : T) (said : Exchange) → says old said new → asked new ≡ asked old ++ values_asked_by said) where
  -- nothing is broadcast, and nothing kept
  nothing : (old new : Desk T) → new.kept ≡ old.kept → asked new.teller ≡ asked old.teller ++ [] → AsksOnce asked old new
  nothing old new kept same = record { more = []; kept = kept ∙ sym (append-nil old.kept); broadcast = same; free = tt }

  unchanged : (old new : Desk T) → new ≡ old → AsksOnce asked old new
  unchanged old new same =
      nothing old new (ap (λ (d : Desk T). d.kept) same) (ap (λ (d : Desk T). asked d.teller) same ∙ sym (append-nil (asked old.teller)))

  by_unless : (fault : Option DeskFault) (old new : Desk T) (words : List ℕ) (P : Type 0) → (P → AsksOnce asked old new) → Unless fault old words new P → AsksOnce asked old new
  by_unless (Some fault) old new words P otherwise refused = unchanged old new refused.same
  by_unless None old new words P otherwise p = otherwise p

  -- what broadcasts nothing
  silently : (old new : T) (said : Exchange) → values_asked_by said ≡ [] → says old said new → asked new ≡ asked old ++ []
  silently old new said silent is = only_asks old new said is ∙ ap (λ vs. asked old ++ vs) silent

  at_rest : (old new : T) → new ≡ old → asked new ≡ asked old ++ []
  at_rest old new same = ap asked same ∙ sym (append-nil (asked old))

  by_query : (account : ℕ) (old new : Desk T) (t : List ℕ) → TellsBalance says account old t new → AsksOnce asked old new
  by_query account old new t tells =
      nothing old new (ap (λ (d : Desk T). d.kept) tells.same) (by_outcome tells.outcome tells.replied) where
        by_outcome : (r : Result Told QueryFault) → Queries says old.teller account r new.teller → asked new.teller ≡ asked old.teller ++ []
        by_outcome (Ok told) said = silently old.teller new.teller (call.Query account (Ok told)) refl said
        by_outcome (Err query.Memory) same = at_rest old.teller new.teller same
        by_outcome (Err query.NoAccount) said = silently old.teller new.teller (call.Query account (Err query.NoAccount)) refl said

  by_reading : {A : Type 0} (asks : A → Reading) (words : A → List ℕ) (old new : Desk T) (t : List ℕ) → TellsAnswer says asks words old t new → AsksOnce asked old new
  by_reading {A} asks words old new t tells =
      nothing old new (ap (λ (d : Desk T). d.kept) tells.same) (by_outcome tells.outcome tells.replied) where
        by_outcome : (r : Result A ReadFault) → AsksQuestion says old.teller asks r new.teller → asked new.teller ≡ asked old.teller ++ []
        by_outcome (Ok answer) said = silently old.teller new.teller (call.Read (asks answer)) refl said
        by_outcome (Err read.Memory) same = at_rest old.teller new.teller same
        by_outcome (Err read.Forgotten) (answer, said) = silently old.teller new.teller (call.Withhold (asks answer)) refl said

  by_value : (id : ℕ) (value : List ℕ) (old new : Desk T) (outcome : Result ℕ TellerFault) → kept_under id old.kept ≡ None
      → Asks says old.teller id value outcome new.teller
      → new.kept ≡ kept_after old.kept id value outcome → AsksOnce asked old new
  by_value id value old new (Ok seq) free said kept = record {
    more = record { id = id; value = value; seq = seq } ∷ [];
    kept = kept;
    broadcast = only_asks old.teller new.teller (call.Ask id value (Ok seq)) said;
    free = (free, tt);
  }
  by_value id value old new (Err Memory) free same kept = nothing old new kept (at_rest old.teller new.teller same)
  by_value id value old new (Err Spent) free said kept = nothing old new kept (silently old.teller new.teller (call.Ask id value (Err Spent)) refl said)
  by_value id value old new (Err TooEarly) free said kept = nothing old new kept (silently old.teller new.teller (call.Ask id value (Err TooEarly)) refl said)
  by_value id value old new (Err Forgotten) free said kept = nothing old new kept (silently old.teller new.teller (call.Ask id value (Err Forgotten)) refl said)

  by_found : (order : Order) (old new : Desk T) (t : List ℕ) (found : Option Kept) → kept_under order.id old.kept ≡ found
      → AnswersPay says found order old t new → AsksOnce asked old new
  by_found order old new t (Some k) known answer = unchanged old new answer.same
  by_found order old new t None free answer =
      let value = value_of_payments order.payments in
      by_unless (pay_fault old.accounts old.own (pairs_of order.payments)) old new t (Broadcasts says order.id value old t new)
      (λ pays. by_value order.id value old new pays.outcome free pays.replied pays.kept) answer

  by_note : (id : ℕ) (note : List ℕ) (old new : Desk T) (t : List ℕ) (found : Option Kept) → kept_under id old.kept ≡ found
      → AnswersNote says found id note old t new → AsksOnce asked old new
  by_note id note old new t (Some k) known answer = unchanged old new answer.same
  by_note id note old new t None free says_it = by_value id (note_value note) old new says_it.outcome free says_it.replied says_it.kept

  by_answer : (command : Option Command) (old new : Desk T) (t : List ℕ) → AnswersCommand says command old t new → AsksOnce asked old new
  by_answer None old new t refused = unchanged old new refused.same
  by_answer (Some (Pay order)) old new t answer = by_found order old new t (kept_under order.id old.kept) refl answer
  by_answer (Some (Note id note)) old new t answer = by_note id note old new t (kept_under id old.kept) refl answer
  by_answer (Some (Balance account)) old new t answer =
      by_unless (account_fault old.accounts account) old new t _ (by_query account old new t) answer
  by_answer (Some (State owner seq)) old new t answer =
      by_unless (account_fault old.accounts owner) old new t _ (by_reading (reading.State owner seq) _ old new t) answer
  by_answer (Some (Statement account)) old new t answer =
      by_unless (account_fault old.accounts account) old new t _ (by_reading (reading.Statement account) _ old new t) answer
  by_answer (Some (Entries account from)) old new t answer =
      by_unless (account_fault old.accounts account) old new t _ (by_reading (reading.Entries account from) _ old new t) answer
  by_answer (Some (Waiting account)) old new t answer =
      by_unless (account_fault old.accounts account) old new t _ (by_reading (reading.Waiting account) _ old new t) answer
  by_answer (Some Front) old new t answer = by_reading reading.Fronts _ old new t answer

  silent : (said : Exchange) → reads_at_length said ≡ true → values_asked_by said ≡ []
  silent (call.Ask id value answer) reads = absurd (let bad : false ≡ true = reads in cc)
  silent (call.Query account answer) reads = refl
  silent (call.Read reading) reads = refl
  silent (call.Withhold reading) reads = refl

  by_giving_up : (old new : Desk T) → GaveUp says old new → AsksOnce asked old new
  by_giving_up old new gave_up =
      nothing old new (ap (λ (d : Desk T). d.kept) gave_up.same)
      (elim gave_up.teller [
        | inl same ↦ at_rest old.teller new.teller same
        | inr (said, reads, is) ↦ silently old.teller new.teller said (silent said reads) is
      ])

  pub line_asks_once : (old new : Desk T) (line : Option (List ℕ)) (t : List ℕ) (on : Bool) → DeskSays says old line t on new → AsksOnce asked old new
  line_asks_once old new line t on said =
      elim said.answer [ inl answer ↦ by_answer (command_at line) old new t answer | inr tells ↦ by_giving_up old new tells.gave_up ]

  free_joined : (kept more rest : List Kept) → AreUnderFreeIds kept more → AreUnderFreeIds (kept ++ more) rest → AreUnderFreeIds kept (more ++ rest)
  free_joined kept [] rest free others = subst (λ ks. AreUnderFreeIds ks rest) (append-nil kept) others
  free_joined kept (k ∷ more) rest (first, free) others =
      (first, free_joined (kept ++ k ∷ []) more rest free (subst (λ ks. AreUnderFreeIds ks rest) (sym (append_assoc kept (k ∷ []) more)) others))

  joined : (old mid new : Desk T) → AsksOnce asked old mid → AsksOnce asked mid new → AsksOnce asked old new
  joined old mid new p q = record {
    more = p.more ++ q.more;
    kept = q.kept ∙ ap (λ ks. ks ++ q.more) p.kept ∙ append_assoc old.kept p.more q.more;
    broadcast = q.broadcast ∙ ap (λ vs. vs ++ map asked_of q.more) p.broadcast
        ∙ append_assoc (asked old.teller) (map asked_of p.more) (map asked_of q.more)
        ∙ ap (λ vs. asked old.teller ++ vs) (sym (map-append asked_of p.more q.more));
    free = free_joined old.kept p.more q.more p.free (subst (λ ks. AreUnderFreeIds ks q.more) p.kept q.free);
  }

  pub lines_ask_once : (old new : Desk T) (lines : List (Option (List ℕ))) (t : List ℕ) (on : Bool) → text.Answers (DeskSays says) old lines t on new → AsksOnce asked old new
  lines_ask_once old new [] t on (silent, goes, same) = unchanged old new same
  lines_ask_once old new (line ∷ lines) t on (first, rest, true, mid, said, parts, after) =
      joined old mid new (line_asks_once old mid line first true said) (lines_ask_once mid new lines rest on after)
  lines_ask_once old new (line ∷ lines) t on (first, rest, false, mid, said, parts, after) =
      joined old mid new (line_asks_once old mid line first false said) (unchanged mid new after.same)

  keeps_more : (before : List (List ℕ)) (old new : Desk T) → AsksOnce asked old new → KeepsAll asked before old → KeepsAll asked before new
  keeps_more before old new once all = record {
    values = ap (map asked_of) once.kept ∙ map-append asked_of old.kept once.more
        ∙ ap (λ vs. vs ++ map asked_of once.more) all.values
        ∙ append_assoc before (asked old.teller) (map asked_of once.more)
        ∙ ap (λ vs. before ++ vs) (sym once.broadcast);
    free = subst (AreUnderFreeIds []) (sym once.kept) (free_joined [] old.kept once.more all.free once.free);
  }

  pub lines_keep_all :
      (before : List (List ℕ)) (old new : Desk T) (lines : List (Option (List ℕ))) (t : List ℕ) (on : Bool)
      → text.Answers (DeskSays says) old lines t on new → KeepsAll asked before old → KeepsAll asked before new
  lines_keep_all before old new lines t on said = keeps_more before old new (lines_ask_once old new lines t on said)
