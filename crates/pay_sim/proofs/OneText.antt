-- A script has one text: what a relation between what was and what is says of two, the two are the same.
use Rattle.std.proofs.Common.{◌≡◌, inl, inr, ℕ, ◌-◌, codes, decimal, Bool, true, false, List, [], ◌∷◌, ◌++◌, length, Option, Some, None, Result, Ok, Err, MatchOption, refl, sym, ap, ◌∙◌, subst, arith}
use Rattle.pay_frame.specs.declared.reading.FrameFault.{FrameFault}
use Rattle.pay_frame.specs.Frame.{FrameFields}
use Rattle.pay_frame.specs.OneFrame.{IsOneReading}
use Rattle.pay_channel.specs.History.{Event}
use Rattle.pay_link.specs.Genesis.{GenesisFields}
use Rattle.pay_link.specs.Keys.{KeyFields}
use Rattle.pay_member.specs.declared.bringing.Outcome.{Outcome}
use Rattle.pay_member.specs.Bringing.{IsOutcome, outcome_of}
use Rattle.pay_text.specs.Answers.{Answers, Either, IsOver}
use Rattle.pay_text.specs.Lines.{lines_within}
use Rattle.pay_world.specs.declared.event.WorldEvent.{WorldEvent}
use Rattle.pay_world.specs.declared.event.WorldEvent.TheVariants as event
use Rattle.pay_world.specs.declared.event.WorldReply.{WorldReply}
use Rattle.pay_world.specs.declared.event.WorldReply.TheVariants.{Asked, Refused, Brought, Ignored}
use Rattle.pay_world.specs.Answer.{receiver}
use Rattle.pay_sim.specs.declared.command.ScriptCommand.{ScriptCommand}
use Rattle.pay_sim.specs.declared.command.ScriptCommand.TheVariants.{Ask, Bring, Lie, Raw, All, Show}
use Rattle.pay_sim.specs.declared.group.ScriptGroup.{ScriptGroup}
use Rattle.pay_sim.specs.declared.run.TheConstants.{LONGEST_LINE}
use Rattle.pay_sim.specs.declared.run.SimEnd.{SimEnd}
use Rattle.pay_sim.specs.declared.run.RunStop.{RunStop}
use Rattle.pay_sim.specs.declared.run.RunStop.TheVariants.{BadLine, Forged, Limit}
use Rattle.pay_sim.specs.All.{BringsAll, Draws, Enough, Again, FeedsMember, Further, Halted, InTurn, Nothing, MakesPass, Stopped}
use Rattle.pay_sim.specs.Commands.{script_command_in}
use Rattle.pay_sim.specs.Group.{script_group_in}
use Rattle.pay_sim.specs.Made.{IsBroughtTo, IsReplyAfter, IsReplyTo, Makes, frame_for, history_at, keys_at}
use Rattle.pay_sim.specs.Script.{Told, Prints, Stops, CommandTells, Does, Continues, Founds, IsConverged, IsRun, LineTells, Moment, Obeys, PlaysLine, Tells, TellsAll, TellsSent, end_of, lie_frame, start, with_feed}
use Rattle.pay_sim.specs.Words.{reply_line}
use Rattle.std.specs.List.{range_with_len}

-- bytes read in one way
abbrev pub OneReading : Type 0
OneReading =
    (bytes : List ℕ) (one other : Result FrameFields FrameFault) → IsOneReading bytes one → IsOneReading bytes other
    → one ≡ other

none_some : {X : Type 0} (x : X) → ◌≡◌ {A = Option X} None (Some x) → ⊥
none_some x same = cc

some_same : {X : Type 0} (x y : X) → Some x ≡ Some y → x ≡ y
some_same x y same = cc

ok_err : {A E : Type 0} (x : A) (e : E) → ◌≡◌ {A = Result A E} (Ok x) (Err e) → ⊥
ok_err x e same = cc

ok_same : {A E : Type 0} (x y : A) → ◌≡◌ {A = Result A E} (Ok x) (Ok y) → x ≡ y
ok_same x y same = cc

err_same : {A E : Type 0} (d e : E) → ◌≡◌ {A = Result A E} (Err d) (Err e) → d ≡ e
err_same d e same = cc

true_false : true ≡ false → ⊥
true_false same = cc

-- ---- an event has one reply

outcome_one : OneReading → (g : GenesisFields) (k : KeyFields) (before : List Event) (bytes : List ℕ) (one other : Outcome) → IsOutcome g k before bytes one → IsOutcome g k before bytes other → one ≡ other
outcome_one unique g k before bytes one other x y =
    x.is ∙ ap (outcome_of g k before) (unique bytes x.reading y.reading x.reads y.reads) ∙ sym y.is

brought_one : OneReading → (g : GenesisFields) (k : KeyFields) (before : List Event) (bytes : List ℕ) (one other : WorldReply) → IsBroughtTo g k before bytes one → IsBroughtTo g k before bytes other → one ≡ other
brought_one unique g k before bytes (Brought one) (Brought other) x y = ap Brought (outcome_one unique g k before bytes one other x y)
brought_one unique g k before bytes (Brought one) (Asked n) x y = absurd y
brought_one unique g k before bytes (Brought one) (Refused f) x y = absurd y
brought_one unique g k before bytes (Brought one) Ignored x y = absurd y
brought_one unique g k before bytes (Asked n) other x y = absurd x
brought_one unique g k before bytes (Refused f) other x y = absurd x
brought_one unique g k before bytes Ignored other x y = absurd x

behind_one : OneReading → (g : GenesisFields) (k : KeyFields) (before : List Event) (e : WorldEvent) (one other : WorldReply) → IsReplyAfter g k before e one → IsReplyAfter g k before e other → one ≡ other
behind_one unique g k before (event.Ask i v) one other x y = x ∙ sym y
behind_one unique g k before (event.Bring i bytes) one other x y = brought_one unique g k before bytes one other x y

module _ (unique : OneReading) (c : ScriptGroup) where
  reply_one : (es : List WorldEvent) (e : WorldEvent) (one other : WorldReply) → IsReplyTo c es e one → IsReplyTo c es e other → one ≡ other
  reply_one es e one other x y = go (keys_at c (receiver e)) x y where
    go : (o : Option KeyFields)
        → MatchOption o (one ≡ Ignored) (λ k. IsReplyAfter c.genesis k (history_at c es (receiver e)) e one)
        → MatchOption o (other ≡ Ignored) (λ k. IsReplyAfter c.genesis k (history_at c es (receiver e)) e other) → one ≡ other
    go None x y = x ∙ sym y
    go (Some k) x y = behind_one unique c.genesis k (history_at c es (receiver e)) e one other x y

  makes_one : (es : List WorldEvent) (e : WorldEvent) (one other : Result WorldReply RunStop) → Makes c es e one → Makes c es e other → one ≡ other
  makes_one es e (Ok one) (Ok other) x y = ap Ok (reply_one es e one other x.2 y.2)
  makes_one es e (Ok one) (Err Limit) x y = absurd (let less = x.0 in omega arith)
  makes_one es e (Ok one) (Err (Forged k)) x y = absurd (true_false (sym y.1 ∙ x.1))
  makes_one es e (Ok one) (Err BadLine) x y = absurd y
  makes_one es e (Err Limit) (Ok other) x y = absurd (let less = y.0 in omega arith)
  makes_one es e (Err Limit) (Err Limit) x y = refl
  makes_one es e (Err Limit) (Err (Forged k)) x y = absurd (let less = y.0 in omega arith)
  makes_one es e (Err Limit) (Err BadLine) x y = absurd y
  makes_one es e (Err (Forged k)) (Ok other) x y = absurd (true_false (sym x.1 ∙ y.1))
  makes_one es e (Err (Forged k)) (Err Limit) x y = absurd (let less = x.0 in omega arith)
  makes_one es e (Err (Forged k)) (Err (Forged n)) x y = ap (λ (i : ℕ). Err (Forged i)) (x.2 ∙ sym y.2)
  makes_one es e (Err (Forged k)) (Err BadLine) x y = absurd y
  makes_one es e (Err BadLine) other x y = absurd x

  replies_same : (es : List WorldEvent) (e : WorldEvent) (one other : WorldReply) → Makes c es e (Ok one) → Makes c es e (Ok other) → one ≡ other
  replies_same es e one other x y = ok_same one other (makes_one es e (Ok one) (Ok other) x y)

  stops_same : (es : List WorldEvent) (e : WorldEvent) (one other : RunStop) → Makes c es e (Err one) → Makes c es e (Err other) → one ≡ other
  stops_same es e one other x y = err_same one other (makes_one es e (Err one) (Err other) x y)

  not_both : (es : List WorldEvent) (e : WorldEvent) (reply : WorldReply) (stop : RunStop) → Makes c es e (Ok reply) → Makes c es e (Err stop) → ⊥
  not_both es e reply stop x y = ok_err reply stop (makes_one es e (Ok reply) (Err stop) x y)

  -- ---- `all` brings the same

  Same : List WorldEvent → List WorldEvent → Option RunStop → Option RunStop → Type 0
  Same one other stop end = (one ≡ other) × (stop ≡ end)

  draws_one : (from to : ℕ) {es one other : List WorldEvent} {stop end : Option RunStop} → Draws c from to es one stop → Draws c from to es other end → (one ≡ other) × (stop ≡ end)
  draws_one from to (Nothing p) (Nothing q) = (refl, refl)
  draws_one from to (Nothing p) (Stopped frame stop q made) = absurd (none_some frame (sym p ∙ q))
  draws_one from to (Nothing p) (Further frame reply q made rest) = absurd (none_some frame (sym p ∙ q))
  draws_one from to (Stopped f s p made) (Nothing q) = absurd (none_some f (sym q ∙ p))
  draws_one from to {es = es} (Stopped f s p made) (Stopped frame stop q other) =
      let same = some_same frame f (sym q ∙ p) in
      (refl, ap Some (stops_same es (event.Bring to f) s stop made (subst (λ (b : List ℕ). Makes c es (event.Bring to b) (Err stop)) same other)))
  draws_one from to {es = es} (Stopped f s p made) (Further frame reply q other rest) =
      let same = some_same frame f (sym q ∙ p) in
      absurd (not_both es (event.Bring to f) reply s (subst (λ (b : List ℕ). Makes c es (event.Bring to b) (Ok reply)) same other) made)
  draws_one from to (Further f r p made rest) (Nothing q) = absurd (none_some f (sym q ∙ p))
  draws_one from to {es = es} (Further f r p made rest) (Stopped frame stop q other) =
      let same = some_same frame f (sym q ∙ p) in
      absurd (not_both es (event.Bring to f) r stop made (subst (λ (b : List ℕ). Makes c es (event.Bring to b) (Err stop)) same other))
  draws_one from to {es = es} {other = last} {end = end} (Further f r p made rest) (Further frame reply q other more) =
      let same = some_same frame f (sym q ∙ p) in
      draws_one from to rest (subst (λ (b : List ℕ). Draws c from to (es ++ event.Bring to b ∷ []) last end) same more)

-- what each does has one end
abbrev pub OneEnd : (List WorldEvent → List WorldEvent → Option RunStop → Type 0) → Type 0
OneEnd does =
    (es one other : List WorldEvent) (stop end : Option RunStop) → does es one stop → does es other end
    → (one ≡ other) × (stop ≡ end)

in_turn_one : (does : ℕ → List WorldEvent → List WorldEvent → Option RunStop → Type 0) → ((i : ℕ) → OneEnd (does i)) → (is : List ℕ) → OneEnd (InTurn does is)
in_turn_one does each [] es one other stop end x y = (x.0 ∙ sym y.0, x.1 ∙ sym y.1)
in_turn_one does each (i ∷ is) es one other stop end (mid, met, first, rest) (mid2, met2, second, more) =
    let same = each i es mid mid2 met met2 first second in
    go met (λ x y. in_turn_one does each is mid one other stop end x y) rest
    (subst (λ (o : Option RunStop). MatchOption o (InTurn does is mid other end) (λ s. (other ≡ mid) × (end ≡ Some s))) (sym same.1)
    (subst (λ (l : List WorldEvent). MatchOption met2 (InTurn does is l other end) (λ s. (other ≡ l) × (end ≡ Some s))) (sym same.0) more)) where
      go : (o : Option RunStop) → (InTurn does is mid one stop → InTurn does is mid other end → (one ≡ other) × (stop ≡ end))
          → MatchOption o (InTurn does is mid one stop) (λ s. (one ≡ mid) × (stop ≡ Some s))
          → MatchOption o (InTurn does is mid other end) (λ s. (other ≡ mid) × (end ≡ Some s)) → (one ≡ other) × (stop ≡ end)
      go None on x y = on x y
      go (Some s) on x y = (x.0 ∙ sym y.0, x.1 ∙ sym y.1)

module _ (unique : OneReading) (c : ScriptGroup) where
  feeds_one : (to : ℕ) → OneEnd (FeedsMember c to)
  feeds_one to = in_turn_one (λ from. Draws c from to) (λ from es one other stop end x y. draws_one unique c from to x y) (range_with_len 0 c.genesis.members)

  passes_one : OneEnd (MakesPass c)
  passes_one = in_turn_one (FeedsMember c) feeds_one (range_with_len 0 c.genesis.members)

  all_one : {es one other : List WorldEvent} {stop end : Option RunStop} → BringsAll c es one stop → BringsAll c es other end → (one ≡ other) × (stop ≡ end)
  all_one {es = es} {one = one} {other = other} (Enough p same) (Enough q also) = passes_one es one other None None p q
  all_one {es = es} {one = one} {other = other} (Enough p same) (Halted stop q) = absurd (none_some stop (passes_one es one other None (Some stop) p q).1)
  all_one {es = es} {one = one} (Enough p same) (Again {mid = mid} q more rest) =
      absurd (let is = ap length (passes_one es one mid None None p q).0 in omega arith)
  all_one {es = es} {one = one} {other = other} (Halted stop p) (Enough q also) = absurd (none_some stop (sym (passes_one es one other (Some stop) None p q).1))
  all_one {es = es} {one = one} {other = other} (Halted stop p) (Halted end q) = passes_one es one other (Some stop) (Some end) p q
  all_one {es = es} {one = one} (Halted stop p) (Again {mid = mid} q more rest) = absurd (none_some stop (sym (passes_one es one mid (Some stop) None p q).1))
  all_one {es = es} {other = other} (Again {mid = mid} p less rest) (Enough q also) =
      absurd (let is = ap length (passes_one es mid other None None p q).0 in omega arith)
  all_one {es = es} {other = other} (Again {mid = mid} p less rest) (Halted end q) = absurd (none_some end (passes_one es mid other None (Some end) p q).1)
  all_one {es = es} {other = other} {end = end} (Again {mid = mid} p less rest) (Again {mid = mid2} q more others) =
      all_one rest (subst (λ (l : List WorldEvent). BringsAll c l other end) (sym (passes_one es mid mid2 None None p q).0) others)

  -- ---- a line does one thing

  tells_one : (es : List WorldEvent) (e : WorldEvent) (one other : Told) → Tells c es e one → Tells c es e other → one ≡ other
  tells_one es e (Prints text last) (Prints words end) (reply, made, said, is) (answer, also, spoken, are) =
      let same = replies_same unique c es e reply answer made also in
      let texts = said ∙ ap (reply_line (receiver e)) same ∙ sym spoken in
      let events = is ∙ sym are in
      λ i. Prints (texts i) (events i)
  tells_one es e (Prints text last) (Stops stop) (reply, made, said, is) y = absurd (not_both unique c es e reply stop made y)
  tells_one es e (Stops stop) (Prints text last) x (reply, made, said, is) = absurd (not_both unique c es e reply stop made x)
  tells_one es e (Stops stop) (Stops end) x y = ap Stops (stops_same unique c es e stop end x y)

  sent_one : (es : List WorldEvent) (to : ℕ) (frame : Option (List ℕ)) (one other : Told) → TellsSent c es to frame one → TellsSent c es to frame other → one ≡ other
  sent_one es to None one other x y = x ∙ sym y
  sent_one es to (Some frame) one other x y = tells_one es (event.Bring to frame) one other x y

  converged_one : (es : List WorldEvent) (one other : List ℕ) → IsConverged c es one → IsConverged c es other → one ≡ other
  converged_one es one other (inl x) (inl y) = x.1 ∙ sym y.1
  converged_one es one other (inl x) (inr y) = absurd (y.0 x.0)
  converged_one es one other (inr x) (inl y) = absurd (x.0 y.0)
  converged_one es one other (inr x) (inr y) = x.1 ∙ sym y.1

  all_tells_one : (es : List WorldEvent) (one other : Told) → TellsAll c es one → TellsAll c es other → one ≡ other
  all_tells_one es (Prints text last) (Prints words end) (brought, (said, is, text_is)) (also, (spoken, are, words_are)) =
      let same = (all_one brought also).0 in
      let ends = converged_one last said spoken is (subst (λ (l : List WorldEvent). IsConverged c l spoken) (sym same) are) in
      let texts = text_is ∙ (λ i. codes "brought " ++ with_feed (decimal (length (same i) - length es)) ++ ends i) ∙ sym words_are in
      λ i. Prints (texts i) (same i)
  all_tells_one es (Prints text last) (Stops stop) x (end, y) = absurd (none_some stop (all_one x.0 y).1)
  all_tells_one es (Stops stop) (Prints text last) (end, x) y = absurd (none_some stop (all_one y.0 x).1)
  all_tells_one es (Stops stop) (Stops halt) (last, x) (end, y) = ap Stops (some_same stop halt (all_one x y).1)

  obeys_one : (es : List WorldEvent) (command : ScriptCommand) (one other : Told) → Obeys c es command one → Obeys c es command other → one ≡ other
  obeys_one es (Ask member value) one other x y = tells_one es _ one other x y
  obeys_one es (Bring from to number) one other x y = sent_one es to (frame_for c es from to number) one other x y
  obeys_one es (Lie from to number body) one other x y = tells_one es (event.Bring to (lie_frame c es from to number body)) one other x y
  obeys_one es (Raw to bytes) one other x y = tells_one es (event.Bring to bytes) one other x y
  obeys_one es All one other x y = all_tells_one es one other x y
  obeys_one es Show one other x y = x ∙ sym y

  command_one : (es : List WorldEvent) (o : Option ScriptCommand) (one other : Told) → CommandTells c es o one → CommandTells c es o other → one ≡ other
  command_one es None one other x y = x ∙ sym y
  command_one es (Some command) one other x y = obeys_one es command one other x y

  line_one : (es : List WorldEvent) (line : List ℕ) (one other : Told) → LineTells c es line one → LineTells c es line other → one ≡ other
  line_one es [] one other x y = x ∙ sym y
  line_one es (b ∷ line) one other x y = command_one es (script_command_in (b ∷ line)) one other x y

-- ---- so does any line of a script

founds_one : (es : List WorldEvent) (o then also : Option ScriptGroup) (one other : Told) → Founds es o then one → Founds es o also other → (then ≡ also) × (one ≡ other)
founds_one es None then also one other x y = (x.1 ∙ sym y.1, x.0 ∙ sym y.0)
founds_one es (Some c) then also one other x y = (x.1 ∙ sym y.1, x.0 ∙ sym y.0)

does_one : OneReading → (group : Option ScriptGroup) (es : List WorldEvent) (line : Option (List ℕ)) (then also : Option ScriptGroup) (one other : Told)
    → Does group es line then one → Does group es line also other → (then ≡ also) × (one ≡ other)
does_one unique group es None then also one other x y = (x.1 ∙ sym y.1, x.0 ∙ sym y.0)
does_one unique None es (Some line) then also one other x y = founds_one es (script_group_in line) then also one other x y
does_one unique (Some c) es (Some line) then also one other x y = (x.1 ∙ sym y.1, line_one unique c es line one other x.0 y.0)

-- one answer, one way on, one who goes on
abbrev pub OneAnswer : {A : Type 0} → (A → Option (List ℕ) → List ℕ → Bool → A → Type 0) → Type 0
OneAnswer {A} says =
    (a : A) (line : Option (List ℕ)) (text words : List ℕ) (on goes : Bool) (b d : A) → says a line text on b → says a line words goes d
    → (text ≡ words) × (on ≡ goes) × (b ≡ d)

follows_one : (m : Moment) (group : Option ScriptGroup) (told : Told) (text words : List ℕ) (on goes : Bool) (b d : Moment)
    → Continues m group told text on b → Continues m group told words goes d → (text ≡ words) × (on ≡ goes) × (b ≡ d)
follows_one m group (Prints said last) text words on goes b d x y = (x.0 ∙ sym y.0, x.1 ∙ sym y.1, x.2 ∙ sym y.2)
follows_one m group (Stops stop) text words on goes b d x y = (x.0 ∙ sym y.0, x.1 ∙ sym y.1, x.2 ∙ sym y.2)

reads_one : OneReading → OneAnswer PlaysLine
reads_one unique m line text words on goes b d (group, told, does, follows) (also, other, acts, comes) =
    let same = does_one unique m.group m.events line group also told other does acts in
    follows_one m group told text words on goes b d follows
    (subst (λ (t : Told). Continues m group t words goes d) (sym same.1) (subst (λ (g : Option ScriptGroup). Continues m g other words goes d) (sym same.0) comes))

answers_one : {A : Type 0} (says : A → Option (List ℕ) → List ℕ → Bool → A → Type 0) → OneAnswer says → (lines : List (Option (List ℕ))) (a : A) (text words : List ℕ) (on goes : Bool) (b d : A)
    → Answers says a lines text on b → Answers says a lines words goes d → (text ≡ words) × (b ≡ d)
answers_one says each [] a text words on goes b d x y = (x.0 ∙ sym y.0, x.2 ∙ sym y.2)
answers_one {A} says each (line ∷ lines) a text words on goes b d (first, rest, more, mid, said, parts, after) (first2, rest2, more2, mid2, said2, parts2, after2) =
    let same = each a line first first2 more more2 mid mid2 said said2 in
    let others = go more (λ x y. answers_one says each lines mid rest rest2 on goes b d x y) after
    (subst (λ (o : Bool). Either o (Answers says mid lines rest2 goes d) (IsOver rest2 goes mid d)) (sym same.1)
    (subst (λ (n : A). Either more2 (Answers says n lines rest2 goes d) (IsOver rest2 goes n d)) (sym same.2) after2)) in
    (parts ∙ (λ i. same.0 i ++ others.0 i) ∙ sym parts2, others.1) where
      go : (o : Bool) → (Answers says mid lines rest on b → Answers says mid lines rest2 goes d → (rest ≡ rest2) × (b ≡ d))
          → Either o (Answers says mid lines rest on b) (IsOver rest on mid b)
          → Either o (Answers says mid lines rest2 goes d) (IsOver rest2 goes mid d) → (rest ≡ rest2) × (b ≡ d)
      go true on_one x y = on_one x y
      go false on_one x y = (x.silent ∙ sym y.silent, x.same ∙ sym y.same)

pub one_run : OneReading → (script text other : List ℕ) (ended end : SimEnd) → IsRun script text ended → IsRun script other end → (text ≡ other) × (ended ≡ end)
one_run unique [] text other ended end x y = (x.0 ∙ sym y.0, x.1 ∙ sym y.1)
one_run unique (b ∷ script) text other ended end (on, last, answers, is) (goes, final, replies, are) =
    let same = answers_one PlaysLine (reads_one unique) (lines_within LONGEST_LINE (b ∷ script)) start text other on goes last final answers replies in
    (same.0, is ∙ ap (λ (m : Moment). end_of m.stopped) same.1 ∙ sym are)
