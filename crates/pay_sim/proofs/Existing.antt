-- Each script has a text.
use Rattle.std.proofs.Common.{◌≡◌, ◌≢◌, ◌⊎◌, inl, inr, ℕ, zero, suc, ◌+◌, ◌-◌, ◌<◌, ◌≤◌, ◌^◌, codes, decimal, Bool, true, false, cond, List, [], ◌∷◌, ◌++◌, length, Option, Some, None, Result, Ok, Err, MatchOption, refl, sym, ◌∙◌, subst, arith, length-append}
use Rattle.std.specs.List.{range_with_len}
use Rattle.std.proofs.lemmas.Bool.{cases_eq, cases_lt}
use Rattle.pay_frame.specs.declared.reading.FrameFault.{FrameFault}
use Rattle.pay_frame.specs.Frame.{BodyFields, FrameFields, IsBody}
use Rattle.pay_frame.specs.OneFrame.{IsOneFrame, IsOneReading}
use Rattle.pay_frame.specs.Stream.{IsBytes}
use Rattle.pay_hmac.specs.Mac.{length-mac}
use Rattle.pay_channel.specs.History.{Event, out}
use Rattle.pay_channel.specs.Taken.{next}
use Rattle.pay_link.specs.Genesis.{GenesisFields}
use Rattle.pay_link.specs.Keys.{KeyFields}
use Rattle.pay_link.specs.Sealing.{tagged_bytes}
use Rattle.pay_link.specs.TestKeys.{pair_key}
use Rattle.pay_member.specs.Bringing.{outcome_of}
use Rattle.pay_text.specs.Answers.{Answers}
use Rattle.pay_text.specs.Lines.{lines_within}
use Rattle.pay_world.specs.declared.event.WorldEvent.{WorldEvent}
use Rattle.pay_world.specs.declared.event.WorldEvent.TheVariants as event
use Rattle.pay_world.specs.declared.event.WorldReply.{WorldReply}
use Rattle.pay_world.specs.declared.event.WorldReply.TheVariants.{Brought, Ignored}
use Rattle.pay_world.specs.Answer.{one_more, receiver}
use Rattle.pay_world.specs.Convergence.{AllTaken, HasTaken}
use Rattle.pay_world.specs.ActionLaws.{CorrectIsTold}
use Rattle.pay_world.specs.Liars.{setting_of}
use Rattle.pay_world.specs.Setting.{Setting, group_at, is_correct}
use Rattle.pay_sim.specs.declared.command.ScriptCommand.{ScriptCommand}
use Rattle.pay_sim.specs.declared.command.ScriptCommand.TheVariants.{Ask, Bring, Lie, Raw, All, Show}
use Rattle.pay_sim.specs.declared.command.TheConstants.{MEMBERS}
use Rattle.pay_sim.specs.declared.game.TheConstants.{MOST_EVENTS}
use Rattle.pay_sim.specs.declared.group.ScriptGroup.{ScriptGroup}
use Rattle.pay_sim.specs.declared.run.TheConstants.{LONGEST_LINE}
use Rattle.pay_sim.specs.declared.run.SimEnd.{SimEnd}
use Rattle.pay_sim.specs.declared.run.SimEnd.TheVariants as end
use Rattle.pay_sim.specs.declared.run.RunStop.{RunStop}
use Rattle.pay_sim.specs.declared.run.RunStop.TheVariants.{BadLine, Forged, Limit}
use Rattle.pay_sim.specs.All.{BringsAll, Draws, Enough, Again, FeedsMember, Further, Halted, InTurn, Nothing, MakesPass, Stopped}
use Rattle.pay_sim.specs.Commands.{script_command_in}
use Rattle.pay_sim.specs.Group.{script_group_in}
use Rattle.pay_sim.specs.Made.{IsReplyAfter, IsReplyTo, Makes, frame_for, history_at, is_forged_by, is_there, keys_at, next_number, sent_frame, next_untaken}
use Rattle.pay_sim.specs.RunLaws.{IsGroup}
use Rattle.pay_sim.specs.Script.{Told, Prints, Stops, CommandTells, Does, Continues, Founds, IsConverged, IsRun, LineTells, Moment, Obeys, PlaysLine, Tells, TellsAll, TellsBring, TellsSent, end_of, last_words, lie_frame, lie_number, no_line, show_text, start, with_feed}
use Rattle.pay_sim.specs.TestFrames.{test_frame, test_tag}
use Rattle.pay_sim.specs.Words.{reply_line}
use Rattle.pay_sim.proofs.AllTaken.{Laws, frame_fits, member, next_below, sent_by, untaken_by}
use Rattle.pay_sim.proofs.Fitting.{AskedFits, FitsFrame, IsTurn, asked_fits}
use Rattle.pay_sim.proofs.Sealed.{one_frame_of, test_sealed}

-- what all that follows stands on
pub record Ground : Type 0 where
  pub laws : Laws
  pub reads : (bytes : List ℕ) → IsBytes bytes → (answer : Result FrameFields FrameFault) × IsOneReading bytes answer
  pub correct : CorrectIsTold
  pub groups : (line : List ℕ) (c : ScriptGroup) → script_group_in line ≡ Some c → IsGroup c

-- ---- what can be decided

dec_below : (P : ℕ → Type 0) → ((k : ℕ) → P k ⊎ ¬ (P k)) → (n : ℕ) → ((k : ℕ) → k < n → P k) ⊎ ¬ ((k : ℕ) → k < n → P k)
dec_below P each zero = inl (λ k less. absurd (omega arith))
dec_below P each (suc n) = go (dec_below P each n) (each n) where
  go : (((k : ℕ) → k < n → P k) ⊎ ¬ ((k : ℕ) → k < n → P k)) → (P n ⊎ ¬ (P n)) → ((k : ℕ) → k < suc n → P k) ⊎ ¬ ((k : ℕ) → k < suc n → P k)
  go (inl all) (inl here) = inl (λ k less. last k less (cases_eq k n)) where
    last : (k : ℕ) → k < suc n → ((k ≡ n) ⊎ (k ≢ n)) → P k
    last k less (inl same) = subst P (sym same) here
    last k less (inr other) = all k (omega arith)
  go (inl all) (inr never) = inr (λ holds. never (holds n (omega arith)))
  go (inr never) here = inr (λ holds. never (λ k less. holds k (omega arith)))

module _ (told : CorrectIsTold) (w : Setting) (h : ℕ → List Event) where
  pair_dec : (i j : ℕ) → HasTaken w h i j ⊎ ¬ (HasTaken w h i j)
  pair_dec i j = go (is_correct w i) (is_correct w j) refl refl (cases_eq i j) (cases_eq (next j (h i)) (length (out (group_at w j) (h j)))) where
    true_false : true ≡ false → ⊥
    true_false same = cc

    go : (a b : Bool) → is_correct w i ≡ a → is_correct w j ≡ b → ((i ≡ j) ⊎ (i ≢ j))
        → ((next j (h i) ≡ length (out (group_at w j) (h j))) ⊎ (next j (h i) ≢ length (out (group_at w j) (h j)))) → HasTaken w h i j ⊎ ¬ (HasTaken w h i j)
    go false b one two same equal = inl (λ here there apart. absurd (true_false (sym ((told w i).1 here) ∙ one)))
    go true false one two same equal = inl (λ here there apart. absurd (true_false (sym ((told w j).1 there) ∙ two)))
    go true true one two (inl same) equal = inl (λ here there apart. absurd (apart same))
    go true true one two (inr other) (inl equal) = inl (λ here there apart. equal)
    go true true one two (inr other) (inr never) = inr (λ taken. never (taken ((told w i).0 one) ((told w j).0 two) other))

  taken_dec : AllTaken w h ⊎ ¬ (AllTaken w h)
  taken_dec = go (dec_below (λ i. (j : ℕ) → j < w.members → HasTaken w h i j) (λ i. dec_below (HasTaken w h i) (pair_dec i) w.members) w.members) where
    go : (((i : ℕ) → i < w.members → (j : ℕ) → j < w.members → HasTaken w h i j) ⊎ ¬ ((i : ℕ) → i < w.members → (j : ℕ) → j < w.members → HasTaken w h i j))
        → AllTaken w h ⊎ ¬ (AllTaken w h)
    go (inl all) = inl (record { each = λ i j here there apart. all i here.member j there.member here there apart })
    go (inr never) = inr (λ taken. never (λ i less j small. taken.each i j))

-- ---- an event

-- what it brings reads as something, where there is room for it
abbrev CanRead : List WorldEvent → WorldEvent → Type 0
CanRead es (event.Ask i v) = Unit {0}
CanRead es (event.Bring i bytes) = length es < MOST_EVENTS → (answer : Result FrameFields FrameFault) × IsOneReading bytes answer

behind_exists : (g : GenesisFields) (k : KeyFields) (before : List Event) (es : List WorldEvent) (e : WorldEvent) → CanRead es e → length es < MOST_EVENTS → (reply : WorldReply) × IsReplyAfter g k before e reply
behind_exists g k before es (event.Ask i v) can room = (_, refl)
behind_exists g k before es (event.Bring i bytes) can room =
    let read = can room in
    (Brought (outcome_of g k before read.0), record { reading = read.0; reads = read.1; is = refl })

module _ (c : ScriptGroup) where
  reply_exists : (es : List WorldEvent) (e : WorldEvent) → CanRead es e → length es < MOST_EVENTS → (reply : WorldReply) × IsReplyTo c es e reply
  reply_exists es e can room = go (keys_at c (receiver e)) where
    go : (o : Option KeyFields) → (reply : WorldReply) × MatchOption o (reply ≡ Ignored) (λ k. IsReplyAfter c.genesis k (history_at c es (receiver e)) e reply)
    go None = (Ignored, refl)
    go (Some k) = behind_exists c.genesis k (history_at c es (receiver e)) es e can room

  makes_exists : (es : List WorldEvent) (e : WorldEvent) → CanRead es e → (r : Result WorldReply RunStop) × Makes c es e r
  makes_exists es e can = go (cases_lt (length es) MOST_EVENTS) (is_forged_by c es e) refl where
    go : ((length es < MOST_EVENTS) ⊎ (MOST_EVENTS ≤ length es)) → (b : Bool) → is_forged_by c es e ≡ b → (r : Result WorldReply RunStop) × Makes c es e r
    go (inr full) b is = (Err Limit, full)
    go (inl room) true is = (Err (Forged (length es)), (room, is, refl))
    go (inl room) false is = let reply = reply_exists es e can room in (Ok reply.0, (room, is, reply.1))

  tells_exists : (es : List WorldEvent) (e : WorldEvent) → CanRead es e → (told : Told) × Tells c es e told
  tells_exists es e can = go (makes_exists es e can) where
    go : ((r : Result WorldReply RunStop) × Makes c es e r) → (told : Told) × Tells c es e told
    go (Ok reply, made) = (Prints (reply_line (receiver e) reply) (es ++ e ∷ []), (reply, made, refl, refl))
    go (Err stop, made) = (Stops stop, made)

-- ---- frames that are brought

-- as many events as before, or more, and then no more than there may be
abbrev Grows : List WorldEvent → List WorldEvent → Type 0
Grows es last = (length last ≡ length es) ⊎ ((length es < length last) × (length last ≤ MOST_EVENTS))

grows_on : (es mid last : List WorldEvent) → Grows es mid → Grows mid last → Grows es last
grows_on es mid last (inl same) (inl also) = inl (also ∙ same)
grows_on es mid last (inl same) (inr more) = inr ((let less = more.0 in omega arith), more.1)
grows_on es mid last (inr less) (inl also) = inr ((let one = less.0 in omega arith), (let one = less.1 in omega arith))
grows_on es mid last (inr less) (inr more) = inr ((let one = less.0 in let two = more.0 in omega arith), more.1)

-- from these events on a relation leads on
abbrev LeadsOn : (List WorldEvent → List WorldEvent → Option RunStop → Type 0) → List WorldEvent → Type 0
LeadsOn does es = (last : List WorldEvent) × (stop : Option RunStop) × does es last stop × Grows es last

in_turn_exists : (does : ℕ → List WorldEvent → List WorldEvent → Option RunStop → Type 0) → ((i : ℕ) (es : List WorldEvent) → LeadsOn (does i) es) → (is : List ℕ) (es : List WorldEvent)
    → LeadsOn (InTurn does is) es
in_turn_exists does each [] es = (es, None, (refl, refl), inl refl)
in_turn_exists does each (i ∷ is) es =
    let one = each i es in
    go one.0 one.1 one.2 one.3 (in_turn_exists does each is one.0) where
      go : (mid : List WorldEvent) (met : Option RunStop) → does i es mid met → Grows es mid → LeadsOn (InTurn does is) mid → LeadsOn (InTurn does (i ∷ is)) es
      go mid None first grown rest = (rest.0, rest.1, (mid, None, first, rest.2), grows_on es mid rest.0 grown rest.3)
      go mid (Some s) first grown rest = (mid, Some s, (mid, Some s, first, (refl, refl)), grown)

module _ (on : Ground) (c : ScriptGroup) (group : IsGroup c) where
  sent_reads : (es : List WorldEvent) (from to number : ℕ) (frame : List ℕ) → sent_frame c es from to number ≡ Some frame → is_there c to ≡ true → number < 2 ^ 64
      → (answer : Result FrameFields FrameFault) × IsOneReading frame answer
  sent_reads es from to number frame is there small =
      let found = sent_by c es from to number frame is in
      let s = found.1 in
      let n = c.genesis.members in
      let f = test_sealed n from to number found.0 in (
        Ok f,
        subst (λ bytes. IsOneFrame bytes f) (sym s.is)
            (one_frame_of on.laws.links n from to number found.0 (member on.laws c group from s.there) (member on.laws c group to there) s.other
            (frame_fits on.laws c group es from to number frame found.0 s there small)),
      )

  untaken_reads : (es : List WorldEvent) (from to : ℕ) (frame : List ℕ) → next_untaken c es from to ≡ Some frame → CanRead es (event.Bring to frame)
  untaken_reads es from to frame is room =
      let first = untaken_by on.laws c group es from to frame is in
      sent_reads es from to (next_number c es from to) frame first.1 first.0 (next_below on.laws c group es from to room)

  draw_step : (from to : ℕ) (es : List WorldEvent)
      → ((frame : List ℕ) → length es < MOST_EVENTS → LeadsOn (Draws c from to) (es ++ event.Bring to frame ∷ [])) → LeadsOn (Draws c from to) es
  draw_step from to es further = go (next_untaken c es from to) refl where
    made : (frame : List ℕ) → next_untaken c es from to ≡ Some frame → ((r : Result WorldReply RunStop) × Makes c es (event.Bring to frame) r) → LeadsOn (Draws c from to) es
    made frame is (Err stop, stopped) = (es, Some stop, Stopped frame stop is stopped, inl refl)
    made frame is (Ok reply, brought) =
        let rest = further frame brought.0 in
        let room = brought.0 in
        let long = length-append es (event.Bring to frame ∷ []) in (
          rest.0,
          rest.1,
          Further frame reply is brought rest.2,
          grows_on es (es ++ event.Bring to frame ∷ []) rest.0 (inr ((omega arith), (omega arith))) rest.3,
        )

    go : (o : Option (List ℕ)) → next_untaken c es from to ≡ o → LeadsOn (Draws c from to) es
    go None is = (es, None, Nothing is, inl refl)
    go (Some frame) is = made frame is (makes_exists c es (event.Bring to frame) (untaken_reads es from to frame is))

  draws_within : (from to n : ℕ) (es : List WorldEvent) → MOST_EVENTS ≤ length es + n → LeadsOn (Draws c from to) es
  draws_within from to zero es full = draw_step from to es (λ frame room. absurd (omega arith))
  draws_within from to (suc n) es full =
      draw_step from to es (λ frame room. draws_within from to n (es ++ event.Bring to frame ∷ []) (let long = length-append es (event.Bring to frame ∷ []) in omega arith))

  passes_exist : (es : List WorldEvent) → LeadsOn (MakesPass c) es
  passes_exist =
      in_turn_exists (FeedsMember c)
      (λ to. in_turn_exists (λ from. Draws c from to) (λ from es. draws_within from to MOST_EVENTS es (omega arith)) (range_with_len 0 c.genesis.members))
      (range_with_len 0 c.genesis.members)

  abbrev AllFrom : List WorldEvent → Type 0
  AllFrom es = (last : List WorldEvent) × (stop : Option RunStop) × BringsAll c es last stop

  all_step : (es : List WorldEvent) → ((mid : List WorldEvent) → length es < length mid → length mid ≤ MOST_EVENTS → AllFrom mid) → AllFrom es
  all_step es again = let one = passes_exist es in go one.0 one.1 one.2 one.3 where
    go : (mid : List WorldEvent) (stop : Option RunStop) → MakesPass c es mid stop → Grows es mid → AllFrom es
    go mid (Some s) passes grown = (mid, Some s, Halted s passes)
    go mid None passes (inl same) = (mid, None, Enough passes same)
    go mid None passes (inr more) = let rest = again mid more.0 more.1 in (rest.0, rest.1, Again passes more.0 rest.2)

  all_within : (n : ℕ) (es : List WorldEvent) → MOST_EVENTS ≤ length es + n → AllFrom es
  all_within zero es full = all_step es (λ mid less most. absurd (omega arith))
  all_within (suc n) es full = all_step es (λ mid less most. all_within n mid (omega arith))

  converged_exists : (es : List WorldEvent) → (words : List ℕ) × IsConverged c es words
  converged_exists es = go (taken_dec on.correct (setting_of c.liars) (history_at c es)) where
    go : (AllTaken (setting_of c.liars) (history_at c es) ⊎ ¬ (AllTaken (setting_of c.liars) (history_at c es))) → (words : List ℕ) × IsConverged c es words
    go (inl taken) = (with_feed (codes "converged"), inl (taken, refl))
    go (inr never) = ([], inr (never, refl))

  all_tells : (es : List WorldEvent) → (told : Told) × TellsAll c es told
  all_tells es = let all = all_within MOST_EVENTS es (omega arith) in go all.0 all.1 all.2 where
    go : (last : List WorldEvent) (stop : Option RunStop) → BringsAll c es last stop → (told : Told) × TellsAll c es told
    go last (Some stop) brings = (Stops stop, (last, brings))
    go last None brings =
        let words = converged_exists last in
        (Prints (codes "brought " ++ with_feed (decimal (length last - length es)) ++ words.0) last, (brings, (words.0, words.1, refl)))

  -- ---- a line

  bring_exists : (es : List WorldEvent) (from to number : ℕ) → number < 2 ^ 64 → (told : Told) × TellsBring c es from to number told
  unfolding frame_for
  bring_exists es from to number small = go (is_there c to) (sent_frame c es from to number) refl refl where
    go : (b : Bool) (o : Option (List ℕ)) → is_there c to ≡ b → sent_frame c es from to number ≡ o → (told : Told) × TellsSent c es to (cond b o (Some [])) told
    go false o there is = tells_exists c es (event.Bring to []) (λ room. on.reads [] (record { fits = λ i. (omega arith) }))
    go true None there is = (Prints (with_feed (codes "absent")) es, refl)
    go true (Some frame) there is = tells_exists c es (event.Bring to frame) (λ room. sent_reads es from to number frame is there small)

  lie_reads : (es : List WorldEvent) (from to number : ℕ) (body : BodyFields) → from < MEMBERS → to < MEMBERS → number < 2 ^ 64 → IsBody body
      → (answer : Result FrameFields FrameFault) × IsOneReading (test_frame from to number body) answer
  unfolding test_frame test_tag
  lie_reads es from to number body here there small fits = (
    Ok (record { from = from; to = to; number = number; body = body; tag = test_tag from to number body }),
    record {
      is = record { from = (omega arith); to = (omega arith); number = small; body = fits; tag = length-mac (pair_key from to) (tagged_bytes from to number body) };
      spelled = refl;
    },
  )

  lie_small : (es : List WorldEvent) (from to : ℕ) (turn : Option ℕ) → IsTurn turn → length es < MOST_EVENTS → lie_number c es from to turn < 2 ^ 64
  lie_small es from to (Some number) small room = small
  lie_small es from to None small room = next_below on.laws c group es from to room

  obeys_exists : (es : List WorldEvent) (command : ScriptCommand) → FitsFrame command → (told : Told) × Obeys c es command told
  obeys_exists es (Ask member value) fits = tells_exists c es _ tt
  obeys_exists es (Bring from to number) fits = bring_exists es from to number fits
  obeys_exists es (Lie from to number body) fits =
      tells_exists c es (event.Bring to (lie_frame c es from to number body))
      (λ room. lie_reads es from to (lie_number c es from to number) body fits.0 fits.1 (lie_small es from to number fits.2 room) fits.3)
  obeys_exists es (Raw to bytes) fits = tells_exists c es (event.Bring to bytes) (λ room. on.reads bytes fits)
  obeys_exists es All fits = all_tells es
  obeys_exists es Show fits = (Prints (show_text c es) es, refl)

  command_exists : (es : List WorldEvent) (o : Option ScriptCommand) → AskedFits o → (told : Told) × CommandTells c es o told
  command_exists es None fits = (Stops BadLine, refl)
  command_exists es (Some command) fits = obeys_exists es command fits

  line_exists : (es : List WorldEvent) (line : List ℕ) → (told : Told) × LineTells c es line told
  line_exists es [] = (Prints [] es, refl)
  line_exists es (b ∷ line) = command_exists es (script_command_in (b ∷ line)) (asked_fits (b ∷ line))

-- ---- line by line

abbrev IsSound : Option ScriptGroup → Type 0
IsSound None = Unit {0}
IsSound (Some c) = IsGroup c

does_exists : Ground → (group : Option ScriptGroup) (es : List WorldEvent) (line : Option (List ℕ)) → IsSound group → (then : Option ScriptGroup) × (told : Told) × Does group es line then told × IsSound then
does_exists on group es None sound = (group, Stops BadLine, (refl, refl), sound)
does_exists on (Some c) es (Some line) sound = let told = line_exists on c sound es line in (Some c, told.0, (told.1, refl), sound)
does_exists on None es (Some line) sound = go (script_group_in line) refl where
  go : (o : Option ScriptGroup) → script_group_in line ≡ o → (then : Option ScriptGroup) × (told : Told) × Founds es o then told × IsSound then
  go None is = (None, Stops BadLine, (refl, refl), tt)
  go (Some c) is = (Some c, Prints [] es, (refl, refl), on.groups line c is)

follows_exists : (m : Moment) (group : Option ScriptGroup) (told : Told) → (text : List ℕ) × (goes : Bool) × (n : Moment) × Continues m group told text goes n × (n.group ≡ group)
follows_exists m group (Prints words last) = (words, true, record m { lines = one_more m.lines; group = group; events = last }, (refl, refl, refl), refl)
follows_exists m group (Stops stop) = (with_feed (last_words stop (one_more m.lines)), false, record m { lines = one_more m.lines; group = group; stopped = Some stop }, (refl, refl, refl), refl)

reads_exists : Ground → (m : Moment) (line : Option (List ℕ)) → IsSound m.group → (text : List ℕ) × (goes : Bool) × (n : Moment) × PlaysLine m line text goes n × IsSound n.group
reads_exists on m line sound =
    let done = does_exists on m.group m.events line sound in
    let then = follows_exists m done.0 done.1 in
    (then.0, then.1, then.2, (done.0, done.1, done.2, then.3), subst IsSound (sym then.4) done.3)

answers_exist : Ground → (lines : List (Option (List ℕ))) (m : Moment) → IsSound m.group → (text : List ℕ) × (goes : Bool) × (n : Moment) × Answers PlaysLine m lines text goes n
answers_exist on [] m sound = ([], true, m, (refl, refl, refl))
answers_exist on (line ∷ lines) m sound =
    let first = reads_exists on m line sound in
    go first.0 first.1 first.2 first.3 (answers_exist on lines first.2 first.4) where
      go : (text : List ℕ) (goes : Bool) (mid : Moment) → PlaysLine m line text goes mid → ((rest : List ℕ) × (more : Bool) × (n : Moment) × Answers PlaysLine mid lines rest more n)
          → (all : List ℕ) × (more : Bool) × (n : Moment) × Answers PlaysLine m (line ∷ lines) all more n
      go text true mid said rest = (text ++ rest.0, rest.1, rest.2, (text, rest.0, true, mid, said, refl, rest.3))
      go text false mid said rest = (text ++ [], false, mid, (text, [], false, mid, said, refl, record { silent = refl; over = refl; same = refl }))

pub runs : Ground → (script : List ℕ) → (text : List ℕ) × (ended : SimEnd) × IsRun script text ended
runs on [] = (no_line, end.BadLine, (refl, refl))
runs on (b ∷ script) =
    let all = answers_exist on (lines_within LONGEST_LINE (b ∷ script)) start tt in
    (all.0, end_of all.2.stopped, (all.1, all.2, all.3, refl))
