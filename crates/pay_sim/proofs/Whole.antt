-- The run of a whole script.
use Rattle.std.proofs.Common.{◌≡◌, ◌≢◌, ℕ, zero, suc, ◌≤◌, Bool, true, false, cond, eqb, List, [], ◌∷◌, ◌++◌, map, take, Option, Some, None, Ok, Err, inl, refl, sym, ap, ◌∙◌, subst, arith}
use Rattle.std.specs.Prelude.{IfSome}
use Rattle.std.specs.Io.KnownBytes.{Appends, IsAtEnd}
use Rattle.std.proofs.KnownBytes.{Appends-trans}
use Rattle.pay_frame.specs.declared.device.StreamFault.{StreamFault}
use Rattle.pay_frame.specs.Device.{WroteBeginning}
use Rattle.pay_text.specs.Answers.{Answers, Either}
use Rattle.pay_text.specs.Engine.{Answering, AnswersAll, AnswersFirst, Dialogue, WritesByEnd}
use Rattle.pay_text.specs.Lines.{line_feed, lines_of, lines_within, within}
use Rattle.pay_text.specs.Words.{onto_first}
use Rattle.pay_sim.specs.declared.group.ScriptGroup.{ScriptGroup}
use Rattle.pay_sim.specs.declared.run.TheConstants.{LONGEST_LINE}
use Rattle.pay_sim.specs.declared.run.SimEnd.TheVariants as end
use Rattle.pay_sim.specs.declared.run.RunStop.{RunStop}
use Rattle.pay_sim.specs.declared.run.RunStop.TheVariants.{BadLine, Forged, Limit}
use Rattle.pay_sim.specs.Script.{Told, Prints, Stops, Continues, IsRun, IsRunBegun, Moment, PlaysLine, WritesRun, end_of, no_line, start}
use Rattle.pay_sim.specs.Playing.{IsPlayAnswer, IsAt, IsGameAt, IsPlaying, IsStopped, MayBeAny, PlayFields}

-- ---- lines that are answered are a script's

true_false : true ≡ false → ⊥
true_false same = cc

pub follow : (p q : PlayFields) (lines : List (Option (List ℕ))) (text : List ℕ) (on : Bool) (m : Moment) → IsPlaying p m → Answers IsPlayAnswer p lines text on q
    → (n : Moment) × Answers PlaysLine m lines text on n × IsAt on q n
follow p q [] text on m going (silent, goes, same) =
    (m, (silent, goes, refl), subst (λ (b : Bool). IsAt b q m) (sym goes) (subst (λ (x : PlayFields). IsPlaying x m) (sym same) going))
follow p q (line ∷ lines) text on m going (first, rest, true, mid, said, parts, after) =
    let one = said m going in
    let more = follow mid q lines rest on one.0 one.2 after in
    (more.0, (first, rest, true, one.0, one.1, parts, more.1), more.2)
follow p q (line ∷ lines) text on m going (first, rest, false, mid, said, parts, after) =
    let one = said m going in (
      one.0,
      (first, rest, false, one.0, one.1, parts, record { silent = after.silent; over = after.over; same = refl }),
      subst (λ (b : Bool). IsAt b q one.0) (sym after.over) (subst (λ (x : PlayFields). IsStopped x one.0) (sym after.same) one.2),
    )

stop_is : (on : Bool) (q : PlayFields) (n : Moment) → IsAt on q n → q.stop ≡ n.stopped
stop_is true q n at = at.stop
stop_is false q n at = at.stop

lines_is : (on : Bool) (q : PlayFields) (n : Moment) → IsAt on q n → q.lines ≡ n.lines
lines_is true q n at = at.lines
lines_is false q n at = at.lines

-- ---- a run that is stopped isn't done

not_done : (s : RunStop) → end_of (Some s) ≡ end.Done → ⊥
not_done BadLine same = cc
not_done (Forged k) same = cc
not_done Limit same = cc

stops_here : (m n : Moment) (group : Option ScriptGroup) (told : Told) (text : List ℕ) → Continues m group told text false n → end_of n.stopped ≡ end.Done → ⊥
stops_here m n group (Prints words last) text (said, goes, is) done = true_false (sym goes)
stops_here m n group (Stops stop) text (said, over, is) done = not_done stop (sym (ap (λ (x : Moment). end_of x.stopped) is) ∙ done)

stopped_is_not_done : (m n : Moment) (lines : List (Option (List ℕ))) (text : List ℕ) (on : Bool) → on ≡ false → Answers PlaysLine m lines text on n → end_of n.stopped ≡ end.Done → ⊥
stopped_is_not_done m n [] text on over (silent, goes, same) done = true_false (sym goes ∙ over)
stopped_is_not_done m n (line ∷ lines) text on over (first, rest, true, mid, said, parts, after) done = stopped_is_not_done mid n lines rest on over after done
stopped_is_not_done m n (line ∷ lines) text on over (first, rest, false, mid, (group, told, does, follows), parts, after) done =
    stops_here m mid group told first follows (sym (ap (λ (x : Moment). end_of x.stopped) after.same) ∙ done)

-- ---- how many lines there were

counts_one : (m n : Moment) (group : Option ScriptGroup) (told : Told) (text : List ℕ) (on : Bool) → Continues m group told text on n → 1 ≤ n.lines
counts_one m n group (Prints words last) text on (said, goes, is) = let count = ap (λ (x : Moment). x.lines) is in omega arith
counts_one m n group (Stops stop) text on (said, over, is) = let count = ap (λ (x : Moment). x.lines) is in omega arith

counts_on : (m n : Moment) (lines : List (Option (List ℕ))) (text : List ℕ) (on : Bool) → 1 ≤ m.lines → Answers PlaysLine m lines text on n → 1 ≤ n.lines
counts_on m n [] text on some (silent, goes, same) = subst (λ (x : Moment). 1 ≤ x.lines) (sym same) some
counts_on m n (line ∷ lines) text on some (first, rest, true, mid, (group, told, does, follows), parts, after) =
    counts_on mid n lines rest on (counts_one m mid group told first true follows) after
counts_on m n (line ∷ lines) text on some (first, rest, false, mid, (group, told, does, follows), parts, after) =
    subst (λ (x : Moment). 1 ≤ x.lines) (sym after.same) (counts_one m mid group told first false follows)

counts : (m n : Moment) (line : Option (List ℕ)) (lines : List (Option (List ℕ))) (text : List ℕ) (on : Bool) → Answers PlaysLine m (line ∷ lines) text on n → 1 ≤ n.lines
counts m n line lines text on (first, rest, true, mid, (group, told, does, follows), parts, after) =
    counts_on mid n lines rest on (counts_one m mid group told first true follows) after
counts m n line lines text on (first, rest, false, mid, (group, told, does, follows), parts, after) =
    subst (λ (x : Moment). 1 ≤ x.lines) (sym after.same) (counts_one m mid group told first false follows)

onto_some : (b : ℕ) (parts : List (List ℕ)) → (l : List ℕ) × (ls : List (List ℕ)) × (onto_first b parts ≡ l ∷ ls)
onto_some b [] = (b ∷ [], [], refl)
onto_some b (part ∷ parts) = (b ∷ part, parts, refl)

some_line : (b : ℕ) (bytes : List ℕ) → (l : List ℕ) × (ls : List (List ℕ)) × (lines_of (b ∷ bytes) ≡ l ∷ ls)
unfolding lines_of
some_line b bytes = go (eqb b line_feed) where
  go : (t : Bool) → (l : List ℕ) × (ls : List (List ℕ)) × (cond t ([] ∷ lines_of bytes) (onto_first b (lines_of bytes)) ≡ l ∷ ls)
  go true = ([], lines_of bytes, refl)
  go false = onto_some b (lines_of bytes)

none_of_none : lines_within LONGEST_LINE [] ≡ []
unfolding lines_of
none_of_none = refl

-- ---- what is written

starts : (p : PlayFields) → p ≡ record { lines = 0; game = None; stop = None } → IsPlaying p start
starts p fresh = record {
  lines = ap (λ (x : PlayFields). x.lines) fresh;
  stop = ap (λ (x : PlayFields). x.stop) fresh;
  game = subst (λ (x : PlayFields). IsGameAt x.game None []) (sym fresh) refl;
}

nothing_read : (p q : PlayFields) (text : List ℕ) (on : Bool) → p.lines ≡ 0 → Answers IsPlayAnswer p (lines_within LONGEST_LINE []) text on q → (text ≡ []) × (q.lines ≡ 0)
nothing_read p q text on none answers = go (subst (λ (ls : List (Option (List ℕ))). Answers IsPlayAnswer p ls text on q) none_of_none answers) where
  go : Answers IsPlayAnswer p [] text on q → (text ≡ []) × (q.lines ≡ 0)
  go (silent, goes, same) = (silent, ap (λ (x : PlayFields). x.lines) same ∙ none)

some_read : (p q : PlayFields) (b : ℕ) (bytes text : List ℕ) (on : Bool) → IsPlaying p start → Answers IsPlayAnswer p (lines_within LONGEST_LINE (b ∷ bytes)) text on q → 1 ≤ q.lines
some_read p q b bytes text on going answers =
    let followed = follow p q (lines_within LONGEST_LINE (b ∷ bytes)) text on start going answers in
    let line = some_line b bytes in
    let many = counts start followed.0 (within LONGEST_LINE line.0) (map (within LONGEST_LINE) line.1) text on
    (subst (λ (ls : List (List ℕ)). Answers PlaysLine start (map (within LONGEST_LINE) ls) text on followed.0) line.2 followed.1) in
    let same = lines_is on q followed.0 followed.2 in
    omega arith

abbrev answering : {A : Type 0} → (A → Option (List ℕ) → List ℕ → Bool → A → Type 0) → (A → A → Type 0) → Answering A
answering says gives_up = record { says = says; gives_up = gives_up }

abbrev said_by : {A : Type 0} → A → Option (List ℕ) → Dialogue A
said_by a written = record { answerer = a; written = written }

module _ (p q : PlayFields) (input left before after : Option (List ℕ)) (fresh : p ≡ record { lines = 0; game = None; stop = None }) where
  none_at_first : p.lines ≡ 0
  none_at_first = ap (λ (x : PlayFields). x.lines) fresh

  -- some line was read
  pub ends : (on : Bool) → WritesByEnd (answering IsPlayAnswer MayBeAny) LONGEST_LINE (said_by p before) (said_by q after) input left (Ok on) → q.lines ≢ 0 → WritesRun input left before after (Ok (end_of q.stop))
  ends on (all, at) some = go input all where
    finish : (on : Bool) → Either on (IsAtEnd left) Unit → (n : Moment) (lines : List (Option (List ℕ))) (text : List ℕ) → Answers PlaysLine start lines text on n → q.stop ≡ n.stopped → end_of q.stop ≡ end.Done → IsAtEnd left
    finish true at n lines text answers stop done = at
    finish false at n lines text answers stop done = absurd (stopped_is_not_done start n lines text false refl answers (sym (ap end_of stop) ∙ done))

    go : (o : Option (List ℕ)) → IfSome o (λ bytes. AnswersAll IsPlayAnswer (lines_within LONGEST_LINE bytes) (said_by p before) (said_by q after) on)
        → IfSome o (λ script. (text : List ℕ) × IsRun script text (end_of q.stop) × Appends before after text × (end_of q.stop ≡ end.Done → IsAtEnd left))
    go None a = tt
    go (Some []) a = absurd (some (nothing_read p q a.text on none_at_first a.answers).1)
    go (Some (b ∷ bytes)) a =
        let followed = follow p q (lines_within LONGEST_LINE (b ∷ bytes)) a.text on start (starts p fresh) a.answers in
        let stop = stop_is on q followed.0 followed.2 in
        (a.text, (on, followed.0, followed.1, ap end_of stop), a.written, finish on at followed.0 (lines_within LONGEST_LINE (b ∷ bytes)) a.text followed.1 stop)

  -- no line was read
  bad_is_not_done : end.BadLine ≡ end.Done → ⊥
  bad_is_not_done same = cc

  pub ends_empty : (on : Bool) (last : Option (List ℕ)) → WritesByEnd (answering IsPlayAnswer MayBeAny) LONGEST_LINE (said_by p before) (said_by q after) input left (Ok on) → q.lines ≡ 0 → Appends after last no_line → WritesRun input left before last (Ok end.BadLine)
  ends_empty on last (all, at) none written = go input all where
    go : (o : Option (List ℕ)) → IfSome o (λ bytes. AnswersAll IsPlayAnswer (lines_within LONGEST_LINE bytes) (said_by p before) (said_by q after) on)
        → IfSome o (λ script. (text : List ℕ) × IsRun script text end.BadLine × Appends before last text × (end.BadLine ≡ end.Done → IsAtEnd left))
    go None a = tt
    go (Some []) a =
        let nothing = (nothing_read p q a.text on none_at_first a.answers).0 in
        (no_line, (refl, refl), subst (λ (t : List ℕ). Appends before last (t ++ no_line)) nothing (Appends-trans before after last a.text no_line a.written written), λ done. absurd (bad_is_not_done done))
    go (Some (b ∷ bytes)) a = absurd (let many = some_read p q b bytes a.text on (starts p fresh) a.answers in omega arith)

  pub breaks_empty : (on : Bool) (last : Option (List ℕ)) (fault : StreamFault) → WritesByEnd (answering IsPlayAnswer MayBeAny) LONGEST_LINE (said_by p before) (said_by q after) input left (Ok on) → q.lines ≡ 0 → WroteBeginning after last no_line → WritesRun input left before last (Err fault)
  breaks_empty on last fault (all, at) none wrote = go input all where
    go : (o : Option (List ℕ)) → IfSome o (λ bytes. AnswersAll IsPlayAnswer (lines_within LONGEST_LINE bytes) (said_by p before) (said_by q after) on) → IfSome o (λ script. IsRunBegun script before last)
    go None a = tt
    go (Some []) a =
        let nothing = (nothing_read p q a.text on none_at_first a.answers).0 in
        record {
          count = wrote.count;
          within = wrote.within;
          written = subst (λ (t : List ℕ). Appends before last (t ++ take wrote.count no_line)) nothing (Appends-trans before after last a.text (take wrote.count no_line) a.written wrote.written);
        }
    go (Some (b ∷ bytes)) a = absurd (let many = some_read p q b bytes a.text on (starts p fresh) a.answers in omega arith)

  -- a device broke it off
  nil_of_nil : (first others : List (Option (List ℕ))) → [] ≡ first ++ others → first ≡ []
  nil_of_nil [] others same = refl
  nil_of_nil (x ∷ first) others same = absurd cc

  none_written : (w v : Option (List ℕ)) (text : List ℕ) → text ≡ [] → WroteBeginning w v text → WroteBeginning w v no_line
  none_written w v text nothing wrote = record {
    count = 0;
    within = omega arith;
    written = subst (λ (t : List ℕ). Appends w v t) (ap (take wrote.count) nothing ∙ take_none wrote.count) wrote.written;
  } where
    take_none : (k : ℕ) → ◌≡◌ {A = List ℕ} (take k []) []
    take_none zero = refl
    take_none (suc k) = refl

  pub breaks : (fault : StreamFault) → WritesByEnd (answering IsPlayAnswer MayBeAny) LONGEST_LINE (said_by p before) (said_by q after) input left (Err fault) → WritesRun input left before after (Err fault)
  breaks fault all = go input all where
    go : (o : Option (List ℕ)) → IfSome o (λ bytes. AnswersFirst (answering IsPlayAnswer MayBeAny) (lines_within LONGEST_LINE bytes) (said_by p before) (said_by q after)) → IfSome o (λ script. IsRunBegun script before after)
    go None a = tt
    go (Some []) a =
        let none = nil_of_nil a.first a.others (sym none_of_none ∙ a.parts) in
        let nothing = subst (λ (ls : List (Option (List ℕ))). Answers IsPlayAnswer p ls a.text a.on a.mid) none a.answers in
        none_written before after a.text nothing.0 a.wrote
    go (Some (b ∷ bytes)) a =
        let followed = follow p a.mid a.first a.text a.on start (starts p fresh) a.answers in
        (followed.0, record { first = a.first; others = a.others; parts = a.parts; text = a.text; on = a.on; mid = followed.0; answers = followed.1; wrote = a.wrote; ends = inl refl })
