-- What a line does, by what its parts do.
use Rattle.std.proofs.Common.{◌≡◌, ◌≢◌, ℕ, List, [], ◌∷◌, ◌++◌, length, Option, Some, None, Result, Ok, Err, true, false, refl, sym, ap, ◌∙◌, subst, arith, append-nil}
use Rattle.std.specs.Prelude.{⊤}
use Rattle.pay_world.specs.declared.event.WorldEvent.{WorldEvent}
use Rattle.pay_world.specs.Answer.{one_more}
use Rattle.pay_sim.specs.declared.command.ScriptCommand.{ScriptCommand}
use Rattle.pay_sim.specs.declared.group.ScriptGroup.{ScriptGroup}
use Rattle.pay_sim.specs.declared.run.Halt.{Halt}
use Rattle.pay_sim.specs.declared.run.Halt.TheVariants as halt
use Rattle.pay_sim.specs.declared.run.RunStop.{RunStop}
use Rattle.pay_sim.specs.declared.run.RunStop.TheVariants.{BadLine}
use Rattle.pay_sim.specs.Commands.{script_command_in}
use Rattle.pay_sim.specs.Script.{Told, Prints, Stops, CommandTells, Does, Founds, LineTells, Moment, PlaysLine, last_words, with_feed}
use Rattle.pay_sim.specs.Playing.{GameFields, IsAfter, IsDone, IsFounded, IsGameAt, IsPlaying, IsRead, IsStopped, PlayFields}

pub done_as : (P Q : Told → Type 0) (c : ScriptGroup) (before after : List ℕ) (new : GameFields) (r : Result ⊤ Halt) → ((t : Told) → P t → Q t) → IsDone P c before after new r → IsDone Q c before after new r
done_as P Q c before after new (Ok x) f (text, last, does, written, behind) = (text, last, f (Prints text last) does, written, behind)
done_as P Q c before after new (Err (halt.Stop stop)) f does = f (Stops stop) does
done_as P Q c before after new (Err halt.Memory) f does = tt

-- ---- a line after the first

pub empty_tells : (c : ScriptGroup) (es : List WorldEvent) (line : List ℕ) → length line ≡ 0 → LineTells c es line (Prints [] es)
empty_tells c es [] none = refl
empty_tells c es (b ∷ line) none = absurd (omega arith)

pub command_tells : (c : ScriptGroup) (es : List WorldEvent) (line : List ℕ) (o : Option ScriptCommand) (told : Told) → length line ≢ 0 → o ≡ script_command_in line → CommandTells c es o told → LineTells c es line told
command_tells c es [] o told some is does = absurd (some refl)
command_tells c es (b ∷ line) o told some is does = subst (λ (x : Option ScriptCommand). CommandTells c es x told) is does

-- ---- any line

pub reads_none : (group : Option ScriptGroup) (es : List WorldEvent) (line : Option (List ℕ)) → line ≡ None → (then : Option ScriptGroup) × Does group es line then (Stops BadLine)
reads_none group es line is = subst (λ (x : Option (List ℕ)). (then : Option ScriptGroup) × Does group es x then (Stops BadLine)) (sym is) (group, (refl, refl))

none_some : {X : Type 0} (x : X) → ◌≡◌ {A = Option X} None (Some x) → ⊥
none_some x same = cc

pub reads_command : (group : Option ScriptGroup) (es : List WorldEvent) (line : Option (List ℕ)) (text before after : List ℕ) (game : Option GameFields) (g new : GameFields) (r : Result ⊤ Halt)
    → line ≡ Some text → game ≡ Some g → IsGameAt game group es
    → ((c : ScriptGroup) (es : List WorldEvent) → IsAfter c es g → IsDone (LineTells c es text) c before after new r)
    → IsRead group es line before after (Some new) r
reads_command group es line text before after game g new r is at behind does =
    subst (λ (x : Option (List ℕ)). IsRead group es x before after (Some new) r) (sym is) (go group r (subst (λ (x : Option GameFields). IsGameAt x group es) at behind) does) where
      go : (group : Option ScriptGroup) (r : Result ⊤ Halt) → IsGameAt (Some g) group es
          → ((c : ScriptGroup) (es : List WorldEvent) → IsAfter c es g → IsDone (LineTells c es text) c before after new r)
          → IsRead group es (Some text) before after (Some new) r
      go None r b does = absurd b
      go (Some c) (Ok x) b does = let done = does c es b in (done.0, Some c, done.1, (done.2, refl), done.3, done.4)
      go (Some c) (Err (halt.Stop stop)) b does = (Some c, (does c es b, refl))
      go (Some c) (Err halt.Memory) b does = tt

pub founds : (group : Option ScriptGroup) (es : List WorldEvent) (line : Option (List ℕ)) (text before : List ℕ) (game : Option GameFields) (g : GameFields)
    → line ≡ Some text → game ≡ None → IsGameAt game group es → IsFounded text (Ok g)
    → IsRead group es line before before (Some g) (Ok tt)
founds group es line text before game g is at behind (c, said, fresh) =
    subst (λ (x : Option (List ℕ)). IsRead group es x before before (Some g) (Ok tt)) (sym is) (go group (subst (λ (x : Option GameFields). IsGameAt x group es) at behind)) where
      go : (group : Option ScriptGroup) → IsGameAt None group es → IsRead group es (Some text) before before (Some g) (Ok tt)
      go (Some d) b = absurd b
      go None none = ([], Some c, es, subst (λ (o : Option ScriptGroup). Founds es o (Some c) (Prints [] es)) (sym said) (refl, refl), sym (append-nil before), subst (λ (l : List WorldEvent). IsAfter c l g) (sym none) fresh)

-- ---- the answer to a line

pub goes_on : (old new : PlayFields) (lines : ℕ) (line : Option (List ℕ)) (before out : List ℕ) (m : Moment) → IsPlaying old m → lines ≡ one_more old.lines → before ≡ []
    → IsRead m.group m.events line before out new.game (Ok tt) → new.lines ≡ lines → new.stop ≡ old.stop → (n : Moment) × PlaysLine m line out true n × IsPlaying new n
goes_on old new lines line before out m going counted none (text, then, last, does, written, at) same kept = (
  record m { lines = one_more m.lines; group = then; events = last },
  (then, Prints text last, does, (written ∙ ap (λ (xs : List ℕ). xs ++ text) none, refl, refl)),
  record { lines = same ∙ counted ∙ ap one_more going.lines; stop = kept ∙ going.stop; game = at },
)

pub stops : (old new : PlayFields) (line : Option (List ℕ)) (before after text : List ℕ) (game : Option GameFields) (stop : RunStop) (m : Moment) → IsPlaying old m
    → IsRead m.group m.events line before after game (Err (halt.Stop stop)) → new.lines ≡ one_more old.lines → new.stop ≡ Some stop
    → text ≡ with_feed (last_words stop new.lines) → (n : Moment) × PlaysLine m line text false n × IsStopped new n
stops old new line before after text game stop m going (then, does) counted is written = (
  record m { lines = one_more m.lines; group = then; stopped = Some stop },
  (then, Stops stop, does, (written ∙ ap (λ (k : ℕ). with_feed (last_words stop k)) (counted ∙ ap one_more going.lines), refl, refl)),
  record { lines = counted ∙ ap one_more going.lines; stop = is },
)
