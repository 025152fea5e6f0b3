-- Answers that wait after what is written.
use Rattle.std.proofs.Common.{◌≡◌, ℕ, ◌+◌, List, [], ◌∷◌, ◌++◌, length, take, refl, sym, ◌∙◌, ap, subst, arith, append_assoc, append-nil, length-append, true, false, Bool, Ok, Err, inl, inr}
use Rattle.std.specs.Prelude.{Option, Result}
use Rattle.std.specs.Io.KnownBytes.{Appends}
use Rattle.std.proofs.KnownBytes.{Appends-nil, Appends-trans}
use Rattle.std.proofs.Math.Seq.{take-append-add}
use Rattle.std.proofs.lemmas.List.{take-append-le, take_all}
use Rattle.pay_frame.specs.declared.device.StreamFault.{StreamFault}
use Rattle.pay_frame.specs.declared.device.StreamFault.TheVariants.{Memory, Read, Write, Bound}
use Rattle.pay_frame.specs.Device.{WroteBeginning}
use Rattle.pay_text.specs.Answers.{Answers}
use Rattle.pay_text.specs.Engine.{AnswersFirst, AnswersSome}
use Rattle.pay_text.specs.Outbox.{Backlog, Puts, PutsUntil, BrokeOff, PutsSome, HasWritten}
use Rattle.pay_text.proofs.Answering.{answering, said_by, answers_join, answers_last, answers_one}

-- ---- an outbox

pub puts_held : (w : Option (List ℕ)) (old new text : List ℕ) → new ≡ old ++ text → Puts w w old new text
puts_held w old new text held = record { out = []; written = Appends-nil w; all = sym held }

pub puts_after : (a b : Option (List ℕ)) (old new text : List ℕ) → Appends a b old → new ≡ text → Puts a b old new text
puts_after a b old new text out held = record { out = old; written = out; all = ap (λ xs. old ++ xs) (sym held) }

pub puts_all : (a b c : Option (List ℕ)) (old new text : List ℕ) → Appends a b old → Appends b c text → new ≡ [] → Puts a c old new text
puts_all a b c old new text out more none = record {
  out = old ++ text;
  written = Appends-trans a b c old text out more;
  all = sym (append-nil (old ++ text)) ∙ ap (λ xs. (old ++ text) ++ xs) (sym none);
}

pub began_all : (a b : Option (List ℕ)) (text : List ℕ) → Appends a b text → WroteBeginning a b text
began_all a b text written = record {
  count = length text;
  within = omega arith;
  written = subst (λ (xs : List ℕ). Appends a b xs) (sym (take_all (length text) text (omega arith))) written;
}

pub began_further : (a b c : Option (List ℕ)) (out text : List ℕ) → Appends a b out → WroteBeginning b c text → WroteBeginning a c (out ++ text)
began_further a b c out text written wrote =
    let within = wrote.within in
    let front : take (length out + wrote.count) (out ++ text) ≡ out ++ take wrote.count text = take-append-add out text wrote.count in
    record {
      count = length out + wrote.count;
      within = omega (arith, length-append out text);
      written = subst (λ (xs : List ℕ). Appends a c xs) (sym front) (Appends-trans a b c out (take wrote.count text) written wrote.written);
    }

pub began_at_first : (a c : Option (List ℕ)) (out text : List ℕ) → WroteBeginning a c out → WroteBeginning a c (out ++ text)
began_at_first a c out text wrote =
    let within = wrote.within in
    record {
      count = wrote.count;
      within = omega (arith, length-append out text);
      written = subst (λ (xs : List ℕ). Appends a c xs) (sym (take-append-le wrote.count out text within)) wrote.written;
    }

puts_nothing : (w : Option (List ℕ)) (waits : List ℕ) → Puts w w waits waits []
puts_nothing w waits = record { out = []; written = Appends-nil w; all = append-nil waits }

puts_further : (a b c : Option (List ℕ)) (old mid new text more : List ℕ) → Puts a b old mid text → Puts b c mid new more → Puts a c old new (text ++ more)
puts_further a b c old mid new text more p q = record {
  out = p.out ++ q.out;
  written = Appends-trans a b c p.out q.out p.written q.written;
  all = sym (append_assoc old text more) ∙ ap (λ xs. xs ++ more) p.all ∙ append_assoc p.out mid more
      ∙ ap (λ xs. p.out ++ xs) q.all ∙ sym (append_assoc p.out q.out new);
}

-- what went out and what is to be written, where nothing waited
all_of : (text out waits : List ℕ) → [] ++ text ≡ out ++ waits → out ++ waits ≡ text
all_of text out waits all = sym all

-- ---- answers

abbrev pub waiting : {A : Type 0} → A → Option (List ℕ) → List ℕ → Backlog A
waiting a written waits = record { answerer = a; written = written; waits = waits }

module _ {A : Type 0} (says : A → Option (List ℕ) → List ℕ → Bool → A → Type 0) (gives_up : A → A → Type 0) where
  pub put_nowhere : (lines : List (Option (List ℕ))) (a : A) (w : Option (List ℕ)) (waits : List ℕ) → PutsUntil says lines lines (waiting a w waits) (waiting a w waits)
  put_nowhere lines a w waits = record { answered = []; parts = refl; text = []; answers = (refl, refl, refl); puts = puts_nothing w waits }

  pub one_put : (a new : A) (line : Option (List ℕ)) (left : List (Option (List ℕ))) (text : List ℕ) (on : Bool) (w after : Option (List ℕ)) (waited waits : List ℕ) → says a line text on new → Puts w after waited waits text → PutsSome (answering says gives_up) (line ∷ left) left (waiting a w waited) (waiting new after waits) (Ok on)
  one_put a new line left text true w after waited waits said puts = record { answered = line ∷ []; parts = refl; text = text; answers = answers_one says a new line text true said; puts = puts }
  one_put a new line left text false w after waited waits said puts = record { text = text; answers = answers_last says a new line left text said; puts = puts }

  pub one_refused : (a new : A) (lines left : List (Option (List ℕ))) (w : Option (List ℕ)) (waits : List ℕ) → gives_up a new → PutsSome (answering says gives_up) lines left (waiting a w waits) (waiting new w waits) (Err Memory)
  one_refused a new lines left w waits gave = record { first = []; others = lines; parts = refl; text = []; mid = a; answers = (refl, refl, refl); puts = puts_nothing w waits; ends = gave }

  pub one_broken_off : (a new : A) (line : Option (List ℕ)) (left : List (Option (List ℕ))) (text : List ℕ) (on : Bool) (w after : Option (List ℕ)) (waited waits : List ℕ) → says a line text on new → WroteBeginning w after (waited ++ text) → PutsSome (answering says gives_up) (line ∷ left) left (waiting a w waited) (waiting new after waits) (Err Write)
  one_broken_off a new line left text on w after waited waits said wrote = record { first = line ∷ []; others = left; parts = refl; text = text; on = on; answers = answers_one says a new line text on said; wrote = wrote }

  broke_further :
      (lines mid left : List (Option (List ℕ))) (old a new : A) (before w after : Option (List ℕ)) (waited held waits : List ℕ)
      → PutsUntil says lines mid (waiting old before waited) (waiting a w held) → BrokeOff says mid (waiting a w held) (waiting new after waits) → BrokeOff says lines (waiting old before waited) (waiting new after waits)
  broke_further lines mid left old a new before w after waited held waits p q =
      let puts = p.puts in
      let all : puts.out ++ (held ++ q.text) ≡ waited ++ (p.text ++ q.text) =
      sym (append_assoc puts.out held q.text) ∙ ap (λ xs. xs ++ q.text) (sym puts.all) ∙ append_assoc waited p.text q.text
      in
      record {
        first = p.answered ++ q.first;
        others = q.others;
        parts = p.parts ∙ ap (λ (ls : List (Option (List ℕ))). p.answered ++ ls) q.parts ∙ sym (append_assoc p.answered q.first q.others);
        text = p.text ++ q.text;
        on = q.on;
        answers = answers_join says old a new p.answered q.first p.text q.text q.on p.answers q.answers;
        wrote = subst (WroteBeginning before after) all (began_further before w after puts.out (held ++ q.text) puts.written q.wrote);
      }

  pub put_further :
      (lines mid left : List (Option (List ℕ))) (old a new : A) (before w after : Option (List ℕ)) (waited held waits : List ℕ) (r : Result Bool StreamFault)
      → PutsUntil says lines mid (waiting old before waited) (waiting a w held) → PutsSome (answering says gives_up) mid left (waiting a w held) (waiting new after waits) r
      → PutsSome (answering says gives_up) lines left (waiting old before waited) (waiting new after waits) r
  put_further lines mid left old a new before w after waited held waits (Ok true) p q = record {
    answered = p.answered ++ q.answered;
    parts = p.parts ∙ ap (λ (ls : List (Option (List ℕ))). p.answered ++ ls) q.parts ∙ sym (append_assoc p.answered q.answered left);
    text = p.text ++ q.text;
    answers = answers_join says old a new p.answered q.answered p.text q.text true p.answers q.answers;
    puts = puts_further before w after waited held waits p.text q.text p.puts q.puts;
  }
  put_further lines mid left old a new before w after waited held waits (Ok false) p q = record {
    text = p.text ++ q.text;
    answers = subst (λ (ls : List (Option (List ℕ))). Answers says old ls (p.text ++ q.text) false new) (sym p.parts) (answers_join says old a new p.answered mid p.text q.text false p.answers q.answers);
    puts = puts_further before w after waited held waits p.text q.text p.puts q.puts;
  }
  put_further lines mid left old a new before w after waited held waits (Err Memory) p q = record {
    first = p.answered ++ q.first;
    others = q.others;
    parts = p.parts ∙ ap (λ (ls : List (Option (List ℕ))). p.answered ++ ls) q.parts ∙ sym (append_assoc p.answered q.first q.others);
    text = p.text ++ q.text;
    mid = q.mid;
    answers = answers_join says old a q.mid p.answered q.first p.text q.text true p.answers q.answers;
    puts = puts_further before w after waited held waits p.text q.text p.puts q.puts;
    ends = q.ends;
  }
  put_further lines mid left old a new before w after waited held waits (Err Read) p q = broke_further lines mid left old a new before w after waited held waits p q
  put_further lines mid left old a new before w after waited held waits (Err Write) p q = broke_further lines mid left old a new before w after waited held waits p q
  put_further lines mid left old a new before w after waited held waits (Err Bound) p q = broke_further lines mid left old a new before w after waited held waits p q

  -- ---- what waited is written

  all_written :
      (lines left : List (Option (List ℕ))) (old new : A) (before w after : Option (List ℕ)) (waits : List ℕ) (on : Bool)
      → PutsSome (answering says gives_up) lines left (waiting old before []) (waiting new w waits) (Ok on) → Appends w after waits → AnswersSome (answering says gives_up) lines left (said_by old before) (said_by new after) (Ok on)
  all_written lines left old new before w after waits true p out = record {
    answered = p.answered;
    parts = p.parts;
    text = p.text;
    answers = p.answers;
    written = subst (Appends before after) (sym p.puts.all) (Appends-trans before w after p.puts.out waits p.puts.written out);
  }
  all_written lines left old new before w after waits false p out = record {
    text = p.text;
    answers = p.answers;
    written = subst (Appends before after) (sym p.puts.all) (Appends-trans before w after p.puts.out waits p.puts.written out);
  }

  began_waiting : (before w after : Option (List ℕ)) (text waits : List ℕ) → Puts before w [] waits text → WroteBeginning w after waits → WroteBeginning before after text
  began_waiting before w after text waits puts wrote = subst (WroteBeginning before after) (sym puts.all) (began_further before w after puts.out waits puts.written wrote)

  not_written :
      (lines left : List (Option (List ℕ))) (old new : A) (before w after : Option (List ℕ)) (waits : List ℕ) (on : Bool)
      → PutsSome (answering says gives_up) lines left (waiting old before []) (waiting new w waits) (Ok on) → WroteBeginning w after waits → AnswersFirst (answering says gives_up) lines (said_by old before) (said_by new after)
  not_written lines left old new before w after waits true p wrote = record {
    first = p.answered;
    others = left;
    parts = p.parts;
    text = p.text;
    on = true;
    mid = new;
    answers = p.answers;
    wrote = began_waiting before w after p.text waits p.puts wrote;
    ends = inl refl;
  }
  not_written lines left old new before w after waits false p wrote = record {
    first = lines;
    others = [];
    parts = sym (append-nil lines);
    text = p.text;
    on = false;
    mid = new;
    answers = p.answers;
    wrote = began_waiting before w after p.text waits p.puts wrote;
    ends = inl refl;
  }

  gave_up :
      (lines left : List (Option (List ℕ))) (old new : A) (before w after : Option (List ℕ)) (waits : List ℕ)
      → PutsSome (answering says gives_up) lines left (waiting old before []) (waiting new w waits) (Err Memory) → WroteBeginning w after waits → AnswersFirst (answering says gives_up) lines (said_by old before) (said_by new after)
  gave_up lines left old new before w after waits p wrote = record {
    first = p.first;
    others = p.others;
    parts = p.parts;
    text = p.text;
    on = true;
    mid = p.mid;
    answers = p.answers;
    wrote = began_waiting before w after p.text waits p.puts wrote;
    ends = inr p.ends;
  }

  broke_off :
      (lines left : List (Option (List ℕ))) (old new : A) (before after : Option (List ℕ)) (waits : List ℕ)
      → PutsSome (answering says gives_up) lines left (waiting old before []) (waiting new after waits) (Err Write) → AnswersFirst (answering says gives_up) lines (said_by old before) (said_by new after)
  broke_off lines left old new before after waits p = record {
    first = p.first;
    others = p.others;
    parts = p.parts;
    text = p.text;
    on = p.on;
    mid = new;
    answers = p.answers;
    wrote = p.wrote;
    ends = inl refl;
  }

  goes_written :
      (lines left : List (Option (List ℕ))) (old new : A) (before w after : Option (List ℕ)) (waits : List ℕ) (answered result : Result Bool StreamFault)
      → PutsSome (answering says gives_up) lines left (waiting old before []) (waiting new w waits) answered → HasWritten answered w after waits result → AnswersSome (answering says gives_up) lines left (said_by old before) (said_by new after) result
  goes_written lines left old new before w after waits answered (Ok on) p (same, out) =
      all_written lines left old new before w after waits on (subst (PutsSome (answering says gives_up) lines left (waiting old before []) (waiting new w waits)) same p) out
  goes_written lines left old new before w after waits answered (Err fault) p (inl (same, memory, out)) =
      gave_up lines left old new before w after waits (subst (PutsSome (answering says gives_up) lines left (waiting old before []) (waiting new w waits)) (same ∙ ap Err memory) p) (began_all w after waits out)
  goes_written lines left old new before w after waits answered (Err fault) p (inr (inl (same, failed, silent))) =
      broke_off lines left old new before after waits (subst (λ (at : Option (List ℕ)). PutsSome (answering says gives_up) lines left (waiting old before []) (waiting new at waits) (Err Write)) (sym silent) (subst (PutsSome (answering says gives_up) lines left (waiting old before []) (waiting new w waits)) (same ∙ ap Err failed) p))
  goes_written lines left old new before w after waits answered (Err fault) p (inr (inr (inl (same, failed, wrote)))) =
      gave_up lines left old new before w after waits (subst (PutsSome (answering says gives_up) lines left (waiting old before []) (waiting new w waits)) same p) wrote
  goes_written lines left old new before w after waits answered (Err fault) p (inr (inr (inr (on, same, failed, wrote)))) =
      not_written lines left old new before w after waits on (subst (PutsSome (answering says gives_up) lines left (waiting old before []) (waiting new w waits)) same p) wrote

  pub goes_from_nothing :
      (lines left : List (Option (List ℕ))) (old new : A) (before w after : Option (List ℕ)) (waited waits : List ℕ) (answered result : Result Bool StreamFault)
      → waited ≡ [] → PutsSome (answering says gives_up) lines left (waiting old before waited) (waiting new w waits) answered → HasWritten answered w after waits result
      → AnswersSome (answering says gives_up) lines left (said_by old before) (said_by new after) result
  goes_from_nothing lines left old new before w after waited waits answered result none p out =
      goes_written lines left old new before w after waits answered result (subst (λ (xs : List ℕ). PutsSome (answering says gives_up) lines left (waiting old before xs) (waiting new w waits) answered) none p) out
