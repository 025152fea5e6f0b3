-- A stream that is handled frame by frame, and read by read.
use Rattle.std.proofs.Common.{eqb, ◌≡◌, ℕ, ◌+◌, ◌<◌, ◌≤◌, ◌⊎◌, inl, inr, List, [], ◌∷◌, ◌++◌, length, take, refl, sym, ◌∙◌, ap, subst, arith, append_assoc, Option, Some, None}
use Rattle.std.specs.Prelude.{IfSome, false}
use Rattle.std.proofs.lemmas.Bool.Decides.{nat_tests}
use Rattle.std.specs.Io.KnownBytes.{Appends, Consumes, IsAtEnd, Keeps}
use Rattle.std.proofs.KnownBytes.{Appends-nil, Appends-trans, Consumes-nil, Consumes-trans}
use Rattle.std.proofs.lemmas.List.{append-nil, length-append, nil_from_length}
use Rattle.std.proofs.Math.Seq.{take-append-add}
use Rattle.pay_frame.specs.declared.reading.FrameFault.{FrameFault}
use Rattle.pay_frame.specs.declared.limits.TheConstants.{READ_ROOM}
use Rattle.pay_frame.specs.Sliding.{ReadsMore}
use Rattle.pay_frame.specs.Device.{Gave, WroteBeginning}
use Rattle.pay_frame.specs.Frame.{FrameFields, IsFrame, frame_bytes}
use Rattle.pay_frame.specs.Reading.{HasFrame, IsFault}
use Rattle.pay_frame.specs.Stream.{IsFramesThen, IsStream}
use Rattle.pay_frame.specs.Handling.{Handling, Steps, Start, Stage, HandledAll, HandledPrefix, HandledUpTo, InProgress, Open, Ended, WritesFront}

abbrev pub Grows : Type 0
Grows = (bytes rest more : List ℕ) (frames : List FrameFields) → IsFramesThen bytes frames rest → IsFramesThen (bytes ++ more) frames (rest ++ more)

abbrev pub OneMore : Type 0
OneMore = (bytes held rest : List ℕ) (frames : List FrameFields) (f : FrameFields) → IsFramesThen bytes frames held → IsFrame f → held ≡ frame_bytes f ++ rest → IsFramesThen bytes (frames ++ f ∷ []) rest

abbrev pub ForGood : Type 0
ForGood = (read held more : List ℕ) (frames : List FrameFields) (fault : FrameFault) → IsFramesThen read frames held → IsFault held fault → IsStream (read ++ more) frames (Some fault)

-- a beginning of what comes behind a text that is written
begins : (a b c : Option (List ℕ)) (sent out : List ℕ) → Appends a b sent → WroteBeginning b c out → WroteBeginning a c (sent ++ out)
begins a b c sent out was is =
    let within = is.within in
    let front : take (length sent + is.count) (sent ++ out) ≡ sent ++ take is.count out = take-append-add sent out is.count in
    record {
      count = length sent + is.count;
      within = omega (arith, length-append sent out);
      written = subst (Appends a c) (sym front) (Appends-trans a b c sent (take is.count out) was is.written);
    }

pub none_written : (w : Option (List ℕ)) (text : List ℕ) → WroteBeginning w w text
none_written w text = record { count = 0; within = omega arith; written = Appends-nil w }

pub begins_input : (input left : Option (List ℕ)) (read rest : List ℕ) (frames : List FrameFields) → Grows → Consumes input left read → IsFramesThen read frames rest → IfSome input (λ bytes. (behind : List ℕ) × IsFramesThen bytes frames behind)
begins_input None left read rest frames grows consumed cut = tt
begins_input (Some bytes) None read rest frames grows consumed cut = absurd consumed
begins_input (Some bytes) (Some more) read rest frames grows consumed cut =
    (rest ++ more, subst (λ (xs : List ℕ). IsFramesThen xs frames (rest ++ more)) (sym consumed) (grows read rest more frames cut))

pub stream_at_fault : (input left : Option (List ℕ)) (read held : List ℕ) (frames : List FrameFields) (fault : FrameFault) → ForGood → Consumes input left read → IsFramesThen read frames held → IsFault held fault → IfSome input (λ bytes. IsStream bytes frames (Some fault))
stream_at_fault None left read held frames fault good consumed cut wrong = tt
stream_at_fault (Some bytes) None read held frames fault good consumed cut wrong = absurd consumed
stream_at_fault (Some bytes) (Some more) read held frames fault good consumed cut wrong = subst (λ xs. IsStream xs frames (Some fault)) (sym consumed) (good read held more frames fault cut wrong)

-- what was read ends so, whatever comes behind it
pub given_at_fault : (read held : List ℕ) (frames : List FrameFields) (fault : FrameFault) → ForGood → IsFramesThen read frames held → IsFault held fault → IsStream read frames (Some fault)
given_at_fault read held frames fault good cut wrong = subst (λ xs. IsStream xs frames (Some fault)) (append-nil read) (good read held [] frames fault cut wrong)

pub stream_at_end : (input left rest : Option (List ℕ)) (read : List ℕ) (frames : List FrameFields) (ending : Option FrameFault) → Consumes input left read → Consumes left rest [] → IsAtEnd rest → IsStream read frames ending → IfSome input (λ bytes. IsStream bytes frames ending)
stream_at_end None left rest read frames ending consumed none end stream = tt
stream_at_end (Some bytes) None rest read frames ending consumed none end stream = absurd consumed
stream_at_end (Some bytes) (Some more) None read frames ending consumed none end stream = absurd none
stream_at_end (Some bytes) (Some more) (Some rest) read frames ending consumed none end stream =
    subst (λ xs. IsStream xs frames ending) (sym (consumed ∙ ap (λ xs. read ++ xs) (none ∙ end) ∙ append-nil read)) stream

pub some_bytes : (xs ys : List ℕ) → eqb (length xs) 0 ≡ false → xs ≡ ys → 0 < length ys
some_bytes xs ys some same = rw (sym same) (grind (arith, nat_tests))

-- a read that failed took nothing
pub nothing_read : (a b : Option (List ℕ)) → Keeps a b → Consumes a b []
nothing_read None b kept = tt
nothing_read (Some xs) None kept = absurd kept
nothing_read (Some xs) (Some ys) kept = sym kept

-- a read that gave nothing took nothing, and leaves what was held
pub nothing_more : (old new : List ℕ) (left rest : Option (List ℕ)) (count : ℕ) → ReadsMore old new left rest count → count ≡ 0 → Consumes left rest [] × (new ≡ old)
nothing_more old new left rest count more zero =
    let none : more.piece ≡ [] = nil_from_length more.piece (more.sized ∙ zero) in
    (subst (Consumes left rest) none more.taken, more.appended ∙ ap (λ xs. old ++ xs) none ∙ append-nil old)

abbrev pub stage_at : {S : Type 0} → S → Option (List ℕ) → Option (List ℕ) → Stage S
stage_at state left after = record { state = state; left = left; after = after }

module _ {S : Type 0} (h : Handling S) where
  -- ---- more frames

  pub handled_more :
      (before between after : S) (fs gs : List FrameFields) (text more : List ℕ)
      → Steps h before between fs text → Steps h between after gs more → Steps h before after (fs ++ gs) (text ++ more)
  handled_more before between after [] gs text more are is = subst (λ s. Steps h s after gs (text ++ more)) are.0 (subst (Steps h between after gs) (sym (ap (λ xs. xs ++ more) are.1)) is)
  handled_more before between after (f ∷ fs) gs text more are is =
      (are.0, are.1, are.2 ++ more, are.3, handled_more are.0 between after fs gs are.2 more are.4 is, ap (λ xs. xs ++ more) are.5 ∙ append_assoc are.1 are.2 more)

  -- room for further frames
  abbrev pub KeepsRoom : (S → ℕ → Type 0) → Type 0
  KeepsRoom Room = (s t : S) (f : FrameFields) (text : List ℕ) (n : ℕ) → h.step s t f text → Room s (n + 1) → Room t n

  pub room_after : (Room : S → ℕ → Type 0) → KeepsRoom Room → (s t : S) (fs : List FrameFields) (text : List ℕ) (n : ℕ) → Steps h s t fs text → Room s (n + length fs) → Room t n
  room_after Room keeps s t [] text n are room = let same : n + 0 ≡ n = omega arith in subst (λ q. Room q n) (sym are.0) (subst (Room s) same room)
  room_after Room keeps s t (f ∷ fs) text n are room =
      let same : n + length (f ∷ fs) ≡ (n + length fs) + 1 = omega arith in
      room_after Room keeps are.0 t fs are.2 n are.4 (keeps s are.0 f are.1 (n + length fs) are.3 (subst (Room s) same room))

  -- ---- it goes on

  pub at_start : (start : Start S) (after : Option (List ℕ)) (held : List ℕ) → IsFramesThen [] [] [] → held ≡ [] → Appends start.before after start.first → InProgress h start (stage_at start.state start.input after) held [] 0
  at_start start after held none empty written =
      record {
        read = [];
        frames = [];
        text = [];
        consumed = Consumes-nil start.input;
        cut = subst (λ (xs : List ℕ). IsFramesThen [] [] xs) (sym empty) none;
        handled = (refl, refl);
        told = start.first;
        written = written;
        whole = refl;
        few = omega arith;
        many = omega arith;
      }

  -- where nothing waits all texts are written
  pub told_all : (start : Start S) (state : S) (left after : Option (List ℕ)) (held : List ℕ) (reads : ℕ) → (g : InProgress h start (stage_at state left after) held [] reads) → Appends start.before after (start.first ++ g.text)
  told_all start state left after held reads g = subst (Appends start.before after) (sym (g.whole ∙ append-nil g.told)) g.written

  -- the frame in front was handled, and its text waits behind the others
  pub frame_handled :
      (start : Start S) (state next : S) (left after : Option (List ℕ)) (held waiting new text : List ℕ) (f : FrameFields) (reads : ℕ) → OneMore
      → InProgress h start (stage_at state left after) held waiting reads → (front : HasFrame held f) → h.step state next f text → new ≡ waiting ++ text → InProgress h start (stage_at next left after) front.rest new reads
  frame_handled start state next left after held waiting new text f reads more g front does longer =
      record {
        read = g.read;
        frames = g.frames ++ f ∷ [];
        text = g.text ++ text;
        consumed = g.consumed;
        cut = more g.read held front.rest g.frames f g.cut front.is front.spelled;
        handled = handled_more start.state state next g.frames (f ∷ []) g.text text g.handled (next, text, [], does, (refl, refl), sym (append-nil text));
        told = g.told;
        written = g.written;
        whole = sym (append_assoc start.first g.text text) ∙ ap (λ xs. xs ++ text) g.whole ∙ append_assoc g.told waiting text ∙ ap (λ xs. g.told ++ xs) (sym longer);
        few = g.few;
        many = g.many;
      }

  -- the first of what waited is written
  pub front_written :
      (start : Start S) (state : S) (left after later : Option (List ℕ)) (held waiting new : List ℕ) (reads : ℕ)
      → InProgress h start (stage_at state left after) held waiting reads → WritesFront after later waiting new → InProgress h start (stage_at state left later) held new reads
  front_written start state left after later held waiting new reads g wrote =
      record {
        read = g.read;
        frames = g.frames;
        text = g.text;
        consumed = g.consumed;
        cut = g.cut;
        handled = g.handled;
        told = g.told ++ wrote.sent;
        written = Appends-trans start.before after later g.told wrote.sent g.written wrote.written;
        whole = g.whole ∙ ap (λ xs. g.told ++ xs) wrote.rest ∙ sym (append_assoc g.told wrote.sent new);
        few = g.few;
        many = g.many;
      }

  -- all that waited is written
  pub waiting_written :
      (start : Start S) (state : S) (left after later : Option (List ℕ)) (held waiting : List ℕ) (reads : ℕ)
      → InProgress h start (stage_at state left after) held waiting reads → Appends after later waiting → InProgress h start (stage_at state left later) held [] reads
  waiting_written start state left after later held waiting reads g written =
      front_written start state left after later held waiting [] reads g (record { sent = waiting; written = written; rest = sym (append-nil waiting) })

  pub reads_more :
      (start : Start S) (state : S) (left rest after : Option (List ℕ)) (held piece : List ℕ) (reads : ℕ) → Grows
      → InProgress h start (stage_at state left after) held [] reads → Consumes left rest piece → 0 < length piece → length piece ≤ READ_ROOM → InProgress h start (stage_at state rest after) (held ++ piece) [] (reads + 1)
  reads_more start state left rest after held piece reads grows g consumed some fits =
      let few = g.few in
      let many = g.many in
      record {
        read = g.read ++ piece;
        frames = g.frames;
        text = g.text;
        consumed = Consumes-trans start.input left rest g.read piece g.consumed consumed;
        cut = grows g.read held piece g.frames g.cut;
        handled = g.handled;
        told = g.told;
        written = g.written;
        whole = g.whole;
        few = omega (arith, length-append g.read piece);
        many = omega (arith, length-append g.read piece);
      }

  -- ---- it ends early

  -- a beginning of what waited is written
  pub some_written :
      (start : Start S) (state : S) (left after later : Option (List ℕ)) (held waiting : List ℕ) (reads : ℕ)
      → InProgress h start (stage_at state left after) held waiting reads → WroteBeginning after later waiting → HandledPrefix h start (stage_at state left later)
  some_written start state left after later held waiting reads g wrote =
      record {
        read = g.read;
        consumed = g.consumed;
        frames = g.frames;
        text = g.text;
        tail = [];
        follows = Open held g.cut;
        handled = g.handled;
        written = subst (WroteBeginning start.before later) (sym g.whole ∙ ap (λ xs. start.first ++ xs) (sym (append-nil g.text))) (begins start.before after later g.told waiting g.written wrote);
      }

  pub so_far : (start : Start S) (state : S) (left after : Option (List ℕ)) (held waiting : List ℕ) (reads : ℕ) → InProgress h start (stage_at state left after) held waiting reads → HandledPrefix h start (stage_at state left after)
  so_far start state left after held waiting reads g = some_written start state left after after held waiting reads g (none_written after waiting)

  -- memory was refused, before the frame was handled or after it
  pub memory_refused :
      (start : Start S) (state next : S) (left after : Option (List ℕ)) (held waiting : List ℕ) (f : FrameFields) (reads : ℕ) → OneMore
      → InProgress h start (stage_at state left after) held waiting reads → HasFrame held f → (next ≡ state) ⊎ ((text : List ℕ) × h.step state next f text) → HandledPrefix h start (stage_at next left after)
  memory_refused start state next left after held waiting f reads more g front (inl same) =
      subst (λ s. HandledPrefix h start (stage_at s left after)) (sym same) (so_far start state left after held waiting reads g)
  memory_refused start state next left after held waiting f reads more g front (inr does) =
      so_far start next left after front.rest (waiting ++ does.0) reads (frame_handled start state next left after held waiting (waiting ++ does.0) does.0 f reads more g front does.1 refl)

  -- a read failed, or no more may be made
  pub read_all : (start : Start S) (state : S) (left rest after : Option (List ℕ)) (held : List ℕ) (reads : ℕ) → Consumes left rest [] → InProgress h start (stage_at state left after) held [] reads → InProgress h start (stage_at state rest after) held [] reads
  read_all start state left rest after held reads none g = record {
    read = g.read;
    consumed = subst (Consumes start.input rest) (append-nil g.read) (Consumes-trans start.input left rest g.read [] g.consumed none);
    frames = g.frames;
    cut = g.cut;
    text = g.text;
    handled = g.handled;
    told = g.told;
    written = g.written;
    whole = g.whole;
    few = g.few;
    many = g.many;
  }

  pub first_failed : (start : Start S) (after : Option (List ℕ)) → IsFramesThen [] [] [] → WroteBeginning start.before after start.first → HandledPrefix h start (stage_at start.state start.input after)
  first_failed start after nothing written = record {
    read = [];
    consumed = Consumes-nil start.input;
    frames = [];
    text = [];
    tail = [];
    follows = Open [] nothing;
    handled = (refl, refl);
    written = subst (WroteBeginning start.before after) (sym (append-nil start.first)) written;
  }

  -- ---- it ends

  -- at a frame
  pub stops :
      (start : Start S) (state next : S) (left after : Option (List ℕ)) (held : List ℕ) (f : FrameFields) (reads : ℕ) → OneMore
      → InProgress h start (stage_at state left after) held [] reads → HasFrame held f → h.may_stop state f → next ≡ state → HandledUpTo h start (stage_at next left after)
  stops start state next left after held f reads more g front is same =
      subst (λ s. HandledUpTo h start (stage_at s left after)) (sym same) (record {
        read = g.read;
        consumed = g.consumed;
        frames = g.frames;
        last = f;
        rest = front.rest;
        cut = more g.read held front.rest g.frames f g.cut front.is front.spelled;
        text = g.text;
        handled = g.handled;
        stopped = is;
        written = told_all start state left after held reads g;
      })

  -- at the input's end
  pub all : (start : Start S) (state : S) (left rest after : Option (List ℕ)) (held : List ℕ) (reads : ℕ)
      → (g : InProgress h start (stage_at state left after) held [] reads) → Consumes left rest [] → IsStream g.read g.frames None → IfSome start.input (λ bytes. IsStream bytes g.frames None) → HandledAll h start (stage_at state rest after) None
  unfolding read_all
  all start state left rest after held reads g none stream whole =
      record {
        read = g.read;
        consumed = (read_all start state left rest after held reads none g).consumed;
        frames = g.frames;
        stream = stream;
        whole = whole;
        text = g.text;
        handled = g.handled;
        written = subst (Appends start.before after) (sym (ap (λ xs. start.first ++ xs) (append-nil g.text))) (told_all start state left after held reads g);
      }

  -- at a fault, with its text
  pub all_to : (start : Start S) (state : S) (left rest after later : Option (List ℕ)) (held : List ℕ) (reads : ℕ) (fault : FrameFault)
      → (g : InProgress h start (stage_at state left after) held [] reads) → Consumes left rest [] → IsStream g.read g.frames (Some fault) → IfSome start.input (λ bytes. IsStream bytes g.frames (Some fault)) → Appends after later (h.fault_text state fault) → HandledAll h start (stage_at state rest later) (Some fault)
  unfolding read_all
  all_to start state left rest after later held reads fault g none stream whole written =
      record {
        read = g.read;
        consumed = (read_all start state left rest after held reads none g).consumed;
        frames = g.frames;
        stream = stream;
        whole = whole;
        text = g.text;
        handled = g.handled;
        written = subst (Appends start.before later) (append_assoc start.first g.text (h.fault_text state fault)) (Appends-trans start.before after later (start.first ++ g.text) (h.fault_text state fault) (told_all start state left after held reads g) written);
      }

  pub some_to : (start : Start S) (state : S) (left rest after later : Option (List ℕ)) (held : List ℕ) (reads : ℕ) (fault : FrameFault)
      → (g : InProgress h start (stage_at state left after) held [] reads) → Consumes left rest [] → IsStream g.read g.frames (Some fault) → IfSome start.input (λ bytes. IsStream bytes g.frames (Some fault)) → WroteBeginning after later (h.fault_text state fault) → HandledPrefix h start (stage_at state rest later)
  unfolding read_all
  some_to start state left rest after later held reads fault g none stream whole wrote =
      record {
        read = g.read;
        consumed = (read_all start state left rest after held reads none g).consumed;
        frames = g.frames;
        text = g.text;
        tail = h.fault_text state fault;
        follows = Ended fault stream whole;
        handled = g.handled;
        written = subst (WroteBeginning start.before later) (append_assoc start.first g.text (h.fault_text state fault)) (begins start.before after later (start.first ++ g.text) (h.fault_text state fault) (told_all start state left after held reads g) wrote);
      }

  -- ---- reading

  -- every read gave bytes
  pub gave : (start : Start S) (state : S) (left after : Option (List ℕ)) (held : List ℕ) (reads count : ℕ) → InProgress h start (stage_at state left after) held [] reads → count ≤ reads → Gave count start.input left
  gave start state left after held reads count g le = let many = g.many in (g.read, g.consumed, omega arith)

  -- what is held behind a piece that was read
  pub fed_piece :
      (start : Start S) (state : S) (left rest after : Option (List ℕ)) (old new : List ℕ) (count reads : ℕ) → Grows
      → ReadsMore old new left rest count → length new ≤ READ_ROOM → 0 < count → InProgress h start (stage_at state left after) old [] reads → InProgress h start (stage_at state rest after) new [] (reads + 1)
  fed_piece start state left rest after old new count reads grows more most some going =
      let sized = more.sized in
      let whole = ap length more.appended ∙ length-append old more.piece in
      subst (λ xs. InProgress h start (stage_at state rest after) xs [] (reads + 1)) (sym more.appended)
      (reads_more start state left rest after old more.piece reads grows going more.taken (omega arith) (omega arith))
