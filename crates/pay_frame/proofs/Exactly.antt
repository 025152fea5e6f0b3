-- Where what is made of a frame is a function of the state.
use Rattle.std.proofs.Common.{◌≡◌, ℕ, List, [], ◌∷◌, ◌++◌, length, take, refl, sym, ◌∙◌, ap, subst, arith, append_assoc, inl, inr, Option, Some, None, Result, Ok, Err}
use Rattle.std.specs.Prelude.{IfSome, ⊤}
use Rattle.std.specs.Io.KnownBytes.{Appends, Consumes}
use Rattle.std.proofs.lemmas.List.{append-nil, length-append, take-append-le}
use Rattle.pay_frame.specs.declared.engine.EngineFault.{EngineFault}
use Rattle.pay_frame.specs.declared.engine.EngineFault.TheVariants.{Memory, Frame, Read, Write, Bound}
use Rattle.pay_frame.specs.declared.reading.FrameFault.{FrameFault}
use Rattle.pay_frame.specs.declared.limits.TheConstants.{MOST_READS}
use Rattle.pay_frame.specs.Device.{WroteBeginning}
use Rattle.pay_frame.specs.Frame.{FrameFields}
use Rattle.pay_frame.specs.Stream.{IsBytes, IsFramesThen, IsStream, EveryStream, Parts}
use Rattle.pay_frame.specs.Handling.{Stage, Steps, HandledAll, HandledPrefix, HasHandled, IsTail, Open, Ended, Start}
use Rattle.pay_frame.proofs.Handlings.{Grows, begins_input, so_far}
use Rattle.pay_frame.specs.Exact.{Function, IsText, BeginsText, TakesFrames, Writes, WritesBeginning, WritesText, exactly, ending_text, state_after, text_from, texts_from}

module _ {S : Type 0} (h : Function S) where
  -- the relation says which state and which texts
  pub are_texts : (s t : S) (fs : List FrameFields) (text : List ℕ) → Steps (exactly h) s t fs text → (t ≡ state_after h s fs) × (text ≡ texts_from h s fs)
  are_texts s t [] text are = are
  are_texts s t (f ∷ fs) text are =
      let rest = are_texts are.0 t fs are.2 are.4 in
      let next = are.3.0 in (
        rest.0 ∙ ap (λ q. state_after h q fs) next,
        are.5 ∙ ap (λ xs. xs ++ are.2) are.3.1 ∙ ap (λ xs. h.text s f ++ xs) (rest.1 ∙ ap (λ q. texts_from h q fs) next),
      )

  texts-append : (s : S) (fs gs : List FrameFields) (e : Option FrameFault) → text_from h s (fs ++ gs) e ≡ texts_from h s fs ++ text_from h (state_after h s fs) gs e
  texts-append s [] gs e = refl
  texts-append s (f ∷ fs) gs e =
      append_assoc (h.text s f) (texts_from h (h.after s f) (fs ++ gs)) (ending_text h (state_after h (h.after s f) (fs ++ gs)) e)
      ∙ ap (λ xs. h.text s f ++ xs) (texts-append (h.after s f) fs gs e)
      ∙ sym (append_assoc (h.text s f) (texts_from h (h.after s f) fs) (text_from h (state_after h (h.after s f) fs) gs e))

  -- all of the text
  whole : (start : Start S) (stage : Stage S) (ending : Option FrameFault) → HandledAll (exactly h) start stage ending → WritesText h start stage ending
  whole start stage ending all = go start.input refl where
    new : S
    new = stage.state

    are : (new ≡ state_after h start.state all.frames) × (all.text ≡ texts_from h start.state all.frames)
    are = are_texts start.state new all.frames all.text all.handled

    last : (e : Option FrameFault) → Rattle.pay_frame.specs.Handling.ending_text (exactly h) new e ≡ ending_text h (state_after h start.state all.frames) e
    last None = refl
    last (Some fault) = ap (λ q. h.fault_text q fault) are.0

    go : (input : Option (List ℕ)) → start.input ≡ input → WritesText h start stage ending
    go None is = rw is tt
    go (Some bytes) is = rw is (
      start.first ++ (all.text ++ Rattle.pay_frame.specs.Handling.ending_text (exactly h) new ending),
      record {
        frames = all.frames;
        stream = rw is at all.whole;
        texts = ap (λ xs. start.first ++ (xs ++ Rattle.pay_frame.specs.Handling.ending_text (exactly h) new ending)) are.1 ∙ ap (λ xs. start.first ++ (texts_from h start.state all.frames ++ xs)) (last ending);
        state = are.0;
      },
      all.written,
    )

  -- a text that goes on behind a beginning of it
  record Starts (start : Start S) (bytes out : List ℕ) : Type 0 where
    text : List ℕ
    ending : Option FrameFault
    last : S
    is : IsText h start.first start.state last bytes text ending
    more : List ℕ
    parts : text ≡ out ++ more

  begins : (start : Start S) (after : Option (List ℕ)) (bytes out : List ℕ) → Starts start bytes out → WroteBeginning start.before after out → BeginsText h start after bytes
  begins start after bytes out s wrote =
      let within = wrote.within in
      record {
        text = s.text;
        ending = s.ending;
        last = s.last;
        is = s.is;
        wrote = record {
          count = wrote.count;
          within = omega (arith, ap length s.parts, length-append out s.more);
          written = subst (Appends start.before after) (sym (ap (take wrote.count) s.parts ∙ take-append-le wrote.count out s.more within)) wrote.written;
        };
      }

  starts : (every : EveryStream) (parts : Parts) (grows : Grows) (start : Start S) (new : S) (bytes read text tail : List ℕ) (left : Option (List ℕ)) (frames : List FrameFields)
      → IsBytes bytes → text ≡ texts_from h start.state frames → new ≡ state_after h start.state frames → Consumes (Some bytes) left read → IsTail (exactly h) (Some bytes) new read frames tail → Starts start bytes (start.first ++ (text ++ tail))
  starts every parts grows start new bytes read text tail left frames is same state consumed (Open held cut_read) =
      let cut = begins_input (Some bytes) left read held frames grows consumed cut_read in
      let stream = every bytes is in
      let behind = parts bytes cut.0 [] frames stream.frames stream.ending cut.1 (subst (λ xs. IsStream xs stream.frames stream.ending) (sym (append-nil bytes)) stream.is) in
      record {
        text = start.first ++ text_from h start.state stream.frames stream.ending;
        ending = stream.ending;
        last = state_after h start.state stream.frames;
        is = record { frames = stream.frames; stream = stream.is; texts = refl; state = refl };
        more = text_from h (state_after h start.state frames) behind.more stream.ending;
        parts = ap (λ fs. start.first ++ text_from h start.state fs stream.ending) behind.parts
            ∙ ap (λ xs. start.first ++ xs) (texts-append start.state frames behind.more stream.ending)
            ∙ sym (append_assoc start.first (texts_from h start.state frames) (text_from h (state_after h start.state frames) behind.more stream.ending))
            ∙ ap (λ xs. (start.first ++ xs) ++ text_from h (state_after h start.state frames) behind.more stream.ending) (sym same ∙ sym (append-nil text));
      }
  starts every parts grows start new bytes read text tail left frames is same state consumed (Ended fault stream whole) = record {
    text = start.first ++ (text ++ h.fault_text new fault);
    ending = Some fault;
    last = new;
    is = record {
      frames = frames;
      stream = whole;
      texts = ap (λ xs. start.first ++ (xs ++ h.fault_text new fault)) same ∙ ap (λ q. start.first ++ (texts_from h start.state frames ++ h.fault_text q fault)) state;
      state = state;
    };
    more = [];
    parts = sym (append-nil (start.first ++ (text ++ h.fault_text new fault)));
  }

  part : (every : EveryStream) (parts : Parts) (grows : Grows) (start : Start S) (stage : Stage S) → HandledPrefix (exactly h) start stage → WritesBeginning h start stage.after
  part every parts grows start stage some = go start.input refl where
    new : S
    new = stage.state

    after : Option (List ℕ)
    after = stage.after

    are : (new ≡ state_after h start.state some.frames) × (some.text ≡ texts_from h start.state some.frames)
    are = are_texts start.state new some.frames some.text some.handled

    go : (input : Option (List ℕ)) → start.input ≡ input → WritesBeginning h start after
    go None is = rw is tt
    go (Some bytes) is =
        let tail : IsTail (exactly h) (Some bytes) new some.read some.frames some.tail = rw is at some.follows in
        let consumed : Consumes (Some bytes) stage.left some.read = rw is at some.consumed in
        subst (λ (known : Option (List ℕ)). IfSome known (λ bytes. IsBytes bytes → BeginsText h start after bytes)) (sym is)
        (λ each. begins start after bytes (start.first ++ (some.text ++ some.tail)) (starts every parts grows start new bytes some.read some.text some.tail stage.left some.frames each are.1 are.0 consumed tail) some.written)

  -- by how it ended
  pub writes : (every : EveryStream) (parts : Parts) (grows : Grows) (start : Start S) (stage : Stage S) (result : Result ⊤ EngineFault) → HasHandled (exactly h) start stage result → Writes h start stage result
  writes every parts grows start stage (Ok _) (inl all) = (whole start stage None all.0, all.1)
  writes every parts grows start stage (Ok _) (inr upto) = absurd upto.stopped
  writes every parts grows start stage (Err (Frame fault)) all = whole start stage (Some fault) all
  writes every parts grows start stage (Err Memory) some = part every parts grows start stage some
  writes every parts grows start stage (Err Read) read = part every parts grows start stage (so_far (exactly h) start stage.state stage.left stage.after read.1.0 [] read.0 read.1.1)
  writes every parts grows start stage (Err Write) some = part every parts grows start stage some
  writes every parts grows start stage (Err Bound) read = part every parts grows start stage (so_far (exactly h) start stage.state stage.left stage.after read.0 [] MOST_READS read.1)

  -- ---- the state behind some frames

  stream_begins : (input : Option (List ℕ)) (frames : List FrameFields) (ending : Option FrameFault) → IfSome input (λ bytes. IsStream bytes frames ending) → IfSome input (λ bytes. (rest : List ℕ) × IsFramesThen bytes frames rest)
  stream_begins None frames ending stream = tt
  stream_begins (Some bytes) frames ending stream = (stream.rest, stream.cut)

  took_all : (start : Start S) (stage : Stage S) (ending : Option FrameFault) → HandledAll (exactly h) start stage ending → TakesFrames h start stage.state
  took_all start stage ending all = record {
    frames = all.frames;
    each = all.stream.cut.each;
    begins = stream_begins start.input all.frames ending all.whole;
    state = (are_texts start.state stage.state all.frames all.text all.handled).0;
  }

  took_some : (grows : Grows) (start : Start S) (stage : Stage S) → HandledPrefix (exactly h) start stage → TakesFrames h start stage.state
  took_some grows start stage some = by_tail some.tail some.follows where
    new : S
    new = stage.state

    state : new ≡ state_after h start.state some.frames
    state = (are_texts start.state new some.frames some.text some.handled).0

    by_tail : (tail : List ℕ) → IsTail (exactly h) start.input new some.read some.frames tail → TakesFrames h start new
    by_tail tail (Open rest cut) = record { frames = some.frames; each = cut.each; begins = begins_input start.input stage.left some.read rest some.frames grows some.consumed cut; state = state }
    by_tail tail (Ended fault stream whole) = record { frames = some.frames; each = stream.cut.each; begins = stream_begins start.input some.frames (Some fault) whole; state = state }

  pub took : (grows : Grows) (start : Start S) (stage : Stage S) (result : Result ⊤ EngineFault) → HasHandled (exactly h) start stage result → TakesFrames h start stage.state
  took grows start stage (Ok _) (inl all) = took_all start stage None all.0
  took grows start stage (Ok _) (inr upto) = absurd upto.stopped
  took grows start stage (Err (Frame fault)) all = took_all start stage (Some fault) all
  took grows start stage (Err Memory) some = took_some grows start stage some
  took grows start stage (Err Read) read = took_some grows start stage (so_far (exactly h) start stage.state stage.left stage.after read.1.0 [] read.0 read.1.1)
  took grows start stage (Err Write) some = took_some grows start stage some
  took grows start stage (Err Bound) read = took_some grows start stage (so_far (exactly h) start stage.state stage.left stage.after read.0 [] MOST_READS read.1)
