-- A stream is one list of frames and one end, and how both grow.
use Rattle.std.proofs.Common.{◌≡◌, ℕ, zero, suc, ◌+◌, ◌<◌, ◌≤◌, List, [], ◌∷◌, ◌++◌, length, get_or, take, drop, refl, sym, ◌∙◌, ap, subst, arith, append_assoc, inl, inr, ◌*◌, Some, None, Option, Result, Ok, Err}
use Rattle.std.specs.List.{All, flat_map}
use Rattle.std.proofs.lemmas.List.{append-nil, length-append, drop_at, get_or-drop}
use Rattle.std.proofs.lemmas.List.Elements.{All-nil, All-cons, All-head, All-tail, All-append}
use Rattle.std.proofs.lemmas.Grind.{flat_map-append}
use Rattle.pay_frame.specs.declared.reading.FrameFault.{FrameFault}
use Rattle.pay_frame.specs.declared.reading.FrameFault.TheVariants.{Truncated}
use Rattle.pay_frame.specs.Frame.{FrameFields, frame_bytes, IsFrame}
use Rattle.pay_frame.specs.Reading.{IsReading, IsProperBeginning, IsFault}
use Rattle.pay_frame.specs.Cutting.{Held, Feeds, HandsOut, EndsWith, IsDrained, frame_in}
use Rattle.pay_frame.specs.Stream.{IsBytes, IsFramesThen, IsStreamEnd, Nothing, CutOff, Faulty, IsStream, HasStream, GoesOn, stream_end}
use Rattle.pay_frame.proofs.Starting.{length-frame}
use Rattle.pay_frame.proofs.OneReading.{one_reading, same_front, drained_from_beginning}
use Rattle.pay_frame.proofs.WholeRuns.{AllFrames, same_cut}
use Rattle.pay_frame.proofs.EveryReading.{every_reading}
use Rattle.pay_frame.proofs.FaultStays.{fault_stays}

-- ---- frames and a rest

abbrev spelled : List FrameFields → List ℕ
spelled = flat_map frame_bytes

pub no_frames : (x : List ℕ) → IsFramesThen x [] x
no_frames x = record { each = All-nil IsFrame; parts = refl }

pub more_bytes : (x h more : List ℕ) (fs : List FrameFields) → IsFramesThen x fs h → IsFramesThen (x ++ more) fs (h ++ more)
more_bytes x h more fs c = record {
  each = c.each;
  parts = ap (λ (xs : List ℕ). xs ++ more) c.parts ∙ append_assoc (spelled fs) h more;
}

pub more_frames : (x h r : List ℕ) (fs gs : List FrameFields) → IsFramesThen x fs h → IsFramesThen h gs r → IsFramesThen x (fs ++ gs) r
more_frames x h r fs gs c d = record {
  each = All-append IsFrame fs gs c.each d.each;
  parts = c.parts ∙ ap (λ (xs : List ℕ). spelled fs ++ xs) d.parts ∙ sym (append_assoc (spelled fs) (spelled gs) r)
      ∙ ap (λ (xs : List ℕ). xs ++ r) (sym (flat_map-append frame_bytes fs gs));
}

pub first_frame : (h r : List ℕ) (f : FrameFields) → IsFrame f → h ≡ frame_bytes f ++ r → IsFramesThen h (f ∷ []) r
first_frame h r f is front = record {
  each = All-cons IsFrame f [] is (All-nil IsFrame);
  parts = front ∙ ap (λ (xs : List ℕ). xs ++ r) (sym (append-nil (frame_bytes f)));
}

pub next_frame : (x h r : List ℕ) (fs : List FrameFields) (f : FrameFields) → IsFramesThen x fs h → IsFrame f → h ≡ frame_bytes f ++ r → IsFramesThen x (fs ++ f ∷ []) r
next_frame x h r fs f c is front = more_frames x h r fs (f ∷ []) c (first_frame h r f is front)

-- ---- a stream after frames

pub joined : (x r : List ℕ) (fs gs : List FrameFields) (e : Option FrameFault) → IsFramesThen x fs r → IsStream r gs e → IsStream x (fs ++ gs) e
joined x r fs gs e c s = record { rest = s.rest; cut = more_frames x r s.rest fs gs c s.cut; ends = s.ends }

pub joins : (read held more : List ℕ) (first frames : List FrameFields) (e : Option FrameFault) → IsFramesThen read first held → IsStream (held ++ more) frames e → IsStream (read ++ more) (first ++ frames) e
joins read held more first frames e c s = joined (read ++ more) (held ++ more) first frames e (more_bytes read held more first c) s

pub fault_ends : (read held more : List ℕ) (frames : List FrameFields) (fault : FrameFault) → IsFramesThen read frames held → IsFault held fault → IsStream (read ++ more) frames (Some fault)
fault_ends read held more frames fault c wrong = record { rest = held ++ more; cut = more_bytes read held more frames c; ends = Faulty (fault_stays held more fault wrong) }

-- ---- one stream

frames_in : (fs : List FrameFields) → All IsFrame fs → AllFrames fs
frames_in [] h = tt
frames_in (f ∷ fs) h = (All-head IsFrame f fs h, frames_in fs (All-tail IsFrame f fs h))

abbrev Answer : Type 0
Answer = Result (Option (FrameFields × ℕ)) FrameFault

drained_end : (r : List ℕ) (e : Option FrameFault) → IsStreamEnd r e → IsDrained r
drained_end r _ (Nothing none) f has =
    absurd (omega (arith, ap length (sym none ∙ has.spelled), length-append (frame_bytes f) has.rest, length-frame f has.is))
drained_end r _ (CutOff some begins) f has = drained_from_beginning r begins f has
drained_end r _ (Faulty wrong) f has = wrong.no_frame f has

begins_or_fault : (r : List ℕ) (fault : FrameFault) → IsProperBeginning r → IsFault r fault → ⊥
begins_or_fault r fault begins wrong =
    let none : Answer = Ok None in
    let some : Answer = Err fault in
    let same : none ≡ some = one_reading r none some begins wrong in
    cc

same_fault : (r : List ℕ) (j k : FrameFault) → IsFault r j → IsFault r k → j ≡ k
same_fault r j k p q =
    let one : Answer = Err j in
    let other : Answer = Err k in
    let same : one ≡ other = one_reading r one other p q in
    cc

nothing_held : (r : List ℕ) → r ≡ [] → 0 < length r → ⊥
nothing_held r none some = omega (arith, ap length none)

within : (r : List ℕ) (fault : FrameFault) → IsFault r fault → 0 < length r
within r fault wrong = let lt = wrong.within in omega arith

some_fault : (j k : FrameFault) → j ≡ k → Some j ≡ Some k
some_fault j k e = ap (λ (f : FrameFault). let o : Option FrameFault = Some f in o) e

same_end : (r : List ℕ) (a b : Option FrameFault) → IsStreamEnd r a → IsStreamEnd r b → a ≡ b
same_end r _ _ (Nothing none) (Nothing also) = refl
same_end r _ _ (Nothing none) (CutOff some begins) = absurd (nothing_held r none some)
same_end r _ _ (Nothing none) (Faulty {fault = k} wrong) = absurd (nothing_held r none (within r k wrong))
same_end r _ _ (CutOff some begins) (Nothing none) = absurd (nothing_held r none some)
same_end r _ _ (CutOff some begins) (CutOff _ _) = refl
same_end r _ _ (CutOff some begins) (Faulty {fault = k} wrong) = absurd (begins_or_fault r k begins wrong)
same_end r _ _ (Faulty {fault = j} wrong) (Nothing none) = absurd (nothing_held r none (within r j wrong))
same_end r _ _ (Faulty {fault = j} wrong) (CutOff some begins) = absurd (begins_or_fault r j begins wrong)
same_end r _ _ (Faulty {fault = j} wrong) (Faulty {fault = k} also) = some_fault j k (same_fault r j k wrong also)

pub record Same (fs gs : List FrameFields) (a b : Option FrameFault) : Type 0 where
  pub frames : fs ≡ gs
  pub ending : a ≡ b

pub one_stream : (x : List ℕ) (fs gs : List FrameFields) (a b : Option FrameFault) → IsStream x fs a → IsStream x gs b → Same fs gs a b
one_stream x fs gs a b s t =
    let cut = same_cut fs gs s.rest t.rest (frames_in fs s.cut.each) (frames_in gs t.cut.each)
    (drained_end s.rest a s.ends) (drained_end t.rest b t.ends) (sym s.cut.parts ∙ t.cut.parts)
    in
    record {
      frames = cut.frames;
      ending = same_end t.rest a b (subst (λ (r : List ℕ). IsStreamEnd r a) cut.rest s.ends) t.ends;
    }

-- ---- what is after the first frames

pub parted : (x r : List ℕ) (fs all : List FrameFields) (e : Option FrameFault) → IsFramesThen x fs r → IsStream x all e → GoesOn r fs all e
parted x r [] all e c s = record {
  more = all;
  parts = refl;
  is = subst (λ (xs : List ℕ). IsStream xs all e) c.parts s;
}
parted x r (f ∷ fs) [] e c s =
    absurd (drained_end s.rest e s.ends f (record {
      is = All-head IsFrame f fs c.each;
      rest = spelled fs ++ r;
      spelled = sym s.cut.parts ∙ c.parts ∙ append_assoc (frame_bytes f) (spelled fs) r;
    }))
parted x r (f ∷ fs) (g ∷ gs) e c s =
    let front = same_front f g (spelled fs ++ r) (spelled gs ++ s.rest) (All-head IsFrame f fs c.each) (All-head IsFrame g gs s.cut.each)
    (sym (append_assoc (frame_bytes f) (spelled fs) r) ∙ sym c.parts ∙ s.cut.parts ∙ append_assoc (frame_bytes g) (spelled gs) s.rest)
    in
    let behind : IsStream (spelled fs ++ r) gs e = record {
      rest = s.rest;
      cut = record { each = All-tail IsFrame g gs s.cut.each; parts = front.rest };
      ends = s.ends;
    } in
    let inner = parted (spelled fs ++ r) r fs gs e (record { each = All-tail IsFrame f fs c.each; parts = refl }) behind in
    let head : f ≡ g = front.frame in
    let tail : gs ≡ fs ++ inner.more = inner.parts in
    record { more = inner.more; parts = cc (head, tail); is = inner.is }

pub parts : (read held more : List ℕ) (first all : List FrameFields) (e : Option FrameFault) → IsFramesThen read first held → IsStream (read ++ more) all e → GoesOn (held ++ more) first all e
parts read held more first all e c s = parted (read ++ more) (held ++ more) first all e (more_bytes read held more first c) s

-- ---- every stream

bytes_behind : (x front rest : List ℕ) → x ≡ front ++ rest → IsBytes x → IsBytes rest
bytes_behind x front rest parts is =
    let same : drop (length front) x ≡ rest = ap (drop (length front)) parts ∙ drop_at front rest (length front) refl in
    record { fits = λ i. subst (λ (xs : List ℕ). get_or xs i 0 < 256) same (rw (get_or-drop {A = ℕ}) (is.fits (length front + i))) }

ends_here : (x : List ℕ) → IsProperBeginning x → HasStream x
ends_here [] begins = record { frames = []; ending = None; is = record { rest = []; cut = no_frames []; ends = Nothing refl } }
ends_here (b ∷ bs) begins = record {
  frames = [];
  ending = Some Truncated;
  is = record { rest = b ∷ bs; cut = no_frames (b ∷ bs); ends = CutOff (omega arith) begins };
}

-- the frame in front, and the stream after it; or the end
continued : (n : ℕ) (x : List ℕ) → length x < suc n → IsBytes x → (answer : Answer) → IsReading x answer → ((y : List ℕ) → length y < n → IsBytes y → HasStream y) → HasStream x
continued n x lt is (Ok (Some (f, size))) reading shorter =
    let has = reading.0 in
    let behind = shorter has.rest (omega (arith, ap length has.spelled, length-append (frame_bytes f) has.rest, length-frame f has.is))
    (bytes_behind x (frame_bytes f) has.rest has.spelled is)
    in
    record {
      frames = f ∷ behind.frames;
      ending = behind.ending;
      is = joined x has.rest (f ∷ []) behind.frames behind.ending (first_frame x has.rest f has.is has.spelled) behind.is;
    }
continued n x lt is (Ok None) reading shorter = ends_here x reading
continued n x lt is (Err fault) reading shorter = record {
  frames = [];
  ending = Some fault;
  is = record { rest = x; cut = no_frames x; ends = Faulty reading };
}

streams : (n : ℕ) (x : List ℕ) → length x < n → IsBytes x → HasStream x
streams zero x lt is = absurd (omega arith)
streams (suc n) x lt is =
    let found = every_reading x is in
    continued n x lt is found.answer found.is (λ y short also. streams n y short also)

pub every_stream : (x : List ℕ) → IsBytes x → HasStream x
every_stream x is = streams (suc (length x)) x (omega arith) is

-- ---- a cutter's calls

pub fed : (old new : Held) (piece x : List ℕ) (taken : ℕ) (fs : List FrameFields) → Feeds old new piece taken → IsFramesThen x fs old.bytes → IsFramesThen (x ++ take taken piece) fs new.bytes
fed old new piece x taken fs feeds c =
    subst (λ (h : List ℕ). IsFramesThen (x ++ take taken piece) fs h) (sym feeds.appended) (more_bytes x old.bytes (take taken piece) fs c)

same_held : (x : List ℕ) (fs : List FrameFields) (old new : List ℕ) → new ≡ old → IsFramesThen x fs old → IsFramesThen x (fs ++ []) new
same_held x fs old new same c =
    subst (λ (gs : List FrameFields). IsFramesThen x gs new) (sym (append-nil fs)) (subst (λ (h : List ℕ). IsFramesThen x fs h) (sym same) c)

pub handed_out : (old new : Held) (answer : Result (Option FrameFields) FrameFault) (x : List ℕ) (fs : List FrameFields) → HandsOut old answer new → IsFramesThen x fs old.bytes → IsFramesThen x (fs ++ frame_in answer) new.bytes
handed_out old new (Ok (Some f)) x fs h c = next_frame x old.bytes new.bytes fs f c h.1 h.2
handed_out old new (Ok None) x fs h c = same_held x fs old.bytes new.bytes h.2 c
handed_out old new (Err fault) x fs h c = same_held x fs old.bytes new.bytes h.1 c

pub first_fault : (old new : Held) (fault : FrameFault) → old.met ≡ None → HandsOut old (Err fault) new → IsFault new.bytes fault
first_fault old new fault none (inl some, same, _) = absurd (cc (none, some))
first_fault old new fault none (inr first, same, _) = subst (λ (xs : List ℕ). IsFault xs fault) (sym same) first.1

cut_off : (rest : List ℕ) (fault : FrameFault) → 0 < length rest → IsProperBeginning rest → fault ≡ Truncated → IsStreamEnd rest (Some fault)
cut_off rest fault some begins e = subst (λ (f : FrameFault). IsStreamEnd rest (Some f)) (sym e) (CutOff some begins)

pub ended : (held : Held) (answer : Result Unit FrameFault) (read : List ℕ) (frames : List FrameFields) → held.met ≡ None → EndsWith held answer → IsFramesThen read frames held.bytes → IsStream read frames (stream_end answer)
ended held (Ok _) read frames none e c = record { rest = held.bytes; cut = c; ends = Nothing e.1 }
ended held (Err fault) read frames none (inl some) c = absurd (cc (none, some))
ended held (Err fault) read frames none (inr (_, some, inl wrong)) c = record { rest = held.bytes; cut = c; ends = Faulty wrong }
ended held (Err fault) read frames none (inr (_, some, inr (begins, is))) c = record { rest = held.bytes; cut = c; ends = cut_off held.bytes fault some begins is }

-- ---- so many frames

pub many_bytes : (x r : List ℕ) (fs : List FrameFields) → IsFramesThen x fs r → 56 * length fs + length r ≤ length x
many_bytes x r [] c = omega (arith, ap length c.parts)
many_bytes x r (f ∷ fs) c =
    let is = All-head IsFrame f fs c.each in
    let behind : List ℕ = spelled fs ++ r in
    let fewer = many_bytes behind r fs (record { each = All-tail IsFrame f fs c.each; parts = refl }) in
    let front : x ≡ frame_bytes f ++ behind = c.parts ∙ append_assoc (frame_bytes f) (spelled fs) r in
    omega (arith, ap length front, length-append (frame_bytes f) behind, length-frame f is)
