-- Whole runs of a cutter: the stream is the frames that it handed out and the bytes that it holds, and
-- no other frames are.
use Rattle.std.proofs.Common.{◌≡◌, ℕ, List, [], ◌∷◌, ◌++◌, take, refl, sym, ◌∙◌, ap, append_assoc, Some, None, Ok, Err}
use Rattle.std.specs.List.{flat_map}
use Rattle.std.proofs.lemmas.List.{append-nil}
use Rattle.pay_frame.specs.Frame.{FrameFields, frame_bytes, IsFrame}
use Rattle.pay_frame.specs.Cutting.{Held, CutterCall, Fed, Gave, Runs, stream_of, frames_of, nothing_held, IsDrained}
use Rattle.pay_frame.proofs.OneReading.{same_front}

abbrev pub AllFrames : List FrameFields → Type 0
AllFrames [] = Unit {0}
AllFrames (f ∷ fs) = IsFrame f × AllFrames fs

abbrev spelled : List FrameFields → List ℕ
spelled = flat_map frame_bytes

-- what a run does to the stream
record Keeps (old : Held) (calls : List CutterCall) (new : Held) : Type 0 where
  parts : old.bytes ++ stream_of calls ≡ spelled (frames_of calls) ++ new.bytes
  frames : AllFrames (frames_of calls)

keeps : (old : Held) (calls : List CutterCall) (new : Held) → Runs old calls new → Keeps old calls new
keeps old [] new e = record { parts = append-nil old.bytes ∙ ap (λ (h : Held). h.bytes) (sym e); frames = tt }
keeps old (Fed piece taken ∷ calls) new (between, feeds, runs) =
    let rest = keeps between calls new runs in
    record {
      parts = sym (append_assoc old.bytes (take taken piece) (stream_of calls)) ∙ ap (λ (xs : List ℕ). xs ++ stream_of calls) (sym feeds.appended) ∙ rest.parts;
      frames = rest.frames;
    }
keeps old (Gave (Ok (Some f)) ∷ calls) new (between, given, runs) =
    let rest = keeps between calls new runs in
    record {
      parts = ap (λ (xs : List ℕ). xs ++ stream_of calls) given.2 ∙ append_assoc (frame_bytes f) between.bytes (stream_of calls)
          ∙ ap (λ (xs : List ℕ). frame_bytes f ++ xs) rest.parts ∙ sym (append_assoc (frame_bytes f) (spelled (frames_of calls)) new.bytes);
      frames = (given.1, rest.frames);
    }
keeps old (Gave (Ok None) ∷ calls) new (between, given, runs) =
    let rest = keeps between calls new runs in
    record { parts = ap (λ (xs : List ℕ). xs ++ stream_of calls) (sym given.2) ∙ rest.parts; frames = rest.frames }
keeps old (Gave (Err fault) ∷ calls) new (between, given, runs) =
    let rest = keeps between calls new runs in
    record { parts = ap (λ (xs : List ℕ). xs ++ stream_of calls) (sym given.1) ∙ rest.parts; frames = rest.frames }

-- one stream has one cutting
pub record SameCut (fs gs : List FrameFields) (r s : List ℕ) : Type 0 where
  pub frames : fs ≡ gs
  pub rest : r ≡ s

pub same_cut : (fs gs : List FrameFields) (r s : List ℕ) → AllFrames fs → AllFrames gs → IsDrained r → IsDrained s → spelled fs ++ r ≡ spelled gs ++ s → SameCut fs gs r s
same_cut [] [] r s is js d e same = record { frames = refl; rest = same }
same_cut [] (g ∷ gs) r s is js d e same = absurd (d g (record { is = js.0; rest = spelled gs ++ s; spelled = same ∙ append_assoc (frame_bytes g) (spelled gs) s }))
same_cut (f ∷ fs) [] r s is js d e same = absurd (e f (record { is = is.0; rest = spelled fs ++ r; spelled = sym same ∙ append_assoc (frame_bytes f) (spelled fs) r }))
same_cut (f ∷ fs) (g ∷ gs) r s is js d e same =
    let front = same_front f g (spelled fs ++ r) (spelled gs ++ s) is.0 js.0 (sym (append_assoc (frame_bytes f) (spelled fs) r) ∙ same ∙ append_assoc (frame_bytes g) (spelled gs) s) in
    let rest = same_cut fs gs r s is.1 js.1 d e front.rest in
    let heads : f ≡ g = front.frame in
    let tails : fs ≡ gs = rest.frames in
    record { frames = cc (heads, tails); rest = rest.rest }

pub same_frames : (one two : List CutterCall) (a b : Held) → Runs nothing_held one a → Runs nothing_held two b → stream_of one ≡ stream_of two → IsDrained a.bytes → IsDrained b.bytes → (frames_of one ≡ frames_of two) × (a.bytes ≡ b.bytes)
same_frames one two a b p q same d e =
    let first = keeps nothing_held one a p in
    let other = keeps nothing_held two b q in
    let cut = same_cut (frames_of one) (frames_of two) a.bytes b.bytes first.frames other.frames d e (sym first.parts ∙ same ∙ other.parts) in
    (cut.frames, cut.rest)

pub stream_is : (calls : List CutterCall) (held : Held) → Runs nothing_held calls held → stream_of calls ≡ flat_map frame_bytes (frames_of calls) ++ held.bytes
stream_is calls held p = (keeps nothing_held calls held p).parts
