-- Laws of frames and of reading, over the definitions alone.
use Rattle.std.proofs.Common.{◌≡◌, ℕ, ◌+◌, ◌^◌, ◌<◌, List, [], ◌++◌, length, get_or, take, drop, refl, sym, ◌∙◌, ap, arith, inl, inr, append_assoc, Some, None, Ok, Err, Option, Result}
use Rattle.std.proofs.lemmas.Bool.{cases_lt}
use Rattle.std.proofs.lemmas.List.{length-append, append-nil, take-append-drop, take_at, drop_at}
use Rattle.std.proofs.lemmas.Nat.{from_be_bytes-to_be_bytes_2, from_be_bytes-to_be_bytes_4, from_be_bytes-to_be_bytes_8}
use Rattle.pay_frame.specs.declared.reading.FrameFault.{FrameFault}
use Rattle.pay_frame.specs.declared.body.Kind.{Kind}
use Rattle.pay_frame.specs.declared.body.Kind.TheVariants.{Send, Echo, Ready, Want}
use Rattle.pay_frame.specs.Frame.{BodyFields, FrameFields, code_of, frame_bytes, IsFrame}
use Rattle.pay_frame.specs.Places.{length_field, two_at, four_at, eight_at}
use Rattle.pay_frame.specs.Reading.{HasFrame, StartsFrame, IsProperBeginning, IsFault, IsReading, fault_at}

same_kind : (j k : Kind) → code_of j ≡ code_of k → j ≡ k
same_kind Send Send e = refl
same_kind Send Echo e = absurd (omega arith)
same_kind Send Ready e = absurd (omega arith)
same_kind Send Want e = absurd (omega arith)
same_kind Echo Send e = absurd (omega arith)
same_kind Echo Echo e = refl
same_kind Echo Ready e = absurd (omega arith)
same_kind Echo Want e = absurd (omega arith)
same_kind Ready Send e = absurd (omega arith)
same_kind Ready Echo e = absurd (omega arith)
same_kind Ready Ready e = refl
same_kind Ready Want e = absurd (omega arith)
same_kind Want Send e = absurd (omega arith)
same_kind Want Echo e = absurd (omega arith)
same_kind Want Ready e = absurd (omega arith)
same_kind Want Want e = refl

-- each field, as it stands in the bytes of its frame and what follows them
pub record Spelled (f : FrameFields) (bytes : List ℕ) : Type 0 where
  pub from : two_at bytes 4 ≡ f.from
  pub to : two_at bytes 6 ≡ f.to
  pub number : eight_at bytes 8 ≡ f.number
  pub kind : get_or bytes 3 0 ≡ code_of f.body.kind
  pub owner : two_at bytes 16 ≡ f.body.owner
  pub seq : four_at bytes 18 ≡ f.body.seq
  pub len : length_field bytes ≡ 54 + length f.body.value

pub spelled_in : (f : FrameFields) (x : List ℕ) → IsFrame f → Spelled f (frame_bytes f ++ x)
spelled_in f x is =
    let short = is.body.value in
    let seq : f.body.seq < 2 ^ 16 = is.body.seq in
    record {
      from = from_be_bytes-to_be_bytes_2 f.from is.from;
      to = from_be_bytes-to_be_bytes_2 f.to is.to;
      number = from_be_bytes-to_be_bytes_8 f.number is.number;
      kind = refl;
      owner = from_be_bytes-to_be_bytes_2 f.body.owner is.body.owner;
      seq = from_be_bytes-to_be_bytes_4 f.body.seq (omega arith);
      len = omega arith;
    }

-- a list in front of two, up to its length
record SameParts (a b x y : List ℕ) : Type 0 where
  front : a ≡ b
  back : x ≡ y

same_parts : (a b x y : List ℕ) → length a ≡ length b → a ++ x ≡ b ++ y → SameParts a b x y
same_parts a b x y len e = record {
  front = sym (take_at a x (length a) refl) ∙ ap (take (length a)) e ∙ take_at b y (length a) (sym len);
  back = sym (drop_at a x (length a) refl) ∙ ap (drop (length a)) e ∙ drop_at b y (length a) (sym len);
}

pub same_body : (f g : BodyFields) → f.kind ≡ g.kind → f.owner ≡ g.owner → f.seq ≡ g.seq → f.value ≡ g.value → f ≡ g
same_body f g k o s v = λ i. record { kind = k i; owner = o i; seq = s i; value = v i }

pub same_frame : (f g : FrameFields) → f.from ≡ g.from → f.to ≡ g.to → f.number ≡ g.number → f.body ≡ g.body → f.tag ≡ g.tag → f ≡ g
same_frame f g a b n m t = λ i. record { from = a i; to = b i; number = n i; body = m i; tag = t i }

pub record SameFront (f g : FrameFields) (x y : List ℕ) : Type 0 where
  pub frame : f ≡ g
  pub rest : x ≡ y

pub same_front : (f g : FrameFields) (x y : List ℕ) → IsFrame f → IsFrame g → frame_bytes f ++ x ≡ frame_bytes g ++ y → SameFront f g x y
same_front f g x y is js e =
    let p = spelled_in f x is in
    let q = spelled_in g y js in
    let from : f.from ≡ g.from = sym p.from ∙ ap (λ (b : List ℕ). two_at b 4) e ∙ q.from in
    let to : f.to ≡ g.to = sym p.to ∙ ap (λ (b : List ℕ). two_at b 6) e ∙ q.to in
    let number : f.number ≡ g.number = sym p.number ∙ ap (λ (b : List ℕ). eight_at b 8) e ∙ q.number in
    let owner : f.body.owner ≡ g.body.owner = sym p.owner ∙ ap (λ (b : List ℕ). two_at b 16) e ∙ q.owner in
    let seq : f.body.seq ≡ g.body.seq = sym p.seq ∙ ap (λ (b : List ℕ). four_at b 18) e ∙ q.seq in
    let kind : f.body.kind ≡ g.body.kind = same_kind f.body.kind g.body.kind (sym p.kind ∙ ap (λ (b : List ℕ). get_or b 3 0) e ∙ q.kind) in
    let lens : length_field (frame_bytes f ++ x) ≡ length_field (frame_bytes g ++ y) = ap length_field e in
    let len : length f.body.value ≡ length g.body.value = omega (arith, p.len, q.len) in
    let tails : (f.body.value ++ f.tag) ++ x ≡ (g.body.value ++ g.tag) ++ y = ap (drop 24) e in
    let behind : f.body.value ++ (f.tag ++ x) ≡ g.body.value ++ (g.tag ++ y) = sym (append_assoc f.body.value f.tag x) ∙ tails ∙ append_assoc g.body.value g.tag y in
    let values = same_parts f.body.value g.body.value (f.tag ++ x) (g.tag ++ y) len behind in
    let tags = same_parts f.tag g.tag x y (is.tag ∙ sym js.tag) values.back in
    record { frame = same_frame f g from to number (same_body f.body g.body kind owner seq values.front) tags.front; rest = tags.back }

-- ---- reading answers one thing

proper_or_frame : (x : List ℕ) (f : FrameFields) → HasFrame x f → IsProperBeginning x → ⊥
proper_or_frame x f has begins =
    let s = begins.starts in
    let e : frame_bytes s.frame ++ [] ≡ frame_bytes f ++ (has.rest ++ s.rest) =
    append-nil (frame_bytes s.frame) ∙ s.spelled ∙ ap (λ (xs : List ℕ). xs ++ s.rest) has.spelled ∙ append_assoc (frame_bytes f) has.rest s.rest
    in
    let rests = (same_front s.frame f [] (has.rest ++ s.rest) s.is has.is e).rest in
    let more = begins.more in
    omega (arith, ap length rests, length-append has.rest s.rest)

starts-take : (x : List ℕ) (k : ℕ) → StartsFrame x → StartsFrame (take k x)
starts-take x k s = record {
  frame = s.frame;
  is = s.is;
  rest = drop k x ++ s.rest;
  spelled = s.spelled ∙ ap (λ (xs : List ℕ). xs ++ s.rest) (sym (take-append-drop k x)) ∙ append_assoc (take k x) (drop k x) s.rest;
}

proper_or_fault : (x : List ℕ) (fault : FrameFault) → IsProperBeginning x → IsFault x fault → ⊥
proper_or_fault x fault begins wrong = wrong.wrong (starts-take x (wrong.place + 1) begins.starts)

not_before : (x : List ℕ) (j k : FrameFault) (p : IsFault x j) (q : IsFault x k) → p.place < q.place → ⊥
not_before x j k p q lt = p.wrong (q.before (p.place + 1) (omega arith))

same_place : (x : List ℕ) (j k : FrameFault) (p : IsFault x j) (q : IsFault x k) → p.place ≡ q.place
same_place x j k p q =
    elim (cases_lt p.place q.place) [
      | inl lt ↦ absurd (not_before x j k p q lt)
      | inr le ↦ elim (cases_lt q.place p.place) [ inl lt ↦ absurd (not_before x k j q p lt) | inr ge ↦ omega arith ]
    ]

same_fault : (x : List ℕ) (j k : FrameFault) → IsFault x j → IsFault x k → Some j ≡ Some k
same_fault x j k p q = sym p.named ∙ ap (fault_at x) (same_place x j k p q) ∙ q.named

pub one_reading : (x : List ℕ) (r s : Result (Option (FrameFields × ℕ)) FrameFault) → IsReading x r → IsReading x s → r ≡ s
one_reading x (Ok (Some (f, n))) (Ok (Some (g, m))) p q =
    let frames = (same_front f g p.0.rest q.0.rest p.0.is q.0.is (sym p.0.spelled ∙ q.0.spelled)).frame in
    let sizes : n ≡ m = p.1 ∙ ap (λ h. length (frame_bytes h)) frames ∙ sym q.1 in
    cc
one_reading x (Ok (Some (f, n))) (Ok None) p q = absurd (proper_or_frame x f p.0 q)
one_reading x (Ok (Some (f, n))) (Err k) p q = absurd (q.no_frame f p.0)
one_reading x (Ok None) (Ok (Some (g, m))) p q = absurd (proper_or_frame x g q.0 p)
one_reading x (Ok None) (Ok None) p q = refl
one_reading x (Ok None) (Err k) p q = absurd (proper_or_fault x k p q)
one_reading x (Err j) (Ok (Some (g, m))) p q = absurd (p.no_frame g q.0)
one_reading x (Err j) (Ok None) p q = absurd (proper_or_fault x j q p)
one_reading x (Err j) (Err k) p q = let same = same_fault x j k p q in cc

pub one_spelling : (f g : FrameFields) → IsFrame f → IsFrame g → frame_bytes f ≡ frame_bytes g → f ≡ g
one_spelling f g is js e = (same_front f g [] [] is js (append-nil (frame_bytes f) ∙ e ∙ sym (append-nil (frame_bytes g)))).frame

pub none_begins_another : (f g : FrameFields) (rest : List ℕ) → IsFrame f → IsFrame g → frame_bytes g ≡ frame_bytes f ++ rest → rest ≡ []
none_begins_another f g rest is js e = sym (same_front g f [] rest js is (append-nil (frame_bytes g) ∙ e)).rest

pub read_again : (f : FrameFields) (rest : List ℕ) (answer : Result (Option (FrameFields × ℕ)) FrameFault) → IsFrame f → IsReading (frame_bytes f ++ rest) answer → answer ≡ Ok (Some (f, length (frame_bytes f)))
read_again f rest answer is reading =
    one_reading (frame_bytes f ++ rest) answer (Ok (Some (f, length (frame_bytes f)))) reading (record { is = is; rest = rest; spelled = refl }, refl)

pub drained_from_beginning : (bytes : List ℕ) → IsProperBeginning bytes → (f : FrameFields) → HasFrame bytes f → ⊥
drained_from_beginning bytes begins f has = proper_or_frame bytes f has begins
