-- What is computed of bytes is the frame that they are, if they are one.
use Rattle.std.proofs.Common.{◌≡◌, ℕ, ◌+◌, ◌-◌, ◌^◌, Bool, true, not, ◌&&◌, ◌||◌, eqb, leb, ltb, List, [], ◌∷◌, ◌++◌, length, get_or, take, drop, refl, sym, ◌∙◌, ap, subst, arith, Option, Some, None, Err}
use Rattle.std.specs.Prelude.{bytes_eq, option_and_then}
use Rattle.std.proofs.lemmas.Bool.{and_parts, and_from, eqb-true, eq-eqb, ltb-true, lt-ltb, leb-true, le-leb, cond-true}
use Rattle.std.proofs.lemmas.List.{length-append, append-nil, take_at, drop_at}
use Rattle.std.proofs.lemmas.Option.{option_and_then_some, cond_some}
use Rattle.std.proofs.lemmas.Slice.Eq.{bytes_eq-Decides}
use Rattle.pay_frame.specs.declared.reading.FrameFault.{FrameFault}
use Rattle.pay_frame.specs.declared.body.Kind.{Kind}
use Rattle.pay_frame.specs.declared.body.Kind.TheVariants.{Send, Echo, Ready, Want}
use Rattle.pay_frame.specs.Frame.{BodyFields, FrameFields, code_of, head_bytes, frame_bytes, IsBare, IsBody, IsFrame}
use Rattle.pay_frame.specs.OneFrame.{IsOneFrame, IsOneReading, kind_of, fields_at, is_bare, is_body, is_frame, if_spelled, one_frame}
use Rattle.pay_frame.proofs.OneReading.{Spelled, spelled_in, same_body, same_frame}
use Rattle.pay_frame.proofs.Starting.{length-frame}
use Rattle.pay_frame.proofs.WholeFrame.{no_fault}

-- ---- the tests of the limits

no_items : (xs : List ℕ) → length xs ≡ 0 → xs ≡ []
no_items [] e = refl
no_items (y ∷ ys) e = absurd (omega arith)

bare_from : (body : BodyFields) → is_bare body ≡ true → IsBare body
bare_from body h =
    let two = and_parts (eqb body.owner 0 && eqb body.seq 0) (eqb (length body.value) 0) h in
    let one = and_parts (eqb body.owner 0) (eqb body.seq 0) two.0 in
    (eqb-true body.owner 0 one.0, eqb-true body.seq 0 one.1, no_items body.value (eqb-true (length body.value) 0 two.1))

bare_true : (body : BodyFields) → IsBare body → is_bare body ≡ true
bare_true body is =
    and_from (eqb body.owner 0 && eqb body.seq 0) (eqb (length body.value) 0)
    (and_from (eqb body.owner 0) (eqb body.seq 0) (eq-eqb body.owner 0 is.0) (eq-eqb body.seq 0 is.1))
    (eq-eqb (length body.value) 0 (ap length is.2))

-- a test that only a WANT has to pass
abbrev in_want : Kind → Bool → Bool
in_want k b = not (eqb (code_of k) 4) || b

want_from : (k : Kind) (b : Bool) → in_want k b ≡ true → k ≡ Want → b ≡ true
want_from Send b h e = absurd (cc)
want_from Echo b h e = absurd (cc)
want_from Ready b h e = absurd (cc)
want_from Want b h e = h

want_true : (k : Kind) (b : Bool) → (k ≡ Want → b ≡ true) → in_want k b ≡ true
want_true Send b h = refl
want_true Echo b h = refl
want_true Ready b h = refl
want_true Want b h = h refl

body_from : (body : BodyFields) → is_body body ≡ true → IsBody body
body_from body h =
    let owner : Bool = ltb body.owner (2 ^ 16) in
    let seq : Bool = ltb body.seq 65536 in
    let value : Bool = leb (length body.value) 1024 in
    let three = and_parts (owner && seq && value) (in_want body.kind (is_bare body)) h in
    let two = and_parts (owner && seq) value three.0 in
    let one = and_parts owner seq two.0 in
    record {
      owner = ltb-true body.owner (2 ^ 16) one.0;
      seq = ltb-true body.seq 65536 one.1;
      value = leb-true (length body.value) 1024 two.1;
      want = λ e. bare_from body (want_from body.kind (is_bare body) three.1 e);
    }

body_true : (body : BodyFields) → IsBody body → is_body body ≡ true
body_true body is =
    let owner : Bool = ltb body.owner (2 ^ 16) in
    let seq : Bool = ltb body.seq 65536 in
    let value : Bool = leb (length body.value) 1024 in
    and_from (owner && seq && value) (in_want body.kind (is_bare body))
    (and_from (owner && seq) value
    (and_from owner seq (lt-ltb body.owner (2 ^ 16) is.owner) (lt-ltb body.seq 65536 is.seq))
    (le-leb (length body.value) 1024 is.value))
    (want_true body.kind (is_bare body) (λ e. bare_true body (is.want e)))

frame_from : (f : FrameFields) → is_frame f ≡ true → IsFrame f
frame_from f h =
    let from : Bool = ltb f.from (2 ^ 16) in
    let to : Bool = ltb f.to (2 ^ 16) in
    let number : Bool = ltb f.number (2 ^ 64) in
    let four = and_parts (from && to && number && is_body f.body) (eqb (length f.tag) 32) h in
    let three = and_parts (from && to && number) (is_body f.body) four.0 in
    let two = and_parts (from && to) number three.0 in
    let one = and_parts from to two.0 in
    record {
      from = ltb-true f.from (2 ^ 16) one.0;
      to = ltb-true f.to (2 ^ 16) one.1;
      number = ltb-true f.number (2 ^ 64) two.1;
      body = body_from f.body three.1;
      tag = eqb-true (length f.tag) 32 four.1;
    }

frame_true : (f : FrameFields) → IsFrame f → is_frame f ≡ true
frame_true f is =
    let from : Bool = ltb f.from (2 ^ 16) in
    let to : Bool = ltb f.to (2 ^ 16) in
    let number : Bool = ltb f.number (2 ^ 64) in
    and_from (from && to && number && is_body f.body) (eqb (length f.tag) 32)
    (and_from (from && to && number) (is_body f.body)
    (and_from (from && to) number
    (and_from from to (lt-ltb f.from (2 ^ 16) is.from) (lt-ltb f.to (2 ^ 16) is.to))
    (lt-ltb f.number (2 ^ 64) is.number))
    (body_true f.body is.body))
    (eq-eqb (length f.tag) 32 is.tag)

-- ---- what stands at the places of a frame's fields

kind_back : (k : Kind) → kind_of (code_of k) ≡ Some k
kind_back Send = refl
kind_back Echo = refl
kind_back Ready = refl
kind_back Want = refl

fields_back : (x : List ℕ) (f : FrameFields) → IsOneFrame x f → Spelled f x → fields_at x f.body.kind ≡ f
fields_back x f one at =
    let len : length x ≡ 56 + length f.body.value = ap length one.spelled ∙ length-frame f one.is in
    let front : List ℕ = head_bytes f.from f.to f.number f.body ++ f.body.value in
    let front-len : length front ≡ length x - 32 = omega (arith, length-append (head_bytes f.from f.to f.number f.body) f.body.value) in
    let behind : drop 24 x ≡ f.body.value ++ f.tag = ap (drop 24) one.spelled in
    let value : take (length x - 32 - 24) (drop 24 x) ≡ f.body.value =
    ap (take (length x - 32 - 24)) behind ∙ take_at f.body.value f.tag (length x - 32 - 24) (omega arith)
    in
    let tag : drop (length x - 32) x ≡ f.tag = ap (drop (length x - 32)) one.spelled ∙ drop_at front f.tag (length x - 32) front-len in
    same_frame (fields_at x f.body.kind) f at.from at.to at.number
    (same_body (fields_at x f.body.kind).body f.body refl at.owner at.seq value) tag

-- ---- and so the law

pub computed : (x : List ℕ) (f : FrameFields) → IsOneFrame x f → one_frame x ≡ Some f
unfolding one_frame
computed x f one =
    let at : Spelled f x = subst (Spelled f) (append-nil (frame_bytes f) ∙ sym one.spelled) (spelled_in f [] one.is) in
    let kind : kind_of (get_or x 3 0) ≡ Some f.body.kind = ap kind_of at.kind ∙ kind_back f.body.kind in
    let spelled : bytes_eq (frame_bytes f) x ≡ true = (bytes_eq-Decides (frame_bytes f) x).1 (sym one.spelled) in
    let passes : (is_frame f && bytes_eq (frame_bytes f) x) ≡ true = and_from (is_frame f) (bytes_eq (frame_bytes f) x) (frame_true f one.is) spelled in
    ap (option_and_then (λ k. if_spelled x (fields_at x k))) kind
    ∙ ap (if_spelled x) (fields_back x f one at)
    ∙ cond-true (is_frame f && bytes_eq (frame_bytes f) x) (Some f) None passes

pub is_one : (x : List ℕ) (f : FrameFields) → one_frame x ≡ Some f → IsOneFrame x f
unfolding one_frame
is_one x f e =
    option_and_then_some (λ k. if_spelled x (fields_at x k)) (kind_of (get_or x 3 0)) f e (λ k there found.
    let g : FrameFields = fields_at x k in
    let told = cond_some (is_frame g && bytes_eq (frame_bytes g) x) g f found in
    let both = and_parts (is_frame g) (bytes_eq (frame_bytes g) x) told.0 in
    let whole : IsOneFrame x g = record { is = frame_from g both.0; spelled = sym ((bytes_eq-Decides (frame_bytes g) x).0 both.1) } in
    subst (IsOneFrame x) told.1 whole)

-- bytes that fail as one frame are none
pub is_none : (x : List ℕ) (fault : FrameFault) → IsOneReading x (Err fault) → one_frame x ≡ None
is_none x fault failed = by_answer (one_frame x) refl where
  by_answer : (o : Option FrameFields) → one_frame x ≡ o → one_frame x ≡ None
  by_answer None e = e
  by_answer (Some f) e = absurd (no_fault x f fault (is_one x f e) failed)
