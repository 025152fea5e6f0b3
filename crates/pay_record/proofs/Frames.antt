-- Frames at the front of bytes, by their parts.
use Rattle.std.proofs.Common.{◌≡◌, ◌≢◌, ◌⊎◌, Err, ℕ, ◌^◌, ◌<◌, ◌≤◌, List, ◌∷◌, ◌++◌, length, get_or, take, drop, refl, subst, sym, ap, ◌∙◌, arith, length-append}
use Rattle.std.specs.Int.{w16, w32, w64, to_be_bytes}
use Rattle.std.proofs.lemmas.List.{take_at, drop_at}
use Rattle.pay_frame.specs.Frame.{BodyFields, FrameFields, IsBody, code_of}
use Rattle.pay_frame.specs.declared.body.Kind.{Kind}
use Rattle.pay_frame.specs.declared.body.Kind.TheVariants.{Send, Echo, Ready, Want}
use Rattle.pay_frame.specs.declared.limits.TheConstants.{GREATEST_VALUE, SEQS}
use Rattle.pay_link.specs.Checked.{CheckedFields, IsChecked, IsFor, checked_from}
use Rattle.pay_link.specs.Keys.{IsPeer, KeyFields, key_for}
use Rattle.pay_link.specs.Opening.{right_tag}
use Rattle.pay_member.specs.declared.event.Event.TheVariants.{Taken}
use Rattle.pay_record.specs.Records.{body_bytes, frame_part}
use Rattle.pay_record.specs.declared.reading.RecordFault.{RecordFault}
use Rattle.pay_record.specs.declared.reading.RecordFault.TheVariants.{Memory, NoRecord}
use Rattle.pay_record.specs.Loggable.{BodyStandsIn, FitsEvent, FrameStandsIn, IsBodyRead, IsFrameRead}
use Rattle.pay_record.proofs.Fronts.{eight_same, four_same, two_same}
use Rattle.pay_record.proofs.Inside.{no_value_there}

checked_by_parts : (c d : CheckedFields) → c.frame ≡ d.frame → c.key ≡ d.key → c ≡ d
checked_by_parts c d frame key =
    let A : FrameFields → CheckedFields = λ f. record { frame = f; key = c.key } in
    let B : List ℕ → CheckedFields = λ l. record { frame = d.frame; key = l } in
    ap A frame ∙ ap B key

-- ---- a body

same_code : (k l : Kind) → code_of k ≡ code_of l → k ≡ l
same_code Send Send is = refl
same_code Send Echo is = absurd (omega (arith, is))
same_code Send Ready is = absurd (omega (arith, is))
same_code Send Want is = absurd (omega (arith, is))
same_code Echo Send is = absurd (omega (arith, is))
same_code Echo Echo is = refl
same_code Echo Ready is = absurd (omega (arith, is))
same_code Echo Want is = absurd (omega (arith, is))
same_code Ready Send is = absurd (omega (arith, is))
same_code Ready Echo is = absurd (omega (arith, is))
same_code Ready Ready is = refl
same_code Ready Want is = absurd (omega (arith, is))
same_code Want Send is = absurd (omega (arith, is))
same_code Want Echo is = absurd (omega (arith, is))
same_code Want Ready is = absurd (omega (arith, is))
same_code Want Want is = refl

body_by_parts : (b o : BodyFields) → b.kind ≡ o.kind → b.owner ≡ o.owner → b.seq ≡ o.seq → b.value ≡ o.value → b ≡ o
body_by_parts b o kind owner seq value =
    let A : Kind → BodyFields = λ k. record { kind = k; owner = b.owner; seq = b.seq; value = b.value } in
    let B : ℕ → BodyFields = λ n. record { kind = o.kind; owner = n; seq = b.seq; value = b.value } in
    let C : ℕ → BodyFields = λ n. record { kind = o.kind; owner = o.owner; seq = n; value = b.value } in
    let D : List ℕ → BodyFields = λ v. record { kind = o.kind; owner = o.owner; seq = o.seq; value = v } in
    ap A kind ∙ ap B owner ∙ ap C seq ∙ ap D value

-- its bytes say all of a body within its limits, and what stands after them
same_body :
    (b o : BodyFields) (rest more : List ℕ) → IsBody b → IsBody o → body_bytes b ++ rest ≡ body_bytes o ++ more → (b ≡ o) × (rest ≡ more)
same_body b o rest more mine its is =
    let owners : to_be_bytes w16 b.owner ++ (to_be_bytes w32 b.seq ++ (to_be_bytes w16 (length b.value) ++ (b.value ++ rest)))
    ≡ to_be_bytes w16 o.owner ++ (to_be_bytes w32 o.seq ++ (to_be_bytes w16 (length o.value) ++ (o.value ++ more))) = ap (λ (l : List ℕ). drop 1 l) is in
    let seqs : to_be_bytes w32 b.seq ++ (to_be_bytes w16 (length b.value) ++ (b.value ++ rest))
    ≡ to_be_bytes w32 o.seq ++ (to_be_bytes w16 (length o.value) ++ (o.value ++ more)) = ap (λ (l : List ℕ). drop 2 l) owners in
    let lengths : to_be_bytes w16 (length b.value) ++ (b.value ++ rest) ≡ to_be_bytes w16 (length o.value) ++ (o.value ++ more) =
    ap (λ (l : List ℕ). drop 4 l) seqs in
    let values : b.value ++ rest ≡ o.value ++ more = ap (λ (l : List ℕ). drop 2 l) lengths in
    let long : length b.value ≡ length o.value =
    two_same (length b.value) (length o.value) (b.value ++ rest) (o.value ++ more) (omega (arith, mine.value)) (omega (arith, its.value)) lengths in
    let value : b.value ≡ o.value =
    sym (take_at b.value rest (length b.value) refl) ∙ ap (λ (l : List ℕ). take (length b.value) l) values ∙ take_at o.value more (length b.value) (sym long) in (
      body_by_parts b o
          (same_code b.kind o.kind (ap (λ (l : List ℕ). get_or l 0 0) is))
          (two_same b.owner o.owner (to_be_bytes w32 b.seq ++ (to_be_bytes w16 (length b.value) ++ (b.value ++ rest)))
          (to_be_bytes w32 o.seq ++ (to_be_bytes w16 (length o.value) ++ (o.value ++ more))) mine.owner its.owner owners)
          (four_same b.seq o.seq (to_be_bytes w16 (length b.value) ++ (b.value ++ rest)) (to_be_bytes w16 (length o.value) ++ (o.value ++ more))
          (omega (arith, mine.seq)) (omega (arith, its.seq)) seqs)
          value,
      sym (drop_at b.value rest (length b.value) refl) ∙ ap (λ (l : List ℕ). drop (length b.value) l) values ∙ drop_at o.value more (length b.value) (sym long),
    )

pub short_body : (bytes : List ℕ) → length bytes < 9 → (b : BodyFields) → BodyStandsIn bytes b → ⊥
short_body bytes few b stands =
    absurd (omega (arith, few, ap (λ (l : List ℕ). length l) stands.is, length-append (body_bytes b) stands.rest))

pub no_vote :
    (code : ℕ) (rest : List ℕ) → ((kind : Kind) → kind ≢ Want → code_of kind ≡ code → ⊥) → (b : BodyFields) → BodyStandsIn (code ∷ rest) b → ⊥
no_vote code rest none b stands = none b.kind stands.kind (sym (ap (λ (l : List ℕ). get_or l 0 0) stands.is))

pub no_seq :
    (code owner seq : ℕ) (rest : List ℕ) → seq < 2 ^ 32 → SEQS ≤ seq → (b : BodyFields)
    → BodyStandsIn (code ∷ (to_be_bytes w16 owner ++ (to_be_bytes w32 seq ++ rest))) b → ⊥
no_seq code owner seq rest small great b stands =
    let seqs : to_be_bytes w32 seq ++ rest ≡ to_be_bytes w32 b.seq ++ (to_be_bytes w16 (length b.value) ++ (b.value ++ stands.rest)) =
    ap (λ (l : List ℕ). drop 3 l) stands.is in
    let same = four_same seq b.seq rest (to_be_bytes w16 (length b.value) ++ (b.value ++ stands.rest)) small (omega (arith, stands.limits.seq)) seqs in
    absurd (omega (arith, same, great, stands.limits.seq))

pub no_body_value :
    (code owner seq len : ℕ) (rest : List ℕ) → len < 2 ^ 16 → (GREATEST_VALUE < len) ⊎ (length rest < len) → (b : BodyFields)
    → BodyStandsIn (code ∷ (to_be_bytes w16 owner ++ (to_be_bytes w32 seq ++ (to_be_bytes w16 len ++ rest)))) b → ⊥
no_body_value code owner seq len rest small wrong b stands =
    no_value_there len rest b.value stands.rest small stands.limits.value (ap (λ (l : List ℕ). drop 7 l) stands.is) wrong

-- ---- a frame

-- its sender, its number and its body say all of a frame that is for the member
part_again : (k : KeyFields) (c : CheckedFields) → IsChecked c → IsFor k c → c ≡ checked_from k c.frame.from c.frame.number c.frame.body
part_again k c is mine =
    let f = c.frame in
    let A : ℕ → FrameFields = λ n. record { from = f.from; to = n; number = f.number; body = f.body; tag = f.tag } in
    let B : List ℕ → FrameFields = λ t. record { from = f.from; to = k.own; number = f.number; body = f.body; tag = t } in
    let C : List ℕ → List ℕ = λ key. right_tag key f in
    let D : ℕ → List ℕ = λ n. right_tag (key_for k f.from) (record { from = f.from; to = n; number = f.number; body = f.body; tag = f.tag }) in
    checked_by_parts c (checked_from k f.from f.number f.body)
    (ap A mine.receiver ∙ ap B (is.tagged ∙ ap C mine.key ∙ ap D mine.receiver))
    mine.key

pub same_frame_parts :
    (k : KeyFields) (c d : CheckedFields) (rest more : List ℕ) → FitsEvent k (Taken c) → FitsEvent k (Taken d)
    → frame_part c.frame ++ rest ≡ frame_part d.frame ++ more → (c ≡ d) × (rest ≡ more)
same_frame_parts k c d rest more mine its is =
    let numbers : to_be_bytes w64 c.frame.number ++ (body_bytes c.frame.body ++ rest) ≡ to_be_bytes w64 d.frame.number ++ (body_bytes d.frame.body ++ more) =
    ap (λ (l : List ℕ). drop 2 l) is in
    let bodies : body_bytes c.frame.body ++ rest ≡ body_bytes d.frame.body ++ more = ap (λ (l : List ℕ). drop 8 l) numbers in
    let from = two_same c.frame.from d.frame.from (to_be_bytes w64 c.frame.number ++ (body_bytes c.frame.body ++ rest))
    (to_be_bytes w64 d.frame.number ++ (body_bytes d.frame.body ++ more)) mine.0.frame.from its.0.frame.from is in
    let number = eight_same c.frame.number d.frame.number (body_bytes c.frame.body ++ rest) (body_bytes d.frame.body ++ more)
    mine.0.frame.number its.0.frame.number numbers in
    let body = same_body c.frame.body d.frame.body rest more mine.0.frame.body its.0.frame.body bodies in
    let A : ℕ → CheckedFields = λ n. checked_from k n c.frame.number c.frame.body in
    let B : ℕ → CheckedFields = λ n. checked_from k d.frame.from n c.frame.body in
    let C : BodyFields → CheckedFields = λ b. checked_from k d.frame.from d.frame.number b in
    (part_again k c mine.0 mine.1 ∙ ap A from ∙ ap B number ∙ ap C body.0 ∙ sym (part_again k d its.0 its.1), body.1)

pub short_part : (k : KeyFields) (bytes : List ℕ) → length bytes < 10 → (c : CheckedFields) → FrameStandsIn k bytes c → ⊥
short_part k bytes few c stands =
    absurd (omega (arith, few, ap (λ (l : List ℕ). length l) stands.is, length-append (frame_part c.frame) stands.rest))

pub no_body_behind :
    (k : KeyFields) (from number : ℕ) (rest : List ℕ) → ((b : BodyFields) → BodyStandsIn rest b → ⊥) → (c : CheckedFields)
    → FrameStandsIn k (to_be_bytes w16 from ++ (to_be_bytes w64 number ++ rest)) c → ⊥
no_body_behind k from number rest none c stands =
    none c.frame.body (record {
      limits = stands.checked.frame.body;
      kind = stands.checked.kind;
      rest = stands.rest;
      is = ap (λ (l : List ℕ). drop 10 l) stands.is;
    })

pub no_sender :
    (k : KeyFields) (from : ℕ) (rest : List ℕ) → from < 2 ^ 16 → (IsPeer k from → ⊥) → (c : CheckedFields)
    → FrameStandsIn k (to_be_bytes w16 from ++ rest) c → ⊥
no_sender k from rest small stranger c stands =
    let same : from ≡ c.frame.from =
    two_same from c.frame.from rest (to_be_bytes w64 c.frame.number ++ (body_bytes c.frame.body ++ stands.rest)) small stands.checked.frame.from stands.is in
    stranger (subst (λ (n : ℕ). IsPeer k n) (sym same) stands.mine.sender)

pub no_owner :
    (k : KeyFields) (from number : ℕ) (rest : List ℕ) (b : BodyFields) → BodyStandsIn rest b → length k.keys ≤ b.owner → (c : CheckedFields)
    → FrameStandsIn k (to_be_bytes w16 from ++ (to_be_bytes w64 number ++ rest)) c → ⊥
no_owner k from number rest b is stranger c stands =
    let bodies : body_bytes b ++ is.rest ≡ body_bytes c.frame.body ++ stands.rest = sym is.is ∙ ap (λ (l : List ℕ). drop 10 l) stands.is in
    let same = same_body b c.frame.body is.rest stands.rest is.limits stands.checked.frame.body bodies in
    absurd (omega (arith, stranger, stands.mine.owner, ap (λ (x : BodyFields). x.owner) same.0))

pub part_stands :
    (k : KeyFields) (from number : ℕ) (rest : List ℕ) (b : BodyFields) → BodyStandsIn rest b → IsChecked (checked_from k from number b)
    → IsPeer k from → b.owner < length k.keys
    → FrameStandsIn k (to_be_bytes w16 from ++ (to_be_bytes w64 number ++ rest)) (checked_from k from number b)
part_stands k from number rest b is checked peer owner = record {
  checked = checked;
  mine = record { receiver = refl; sender = peer; owner = owner; key = refl };
  rest = is.rest;
  is = ap (λ (l : List ℕ). to_be_bytes w16 from ++ (to_be_bytes w64 number ++ l)) is.is;
}

-- ---- what reading answers

pub if_no_body :
    (bytes : List ℕ) (fault : RecordFault) → (fault ≡ NoRecord → (b : BodyFields) → BodyStandsIn bytes b → ⊥) → IsBodyRead bytes (Err fault)
if_no_body bytes Memory none = tt
if_no_body bytes NoRecord none = none refl

pub no_body_read : (bytes : List ℕ) (fault : RecordFault) → IsBodyRead bytes (Err fault) → fault ≡ NoRecord → (b : BodyFields) → BodyStandsIn bytes b → ⊥
no_body_read bytes Memory read same = absurd cc
no_body_read bytes NoRecord read same = read

pub if_no_frame :
    (k : KeyFields) (bytes : List ℕ) (fault : RecordFault) → (fault ≡ NoRecord → (c : CheckedFields) → FrameStandsIn k bytes c → ⊥)
    → IsFrameRead k bytes (Err fault)
if_no_frame k bytes Memory none = tt
if_no_frame k bytes NoRecord none = none refl

pub body_stands :
    (code : ℕ) (kind : Kind) (owner seq len : ℕ) (v more : List ℕ) → (code_of kind ≡ code) × (kind ≢ Want) → owner < 2 ^ 16 → seq < SEQS
    → length v ≡ len → len ≤ GREATEST_VALUE
    → BodyStandsIn (code ∷ (to_be_bytes w16 owner ++ (to_be_bytes w32 seq ++ (to_be_bytes w16 len ++ v ++ more)))) (record { kind = kind; owner = owner; seq = seq; value = v })
body_stands code kind owner seq len v more is small_owner small_seq long short = record {
  limits = record { owner = small_owner; seq = small_seq; value = omega (arith, long, short); want = λ want. absurd (is.1 want) };
  kind = is.1;
  rest = more;
  is = ap (λ (n : ℕ). n ∷ (to_be_bytes w16 owner ++ (to_be_bytes w32 seq ++ (to_be_bytes w16 len ++ v ++ more)))) (sym is.0)
      ∙ ap (λ (n : ℕ). code_of kind ∷ (to_be_bytes w16 owner ++ (to_be_bytes w32 seq ++ (to_be_bytes w16 n ++ v ++ more)))) (sym long);
}
