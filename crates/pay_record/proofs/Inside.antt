-- What stands after a record's stamp, where some record stands at the front of bytes.
use Rattle.std.proofs.Common.{◌≡◌, ◌⊎◌, inl, inr, ℕ, ◌+◌, ◌^◌, ◌<◌, ◌≤◌, List, ◌∷◌, ◌++◌, length, get_or, drop, refl, sym, ap, ◌∙◌, arith, length-append}
use Rattle.std.specs.Int.{w16, w32, w64, to_be_bytes, from_be_bytes}
use Rattle.std.proofs.lemmas.Nat.{from_be_bytes-to_be_bytes_2}
use Rattle.pay_frame.specs.declared.limits.TheConstants.{GREATEST_VALUE}
use Rattle.pay_link.specs.Checked.{CheckedFields}
use Rattle.pay_link.specs.Keys.{KeyFields}
use Rattle.pay_member.specs.declared.event.Event.{Event}
use Rattle.pay_member.specs.declared.event.Event.TheVariants.{Ask, Taken, Query}
use Rattle.pay_member.specs.declared.event.Reply.{Reply}
use Rattle.pay_member.specs.declared.event.Reply.TheVariants.{Asked, Took, Told}
use Rattle.pay_record.specs.Records.{LoggedFields, frame_part, kind_code, known_bits, record_fields, record_of}
use Rattle.pay_record.specs.Loggable.{FitsEvent, FitsReply, FrameStandsIn, StandsIn}
use Rattle.pay_record.proofs.Fronts.{two_same, bits_small}

-- ---- kind, stamp and fields

pub same_code :
    (k : KeyFields) (code stamp : ℕ) (fields : List ℕ) (l : LoggedFields)
    → StandsIn k ((code ∷ to_be_bytes w16 stamp) ++ fields) l → code ≡ kind_code l.entry.event
unfolding record_of
same_code k code stamp fields l stands = ap (λ (x : List ℕ). get_or x 0 0) stands.is

pub same_stamp :
    (k : KeyFields) (code stamp : ℕ) (fields : List ℕ) (l : LoggedFields) → stamp < 2 ^ 16
    → StandsIn k ((code ∷ to_be_bytes w16 stamp) ++ fields) l → stamp ≡ l.entry.stamp
unfolding record_of
same_stamp k code stamp fields l small stands =
    sym (from_be_bytes-to_be_bytes_2 stamp small)
    ∙ ap (λ (x : List ℕ). from_be_bytes w16 (drop 1 x)) stands.is
    ∙ from_be_bytes-to_be_bytes_2 l.entry.stamp stands.loggable.stamp

pub same_fields :
    (k : KeyFields) (code stamp : ℕ) (fields : List ℕ) (l : LoggedFields)
    → (stands : StandsIn k ((code ∷ to_be_bytes w16 stamp) ++ fields) l)
    → fields ≡ record_fields l.entry.event l.id l.entry.reply ++ stands.rest
unfolding record_of
same_fields k code stamp fields l stands = ap (λ (x : List ℕ). drop 3 x) stands.is

-- ---- how many bytes they have

abbrev pub size_of : Event → ℕ
size_of (Ask v) = 14 + length v
size_of (Taken c) = 5 + length (frame_part c.frame)
size_of (Query a) = 18

pub length-fields : (e : Event) (id : ℕ) (reply : Reply) → FitsReply e id reply → length (record_fields e id reply) ≡ size_of e
length-fields (Ask v) id (Asked seq) fits = omega arith
length-fields (Ask v) id (Took t) fits = absurd fits
length-fields (Ask v) id (Told t) fits = absurd fits
length-fields (Taken c) id (Asked seq) fits = absurd fits
length-fields (Taken c) id (Took t) fits = omega arith
length-fields (Taken c) id (Told t) fits = absurd fits
length-fields (Query a) id (Asked seq) fits = absurd fits
length-fields (Query a) id (Took t) fits = absurd fits
length-fields (Query a) id (Told t) fits = refl

pub size_is :
    (k : KeyFields) (code stamp : ℕ) (fields : List ℕ) (l : LoggedFields)
    → (stands : StandsIn k ((code ∷ to_be_bytes w16 stamp) ++ fields) l)
    → length fields ≡ size_of l.entry.event + length stands.rest
size_is k code stamp fields l stands =
    ap (λ (x : List ℕ). length x) (same_fields k code stamp fields l stands)
    ∙ length-append (record_fields l.entry.event l.id l.entry.reply) stands.rest
    ∙ ap (λ (n : ℕ). n + length stands.rest) (length-fields l.entry.event l.id l.entry.reply stands.loggable.reply)

-- ---- records that aren't there, since too few bytes are

no_ask : (e : Event) (size more : ℕ) → 1 ≡ kind_code e → size ≡ size_of e + more → size < 14 → ⊥
no_ask (Ask v) size more code is few = absurd (omega (arith, is, few))
no_ask (Taken c) size more code is few = absurd (omega (arith, code))
no_ask (Query a) size more code is few = absurd (omega (arith, code))

no_frame : (e : Event) (size more : ℕ) → 4 ≡ kind_code e → size ≡ size_of e + more → size < 5 → ⊥
no_frame (Ask v) size more code is few = absurd (omega (arith, code))
no_frame (Taken c) size more code is few = absurd (omega (arith, is, few))
no_frame (Query a) size more code is few = absurd (omega (arith, code))

no_query : (e : Event) (size more : ℕ) → 3 ≡ kind_code e → size ≡ size_of e + more → size < 18 → ⊥
no_query (Ask v) size more code is few = absurd (omega (arith, code))
no_query (Taken c) size more code is few = absurd (omega (arith, code))
no_query (Query a) size more code is few = absurd (omega (arith, is, few))

pub short_ask : (k : KeyFields) (stamp : ℕ) (fields : List ℕ) → length fields < 14 → (l : LoggedFields) → StandsIn k ((1 ∷ to_be_bytes w16 stamp) ++ fields) l → ⊥
short_ask k stamp fields few l stands =
    no_ask l.entry.event (length fields) (length stands.rest) (same_code k 1 stamp fields l stands) (size_is k 1 stamp fields l stands) few

pub short_frame :
    (k : KeyFields) (stamp : ℕ) (fields : List ℕ) → length fields < 5 → (l : LoggedFields)
    → StandsIn k ((4 ∷ to_be_bytes w16 stamp) ++ fields) l → ⊥
short_frame k stamp fields few l stands =
    no_frame l.entry.event (length fields) (length stands.rest) (same_code k 4 stamp fields l stands) (size_is k 4 stamp fields l stands) few

pub short_query : (k : KeyFields) (stamp : ℕ) (fields : List ℕ) → length fields < 18 → (l : LoggedFields) → StandsIn k ((3 ∷ to_be_bytes w16 stamp) ++ fields) l → ⊥
short_query k stamp fields few l stands =
    no_query l.entry.event (length fields) (length stands.rest) (same_code k 3 stamp fields l stands) (size_is k 3 stamp fields l stands) few

-- ---- a value that isn't there

pub no_value_there :
    (len : ℕ) (rest v more : List ℕ) → len < 2 ^ 16 → length v ≤ GREATEST_VALUE → to_be_bytes w16 len ++ rest ≡ to_be_bytes w16 (length v) ++ (v ++ more)
    → (GREATEST_VALUE < len) ⊎ (length rest < len) → ⊥
no_value_there len rest v more small fits is wrong =
    let same : len ≡ length v = two_same len (length v) rest (v ++ more) small (omega (arith, fits)) is in
    let tail : rest ≡ v ++ more = ap (λ (x : List ℕ). drop 2 x) is in
    elim wrong [
      | inl long ↦ absurd (omega (arith, long, same, fits))
      | inr few ↦ absurd (omega (arith, few, same, ap (λ (x : List ℕ). length x) tail, length-append v more))
    ]

value_wrong :
    (k : KeyFields) (e : Event) (i : ℕ) (reply : Reply) (id seq len : ℕ) (rest more : List ℕ)
    → 1 ≡ kind_code e → FitsEvent k e → FitsReply e i reply → len < 2 ^ 16
    → to_be_bytes w64 id ++ to_be_bytes w32 seq ++ to_be_bytes w16 len ++ rest ≡ record_fields e i reply ++ more
    → (GREATEST_VALUE < len) ⊎ (length rest < len) → ⊥
value_wrong k (Ask v) i (Asked s) id seq len rest more code fits reply small is wrong =
    let behind : to_be_bytes w16 len ++ rest ≡ to_be_bytes w16 (length v) ++ (v ++ more) = ap (λ (l : List ℕ). drop 12 l) is in
    no_value_there len rest v more small fits behind wrong
value_wrong k (Ask v) i (Took t) id seq len rest more code fits reply small is wrong = reply
value_wrong k (Ask v) i (Told t) id seq len rest more code fits reply small is wrong = reply
value_wrong k (Taken c) i reply id seq len rest more code fits fit small is wrong = absurd (omega (arith, code))
value_wrong k (Query a) i reply id seq len rest more code fits fit small is wrong = absurd (omega (arith, code))

pub no_value :
    (k : KeyFields) (stamp id seq len : ℕ) (rest : List ℕ) → len < 2 ^ 16 → (GREATEST_VALUE < len) ⊎ (length rest < len) → (l : LoggedFields)
    → StandsIn k ((1 ∷ to_be_bytes w16 stamp) ++ (to_be_bytes w64 id ++ to_be_bytes w32 seq ++ to_be_bytes w16 len ++ rest)) l → ⊥
no_value k stamp id seq len rest small wrong l stands =
    let fields : List ℕ = to_be_bytes w64 id ++ to_be_bytes w32 seq ++ to_be_bytes w16 len ++ rest in
    value_wrong k l.entry.event l.id l.entry.reply id seq len rest stands.rest (same_code k 1 stamp fields l stands)
    stands.loggable.event stands.loggable.reply small (same_fields k 1 stamp fields l stands) wrong

-- ---- a frame that isn't there

bits_wrong :
    (e : Event) (i : ℕ) (reply : Reply) (bits : ℕ) (rest more : List ℕ) → 4 ≡ kind_code e → FitsReply e i reply
    → bits ∷ rest ≡ record_fields e i reply ++ more → 7 < bits → ⊥
bits_wrong (Ask v) i reply bits rest more code fit is wrong = absurd (omega (arith, code))
bits_wrong (Taken c) i (Asked s) bits rest more code fit is wrong = fit
bits_wrong (Taken c) i (Took t) bits rest more code fit is wrong =
    let same : bits ≡ known_bits t = ap (λ (l : List ℕ). get_or l 0 0) is in
    absurd (omega (arith, wrong, same, bits_small t.echo t.ready t.deliver))
bits_wrong (Taken c) i (Told t) bits rest more code fit is wrong = fit
bits_wrong (Query a) i reply bits rest more code fit is wrong = absurd (omega (arith, code))

pub no_bits :
    (k : KeyFields) (stamp bits : ℕ) (rest : List ℕ) → 7 < bits → (l : LoggedFields)
    → StandsIn k ((4 ∷ to_be_bytes w16 stamp) ++ (bits ∷ rest)) l → ⊥
no_bits k stamp bits rest wrong l stands =
    bits_wrong l.entry.event l.id l.entry.reply bits rest stands.rest (same_code k 4 stamp (bits ∷ rest) l stands)
    stands.loggable.reply (same_fields k 4 stamp (bits ∷ rest) l stands) wrong

frame_wrong :
    (k : KeyFields) (e : Event) (i : ℕ) (reply : Reply) (bits settled : ℕ) (rest more : List ℕ)
    → 4 ≡ kind_code e → FitsEvent k e → FitsReply e i reply
    → bits ∷ (to_be_bytes w32 settled ++ rest) ≡ record_fields e i reply ++ more → ((c : CheckedFields) → FrameStandsIn k rest c → ⊥) → ⊥
frame_wrong k (Ask v) i reply bits settled rest more code fits fit is none = absurd (omega (arith, code))
frame_wrong k (Taken c) i (Asked s) bits settled rest more code fits fit is none = fit
frame_wrong k (Taken c) i (Took t) bits settled rest more code fits fit is none =
    none c (record {
      checked = fits.0;
      mine = fits.1;
      rest = more;
      is = ap (λ (l : List ℕ). drop 5 l) is;
    })
frame_wrong k (Taken c) i (Told t) bits settled rest more code fits fit is none = fit
frame_wrong k (Query a) i reply bits settled rest more code fits fit is none = absurd (omega (arith, code))

pub no_frame_behind :
    (k : KeyFields) (stamp bits settled : ℕ) (rest : List ℕ) → ((c : CheckedFields) → FrameStandsIn k rest c → ⊥) → (l : LoggedFields)
    → StandsIn k ((4 ∷ to_be_bytes w16 stamp) ++ (bits ∷ (to_be_bytes w32 settled ++ rest))) l → ⊥
no_frame_behind k stamp bits settled rest none l stands =
    let fields : List ℕ = bits ∷ (to_be_bytes w32 settled ++ rest) in
    frame_wrong k l.entry.event l.id l.entry.reply bits settled rest stands.rest (same_code k 4 stamp fields l stands)
    stands.loggable.event stands.loggable.reply (same_fields k 4 stamp fields l stands) none

-- ---- no record at all

no_kind : (e : Event) (code : ℕ) → code ≡ kind_code e → (1 ≡ code → ⊥) → (4 ≡ code → ⊥) → (3 ≡ code → ⊥) → ⊥
no_kind (Ask v) code is ask frame query = ask (sym is)
no_kind (Taken c) code is ask frame query = frame (sym is)
no_kind (Query a) code is ask frame query = query (sym is)

pub other_code :
    (k : KeyFields) (code stamp : ℕ) (fields : List ℕ) → (1 ≡ code → ⊥) → (4 ≡ code → ⊥) → (3 ≡ code → ⊥) → (l : LoggedFields)
    → StandsIn k ((code ∷ to_be_bytes w16 stamp) ++ fields) l → ⊥
other_code k code stamp fields ask frame query l stands = no_kind l.entry.event code (same_code k code stamp fields l stands) ask frame query

pub too_short : (k : KeyFields) (bytes : List ℕ) → length bytes < 3 → (l : LoggedFields) → StandsIn k bytes l → ⊥
unfolding record_of
too_short k bytes few l stands = absurd (omega (arith, few, ap (λ (x : List ℕ). length x) stands.is))
