-- Records that stand at the front of bytes.
use Rattle.std.proofs.Common.{◌≡◌, ℕ, ◌+◌, ◌^◌, ◌<◌, ◌≤◌, List, ◌∷◌, ◌++◌, Err, length, drop, refl, sym, ap, ◌∙◌, arith, length-append}
use Rattle.std.specs.Int.{w16, w32, w64, to_be_bytes}
use Rattle.std.proofs.lemmas.List.{drop_at}
use Rattle.pay_frame.specs.declared.limits.TheConstants.{GREATEST_VALUE}
use Rattle.pay_link.specs.Checked.{CheckedFields}
use Rattle.pay_link.specs.Keys.{KeyFields}
use Rattle.pay_member.specs.declared.event.HistoryEntry.{HistoryEntry}
use Rattle.pay_member.specs.declared.event.Event.TheVariants.{Ask, Taken, Query}
use Rattle.pay_member.specs.declared.event.Reply.TheVariants as reply
use Rattle.pay_member.specs.declared.event.Told.{Told}
use Rattle.pay_member.specs.declared.event.Took.{Took}
use Rattle.pay_record.specs.Records.{LoggedFields, frame_part, known_bits, record_of}
use Rattle.pay_record.specs.declared.reading.RecordFault.{RecordFault}
use Rattle.pay_record.specs.declared.reading.RecordFault.TheVariants.{Memory, NoRecord}
use Rattle.pay_record.specs.Loggable.{FrameStandsIn, IsFrameRead, IsReadAs, StandsIn}

-- ---- an ask

abbrev pub ask_entry : ℕ → List ℕ → ℕ → HistoryEntry
ask_entry stamp v seq = record { stamp = stamp; event = Ask v; reply = reply.Asked seq }

pub ask_stands :
    (k : KeyFields) (stamp id seq len : ℕ) (v more : List ℕ) → stamp < 2 ^ 16 → id < 2 ^ 64 → seq < 2 ^ 32 → length v ≡ len → len ≤ GREATEST_VALUE
    → StandsIn k ((1 ∷ to_be_bytes w16 stamp) ++ (to_be_bytes w64 id ++ to_be_bytes w32 seq ++ to_be_bytes w16 len ++ v ++ more))
    (record { entry = ask_entry stamp v seq; id = id })
unfolding record_of
ask_stands k stamp id seq len v more small_stamp small_id small_seq long short = record {
  loggable = record { stamp = small_stamp; event = omega (arith, long, short); reply = (small_id, small_seq) };
  rest = more;
  is = ap (λ (n : ℕ). (1 ∷ to_be_bytes w16 stamp) ++ (to_be_bytes w64 id ++ to_be_bytes w32 seq ++ to_be_bytes w16 n ++ v ++ more)) (sym long);
}

pub length-ask : (stamp id seq : ℕ) (v : List ℕ) → 17 + length v ≡ length (record_of (record { entry = ask_entry stamp v seq; id = id }))
unfolding record_of
length-ask stamp id seq v = omega arith

-- ---- a frame

abbrev pub frame_entry : ℕ → CheckedFields → Took → HistoryEntry
frame_entry stamp c took = record { stamp = stamp; event = Taken c; reply = reply.Took took }

pub frame_stands :
    (k : KeyFields) (stamp bits settled : ℕ) (c : CheckedFields) (took : Took) (rest : List ℕ) → stamp < 2 ^ 16 → settled < 2 ^ 32
    → known_bits took ≡ bits → took.settled ≡ settled → FrameStandsIn k rest c
    → StandsIn k ((4 ∷ to_be_bytes w16 stamp) ++ (bits ∷ (to_be_bytes w32 settled ++ rest))) (record { entry = frame_entry stamp c took; id = 0 })
unfolding record_of
frame_stands k stamp bits settled c took rest small_stamp small_settled known same frame =
    let front : List ℕ = 4 ∷ to_be_bytes w16 stamp in record {
      loggable = record { stamp = small_stamp; event = (frame.checked, frame.mine); reply = (refl, omega (arith, small_settled, same)) };
      rest = frame.rest;
      is = ap (λ (x : List ℕ). front ++ (bits ∷ (to_be_bytes w32 settled ++ x))) frame.is
          ∙ ap (λ (n : ℕ). front ++ (n ∷ (to_be_bytes w32 settled ++ frame_part c.frame ++ frame.rest))) (sym known)
          ∙ ap (λ (n : ℕ). front ++ (known_bits took ∷ (to_be_bytes w32 n ++ frame_part c.frame ++ frame.rest))) (sym same);
    }

pub length-frame :
    (stamp : ℕ) (c : CheckedFields) (took : Took)
    → 8 + length (frame_part c.frame) ≡ length (record_of (record { entry = frame_entry stamp c took; id = 0 }))
unfolding record_of
length-frame stamp c took = omega arith

-- ---- a query

abbrev pub query_entry : ℕ → ℕ → Told → HistoryEntry
query_entry stamp a told = record { stamp = stamp; event = Query a; reply = reply.Told told }

pub query_stands :
    (k : KeyFields) (stamp account : ℕ) (told : Told) (more : List ℕ) → stamp < 2 ^ 16 → account < 2 ^ 16 → told.balance < 2 ^ 64 → told.front < 2 ^ 32 → told.listed < 2 ^ 32
    → StandsIn k ((3 ∷ to_be_bytes w16 stamp) ++ (to_be_bytes w16 account ++ to_be_bytes w64 told.balance ++ to_be_bytes w32 told.front ++ to_be_bytes w32 told.listed ++ more))
    (record { entry = query_entry stamp account told; id = 0 })
unfolding record_of
query_stands k stamp account told more small_stamp small_account balance front listed = record {
  loggable = record { stamp = small_stamp; event = small_account; reply = (refl, balance, front, listed) };
  rest = more;
  is = refl;
}

pub length-query : (stamp account : ℕ) (told : Told) → 21 ≡ length (record_of (record { entry = query_entry stamp account told; id = 0 }))
unfolding record_of
length-query stamp account told = refl

-- ---- any record

pub behind : (k : KeyFields) (bytes : List ℕ) (l : LoggedFields) (len : ℕ) → StandsIn k bytes l → len ≡ length (record_of l) → bytes ≡ record_of l ++ drop len bytes
behind k bytes l len stands long =
    stands.is ∙ ap (λ (x : List ℕ). record_of l ++ x) (sym (ap (λ (x : List ℕ). drop len x) stands.is ∙ drop_at (record_of l) stands.rest len (sym long)))

pub some_bytes : (l : LoggedFields) → 0 < length (record_of l)
unfolding record_of
some_bytes l = omega arith

pub room : (k : KeyFields) (bytes : List ℕ) (l : LoggedFields) (len : ℕ) → StandsIn k bytes l → len ≡ length (record_of l) → (0 < len) × (len ≤ length bytes)
room k bytes l len stands long =
    (omega (arith, long, some_bytes l), omega (arith, long, ap (λ (x : List ℕ). length x) stands.is, length-append (record_of l) stands.rest))

-- ---- what reading answers

pub if_none :
    (k : KeyFields) (bytes : List ℕ) (fault : RecordFault) → (fault ≡ NoRecord → (l : LoggedFields) → StandsIn k bytes l → ⊥)
    → IsReadAs k bytes (Err fault)
if_none k bytes Memory none = tt
if_none k bytes NoRecord none = none refl

pub no_frame_read :
    (k : KeyFields) (bytes : List ℕ) (fault : RecordFault) → IsFrameRead k bytes (Err fault) → fault ≡ NoRecord
    → (c : CheckedFields) → FrameStandsIn k bytes c → ⊥
no_frame_read k bytes Memory read same = absurd cc
no_frame_read k bytes NoRecord read same = read
