-- One record at most stands at the front of bytes.
use Rattle.std.proofs.Common.{◌≡◌, ℕ, suc, ◌^◌, ◌<◌, ◌≤◌, Bool, List, [], ◌∷◌, ◌++◌, length, length-append, get_or, take, drop, refl, sym, ap, ◌∙◌, arith}
use Rattle.std.specs.List.{All, flat_map}
use Rattle.std.specs.Int.{w16, w32, w64, to_be_bytes}
use Rattle.std.proofs.lemmas.List.{take_at, drop_at}
use Rattle.pay_frame.specs.declared.limits.TheConstants.{GREATEST_VALUE}
use Rattle.pay_link.specs.Checked.{CheckedFields}
use Rattle.pay_link.specs.Keys.{KeyFields}
use Rattle.pay_member.specs.declared.event.Event.{Event}
use Rattle.pay_member.specs.declared.event.Event.TheVariants.{Ask, Taken, Query}
use Rattle.pay_member.specs.declared.event.Reply.{Reply}
use Rattle.pay_member.specs.declared.event.Reply.TheVariants as reply
use Rattle.pay_member.specs.declared.event.Told.{Told}
use Rattle.pay_member.specs.declared.event.Took.{Took}
use Rattle.pay_record.specs.Records.{LoggedFields, frame_part, kind_code, record_fields, record_of}
use Rattle.pay_record.specs.Loggable.{FitsEvent, FitsReply, IsLoggable, StandsIn}
use Rattle.pay_record.proofs.Frames.{same_frame_parts}
use Rattle.pay_record.proofs.Fronts.{bits_same, eight_same, four_same, two_same}
use Rattle.pay_record.proofs.Stands.{some_bytes}

-- two entries' fields, and what stands after them, are the same
record Same (e other : Event) (i j : ℕ) (r o : Reply) (x y : List ℕ) : Type 0 where
  event : e ≡ other
  id : i ≡ j
  reply : r ≡ o
  rest : x ≡ y

same_asks :
    (i j s t : ℕ) (v w rest more : List ℕ) → i < 2 ^ 64 → j < 2 ^ 64 → s < 2 ^ 32 → t < 2 ^ 32 → length v ≤ GREATEST_VALUE → length w ≤ GREATEST_VALUE
    → record_fields (Ask v) i (reply.Asked s) ++ rest ≡ record_fields (Ask w) j (reply.Asked t) ++ more
    → Same (Ask v) (Ask w) i j (reply.Asked s) (reply.Asked t) rest more
same_asks i j s t v w rest more small_i small_j small_s small_t short_v short_w is =
    let behind_id : to_be_bytes w32 s ++ (to_be_bytes w16 (length v) ++ (v ++ rest)) ≡ to_be_bytes w32 t ++ (to_be_bytes w16 (length w) ++ (w ++ more)) =
    ap (λ (l : List ℕ). drop 8 l) is in
    let behind_seq : to_be_bytes w16 (length v) ++ (v ++ rest) ≡ to_be_bytes w16 (length w) ++ (w ++ more) = ap (λ (l : List ℕ). drop 4 l) behind_id in
    let values : v ++ rest ≡ w ++ more = ap (λ (l : List ℕ). drop 2 l) behind_seq in
    let long : length v ≡ length w =
    two_same (length v) (length w) (v ++ rest) (w ++ more) (omega (arith, short_v)) (omega (arith, short_w)) behind_seq in
    let same : v ≡ w =
    sym (take_at v rest (length v) refl) ∙ ap (λ (l : List ℕ). take (length v) l) values ∙ take_at w more (length v) (sym long) in
    record {
      event = ap (λ (l : List ℕ). Ask l) same;
      id = eight_same i j (to_be_bytes w32 s ++ (to_be_bytes w16 (length v) ++ (v ++ rest))) (to_be_bytes w32 t ++ (to_be_bytes w16 (length w) ++ (w ++ more))) small_i small_j is;
      reply = ap reply.Asked (four_same s t (to_be_bytes w16 (length v) ++ (v ++ rest)) (to_be_bytes w16 (length w) ++ (w ++ more)) small_s small_t behind_id);
      rest = sym (drop_at v rest (length v) refl) ∙ ap (λ (l : List ℕ). drop (length v) l) values ∙ drop_at w more (length v) (sym long);
    }

took_by_parts : (t u : Took) → t.echo ≡ u.echo → t.ready ≡ u.ready → t.deliver ≡ u.deliver → t.settled ≡ u.settled → t ≡ u
took_by_parts t u echo ready deliver settled =
    let A : Bool → Took = λ b. record { echo = b; ready = t.ready; deliver = t.deliver; settled = t.settled } in
    let B : Bool → Took = λ b. record { echo = u.echo; ready = b; deliver = t.deliver; settled = t.settled } in
    let C : Bool → Took = λ b. record { echo = u.echo; ready = u.ready; deliver = b; settled = t.settled } in
    let D : ℕ → Took = λ n. record { echo = u.echo; ready = u.ready; deliver = u.deliver; settled = n } in
    ap A echo ∙ ap B ready ∙ ap C deliver ∙ ap D settled

same_frames :
    (k : KeyFields) (i j : ℕ) (c d : CheckedFields) (t u : Took) (rest more : List ℕ) → FitsEvent k (Taken c) → FitsEvent k (Taken d)
    → FitsReply (Taken c) i (reply.Took t) → FitsReply (Taken d) j (reply.Took u)
    → record_fields (Taken c) i (reply.Took t) ++ rest ≡ record_fields (Taken d) j (reply.Took u) ++ more
    → Same (Taken c) (Taken d) i j (reply.Took t) (reply.Took u) rest more
same_frames k i j c d t u rest more mine others fits fit is =
    let known = bits_same t.echo t.ready t.deliver u.echo u.ready u.deliver (ap (λ (l : List ℕ). get_or l 0 0) is) in
    let behind_bits : to_be_bytes w32 t.settled ++ (frame_part c.frame ++ rest) ≡ to_be_bytes w32 u.settled ++ (frame_part d.frame ++ more) =
    ap (λ (l : List ℕ). drop 1 l) is in
    let settled = four_same t.settled u.settled (frame_part c.frame ++ rest) (frame_part d.frame ++ more) fits.1 fit.1 behind_bits in
    let frames = same_frame_parts k c d rest more mine others (ap (λ (l : List ℕ). drop 4 l) behind_bits) in
    record {
      event = ap (λ (x : CheckedFields). Taken x) frames.0;
      id = fits.0 ∙ sym fit.0;
      reply = ap (λ (x : Took). reply.Took x) (took_by_parts t u known.0 known.1 known.2 settled);
      rest = frames.1;
    }

told_by_parts : (t u : Told) → t.balance ≡ u.balance → t.front ≡ u.front → t.listed ≡ u.listed → t ≡ u
told_by_parts t u balance front listed =
    let A : ℕ → Told = λ n. record { balance = n; front = t.front; listed = t.listed } in
    let B : ℕ → Told = λ n. record { balance = u.balance; front = n; listed = t.listed } in
    let C : ℕ → Told = λ n. record { balance = u.balance; front = u.front; listed = n } in
    ap A balance ∙ ap B front ∙ ap C listed

same_queries :
    (i j a b : ℕ) (t u : Told) (rest more : List ℕ) → a < 2 ^ 16 → b < 2 ^ 16 → FitsReply (Query a) i (reply.Told t) → FitsReply (Query b) j (reply.Told u)
    → record_fields (Query a) i (reply.Told t) ++ rest ≡ record_fields (Query b) j (reply.Told u) ++ more
    → Same (Query a) (Query b) i j (reply.Told t) (reply.Told u) rest more
same_queries i j a b t u rest more small_a small_b fits fit is =
    let told : to_be_bytes w64 t.balance ++ (to_be_bytes w32 t.front ++ (to_be_bytes w32 t.listed ++ rest))
    ≡ to_be_bytes w64 u.balance ++ (to_be_bytes w32 u.front ++ (to_be_bytes w32 u.listed ++ more)) = ap (λ (l : List ℕ). drop 2 l) is in
    let fronts : to_be_bytes w32 t.front ++ (to_be_bytes w32 t.listed ++ rest) ≡ to_be_bytes w32 u.front ++ (to_be_bytes w32 u.listed ++ more) =
    ap (λ (l : List ℕ). drop 8 l) told in
    let lists : to_be_bytes w32 t.listed ++ rest ≡ to_be_bytes w32 u.listed ++ more = ap (λ (l : List ℕ). drop 4 l) fronts in
    record {
      event = ap Query (two_same a b (to_be_bytes w64 t.balance ++ (to_be_bytes w32 t.front ++ (to_be_bytes w32 t.listed ++ rest)))
          (to_be_bytes w64 u.balance ++ (to_be_bytes w32 u.front ++ (to_be_bytes w32 u.listed ++ more))) small_a small_b is);
      id = fits.0 ∙ sym fit.0;
      reply = ap (λ (x : Told). reply.Told x) (told_by_parts t u
          (eight_same t.balance u.balance (to_be_bytes w32 t.front ++ (to_be_bytes w32 t.listed ++ rest)) (to_be_bytes w32 u.front ++ (to_be_bytes w32 u.listed ++ more)) fits.1 fit.1 told)
          (four_same t.front u.front (to_be_bytes w32 t.listed ++ rest) (to_be_bytes w32 u.listed ++ more) fits.2 fit.2 fronts)
          (four_same t.listed u.listed rest more fits.3 fit.3 lists));
      rest = ap (λ (l : List ℕ). drop 4 l) lists;
    }

same_fields :
    (k : KeyFields) (e other : Event) (i j : ℕ) (r o : Reply) (rest more : List ℕ) → FitsEvent k e → FitsEvent k other → FitsReply e i r → FitsReply other j o
    → kind_code e ≡ kind_code other → record_fields e i r ++ rest ≡ record_fields other j o ++ more → Same e other i j r o rest more
same_fields k (Ask v) (Ask x) i j (reply.Asked s) (reply.Asked t) rest more room rooms fits fit code is = same_asks i j s t v x rest more fits.0 fit.0 fits.1 fit.1 room rooms is
same_fields k (Ask v) (Ask x) i j (reply.Asked s) (reply.Took t) rest more room rooms fits fit code is = absurd fit
same_fields k (Ask v) (Ask x) i j (reply.Asked s) (reply.Told t) rest more room rooms fits fit code is = absurd fit
same_fields k (Ask v) (Ask x) i j (reply.Took s) o rest more room rooms fits fit code is = absurd fits
same_fields k (Ask v) (Ask x) i j (reply.Told s) o rest more room rooms fits fit code is = absurd fits
same_fields k (Ask v) (Taken d) i j r o rest more room rooms fits fit code is = absurd (omega (arith, code))
same_fields k (Ask v) (Query b) i j r o rest more room rooms fits fit code is = absurd (omega (arith, code))
same_fields k (Taken c) (Ask x) i j r o rest more room rooms fits fit code is = absurd (omega (arith, code))
same_fields k (Taken c) (Taken d) i j (reply.Took t) (reply.Took u) rest more room rooms fits fit code is = same_frames k i j c d t u rest more room rooms fits fit is
same_fields k (Taken c) (Taken d) i j (reply.Took t) (reply.Asked u) rest more room rooms fits fit code is = absurd fit
same_fields k (Taken c) (Taken d) i j (reply.Took t) (reply.Told u) rest more room rooms fits fit code is = absurd fit
same_fields k (Taken c) (Taken d) i j (reply.Asked t) o rest more room rooms fits fit code is = absurd fits
same_fields k (Taken c) (Taken d) i j (reply.Told t) o rest more room rooms fits fit code is = absurd fits
same_fields k (Taken c) (Query b) i j r o rest more room rooms fits fit code is = absurd (omega (arith, code))
same_fields k (Query a) (Ask x) i j r o rest more room rooms fits fit code is = absurd (omega (arith, code))
same_fields k (Query a) (Taken d) i j r o rest more room rooms fits fit code is = absurd (omega (arith, code))
same_fields k (Query a) (Query b) i j (reply.Told t) (reply.Told u) rest more room rooms fits fit code is = same_queries i j a b t u rest more room rooms fits fit is
same_fields k (Query a) (Query b) i j (reply.Told t) (reply.Asked u) rest more room rooms fits fit code is = absurd fit
same_fields k (Query a) (Query b) i j (reply.Told t) (reply.Took u) rest more room rooms fits fit code is = absurd fit
same_fields k (Query a) (Query b) i j (reply.Asked t) o rest more room rooms fits fit code is = absurd fits
same_fields k (Query a) (Query b) i j (reply.Took t) o rest more room rooms fits fit code is = absurd fits

logged_by_parts : (l o : LoggedFields) → l.entry.stamp ≡ o.entry.stamp → l.entry.event ≡ o.entry.event → l.entry.reply ≡ o.entry.reply → l.id ≡ o.id → l ≡ o
logged_by_parts l o stamp event reply id =
    let A : ℕ → LoggedFields = λ n. record { entry = record { stamp = n; event = l.entry.event; reply = l.entry.reply }; id = l.id } in
    let B : Event → LoggedFields = λ e. record { entry = record { stamp = o.entry.stamp; event = e; reply = l.entry.reply }; id = l.id } in
    let C : Reply → LoggedFields = λ r. record { entry = record { stamp = o.entry.stamp; event = o.entry.event; reply = r }; id = l.id } in
    let D : ℕ → LoggedFields = λ n. record { entry = o.entry; id = n } in
    ap A stamp ∙ ap B event ∙ ap C reply ∙ ap D id

pub one_record :
    (k : KeyFields) (bytes : List ℕ) (l other : LoggedFields) → (stands : StandsIn k bytes l) → (others : StandsIn k bytes other)
    → (l ≡ other) × (stands.rest ≡ others.rest)
unfolding record_of
one_record k bytes l other stands others =
    let is : record_of l ++ stands.rest ≡ record_of other ++ others.rest = sym stands.is ∙ others.is in
    let mine = stands.loggable in
    let its = others.loggable in
    let code : kind_code l.entry.event ≡ kind_code other.entry.event = ap (λ (x : List ℕ). get_or x 0 0) is in
    let fields : record_fields l.entry.event l.id l.entry.reply ++ stands.rest ≡ record_fields other.entry.event other.id other.entry.reply ++ others.rest =
    ap (λ (x : List ℕ). drop 3 x) is in
    let same = same_fields k l.entry.event other.entry.event l.id other.id l.entry.reply other.entry.reply stands.rest others.rest
    mine.event its.event mine.reply its.reply code fields in
    let stamp = two_same l.entry.stamp other.entry.stamp (record_fields l.entry.event l.id l.entry.reply ++ stands.rest)
    (record_fields other.entry.event other.id other.entry.reply ++ others.rest)
    mine.stamp its.stamp (ap (λ (x : List ℕ). drop 1 x) is) in
    (logged_by_parts l other stamp same.event same.reply same.id, same.rest)

-- ---- a row of them

first_of : (k : KeyFields) (x : LoggedFields) (xs : List LoggedFields) → All (IsLoggable k) (x ∷ xs) → IsLoggable k x
first_of k x xs all = all 0 x (omega arith)

others_of : (k : KeyFields) (x : LoggedFields) (xs : List LoggedFields) → All (IsLoggable k) (x ∷ xs) → All (IsLoggable k) xs
others_of k x xs all i d within = all (suc i) d (omega (arith, within))

pub one_list :
    (k : KeyFields) (one other : List LoggedFields) → All (IsLoggable k) one → All (IsLoggable k) other
    → flat_map record_of one ≡ flat_map record_of other → one ≡ other
one_list k [] [] mine its same = refl
one_list k [] (y ∷ ys) mine its same =
    absurd (omega (arith, ap (λ (l : List ℕ). length l) same, length-append (record_of y) (flat_map record_of ys), some_bytes y))
one_list k (x ∷ xs) [] mine its same =
    absurd (omega (arith, ap (λ (l : List ℕ). length l) same, length-append (record_of x) (flat_map record_of xs), some_bytes x))
one_list k (x ∷ xs) (y ∷ ys) mine its same =
    let bytes : List ℕ = flat_map record_of (x ∷ xs) in
    let at_x : StandsIn k bytes x = record { loggable = first_of k x xs mine; rest = flat_map record_of xs; is = refl } in
    let at_y : StandsIn k bytes y = record { loggable = first_of k y ys its; rest = flat_map record_of ys; is = same } in
    let both = one_record k bytes x y at_x at_y in
    ap (λ (z : LoggedFields). z ∷ xs) both.0
    ∙ ap (λ (zs : List LoggedFields). y ∷ zs) (one_list k xs ys (others_of k x xs mine) (others_of k y ys its) both.1)
