-- Records taken one after the other.
use Rattle.std.proofs.Common.{◌≡◌, ℕ, List, [], ◌∷◌, ◌++◌, Option, None, Some, option_to_list, length, refl, sym, ap, ◌∙◌, subst, arith, append_assoc, append-nil, length-append}
use Rattle.std.specs.List.{filter_map, flat_map}
use Rattle.std.proofs.lemmas.Grind.{flat_map-append}
use Rattle.std.proofs.lemmas.List.{length-map, map-append}
use Rattle.std.proofs.lemmas.List.Elements.{All-append, All-cons, All-nil, filter_map-append}
use Rattle.pay_member.specs.declared.event.HistoryEntry.{HistoryEntry}
use Rattle.pay_member.specs.Member.{MemberFields, with_entry}
use Rattle.pay_log.specs.declared.log.Recovered.{Recovered}
use Rattle.pay_log.specs.Device.{Storage}
use Rattle.pay_log.specs.Recovery.{IsReadLog, IsRecovered, IsRefusedLog}
use Rattle.pay_log.specs.Sinks.{TakesAll}
use Rattle.pay_link.specs.Genesis.{GenesisFields}
use Rattle.pay_link.specs.Keys.{KeyFields}
use Rattle.pay_record.specs.Loggable.{IsLoggable}
use Rattle.pay_record.specs.Records.{LoggedFields, record_of}
use Rattle.pay_record.specs.Resuming.{HasResumed, IsIllegalLog, IsLogOf, IsNoneOwed, IsOfRecords, IsRefusedAt, IsResumed, IsTaking, entries_of_logged, id_by, ids_of}
use Rattle.pay_record.specs.Starts.{fresh_member}

one_or_none : (o : Option ℕ) → filter_map (λ (x : Option ℕ). x) (o ∷ []) ≡ option_to_list o
one_or_none None = refl
one_or_none (Some y) = refl

module _ (k : KeyFields) where
  pub nothing_taken : (m : MemberFields) (ids : List ℕ) → HasResumed k m m ids ids []
  nothing_taken m ids = record {
    more = [];
    loggable = All-nil (IsLoggable k);
    grown = ap (λ (h : List HistoryEntry). record m { history = h }) (sym (append-nil m.history));
    ids = sym (append-nil ids);
    records = refl;
  }

  pub taken_on :
      (old mid new : MemberFields) (a b c : List ℕ) (bytes more : List ℕ) → HasResumed k old mid a b bytes → HasResumed k mid new b c more
      → HasResumed k old new a c (bytes ++ more)
  taken_on old mid new a b c bytes more one two = record {
    more = one.more ++ two.more;
    loggable = All-append (IsLoggable k) one.more two.more one.loggable two.loggable;
    grown = two.grown ∙ ap (λ (m : MemberFields). record m { history = m.history ++ entries_of_logged two.more }) one.grown
        ∙ ap (λ (h : List HistoryEntry). record old { history = h })
        (append_assoc old.history (entries_of_logged one.more) (entries_of_logged two.more) ∙ ap (λ (h : List HistoryEntry). old.history ++ h) (sym (map-append (λ (l : LoggedFields). l.entry) one.more two.more)));
    ids = two.ids ∙ ap (λ (l : List ℕ). l ++ ids_of two.more) one.ids ∙ append_assoc a (ids_of one.more) (ids_of two.more)
        ∙ ap (λ (l : List ℕ). a ++ l) (sym (filter_map-append (λ (l : LoggedFields). id_by l.entry.event l.id) one.more two.more));
    records = flat_map-append record_of one.more two.more ∙ ap (λ (l : List ℕ). l ++ flat_map record_of two.more) one.records ∙ ap (λ (l : List ℕ). bytes ++ l) two.records;
  }

  pub one_taken :
      (old new : MemberFields) (a b : List ℕ) (l : LoggedFields) → new ≡ with_entry old l.entry → b ≡ a ++ option_to_list (id_by l.entry.event l.id) → IsLoggable k l
      → HasResumed k old new a b (record_of l)
  one_taken old new a b l is ids loggable = record {
    more = l ∷ [];
    loggable = All-cons (IsLoggable k) l [] loggable (All-nil (IsLoggable k));
    grown = is;
    ids = ids ∙ ap (λ (x : List ℕ). a ++ x) (sym (one_or_none (id_by l.entry.event l.id)));
    records = append-nil (record_of l);
  }

-- ---- a whole log

-- whoever takes payloads so that each is records of what it has, has taken the records of all
pub all_taken :
    {S : Type 0} (new old : S) (ps : List (List ℕ)) (member : S → MemberFields) (ids : S → List ℕ)
    → TakesAll (λ a b p. HasResumed (member a).keys (member a) (member b) (ids a) (ids b) p) old new ps
    → HasResumed (member old).keys (member old) (member new) (ids old) (ids new) (flat_map (λ p. p) ps)
all_taken new old [] member ids same =
    subst (λ s. HasResumed (member old).keys (member old) (member s) (ids old) (ids s) []) (sym same)
    (nothing_taken (member old).keys (member old) (ids old))
all_taken new old (p ∷ ps) member ids all =
    let mid = all.0 in
    let k = (member old).keys in
    let rest = all_taken new mid ps member ids all.2 in
    taken_on k (member old) (member mid) (member new) (ids old) (ids mid) (ids new) p (flat_map (λ q. q) ps) all.1
    (subst (λ (x : KeyFields). HasResumed x (member mid) (member new) (ids mid) (ids new) (flat_map (λ q. q) ps)) (ap (λ (m : MemberFields). m.keys) all.1.grown) rest)

-- a fresh member, that is, without ids
pub taken_from_none :
    {S : Type 0} (new old : S) (ps : List (List ℕ)) (member : S → MemberFields) (ids : S → List ℕ) (fresh : MemberFields)
    → member old ≡ fresh → ids old ≡ []
    → TakesAll (λ a b p. HasResumed (member a).keys (member a) (member b) (ids a) (ids b) p) old new ps
    → HasResumed fresh.keys fresh (member new) [] (ids new) (flat_map (λ p. p) ps)
taken_from_none new old ps member ids fresh is none all =
    subst (λ (i : List ℕ). HasResumed fresh.keys fresh (member new) i (ids new) (flat_map (λ p. p) ps)) none
    (subst (λ (m : MemberFields). HasResumed m.keys m (member new) (ids old) (ids new) (flat_map (λ p. p) ps)) is
    (all_taken new old ps member ids all))

-- of a member that had taken nothing
pub of_records :
    (k : KeyFields) (old new : MemberFields) (ids : List ℕ) (ps : List (List ℕ))
    → old.history ≡ [] → HasResumed k old new [] ids (flat_map (λ p. p) ps)
    → IsOfRecords k new ids ps
of_records k old new ids ps fresh taken = record {
  logged = taken.more;
  loggable = taken.loggable;
  history = ap (λ (m : MemberFields). m.history) taken.grown ∙ ap (λ (h : List HistoryEntry). h ++ entries_of_logged taken.more) fresh;
  ids_are = taken.ids;
  records = taken.records;
}

module _ {S : Type 0} (member : S → MemberFields) (ids : S → List ℕ) (g : GenesisFields) (k : KeyFields) where
  abbrev Takes : S → S → List ℕ → Type 0
  Takes a b p = HasResumed (member a).keys (member a) (member b) (ids a) (ids b) p

  -- a log that was recovered by a fresh member
  pub is_resumed :
      {D : Type 0} (storage : Storage D) (old : S) (header file : List ℕ) (r : Recovered D S)
      → member old ≡ fresh_member g k → ids old ≡ [] → IsRecovered storage Takes header file old r
      → IsResumed storage k header file (record { member = member r.sink; ids = ids r.sink; len = r.len }) r.log
  is_resumed storage old header file r is none found = record {
    ps = found.ps;
    was = record {
      was = found.was;
      size = found.size;
      records = of_records k (fresh_member g k) (member r.sink) (ids r.sink) found.ps refl
          (taken_from_none r.sink old found.ps member ids (fresh_member g k) is none found.taken);
    };
    settled = found.settled;
  }

  -- a log that was read by a fresh member
  pub is_log_of :
      (old new : S) (key header file : List ℕ) (len : ℕ)
      → member old ≡ fresh_member g k → ids old ≡ [] → (found : IsReadLog Takes key header file old new len)
      → IsLogOf k key header file (record { member = member new; ids = ids new; len = len }) found.ps
  is_log_of old new key header file len is none found = record {
    was = found.log;
    size = found.size;
    records = of_records k (fresh_member g k) (member new) (ids new) found.ps refl
        (taken_from_none new old found.ps member ids (fresh_member g k) is none found.taken);
  }

  -- a log with a record that a fresh member refuses
  pub is_illegal :
      (old : S) (key header file : List ℕ) (number : ℕ)
      → member old ≡ fresh_member g k → ids old ≡ []
      → IsRefusedLog Takes (λ s p n. IsRefusedAt (member s).keys (member s) p n) key header file old number
      → IsIllegalLog k key header file (fresh_member g k) number
  is_illegal old key header file number is none log =
      let found = log.refused in
      let taken = taken_from_none found.at old found.before member ids (fresh_member g k) is none found.taken in
      record {
        before = found.before;
        payload = found.payload;
        headed = log.headed;
        stands = found.stands;
        at = member found.at;
        ids = ids found.at;
        taken = taken;
        refused = subst (λ (x : KeyFields). IsRefusedAt x (member found.at) found.payload number)
            (ap (λ (m : MemberFields). m.keys) taken.grown) found.refused;
      }

-- what was taken before a record that isn't what the member has there
pub refused_at :
    (k : KeyFields) (old mid : MemberFields) (a b : List ℕ) (bytes rest : List ℕ) (number : ℕ)
    → IsTaking k old mid a b bytes rest → length mid.history ≡ number → IsNoneOwed k mid rest
    → IsRefusedAt k old bytes number
refused_at k old mid a b bytes rest number taking counted wrong = record {
  before = taking.taken.more;
  loggable = taking.taken.loggable;
  rest = rest;
  is = taking.is ∙ ap (λ (l : List ℕ). l ++ rest) (sym taking.taken.records);
  counted = omega (
    arith,
    counted,
    ap (λ (m : MemberFields). length m.history) taking.taken.grown,
    length-append old.history (entries_of_logged taking.taken.more),
    length-map taking.taken.more (λ (l : LoggedFields). l.entry),
  );
  wrong = subst (λ (m : MemberFields). IsNoneOwed k m rest) taking.taken.grown wrong;
}
