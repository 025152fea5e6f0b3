-- A start from what a crash left.
use Rattle.std.proofs.Common.{◌≡◌, ◌⊎◌, inl, inr, ⊎_elim, ℕ, List, [], ◌∷◌, ◌++◌, refl, sym, ap, ◌∙◌, subst, arith, append-nil, append_assoc}
use Rattle.std.proofs.lemmas.Grind.{flat_map-append}
use Rattle.std.proofs.lemmas.List.Elements.{All-append}
use Rattle.std.specs.List.{All, flat_map}
use Rattle.pay_link.specs.Genesis.{GenesisFields}
use Rattle.pay_link.specs.Keys.{KeyFields}
use Rattle.pay_log.specs.declared.log.Log.{Log}
use Rattle.pay_log.specs.Chunks.{IsShort}
use Rattle.pay_log.specs.Device.{LeavesOnly}
use Rattle.pay_log.specs.Headers.{header_bytes}
use Rattle.pay_log.specs.Laws.{OneReading, ReadAgain}
use Rattle.pay_log.specs.Logs.{IsLog, IsSynced, IsWithOrWithout, log_bytes}
use Rattle.pay_member.specs.Member.{MemberFields}
use Rattle.pay_record.specs.Crashes.{HasOnDisk, HasStray, ShorterStartsToo, StartsAs, StartsWith}
use Rattle.pay_record.specs.Identity.{header_of, log_key_of}
use Rattle.pay_record.specs.Laws.{OneList}
use Rattle.pay_record.specs.Loggable.{IsLoggable}
use Rattle.pay_record.specs.Records.{LoggedFields, record_of}
use Rattle.pay_record.specs.Restarting.{HasLogged}
use Rattle.pay_record.specs.Resuming.{IsLogOf, IsOfRecords, ResumedFields, entries_of_logged, ids_of}

abbrev joined : List (List ℕ) → List ℕ
joined ps = flat_map (λ p. p) ps

abbrev head_of : GenesisFields → KeyFields → List ℕ
head_of g k = header_bytes (header_of g k)

-- a member of the records of some entries has these
same_entries :
    OneList → (k : KeyFields) (m : MemberFields) (ids : List ℕ) (qs : List (List ℕ)) (logged : List LoggedFields) → All (IsLoggable k) logged
    → IsOfRecords k m ids qs → flat_map record_of logged ≡ joined qs → HasLogged logged m ids
same_entries law k m ids qs logged loggable found is =
    let same : found.logged ≡ logged = law k found.logged logged found.loggable loggable (found.records ∙ sym is) in
    record {
      history = found.history ∙ ap (λ (l : List LoggedFields). entries_of_logged l) same;
      ids_are = found.ids_are ∙ ap (λ (l : List LoggedFields). ids_of l) same;
    }

-- what is read of a log is what it has
pub starts_as :
    OneList → OneReading → (g : GenesisFields) (k : KeyFields) (file : List ℕ) (logged : List LoggedFields) (ps : List (List ℕ)) → All (IsLoggable k) logged
    → flat_map record_of logged ≡ joined ps → IsLog (log_key_of k) (head_of g k) file ps → StartsAs g k logged file
starts_as law reading g k file logged ps loggable records log r qs is =
    let same : ps ≡ qs = reading (log_key_of k) (head_of g k) file ps qs log is.was in
    same_entries law k r.member r.ids qs logged loggable is.records (records ∙ ap (λ (x : List (List ℕ)). joined x) same)

both :
    (kept further : List LoggedFields) (ps : List (List ℕ)) → flat_map record_of kept ≡ joined ps
    → flat_map record_of (kept ++ further) ≡ joined (ps ++ flat_map record_of further ∷ [])
both kept further ps is =
    let more : List ℕ = flat_map record_of further in
    flat_map-append record_of kept further ∙ ap (λ (l : List ℕ). l ++ more) is
    ∙ ap (λ (l : List ℕ). joined ps ++ l) (sym (append-nil more)) ∙ sym (flat_map-append (λ (p : List ℕ). p) ps (more ∷ []))

-- in the midst of an append
pub starts_with :
    OneList → OneReading → (g : GenesisFields) (k : KeyFields) (file : List ℕ) (kept further : List LoggedFields) (ps : List (List ℕ))
    → All (IsLoggable k) kept → All (IsLoggable k) further → flat_map record_of kept ≡ joined ps
    → IsWithOrWithout (log_key_of k) (head_of g k) ps (flat_map record_of further) file → StartsWith g k kept file
starts_with law reading g k file kept further ps loggable others records (inl without) r qs is =
    inl ([], subst (λ (l : List LoggedFields). HasLogged l r.member r.ids) (sym (append-nil kept)) (starts_as law reading g k file kept ps loggable records without r qs is))
starts_with law reading g k file kept further ps loggable others records (inr (inl with')) r qs is =
    inl (further, starts_as law reading g k file (kept ++ further) (ps ++ flat_map record_of further ∷ []) (All-append (IsLoggable k) kept further loggable others) (both kept further ps records) with' r qs is)
starts_with law reading g k file kept further ps loggable others records (inr (inr stray)) r qs is =
    inr (record { ps = ps; p = flat_map record_of further; is = stray })

pub shorter : ShorterStartsToo
shorter g k logged more file starts r qs is = ⊎_elim
    (λ longer. inl (more ++ longer.0, subst (λ (l : List LoggedFields). HasLogged l r.member r.ids) (append_assoc logged more longer.0) longer.1))
    (λ stray. inr stray)
    (starts r qs is)

module _ {D : Type 0} (is_known : D → Type 0) (seen : D → List ℕ) (may_leave : D → List ℕ → Type 0) where
  pub settled_starts :
      OneList → OneReading → ReadAgain → (log : Log D) (g : GenesisFields) (k : KeyFields) (logged : List LoggedFields) (file : List ℕ)
      → HasOnDisk is_known seen may_leave g k log logged → may_leave log.device file → StartsAs g k logged file
  settled_starts law reading again log g k logged file has left =
      let bytes : file ≡ log_bytes (log_key_of k) (head_of g k) has.ps =
      has.settled.durable file left ∙ has.settled.file ∙ ap (λ (x : List ℕ). log_bytes x (head_of g k) has.ps) has.key in
      starts_as law reading g k file logged has.ps has.loggable has.records
      (subst (λ (f : List ℕ). IsLog (log_key_of k) (head_of g k) f has.ps) (sym bytes) (again (log_key_of k) (head_of g k) has.ps has.settled.short))

  pub more_on_disk :
      (old new : Log D) (payload : List ℕ) (g : GenesisFields) (k : KeyFields) (logged further : List LoggedFields) → new.key ≡ old.key
      → ((header : List ℕ) (ps : List (List ℕ)) → IsSynced is_known seen may_leave old header ps → IsSynced is_known seen may_leave new header (ps ++ payload ∷ []))
      → HasOnDisk is_known seen may_leave g k old logged → All (IsLoggable k) further → flat_map record_of further ≡ payload
      → HasOnDisk is_known seen may_leave g k new (logged ++ further)
  more_on_disk old new payload g k logged further same acknowledged has others is = record {
    key = same ∙ has.key;
    loggable = All-append (IsLoggable k) logged further has.loggable others;
    ps = has.ps ++ payload ∷ [];
    settled = acknowledged (head_of g k) has.ps has.settled;
    records = both logged further has.ps has.records ∙ ap (λ (p : List ℕ). joined (has.ps ++ p ∷ [])) is;
  }

  module _ (moment : D → ℕ) (left_since : D → ℕ → List ℕ → Type 0) where
    pub crash_since :
        OneList → OneReading → (old new : Log D) (payload : List ℕ) (g : GenesisFields) (k : KeyFields) (logged further : List LoggedFields)
        → ((header : List ℕ) (ps : List (List ℕ)) → IsSynced is_known seen may_leave old header ps
        → LeavesOnly moment left_since old.device new.device (IsWithOrWithout old.key header ps payload))
        → HasOnDisk is_known seen may_leave g k old logged → All (IsLoggable k) further → flat_map record_of further ≡ payload
        → LeavesOnly moment left_since old.device new.device (StartsWith g k logged)
    crash_since law reading old new payload g k logged further any has others is =
        let leaves = any (head_of g k) has.ps has.settled in
        let so : (c : List ℕ) → IsWithOrWithout old.key (head_of g k) has.ps payload c → StartsWith g k logged c = λ c w.
        starts_with law reading g k c logged further has.ps has.loggable others has.records
        (subst (λ (p : List ℕ). IsWithOrWithout (log_key_of k) (head_of g k) has.ps p c) (sym is)
        (subst (λ (x : List ℕ). IsWithOrWithout x (head_of g k) has.ps payload c) has.key w)) in
        record {
          later = leaves.later;
          each = λ c left. so c (leaves.each c left);
          before = λ t c le left. ⊎_elim (λ past. inl past) (λ now. inr (so c now)) (leaves.before t c le left);
        }

module _ {D : Type 0} (moment : D → ℕ) (left_since : D → ℕ → List ℕ → Type 0) where
  pub add_up :
      (P : List ℕ → Type 0) (old mid new : D) → LeavesOnly moment left_since old mid P → LeavesOnly moment left_since mid new P → LeavesOnly moment left_since old new P
  add_up P old mid new first second = record {
    later = omega (arith, first.later, second.later);
    each = λ c left. ⊎_elim (first.each c) (λ now. now) (second.before (moment old) c first.later left);
    before = λ t c le left. ⊎_elim (first.before t c le) (λ now. inr now) (second.before t c (omega (arith, le, first.later)) left);
  }
