use Rattle.std.proofs.Common.{◌≡◌, ◌⊎◌, inl, inr, ℕ, List, [], ◌∷◌, ◌++◌, sym, ap, ◌∙◌, append-nil}
use Rattle.std.proofs.lemmas.Grind.{flat_map-append}
use Rattle.std.proofs.lemmas.List.Elements.{All-append}
use Rattle.std.specs.List.{All, flat_map}
use Rattle.pay_link.specs.Keys.{KeyFields}
use Rattle.pay_log.specs.Laws.{OneReading}
use Rattle.pay_log.specs.Logs.{IsLog, IsStray, IsWithOrWithout}
use Rattle.pay_member.specs.Member.{MemberFields}
use Rattle.pay_record.specs.Resuming.{IsOfRecords, entries_of_logged, ids_of}
use Rattle.pay_record.specs.Laws.{OneList}
use Rattle.pay_record.specs.Loggable.{IsLoggable}
use Rattle.pay_record.specs.Records.{LoggedFields, record_of}
use Rattle.pay_record.specs.Restarting.{HasLogged, WasWriting}
use Rattle.pay_record.proofs.laws.written_is_resumed.Goals as goal

abbrev joined : List (List ℕ) → List ℕ
joined ps = flat_map (λ p. p) ps

-- a member of the records of some entries has these
same_entries :
    OneList → (k : KeyFields) (m : MemberFields) (ids : List ℕ) (qs : List (List ℕ)) (logged : List LoggedFields) → All (IsLoggable k) logged
    → IsOfRecords k m ids qs → flat_map record_of logged ≡ flat_map (λ p. p) qs → HasLogged logged m ids
same_entries law k m ids qs logged loggable found is =
    let same : found.logged ≡ logged = law k found.logged logged found.loggable loggable (found.records ∙ sym is) in
    record {
      history = found.history ∙ ap (λ (l : List LoggedFields). entries_of_logged l) same;
      ids_are = found.ids_are ∙ ap (λ (l : List LoggedFields). ids_of l) same;
    }

both :
    (kept further : List LoggedFields) (ps : List (List ℕ)) → flat_map record_of kept ≡ flat_map (λ p. p) ps
    → flat_map record_of (kept ++ further) ≡ flat_map (λ p. p) (ps ++ flat_map record_of further ∷ [])
both kept further ps is =
    let more : List ℕ = flat_map record_of further in
    flat_map-append record_of kept further ∙ ap (λ (l : List ℕ). l ++ more) is
    ∙ ap (λ (l : List ℕ). flat_map (λ (p : List ℕ). p) ps ++ l) (sym (append-nil more)) ∙ sym (flat_map-append (λ (p : List ℕ). p) ps (more ∷ []))

resumed :
    OneList → OneReading → (k : KeyFields) (key header file : List ℕ) (kept further : List LoggedFields)
    (was : WasWriting k key header file kept further) (m : MemberFields) (ids : List ℕ) (qs : List (List ℕ))
    → IsLog key header file qs → IsOfRecords k m ids qs
    → IsWithOrWithout key header was.ps (flat_map record_of further) file
    → HasLogged kept m ids ⊎ HasLogged (kept ++ further) m ids ⊎ IsStray key header was.ps (flat_map record_of further) file
resumed law reading k key header file kept further was m ids qs log found (inl without) =
    let same : was.ps ≡ qs = reading key header file was.ps qs without log in
    inl (same_entries law k m ids qs kept was.loggable found (was.acknowledged ∙ ap (λ (ps : List (List ℕ)). joined ps) same))
resumed law reading k key header file kept further was m ids qs log found (inr (inl with)) =
    let same : was.ps ++ flat_map record_of further ∷ [] ≡ qs = reading key header file (was.ps ++ flat_map record_of further ∷ []) qs with log in
    inr (inl (same_entries law k m ids qs (kept ++ further) (All-append (IsLoggable k) kept further was.loggable was.others) found
    (both kept further was.ps was.acknowledged ∙ ap (λ (ps : List (List ℕ)). joined ps) same)))
resumed law reading k key header file kept further was m ids qs log found (inr (inr stray)) = inr (inr stray)

pub returns : goal.returns
returns c k key header file kept further was m ids qs log found =
    resumed c.one_list.ensures c.one_reading.ensures.one k key header file kept further was m ids qs log found was.left
