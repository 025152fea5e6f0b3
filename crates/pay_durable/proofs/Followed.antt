-- A log that follows a history, as its records are gathered and written.
use Rattle.std.proofs.Common.{◌≡◌, ℕ, ◌+◌, ◌<◌, ◌≤◌, Option, None, Some, List, [], ◌∷◌, ◌++◌, length, map, take, drop, get_or, take-append-drop, refl, sym, ap, ◌∙◌, subst, arith, append_assoc, append-nil, length-append}
use Rattle.std.specs.List.{flat_map}
use Rattle.std.proofs.lemmas.Grind.{flat_map-append}
use Rattle.std.proofs.lemmas.List.{map-append, length-take-le, length-drop, drop_all, take_more, drop_more, get_or-drop}
use Rattle.std.proofs.Math.Logic.{∥∥₁_map}
use Rattle.pay_log.specs.declared.log.Log.{Log}
use Rattle.pay_log.specs.Device.{Storage}
use Rattle.pay_link.specs.Keys.{KeyFields}
use Rattle.pay_member.specs.declared.event.HistoryEntry.{HistoryEntry}
use Rattle.pay_record.specs.Records.{LoggedFields, record_of}
use Rattle.pay_node.specs.Nodes.{HasEntries, NodeFields}
use Rattle.pay_record.specs.Resuming.{IsResumed, ResumedFields, entries_of_logged}
use Rattle.pay_durable.specs.Following.{AllKnown, HasGathered, IsFlushed, IsFollowing, IsFollowingSome, chunk_of_pending, records_of, with_id}
use Rattle.pay_durable.specs.Kept.{AreDurable, HasAtLeast, IsHistoryKept, IsOnDisk}

entries_back : (ids : List ℕ) (entries : List HistoryEntry) → entries_of_logged (map (with_id ids) entries) ≡ entries
entries_back ids [] = refl
entries_back ids (e ∷ entries) = ap (λ (l : List HistoryEntry). e ∷ l) (entries_back ids entries)

chunks_joined : (pending : List ℕ) → flat_map (λ (p : List ℕ). p) (chunk_of_pending pending) ≡ pending
chunks_joined [] = refl
chunks_joined (b ∷ bytes) = append-nil (b ∷ bytes)

module _ {D : Type 0} (is_known : D → Type 0) (seen : D → List ℕ) (may_leave : D → List ℕ → Type 0) where
  -- with the records of more entries waiting
  pub with_more :
      (log : Log D) (pending : List ℕ) (entries : List HistoryEntry) (ids : List ℕ) (more : List HistoryEntry)
      → IsFollowing is_known seen may_leave log pending entries
      → IsFollowing is_known seen may_leave log (pending ++ records_of ids more) (entries ++ more)
  with_more log pending entries ids more f = record {
    header = f.header;
    ps = f.ps;
    settled = f.settled;
    logged = f.logged ++ map (with_id ids) more;
    are = map-append (λ (l : LoggedFields). l.entry) f.logged (map (with_id ids) more)
        ∙ ap (λ (l : List HistoryEntry). l ++ entries_of_logged (map (with_id ids) more)) f.are
        ∙ ap (λ (l : List HistoryEntry). entries ++ l) (entries_back ids more);
    records = flat_map-append record_of f.logged (map (with_id ids) more)
        ∙ ap (λ (l : List ℕ). l ++ records_of ids more) f.records
        ∙ append_assoc (flat_map (λ (p : List ℕ). p) f.ps) pending (records_of ids more);
  }

  -- with all that waited written
  pub written :
      (log new : Log D) (pending new_pending : List ℕ) (entries : List HistoryEntry)
      → IsFollowing is_known seen may_leave log pending entries
      → IsFlushed is_known seen may_leave log new pending new_pending
      → IsFollowing is_known seen may_leave new new_pending entries
  written log new pending new_pending entries f flushed = record {
    header = f.header;
    ps = f.ps ++ chunk_of_pending pending;
    settled = flushed.settled f.header f.ps f.settled;
    logged = f.logged;
    are = f.are;
    records = f.records
        ∙ ap (λ (l : List ℕ). flat_map (λ (p : List ℕ). p) f.ps ++ l) (sym (chunks_joined pending))
        ∙ sym (flat_map-append (λ (p : List ℕ). p) f.ps (chunk_of_pending pending))
        ∙ sym (append-nil (flat_map (λ (p : List ℕ). p) (f.ps ++ chunk_of_pending pending)))
        ∙ ap (λ (l : List ℕ). flat_map (λ (p : List ℕ). p) (f.ps ++ chunk_of_pending pending) ++ l) (sym flushed.nothing_waits);
  }

  pub gathered :
      (log : Log D) (ids : List ℕ) (history : List HistoryEntry) (count new_count : ℕ) (pending new_pending : List ℕ)
      → HasGathered ids history count new_count pending new_pending
      → IsFollowingSome is_known seen may_leave log pending count
      → IsFollowingSome is_known seen may_leave log new_pending new_count
  gathered log ids history count new_count pending new_pending g f =
      let more : List HistoryEntry = take g.many (drop count history) in
      let long : length more ≡ g.many = length-take-le g.many (drop count history) (omega (arith, g.within, length-drop count history)) in
      record {
        entries = f.entries ++ more;
        counted = omega (arith, length-append f.entries more, long, f.counted, g.counted);
        follows = subst (λ (p : List ℕ). IsFollowing is_known seen may_leave log p (f.entries ++ more)) (sym g.records)
            (with_more log pending f.entries ids more f.follows);
      }

  pub flushed :
      (log new : Log D) (count new_count : ℕ) (pending new_pending : List ℕ) → new_count ≡ count
      → IsFlushed is_known seen may_leave log new pending new_pending
      → IsFollowingSome is_known seen may_leave log pending count
      → IsFollowingSome is_known seen may_leave new new_pending new_count
  flushed log new count new_count pending new_pending same w f = record {
    entries = f.entries;
    counted = f.counted ∙ sym same;
    follows = written log new pending new_pending f.entries f.follows w;
  }

  -- a history that isn't longer than what is on the disk has nothing beyond that
  pub nothing_beyond :
      (log : Log D) (count : ℕ) (history : List HistoryEntry) → length history ≤ count
      → IsFollowingSome is_known seen may_leave log [] count → IsOnDisk is_known seen may_leave history log
  nothing_beyond log count history within f =
      let none : drop (length f.entries) history ≡ [] = drop_all (length f.entries) history (omega (arith, within, f.counted)) in
      record {
        before = f.entries;
        follows = subst (λ (l : List HistoryEntry). IsFollowing is_known seen may_leave log [] l)
            (sym (append-nil f.entries) ∙ ap (λ (l : List HistoryEntry). f.entries ++ l) (sym none)) f.follows;
      }

  -- of a log that works and behind which nothing waits
  pub are_durable :
      (log : Log D) (count entries : ℕ) (pending : List ℕ) → log.failure ≡ None → pending ≡ [] → entries ≡ count
      → (AllKnown is_known → log.failure ≡ None → IsFollowingSome is_known seen may_leave log pending count)
      → AreDurable is_known seen may_leave entries
  are_durable log count entries pending works none same follows all = ∣ (
    log,
    subst (λ (n : ℕ). IsFollowingSome is_known seen may_leave log [] n) (sym same)
        (subst (λ (p : List ℕ). IsFollowingSome is_known seen may_leave log p count) none (follows all works)),
  ) ∣₁

  pub kept_already :
      (node : NodeFields) (entries : ℕ) → HasEntries node entries → HasAtLeast (AreDurable is_known seen may_leave) entries
      → IsHistoryKept is_known seen may_leave node
  kept_already node entries has found = record {
    member = has.member;
    own = has.own;
    legal = has.legal;
    on_disk = λ all. ∥∥₁_map (found.durable all) (λ (log, f). (
      log,
      nothing_beyond log found.count has.member.history (omega (arith, has.many, found.enough)) f,
    ));
  }

-- ---- one entry more

pub parts_at : (history : List HistoryEntry) (i : ℕ) (e : HistoryEntry) → i < length history → e ≡ get_or history i e → history ≡ take i history ++ e ∷ drop (i + 1) history
parts_at history i e within is =
    sym (take-append-drop i history)
    ∙ ap (λ (l : List HistoryEntry). take i history ++ l) (drop_more history i e within ∙ ap (λ (x : HistoryEntry). x ∷ drop (i + 1) history) (sym is))

pub one_more :
    (ids : List ℕ) (history : List HistoryEntry) (count n : ℕ) (first pending new_pending : List ℕ) (e : HistoryEntry)
    → HasGathered ids history count n first pending → n < length history → e ≡ get_or history n e → new_pending ≡ pending ++ record_of (with_id ids e)
    → HasGathered ids history count (n + 1) first new_pending
one_more ids history count n first pending new_pending e g within is pushed =
    let rest : List HistoryEntry = drop count history in
    let there : get_or rest g.many e ≡ e = get_or-drop count history g.many e ∙ ap (λ (i : ℕ). get_or history i e) (sym g.counted) ∙ sym is in
    let longer : take (g.many + 1) rest ≡ take g.many rest ++ e ∷ [] =
    take_more rest g.many e (omega (arith, g.counted, within, length-drop count history)) ∙ ap (λ (x : HistoryEntry). take g.many rest ++ x ∷ []) there in
    record {
      many = g.many + 1;
      within = omega (arith, g.counted, within);
      counted = omega (arith, g.counted);
      records = pushed
          ∙ ap (λ (l : List ℕ). l ++ record_of (with_id ids e)) g.records
          ∙ append_assoc first (records_of ids (take g.many rest)) (record_of (with_id ids e))
          ∙ ap (λ (l : List ℕ). first ++ l)
          (ap (λ (l : List ℕ). records_of ids (take g.many rest) ++ l) (sym (append-nil (record_of (with_id ids e))))
          ∙ sym (flat_map-append record_of (map (with_id ids) (take g.many rest)) (with_id ids e ∷ []))
          ∙ ap (λ (l : List LoggedFields). flat_map record_of l) (sym (map-append (with_id ids) (take g.many rest) (e ∷ [])) ∙ ap (λ (l : List HistoryEntry). map (with_id ids) l) (sym longer)));
    }

pub one_chunk : (pending payload : List ℕ) → payload ≡ pending → 0 < length pending → payload ∷ [] ≡ chunk_of_pending pending
one_chunk [] payload is some = absurd (omega (arith, some))
one_chunk (b ∷ bytes) payload is some = ap (λ (l : List ℕ). l ∷ []) is

-- a log that was resumed is followed on
pub resumed_follows :
    {D : Type 0} (storage : Storage D) (k : KeyFields) (header file : List ℕ) (resumed : ResumedFields) (log : Log D)
    → IsResumed storage k header file resumed log
    → IsFollowingSome storage.is_known storage.seen storage.may_leave log [] (length resumed.member.history)
resumed_follows storage k header file resumed log r = record {
  entries = resumed.member.history;
  counted = refl;
  follows = record {
    header = header;
    ps = r.ps;
    settled = r.settled;
    logged = r.was.records.logged;
    are = sym r.was.records.history;
    records = r.was.records.records ∙ sym (append-nil (flat_map (λ (p : List ℕ). p) r.ps));
  };
}
