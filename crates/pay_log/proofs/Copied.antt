-- A log into which payloads were written one after the other.
use Rattle.std.proofs.Common.{◌≡◌, ℕ, List, [], ◌∷◌, ◌++◌, refl, sym, ap, ◌∙◌, subst, append_assoc, append-nil}
use Rattle.pay_log.specs.declared.log.Copying.{Copying}
use Rattle.pay_log.specs.declared.log.Log.{Log}
use Rattle.pay_log.specs.Chunks.{chunk_of, chunks_of, last_place, next_place}
use Rattle.pay_log.specs.Recovery.{IsCopied}
use Rattle.pay_log.specs.Sinks.{TakesAll}

module _ {D S : Type 0} (is_known : D → Type 0) (seen : D → List ℕ) (takes : S → S → List ℕ → Type 0) where
  abbrev pub Copies : Copying D S → Copying D S → List ℕ → Type 0
  Copies old new p = takes old.sink new.sink p × IsCopied is_known seen old.log new.log p

  -- what the sink took
  pub all_taken : (old new : Copying D S) (ps : List (List ℕ)) → TakesAll Copies old new ps → TakesAll takes old.sink new.sink ps
  all_taken old new [] same = ap (λ (c : Copying D S). c.sink) same
  all_taken old new (p ∷ ps) step = (step.0.sink, step.1.0, all_taken step.0 new ps step.2)

  -- what the log has then
  pub record Grown (old new : Log D) (ps : List (List ℕ)) : Type 0 where
    pub key : new.key ≡ old.key
    pub works : new.failure ≡ old.failure
    pub place : new.place ≡ last_place old.place ps
    pub known : is_known old.device → is_known new.device
    pub grown : is_known old.device → seen new.device ≡ seen old.device ++ chunks_of old.key old.place ps

  pub all_grown : (old new : Copying D S) (ps : List (List ℕ)) → TakesAll Copies old new ps → Grown old.log new.log ps
  all_grown old new [] same = subst (λ (c : Copying D S). Grown old.log c.log []) (sym same) (record {
    key = refl;
    works = refl;
    place = refl;
    known = λ known. known;
    grown = λ known. sym (append-nil (seen old.log.device));
  })
  all_grown old new (p ∷ ps) step =
      let mid : Log D = step.0.log in
      let first : IsCopied is_known seen old.log mid p = step.1.1 in
      let rest : Grown mid new.log ps = all_grown step.0 new ps step.2 in
      record {
        key = rest.key ∙ first.key;
        works = rest.works ∙ first.works;
        place = rest.place ∙ (λ i. last_place (first.place i) ps);
        known = λ known. rest.known (first.known known);
        grown = λ known. rest.grown (first.known known)
            ∙ (λ i. first.grown known i ++ chunks_of (first.key i) (first.place i) ps)
            ∙ append_assoc (seen old.log.device) (chunk_of old.log.key old.log.place p) (chunks_of old.log.key (next_place old.log.place p) ps);
      }
