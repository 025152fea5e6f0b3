-- One more moment joins those at which a file might have been left.
use Rattle.std.proofs.Common.{◌≡◌, ◌⊎◌, inl, inr, ⊎_elim, ℕ, zero, suc, ◌+◌, ◌≤◌, List, [], ◌∷◌, ◌++◌, length, take, drop, refl, sym, ap, ◌∙◌, subst, arith, append_assoc, length-append, take-append-drop}
use Rattle.std.proofs.lemmas.List.{length-take, length-drop}
use Rattle.pay_log.specs.declared.device.Left.{Left}
use Rattle.pay_log.specs.Device.{Elapses, Follows, Torn}
use Rattle.pay_log.specs.Lossy.{HadBeen}

keeps : (past : List Left) (v : Left) (c : List ℕ) → HadBeen past c → HadBeen (past ++ v ∷ []) c
keeps [] v c had = absurd had
keeps (p ∷ past) v c (inl here) = inl here
keeps (p ∷ past) v c (inr there) = inr (keeps past v c there)

adds : (past : List Left) (v : Left) (c : List ℕ) → HadBeen (past ++ v ∷ []) c → HadBeen past c ⊎ Torn v.unsynced_len v.synced.items c
adds [] v c (inl here) = inr here
adds [] v c (inr none) = absurd none
adds (p ∷ past) v c (inl here) = inl (inl here)
adds (p ∷ past) v c (inr there) = ⊎_elim (λ had. inl (inr had)) (λ new. inr new) (adds past v c there)

newest : (past : List Left) (v : Left) (c : List ℕ) → Torn v.unsynced_len v.synced.items c → HadBeen (past ++ v ∷ []) c
newest [] v c is = inl is
newest (p ∷ past) v c is = inr (newest past v c is)

drop_push : (t : ℕ) (past : List Left) (v : Left) → t ≤ length past → drop t (past ++ v ∷ []) ≡ drop t past ++ v ∷ []
drop_push zero past v le = refl
drop_push (suc t) [] v le = absurd (omega arith)
drop_push (suc t) (p ∷ past) v le = drop_push t past v (omega arith)

-- what a crash since t might have left
abbrev Since : List Left → (List ℕ → Type 0) → ℕ → List ℕ → Type 0
Since past now t c = now c ⊎ HadBeen (drop t past) c

elapses_push :
    (past : List Left) (v : Left) (old new : List ℕ → Type 0) → ((c : List ℕ) → old c → Torn v.unsynced_len v.synced.items c)
    → ((c : List ℕ) → Torn v.unsynced_len v.synced.items c → old c)
    → Elapses (length past) (length (past ++ v ∷ [])) (Since past old) (Since (past ++ v ∷ []) new) new
elapses_push past v old new to from = record {
  later = omega (arith, length-append past (v ∷ []));
  nothing_else = λ t c le left. ⊎_elim (λ now. inr now) (λ had. inl (was t c (adds (drop t past) v c (subst (λ (l : List Left). HadBeen l c) (drop_push t past v le) had)))) left;
  keeps = λ t c le left. inr (subst (λ (l : List Left). HadBeen l c) (sym (drop_push t past v le)) (⊎_elim (λ now. newest (drop t past) v c (to c now)) (keeps (drop t past) v c) left));
}
  where
    was : (t : ℕ) (c : List ℕ) → HadBeen (drop t past) c ⊎ Torn v.unsynced_len v.synced.items c → Since past old t c
    was t c (inl had) = inr had
    was t c (inr new) = inl (from c new)

-- of a file whose last moment is kept
pub elapses_to :
    (past later : List Left) (v : Left) (synced : List ℕ) (n : ℕ) (new : List ℕ → Type 0) → v.synced.items ≡ synced → v.unsynced_len ≡ n → later ≡ past ++ v ∷ []
    → Elapses (length past) (length later) (Since past (λ c. Torn n synced c)) (Since later new) new
elapses_to past later v synced n new is long same =
    subst (λ (l : List Left). Elapses (length past) (length l) (Since past (λ c. Torn n synced c)) (Since l new) new) (sym same)
    (elapses_push past v (λ c. Torn n synced c) new
    (λ c left. subst (λ (m : ℕ). Torn m v.synced.items c) (sym long) (subst (λ (s : List ℕ). Torn n s c) (sym is) left))
    (λ c left. subst (λ (s : List ℕ). Torn n s c) is (subst (λ (m : ℕ). Torn m v.synced.items c) long left)))

-- what is left of more bytes is left of those before, and then of the others
pub torn_more : (n m : ℕ) (synced : List ℕ) → Follows (Torn m) (λ c. Torn n synced c) (λ c. Torn (n + m) synced c)
torn_more n m synced c left = (
  synced ++ take n left.tail,
  record { tail = take n left.tail; is = refl; no_longer = omega (arith, length-take n left.tail) },
  record {
    tail = drop n left.tail;
    is = left.is ∙ ap (λ (l : List ℕ). synced ++ l) (sym (take-append-drop n left.tail)) ∙ sym (append_assoc synced (take n left.tail) (drop n left.tail));
    no_longer = omega (arith, length-drop n left.tail, left.no_longer);
  },
)
