-- One action more after histories as they stand.
use Rattle.std.proofs.Common.{◌≡◌, ◌≢◌, ◌⊎◌, inl, inr, ⊎_elim, ℕ, true, false, not, eqb, ltb, leb, ◌&&◌, List, [], ◌∷◌, ◌++◌, length, slice_get, Some, refl, sym, ap, ◌∙◌, subst, append-nil, ltb-true, leb-true, eqb-true, eq-eqb, ne_eqb}
use Rattle.std.proofs.lemmas.Bool.{cases_eq, cases_Bool, and_parts, and_left, and_right, and_from, not-true, cond-true, cond-false, eqb-false}
use Rattle.pay_frame.specs.declared.limits.TheConstants.{GREATEST_VALUE, SEQS}
use Rattle.pay_frame.specs.declared.body.Kind.{Kind}
use Rattle.pay_frame.specs.declared.body.Kind.TheVariants.{Send, Echo, Ready, Want}
use Rattle.pay_frame.specs.Frame.{BodyFields}
use Rattle.pay_channel.specs.History.{Event, Ask, From, asks, out}
use Rattle.pay_channel.specs.Taken.{next}
use Rattle.pay_world.specs.Setting.{Setting, group_at, IsCorrect, HasFewFaulty}
use Rattle.pay_world.specs.Actions.{Action, Asks, Brings, member_of, event_of, is_want, may_come, counts, adds}
use Rattle.pay_world.specs.Genuine.{IsGenuineIn}
use Rattle.pay_world.specs.Stands.{Stands, IsLonger, IsAllowed}
use Rattle.pay_world.specs.Below.{Below}
use Rattle.pay_world.proofs.StandInduction.{stands_by_one_more}

-- ---- an action that counts may happen

is_no_want : (kind : Kind) → is_want kind ≡ false → kind ≢ Want
is_no_want Send other e = cc
is_no_want Echo other e = cc
is_no_want Ready other e = cc
is_no_want Want other e = cc

ask_is_from : (v : List ℕ) (j : ℕ) (body : BodyFields) → Ask v ≡ From j body → ⊥
ask_is_from v j body e = cc

from_same : (p j : ℕ) (b c : BodyFields) → From p b ≡ From j c → (p ≡ j) × (b ≡ c)
from_same p j b c e = (cc, cc)

counted_is_allowed :
    (w : Setting) (old : ℕ → List Event) (d : Action)
    → counts w (old (member_of d)) d ≡ true → IsGenuineIn w old d
    → IsAllowed w old (member_of d) (event_of d)
counted_is_allowed w old (Asks k v) count genuine =
    let limits = and_parts (leb (length v) GREATEST_VALUE) (ltb (asks (old k)) SEQS) count in
    record {
      proper = λ ck. leb-true (length v) GREATEST_VALUE limits.0;
      genuine = λ j body ck cj e. absurd (ask_is_from v j body e);
    }
counted_is_allowed w old (Brings k from number body) count genuine =
    let both = and_parts (may_come w k from body) (eqb number (next from (old k))) count in
    let kind = and_parts (ltb from w.members && not (eqb from k) && ltb body.owner w.members) (not (is_want body.kind)) both.0 in
    let owner = and_parts (ltb from w.members && not (eqb from k)) (ltb body.owner w.members) kind.0 in
    let sender = and_parts (ltb from w.members) (not (eqb from k)) owner.0 in
    record {
      proper = λ ck. (
        ltb-true from w.members sender.0,
        eqb-false from k (not-true (eqb from k) sender.1),
        ltb-true body.owner w.members owner.1,
        is_no_want body.kind (not-true (is_want body.kind) kind.1),
      );
      genuine = λ j c ck cj e.
          let same = from_same from j body c e in
          let At : ℕ → Type 0 = λ q. IsCorrect w q → slice_get (out (group_at w q) (old q)) (next q (old k)) ≡ Some body in
          let here : At from = λ cf.
          subst (λ n. slice_get (out (group_at w from) (old from)) n ≡ Some body)
          (eqb-true number (next from (old k)) both.1) (genuine ck cf) in
          subst At same.0 here cj ∙ ap Some same.1;
    }

adds-none : (w : Setting) (i : ℕ) (history : List Event) (d : Action) → (eqb (member_of d) i && counts w history d) ≡ false → adds w i history d ≡ []
adds-none w i history d unheard = cond-false (eqb (member_of d) i && counts w history d) (event_of d ∷ []) [] unheard

-- an action adds nothing to another's history
pub adds-elsewhere : (w : Setting) (i : ℕ) (history : List Event) (d : Action) → i ≢ member_of d → adds w i history d ≡ []
adds-elsewhere w i history d differs =
    adds-none w i history d (and_left (eqb (member_of d) i) (counts w history d) (ne_eqb (member_of d) i (λ same. differs (sym same))))

-- nor to one's own where it isn't taken
pub adds-uncounted : (w : Setting) (i : ℕ) (history : List Event) (d : Action) → counts w history d ≡ false → adds w i history d ≡ []
adds-uncounted w i history d ignored = adds-none w i history d (and_right (eqb (member_of d) i) (counts w history d) ignored)

-- where it is, its event
pub adds-counted : (w : Setting) (i : ℕ) (history : List Event) (d : Action) → member_of d ≡ i → counts w history d ≡ true → adds w i history d ≡ event_of d ∷ []
adds-counted w i history d here count =
    cond-true (eqb (member_of d) i && counts w history d) (event_of d ∷ []) [] (and_from (eqb (member_of d) i) (counts w history d) (eq-eqb (member_of d) i here) count)

-- ---- one genuine action more

pub stands_by_action :
    (below : Below) (w : Setting) (few : HasFewFaulty w) (old new : ℕ → List Event) (d : Action)
    → IsGenuineIn w old d → ((i : ℕ) → new i ≡ old i ++ adds w i (old i) d) → Stands w old → Stands w new
stands_by_action below w few old new d genuine grown stands = ⊎_elim counted uncounted (cases_Bool (counts w (old k) d)) where
  k : ℕ
  k = member_of d

  counted : counts w (old k) d ≡ true → Stands w new
  counted count =
      let longer : IsLonger old new k (event_of d) = record {
        here = grown k ∙ ap (λ l. old k ++ l) (adds-counted w k (old k) d refl count);
        others = λ i differs. grown i ∙ ap (λ l. old i ++ l) (adds-elsewhere w i (old i) d differs) ∙ append-nil (old i);
      } in
      stands_by_one_more below w old new k (event_of d) longer few (counted_is_allowed w old d count genuine) stands

  uncounted : counts w (old k) d ≡ false → Stands w new
  uncounted ignored = subst (Stands w) (λ t i. unchanged i t) stands where
    unchanged : (i : ℕ) → old i ≡ new i
    unchanged i = sym (grown i ∙ ap (λ l. old i ++ l) (nothing (cases_eq i k)) ∙ append-nil (old i)) where
      nothing : ((i ≡ k) ⊎ (i ≢ k)) → adds w i (old i) d ≡ []
      nothing (inr differs) = adds-elsewhere w i (old i) d differs
      nothing (inl same) = adds-uncounted w i (old i) d (ap (λ j. counts w (old j) d) same ∙ ignored)
