-- The trait's clauses, from the step function.
use Rattle.std.proofs.Common.{◌≡◌, ℕ, ◌<◌, Bool, true, false, not, cond, eqb, List, [], ◌∷◌, ◌++◌, map, replicate, Option, None, Some, is_none, is_some, refl, sym, ap, ◌∙◌, subst}
use Rattle.std.specs.List.{range_with_len}
use Rattle.std.proofs.lemmas.List.{get_or-replicate, length-replicate}
use Rattle.std.proofs.lemmas.List.FromFn.{fill_by_all}
use Rattle.pay_echo.specs.Broadcast.{Group, Vote, IsForeign, echoed, echo_of, ready_of, readied}
use Rattle.pay_echo.specs.Meaning.{Meaning, meaning_of, Sees}
use Rattle.pay_echo.specs.Moves.{IsMoves, Foresees}
use Rattle.pay_echo.specs.declared.instance.Moves.{Moves}
use Rattle.pay_echo.specs.Step.{vote_at, vote_before, moves_by, with_moves, with_vote, IsPlaced, after}
use Rattle.pay_echo.specs.Plain.{meaning_by}
use Rattle.pay_echo.proofs.OneMore.{readied-none, delivered-none}
use Rattle.pay_echo.proofs.PlainLemmas.{votes_at_places-none}
use Rattle.pay_echo.proofs.Stepping.{meaning-push, unchanged-IsMoves, with_vote-IsMoves}

-- the meaning before any vote
nobody : (f : ℕ → Option (List ℕ)) (n : ℕ) → ((p : ℕ) → f p ≡ None) → replicate n None ≡ map f (range_with_len 0 n)
nobody f n none = fill_by_all f (replicate n None) n None (length-replicate n None) (λ k below. get_or-replicate n k None None below ∙ sym (none k))

cond-None : (b : Bool) (o : Option (List ℕ)) → o ≡ None → ◌≡◌ {A = Option (List ℕ)} (cond b o None) None
cond-None true o e = e
cond-None false o e = refl

echo_of-none : (g : Group) (p : ℕ) → echo_of g [] p ≡ None
unfolding echo_of echoed
echo_of-none g p = cond-None (eqb p g.own) None refl

ready_of-none : (g : Group) (p : ℕ) → ready_of g [] p ≡ None
unfolding ready_of
ready_of-none g p = cond-None (eqb p g.own) (readied g []) (readied-none g)

pub meaning_of-none : (g : Group) (values : List (List ℕ)) → g.own < g.members → meaning_by g values (replicate g.members None) (replicate g.members None) None ≡ meaning_of g []
unfolding meaning_of echoed
meaning_of-none g values member =
    let blank = votes_at_places-none values g.members in
    let echoes = blank ∙ nobody (echo_of g []) g.members (echo_of-none g) in
    let readys = blank ∙ nobody (ready_of g []) g.members (ready_of-none g) in
    let own = ap (λ votes. vote_at votes g.own) blank ∙ get_or-replicate g.members g.own None None member in
    λ i. record { group = g; echoed = own i; echoes = echoes i; readied = (own ∙ sym (readied-none g)) i; readys = readys i; delivered = sym (delivered-none g) i }

meaning_of-group : (g : Group) (votes : List Vote) → (meaning_of g votes).group ≡ g
unfolding meaning_of
meaning_of-group g votes = refl

after-again : (m : Meaning) (x : Vote) → is_some (vote_before m x) ≡ true → after m x ≡ m
after-again m x e = ap (λ b. cond b (with_vote m x) m) (is_none-not (vote_before m x) e) where
  is_none-not : (o : Option (List ℕ)) → is_some o ≡ true → is_none o ≡ false
  is_none-not o e = ap not e

after-first : (m : Meaning) (x : Vote) → is_some (vote_before m x) ≡ false → after m x ≡ with_vote m x
after-first m x e = ap (λ b. cond (not b) (with_vote m x) m) e

before-none : (o : Option (List ℕ)) → is_some o ≡ false → o ≡ None
before-none None e = refl
before-none (Some v) e = cc

-- a vote, and the meaning after it by the step function
step : (m : Meaning) (x : Vote) → IsPlaced m → IsForeign m.group x → Sees m (after m x) x
step m x placed foreign g votes is =
    let group : m.group ≡ g = ap (λ (n : Meaning). n.group) is ∙ meaning_of-group g votes in
    let Member : Group → Type 0 = λ h. h.own < h.members in
    ap (λ n. after n x) is ∙ sym (meaning-push g votes x (subst Member group placed.own) (subst (λ h. IsForeign h x) group foreign))

pub Sees-again : (m : Meaning) (x : Vote) → IsPlaced m → IsForeign m.group x → is_some (vote_before m x) ≡ true → Sees m m x
Sees-again m x placed foreign again g votes is = sym (after-again m x again) ∙ step m x placed foreign g votes is

pub Sees-first : (m : Meaning) (x : Vote) → IsPlaced m → IsForeign m.group x → is_some (vote_before m x) ≡ false → (new : Meaning) → new ≡ with_vote m x → Sees m new x
Sees-first m x placed foreign first new e g votes is = e ∙ sym (after-first m x first) ∙ step m x placed foreign g votes is

-- what it makes known
pub Foresees-again : (m : Meaning) (x : Vote) → IsPlaced m → IsForeign m.group x → is_some (vote_before m x) ≡ true → Foresees m x (record { echo = false; ready = false; deliver = false })
Foresees-again m x placed foreign again g votes is =
    let P : Meaning → Type 0 = λ n. IsMoves m n (record { echo = false; ready = false; deliver = false }) in
    subst P (Sees-again m x placed foreign again g votes is) (unchanged-IsMoves m)

pub Foresees-first : (m : Meaning) (x : Vote) → IsPlaced m → IsForeign m.group x → is_some (vote_before m x) ≡ false → (moves : Moves) → moves ≡ moves_by m x → Foresees m x moves
Foresees-first m x placed foreign first moves e g votes is =
    let P : Meaning → Type 0 = λ n. IsMoves m n (moves_by m x) in
    let Q : Moves → Type 0 = IsMoves m (meaning_of g (votes ++ x ∷ [])) in
    subst Q (sym e) (subst P (Sees-first m x placed foreign first (with_vote m x) refl g votes is) (with_vote-IsMoves m x (before-none (vote_before m x) first)))

pub foreseen_became : (g : Group) (votes : List Vote) (old new : Meaning) (x : Vote) (moves : Moves) → old ≡ meaning_of g votes → Foresees old x moves → Sees old new x → IsMoves old new moves
foreseen_became g votes old new x moves is told seen =
    let P : Meaning → Type 0 = λ n. IsMoves old n moves in
    subst P (sym (seen g votes is)) (told g votes is)

-- no other moves are foreseen, and so a vote that is written with them is seen
only-IsMoves : (old new : Meaning) (one other : Moves) → IsMoves old new one → IsMoves old new other → one ≡ other
only-IsMoves old new one other is are =
    λ i. record { echo = (is.echo ∙ sym are.echo) i; ready = (is.ready ∙ sym are.ready) i; deliver = (is.deliver ∙ sym are.deliver) i }

pub Sees-told : (m : Meaning) (x : Vote) → IsPlaced m → IsForeign m.group x → is_some (vote_before m x) ≡ false → (moves : Moves) → Foresees m x moves → (new : Meaning) → new ≡ with_moves m x moves → Sees m new x
unfolding with_vote
Sees-told m x placed foreign first moves told new e g votes is =
    let due = Foresees-first m x placed foreign first (moves_by m x) refl g votes is in
    let same = only-IsMoves m (meaning_of g (votes ++ x ∷ [])) moves (moves_by m x) (told g votes is) due in
    Sees-first m x placed foreign first new (e ∙ ap (with_moves m x) same) g votes is
