-- What is shown of a world after the events of a script.
use Rattle.std.proofs.Common.{◌≡◌, inl, inr, ◌↔◌, ℕ, ◌+◌, Bool, true, false, List, [], ◌∷◌, ◌++◌, Some, None, Result, Ok, Err, OnOk, refl, sym, ap, ◌∙◌, subst, arith, append_assoc, append-nil, codes, map}
use Rattle.std.specs.List.{flat_map, range_with_len}
use Rattle.std.proofs.lemmas.List.Concat.{flat_map-append}
use Rattle.std.proofs.lemmas.List.FromFn.{map-range_with_len_more}
use Rattle.std.proofs.lemmas.List.{map-id}
use Rattle.pay_channel.specs.History.{Event}
use Rattle.pay_link.specs.Genesis.{GenesisFields}
use Rattle.pay_member.specs.Book.{book_after}
use Rattle.pay_member.specs.Member.{MemberFields}
use Rattle.pay_world.specs.declared.event.WorldEvent.{WorldEvent}
use Rattle.pay_world.specs.Convergence.{AllTaken}
use Rattle.pay_world.specs.Liars.{LiarFields, setting_of}
use Rattle.pay_world.specs.World.{IsWorld, member_in, setting_in, history_in}
use Rattle.pay_sim.specs.declared.group.ScriptGroup.{ScriptGroup}
use Rattle.pay_sim.specs.Words.{shown_book, member_words}
use Rattle.pay_sim.specs.Made.{history_at, is_there}
use Rattle.pay_sim.specs.Script.{IsConverged, shown_member, with_feed}
use Rattle.pay_sim.specs.Playing.{GameFields, IsAfter}
use Rattle.pay_sim.proofs.Knowing.{known, leaves, takes, there_none, there_some}

pub on_ok : {T E : Type 0} (r : Result T E) (P Q : Type 0) → (P → Q) → OnOk r P → OnOk r Q
on_ok (Ok x) P Q f p = f p
on_ok (Err e) P Q f p = tt

-- ---- whether all is taken

module _ (c : ScriptGroup) (es : List WorldEvent) (g : GameFields) (b : IsAfter c es g) where
  to_script : AllTaken (setting_in g.world) (history_in g.world) → AllTaken (setting_of c.liars) (history_at c es)
  to_script all =
      subst (λ (l : LiarFields). AllTaken (setting_of l) (history_at c es)) b.after.liars
      (subst (λ (h : ℕ → List Event). AllTaken (setting_in g.world) h) (λ t i. b.after.histories i t) all)

  to_world : AllTaken (setting_of c.liars) (history_at c es) → AllTaken (setting_in g.world) (history_in g.world)
  to_world all =
      subst (λ (h : ℕ → List Event). AllTaken (setting_in g.world) h) (sym (λ t i. b.after.histories i t))
      (subst (λ (l : LiarFields). AllTaken (setting_of l) (history_at c es)) (sym b.after.liars) all)

  false_true : false ≡ true → ⊥
  false_true same = cc

  pub converged : (r : Bool) → ((r ≡ true) ↔ AllTaken (setting_in g.world) (history_in g.world)) → r ≡ true → IsConverged c es (with_feed (codes "converged"))
  converged r exact is = inl (to_script (exact.0 is), refl)

  pub not_converged : (r : Bool) → ((r ≡ true) ↔ AllTaken (setting_in g.world) (history_in g.world)) → r ≡ false → IsConverged c es []
  not_converged r exact is = inr ((λ all. false_true (sym is ∙ exact.1 (to_world all))), refl)

-- ---- books

module _ (c : ScriptGroup) (es : List WorldEvent) (g : GameFields) (b : IsAfter c es g) (world : IsWorld g.world) where
  pub shown_some : (i : ℕ) (m : MemberFields) → member_in g.world i ≡ Some m → with_feed (member_words m.genesis.members i (shown_book m)) ≡ shown_member c es i
  shown_some i m is =
      known c es g b world (λ (x : GenesisFields) (own : ℕ) (h : List Event). with_feed (member_words x.members i (book_after x own h))) i m is
      ∙ sym (takes (is_there c i) _ _ (there_some c es g b world i m is))

  pub shown_none : (i : ℕ) → member_in g.world i ≡ None → [] ≡ shown_member c es i
  shown_none i is = sym (leaves (is_there c i) _ _ (there_none c es g b world i is))

-- ---- all of them

range_more : (n : ℕ) → range_with_len 0 (n + 1) ≡ range_with_len 0 n ++ n ∷ []
range_more n =
    let same : (m : ℕ) → map (λ (k : ℕ). k) (range_with_len 0 m) ≡ range_with_len 0 m = λ m. map-id (range_with_len 0 m) in
    sym (same (n + 1)) ∙ map-range_with_len_more (λ (k : ℕ). k) 0 n n (omega arith) ∙ ap (λ xs. xs ++ n ∷ []) (same n)

pub shown_more : (c : ScriptGroup) (es : List WorldEvent) (i : ℕ) (before now new : List ℕ) → now ≡ before ++ flat_map (shown_member c es) (range_with_len 0 i)
    → new ≡ now ++ shown_member c es i → new ≡ before ++ flat_map (shown_member c es) (range_with_len 0 (i + 1))
shown_more c es i before now new so_far one =
    one ∙ ap (λ (xs : List ℕ). xs ++ shown_member c es i) so_far
    ∙ append_assoc before (flat_map (shown_member c es) (range_with_len 0 i)) (shown_member c es i)
    ∙ ap (λ (xs : List ℕ). before ++ xs)
    (sym (ap (flat_map (shown_member c es)) (range_more i) ∙ flat_map-append (shown_member c es) (range_with_len 0 i) (i ∷ [])
    ∙ ap (λ (xs : List ℕ). flat_map (shown_member c es) (range_with_len 0 i) ++ xs) (append-nil (shown_member c es i))))
