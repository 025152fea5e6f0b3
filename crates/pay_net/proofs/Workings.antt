-- What the last worker of all, who has the readers, leaves.
use Rattle.std.proofs.Common.{◌≡◌, ℕ, zero, suc, List, [], ◌∷◌, ◌++◌, length, refl, ap, subst, arith}
use Rattle.std.specs.Prelude.{Vec}
use Rattle.std.specs.Global.{Global}
use Rattle.pay_peers.specs.declared.feeding.PeerReader.{PeerReader}
use Rattle.pay_peers.specs.Growing.{EachGrows}
use Rattle.pay_net.specs.declared.workers.Worker.{Worker}
use Rattle.pay_net.specs.declared.workers.Worker.TheVariants.{Notice, Welcome, Accept, Show, Read}
use Rattle.pay_net.specs.Workers.{AllWorked, EndsInReader, HasWorked}

pub record LastWorked (readers : Vec (ℕ × PeerReader) Global) (new : List Worker) : Type 0 where
  pub others : List Worker
  pub last : Vec (ℕ × PeerReader) Global
  pub is : new ≡ others ++ Read last ∷ []
  pub grown : EachGrows readers.items last.items

one_worked : (readers : Vec (ℕ × PeerReader) Global) (last : Worker) → HasWorked (Read readers) last → LastWorked readers (last ∷ [])
one_worked readers Notice worked = absurd worked
one_worked readers Welcome worked = absurd worked
one_worked readers Accept worked = absurd worked
one_worked readers (Show every) worked = absurd worked
one_worked readers (Read last) worked = record { others = []; last = last; is = refl; grown = worked }

at_end : (readers : Vec (ℕ × PeerReader) Global) (others new : List Worker) → AllWorked (others ++ Read readers ∷ []) new → LastWorked readers new
at_end readers [] [] worked = (let many = worked.many in absurd (omega arith))
at_end readers [] (last ∷ []) worked = one_worked readers last (worked.each zero (Read readers) (omega arith))
at_end readers [] (last ∷ more ∷ new) worked = (let many = worked.many in absurd (omega arith))
at_end readers (other ∷ others) [] worked = (let many = worked.many in absurd (omega arith))
at_end readers (other ∷ others) (first ∷ new) worked =
    let many = worked.many in
    let rest : AllWorked (others ++ Read readers ∷ []) new =
    record { many = omega arith; each = λ k d within. worked.each (suc k) d (omega arith) } in
    let last = at_end readers others new rest in
    record { others = first ∷ last.others; last = last.last; is = ap (λ l. first ∷ l) last.is; grown = last.grown }

pub last_worked : (readers : Vec (ℕ × PeerReader) Global) (others old new : List Worker) → old ≡ others ++ Read readers ∷ [] → AllWorked old new → LastWorked readers new
last_worked readers others old new is worked = at_end readers others new (subst (λ (l : List Worker). AllWorked l new) is worked)

pub ends_in_reader : (readers : Vec (ℕ × PeerReader) Global) (new : List Worker) → LastWorked readers new → EndsInReader new
ends_in_reader readers new worked = record { others = worked.others; readers = worked.last; is = worked.is }

-- ---- the last is one

same_last : (xs ys : List Worker) (a b : Vec (ℕ × PeerReader) Global) → xs ++ Read a ∷ [] ≡ ys ++ Read b ∷ [] → a ≡ b
same_last [] [] a b same = cc
same_last [] (y ∷ []) a b same = absurd cc
same_last [] (y ∷ z ∷ ys) a b same = absurd cc
same_last (x ∷ []) [] a b same = absurd cc
same_last (x ∷ z ∷ xs) [] a b same = absurd cc
same_last (x ∷ xs) (y ∷ ys) a b same = let rest : xs ++ Read a ∷ [] ≡ ys ++ Read b ∷ [] = cc in same_last xs ys a b rest

pub grown_to : (readers last : Vec (ℕ × PeerReader) Global) (new : List Worker) → LastWorked readers new → (others : List Worker) × (new ≡ others ++ Read last ∷ [])
    → EachGrows readers.items last.items
grown_to readers last new worked ends =
    let both : worked.others ++ Read worked.last ∷ [] ≡ ends.0 ++ Read last ∷ [] = (let is = worked.is in let also = ends.1 in cc) in
    let same = same_last worked.others ends.0 worked.last last both in
    subst (λ (v : Vec (ℕ × PeerReader) Global). EachGrows readers.items v.items) same worked.grown
