-- Why a file isn't what it should be, with its name.
use Rattle.std.proofs.Common.{◌≡◌, ◌⊎◌, ℕ, List, Result, Err, Bor, inl, inr, refl, sym, ap}
use Rattle.payd.specs.Files.{IsStop}
use Rattle.payd.specs.declared.stop.Stop.{Stop}

-- refused memory
abbrev pub refused : {X E : Type 0} → E → Result X E
refused memory = Err memory

-- a fault that is the judge's, or refused memory
pub fault_said : {X E : Type 0} (holds : List ℕ → List ℕ → Type 0) (name : Bor (List ℕ)) (judge : List ℕ → Result X E) (said : E → Bor (List ℕ) → Stop) (memory fault : E) (bytes : List ℕ)
    → holds name.now bytes → (Err fault ≡ judge bytes) ⊎ (Err fault ≡ refused {X = X} memory) → IsStop holds name.now judge said memory (said fault name)
fault_said holds name judge said memory fault bytes held (inl is) = inr (inr (fault, (name, refl, refl), (bytes, held, sym is)))
fault_said {X} {E} holds name judge said memory fault bytes held (inr is) =
    let same : fault ≡ memory = cc in
    inr (inl (name, refl, ap (λ (f : E). said f name) same))
