-- Ids under their numbers, as a list of them grows at its end or is overwritten.
use Rattle.std.proofs.Common.{◌≡◌, ◌≢◌, ℕ, ◌<◌, zero, suc, List, [], ◌∷◌, ◌++◌, length, set, refl, sym, ap, ◌∙◌}
use Rattle.std.proofs.Math.Seq.{get_or-append_seam}
use Rattle.std.proofs.lemmas.List.{get_or-set_same, get_or-set_other}
use Rattle.pay_durable.specs.Following.{HasSameIds, NotesId, id_of}

-- one id more changes none under another number
others_stay : (ids : List ℕ) (id seq : ℕ) → seq ≢ length ids → id_of (ids ++ id ∷ []) seq ≡ id_of ids seq
others_stay [] id zero other = absurd (other refl)
others_stay [] id (suc seq) other = refl
others_stay (i ∷ ids) id zero other = refl
others_stay (i ∷ ids) id (suc seq) other = others_stay ids id seq (λ same. other (ap suc same))

-- a 0 more changes none
pub zero_more : (ids : List ℕ) → HasSameIds ids (ids ++ 0 ∷ [])
zero_more [] zero = refl
zero_more [] (suc seq) = refl
zero_more (i ∷ ids) zero = refl
zero_more (i ∷ ids) (suc seq) = zero_more ids seq

pub noted_at_the_end : (old filled : List ℕ) (seq id : ℕ) → HasSameIds old filled → length filled ≡ seq → NotesId old seq id (filled ++ id ∷ [])
noted_at_the_end old filled seq id same many = record {
  under = ap (λ (n : ℕ). id_of (filled ++ id ∷ []) n) (sym many) ∙ get_or-append_seam filled id [] 0;
  others = λ other apart. others_stay filled id other (λ at. apart (at ∙ many)) ∙ same other;
}

pub noted_in_place : (old : List ℕ) (seq id : ℕ) → seq < length old → NotesId old seq id (set old seq id)
noted_in_place old seq id within = record {
  under = get_or-set_same old seq id 0 within;
  others = λ other apart. get_or-set_other old seq other id 0 apart;
}
