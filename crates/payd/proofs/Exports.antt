-- Exports that are read one after the other.
use Rattle.std.proofs.Common.{◌≡◌, ◌+◌, ◌<◌, ℕ, Bor, List, [], ◌∷◌, ◌++◌, drop, get_or, length, map, refl, sym, ap, subst, append_assoc, append-nil, arith}
use Rattle.std.proofs.lemmas.List.{drop_more}
use Rattle.std.specs.List.{AllZip}
use Rattle.pay_audit.specs.Auditor.{HasTakenExports}
use Rattle.pay_audit.specs.Export.{ExportFields}
use Rattle.pay_audit.specs.declared.auditor.Auditor.{Auditor}
use Rattle.payd.specs.Files.{IsExportOf, IsExportStop, IsExportsStop}
use Rattle.payd.specs.declared.stop.Stop.{Stop}

module _ (holds : List ℕ → List ℕ → Type 0) where
  pub at_once : (name : List ℕ) (others : List (List ℕ)) (stop : Stop) → IsExportStop holds name stop → IsExportsStop holds (name ∷ others) stop
  at_once name others stop stopped = record {
    first = [];
    name = name;
    others = others;
    parts = refl;
    exports = [];
    read = tt;
    stopped = stopped;
  }

  pub later : (name : List ℕ) (others : List (List ℕ)) (stop : Stop) (e : ExportFields) → IsExportOf holds name e → IsExportsStop holds others stop → IsExportsStop holds (name ∷ others) stop
  later name others stop e is s = record {
    first = name ∷ s.first;
    name = s.name;
    others = s.others;
    parts = ap (λ ns. name ∷ ns) s.parts;
    exports = e ∷ s.exports;
    read = (is, s.read);
    stopped = s.stopped;
  }

-- what comes of the names that are left is what comes of all
pub record IsReading (holds : List ℕ → List ℕ → Type 0) (names left : List (List ℕ)) (exports : List ExportFields) : Type 0 where
  pub reads : (rest : List ExportFields) → AllZip (IsExportOf holds) left rest → AllZip (IsExportOf holds) names (exports ++ rest)
  pub stops : (stop : Stop) → IsExportsStop holds left stop → IsExportsStop holds names stop

module _ (holds : List ℕ → List ℕ → Type 0) (names : List (List ℕ)) where
  one_more : (name : List ℕ) (left : List (List ℕ)) (exports : List ExportFields) (e : ExportFields) → IsReading holds names (name ∷ left) exports → IsExportOf holds name e → IsReading holds names left (exports ++ e ∷ [])
  one_more name left exports e r is = record {
    reads = λ rest all. subst (AllZip (IsExportOf holds) names) (sym (append_assoc exports (e ∷ []) rest)) (r.reads (e ∷ rest) (is, all));
    stops = λ stop s. r.stops stop (later holds name left stop e is s);
  }

  all_read : (exports : List ExportFields) → IsReading holds names [] exports → AllZip (IsExportOf holds) names exports
  all_read exports r = subst (AllZip (IsExportOf holds) names) (append-nil exports) (r.reads [] tt)

-- the texts that names lend
abbrev pub texts : List (Bor (List ℕ)) → List (List ℕ)
texts names = map (λ (name : Bor (List ℕ)). name.now) names

-- some name of a list
pub some_name : (names : List (Bor (List ℕ))) (i : ℕ) → i < length names → Bor (List ℕ)
some_name [] i lt = absurd (omega arith)
some_name (name ∷ names) i lt = name

-- at a name
module _ (holds : List ℕ → List ℕ → Type 0) (names : List (Bor (List ℕ))) (i : ℕ) (d : Bor (List ℕ)) (exports : List ExportFields)
    (lt : i < length names) (r : IsReading holds (texts names) (texts (drop i names)) exports) where
  here : IsReading holds (texts names) ((get_or names i d).now ∷ texts (drop (i + 1) names)) exports
  here = subst (λ left. IsReading holds (texts names) (texts left) exports) (drop_more names i d lt) r

  pub stops_at : (stop : Stop) → IsExportStop holds (get_or names i d).now stop → IsExportsStop holds (texts names) stop
  stops_at stop s = here.stops stop (at_once holds (get_or names i d).now (texts (drop (i + 1) names)) stop s)

  pub goes_on : (e : ExportFields) → IsExportOf holds (get_or names i d).now e → IsReading holds (texts names) (texts (drop (i + 1) names)) (exports ++ e ∷ [])
  goes_on e is = one_more holds (texts names) (get_or names i d).now (texts (drop (i + 1) names)) exports e here is

-- behind the last
pub at_end : (holds : List ℕ → List ℕ → Type 0) (names left : List (Bor (List ℕ))) (exports : List ExportFields) → left ≡ []
    → IsReading holds (texts names) (texts left) exports → AllZip (IsExportOf holds) (texts names) exports
at_end holds names left exports none r =
    all_read holds (texts names) exports (subst (λ ns. IsReading holds (texts names) (texts ns) exports) none r)

-- an auditor has taken the exports that were read, one for each of the first names
pub record IsAuditing (holds : List ℕ → List ℕ → Type 0) (names left : List (List ℕ)) (count : ℕ) (auditor : Auditor) : Type 0 where
  pub exports : List ExportFields
  pub reading : IsReading holds names left exports
  pub taken : HasTakenExports exports auditor
  pub each : length exports ≡ count
