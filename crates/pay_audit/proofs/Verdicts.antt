-- What the verdict of any exports says.
use Rattle.std.proofs.Common.{◌≡◌, List, Option, Some, None, slice_index, unwrap_or, refl, subst, arith}
use Rattle.std.specs.Option.{option_or}
use Rattle.pay_book.specs.Laws.{LargestIsComputed, LargestIsOne, SettledBookExists}
use Rattle.pay_audit.specs.Export.{ExportFields, IsExport}
use Rattle.pay_audit.specs.Laws.{logs_of}
use Rattle.pay_audit.specs.Said.{CleanIsJudged, Each, IsClean, IsSaid, VerdictIsSaid}
use Rattle.pay_audit.specs.Verdict.{first_from, fork_from, other_genesis, verdict_of, wrong_balance_at, wrong_front_at}
use Rattle.pay_audit.specs.declared.auditing.Verdict.{Verdict}
use Rattle.pay_audit.specs.declared.auditing.Verdict.TheVariants.{Clean, OtherGenesis, WrongFront, WrongBalance, Fork}
use Rattle.pay_audit.proofs.FirstFork.{all_agree, fork_said}
use Rattle.pay_audit.proofs.Saying.{all_alike, all_balances, all_fronts, balance_said, front_said, other_said}

module _ (computed : LargestIsComputed) (single : LargestIsOne) (exists : SettledBookExists) where
  pub verdict_is_said : VerdictIsSaid
  unfolding verdict_of
  verdict_is_said exports sound =
      go (other_genesis exports) (first_from wrong_front_at 0 exports) (first_from wrong_balance_at 0 exports) (fork_from 0 exports) refl refl refl refl where
        go : (o f b k : Option Verdict) → other_genesis exports ≡ o → first_from wrong_front_at 0 exports ≡ f
            → first_from wrong_balance_at 0 exports ≡ b → fork_from 0 exports ≡ k
            → IsSaid exports (unwrap_or (option_or o (option_or (option_or f b) k)) Clean)
        go (Some v) f b k eo ef eb ek = other_said exports v eo
        go None (Some v) b k eo ef eb ek = front_said computed single exists exports sound (all_alike exports eo) v ef
        go None None (Some v) k eo ef eb ek =
            balance_said computed single exists exports sound (all_alike exports eo) (all_fronts computed single exists exports sound ef) v eb
        go None None None (Some v) eo ef eb ek =
            let fronts = all_fronts computed single exists exports sound ef in
            fork_said exports (all_alike exports eo) fronts (all_balances computed single exists exports sound fronts eb) v ek
        go None None None None eo ef eb ek =
            let fronts = all_fronts computed single exists exports sound ef in
            record {
              geneses = all_alike exports eo;
              fronts = fronts;
              balances = all_balances computed single exists exports sound fronts eb;
              lists = all_agree 0 exports ek;
            }

  -- where nothing is wrong, no verdict but Clean says what is so
  only_clean : (exports : List ExportFields) → Each IsExport exports → (v : Verdict) → IsClean exports → IsSaid exports v → v ≡ Clean
  only_clean exports sound Clean clean said = refl
  only_clean exports sound (OtherGenesis x) clean said =
      absurd (said.other (clean.geneses 0 x said.first said.export said.at_first said.at))
  only_clean exports sound (WrongFront x a) clean said =
      let e = said.export in
      absurd (said.wrong.wrong (λ front largest.
      single e.genesis.opening (logs_of e) (slice_index e.front) front (clean.fronts x e said.at) largest a))
  only_clean exports sound (WrongBalance x a) clean said =
      let e = said.export in
      absurd (said.wrong.wrong ((clean.balances x e said.at).exact a (omega (arith, said.wrong.known, (sound x e said.at).genesis.opening))))
  only_clean exports sound (Fork x y a s) clean said =
      let d = said.fork.difference in
      absurd (d.differ (clean.lists x y said.one said.other said.at_one said.at_other a s d.value d.against d.at_one d.at_other))

  pub clean_is_judged : CleanIsJudged
  clean_is_judged exports sound = (
    λ is. subst (IsSaid exports) is (verdict_is_said exports sound),
    λ clean. only_clean exports sound (verdict_of exports) clean (verdict_is_said exports sound),
  )
