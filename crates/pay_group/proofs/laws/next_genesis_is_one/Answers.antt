use Rattle.std.proofs.Common.{◌≡◌, ◌<◌, ◌≤◌, pos, slice_index, sum, ap, sym, subst, ◌∙◌}
use Rattle.pay_book.specs.Balance.{balance_at}
use Rattle.pay_link.specs.declared.limits.TheConstants.{GREATEST_TOTAL}
use Rattle.pay_audit.specs.Export.{lists_of}
use Rattle.pay_audit.specs.Laws.{logs_of}
use Rattle.pay_audit.specs.Verdict.{book_of}
use Rattle.pay_group.proofs.laws.next_genesis_is_one.Goals as goal

pub returns : goal.returns
returns c = λ exports b book.
    let settled = c.settled_book_exists.ensures b.genesis.opening (lists_of b) in
    let total : sum b.balances ≡ sum b.genesis.opening = ap sum book.book.balances ∙ c.book_keeps_total.ensures (lists_of b) (book_of b) settled.is in
    let sound = book.is_export in
    record {
      genesis = record {
        some = sound.genesis.some;
        few = sound.genesis.few;
        honest = sound.genesis.honest;
        opening = sound.balances;
        total = subst (λ t. t ≤ GREATEST_TOTAL) (sym total) sound.genesis.total;
      };
      total = total;
      openings = λ account known.
          (ap (λ balances. pos (slice_index balances account)) book.book.balances
          ∙ settled.is.are.exact account (subst (λ n. account < n) (sym sound.genesis.opening) known)
          ∙ ap (λ front. balance_at b.genesis.opening (logs_of b) (slice_index front) account) (sym book.book.front));
    }
