use Rattle.std.proofs.Common.{◌≡◌, ◌+◌, ◌++◌, ◌<◌, ℕ, suc, List, drop, length, get_or, ap, sym, ◌∙◌, append_assoc, append-nil, arith}
use Rattle.std.proofs.Math.Seq.{drop-cons}
use Rattle.std.proofs.lemmas.List.{drop_all}
use Rattle.pay_book.specs.declared.excerpts.ShownEntry.{ShownEntry}
use Rattle.pay_desk.specs.Words.{entry_words, entries_words}
use Rattle.pay_desk.proofs.wording.push_entries.Goals as goal

-- the words from an entry on begin with its own
words_one_more : (word : List ℕ) (account first k : ℕ) (entries : List ShownEntry) (e : ShownEntry) → k < length entries → e ≡ get_or entries k e
    → entries_words word account (first + k) (drop k entries) ≡ entry_words word account (first + k) e ++ entries_words word account (first + (k + 1)) (drop (k + 1) entries)
unfolding entries_words
words_one_more word account first k entries e below is =
    let next : suc k ≡ k + 1 = omega arith in
    let then : first + k + 1 ≡ first + (k + 1) = omega arith in
    ap (entries_words word account (first + k)) (drop-cons entries k e below)
    ∙ ap (λ (x : ShownEntry). entry_words word account (first + k) x ++ entries_words word account (first + k + 1) (drop (suc k) entries)) (sym is)
    ∙ ap (λ (n : ℕ). entry_words word account (first + k) e ++ entries_words word account (first + k + 1) (drop n entries)) next
    ∙ ap (λ (n : ℕ). entry_words word account (first + k) e ++ entries_words word account n (drop (k + 1) entries)) then

pub loop-k-preserved : goal.loop-k-preserved
loop-k-preserved c =
    let word = c.args.word.now in
    let entries = c.args.entries.now in
    let k = c.loop-k.k in
    let rest = entries_words word c.args.account (c.args.first + (k + 1)) (drop (k + 1) entries) in
    ap (λ words. words ++ rest) c.in_ok-push_entry.ensures
    ∙ append_assoc c.loop-k.out.items _ rest
    ∙ ap (λ words. c.loop-k.out.items ++ words) (sym (words_one_more word c.args.account c.args.first k entries c.index-entries-k.result c.loop-k-test.true c.index-entries-k.is))
    ∙ c.loop-k.invariant

pub returns : goal.returns
unfolding entries_words
returns c =
    sym (append-nil c.loop-k.out.items)
    ∙ ap (λ entries. c.loop-k.out.items ++ entries_words c.args.word.now c.args.account (c.args.first + c.loop-k.k) entries) (sym (drop_all c.loop-k.k c.args.entries.now c.loop-k-test.false))
    ∙ c.loop-k.invariant
