use Rattle.std.proofs.Common.{◌≡◌, ◌≤◌, ◌++◌, take, ap, ◌∙◌, sym, subst, arith, slice_index, length, List, ℕ}
use Rattle.std.specs.List.{flat_map, filter_map, range_with_len}
use Rattle.std.specs.Prelude.{Option}
use Rattle.pay_book.specs.declared.payment.Entry.{Entry}
use Rattle.pay_book.specs.declared.line.Line.{Line}
use Rattle.pay_book.specs.Payment.{entries_of}
use Rattle.pay_book.specs.Book.{entries_for}
use Rattle.pay_book.specs.Statement.{numbered_entries_of, incoming_line, own_lines, incoming_lines, statement_of}
use Rattle.pay_book.proofs.Reaching.{Reach-within}
use Rattle.pay_book.proofs.Lines.{flat_map_more_owner}
use Rattle.pay_book.proofs.statements.statement.Goals as goal

pub push_own-requires : goal.push_own-requires
push_own-requires g c =
    let lists = g.S.Source.lists c.args.source.now in
    let book = g.B.Settle.shows c.args.book.now in
    let within : ℕ → Type 0 = λ accounts. slice_index book.front c.args.account ≤ length (entries_of accounts lists c.args.account) in
    let here = subst within (sym c.requires.accounts) (Reach-within book.opening (entries_for book lists) c.requires.book.reached c.args.account) in
    omega (arith, here, c.front.ensures)

pub push_incoming-requires : goal.push_incoming-requires
push_incoming-requires g c =
    let lists = g.S.Source.lists c.args.source.now in
    let book = g.B.Settle.shows c.args.book.now in
    let within : ℕ → Type 0 = λ accounts. slice_index book.front c.loop-owner.owner ≤ length (entries_of accounts lists c.loop-owner.owner) in
    let here = subst within (sym c.requires.accounts) (Reach-within book.opening (entries_for book lists) c.requires.book.reached c.loop-owner.owner) in
    omega (arith, here, c.front-in-loop-owner.ensures)

pub loop-owner-preserved : goal.loop-owner-preserved
loop-owner-preserved g c =
    let lists = g.S.Source.lists c.args.source.now in
    let front = slice_index (g.B.Settle.shows c.args.book.now).front in
    let owner = c.loop-owner.owner in
    let own = own_lines c.args.accounts lists front c.args.account in
    let line : ℕ × Entry → Option Line = λ e. incoming_line c.args.account owner e.0 e.1 in
    let before : ℕ → List Line = λ place. filter_map line (take place (numbered_entries_of c.args.accounts lists owner)) in
    flat_map_more_owner own (incoming_lines c.args.accounts lists front c.args.account) owner
    c.loop-owner.lines.items c.push_incoming.new.lines.items (before c.front-in-loop-owner.result)
    c.loop-owner.invariant c.in_ok-push_incoming.ensures (ap before c.front-in-loop-owner.ensures)

pub returns : goal.returns
unfolding statement_of
returns g c =
    let lists = g.S.Source.lists c.args.source.now in
    let front = slice_index (g.B.Settle.shows c.args.book.now).front in
    let all : c.loop-owner.owner ≡ c.args.accounts = (let last = c.loop-owner.auto.owner-end in omega arith) in
    c.loop-owner.invariant
    ∙ ap (λ n. own_lines c.args.accounts lists front c.args.account ++ flat_map (incoming_lines c.args.accounts lists front c.args.account) (range_with_len 0 n)) all
