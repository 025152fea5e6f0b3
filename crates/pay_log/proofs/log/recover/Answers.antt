use Rattle.std.proofs.Common.{◌≡◌, ◌++◌, ℕ, List, length, rules, sym, ◌∙◌, subst}
use Rattle.pay_log.specs.Chunks.{chunks_of, last_place}
use Rattle.pay_log.specs.Headers.{header_bytes}
use Rattle.pay_log.specs.Logs.{IsLog, log_bytes}
use Rattle.pay_log.proofs.Copied.{all_grown, all_taken}
use Rattle.pay_log.proofs.Found.{read_sound}
use Rattle.pay_log.proofs.log.recover.Goals as goal

pub returns-in_err-len-clause-illegal : goal.returns-in_err-len-clause-illegal
returns-in_err-len-clause-illegal g c number said known =
    let log = c.in_err-len.ensures.illegal number (search (rules, said)) known in
    let refused = log.refused in
    record {
      headed = log.headed;
      refused = record {
        before = refused.before;
        payload = refused.payload;
        at = refused.at.sink;
        stands = refused.stands;
        taken = all_taken g.D.Device.is_known g.D.Device.seen g.S.Sink.takes _ refused.at refused.before refused.taken;
        refused = refused.refused;
      };
    }

pub returns-clause-fed : goal.returns-clause-fed
returns-clause-fed g c =
    let fed = c.in_ok-len.ensures.fed in
    (fed.0, all_taken g.D.Device.is_known g.D.Device.seen g.S.Sink.takes _ c.read_log.new.sink fed.0 fed.1)

pub returns-clause-key : goal.returns-clause-key
returns-clause-key g c =
    let fed = c.in_ok-len.ensures.fed in
    (all_grown g.D.Device.is_known g.D.Device.seen g.S.Sink.takes _ c.read_log.new.sink fed.0 fed.1).key ∙ c.in_ok-log.ensures.key

pub returns-clause-undamaged : goal.returns-clause-undamaged
returns-clause-undamaged g c known count damaged =
    read_sound _ c.args.key.now (header_bytes c.args.header.now) (g.D.Device.seen c.args.old.now) _ c.read_log.new.sink c.in_ok-len.len count (c.in_ok-len.ensures.read known) damaged

pub returns-clause-recovered : goal.returns-clause-recovered
unfolding log_bytes
returns-clause-recovered g c known known_new empty =
    let read = c.in_ok-len.ensures.read known in
    let log_1 = c.read_log.new.sink.log in
    let header : List ℕ = header_bytes c.args.header.now in
    let file : List ℕ = g.D.Device.seen c.args.old.now in
    let begun = c.in_ok-log.ensures.begun known_new empty in
    let grown = all_grown g.D.Device.is_known g.D.Device.seen g.S.Sink.takes _ c.read_log.new.sink read.ps read.taken in
    let key : c.args.key.now ≡ log_1.key = sym (grown.key ∙ c.in_ok-log.ensures.key) in
    let known_1 = grown.known begun.known in
    record {
      ps = read.ps;
      was = subst (λ (k : List ℕ). IsLog k header file read.ps) key read.log;
      size = read.size ∙ (λ i. length (log_bytes (key i) header read.ps));
      taken = all_taken g.D.Device.is_known g.D.Device.seen g.S.Sink.takes _ c.read_log.new.sink read.ps read.taken;
      settled = record {
        works = grown.works ∙ c.in_ok-log.ensures.works;
        known = c.sync.ensures.known known_1;
        short = read.log.short;
        file = c.sync.ensures.seen known_1 ∙ grown.grown begun.known
            ∙ (λ i. begun.is i ++ chunks_of (sym grown.key i) (c.in_ok-log.ensures.place i) read.ps);
        place = grown.place ∙ (λ i. last_place (c.in_ok-log.ensures.place i) read.ps);
        durable = λ f left. c.in_ok-sync.ensures.durable known_1 f left ∙ sym (c.sync.ensures.seen known_1);
      };
    }
