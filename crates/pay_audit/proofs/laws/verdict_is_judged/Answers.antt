use Rattle.pay_audit.proofs.Verdicts.{clean_is_judged, verdict_is_said}
use Rattle.pay_audit.proofs.laws.verdict_is_judged.Goals as goal

pub returns : goal.returns
returns c =
    let computed = c.largest_is_computed.ensures in
    let single = c.largest_is_one.ensures in
    let exists = c.settled_book_exists.ensures in
    record { said = verdict_is_said computed single exists; clean = clean_is_judged computed single exists }
