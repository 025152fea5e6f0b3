use Rattle.std.proofs.Common.{◌≡◌, ◌+◌, ℕ, List, length, ap, ◌∙◌, subst, length-append}
use Rattle.pay_log.specs.Device.{Torn}
use Rattle.pay_log.proofs.Kept.{elapses_to, torn_more}
use Rattle.pay_log.proofs.device.LossyFileDevice.append.Goals as goal

pub returns-clause-crash : goal.returns-clause-crash
returns-clause-crash c known file left =
    let old = c.args.self.now in
    let n : ℕ = length old.unsynced.items in
    let m : ℕ = length c.args.bytes.now in
    let long : length c.in-Ok.next.items ≡ n + m =
    ap length c.in-Ok.ensures ∙ length-append c.deref.result.now c.args.bytes.now ∙ ap (λ (l : List ℕ). length l + m) c.deref.ensures.value in
    torn_more n m old.synced.items file (subst (λ (k : ℕ). Torn k old.synced.items file) long left)

pub returns-clause-time : goal.returns-clause-time
returns-clause-time c known =
    let old = c.args.self.now in
    let left = c.in-Ok-may_leave.left in
    elapses_to old.past.items c.push.new.self.items left old.synced.items (length old.unsynced.items) (λ f. Torn (length c.in-Ok.next.items) old.synced.items f)
    c.in-Ok-may_leave.ensures.0 c.in-Ok-may_leave.ensures.1 c.in-Ok-push.ensures.items
