use Rattle.std.proofs.Common.{arith, length, ◌≡◌, ◌++◌, ◌∷◌, [], ℕ, List, sym, ap, ◌∙◌}
use Rattle.pay_log.specs.Chunks.{chunk_of}
use Rattle.pay_log.specs.Logs.{IsWithOrWithout, end_place, log_bytes}
use Rattle.pay_log.proofs.Chunks.{length-chunk}
use Rattle.pay_log.proofs.Logs.{all_push, last_place-push, log-push}
use Rattle.pay_log.specs.Damage.{IsByChance, IsDamaged}
use Rattle.pay_log.proofs.Crash.{at_rest, behind, behind_damage, rest_damage}
use Rattle.pay_log.proofs.Moments.{started, goes_on}
use Rattle.pay_log.proofs.log.Log.append.Goals as goal

pub returns-in_err-chunk-clause-any_moment : goal.returns-in_err-chunk-clause-any_moment
returns-in_err-chunk-clause-any_moment g c header ps s =
    let P = IsWithOrWithout c.args.self.now.key header ps c.args.payload.now in
    started g.D.Device.moment g.D.Device.left_since c.args.self.now.device P
    (λ f left. at_rest c.args.self.now.key header ps c.args.payload.now f s.short (s.durable f (g.met.D.Device.only_now c.args.self.now.device f left) ∙ s.file))

pub returns-in_err-chunk-clause-no_damage : goal.returns-in_err-chunk-clause-no_damage
returns-in_err-chunk-clause-no_damage g c header ps s =
    let P = λ (f : List ℕ). (count : ℕ) → IsDamaged c.args.self.now.key header f count → IsByChance c.args.self.now.key header ps c.args.payload.now f in
    started g.D.Device.moment g.D.Device.left_since c.args.self.now.device P
    (λ f left. rest_damage c.args.self.now.key header ps c.args.payload.now f s.short c.requires (omega (arith, s.place)) (s.durable f (g.met.D.Device.only_now c.args.self.now.device f left) ∙ s.file))

pub returns-then-self-ge-MOST_PLACE-clause-any_moment : goal.returns-then-self-ge-MOST_PLACE-clause-any_moment
returns-then-self-ge-MOST_PLACE-clause-any_moment g c header ps s =
    let P = IsWithOrWithout c.args.self.now.key header ps c.args.payload.now in
    started g.D.Device.moment g.D.Device.left_since c.args.self.now.device P
    (λ f left. at_rest c.args.self.now.key header ps c.args.payload.now f s.short (s.durable f (g.met.D.Device.only_now c.args.self.now.device f left) ∙ s.file))

pub returns-then-self-ge-MOST_PLACE-clause-no_damage : goal.returns-then-self-ge-MOST_PLACE-clause-no_damage
returns-then-self-ge-MOST_PLACE-clause-no_damage g c header ps s =
    let P = λ (f : List ℕ). (count : ℕ) → IsDamaged c.args.self.now.key header f count → IsByChance c.args.self.now.key header ps c.args.payload.now f in
    started g.D.Device.moment g.D.Device.left_since c.args.self.now.device P
    (λ f left. rest_damage c.args.self.now.key header ps c.args.payload.now f s.short c.requires (omega (arith, s.place)) (s.durable f (g.met.D.Device.only_now c.args.self.now.device f left) ∙ s.file))

pub returns-in-Err-clause-any_moment : goal.returns-in-Err-clause-any_moment
returns-in-Err-clause-any_moment g c header ps s =
    let key = c.args.self.now.key in
    let P = IsWithOrWithout key header ps c.args.payload.now in
    let old = c.args.self.now.device in
    let made : c.deref.result.now ≡ chunk_of key (end_place ps) c.args.payload.now =
    c.deref.ensures.value ∙ c.in_ok-chunk.ensures ∙ ap (λ (place : ℕ). chunk_of key place c.args.payload.now) s.place in
    let at_start = started g.D.Device.moment g.D.Device.left_since old P
    (λ f left. at_rest key header ps c.args.payload.now f s.short (s.durable f (g.met.D.Device.only_now old f left) ∙ s.file)) in
    let first = behind key header ps c.args.payload.now c.deref.result.now (g.D.Device.seen old) (g.D.Device.may_leave old) (g.D.Device.may_leave c.append.new.self)
    s.short c.requires s.file made s.durable (c.append.ensures.crash s.known) in
    let written = goes_on g.D.Device.moment g.D.Device.left_since old old c.append.new.self P (g.D.Device.may_leave c.append.new.self) at_start (c.append.ensures.time s.known) first in
    written

pub returns-in-Err-clause-no_damage : goal.returns-in-Err-clause-no_damage
returns-in-Err-clause-no_damage g c header ps s =
    let key = c.args.self.now.key in
    let P = λ (f : List ℕ). (count : ℕ) → IsDamaged key header f count → IsByChance key header ps c.args.payload.now f in
    let old = c.args.self.now.device in
    let made : c.deref.result.now ≡ chunk_of key (end_place ps) c.args.payload.now =
    c.deref.ensures.value ∙ c.in_ok-chunk.ensures ∙ ap (λ (place : ℕ). chunk_of key place c.args.payload.now) s.place in
    let at_start = started g.D.Device.moment g.D.Device.left_since old P
    (λ f left. rest_damage key header ps c.args.payload.now f s.short c.requires (omega (arith, s.place)) (s.durable f (g.met.D.Device.only_now old f left) ∙ s.file)) in
    let first = behind_damage key header ps c.args.payload.now c.deref.result.now (g.D.Device.seen old) (g.D.Device.may_leave old) (g.D.Device.may_leave c.append.new.self)
    s.short c.requires (omega (arith, s.place)) s.file made s.durable (c.append.ensures.crash s.known) in
    let written = goes_on g.D.Device.moment g.D.Device.left_since old old c.append.new.self P (g.D.Device.may_leave c.append.new.self) at_start (c.append.ensures.time s.known) first in
    written

pub returns-in-Err-sync-clause-any_moment : goal.returns-in-Err-sync-clause-any_moment
returns-in-Err-sync-clause-any_moment g c header ps s =
    let key = c.args.self.now.key in
    let P = IsWithOrWithout key header ps c.args.payload.now in
    let old = c.args.self.now.device in
    let made : c.deref.result.now ≡ chunk_of key (end_place ps) c.args.payload.now =
    c.deref.ensures.value ∙ c.in_ok-chunk.ensures ∙ ap (λ (place : ℕ). chunk_of key place c.args.payload.now) s.place in
    let at_start = started g.D.Device.moment g.D.Device.left_since old P
    (λ f left. at_rest key header ps c.args.payload.now f s.short (s.durable f (g.met.D.Device.only_now old f left) ∙ s.file)) in
    let first = behind key header ps c.args.payload.now c.deref.result.now (g.D.Device.seen old) (g.D.Device.may_leave old) (g.D.Device.may_leave c.append.new.self)
    s.short c.requires s.file made s.durable (c.append.ensures.crash s.known) in
    let written = goes_on g.D.Device.moment g.D.Device.left_since old old c.append.new.self P (g.D.Device.may_leave c.append.new.self) at_start (c.append.ensures.time s.known) first in
    goes_on g.D.Device.moment g.D.Device.left_since old c.append.new.self c.sync.new.self P (g.D.Device.may_leave c.sync.new.self) written
    (c.sync.ensures.time (c.append.ensures.known s.known)) (λ f now. first f (c.sync.ensures.crash (c.append.ensures.known s.known) f now))

pub returns-in-Err-sync-clause-no_damage : goal.returns-in-Err-sync-clause-no_damage
returns-in-Err-sync-clause-no_damage g c header ps s =
    let key = c.args.self.now.key in
    let P = λ (f : List ℕ). (count : ℕ) → IsDamaged key header f count → IsByChance key header ps c.args.payload.now f in
    let old = c.args.self.now.device in
    let made : c.deref.result.now ≡ chunk_of key (end_place ps) c.args.payload.now =
    c.deref.ensures.value ∙ c.in_ok-chunk.ensures ∙ ap (λ (place : ℕ). chunk_of key place c.args.payload.now) s.place in
    let at_start = started g.D.Device.moment g.D.Device.left_since old P
    (λ f left. rest_damage key header ps c.args.payload.now f s.short c.requires (omega (arith, s.place)) (s.durable f (g.met.D.Device.only_now old f left) ∙ s.file)) in
    let first = behind_damage key header ps c.args.payload.now c.deref.result.now (g.D.Device.seen old) (g.D.Device.may_leave old) (g.D.Device.may_leave c.append.new.self)
    s.short c.requires (omega (arith, s.place)) s.file made s.durable (c.append.ensures.crash s.known) in
    let written = goes_on g.D.Device.moment g.D.Device.left_since old old c.append.new.self P (g.D.Device.may_leave c.append.new.self) at_start (c.append.ensures.time s.known) first in
    goes_on g.D.Device.moment g.D.Device.left_since old c.append.new.self c.sync.new.self P (g.D.Device.may_leave c.sync.new.self) written
    (c.sync.ensures.time (c.append.ensures.known s.known)) (λ f now. first f (c.sync.ensures.crash (c.append.ensures.known s.known) f now))

pub returns-clause-any_moment : goal.returns-clause-any_moment
returns-clause-any_moment g c header ps s =
    let key = c.args.self.now.key in
    let P = IsWithOrWithout key header ps c.args.payload.now in
    let old = c.args.self.now.device in
    let made : c.deref.result.now ≡ chunk_of key (end_place ps) c.args.payload.now =
    c.deref.ensures.value ∙ c.in_ok-chunk.ensures ∙ ap (λ (place : ℕ). chunk_of key place c.args.payload.now) s.place in
    let at_start = started g.D.Device.moment g.D.Device.left_since old P
    (λ f left. at_rest key header ps c.args.payload.now f s.short (s.durable f (g.met.D.Device.only_now old f left) ∙ s.file)) in
    let first = behind key header ps c.args.payload.now c.deref.result.now (g.D.Device.seen old) (g.D.Device.may_leave old) (g.D.Device.may_leave c.append.new.self)
    s.short c.requires s.file made s.durable (c.append.ensures.crash s.known) in
    let written = goes_on g.D.Device.moment g.D.Device.left_since old old c.append.new.self P (g.D.Device.may_leave c.append.new.self) at_start (c.append.ensures.time s.known) first in
    goes_on g.D.Device.moment g.D.Device.left_since old c.append.new.self c.sync.new.self P (g.D.Device.may_leave c.sync.new.self) written
    (c.sync.ensures.time (c.append.ensures.known s.known)) (λ f now. first f (c.sync.ensures.crash (c.append.ensures.known s.known) f now))

pub returns-clause-no_damage : goal.returns-clause-no_damage
returns-clause-no_damage g c header ps s =
    let key = c.args.self.now.key in
    let P = λ (f : List ℕ). (count : ℕ) → IsDamaged key header f count → IsByChance key header ps c.args.payload.now f in
    let old = c.args.self.now.device in
    let made : c.deref.result.now ≡ chunk_of key (end_place ps) c.args.payload.now =
    c.deref.ensures.value ∙ c.in_ok-chunk.ensures ∙ ap (λ (place : ℕ). chunk_of key place c.args.payload.now) s.place in
    let at_start = started g.D.Device.moment g.D.Device.left_since old P
    (λ f left. rest_damage key header ps c.args.payload.now f s.short c.requires (omega (arith, s.place)) (s.durable f (g.met.D.Device.only_now old f left) ∙ s.file)) in
    let first = behind_damage key header ps c.args.payload.now c.deref.result.now (g.D.Device.seen old) (g.D.Device.may_leave old) (g.D.Device.may_leave c.append.new.self)
    s.short c.requires (omega (arith, s.place)) s.file made s.durable (c.append.ensures.crash s.known) in
    let written = goes_on g.D.Device.moment g.D.Device.left_since old old c.append.new.self P (g.D.Device.may_leave c.append.new.self) at_start (c.append.ensures.time s.known) first in
    goes_on g.D.Device.moment g.D.Device.left_since old c.append.new.self c.sync.new.self P (g.D.Device.may_leave c.sync.new.self) written
    (c.sync.ensures.time (c.append.ensures.known s.known)) (λ f now. first f (c.sync.ensures.crash (c.append.ensures.known s.known) f now))

pub returns-clause-acknowledged : goal.returns-clause-acknowledged
returns-clause-acknowledged g c header ps s =
    let key = c.args.self.now.key in
    let p = c.args.payload.now in
    let known = c.append.ensures.known s.known in
    let made : c.deref.result.now ≡ chunk_of key (end_place ps) p =
    c.deref.ensures.value ∙ c.in_ok-chunk.ensures ∙ ap (λ (place : ℕ). chunk_of key place p) s.place in
    let seen : g.D.Device.seen c.sync.new.self ≡ log_bytes key header (ps ++ p ∷ []) =
    c.sync.ensures.seen known ∙ c.in-Ok.ensures.appended s.known
    ∙ ap (λ (l : List ℕ). l ++ c.deref.result.now) s.file
    ∙ ap (λ (l : List ℕ). log_bytes key header ps ++ l) made
    ∙ sym (log-push key header ps p) in
    record {
      works = s.works;
      known = c.sync.ensures.known known;
      short = all_push ps p s.short c.requires;
      file = seen;
      place = omega (arith, s.place, last_place-push key 0 ps p, length-chunk key (end_place ps) p, c.len.ensures, ap length c.in_ok-chunk.ensures, ap length made);
      durable = λ f left. c.in-Ok-sync.ensures.durable known f left ∙ sym (c.sync.ensures.seen known);
    }
