-- A run in which all came that was asked for.
use Rattle.std.proofs.Common.{◌≡◌, ℕ, ◌+◌, ◌-◌, ◌^◌, ◌<◌, zero, suc, min, List, [], ◌∷◌, ◌++◌, length, slice_get, Option, Some, refl, sym, ap, ◌∙◌, arith}
use Rattle.std.proofs.lemmas.Grind.{flat_map-append}
use Rattle.pay_frame.specs.Handling.{Steps}
use Rattle.pay_frame.specs.Frame.{FrameFields, frame_bytes}
use Rattle.pay_link.specs.Keys.{KeyFields}
use Rattle.pay_link.specs.Sealing.{want_frame}
use Rattle.pay_node.specs.Nodes.{NodeFields}
use Rattle.pay_peers.specs.declared.feeding.PeerReader.{PeerReader}
use Rattle.pay_peers.specs.declared.window.Window.{Window}
use Rattle.pay_peers.specs.Ahead.{wants}
use Rattle.pay_peers.specs.AheadLaws.{AsksForAll, TakesAhead, taking_ahead}
use Rattle.pay_peers.specs.Window.{asked_behind, count_behind, first_count, row_of, window_behind}
use Rattle.pay_peers.proofs.Opening.{next_of, rows_join, window_at, windows_same}

some_same : {X : Type 0} (y x : X) → Some y ≡ Some x → y ≡ x
some_same y x is = cc

nothing_at : (place : ℕ) (f : FrameFields) → ◌≡◌ {A = Option FrameFields} (slice_get [] place) (Some f) → ⊥
nothing_at zero f is = cc
nothing_at (suc place) f is = cc

pub row_gets : (from count place : ℕ) → place < count → slice_get (row_of from count) place ≡ Some (from + place)
row_gets from zero place below = absurd (omega arith)
row_gets from (suc count) zero below = let same : from ≡ from + 0 = omega arith in ap Some same
row_gets from (suc count) (suc place) below =
    let same : (from + 1) + place ≡ from + suc place = omega arith in
    row_gets (from + 1) count place (omega arith) ∙ ap Some same

pub length-row_of : (from count : ℕ) → length (row_of from count) ≡ count
length-row_of from zero = refl
length-row_of from (suc count) = ap suc (length-row_of (from + 1) count)

-- the next number to ask for, once so many came
abbrev asked_by : ℕ → ℕ → ℕ → ℕ
asked_by ahead first came = first + (came + min ahead (came + 4))

wants_join : (k : KeyFields) (peer from a b next total : ℕ) (one rest : List ℕ) → next ≡ from + a → total ≡ a + b
    → one ≡ wants k peer (row_of from a) → rest ≡ wants k peer (row_of next b) → one ++ rest ≡ wants k peer (row_of from total)
wants_join k peer from a b next total one rest at sum first second =
    let bytes_of : ℕ → List ℕ = λ number. frame_bytes (want_frame k peer number) in
    ap (λ xs. xs ++ rest) first ∙ ap (λ xs. wants k peer (row_of from a) ++ xs) second
    ∙ sym (flat_map-append bytes_of (row_of from a) (row_of next b))
    ∙ ap (wants k peer) (rows_join from a b next total at sum)

-- what some frames more had asked for, where so many came before
record Runs (k : KeyFields) (peer ahead first came : ℕ) (fs : List FrameFields) (text : List ℕ) : Type 0 where
  count : ℕ
  is : text ≡ wants k peer (row_of (asked_by ahead first came) count)
  total : asked_by ahead first came + count ≡ asked_by ahead first (came + length fs)
  each : (place : ℕ) (f : FrameFields) → slice_get fs place ≡ Some f → f.number ≡ (first + came) + place

-- the first of them is the one that was due
each_more : (due : ℕ) (g : FrameFields) (gs : List FrameFields) → g.number ≡ due
    → ((place : ℕ) (f : FrameFields) → slice_get gs place ≡ Some f → f.number ≡ suc due + place)
    → (place : ℕ) (f : FrameFields) → slice_get (g ∷ gs) place ≡ Some f → f.number ≡ due + place
each_more due g gs is rest zero f at =
    let same : g ≡ f = some_same g f at in
    let zero_more : due ≡ due + 0 = omega arith in
    ap (λ (x : FrameFields). x.number) (sym same) ∙ is ∙ zero_more
each_more due g gs is rest (suc place) f at =
    let one_more : suc due + place ≡ due + suc place = omega arith in
    rest place f at ∙ one_more

runs :
    (n : NodeFields) (peer ahead first came : ℕ) (before after : PeerReader) (fs : List FrameFields) (text : List ℕ) → 0 < ahead
    → first + came + length fs + ahead < 2 ^ 64 - 1 → before.window ≡ window_at (first + came) (asked_by ahead first came)
    → Steps (taking_ahead n peer ahead) before after fs text → Runs n.keys peer ahead first came fs text
runs n peer ahead first came before after [] text some numbers window steps = record {
  count = 0;
  is = steps.1;
  total = let same : came ≡ came + 0 = omega arith in omega (arith, ap (asked_by ahead first) same);
  each = λ place f is. absurd (nothing_at place f is);
}
runs n peer ahead first came before after (f ∷ fs) text some numbers window steps =
    let between : PeerReader = steps.0 in
    let step : TakesAhead n peer ahead before between f steps.1 = steps.3 in
    let w : Window = before.window in
    let w_due : w.due ≡ first + came = ap (λ (x : Window). x.due) window in
    let w_asked : w.asked ≡ asked_by ahead first came = ap (λ (x : Window). x.asked) window in
    let number : f.number ≡ first + came = step.fed.due.number ∙ w_due in
    let after_it : f.number + 1 ≡ first + suc came = omega (arith, number) in
    let told = step.next ∙ ap Some after_it in
    let next = next_of ahead first came w some (omega arith) w_due w_asked in
    let moves : between.window ≡ window_at (first + suc came) (asked_by ahead first (suc came)) =
    step.fed.window ∙ ap (window_behind ahead w) told ∙ windows_same _ _ _ _ next.due next.asked in
    let one : steps.1 ≡ wants n.keys peer (row_of (asked_by ahead first came) (count_behind ahead w (first + suc came))) =
    step.fed.asks ∙ ap (λ x. wants n.keys peer (asked_behind ahead w x)) told
    ∙ ap (λ from. wants n.keys peer (row_of from (count_behind ahead w (first + suc came)))) next.from in
    let rest = runs n peer ahead first (suc came) between after fs steps.2 some (omega arith) moves steps.4 in
    let on : asked_by ahead first (suc came) ≡ asked_by ahead first came + count_behind ahead w (first + suc came) = omega (arith, next.from, next.asked) in
    let end : suc came + length fs ≡ came + suc (length fs) = omega arith in
    record {
      count = count_behind ahead w (first + suc came) + rest.count;
      is = steps.5 ∙ wants_join n.keys peer (asked_by ahead first came) (count_behind ahead w (first + suc came)) rest.count (asked_by ahead first (suc came))
          (count_behind ahead w (first + suc came) + rest.count) steps.1 steps.2 on refl one rest.is;
      total = let sum : asked_by ahead first came + (count_behind ahead w (first + suc came) + rest.count) ≡ asked_by ahead first (suc came) + rest.count = omega (arith, on) in
          sum ∙ rest.total ∙ ap (asked_by ahead first) end;
      each = each_more (first + came) f fs number (λ place g at. let same : (first + suc came) + place ≡ suc (first + came) + place = omega arith in rest.each place g at ∙ same);
    }

pub asks_all : AsksForAll
asks_all n peer ahead first before after fs text some numbers window steps =
    let zero_came : first + min ahead 4 ≡ asked_by ahead first 0 = omega arith in
    let at_first : first ≡ first + 0 = omega arith in
    let begun : before.window ≡ window_at (first + 0) (asked_by ahead first 0) = window ∙ windows_same _ _ _ _ at_first zero_came in
    let run = runs n peer ahead first 0 before after fs text some (omega arith) begun steps in
    let all = first_count ahead + run.count in
    let none : 0 + length fs ≡ length fs = omega arith in
    let total : first + all ≡ asked_by ahead first (length fs) =
    let same : first + all ≡ asked_by ahead first 0 + run.count = omega (arith, zero_came) in same ∙ run.total ∙ ap (asked_by ahead first) none in
    let is_at : asked_by ahead first 0 ≡ first + first_count ahead = omega arith in
    record {
      numbers = row_of first all;
      text = wants_join n.keys peer first (first_count ahead) run.count (asked_by ahead first 0) all _ text is_at refl refl run.is;
      from_it_on = λ place below.
          let within : place < all = omega (arith, length-row_of first all) in
          row_gets first all place within;
      came = λ place f is. let same : (first + 0) + place ≡ first + place = omega arith in run.each place f is ∙ same;
      some = omega (arith, length-row_of first all, total);
      few = omega (arith, length-row_of first all, total);
    }
