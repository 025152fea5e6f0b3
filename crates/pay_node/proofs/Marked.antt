-- Places that are marked by numbers, one of which stands for none.
use Rattle.std.proofs.Common.{◌≡◌, ◌≢◌, ℕ, List, Some, None, eqb, get_or, map, ap, ◌∙◌, sym}
use Rattle.std.proofs.Math.ListN.{get_or-map}
use Rattle.std.proofs.lemmas.Bool.{ne_eqb, cond-false}
use Rattle.pay_node.specs.declared.seat.TheConstants.{NO_PLACE}
use Rattle.pay_node.specs.Keeping.{mark_of, marked_place}

pub mark_is : (places : List ℕ) (number : ℕ) → mark_of (map marked_place places) number ≡ marked_place (get_or places number NO_PLACE)
mark_is places number = get_or-map marked_place places number NO_PLACE

pub marked : (places : List ℕ) (number place : ℕ) → get_or places number NO_PLACE ≡ place → place ≢ NO_PLACE → mark_of (map marked_place places) number ≡ Some place
marked places number place is some =
    mark_is places number ∙ ap marked_place is ∙ cond-false (eqb place NO_PLACE) None (Some place) (ne_eqb place NO_PLACE some)

pub marked_as_before : (before after : List ℕ) (k : ℕ) → get_or after k NO_PLACE ≡ get_or before k NO_PLACE → mark_of (map marked_place after) k ≡ mark_of (map marked_place before) k
marked_as_before before after k same = mark_is after k ∙ ap marked_place same ∙ sym (mark_is before k)
