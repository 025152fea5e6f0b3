-- Where values stand that are kept once each, and the votes that are counted by their places.
use Rattle.std.proofs.Common.{◌≡◌, ◌≢◌, ℕ, ◌+◌, ◌<◌, arith, true, false, List, eqb, slice_get, Option, None, Some, count_by, refl, sym, ap, ◌∙◌, bytes_eq, eq-eqb, ne_eqb}
use Rattle.std.proofs.lemmas.Bool.{cases_Bool, cases_eq}
use Rattle.pay_echo.specs.Broadcast.{is_for}
use Rattle.pay_echo.specs.Plain.{value_at, votes_at_places, is_at, AreDistinct, IsPlaceOf}
use Rattle.pay_echo.proofs.Lists.{either, count_by-map, count_by-same, count_by-none, bytes_eq-true, bytes_eq-same}

module _ (values : List (List ℕ)) (v : List ℕ) where
  -- a value that stands neither before a place nor there stands at none up to it
  pub absent-more : (place : ℕ) (kept : List ℕ) → slice_get values place ≡ Some kept → bytes_eq kept v ≡ false → ((k : ℕ) → k < place → slice_get values k ≢ Some v) → (k : ℕ) → k < place + 1 → slice_get values k ≢ Some v
  absent-more place kept here other before k below is =
      either (cases_eq k place)
      (λ (e : k ≡ place).
      let both : Some kept ≡ Some v = sym here ∙ ap (slice_get values) (sym e) ∙ is in
      let equal : kept ≡ v = cc in
      let yes : bytes_eq kept v ≡ true = ap (λ (u : List ℕ). bytes_eq u v) equal ∙ bytes_eq-same v in
      cc)
      (λ (ne : k ≢ place). before k (omega (arith, ne)) is)

  -- a vote is for the value where it stands at the value's place
  for-at : AreDistinct values → (k : ℕ) → slice_get values k ≡ Some v → (o : Option ℕ) → is_for v (value_at values o) ≡ is_at k o
  unfolding is_for
  for-at distinct k here None = refl
  for-at distinct k here (Some j) = go (slice_get values j) refl where
    go : (o : Option (List ℕ)) → slice_get values j ≡ o → is_for v o ≡ eqb j k
    go None none = sym (ne_eqb j k (λ (e : j ≡ k). let both = sym none ∙ ap (slice_get values) e ∙ here in cc))
    go (Some w) some =
        either (cases_Bool (bytes_eq w v))
        (λ (same : bytes_eq w v ≡ true). same ∙ sym (eq-eqb j k (distinct j k v (some ∙ ap (λ (u : List ℕ). Some u) (bytes_eq-true w v same)) here)))
        (λ (other : bytes_eq w v ≡ false). other ∙ sym (ne_eqb j k (λ (e : j ≡ k).
        let both : Some w ≡ Some v = sym some ∙ ap (slice_get values) e ∙ here in
        let equal : w ≡ v = cc in
        let yes : bytes_eq w v ≡ true = ap (λ (u : List ℕ). bytes_eq u v) equal ∙ bytes_eq-same v in
        cc)))

  pub count-at : AreDistinct values → (k : ℕ) → slice_get values k ≡ Some v → (places : List (Option ℕ)) → count_by (is_at k) places ≡ count_by (is_for v) (votes_at_places values places)
  count-at distinct k here places =
      sym (count_by-map (is_for v) (value_at values) places ∙ count_by-same (λ o. is_for v (value_at values o)) (is_at k) (for-at distinct k here) places)

  -- and where it stands nowhere, no vote is for it
  for-none : IsPlaceOf v values None → (o : Option ℕ) → is_for v (value_at values o) ≡ false
  unfolding is_for
  for-none absent None = refl
  for-none absent (Some j) = go (slice_get values j) refl where
    go : (o : Option (List ℕ)) → slice_get values j ≡ o → is_for v o ≡ false
    go None none = refl
    go (Some w) some =
        either (cases_Bool (bytes_eq w v))
        (λ (same : bytes_eq w v ≡ true). absurd (absent j (some ∙ ap (λ (u : List ℕ). Some u) (bytes_eq-true w v same))))
        (λ (other : bytes_eq w v ≡ false). other)

  pub count-none : IsPlaceOf v values None → (places : List (Option ℕ)) → 0 ≡ count_by (is_for v) (votes_at_places values places)
  count-none absent places =
      sym (count_by-map (is_for v) (value_at values) places ∙ count_by-none (λ o. is_for v (value_at values o)) (for-none absent) places)
