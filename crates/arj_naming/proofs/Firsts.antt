-- The first that a test refuses, along a loop.
use Rattle.std.proofs.Common.{◌≡◌, ◌∙◌, ◌+◌, ◌<◌, ℕ, List, drop, length, get_or, sym, ap, Option, Some, None, refl}
use Rattle.std.proofs.lemmas.List.{drop_more}
use Rattle.arj_msg.specs.declared.message.ConfirmedReply.{ConfirmedReply}
use Rattle.arj_protocol.specs.Confirm.{first_of_each}
use Rattle.arj_protocol.specs.Effect.{either}

module _ {A : Type 0} (f : A → Option ConfirmedReply) (xs : List A) (i : ℕ) (d : A) (within : i < length xs) where
  first_here : first_of_each f (drop i xs) ≡ either (f (get_or xs i d)) (first_of_each f (drop (i + 1) xs))
  first_here = ap (first_of_each f) (drop_more xs i d within)

  pub found_first : (r : ConfirmedReply) → Some r ≡ f (get_or xs i d) → first_of_each f (drop i xs) ≡ first_of_each f xs →
      Some r ≡ first_of_each f xs
  found_first r is rest = (λ j. either (is j) (first_of_each f (drop (i + 1) xs))) ∙ (sym first_here ∙ rest)

  pub pass_first : f (get_or xs i d) ≡ None → first_of_each f (drop i xs) ≡ first_of_each f xs →
      first_of_each f (drop (i + 1) xs) ≡ first_of_each f xs
  pass_first none rest = (λ j. either (sym none j) (first_of_each f (drop (i + 1) xs))) ∙ (sym first_here ∙ rest)

  pub head_none : first_of_each f (drop i xs) ≡ None → f (get_or xs i d) ≡ None
  head_none none = by (f (get_or xs i d)) refl (sym first_here ∙ none)
    where
      by : (o : Option ConfirmedReply) → f (get_or xs i d) ≡ o → either o (first_of_each f (drop (i + 1) xs)) ≡ None → o ≡ None
      by None is none = refl
      by (Some r) is none = none

  pub tail_none : first_of_each f (drop i xs) ≡ None → first_of_each f (drop (i + 1) xs) ≡ None
  tail_none none = (λ j. either (sym (head_none none) j) (first_of_each f (drop (i + 1) xs))) ∙ (sym first_here ∙ none)
