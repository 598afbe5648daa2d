-- One event: what is known of each cause gives the lowest one.
use Rattle.arj_law_parts.proofs.Words
use Words.{◌≡◌, ◌⊎◌, ◌∙◌, ◌≤◌, ◌==◌, ◌&&◌, ◌||◌, not, inl, inr, ℕ, Bool, true, false, List, [], ◌∷◌, Option, Some, None, refl, sym, ap, subst}
use Words.{arith, nat_tests, nat_le, nat_lt, and_parts, eqb-true, Body, Event, Header}
use Words.body
use Words.event
use Rattle.arj_law_runs.proofs.follow.Reasons.{same_first}
use Rattle.arj_law_runs.specs.follow.Refusals.{PlainRefusalsStep, is_plain_cause, names_action}
use Rattle.arj_law_cause.proofs.follow.causes.Reasons.{AreRising, first_met, met_first}
use Rattle.arj_law_cause.specs.follow.causes.Refusals.{IsRefusedBy, TreeRefusalsStep, asks_object, doomed, is_met, is_tree_cause, too_many}
use Rattle.arj_model.specs.Follows.{is_behind_doom}
use Rattle.arj_model.specs.Past.{Past}
use Rattle.arj_model.specs.Refusals as model
use Rattle.arj_law_cause.specs.waits.lowest.Refusals.{RefusalsStep}
use Rattle.arj_law_cause.specs.waits.objects.Refusals.{ObjectRefusalsStep}
use Rattle.arj_law_cause.specs.waits.waiting.Refusals.{WaitingRefusalsStep}

-- ---- numbers

same_some : (a b : ℕ) → Some a ≡ Some b → a ≡ b
same_some a b is = let k : ◌≡◌ {A = Option ℕ} (Some a) (Some b) = is in cc

same_line : (c d : ℕ) → ◌≡◌ {A = List Body} (body.Refused c ∷ []) (body.Refused d ∷ []) → c ≡ d
same_line c d is = let k : c ≡ d = cc is in k

later : (c : ℕ) → nat_le c 8 ≡ false → nat_lt 8 c ≡ true
later c high = grind (arith, nat_tests, high)

is_twelve : (c : ℕ) → c ≡ 12 → (c == 12) ≡ true
is_twelve c same = grind (arith, nat_tests, same)

above : (d c : ℕ) → d ≤ c → d ≡ 12 → (c == 12) ≡ false → nat_lt 12 c ≡ true
above d c le same off = grind (arith, nat_tests, le, same, off)

between : (d c f : ℕ) → d ≤ c → f ≤ d → c ≡ f → d ≡ c
between d c f le more same = omega (arith, le, more, same)

-- ---- the causes of an event

module _ (hd : Header) (p : Past) where
  rising : (e : Event) → AreRising (model.causes hd p e)
  rising (event.Begin l n) = (refl, (refl, (refl, tt)))
  rising (event.Serial l n) = (refl, (refl, (refl, tt)))
  rising (event.BeginIn l q) = (refl, (refl, (refl, (refl, (refl, (refl, tt))))))
  rising (event.Top l q) = (refl, (refl, (refl, (refl, (refl, tt)))))
  rising (event.Call l x o) = (refl, (refl, (refl, (refl, (refl, (refl, (refl, tt)))))))
  rising (event.Include l x n) = (refl, (refl, (refl, (refl, (refl, (refl, (refl, tt)))))))
  rising (event.Commit l) = (refl, (refl, (refl, (refl, tt))))
  rising (event.Abort l) = (refl, (refl, (refl, tt)))
  rising (event.GiveUp l) = (refl, (refl, (refl, tt)))
  rising (event.Deliver k) = (refl, tt)
  rising (event.Lose k) = (refl, tt)
  rising (event.Tick n) = (refl, (refl, tt))
  rising (event.Crash n) = (refl, (refl, tt))
  rising (event.Restart n) = (refl, (refl, tt))
  rising (event.Stop n calls k) = (refl, tt)
  rising (event.Junk n bytes) = (refl, (refl, tt))
  rising (event.Show x) = (refl, tt)
  rising event.Settle = tt
  rising event.Quiesce = tt

  -- none is that an action is doomed
  none_doomed : (e : Event) → is_met doomed (model.causes hd p e) ≡ false
  none_doomed (event.Begin l n) = refl
  none_doomed (event.Serial l n) = refl
  none_doomed (event.BeginIn l q) = refl
  none_doomed (event.Top l q) = refl
  none_doomed (event.Call l x o) = refl
  none_doomed (event.Include l x n) = refl
  none_doomed (event.Commit l) = refl
  none_doomed (event.Abort l) = refl
  none_doomed (event.GiveUp l) = refl
  none_doomed (event.Deliver k) = refl
  none_doomed (event.Lose k) = refl
  none_doomed (event.Tick n) = refl
  none_doomed (event.Crash n) = refl
  none_doomed (event.Restart n) = refl
  none_doomed (event.Stop n calls k) = refl
  none_doomed (event.Junk n bytes) = refl
  none_doomed (event.Show x) = refl
  none_doomed event.Settle = refl
  none_doomed event.Quiesce = refl

-- ---- the lowest one

module _ (hd : Header) (p : Past) (e : Event) (bodies : List Body) (plain : PlainRefusalsStep hd p e bodies)
    (tree : TreeRefusalsStep hd p e bodies) (early : WaitingRefusalsStep hd p e bodies) (objects : ObjectRefusalsStep hd p e bodies) where
  met : (c : ℕ) → model.refusal hd p e ≡ Some c → is_met c (model.causes hd p e) ≡ true
  met c is = first_met c (model.causes hd p e) (sym (same_first (model.causes hd p e)) ∙ is)

  found : (c : ℕ) → is_met c (model.causes hd p e) ≡ true → (d : ℕ) × (d ≤ c) × (model.refusal hd p e ≡ Some d)
  found c is = let r = met_first c (model.causes hd p e) (rising hd p e) is in (r.0, r.1, same_first (model.causes hd p e) ∙ r.2)

  apart : (d : ℕ) → model.refusal hd p e ≡ Some d → (d == doomed) ≡ false
  apart d is = by (d == doomed) refl
    where
      by : (b : Bool) → (d == doomed) ≡ b → b ≡ false
      by false off = refl
      by true same = let no_way : true ≡ false = sym (met d is)
          ∙ ap (λ n. is_met n (model.causes hd p e)) (eqb-true d doomed same) ∙ none_doomed hd p e in absurd (cc no_way)

  -- what is known of one behind those of waiting, where the event names an action
  abbrev Known : ℕ → Type 0
  Known c = (bodies ≡ body.Refused c ∷ [] → is_met c (model.causes hd p e) ≡ true)
      × (is_met c (model.causes hd p e) ≡ true → IsRefusedBy c bodies)

  known : (c : ℕ) → names_action e ≡ true → nat_le c 8 ≡ false → (c == doomed) ≡ false → Known c
  known c names high off = by (asks_object e && (c == too_many)) refl
    where
      its : (asks_object e && (c == too_many)) ≡ false → is_tree_cause e c ≡ true
      its is = λ i. names i && (later c high i && (not (off i) && not (is i)))

      by : (b : Bool) → (asks_object e && (c == too_many)) ≡ b → Known c
      by true is = let q = and_parts (asks_object e) (c == too_many) is in subst Known (sym (eqb-true c too_many q.1)) (objects q.0)
      by false is = tree c (its is)

  plain_is : (c : ℕ) → names_action e ≡ false → is_plain_cause e c ≡ true
  plain_is c names = λ i. not (names i) || nat_le c 6

  refused_so : (c : ℕ) → bodies ≡ body.Refused c ∷ [] → (c == doomed) ≡ false → model.refusal hd p e ≡ Some c
  refused_so c line off = by (nat_le c 8) refl (names_action e) refl
    where
      back : names_action e ≡ true → nat_le c 8 ≡ false → (d : ℕ) → d ≤ c → model.refusal hd p e ≡ Some d → (b : Bool) → nat_le d 8 ≡ b →
          model.refusal hd p e ≡ Some c
      back names high d le is true low = is ∙ ap Some (same_line d c (sym ((early d low).0 is) ∙ line))
      back names high d le is false low =
          let r = (known d names low (apart d is)).1 (met d is) in
          is ∙ ap Some (between d c r.0 le r.1 (same_line c r.0 (sym line ∙ r.2)))

      by : (b : Bool) → nat_le c 8 ≡ b → (a : Bool) → names_action e ≡ a → model.refusal hd p e ≡ Some c
      by true low a names = (early c low).1 line
      by false high false names = (plain c (plain_is c names)).1 line
      by false high true names =
          let r = found c ((known c names high off).0 line) in back names high r.0 r.1 r.2 (nat_le r.0 8) refl

  lowest_so : (c : ℕ) → model.refusal hd p e ≡ Some c →
      (bodies ≡ body.Refused c ∷ []) ⊎ ((bodies ≡ body.Refused doomed ∷ []) × (nat_lt doomed c ≡ true))
  lowest_so c is = by (nat_le c 8) refl (names_action e) refl
    where
      at : (d : ℕ) → d ≤ c → bodies ≡ body.Refused d ∷ [] → (b : Bool) → (d == doomed) ≡ b →
          (bodies ≡ body.Refused c ∷ []) ⊎ ((bodies ≡ body.Refused doomed ∷ []) × (nat_lt doomed c ≡ true))
      at d le line true same = let twelve = eqb-true d doomed same in
          inr (line ∙ ap (λ k. body.Refused k ∷ []) twelve, above d c le twelve (apart c is))
      at d le line false off = inl (line ∙ ap (λ k. body.Refused k ∷ []) (same_some d c (sym (refused_so d line off) ∙ is)))

      by : (b : Bool) → nat_le c 8 ≡ b → (a : Bool) → names_action e ≡ a →
          (bodies ≡ body.Refused c ∷ []) ⊎ ((bodies ≡ body.Refused doomed ∷ []) × (nat_lt doomed c ≡ true))
      by true low a names = inl ((early c low).0 is)
      by false high false names = inl ((plain c (plain_is c names)).0 is)
      by false high true names =
          let r = (known c names high (apart c is)).1 (met c is) in at r.0 r.1 r.2 (r.0 == doomed) refl

  behind_so : bodies ≡ body.Refused doomed ∷ [] → is_behind_doom (model.refusal hd p e) ≡ true
  behind_so line = by (model.refusal hd p e) refl
    where
      at : (c : ℕ) → model.refusal hd p e ≡ Some c →
          (bodies ≡ body.Refused c ∷ []) ⊎ ((bodies ≡ body.Refused doomed ∷ []) × (nat_lt doomed c ≡ true)) → nat_lt doomed c ≡ true
      at c is (inl same) = let no_way : true ≡ false = sym (is_twelve c (same_line c doomed (sym same ∙ line))) ∙ apart c is in
          absurd (cc no_way)
      at c is (inr q) = q.1

      by : (o : Option ℕ) → model.refusal hd p e ≡ o → is_behind_doom o ≡ true
      by None is = refl
      by (Some c) is = at c is (lowest_so c is)

  pub all_known : RefusalsStep hd p e bodies
  all_known = record {
    refused = refused_so;
    lowest = λ c is. either c (lowest_so c is);
    behind = behind_so;
  }
    where
      either : (c : ℕ) → (bodies ≡ body.Refused c ∷ []) ⊎ ((bodies ≡ body.Refused doomed ∷ []) × (nat_lt doomed c ≡ true)) →
          (bodies ≡ body.Refused c ∷ []) ⊎ (bodies ≡ body.Refused doomed ∷ [])
      either c (inl same) = inl same
      either c (inr q) = inr q.0
