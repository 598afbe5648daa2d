-- The guards of small runs.
use Rattle.arj_law_disk.proofs.Terms
use Terms.{◌≡◌, ◌⊎◌, ℕ, [], ◌∷◌, true, false, ◌==◌, ◌||◌, Option, Some, refl, sym, ◌∙◌, ap, subst, inl, inr, ⊎_elim, arith, le_refl}
use Terms.{nat_tests, Runs, Acked, first_state, first_office, serial_office, state_by, Packed, Hold, Below, IsNew, undecided, In}
use Rattle.arj_law_disk.proofs.machine.Base.{test_is, or_cases}
use Rattle.arj_law_disk.specs.machine
use machine.Samples.{in_doubt, recorded, without_three, first_constituent, excluding, stopped_before, stopped_after, naming_restarts}
use machine.Samples.{excluded, removed, including, serializing, retaining}

-- what holds of one state holds of the same one
some_that : {v w : Packed} → ◌≡◌ {A = Option Packed} (Some v) (Some w) → (P : Packed → Type 0) → P v → P w
some_that {v} {w} e P p = let is : v ≡ w = cc in subst P is p

-- what holds of one hold holds of the same one
one_hold : {v w : Hold} → ◌≡◌ {A = Option Hold} (Some v) (Some w) → (P : Hold → Type 0) → P v → P w
one_hold {v} {w} e P p = let is : v ≡ w = cc in subst P is p

-- nobody but 0 wrote the first state
zero_new : (t : ℕ) → (0 ≡ t → ⊥) → IsNew first_state t
zero_new t other g (inl is) e = other (ap (λ (x : Packed). x.writer) is ∙ e)
zero_new t other g (inr i) e = absurd i

-- what the top 5 was when the naming node restarted
five_taken : (t : ℕ) → (t == 5) ≡ true → (recorded.world.disk.begun t ≡ true)
    × (undecided recorded.world.disk t ≡ true → (recorded.world.disk.conf t ≡ true) ⊎ (recorded.world.disk.light t ≡ true))
five_taken t y = subst (λ n. (recorded.world.disk.begun n ≡ true) × (undecided recorded.world.disk n ≡ true →
    (recorded.world.disk.conf n ≡ true) ⊎ (recorded.world.disk.light n ≡ true))) (sym (test_is t 5 y)) (refl, λ u. inl refl)

-- what holds of two nodes holds of each of them
two_nodes : (m a b : ℕ) (P : ℕ → Type 0) → ((a == m) || ((b == m) || false)) ≡ true → P a → P b → P m
two_nodes m a b P i p q = ⊎_elim
    (λ (e : (a == m) ≡ true). subst P (test_is a m e) p)
    (λ (e : ((b == m) || false) ≡ true).
    ⊎_elim (λ (f : (b == m) ≡ true). subst P (test_is b m f) q) (λ (f : false ≡ true). cc) (or_cases (b == m) false e))
    (or_cases (a == m) ((b == m) || false) i)

pub excluding_runs : Runs first_office excluding
excluding_runs = (
  record { top = refl; free = λ h n e less. cc },
  (
    record { answered = inl refl; idle = refl },
    (
      record { hears = record { answered = inl refl; idle = refl }; family = refl; had = refl },
      (
        record { held = refl; had = refl; clear = λ a h e. cc },
        (
          record {
            idle = refl;
            root = refl;
            top = refl;
            first = λ z e. refl;
            writer = λ w e. some_that e (λ x. (x.writer ≡ 5) × IsNew first_state 5) (refl, zero_new 5 (λ e. cc));
            list = λ w. (1, inl refl, λ q. (5, inl refl, record { since = 1; list = 2 ∷ 3 ∷ [] }, refl, λ s i. i));
            loaded = λ s j. cc;
          },
          (
            ((refl, refl), tt),
            (
              ((refl, refl), tt),
              (
                record {
                  asked = inr (inl refl);
                  free = refl;
                  below = λ g e. some_that e (λ x. Below x (state_by 1 5)) (inl (omega arith));
                },
                (
                  (refl, tt),
                  (
                    (refl, inl refl),
                    (
                      refl,
                      (
                        (refl, tt),
                        (
                          record { top = refl; free = λ h n e less. grind (arith, nat_tests) },
                          (
                            record {
                              confirm = record {
                                asked = inl refl;
                                new = refl;
                                fresh = λ w z. ⊎_elim (λ q. cc q) (λ q. cc q) z;
                                untold = (refl, refl);
                                unlisted = λ s j. cc;
                                exclude = λ s t g l. (1, refl, le_refl 1);
                              };
                              present = record { own = λ i h. grind (arith, nat_tests); all = λ u i h. grind (arith, nat_tests) };
                              other = refl;
                              stores = (2, refl);
                              next = λ u w e. some_that e (λ x. x.version ≡ 1) refl;
                            },
                            (
                              ((inl refl, λ u. inl refl), tt),
                              tt,
                            ),
                          ),
                        ),
                      ),
                    ),
                  ),
                ),
              ),
            ),
          ),
        ),
      ),
    ),
  ),
)

pub stopped_before_runs : Runs in_doubt stopped_before
stopped_before_runs = (
  tt,
  (
    ((refl, refl, refl, λ b. cc), tt),
    (
      (refl, inl refl),
      (
        ((refl, refl, refl, λ b. cc), tt),
        (
          (refl, inl refl),
          (
            record { top = refl; untold = refl; clear = λ h e. cc; told = ((λ e. cc), λ e. inl refl) },
            tt,
          ),
        ),
      ),
    ),
  ),
)

pub stopped_after_runs : Runs in_doubt stopped_after
stopped_after_runs = (
  record { sealed = refl; confirmed = inl refl; stores = λ s g. grind (arith, nat_tests); names = refl },
  (
    tt,
    (
      ((refl, refl), inl refl),
      (
        (refl, tt),
        (
          (refl, inl refl),
          (
            (refl, inl refl, refl),
            tt,
          ),
        ),
      ),
    ),
  ),
)

pub naming_restarts_runs : Runs in_doubt naming_restarts
naming_restarts_runs = (
  record { sealed = refl; confirmed = inl refl; stores = λ s g. grind (arith, nat_tests); names = refl },
  (
    record { pending = λ h e. one_hold e (λ k. (k.top == 5) ≡ true) refl; taken = λ t y. five_taken t y },
    (
      (refl, refl),
      (
        (refl, tt),
        (
          (refl, inl refl),
          (
            (refl, inl refl, refl),
            (
              record { top = refl; untold = refl; clear = λ h e. cc; told = ((λ e. inl (inl refl)), λ e. cc) },
              tt,
            ),
          ),
        ),
      ),
    ),
  ),
)

pub excluded_runs : Runs in_doubt excluded
excluded_runs = (
  record { sealed = refl; confirmed = inl refl; stores = λ s g. grind (arith, nat_tests); names = refl },
  (
    (refl, refl),
    (
      (refl, tt),
      (
        ((refl, refl, refl, λ b. cc), tt),
        (
          (refl, tt),
          (
            (refl, inr (inr (inl refl))),
            (
              (refl, inr (inr (inl refl)), refl),
              (
                ((inr (inr (inr (inr (inl refl)))), λ u. inl refl), tt),
                (
                  record { top = refl; untold = refl; clear = λ h e. cc; told = ((λ e. inl (inr (inr (inr (inl refl))))), λ e. cc) },
                  (
                    ((inr (inr (inr (inl refl))), λ h e. cc, λ n h e. cc), λ e. refl),
                    (
                      (refl, inr (inr (inl refl))),
                      (
                        (refl, inr (inr (inl refl)), refl),
                        (
                          ((inr (inr (inl refl)), λ h e. cc, λ n h e. cc), λ e. cc),
                          tt,
                        ),
                      ),
                    ),
                  ),
                ),
              ),
            ),
          ),
        ),
      ),
    ),
  ),
)

pub removed_runs : Runs without_three removed
removed_runs = (
  record { record_is = refl; acked = λ m i. two_nodes m 1 2 (λ n. In (Acked 5 n) without_three.world.sent) i (inr (inl refl)) (inl refl) },
  tt,
)

pub including_runs : Runs without_three including
including_runs = (
  record { top = refl; free = λ h n e less. grind (arith, nat_tests) },
  (
    record { answered = inl refl; idle = refl },
    (
      record { answered = inl refl; listed = refl; free = refl; held = refl },
      (
        record {
          idle = refl;
          root = refl;
          top = refl;
          first = λ z e. grind (arith, nat_tests);
          writer = λ w e. cc;
          list = λ w. cc;
          loaded = λ s j. (1, state_by 1 5, inl refl, refl, refl);
        },
        (
          ((refl, refl), tt),
          (
            record { asked = inl refl; free = refl; below = λ g e. some_that e (λ x. Below x (state_by 1 5)) (inl (omega arith)) },
            (
              (refl, tt),
              (
                (refl, inl refl),
                (
                  refl,
                  (
                    (refl, tt),
                    (
                      record {
                        confirm = record {
                          asked = inl refl;
                          new = refl;
                          fresh = λ w z. ⊎_elim (λ q. cc q) (λ q. cc q) z;
                          untold = (refl, refl);
                          unlisted = λ s j. grind (arith, nat_tests);
                          exclude = λ s t g l. (2, refl, omega arith);
                        };
                        present = record { own = λ i h. grind (arith, nat_tests); all = λ u i h. grind (arith, nat_tests) };
                        other = refl;
                        stores = (3, refl);
                        next = λ u w e. cc;
                      },
                      (
                        ((inl refl, λ u. inl refl), tt),
                        (
                          record { sealed = refl; confirmed = inl refl; stores = λ s g. grind (arith, nat_tests); names = refl },
                          (
                            (refl, refl),
                            (
                              (refl, tt),
                              (
                                (refl, inl refl),
                                (
                                  (refl, inl refl, refl),
                                  (
                                    record { top = refl; untold = refl; clear = λ h e. cc; told = ((λ e. inl (inl refl)), λ e. cc) },
                                    tt,
                                  ),
                                ),
                              ),
                            ),
                          ),
                        ),
                      ),
                    ),
                  ),
                ),
              ),
            ),
          ),
        ),
      ),
    ),
  ),
)

pub serializing_runs : Runs serial_office serializing
serializing_runs = (
  record { top = refl; free = λ h n e less. cc },
  (
    record { answered = inl refl; idle = refl },
    (
      record { hears = record { answered = inl refl; idle = refl }; family = refl; had = refl },
      (
        record { held = refl; had = refl; clear = λ a h e. cc },
        (
          record {
            idle = refl;
            root = refl;
            top = refl;
            first = λ z e. refl;
            writer = λ w e. some_that e (λ x. (x.writer ≡ 6) × IsNew first_state 6) (refl, zero_new 6 (λ e. cc));
            list = λ w. (1, inl refl, λ q. (6, inl refl, record { since = 1; list = 2 ∷ 3 ∷ [] }, refl, λ s i. i));
            loaded = λ s j. cc;
          },
          (
            ((refl, refl), tt),
            (
              ((refl, refl), tt),
              (
                record {
                  asked = inr (inl refl);
                  free = refl;
                  below = λ g e. some_that e (λ x. Below x (state_by 1 6)) (inl (omega arith));
                },
                (
                  (refl, tt),
                  (
                    (refl, inl refl),
                    (
                      record {
                        asked = inr (inl refl);
                        free = refl;
                        below = λ g e. some_that e (λ x. Below x (state_by 1 6)) (inl (omega arith));
                      },
                      (
                        (refl, tt),
                        (
                          (refl, inl refl),
                          (
                            refl,
                            (
                              (refl, tt),
                              (
                                record {
                                  confirm = record {
                                    asked = inl refl;
                                    new = refl;
                                    fresh = λ w z. ⊎_elim (λ q. cc q) (λ q. cc q) z;
                                    untold = (refl, refl);
                                    unlisted = λ s j. cc;
                                    exclude = λ s t g l. absurd (grind (arith, nat_tests));
                                  };
                                  present = record { own = λ i h. grind (arith, nat_tests); all = λ u i h. grind (arith, nat_tests) };
                                  writes = refl;
                                  same = refl;
                                  next = λ u w e. some_that e (λ x. x.version ≡ 1) refl;
                                },
                                (
                                  ((inl refl, λ u. inl refl), tt),
                                  (
                                    record { sealed = refl; confirmed = inl refl; stores = λ s g. grind (arith, nat_tests); names = refl },
                                    (
                                      (refl, refl),
                                      (
                                        (refl, tt),
                                        (
                                          (refl, inl refl),
                                          (
                                            (refl, inl refl, refl),
                                            (
                                              (refl, tt),
                                              (
                                                (refl, inl refl),
                                                (
                                                  (refl, inl refl, refl),
                                                  tt,
                                                ),
                                              ),
                                            ),
                                          ),
                                        ),
                                      ),
                                    ),
                                  ),
                                ),
                              ),
                            ),
                          ),
                        ),
                      ),
                    ),
                  ),
                ),
              ),
            ),
          ),
        ),
      ),
    ),
  ),
)

pub retaining_runs : Runs first_constituent retaining
retaining_runs = (
  record {
    idle = refl;
    root = refl;
    top = refl;
    first = λ z e. grind (arith, nat_tests);
    writer = λ w e. some_that e (λ x. (x.writer ≡ 7) × IsNew first_state 7) (refl, zero_new 7 (λ e. cc));
    list = λ w. (1, inr refl, λ q. (9, inr refl, record { since = 1; list = 2 ∷ 3 ∷ [] }, refl, λ s i. i));
    loaded = λ s j. cc;
  },
  (
    ((refl, refl), tt),
    (
      ((refl, refl), tt),
      (
        record { asked = inr (inl refl); free = refl; below = λ g e. some_that e (λ x. Below x (state_by 2 7)) (inl (omega arith)) },
        (
          (refl, tt),
          (
            (refl, inl refl),
            (
              record { asked = inr (inl refl); free = refl; below = λ g e. some_that e (λ x. Below x (state_by 2 7)) (inl (omega arith)) },
              (
                (refl, tt),
                (
                  (refl, inl refl),
                  (
                    refl,
                    (
                      (refl, tt),
                      (
                        record {
                          confirm = record {
                            asked = inl refl;
                            new = refl;
                            fresh = λ w z. ⊎_elim (λ q. cc q) (λ q. cc q) z;
                            untold = (refl, refl);
                            unlisted = λ s j. cc;
                            exclude = λ s t g l. absurd (grind (arith, nat_tests));
                          };
                          present = record { own = λ i h. grind (arith, nat_tests); all = λ u i h. grind (arith, nat_tests) };
                          writes = refl;
                          same = refl;
                          next = λ u w e. some_that e (λ x. x.version ≡ 2) refl;
                        },
                        (
                          ((inl refl, λ u. inl refl), tt),
                          (
                            record { sealed = refl; confirmed = inl refl; stores = λ s g. grind (arith, nat_tests); names = refl },
                            (
                              (refl, refl),
                              tt,
                            ),
                          ),
                        ),
                      ),
                    ),
                  ),
                ),
              ),
            ),
          ),
        ),
      ),
    ),
  ),
)
