-- The objects of the small runs are as an object begins, so all that follows from that holds along the runs.
use Rattle.arj_law_disk.proofs.Terms
use Terms.{◌≡◌, ℕ, ◌<◌, [], ◌∷◌, Bool, true, false, cond, ◌==◌, Option, Some, None, refl, sym, ◌∙◌, ap, subst, inl, inr, arith, nat_tests}
use Terms.{Named, first_state, first_office, serial_office, state_by, Packed, IsPast, has, In}
use Rattle.arj_law_disk.proofs.machine.{History.nothing_past, NamingResults.first_is_named}
use Rattle.arj_law_disk.specs.machine.{Laws.IsFirst, NamingLaws.IsFirstNames, Samples.first_names, Samples.older_office, Samples.zero_state}

some_first : {g : Packed} (b : Bool) → cond {A = Option Packed} b (Some zero_state) None ≡ Some g → In g (zero_state ∷ [])
some_first {g} true e = inl cc
some_first {g} false e = let never : ◌≡◌ {A = Option Packed} None (Some g) = e in cc

first_held : (s : ℕ) (g : Packed) → first_state.held s ≡ Some g → In g (zero_state ∷ [])
first_held s g e = some_first (has s (2 ∷ 3 ∷ [])) e

first_store : (s : ℕ) → has s (2 ∷ 3 ∷ []) ≡ true → first_state.held s ≡ Some zero_state
first_store s i = ap (λ b. cond {A = Option Packed} b (Some zero_state) None) i

first_is : IsFirst first_state
first_is = record {
  idle = λ t. refl;
  unbegun = λ t. refl;
  none_got = λ t s. refl;
  no_record = λ t. refl;
  none_bare = λ t. refl;
  undecided = refl;
  free = λ s. refl;
  none_went = λ t s. refl;
  entry_free = refl;
  none_conf = λ t. refl;
  none_light = λ t. refl;
  entry = refl;
  stores = (2, refl);
  held = first_store;
  no_other = first_held;
  past = nothing_past zero_state;
}

serial_is : IsFirst serial_office.world.disk
serial_is = record {
  idle = λ t. refl;
  unbegun = λ t. refl;
  none_got = λ t s. refl;
  no_record = λ t. refl;
  none_bare = λ t. refl;
  undecided = refl;
  free = λ s. refl;
  none_went = λ t s. refl;
  entry_free = refl;
  none_conf = λ t. refl;
  none_light = λ t. refl;
  entry = refl;
  stores = (2, refl);
  held = first_store;
  no_other = first_held;
  past = nothing_past zero_state;
}

older_held : (s : ℕ) (g : Packed) → older_office.world.disk.held s ≡ Some g → In g (state_by 1 5 ∷ zero_state ∷ [])
older_held s g e = by (s == 2) (s == 3) e
  where
    by : (b c : Bool) → cond {A = Option Packed} b (Some (state_by 1 5)) (cond {A = Option Packed} c (Some zero_state) None) ≡ Some g →
        In g (state_by 1 5 ∷ zero_state ∷ [])
    by true c e = inl cc
    by false true e = inr (inl cc)
    by false false e = let never : ◌≡◌ {A = Option Packed} None (Some g) = e in cc

-- the one older state is below the first, and another wrote it
older_past : IsPast (state_by 1 5) (zero_state ∷ [])
older_past = record {
  below = λ g i. zero (λ x. x.version < 1) g i (omega arith);
  version = λ g h i j same. zero (λ x. x ≡ h) g i (zero (λ x. zero_state ≡ x) h j refl);
  writer = by;
}
  where
    zero : (P : Packed → Type 0) (g : Packed) → In g (zero_state ∷ []) → P zero_state → P g
    zero P g (inl is) p = subst P is p
    zero P g (inr i) p = absurd i

    by : (g h : Packed) → In g (state_by 1 5 ∷ zero_state ∷ []) → In h (state_by 1 5 ∷ zero_state ∷ []) → g.writer ≡ h.writer → g ≡ h
    by g h (inl a) (inl b) same = sym a ∙ b
    by g h (inl a) (inr (inl b)) same =
        let never : ◌≡◌ {A = ℕ} 5 0 = ap (λ (x : Packed). x.writer) a ∙ (same ∙ sym (ap (λ (x : Packed). x.writer) b)) in cc
    by g h (inr (inl a)) (inl b) same =
        let never : ◌≡◌ {A = ℕ} 0 5 = ap (λ (x : Packed). x.writer) a ∙ (same ∙ sym (ap (λ (x : Packed). x.writer) b)) in cc
    by g h (inr (inl a)) (inr (inl b)) same = sym a ∙ b
    by g h (inr (inr i)) _ same = absurd i
    by g h (inl a) (inr (inr j)) same = absurd j
    by g h (inr (inl a)) (inr (inr j)) same = absurd j

older_is : IsFirst older_office.world.disk
older_is = record {
  idle = λ t. refl;
  unbegun = λ t. refl;
  none_got = λ t s. refl;
  no_record = λ t. refl;
  none_bare = λ t. refl;
  undecided = refl;
  free = λ s. refl;
  none_went = λ t s. refl;
  entry_free = refl;
  none_conf = λ t. refl;
  none_light = λ t. refl;
  entry = refl;
  stores = (2, refl);
  held = λ s i. ap (λ n. older_office.world.disk.held n) (sym (only_two s i));
  no_other = older_held;
  past = older_past;
}
  where
    only_two : (s : ℕ) → has s (2 ∷ []) ≡ true → 2 ≡ s
    only_two s i = grind (arith, nat_tests)

names_are : IsFirstNames first_names
names_are = record {
  row = λ h. refl;
  given = λ t. refl;
  told = λ t. refl;
  confd = λ t. refl;
  asked = λ t. refl;
  had = λ t i. refl;
  kept = λ h. refl;
  answers = refl;
}

pub first_named : Named first_office
first_named =
    first_is_named first_state first_names first_is (record { serial = λ r s. refl; plain = λ t s. refl; idem = λ t. refl }) names_are

pub serial_named : Named serial_office
serial_named = first_is_named serial_office.world.disk first_names serial_is
    (record { serial = λ r s. grind (arith, nat_tests); plain = λ t s. grind (arith, nat_tests); idem = λ t. grind (arith, nat_tests) })
    names_are

pub older_named : Named older_office
older_named = first_is_named older_office.world.disk first_names older_is
    (record { serial = λ r s. refl; plain = λ t s. refl; idem = λ t. refl }) names_are
