-- The causes of the journal and the reasons of nodes are the same, as far as they ask whether an action is there, has ended, or waits.
use Rattle.arj_law_parts.proofs.Words
use Words.{◌≡◌, ◌∙◌, ℕ, Bool, true, false, cond, List, [], ◌∷◌, refl, sym, subst, arith, Option, Some, None}
use Words.{list_all, and_parts, nat_le, nat_tests, first_reason}
use Rattle.arj_law_runs.proofs.follow.Reasons.{joined}
use Rattle.arj_law_cause.specs.waits.waiting.Refusals.{not_waiting}

-- the two are the same number, as far as it is no more than that
abbrev pub SameLow : Option ℕ → Option ℕ → Type 0
SameLow a b = (c : ℕ) → nat_le c not_waiting ≡ true → (a ≡ Some c → b ≡ Some c) × (b ≡ Some c → a ≡ Some c)

pub same_low : (a b : Option ℕ) → a ≡ b → SameLow a b
same_low a b same c low = (λ is. sym same ∙ is, λ is. same ∙ is)

abbrev IsHigh : Option ℕ → Type 0
IsHigh o = (c : ℕ) → o ≡ Some c → nat_le c not_waiting ≡ false

low_high : (a b : Option ℕ) → IsHigh a → IsHigh b → SameLow a b
low_high a b high too c low = (λ is. absurd (cc (sym low ∙ high c is)), λ is. absurd (cc (sym low ∙ too c is)))

pub low_first : (n : ℕ) (x y : Bool) (a b : Option ℕ) → x ≡ y → (y ≡ false → SameLow a b) → SameLow (cond x (Some n) a) (cond y (Some n) b)
low_first n true true a b same rest c low = (λ is. is, λ is. is)
low_first n false false a b same rest c low = rest refl c low
low_first n true false a b same rest c low = absurd (cc same)
low_first n false true a b same rest c low = absurd (cc same)

-- numbers above it
abbrev pub AreHigh : List (ℕ × Bool) → Type 0
AreHigh cs = list_all (λ (c : ℕ × Bool). nat_le 9 c.0) cs ≡ true

first_high : (cs : List (ℕ × Bool)) → AreHigh cs → IsHigh (first_reason cs)
first_high [] all c is = let no_way : ◌≡◌ {A = Option ℕ} None (Some c) = is in absurd (cc no_way)
first_high (r ∷ cs) all c is = by r.1 (first_high cs parts.1 c) is
  where
    parts : (nat_le 9 r.0 ≡ true) × AreHigh cs
    parts = and_parts (nat_le 9 r.0) (list_all (λ (q : ℕ × Bool). nat_le 9 q.0) cs) all

    high : (n : ℕ) → nat_le 9 n ≡ true → nat_le n 8 ≡ false
    high n is = grind (arith, nat_tests, is)

    by : (b : Bool) → (first_reason cs ≡ Some c → nat_le c not_waiting ≡ false) → cond b (Some r.0) (first_reason cs) ≡ Some c →
        nat_le c not_waiting ≡ false
    by true rest here = let same : ◌≡◌ {A = Option ℕ} (Some r.0) (Some c) = here in let one : r.0 ≡ c = cc same in
        subst (λ k. nat_le k not_waiting ≡ false) one (high r.0 parts.0)
    by false rest later = rest later

-- two lists with one reason each that is low
pub one_low : (n : ℕ) (x y : Bool) (cs ds : List (ℕ × Bool)) → x ≡ y → AreHigh cs → AreHigh ds →
    SameLow (first_reason ((n, x) ∷ cs)) (first_reason ((n, y) ∷ ds))
one_low n x y cs ds same high too = low_first n x y (first_reason cs) (first_reason ds) same
    (λ e. low_high (first_reason cs) (first_reason ds) (first_high cs high) (first_high ds too))

-- a cause before those of the world and of a node
pub behind : (n : ℕ) (x y : Bool) (a b c : Option ℕ) → x ≡ y → SameLow a (joined b c) → SameLow (cond x (Some n) a)
    (joined (cond y (Some n) b) c)
behind n x true a b c same rest = low_first n x true a b same (λ e. absurd (cc e))
behind n x false a b c same rest = low_first n x false a (joined b c) same (λ e. rest)
