-- Bindings of one number are one, where few were made, and so is what is known under them.
use Rattle.arj_law_parts.proofs.Words
use Words.{◌≡◌, ◌≤◌, ◌<◌, ◌+◌, ◌*◌, ℕ, true, List, sym, subst, arith, eqb-true, Binding, Line, Start, binding_eq}
use Words.{binding_number}
use Rattle.arj_law_runs.specs.calls.Bindings.{HasFewBindings, bindings_made}
use Rattle.arj_law_cause.proofs.bindings.Counted.{IsGiven}
use Rattle.arj_law_cause.proofs.bindings.Lines.{IsLined}
use Rattle.arj_law_cause.proofs.bindings.Since.{IsActiveIn, met_in}

number_is : (b c : Binding) → b.count < 4294967296 → c.count < 4294967296 → binding_number b ≡ binding_number c → b ≡ c
number_is b c small low is = λ i. record { inc = incs b.inc c.inc b.count c.count small low is i; count = counts i }
  where
    incs : (m n p q : ℕ) → p < 4294967296 → q < 4294967296 → m * 4294967296 + p ≡ n * 4294967296 + q → m ≡ n
    incs m n p q small low is = omega (arith, small, low, is)

    rest : (m n p q : ℕ) → m ≡ n → m * 4294967296 + p ≡ n * 4294967296 + q → p ≡ q
    rest m n p q same is = omega (arith, same, is)

    counts : b.count ≡ c.count
    counts = rest b.inc c.inc b.count c.count (incs b.inc c.inc b.count c.count small low is) is

module _ (st : Start) (ls : List Line) (given : IsGiven st ls) where
  low : HasFewBindings ls → (n : ℕ) → n ≤ bindings_made ls → n < 4294967296
  low few n le = under n (bindings_made ls) le few
    where
      under : (m k : ℕ) → m ≤ k → k < 4294967295 → m < 4294967296
      under m k le few = omega (arith, le, few)

  pub one_binding : HasFewBindings ls → (x y : ℕ) (b c : Binding) (s t : ℕ) → IsLined ls x b s → IsLined ls y c t →
      binding_eq b c ≡ true → b ≡ c
  one_binding few x y b c s t lb lc same = number_is b c (low few b.count (given.small x b s lb)) (low few c.count (given.small y c t lc))
      (eqb-true (binding_number b) (binding_number c) same)

  -- a copy under one was under the other, at its server
  pub met_alike : (x : ℕ) (b c : Binding) (s t i : ℕ) → binding_eq b c ≡ true → IsLined ls x b s → IsLined ls x c t →
      met_in st ls x c t i → met_in st ls x b s i
  met_alike x b c s t i same lb lc met few =
      let is : b ≡ c = one_binding few x x b c s t lb lc same in
      let server : s ≡ t = (given.one x x c s t (subst (λ z. IsLined ls x z s) is lb) lc).1 in
      subst (λ z. IsActiveIn st ls z x b i) (sym server) (subst (λ z. IsActiveIn st ls t x z i) (sym is) (met few))
