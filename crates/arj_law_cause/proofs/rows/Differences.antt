-- What a row finds of a difference: incarnations that showed since a call, copies that were active, and bindings that were made.
use Rattle.arj_law_parts.proofs.Words
use Words.{◌≡◌, ◌⊎◌, ◌≤◌, ◌<◌, ◌∙◌, ◌==◌, ◌++◌, ◌&&◌, ◌||◌, ℕ, suc, Bool, true, false, List, [], ◌∷◌, length, refl, sym, ap, inl, inr}
use Words.{arith, nat_tests, nat_lt, and_parts, list_any, Ask, Binding, Line, ObjectState}
use Words.ask
use Words.body
use Rattle.arj_law_runs.specs.calls.Coords.{bare}
use Rattle.arj_model.specs.Actions.{Placed}
use Rattle.arj_model.specs.CauseAnswers.{incs_differ}
use Rattle.arj_model.specs.CauseCopies.{Naming, has_entered_in, may_have_met, namings, same_binding, was_active_in, was_bound}
use Rattle.arj_model.specs.CauseSpans.{Here, from_place}
use Rattle.arj_model.specs.Past.{Asked}
use Rattle.arj_model.specs.Actions.{root_in}
use Rattle.arj_model.specs.Refusals.{incarnation}
use Rattle.arj_law_cause.proofs.bindings.Active.{named_from}
use Rattle.arj_law_cause.proofs.bindings.Lines.{IsLined}
use Rattle.arj_law_cause.proofs.bindings.Since.{AreLow, IsActiveIn, active_then}
use Rattle.arj_law_cause.proofs.rows.Spans.{or_first, shown_from}

-- ---- requests

pub activate_is : (a : Ask) (b : Binding) (u : ObjectState) → bare a ≡ ask.Activate b u → a ≡ ask.Activate b u
activate_is (ask.Invoke y c j ends p) b u is = absurd (cc is)
activate_is a b u is = is

pub record_is : (a : Ask) (x : ℕ) (b : Binding) (i g : ℕ) → bare a ≡ ask.Record x b i g → a ≡ ask.Record x b i g
record_is (ask.Invoke y c j ends p) x b i g is = absurd (cc is)
record_is a x b i g is = is

-- ---- bindings that were made

any_too : {A : Type 0} (f g : A → Bool) → ((a : A) → f a ≡ true → g a ≡ true) → (xs : List A) → list_any f xs ≡ true →
    list_any g xs ≡ true
any_too f g to [] is = is
any_too f g to (x ∷ xs) is = by (any_too f g to xs) (f x) refl is
  where
    or_last : (a : Bool) {b : Bool} → b ≡ true → (a || b) ≡ true
    or_last true h = refl
    or_last false h = h

    by : (list_any f xs ≡ true → list_any g xs ≡ true) → (b : Bool) → f x ≡ b → (b || list_any f xs) ≡ true →
        (g x || list_any g xs) ≡ true
    by ih true e h = λ i. to x e i || list_any g xs
    by ih false e h = or_last (g x) (ih h)

pub bound_then : (ls : List Line) (x : ℕ) (b : Binding) (s : ℕ) → IsLined ls x b s → was_bound ls x b ≡ true
bound_then ls x b s lined = any_too (λ m. (m.it.x == x) && (same_binding m.it.binding b && (m.it.server == s)))
    (λ m. (m.it.x == x) && same_binding m.it.binding b) both (namings ls) (named_from x b s [] 0 ls lined.0 lined.1)
  where
    both : (m : Placed Naming) → ((m.it.x == x) && (same_binding m.it.binding b && (m.it.server == s))) ≡ true →
        ((m.it.x == x) && same_binding m.it.binding b) ≡ true
    both m is =
        let p = and_parts (m.it.x == x) (same_binding m.it.binding b && (m.it.server == s)) is in
        let q = and_parts (same_binding m.it.binding b) (m.it.server == s) p.1 in
        λ i. p.0 i && q.0 i

-- ---- incarnations that showed

-- a line stands behind these lines, or among them
pub behind : (before after pre : List Line) (l : Line) (post : List Line) → before ++ after ≡ pre ++ l ∷ post →
    (length before ≤ length pre) ⊎ ((rest : List Line) × (before ≡ pre ++ l ∷ rest))
behind [] after pre l post is = inl (low (length pre))
  where
    low : (n : ℕ) → 0 ≤ n
    low n = omega arith
behind (b ∷ before) after [] l post is = inr (before, λ i. first_or l (is i) ∷ before)
  where
    first_or : Line → List Line → Line
    first_or m [] = m
    first_or m (n ∷ ns) = n
behind (b ∷ before) after (p ∷ pre) l post is = by (behind before after pre l post (ap rest_of is))
  where
    rest_of : List Line → List Line
    rest_of [] = []
    rest_of (n ∷ ns) = ns

    first_or : List Line → Line
    first_or [] = l
    first_or (n ∷ ns) = n

    up : (m n : ℕ) → m ≤ n → suc m ≤ suc n
    up m n le = omega (arith, le)

    by : (length before ≤ length pre) ⊎ ((rest : List Line) × (before ≡ pre ++ l ∷ rest)) →
        (length (b ∷ before) ≤ length (p ∷ pre)) ⊎ ((rest : List Line) × ((b ∷ before) ≡ (p ∷ pre) ++ l ∷ rest))
    by (inl le) = inl (up (length before) (length pre) le)
    by (inr r) = inr (r.0, λ i. first_or (is i) ∷ r.1 i)

module _ (h : Here) (q : Asked) (n x : ℕ) where
  -- the older incarnation had a copy, and the other one showed since the call
  pub two_differ : (had now : ℕ) (b : Binding) → had < now → IsActiveIn h.start h.lines n x b had →
      from_place h q.at (λ before. incarnation h.start before n == now) ≡ true → incs_differ h q n x had now ≡ true
  two_differ had now b less met shown = λ i. lower had now less i && (shown i && may_have i)
    where
      lower : (j k : ℕ) → j < k → nat_lt j k ≡ true
      lower j k is = grind (arith, nat_tests, is)

      may_have : may_have_met h.start h.lines n x (root_in q.path) had ≡ true
      may_have = or_first (was_active_in h.start h.lines n x had) ((n == 1) && has_entered_in h.start h.lines x (root_in q.path) had)
          (active_then h.start h.lines n x b had met)

  -- it showed at a place since then
  pub shown_at : (before after : List Line) → h.lines ≡ before ++ after → q.at ≤ length before → (now : ℕ) →
      incarnation h.start before n ≡ now → from_place h q.at (λ ls. incarnation h.start ls n == now) ≡ true
  shown_at before after are late now is =
      shown_from h q.at (λ ls. incarnation h.start ls n == now) before after are late (ap (λ j. j == now) is ∙ itself now)
    where
      itself : (j : ℕ) → (j == j) ≡ true
      itself j = grind (arith, nat_tests)

  -- an incarnation above that of these lines showed behind them, if a copy became active in it
  pub shown_later : (before after : List Line) → h.lines ≡ before ++ after → q.at ≤ length before → AreLow h.start before → (i j : ℕ) →
      incarnation h.start before n ≡ i → i < j → (b : Binding) → IsActiveIn h.start h.lines n x b j →
      from_place h q.at (λ ls. incarnation h.start ls n == j) ≡ true
  shown_later before after are late low i j now above b met =
      by (behind before after met.0 (record { event = met.1; body = body.Active n x b }) met.2 (sym are ∙ met.3))
    where
      far : (k m l : ℕ) → k ≤ m → m ≤ l → k ≤ l
      far k m l a c = omega (arith, a, c)

      never : j ≤ incarnation h.start before n → ⊥
      never le = under (incarnation h.start before n) now le
        where
          under : (m : ℕ) → m ≡ i → j ≤ m → ⊥
          under m same le = omega (arith, same, le, above)

      by : (length before ≤ length met.0) ⊎ ((rest : List Line) × (before ≡ met.0 ++ (record { event = met.1; body = body.Active n x b })
          ∷ rest)) →
          from_place h q.at (λ ls. incarnation h.start ls n == j) ≡ true
      by (inl le) = shown_at met.0 (record { event = met.1; body = body.Active n x b } ∷ met.2) met.3 (far q.at (length before) (length
          met.0) late le) j met.4
      by (inr r) = absurd (never (low.low n x b j (met.0, met.1, r.0, r.1, met.4)))
