-- A server that votes for a change differs so from what the commit uses there: of one object at least, by the journal.
use Rattle.arj_law_parts.proofs.Words
use Words.{◌≡◌, ◌⊎◌, ◌≤◌, ◌∙◌, ◌==◌, ◌&&◌, nat_le, ℕ, Bool, true, false, if◌then◌else◌, List, [], ◌∷◌, map, filter, min, Option, Some, None}
use Words.{refl, sym, ap, subst, inl, inr, arith, nat_tests, and_parts, eqb-true, in_filter, in_map, In, Binding, Line, Start, What, Used}
use Words.{at_number, changed_by, changed_copy, either, first_unbound, is_at_server, least_of}
use Words.what
use Rattle.arj_law_lock_view.proofs.facts.LowGrants.{map_in}
use Rattle.arj_law_runs.specs.calls.Bindings.{HasFewBindings}
use Rattle.arj_model.specs.Refusals.{incarnation}
use Rattle.arj_law_cause.proofs.bindings.{Lines.IsLined, Since.IsActiveIn}
use Rattle.arj_law_cause.proofs.confirm.{Changes.IsVoted, Planned.kept_in, Planned.least_in}
use Rattle.arj_law_cause.proofs.rows.Differing.{Differs, differs_now}

-- the least of some numbers isn't above any
least_low : (ns : List ℕ) (m : ℕ) → In m ns → least_of ns ≤ m
least_low [] m i = absurd i
least_low (n ∷ []) m (inl same) = subst (λ k. n ≤ k) same (itself n)
  where
    itself : (k : ℕ) → k ≤ k
    itself k = omega arith
least_low (n ∷ []) m (inr i) = absurd i
least_low (n ∷ l ∷ ns) m i = by (least_low (l ∷ ns) m) (nat_le n (least_of (l ∷ ns))) refl i
  where
    left : (a b : ℕ) → nat_le a b ≡ true → min a b ≡ a
    left a b is = grind (arith, is)

    right : (a b : ℕ) → nat_le a b ≡ false → min a b ≡ b
    right a b is = grind (arith, is)

    up_to : (a b : ℕ) → nat_le a b ≡ true → a ≤ b
    up_to a b is = grind (arith, is)

    above : (a b : ℕ) → nat_le a b ≡ false → b ≤ a
    above a b is = grind (arith, is)

    itself : (k : ℕ) → k ≤ k
    itself k = omega arith

    far : (a b c : ℕ) → a ≤ b → b ≤ c → a ≤ c
    far a b c p q = omega (arith, p, q)

    by : (In m (l ∷ ns) → least_of (l ∷ ns) ≤ m) → (b : Bool) → nat_le n (least_of (l ∷ ns)) ≡ b → (n ≡ m) ⊎ In m (l ∷ ns) →
        min n (least_of (l ∷ ns)) ≤ m
    by ih true is (inl same) = subst (λ k. k ≤ m) (sym (left n (least_of (l ∷ ns)) is)) (subst (λ k. n ≤ k) same (itself n))
    by ih true is (inr j) = subst (λ k. k ≤ m) (sym (left n (least_of (l ∷ ns)) is))
        (far n (least_of (l ∷ ns)) m (up_to n (least_of (l ∷ ns)) is) (ih j))
    by ih false is (inl same) = subst (λ k. k ≤ m) (sym (right n (least_of (l ∷ ns)) is))
        (subst (λ k. least_of (l ∷ ns) ≤ k) same (above n (least_of (l ∷ ns)) is))
    by ih false is (inr j) = subst (λ k. k ≤ m) (sym (right n (least_of (l ∷ ns)) is)) (ih j)

module _ (st : Start) (n : ℕ) (w : What) (before : List Line) (us : List Used)
    (some : (u : Used) × In u us × (u.called ≡ true) × (u.server ≡ n))
    (each : (u : Used) → In u us → u.called ≡ true → u.server ≡ n → IsLined before u.x u.binding n
    × IsActiveIn st before n u.x u.binding u.inc) (few : HasFewBindings before)
    (v : IsVoted st n (least_of (map (λ (u : Used). u.inc) (filter (is_at_server n) us)))
    (map {A = Used} {B = ℕ × Binding} (λ u. (u.x, u.binding)) (filter (is_at_server n) us)) w before) where
  abbrev there : List Used
  there = filter (is_at_server n) us

  abbrev i : ℕ
  i = least_of (map (λ (u : Used). u.inc) (filter (is_at_server n) us))

  its : (u : Used) → In u (filter (is_at_server n) us) → In u us × (u.called ≡ true) × (u.server ≡ n)
  its u j = let f = in_filter (is_at_server n) u us j in
      let p = and_parts u.called (u.server == n) f.1 in (f.0, p.0, eqb-true u.server n p.1)

  known : (u : Used) → In u (filter (is_at_server n) us) → IsLined before u.x u.binding n × IsActiveIn st before n u.x u.binding u.inc
  known u j = let z = its u j in each u z.0 z.1 z.2

  -- the one of the least incarnation
  first : (u : Used) × In u (filter (is_at_server n) us) × (u.inc ≡ least_of (map (λ (u : Used). u.inc) (filter (is_at_server n) us)))
  first =
      let at : In some.0 (filter (is_at_server n) us) = kept_in (is_at_server n) some.0 us some.1 (is_at (let u = some.0 in u.called)
      (let u = some.0 in u.server) some.2 some.3) in
      in_map (λ (u : Used). u.inc) (least_of (map (λ (u : Used). u.inc) (filter (is_at_server n) us))) (filter (is_at_server n) us)
      (least_in (map (λ (u : Used). u.inc) (filter (is_at_server n) us)) (let u = some.0 in u.inc)
      (map_in (λ (u : Used). u.inc) some.0 (filter (is_at_server n) us) at))
    where
      is_at : (b : Bool) (s : ℕ) → b ≡ true → s ≡ n → (b && (s == n)) ≡ true
      is_at b s on same = λ j. on j && (ap (λ k. k == n) same ∙ itself n) j
        where
          itself : (k : ℕ) → (k == k) ≡ true
          itself k = grind (arith, nat_tests)

  -- a tie whose copy is another one
  unbound : (ts : List Used) → first_unbound (map {A = Used} {B = ℕ × Binding} (λ u. (u.x, u.binding)) ts) v.server ≡ Some w →
      (u : Used) × In u ts × (changed_copy u.binding (at_number u.x (let s = v.server in s.objects)) ≡ Some w)
  unbound [] is = absurd (cc is)
  unbound (t ∷ ts) is = by (changed_copy t.binding (at_number t.x (let s = v.server in s.objects))) refl is (unbound ts)
    where
      by : (o : Option What) → changed_copy t.binding (at_number t.x (let s = v.server in s.objects)) ≡ o →
          either o (first_unbound (map {A = Used} {B = ℕ × Binding} (λ u. (u.x, u.binding)) ts) v.server) ≡ Some w →
          (first_unbound (map {A = Used} {B = ℕ × Binding} (λ u. (u.x, u.binding)) ts) v.server ≡ Some w →
          (u : Used) × In u ts × (changed_copy u.binding (at_number u.x (let s = v.server in s.objects)) ≡ Some w)) →
          (u : Used) × In u (t ∷ ts) × (changed_copy u.binding (at_number u.x (let s = v.server in s.objects)) ≡ Some w)
      by None at h ih = let z = ih h in (z.0, inr z.1, z.2)
      by (Some q) at h ih = (t, inl refl, at ∙ h)

  -- of the one it differs
  abbrev Result : Type 0
  Result = (u : Used) × In u us × (u.server ≡ n) × Differs st n u.x w before
      × ((j k : ℕ) → w ≡ what.Inc j k → IsActiveIn st before n u.x u.binding j)

  of_one : (u : Used) → In u (filter (is_at_server n) us) →
      u.inc ≡ least_of (map (λ (u : Used). u.inc) (filter (is_at_server n) us)) →
      changed_by (least_of (map (λ (u : Used). u.inc) (filter (is_at_server n) us))) u.x u.binding v.server ≡ Some w → Result
  of_one u j same changed =
      let z = its u j in
      let g = known u j in
      let met : IsActiveIn st before n u.x u.binding (least_of (map (λ (q : Used). q.inc) (filter (is_at_server n) us))) =
      subst (IsActiveIn st before n u.x u.binding) same g.1 in
      let d = differs_now st n v.server before v.given v.low v.had v.level few u.x u.binding g.0
      (least_of (map (λ (q : Used). q.inc) (filter (is_at_server n) us))) (inr (λ f. met)) w changed in (
        u,
        z.0,
        z.2,
        d.0,
        λ a b is. subst (IsActiveIn st before n u.x u.binding) (sym (d.1 a b is)) met,
      )

  pub voted_differs : Result
  voted_differs = by (i == (let s = v.server in s.inc)) refl v.differs
    where
      by : (b : Bool) → (i == (let s = v.server in s.inc)) ≡ b →
          either (if b then None else Some (what.Inc i (let s = v.server in s.inc)))
          (first_unbound (map {A = Used} {B = ℕ × Binding} (λ u. (u.x, u.binding)) (filter (is_at_server n) us)) v.server) ≡ Some w →
          Result
      by false off found =
          let u = first in
          of_one u.0 u.1 u.2 ((λ j. either (if off j then None else Some (what.Inc i (let s = v.server in s.inc)))
          (changed_copy (let q = u.0 in q.binding) (at_number (let q = u.0 in q.x) (let s = v.server in s.objects)))) ∙ found)
      by true on found =
          let u = unbound (filter (is_at_server n) us) found in
          of_one u.0 u.1 (level (let q = u.0 in q.inc) (incarnation st before n)
          (least_low (map (λ (q : Used). q.inc) (filter (is_at_server n) us)) (let q = u.0 in q.inc)
          (map_in (λ (q : Used). q.inc) u.0 (filter (is_at_server n) us) u.1))
          (let q = u.0 in v.low.low n q.x q.binding q.inc (known u.0 u.1).1) (v.level ∙ sym (eqb-true i (let s = v.server in s.inc) on)))
          ((λ j. either (if on j then None else Some (what.Inc i (let s = v.server in s.inc)))
          (changed_copy (let q = u.0 in q.binding) (at_number (let q = u.0 in q.x) (let s = v.server in s.objects)))) ∙ u.2)
        where
          level : (a m : ℕ) → i ≤ a → a ≤ m → m ≡ i → a ≡ i
          level a m low high same = omega (arith, low, high, same)
