-- An include of one unit and a call, or another include, of another one: they take turns, since both hold the entry.
use Rattle.arj_law_parts.proofs.Words.{◌≡◌, ◌≢◌, ◌≤◌, ◌<◌, ◌⊎◌, ℕ, ◌+◌, true, inl, inr, refl, sym, ◌∙◌, ap, subst, arith}
use Rattle.arj_law_serial.proofs.Terms
use Terms.{root, Closes, IsEntryWritten, OfUnit, Guard, Run, next, start, stay, step, stopped, Answer, Call, Include, State, Answered}
use Terms.{Event, Included, Survives, Holds, run_keeps, start_holds, step_keeps, is_entry_written, is_held, act_cases, on_root, RootsLow}
use Terms.{roots_low, start_low}
use Rattle.arj_law_lock.specs.machine.{Actions.Act, Actions.In, Actions.is_top, State.Action}

-- runs go on
run_more : {s t u : State} → Run s t → Run t u → Run s u
run_more stay r = r
run_more (step e guard rest) r = step e guard (run_more rest r)

-- ---- the state behind a line

-- The state in which a call or an include has just come: all commits that were called by then were called before its line.
record IsJustBehind (line : ℕ) (s u t : State) : Type 0 where
  before : Run s u
  behind : Run u t
  now : u.now ≡ line + 1
  called : (m : Act) → is_top m ≡ true → 1 ≤ (u.action m).stage → (u.action m).place < line

earlier : {line : ℕ} {r s u t : State} → Run r s → IsJustBehind line s u t → IsJustBehind line r u t
earlier run j = record { before = run_more run j.before; behind = j.behind; now = j.now; called = j.called }

-- the state just behind an answered call
answered_behind : (s t : State) (r : Answer) (p : ℕ) → Guard (Answered r p) s → Holds s → Run (next (Answered r p) s) t →
    IsJustBehind p s (next (Answered r p) s) t
answered_behind s t r p guard h rest = record {
  before = step (Answered r p) guard stay;
  behind = rest;
  now = refl;
  called = λ m top.
      act_cases (λ (b : Act) (v : Action). is_top b ≡ true → 1 ≤ v.stage →
      v.place < p) s.action r.request.act (stopped (s.action r.request.act))
      (λ is one. below (r.request.act) is) (λ b other is one. below b is) m top;
}
  where
    below : (b : Act) → is_top b ≡ true → (s.action b).place < p
    below b is = let l = (h.tops b is).before in let n = guard.4 in omega (arith, l, n)

included_behind : (s t : State) (a : Act) (g p : ℕ) → Guard (Included a g p) s → Holds s → Run (next (Included a g p) s) t →
    IsJustBehind p s (next (Included a g p) s) t
included_behind s t a g p guard h rest = record {
  before = step (Included a g p) guard stay;
  behind = rest;
  now = refl;
  called = λ m top one. (let l = (h.tops m top).before in let n = guard.3 in omega (arith, l, n));
}

-- a call came in some step, or was there
call_came : {s t : State} (c : Call) → Run s t → Holds s → In c t.calls →
    In c s.calls ⊎ ((u : State) × IsJustBehind c.line s u t × In c u.calls)
call_came c stay h i = inl i
call_came {s} {t} c (step e guard rest) h i = by (call_came c rest (step_keeps e s guard h).1 i)
  where
    one : (f : Event) (g : Guard f s) → Run (next f s) t → In c (next f s).calls →
        In c s.calls ⊎ ((u : State) × IsJustBehind c.line s u t × In c u.calls)
    one (Answered r p) g run (inl is) = inr (
      next (Answered r p) s,
      subst (λ (n : ℕ). IsJustBehind n s (next (Answered r p) s) t) (sym (ap (λ (d : Call). d.line) is)) (answered_behind s t r p g h run),
      inl is,
    )
    one (Answered r p) g run (inr old) = inl old
    one f g run j = inl j

    by : In c (next e s).calls ⊎ ((u : State) × IsJustBehind c.line (next e s) u t × In c u.calls) →
        In c s.calls ⊎ ((u : State) × IsJustBehind c.line s u t × In c u.calls)
    by (inl j) = one e guard rest j
    by (inr (u, j, k)) = inr (u, earlier (step e guard stay) j, k)

include_came : {s t : State} (c : Include) → Run s t → Holds s → In c t.includes →
    In c s.includes ⊎ ((u : State) × IsJustBehind c.line s u t × In c u.includes)
include_came c stay h i = inl i
include_came {s} {t} c (step e guard rest) h i = by (include_came c rest (step_keeps e s guard h).1 i)
  where
    one : (f : Event) (g : Guard f s) → Run (next f s) t → In c (next f s).includes →
        In c s.includes ⊎ ((u : State) × IsJustBehind c.line s u t × In c u.includes)
    one (Included a grant p) g run (inl is) = inr (
      next (Included a grant p) s,
      subst (λ (n : ℕ). IsJustBehind n s (next (Included a grant p) s) t) (sym (ap (λ (d : Include). d.line) is))
          (included_behind s t a grant p g h run),
      inl is,
    )
    one (Included a grant p) g run (inr old) = inl old
    one f g run j = inl j

    by : In c (next e s).includes ⊎ ((u : State) × IsJustBehind c.line (next e s) u t × In c u.includes) →
        In c s.includes ⊎ ((u : State) × IsJustBehind c.line s u t × In c u.includes)
    by (inl j) = one e guard rest j
    by (inr (u, j, k)) = inr (u, earlier (step e guard stay) j, k)

-- who came later has a later line
call_back : {u t : State} (c : Call) → Run u t → Holds u → In c t.calls → c.line < u.now → In c u.calls
call_back c stay h i less = i
call_back c (step e guard rest) h i less =
    let k = step_keeps e _ guard h in
    let l = k.0 in
    let now = l.now in
    elim (l.fresh_call c (call_back c rest k.1 i (omega (arith, less, now))))
    [ inl old ↦ old | inr fresh ↦ absurd (let late = fresh.1 in omega (arith, late, less)) ]

include_back : {u t : State} (c : Include) → Run u t → Holds u → In c t.includes → c.line < u.now → In c u.includes
include_back c stay h i less = i
include_back c (step e guard rest) h i less =
    let k = step_keeps e _ guard h in
    let l = k.0 in
    let now = l.now in
    elim (l.fresh_include c (include_back c rest k.1 i (omega (arith, less, now))))
    [ inl old ↦ old | inr fresh ↦ absurd (let late = fresh.1 in omega (arith, late, less)) ]

later_place : {S T : State} → Run S T → Holds S → (a : Act) → 1 ≤ (S.action a).stage → (T.action a).place ≡ (S.action a).place
later_place stay h a one = refl
later_place (step e guard rest) h a one =
    let k = step_keeps e _ guard h in
    let l = k.0 in
    let more = l.stage a in
    later_place rest k.1 a (omega (arith, one, more)) ∙ l.place a one

unit_root : (a h : Act) → OfUnit a h → root h ≡ root a
unit_root a h (inl is) = ap root is
unit_root a h (inr (is, e)) = e

module _ (v : ℕ) (t : State) (run : Run (start v) t) where
  cases : (n : ℕ) → (n ≡ 0) ⊎ (1 ≤ n)
  cases n = grind arith

  -- just behind a line, a top whose commit was called later isn't called yet
  zero_at : (line : ℕ) (u : State) → IsJustBehind line (start v) u t → (m : Act) → is_top m ≡ true → line < (t.action m).place →
      (u.action m).stage ≡ 0
  zero_at line u j m is late = elim (cases (u.action m).stage) [
    | inl zero ↦ zero
    | inr one ↦ absurd (let c = j.called m is one in let p = later_place j.behind (run_keeps j.before (start_holds v)) m one in
        omega (arith, c, p, late))
  ]

  -- both hold the entry there: so the first one's unit was called before
  clash : (u : State) → Holds u → (a b : Act) → root a ≢ root b → ((h : Act) × OfUnit a h × (2 ≤ u.naming.rows h)) →
      ((h : Act) × OfUnit b h × (1 ≤ u.naming.rows h)) → {P : Type 0} → P
  clash u h a b apart (x, of_a, two) (y, of_b, one) = absurd (elim (h.naming.apart x y two one) [
    | inl o ↦ apart (sym (unit_root a x of_a) ∙ on_root x y o ∙ unit_root b y of_b)
    | inr o ↦ apart (sym (unit_root a x of_a) ∙ sym (on_root y x o) ∙ unit_root b y of_b)
  ])

  -- An include came before a call of another unit: the last commit of its unit was called before the call's line.
  pub include_then_call : (k : Include) (d : Call) (m n : Act) → In k t.includes → In d t.calls → k.line ≤ d.line → Survives t k.act →
      Survives t d.act → root k.act ≢ root d.act → Closes t m k.act → Closes t n d.act → d.line < (t.action n).place →
      (t.action m).place ≤ d.line
  include_then_call k d m n i j less sk sd apart cm cn late = by (call_came d run (start_holds v) j)
    where
      by : In d (start v).calls ⊎ ((u : State) × IsJustBehind d.line (start v) u t × In d u.calls) → (t.action m).place ≤ d.line
      by (inl e) = absurd e
      by (inr (u, b, there)) = elim (le_cases (t.action m).place d.line) [
        | inl fine ↦ fine
        | inr late_m ↦ clash u hu k.act d.act apart
            (is_entry_written b.behind hu low k m (include_back k b.behind hu i (let e = b.now in omega (arith, e, less))) sk cm
            (zero_at d.line u b m cm.0.0 late_m))
            (let h = is_held b.behind hu low d n there sd cn (zero_at d.line u b n cn.0.0 late) in h.entry)
      ]
        where
          hu : Holds u
          hu = run_keeps b.before (start_holds v)

          low : RootsLow u
          low = roots_low b.before (start_low v)

          le_cases : (x y : ℕ) → (x ≤ y) ⊎ (y < x)
          le_cases x y = grind arith

  -- and the other way round
  pub call_then_include : (d : Call) (k : Include) (n m : Act) → In d t.calls → In k t.includes → d.line < k.line → Survives t d.act →
      Survives t k.act → root k.act ≢ root d.act → Closes t n d.act → Closes t m k.act → k.line < (t.action m).place →
      (t.action n).place ≤ k.line
  call_then_include d k n m j i less sd sk apart cn cm late = by (include_came k run (start_holds v) i)
    where
      by : In k (start v).includes ⊎ ((u : State) × IsJustBehind k.line (start v) u t × In k u.includes) → (t.action n).place ≤ k.line
      by (inl e) = absurd e
      by (inr (u, b, there)) = elim (le_cases (t.action n).place k.line) [
        | inl fine ↦ fine
        | inr late_n ↦ clash u hu k.act d.act apart
            (is_entry_written b.behind hu low k m there sk cm (zero_at k.line u b m cm.0.0 late))
            (let h = is_held b.behind hu low d n (call_back d b.behind hu j (let e = b.now in omega (arith, e, less))) sd cn
            (zero_at k.line u b n cn.0.0 late_n) in h.entry)
      ]
        where
          hu : Holds u
          hu = run_keeps b.before (start_holds v)

          low : RootsLow u
          low = roots_low b.before (start_low v)

          le_cases : (x y : ℕ) → (x ≤ y) ⊎ (y < x)
          le_cases x y = grind arith

  -- two includes
  pub include_then_include : (k l : Include) (m n : Act) → In k t.includes → In l t.includes → k.line ≤ l.line → Survives t k.act → Survives
      t l.act → root k.act ≢ root l.act → Closes t m k.act → Closes t n l.act → l.line < (t.action n).place → (t.action m).place ≤ l.line
  include_then_include k l m n i j less sk sl apart cm cn late = by (include_came l run (start_holds v) j)
    where
      weaker : (u : State) → IsEntryWritten u l → (h : Act) × OfUnit l.act h × (1 ≤ u.naming.rows h)
      weaker u (h, o, two) = (h, o, omega (arith, two))

      by : In l (start v).includes ⊎ ((u : State) × IsJustBehind l.line (start v) u t × In l u.includes) → (t.action m).place ≤ l.line
      by (inl e) = absurd e
      by (inr (u, b, there)) = elim (le_cases (t.action m).place l.line) [
        | inl fine ↦ fine
        | inr late_m ↦ clash u hu k.act l.act apart
            (is_entry_written b.behind hu low k m (include_back k b.behind hu i (let e = b.now in omega (arith, e, less))) sk cm
            (zero_at l.line u b m cm.0.0 late_m))
            (weaker u (is_entry_written b.behind hu low l n there sl cn (zero_at l.line u b n cn.0.0 late)))
      ]
        where
          hu : Holds u
          hu = run_keeps b.before (start_holds v)

          low : RootsLow u
          low = roots_low b.before (start_low v)

          le_cases : (x y : ℕ) → (x ≤ y) ⊎ (y < x)
          le_cases x y = grind arith
