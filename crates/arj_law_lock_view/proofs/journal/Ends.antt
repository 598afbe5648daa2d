-- How far an action is, with one line more.
use Rattle.arj_law_parts.proofs.Words
use Words.{◌≡◌, ◌≤◌, ◌<◌, ◌⊎◌, ◌==◌, ◌&&◌, ◌||◌, ℕ, ◌+◌, List, length, Bool, true, false, nat_lt, Some, refl, sym, ◌∙◌, ap, subst, inl, inr}
use Words.{⊎_elim, arith, eqb-true, eq-eqb, ltb-true, list_any, and_parts, uid_same, uid_eq, Uid, Body, Line, In, in_from, in_to}
use Rattle.arj_law_lock_view.proofs.Terms
use Terms.{Halt, Placed, acts, committed_of, ended_of, halt_of, recovered, recovered_of, called_of, EndsSo, IsDecidedAt}
use Terms.machine
use Rattle.arj_law_lock_view.proofs.journal.Reading.{any_from, any_to, in_cases, in_new, in_old, length_more, more}
use Rattle.arj_law_runs.specs.journal.Laws.{IsDone, called}
use Rattle.arj_model.specs.Actions.{Act, committed, ended, halts, has_end, is_halted, is_over}

-- ---- ends, as they are listed

pub end_there : (ends : List (Placed ℕ)) (id : ℕ) → has_end ends id ≡ true → (e : Placed ℕ) × In e ends × (e.it ≡ id)
end_there ends id h = let r = any_to (λ (e : Placed ℕ). e.it == id) ends h in (r.0, r.1, eqb-true (let e = r.0 in e.it) id r.2)

pub there_end : (ends : List (Placed ℕ)) (id : ℕ) (e : Placed ℕ) → In e ends → e.it ≡ id → has_end ends id ≡ true
there_end ends id e i is = any_from (λ (e : Placed ℕ). e.it == id) ends e i (eq-eqb e.it id is)

or_left : (a b : Bool) → a ≡ true → (a || b) ≡ true
or_left true b is = refl
or_left false b is = absurd (cc is)

or_right : (a b : Bool) → b ≡ true → (a || b) ≡ true
or_right true b is = refl
or_right false b is = is

or_cases : (a b : Bool) → (a || b) ≡ true → (a ≡ true) ⊎ (b ≡ true)
or_cases true b is = inl refl
or_cases false b is = inr is

-- what halts
pub halt_there : (hs : List (Placed Halt)) (a : Act) → is_halted hs a ≡ true →
    (h : Placed Halt) × In h hs × ((let k = h.it in k.node) ≡ (let u = a.uid in u.node)) × (a.id < (let k = h.it in k.begun))
halt_there hs a is =
    let r = any_to (λ (h : Placed Halt). (h.it.node == a.uid.node) && nat_lt a.id h.it.begun) hs is in
    let h = r.0 in
    let two = and_parts (h.it.node == a.uid.node) (nat_lt a.id h.it.begun) r.2 in
    (r.0, r.1, eqb-true h.it.node a.uid.node two.0, ltb-true a.id h.it.begun two.1)

-- ---- one action

-- An action's part of the machine changes beside a line, as that asks.
pub record Moves (lines : List Line) (b : Body) (a : Act) (m n : machine.Action) : Type 0 where
  pub called : 1 ≤ m.stage → (n.place ≡ m.place) × (1 ≤ n.stage)
  pub calls : called_of (acts lines) b ≡ Some a.id → (n.place ≡ length lines + 1) × (1 ≤ n.stage)
  pub done : m.stage ≡ 3 → (n.stage ≡ 3) × (n.done ≡ m.done)
  pub commits : committed_of (acts lines) b ≡ Some a.id → (n.stage ≡ 3) × (n.done ≡ length lines + 1)
  pub finds : recovered_of (acts lines) b ≡ Some a.uid → (n.stage ≡ 3) × (n.done ≤ length lines + 1)
  pub only : n.stage ≡ 3 → (m.stage ≡ 3)
      ⊎ (((committed_of (acts lines) b ≡ Some a.id) ⊎ (recovered_of (acts lines) b ≡ Some a.uid)) × (n.done ≡ length lines + 1))
  pub gone : n.stage ≡ 4 → (m.stage ≡ 4) ⊎ ((ended_of (acts lines) b ≡ Some a.id)
      ⊎ ((h : Halt) × (halt_of (acts lines) b ≡ Some h) × (h.node ≡ (let u = a.uid in u.node)) × (a.id < h.begun)))
  pub over : 3 ≤ m.stage → 3 ≤ n.stage
  pub ends : ended_of (acts lines) b ≡ Some a.id → 3 ≤ n.stage
  pub half : 2 ≤ m.stage → 2 ≤ n.stage
  pub halts : (h : Halt) → halt_of (acts lines) b ≡ Some h → h.node ≡ (let u = a.uid in u.node) → 2 ≤ n.stage

module _ (lines : List Line) (event : ℕ) (b : Body) (a : Act) (m n : machine.Action) (moves : Moves lines b a m n)
    (was : EndsSo lines a m) where
  abbrev all : List Line
  all = more lines event b

  place_now : (e : Placed ℕ) → In e (called all) → e.it ≡ a.id → (n.place ≡ e.at + 1) × (1 ≤ n.stage)
  place_now e i is = ⊎_elim
      (λ old. let p = was.place e (in_to e (called lines) old) is in let q = moves.called p.1 in (q.0 ∙ p.0, q.1))
      (λ new. let q = moves.calls (new.0 ∙ ap Some is) in (q.0 ∙ ap (λ (k : ℕ). k + 1) (sym new.1), q.1))
      (in_cases called_of lines event b e i)

  commit_now : (e : Placed ℕ) → In e (committed all) → e.it ≡ a.id → (n.stage ≡ 3) × (n.done ≡ e.at + 1)
  commit_now e i is = ⊎_elim
      (λ old. let p = was.commit e (in_to e (committed lines) old) is in let q = moves.done p.0 in (q.0, q.1 ∙ p.1))
      (λ new. let q = moves.commits (new.0 ∙ ap Some is) in (q.0, q.1 ∙ ap (λ (k : ℕ). k + 1) (sym new.1)))
      (in_cases committed_of lines event b e i)

  found_now : (e : Placed Uid) → In e (recovered all) → e.it ≡ a.uid → (n.stage ≡ 3) × (n.done ≤ e.at + 1)
  found_now e i is = ⊎_elim
      (λ old. let p = was.found e (in_to e (recovered lines) old) is in let q = moves.done p.0 in let d = q.1 in let l = p.1 in
      (q.0, omega (arith, d, l)))
      (λ new. let q = moves.finds (new.0 ∙ ap Some is) in let l = q.1 in let k = new.1 in (q.0, omega (arith, l, k)))
      (in_cases recovered_of lines event b e i)

  -- it was committed, and is
  done_still : IsDone lines a → IsDone all a
  done_still h = ⊎_elim
      (λ ended_so. let e = end_there (committed lines) a.id ended_so in or_left (has_end (committed all) a.id) (list_any (λ (u : Placed
      Uid). uid_eq u.it a.uid) (recovered all)) (there_end (committed all) a.id e.0 (in_old committed_of lines event b e.0 e.1) e.2))
      (λ found_so. let e = any_to (λ (u : Placed Uid). uid_eq u.it a.uid) (recovered lines) found_so in
      or_right (has_end (committed all) a.id) (list_any (λ (u : Placed Uid). uid_eq u.it a.uid) (recovered all))
      (any_from (λ (u : Placed Uid). uid_eq u.it a.uid) (recovered all) e.0 (in_old recovered_of lines event b e.0 e.1) e.2))
      (or_cases (has_end (committed lines) a.id) (list_any (λ (u : Placed Uid). uid_eq u.it a.uid) (recovered lines)) h)

  done_new : (committed_of (acts lines) b ≡ Some a.id) ⊎ (recovered_of (acts lines) b ≡ Some a.uid) → IsDone all a
  done_new (inl is) = or_left (has_end (committed all) a.id) (list_any (λ (u : Placed Uid). uid_eq u.it a.uid) (recovered all))
      (there_end (committed all) a.id (record { at = length lines; it = a.id }) (in_new committed_of lines event b a.id is) refl)
  done_new (inr is) = or_right (has_end (committed all) a.id) (list_any (λ (u : Placed Uid). uid_eq u.it a.uid) (recovered all))
      (any_from (λ (u : Placed Uid). uid_eq u.it a.uid) (recovered all) (record { at = length lines; it = a.uid })
      (in_new recovered_of lines event b a.uid is) (uid_same a.uid))

  only_now : n.stage ≡ 3 → IsDone all a × (n.done ≤ length all)
  only_now is = ⊎_elim
      (λ old. let o = was.only old in let d = (moves.done old).1 in let l = o.1 in
      let k = length_more lines (record { event = event; body = b }) in (done_still o.0, omega (arith, d, l, k)))
      (λ new. let l = new.1 in let k = length_more lines (record { event = event; body = b }) in (done_new new.0, omega (arith, l, k)))
      (moves.only is)

  decided_now : n.stage ≡ 3 → IsDecidedAt all a n.done
  decided_now is = ⊎_elim
      (λ old. let d = (moves.done old).1 in subst (IsDecidedAt all a) (sym d) (still (was.decided old)))
      (λ new. by new.0 new.1)
      (moves.only is)
    where
      still : IsDecidedAt lines a m.done → IsDecidedAt all a m.done
      still (inl (e, i, same, at)) =
          inl (e, in_to e (committed all) (in_old committed_of lines event b e (in_from e (committed lines) i)), same, at)
      still (inr (e, i, same, at)) =
          inr (e, in_to e (recovered all) (in_old recovered_of lines event b e (in_from e (recovered lines) i)), same, at)

      by : (committed_of (acts lines) b ≡ Some a.id) ⊎ (recovered_of (acts lines) b ≡ Some a.uid) → n.done ≡ length lines + 1 →
          IsDecidedAt all a n.done
      by (inl is_now) at =
          inl (record { at = length lines; it = a.id }, in_to _ (committed all) (in_new committed_of lines event b a.id is_now), refl, at)
      by (inr is_now) at =
          inr (record { at = length lines; it = a.uid }, in_to _ (recovered all) (in_new recovered_of lines event b a.uid is_now), refl, at)

  halted_at : (h : Placed Halt) → In h (halts all) → (let k = h.it in k.node) ≡ (let u = a.uid in u.node) →
      a.id < (let k = h.it in k.begun) → is_halted (halts all) a ≡ true
  halted_at h i node less = any_from (λ (h : Placed Halt). (h.it.node == a.uid.node) && nat_lt a.id h.it.begun) (halts all) h i
      (both (h.it.node == a.uid.node) (nat_lt a.id h.it.begun) (eq-eqb h.it.node a.uid.node node) (less_is a.id h.it.begun less))
    where
      both : (p q : Bool) → p ≡ true → q ≡ true → (p && q) ≡ true
      both true true h k = refl
      both true false h k = absurd (cc k)
      both false q h k = absurd (cc h)

      less_is : (i j : ℕ) → i < j → nat_lt i j ≡ true
      less_is i j l = grind (arith, l)

  gone_now : n.stage ≡ 4 → is_over all a ≡ true
  gone_now is = ⊎_elim old (λ new. ⊎_elim ends_new halts_new new) (moves.gone is)
    where
      old : m.stage ≡ 4 → is_over all a ≡ true
      old four = ⊎_elim
          (λ e. let p = end_there (ended lines) a.id e in or_left (has_end (ended all) a.id) (is_halted (halts all) a)
          (there_end (ended all) a.id p.0 (in_old ended_of lines event b p.0 p.1) p.2))
          (λ e. let p = halt_there (halts lines) a e in
          or_right (has_end (ended all) a.id) (is_halted (halts all) a) (halted_at p.0 (in_old halt_of lines event b p.0 p.1) p.2 p.3))
          (or_cases (has_end (ended lines) a.id) (is_halted (halts lines) a) (was.gone four))

      ends_new : ended_of (acts lines) b ≡ Some a.id → is_over all a ≡ true
      ends_new e = or_left (has_end (ended all) a.id) (is_halted (halts all) a)
          (there_end (ended all) a.id (record { at = length lines; it = a.id }) (in_new ended_of lines event b a.id e) refl)

      halts_new : (h : Halt) × (halt_of (acts lines) b ≡ Some h) × (h.node ≡ (let u = a.uid in u.node)) × (a.id < h.begun) →
          is_over all a ≡ true
      halts_new (h, e, node, less) = or_right (has_end (ended all) a.id) (is_halted (halts all) a)
          (halted_at (record { at = length lines; it = h }) (in_new halt_of lines event b h e) node less)

  over_now : has_end (ended all) a.id ≡ true → 3 ≤ n.stage
  over_now h =
      let p = end_there (ended all) a.id h in
      ⊎_elim (λ old. moves.over (was.over (there_end (ended lines) a.id p.0 old p.2))) (λ new. moves.ends (new.0 ∙ ap Some p.2))
      (in_cases ended_of lines event b p.0 p.1)

  halted_now : is_halted (halts all) a ≡ true → 2 ≤ n.stage
  halted_now h =
      let p = halt_there (halts all) a h in
      ⊎_elim (λ old. moves.half (was.halted (was_halted p.0 old p.2 p.3))) (λ new. moves.halts (let k = p.0 in k.it) new.0 p.2)
      (in_cases halt_of lines event b p.0 p.1)
    where
      both : (p q : Bool) → p ≡ true → q ≡ true → (p && q) ≡ true
      both true true h k = refl
      both true false h k = absurd (cc k)
      both false q h k = absurd (cc h)

      less_is : (i j : ℕ) → i < j → nat_lt i j ≡ true
      less_is i j l = grind (arith, l)

      was_halted : (h : Placed Halt) → In h (halts lines) → (let k = h.it in k.node) ≡ (let u = a.uid in u.node) →
          a.id < (let k = h.it in k.begun) → is_halted (halts lines) a ≡ true
      was_halted h i node less = any_from (λ (h : Placed Halt). (h.it.node == a.uid.node) && nat_lt a.id h.it.begun) (halts lines) h i
          (both (h.it.node == a.uid.node) (nat_lt a.id h.it.begun) (eq-eqb h.it.node a.uid.node node) (less_is a.id h.it.begun less))

  pub ends_so : EndsSo all a n
  ends_so = record {
    place = λ e i is. place_now e (in_from e (called all) i) is;
    commit = λ e i is. commit_now e (in_from e (committed all) i) is;
    found = λ e i is. found_now e (in_from e (recovered all) i) is;
    only = only_now;
    decided = decided_now;
    gone = gone_now;
    over = over_now;
    halted = halted_now;
  }
