-- The heart of the order: what a call that is about to get its line meets.
use Rattle.arj_law_lock.proofs.Terms
use Terms.{◌≡◌, ◌≢◌, ◌≤◌, ◌<◌, ◌⊎◌, ℕ, Bool, true, false, inl, inr, sym, ◌∙◌, ap, subst, arith, Act, on, root, top, is_top, is_action, In}
use Terms.{mode, Call, Answer, Invoked, State, Alive, Merged, Passed}
use Rattle.arj_law_lock.proofs.machine
use machine.{CallSteps.top_acts, Lasts.kept_holds, ServerSteps.no_base}
use machine.Claims.{server_of, IsUp, IsPast, GoesOn, Covers, gone, over, dropped, stands, Good, Pending, Conflict, Order, Mean, NamedHolds}
use machine.Claims.{TopHolds, WaitHolds, Done, Before, Follows, Counts, Holds}
use machine.Paths.{by_cases, differ, top_root, top_is, on_top, on_root, on_self, on_trans}

-- The heart: what a call that is about to get its line meets.

-- a copy that is up isn't past
pub up_not_past : (s : State) (b : ℕ) → IsUp s b → IsPast s b → ⊥
up_not_past s b up (inl l) = let e = up.0 in omega (arith, l, e)
up_not_past s b up (inr p) = let e = up.1 in let l = p.1 in omega (arith, l, e)

-- An open top that counts has its copy and its bindings.
pub open_good : {s : State} → Holds s → (m : Act) → is_top m ≡ true → (s.action m).stage ≡ 0 → 1 ≤ s.kept (root m) → Good s m →
    GoesOn s (root m) × IsUp s (s.kept (root m)) × (s.naming.first ≤ s.kept (root m))
open_good {s} h m is zero one good = (going good.going, up good.up, present good.present)
  where
    going : GoesOn s (root m) ⊎ (1 ≤ (s.action m).stage) → GoesOn s (root m)
    going (inl g) = g
    going (inr l) = absurd (let z = zero in omega (arith, z, l))

    up : IsUp s (s.kept (root m)) ⊎ (s.yes m ≡ s.kept (root m)) → IsUp s (s.kept (root m))
    up (inl u) = u
    up (inr e) = absurd (let l = (h.tops m is).voting (let o = one in omega (arith, o, e)) in let z = zero in omega (arith, z, l))

    present : (s.naming.first ≤ s.kept (root m)) ⊎ (s.confirmed m ≡ true) → s.naming.first ≤ s.kept (root m)
    present (inl l) = l
    present (inr e) = absurd (let l = (h.tops m is).asked e in let z = zero in omega (arith, z, l))

pub stage_is : (n : ℕ) → (n ≡ 0) ⊎ (1 ≤ n)
stage_is n = grind arith

module _ {s : State} (h : Holds s) (r : Answer) (i : In (Invoked r) s.net) (pending : Pending s r.request.act r.request.number)
    (good : Good s (top r.request.act)) where
  b : ℕ
  b = s.kept (root r.request.act)

  pub mean : Mean s (Invoked r)
  mean = h.mail (Invoked r) i

  pub act : is_action r.request.act ≡ true
  act = mean.0.0

  pub wait : WaitHolds s r.request.act
  wait = h.waits r.request.act pending.waits pending.alive pending.going

  pub binding : r.request.binding ≡ s.kept (root r.request.act)
  binding = mean.0.3 pending

  named : (s.binding (s.kept (root r.request.act))).named ≡ true
  named = subst (λ (j : ℕ). (s.binding j).named ≡ true) binding mean.0.2

  bound : NamedHolds s (s.kept (root r.request.act))
  bound = h.bindings (s.kept (root r.request.act)) named

  same_kept : s.kept (root (top r.request.act)) ≡ s.kept (root r.request.act)
  same_kept = ap s.kept (top_root r.request.act)

  opened : GoesOn s (root (top r.request.act)) × IsUp s (s.kept (root (top r.request.act)))
      × (s.naming.first ≤ s.kept (root (top r.request.act)))
  opened = open_good h (top r.request.act) (top_is r.request.act act) (wait.path (top r.request.act) (on_top r.request.act)
      (top_acts r.request.act act)) (let p = bound.positive in let e = same_kept in omega (arith, p, e)) good

  pub up : IsUp s (s.kept (root r.request.act))
  up = subst (λ (j : ℕ). IsUp s j) same_kept opened.1

  pub present : s.naming.first ≤ s.kept (root r.request.act)
  present = let l = opened.2 in let e = same_kept in omega (arith, l, e)

  pub recorded : s.naming.recorded ≡ s.kept (root r.request.act)
  recorded = (wait.sure.here opened.2 opened.0).0 ∙ same_kept

  pub covers : Covers s r.request.act (s.kept (root r.request.act)) (mode r.request.write)
  covers = subst (λ (j : ℕ). Covers s r.request.act j (mode r.request.write)) binding (mean.2 pending).0

  -- a row covers what is under the kept binding, as long as the copy is up
  pub row_of : (x : Act) (k : ℕ) → Alive s x → GoesOn s (root x) → Covers s x (s.kept (root r.request.act)) k →
      (y : Act) × (on x y ≡ true) × (k ≤ (server_of s (s.kept (root r.request.act))).rows y) × Merged s x y
  row_of x k alive goes (gone p) = absurd (up_not_past s (s.kept (root r.request.act)) up p)
  row_of x k alive goes (over l) = absurd (let g = goes in omega (arith, g, l))
  row_of x k alive goes (dropped u o l) = absurd (let g = alive u o in omega (arith, g, l))
  row_of x k alive goes (stands y u o row merged) = (y, o, row, merged)

  -- two conflicting rows at the copy are of kin
  pub rows_kin : (v w : Bool) (x y : Act) → Conflict v w → mode v ≤ (server_of s (s.kept (root r.request.act))).rows x →
      mode w ≤ (server_of s (s.kept (root r.request.act))).rows y → (on x y ≡ true) ⊎ (on y x ≡ true)
  rows_kin v w x y (inl e) rx ry = h.servers (s.binding (s.kept (root r.request.act))).server x y (let q : mode v ≡ 2 = ap mode e in
      omega (arith, rx, q)) (let q = one_mode w in omega (arith, ry, q))
    where
      one_mode : (z : Bool) → 1 ≤ mode z
      one_mode true = omega arith
      one_mode false = omega arith
  rows_kin v w x y (inr e) rx ry = elim (h.servers (s.binding (s.kept (root r.request.act))).server y x (let q : mode w ≡ 2 = ap mode e in
      omega (arith, ry, q)) (let q = one_mode v in omega (arith, rx, q))) [ inl o ↦ inr o | inr o ↦ inl o ]
    where
      one_mode : (z : Bool) → 1 ≤ mode z
      one_mode true = omega arith
      one_mode false = omega arith

  -- both bindings are the recorded one
  pub one_copy : (c : Call) → In c s.calls → Alive s c.act → s.naming.first ≤ s.kept (root c.act) → GoesOn s (root c.act) →
      s.kept (root c.act) ≡ s.kept (root r.request.act)
  one_copy c j alive l goes =
      let e : s.kept (root (top c.act)) ≡ s.kept (root c.act) = ap s.kept (top_root c.act) in
      sym e ∙ sym (((h.calls c j).sure alive).here (omega (arith, l, e)) (subst (λ (u : ℕ). GoesOn s u) (sym (top_root c.act)) goes)).0
      ∙ recorded

  -- conflicting calls of two units don't stand at one copy
  pub collide : (c : Call) → In c s.calls → Alive s c.act → Conflict c.write r.request.write → root c.act ≢ root r.request.act →
      s.naming.first ≤ s.kept (root c.act) → GoesOn s (root c.act) → ⊥
  collide c j alive conflict apart l goes =
      let e = one_copy c j alive l goes in
      let x = row_of c.act (mode c.write) alive goes (subst (λ (k : ℕ). Covers s c.act k (mode c.write)) e ((h.calls c j).covers alive)) in
      let y = row_of r.request.act (mode r.request.write) pending.alive pending.going covers in
      apart (on_root c.act x.0 x.1 ∙ elim (rows_kin c.write r.request.write x.0 y.0 conflict x.2 y.2)
      [ inl o ↦ on_root x.0 y.0 o | inr o ↦ sym (on_root y.0 x.0 o) ] ∙ sym (on_root r.request.act y.0 y.1))

  pub follows : (c : Call) (m : Act) → In c s.calls → Counts s c m → root c.act ≢ root r.request.act → (p : ℕ) → s.now ≤ p →
      Follows s c r.request.act r.request.write p m
  follows c m j k apart p now = record {
    node = node (stage_is (s.action m).stage);
    order = λ conflict.
        (before conflict (stage_is (s.action m).stage), λ write. done write conflict (stages (s.action (top c.act)).stage k.good.alive));
  }
    where
      kept_positive : 1 ≤ s.kept (root m)
      kept_positive = let q = (kept_holds h c j k.alive).positive in let e : s.kept (root m) ≡ s.kept (root c.act) = ap s.kept k.unit in
          omega (arith, q, e)

      here : (s.action m).stage ≡ 0 → (s.naming.first ≤ s.kept (root c.act)) × GoesOn s (root c.act)
      here zero = let g = open_good h m k.top zero kept_positive k.counts in
          (subst (λ (u : ℕ). s.naming.first ≤ s.kept u) k.unit g.2, subst (λ (u : ℕ). GoesOn s u) k.unit g.0)

      called : 1 ≤ (s.action m).stage → Before s m p
      called one = (one, (let l = (h.tops m k.top).before in omega (arith, l, now)))

      node : ((s.action m).stage ≡ 0) ⊎ (1 ≤ (s.action m).stage) → Before s m p ⊎ (s.kept (root c.act) ≡ s.kept (root r.request.act))
      node (inl zero) = let g = here zero in inr (one_copy c j k.alive g.0 g.1)
      node (inr one) = inl (called one)

      before : Conflict c.write r.request.write → ((s.action m).stage ≡ 0) ⊎ (1 ≤ (s.action m).stage) → Before s m p
      before conflict (inl zero) = let g = here zero in absurd (collide c j k.alive conflict apart g.0 g.1)
      before conflict (inr one) = called one

      stages : (n : ℕ) → n ≤ 3 → (n ≡ 0) ⊎ (((1 ≤ n) × (n ≤ 2)) ⊎ (n ≡ 3))
      stages n l = grind arith

      tops : TopHolds s (top c.act)
      tops = h.tops (top c.act) (top_is c.act (h.calls c j).acts)

      top_kept : s.kept (root (top c.act)) ≡ s.kept (root c.act)
      top_kept = ap s.kept (top_root c.act)

      now_present : (c.write ≡ true) → (s.action (top c.act)).stage ≤ 2 →
          (s.naming.first ≤ s.kept (root (top c.act))) ⊎ (s.confirmed (top c.act) ≡ true) → s.naming.first ≤ s.kept (root c.act)
      now_present write two (inl l) = let e = top_kept in omega (arith, l, e)
      now_present write two (inr conf) =
          h.naming.doubt (let l = present in let e = recorded in omega (arith, l, e)) c j write k.alive conf two

      done : c.write ≡ true → Conflict c.write r.request.write → ((s.action (top c.act)).stage ≡ 0) ⊎ (((1 ≤ (s.action (top c.act)).stage)
          × ((s.action (top c.act)).stage ≤ 2)) ⊎ ((s.action (top c.act)).stage ≡ 3)) → Done s (top c.act) p
      done write conflict (inl zero) =
          let g = open_good h (top c.act) (top_is c.act (h.calls c j).acts) zero (let q = (kept_holds h c j k.alive).positive in
          let e = top_kept in omega (arith, q, e)) k.good in
          absurd (collide c j k.alive conflict apart (let l = g.2 in let e = top_kept in
          omega (arith, l, e)) (subst (λ (u : ℕ). GoesOn s u) (top_root c.act) g.0))
      done write conflict (inr (inl (one, two))) = absurd (collide c j k.alive conflict apart (now_present write two k.good.present)
          (subst (λ (u : ℕ). GoesOn s u) (top_root c.act) (tops.goes one two)))
      done write conflict (inr (inr three)) =
          (three, (let l = h.ended (top c.act) (top_acts c.act (h.calls c j).acts) three in omega (arith, l, now)))

  -- a conflicting call of the same unit has passed to the path of this one
  pub passes : (c : Call) → In c s.calls → Alive s c.act → root c.act ≡ root r.request.act → Conflict c.write r.request.write → (p : ℕ) →
      s.now ≤ p → Passed s c.act r.request.act p
  passes c j alive kin conflict p now = by (order_cases c.line r.place)
    where
      order_cases : (x y : ℕ) → (x < y) ⊎ (y ≤ x)
      order_cases x y = grind arith

      current : Covers s r.request.act r.request.binding (mode r.request.write) × ((s.action r.request.act).since ≤ r.place)
          × Order s r.request.act r.request.write r.place
      current = mean.2 pending

      goes : GoesOn s (root c.act)
      goes = subst (λ (u : ℕ). GoesOn s u) (sym kin) pending.going

      y : (z : Act) × (on c.act z ≡ true) × (mode c.write ≤ (server_of s (s.kept (root r.request.act))).rows z) × Merged s c.act z
      y = row_of c.act (mode c.write) alive goes
          (subst (λ (u : ℕ). Covers s c.act (s.kept u) (mode c.write)) kin ((h.calls c j).covers alive))

      x : (z : Act) × (on r.request.act z ≡ true) × (mode r.request.write ≤ (server_of s (s.kept (root r.request.act))).rows z)
          × Merged s r.request.act z
      x = row_of r.request.act (mode r.request.write) pending.alive pending.going covers

      at_caller : on x.0 r.request.act ≡ true
      at_caller = elim (by_cases (on x.0 r.request.act)) [
        | inl t ↦ t
        | inr f ↦ absurd (let three = x.3 r.request.act (on_self r.request.act) f in
            let zero = wait.path r.request.act (on_self r.request.act) act in omega (arith, three, zero))
      ]

      by : (c.line < r.place) ⊎ (r.place ≤ c.line) → Passed s c.act r.request.act p
      by (inl early) = λ u o f. let q = current.2 c j kin early conflict alive u o f in
          (q.0, (let l = q.1 in let k = mean.1 in omega (arith, l, k, now)))
      by (inr late) = λ u o f. passed u o f (rows_kin c.write r.request.write y.0 x.0 conflict y.2 x.2)
        where
          below : on c.act r.request.act ≡ false
          below = wait.alone c j (let l = current.1 in omega (arith, l, late))

          passed : (u : Act) → on c.act u ≡ true → on r.request.act u ≡ false → (on y.0 x.0 ≡ true) ⊎ (on x.0 y.0 ≡ true) →
              ((s.action u).stage ≡ 3) × ((s.action u).done < p)
          passed u o f (inl q) = differ (on_trans c.act y.0 r.request.act y.1 (on_trans y.0 x.0 r.request.act q at_caller)) below
          passed u o f (inr q) =
              let three = y.3 u o (elim (by_cases (on y.0 u))
              [ inl t ↦ differ (on_trans r.request.act x.0 u x.1 (on_trans x.0 y.0 u q t)) f | inr g ↦ g ]) in
              (three, (let l = h.ended u (no_base c.act r.request.act u kin o f) three in omega (arith, l, now)))
